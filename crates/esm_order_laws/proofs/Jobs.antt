-- Jobs, where the asked URLs stand in another order.
use Rattle.std.proofs.Common.{◌≡◌, ℕ, List, length, map, Option, Some, refl, ap, subst, sym, ◌∙◌, map-id}
use Rattle.std.specs.Prelude.{Result, Ok, Err}
use Rattle.std.specs.Option.{option_map}
use Rattle.esm_base.specs.declared.limits.Limit.{Limit}
use Rattle.esm_base.specs.Urls.{Url, same_url}
use Rattle.esm_values.specs.Value.{Value}
use Rattle.esm_promise.specs.Promises.{Promises, Settled, Job}
use Rattle.esm_promise.specs.Reactions.{Reaction, EntryLoaded, EntryDone, Loaded, Evaluated}
use Rattle.esm_link.specs.Faults.{FaultAt}
use Rattle.esm_link.specs.Link.{IsLinking}
use Rattle.esm_link.specs.Naming.{named_fault}
use Rattle.esm_link.proofs.Named.{linking_follows_names}
use Rattle.esm_eval.specs.Begins.{HaveBegunOnce}
use Rattle.esm_world.specs.World.{World, modules_in}
use Rattle.esm_world.specs.Layers.{evaluation, LinksTo, with_linked, with_promises}
use Rattle.esm_world.specs.Jobs.{LinksLoad, EvaluatesLoad, Reacts, Jobs, when_evaluated}
use Rattle.esm_world.specs.Jobs.Reacts.{entry_linked, entry_fault, entry_refused, entry_ended, entry_threw, linked, fault, refused, evaluated, threw, body_ended, body_threw, resumes}
use Rattle.esm_world.proofs.StartsOnce.{Once, calm_same, reacts_once}
use Rattle.esm_world.proofs.OneRun.{reacts_one}
use Rattle.esm_order_laws.proofs.Itself.{itself}
use Rattle.esm_order_laws.proofs.Lists.{Alike}
use Rattle.esm_order_laws.proofs.Moved.{asked_so, asked_alike, asked_long}
use Rattle.esm_order_laws.proofs.Numbers.{are_named}
use Rattle.esm_order_laws.proofs.Same.{option_same}
use Rattle.esm_order_laws.proofs.Calls.{Fine_world, world_seen, resumes_moves, evaluation_moves}

module _ (xs ys : List Url) (alike : Alike xs ys) (long : length ys ≡ length xs) where
  abbrev Fine : World → Type 0
  Fine w = Fine_world xs ys alike long w

  abbrev seen : World → World
  seen w = world_seen xs ys alike long w

  abbrev Ends : World → World → Type 0
  Ends w after = Jobs (seen w) (seen after) × Fine after

  -- ---- linking

  links_moves : (w : World) → Fine w → (root : Url) (f : Option (FaultAt Url)) (after : List Url) → LinksTo w root f after → LinksTo (seen w) root f after
  links_moves w g root f after p =
      let h = linking_follows_names itself same_url same_url (modules_in w.loading) (modules_in (seen w).loading) (λ x y. refl)
      (are_named w.loading (asked_so xs ys alike long w.loading.asked) (asked_alike xs ys alike long w.loading g) (asked_long xs ys alike long w.loading g)) in
      subst (λ us. IsLinking same_url (modules_in (seen w).loading) us root f after) (map-id w.linked)
      (subst (λ k. IsLinking same_url (modules_in (seen w).loading) (map (λ (u : Url). u) w.linked) root k after) (option_same (named_fault itself) (λ k. refl) f)
      (subst (λ us. IsLinking same_url (modules_in (seen w).loading) (map (λ (u : Url). u) w.linked) root (option_map (named_fault itself) f) us) (map-id after)
      (h.links w.linked root f after p)))

  load_moves : {w : World} {s : ℕ} {root : Url} {f : Option (FaultAt Url)} {ls : List Url} → Fine w → LinksLoad w s root f ls → LinksLoad (seen w) s root f ls
  load_moves {w} {root = root} {f = f} {ls = ls} g p = record { is_root = p.is_root; links = links_moves w g root f ls p.links }

  evaluates_moves : {w after : World} {s : ℕ} {answer : Result ℕ Limit} → Fine w → HaveBegunOnce evaluation w → EvaluatesLoad w s answer after
      → EvaluatesLoad (seen w) s answer (seen after) × Fine after
  evaluates_moves {w} {after} {answer = answer} g once p =
      let v : World = with_linked w p.linked in
      let r = (evaluation_moves xs ys alike long).evaluates v after p.root answer g (calm_same w v once refl refl refl) tt (λ x t h k. tt) p.evaluates in
      (record { root = p.root; linked = p.linked; links = load_moves g p.links; evaluates = r.0 }, r.1)

  -- ---- a job

  answer_is : (w : World) (r : Reaction Url) (answer : Result ℕ Limit) → when_evaluated (seen w) r answer ≡ seen (when_evaluated w r answer)
  answer_is w r (Ok p) = refl
  answer_is w r (Err why) = refl

  answer_fine : (w : World) (r : Reaction Url) (answer : Result ℕ Limit) → Fine w → Fine (when_evaluated w r answer)
  answer_fine w r (Ok p) g = g
  answer_fine w r (Err why) g = g

  reacts_moves : {w after : World} {r : Reaction Url} {how : Settled (Value Url)} → Fine w → HaveBegunOnce evaluation w → Reacts w r how after → Reacts (seen w) r how (seen after) × Fine after
  reacts_moves {w} {how = how} g once (entry_linked {after = v} {answer = a} p) =
      let r = evaluates_moves g once p in
      (subst (λ k. Reacts (seen w) EntryLoaded how k) (answer_is v EntryDone a) (entry_linked r.0), answer_fine v EntryDone a r.1)
  reacts_moves {w} g once (entry_fault root f ls p) = (entry_fault root f ls (load_moves g p), g)
  reacts_moves g once entry_refused = (entry_refused, g)
  reacts_moves g once entry_ended = (entry_ended, g)
  reacts_moves g once entry_threw = (entry_threw, g)
  reacts_moves {w} {how = how} g once (linked {after = v} {s = s} {answer = a} p) =
      let r = evaluates_moves g once p in
      (subst (λ k. Reacts (seen w) (Loaded s) how k) (answer_is v (Evaluated s) a) (linked r.0), answer_fine v (Evaluated s) a r.1)
  reacts_moves {w} g once (fault promise root f ls i p) = (fault promise root f ls i (load_moves g p), g)
  reacts_moves g once (refused promise i) = (refused promise i, g)
  reacts_moves g once (evaluated promise root i o) = (evaluated promise root i o, g)
  reacts_moves g once (threw promise i) = (threw promise i, g)
  reacts_moves {w} {after} g once (body_ended {m = m} {end = end} p) =
      let r = (evaluation_moves xs ys alike long).fulfills w after m end g once (λ x h. tt) p in
      (body_ended r.0, r.1)
  reacts_moves {w} {after} g once (body_threw {m = m} {v = v} p) =
      let r = (evaluation_moves xs ys alike long).rejects w after m v g p in
      (body_threw r.0, r.1)
  reacts_moves g once (resumes p) = let r = resumes_moves xs ys alike long g p in (resumes r.0, r.1)

  -- jobs from the one world are jobs from the other
  pub jobs_moves : {w after : World} → Fine w → Once w → Jobs w after → Jobs (seen w) (seen after) × Fine after
  jobs_moves g once (Jobs.none n) = (Jobs.none n, g)
  jobs_moves g once (Jobs.stops limit s) = (Jobs.stops limit s, g)
  jobs_moves {w} g once (Jobs.job j left how live next is p q) =
      let calm = calm_same w (with_promises w left) (once.calm live) refl refl refl in
      let r = reacts_moves g calm p in
      let rest = jobs_moves r.1 (reacts_once calm once.distinct p) q in
      (Jobs.job j left how live next is r.0 rest.0, rest.1)

-- ---- jobs have one outcome

some_of : {A : Type 0} {a b : A} → ◌≡◌ {A = Option A} (Some a) (Some b) → a ≡ b
some_of e = cc

pair_is : {A B : Type 0} {a b : A} {c d : B} → ◌≡◌ {A = Option (A × B)} (Some (a, c)) (Some (b, d)) → (a ≡ b) × (c ≡ d)
pair_is e = let same = some_of e in (ap (λ p. p.0) same, ap (λ p. p.1) same)

reacted_from : (w : World) {mid : World} {j k : Job (Reaction Url)} {left rest : Promises (Reaction Url) (Value Url)} {how by : Settled (Value Url)} → j ≡ k → left ≡ rest → how ≡ by
    → Reacts (with_promises w rest) k.reaction by mid → Reacts (with_promises w left) j.reaction how mid
reacted_from w {mid} {j} {k} {left} {rest} {how} {by} e f g q =
    subst (λ j. Reacts (with_promises w left) j.reaction how mid) (sym e)
    (subst (λ ps. Reacts (with_promises w ps) k.reaction how mid) (sym f) (subst (λ h. Reacts (with_promises w rest) k.reaction h mid) (sym g) q))

pub jobs_one : {w a b : World} → Jobs w a → Jobs w b → a ≡ b
jobs_one (Jobs.none n) (Jobs.none m) = refl
jobs_one (Jobs.none n) (Jobs.stops l s) = refl
jobs_one (Jobs.none n) (Jobs.job j left how live i h f q) = cc
jobs_one (Jobs.stops l s) (Jobs.none m) = refl
jobs_one (Jobs.stops l s) (Jobs.stops k t) = refl
jobs_one (Jobs.stops l s) (Jobs.job j left how live i h f q) = cc
jobs_one (Jobs.job j left how live i h f p) (Jobs.none m) = cc
jobs_one (Jobs.job j left how live i h f p) (Jobs.stops l s) = cc
jobs_one {w} {b = b} (Jobs.job j left how live i h f p) (Jobs.job k rest by still m h' g q) =
    let next = sym i ∙ m in
    let both = pair_is next in
    let s : how ≡ by = cc in
    jobs_one p (subst (λ v. Jobs v b) (reacts_one f (reacted_from w both.0 both.1 s g)) q)
