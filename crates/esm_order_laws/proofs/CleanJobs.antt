-- Jobs in two worlds whose modules are the same, where no tree holds an import().
use Rattle.std.proofs.Common.{◌≡◌, ℕ, List, map, Option, Some, None, refl, ap, subst, sym, ◌∙◌, map-id}
use Rattle.std.specs.Prelude.{Result, Ok, Err, slice_get}
use Rattle.std.specs.Option.{option_map, option_or}
use Rattle.esm_base.specs.declared.limits.Limit.{Limit}
use Rattle.esm_base.specs.Urls.{Text, Url, same_url}
use Rattle.esm_values.specs.Value.{Value}
use Rattle.esm_values.specs.Value.{Value as value}
use Rattle.esm_promise.specs.Promises.{Settled}
use Rattle.esm_promise.specs.Reactions.{Reaction, EntryLoaded, EntryDone, Loaded, Evaluated}
use Rattle.esm_tree.specs.Syntax.{Item}
use Rattle.esm_values.specs.Display.{function_text}
use Rattle.esm_env.specs.Declarations.{function_at}
use Rattle.esm_env.specs.Modules.{name_by}
use Rattle.esm_env.proofs.Named as env
use Rattle.esm_loads.specs.Loading.{Loading, root_in, root_of_load, import_promise_in, import_promise}
use Rattle.esm_link.specs.Faults.{FaultAt}
use Rattle.esm_link.specs.Link.{IsLinking}
use Rattle.esm_link.specs.Naming.{named_fault}
use Rattle.esm_link.proofs.Named.{linking_follows_names}
use Rattle.esm_eval.specs.Begins.{HaveBegunOnce}
use Rattle.esm_rewriting.specs.Acts.{Displays}
use Rattle.esm_world.specs.World.{World, modules_in, body_state, stopped}
use Rattle.esm_world.specs.Layers.{evaluation, LinksTo, with_linked, with_promises}
use Rattle.esm_world.specs.Jobs.{LinksLoad, EvaluatesLoad, Reacts, Jobs, when_evaluated}
use Rattle.esm_world.specs.Jobs.Reacts.{entry_linked, entry_fault, entry_refused, entry_ended, entry_threw, linked, fault, refused, evaluated, threw, body_ended, body_threw, resumes}
use Rattle.esm_world.specs.LastLine.{Ending, Stopped, Uncaught, Done, Pending, IsLastLine}
use Rattle.esm_world.proofs.StartsOnce.{Once, calm_same, reacts_once}
use Rattle.esm_order_laws.proofs.Itself.{itself}
use Rattle.esm_order_laws.proofs.Same.{option_same}
use Rattle.esm_order_laws.proofs.CleanCalls.{SameModules, NoImports, Fine, world_seen, names_are, resumes_moves, evaluation_moves}

module _ (l k : Loading) (both : SameModules l k) (none : NoImports l) where
  abbrev Fit : World → Type 0
  Fit w = Fine l k both none w

  abbrev seen : World → World
  seen w = world_seen l k both none w

  loads_is : (w : World) → Fit w → k.loads ≡ w.loading.loads
  loads_is w g = both.loads ∙ sym (ap (λ (i : Loading). i.loads) g.1)

  promise_is : (w : World) → Fit w → (s : ℕ) → import_promise k s ≡ import_promise w.loading s
  promise_is w g s = ap (λ ps. import_promise_in (slice_get ps s)) (both.purposes ∙ sym (ap (λ (i : Loading). i.purposes) g.1))

  root_is : (w : World) → Fit w → (s : ℕ) → root_of_load k s ≡ root_of_load w.loading s
  root_is w g s = ap (λ ss. root_in (slice_get ss s)) (loads_is w g)

  pub stopped_is : (w : World) → Fit w → stopped (seen w) ≡ stopped w
  stopped_is w g = ap (λ o. option_or o w.engine.stopped) (both.stopped ∙ sym (ap (λ (i : Loading). i.stopped) g.1))

  -- ---- linking

  links_moves : (w : World) → Fit w → (root : Url) (f : Option (FaultAt Url)) (after : List Url) → LinksTo w root f after → LinksTo (seen w) root f after
  links_moves w g root f after p =
      let h = linking_follows_names itself same_url same_url (modules_in w.loading) (modules_in (seen w).loading) (λ x y. refl)
      (names_are l k both none w.loading g.1) in
      subst (λ us. IsLinking same_url (modules_in (seen w).loading) us root f after) (map-id w.linked)
      (subst (λ k. IsLinking same_url (modules_in (seen w).loading) (map (λ (u : Url). u) w.linked) root k after) (option_same (named_fault itself) (λ k. refl) f)
      (subst (λ us. IsLinking same_url (modules_in (seen w).loading) (map (λ (u : Url). u) w.linked) root (option_map (named_fault itself) f) us) (map-id after)
      (h.links w.linked root f after p)))

  load_moves : {w : World} {s : ℕ} {root : Url} {f : Option (FaultAt Url)} {ls : List Url} → Fit w → LinksLoad w s root f ls → LinksLoad (seen w) s root f ls
  load_moves {w} {s} {root = root} {f = f} {ls = ls} g p = record { is_root = ap (λ ss. root_in (slice_get ss s)) (loads_is w g) ∙ p.is_root; links = links_moves w g root f ls p.links }

  evaluates_moves : {w after : World} {s : ℕ} {answer : Result ℕ Limit} → Fit w → HaveBegunOnce evaluation w → EvaluatesLoad w s answer after
      → EvaluatesLoad (seen w) s answer (seen after) × Fit after
  evaluates_moves {w} {after} {answer = answer} g once p =
      let v : World = with_linked w p.linked in
      let r = (evaluation_moves l k both none).evaluates v after p.root answer g (calm_same w v once refl refl refl) tt (λ x t h k. tt) p.evaluates in
      (record { root = p.root; linked = p.linked; links = load_moves g p.links; evaluates = r.0 }, r.1)

  -- ---- a job

  answer_is : (w : World) (r : Reaction Url) (answer : Result ℕ Limit) → when_evaluated (seen w) r answer ≡ seen (when_evaluated w r answer)
  answer_is w r (Ok p) = refl
  answer_is w r (Err why) = refl

  answer_fine : (w : World) (r : Reaction Url) (answer : Result ℕ Limit) → Fit w → Fit (when_evaluated w r answer)
  answer_fine w r (Ok p) g = g
  answer_fine w r (Err why) g = g

  reacts_moves : {w after : World} {r : Reaction Url} {how : Settled (Value Url)} → Fit w → HaveBegunOnce evaluation w → Reacts w r how after → Reacts (seen w) r how (seen after) × Fit after
  reacts_moves {w} {how = how} g once (entry_linked {after = v} {answer = a} p) =
      let r = evaluates_moves g once p in
      (subst (λ k. Reacts (seen w) EntryLoaded how k) (answer_is v EntryDone a) (entry_linked r.0), answer_fine v EntryDone a r.1)
  reacts_moves {w} g once (entry_fault root f ls p) = (entry_fault root f ls (load_moves g p), g)
  reacts_moves g once entry_refused = (entry_refused, g)
  reacts_moves g once entry_ended = (entry_ended, g)
  reacts_moves g once entry_threw = (entry_threw, g)
  reacts_moves {w} {how = how} g once (linked {after = v} {s = s} {answer = a} p) =
      let r = evaluates_moves g once p in
      (subst (λ k. Reacts (seen w) (Loaded s) how k) (answer_is v (Evaluated s) a) (linked r.0), answer_fine v (Evaluated s) a r.1)
  reacts_moves {w} g once (fault {s = s} promise root f ls i p) = (fault promise root f ls (promise_is w g s ∙ i) (load_moves g p), g)
  reacts_moves {w} g once (refused {s = s} promise i) = (refused promise (promise_is w g s ∙ i), g)
  reacts_moves {w} g once (evaluated {s = s} promise root i o) = (evaluated promise root (promise_is w g s ∙ i) (root_is w g s ∙ o), g)
  reacts_moves {w} g once (threw {s = s} promise i) = (threw promise (promise_is w g s ∙ i), g)
  reacts_moves {w} {after} g once (body_ended {m = m} {end = end} p) =
      let r = (evaluation_moves l k both none).fulfills w after m end g once (λ x h. tt) p in
      (body_ended r.0, r.1)
  reacts_moves {w} {after} g once (body_threw {m = m} {v = v} p) =
      let r = (evaluation_moves l k both none).rejects w after m v g p in
      (body_threw r.0, r.1)
  reacts_moves g once (resumes p) = let r = resumes_moves l k both none g p in (resumes r.0, r.1)

  -- jobs from the one world are jobs from the other
  pub jobs_moves : {w after : World} → Fit w → Once w → Jobs w after → Jobs (seen w) (seen after) × Fit after
  jobs_moves g once (Jobs.none n) = (Jobs.none n, g)
  jobs_moves {w} g once (Jobs.stops limit s) = (Jobs.stops limit (stopped_is w g ∙ s), g)
  jobs_moves {w} g once (Jobs.job j left how live next is p q) =
      let calm = calm_same w (with_promises w left) (once.calm live) refl refl refl in
      let r = reacts_moves g calm p in
      let rest = jobs_moves r.1 (reacts_once calm once.distinct p) q in
      (Jobs.job j left how (stopped_is w g ∙ live) next is r.0 rest.0, rest.1)

  -- ---- the last line

  function_moves : (w : World) → Fit w → (m : Url) (i : ℕ) (text : Text) → Displays modules_in (body_state w) (value.Func m i) text → Displays modules_in (body_state (seen w)) (value.Func m i) text
  function_moves w g m i text p = ap (λ (items : List Item). Some (function_text (name_by (function_at items i)))) ((names_are l k both none w.loading g.1).tree m) ∙ p

  displays_moves : (w : World) → Fit w → (v : Value Url) (text : Text) → Displays modules_in (body_state w) v text → Displays modules_in (body_state (seen w)) v text
  displays_moves w g value.Undefined text p = p
  displays_moves w g (value.Truth b) text p = p
  displays_moves w g (value.Text t) text p = p
  displays_moves w g (value.Func m i) text p = function_moves w g m i text p
  displays_moves w g (value.Error e) text p = p
  displays_moves w g (value.Namespace m) text p =
      (p.0, ((env.follows_names itself same_url same_url).reads (modules_in w.loading) (modules_in k) (names_are l k both none w.loading g.1)).keys m p.0 p.1, p.2, p.3)
  displays_moves w g (value.Promise q) text p = p

  pub line_moves : (w : World) → Fit w → (e : Option Ending) (line : Text) → IsLastLine w e line → IsLastLine (seen w) e line
  line_moves w g None line p = p
  line_moves w g (Some (Stopped limit)) line p = p
  line_moves w g (Some (Uncaught v)) line p = (p.0, displays_moves w g v p.0 p.1, p.2)
  line_moves w g (Some Done) line p = p
  line_moves w g (Some Pending) line p = p
