-- Bodies and evaluation in two worlds whose modules are the same, where no tree holds an import(): the one does what the other does.
use Rattle.std.proofs.Common.{◌≡◌, ℕ, false, length, refl, ap, subst, sym, ◌∙◌, map-id}
use Rattle.std.specs.Prelude.{Result, ⊤}
use Rattle.esm_base.specs.declared.limits.Limit.{Limit}
use Rattle.esm_base.specs.Urls.{Url, same_url}
use Rattle.esm_ast.specs.Entries.{entries_of}
use Rattle.esm_values.specs.Value.{Value}
use Rattle.esm_values.specs.Ran.{Ran}
use Rattle.esm_promise.specs.Promises.{Settled}
use Rattle.esm_promise.specs.Renaming.{renamed_settled}
use Rattle.esm_env.specs.Naming.{AreNamed}
use Rattle.esm_loads.specs.UrlTable.{Entries, body_in}
use Rattle.esm_loads.specs.Loading.{Loading, body}
use Rattle.esm_loads.specs.ImportCall.{BeginsImport}
use Rattle.esm_link.specs.Link.{targets}
use Rattle.esm_eval.specs.Nodes.{Call, CallAnswer, Start, Run}
use Rattle.esm_eval.specs.Naming.{named_call, Matches, WritesStay, EvaluationFollows}
use Rattle.esm_eval.proofs.Named.{evaluation_follows_names}
use Rattle.esm_rewriting.specs.State.{State}
use Rattle.esm_rewriting.specs.Bodies.{StartsBody, RunsBody, ResumesBody}
use Rattle.esm_rewriting.specs.Naming.{ImportsFollow, BodiesFollow, mapped_end, renamed_state}
use Rattle.esm_rewriting.proofs.NamedBodies.{follows_names}
use Rattle.esm_world.specs.ImportCalls.{holds_import}
use Rattle.esm_world.specs.World.{World, modules_in, body_state, with_state}
use Rattle.esm_world.specs.Layers.{CallsForBody, evaluation}
use Rattle.esm_world.proofs.StartsOnce.{lawful, steady}
use Rattle.esm_order_laws.proofs.Itself.{itself}
use Rattle.esm_order_laws.proofs.Lists.{Alike}
use Rattle.esm_order_laws.proofs.Numbers.{are_named}
use Rattle.esm_order_laws.proofs.Same.{re, settled_same, state_same}
use Rattle.esm_order_laws.proofs.Calls.{urls_tell_apart, begins_its_own, node_same, named_result, start_same, run_same}
use Rattle.esm_order_laws.proofs.QuietMoves.{Nowhere}
use Rattle.esm_order_laws.proofs.QuietBodies.{Calm, starts_quiet, runs_quiet, resumes_quiet}

-- the same modules and loads, asked in any order
pub record SameModules (l k : Loading) : Type 0 where
  pub entries : k.entries ≡ l.entries
  pub alike : Alike l.asked k.asked
  pub long : length k.asked ≡ length l.asked
  pub loads : k.loads ≡ l.loads
  pub purposes : k.purposes ≡ l.purposes
  pub stopped : k.stopped ≡ l.stopped

-- no tree holds an import()
abbrev pub NoImports : Loading → Type 0
NoImports l = (u : Url) → holds_import (body l u) ≡ false

module _ (l k : Loading) (both : SameModules l k) (none : NoImports l) where
  abbrev pub Is : Loading → Type 0
  Is i = i ≡ l

  pub trees : (i : Loading) → Is i → (m : Url) → holds_import ((modules_in i).tree m) ≡ false
  trees i e m = subst NoImports (sym e) none m

  pub names_are : (i : Loading) → Is i → AreNamed itself (modules_in i) (modules_in k)
  names_are i e =
      subst (λ i. AreNamed itself (modules_in i) (modules_in k)) (sym e)
      (subst (λ (es : Entries). AreNamed itself (modules_in l) (modules_in (record k { entries = es }))) (sym both.entries) (are_named l k.asked both.alike both.long))

  abbrev to_k : Loading → Loading
  to_k i = k

  no_imports : ImportsFollow {M = Url} {N = Url} itself to_k Is Nowhere BeginsImport
  no_imports o x m text p how g b = absurd b

  bodies : BodiesFollow itself to_k Is same_url same_url modules_in modules_in Nowhere BeginsImport
  bodies = follows_names itself to_k Is same_url same_url modules_in modules_in Nowhere BeginsImport urls_tell_apart urls_tell_apart names_are no_imports

  -- ---- worlds

  abbrev S : Type 0
  S = State Url Loading

  abbrev pub Fit : S → Type 0
  Fit s = Calm same_url modules_in BeginsImport Is trees urls_tell_apart s

  abbrev state_seen : S → S
  state_seen s = record s { outer = record s.outer { imports = k } }

  abbrev renamed_seen : S → S
  renamed_seen s = renamed_state itself to_k s

  abbrev pub world_seen : World → World
  world_seen w = record w { loading = k }

  -- the bodies that stand hold no import(), and loading is that
  abbrev pub Fine : World → Type 0
  Fine w = Fit (body_state w)

  starts_moves : {s after : S} {m : Url} {done : ℕ} {end : Result (Unit {0}) Limit} → Fit s → StartsBody same_url modules_in BeginsImport s m done end after
      → StartsBody same_url modules_in BeginsImport (state_seen s) m done end (state_seen after) × Fit after
  starts_moves {s} {after} {m} {done} {end} g p =
      let q = starts_quiet same_url modules_in BeginsImport Is trees urls_tell_apart g p in
      let r = bodies.start s after m done end g.1 q.0 in (
        subst (λ t. StartsBody same_url modules_in BeginsImport t m done end (state_seen after)) (state_same to_k s)
            (subst (λ t. StartsBody same_url modules_in BeginsImport (renamed_seen s) m done end t) (state_same to_k after) r.0),
        q.1,
      )

  runs_moves : {s after : S} {m : Url} {end : Result (Ran (Value Url)) Limit} → Fit s → RunsBody same_url modules_in BeginsImport s m end after
      → RunsBody same_url modules_in BeginsImport (state_seen s) m (mapped_end re end) (state_seen after) × Fit after
  runs_moves {s} {after} {m} {end} g p =
      let q = runs_quiet same_url modules_in BeginsImport Is trees urls_tell_apart g p in
      let r = bodies.run s after m end g.1 q.0 in (
        subst (λ t. RunsBody same_url modules_in BeginsImport t m (mapped_end re end) (state_seen after)) (state_same to_k s)
            (subst (λ t. RunsBody same_url modules_in BeginsImport (renamed_seen s) m (mapped_end re end) t) (state_same to_k after) r.0),
        q.1,
      )

  pub resumes_moves : {s after : S} {m : Url} {how : Settled (Value Url)} {end : Result (Unit {0}) Limit} → Fit s
      → ResumesBody same_url modules_in BeginsImport s m how end after → ResumesBody same_url modules_in BeginsImport (state_seen s) m how end (state_seen after) × Fit after
  resumes_moves {s} {after} {m} {how} {end} g p =
      let q = resumes_quiet same_url modules_in BeginsImport Is trees urls_tell_apart g p in
      let r = bodies.resume s after m how end g.1 q.0 in (
        subst (λ t. ResumesBody same_url modules_in BeginsImport t m how end (state_seen after)) (state_same to_k s)
            (subst (λ h. ResumesBody same_url modules_in BeginsImport (renamed_seen s) m h end (state_seen after)) (settled_same how)
            (subst (λ t. ResumesBody same_url modules_in BeginsImport (renamed_seen s) m (renamed_settled (λ (u : Url). u) how) end t) (state_same to_k after) r.0)),
        q.1,
      )

  call_moves : {w after : World} {c : Call Url} {r : Result (CallAnswer (Value Url) c) Limit} → Fine w → CallsForBody w c r after
      → CallsForBody (world_seen w) (named_call itself (λ (v : Value Url). v) c) (named_result c r) (world_seen after) × Fine after
  call_moves {w} g (CallsForBody.start {m = m} {done = done} {end = end} {s = s} p) =
      let r = starts_moves g p in
      (subst (λ e. CallsForBody (world_seen w) (Start m done) e (world_seen (with_state w s))) (start_same m done end) (CallsForBody.start r.0), r.1)
  call_moves {w} g (CallsForBody.run {m = m} {end = end} {s = s} p) =
      let r = runs_moves g p in
      (subst (λ e. CallsForBody (world_seen w) (Run m) e (world_seen (with_state w s))) (run_same m end) (CallsForBody.run r.0), r.1)

  entries_is : (w : World) → Fine w → k.entries ≡ w.loading.entries
  entries_is w g = both.entries ∙ sym (ap (λ (i : Loading). i.entries) g.1)

  matches : Matches itself (λ (v : Value Url). v) Fine evaluation evaluation world_seen
  matches = record {
    sameness = urls_tell_apart;
    alike = λ x y. refl;
    targets = λ w g x. ap (λ (es : Entries). targets (modules_in (record k { entries = es })) x) (entries_is w g) ∙ sym (map-id (evaluation.targets w x));
    awaits = λ w g x. ap (λ (es : Entries). (entries_of (body_in (es x))).awaits) (entries_is w g);
    node = λ w g x. sym (node_same (w.nodes x));
    unnamed = λ w g y e. cc;
    stamps = λ w g. sym (map-id w.stamps);
    begun = λ w g x. refl;
    next_promise = λ w g. refl;
    put = λ w g x n. ap (evaluation.put (world_seen w) x) (node_same n);
    add_stamp = λ w g x. refl;
    make_promise = λ w g. refl;
    make_body_promise = λ w g x. refl;
    fulfill = λ w g p. refl;
    reject = λ w g p v. refl;
  }

  stays : WritesStay itself (λ (v : Value Url). v) Fine evaluation evaluation world_seen
  stays = record {
    put = λ w g x n. g;
    add_stamp = λ w g x. g;
    make_promise = λ w g. g;
    make_body_promise = λ w g x. g;
    fulfill = λ w g p. g;
    reject = λ w g p v. g;
  }

  pub evaluation_moves : EvaluationFollows itself (λ (v : Value Url). v) Fine evaluation evaluation world_seen (λ (u : Url). ⊤) CallsForBody CallsForBody
  evaluation_moves = evaluation_follows_names itself (λ (v : Value Url). v) Fine evaluation evaluation world_seen (λ (u : Url). ⊤) CallsForBody CallsForBody
      lawful steady begins_its_own matches stays (λ w after c r g due p. call_moves g p)
