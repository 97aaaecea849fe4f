-- Over worlds that fit, evaluation has outcomes, which fit.
use Rattle.std.proofs.Common.{◌≡◌, ℕ, suc, ◌+◌, ◌<◌, Bool, true, false, ◌||◌, ◌&&◌, cond, List, [], ◌∷◌, Some, refl, ap, subst, sym, ◌∙◌, arith, length}
use Rattle.std.specs.Prelude.{Result, Ok, Err, filter}
use Rattle.std.proofs.lemmas.List.Elements.{All-push}
use Rattle.std.proofs.lemmas.Slice.Eq.{bytes_eq-Decides}
use Rattle.esm_base.specs.declared.limits.Limit.{Limit}
use Rattle.esm_base.specs.Lists.{is_in}
use Rattle.esm_base.specs.Urls.{Url, same_url}
use Rattle.esm_values.specs.Value.{Value, Undefined}
use Rattle.esm_values.specs.Ran.{Ran}
use Rattle.esm_values.specs.Ran.{Ran as ran}
use Rattle.esm_promise.specs.Promises.{Promises, Settled, Fulfilled, Rejected, make, settle, next_promise}
use Rattle.esm_promise.specs.Reactions.{Reaction, BodyEnd}
use Rattle.esm_resolve.specs.SharedSet.{SharedSetAgrees, SharedSetEnds}
use Rattle.esm_env.specs.Modules.{Modules}
use Rattle.esm_env.specs.Modules as mods
use Rattle.esm_link.specs.Link.{targets, targets_from}
use Rattle.esm_loads.specs.UrlTable.{Entries, put_at}
use Rattle.esm_loads.specs.Loading.{Loading}
use Rattle.esm_loads.specs.ImportCall.{BeginsImport}
use Rattle.esm_eval.specs.Nodes.{Node, was_entered, Start, Run}
use Rattle.esm_eval.specs.Evaluation.{phase, IsLawful}
use Rattle.esm_eval.specs.Keeping.{IsNodeOf, CanEvaluate, HasOutcomes, throws_known}
use Rattle.esm_eval.proofs.HasEvaluation.{has_evaluation}
use Rattle.std.specs.List.{AllByRecursion}
use Rattle.esm_rewriting.specs.State.{State, Event, Begins, Ends, Throws}
use Rattle.esm_rewriting.specs.Bodies.{Taken, take_standing, given_by, ResumesBody}
use Rattle.esm_rewriting.specs.Fits.{FitsState, FitsAfter}
use Rattle.esm_rewriting.proofs.SomeBody.{some_start, some_run, some_resume, RanKnown}
use Rattle.esm_world.specs.World.{World, modules_in, body_state, with_state}
use Rattle.esm_world.specs.Layers.{CallsForBody, evaluation, with_promises}
use Rattle.esm_world.specs.Fits.{IsLinkedModule, AreModules, IsKnownValue, FitSettled, FitPromises, FitsHost, FitEvent, FitsWorld}
use Rattle.esm_world.proofs.Each.{all_on}
use Rattle.esm_world.proofs.EventsKept.{IsOf, starts_events, runs_events, resumes_events}
use Rattle.esm_world.proofs.FitLists.{made, settled}
use Rattle.esm_world.proofs.FitBodies.{IsIn, known_in, known_out, are_linked, bodies}

-- ---- lists

same_is : (u v : Url) → same_url u v ≡ true → u ≡ v
same_is u v h = (bytes_eq-Decides u v).0 h

-- those of a list that a test keeps
kept : (p : Url → Bool) (xs : List Url) (u : Url) → is_in same_url (filter p xs) u ≡ (p u && is_in same_url xs u)
kept p [] u = none (p u)
  where
    none : (b : Bool) → false ≡ (b && false)
    none true = refl
    none false = refl
kept p (x ∷ xs) u = by (same_url u x) refl (p x) refl (kept p xs u)
  where
    later : (a b : Bool) → (a && b) ≡ (a && b)
    later a b = refl

    skip : (a : Bool) (b : Bool) → a ≡ false → (a && b) ≡ (a && true)
    skip true b e = absurd cc
    skip false b e = refl

    by : (s : Bool) → same_url u x ≡ s → (b : Bool) → p x ≡ b → is_in same_url (filter p xs) u ≡ (p u && is_in same_url xs u)
        → is_in same_url (cond b (x ∷ filter p xs) (filter p xs)) u ≡ (p u && (s || is_in same_url xs u))
    by true e true f rest = ap (λ s. s || is_in same_url (filter p xs) u) e ∙ sym (ap (λ a. a && true) (ap p (same_is u x e) ∙ f))
    by true e false f rest = rest ∙ skip (p u) (is_in same_url xs u) (ap p (same_is u x e) ∙ f)
    by false e true f rest = ap (λ s. s || is_in same_url (filter p xs) u) e ∙ rest
    by false e false f rest = rest

module _ (linked : List Url) (entries : Entries) (h : AreModules linked entries) (agrees : SharedSetAgrees) (ends : SharedSetEnds) where
  abbrev pub Fits : World → Type 0
  Fits w = FitsWorld linked entries w

  abbrev pub IsModule : Url → Type 0
  IsModule u = IsLinkedModule linked entries u

  abbrev pub IsKnown : Value Url → Type 0
  IsKnown v = IsKnownValue linked entries v

  abbrev FitState : State Url Loading → Type 0
  FitState s = FitsState modules_in (IsIn linked entries h) (FitsHost linked entries) s

  -- ---- what is written

  pub with_fit_promises : (w : World) (ps : Promises (Reaction Url) (Value Url)) → Fits w → FitPromises linked entries ps → Fits (with_promises w ps)
  with_fit_promises w ps f k = record {
    modules = f.modules;
    linked_are = f.linked_are;
    state = record { whole = record { entries_are = f.state.whole.entries_are; orderly = f.state.whole.orderly; promises = k }; cells = f.state.cells; standing = f.state.standing };
    nodes = f.nodes;
    stamps = f.stamps;
    entered = f.entered;
    events = f.events;
    entry = f.entry;
  }

  abbrev FitEvents : List (Event Url) → Type 0
  FitEvents es = AllByRecursion (FitEvent linked entries) es

  -- an event of a linked module
  own : (e : Event Url) → IsOf IsModule e → FitEvent linked entries e
  own (Begins m) k = k
  own (Ends m) k = k
  own (Throws m) k = k

  of : (e : Event Url) → FitEvent linked entries e → IsOf IsModule e
  of (Begins m) k = k
  of (Ends m) k = k
  of (Throws m) k = k

  in_events : (es : List (Event Url)) → FitEvents es → AllByRecursion (IsOf IsModule) es
  in_events es k = all_on (FitEvent linked entries) (IsOf IsModule) es of k

  out_events : (es : List (Event Url)) → AllByRecursion (IsOf IsModule) es → FitEvents es
  out_events es k = all_on (IsOf IsModule) (FitEvent linked entries) es own k

  pub with_fit_state : (w : World) (s : State Url Loading) → Fits w → FitState s → FitEvents s.engine.events → Fits (with_state w s)
  with_fit_state w s f k e = record { modules = f.modules; linked_are = f.linked_are; state = k; nodes = f.nodes; stamps = f.stamps; entered = f.entered; events = e; entry = f.entry }

  node_put : (w : World) (x : Url) (n : Node Url (Value Url)) → Fits w → IsNodeOf IsModule IsKnown n → (u : Url) → IsNodeOf IsModule IsKnown (put_at w.nodes x n u)
  node_put w x n f k u = by (same_url x u)
    where
      by : (b : Bool) → IsNodeOf IsModule IsKnown (cond b n (w.nodes u))
      by true = k
      by false = f.nodes u

  entered_put : (w : World) (x : Url) (n : Node Url (Value Url)) → Fits w → IsModule x → (u : Url) → was_entered (put_at w.nodes x n u).phase ≡ true → IsModule u
  entered_put w x n f m u = by (same_url x u) refl
    where
      by : (b : Bool) → same_url x u ≡ b → was_entered (cond b n (w.nodes u)).phase ≡ true → IsModule u
      by true e k = subst IsModule (same_is x u e) m
      by false e k = f.entered u k

  put : (w : World) (x : Url) (n : Node Url (Value Url)) → Fits w → IsModule x → IsNodeOf IsModule IsKnown n → Fits (evaluation.put w x n)
  put w x n f m k = record {
    modules = f.modules;
    linked_are = f.linked_are;
    state = record { whole = f.state.whole; cells = f.state.cells; standing = f.state.standing };
    nodes = node_put w x n f k;
    stamps = f.stamps;
    entered = entered_put w x n f m;
    events = f.events;
    entry = f.entry;
  }

  add_stamp : (w : World) (x : Url) → Fits w → IsModule x → Fits (evaluation.add_stamp w x)
  add_stamp w x f m = record {
    modules = f.modules;
    linked_are = f.linked_are;
    state = record { whole = f.state.whole; cells = f.state.cells; standing = f.state.standing };
    nodes = f.nodes;
    stamps = All-push IsModule w.stamps x f.stamps m;
    entered = f.entered;
    events = f.events;
    entry = f.entry;
  }

  -- ---- what is read

  entered_list : (w : World) → Fits w → (closed : List Url) × ((x : Url) → is_in same_url closed x ≡ was_entered (phase evaluation w x))
  entered_list w f = (filter (λ u. was_entered (w.nodes u).phase) linked, λ x. kept (λ u. was_entered (w.nodes u).phase) linked x ∙ by x (was_entered (w.nodes x).phase) refl)
    where
      by : (x : Url) (b : Bool) → was_entered (w.nodes x).phase ≡ b → (b && is_in same_url linked x) ≡ b
      by x true e = f.entered x e
      by x false e = refl

  target_among : (g : Modules Url) (x t : Url) (i : ℕ) (rs : List (List ℕ)) → ((j : ℕ) → j < length rs → IsModule (g.target x (i + j))) → is_in same_url (targets_from g x i rs) t ≡ true → IsModule t
  target_among g x t i [] k e = absurd (let q : false ≡ true = e in cc)
  target_among g x t i (r ∷ rs) k e = by (same_url t (g.target x i)) refl e (target_among g x t (suc i) rs (λ j lt. subst (λ n. IsModule (g.target x n)) (omega arith) (k (suc j) (omega (arith, lt)))))
    where
      by : (b : Bool) → same_url t (g.target x i) ≡ b → (b || is_in same_url (targets_from g x (suc i) rs) t) ≡ true → (is_in same_url (targets_from g x (suc i) rs) t ≡ true → IsModule t) → IsModule t
      by true q e later = subst IsModule (sym (same_is t (g.target x i) q)) (subst (λ n. IsModule (g.target x n)) (omega arith) (k 0 (omega arith)))
      by false q e later = later e

  read_targets : (w : World) → Fits w → (x t : Url) → IsModule x → is_in same_url (targets (modules_in w.loading) x) t ≡ true → IsModule t
  read_targets w f x t m e =
      let l = are_linked linked entries h w.loading f.state.whole.entries_are f.state.whole.orderly in
      target_among (modules_in w.loading) x t 0 (mods.entries (modules_in w.loading) x).requests (λ j lt. subst (λ n. IsModule ((modules_in w.loading).target x n)) (omega arith) (l.targets x j m lt)) e

  -- ---- calls for bodies

  started : (w : World) (m : Url) → Fits w → IsModule m → (r : Result (Unit {0}) Limit) × (after : World) × CallsForBody (evaluation.make_body_promise w m) (Start m (evaluation.next_promise w)) r after × Fits after
  started w m f k =
      let late = evaluation.make_body_promise w m in
      let g = with_fit_promises w (make w.promises (BodyEnd m ∷ [])) f (made linked entries w.promises (BodyEnd m ∷ []) (k, tt) f.state.whole.promises) in
      let s = some_start same_url modules_in (IsIn linked entries h) (FitsHost linked entries) BeginsImport (bodies linked entries h agrees ends) (body_state late) m (next_promise w.promises) g.state k in
      (s.0, with_state late s.1.0, CallsForBody.start s.1.1.0, with_fit_state late s.1.0 g s.1.1.1.fits (out_events s.1.0.engine.events (starts_events same_url modules_in BeginsImport IsModule s.1.1.0 k (in_events w.engine.events f.events))))

  thrown : (l : Loading) → l.entries ≡ entries → (r : Result (Ran (Value Url)) Limit) → RanKnown same_url modules_in (IsIn linked entries h) (FitsHost linked entries) BeginsImport (bodies linked entries h agrees ends) l r → throws_known IsKnown r
  thrown l e (Ok (ran.Thrown v)) k = known_out linked entries h l e v k
  thrown l e (Ok ran.Normal) k = tt
  thrown l e (Err why) k = tt

  ran_body : (w : World) (m : Url) → Fits w → IsModule m → evaluation.awaits w m ≡ false → (r : Result (Ran (Value Url)) Limit) × (after : World) × CallsForBody w (Run m) r after × Fits after × throws_known IsKnown r
  ran_body w m f k a =
      let s = some_run same_url modules_in (IsIn linked entries h) (FitsHost linked entries) BeginsImport (bodies linked entries h agrees ends) (body_state w) m f.state k a in
      (s.0, with_state w s.1.0, CallsForBody.run s.1.1.0, with_fit_state w s.1.0 f s.1.1.1.0.fits (out_events s.1.0.engine.events (runs_events same_url modules_in BeginsImport IsModule s.1.1.0 k (in_events w.engine.events f.events))), thrown s.1.0.outer.imports s.1.1.1.0.fits.whole.entries_are s.0 s.1.1.1.1)

  -- a body that stands at an await goes on
  pub resumed : (w : World) (m : Url) (t : Taken Url) (how : Settled (Value Url)) → Fits w → IsModule m → take_standing same_url w.engine.standing m ≡ Some t → FitSettled linked entries how
      → (end : Result (Unit {0}) Limit) × ((s : State Url Loading) × (ResumesBody same_url modules_in BeginsImport (body_state w) m how end s × Fits (with_state w s)))
  resumed w m t how f k e q =
      let s = some_resume same_url modules_in (IsIn linked entries h) (FitsHost linked entries) BeginsImport (bodies linked entries h agrees ends) (body_state w) m t how f.state k e (given w.loading f.state.whole.entries_are how q) in
      (s.0, (s.1.0, (s.1.1.0, with_fit_state w s.1.0 f s.1.1.1.fits (out_events s.1.0.engine.events (resumes_events same_url modules_in BeginsImport IsModule s.1.1.0 k (in_events w.engine.events f.events))))))
    where
      given : (l : Loading) → l.entries ≡ entries → (how : Settled (Value Url)) → FitSettled linked entries how → Rattle.esm_expr_eval.specs.Ready.Holds (Rattle.esm_rewriting.specs.Fits.Knows modules_in (IsIn linked entries h) l) ⊥ (given_by how)
      given l e (Fulfilled v) k = known_in linked entries h l e v k
      given l e (Rejected v) k = known_in linked entries h l e v k

  pub can_evaluate : CanEvaluate evaluation CallsForBody Fits IsModule IsKnown
  can_evaluate = record {
    modules = linked;
    among = λ x k. k;
    entered = entered_list;
    targets = read_targets;
    node = λ w f x. f.nodes x;
    stamps = λ w f. f.stamps;
    put = put;
    add_stamp = add_stamp;
    make_promise = λ w f. with_fit_promises w (make w.promises []) f (made linked entries w.promises [] tt f.state.whole.promises);
    fulfill = λ w p f. with_fit_promises w (settle w.promises p (Fulfilled Undefined)) f (settled linked entries w.promises p (Fulfilled Undefined) tt f.state.whole.promises);
    reject = λ w p v f k. with_fit_promises w (settle w.promises p (Rejected v)) f (settled linked entries w.promises p (Rejected v) k f.state.whole.promises);
    start = λ w m f k a. started w m f k;
    run = ran_body;
  }

  -- evaluating, and what follows the end of a body, have outcomes that fit
  pub evaluated : IsLawful evaluation → HasOutcomes evaluation CallsForBody Fits IsModule IsKnown
  evaluated l = has_evaluation evaluation CallsForBody Fits IsModule IsKnown l can_evaluate
