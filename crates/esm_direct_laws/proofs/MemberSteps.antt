-- Over the modules of a closure each job has an outcome, which is one in each world with a loading that has these modules.
use Rattle.std.proofs.Common.{◌≡◌, ℕ, true, false, List, map, Option, Some, None, refl, ap, subst, sym}
use Rattle.std.specs.Prelude.{Result, Ok, Err, ⊤, is_some}
use Rattle.esm_base.specs.declared.limits.Limit.{Limit}
use Rattle.esm_base.specs.Urls.{Url, same_url}
use Rattle.esm_values.specs.Value.{Error}
use Rattle.esm_values.specs.Ran.{Ran}
use Rattle.esm_values.specs.Errors.{make_error, next_error}
use Rattle.esm_promise.specs.Promises.{Settled, Fulfilled, Rejected, register}
use Rattle.esm_promise.specs.Reactions.{Reaction, Await, BodyEnd, Loaded, Evaluated, EntryLoaded, EntryDone}
use Rattle.esm_promise.specs.Renaming.{renamed_reaction, renamed_settled}
use Rattle.esm_promise.proofs.Renamed as promises
use Rattle.esm_resolve.specs.SharedSet.{SharedSetAgrees, SharedSetEnds}
use Rattle.esm_env.specs.Modules.{Modules}
use Rattle.esm_env.specs.Naming.{AreNamed}
use Rattle.esm_loads.specs.Loading.{Loading, root_of_load}
use Rattle.esm_link.specs.Faults.{FaultAt, link_error}
use Rattle.esm_link.specs.Link.{IsLinking}
use Rattle.esm_link.specs.Naming.{named_fault, LinkFollows}
use Rattle.esm_link.proofs.Named.{linking_follows_names}
use Rattle.esm_link.proofs.HasLinking.{has_linking}
use Rattle.esm_eval.specs.Nodes.{Call, CallAnswer}
use Rattle.esm_eval.specs.Evaluate.{Evaluates}
use Rattle.esm_eval.specs.BodyEnd.{Fulfills}
use Rattle.esm_eval.specs.Begins.{HaveBegunOnce}
use Rattle.esm_eval.proofs.Between.{stays_between}
use Rattle.esm_rewriting.specs.State.{State}
use Rattle.esm_rewriting.specs.Bodies.{Taken, take_standing}
use Rattle.esm_rewriting.specs.Fits.{AreLinked}
use Rattle.esm_rewriting.specs.Keeps.{started}
use Rattle.esm_rewriting.proofs.BodyKeeps.{bodies_keep}
use Rattle.esm_rewriting.proofs.Resolved.{resolved, good}
use Rattle.esm_world.specs.ImportCalls.{holds_import}
use Rattle.esm_world.specs.World.{World, modules_in}
use Rattle.esm_world.specs.Jobs.{Reacts, when_evaluated}
use Rattle.esm_world.proofs.BodyStops.{StopsState, StopsTold, starts_body_stop, runs_body_stop}
use Rattle.esm_world.proofs.EvalStops.{StopsCall, evaluates_stop, fulfills_stop}
use Rattle.esm_direct_laws.proofs.Members.{Member, names, same_member, members_apart, every, every_is}
use Rattle.esm_direct_laws.proofs.MemberWorld.{M, V, EntryM, Ended, Failed, WorldM, Nothing, state, with_state, with_promises, only_these, CallsM, evaluation_m, first_calls_m, begun_alike}
use Rattle.esm_direct_laws.proofs.MemberImage.{image, bodies, evaluation_moves}
use Rattle.esm_direct_laws.proofs.MemberFits.{KnownSettled, Plain, FitsM, KnownEntry, with_fit, registers, resumes, evaluates_m}
use Rattle.esm_order_laws.proofs.QuietMoves.{Nowhere}

module _ (xs : List Url) (g : Modules (Member xs)) (are_linked : AreLinked g (λ m. true)) (quiet : (m : Member xs) → holds_import (g.tree m) ≡ false) (agrees : SharedSetAgrees) (ends : SharedSetEnds)
    (first : Member xs) where
  abbrev W : Type 0
  W = WorldM xs

  abbrev pub FitW : W → Type 0
  FitW w = FitsM xs g are_linked quiet agrees ends w

  abbrev pub Once : W → Type 0
  Once w = HaveBegunOnce (evaluation_m xs g) w

  abbrev Live : W → Type 0
  Live w = w.engine.stopped ≡ None

  -- a loading that has these modules, and whose first load is complete with this root
  pub record Suits (l : Loading) : Type 0 where
    pub named : AreNamed (names xs) g (modules_in l)
    pub root : root_of_load l 0 ≡ Some first.url
    pub live : l.stopped ≡ None

  abbrev seen : Loading → W → World
  seen l w = image xs g l w

  -- ---- bodies that have begun

  abbrev starts : W → List (M xs)
  starts w = started w.engine.events

  pub alike : (v w : W) → w.nodes ≡ v.nodes → w.stamps ≡ v.stamps → starts w ≡ starts v → Once v → Once w
  alike v w n s e h = stays_between (evaluation_m xs g) v w (record {
    nodes = λ x. ap (λ ns. ns x) n;
    stamps = s;
    begun = λ x. begun_alike xs g v w e x;
  }) h

  -- ---- a stop leaves a world that is stopped

  abbrev StoppedState : State (M xs) (Nothing xs) → Type 0
  StoppedState s = is_some s.engine.stopped ≡ true

  abbrev Stopped : W → Type 0
  Stopped w = is_some w.engine.stopped ≡ true

  stops_state : StopsState {N = M xs} {I = Nothing xs} Nowhere StoppedState
  stops_state = record { stops = λ w limit. refl; begin = λ {o} {x} {m} {text} {p} {limit} b w. absurd b }

  told_stop : {v w : W} {c : Call (M xs)} {why : Limit} {r : Result (CallAnswer (V xs) c) Limit} → CallsM xs g v c r w → r ≡ Err why → Stopped w
  told_stop {why = why} (CallsM.start {end = end} {s = s} p) e = by end (starts_body_stop Nowhere StoppedState stops_state (same_member xs) (only_these xs g) p) e
    where
      by : (r : Result (Unit {0}) Limit) → StopsTold StoppedState r s → r ≡ Err why → is_some s.engine.stopped ≡ true
      by (Ok a) k h = cc
      by (Err limit) k h = k
  told_stop {why = why} (CallsM.run {end = end} {s = s} p) e = by end (runs_body_stop Nowhere StoppedState stops_state (same_member xs) (only_these xs g) p) e
    where
      by : (r : Result (Ran (V xs)) Limit) → StopsTold StoppedState r s → r ≡ Err why → is_some s.engine.stopped ≡ true
      by (Ok a) k h = cc
      by (Err limit) k h = k

  stops_call : StopsCall (evaluation_m xs g) (CallsM xs g) Stopped
  stops_call = record { call = λ p. told_stop p refl }

  none_stopped : (o : Option Limit) → is_some o ≡ true → o ≡ None → ⊥
  none_stopped None h e = cc
  none_stopped (Some limit) h e = cc

  evaluated_once : (v : W) (m : M xs) (a : Result ℕ Limit) (w : W) → Once v → Evaluates (evaluation_m xs g) (CallsM xs g) v m a w → Live w → Once w
  evaluated_once v m (Ok n) w h p live = (first_calls_m xs g).keeps_evaluates v w m n h p
  evaluated_once v m (Err limit) w h p live = absurd (none_stopped w.engine.stopped (evaluates_stop (evaluation_m xs g) (CallsM xs g) Stopped stops_call v m p) live)

  fulfilled_once : (v : W) (m : M xs) (a : Result (Unit {0}) Limit) (w : W) → Once v → Fulfills (evaluation_m xs g) (CallsM xs g) v m a w → Live w → Once w
  fulfilled_once v m (Ok tt) w h p live = (first_calls_m xs g).keeps_fulfills v w m h p
  fulfilled_once v m (Err limit) w h p live = absurd (none_stopped w.engine.stopped (fulfills_stop (evaluation_m xs g) (CallsM xs g) Stopped stops_call p) live)

  -- ---- what a job comes to

  -- what a reaction looks for
  abbrev pub FindsM : W → Reaction (M xs) → Type 0
  FindsM w (Await m) = (t : Taken (M xs)) × (take_standing (same_member xs) w.engine.standing m ≡ Some t)
  FindsM w (BodyEnd m) = ⊤
  FindsM w (Loaded load) = ⊤
  FindsM w (Evaluated load) = ⊤
  FindsM w EntryLoaded = ⊤
  FindsM w EntryDone = ⊤

  pub record Steps (w : W) (r : Reaction (M xs)) (how : Settled (V xs)) : Type 0 where
    pub after : W
    pub reacts : (l : Loading) → Suits l → Reacts (seen l w) (renamed_reaction (names xs).name r) (renamed_settled (names xs).name how) (seen l after)
    pub fits : FitW after
    pub once : Live after → Once after

  -- ---- linking

  follow : (l : Loading) → Suits l → LinkFollows (names xs) (same_member xs) same_url g (modules_in l)
  follow l s = linking_follows_names (names xs) (same_member xs) same_url g (modules_in l) (λ x y. refl) s.named

  links_some : (closed : List (M xs)) → (f : Option (FaultAt (M xs))) × (after : List (M xs)) × IsLinking (same_member xs) g closed first f after
  links_some closed =
      has_linking (M xs) (same_member xs) g (every xs) closed first (members_apart xs)
      (λ x name inside. let r = resolved g (λ m. true) are_linked agrees ends (g.number x) name (good g (λ m. true) are_linked x refl) in (r.0, r.1.0))
      (λ x t inside k. every_is xs t) (every_is xs first)

  -- ---- evaluating the entry

  -- the reaction to the evaluation is registered
  abbrev when_done : W → Result ℕ Limit → W
  when_done w (Ok p) = with_promises xs w (register w.promises p EntryDone)
  when_done w (Err limit) = w

  when_seen : (l : Loading) (w : W) (a : Result ℕ Limit) → when_evaluated (seen l w) EntryDone a ≡ seen l (when_done w a)
  when_seen l w (Ok p) = ap (λ ps. record (seen l w) { promises = ps }) (sym ((promises.follows_names (names xs).name).registers w.promises p EntryDone))
  when_seen l w (Err limit) = refl

  when_fits : (w : W) (a : Result ℕ Limit) → FitW w → FitW (when_done w a)
  when_fits w (Ok p) f = with_fit xs g are_linked quiet agrees ends w (register w.promises p EntryDone) f (registers xs g are_linked quiet agrees ends w.promises p EntryDone tt f.fits.whole)
  when_fits w (Err limit) f = f

  when_once : (w : W) (a : Result ℕ Limit) → (Live w → Once w) → Live (when_done w a) → Once (when_done w a)
  when_once w (Ok p) h live = alike w (when_done w (Ok p)) refl refl refl (h live)
  when_once w (Err limit) h live = h live

  entry_step : (w : W) (v : V xs) → FitW w → Once w → (f : Option (FaultAt (M xs))) (us : List (M xs)) → IsLinking (same_member xs) g w.linked first f us → Steps w EntryLoaded (Fulfilled v)
  entry_step w v fit once None us p =
      let linked : W = record w { linked = us } in
      let fits : FitW linked = record { fits = fit.fits; calm = fit.calm; nodes = fit.nodes; entry = fit.entry } in
      let calm : Once linked = alike w linked refl refl refl once in
      let e = (evaluates_m xs g are_linked quiet agrees ends).evaluates linked first fits tt in
      record {
        after = when_done e.1 e.0;
        reacts = λ l s. subst (λ x. Reacts (seen l w) EntryLoaded (renamed_settled (names xs).name (Fulfilled v)) x) (when_seen l e.1 e.0) (Reacts.entry_linked (record {
          root = first.url;
          linked = map (names xs).name us;
          links = record { is_root = s.root; links = (follow l s).links w.linked first None us p };
          evaluates = ((evaluation_moves xs g l s.named).evaluates linked e.1 first e.0 tt calm tt (λ x t h k. tt) e.2).0;
        }));
        fits = when_fits e.1 e.0 e.3;
        once = when_once e.1 e.0 (evaluated_once linked first e.0 e.1 calm e.2);
      }
  entry_step w v fit once (Some f) us p =
      let failed : W = record w { linked = us; errors = make_error w.errors (link_error g f); entry = Failed (Error (next_error w.errors)) } in
      record {
        after = failed;
        reacts = λ l s. subst (λ x. Reacts (seen l w) EntryLoaded (renamed_settled (names xs).name (Fulfilled v)) x)
            (ap (λ es. record (seen l failed) { errors = make_error w.errors es }) ((follow l s).error f))
            (Reacts.entry_fault first.url (named_fault (names xs) f) (map (names xs).name us) (record { is_root = s.root; links = (follow l s).links w.linked first (Some f) us p }));
        fits = record { fits = record { whole = fit.fits.whole; cells = fit.fits.cells; standing = fit.fits.standing }; calm = fit.calm; nodes = fit.nodes; entry = tt };
        once = λ live. alike w failed refl refl refl once;
      }

  -- the state of the entry changes alone
  entry_fits : (w : W) (e : EntryM xs) → FitW w → KnownEntry xs g are_linked quiet agrees ends e → FitW (record w { entry = e })
  entry_fits w e f k = record { fits = f.fits; calm = f.calm; nodes = f.nodes; entry = k }

  pub steps : (w : W) → FitW w → Once w → (r : Reaction (M xs)) (how : Settled (V xs)) → Plain xs g are_linked quiet agrees ends r → KnownSettled xs g are_linked quiet agrees ends how → FindsM w r → Steps w r how
  steps w f once EntryLoaded (Fulfilled v) plain k finds = let l = links_some w.linked in entry_step w v f once l.0 l.1 l.2
  steps w f once EntryLoaded (Rejected v) plain k finds = record {
    after = record w { entry = Failed v };
    reacts = λ l s. Reacts.entry_refused;
    fits = entry_fits w (Failed v) f k;
    once = λ live. alike w (record w { entry = Failed v }) refl refl refl once;
  }
  steps w f once EntryDone (Fulfilled v) plain k finds = record {
    after = record w { entry = Ended };
    reacts = λ l s. Reacts.entry_ended;
    fits = entry_fits w Ended f tt;
    once = λ live. alike w (record w { entry = Ended }) refl refl refl once;
  }
  steps w f once EntryDone (Rejected v) plain k finds = record {
    after = record w { entry = Failed v };
    reacts = λ l s. Reacts.entry_threw;
    fits = entry_fits w (Failed v) f k;
    once = λ live. alike w (record w { entry = Failed v }) refl refl refl once;
  }
  steps w f once (BodyEnd m) (Fulfilled v) plain k finds =
      let e = (evaluates_m xs g are_linked quiet agrees ends).fulfills w m f tt in
      record {
        after = e.1;
        reacts = λ l s. Reacts.body_ended ((evaluation_moves xs g l s.named).fulfills w e.1 m e.0 tt once (λ x h. tt) e.2).0;
        fits = e.3;
        once = fulfilled_once w m e.0 e.1 once e.2;
      }
  steps w f once (BodyEnd m) (Rejected v) plain k finds =
      let e = (evaluates_m xs g are_linked quiet agrees ends).rejects w m v f tt k in
      record {
        after = e.0;
        reacts = λ l s. Reacts.body_threw ((evaluation_moves xs g l s.named).rejects w e.0 m v tt e.1).0;
        fits = e.2;
        once = λ live. (first_calls_m xs g).keeps_rejects w e.0 m v once e.1;
      }
  steps w f once (Await m) how plain k finds =
      let r = resumes xs g are_linked quiet agrees ends w m finds.0 how f finds.1 k in
      let keeps = (bodies_keep (same_member xs) (only_these xs g) Nowhere).resume (state xs w) r.1 m how r.0 r.2 in
      record {
        after = with_state xs w r.1;
        reacts = λ l s. Reacts.resumes ((bodies xs g l s.named).resume (state xs w) r.1 m how r.0 tt r.2).0;
        fits = r.3;
        once = λ live. alike w (with_state xs w r.1) refl refl keeps.starts once;
      }
  steps w f once (Loaded load) how plain k finds = absurd plain
  steps w f once (Evaluated load) how plain k finds = absurd plain
