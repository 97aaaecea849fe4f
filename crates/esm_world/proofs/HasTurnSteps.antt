-- Worlds of a run: in each of them each step has an outcome, which is such a world again.
use Rattle.std.proofs.Common.{◌≡◌, ℕ, zero, suc, Bool, true, List, [], ◌∷◌, Option, Some, None, refl, ap, subst, sym, ◌∙◌, arith}
use Rattle.std.specs.Prelude.{slice_get}
use Rattle.std.specs.List.{AllByRecursion}
use Rattle.esm_base.specs.Urls.{Url}
use Rattle.esm_tree.specs.Syntax.{Item}
use Rattle.esm_import_map.specs.ImportMap.{Maps}
use Rattle.esm_values.specs.Value.{Value}
use Rattle.esm_promise.specs.Promises as p
use Rattle.esm_promise.specs.Promises.{Promises, Pending, Done, Settled, Job, next_job, first_job, settled, settled_by}
use Rattle.esm_promise.specs.Reactions.{Reaction, Await, BodyEnd, Loaded, Evaluated, EntryLoaded, EntryDone}
use Rattle.esm_resolve.specs.SharedSet.{SharedSetAgrees, SharedSetEnds}
use Rattle.esm_loads.specs.UrlTable.{Entries, TableEntry}
use Rattle.esm_loads.specs.Loading.{is_fetching}
use Rattle.esm_loads.specs.Host.{Host}
use Rattle.esm_loads.specs.Arrival.{AnswersNext, open_asks}
use Rattle.esm_loads.proofs.HasLoad.{has_load}
use Rattle.esm_world.specs.World.{World, host_of, with_host, opening, stopped}
use Rattle.esm_world.specs.Layers.{with_promises}
use Rattle.esm_world.specs.Jobs.{Reacts}
use Rattle.esm_world.specs.Turn.{fetched}
use Rattle.esm_world.specs.Run.{IsAllowed}
use Rattle.esm_ast.specs.Deliveries.{Delivery}
use Rattle.esm_world.specs.Fits.{FitReaction, FitSettled, FitPromise, FitPromises}
use Rattle.esm_world.specs.Told.{StaysTold, StaysComplete}
use Rattle.esm_world.specs.Sound.{OfLoad, Own, Finds, IsSound, MayReact, WorldsStaySound}
use Rattle.esm_world.specs.Outcomes.{StepsHaveOutcomes}
use Rattle.esm_world.proofs.FitLoading.{opening_fits, fetch_fits, answers_fit}
use Rattle.esm_world.proofs.LoadedFits.{loading_stays_fit}
use Rattle.esm_world.proofs.LoadingKept.{reacts_keep_loading}
use Rattle.esm_world.proofs.UnlinkedGrows.{next_stays, fetched_stays}
use Rattle.esm_world.proofs.AwaitsKept.{awaits_keep_bodies}
use Rattle.esm_world.proofs.EvaluatedLinked.{job_taken, reacts_linked, answer_linked, fetch_linked}
use Rattle.esm_world.proofs.SomeReaction.{fit_own, fit_with, some_reaction}
use Rattle.esm_world.proofs.OneRun.{reacts_one}
use Rattle.esm_world.proofs.ReactsLower.{job_within}
use Rattle.esm_world.proofs.Deliveries.{open_ask, asks_live}

abbrev Queue : Type 0
Queue = Promises (Reaction Url) (Value Url)

-- ---- what is taken of promises

module _ (linked : List Url) (entries : Entries) where
  abbrev InJob : Job (Reaction Url) → Type 0
  InJob j = FitReaction linked entries j.reaction

  taken_fit : (ps left : Queue) (j : Job (Reaction Url)) → next_job ps ≡ Some (j, left) → FitPromises linked entries ps → FitReaction linked entries j.reaction × FitPromises linked entries left
  taken_fit ps left j e h = by ps.jobs e h.jobs
    where
      by : (js : List (Job (Reaction Url))) → first_job js ps ≡ Some (j, left) → AllByRecursion InJob js → FitReaction linked entries j.reaction × FitPromises linked entries left
      by [] e k = cc
      by (x ∷ xs) e k =
          let now : Queue = record ps { jobs = xs } in
          let same : (x, now) ≡ (j, left) = cc in
          let fine : FitReaction linked entries x.reaction × FitPromises linked entries now = (k.0, record { all = h.all; jobs = k.1 }) in
          subst (λ (t : Job (Reaction Url) × Queue). FitReaction linked entries t.0.reaction × FitPromises linked entries t.1) same fine

  settled_fit : (xs : List (p.Promise (Reaction Url) (Value Url))) (q : ℕ) (how : Settled (Value Url)) → settled_by (slice_get xs q) ≡ Some how → AllByRecursion (FitPromise linked entries) xs → FitSettled linked entries how
  settled_fit [] q how e h = cc
  settled_fit (Pending rs ∷ xs) zero how e h = cc
  settled_fit (Done by ∷ xs) zero how e h = let same : by ≡ how = cc in subst (FitSettled linked entries) same h.0
  settled_fit (x ∷ xs) (suc q) how e h = settled_fit xs q how e h.1

none_by : (o : Option TableEntry) → is_fetching o ≡ true → o ≡ None
none_by None h = refl
none_by (Some e) h = cc

module _ (agrees : SharedSetAgrees) (ends : SharedSetEnds) (told : StaysTold) (complete : StaysComplete) where
  opens : (maps : Maps) (built : List Item → Bool) (entry : Url) (trace : Bool) → IsSound (opening maps built entry trace)
  opens maps built entry trace = record {
    ready = record {
      fit = opening_fits maps built entry trace;
      loading = loading_stays_fit.opening maps built entry;
      unlinked = λ u h. absurd cc;
      steps = omega arith;
    };
    awaits = awaits_keep_bodies.opens maps built entry trace;
    evaluated = record { all = ((tt, tt), tt); jobs = tt };
    told = told.opens maps built entry trace;
  }

  fetches : (w : World) (d : Delivery) → IsSound w → IsAllowed w d → IsSound (fetched w d.url d.outcome)
  fetches w d f a =
      let k = open_ask w d.url a.asked in
      record {
        ready = record {
          fit = fetch_fits w d.url d.outcome f.ready.fit (none_by (w.loading.entries d.url) k.fetching) k.asked;
          loading = loading_stays_fit.fetched (host_of w) d.url d.outcome f.ready.loading (asks_live (stopped w) (open_asks w.loading) d.url a.asked).1 a.tree;
          unlinked = λ u h. fetched_stays (host_of w) d.url d.outcome u (f.ready.unlinked u h);
          steps = f.ready.steps;
        };
        awaits = awaits_keep_bodies.fetches w d.url d.outcome f.awaits;
        evaluated = fetch_linked w d.url d.outcome (record {
          roots = complete.fetches w d.url d.outcome;
          linked = λ u h. h;
        }) f.evaluated;
        told = told.fetches w d f.told a;
      }

  answered : (w : World) (h : Host) → IsSound w → stopped w ≡ None → AnswersNext (host_of w) h → IsSound (with_host w h)
  answered w h f live a = record {
    ready = record {
      fit = fit_own w.linked w.loading.entries (with_host w h) (answers_fit w h f.ready.fit a);
      loading = loading_stays_fit.next (host_of w) h f.ready.loading a;
      unlinked = λ u k. next_stays a u (f.ready.unlinked u k);
      steps = f.ready.steps;
    };
    awaits = awaits_keep_bodies.answers w h f.awaits a;
    evaluated = answer_linked w h a (record { roots = λ s root k. complete.answers w h s root f.told live a k; linked = λ u k. k }) f.evaluated;
    told = told.answers w h f.told live a;
  }

  -- what the job of the reaction looks for
  finds : (w : World) (j : Job (Reaction Url)) (left : Queue) → IsSound w → next_job w.promises ≡ Some (j, left) → (r : Reaction Url) → j.reaction ≡ r → OfLoad (Own w) r → Finds (with_promises w left) r
  finds w j left f e (Await m) q o = awaits_keep_bodies.body w j left m f.awaits e q
  finds w j left f e (BodyEnd m) q o = tt
  finds w j left f e (Loaded s) q o = tt
  finds w j left f e (Evaluated s) q o = o
  finds w j left f e EntryLoaded q o = tt
  finds w j left f e EntryDone q o = tt

  -- the job can be done
  may : (w : World) (j : Job (Reaction Url)) (left : Queue) (how : Settled (Value Url)) → IsSound w → next_job w.promises ≡ Some (j, left) → settled left j.promise ≡ Some how → MayReact (with_promises w left) j.reaction how
  may w j left how f e q =
      let k = taken_fit w.linked w.loading.entries w.promises left j e f.ready.fit.state.whole.promises in
      let o = job_taken (Own w) w.promises left j e f.evaluated in
      record {
        ready = record {
          fit = fit_with w.linked w.loading.entries w w.errors left w.entry f.ready.fit k.1 f.ready.fit.entry;
          loading = f.ready.loading;
          unlinked = f.ready.unlinked;
          steps = f.ready.steps;
        };
        reaction = k.0;
        how_fits = settled_fit w.linked w.loading.entries left.all j.promise how q k.1.all;
        told = told.told w j left how f.told e q;
        finds = finds w j left f e j.reaction refl o.0;
      }

  -- a job has an outcome, which is sound
  record JobSome (w : World) (j : Job (Reaction Url)) (left : Queue) (how : Settled (Value Url)) : Type 0 where
    after : World
    reacts : Reacts (with_promises w left) j.reaction how after
    sound : stopped after ≡ None → IsSound after

  job_some : (w : World) (j : Job (Reaction Url)) (left : Queue) (how : Settled (Value Url)) → IsSound w → next_job w.promises ≡ Some (j, left) → settled left j.promise ≡ Some how → JobSome w j left how
  job_some w j left how f e q =
      let m = may w j left how f e q in
      let o = job_taken (Own w) w.promises left j e f.evaluated in
      let some = some_reaction agrees ends (with_promises w left) m.ready.fit f.ready.loading f.ready.unlinked j.reaction how m.reaction m.how_fits m.told m.finds in
      record {
        after = some.after;
        reacts = some.reacts;
        sound = λ live. record {
          ready = record {
            fit = some.fits;
            loading = (reacts_keep_loading some.reacts).fits f.ready.loading;
            unlinked = some.unlinked;
            steps = job_within w some.after j.reaction left how f.ready.steps some.reacts live;
          };
          awaits = awaits_keep_bodies.reacts w some.after j left how f.awaits e some.reacts;
          evaluated = reacts_linked (with_promises w left) some.after j.reaction how some.reacts (record { roots = λ s root h. complete.reacts w some.after j left how s root f.told e q some.reacts h; linked = some.stays }) o.1;
          told = told.reacts w some.after j left how f.told e q some.reacts;
        };
      }

  pub worlds_stay_sound : WorldsStaySound
  worlds_stay_sound = record {
    opens = opens;
    fetches = fetches;
    answers = answered;
    may = may;
    reacts = λ w after j left how f e q p live.
        let some = job_some w j left how f e q in
        let same : some.after ≡ after = sym (reacts_one some.reacts p) in
        subst IsSound same (some.sound (ap stopped same ∙ live));
    result = λ w j left f e. awaits_keep_bodies.result w j left f.awaits e;
  }

  pub steps_have_outcomes : StepsHaveOutcomes IsSound
  steps_have_outcomes = record {
    opens = opens;
    fetches = λ w d f a live. fetches w d f a;
    answer = λ w n f live e.
        let a = has_load.next (host_of w) n f.ready.loading.orderly e in
        record { host = a.0; answers = a.1; fits = λ l. answered w a.0 f live a.1 };
    job = λ w j left f live e.
        let how = awaits_keep_bodies.result w j left f.awaits e in
        let some = job_some w j left how.0 f e how.1 in
        record { how = how.0; settled_so = how.1; after = some.after; reacts = some.reacts; fits = some.sound };
  }
