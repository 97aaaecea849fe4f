-- Over the modules of a closure jobs come to an end, and are the same in each world with a loading that has these modules.
use Rattle.std.proofs.Common.{◌≡◌, ℕ, zero, suc, ◌<◌, ◌≤◌, Bool, true, false, List, [], ◌∷◌, map, Option, Some, None, refl, ap, sym, ◌∙◌, arith}
use Rattle.std.specs.Option.{option_map, option_or}
use Rattle.esm_base.specs.declared.limits.Limit.{Limit}
use Rattle.esm_base.specs.declared.limits.TheConstants.{MAX_STEPS}
use Rattle.esm_base.specs.Urls.{Url, same_url}
use Rattle.esm_values.specs.Value.{Value}
use Rattle.esm_promise.specs.Promises.{Promises, Settled, Job, next_job, settled}
use Rattle.esm_promise.specs.Reactions.{Reaction, Await, BodyEnd, Loaded, Evaluated, EntryLoaded, EntryDone}
use Rattle.esm_promise.specs.Renaming.{renamed, renamed_reaction, renamed_settled, renamed_job, renamed_taken}
use Rattle.esm_promise.proofs.Renamed as promises
use Rattle.esm_resolve.specs.SharedSet.{SharedSetAgrees, SharedSetEnds}
use Rattle.esm_env.specs.Modules.{Modules}
use Rattle.esm_loads.specs.Loading.{Loading}
use Rattle.esm_rewriting.specs.State.{Standing}
use Rattle.esm_rewriting.specs.Bodies.{Taken, behind, take_by, take_standing}
use Rattle.esm_rewriting.specs.Fits.{AreLinked}
use Rattle.esm_rewriting.specs.Naming.{renamed_standing}
use Rattle.esm_world.specs.ImportCalls.{holds_import}
use Rattle.esm_world.specs.World.{World, stopped}
use Rattle.esm_world.specs.Jobs.{Jobs}
use Rattle.esm_world.specs.Awaits.{AwaitsHaveBodies}
use Rattle.esm_world.specs.Measure.{left}
use Rattle.esm_world.proofs.AwaitsKept.{awaits_keep_bodies}
use Rattle.esm_world.proofs.ReactsLower.{steps_left, job_lowers, job_within}
use Rattle.esm_world.proofs.TurnsEnd.{Lower}
use Rattle.esm_direct_laws.proofs.Members.{Member, names, same_member}
use Rattle.esm_direct_laws.proofs.MemberWorld.{M, V, WorldM, with_promises}
use Rattle.esm_direct_laws.proofs.MemberImage.{image}
use Rattle.esm_direct_laws.proofs.MemberFits.{FitPs, Plain, first_plain, result_known, with_fit}
use Rattle.esm_direct_laws.proofs.MemberSteps.{Suits, Once, FitW, FindsM, Steps, steps, alike}

module _ (xs : List Url) (g : Modules (Member xs)) (are_linked : AreLinked g (λ m. true)) (quiet : (m : Member xs) → holds_import (g.tree m) ≡ false) (agrees : SharedSetAgrees) (ends : SharedSetEnds)
    (first : Member xs) (base : Loading) (suits : Suits xs g are_linked quiet agrees ends first base) where
  abbrev W : Type 0
  W = WorldM xs

  abbrev Fit : W → Type 0
  Fit w = FitW xs g are_linked quiet agrees ends first w

  abbrev OnceW : W → Type 0
  OnceW w = Once xs g are_linked quiet agrees ends first w

  abbrev SuitsL : Loading → Type 0
  SuitsL l = Suits xs g are_linked quiet agrees ends first l

  abbrev seen : Loading → W → World
  seen l w = image xs g l w

  abbrev R : Type 0
  R = Reaction (M xs)

  abbrev Ps : Type 0
  Ps = Promises R (V xs)

  -- ---- a body that stands, by its name

  abbrev S : Type 0
  S = Standing (M xs)

  abbrev seen_standing : S → Standing Url
  seen_standing s = renamed_standing (names xs) s

  abbrev seen_taken : Taken (M xs) → Taken Url
  seen_taken t = record { standing = seen_standing t.standing; others = map seen_standing t.others }

  behind_seen : (s : S) (o : Option (Taken (M xs))) → behind same_url (seen_standing s) (option_map seen_taken o) ≡ option_map seen_taken (behind (same_member xs) s o)
  behind_seen s None = refl
  behind_seen s (Some t) = refl

  by_seen : (b : Bool) (s : S) (ss : List S) (o : Option (Taken (M xs))) → take_by same_url b (seen_standing s) (map seen_standing ss) (option_map seen_taken o) ≡ option_map seen_taken (take_by (same_member xs) b s ss o)
  by_seen true s ss o = refl
  by_seen false s ss o = behind_seen s o

  takes_seen : (ss : List S) (m : M xs) → take_standing same_url (map seen_standing ss) m.url ≡ option_map seen_taken (take_standing (same_member xs) ss m)
  takes_seen [] m = refl
  takes_seen (s ∷ ss) m = ap (take_by same_url (same_member xs s.at m) (seen_standing s) (map seen_standing ss)) (takes_seen ss m) ∙ by_seen (same_member xs s.at m) s ss (take_standing (same_member xs) ss m)

  found : (o : Option (Taken (M xs))) (t : Taken Url) → option_map seen_taken o ≡ Some t → (u : Taken (M xs)) × (o ≡ Some u)
  found None t e = cc
  found (Some u) t e = (u, refl)

  -- ---- the next job

  abbrev law_takes : (ps : Ps) → next_job (renamed (names xs).name ps) ≡ option_map (renamed_taken (names xs).name) (next_job ps)
  law_takes ps = (promises.follows_names (names xs).name).takes ps

  result_of : (o : Option (Settled (V xs))) (how : Settled (Value Url)) → option_map (renamed_settled (names xs).name) o ≡ Some how → (by : Settled (V xs)) × (o ≡ Some by)
  result_of None how e = cc
  result_of (Some by) how e = (by, refl)

  -- ---- what holds between two jobs

  pub record Ready (w : W) : Type 0 where
    pub fits : Fit w
    pub once : OnceW w
    pub awaits : AwaitsHaveBodies (seen base w)
    pub few : w.engine.steps ≤ MAX_STEPS

  -- the jobs of each such world, and what they leave
  pub record JobsEnd (w : W) : Type 0 where
    pub after : W
    pub jobs : (l : Loading) → SuitsL l → Jobs (seen l w) (seen l after)
    pub fits : Fit after

  stopped_is : (l : Loading) → SuitsL l → (w : W) → stopped (seen l w) ≡ w.engine.stopped
  stopped_is l s w = ap (λ o. option_or o w.engine.stopped) s.live

  abbrev IsLower : W → W → Type 0
  IsLower mid w = Lower steps_left left (seen base mid) (seen base w)

  -- a job, and what it leaves
  record Done (w : W) (j : Job R) (rest : Ps) : Type 0 where
    mid : W
    jobs : (l : Loading) → SuitsL l → (after : World) → Jobs (seen l mid) after → Jobs (seen l w) after
    fits : Fit mid
    ready : mid.engine.stopped ≡ None → Ready mid
    lower : mid.engine.stopped ≡ None → IsLower mid w

  one_job : (w : W) → Ready w → w.engine.stopped ≡ None → (j : Job R) (rest : Ps) → next_job w.promises ≡ Some (j, rest) → Done w j rest
  one_job w r live j rest e = record {
    mid = s.after;
    jobs = λ l k after q. Jobs.job (renamed_job name j) (renamed name rest) (renamed_settled name how.0) (stopped_is l k w ∙ live) next (settled_so) (s.reacts l k) q;
    fits = s.fits;
    ready = λ l. record {
      fits = s.fits;
      once = s.once l;
      awaits = awaits_keep_bodies.reacts (seen base w) (seen base s.after) (renamed_job name j) (renamed name rest) (renamed_settled name how.0) r.awaits next (s.reacts base suits);
      few = job_within (seen base w) (seen base s.after) (renamed_reaction name j.reaction) (renamed name rest) (renamed_settled name how.0) r.few (s.reacts base suits) (stopped_is base suits s.after ∙ l);
    };
    lower = λ l. job_lowers (seen base w) (seen base s.after) (renamed_job name j) (renamed name rest) (renamed_settled name how.0) r.few next (s.reacts base suits) (stopped_is base suits s.after ∙ l);
  }
    where
      name : M xs → Url
      name = (names xs).name

      next : next_job (renamed (names xs).name w.promises) ≡ Some (renamed_job (names xs).name j, renamed (names xs).name rest)
      next = law_takes w.promises ∙ ap (option_map (renamed_taken (names xs).name)) e

      given : (how : Settled (Value Url)) × (settled (renamed (names xs).name rest) j.promise ≡ Some how)
      given = awaits_keep_bodies.result (seen base w) (renamed_job (names xs).name j) (renamed (names xs).name rest) r.awaits next

      how : (by : Settled (V xs)) × (settled rest j.promise ≡ Some by)
      how = result_of (settled rest j.promise) given.0 (sym ((promises.follows_names (names xs).name).is_settled rest j.promise) ∙ given.1)

      settled_so : settled (renamed (names xs).name rest) j.promise ≡ Some (renamed_settled (names xs).name how.0)
      settled_so = (promises.follows_names (names xs).name).is_settled rest j.promise ∙ ap (option_map (renamed_settled (names xs).name)) how.1

      plain : Plain xs g are_linked quiet agrees ends j.reaction × FitPs xs g are_linked quiet agrees ends rest
      plain = first_plain xs g are_linked quiet agrees ends w.promises.jobs w.promises j rest r.fits.fits.whole.all r.fits.fits.whole.jobs e

      finds : (q : R) → j.reaction ≡ q → FindsM xs g are_linked quiet agrees ends first (with_promises xs w rest) q
      finds (Await m) k =
          let there = awaits_keep_bodies.body (seen base w) (renamed_job (names xs).name j) (renamed (names xs).name rest) m.url r.awaits next (ap (renamed_reaction (names xs).name) k) in
          found (take_standing (same_member xs) w.engine.standing m) there.0 (sym (takes_seen w.engine.standing m) ∙ there.1)
      finds (BodyEnd m) k = tt
      finds (Loaded load) k = tt
      finds (Evaluated load) k = tt
      finds EntryLoaded k = tt
      finds EntryDone k = tt

      s : Steps xs g are_linked quiet agrees ends first (with_promises xs w rest) j.reaction how.0
      s = steps xs g are_linked quiet agrees ends first (with_promises xs w rest) (with_fit xs g are_linked quiet agrees ends w rest r.fits plain.1)
          (alike xs g are_linked quiet agrees ends first w (with_promises xs w rest) refl refl refl r.once) j.reaction how.0 plain.0
          (result_known xs g are_linked quiet agrees ends rest j.promise how.0 plain.1 how.1) (finds j.reaction refl)

  -- ---- jobs come to an end

  jobs_by : (w : W) → Ready w → ((mid : W) → Ready mid → IsLower mid w → JobsEnd mid) → JobsEnd w
  jobs_by w r later = by w.engine.stopped refl (next_job w.promises) refl
    where
      onward : (mid : W) → Fit mid → (mid.engine.stopped ≡ None → Ready mid) → (mid.engine.stopped ≡ None → IsLower mid w) → (s : Option Limit) → mid.engine.stopped ≡ s → JobsEnd mid
      onward mid f g low (Some limit) e = record { after = mid; jobs = λ l k. Jobs.stops limit (stopped_is l k mid ∙ e); fits = f }
      onward mid f g low None e = later mid (g e) (low e)

      by : (s : Option Limit) → w.engine.stopped ≡ s → (o : Option (Job R × Ps)) → next_job w.promises ≡ o → JobsEnd w
      by (Some limit) e o d = record { after = w; jobs = λ l k. Jobs.stops limit (stopped_is l k w ∙ e); fits = r.fits }
      by None e None d = record { after = w; jobs = λ l k. Jobs.none (law_takes w.promises ∙ ap (option_map (renamed_taken (names xs).name)) d); fits = r.fits }
      by None e (Some (j, rest)) d =
          let done = one_job w r e j rest d in
          let last = onward done.mid done.fits done.ready done.lower done.mid.engine.stopped refl in
          record { after = last.after; jobs = λ l k. done.jobs l k (seen l last.after) (last.jobs l k); fits = last.fits }

  abbrev one : W → ℕ
  one w = steps_left (seen base w)

  abbrev two : W → ℕ
  two w = left (seen base w)

  abbrev Below : ℕ → Type 0
  Below a = (w : W) → Ready w → one w < a → JobsEnd w

  by_two : (a : ℕ) → Below a → (b : ℕ) (w : W) → Ready w → one w ≤ a → two w < b → JobsEnd w
  by_two a lower zero w f p q = absurd (omega (arith, q))
  by_two a lower (suc b) w f p q = jobs_by w f (λ mid r l. by (by_two a lower b) mid r l)
    where
      by : ((w : W) → Ready w → one w ≤ a → two w < b → JobsEnd w) → (mid : W) → Ready mid → IsLower mid w → JobsEnd mid
      by again mid r (Lower.first x) = lower mid r (omega (arith, x, p))
      by again mid r (Lower.second x y) = again mid r (omega (arith, x, p)) (omega (arith, y, q))

  by_one : (a : ℕ) → Below a
  by_one zero w f p = absurd (omega (arith, p))
  by_one (suc a) w f p = by_two a (by_one a) (suc (two w)) w f (omega (arith, p)) (omega arith)

  pub jobs_end : (w : W) → Ready w → JobsEnd w
  jobs_end w r = by_one (suc (one w)) w r (omega arith)
