-- Where each job of a world that fits has an outcome that fits, and less is left then, jobs end, tasks end, and each allowed
-- delivery has a turn.
use Rattle.std.proofs.Common.{◌≡◌, ℕ, zero, suc, ◌<◌, ◌≤◌, Bool, List, [], ◌∷◌, Option, Some, None, refl, ap, subst, sym, ◌∙◌, arith}
use Rattle.std.specs.Option.{option_or}
use Rattle.esm_base.specs.declared.limits.Limit.{Limit}
use Rattle.esm_base.specs.Urls.{Url}
use Rattle.esm_tree.specs.Syntax.{Item}
use Rattle.esm_import_map.specs.ImportMap.{Maps}
use Rattle.esm_values.specs.Value.{Value}
use Rattle.esm_promise.specs.Promises.{Promises, Settled, Job, next_job, settled}
use Rattle.esm_promise.specs.Reactions.{Reaction}
use Rattle.esm_loads.specs.Host.{Host}
use Rattle.esm_loads.specs.Arrival.{Next, next, AnswersNext, pending_left}
use Rattle.esm_loads.proofs.Pending.{fewer_left}
use Rattle.esm_world.specs.World.{World, host_of, with_host, opening, stopped}
use Rattle.esm_world.specs.Layers.{with_promises}
use Rattle.esm_world.specs.Jobs.{Reacts, Jobs}
use Rattle.esm_world.specs.Turn.{Tasks, Turn, fetched}
use Rattle.esm_world.specs.Run.{IsAllowed, Runs}
use Rattle.esm_ast.specs.Deliveries.{Delivery}
use Rattle.esm_world.specs.Laws.{HasTurn}
use Rattle.esm_world.proofs.OneRun.{turn_one}
use Rattle.esm_world.proofs.WorldGrows.{jobs_progress}
use Rattle.esm_world.proofs.Deliveries.{open_ask}

abbrev Queue : Type 0
Queue = Promises (Reaction Url) (Value Url)

-- less is left: by the first count, or else the second
module _ (one two : World → ℕ) where
  pub data Lower (mid w : World) : Type 0 where
    first : one mid < one w → Lower mid w
    second : one mid ≤ one w → two mid < two w → Lower mid w

module _ (Fits : World → Type 0) (one two : World → ℕ) where
  pub record JobDone (w : World) (j : Job (Reaction Url)) (left : Queue) : Type 0 where
    pub how : Settled (Value Url)
    pub settled_so : settled left j.promise ≡ Some how
    pub mid : World
    pub reacts : Reacts (with_promises w left) j.reaction how mid
    pub fits : stopped mid ≡ None → Fits mid
    pub lower : stopped mid ≡ None → Lower one two mid w

  pub record TaskDone (w : World) : Type 0 where
    pub host : Host
    pub answers : AnswersNext (host_of w) host
    pub fits : stopped (with_host w host) ≡ None → Fits (with_host w host)

  pub record CanTurn : Type 0 where
    pub opens : (maps : Maps) (built : List Item → Bool) (entry : Url) (trace : Bool) → Fits (opening maps built entry trace)
    pub fetches : (w : World) (d : Delivery) → Fits w → IsAllowed w d → (fetched w d.url d.outcome).loading.stopped ≡ None → Fits (fetched w d.url d.outcome)
    pub answer : (w : World) (n : Next) → Fits w → stopped w ≡ None → next w.loading ≡ Some n → TaskDone w
    pub job : (w : World) (j : Job (Reaction Url)) (left : Queue) → Fits w → stopped w ≡ None → next_job w.promises ≡ Some (j, left) → JobDone w j left

  module _ (k : CanTurn) where
    -- ---- jobs

    pub record JobsEnd (w : World) : Type 0 where
      pub after : World
      pub jobs : Jobs w after
      pub fits : stopped after ≡ None → Fits after

    jobs_by : (w : World) → Fits w → ((mid : World) → Fits mid → Lower one two mid w → JobsEnd mid) → JobsEnd w
    jobs_by w f later = by (stopped w) refl (next_job w.promises) refl
      where
        onward : (mid : World) → (stopped mid ≡ None → Fits mid) → (stopped mid ≡ None → Lower one two mid w) → (s : Option Limit) → stopped mid ≡ s → JobsEnd mid
        onward mid g l (Some limit) e = record { after = mid; jobs = Jobs.stops limit e; fits = λ live. absurd (let k = sym e ∙ live in cc) }
        onward mid g l None e = later mid (g e) (l e)

        by : (s : Option Limit) → stopped w ≡ s → (o : Option (Job (Reaction Url) × Queue)) → next_job w.promises ≡ o → JobsEnd w
        by (Some limit) e o d = record { after = w; jobs = Jobs.stops limit e; fits = λ l. f }
        by None e None d = record { after = w; jobs = Jobs.none d; fits = λ l. f }
        by None e (Some (j, left)) d =
            let done = k.job w j left f e d in
            let rest = onward done.mid done.fits done.lower (stopped done.mid) refl in
            record { after = rest.after; jobs = Jobs.job j left done.how e d done.settled_so done.reacts rest.jobs; fits = rest.fits }

    abbrev Below : ℕ → Type 0
    Below a = (w : World) → Fits w → one w < a → JobsEnd w

    by_two : (a : ℕ) → Below a → (b : ℕ) (w : World) → Fits w → one w ≤ a → two w < b → JobsEnd w
    by_two a lower zero w f p q = absurd (omega (arith, q))
    by_two a lower (suc b) w f p q = jobs_by w f (λ mid g l. by (by_two a lower b) mid g l)
      where
        by : ((w : World) → Fits w → one w ≤ a → two w < b → JobsEnd w) → (mid : World) → Fits mid → Lower one two mid w → JobsEnd mid
        by again mid g (Lower.first x) = lower mid g (omega (arith, x, p))
        by again mid g (Lower.second x y) = again mid g (omega (arith, x, p)) (omega (arith, y, q))

    by_one : (a : ℕ) → Below a
    by_one zero w f p = absurd (omega (arith, p))
    by_one (suc a) w f p = by_two a (by_one a) (suc (two w)) w f (omega (arith, p)) (omega arith)

    pub jobs_end : (w : World) → Fits w → JobsEnd w
    jobs_end w f = by_one (suc (one w)) w f (omega arith)

    -- where a limit has stopped there is none
    jobs_from : (w : World) → (stopped w ≡ None → Fits w) → (s : Option Limit) → stopped w ≡ s → JobsEnd w
    jobs_from w g (Some limit) e = record { after = w; jobs = Jobs.stops limit e; fits = λ live. absurd (let k = sym e ∙ live in cc) }
    jobs_from w g None e = jobs_end w (g e)

    -- ---- tasks

    record TasksEnd (w : World) : Type 0 where
      after : World
      tasks : Tasks w after
      fits : stopped after ≡ None → Fits after

    tasks_by : (n : ℕ) (w : World) → Fits w → pending_left w.loading < n → TasksEnd w
    tasks_by zero w f lt = absurd (omega (arith, lt))
    tasks_by (suc n) w f lt = by (tasks_by n) (stopped w) refl (next w.loading) refl
      where
        onward : ((w : World) → Fits w → pending_left w.loading < n → TasksEnd w) → (mid : World) → (stopped mid ≡ None → Fits mid) → pending_left mid.loading < n → (s : Option Limit) → stopped mid ≡ s → TasksEnd mid
        onward again mid g less (Some limit) e = record { after = mid; tasks = Tasks.stops limit e; fits = λ live. absurd (let k = sym e ∙ live in cc) }
        onward again mid g less None e = again mid (g e) less

        by : ((w : World) → Fits w → pending_left w.loading < n → TasksEnd w) → (s : Option Limit) → stopped w ≡ s → (o : Option Next) → next w.loading ≡ o → TasksEnd w
        by again (Some limit) e o d = record { after = w; tasks = Tasks.stops limit e; fits = λ l. f }
        by again None e None d = record { after = w; tasks = Tasks.none d; fits = λ l. f }
        by again None e (Some who) d =
            let done = k.answer w who f e d in
            let rest = jobs_from (with_host w done.host) done.fits (stopped (with_host w done.host)) refl in
            let fewer : pending_left done.host.imports < pending_left w.loading = fewer_left.answer (host_of w) done.host done.answers in
            let same : pending_left rest.after.loading ≡ pending_left done.host.imports = (jobs_progress rest.jobs).left in
            let last = onward again rest.after rest.fits (omega (arith, fewer, same, lt)) (stopped rest.after) refl in
            record { after = last.after; tasks = Tasks.task e done.answers rest.jobs last.tasks; fits = last.fits }

    -- ---- turns

    record TurnEnds (w : World) (d : Delivery) : Type 0 where
      after : World
      turn : Turn w d.url d.outcome after
      fits : stopped after ≡ None → Fits after

    some_stopped : (w : World) (limit : Limit) → w.loading.stopped ≡ Some limit → stopped w ≡ None → ⊥
    some_stopped w limit e live = by w.loading.stopped e live
      where
        by : (o : Option Limit) → o ≡ Some limit → option_or o w.engine.stopped ≡ None → ⊥
        by None e live = cc
        by (Some l) e live = cc

    turn_ends : (w : World) (d : Delivery) → Fits w → IsAllowed w d → TurnEnds w d
    turn_ends w d f a = by (fetched w d.url d.outcome).loading.stopped refl
      where
        by : (s : Option Limit) → (fetched w d.url d.outcome).loading.stopped ≡ s → TurnEnds w d
        by (Some limit) e = record { after = fetched w d.url d.outcome; turn = Turn.limit limit e; fits = λ live. absurd (some_stopped (fetched w d.url d.outcome) limit e live) }
        by None e =
            let rest = tasks_by (suc (pending_left (fetched w d.url d.outcome).loading)) (fetched w d.url d.outcome) (k.fetches w d f a e) (omega arith) in
            record { after = rest.after; turn = Turn.turn e rest.tasks; fits = rest.fits }

    pub runs_fit : (ds : List Delivery) (w after : World) → (stopped w ≡ None → Fits w) → Runs w ds after → stopped after ≡ None → Fits after
    runs_fit [] w after f r live = subst (λ w. Fits w) (sym r) (f (ap stopped (sym r) ∙ live))
    runs_fit (d ∷ ds) w after f r live =
        let ends = turn_ends w d (f (open_ask w d.url r.0.asked).live) r.0 in
        let same : ends.after ≡ r.1 = turn_one ends.turn r.2 in
        runs_fit ds r.1 after (λ l. subst (λ w. Fits w) same (ends.fits (ap stopped same ∙ l))) r.3 live

    pub has_turn : HasTurn
    has_turn maps built entry trace ds w d r a =
        let live = (open_ask w d.url a.asked).live in
        let ends = turn_ends w d (runs_fit ds (opening maps built entry trace) w (λ l. k.opens maps built entry trace) r live) a in
        (ends.after, ends.turn)
