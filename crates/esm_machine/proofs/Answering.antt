-- A pending request is answered, and all jobs run behind it: a task.
use Rattle.std.proofs.Common.{◌≡◌, ℕ, ◌<◌, Bool, true, false, Some, None, refl, ap, subst, sym, ◌∙◌, arith}
use Rattle.std.specs.Prelude.{Result, Ok, Err}
use Rattle.esm_base.specs.declared.end.End.TheVariants as ends
use Rattle.esm_base.specs.declared.limits.Limit.{Limit}
use Rattle.esm_base.specs.Urls.{Url}
use Rattle.esm_values.specs.Errors.{Errors}
use Rattle.esm_promise.specs.Code.{Numbered}
use Rattle.esm_loads.specs.Arrival.{AnswersNext, next, pending_left}
use Rattle.esm_loads.specs.Host.{Host}
use Rattle.esm_loads.specs.Hosted.{host_of}
use Rattle.esm_loads.specs.Laws.{FewerLeft}
use Rattle.esm_loads.specs.Loading.{Loading}
use Rattle.esm_loads.specs.LoadsAsLoading.{loading_of}
use Rattle.esm_world.specs.World as world
use Rattle.esm_world.specs.World.{World}
use Rattle.esm_world.specs.Jobs.{Jobs}
use Rattle.esm_world.specs.Sound.{WorldsStaySound}
use Rattle.esm_world.proofs.WorldGrows.{jobs_progress}
use Rattle.esm_machine.specs.Arrivals.{ArrivalsAreOfTheWorld}
use Rattle.esm_machine.specs.Calls.{AnswersBy, KeepsRecords, UnlessLost, condition_of}
use Rattle.esm_machine.specs.Held.{Held, IsHalted, with_host}
use Rattle.esm_machine.specs.ModuleStore.{Imported, is_whole, loading_by, seen_of}
use Rattle.esm_machine.specs.Represents.{IsLive, TurnEnd}
use Rattle.esm_machine.specs.Seen.{names}
use Rattle.esm_machine.specs.SeenScopes.{ScopesStay}
use Rattle.esm_machine.specs.Inner.Leads.{LeadsBehind, LeadsByTask, LeadsFrom}
use Rattle.esm_machine.specs.Inner.Parts.{AreLive, AreSound, seen_in}
use Rattle.esm_machine.specs.Machine.{held_of, scopes_by}
use Rattle.esm_machine.specs.declared.condition.Condition.{Condition}
use Rattle.esm_machine.specs.declared.condition.Condition.TheVariants as conditions
use Rattle.esm_machine.specs.declared.parts.Parts.{Parts}
use Rattle.esm_machine.proofs.Outside.{in_order_on, with_outside}
use Rattle.esm_machine.proofs.Whole.{live_is}

-- ---- results

abbrev pub answered : Bool → Result Bool TurnEnd
answered b = Ok b

abbrev pub refused : TurnEnd → Result Bool TurnEnd
refused end = Err end

abbrev pub done : Result (Unit {0}) TurnEnd
done = Ok tt

abbrev pub ended : TurnEnd → Result (Unit {0}) TurnEnd
ended end = Err end

-- loading is that of the world
pub loading_live : (p : Parts) (w : World) → AreLive p w → w.loading ≡ (seen_in p).loading
loading_live p w live = ap (λ (v : World). v.loading) live.stands.world

-- a limit has stopped loading
stopped_by_limit : (c : Condition) (l : Loading) (limit : Limit) → c ≡ conditions.Stopped limit → (loading_by c l).stopped ≡ Some limit
stopped_by_limit c l limit e = ap (λ c. (loading_by c l).stopped) e

stopped_at : (i : Imported) (limit : Limit) → i.condition ≡ conditions.Stopped limit → (seen_of i).loading.stopped ≡ Some limit
stopped_at i limit e = stopped_by_limit i.condition (loading_of i.maps i.loads i.records) limit e

module _ (p : Parts) (ps : Numbered) (es : Errors) (i : Imported) where
  abbrev New : Parts
  New = with_outside p ps es i

  abbrev name : ℕ → Url
  name m = (names (seen_in p)).name m

  -- promises, errors and loading by URLs, before the answer and after it
  abbrev Before : Host
  Before = host_of name p.host.promises p.host.bodies.errors (seen_in p).loading

  abbrev After : Host
  After = host_of name ps es (seen_of i).loading

  -- ---- an answer that no limit stops

  module _ (s : AreSound p) (whole : is_whole i.condition ≡ true) (k : KeepsRecords (seen_in p) (seen_of i)) (a : AnswersNext Before After)
      (arrivals : ArrivalsAreOfTheWorld) where
    held_is : held_of New ≡ with_host (held_of p) ps es (seen_of i).loading
    held_is = λ j. record (held_of p) {
      seen = record { loading = (seen_of i).loading; urls = k.urls j; linked = k.linked j };
      promises = ps;
      errors = es;
    }

    answers_in : (w : World) → AreLive p w → AnswersNext (world.host_of w) After × AreLive New (world.with_host w After)
    answers_in w live =
        let r = arrivals.answers (held_of p) w ps es (seen_of i).loading (Ok tt) live a (live_is i whole) in
        (r.1.0, subst (λ (v : World). AreLive New v) r.1.1 (subst (λ (h : Held). IsLive h r.0) (sym held_is) r.2))

    answer_sound : WorldsStaySound → ScopesStay → AreSound New
    answer_sound stay scopes =
        let r = answers_in s.world s.live in
        record {
          world = world.with_host s.world After;
          live = r.1;
          sound = stay.answers s.world After s.sound s.live.live r.0;
          order = in_order_on p s.order s.world s.live s.sound.ready.fit ps es i
              (scopes.answers (seen_in p) (seen_of i) name p.host.promises ps p.host.bodies.errors es (scopes_by p.host.bodies) a k s.order.scopes) whole k;
        }

    task_goes_on : (new : Parts) → LeadsFrom New Jobs done new → (w : World) → AreLive p w → LeadsByTask w (answered true) new
    task_goes_on new jobs w live =
        let r = answers_in w live in
        let j = jobs (world.with_host w After) r.1 in
        (j.0, record { live = live.live; host = After; answers = r.0; jobs = j.1 }, j.2)

    task_ends : (end : TurnEnd) (new : Parts) → LeadsFrom New Jobs (ended end) new → (w : World) → AreLive p w → LeadsByTask w (refused end) new
    task_ends (ends.Fault limit) new jobs w live =
        let r = answers_in w live in
        let j = jobs (world.with_host w After) r.1 in
        (j.0, record { live = live.live; host = After; answers = r.0; jobs = j.1 }, j.2)
    task_ends ends.Memory new jobs w live = tt

    -- fewer pending requests of fetched URLs are left
    fewer : (new : Parts) → FewerLeft → LeadsFrom New Jobs done new → pending_left (seen_in new).loading < pending_left (seen_in p).loading
    fewer new fewer_left jobs =
        let r = answers_in s.world s.live in
        let j = jobs (world.with_host s.world After) r.1 in
        let same : pending_left (seen_in new).loading ≡ pending_left (seen_of i).loading =
        ap pending_left (sym (loading_live new j.0 j.2)) ∙ (jobs_progress j.1).left in
        let less : pending_left (seen_of i).loading < pending_left (seen_in p).loading = fewer_left.answer Before After a in
        omega (arith, same, less)

  -- ---- what the call tells

  module _ (s : AreSound p) (b : Bool) (condition : i.condition ≡ condition_of (answered b))
      (answers : (named : ℕ → Url) → AnswersBy (answered b) (host_of named p.host.promises p.host.bodies.errors (seen_in p).loading) (host_of named ps es (seen_of i).loading))
      (unchanged : answered b ≡ Ok false → (i ≡ p.host.bodies.imports) × (ps ≡ p.host.promises) × (es ≡ p.host.bodies.errors))
      (kept : UnlessLost i.condition (KeepsRecords (seen_in p) (seen_of i))) where
    whole_now : is_whole i.condition ≡ true
    whole_now = ap is_whole condition

    records_now : KeepsRecords (seen_in p) (seen_of i)
    records_now = subst (λ c. UnlessLost c (KeepsRecords (seen_in p) (seen_of i))) condition kept

    same_parts : b ≡ false → New ≡ p
    same_parts e =
        let u = unchanged (ap answered e) in
        λ j. with_outside p (u.1 j) (u.2 j) (u.0 j)

    answers_true : b ≡ true → AnswersNext Before After
    answers_true e = subst (λ c. AnswersBy (answered c) Before After) e (answers name)

    none_next : b ≡ false → next (seen_in p).loading ≡ None
    none_next e = subst (λ c. AnswersBy (answered c) Before After) e (answers name)

    module _ (arrivals : ArrivalsAreOfTheWorld) where
      pub behind_sound : WorldsStaySound → ScopesStay → AreSound New
      behind_sound stay scopes = by b refl
        where
          by : (c : Bool) → b ≡ c → AreSound New
          by true e = answer_sound s whole_now records_now (answers_true e) arrivals stay scopes
          by false e = subst AreSound (sym (same_parts e)) s

      leads_true : (result : Result Bool TurnEnd) (new : Parts) → b ≡ true → LeadsBehind true New result new → (w : World) → AreLive p w → LeadsByTask w result new
      leads_true (Ok true) new e l w live = task_goes_on s whole_now records_now (answers_true e) arrivals new l.1 w live
      leads_true (Ok false) new e l w live = absurd (let f : false ≡ true = l.0 in cc)
      leads_true (Err end) new e l w live = task_ends s whole_now records_now (answers_true e) arrivals end new l w live

      leads_false : (result : Result Bool TurnEnd) (new : Parts) → b ≡ false → LeadsBehind false New result new → (w : World) → AreLive p w → LeadsByTask w result new
      leads_false result new e l w live =
          let none : next w.loading ≡ None = ap next (loading_live p w live) ∙ none_next e in
          let there : AreLive new w = subst (λ q. AreLive q w) (sym (l.1 ∙ same_parts e)) live in
          subst (λ r. LeadsByTask w r new) (sym l.0) (none, there)

      pub leads_task : (result : Result Bool TurnEnd) (new : Parts) → LeadsBehind b New result new → (w : World) → AreLive p w → LeadsByTask w result new
      leads_task result new l = by b refl l
        where
          by : (c : Bool) → b ≡ c → LeadsBehind c New result new → (w : World) → AreLive p w → LeadsByTask w result new
          by true e l w live = leads_true result new e l w live
          by false e l w live = leads_false result new e l w live

      falls_true : FewerLeft → (new : Parts) → b ≡ true → LeadsBehind true New (answered true) new → pending_left (seen_in new).loading < pending_left (seen_in p).loading
      falls_true fewer_left new e l = fewer s whole_now records_now (answers_true e) arrivals new fewer_left l.1

      pub falls_task : FewerLeft → (result : Result Bool TurnEnd) (new : Parts) → LeadsBehind b New result new → result ≡ Ok true
          → pending_left (seen_in new).loading < pending_left (seen_in p).loading
      falls_task fewer_left result new l t = by b refl (subst (λ r. LeadsBehind b New r new) t l)
        where
          by : (c : Bool) → b ≡ c → LeadsBehind c New (answered true) new → pending_left (seen_in new).loading < pending_left (seen_in p).loading
          by true e l = falls_true fewer_left new e l
          by false e l = absurd (let f : ◌≡◌ {A = Result Bool TurnEnd} (Ok true) (Ok false) = l.0 in cc)

    pub none_task : (result : Result Bool TurnEnd) (new : Parts) → LeadsBehind b New result new → result ≡ Ok false → next (seen_in new).loading ≡ None
    none_task result new l t = by b refl (subst (λ r. LeadsBehind b New r new) t l)
      where
        by : (c : Bool) → b ≡ c → LeadsBehind c New (answered false) new → next (seen_in new).loading ≡ None
        by true e l = absurd (let f : false ≡ true = l.0 in cc)
        by false e l = ap (λ q. next (seen_in q).loading) (l.1 ∙ same_parts e) ∙ none_next e

  -- ---- a limit stops the answer

  module _ (end : TurnEnd) (condition : i.condition ≡ condition_of (refused end))
      (answers : (named : ℕ → Url) → AnswersBy (refused end) (host_of named p.host.promises p.host.bodies.errors (seen_in p).loading) (host_of named ps es (seen_of i).loading))
      (arrivals : ArrivalsAreOfTheWorld) where
    pub stops_task : (w : World) → AreLive p w → LeadsByTask w (refused end) New
    stops_task w live = by end condition (answers name)
      where
        by : (end : TurnEnd) → i.condition ≡ condition_of (refused end) → AnswersBy (refused end) Before After → LeadsByTask w (refused end) New
        by (ends.Fault limit) c a =
            let r = arrivals.answers (held_of p) w ps es (seen_of i).loading (Err limit) live a (stopped_at i limit c) in
            let halted : IsHalted limit (held_of p).engine (world.with_host w After) = subst (λ (v : World). IsHalted limit (held_of p).engine v) r.1.1 r.2 in (
              world.with_host w After,
              record { live = live.live; host = After; answers = r.1.0; jobs = Jobs.stops limit halted.stopped },
              halted,
            )
        by ends.Memory c a = tt
