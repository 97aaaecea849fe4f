-- What the calls of a machine tell of the run that it represents.
use Rattle.std.proofs.Common.{◌≡◌, ℕ, Bool, List, [], ◌∷◌, true, false, length, Option, Some, None, refl, ap, subst, sym, ◌∙◌}
use Rattle.std.specs.Prelude.{Result, Ok, Err, IfOk, IsSome, ◌↔◌, is_some, option_map}
use Rattle.std.proofs.lemmas.Result.{IfOk-weaker}
use Rattle.esm_base.specs.declared.end.End.TheVariants as ends
use Rattle.esm_base.specs.declared.memory.Memory.{Memory}
use Rattle.esm_base.specs.declared.status.Status.{Status}
use Rattle.esm_base.specs.Urls.{Text, Url, has}
use Rattle.esm_ast.specs.Outcome.{OutcomeView}
use Rattle.esm_loads.specs.Arrival.{open_asks}
use Rattle.esm_loads.specs.Loading.{Loading}
use Rattle.esm_rewriting.specs.Keeps.{started}
use Rattle.esm_world.specs.World.{World, EntryState}
use Rattle.esm_world.specs.World.{EntryState as entry_state}
use Rattle.esm_world.specs.LastLine.{Ending, ending_by, exit_status}
use Rattle.esm_world.specs.Run.{HasModuleTree, IsAllowed}
use Rattle.esm_world.specs.Turn.{Turn}
use Rattle.esm_ast.specs.Deliveries.{completed}
use Rattle.esm_machine.specs.Held.{Held, EntryHeld, renamed_entry}
use Rattle.esm_machine.specs.Represents.{IsEnded, IsEndedBy, IsLineBy, IsLineByStop, IsLineOf, MayTake, MayTakeBy, ShownBy, ShowsBy, Shows, MachineState, StoppedAs, TakesDelivery, TurnEnd, asks_by_stop, asks_of, ending_by_stop, ending_of}
use Rattle.esm_machine.specs.Machine.{MachineParts, state_of, held_of}
use Rattle.esm_machine.specs.Inner.Parts.{AreLive, seen_in}
use Rattle.esm_machine.specs.declared.parts.Parts.{Parts}
use Rattle.esm_machine.specs.Inner.Leads.{LeadsFrom}
use Rattle.esm_machine.proofs.Tells.{asks_shown, tells_the_run, turns_are_taken}

-- ---- what a standard run shows

module _ (m : MachineState) where
  pub asks_told : (asks : List Url) → asks ≡ asks_of m → ShownBy m (λ what. asks ≡ what.asks)
  asks_told asks e = λ maps entry trace ds what s std. e ∙ sym (tells_the_run m maps entry trace ds what s std).asks

  pub log_told : (log : List ℕ) → log ≡ m.held.engine.log → ShownBy m (λ what. log ≡ what.log)
  log_told log e = λ maps entry trace ds what s std. e ∙ sym (tells_the_run m maps entry trace ds what s std).log

  pub starts_told : (n : ℕ) → n ≡ length (started m.held.engine.events) → ShownBy m (λ what. n ≡ length (started what.events))
  starts_told n e = λ maps entry trace ds what s std. e ∙ sym (tells_the_run m maps entry trace ds what s std).begun

  pub status_told : (status : Option Status) → status ≡ option_map exit_status (ending_of m) → ShownBy m (λ what. status ≡ what.status)
  status_told status e = λ maps entry trace ds what s std. e ∙ sym (tells_the_run m maps entry trace ds what s std).status

  pub stopped_told : (stopped : Option TurnEnd) → stopped ≡ m.stopped → ShownBy m (StoppedAs stopped)
  stopped_told stopped e = λ maps entry trace ds what s std.
      subst (λ o. StoppedAs o what) (sym e) (tells_the_run m maps entry trace ds what s std).stopped

  pub line_told : (r : Result Text Memory) → IfOk r (IsLineOf m) → ShownBy m (λ what. IfOk r (λ line. line ≡ what.last_line))
  line_told r h = λ maps entry trace ds what s std.
      IfOk-weaker r (IsLineOf m) (λ line. line ≡ what.last_line) (λ line p. sym ((tells_the_run m maps entry trace ds what s std).last_line line p)) h

-- ---- the end

mapped_some : (o : Option Ending) → is_some (option_map exit_status o) ≡ is_some o
mapped_some None = refl
mapped_some (Some e) = refl

pub known_told : (m : MachineState) (status : Option Status) → status ≡ option_map exit_status (ending_of m) → is_some status ≡ is_some (ending_of m)
known_told m status e = ap (λ o. is_some o) e ∙ mapped_some (ending_of m)

pub ended_told : (m : MachineState) (status : Option Status) → status ≡ option_map exit_status (ending_of m) → ShownBy m (λ what. is_some status ≡ what.ended)
ended_told m status e = λ maps entry trace ds what s std. known_told m status e ∙ sym (tells_the_run m maps entry trace ds what s std).ended

exactly_live : (asks : List Url) (e : EntryState) → IsSome (ending_by None asks e) ↔ (asks ≡ [])
exactly_live (u ∷ us) e = (λ h. let f : false ≡ true = h in cc, λ h. cc)
exactly_live [] (entry_state.Failed v) = (λ h. refl, λ h. refl)
exactly_live [] entry_state.Ended = (λ h. refl, λ h. refl)
exactly_live [] entry_state.Underway = (λ h. refl, λ h. refl)

exactly_by : (o : Option TurnEnd) (h : Held) → IsSome (ending_by_stop o h) ↔ IsEndedBy o h.seen.loading
exactly_by None h = exactly_live (open_asks h.seen.loading) (renamed_entry _ h.entry)
exactly_by (Some (ends.Fault limit)) h = (λ e. tt, λ e. refl)
exactly_by (Some ends.Memory) h = (λ e. let f : false ≡ true = e in cc, λ e. absurd e)

pub exactly_told : (m : MachineState) (status : Option Status) → status ≡ option_map exit_status (ending_of m) → IsSome status ↔ IsEnded m
exactly_told m status e =
    let k = exactly_by m.stopped m.held in
    (λ h. k.0 (sym (known_told m status e) ∙ h), λ h. known_told m status e ∙ k.1 h)

pub memory_told : (m : MachineState) (status : Option Status) → status ≡ option_map exit_status (ending_of m) → m.stopped ≡ Some ends.Memory → status ≡ None
memory_told m status e h = e ∙ ap (λ o. option_map exit_status (ending_by_stop o m.held)) h

-- ---- the status and the last line

-- no ask is open
pub status_idle : (asks : List Url) (name : ℕ → Url) (e : EntryHeld) (status : Option Status) → asks ≡ []
    → status ≡ option_map exit_status (ending_by None [] (renamed_entry name e)) → status ≡ option_map exit_status (ending_by None asks (renamed_entry name e))
status_idle asks name e status h k = k ∙ ap (λ us. option_map exit_status (ending_by None us (renamed_entry name e))) (sym h)

-- an ask is open
pub status_open : (asks : List Url) (e : EntryState) → (asks ≡ [] → ⊥) → None ≡ option_map exit_status (ending_by None asks e)
status_open (u ∷ us) e n = refl
status_open [] e n = absurd (n refl)

idle : (asks : List Url) (e : EntryState) → is_some (ending_by None asks e) ≡ true → asks ≡ []
idle asks e h = (exactly_live asks e).0 h

-- the last line of a machine that hasn't stopped, and has ended
pub line_live : (m : MachineState) (r : Result Text Memory) → m.stopped ≡ None → is_some (ending_of m) ≡ true → IfOk r (IsLineBy m.held [] m.held.entry)
    → IfOk r (IsLineOf m)
line_live m r e h p =
    let live : is_some (ending_by_stop None m.held) ≡ true = subst (λ o. is_some (ending_by_stop o m.held) ≡ true) e h in
    let none : open_asks m.held.seen.loading ≡ [] = idle (open_asks m.held.seen.loading) (renamed_entry _ m.held.entry) live in
    IfOk-weaker r (IsLineBy m.held [] m.held.entry) (IsLineOf m) (λ line q.
    subst (λ o. IsLineByStop o m.held line) (sym e) (subst (λ us. IsLineBy m.held us m.held.entry line) (sym none) q)) p

pub line_stopped : (m : MachineState) (end : TurnEnd) (r : Result Text Memory) → m.stopped ≡ Some end → IfOk r (IsLineByStop (Some end) m.held) → IfOk r (IsLineOf m)
line_stopped m end r e p = subst (λ o. IfOk r (IsLineByStop o m.held)) (sym e) p

-- ---- deliveries

may_take : (o : Option TurnEnd) (l : Loading) (u : Url) → o ≡ None → MayTakeBy o l u → has (open_asks l) u ≡ true
may_take None l u e h = h
may_take (Some end) l u e h = cc

pub may_turn : (m : MachineState) (u : Url) → m.stopped ≡ None → MayTake m u → has (open_asks m.held.seen.loading) u ≡ true
may_turn m u e h = may_take m.stopped m.held.seen.loading u e h

-- how a call has ended early
abbrev pub result_err : Result (Unit {0}) TurnEnd → Option TurnEnd
result_err (Ok done) = None
result_err (Err end) = Some end

module _ (old new : MachineParts) (u : Url) (c : OutcomeView) (e : old.stopped ≡ None) (may : MayTake (state_of old) u) (tree : HasModuleTree c) where
  live_from : (w : World) → Shows (state_of old) w → AreLive old.parts w
  live_from w s = subst (λ o. ShowsBy o (held_of old.parts) w) e s

  allowed : (w : World) → AreLive old.parts w → IsAllowed w (completed u c)
  allowed w live = record {
    asked = ap (λ us. has us u) (asks_shown None (held_of old.parts) w live) ∙ may_turn (state_of old) u e may;
    tree = tree;
  }

  -- a turn from each world that the machine was in
  pub takes_delivery : (result : Result (Unit {0}) TurnEnd) → new.stopped ≡ result_err result
      → LeadsFrom old.parts (λ w. Turn w u c) result new.parts → TakesDelivery (state_of old) u c result (state_of new)
  takes_delivery (Ok done) f turn = (
    f,
    turns_are_taken (state_of old) (state_of new) u c (λ w s.
        let live : AreLive old.parts w = live_from w s in
        let t = turn w live in
        (allowed w live, (t.0, (t.1, subst (λ o. ShowsBy o (held_of new.parts) t.0) (sym f) t.2)))),
  )
  takes_delivery (Err (ends.Fault limit)) f turn = (
    f,
    turns_are_taken (state_of old) (state_of new) u c (λ w s.
        let live : AreLive old.parts w = live_from w s in
        let t = turn w live in
        (allowed w live, (t.0, (t.1, subst (λ o. ShowsBy o (held_of new.parts) t.0) (sym f) t.2)))),
  )
  takes_delivery (Err ends.Memory) f turn = f

-- ---- from the parts of a machine to what contracts see of it

abbrev pub viewed : Parts → Option TurnEnd → MachineParts
viewed parts stopped = record { parts = parts; stopped = stopped }

module _ (parts : Parts) (stopped : Option TurnEnd) (m : MachineParts) (view : viewed parts stopped ≡ m) where
  pub stopped_at : stopped ≡ (state_of m).stopped
  stopped_at = ap (λ (m : MachineParts). m.stopped) view

  pub log_at : (held_of parts).engine.log ≡ (state_of m).held.engine.log
  log_at = ap (λ (m : MachineParts). (held_of m.parts).engine.log) view

  pub starts_at : length (started (held_of parts).engine.events) ≡ length (started (state_of m).held.engine.events)
  starts_at = ap (λ (m : MachineParts). length (started (held_of m.parts).engine.events)) view

  pub asks_at : (o : Option TurnEnd) (asks : List Url) → stopped ≡ o → asks ≡ asks_by_stop o (seen_in parts).loading → asks ≡ asks_of (state_of m)
  asks_at o asks e h = h ∙ ap (λ o. asks_by_stop o (seen_in parts).loading) (sym e) ∙ ap (λ (m : MachineParts). asks_of (state_of m)) view

  pub open_told : (o : Option TurnEnd) (u : Url) (b : Bool) → stopped ≡ o → b ≡ has (asks_by_stop o (seen_in parts).loading) u → b ≡ has (asks_of (state_of m)) u
  open_told o u b e h = h ∙ ap (λ o. has (asks_by_stop o (seen_in parts).loading) u) (sym e) ∙ ap (λ (m : MachineParts). has (asks_of (state_of m)) u) view

  pub status_at : (o : Option TurnEnd) (status : Option Status) → stopped ≡ o → status ≡ option_map exit_status (ending_by_stop o (held_of parts))
      → status ≡ option_map exit_status (ending_of (state_of m))
  status_at o status e h = h ∙ ap (λ o. option_map exit_status (ending_by_stop o (held_of parts))) (sym e)
      ∙ ap (λ (m : MachineParts). option_map exit_status (ending_of (state_of m))) view

  -- the machine that hasn't stopped may take this delivery
  pub may_at : (u : Url) → stopped ≡ None → MayTake (state_of m) u → has (open_asks (seen_in parts).loading) u ≡ true
  may_at u e may = may_take stopped (seen_in parts).loading u e (subst (λ (m : MachineParts). MayTake (state_of m) u) (sym view) may)

  pub line_live_at : (r : Result Text Memory) → stopped ≡ None → is_some (ending_of (state_of m)) ≡ true
      → IfOk r (IsLineBy (held_of parts) [] (held_of parts).entry) → IfOk r (IsLineOf (state_of m))
  line_live_at r e h p =
      let ended : is_some (ending_of (state_of (viewed parts stopped))) ≡ true = subst (λ (m : MachineParts). is_some (ending_of (state_of m)) ≡ true) (sym view) h in
      subst (λ (m : MachineParts). IfOk r (IsLineOf (state_of m))) view (line_live (state_of (viewed parts stopped)) r e ended p)

  pub line_stopped_at : (end : TurnEnd) (r : Result Text Memory) → stopped ≡ Some end → IfOk r (IsLineByStop (Some end) (held_of parts)) → IfOk r (IsLineOf (state_of m))
  line_stopped_at end r e p = subst (λ (m : MachineParts). IfOk r (IsLineOf (state_of m))) view (line_stopped (state_of (viewed parts stopped)) end r e p)

  -- from the parts that the machine had to those that it has
  pub takes_at : (new : MachineParts) (u : Url) (c : OutcomeView) (result : Result (Unit {0}) TurnEnd) → stopped ≡ None → new.stopped ≡ result_err result
      → MayTake (state_of m) u → HasModuleTree c → LeadsFrom parts (λ w. Turn w u c) result new.parts → TakesDelivery (state_of m) u c result (state_of new)
  takes_at new u c result e f may tree turn =
      subst (λ (m : MachineParts). MayTake (state_of m) u → TakesDelivery (state_of m) u c result (state_of new)) view
      (λ may. takes_delivery (viewed parts stopped) new u c e may tree result f turn) may
