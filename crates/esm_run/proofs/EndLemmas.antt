-- What a machine may take, and how its run ends.
use Rattle.std.proofs.Common.{Bool, ◌≡◌, ◌≢◌, ◌∙◌, ap, sym, subst, refl, ℕ, List, [], ◌++◌, true}
use Rattle.std.specs.Prelude.{Option, Some, None, is_some, option_map}
use Rattle.std.proofs.lemmas.List.{append_assoc}
use Rattle.esm_base.specs.declared.status.Status.{Status}
use Rattle.esm_base.specs.declared.status.Status.TheVariants as statuses
use Rattle.esm_base.specs.Urls.{Url, has}
use Rattle.esm_loads.specs.Loading.{Loading}
use Rattle.esm_base.specs.declared.end.End.TheVariants as ends
use Rattle.esm_world.specs.LastLine.{Ending, ending_by, exit_status, Stopped, Uncaught, Done, Pending}
use Rattle.esm_loads.specs.LoadsView.{every_form}
use Rattle.esm_world.specs.Run.{Shown, ending, StandardRun}
use Rattle.esm_ast.specs.Deliveries.{Delivery}
use Rattle.esm_world.specs.World.{World, EntryState, Underway, Ended, Failed}
use Rattle.esm_machine.specs.Seen.{names}
use Rattle.esm_machine.specs.Held.{Held, renamed_entry}
use Rattle.esm_machine.specs.Machine.{MachineParts, state_of}
use Rattle.esm_machine.specs.Represents.{TurnEnd, MachineState, ShowsBy, MayTake, MayTakeBy, asks_of, asks_by_stop, ending_of, ending_by_stop, Represents}
use Rattle.esm_import_map.specs.ImportMap.{Maps}
use Rattle.esm_run.specs.Written.{last_text, written_text}

-- an open ask may be taken, and its machine hasn't stopped
may_take_by : (stop : Option TurnEnd) (l : Loading) (u : Url) → has (asks_by_stop stop l) u ≡ true → MayTakeBy stop l u
may_take_by None l u open_ask = open_ask
may_take_by (Some end) l u open_ask = tt

pub may_take : (m : MachineState) (u : Url) → has (asks_of m) u ≡ true → MayTake m u
may_take m u open_ask = may_take_by m.stopped m.held.seen.loading u open_ask

live_by : (stop : Option TurnEnd) (l : Loading) (u : Url) → has (asks_by_stop stop l) u ≡ true → stop ≡ None
live_by None l u open_ask = refl
live_by (Some end) l u open_ask = absurd (cc open_ask)

pub live_of : (m : MachineState) (u : Url) → has (asks_of m) u ≡ true → m.stopped ≡ None
live_of m u open_ask = live_by m.stopped m.held.seen.loading u open_ask

-- a machine that represents deliveries and has no open ask has ended
ended_entry : (entry : EntryState) → is_some (ending_by None [] entry) ≡ true
ended_entry Underway = refl
ended_entry Ended = refl
ended_entry (Failed v) = refl

ended_by : (stop : Option TurnEnd) (h : Held) (w : World) → ShowsBy stop h w → asks_by_stop stop h.seen.loading ≡ [] → is_some (ending_by_stop stop h) ≡ true
ended_by None h w shows none =
    let entry = renamed_entry (names h.seen).name h.entry in
    subst (λ us. is_some (ending_by None us entry) ≡ true) (sym none) (ended_entry entry)
ended_by (Some (ends.Fault limit)) h w shows none = refl
ended_by (Some ends.Memory) h w shows none = absurd shows

pub ended_of : (maps : Maps) (entry : Url) (trace : Bool) (m : MachineParts) (ds : List Delivery) → Represents maps entry trace (state_of m) ds → asks_of (state_of m) ≡ [] → is_some (ending_of (state_of m)) ≡ true
ended_of maps entry trace m ds represents none = ended_by (state_of m).stopped (state_of m).held represents.0 represents.2 none

-- what a run shows that has a status
pub status_by : (e : Option Ending) (s : Status) → option_map exit_status e ≡ Some s → (is_some e ≡ true) × (s ≢ statuses.WriteFault) × (s ≢ statuses.Memory)
status_by None s is = absurd (cc is)
status_by (Some (Stopped limit)) s is = (refl, λ e. cc, λ e. cc)
status_by (Some (Uncaught v)) s is = (refl, λ e. cc, λ e. cc)
status_by (Some Done) s is = (refl, λ e. cc, λ e. cc)
status_by (Some Pending) s is = (refl, λ e. cc, λ e. cc)

pub ending_parts : (maps : Maps) (entry : Url) (trace : Bool) (ds : List Delivery) (what : Shown) (status : Status) (front log both text : List ℕ) (last : List ℕ) (result : Option Status)
    → StandardRun maps every_form entry trace ds what → result ≡ Some status → result ≡ what.status → log ≡ what.log → last ≡ what.last_line → both ≡ front ++ log → text ≡ both ++ last_text last
    → (what.ended ≡ true) × (what.status ≡ Some status) × (text ≡ front ++ written_text what)
ending_parts maps entry trace ds what status front log both text last result run is told log_is last_is both_is text_is =
    let shows : what.status ≡ Some status = sym told ∙ is in
    let parts = status_by (ending run.world) status (sym (ap (λ (s : Shown). s.status) run.shows) ∙ shows) in (
      ap (λ (s : Shown). s.ended) run.shows ∙ parts.0,
      shows,
      text_is ∙ ap (λ l. l ++ last_text last) both_is ∙ append_assoc front log (last_text last)
          ∙ ap (λ l. front ++ (l ++ last_text last)) log_is ∙ ap (λ l. front ++ (what.log ++ last_text l)) last_is,
    )
