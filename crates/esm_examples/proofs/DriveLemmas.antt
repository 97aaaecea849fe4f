-- Driving a machine over files.
use Rattle.std.proofs.Common.{◌≡◌, ◌<◌, ◌≤◌, ◌∙◌, ap, sym, subst, refl, List, [], ◌∷◌, ◌++◌, length, get_or, arith, true, false}
use Rattle.std.specs.Prelude.{Option, Some, None, is_some}
use Rattle.std.proofs.lemmas.Slice.Eq.{bytes_eq-Decides}
use Rattle.std.proofs.lemmas.List.Elements.{All-nil, All-cons, All-append}
use Rattle.std.proofs.lemmas.List.{map-append, length-map}
use Rattle.esm_base.specs.declared.status.Status.{Status}
use Rattle.esm_base.specs.Urls.{Url, has}
use Rattle.esm_ast.specs.Outcome.{OutcomeView}
use Rattle.esm_import_map.specs.ImportMap.{Maps}
use Rattle.esm_loads.specs.Loading.{Loading}
use Rattle.esm_loads.specs.LoadsView.{every_form}
use Rattle.esm_world.specs.Laws.{FewDeliveries, HasStandardRun}
use Rattle.esm_world.specs.Run.{Shown, StandardRun}
use Rattle.esm_ast.specs.Deliveries.{Delivery, completed}
use Rattle.esm_machine.specs.Represents.{TurnEnd, MachineState, MayTake, MayTakeBy, asks_of, asks_by_stop, Represents, RepresentsOn, ShownBy}
use Rattle.esm_examples.specs.Fetches.{Files, ComesFrom, IsRunOver}
use Rattle.esm_examples.specs.declared.fetches.Ran.{Ran}
use Rattle.esm_examples.specs.Inner.Driving.{IsOpen, IsDriven}

-- an open ask may be taken, and its machine hasn't stopped
may_take_by : (stop : Option TurnEnd) (l : Loading) (u : Url) → has (asks_by_stop stop l) u ≡ true → MayTakeBy stop l u
may_take_by None l u open_ask = open_ask
may_take_by (Some end) l u open_ask = tt

pub may_take : (m : MachineState) (u : Url) → has (asks_of m) u ≡ true → MayTake m u
may_take m u open_ask = may_take_by m.stopped m.held.seen.loading u open_ask

live_by : (stop : Option TurnEnd) (l : Loading) (u : Url) → has (asks_by_stop stop l) u ≡ true → stop ≡ None
live_by None l u open_ask = refl
live_by (Some end) l u open_ask = absurd (cc open_ask)

pub live_of : (m : MachineState) (u : Url) → has (asks_of m) u ≡ true → m.stopped ≡ None
live_of m u open_ask = live_by m.stopped m.held.seen.loading u open_ask

-- a copy of the first of some asks is among them
pub has_first : (asks asked : List Url) (first copy : Url) → asked ≡ asks → 1 ≤ length asked → first ≡ get_or asked 0 first → copy ≡ first → has asks copy ≡ true
has_first asks [] first copy same some is copied = absurd (omega arith)
has_first asks (u ∷ us) first copy same some is copied =
    let own : has (u ∷ us) u ≡ true = rw ((bytes_eq-Decides u u).1 refl) refl in
    subst (λ l. has l copy ≡ true) same (subst (λ x. has (u ∷ us) x ≡ true) (sym (copied ∙ is)) own)

pub driven_new : (maps : Maps) (entry : Url) (files : Files) (m : MachineState) (urls : List Url) → Represents maps entry false m [] → urls ≡ [] → IsDriven maps entry files m urls
driven_new maps entry files m urls represents none = record {
  deliveries = [];
  represents = represents;
  fetches = record { held = All-nil (λ (d : Delivery). ComesFrom files d.url d.outcome); urls_are = none };
}

-- one fetch more
pub driven_more : (maps : Maps) (entry : Url) (files : Files) (m n : MachineState) (urls more : List Url) (url : Url) (outcome : OutcomeView)
    → RepresentsOn m url outcome n → ComesFrom files url outcome → more ≡ urls ++ url ∷ [] → IsDriven maps entry files m urls → IsDriven maps entry files n more
driven_more maps entry files m n urls more url outcome on comes added d =
    let P : Delivery → Type 0 = λ d. ComesFrom files d.url d.outcome in
    let first : Delivery → Url = λ d. d.url in
    record {
      deliveries = d.deliveries ++ completed url outcome ∷ [];
      represents = on maps entry false d.deliveries d.represents;
      fetches = record {
        held = All-append P d.deliveries (completed url outcome ∷ []) d.fetches.held (All-cons P (completed url outcome) [] comes (All-nil P));
        urls_are = added ∙ ap (λ l. l ++ url ∷ []) d.fetches.urls_are ∙ sym (map-append first d.deliveries (completed url outcome ∷ []));
      };
    }

-- a driven machine's deliveries have a standard run
run_of : HasStandardRun → (maps : Maps) (entry : Url) (files : Files) (m : MachineState) (urls : List Url) (d : IsDriven maps entry files m urls)
    → (what : Shown) × StandardRun maps every_form entry false d.deliveries what
run_of has_run maps entry files m urls d = has_run maps every_form entry false d.deliveries d.represents.0 d.represents.1

-- while an ask is open, fewer than 4,096 URLs were fetched
pub few_fetched : FewDeliveries → HasStandardRun → (maps : Maps) (entry : Url) (files : Files) (m : MachineState) (urls : List Url) (url : Url) → IsDriven maps entry files m urls → IsOpen m url → length urls < 4096
few_fetched few has_run maps entry files m urls url d is_open =
    let found = run_of has_run maps entry files m urls d in
    let what = found.0 in
    let run = found.1 in
    let less : length d.deliveries < 4096 = few maps every_form entry false d.deliveries what url run (is_open.standard maps entry false d.deliveries what d.represents run) in
    let first : Delivery → Url = λ d. d.url in
    omega (arith, length-map d.deliveries first, ap length d.fetches.urls_are, less)

-- a run that has ended is that of what was fetched
pub ends : HasStandardRun → (maps : Maps) (entry : Url) (files : Files) (m : MachineState) (ran : Ran) (end : Option Status) → IsDriven maps entry files m ran.fetched.items
    → end ≡ Some ran.status → ShownBy m (λ what. end ≡ what.status) → ShownBy m (λ what. is_some end ≡ what.ended)
    → ShownBy m (λ what. ran.log.items ≡ what.log) → ShownBy m (λ what. ran.last_line ≡ what.last_line) → IsRunOver maps entry files ran
ends has_run maps entry files m ran end d is status ended log last =
    let found = run_of has_run maps entry files m ran.fetched.items d in
    let what = found.0 in
    let run = found.1 in
    record {
      deliveries = d.deliveries;
      what = what;
      run = run;
      fetches = d.fetches;
      ended = sym (ended maps entry false d.deliveries what d.represents run) ∙ ap is_some is;
      status = sym (status maps entry false d.deliveries what d.represents run) ∙ is;
      log = sym (log maps entry false d.deliveries what d.represents run);
      last_line = sym (last maps entry false d.deliveries what d.represents run);
    }
