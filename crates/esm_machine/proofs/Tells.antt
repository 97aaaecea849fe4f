-- What a machine tells of the run that it represents, and how it takes a delivery.
use Rattle.std.proofs.Common.{◌≡◌, ℕ, List, [], ◌∷◌, ◌++◌, length, Option, Some, None, refl, ap, subst, sym, ◌∙◌}
use Rattle.std.specs.Prelude.{is_some, option_map, codes}
use Rattle.esm_base.specs.declared.limits.Limit.{Limit}
use Rattle.esm_base.specs.declared.status.Status.TheVariants as statuses
use Rattle.esm_base.specs.declared.end.End.TheVariants as ends
use Rattle.esm_base.specs.Limits.{limit_name}
use Rattle.esm_base.specs.Urls.{Url}
use Rattle.esm_ast.specs.Deliveries.{Delivery, completed, asks_by}
use Rattle.esm_loads.specs.LoadsView.{every_form}
use Rattle.esm_loads.specs.Arrival.{open_asks}
use Rattle.esm_values.specs.Value.{Value, Undefined, Truth, Text, Func, Error, Namespace, Promise}
use Rattle.esm_values.specs.Naming.{renamed_value}
use Rattle.esm_resolve.specs.Keys.{AreNamespaceKeysOf}
use Rattle.esm_env.specs.Modules.{entries, graph}
use Rattle.esm_rewriting.specs.Acts.{Displays}
use Rattle.esm_rewriting.specs.Keeps.{started}
use Rattle.esm_rewriting.proofs.OneAct.{displays_one}
use Rattle.esm_world.specs.World as world
use Rattle.esm_world.specs.World.{World, EntryState, modules_in, opening, stopped}
use Rattle.esm_world.specs.World.{EntryState as entry_state}
use Rattle.esm_world.specs.LastLine.{Ending, Stopped, Uncaught, Done, Pending, ending_by, exit_status, IsLastLine}
use Rattle.esm_world.specs.Turn.{Turn}
use Rattle.esm_world.specs.Run.{Runs, asks, ending, shown, IsAllowed}
use Rattle.esm_world.proofs.OneRun.{runs_one}
use Rattle.esm_machine.specs.Held.{Held, EntryHeld, Underway, Ended, Failed, renamed_entry, body_state, world_of}
use Rattle.esm_machine.specs.Inner.Numbers.{url_number}
use Rattle.esm_machine.specs.Seen.{Seen, names, modules}
use Rattle.esm_machine.specs.Represents.{TurnEnd, MachineState, ShowsBy, Shows, asks_by_stop, ending_by_stop, ending_of, StoppedAs, IsLineBy, IsLineByStop, Tells, OpeningRepresents, TellsTheRun, TurnsAreTaken}
use Rattle.esm_machine.proofs.Opens.{opens_as_world}
use Rattle.esm_machine.proofs.Starts.{starts_held}

-- ---- what a world shows

pub asks_shown : (o : Option TurnEnd) (h : Held) (w : World) → ShowsBy o h w → asks w ≡ asks_by_stop o h.seen.loading
asks_shown None h w s = ap (λ o. asks_by o (open_asks w.loading)) s.live ∙ ap (λ (v : World). open_asks v.loading) s.stands.world
asks_shown (Some (ends.Fault limit)) h w s = ap (λ o. asks_by o (open_asks w.loading)) s.stopped
asks_shown (Some ends.Memory) h w s = absurd s

ending_shown : (o : Option TurnEnd) (h : Held) (w : World) → ShowsBy o h w → ending w ≡ ending_by_stop o h
ending_shown None h w s =
    ap (λ o. ending_by o (asks_by o (open_asks w.loading)) w.entry) s.live
    ∙ ap (λ (v : World). ending_by None (open_asks v.loading) v.entry) s.stands.world
ending_shown (Some (ends.Fault limit)) h w s = ap (λ o. ending_by o (asks_by o (open_asks w.loading)) w.entry) s.stopped
ending_shown (Some ends.Memory) h w s = absurd s

log_shown : (o : Option TurnEnd) (h : Held) (w : World) → ShowsBy o h w → w.engine.log ≡ h.engine.log
log_shown None h w s = ap (λ (v : World). v.engine.log) s.stands.world
log_shown (Some (ends.Fault limit)) h w s = s.written
log_shown (Some ends.Memory) h w s = absurd s

starts_shown : (o : Option TurnEnd) (h : Held) (w : World) → ShowsBy o h w → length (started w.engine.events) ≡ length (started h.engine.events)
starts_shown None h w s = ap (λ (v : World). length (started v.engine.events)) s.stands.world ∙ starts_held h w.linked
starts_shown (Some (ends.Fault limit)) h w s = s.begun
starts_shown (Some ends.Memory) h w s = absurd s

-- ---- the limit

no_limit : (us : List Url) (e : EntryState) → option_map exit_status (ending_by None us e) ≡ Some statuses.Limit → ⊥
no_limit (u ∷ us) e h = cc
no_limit [] (entry_state.Failed v) h = cc
no_limit [] entry_state.Ended h = cc
no_limit [] entry_state.Underway h = cc

limit_line : (w : World) (e : Option Ending) (limit : Limit) (line : List ℕ) → e ≡ Some (Stopped limit) → IsLastLine w e line → line ≡ codes "Limit " ++ limit_name limit
limit_line w e limit line h l = subst (λ o. IsLastLine w o line) h l

stopped_shown : (o : Option TurnEnd) (h : Held) (w : World) (line : List ℕ) → ShowsBy o h w → IsLastLine w (ending w) line → StoppedAs o (shown w line)
stopped_shown None h w line s l = λ e. no_limit (open_asks h.seen.loading) (renamed_entry (names h.seen).name h.entry) (sym (ap (λ e. option_map exit_status e) (ending_shown None h w s)) ∙ e)
stopped_shown (Some (ends.Fault limit)) h w line s l =
    let e : ending w ≡ Some (Stopped limit) = ending_shown (Some (ends.Fault limit)) h w s in
    (ap (λ o. option_map exit_status o) e, limit_line w (ending w) limit line e l)
stopped_shown (Some ends.Memory) h w line s l = absurd s

-- ---- the last line

-- by ids exports have the same graph
same_graph : (s : Seen) → graph (modules s) ≡ graph (modules_in s.loading)
same_graph s =
    let h = modules_in s.loading in
    λ i. record {
      size = h.size;
      entries = λ n. entries h (url_number s.urls (h.named n) i);
      target = λ n k. h.number (url_number s.urls (h.target (url_number s.urls (h.named n) i) k) i);
    }

displays_in : (h : Held) (linked : List Url) (v : Value ℕ) (text : List ℕ) → Displays modules (body_state h) v text
    → Displays modules_in (world.body_state (world_of h linked)) (renamed_value (names h.seen).name v) text
displays_in h linked Undefined text p = p
displays_in h linked (Truth b) text p = p
displays_in h linked (Text t) text p = p
displays_in h linked (Func m i) text p = p
displays_in h linked (Error e) text p = p
displays_in h linked (Namespace m) text p =
    (p.0, subst (λ g. AreNamespaceKeysOf g ((modules h.seen).number m) p.0) (same_graph h.seen) p.1, p.2, p.3)
displays_in h linked (Promise q) text p = p

line_in : (h : Held) (w : World) (us : List Url) (e : EntryHeld) (line : List ℕ) → w ≡ world_of h w.linked → IsLineBy h us e line
    → IsLastLine w (ending_by None us (renamed_entry (names h.seen).name e)) line
line_in h w (u ∷ us) e line s p = p
line_in h w [] Underway line s p = p
line_in h w [] Ended line s p = p
line_in h w [] (Failed v) line s p =
    (p.0, subst (λ (x : World). Displays modules_in (world.body_state x) (renamed_value (names h.seen).name v) p.0) (sym s) (displays_in h w.linked v p.0 p.1), p.2)

line_by_stop : (o : Option TurnEnd) (h : Held) (w : World) (line : List ℕ) → ShowsBy o h w → IsLineByStop o h line → IsLastLine w (ending_by_stop o h) line
line_by_stop None h w line s p = line_in h w (open_asks h.seen.loading) h.entry line s.stands.world p
line_by_stop (Some (ends.Fault limit)) h w line s p = p
line_by_stop (Some ends.Memory) h w line s p = absurd s

line_one : (w : World) (e : Option Ending) (s t : List ℕ) → IsLastLine w e s → IsLastLine w e t → s ≡ t
line_one w None s t p q = p ∙ sym q
line_one w (Some (Stopped limit)) s t p q = p ∙ sym q
line_one w (Some (Uncaught v)) s t p q = p.2 ∙ ap (λ text. codes "Uncaught " ++ text) (displays_one modules_in (world.body_state w) v q.1 p.1) ∙ sym q.2
line_one w (Some Done) s t p q = p ∙ sym q
line_one w (Some Pending) s t p q = p ∙ sym q

shows_tells : (m : MachineState) (w : World) (line : List ℕ) → Shows m w → IsLastLine w (ending w) line → Tells m (shown w line)
shows_tells m w line s l =
    let e : ending w ≡ ending_of m = ending_shown m.stopped m.held w s in
    record {
      asks = asks_shown m.stopped m.held w s;
      log = log_shown m.stopped m.held w s;
      begun = starts_shown m.stopped m.held w s;
      status = ap (λ o. option_map exit_status o) e;
      ended = ap (λ o. is_some o) e;
      stopped = stopped_shown m.stopped m.held w line s l;
      last_line = λ own p. line_one w (ending_of m) line own (subst (λ o. IsLastLine w o line) e l) (line_by_stop m.stopped m.held w own s p);
    }

pub tells_the_run : TellsTheRun
tells_the_run m maps entry trace deliveries what r std =
    let same : r.0 ≡ std.world = runs_one deliveries (opening maps every_form entry trace) r.0 std.world r.1 std.runs in
    let s : Shows m std.world = subst (Shows m) same r.2 in
    subst (Tells m) (sym std.shows) (shows_tells m std.world std.line s std.last_line)

-- ---- deliveries

pub opening_represents : OpeningRepresents
opening_represents maps entry trace = (opening maps every_form entry trace, refl, record { live = refl; stands = opens_as_world maps entry trace })

one_more : (ds : List Delivery) (before w after : World) (d : Delivery) → Runs before ds w → IsAllowed w d → Turn w d.url d.outcome after → Runs before (ds ++ d ∷ []) after
one_more [] before w after d r a t = subst (λ v. IsAllowed v d × (mid : World) × Turn v d.url d.outcome mid × (after ≡ mid)) r (a, after, t, refl)
one_more (e ∷ ds) before w after d r a t = (r.0, r.1, r.2, one_more ds r.1 w after d r.3 a t)

pub turns_are_taken : TurnsAreTaken
turns_are_taken old new u c step maps entry trace deliveries r =
    let t = step r.0 r.2 in
    (t.1.0, one_more deliveries (opening maps every_form entry trace) r.0 t.1.0 (completed u c) r.1 t.0 t.1.1.0, t.1.1.1)
