-- The direct run of clean files: there is one, each ended run shows it, and where it meets no limit no run does.
use Rattle.std.proofs.Common.{◌≡◌, ℕ, Bool, true, List, [], ◌∷◌, ◌++◌, length, Option, Some, None, refl, ap, subst, sym, ◌∙◌, arith}
use Rattle.std.specs.Prelude.{slice_get, option_map, codes}
use Rattle.std.specs.Option.{option_or}
use Rattle.esm_base.specs.declared.limits.Limit.{Limit}
use Rattle.esm_base.specs.Limits.{limit_name}
use Rattle.esm_base.specs.Urls.{Text, Url, has, same_url}
use Rattle.esm_tree.specs.Syntax.{Item}
use Rattle.esm_import_map.specs.ImportMap.{Maps}
use Rattle.esm_ast.specs.Deliveries.{Files, Delivery, AreOfFiles}
use Rattle.esm_realm.proofs.Weigh.{length_within}
use Rattle.esm_values.specs.Value.{Value, Undefined}
use Rattle.esm_values.specs.Value.{Value as value_of}
use Rattle.esm_values.specs.Display.{namespace_text, function_text}
use Rattle.esm_promise.specs.Promises.{make, settle, no_promises, Fulfilled}
use Rattle.esm_promise.specs.Reactions.{EntryLoaded}
use Rattle.esm_resolve.specs.SharedSet.{SharedSetAgrees, SharedSetEnds}
use Rattle.esm_env.specs.Cells.{no_cells}
use Rattle.esm_env.specs.Declarations.{function_at}
use Rattle.esm_env.specs.Modules.{Modules, name_by}
use Rattle.esm_env.specs.Naming.{renamed_in}
use Rattle.esm_env.proofs.Named as env
use Rattle.esm_loads.specs.Loading.{Loading, root_in, root_of_load}
use Rattle.esm_loads.specs.Host.{Host}
use Rattle.esm_eval.specs.Nodes.{untouched}
use Rattle.esm_rewriting.specs.State.{opening_engine}
use Rattle.esm_rewriting.specs.Acts.{Displays}
use Rattle.esm_rewriting.proofs.LinkedRead.{linked_read}
use Rattle.esm_rewriting.proofs.OneAct.{displays_one}
use Rattle.esm_world.specs.World.{World, EntryState, world_over, opening, stopped, modules_in, body_state}
use Rattle.esm_world.specs.World.{EntryState as entry_state}
use Rattle.esm_world.specs.Jobs.{Jobs}
use Rattle.esm_world.specs.LastLine.{Ending, Stopped, Uncaught, Done, Pending, ending_by, exit_status, IsLastLine}
use Rattle.esm_world.specs.Run.{Shown, Runs, ending, shown}
use Rattle.esm_world.specs.Direct.{IsClean, AreClosure, DirectRun, MeetsNoLimit, ShowsDirect, gathered, direct_ending}
use Rattle.esm_world.specs.OnOrder.{HasDirectRun, OrderFreeShown, NeverStops, OrderFreeWithin}
use Rattle.esm_order_laws.specs.OrderFree.{HasEndedWithin}
use Rattle.esm_order_laws.proofs.Jobs.{jobs_one}
use Rattle.esm_order_laws.proofs.Lists.{both}
use Rattle.esm_order_laws.proofs.RunPhase.{ReadyHost, behind_end, entry_is, asked_is}
use Rattle.esm_order_laws.proofs.LiveRun.{ReachedSo, Within, within_on, within_run}
use Rattle.esm_order_laws.proofs.OrderFree.{IsOver, is_over, Came, came, host_live}
use Rattle.esm_direct_laws.proofs.Members.{Member, member_of, names, same_member}
use Rattle.esm_direct_laws.proofs.MemberModules as modules
use Rattle.esm_direct_laws.proofs.MemberModules.{member_modules, HasModules, named_in, quiet_trees}
use Rattle.esm_direct_laws.proofs.MemberWorld.{V, EntryM, Underway, Ended, Failed, WorldM, first_calls_m}
use Rattle.esm_direct_laws.proofs.MemberImage.{image, node_by, value, entry_seen}
use Rattle.esm_direct_laws.proofs.MemberFits.{Known, FitsM, KnownEntry}
use Rattle.esm_direct_laws.proofs.MemberSteps.{Suits}
use Rattle.esm_direct_laws.proofs.MemberJobs.{Ready, JobsEnd, jobs_end}

module _ (agrees : SharedSetAgrees) (ends : SharedSetEnds) (maps : Maps) (built : List Item → Bool) (files : Files) (entry : Url) (clean : IsClean maps built files entry)
    (xs : List Url) (closure : AreClosure maps built files entry xs) (trace : Bool) where
  abbrev g : Modules (Member xs)
  g = member_modules maps built files entry clean xs closure

  abbrev first : Member xs
  first = modules.first maps built files entry clean xs closure

  abbrev W : Type 0
  W = WorldM xs

  abbrev seen : Loading → W → World
  seen l w = image xs g l w

  abbrev SuitsL : Loading → Type 0
  SuitsL l = Suits xs g (modules.are_linked maps built files entry clean xs closure) (quiet_trees maps built files entry clean xs closure) agrees ends first l

  abbrev HasThem : Loading → Type 0
  HasThem l = HasModules maps built files entry clean xs closure l

  suits : (l : Loading) → HasThem l → root_of_load l 0 ≡ Some entry → l.stopped ≡ None → SuitsL l
  suits l h root live = record { named = named_in maps built files entry clean xs closure l h; root = root; live = live }

  -- ---- where all files are there

  abbrev direct : Loading
  direct = (gathered maps built files entry xs).imports

  pub direct_suits : SuitsL direct
  direct_suits = suits direct (record { entries_are = λ u e. refl; alike = λ u. refl; long = refl }) refl refl

  -- nothing is evaluated yet
  abbrev start : W
  start = record {
    linked = [];
    nodes = λ m. untouched;
    stamps = [];
    promises = settle (make no_promises (EntryLoaded ∷ [])) 0 (Fulfilled Undefined);
    errors = [];
    cells = no_cells;
    engine = opening_engine trace;
    entry = Underway;
  }

  node_none : (o : Option (Member xs)) → node_by xs g (λ m. untouched) o ≡ untouched
  node_none None = refl
  node_none (Some m) = refl

  cell_none : (x : List ℕ) (o : Option (Member xs)) → renamed_in (names xs) no_cells x o ≡ None
  cell_none x None = refl
  cell_none x (Some m) = refl

  -- it is seen as the world over such a host
  start_seen : (h : Host) → h.promises ≡ behind_end → h.errors ≡ [] → seen h.imports start ≡ world_over h trace
  start_seen h p e = λ i. record {
    loading = h.imports;
    linked = [];
    nodes = λ u. node_none (member_of xs u) i;
    stamps = [];
    promises = sym p i;
    errors = sym e i;
    cells = λ u x. cell_none x (member_of xs u) i;
    engine = opening_engine trace;
    entry = entry_state.Underway;
  }

  start_fits : FitsM xs g (modules.are_linked maps built files entry clean xs closure) (quiet_trees maps built files entry clean xs closure) agrees ends start
  start_fits = record {
    fits = record { whole = record { all = (tt, tt); jobs = (tt, tt) }; cells = λ m x v e. cc; standing = tt };
    calm = tt;
    nodes = λ m. record { error = tt; root = tt; waits = λ k d lt. tt; waiters = λ k d lt. tt };
    entry = tt;
  }

  pub ready : Ready xs g (modules.are_linked maps built files entry clean xs closure) (quiet_trees maps built files entry clean xs closure) agrees ends first direct direct_suits start
  ready = record {
    fits = start_fits;
    once = (first_calls_m xs g).opening start (record { phases = λ x. refl; free = λ x. refl; undone = λ x. refl; stamps = refl }) (λ x. refl);
    awaits = record { bodies = λ m. omega arith; jobs = (refl, tt) };
    few = omega arith;
  }

  pub end : JobsEnd xs g (modules.are_linked maps built files entry clean xs closure) (quiet_trees maps built files entry clean xs closure) agrees ends first direct direct_suits start
  end = jobs_end xs g (modules.are_linked maps built files entry clean xs closure) (quiet_trees maps built files entry clean xs closure) agrees ends first direct direct_suits start ready

  -- what the direct run leaves
  abbrev pub after : World
  after = seen direct end.after

  pub direct_run : DirectRun maps built files entry trace xs after
  direct_run = record { closure = closure; jobs = subst (λ w. Jobs w after) (start_seen (gathered maps built files entry xs) refl refl) (end.jobs direct direct_suits) }

  pub one_direct : (w : World) → DirectRun maps built files entry trace xs w → w ≡ after
  one_direct w q = jobs_one q.jobs direct_run.jobs

  -- ---- texts

  -- a known value has a display text, in each world with a loading that has these modules
  record Text_of (v : V xs) : Type 0 where
    text : Text
    in_each : (l : Loading) → SuitsL l → Displays modules_in (body_state (seen l end.after)) (value xs g v) text

  shows : (v : V xs) → Known xs g (modules.are_linked maps built files entry clean xs closure) (quiet_trees maps built files entry clean xs closure) agrees ends v → Text_of v
  shows value_of.Undefined k = record { text = _; in_each = λ l s. refl }
  shows (value_of.Truth b) k = record { text = _; in_each = λ l s. refl }
  shows (value_of.Text t) k = record { text = _; in_each = λ l s. refl }
  shows (value_of.Func m i) k = record {
    text = function_text (name_by (function_at (g.tree m) i));
    in_each = λ l s. ap (λ (items : List Item). Some (function_text (name_by (function_at items i)))) (s.named.tree m);
  }
  shows (value_of.Error e) k = record { text = _; in_each = λ l s. refl }
  shows (value_of.Namespace m) k =
      let r = (linked_read g (λ m. true) agrees ends (modules.are_linked maps built files entry clean xs closure)).keys m refl in
      record {
        text = namespace_text r.0;
        in_each = λ l s. (r.0, ((env.follows_names (names xs) (same_member xs) same_url).reads g (modules_in l) s.named).keys m r.0 r.1, r.2, refl);
      }
  shows (value_of.Promise q) k = record { text = _; in_each = λ l s. refl }

  -- ---- how it ends

  record Ends_so (s : Option Limit) (e : EntryState) : Type 0 where
    ending : Ending
    ends_are : ending_by s [] e ≡ Some ending

  ends_so : (s : Option Limit) (e : EntryState) → Ends_so s e
  ends_so (Some limit) e = record { ending = Stopped limit; ends_are = refl }
  ends_so None entry_state.Underway = record { ending = Pending; ends_are = refl }
  ends_so None entry_state.Ended = record { ending = Done; ends_are = refl }
  ends_so None (entry_state.Failed v) = record { ending = Uncaught v; ends_are = refl }

  abbrev KnownE : EntryM xs → Type 0
  KnownE e = KnownEntry xs g (modules.are_linked maps built files entry clean xs closure) (quiet_trees maps built files entry clean xs closure) agrees ends e

  some_is : {A : Type 0} {a b : A} → ◌≡◌ {A = Option A} (Some a) (Some b) → a ≡ b
  some_is q = cc

  -- an uncaught value is that with which the entry failed
  failed_with : (e : EntryM xs) (s : Option Limit) (v : Value Url) → KnownE e → ending_by s [] (entry_seen xs g e) ≡ Some (Uncaught v) → (u : V xs) × (value xs g u ≡ v) × Known xs g (modules.are_linked maps built files entry clean xs closure) (quiet_trees maps built files entry clean xs closure) agrees ends u
  failed_with e (Some limit) v k q = cc
  failed_with Underway None v k q = cc
  failed_with Ended None v k q = cc
  failed_with (Failed u) None v k q = let same : value xs g u ≡ v = cc in (u, same, k)

  -- the last line of the direct run
  line_there : (e : Ending) → ending_by (stopped after) [] after.entry ≡ Some e → (line : Text) × IsLastLine after (Some e) line
  line_there (Stopped limit) q = (codes "Limit " ++ limit_name limit, refl)
  line_there (Uncaught v) q =
      let f = failed_with end.after.entry (stopped after) v end.fits.entry q in
      let t = shows f.0 f.2 in
      (codes "Uncaught " ++ t.text, (t.text, subst (λ u. Displays modules_in (body_state after) u t.text) f.1 (t.in_each direct direct_suits), refl))
  line_there Done q = ([], refl)
  line_there Pending q = (codes "Unsettled", refl)

  pub shows_something : (what : Shown) × ShowsDirect after what
  shows_something =
      let e = ends_so (stopped after) after.entry in
      let l = line_there e.ending e.ends_are in
      let what : Shown = record { asked = []; asks = []; ended = true; status = Some (exit_status e.ending); log = after.engine.log; last_line = l.0; events = after.engine.events } in
      (what, record { ending = e.ending; ends = e.ends_are; log = refl; events = refl; status = refl; last_line = l.1 })

  -- ---- a run of these files

  abbrev ReadyC : Host → Type 0
  ReadyC h = ReadyHost maps built files entry clean h

  has_them : (h : Host) → ReadyC h → HasThem h.imports
  has_them h r = record {
    entries_are = λ u e. entry_is maps built files entry clean h r u (closure.only u e);
    alike = λ u. both (has h.imports.asked u) (has xs u) (to_list u) (from_list u);
    long = long;
  }
    where
      to_list : (u : Url) → has h.imports.asked u ≡ true → has xs u ≡ true
      to_list u e = closure.each u (r.parts.complete.base.within u e)

      from_list : (u : Url) → has xs u ≡ true → has h.imports.asked u ≡ true
      from_list u e = asked_is maps built files entry clean h r u (closure.only u e)

      long : length h.imports.asked ≡ length xs
      long =
          let a = length_within h.imports.asked xs r.orderly.once to_list in
          let b = length_within xs h.imports.asked closure.once from_list in
          omega (arith, a, b)

  run_suits : (h : Host) → ReadyC h → h.imports.stopped ≡ None → SuitsL h.imports
  run_suits h r live = suits h.imports (has_them h r) (ap (λ ls. root_in (slice_get ls 0)) r.parts.complete.loads_are) live

  -- it comes to the same
  run_is : (h : Host) (r : ReadyC h) (live : h.imports.stopped ≡ None) (w : World) → Jobs (world_over h trace) w → seen h.imports end.after ≡ w
  run_is h r live w j = jobs_one (subst (λ x. Jobs x (seen h.imports end.after)) (start_seen h r.parts.promises r.parts.errors) (end.jobs h.imports (run_suits h r live))) j

  -- the last line is the same
  line_seen : (l : Loading) → SuitsL l → (s : Option Limit) (e : Ending) (line : Text) → ending_by s [] (entry_seen xs g end.after.entry) ≡ Some e → IsLastLine (seen l end.after) (Some e) line → IsLastLine after (Some e) line
  line_seen l k s (Stopped limit) line q p = p
  line_seen l k s (Uncaught v) line q p =
      let f = failed_with end.after.entry s v end.fits.entry q in
      let t = shows f.0 f.2 in
      let there = subst (λ u. Displays modules_in (body_state (seen l end.after)) u t.text) f.1 (t.in_each l k) in
      let same : t.text ≡ p.0 = displays_one modules_in (body_state (seen l end.after)) v p.1 there in
      (p.0, subst (λ x. Displays modules_in (body_state after) v x) same (subst (λ u. Displays modules_in (body_state after) u t.text) f.1 (t.in_each direct direct_suits)), p.2)
  line_seen l k s Done line q p = p
  line_seen l k s Pending line q p = p

  halted_by : (l : Loading) → l.stopped ≡ None → option_or l.stopped end.after.engine.stopped ≡ None → end.after.engine.stopped ≡ None
  halted_by l live e = sym (ap (λ o. option_or o end.after.engine.stopped) live) ∙ e

  ending_of : (w : World) → IsOver w → ending w ≡ ending_by None [] w.entry
  ending_of w o = λ i. ending_by (o.live i) (o.asks_are i) w.entry

  pub shows_run : (w : World) (line : Text) → IsOver w → (c : Came maps built files entry clean trace w) → IsLastLine w (ending w) line → ShowsDirect after (shown w line)
  shows_run w line o c last =
      let live = host_live maps built files entry clean w o c in
      let same : seen c.host.imports end.after ≡ w = run_is c.host c.ready live w c.jobs in
      let e = ends_so None w.entry in
      let is : ending w ≡ Some e.ending = ending_of w o ∙ e.ends_are in
      let halted : end.after.engine.stopped ≡ None = halted_by c.host.imports live (ap stopped same ∙ o.live) in
      let entry_same : entry_seen xs g end.after.entry ≡ w.entry = ap (λ (x : World). x.entry) same in
      let ends_there : direct_ending after ≡ Some e.ending = (λ i. ending_by (halted i) [] (entry_same i)) ∙ e.ends_are in
      let here : IsLastLine (seen c.host.imports end.after) (Some e.ending) line = subst (λ x. IsLastLine x (Some e.ending) line) (sym same) (subst (λ k. IsLastLine w k line) is last) in
      record {
        ending = e.ending;
        ends = ends_there;
        log = ap (λ (x : World). x.engine.log) (sym same);
        events = ap (λ (x : World). x.engine.events) (sym same);
        status = ap (λ k. option_map exit_status k) is;
        last_line = line_seen c.host.imports (run_suits c.host c.ready live) None e.ending line (ap (λ x. ending_by None [] x) entry_same ∙ e.ends_are) here;
      }

  -- where the direct run meets no limit, no run is stopped
  pub never : MeetsNoLimit maps built files xs after → (ds : List Delivery) (w : World) → AreOfFiles files ds → Runs (opening maps built entry trace) ds w → stopped w ≡ None
  never m ds w of p = by (within_run maps built files entry clean xs closure m.few m.small trace ds w of p)
    where
      by : ReachedSo maps built files entry clean (Within maps built files entry clean xs closure m.few m.small) (within_on maps built files entry clean xs closure m.few m.small) trace w → stopped w ≡ None
      by (ReachedSo.waiting h early x is) = ap stopped is ∙ ap (λ o. option_or o None) x.1
      by (ReachedSo.over h r x j same) = ap stopped (sym (run_is h r x.1 w j)) ∙ ap (λ o. option_or o end.after.engine.stopped) x.1 ∙ m.live

module _ (agrees : SharedSetAgrees) (ends : SharedSetEnds) where
  pub has_direct_run : HasDirectRun
  has_direct_run maps built files entry trace xs clean closure =
      let s = shows_something agrees ends maps built files entry clean xs closure trace in
      (after agrees ends maps built files entry clean xs closure trace, direct_run agrees ends maps built files entry clean xs closure trace, s.0, s.1)

  pub order_free_shown : OrderFreeShown
  order_free_shown maps built files entry trace ds xs what clean closure of r ended within =
      let o = is_over r.world r.line (subst HasEndedWithin r.shows (record { ended = ended; within = within })) in
      let c = came maps built files entry clean trace ds r.world of r.runs o in
      let s = shows_run agrees ends maps built files entry clean xs closure trace r.world r.line o c r.last_line in (
        after agrees ends maps built files entry clean xs closure trace,
        direct_run agrees ends maps built files entry clean xs closure trace,
        subst (λ x. ShowsDirect (after agrees ends maps built files entry clean xs closure trace) x) (sym r.shows) s,
      )

  -- a direct run is that one
  meets : (maps : Maps) (built : List Item → Bool) (files : Files) (entry : Url) (trace : Bool) (xs : List Url) (w : World) (clean : IsClean maps built files entry) (q : DirectRun maps built files entry trace xs w)
      → MeetsNoLimit maps built files xs w → MeetsNoLimit maps built files xs (after agrees ends maps built files entry clean xs q.closure trace)
  meets maps built files entry trace xs w clean q m = subst (λ x. MeetsNoLimit maps built files xs x) (one_direct agrees ends maps built files entry clean xs q.closure trace w q) m

  pub never_stops : NeverStops
  never_stops maps built files entry trace ds xs w direct clean of p q m =
      never agrees ends maps built files entry clean xs q.closure trace (meets maps built files entry trace xs direct clean q m) ds w of p

  pub order_free_within : OrderFreeWithin
  order_free_within maps built files entry trace ds xs what direct clean of r none_asked q m =
      let live = never_stops maps built files entry trace ds xs r.world direct clean of r.runs q m in
      let o : IsOver r.world = record { live = live; asks_are = sym (ap (λ (s : Shown). s.asks) r.shows) ∙ none_asked } in
      let c = came maps built files entry clean trace ds r.world of r.runs o in
      let s = shows_run agrees ends maps built files entry clean xs q.closure trace r.world r.line o c r.last_line in
      subst (λ x. ShowsDirect direct x) (sym r.shows) (subst (λ x. ShowsDirect x (shown r.world r.line)) (sym (one_direct agrees ends maps built files entry clean xs q.closure trace direct q)) s)
