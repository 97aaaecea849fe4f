-- One such run says so of each other, and two evaluate the same modules and show the same.
use Rattle.std.proofs.Common.{◌≡◌, Bool, true, false, List, [], ◌∷◌, Option, Some, None, refl, ap, subst, sym, ◌∙◌}
use Rattle.std.specs.Prelude.{is_some, option_map}
use Rattle.esm_base.specs.declared.limits.Limit.{Limit}
use Rattle.esm_base.specs.Urls.{Text, Url, has}
use Rattle.esm_tree.specs.Syntax.{Item}
use Rattle.esm_import_map.specs.ImportMap.{Maps}
use Rattle.esm_ast.specs.Deliveries.{Files, asks_by}
use Rattle.esm_loads.specs.Loading.{Loading}
use Rattle.esm_loads.specs.Arrival.{open_asks}
use Rattle.esm_world.specs.World.{World, EntryState, world_over, stopped}
use Rattle.esm_world.specs.Jobs.{Jobs}
use Rattle.esm_world.specs.LastLine.{IsLastLine, ending_by, exit_status}
use Rattle.esm_world.specs.Run.{Shown, asks, ending, shown}
use Rattle.esm_world.specs.Direct.{IsClean}
use Rattle.esm_order_laws.specs.OrderFree.{ShowSame}
use Rattle.esm_order_laws.proofs.CleanCalls.{SameModules, NoImports, world_seen}
use Rattle.esm_order_laws.proofs.CleanJobs.{jobs_moves, stopped_is, line_moves}
use Rattle.esm_order_laws.proofs.Jobs.{jobs_one}
use Rattle.esm_order_laws.proofs.RunPhase.{once_over, no_imports}
use Rattle.esm_order_laws.proofs.OrderFree.{same_modules, line_one}
use Rattle.esm_limit_laws.specs.Loaded.{HasEndedLoaded, HasLoadedRun, NeverStoppedLoading, OrderFreeLoaded}
use Rattle.esm_limit_laws.proofs.Arrived.{Arrived, arrived, none_stopped, other_arrived}

module _ (maps : Maps) (built : List Item → Bool) (files : Files) (entry : Url) (clean : IsClean maps built files entry)
    (trace : Bool) (v w : World) (a b : Text) (c : Arrived maps built files entry clean trace v) (d : Arrived maps built files entry clean trace w)
    (quiet : asks v ≡ []) (silent : asks w ≡ []) (first : IsLastLine v (ending v) a) (second : IsLastLine w (ending w) b) where
  both_modules : SameModules c.host.imports d.host.imports
  both_modules = same_modules maps built files entry clean c.host d.host c.ready d.ready c.live d.live

  none : NoImports c.host.imports
  none = no_imports maps built files entry clean c.host c.ready

  abbrev seen : World → World
  seen x = world_seen c.host.imports d.host.imports both_modules none x

  starts_same : seen (world_over c.host trace) ≡ world_over d.host trace
  starts_same = λ i. world_over (record {
    promises = (c.ready.parts.promises ∙ sym d.ready.parts.promises) i;
    errors = (c.ready.parts.errors ∙ sym d.ready.parts.errors) i;
    imports = d.host.imports;
  }) trace

  shows_same : ShowSame (shown v a) (shown w b)
  shows_same =
      let j = jobs_moves c.host.imports d.host.imports both_modules none (tt, refl) (once_over c.host trace) c.jobs in
      let same : seen v ≡ w = jobs_one (subst (λ x. Jobs x (seen v)) starts_same j.0) d.jobs in
      let stop : stopped w ≡ stopped v = ap stopped (sym same) ∙ stopped_is c.host.imports d.host.imports both_modules none v j.1 in
      let there : ending w ≡ ending_by (stopped v) [] w.entry = λ i. ending_by (stop i) (silent i) w.entry in
      let here : ending v ≡ ending_by (stopped v) [] v.entry = λ i. ending_by (stopped v) (quiet i) v.entry in
      let ends : ending w ≡ ending v = there ∙ ap (λ (x : World). ending_by (stopped v) [] x.entry) (sym same) ∙ sym here in
      let line : IsLastLine (seen v) (ending v) a = line_moves c.host.imports d.host.imports both_modules none v j.1 (ending v) a first in
      let so : IsLastLine w (ending w) a = subst (λ e. IsLastLine w e a) (sym ends) (subst (λ x. IsLastLine x (ending v) a) same line) in
      record {
        asked = λ u. ap (λ (l : Loading). has l.asked u) d.loading_is ∙ both_modules.alike u ∙ sym (ap (λ (l : Loading). has l.asked u) c.loading_is);
        log = ap (λ (x : World). x.engine.log) (sym same);
        events = ap (λ (x : World). x.engine.events) (sym same);
        status = ap (λ e. option_map exit_status e) ends;
        last_line = line_one w (ending w) b a second so;
      }

-- a run that has ended asks for nothing
ended_asks : (stop : Option Limit) (urls : List Url) (entry : EntryState) → is_some (ending_by stop (asks_by stop urls) entry) ≡ true → asks_by stop urls ≡ []
ended_asks (Some limit) urls entry ended = refl
ended_asks None [] entry ended = refl
ended_asks None (u ∷ urls) entry ended = let no : false ≡ true = ended in absurd cc

module _ (maps : Maps) (built : List Item → Bool) (files : Files) (entry : Url) (trace : Bool) (one : Shown) (r : HasLoadedRun maps built files entry trace one) where
  run_ends : HasEndedLoaded (shown r.run.world r.run.line)
  run_ends = subst HasEndedLoaded r.run.shows r.ends

  run_asks : asks r.run.world ≡ []
  run_asks = ended_asks (stopped r.run.world) (open_asks r.run.world.loading) r.run.world.entry run_ends.ended

  run_arrived : Arrived maps built files entry r.clean trace r.run.world
  run_arrived = arrived maps built files entry r.clean trace r.deliveries r.run.world r.run.line r.of_files r.run.runs run_asks r.run.last_line run_ends.loaded

pub never_stopped_loading : NeverStoppedLoading
never_stopped_loading maps built files entry trace one others w r of p =
    none_stopped maps built files entry r.clean trace r.run.world (run_arrived maps built files entry trace one r) others w of p

pub order_free_loaded : OrderFreeLoaded
order_free_loaded maps built files entry trace one other others r of q none_asked =
    let v : World = r.run.world in
    let w : World = q.world in
    let quiet : asks v ≡ [] = run_asks maps built files entry trace one r in
    let silent : asks w ≡ [] = sym (ap (λ (s : Shown). s.asks) q.shows) ∙ none_asked in
    let c = run_arrived maps built files entry trace one r in
    let d = other_arrived maps built files entry r.clean trace v c others w of q.runs silent in
    let s = shows_same maps built files entry r.clean trace v w r.run.line q.line c d quiet silent r.run.last_line q.last_line in
    subst (λ x. ShowSame one x) (sym q.shows) (subst (λ x. ShowSame x (shown w q.line)) (sym r.run.shows) s)
