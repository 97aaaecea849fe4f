-- The import map of a machine stays as it was.
use Rattle.std.proofs.Common.{◌≡◌, List, [], ◌∷◌, ap, sym, subst, ◌∙◌}
use Rattle.esm_ast.specs.Deliveries.{Delivery}
use Rattle.esm_import_map.specs.ImportMap.{Maps}
use Rattle.esm_world.specs.World.{World}
use Rattle.esm_world.specs.Run.{Runs}
use Rattle.esm_world.specs.Laws.{KeepsMaps}
use Rattle.esm_machine.specs.Represents.{IsLive, KeepsItsMap, ShowsBy}

abbrev map_in : World → Maps
map_in w = w.loading.maps

runs_maps : KeepsMaps → (deliveries : List Delivery) (w after : World) → Runs w deliveries after → map_in after ≡ map_in w
runs_maps keeps [] w after r = ap map_in r
runs_maps keeps (d ∷ deliveries) w after r = runs_maps keeps deliveries r.1 after r.3 ∙ (keeps w r.1 d.url d.outcome r.2).0

-- a turn keeps the import map of its world
pub keeps_its_map : KeepsMaps → KeepsItsMap
keeps_its_map keeps maps entry trace m deliveries represents live =
    let w = represents.0 in
    let shown : IsLive m.held w = subst (λ o. ShowsBy o m.held w) live represents.2 in
    sym (ap map_in shown.stands.world) ∙ runs_maps keeps deliveries _ w represents.1
