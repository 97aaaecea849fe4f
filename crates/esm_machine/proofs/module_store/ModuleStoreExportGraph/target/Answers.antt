use Rattle.std.proofs.Common.{◌<◌, ◌∙◌, ap, sym, subst, length}
use Rattle.std.specs.Arc.{arc_value}
use Rattle.esm_realm.specs.Sound.{records_of}
use Rattle.esm_machine.specs.ModuleStore.{Imported, imported, graph_of}
use Rattle.esm_machine.proofs.Shows.{within_size}
use Rattle.esm_machine.proofs.module_store.ModuleStoreExportGraph.target.Goals as goal

pub loaded_of-requires : goal.loaded_of-requires
loaded_of-requires c =
    within_size c.self.inside.condition (length (records_of c.self.inside.realm)) c.args.m.0 (subst (λ (i : Imported). c.args.m.0 < (graph_of i).size) (sym c.self.view_is) c.requires.«module»)

pub returns : goal.returns
returns c =
    let v : Imported = imported (records_of c.self.inside.realm) c.self.inside.loads (arc_value c.self.inside.import_map) c.self.inside.condition in
    let m = c.args.m.0 in
    let i = c.args.request in
    c.loaded_of.ensures
    ∙ (c.records_show.ensures.targets_are v m i c.self.invariant.kept (subst (λ (x : Imported). m < (graph_of x).size) (sym c.self.view_is) c.requires.«module»)
    (subst (λ (x : Imported). i < length ((graph_of x).entries m).requests) (sym c.self.view_is) c.requires.request)
    ∙ ap (λ (x : Imported). (graph_of x).target m i) c.self.view_is)
