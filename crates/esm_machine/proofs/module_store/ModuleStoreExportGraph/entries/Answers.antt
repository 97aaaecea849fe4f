use Rattle.std.proofs.Common.{◌<◌, ◌∙◌, ap, sym, subst, length}
use Rattle.std.specs.Arc.{arc_value}
use Rattle.esm_realm.specs.Sound.{records_of}
use Rattle.esm_machine.specs.ModuleStore.{Imported, imported, graph_of}
use Rattle.esm_machine.proofs.Shows.{within_size}
use Rattle.esm_machine.proofs.module_store.ModuleStoreExportGraph.entries.Goals as goal

pub entries_of-requires : goal.entries_of-requires
entries_of-requires c =
    within_size c.self.inside.condition (length (records_of c.self.inside.realm)) c.args.m.0 (subst (λ (i : Imported). c.args.m.0 < (graph_of i).size) (sym c.self.view_is) c.requires)

pub returns : goal.returns
returns c =
    let v : Imported = imported (records_of c.self.inside.realm) c.self.inside.loads (arc_value c.self.inside.import_map) c.self.inside.condition in
    c.entries_of.ensures
    ∙ (c.records_show.ensures.entries_are v c.args.m.0 c.self.invariant.kept (subst (λ (i : Imported). c.args.m.0 < (graph_of i).size) (sym c.self.view_is) c.requires)
    ∙ ap (λ (i : Imported). (graph_of i).entries c.args.m.0) c.self.view_is)
