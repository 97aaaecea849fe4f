use Rattle.std.proofs.Common.{◌∙◌, ap}
use Rattle.std.specs.Arc.{arc_value}
use Rattle.esm_realm.specs.Sound.{records_of}
use Rattle.esm_machine.specs.ModuleStore.{Imported, imported, urls_by_id}
use Rattle.esm_machine.proofs.module_store.ModuleStoreImporter.url.Goals as goal

pub returns : goal.returns
returns c =
    let v : Imported = imported (records_of c.self.inside.realm) c.self.inside.loads (arc_value c.self.inside.import_map) c.self.inside.condition in
    c.url_of.ensures ∙ (c.records_show.ensures.urls_are v c.args.m.0 c.self.invariant.kept ∙ ap (λ (i : Imported). urls_by_id i c.args.m.0) c.self.view_is)
