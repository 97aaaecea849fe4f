use Rattle.std.proofs.Common.{◌≡◌, true, ap, sym, subst, ◌∙◌}
use Rattle.std.specs.Arc.{arc_value}
use Rattle.esm_base.specs.Urls.{has}
use Rattle.esm_realm.specs.Sound.{records_of}
use Rattle.esm_loads.specs.Arrival.{open_asks}
use Rattle.esm_machine.specs.ModuleStore.{Imported, is_whole, seen_of}
use Rattle.esm_machine.proofs.Shows.{goes, loading_is}
use Rattle.esm_machine.proofs.module_store.ModuleStore.is_open.Goals as goal

pub returns : goal.returns
returns c known =
    let whole : is_whole c.self.inside.condition ≡ true = subst (λ (i : Imported). is_whole i.condition ≡ true) (sym c.self.view_is) known in
    let u = c.args.url.now in
    c.is_open.ensures (arc_value c.self.inside.import_map) (records_of c.self.inside.realm) (goes c.self.inside.condition (records_of c.self.inside.realm) c.self.inside.loads (arc_value c.self.inside.import_map) whole c.self.invariant.kept).fits
    ∙ (sym (ap (λ l. has (open_asks l) u) (loading_is c.self.inside.condition (records_of c.self.inside.realm) c.self.inside.loads (arc_value c.self.inside.import_map) whole)) ∙ ap (λ (i : Imported). has (open_asks (seen_of i).loading) u) c.self.view_is)
