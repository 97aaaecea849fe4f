use Rattle.std.proofs.Common.{◌≡◌, true, All, ap, sym, subst, ◌∙◌}
use Rattle.std.specs.Arc.{arc_value}
use Rattle.esm_base.specs.Urls.{IsUsable}
use Rattle.esm_realm.specs.Sound.{records_of}
use Rattle.esm_loads.specs.Arrival.{open_asks}
use Rattle.esm_machine.specs.ModuleStore.{Imported, is_whole, seen_of}
use Rattle.esm_machine.proofs.Shows.{goes, loading_is, usable_asks}
use Rattle.esm_machine.proofs.module_store.ModuleStore.asks.Goals as goal

pub returns-clause-open : goal.returns-clause-open
returns-clause-open c known =
    let whole : is_whole c.self.inside.condition ≡ true = subst (λ (i : Imported). is_whole i.condition ≡ true) (sym c.self.view_is) known in
    c.asks.ensures (arc_value c.self.inside.import_map) (records_of c.self.inside.realm) (goes c.self.inside.condition (records_of c.self.inside.realm) c.self.inside.loads (arc_value c.self.inside.import_map) whole c.self.invariant.kept).fits
    ∙ (sym (ap open_asks (loading_is c.self.inside.condition (records_of c.self.inside.realm) c.self.inside.loads (arc_value c.self.inside.import_map) whole)) ∙ ap (λ (i : Imported). open_asks (seen_of i).loading) c.self.view_is)

pub returns-clause-usable : goal.returns-clause-usable
returns-clause-usable c known =
    let whole : is_whole c.self.inside.condition ≡ true = subst (λ (i : Imported). is_whole i.condition ≡ true) (sym c.self.view_is) known in
    subst (All IsUsable)
    (sym (c.asks.ensures (arc_value c.self.inside.import_map) (records_of c.self.inside.realm) (goes c.self.inside.condition (records_of c.self.inside.realm) c.self.inside.loads (arc_value c.self.inside.import_map) whole c.self.invariant.kept).fits))
    (usable_asks c.self.inside.condition (records_of c.self.inside.realm) c.self.inside.loads (arc_value c.self.inside.import_map) whole c.self.invariant.kept)
