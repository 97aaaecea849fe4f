use Rattle.std.proofs.Common.{◌≡◌, true, ap, sym, subst, ◌∙◌}
use Rattle.std.specs.Prelude.{IfSome}
use Rattle.std.specs.Arc.{arc_value}
use Rattle.std.specs.Option.{option_map}
use Rattle.esm_realm.specs.Sound.{records_of}
use Rattle.esm_loads.specs.Loading.{root_of_load}
use Rattle.esm_machine.specs.ModuleStore.{Imported, imported, is_whole, seen_of}
use Rattle.esm_machine.specs.Kept.{GoesOn}
use Rattle.esm_machine.specs.Seen.{names}
use Rattle.esm_machine.specs.declared.condition.Condition.TheVariants as conditions
use Rattle.esm_machine.proofs.Shows.{goes, loading_is, root_named, root_loaded}
use Rattle.esm_machine.proofs.module_store.ModuleStore.root_of_load.Goals as goal

pub returns-clause-root : goal.returns-clause-root
returns-clause-root c =
    let whole : is_whole c.self.inside.condition ≡ true = subst (λ (i : Imported). is_whole i.condition ≡ true) (sym c.self.view_is) c.requires.whole in
    let k : GoesOn (imported (records_of c.self.inside.realm) c.self.inside.loads (arc_value c.self.inside.import_map) conditions.Whole) = goes c.self.inside.condition (records_of c.self.inside.realm) c.self.inside.loads (arc_value c.self.inside.import_map) whole c.self.invariant.kept in
    subst (λ (i : Imported). root_of_load (seen_of i).loading c.args.load ≡ option_map (λ m. (names (seen_of i)).name m.0) c.root_of_load.result) c.self.view_is
    (ap (λ l. root_of_load l c.args.load) (loading_is c.self.inside.condition (records_of c.self.inside.realm) c.self.inside.loads (arc_value c.self.inside.import_map) whole)
    ∙ (c.root_of_load.ensures.root (arc_value c.self.inside.import_map) (records_of c.self.inside.realm) k.fits k.whole
    ∙ root_named (records_of c.self.inside.realm) c.self.invariant.kept.sound c.root_of_load.result (c.root_of_load.ensures.loaded (arc_value c.self.inside.import_map) (records_of c.self.inside.realm) k.fits k.whole)))

pub returns-clause-loaded : goal.returns-clause-loaded
returns-clause-loaded c =
    let whole : is_whole c.self.inside.condition ≡ true = subst (λ (i : Imported). is_whole i.condition ≡ true) (sym c.self.view_is) c.requires.whole in
    let k : GoesOn (imported (records_of c.self.inside.realm) c.self.inside.loads (arc_value c.self.inside.import_map) conditions.Whole) = goes c.self.inside.condition (records_of c.self.inside.realm) c.self.inside.loads (arc_value c.self.inside.import_map) whole c.self.invariant.kept in
    subst (λ (i : Imported). IfSome c.root_of_load.result (λ m. (seen_of i).loading.unlinked ((names (seen_of i)).name m.0) ≡ true)) c.self.view_is
    (root_loaded c.self.inside.condition (records_of c.self.inside.realm) c.self.inside.loads (arc_value c.self.inside.import_map) whole c.self.invariant.kept c.root_of_load.result
    (c.root_of_load.ensures.loaded (arc_value c.self.inside.import_map) (records_of c.self.inside.realm) k.fits k.whole))
