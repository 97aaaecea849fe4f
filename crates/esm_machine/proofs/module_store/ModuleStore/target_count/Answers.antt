use Rattle.std.proofs.Common.{◌≡◌, true, length, ap, subst, sym, ◌∙◌}
use Rattle.std.specs.Arc.{arc_value}
use Rattle.esm_realm.specs.Sound.{records_of}
use Rattle.esm_link.specs.Link.{targets}
use Rattle.esm_machine.specs.ModuleStore.{Imported, imported, seen_of}
use Rattle.esm_machine.specs.Inner.Importing.{there_too}
use Rattle.esm_machine.specs.Seen.{linked, modules}
use Rattle.esm_machine.proofs.LinkedReads.{count_read, loaded_read}
use Rattle.esm_machine.proofs.module_store.ModuleStore.target_count.Goals as goal

pub loaded_count-requires : goal.loaded_count-requires
loaded_count-requires c =
    let v : Imported = imported (records_of c.self.inside.realm) c.self.inside.loads (arc_value c.self.inside.import_map) c.self.inside.condition in
    there_too v c.args.m.0 (subst (λ (i : Imported). linked (seen_of i) c.args.m.0 ≡ true) (sym c.self.view_is) c.requires)

pub returns : goal.returns
returns c =
    let v : Imported = imported (records_of c.self.inside.realm) c.self.inside.loads (arc_value c.self.inside.import_map) c.self.inside.condition in
    let l : linked (seen_of v) c.args.m.0 ≡ true = subst (λ (i : Imported). linked (seen_of i) c.args.m.0 ≡ true) (sym c.self.view_is) c.requires in
    c.loaded_count.ensures ∙ loaded_read v c.self.invariant.kept c.args.m.0 l ∙ count_read v c.self.invariant.kept c.args.m.0 l ∙ ap (λ (i : Imported). length (targets (modules (seen_of i)) c.args.m.0)) c.self.view_is
