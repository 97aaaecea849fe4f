use Rattle.std.proofs.Common.{◌≡◌, ◌<◌, true, Some, length, slice_get, ap, subst, sym, ◌∙◌}
use Rattle.std.specs.Arc.{arc_value}
use Rattle.esm_realm.specs.Sound.{records_of}
use Rattle.esm_link.specs.Link.{targets}
use Rattle.esm_machine.specs.ModuleStore.{Imported, imported, seen_of}
use Rattle.esm_machine.specs.Inner.Importing.{there_too}
use Rattle.esm_machine.specs.Seen.{linked, modules}
use Rattle.esm_machine.proofs.LinkedReads.{target_read}
use Rattle.esm_machine.proofs.module_store.ModuleStore.target_of.Goals as goal

pub loaded_of-requires : goal.loaded_of-requires
loaded_of-requires c =
    let v : Imported = imported (records_of c.self.inside.realm) c.self.inside.loads (arc_value c.self.inside.import_map) c.self.inside.condition in
    there_too v c.args.m.0 (subst (λ (i : Imported). linked (seen_of i) c.args.m.0 ≡ true) (sym c.self.view_is) c.requires.linked)

pub returns : goal.returns
returns c =
    let v : Imported = imported (records_of c.self.inside.realm) c.self.inside.loads (arc_value c.self.inside.import_map) c.self.inside.condition in
    let l : linked (seen_of v) c.args.m.0 ≡ true = subst (λ (i : Imported). linked (seen_of i) c.args.m.0 ≡ true) (sym c.self.view_is) c.requires.linked in
    let read = target_read v c.self.invariant.kept c.args.m.0 l c.args.i (subst (λ (i : Imported). c.args.i < length (targets (modules (seen_of i)) c.args.m.0)) (sym c.self.view_is) c.requires.within) in
    subst (λ (i : Imported). slice_get (targets (modules (seen_of i)) c.args.m.0) c.args.i ≡ Some c.loaded_of.result.0) c.self.view_is
    (read ∙ ap (λ n. Some n) (sym c.loaded_of.ensures))
