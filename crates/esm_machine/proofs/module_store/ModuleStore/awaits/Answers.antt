use Rattle.std.proofs.Common.{◌≡◌, ◌<◌, true, Bool, Some, List, length, slice_get, ap, subst, sym, ◌∙◌}
use Rattle.std.specs.Arc.{arc_value}
use Rattle.esm_realm.specs.Sound.{records_of}
use Rattle.esm_env.specs.Modules.{entries}
use Rattle.esm_machine.specs.ModuleStore.{Imported, imported, seen_of}
use Rattle.esm_machine.specs.Seen.{linked, modules}
use Rattle.esm_machine.proofs.Awaiting.{flag_read, flag_there}
use Rattle.esm_machine.proofs.module_store.ModuleStore.awaits.Goals as goal

pub flag_of-requires : goal.flag_of-requires
flag_of-requires c =
    let v : Imported = imported (records_of c.self.inside.realm) c.self.inside.loads (arc_value c.self.inside.import_map) c.self.inside.condition in
    let l : linked (seen_of v) c.args.m.0 ≡ true = subst (λ (i : Imported). linked (seen_of i) c.args.m.0 ≡ true) (sym c.self.view_is) c.requires in
    subst (λ (fs : List Bool). c.args.m.0 < length fs) (sym c.as_slice.ensures.value) (flag_there v c.self.inside.awaiting.items c.self.invariant c.args.m.0 l)

pub returns : goal.returns
returns c =
    let v : Imported = imported (records_of c.self.inside.realm) c.self.inside.loads (arc_value c.self.inside.import_map) c.self.inside.condition in
    let l : linked (seen_of v) c.args.m.0 ≡ true = subst (λ (i : Imported). linked (seen_of i) c.args.m.0 ≡ true) (sym c.self.view_is) c.requires in
    flag_read v c.self.inside.awaiting.items c.self.invariant c.args.m.0 l c.flag_of.result
    (subst (λ (fs : List Bool). slice_get fs c.args.m.0 ≡ Some c.flag_of.result) c.as_slice.ensures.value c.flag_of.ensures)
    ∙ ap (λ (i : Imported). (entries (modules (seen_of i)) c.args.m.0).awaits) c.self.view_is
