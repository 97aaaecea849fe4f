-- The record with this id.
use Rattle.std.proofs.Common.{ap, sym, subst, arith, map, ◌∙◌}
use Rattle.std.specs.Prelude.{◌<◌, slice_set}
use Rattle.esm_realm.specs.Sound.{RecordParts, IsSound, parts_of, records_of}
use Rattle.esm_realm.specs.declared.record.ModuleStatus.TheVariants.{Unlinked}
use Rattle.esm_loads.proofs.Places.{index_get, map_long, set_map, some_is}
use Rattle.esm_loads.proofs.FillFacts.{parts_get, sound_status}
use Rattle.esm_loads.proofs.filling.set_unlinked.Goals as goal

pub index_mut-requires : goal.index_mut-requires
index_mut-requires c = let h = map_long parts_of c.args.realm.now.records.items in omega (arith, c.requires.id, h)

pub returns-clause-unlinked : goal.returns-clause-unlinked
returns-clause-unlinked c r e =
    let xs = c.args.realm.now.records.items in
    let inside = subst (λ n. c.args.id.0 < n) (map_long parts_of xs) c.requires.id in
    let is = some_is (sym (parts_get xs c.args.id.0 c.index_mut.result.now (index_get xs c.args.id.0 c.index_mut.result.now inside c.index_mut.ensures.value)) ∙ e) in
    set_map parts_of xs c.args.id.0 _ ∙ ap (λ (q : RecordParts). slice_set (map parts_of xs) c.args.id.0 (record q { status = Unlinked })) is

pub returns-clause-sound : goal.returns-clause-sound
returns-clause-sound c =
    let xs = c.args.realm.now.records.items in
    let inside = subst (λ n. c.args.id.0 < n) (map_long parts_of xs) c.requires.id in
    let at = parts_get xs c.args.id.0 c.index_mut.result.now (index_get xs c.args.id.0 c.index_mut.result.now inside c.index_mut.ensures.value) in
    subst IsSound (sym (set_map parts_of xs c.args.id.0 _)) (sound_status (records_of c.args.realm.now) c.args.id.0 (parts_of c.index_mut.result.now) Unlinked c.requires.sound at)
