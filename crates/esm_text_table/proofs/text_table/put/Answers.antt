use Rattle.std.proofs.Common.{◌≡◌, ◌<◌, Some, None, length, ap, sym, ◌∙◌, arith}
use Rattle.std.specs.BTreeMap.{get}
use Rattle.std.specs.Cmp.Lexicographic.{slice_cmp}
use Rattle.std.specs.Ordering.{nat_cmp}
use Rattle.esm_text_table.specs.TextTable.{room, reach}
use Rattle.esm_text_table.proofs.Slots.{room_reach, room_free, before_end, puts_slot, puts_other, ok_weaker}
use Rattle.esm_text_table.proofs.text_table.put.Goals as goal

pub index_mut-requires : goal.index_mut-requires
index_mut-requires c =
    let is : room c.args.slots.now.items 8 c.args.start ≡ Some c.in-Some-room_of.at = ap (λ l. room l 8 c.args.start) (sym c.as_slice.ensures.value) ∙ (sym c.room_of.ensures ∙ c.in-Some-room_of.is) in
    let h : c.in-Some-room_of.at < length c.args.slots.now.items = before_end c.args.slots.now.items c.in-Some-room_of.at 0 (room_free c.args.slots.now.items c.in-Some-room_of.at 8 c.args.start is) in
    omega (arith, h)

pub returns-in-Some-room_of-clause-put : goal.returns-in-Some-room_of-clause-put
returns-in-Some-room_of-clause-put c =
    let is : room c.args.slots.now.items reach c.args.start ≡ Some c.in-Some-room_of.at = room_reach c.args.slots.now.items c.args.start ∙ (ap (λ l. room l 8 c.args.start) (sym c.as_slice.ensures.value) ∙ (sym c.room_of.ensures ∙ c.in-Some-room_of.is)) in
    puts_slot (room c.args.slots.now.items reach c.args.start) c.args.slots.now.items (get (slice_cmp nat_cmp) c.args.others.now) c.args.text.now c.args.place c.in-Some-room_of.at c.in-Some.number is c.in-Some.ensures

pub returns-in-None-clause-put : goal.returns-in-None-clause-put
returns-in-None-clause-put c =
    let is : room c.args.slots.now.items reach c.args.start ≡ None = room_reach c.args.slots.now.items c.args.start ∙ (ap (λ l. room l 8 c.args.start) (sym c.as_slice.ensures.value) ∙ (sym c.room_of.ensures ∙ c.in-None.is)) in
    ok_weaker c.put_other.result (λ put. puts_other (room c.args.slots.now.items reach c.args.start) c.args.slots.now.items (get (slice_cmp nat_cmp) c.args.others.now) (get (slice_cmp nat_cmp) c.put_other.new.others) c.args.text.now c.args.place is put.0) c.put_other.ensures.others
