use Rattle.std.proofs.Common.{subst}
use Rattle.std.specs.BTreeMap.{get}
use Rattle.std.specs.Cmp.Lexicographic.{slice_cmp}
use Rattle.std.specs.Ordering.{nat_cmp}
use Rattle.esm_text_table.specs.TextTable.{AreSound}
use Rattle.esm_text_table.proofs.TextTables.{listed_kept}
use Rattle.esm_text_table.proofs.text_table.TextTable.make_room.Goals as goal

pub invariant_of-self : goal.invariant_of-self
invariant_of-self c =
    let t = c.self.inside in
    listed_kept t.places.slots.items t.places.mask t.places.marks.items (get (slice_cmp nat_cmp) t.places.others) (get (slice_cmp nat_cmp) c.put_all-done.new.others) t.texts.items c.self.invariant
    (subst (AreSound (get (slice_cmp nat_cmp) c.put_all-done.new.others)) c.as_slice-2.ensures.value c.put_all-done.ensures.sound) c.put_all-done.ensures.kept
