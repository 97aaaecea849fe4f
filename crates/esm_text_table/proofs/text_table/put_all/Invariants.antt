use Rattle.std.specs.BTreeMap.{get}
use Rattle.std.specs.Cmp.Lexicographic.{slice_cmp}
use Rattle.std.specs.Ordering.{nat_cmp}
use Rattle.esm_text_table.specs.TextTable.{AreSound, AreReached, Keeps}
use Rattle.esm_text_table.proofs.text_table.put_all.Given as goal

abbrev pub invariant-loop-place : goal.invariant-loop-place
invariant-loop-place l = record {
  sound : AreSound (get (slice_cmp nat_cmp) l.others) l.texts;
  kept : Keeps (get (slice_cmp nat_cmp) l.initial.others) (get (slice_cmp nat_cmp) l.others);
  reached : AreReached l.place l.slots.items l.mask l.marks (get (slice_cmp nat_cmp) l.others) l.texts;
}
