use Rattle.std.proofs.Common.{◌∙◌}
use Rattle.std.specs.BTreeMap.{get}
use Rattle.std.specs.Cmp.Lexicographic.{slice_cmp}
use Rattle.std.specs.Ordering.{nat_cmp}
use Rattle.esm_text_table.proofs.TextTables.{found_by}
use Rattle.esm_text_table.proofs.text_table.TextTable.find_by.Goals as goal

pub returns : goal.returns
returns c =
    let t = c.self.inside in
    c.look.ensures ∙ found_by t.places.slots.items t.places.mask t.places.marks.items (get (slice_cmp nat_cmp) t.places.others) t.texts.items c.args.self.now c.as_slice.result.now c.args.text.now c.args.mark c.start_of-start.result
    c.self.invariant c.self.view_is c.as_slice.ensures.value c.requires c.start_of-start.ensures
