use Rattle.esm_text_table.proofs.TextTables.{listed_none}
use Rattle.esm_text_table.proofs.text_table.TextTable.new.Goals as goal

pub invariant_of-result : goal.invariant_of-result
invariant_of-result c = listed_none _ _ _ c.new.result.others _ c.new.ensures.marks c.new.ensures.others c.new-2.ensures.items
