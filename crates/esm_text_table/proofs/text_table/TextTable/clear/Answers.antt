use Rattle.esm_text_table.proofs.TextTables.{listed_none}
use Rattle.esm_text_table.proofs.text_table.TextTable.clear.Goals as goal

pub invariant_of-self : goal.invariant_of-self
invariant_of-self c = listed_none _ _ _ c.clear-3.new.self _ c.clear-2.ensures.items c.clear-3.ensures.empty c.clear-4.ensures.items
