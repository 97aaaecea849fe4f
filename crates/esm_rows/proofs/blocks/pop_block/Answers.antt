use Rattle.esm_rows.proofs.Entered.{popped}
use Rattle.esm_rows.proofs.blocks.pop_block.Goals as goal

pub returns : goal.returns
returns c = popped c.args.blocks.now.items _ c.pop-block.result _ _ c.args.blocks.now.ok.0 c.pop-block.ensures.items c.pop-block.ensures.cases
