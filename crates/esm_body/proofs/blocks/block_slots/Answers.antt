use Rattle.esm_body.proofs.blocks.block_slots.Goals as goal

pub returns : goal.returns
returns c = rw c.in_ok-add_block.ensures at c.of.ensures
