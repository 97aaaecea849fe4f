use Rattle.std.proofs.Common.{[]}
use Rattle.esm_rows.proofs.Entered.{names_push}
use Rattle.esm_rows.proofs.blocks.push_block.Goals as goal

pub returns : goal.returns
returns c = rw c.in_ok-push.ensures.items (names_push c.args.blocks.now.items c.args.block [])
