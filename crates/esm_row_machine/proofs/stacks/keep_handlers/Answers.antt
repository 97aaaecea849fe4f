use Rattle.std.proofs.Common.{sym, arith}
use Rattle.std.proofs.lemmas.List.{take_all}
use Rattle.esm_row_machine.proofs.stacks.keep_handlers.Goals as goal

pub returns-then-len-count : goal.returns-then-len-count
returns-then-len-count c = sym (take_all c.args.count c.args.handlers.now.items (omega (arith, c.if-len-count.true, c.len.ensures, c.args.handlers.now.ok.0)))

pub returns : goal.returns
returns c = c.truncate.ensures.items
