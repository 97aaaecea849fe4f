use Rattle.std.proofs.Common.{sym}
use Rattle.esm_row_machine.proofs.shortcuts.onward.Goals as goal

pub returns-else-next-left : goal.returns-else-next-left
returns-else-next-left c = (sym c.in-On.is, c.if-next-left.false)

pub returns-in-Calls : goal.returns-in-Calls
returns-in-Calls c = (sym c.in-Calls.is, tt)

pub returns-in-Returns : goal.returns-in-Returns
returns-in-Returns c = (sym c.in-Returns.is, tt)

pub returns-in-Throws : goal.returns-in-Throws
returns-in-Throws c = (sym c.in-Throws.is, tt)
