use Rattle.std.proofs.Common.{sym}
use Rattle.std.proofs.lemmas.List.{append-nil}
use Rattle.esm_row_machine.proofs.uses.name_caught.Goals as goal

pub returns-in_ok-push : goal.returns-in_ok-push
returns-in_ok-push c = rw c.if-named.true c.in_ok-push.ensures.items

pub returns-else-named : goal.returns-else-named
returns-else-named c = rw c.if-named.false (sym (append-nil c.args.names.now.items))
