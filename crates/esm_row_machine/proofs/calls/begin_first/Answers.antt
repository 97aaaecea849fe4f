use Rattle.std.proofs.lemmas.Result.{IfOk-weaker}
use Rattle.esm_row_machine.specs.Entering.{EntersAs, BeginsFirst}
use Rattle.esm_row_machine.proofs.calls.begin_first.Goals as goal

pub returns-in-Some : goal.returns-in-Some
returns-in-Some c =
    IfOk-weaker c.enter.result (λ g. EntersAs c.args.machine.now c.args.function c.in-Some.row.now c.args.arguments g c.enter.new.machine)
    (λ g. BeginsFirst c.args.machine.now c.args.rows.now c.args.function c.args.arguments g c.enter.new.machine) (λ g e. record { row = c.in-Some.row.now; there = c.in-Some.ensures; enters = e }) c.enter.ensures
