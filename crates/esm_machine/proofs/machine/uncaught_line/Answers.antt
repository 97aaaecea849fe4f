use Rattle.std.proofs.Common.{◌≡◌, ◌++◌, List, ℕ, subst}
use Rattle.std.specs.Prelude.{IfOk, codes}
use Rattle.esm_machine.proofs.Lines.{uncaught}
use Rattle.esm_machine.proofs.machine.uncaught_line.Goals as goal

pub returns : goal.returns
returns c =
    uncaught c.args.parts.now c.requires.sound c.args.value.now c.in_ok-shown.shown c.uncaught_text.result c.requires.known c.in_ok-shown.ensures
    (subst (λ (t : List ℕ). IfOk c.uncaught_text.result (λ line. line ≡ codes "Uncaught " ++ t)) c.as_str.ensures.value c.uncaught_text.ensures)
