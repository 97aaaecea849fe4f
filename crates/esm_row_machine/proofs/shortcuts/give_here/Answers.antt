use Rattle.std.proofs.Common.{subst, sym}
use Rattle.esm_row_machine.specs.Shortcuts.{HasRow}
use Rattle.esm_row_machine.specs.declared.machine.Frame.{Frame}
use Rattle.esm_row_machine.proofs.shortcuts.give_here.Goals as goal

pub returns-in-Some : goal.returns-in-Some
returns-in-Some c = ((c.set_frame.ensures, c.in-Ok.ensures), subst (λ (f : Frame). HasRow c.args.rows.now f c.in-Some.row.now) (sym c.set_frame.ensures) c.in-Some.ensures)
