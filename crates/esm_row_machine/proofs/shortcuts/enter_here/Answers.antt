use Rattle.std.proofs.Common.{refl}
use Rattle.esm_row_machine.proofs.shortcuts.enter_here.Goals as goal

pub returns-in-Ok-push_frame : goal.returns-in-Ok-push_frame
returns-in-Ok-push_frame c = record {
  mid = c.enter.new.machine;
  enters = c.in-Ok.ensures;
  operands = refl;
  names = refl;
  handlers = refl;
  frames = c.in-Ok-push_frame.ensures;
}
