use Rattle.std.proofs.Common.{refl, arith}
use Rattle.esm_row_machine.proofs.shortcuts.call_here.Goals as goal

pub returns-then-len : goal.returns-then-len
returns-then-len g c = (record { world = refl; stacks = refl; frame = refl }, λ w0 h ws body calls fit. tt)

pub returns-in-Some : goal.returns-in-Some
returns-in-Some g c =
    let k = c.call_found.ensures in
    (k.0, k.1 (rw c.as_slice.ensures.value at c.in-Some.ensures) (omega (arith, c.if-len.false, c.len.ensures, c.args.machine.now.frames.ok.0)))

pub returns-in-None : goal.returns-in-None
returns-in-None g c = (record { world = refl; stacks = refl; frame = refl }, λ w0 h ws body calls fit. tt)
