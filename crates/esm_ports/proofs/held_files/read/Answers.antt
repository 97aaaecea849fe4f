use Rattle.std.proofs.lemmas.List.{take_min}
use Rattle.esm_ports.proofs.held_files.read.Goals as goal

pub returns-in_ok-body-in-Some-clause-told : goal.returns-in_ok-body-in-Some-clause-told
returns-in_ok-body-in-Some-clause-told c =
    rw (← c.in-Some.ensures) (rw (c.in_ok-body-in-Some.ensures.items, c.min.ensures, c.len.ensures, ← c.deref.ensures.len, take_min, c.deref.ensures.value))
