use Rattle.esm_body.proofs.world.InsideWorld.print.Goals as goal

pub returns : goal.returns
returns g c = rw c.as_slice.ensures.value at c.print_line.ensures
