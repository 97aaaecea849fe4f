use Rattle.esm_body.proofs.names.tell_read.Goals as goal

pub returns : goal.returns
returns c = rw c.in_ok-found.ensures at c.tell.ensures
