use Rattle.esm_rows.proofs.simple.put_declared.Goals as goal

pub returns : goal.returns
returns c = λ row told. c.put_init.ensures _ (c.in_ok-put_set.ensures row told)
