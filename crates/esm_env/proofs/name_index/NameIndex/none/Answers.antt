use Rattle.esm_env.proofs.name_index.NameIndex.none.Goals as goal

pub returns : goal.returns
returns c = λ names. tt
