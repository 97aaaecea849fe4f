use Rattle.esm_eval.specs.Calls.{numbered}
use Rattle.esm_values.specs.Code.{value_of}
use Rattle.esm_eval.proofs.Inner.Onces as onces
use Rattle.esm_eval.proofs.ends.rejected.Goals as goal

pub returns-clause-between : goal.returns-clause-between
returns-clause-between g c = onces.keeps_rejects (numbered g.D.Late.lens) g.D.Late.acts g.D.Late.lawful g.D.Late.steady g.D.Late.begins_one c.args.desk.now c.args.m.0 (value_of c.args.with.now) c.reject_by.result c.reject_by.new.desk c.requires.between c.reject_by.ensures.rejects
