use Rattle.std.specs.Prelude.{map, string_bytes}
use Rattle.std.proofs.lemmas.Result.{IfOk-weaker}
use Rattle.esm_arguments.proofs.Words.{command_usable, command_some, command_few}
use Rattle.esm_arguments.proofs.reading.read_words.Goals as goal

pub returns-clause-usable : goal.returns-clause-usable
returns-clause-usable c = IfOk-weaker c.command_in.result _ _ (λ found is. command_usable c.args.many (map string_bytes c.args.words.now) found is) c.command_in.ensures

pub returns-clause-some : goal.returns-clause-some
returns-clause-some c = IfOk-weaker c.command_in.result _ _ (λ found is. command_some c.args.many (map string_bytes c.args.words.now) found is) c.command_in.ensures

pub returns-clause-few : goal.returns-clause-few
returns-clause-few c = IfOk-weaker c.command_in.result _ _ (λ found is. command_few c.args.many (map string_bytes c.args.words.now) found is) c.command_in.ensures
