use Rattle.std.proofs.Common.{sym, append-nil}
use Rattle.esm_grammar.specs.EarlyErrors.{name_list}
use Rattle.esm_parse_mod.proofs.errors.add_given.Goals as goal

pub returns-in-Some : goal.returns-in-Some
unfolding name_list
returns-in-Some c = rw (c.in-Some.is, ← c.as_str.ensures.value) c.add_one.ensures

pub returns-in-None : goal.returns-in-None
unfolding name_list
returns-in-None c = rw c.in-None.is (sym (append-nil _))
