use Rattle.std.proofs.Common.{◌∙◌, ◌++◌, sym, subst}
use Rattle.esm_body.specs.Inner.Remainders.{IsLast, wholes}
use Rattle.esm_body.proofs.Remainders.{part_more, last_behind}
use Rattle.esm_body.proofs.remaining.Remaining.pop.Goals as goal

pub returns-in-Some : goal.returns-in-Some
returns-in-Some c = sym c.self.view_is ∙ part_more c.self.inside.statements.items c.last_part.new.front.items c.self.inside.front.items c.in-Some.one c.in-Some.ensures

pub returns-in-None : goal.returns-in-None
returns-in-None c =
    subst (λ ws. IsLast ws c.last_statement.result (wholes c.last_statement.new.statements.items ++ c.last_part.new.front.items)) c.self.view_is
    (last_behind (wholes c.self.inside.statements.items) (wholes c.last_statement.new.statements.items) c.self.inside.front.items c.last_part.new.front.items c.last_statement.result c.in-None.ensures.0 c.in-None.ensures.1 c.last_statement.ensures)
