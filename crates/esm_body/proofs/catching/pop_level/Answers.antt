use Rattle.esm_body.proofs.CaughtLemmas.{left, left_sound}
use Rattle.esm_body.proofs.catching.pop_level.Goals as goal

pub returns-clause-left : goal.returns-clause-left
returns-clause-left c = λ stmts. left stmts c.args.levels.now.items c.pop.new.self.items c.in-Some.level c.requires c.in-Some.ensures.items

pub returns-clause-sound : goal.returns-clause-sound
returns-clause-sound c = λ n all. left_sound n c.args.levels.now.items c.pop.new.self.items c.in-Some.level c.in-Some.ensures.items all
