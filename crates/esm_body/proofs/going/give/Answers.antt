use Rattle.std.proofs.Common.{length}
use Rattle.std.specs.Arc.{arc_value}
use Rattle.esm_body.proofs.GoesOn.{gives}
use Rattle.esm_body.proofs.going.give.Goals as goal

pub returns-in-Ok : goal.returns-in-Ok
returns-in-Ok g c =
    gives c.args.inside.now c.add.new.levels c.args.purpose c.args.value (c.in-Ok.ensures.front (arc_value c.args.inside.now.code.now.tree).stmts)
    (c.in-Ok.ensures.sound (length (arc_value c.args.inside.now.code.now.tree).stmts) c.requires.purpose c.requires.code.levels)
