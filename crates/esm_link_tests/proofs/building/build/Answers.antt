use Rattle.std.proofs.Common.{ap, map}
use Rattle.std.specs.Arc.{arc_value}
use Rattle.esm_link_tests.proofs.Built.{built_none}
use Rattle.esm_link_tests.proofs.building.build.Goals as goal

pub loop-part-init : goal.loop-part-init
loop-part-init c = built_none _ _ (ap (map arc_value) c.new-2.ensures.items) c.new.ensures.records c.new.ensures.sound
