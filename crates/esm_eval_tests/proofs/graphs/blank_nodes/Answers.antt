use Rattle.esm_eval_tests.proofs.Scripts as scripts
use Rattle.esm_eval_tests.proofs.graphs.blank_nodes.Goals as goal

pub loop-init : goal.loop-init
loop-init c = scripts.blank_none c.new-nodes.result c.new-nodes.ensures

pub loop-preserved : goal.loop-preserved
loop-preserved c = scripts.blank_more c.loop.index c.loop.nodes c.add.new.self c.loop.invariant c.in_ok-add.ensures.ok
