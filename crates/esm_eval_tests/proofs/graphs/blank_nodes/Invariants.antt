use Rattle.esm_eval_tests.specs.Scripted.{IsBlank}
use Rattle.esm_eval_tests.proofs.graphs.blank_nodes.Given as goal

abbrev pub invariant-loop : goal.invariant-loop
invariant-loop l = IsBlank l.index l.nodes
