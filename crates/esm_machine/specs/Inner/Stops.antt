-- The same refusals, as each layer knows them.
use Rattle.esm_base.specs.declared.limits.Limit.{Limit}
use Rattle.esm_base.specs.declared.end.End.TheVariants as ends
use Rattle.esm_rewriting.specs.declared.stop.Stop.{Stop}
use Rattle.esm_rewriting.specs.declared.stop.Stop.TheVariants as stops
use Rattle.esm_eval.specs.declared.walk.EvalEnd.{EvalEnd}
use Rattle.esm_eval.specs.declared.walk.EvalEnd.TheVariants as eval_ends
use Rattle.esm_machine.specs.Represents.{TurnEnd}

abbrev pub eval_end_of : Stop → EvalEnd Limit
eval_end_of (stops.Limit limit) = eval_ends.Stopped limit
eval_end_of stops.Memory = eval_ends.Memory

abbrev pub turn_end_by : EvalEnd Limit → TurnEnd
turn_end_by (eval_ends.Stopped limit) = ends.Fault limit
turn_end_by eval_ends.Memory = ends.Memory

abbrev pub turn_end_of : Stop → TurnEnd
turn_end_of (stops.Limit limit) = ends.Fault limit
turn_end_of stops.Memory = ends.Memory
