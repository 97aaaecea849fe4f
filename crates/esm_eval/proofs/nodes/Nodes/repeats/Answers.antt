use Rattle.std.proofs.Common.{◌-◌, arith, eqb-true, sym, ap, Some, ◌∙◌}
use Rattle.esm_eval.proofs.nodes.Nodes.repeats.Goals as goal

pub returns : goal.returns
returns c t = (c.args.i - 1, (let n = c.if-i-eq0.false in omega (arith, n)), c.waiter.ensures ∙ ap Some (eqb-true c.waiter.result c.waiter-2.result t) ∙ sym c.waiter-2.ensures)
