use Rattle.std.proofs.Common.{◌≡◌, length, ◌∙◌, rules, arith}
use Rattle.std.proofs.lemmas.Bool.Decides.{nat_tests}
use Rattle.esm_eval_tests.specs.declared.graphs.Page.{Page}
use Rattle.esm_eval_tests.specs.declared.graphs.Row.{Row}
use Rattle.esm_eval_tests.proofs.Scripts as scripts
use Rattle.esm_eval_tests.proofs.graphs.evaluated.Goals as goal

pub evaluate-requires-clause-whole : goal.evaluate-requires-clause-whole
evaluate-requires-clause-whole c =
    let lt = c.if-m-len.true in
    let e : c.len.result ≡ length c.args.host.now.bodies.rows.items = c.len.ensures ∙ search rules in
    scripts.may_evaluate (λ (p : Page). p.rows.items) (λ (p : Page). p.order.items) (λ (r : Row). r.targets.items) (λ (r : Row). r.awaits) c.hosts_may_evaluate.ensures c.args.host.now c.args.m c.requires (grind (arith, nat_tests, lt, e))
