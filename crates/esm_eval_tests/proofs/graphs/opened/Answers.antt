use Rattle.esm_eval_tests.specs.declared.graphs.Page.{Page}
use Rattle.esm_eval_tests.specs.declared.graphs.Row.{Row}
use Rattle.esm_eval_tests.proofs.Scripts as scripts
use Rattle.esm_eval_tests.proofs.graphs.opened.Goals as goal

pub returns : goal.returns
returns c = scripts.may_open (λ (p : Page). p.rows.items) (λ (p : Page). p.order.items) (λ (r : Row). r.targets.items) (λ (r : Row). r.awaits) c.hosts_stay_between.ensures _ _ c.as_slice.ensures.value c.in_ok-nodes.ensures c.new-2.ensures.items
