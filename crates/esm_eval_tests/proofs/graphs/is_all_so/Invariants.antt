use Rattle.esm_eval_tests.specs.Scripted.{MayGoOn}
use Rattle.esm_eval_tests.specs.declared.graphs.Page.{Page}
use Rattle.esm_eval_tests.specs.declared.graphs.Row.{Row}
use Rattle.esm_eval_tests.proofs.graphs.is_all_so.Given as goal

abbrev pub invariant-loop-call : goal.invariant-loop-call
invariant-loop-call l = MayGoOn (λ (p : Page). p.rows.items) (λ (p : Page). p.order.items) (λ (r : Row). r.targets.items) (λ (r : Row). r.awaits) l.host
