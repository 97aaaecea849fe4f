-- What each call on the world keeps, a rewriting of an expression keeps.
use Rattle.std.proofs.Common.{ℕ, List}
use Rattle.std.specs.Prelude.{Result}
use Rattle.esm_values.specs.Acts.{Act, AnswerTo}
use Rattle.esm_values.specs.Plans.{Acting, Rewritten, Plan, Follows}
use Rattle.esm_values.specs.Plans.{Follows as follow}
use Rattle.esm_values.specs.Operators.{Values}
use Rattle.esm_expr_eval.specs.Terms.{Term, Terms}
use Rattle.esm_expr_eval.specs.Rewriting.{Rewrites, RewritesIn}
use Rattle.esm_expr_eval.specs.Rewriting.Rewrites.{fails, name, or_in, or, and_in, and, equal_in, equal_right, equal, equal_end, sum_in, sum_right, joins, sum_end, not_in, not_of, post_in, member_of, arguments, call_of, post_end, print_in, print, error_in, error, import_in, begins, own_url}
use Rattle.esm_expr_eval.specs.Rewriting.RewritesIn.{first, later}

-- a relation that stays, goes on, and holds of each call
pub record Stays {W V S : Type 0} (acts : Acting W V S) (Keep : W → W → Type 0) : Type 0 where
  pub same : (w : W) → Keep w w
  pub on : {u v w : W} → Keep u v → Keep v w → Keep u w
  pub call : {v w : W} {a : Act V} {r : Result (AnswerTo a) S} → acts v a r w → Keep v w

module _ {W V S : Type 0} (acts : Acting W V S) (Keep : W → W → Type 0) (k : Stays acts Keep) where
  pub follows_keeps : {A : Type 0} {v w : W} {p : Plan V S A} {c : Rewritten V S A} → Follows acts v p c w → Keep v w
  follows_keeps {v = v} follow.ends = k.same v
  follows_keeps (follow.asks r a f) = k.on (k.call a) (follows_keeps f)
  follows_keeps (follow.stops a) = k.call a

  module _ (values : Values V) (url : W → List ℕ) where
    mutual
      pub step_keeps : {v w : W} {t : Term V} {c : Rewritten V S (Term V)} → Rewrites values url acts v t c w → Keep v w
      step_keeps {v} fails = k.same v
      step_keeps (name a) = follows_keeps a
      step_keeps (or_in s) = step_keeps s
      step_keeps {v} or = k.same v
      step_keeps (and_in s) = step_keeps s
      step_keeps {v} and = k.same v
      step_keeps (equal_in s) = step_keeps s
      step_keeps (equal_right s) = step_keeps s
      step_keeps {v} equal = k.same v
      step_keeps {v} equal_end = k.same v
      step_keeps (sum_in s) = step_keeps s
      step_keeps (sum_right s) = step_keeps s
      step_keeps (joins a) = follows_keeps a
      step_keeps {v} sum_end = k.same v
      step_keeps (not_in s) = step_keeps s
      step_keeps {v} not_of = k.same v
      step_keeps (post_in s) = step_keeps s
      step_keeps (member_of a) = follows_keeps a
      step_keeps (arguments s) = steps_keeps s
      step_keeps (call_of p a) = follows_keeps a
      step_keeps {v} post_end = k.same v
      step_keeps (print_in s) = steps_keeps s
      step_keeps (print p a) = follows_keeps a
      step_keeps (error_in s) = step_keeps s
      step_keeps (error a) = follows_keeps a
      step_keeps (import_in s) = step_keeps s
      step_keeps (begins a) = follows_keeps a
      step_keeps {v} own_url = k.same v

      steps_keeps : {v w : W} {es : Terms V} {c : Rewritten V S (Terms V)} → RewritesIn values url acts v es c w → Keep v w
      steps_keeps (first s) = step_keeps s
      steps_keeps (later s) = steps_keeps s
