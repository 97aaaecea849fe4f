use Rattle.std.proofs.Common.{refl, true, false}
use Rattle.esm_values.specs.Plans.{Follows as follows}
use Rattle.esm_values.specs.Operators.{Look as look}
use Rattle.esm_values.specs.Display.{truth_text}
use Rattle.esm_values.specs.Value as value
use Rattle.esm_expr_eval.proofs.Joins.{sees_plain}
use Rattle.esm_expr_eval.proofs.sums.see.Goals as goal

pub returns-in-Ok : goal.returns-in-Ok
returns-in-Ok g c = rw c.in-Error.is (look.Text c.in-Ok.text, (refl, refl), λ next d after f. follows.asks c.in-Ok.text c.in-Ok.ensures f)

pub returns-in-Err : goal.returns-in-Err
returns-in-Err g c = rw c.in-Error.is (λ next. follows.stops c.in-Err.ensures)

pub returns-in-Text : goal.returns-in-Text
returns-in-Text g c = rw c.in-Text.is (sees_plain g.W.World.url_of g.W.World.acts _ (value.Text c.in-Text.text) (look.Text c.in-Text.text) true c.in-Text.text _ refl (λ next. refl) refl refl (rw c.as_str.ensures at c.copied.ensures))

pub returns-in-Bool : goal.returns-in-Bool
returns-in-Bool g c = rw c.in-Bool.is (sees_plain g.W.World.url_of g.W.World.acts _ (value.Truth c.in-Bool.truth) (look.Truth c.in-Bool.truth) false (truth_text c.in-Bool.truth) _ refl (λ next. refl) refl refl (rw c.truth_text.ensures at c.copied-in-Bool.ensures))
