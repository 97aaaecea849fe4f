use Rattle.std.proofs.Common.{length, ap, ◌∙◌, refl}
use Rattle.std.specs.Arc.{arc_value}
use Rattle.esm_env.specs.Declarations.{body_of}
use Rattle.esm_rewriting.specs.Rest.{whole}
use Rattle.esm_body.proofs.StartLemmas.{outer_rest, outer_sound, outer_some}
use Rattle.esm_body.proofs.starts.body.Goals as goal

pub returns-in-Ok-outermost : goal.returns-in-Ok-outermost
returns-in-Ok-outermost c =
    let tree = arc_value c.args.scope.now.tree in
    let ls = c.in-Ok-outermost.levels.items in
    let work = c.in-Ok-body_work.work in
    record {
      at = refl;
      tree = c.in-Ok.ensures.cases;
      rest = outer_rest tree.stmts ls work c.in-Ok-outermost.ensures ∙ c.in-Ok-body_work.ensures.work tree.stmts ∙ ap (λ is. whole (body_of is)) (rw c.deref.ensures at c.items.ensures.items);
      levels = outer_sound (length tree.stmts) ls work c.in-Ok-outermost.ensures (c.in-Ok-body_work.ensures.sound (length tree.stmts) (rw c.deref.ensures at c.items.ensures.below));
      some = outer_some ls work c.in-Ok-outermost.ensures;
    }
