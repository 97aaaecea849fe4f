use Rattle.std.proofs.Common.{[], ◌∷◌, sym, ap, ◌++◌, ◌∙◌, append-nil}
use Rattle.esm_ast.specs.Entries.{stars_of}
use Rattle.esm_script.proofs.Items.{other_stars}
use Rattle.esm_script.proofs.stars.add_star.Goals as goal

pub returns-in_ok-push-in-ExportAll : goal.returns-in_ok-push-in-ExportAll
unfolding stars_of
returns-in_ok-push-in-ExportAll c = λ stmts. rw c.in-ExportAll.is (c.in_ok-push-in-ExportAll.ensures.items ∙ ap (λ k. c.args.stars.now.items ++ k ∷ []) (rw c.deref.ensures at c.place_of.ensures))

pub returns-in_default : goal.returns-in_default
returns-in_default c = λ stmts. sym (ap (λ xs. c.args.stars.now.items ++ xs) (other_stars stmts c.args.requests.now _ c.in_default.not-ExportAll) ∙ append-nil c.args.stars.now.items)
