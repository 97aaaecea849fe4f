use Rattle.std.proofs.Common.{ap, ◌∙◌}
use Rattle.esm_ast.specs.Entries.{add_request, with_text}
use Rattle.esm_script.proofs.requests.add_request.Goals as goal

pub returns-in_ok-insert-in-Some : goal.returns-in_ok-insert-in-Some
unfolding add_request with_text
returns-in_ok-insert-in-Some c = λ stmts. c.in_ok-insert-in-Some.ensures.texts ∙ ap (with_text c.args.found.now) c.in_ok-clone-in-Some.ensures ∙ ap (add_request c.args.found.now) (c.in-Some.ensures stmts)

pub returns-in-None : goal.returns-in-None
unfolding add_request
returns-in-None c = λ stmts. ap (add_request c.args.found.now) (c.in-None.ensures stmts)
