use Rattle.std.proofs.Common.{◌∷◌, ◌++◌, [], ap, ◌∙◌}
use Rattle.esm_row_machine.specs.Naming.{handler_with}
use Rattle.esm_row_machine.proofs.Results.{goes_more}
use Rattle.esm_row_machine.proofs.turn.enter_try.Goals as goal

pub returns-in-Ok : goal.returns-in-Ok
returns-in-Ok c = goes_more c.args.left _ _ (λ names. (names, c.in-Ok.ensures ∙ ap (λ n. c.args.handlers.now.items ++ handler_with c.args.handler n ∷ []) (c.len.ensures ∙ c.args.names.now.ok.0))) c.enter.result c.enter.ensures
