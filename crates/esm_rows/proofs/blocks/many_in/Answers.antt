use Rattle.std.proofs.Common.{◌≡◌, length, sym, ◌∙◌}
use Rattle.std.proofs.lemmas.List.{length-map}
use Rattle.std.proofs.lemmas.Result.{IfOk-weaker}
use Rattle.esm_rows.specs.Locals.{declaration, declared}
use Rattle.esm_rows.proofs.blocks.many_in.Goals as goal

pub returns : goal.returns
returns c = IfOk-weaker c.count.result (λ n. n ≡ c.len.result) (λ n. n ≡ length (declared c.args.names.now)) (λ n e. e ∙ c.len.ensures ∙ sym (length-map c.args.names.now declaration)) c.count.ensures
