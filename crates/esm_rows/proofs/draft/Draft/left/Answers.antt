use Rattle.std.proofs.Common.{[], length, ap, ◌∙◌, ◌≡◌}
use Rattle.std.proofs.lemmas.Result.{IfOk-weaker}
use Rattle.esm_rows.proofs.Made.{told_length}
use Rattle.esm_rows.proofs.draft.Draft.left.Goals as goal

pub returns : goal.returns
returns c = λ row told. IfOk-weaker c.count.result (λ n. n ≡ length c.as_slice-ops.result.now) (λ n. n ≡ length row) (λ n e. e ∙ ap length c.as_slice-ops.ensures.value ∙ told_length [] c.args.self.now.texts.items c.args.self.now.ops.items row told) c.count.ensures
