use Rattle.std.proofs.Common.{[], ◌∷◌, subst, sym}
use Rattle.std.proofs.lemmas.Result.{on_ok_weaker}
use Rattle.esm_rows.specs.Making.{AreTold, one_more}
use Rattle.esm_rows.proofs.draft.Draft.put.Goals as goal

pub returns : goal.returns
returns c = λ row p told is. on_ok_weaker c.push_op.result (λ e. subst (λ ops. AreTold [] c.args.self.now.texts.items ops (p ∷ row)) (sym e) (one_more c.args.self.now.ops.items c.args.op told is)) c.push_op.ensures
