use Rattle.std.proofs.Common.{[], ◌∷◌, ap, ◌∙◌, length}
use Rattle.esm_rows.proofs.Made.{same, behind}
use Rattle.esm_rows.proofs.draft.Draft.add_text.Goals as goal

pub returns-clause-same : goal.returns-clause-same
returns-clause-same c = λ row told. rw c.in_ok-push_text.ensures (same [] c.args.self.now.texts.items (c.args.text.now ∷ []) c.args.self.now.ops.items row told)

pub returns-clause-text : goal.returns-clause-text
returns-clause-text c =
    let at = c.in_ok-at.ensures ∙ ap length c.as_slice-texts.ensures.value in
    rw (c.in_ok-push_text.ensures, at) (behind c.args.self.now.texts.items c.args.text.now)
