use Rattle.std.proofs.lemmas.Str.{IsUtf8-had}
use Rattle.esm_tree.proofs.node_text.NodeText.as_str.Goals as goal

pub returns-in-Err-clause-value : goal.returns-in-Err-clause-value
returns-in-Err-clause-value c =
    let short = rw c.in-Short.is at c.self.invariant in
    absurd (c.in-Err.ensures.cases.0 (IsUtf8-had _ short.1))
