use Rattle.std.proofs.Common.{[]}
use Rattle.esm_rows.proofs.Linked.{name_at, no_name}
use Rattle.esm_rows.proofs.nodes.link_text.Goals as goal

pub returns-then-at-behind : goal.returns-then-at-behind
returns-then-at-behind c = λ exprs. name_at exprs c.args.behind.now c.args.at c.index-behind-at.result _ c.if-at-behind.true (rw c.index-behind-at.is at (c.name_of.ensures exprs []))

pub returns-else-at-behind : goal.returns-else-at-behind
returns-else-at-behind c = λ exprs. no_name exprs c.args.behind.now c.args.at c.if-at-behind.false
