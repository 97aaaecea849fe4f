-- What a function that reads several expressions, or members and calls, did.
use Rattle.std.specs.Prelude.{ℕ, Result, Vec}
use Rattle.std.specs.declared.alloc.Global.{Global}
use Rattle.esm_tree.specs.Syntax.{Exprs, Links, Parts}
use Rattle.esm_tree.specs.Flat.{parts, links, AllBelow, AllLinksBelow}
use Rattle.esm_tree.specs.declared.node.ExprId.{ExprId}
use Rattle.esm_tree.specs.declared.node.Link.{Link}
use Rattle.esm_grammar.specs.Reading.{Read}
use Rattle.esm_parse_expr.specs.declared.reader.Stop.{Stop}
use Rattle.esm_parse_expr.specs.Outcome.{Reads}

abbrev pub ReadsExprs : Parts → Parts → Result (Vec ExprId Global × ℕ) Stop → Read Exprs → Type 0
ReadsExprs = Reads (λ n v. AllBelow n v.items) (λ es v. parts es v.items)

abbrev pub ReadsLinks : Parts → Parts → Result (Vec Link Global × ℕ) Stop → Read Links → Type 0
ReadsLinks = Reads (λ n v. AllLinksBelow n v.items) (λ es v. links es v.items)
