-- What operators join to an operand.
use Rattle.std.specs.Prelude.{◌≡◌, Bool, true, false, Some}
use Rattle.esm_tree.specs.Syntax.{Expr, Exprs, Compared}
use Rattle.esm_tree.specs.declared.lexeme.Terminal.{Terminal}
use Rattle.esm_tree.specs.declared.lexeme.Terminal.TheVariants as t
use Rattle.esm_grammar.specs.Grammar.{joined, compares}
use Rattle.esm_grammar.specs.Reading.{Read, ◌>>=◌, same}

-- the operand and the further ones
unfoldable pub joined_with : (Expr → Exprs → Expr) → Expr → Read Exprs → Read Expr
joined_with make e rest = rest >>= λ es. Some (joined make e es.0, es.1)

unfoldable pub compared_with : Expr → Read Compared → Read Expr
compared_with e rest = rest >>= λ cs. Some (compares e cs.0, cs.1)

abbrev pub is_operator : Terminal → Bool
is_operator t.Plus = true
is_operator t.Same = true
is_operator t.Differs = true
is_operator t.AndAnd = true
is_operator t.OrOr = true
is_operator _ = false

-- the sign of a comparison stands there, or none
abbrev pub Compares : Bool → Terminal → Type 0
Compares true tok = true ≡ same tok t.Same
Compares false tok = (false ≡ same tok t.Same) × (true ≡ same tok t.Differs)

abbrev pub EndsComparison : Terminal → Type 0
EndsComparison tok = (false ≡ same tok t.Same) × (false ≡ same tok t.Differs)
