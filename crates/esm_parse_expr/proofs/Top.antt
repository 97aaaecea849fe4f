-- The function and the grammar.
use Rattle.std.proofs.Common.{◌≡◌, ℕ, suc, ◌+◌, List, length, Some, None, Err, sym, ap, ◌∙◌, arith}
use Rattle.esm_tree.specs.Syntax.{Expr}
use Rattle.esm_tree.specs.declared.node.ExprId.{ExprId}
use Rattle.esm_tree.specs.Lexeme.{Lexeme}
use Rattle.esm_grammar.specs.Grammar.{Reads, ors}
use Rattle.esm_grammar.specs.Reading.{Read, expr}
use Rattle.esm_grammar.proofs.Complete as complete
use Rattle.std.specs.Prelude.{Result}
use Rattle.esm_parse_expr.specs.declared.reader.Stop.{Stop}
use Rattle.esm_parse_expr.specs.declared.reader.Stop.TheVariants as end
use Rattle.esm_parse_expr.specs.Outcome.{Refuses}

abbrev fails : Stop → Result (ExprId × ℕ) Stop
fails e = Err e

refused_none : (e : Stop) (read : Read Expr) → fails e ≡ fails end.Fault → Refuses e read → read ≡ None
refused_none end.Fault read h k = k
refused_none end.Memory read h k = absurd (let q : end.Memory ≡ end.Fault = cc in cc)

pub none_begins : (ts : List Lexeme) (i : ℕ) (e : Stop) → fails e ≡ fails end.Fault → Refuses e (expr ts (length ts + 2) i) → (f : Expr) (j : ℕ) → Reads ts ors i f j → ⊥
none_begins ts i e h k f j d =
    let more : length ts + 2 ≡ suc (length ts + 1) = omega arith in
    let reads = complete.expr ts d (length ts + 1) (omega arith) in
    let gone = refused_none e _ h k in
    let p : None ≡ Some (f, j) = sym gone ∙ ap (λ n. expr ts n i) more ∙ reads in
    absurd (cc)
