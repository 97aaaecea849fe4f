use Rattle.std.proofs.Common.{◌≡◌, ◌<◌, ℕ, Bool, true, List, Result, Ok, Err, refl, sym, subst, arith, length}
use Rattle.std.specs.Result.{IfOk}
use Rattle.esm_tree.specs.Lexeme.{Lexeme}
use Rattle.esm_tree.specs.Flat.{part}
use Rattle.esm_tree.specs.declared.node.ExprId.{ExprId}
use Rattle.esm_grammar.specs.Lexes.{AreTokens}
use Rattle.esm_grammar.specs.Grammar.{Reads, ors}
use Rattle.esm_grammar.proofs.Tokens.{one_lexes}
use Rattle.esm_parse_expr.specs.TextExpressions.{ExprBegins}
use Rattle.esm_parse_expr.proofs.of_text.parse_expr.Goals as goal

ok_more : {A E : Type 0} (r : Result A E) (P Q : A → Type 0) → ((a : A) → P a → Q a) → IfOk r P → IfOk r Q
ok_more (Ok a) P Q f h = f a h
ok_more (Err e) P Q f h = tt

same_tokens : (bytes : List ℕ) {ts us : List Lexeme} {w v : Bool} → AreTokens bytes ts w → AreTokens bytes us v → (ts ≡ us) × (w ≡ v)
same_tokens bytes p q = one_lexes p.lexes q.lexes refl refl

pub lexemes-requires : goal.lexemes-requires
lexemes-requires c = let short = c.requires.short in omega (arith, short)

pub returns-in-Ok : goal.returns-in-Ok
returns-in-Ok c =
    let bytes = c.args.bytes.now in
    let at = c.args.at in
    let given = c.requires.spelled in
    let own : AreTokens bytes c.in-Ok.found c.in-Ok.field-0-1 = c.in-Ok.ensures in
    let e = (same_tokens bytes own given.lexes).0 in
    let lexes : AreTokens bytes c.in-Ok.found true = subst (λ t. AreTokens bytes t true) (sym e) given.lexes in
    let exprs = c.parse_among.new.tree.exprs in
    let ReadHere : ExprId × ℕ → Type 0 = λ p. (p.0.0 < length exprs) × Reads c.in-Ok.found ors at (part exprs p.0) p.1 in
    let Begins : ExprId × ℕ → Type 0 = λ p. (p.0.0 < length exprs) × ExprBegins bytes at (part exprs p.0) p.1 in
    record {
      grows = c.parse_among.ensures.grows;
      found = ok_more c.parse_among.result ReadHere Begins (λ p h. (h.0, record { ts = c.in-Ok.found; lexes = lexes; reads = h.1 })) c.parse_among.ensures.found;
      fault = c.parse_among.ensures.fault;
      none = λ e x j b. c.parse_among.ensures.none e x j (subst (λ t. Reads t ors at x j) (sym ((same_tokens bytes own b.lexes).0)) b.reads);
      err = c.parse_among.ensures.err;
    }
