-- Statements one after another: what is there leads on to what is there then.
use Rattle.std.proofs.Common.{◌≡◌, ℕ, ◌+◌, List, [], ◌∷◌, ◌++◌, length, refl, ap, subst, sym, ◌∙◌, append_assoc, arith}
use Rattle.std.specs.List.{flat_map}
use Rattle.std.specs.Prelude.{None, Some, true, false}
use Rattle.esm_tree.specs.Syntax.{Expr, Stmt, Stmts}
use Rattle.esm_tree.specs.Flat.{stmt_parts}
use Rattle.esm_tree.specs.declared.node.StmtId.{StmtId}
use Rattle.esm_env.specs.Declarations.{Declaration, declared_in}
use Rattle.esm_rows.specs.Rows.{Row, Names, stmts_row, block_row, handler_row, caught_names}
use Rattle.esm_rows.specs.Rows.{Operation as o}
use Rattle.esm_rows.specs.Making.{AreTold, plain}
use Rattle.esm_rows.specs.Working.{Amid, amid, inner_row, first_row, tried_row, work_row, work_names, after_work, undone_works, statement_works, IsPlainOp, IsPlainWork, ArePlainWorks, Owes}
use Rattle.esm_rows.specs.declared.op.Op.{Op}
use Rattle.esm_rows.specs.declared.op.Op.TheVariants as op
use Rattle.esm_rows.specs.declared.works.Work.{Work}
use Rattle.esm_rows.specs.declared.works.Work.TheVariants as w

pub plain_both : (ws us : List Work) → ArePlainWorks ws → ArePlainWorks us → ArePlainWorks (ws ++ us)
plain_both [] us h k = k
plain_both (t ∷ ws) us h k = (h.0, plain_both ws us h.1 k)

pub plain_front : (ws us : List Work) → ArePlainWorks (ws ++ us) → ArePlainWorks ws
plain_front [] us h = tt
plain_front (t ∷ ws) us h = (h.0, plain_front ws us h.1)

pub plain_last : (ws : List Work) (t : Work) → ArePlainWorks (ws ++ t ∷ []) → IsPlainWork t
plain_last [] t h = h.0
plain_last (u ∷ ws) t h = plain_last ws t h.1

plain_statements : (ids : List StmtId) → ArePlainWorks (flat_map statement_works ids)
plain_statements [] = tt
plain_statements (id ∷ ids) = (tt, plain_statements ids)

module _ (exprs : List Expr) (stmts : List Stmt) where
  both : (ws us : List Work) (s : Amid) → undone_works exprs stmts (ws ++ us) s ≡ undone_works exprs stmts ws (undone_works exprs stmts us s)
  both [] us s = refl
  both (t ∷ ws) us s = ap (after_work exprs stmts t) (both ws us s)

  statements : (ids : List StmtId) (names : Names) (c : Row) → undone_works exprs stmts (flat_map statement_works ids) (amid names c) ≡ amid names (stmts_row names (stmt_parts stmts ids) c)
  statements [] names c = refl
  statements (id ∷ ids) names c = ap (after_work exprs stmts (w.Statement id)) (statements ids names c)

  -- what is owed is there
  pub pay : {names : Names} {works : List Work} {texts texts2 : List (List ℕ)} {ops ops2 : List Op} {owed : Row → Row} {whole : Row} → (d : Owes exprs stmts names works texts ops owed whole) → AreTold [] texts2 ops2 (owed d.row) → Owes exprs stmts names works texts2 ops2 (λ c. c) whole
  pay {owed = owed} d told = record { row = owed d.row; told = told; makes = d.makes; plain_works = d.plain_works }

  -- a part of it is, and the rest is owed, or still to be done
  pub shift : (us : List Work) {names names2 : Names} {works : List Work} {texts texts2 : List (List ℕ)} {ops ops2 : List Op} {owed : Row → Row} {whole : Row} → (d : Owes exprs stmts names works texts ops owed whole) (owed2 : Row → Row) (row : Row) → AreTold [] texts2 ops2 row → undone_works exprs stmts us (amid names2 (owed2 row)) ≡ amid names (owed d.row) → ArePlainWorks us → (works2 : List Work) → works2 ≡ works ++ us → Owes exprs stmts names2 works2 texts2 ops2 owed2 whole
  shift us {names2 = names2} {works = works} d owed2 row told same plain_us works2 e = record {
    row = row;
    told = told;
    makes = ap (λ ws. (undone_works exprs stmts ws (amid names2 (owed2 row))).row) e ∙ ap (λ s. s.row) (both works us (amid names2 (owed2 row)) ∙ ap (undone_works exprs stmts works) same) ∙ d.makes;
    plain_works = subst ArePlainWorks (sym e) (plain_both works us d.plain_works plain_us);
  }

  -- nothing more is there, and the same is owed
  pub owed_as : {names : Names} {works : List Work} {texts : List (List ℕ)} {ops : List Op} {owed : Row → Row} {whole : Row} → (d : Owes exprs stmts names works texts ops owed whole) (owed2 : Row → Row) → owed2 d.row ≡ owed d.row → Owes exprs stmts names works texts ops owed2 whole
  owed_as {names = names} {works = works} d owed2 e = record {
    row = d.row;
    told = d.told;
    makes = ap (λ r. (undone_works exprs stmts works (amid names r)).row) e ∙ d.makes;
    plain_works = d.plain_works;
  }

  -- what is next is owed
  pub next : (works : List Work) (t : Work) {names : Names} {texts : List (List ℕ)} {ops : List Op} {whole : Row} → Owes exprs stmts names (works ++ t ∷ []) texts ops (λ c. c) whole → Owes exprs stmts (work_names t names) works texts ops (work_row exprs stmts names t) whole
  next works t {names = names} d = record {
    row = d.row;
    told = d.told;
    makes = ap (λ s. s.row) (sym (both works (t ∷ []) (amid names d.row))) ∙ d.makes;
    plain_works = plain_front works (t ∷ []) d.plain_works;
  }

  -- nothing is left to be done
  pub done : (works : List Work) (names : Names) (texts : List (List ℕ)) (ops : List Op) (whole : Row) → length works ≡ 0 → Owes exprs stmts names works texts ops (λ c. c) whole → AreTold [] texts ops whole
  done [] names texts ops whole h d = subst (λ c. AreTold [] texts ops c) d.makes d.told
  done (t ∷ ws) names texts ops whole h d = absurd (omega (arith, h))

  -- a block is entered, at its end
  pub opened : (ds : List Declaration) (ids : List StmtId) (close begin : Op) (works works1 works2 : List Work) {names : Names} (names2 : Names) {texts texts2 : List (List ℕ)} {ops ops2 : List Op} {whole : Row} → IsPlainOp begin → (d : Owes exprs stmts names works texts ops (λ c. plain begin ∷ stmts_row (ds ∷ names) (stmt_parts stmts ids) (plain close ∷ c)) whole) → AreTold [] texts2 ops2 (plain close ∷ d.row) → works1 ≡ works ++ w.Begin begin ∷ [] → works2 ≡ works1 ++ flat_map statement_works ids → names2 ≡ ds ∷ names → Owes exprs stmts names2 works2 texts2 ops2 (λ c. c) whole
  opened ds ids close begin works works1 works2 {names = names} names2 {texts2 = texts2} {ops2 = ops2} {whole = whole} is d told e1 e2 n =
      subst (λ ns. Owes exprs stmts ns works2 texts2 ops2 (λ c. c) whole) (sym n) (shift (w.Begin begin ∷ flat_map statement_works ids) {names2 = ds ∷ names} d (λ c. c) (plain close ∷ d.row) told (ap (after_work exprs stmts (w.Begin begin)) (statements ids (ds ∷ names) (plain close ∷ d.row))) (is, plain_statements ids) works2 (e2 ∙ ap (λ ws. ws ++ flat_map statement_works ids) e1 ∙ append_assoc works (w.Begin begin ∷ []) (flat_map statement_works ids)))

  -- the statements of a body are still to be done
  pub started : (ds : List Declaration) (ids : List StmtId) (works : List Work) (names : Names) (texts : List (List ℕ)) (ops : List Op) → works ≡ flat_map statement_works ids → names ≡ ds ∷ [] → AreTold [] texts ops (o.End ∷ []) → Owes exprs stmts names works texts ops (λ c. c) (stmts_row (ds ∷ []) (stmt_parts stmts ids) (o.End ∷ []))
  started ds ids works names texts ops e n told = record {
    row = o.End ∷ [];
    told = told;
    makes = (λ i. (undone_works exprs stmts (e i) (amid (n i) (o.End ∷ []))).row) ∙ ap (λ s. s.row) (statements ids (ds ∷ []) (o.End ∷ []));
    plain_works = subst ArePlainWorks (sym e) (plain_statements ids);
  }

-- ---- the rows of blocks, in the words of the code

module _ (names : Names) (ss : Stmts) (ds : List Declaration) (ids : Stmts) (d : ds ≡ declared_in ss) (s : ids ≡ ss) where
  pub block_same : (many left : ℕ) (n : ℕ) (c : Row) → many ≡ length ds → left ≡ n → plain (op.Enter many) ∷ stmts_row (ds ∷ names) ids (plain (op.Leave many left) ∷ c) ≡ block_row (declared_in ss) (inner_row names ss) n c
  block_same many left n c m l = λ i. o.Enter ((m ∙ ap length d) i) ∷ stmts_row (d i ∷ names) (s i) (o.Leave ((m ∙ ap length d) i) (l i) ∷ c)

  pub first_same : (others many left : ℕ) (n : ℕ) (c : Row) → others ≡ length c → many ≡ length ds → left ≡ n → plain (op.Choose others) ∷ plain (op.Enter many) ∷ stmts_row (ds ∷ names) ids (plain (op.Leave many left) ∷ c) ≡ first_row names ss n c
  first_same others many left n c k m l = λ i. o.Choose (k i) ∷ block_same many left n c m l i

  pub tried_same : (handler many left : ℕ) (n : ℕ) (c : Row) → handler ≡ length c → many ≡ length ds → left ≡ n → plain (op.Try many handler) ∷ stmts_row (ds ∷ names) ids (plain (op.EndTry many left) ∷ c) ≡ tried_row names ss n c
  tried_same handler many left n c k m l = λ i. o.Try ((m ∙ ap length d) i) (k i) ∷ stmts_row (d i ∷ names) (s i) (o.EndTry ((m ∙ ap length d) i) (l i) ∷ c)

  pub handler_same : (many left : ℕ) (c : Row) → many ≡ length ds → left ≡ length c → plain (op.CaughtUnnamed many) ∷ stmts_row (ds ∷ names) ids (plain (op.Leave many left) ∷ c) ≡ handler_row None (declared_in ss) (inner_row names ss) c
  handler_same many left c m l = λ i. o.Caught false ((m ∙ ap length d) i) ∷ stmts_row (d i ∷ names) (s i) (o.Leave ((m ∙ ap length d) i) (l i) ∷ c)

pub named_same : (names : Names) (ss : Stmts) (name : List ℕ) (ds : List Declaration) (ids : Stmts) → ds ≡ caught_names (Some name) ++ declared_in ss → ids ≡ ss → (all many left : ℕ) (c : Row) → all ≡ length ds → 1 + many ≡ all → left ≡ length c → plain (op.Caught many) ∷ stmts_row (ds ∷ names) ids (plain (op.Leave all left) ∷ c) ≡ handler_row (Some name) (declared_in ss) (stmts_row ((caught_names (Some name) ++ declared_in ss) ∷ names) ss) c
named_same names ss name ds ids d s all many left c a m l =
    let k = ap length d in
    let one : many ≡ length (declared_in ss) = omega (arith, a, m, k) in
    (λ i. o.Caught true (one i) ∷ stmts_row (d i ∷ names) (s i) (o.Leave ((a ∙ k) i) (l i) ∷ c))
