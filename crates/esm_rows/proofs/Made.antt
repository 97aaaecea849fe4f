-- What is told stays told where texts are added, and what tasks come to.
use Rattle.std.proofs.Common.{◌≡◌, ℕ, zero, suc, Bool, List, [], ◌∷◌, ◌++◌, length, Option, Some, None, refl, ap, length-append, arith}
use Rattle.std.specs.Prelude.{slice_get}
use Rattle.std.specs.List.{flat_map}
use Rattle.esm_tree.specs.Syntax.{Expr}
use Rattle.esm_tree.specs.Flat.{part, compared_parts}
use Rattle.esm_tree.specs.Flat.{parts as expr_parts}
use Rattle.esm_tree.specs.declared.node.ExprId.{ExprId}
use Rattle.esm_rows.specs.Rows.{Operation, Row, Names, expr_row, exprs_row, ors_row, ands_row, sums_row, compared_row}
use Rattle.esm_rows.specs.Rows.{Operation as o}
use Rattle.esm_rows.specs.declared.op.Op.{Op}
use Rattle.esm_rows.specs.declared.op.Op.TheVariants as op
use Rattle.esm_rows.specs.declared.tasks.Task.{Task}
use Rattle.esm_rows.specs.Making.{TextAt, IsTold, AreTold, nothing_left, one_more, step, undone, part_tasks, or_tasks, and_tasks, sum_tasks, compare_tasks}

-- ---- tables

kept : {A : Type 0} (xs ys : List A) (n : ℕ) (y : A) → slice_get xs n ≡ Some y → slice_get (xs ++ ys) n ≡ Some y
kept {A = A} [] ys n y e = absurd (apart e) where
  apart : ◌≡◌ {A = Option A} None (Some y) → ⊥
  apart e = cc
kept (x ∷ xs) ys zero y e = e
kept (x ∷ xs) ys (suc n) y e = kept xs ys n y e

pub behind : {A : Type 0} (xs : List A) (y : A) → slice_get (xs ++ y ∷ []) (length xs) ≡ Some y
behind [] y = refl
behind (x ∷ xs) y = behind xs y

module _ (owns texts more : List (List ℕ)) where
  at_more : (k : ℕ) (make : List ℕ → Operation) (p : Operation) → TextAt texts k make p → TextAt (texts ++ more) k make p
  at_more k make p h = (h.0, kept texts more k h.0 h.1, h.2)

  told_more : (q : Op) (p : Operation) → IsTold owns texts q p → IsTold owns (texts ++ more) q p
  told_more op.Step p h = h
  told_more (op.Text k) p h = (h.0, kept texts more k h.0 h.1, h.2)
  told_more (op.Truth b) p h = h
  told_more op.Undefined p h = h
  told_more op.Url p h = h
  told_more (op.Local place k) p h = (h.0, kept texts more k h.0 h.1, h.2)
  told_more (op.Own k) p h = h
  told_more (op.Name k) p h = (h.0, kept texts more k h.0 h.1, h.2)
  told_more (op.OrElse left) p h = h
  told_more (op.AndAlso left) p h = h
  told_more (op.Compare b) p h = h
  told_more op.Add p h = h
  told_more op.Not p h = h
  told_more (op.Member k) p h = (h.0, kept texts more k h.0 h.1, h.2)
  told_more (op.Call n) p h = h
  told_more (op.Print n) p h = h
  told_more op.NewError p h = h
  told_more op.Import p h = h
  told_more op.Drop p h = h
  told_more (op.SetLocal place) p h = h
  told_more (op.SetName k) p h = (h.0, kept texts more k h.0 h.1, h.2)
  told_more (op.WriteLocal place k) p h = (h.0, kept texts more k h.0 h.1, h.2)
  told_more (op.WriteConstant place k) p h = (h.0, kept texts more k h.0 h.1, h.2)
  told_more (op.WriteName k) p h = (h.0, kept texts more k h.0 h.1, h.2)
  told_more op.Throw p h = h
  told_more op.Return p h = h
  told_more op.PrintAwaited p h = h
  told_more op.Await p h = h
  told_more (op.Choose left) p h = h
  told_more (op.Enter n) p h = h
  told_more (op.Leave n left) p h = h
  told_more (op.Try n left) p h = h
  told_more (op.EndTry n left) p h = h
  told_more (op.Caught n) p h = h
  told_more (op.CaughtUnnamed n) p h = h
  told_more op.End p h = h

  pub same : (ops : List Op) (c : Row) → AreTold owns texts ops c → AreTold owns (texts ++ more) ops c
  same _ _ nothing_left = nothing_left
  same _ _ (one_more ops {c = c} q {p = p} h is) = one_more ops q (same ops c h) (told_more q p is)

pub told_length : (owns texts : List (List ℕ)) (ops : List Op) (c : Row) → AreTold owns texts ops c → length ops ≡ length c
told_length owns texts _ _ nothing_left = refl
told_length owns texts _ _ (one_more ops {c = c} q {p = p} h is) =
    let k = told_length owns texts ops c h in
    let a = length-append ops (q ∷ []) in
    omega (arith, k, a)

pub text : (texts : List (List ℕ)) (s : List ℕ) (make : List ℕ → Operation) → TextAt (texts ++ s ∷ []) (length texts) make (make s)
text texts s make = (s, behind texts s, refl)

-- ---- tasks

module _ (names : Names) (exprs : List Expr) where
  abbrev Undone : List Task → Row → Row
  Undone ts c = undone names exprs ts c

  pub both : (ts us : List Task) (c : Row) → Undone (ts ++ us) c ≡ Undone ts (Undone us c)
  both [] us c = refl
  both (t ∷ ts) us c = ap (step names exprs t) (both ts us c)

  pub more : (ts : List Task) (t : Task) (c : Row) → Undone (ts ++ t ∷ []) c ≡ Undone ts (step names exprs t c)
  more ts t c = both ts (t ∷ []) c

  pub parts : (ids : List ExprId) (c : Row) → Undone (flat_map part_tasks ids) c ≡ exprs_row names (expr_parts exprs ids) c
  parts [] c = refl
  parts (id ∷ ids) c = ap (expr_row names (part exprs id)) (parts ids c)

  pub ors : (left : ℕ) (ids : List ExprId) (c : Row) → Undone (flat_map (or_tasks left) ids) c ≡ ors_row names (expr_parts exprs ids) left c
  ors left [] c = refl
  ors left (id ∷ ids) c = ap (λ r. o.OrElse left ∷ expr_row names (part exprs id) r) (ors left ids c)

  pub ands : (left : ℕ) (ids : List ExprId) (c : Row) → Undone (flat_map (and_tasks left) ids) c ≡ ands_row names (expr_parts exprs ids) left c
  ands left [] c = refl
  ands left (id ∷ ids) c = ap (λ r. o.AndAlso left ∷ expr_row names (part exprs id) r) (ands left ids c)

  pub sums : (ids : List ExprId) (c : Row) → Undone (flat_map sum_tasks ids) c ≡ sums_row names (expr_parts exprs ids) c
  sums [] c = refl
  sums (id ∷ ids) c = ap (λ r. expr_row names (part exprs id) (o.Add ∷ r)) (sums ids c)

  pub compared : (cs : List (Bool × ExprId)) (c : Row) → Undone (flat_map compare_tasks cs) c ≡ compared_row names (compared_parts exprs cs) c
  compared [] c = refl
  compared (p ∷ cs) c = ap (λ r. expr_row names (part exprs p.1) (o.Compare p.0 ∷ r)) (compared cs c)
