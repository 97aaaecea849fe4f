-- What is told without names of the module is told with them, and an operation for another.
use Rattle.std.proofs.Common.{◌≡◌, ℕ, zero, suc, ◌<◌, ◌⊎◌, inl, inr, Bool, true, false, List, [], ◌∷◌, ◌++◌, map, length, Option, Some, None, refl, ap, subst, sym, ◌∙◌, slice_set, slice_index_or, get_or, length-append, arith}
use Rattle.std.specs.Prelude.{slice_get, option_map, bytes_eq, if◌then◌else◌}
use Rattle.esm_env.specs.Declarations.{FunctionCode}
use Rattle.esm_env.specs.NamePlaces.{first_place}
use Rattle.esm_env.specs.Slots.{place_by, place_in}
use Rattle.esm_env.specs.declared.slots.Slot.{Slot}
use Rattle.esm_rows.specs.Rows.{Operation, Row}
use Rattle.esm_rows.specs.Functions.{IsRow, IsFirstRow}
use Rattle.esm_rows.specs.declared.row.Row.{Row as RowOfCode}
use Rattle.esm_rows.specs.declared.op.Op.{Op}
use Rattle.esm_rows.specs.declared.op.Op.TheVariants as op
use Rattle.esm_rows.specs.Making.{IsTold, AreTold, nothing_left, one_more}
use Rattle.esm_rows.specs.Owning.{IsStill, AreStill}

-- ---- the table of the module

no_place : (x : List ℕ) (k : ℕ) → first_place [] x ≡ Some k → ⊥
no_place x k e = cc

module _ (owns texts : List (List ℕ)) where
  told_same : (q : Op) (p : Operation) → IsTold [] texts q p → IsTold owns texts q p
  told_same op.Step p h = h
  told_same (op.Text k) p h = h
  told_same (op.Truth b) p h = h
  told_same op.Undefined p h = h
  told_same op.Url p h = h
  told_same (op.Local place k) p h = h
  told_same (op.Own k) p h = absurd (no_place h.0 k h.1)
  told_same (op.Name k) p h = h
  told_same (op.OrElse left) p h = h
  told_same (op.AndAlso left) p h = h
  told_same (op.Compare b) p h = h
  told_same op.Add p h = h
  told_same op.Not p h = h
  told_same (op.Member k) p h = h
  told_same (op.Call n) p h = h
  told_same (op.Print n) p h = h
  told_same op.NewError p h = h
  told_same op.Import p h = h
  told_same op.Drop p h = h
  told_same (op.SetLocal place) p h = h
  told_same (op.SetName k) p h = h
  told_same (op.WriteLocal place k) p h = h
  told_same (op.WriteConstant place k) p h = h
  told_same (op.WriteName k) p h = h
  told_same op.Throw p h = h
  told_same op.Return p h = h
  told_same op.PrintAwaited p h = h
  told_same op.Await p h = h
  told_same (op.Choose left) p h = h
  told_same (op.Enter n) p h = h
  told_same (op.Leave n left) p h = h
  told_same (op.Try n left) p h = h
  told_same (op.EndTry n left) p h = h
  told_same (op.Caught n) p h = h
  told_same (op.CaughtUnnamed n) p h = h
  told_same op.End p h = h

  pub same : (ops : List Op) (c : Row) → AreTold [] texts ops c → AreTold owns texts ops c
  same _ _ nothing_left = nothing_left
  same _ _ (one_more ops {c = c} q {p = p} h is) = one_more ops q (same ops c h) (told_same q p is)

-- ---- an operation in place of another

set_before : (ops : List Op) (q r : Op) (i : ℕ) → i < length ops → slice_set (ops ++ q ∷ []) i r ≡ slice_set ops i r ++ q ∷ []
set_before [] q r i h = absurd (omega (arith, h))
set_before (u ∷ ops) q r zero h = refl
set_before (u ∷ ops) q r (suc i) h = ap (λ us. u ∷ us) (set_before ops q r i (omega (arith, h)))

set_last : (ops : List Op) (q r : Op) → slice_set (ops ++ q ∷ []) (length ops) r ≡ ops ++ r ∷ []
set_last [] q r = refl
set_last (u ∷ ops) q r = ap (λ us. u ∷ us) (set_last ops q r)

read_before : (ops : List Op) (q d : Op) (i : ℕ) → i < length ops → slice_index_or (ops ++ q ∷ []) i d ≡ slice_index_or ops i d
read_before [] q d i h = absurd (omega (arith, h))
read_before (u ∷ ops) q d zero h = refl
read_before (u ∷ ops) q d (suc i) h = read_before ops q d i (omega (arith, h))

read_last : (ops : List Op) (q d : Op) → slice_index_or (ops ++ q ∷ []) (length ops) d ≡ q
read_last [] q d = refl
read_last (u ∷ ops) q d = read_last ops q d

set_length : (ops : List Op) (r : Op) (i : ℕ) → length (slice_set ops i r) ≡ length ops
set_length [] r i = refl
set_length (u ∷ ops) r zero = refl
set_length (u ∷ ops) r (suc i) = ap suc (set_length ops r i)

up : (i n : ℕ) → (i < n) ⊎ (i ≡ n) → (suc i < suc n) ⊎ (suc i ≡ suc n)
up i n (inl h) = inl (omega (arith, h))
up i n (inr e) = inr (ap suc e)

below_or_last : (i n : ℕ) → i < suc n → (i < n) ⊎ (i ≡ n)
below_or_last zero zero h = inr refl
below_or_last zero (suc n) h = inl (omega arith)
below_or_last (suc i) zero h = absurd (omega (arith, h))
below_or_last (suc i) (suc n) h = up i n (below_or_last i n (omega (arith, h)))

module _ (owns texts : List (List ℕ)) where
  set_one : (ops : List Op) (q : Op) (p : Operation) (c : Row) (i : ℕ) (d r : Op) → AreTold owns texts ops c → IsTold owns texts q p → IsStill owns texts (slice_index_or (ops ++ q ∷ []) i d) r
      → (i < length ops → AreTold owns texts (slice_set ops i r) c) → (i < length ops) ⊎ (i ≡ length ops) → AreTold owns texts (slice_set (ops ++ q ∷ []) i r) (p ∷ c)
  set_one ops q p c i d r told is keep before (inl h) = subst (λ rs. AreTold owns texts rs (p ∷ c)) (sym (set_before ops q r i h)) (one_more (slice_set ops i r) q (before h) is)
  set_one ops q p c i d r told is keep before (inr e) =
      let read : slice_index_or (ops ++ q ∷ []) i d ≡ q = ap (λ n. slice_index_or (ops ++ q ∷ []) n d) e ∙ read_last ops q d in
      let set : slice_set (ops ++ q ∷ []) i r ≡ ops ++ r ∷ [] = ap (λ n. slice_set (ops ++ q ∷ []) n r) e ∙ set_last ops q r in
      subst (λ rs. AreTold owns texts rs (p ∷ c)) (sym set) (one_more ops r told (keep p (subst (λ u. IsTold owns texts u p) (sym read) is)))

  set_told : (ops : List Op) (c : Row) (i : ℕ) (d r : Op) → AreTold owns texts ops c → IsStill owns texts (slice_index_or ops i d) r → i < length ops → AreTold owns texts (slice_set ops i r) c
  set_told _ _ i d r nothing_left keep h = absurd (omega (arith, h))
  set_told _ _ i d r (one_more ops {c = c} q {p = p} told is) keep h =
      let many = length-append ops (q ∷ []) in
      set_one ops q p c i d r told is keep
      (λ b. set_told ops c i d r told (λ s t. keep s (subst (λ u. IsTold owns texts u s) (sym (read_before ops q d i b)) t)) b)
      (below_or_last i (length ops) (omega (arith, h, many)))

  -- the row is as long, and told as before
  pub record Owning (old now : List Op) : Type 0 where
    pub many : length now ≡ length old
    pub told : AreStill owns texts old now

  pub replaced : (ops new : List Op) (i : ℕ) (d q r : Op) → q ≡ slice_index_or ops i d → IsStill owns texts q r → i < length ops → new ≡ slice_set ops i r → Owning ops new
  replaced ops new i d q r read keep h set = record {
    many = ap length set ∙ set_length ops r i;
    told = λ c told. subst (λ rs. AreTold owns texts rs c) (sym set) (set_told ops c i d r told (λ p t. keep p (subst (λ u. IsTold owns texts u p) (sym read) t)) h);
  }

-- ---- the place of a name

-- the text at a place is one
pub text_is : (texts : List (List ℕ)) (k : ℕ) (x y d : List ℕ) → slice_get texts k ≡ Some x → y ≡ get_or texts k d → y ≡ x
text_is [] k x y d e h = cc
text_is (t ∷ texts) zero x y d e h = let same : t ≡ x = cc in h ∙ same
text_is (t ∷ texts) (suc k) x y d e h = text_is texts k x y d e h

abbrev Names : List Slot → List (List ℕ)
Names slots = map (λ s. s.name) slots

place_step : (b : Bool) (n k : ℕ) (later : Option ℕ) → place_by b n ≡ k → (b ≡ false → later ≡ Some n) → (if b then Some 0 else option_map suc later) ≡ Some k
place_step true n k later e next = ap (λ m. Some m) e
place_step false n k later e next = ap (option_map suc) (next refl) ∙ ap (λ m. Some m) e

further : (b : Bool) (n k len : ℕ) → place_by b n ≡ k → k < suc len → b ≡ false → n < len
further true n k len e h f = cc
further false n k len e h f = omega (arith, e, h)

-- the place of a slot is that of its name
pub placed : (slots : List Slot) (x : List ℕ) (k : ℕ) → place_in slots x ≡ k → k < length slots → first_place (Names slots) x ≡ Some k
placed [] x k e h = absurd (omega (arith, h))
placed (s ∷ slots) x k e h =
    place_step (bytes_eq s.name x) (place_in slots x) k (first_place (Names slots) x) e
    (λ f. placed slots x (place_in slots x) refl (further (bytes_eq s.name x) (place_in slots x) k (length slots) e h f))

-- ---- the row of an item's function

pub first_some : (owns : List (List ℕ)) (row owned : RowOfCode) → ((f : FunctionCode) → IsRow [] f row → IsRow owns f owned) → (fs : List FunctionCode) → IsFirstRow [] fs (Some row) → IsFirstRow owns fs (Some owned)
first_some owns row owned is [] h = h
first_some owns row owned is (f ∷ fs) h = is f h

pub first_none : (owns : List (List ℕ)) (fs : List FunctionCode) → IsFirstRow [] fs None → IsFirstRow owns fs None
first_none owns [] h = h
first_none owns (f ∷ fs) h = h
