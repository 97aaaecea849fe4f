-- Rows that are added to the table.
use Rattle.std.proofs.Common.{◌≡◌, ℕ, zero, suc, Bool, List, [], ◌∷◌, ◌++◌, Option, Some, None, refl, ap, sym, subst, ◌∙◌, ◌⊎◌, inl, inr}
use Rattle.std.specs.Prelude.{slice_get, slice_set, Result, Ok, Err, OnOk}
use Rattle.esm_base.specs.declared.memory.Memory.{Memory}
use Rattle.esm_env.specs.Declarations.{FunctionCode}
use Rattle.esm_env.specs.Modules.{Modules, function_of}
use Rattle.esm_rewriting.specs.State.{State, Importing}
use Rattle.esm_rows.specs.Functions.{IsRow}
use Rattle.esm_rows.specs.declared.row.Row.{Row}
use Rattle.esm_row_machine.specs.Outside.{IsRowIn, modules_in, owns_in}
use Rattle.esm_row_machine.specs.Tables.{made_at, row_by, row_in, NoneNew, NoneNewIn, IsPut, IsPutIn, IsAdded}
use Rattle.esm_row_machine.specs.Turns.{Linked}
use Rattle.esm_row_machine.specs.Follows.{RowsFit}
use Rattle.esm_row_machine.specs.Calling.{IsMade}
use Rattle.esm_row_machine.specs.declared.rows.ModuleRows.{ModuleRows}
use Rattle.esm_row_machine.specs.declared.rows.Rows.{Rows}
use Rattle.esm_row_machine.proofs.Told.{some_same}

-- ---- the rows of a module

pub none_same : (rows : List (Option Row)) → NoneNew rows rows
none_same rows k row e = e

pub none_more : (rows : List (Option Row)) → NoneNew rows (rows ++ None ∷ [])
none_more [] zero row e = e
none_more [] (suc k) row e = e
none_more (x ∷ xs) zero row e = e
none_more (x ∷ xs) (suc k) row e = none_more xs k row e

pub none_grown : (before rows : List (Option Row)) → NoneNew before rows → NoneNew before (rows ++ None ∷ [])
none_grown before rows h k row e = h k row (none_more rows k row e)

pub row_set : (rows : List (Option Row)) (k : ℕ) (row : Row) → IsPut rows k row (slice_set rows k (Some row))
row_set [] k row n r e = inl e
row_set (x ∷ xs) zero row zero r e = inr (refl, sym (some_same row r e))
row_set (x ∷ xs) zero row (suc n) r e = inl e
row_set (x ∷ xs) (suc k) row zero r e = inl e
row_set (x ∷ xs) (suc k) row (suc n) r e = later (row_set xs k row n r e) where
  later : (made_at (slice_get xs n) ≡ Some r) ⊎ ((n ≡ k) × (r ≡ row)) → (made_at (slice_get xs n) ≡ Some r) ⊎ ((suc n ≡ suc k) × (r ≡ row))
  later (inl h) = inl h
  later (inr h) = inr (ap suc h.0, h.1)

-- so many places, and then the row
pub put_grown : (before mid after : List (Option Row)) (k : ℕ) (row : Row) → NoneNew before mid → after ≡ slice_set mid k (Some row) → IsPut before k row after
put_grown before mid after k row none e n r there = by (row_set mid k row n r (ap (λ rows. made_at (slice_get rows n)) (sym e) ∙ there)) where
  by : (made_at (slice_get mid n) ≡ Some r) ⊎ ((n ≡ k) × (r ≡ row)) → (made_at (slice_get before n) ≡ Some r) ⊎ ((n ≡ k) × (r ≡ row))
  by (inl h) = inl (none n r h)
  by (inr h) = inr h

-- ---- those of all modules

pub rows_same : (ms : List ModuleRows) → NoneNewIn ms ms
rows_same ms m k row e = e

pub rows_more : (ms : List ModuleRows) (m : ModuleRows) → m.rows.items ≡ [] → NoneNewIn ms (ms ++ m ∷ [])
rows_more [] m none zero k row e = ap (λ rows. made_at (slice_get rows k)) (sym none) ∙ e
rows_more [] m none (suc l) k row e = e
rows_more (x ∷ xs) m none zero k row e = e
rows_more (x ∷ xs) m none (suc l) k row e = rows_more xs m none l k row e

pub rows_grown : (before ms : List ModuleRows) (m : ModuleRows) → m.rows.items ≡ [] → NoneNewIn before ms → NoneNewIn before (ms ++ m ∷ [])
rows_grown before ms m none h l k row e = h l k row (rows_more ms m none l k row e)

pub module_set : (ms : List ModuleRows) (m k : ℕ) (old new : ModuleRows) (row : Row) → slice_get ms m ≡ Some old → IsPut old.rows.items k row new.rows.items → IsPutIn ms m k row (slice_set ms m new)
module_set [] m k old new row at put l n r e = inl e
module_set (x ∷ xs) zero k old new row at put zero n r e = here (put n r e) where
  here : (made_at (slice_get old.rows.items n) ≡ Some r) ⊎ ((n ≡ k) × (r ≡ row)) → (made_at (slice_get x.rows.items n) ≡ Some r) ⊎ ((zero ≡ zero) × (n ≡ k) × (r ≡ row))
  here (inl h) = inl (ap (λ (q : ModuleRows). made_at (slice_get q.rows.items n)) (some_same x old at) ∙ h)
  here (inr h) = inr (refl, h.0, h.1)
module_set (x ∷ xs) zero k old new row at put (suc l) n r e = inl e
module_set (x ∷ xs) (suc m) k old new row at put zero n r e = inl e
module_set (x ∷ xs) (suc m) k old new row at put (suc l) n r e = later (module_set xs m k old new row at put l n r e) where
  later : (row_by (slice_get xs l) n ≡ Some r) ⊎ ((l ≡ m) × (n ≡ k) × (r ≡ row)) → (row_by (slice_get xs l) n ≡ Some r) ⊎ ((suc l ≡ suc m) × (n ≡ k) × (r ≡ row))
  later (inl h) = inl h
  later (inr h) = inr (ap suc h.0, h.1, h.2)

pub module_put : (before mid after : List ModuleRows) (m k : ℕ) (row : Row) → NoneNewIn before mid → IsPutIn mid m k row after → IsPutIn before m k row after
module_put before mid after m k row none put l n r there = by (put l n r there) where
  by : (row_by (slice_get mid l) n ≡ Some r) ⊎ ((l ≡ m) × (n ≡ k) × (r ≡ row)) → (row_by (slice_get before l) n ≡ Some r) ⊎ ((l ≡ m) × (n ≡ k) × (r ≡ row))
  by (inl h) = inl (none l n r h)
  by (inr h) = inr h

-- ---- a row that was made

module _ {W S : Type 0} (state : W → State ℕ S) (modules : S → Modules ℕ) (linked : S → ℕ → Bool) (begins : Importing ℕ S)
    (Ready : W → Type 0) (Keeps : W → W → Type 0) (owns : S → ℕ → List (List ℕ)) (w : W) where
  abbrev Fit : Rows → Type 0
  Fit rows = RowsFit state modules linked begins Ready Keeps owns w rows

  -- the row is that of its function
  abbrev FitsAt : ℕ → ℕ → Row → Type 0
  FitsAt m k row = Linked state modules linked begins Ready Keeps owns w m
      × ((f : FunctionCode) × (function_of (modules_in state modules linked begins Ready Keeps w) m k ≡ Some f)
      × IsRow (owns_in state modules linked begins Ready Keeps owns w m) f row)

  of_added : (m k : ℕ) (row : Row) (rows : Rows) (n l : ℕ) (q : Row) → FitsAt m k row → Fit rows → (row_in rows n l ≡ Some q) ⊎ ((n ≡ m) × (l ≡ k) × (q ≡ row)) → FitsAt n l q
  of_added m k row rows n l q here fit (inl e) = fit n l q e
  of_added m k row rows n l q here fit (inr h) =
      subst (λ (p : ℕ). FitsAt p l q) (sym h.0) (subst (λ (p : ℕ). FitsAt m p q) (sym h.1) (subst (λ (p : Row). FitsAt m k p) (sym h.2) here))

  pub makes : (m k : ℕ) (row : Row) (rows tables : Rows) (r : Result (Unit {0}) Memory) → IsRowIn state modules linked begins Ready Keeps owns w m k (Ok (Some row))
      → OnOk r (IsAdded rows m k row tables) → OnOk r (IsMade state modules linked begins Ready Keeps owns w rows m tables)
  makes m k row rows tables (Ok u) is added = λ ready home fit n l q e. of_added m k row rows n l q (home, is ready home) fit (added n l q e)
  makes m k row rows tables (Err e) is added = tt
