-- The rows that were made, by module and number.
use Rattle.std.specs.Prelude.{◌≡◌, ◌⊎◌, ℕ, List, slice_get, Option, Some, None}
use Rattle.std.specs.Borrow.{Bor}
use Rattle.esm_rows.specs.declared.row.Row.{Row}
use Rattle.esm_row_machine.specs.declared.rows.ModuleRows.{ModuleRows}
use Rattle.esm_row_machine.specs.declared.rows.Rows.{Rows}

abbrev pub made_at : Option (Option Row) → Option Row
made_at None = None
made_at (Some row) = row

abbrev pub row_by : Option ModuleRows → ℕ → Option Row
row_by None k = None
row_by (Some rows) k = made_at (slice_get rows.rows.items k)

-- the row of the function with this number of this module, if it was made
abbrev pub row_in : Rows → ℕ → ℕ → Option Row
row_in rows m k = row_by (slice_get rows.modules.items m) k

abbrev pub IsFound : Rows → ℕ → ℕ → Option (Bor Row) → Type 0
IsFound rows m k None = row_in rows m k ≡ None
IsFound rows m k (Some r) = row_in rows m k ≡ Some r.now

abbrev pub IsFoundIn : List (Option Row) → ℕ → Option (Bor Row) → Type 0
IsFoundIn rows k None = made_at (slice_get rows k) ≡ None
IsFoundIn rows k (Some r) = made_at (slice_get rows k) ≡ Some r.now

-- ---- rows that are added

-- each row that is there now was there before
abbrev pub NoneNew : List (Option Row) → List (Option Row) → Type 0
NoneNew before after = (k : ℕ) (row : Row) → made_at (slice_get after k) ≡ Some row → made_at (slice_get before k) ≡ Some row

abbrev pub NoneNewIn : List ModuleRows → List ModuleRows → Type 0
NoneNewIn before after = (m k : ℕ) (row : Row) → row_by (slice_get after m) k ≡ Some row → row_by (slice_get before m) k ≡ Some row

-- or it is this one, at its place
abbrev pub IsPut : List (Option Row) → ℕ → Row → List (Option Row) → Type 0
IsPut before k row after = (n : ℕ) (r : Row) → made_at (slice_get after n) ≡ Some r
    → (made_at (slice_get before n) ≡ Some r) ⊎ ((n ≡ k) × (r ≡ row))

abbrev pub IsPutIn : List ModuleRows → ℕ → ℕ → Row → List ModuleRows → Type 0
IsPutIn before m k row after = (l n : ℕ) (r : Row) → row_by (slice_get after l) n ≡ Some r
    → (row_by (slice_get before l) n ≡ Some r) ⊎ ((l ≡ m) × (n ≡ k) × (r ≡ row))

abbrev pub IsAdded : Rows → ℕ → ℕ → Row → Rows → Type 0
IsAdded before m k row after = IsPutIn before.modules.items m k row after.modules.items
