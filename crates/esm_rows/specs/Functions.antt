-- The row of a function of a module, as the code has it.
use Rattle.std.specs.Prelude.{◌≡◌, ℕ, List, [], ◌∷◌, length, Option, Some, None}
use Rattle.esm_tree.specs.Syntax.{Parts}
use Rattle.esm_env.specs.Declarations.{FunctionCode, declared_in, function_at}
use Rattle.esm_rows.specs.Rows.{function_row}
use Rattle.esm_rows.specs.Making.{AreTold}
use Rattle.esm_rows.specs.declared.row.Row.{Row}

-- the row is that of the definitions, told by the names that the module declares and by the texts of the row
pub record IsRow (owns : List (List ℕ)) (f : FunctionCode) (row : Row) : Type 0 where
  pub told : AreTold owns row.texts.items row.ops.items (function_row f)
  pub given : row.parameters ≡ length f.parameters
  pub declares : row.names ≡ length (declared_in f.body)

-- of the function with this number, if there is one
abbrev pub IsRowOf : List (List ℕ) → Parts → ℕ → Option Row → Type 0
IsRowOf owns tree index None = function_at tree.items index ≡ None
IsRowOf owns tree index (Some row) = (f : FunctionCode) × (function_at tree.items index ≡ Some f) × IsRow owns f row

-- of the first of these functions, if there is one
abbrev pub IsFirstRow : List (List ℕ) → List FunctionCode → Option Row → Type 0
IsFirstRow owns [] None = Unit {0}
IsFirstRow owns [] (Some row) = ⊥
IsFirstRow owns (f ∷ fs) None = ⊥
IsFirstRow owns (f ∷ fs) (Some row) = IsRow owns f row
