-- The row of the item that declares a function is that of the function.
use Rattle.std.proofs.Common.{◌≡◌, ℕ, List, [], ◌∷◌, subst}
use Rattle.std.specs.Prelude.{Option, None, Some}
use Rattle.esm_tree.specs.Syntax.{Parts}
use Rattle.esm_env.specs.Declarations.{FunctionCode, function_at}
use Rattle.esm_rows.specs.Functions.{IsRowOf, IsFirstRow}
use Rattle.esm_rows.specs.declared.row.Row.{Row}

one_row : (owns : List (List ℕ)) (tree : Parts) (index : ℕ) (f : FunctionCode) → function_at tree.items index ≡ Some f → (row : Option Row) → IsFirstRow owns (f ∷ []) row → IsRowOf owns tree index row
one_row owns tree index f at None h = absurd h
one_row owns tree index f at (Some row) h = (f, at, h)

pub of_item : (owns : List (List ℕ)) (tree : Parts) (index : ℕ) (f : FunctionCode) (fs : List FunctionCode) → fs ≡ f ∷ [] → function_at tree.items index ≡ Some f → (row : Option Row) → IsFirstRow owns fs row → IsRowOf owns tree index row
of_item owns tree index f fs e at row h = one_row owns tree index f at row (subst (λ gs. IsFirstRow owns gs row) e h)
