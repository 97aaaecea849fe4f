-- Where the functions of a module stand among its items.
use Rattle.std.specs.Prelude.{◌≡◌, ◌≤◌, ℕ, ◌+◌, List, [], ◌∷◌, length, Option, Some, None}
use Rattle.std.specs.Borrow.{Bor}
use Rattle.esm_tree.specs.Syntax.{Item, Parts}
use Rattle.esm_tree.specs.Flat.{item_of, item_need}
use Rattle.esm_tree.specs.declared.node.ItemNode.{ItemNode}
use Rattle.esm_env.specs.Declarations.{FunctionCode, functions_by, function_at}

abbrev pub placed : List FunctionCode → ℕ → List ℕ → List ℕ
placed [] k later = later
placed (f ∷ fs) k later = k ∷ later

-- the places, counted from here, of the items that declare a function
abbrev pub places_from : ℕ → List Item → List ℕ
places_from k [] = []
places_from k (item ∷ items) = placed (functions_by item) k (places_from (k + 1) items)

-- the item that declares the function with this number
abbrev pub IsFunctionItem : Parts → ℕ → Option (Bor ItemNode) → Type 0
IsFunctionItem tree index None = function_at tree.items index ≡ None
IsFunctionItem tree index (Some item) = (f : FunctionCode) × (functions_by (item_of tree.stmts item.now) ≡ f ∷ [])
    × (function_at tree.items index ≡ Some f) × (item_need item.now ≤ length tree.stmts)
