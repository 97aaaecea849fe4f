-- Where the functions of a module stand.
use Rattle.std.proofs.Common.{◌≡◌, ℕ, zero, suc, ◌+◌, ◌-◌, ◌<◌, ◌≤◌, ◌⊎◌, inl, inr, List, [], ◌∷◌, ◌++◌, length, drop, refl, ap, subst, sym, ◌∙◌, get_or, arith}
use Rattle.std.proofs.lemmas.List.{drop_more, append-nil}
use Rattle.std.proofs.Math.ListN.{drop_of_length-le}
use Rattle.std.specs.Prelude.{Option, Some, None, slice_get}
use Rattle.esm_tree.specs.Syntax.{Stmt, Item, Parts, ImportEffect, ImportFrom, ExportAll, ExportAllAs, ExportFrom, ExportList, ExportStatement, ExportFunction, ExportDefaultFunction, Function, Statement}
use Rattle.esm_tree.specs.Flat.{item_of, items_of}
use Rattle.esm_tree.specs.declared.node.ItemNode.{ItemNode}
use Rattle.esm_env.specs.Declarations.{FunctionCode, functions_by, functions_of, function_at}
use Rattle.esm_env.specs.FunctionPlaces.{placed, places_from}

module _ (stmts : List Stmt) (items : List ItemNode) where
  -- what is there and what is left are the whole
  abbrev pub PlacesLeft : ℕ → List ℕ → List ℕ → Type 0
  PlacesLeft i places all = places ++ places_from i (items_of stmts (drop i items)) ≡ all

  pub places_goes : (i : ℕ) (d : ItemNode) (places new all : List ℕ) → i < length items
      → new ++ places_from (i + 1) (items_of stmts (drop (i + 1) items))
      ≡ places ++ placed (functions_by (item_of stmts (get_or items i d))) i (places_from (i + 1) (items_of stmts (drop (i + 1) items)))
      → PlacesLeft i places all → PlacesLeft (i + 1) new all
  places_goes i d places new all h k e = k ∙ subst (λ r. places ++ places_from i (items_of stmts r) ≡ all) (drop_more items i d h) e

  pub places_end : (i : ℕ) (places all : List ℕ) → length items ≤ i → PlacesLeft i places all → places ≡ all
  places_end i places all h e = sym (append-nil places) ∙ subst (λ r. places ++ places_from i (items_of stmts r) ≡ all) (drop_of_length-le items h) e

-- the item at a place declares the function with its number
abbrev pub IsAtPlace : ℕ → List Item → Option ℕ → Option FunctionCode → Type 0
IsAtPlace k items None o = o ≡ None
IsAtPlace k items (Some p) o = (k ≤ p) × (p < k + length items)
    × ((d : Item) → (f : FunctionCode) × (functions_by (get_or items (p - k) d) ≡ f ∷ []) × (o ≡ Some f))

-- an item declares one function at most
one_function : (i : Item) → (functions_by i ≡ []) ⊎ ((f : FunctionCode) × (functions_by i ≡ f ∷ []))
one_function (ImportEffect s) = inl refl
one_function (ImportFrom s bs) = inl refl
one_function (ExportAll s) = inl refl
one_function (ExportAllAs n s) = inl refl
one_function (ExportFrom es s) = inl refl
one_function (ExportList es) = inl refl
one_function (ExportStatement s) = inl refl
one_function (ExportFunction n ps ss) = inr (_, refl)
one_function (ExportDefaultFunction n ps ss) = inr (_, refl)
one_function (Function n ps ss) = inr (_, refl)
one_function (Statement s) = inl refl

later_place : (k : ℕ) (i : Item) (items : List Item) (p : Option ℕ) (o : Option FunctionCode) → IsAtPlace (k + 1) items p o → IsAtPlace k (i ∷ items) p o
later_place k i items None o h = h
later_place k i items (Some p) o h =
    let a = h.0 in let b = h.1 in
    let e : p - k ≡ suc (p - (k + 1)) = omega (arith, a) in
    (omega (arith, a), omega (arith, b), λ d. rw e (h.2 d))

place_by : (k : ℕ) (i : Item) (items : List Item) (fs : List FunctionCode) → functions_by i ≡ fs → (fs ≡ []) ⊎ ((f : FunctionCode) × (fs ≡ f ∷ []))
    → ((n : ℕ) → IsAtPlace (k + 1) items (slice_get (places_from (k + 1) items) n) (slice_get (functions_of items) n))
    → (n : ℕ) → IsAtPlace k (i ∷ items) (slice_get (placed fs k (places_from (k + 1) items)) n) (slice_get (fs ++ functions_of items) n)
place_by k i items [] q h again n = later_place k i items _ _ (again n)
place_by k i items (f ∷ []) q h again zero =
    let e : k - k ≡ 0 = omega arith in
    (omega arith, omega arith, λ d. rw e (f, q, refl))
place_by k i items (f ∷ []) q h again (suc n) = later_place k i items _ _ (again n)
place_by k i items (f ∷ u ∷ fs) q (inl e) again n = absurd cc
place_by k i items (f ∷ u ∷ fs) q (inr e) again n = let t : u ∷ fs ≡ [] = (let s : f ∷ u ∷ fs ≡ e.0 ∷ [] = e.1 in cc) in absurd cc

pub at_place : (items : List Item) (k n : ℕ) → IsAtPlace k items (slice_get (places_from k items) n) (slice_get (functions_of items) n)
at_place [] k n = refl
at_place (i ∷ items) k n = place_by k i items (functions_by i) refl (one_function i) (λ n. at_place items (k + 1) n) n

-- ---- the item with a function

got : (ns : List ℕ) (n d : ℕ) → n < length ns → slice_get ns n ≡ Some (get_or ns n d)
got [] n d h = absurd (omega (arith, h))
got (k ∷ ns) zero d h = refl
got (k ∷ ns) (suc n) d h = got ns n d (omega (arith, h))

got_none : (ns : List ℕ) (n : ℕ) → length ns ≤ n → slice_get ns n ≡ None
got_none [] n h = refl
got_none (k ∷ ns) zero h = absurd (omega (arith, h))
got_none (k ∷ ns) (suc n) h = got_none ns n (omega (arith, h))

item_at : (stmts : List Stmt) (nodes : List ItemNode) (p : ℕ) (d : ItemNode) → get_or (items_of stmts nodes) p (item_of stmts d) ≡ item_of stmts (get_or nodes p d)
item_at stmts [] p d = refl
item_at stmts (n ∷ nodes) zero d = refl
item_at stmts (n ∷ nodes) (suc p) d = item_at stmts nodes p d

items_length : (stmts : List Stmt) (nodes : List ItemNode) → length (items_of stmts nodes) ≡ length nodes
items_length stmts [] = refl
items_length stmts (n ∷ nodes) = ap suc (items_length stmts nodes)

pub function_none : (items : List Item) (functions : List ℕ) (n : ℕ) → functions ≡ places_from 0 items → length functions ≤ n → function_at items n ≡ None
function_none items functions n places h =
    subst (λ p. IsAtPlace 0 items p (function_at items n)) (sym (ap (λ ns. slice_get ns n) places) ∙ got_none functions n h) (at_place items 0 n)

module _ (tree : Parts) (nodes : List ItemNode) (functions : List ℕ) (are : items_of tree.stmts nodes ≡ tree.items) (places : functions ≡ places_from 0 tree.items) (n : ℕ) where
  abbrev At : Option ℕ → Type 0
  At p = IsAtPlace 0 tree.items p (function_at tree.items n)

  placed_at : (p : Option ℕ) → slice_get functions n ≡ p → At p
  placed_at p q = subst At (sym (ap (λ ns. slice_get ns n) places) ∙ q) (at_place tree.items 0 n)

  there : (d : ℕ) → n < length functions → At (Some (get_or functions n d))
  there d h = placed_at (Some (get_or functions n d)) (got functions n d h)

  pub function_below : (d : ℕ) → n < length functions → get_or functions n d < length nodes
  function_below d h = let a = (there d h).1 in let l = ap length are in let k = items_length tree.stmts nodes in omega (arith, a, l, k)

  pub function_found : (p : ℕ) (i d : ItemNode) → n < length functions → p ≡ get_or functions n p → i ≡ get_or nodes p d
      → (f : FunctionCode) × (functions_by (item_of tree.stmts i) ≡ f ∷ []) × (function_at tree.items n ≡ Some f)
  function_found p i d h q r =
      let a = (there p h).2 (item_of tree.stmts d) in
      let e : get_or functions n p - 0 ≡ p = omega (arith, q) in
      let same : get_or tree.items (get_or functions n p - 0) (item_of tree.stmts d) ≡ item_of tree.stmts i =
      ap (λ k. get_or tree.items k (item_of tree.stmts d)) e ∙ ap (λ is. get_or is p (item_of tree.stmts d)) (sym are) ∙ item_at tree.stmts nodes p d ∙ ap (item_of tree.stmts) (sym r) in
      (a.0, ap functions_by (sym same) ∙ a.1, a.2)
