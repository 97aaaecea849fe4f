-- The names of blocks: one after another, and as blocks are entered and left.
use Rattle.std.proofs.Common.{◌≡◌, ◌≤◌, ◌<◌, ℕ, ◌+◌, List, [], ◌∷◌, ◌++◌, length, drop, refl, ap, sym, ◌∙◌, get_or, append_assoc, arith}
use Rattle.std.specs.Prelude.{Option, None, Some, MatchOption, option_to_list}
use Rattle.std.proofs.lemmas.List.{drop_more, append-nil}
use Rattle.std.proofs.Math.ListN.{drop_of_length-le}
use Rattle.esm_tree.specs.Syntax.{Expr}
use Rattle.esm_tree.specs.Flat.{bindings_of, init_of}
use Rattle.esm_tree.specs.declared.node.LexicalBinding.{LexicalBinding}
use Rattle.esm_env.specs.Declarations.{Declaration}
use Rattle.esm_rows.specs.Rows.{Row, Names, init_row, bindings_row, set_by, found_here}
use Rattle.esm_rows.specs.Locals.{declared, names_onto, names_of}
use Rattle.esm_rows.specs.Working.{outer}
use Rattle.esm_rows.specs.declared.names.Local.{Local}

-- what is there and what is left are the whole
module _ {X : Type 0} (one : X → List Declaration) (rest : List X → List Declaration) (xs : List X) where
  abbrev pub NamesLeft : ℕ → List Declaration → List Declaration → Type 0
  NamesLeft i there all = there ++ rest (drop i xs) ≡ all

  pub goes_at : ((y : X) (ys : List X) → rest (y ∷ ys) ≡ one y ++ rest ys) → (i : ℕ) (d : X) (there there2 all : List Declaration) → i < length xs → there2 ≡ there ++ one (get_or xs i d) → NamesLeft i there all → NamesLeft (i + 1) there2 all
  goes_at more i d there there2 all h e left =
      ap (λ ds. ds ++ rest (drop (i + 1) xs)) e ∙ append_assoc there (one (get_or xs i d)) _ ∙ ap (λ ds. there ++ ds) (sym (more (get_or xs i d) (drop (i + 1) xs))) ∙ ap (λ ys. there ++ rest ys) (sym (drop_more xs i d h)) ∙ left

  pub goes : ((y : X) (ys : List X) → rest (y ∷ ys) ≡ one y ++ rest ys) → (i : ℕ) (y : X) (there there2 all : List Declaration) → y ≡ get_or xs i y → i < length xs → there2 ≡ there ++ one y → NamesLeft i there all → NamesLeft (i + 1) there2 all
  goes more i y there there2 all is h e left = goes_at more i y there there2 all h (e ∙ ap (λ z. there ++ one z) is) left

  pub ends : rest [] ≡ [] → (i : ℕ) (there all : List Declaration) → length xs ≤ i → NamesLeft i there all → there ≡ all
  ends none i there all h left = sym (append-nil there) ∙ ap (λ ds. there ++ ds) (sym none) ∙ ap (λ ys. there ++ rest ys) (sym (drop_of_length-le xs h)) ∙ left

-- ---- blocks

pub names_push : (bs : List (List Local)) (b : List Local) (ns : Names) → names_onto (bs ++ b ∷ []) ns ≡ declared b ∷ names_onto bs ns
names_push [] b ns = refl
names_push (a ∷ bs) b ns = names_push bs b (declared a ∷ ns)

pub popped : (bs bs2 : List (List Local)) (r : Option (List Local)) (n m : ℕ) → n ≡ length bs → bs ≡ bs2 ++ option_to_list r → MatchOption r ((n ≡ 0) × (m ≡ 0)) (λ _. m + 1 ≡ n) → names_of bs2 ≡ outer (names_of bs)
popped bs bs2 (Some b) n m l e k = sym (ap outer (ap names_of e ∙ names_push bs2 b []))
popped [] [] None n m l e k = refl
popped [] (b ∷ bs2) None n m l e k = absurd (cc)
popped (b ∷ bs) bs2 None n m l e k = let z = k.0 in absurd (omega (arith, l, z))

-- ---- bindings, the last one first

pub binding_goes : (names : Names) (exprs : List Expr) (bs : List LexicalBinding) (i j : ℕ) (b : LexicalBinding) (c : Row) → b ≡ get_or bs i b → i + 1 ≡ j → i < length bs → init_row names (init_of exprs b.value) (set_by b.name (found_here names b.name) ∷ bindings_row names (bindings_of exprs (drop j bs)) c) ≡ bindings_row names (bindings_of exprs (drop i bs)) c
binding_goes names exprs bs i j b c is e h =
    ap (λ n. init_row names (init_of exprs b.value) (set_by b.name (found_here names b.name) ∷ bindings_row names (bindings_of exprs (drop n bs)) c)) (sym e) ∙ ap (λ d. init_row names (init_of exprs d.value) (set_by d.name (found_here names d.name) ∷ bindings_row names (bindings_of exprs (drop (i + 1) bs)) c)) is ∙ ap (λ ds. bindings_row names (bindings_of exprs ds) c) (sym (drop_more bs i b h))
