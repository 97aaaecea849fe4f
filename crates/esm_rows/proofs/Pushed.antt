-- Tasks one after another: what is there and what is left are the whole.
use Rattle.std.proofs.Common.{◌≡◌, ◌≤◌, ◌<◌, ℕ, ◌+◌, List, [], ◌∷◌, ◌++◌, length, drop, refl, ap, sym, ◌∙◌, get_or, append_assoc}
use Rattle.std.proofs.lemmas.List.{drop_more}
use Rattle.std.proofs.Math.ListN.{drop_of_length-le}
use Rattle.std.specs.List.{flat_map}

pub nothing_behind : {A : Type 0} (xs : List A) → xs ++ [] ≡ xs
nothing_behind [] = refl
nothing_behind (x ∷ xs) = ap (λ ys. x ∷ ys) (nothing_behind xs)

module _ {X A : Type 0} (f : X → List A) (xs : List X) where
  abbrev pub Left : ℕ → List A → List A → Type 0
  Left i there all = there ++ flat_map f (drop i xs) ≡ all

  pub goes : (i : ℕ) (d : X) (there all : List A) → i < length xs → Left i there all → Left (i + 1) (there ++ f (get_or xs i d)) all
  goes i d there all h left =
      append_assoc there (f (get_or xs i d)) _ ∙ ap (λ rest. there ++ flat_map f rest) (sym (drop_more xs i d h)) ∙ left

  pub ends : (i : ℕ) (there all : List A) → length xs ≤ i → Left i there all → there ≡ all
  ends i there all h left = sym (nothing_behind there) ∙ ap (λ rest. there ++ flat_map f rest) (sym (drop_of_length-le xs h)) ∙ left
