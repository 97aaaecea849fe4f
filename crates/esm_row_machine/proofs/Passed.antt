-- The values of parameters, one by one.
use Rattle.std.proofs.Common.{◌≡◌, ◌<◌, ◌≤◌, ℕ, zero, suc, ◌+◌, ◌-◌, List, [], ◌∷◌, ◌++◌, drop, Option, Some, refl, ap, sym, ◌∙◌, arith}
use Rattle.std.proofs.lemmas.List.{append-nil}
use Rattle.std.proofs.Math.ListN.{drop_of_length-le}
use Rattle.esm_values.specs.Code.{CodeValue, value_of, values_of}
use Rattle.esm_values.specs.declared.value.Value.{Value}
use Rattle.esm_rewriting.specs.Scopes.{argument_of}
use Rattle.esm_row_machine.specs.Stacks.{names_on, name_value}
use Rattle.esm_row_machine.specs.Entering.{passed}

abbrev behind : List CodeValue → List CodeValue
behind [] = []
behind (v ∷ vs) = vs

one_more : (n : ℕ) (vs : List CodeValue) → passed (suc n) vs ≡ Some (argument_of vs) ∷ passed n (behind vs)
one_more n [] = refl
one_more n (v ∷ vs) = refl

abbrev no_values : List Value
no_values = []

drop_none : (i : ℕ) → drop i no_values ≡ no_values
drop_none i = drop_of_length-le no_values (omega arith)

behind_drop : (values : List Value) (i : ℕ) → behind (values_of (drop i values)) ≡ values_of (drop (i + 1) values)
behind_drop [] i = ap (λ (vs : List Value). behind (values_of vs)) (drop_none i) ∙ sym (ap (λ (vs : List Value). values_of vs) (drop_none (i + 1)))
behind_drop (v ∷ vs) zero = refl
behind_drop (v ∷ vs) (suc i) = let e : suc i + 1 ≡ suc (i + 1) = omega arith in behind_drop vs i ∙ ap (λ n. values_of (drop n (v ∷ vs))) (sym e)

names_more : (xs : List (Option Value)) (v : Value) (rest : List (Option CodeValue)) → names_on (xs ++ Some v ∷ []) ++ rest ≡ names_on xs ++ Some (value_of v) ∷ rest
names_more [] v rest = refl
names_more (x ∷ xs) v rest = ap (λ r. name_value x ∷ r) (names_more xs v rest)

module _ (count : ℕ) (values : List Value) (before : List (Option Value)) where
  -- what is there and what is left are the whole
  abbrev pub Left : ℕ → List (Option Value) → Type 0
  Left i names = names_on names ++ passed (count - i) (values_of (drop i values)) ≡ names_on before ++ passed count (values_of values)

  pub pass_goes : (i : ℕ) (names : List (Option Value)) (v : Value) → i < count → value_of v ≡ argument_of (values_of (drop i values)) → Left i names → Left (i + 1) (names ++ Some v ∷ [])
  pass_goes i names v h e left =
      let less : count - i ≡ suc (count - (i + 1)) = omega (arith, h) in
      names_more names v (passed (count - (i + 1)) (values_of (drop (i + 1) values)))
      ∙ ap (λ c. names_on names ++ Some c ∷ passed (count - (i + 1)) (values_of (drop (i + 1) values))) e
      ∙ ap (λ vs. names_on names ++ Some (argument_of (values_of (drop i values))) ∷ passed (count - (i + 1)) vs) (sym (behind_drop values i))
      ∙ ap (λ r. names_on names ++ r) (sym (one_more (count - (i + 1)) (values_of (drop i values))))
      ∙ ap (λ n. names_on names ++ passed n (values_of (drop i values))) (sym less) ∙ left

  pub pass_ends : (i : ℕ) (names : List (Option Value)) → count ≤ i → Left i names → names_on names ≡ names_on before ++ passed count (values_of values)
  pass_ends i names h left =
      let none : count - i ≡ zero = omega (arith, h) in
      sym (append-nil (names_on names)) ∙ ap (λ n. names_on names ++ passed n (values_of (drop i values))) (sym none) ∙ left

  pub pass_starts : Left zero before
  pass_starts = ap (λ n. names_on before ++ passed n (values_of values)) (omega arith)
