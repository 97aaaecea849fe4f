-- What `greatest` finds, by places.
use Rattle.std.proofs.Common.{ℕ, ◌+◌, List, [], ◌∷◌, inl, inr, refl, sym, add-one, arith}
use Rattle.std.specs.Prelude.{All, Contains}
use Rattle.std.proofs.lemmas.List.Elements.{All-nil, All-cons}
use Rattle.esm_specifier.specs.Laws.{GreatestIs}
use Rattle.esm_specifier.proofs.Keys.Greatest.{IsIn, greatest_is}

contains_of : (text : List ℕ) (texts : List (List ℕ)) → IsIn text texts → Contains texts text
contains_of text [] h = absurd h
contains_of text (other ∷ texts) (inl same) = (0, omega arith, sym same)
contains_of text (other ∷ texts) (inr more) =
    let later = contains_of text texts more in
    (later.0 + 1, omega arith, rw add-one later.2)

all_of : (P : List ℕ → Type 0) (texts : List (List ℕ)) → ((text : List ℕ) → IsIn text texts → P text) → All P texts
all_of P [] h = All-nil P
all_of P (text ∷ texts) h = All-cons P text texts (h text (inl refl)) (all_of P texts (λ other more. h other (inr more)))

pub greatest_law : GreatestIs
greatest_law [] = refl
greatest_law (text ∷ texts) =
    let g = greatest_is text texts in
    record { member = contains_of _ (text ∷ texts) g.member; none_greater = all_of _ (text ∷ texts) g.none_greater }
