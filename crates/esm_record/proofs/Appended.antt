-- Pieces that are appended one behind another.
use Rattle.std.proofs.Common.{◌≡◌, ◌∙◌, ap, ap₂, sym, refl, ℕ, zero, suc, ◌+◌, ◌<◌, ◌≤◌, List, [], ◌∷◌, ◌++◌, length, get_or, drop, arith, append_assoc, append-nil, drop-cons}
use Rattle.std.specs.List.{flat_map}
use Rattle.esm_record.specs.declared.delivery.Delivery.{Delivery}
use Rattle.esm_record.specs.Delivered.{delivery_of, deliveries_of}
use Rattle.esm_record.specs.Record.{delivery_lines}

-- one piece, and then another
pub both : (old front back mid new : List ℕ) → mid ≡ old ++ front → new ≡ mid ++ back → new ≡ old ++ (front ++ back)
both old front back mid new first second = second ∙ (ap (λ t. t ++ back) first ∙ append_assoc old front back)

abbrev pub lines_of : List Delivery → List ℕ
lines_of taken = flat_map delivery_lines (deliveries_of taken)

-- the lines of one delivery, and then those of the ones that are left
pub goes_on : (taken : List Delivery) (k : ℕ) (d : Delivery) (text after all : List ℕ) → k < length taken → d ≡ get_or taken k d
    → after ≡ text ++ delivery_lines (delivery_of d) → text ++ lines_of (drop k taken) ≡ all → after ++ lines_of (drop (k + 1) taken) ≡ all
goes_on taken k d text after all within is new leads =
    let next : suc k ≡ k + 1 = omega arith in
    let left : drop k taken ≡ d ∷ drop (k + 1) taken =
    drop-cons taken k d within ∙ ap₂ (λ (x : Delivery) (xs : List Delivery). x ∷ xs) (sym is) (ap (λ n. drop n taken) next) in
    ap (λ t. t ++ lines_of (drop (k + 1) taken)) new
    ∙ (append_assoc text (delivery_lines (delivery_of d)) (lines_of (drop (k + 1) taken))
    ∙ (sym (ap (λ (xs : List Delivery). text ++ lines_of xs) left)
    ∙ leads))

none_left : (taken : List Delivery) (k : ℕ) → length taken ≤ k → drop k taken ≡ []
none_left [] zero past = refl
none_left [] (suc k) past = refl
none_left (d ∷ taken) zero past = absurd (omega arith)
none_left (d ∷ taken) (suc k) past = none_left taken k (omega arith)

-- none is left
pub ends : (taken : List Delivery) (k : ℕ) (text all : List ℕ) → length taken ≤ k → text ++ lines_of (drop k taken) ≡ all → text ≡ all
ends taken k text all past leads =
    sym (ap (λ (xs : List Delivery). text ++ lines_of xs) (none_left taken k past) ∙ append-nil text) ∙ leads
