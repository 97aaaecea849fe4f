-- The search finds the place, since places rise.
use Rattle.std.proofs.Common.{◌≡◌, ◌<◌, ◌≤◌, ℕ, List, Ok, Err, Some, ap, subst, sym, ◌∙◌, length, get_or, arith}
use Rattle.std.specs.Prelude.{slice_get}
use Rattle.std.specs.List.Sorted.{IsNonDecreasing}
use Rattle.std.proofs.lemmas.List.Sorted.{searched}
use Rattle.std.proofs.lemmas.Option.{slice_get_within, get_or_from_slice_get}
use Rattle.esm_loads.proofs.Places.{get_within}
use Rattle.esm_loads.proofs.asked_urls.OpenAsks.close.Goals as goal

-- an element at a place, as a search gives it
at_place : (xs : List ℕ) (i x : ℕ) → i < length xs → get_or xs i 0 ≡ x → slice_get xs i ≡ Some x
at_place xs i x inside e =
    let found = get_within xs i inside in
    found.1 ∙ ap (λ x. Some x) (sym (get_or_from_slice_get xs i found.0 0 found.1) ∙ e)

-- a place that is there isn't missed
not_missed : (xs : List ℕ) (i k x : ℕ) → get_or xs i 0 ≡ x → i < length xs → ((j : ℕ) → j < k → get_or xs j 0 < x) → ((j : ℕ) → k ≤ j → j < length xs → x < get_or xs j 0) → ⊥
not_missed xs i k x e inside below above = grind (arith, below i, above i)

pub unreachable-requires : goal.unreachable-requires
unreachable-requires c =
    let xs = c.as_slice.result.now in
    let rise = subst IsNonDecreasing (sym c.as_slice.ensures) c.requires.rise in
    let none = searched xs c.args.place (Err c.in-Err.field-0) c.in-Err.ensures.position (λ i j h l. rise i j 0 h l) in
    let at = subst (λ ks. slice_get ks c.requires.listed.0 ≡ Some c.args.place) (sym c.as_slice.ensures) c.requires.listed.1 in
    let inside = slice_get_within xs c.requires.listed.0 c.args.place at in
    let is = get_or_from_slice_get xs c.requires.listed.0 c.args.place 0 at in
    not_missed xs c.requires.listed.0 c.in-Err.field-0 c.args.place is inside none.1 none.2

pub returns : goal.returns
returns c =
    let xs = c.as_slice.result.now in
    let rise = subst IsNonDecreasing (sym c.as_slice.ensures) c.requires.rise in
    let found = searched xs c.args.place (Ok c.in-Ok.at) c.in-Ok.ensures.position (λ i j h l. rise i j 0 h l) in
    record {
      at = c.in-Ok.at;
      found = subst (λ ks. slice_get ks c.in-Ok.at ≡ Some c.args.place) c.as_slice.ensures (at_place xs c.in-Ok.at c.args.place found.0 found.1);
      urls = c.remove-in-Ok.ensures;
      places = c.remove.ensures;
    }
