-- The row of each place ends with what is left at the end of its innermost block, and handlers stand there.
use Rattle.std.proofs.Common.{◌≡◌, ℕ, ◌+◌, List, [], ◌∷◌, ◌++◌, length, Option, Some, None, refl, ap, ◌∙◌, ◌⊎◌, inl, inr}
use Rattle.std.proofs.lemmas.List.{append_assoc, append-nil}
use Rattle.esm_rewriting.specs.Rest.{Use as Purpose}
use Rattle.esm_rewriting.specs.Rest.{Use as purposes}
use Rattle.esm_values.specs.Code.{CodeValue}
use Rattle.esm_rows.specs.Rows.{stmts_row}
use Rattle.esm_row_laws.specs.Spots.{Left, Round, Own, Inner, First, Tried, names_of, Kont, Uses, Ors, Ands, Equals, Compares, Sums, Adds, Turns, Posts, Passes, Prints, Makes, Imports, rounds_of, kont_names, handled_row, left_row, rounds_row, use_row, kont_row}
use Rattle.esm_row_laws.specs.Places.{flat, FitNames}
use Rattle.esm_row_laws.specs.Operations.{Values}
use Rattle.esm_row_laws.specs.Landings.{Landing, landing}
use Rattle.esm_row_laws.specs.Endings.{EndsWith}
use Rattle.esm_row_laws.proofs.Ending.{itself, one_more, both, exprs_ends, ors_ends, ands_ends, compared_ends, sums_ends, links_ends, bindings_end, stmts_end, whole_ends, choose}
use Rattle.esm_row_machine.specs.Stacks.{handlers_of, AreOfFunction}
use Rattle.esm_row_machine.specs.declared.machine.Handler.{Handler}

-- ---- what a place ends with

left_ends : (l : Left) (rs : List Round) → EndsWith (rounds_row rs) (left_row l rs)
left_ends l rs = both (stmts_end (names_of rs) l.stmts (rounds_row rs)) (bindings_end (names_of rs) l.bindings (stmts_row (names_of rs) l.stmts (rounds_row rs)))

use_ends : (purpose : Purpose) (l : Left) (rs : List Round) → EndsWith (left_row l rs) (use_row (names_of rs) purpose (left_row l rs))
use_ends purposes.Drops l rs = one_more _ (itself (left_row l rs))
use_ends (purposes.Sets x) l rs = one_more _ (itself (left_row l rs))
use_ends (purposes.Writes x) l rs = one_more _ (itself (left_row l rs))
use_ends purposes.Throws l rs = one_more _ (itself (left_row l rs))
use_ends purposes.Returns l rs = one_more _ (itself (left_row l rs))
use_ends purposes.Prints l rs = one_more _ (itself (left_row l rs))
use_ends (purposes.Chooses ss others) l rs = one_more _ (both (whole_ends others (names_of rs) (left_row l rs)) (choose ss others l rs))
use_ends (purposes.Awaits purpose) l rs = one_more _ (use_ends purpose l rs)

pub kont_ends : (k : Kont) → EndsWith (rounds_row (rounds_of k)) (kont_row k)
kont_ends (Uses purpose l rs) = both (left_ends l rs) (use_ends purpose l rs)
kont_ends (Ors es k) = both (kont_ends k) (ors_ends (kont_names k) es (length (kont_row k)) (kont_row k))
kont_ends (Ands es k) = both (kont_ends k) (ands_ends (kont_names k) es (length (kont_row k)) (kont_row k))
kont_ends (Equals cs k) = both (kont_ends k) (compared_ends (kont_names k) cs (kont_row k))
kont_ends (Compares alike cs k) = one_more _ (both (kont_ends k) (compared_ends (kont_names k) cs (kont_row k)))
kont_ends (Sums es k) = both (kont_ends k) (sums_ends (kont_names k) es (kont_row k))
kont_ends (Adds es k) = one_more _ (both (kont_ends k) (sums_ends (kont_names k) es (kont_row k)))
kont_ends (Turns k) = one_more _ (kont_ends k)
kont_ends (Posts ls k) = both (kont_ends k) (links_ends (kont_names k) ls (kont_row k))
kont_ends (Passes n es ls k) = both (one_more _ (both (kont_ends k) (links_ends (kont_names k) ls (kont_row k)))) (exprs_ends (kont_names k) es _)
kont_ends (Prints n es k) = both (one_more _ (kont_ends k)) (exprs_ends (kont_names k) es _)
kont_ends (Makes k) = one_more _ (kont_ends k)
kont_ends (Imports k) = one_more _ (kont_ends k)

-- ---- where a throw of a function leads

abbrev pub handler_at : ℕ → Landing → Handler
handler_at base l = record {
  left = length (handled_row l.caught l.handler (names_of l.rounds) (left_row l.behind l.rounds));
  names = base + length (flat l.names);
}

-- the innermost handler is on top
pub record LandsAt (base : ℕ) (rs : List Round) (vss : Values) : Type 0 where
  pub place : Landing
  pub is : landing rs vss ≡ Some place
  pub on_top : handlers_of base rs vss ≡ handlers_of base place.rounds place.names ++ handler_at base place ∷ []
  pub others : List (Option CodeValue)
  pub outside : flat vss ≡ flat place.names ++ others
  pub fit : FitNames (names_of place.rounds) place.names
  pub of_function : AreOfFunction place.rounds
  pub ends : EndsWith (handled_row place.caught place.handler (names_of place.rounds) (left_row place.behind place.rounds)) (rounds_row rs)

-- there is none
pub record NoneLands (base : ℕ) (rs : List Round) (vss : Values) : Type 0 where
  pub is : landing rs vss ≡ None
  pub empty : handlers_of base rs vss ≡ []

abbrev Either : ℕ → List Round → Values → Type 0
Either base rs vss = NoneLands base rs vss ⊎ LandsAt base rs vss

-- one block more, which has no handler
module _ (base : ℕ) (rs : List Round) (vs : List (Option CodeValue)) (vss : Values) where
  around : (r : Round) → handlers_of base (r ∷ rs) (vs ∷ vss) ≡ handlers_of base rs vss ++ [] → landing (r ∷ rs) (vs ∷ vss) ≡ landing rs vss → EndsWith (rounds_row rs) (rounds_row (r ∷ rs))
      → Either base rs vss → Either base (r ∷ rs) (vs ∷ vss)
  around r same lands ends (inl n) = inl (record { is = lands ∙ n.is; empty = same ∙ append-nil (handlers_of base rs vss) ∙ n.empty })
  around r same lands ends (inr l) = inr (record {
    place = l.place;
    is = lands ∙ l.is;
    on_top = same ∙ append-nil (handlers_of base rs vss) ∙ l.on_top;
    others = l.others ++ vs;
    outside = ap (λ us. us ++ vs) l.outside ∙ append_assoc (flat l.place.names) l.others vs;
    fit = l.fit;
    of_function = l.of_function;
    ends = both l.ends ends;
  })

pub lands : (base : ℕ) (rs : List Round) (vss : Values) → FitNames (names_of rs) vss → AreOfFunction rs → Either base rs vss
lands base [] vss fit of = absurd of
lands base (r ∷ rs) [] fit of = absurd fit
lands base (Own ds ∷ []) (vs ∷ vss) fit of = inl (record { is = refl; empty = refl })
lands base (Own ds ∷ r ∷ rs) (vs ∷ vss) fit of = absurd of
lands base (Inner ds l ∷ rs) (vs ∷ vss) fit of = around base rs vs vss (Inner ds l) refl refl (one_more _ (left_ends l rs)) (lands base rs vss fit.1 of)
lands base (First ds others l ∷ rs) (vs ∷ vss) fit of =
    around base rs vs vss (First ds others l) refl refl (one_more _ (both (left_ends l rs) (whole_ends others (names_of rs) (left_row l rs)))) (lands base rs vss fit.1 of)
lands base (Tried ds caught h l ∷ rs) (vs ∷ vss) fit of = inr (record {
  place = record { caught = caught; handler = h; behind = l; rounds = rs; names = vss };
  is = refl;
  on_top = refl;
  others = vs;
  outside = refl;
  fit = fit.1;
  of_function = of;
  ends = one_more _ (itself (handled_row caught h (names_of rs) (left_row l rs)));
})
