-- Where a name stands among the levels of code under way.
use Rattle.std.proofs.Common.{◌≡◌, ℕ, zero, suc, ◌<◌, ◌≤◌, Bool, true, false, List, [], ◌∷◌, ◌++◌, map, length, refl, ap, subst, sym, ◌∙◌, arith, ◌⊎◌, inl, inr, get_or}
use Rattle.std.specs.Prelude.{Option, Some, None, option_map, if◌then◌else◌}
use Rattle.std.specs.Option.{option_or}
use Rattle.std.specs.Str.{bytes_eq}
use Rattle.std.proofs.Math.Dec.{eqb}
use Rattle.std.proofs.lemmas.Bool.Decides.{eqb_tells}
use Rattle.esm_values.specs.Code.{CodeValue}
use Rattle.esm_env.specs.Cells.{Cell}
use Rattle.esm_rewriting.specs.Scopes.{Scope, cell_by, in_scope, in_scopes}
use Rattle.esm_body.specs.Slots.{slot_of}
use Rattle.esm_body.specs.Inner.Stack.{scopes_round}
use Rattle.esm_body.specs.Code.{scope_of_level}
use Rattle.esm_env.specs.NamePlaces.{first_place}
use Rattle.esm_body.specs.Inner.SlotPlaces.{names_of}
use Rattle.esm_body.specs.Inner.Names.{place_at, NoneFrom, IsFound}
use Rattle.esm_body.specs.declared.work.Slot.{Slot}
use Rattle.esm_body.specs.declared.work.Level.{Level}

below_cases : (at i : ℕ) → at ≤ i → (at ≡ i) ⊎ (at < i)
below_cases at i h = by (eqb_tells at i)
  where
    by : ((eqb at i ≡ true) × (at ≡ i)) ⊎ ((eqb at i ≡ false) × (at ≡ i → ⊥)) → (at ≡ i) ⊎ (at < i)
    by (inl e) = inl e.1
    by (inr n) = inr (omega (arith, n.1, h))

-- the scopes of levels, none left out, the last first
abbrev pub rounds : List Level → List (Scope CodeValue)
rounds [] = []
rounds (l ∷ ls) = rounds ls ++ scope_of_level l ∷ []

pub round_all : (b : Level) (ls : List Level) → scopes_round (b ∷ ls) ≡ rounds ls
round_all b [] = refl
round_all b (l ∷ ls) = ap (λ ss. ss ++ scope_of_level l ∷ []) (round_all l ls)

-- ---- one level

abbrev pub cell_of : Slot → Cell CodeValue
cell_of s = (slot_of s).cell

-- the cell at a place
abbrev pub CellAt : List Slot → List ℕ → Option ℕ → Type 0
CellAt slots x None = in_scope (map slot_of slots) x ≡ None
CellAt slots x (Some j) = (j < length slots) × ((d : Slot) → in_scope (map slot_of slots) x ≡ Some (cell_of (get_or slots j d)))

-- the same behind one slot more, b is whether that has the name
abbrev PlaceBy : Slot → List Slot → List ℕ → Bool → Option ℕ → Type 0
PlaceBy s ss x b None = cell_by b (cell_of s) (in_scope (map slot_of ss) x) ≡ None
PlaceBy s ss x b (Some j) = (j < length (s ∷ ss)) × ((d : Slot) → cell_by b (cell_of s) (in_scope (map slot_of ss) x) ≡ Some (cell_of (get_or (s ∷ ss) j d)))

place_by : (s : Slot) (ss : List Slot) (x : List ℕ) (b : Bool) (o : Option ℕ) → CellAt ss x o → PlaceBy s ss x b (if b then Some 0 else option_map suc o)
place_by s ss x true o h = (omega arith, λ d. refl)
place_by s ss x false None h = h
place_by s ss x false (Some j) h = (let a = h.0 in omega (arith, a), h.1)

back : (s : Slot) (ss : List Slot) (x : List ℕ) (o : Option ℕ) → PlaceBy s ss x (bytes_eq s.name x) o → CellAt (s ∷ ss) x o
back s ss x None h = h
back s ss x (Some j) h = h

pub cell_at_place : (slots : List Slot) (x : List ℕ) → CellAt slots x (first_place (names_of slots) x)
cell_at_place [] x = refl
cell_at_place (s ∷ ss) x = back s ss x _ (place_by s ss x (bytes_eq s.name x) (first_place (names_of ss) x) (cell_at_place ss x))

-- ---- all levels

pub scopes_last : (ss : List (Scope CodeValue)) (s : Scope CodeValue) (x : List ℕ) → in_scopes (ss ++ s ∷ []) x ≡ option_or (in_scopes ss x) (in_scope s x)
scopes_last [] s x = or_none (in_scope s x)
  where
    or_none : (o : Option (Cell CodeValue)) → option_or o None ≡ o
    or_none None = refl
    or_none (Some c) = refl
scopes_last (t ∷ ss) s x = ap (option_or (in_scope t x)) (scopes_last ss s x) ∙ sym (or_assoc (in_scope t x) (in_scopes ss x) (in_scope s x))
  where
    or_assoc : (a b c : Option (Cell CodeValue)) → option_or (option_or a b) c ≡ option_or a (option_or b c)
    or_assoc None b c = refl
    or_assoc (Some d) b c = refl

cell_none : (slots : List Slot) (x : List ℕ) → first_place (names_of slots) x ≡ None → in_scope (map slot_of slots) x ≡ None
cell_none slots x e = subst (CellAt slots x) e (cell_at_place slots x)

-- no level declares it
pub lacks : (ls : List Level) (x : List ℕ) → ((i : ℕ) → place_at ls i x ≡ None) → in_scopes (rounds ls) x ≡ None
lacks [] x h = refl
lacks (l ∷ ls) x h =
    scopes_last (rounds ls) (scope_of_level l) x
    ∙ ap (λ o. option_or o (in_scope (scope_of_level l) x)) (lacks ls x (λ i. h (suc i)))
    ∙ cell_none l.slots x (h 0)

-- the innermost that declares it has it at this place
abbrev pub Innermost : List Level → ℕ → ℕ → List ℕ → Type 0
Innermost ls k j x = (place_at ls k x ≡ Some j) × ((i : ℕ) → k < i → place_at ls i x ≡ None)

pub has : (ls : List Level) (k j : ℕ) (x : List ℕ) → Innermost ls k j x → (d : Level) (e : Slot) → in_scopes (rounds ls) x ≡ Some (cell_of (get_or (get_or ls k d).slots j e))
has [] k j x h d e = absurd cc
has (l ∷ ls) zero j x h d e =
    scopes_last (rounds ls) (scope_of_level l) x
    ∙ ap (λ o. option_or o (in_scope (scope_of_level l) x)) (lacks ls x (λ i. h.1 (suc i) (omega arith)))
    ∙ (subst (CellAt l.slots x) h.0 (cell_at_place l.slots x)).1 e
has (l ∷ ls) (suc k) j x h d e =
    scopes_last (rounds ls) (scope_of_level l) x
    ∙ ap (λ o. option_or o (in_scope (scope_of_level l) x)) (has ls k j x (h.0, λ i lt. h.1 (suc i) (omega (arith, lt))) d e)

-- where the place is
pub place_bound : (ls : List Level) (k j : ℕ) (x : List ℕ) → place_at ls k x ≡ Some j → (k < length ls) × ((d : Level) → j < length (get_or ls k d).slots)
place_bound [] k j x h = absurd cc
place_bound (l ∷ ls) zero j x h = (omega arith, λ d. (subst (CellAt l.slots x) h (cell_at_place l.slots x)).0)
place_bound (l ∷ ls) (suc k) j x h = let r = place_bound ls k j x h in let a = r.0 in (omega (arith, a), r.1)

-- behind all levels there is none
pub place_behind : (ls : List Level) (i : ℕ) (x : List ℕ) → length ls ≤ i → place_at ls i x ≡ None
place_behind [] i x h = refl
place_behind (l ∷ ls) zero x h = absurd (omega (arith, h))
place_behind (l ∷ ls) (suc i) x h = place_behind ls i x (omega (arith, h))

-- the place in a level that is there
pub place_there : (ls : List Level) (i : ℕ) (x : List ℕ) (d : Level) → i < length ls → place_at ls i x ≡ first_place (names_of (get_or ls i d).slots) x
place_there [] i x d h = absurd (omega (arith, h))
place_there (l ∷ ls) zero x d h = refl
place_there (l ∷ ls) (suc i) x d h = place_there ls i x d (omega (arith, h))

-- ---- what is found

pub found_none : (ls : List Level) (x : List ℕ) → IsFound ls x None → in_scopes (scopes_round ls) x ≡ None
found_none [] x h = refl
found_none (b ∷ ls) x h = rw (round_all b ls) (lacks ls x (λ i. h (suc i) (omega arith)))

pub found_some : (ls : List Level) (x : List ℕ) (p : ℕ × ℕ) → IsFound ls x (Some p) → (d : Level) (e : Slot)
    → in_scopes (scopes_round ls) x ≡ Some (cell_of (get_or (get_or ls p.0 d).slots p.1 e))
found_some [] x p h d e = absurd (let k = h.1 in cc)
found_some (b ∷ ls) x (zero, j) h d e = absurd (omega (arith, h.0))
found_some (b ∷ ls) x (suc k, j) h d e = rw (round_all b ls) (has ls k j x (h.1, λ i lt. h.2 (suc i) (omega (arith, lt))) d e)

-- one level more has no such name
pub none_down : (ls : List Level) (at : ℕ) (x : List ℕ) → NoneFrom ls (suc at) x → place_at ls at x ≡ None → NoneFrom ls at x
none_down ls at x n e i le = by (below_cases at i le)
  where
    by : (at ≡ i) ⊎ (at < i) → place_at ls i x ≡ None
    by (inl h) = rw (sym h) e
    by (inr h) = n i (omega (arith, h))
