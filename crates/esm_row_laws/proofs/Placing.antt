-- A name that is found is that of the cell at its place.
use Rattle.std.proofs.Common.{◌≡◌, ℕ, zero, suc, ◌+◌, Bool, true, false, List, [], ◌∷◌, ◌++◌, length, Option, Some, None, refl, ap, subst, sym, ◌∙◌, arith}
use Rattle.std.specs.Prelude.{slice_get, if◌then◌else◌}
use Rattle.std.specs.Option.{option_or}
use Rattle.std.specs.Str.{bytes_eq}
use Rattle.esm_env.specs.Cells.{Cell}
use Rattle.esm_env.specs.Declarations.{Declaration}
use Rattle.esm_values.specs.Operators.{Values}
use Rattle.esm_rewriting.specs.Scopes.{Scope, in_scope, in_scopes, cell_by}
use Rattle.esm_rewriting.specs.Contexts.{scope_in, scopes_in}
use Rattle.esm_rows.specs.Rows.{Names, many_names, Found, found_at, found_among, found_in}
use Rattle.esm_row_laws.specs.Spots.{Round, Own, Inner, First, Tried, round_names, names_of}
use Rattle.esm_row_laws.specs.Remaining.{scope_by, context, contexts}
use Rattle.esm_row_laws.specs.Places.{flat, FitNames, cell_with}

-- the element behind a list
behind : {A : Type 0} (xs ys : List A) (y : A) → slice_get (xs ++ y ∷ ys) (length xs) ≡ Some y
behind [] ys y = refl
behind (x ∷ xs) ys y = behind xs ys y

pub shifted : {A : Type 0} (xs ys : List A) (y : A) → (xs ++ y ∷ []) ++ ys ≡ xs ++ y ∷ ys
shifted [] ys y = refl
shifted (x ∷ xs) ys y = ap (λ zs. x ∷ zs) (shifted xs ys y)

pub longer : {A : Type 0} (xs : List A) (y : A) → length (xs ++ y ∷ []) ≡ suc (length xs)
longer [] y = refl
longer (x ∷ xs) y = ap suc (longer xs y)

joined : {A : Type 0} (xs ys : List A) → length (xs ++ ys) ≡ length xs + length ys
joined [] ys = omega arith
joined (x ∷ xs) ys = let e = joined xs ys in omega (arith, e)

-- an element of a list is one of a longer list
kept : {A : Type 0} (xs ys : List A) (n : ℕ) (y : A) → slice_get xs n ≡ Some y → slice_get (xs ++ ys) n ≡ Some y
kept {A = A} [] ys n y e = absurd (apart e) where
  apart : ◌≡◌ {A = Option A} None (Some y) → ⊥
  apart e = cc
kept (x ∷ xs) ys zero y e = e
kept (x ∷ xs) ys (suc n) y e = kept xs ys n y e

some_or : {A : Type 0} → A → Option A → A
some_or d None = d
some_or d (Some a) = a

pub some_same : {A : Type 0} (a b : A) → ◌≡◌ {A = Option A} (Some a) (Some b) → a ≡ b
unfolding some_or
some_same a b e = ap (some_or a) e

pub apart : (f : Found) → ◌≡◌ {A = Option Found} None (Some f) → ⊥
apart f e = cc

parted : (f : Found) → ◌≡◌ {A = Option Found} (Some f) None → ⊥
parted f e = cc

module _ {V : Type 0} (values : Values V) (x : List ℕ) where
  -- ---- in one block

  abbrev Told : List (Option V) → Found → Option (Cell V) → Type 0
  Told all f cell = (v : Option V) × (slice_get all f.place ≡ Some v) × (cell ≡ Some (cell_with f.constant v))

  abbrev cell_of : List Declaration → List (Option V) → Option (Cell V)
  cell_of ds vs = in_scope (scope_by values ds vs) x

  first_found : (b : Bool) (before : List (Option V)) (d : Declaration) (v : Option V) (vs : List (Option V)) (later : Option Found) (cell : Option (Cell V)) (f : Found) → (if b then Some (found_at (length before) d.constant) else later) ≡ Some f → (later ≡ Some f → Told (before ++ v ∷ vs) f cell) → Told (before ++ v ∷ vs) f (cell_by b (cell_with d.constant v) cell)
  first_found true before d v vs later cell f e others =
      subst (λ g. Told (before ++ v ∷ vs) g (Some (cell_with d.constant v))) (some_same (found_at (length before) d.constant) f e) (v, behind before vs v, refl)
  first_found false before d v vs later cell f e others = others e

  pub among : (before : List (Option V)) (ds : List Declaration) (vs : List (Option V)) (f : Found) → length vs ≡ length ds → found_among (length before) ds x ≡ Some f → Told (before ++ vs) f (cell_of ds vs)
  among before [] vs f h e = absurd (apart f e)
  among before (d ∷ ds) [] f h e = absurd (omega (arith, h))
  among before (d ∷ ds) (v ∷ vs) f h e =
      first_found (bytes_eq d.name x) before d v vs (found_among (suc (length before)) ds x) (cell_of ds vs) f e
      (λ l. subst (λ all. Told all f (cell_of ds vs)) (shifted before vs v) (among (before ++ v ∷ []) ds vs f (omega (arith, h)) (subst (λ n. found_among n ds x ≡ Some f) (sym (longer before v)) l)))

  not_first : (b : Bool) (n : ℕ) (d : Declaration) (v : Option V) (later : Option Found) (cell : Option (Cell V)) → (if b then Some (found_at n d.constant) else later) ≡ None → (later ≡ None → cell ≡ None) → cell_by b (cell_with d.constant v) cell ≡ None
  not_first true n d v later cell e others = absurd (parted (found_at n d.constant) e)
  not_first false n d v later cell e others = others e

  pub not_among : (n : ℕ) (ds : List Declaration) (vs : List (Option V)) → length vs ≡ length ds → found_among n ds x ≡ None → cell_of ds vs ≡ None
  not_among n [] vs h e = refl
  not_among n (d ∷ ds) [] h e = absurd (omega (arith, h))
  not_among n (d ∷ ds) (v ∷ vs) h e =
      not_first (bytes_eq d.name x) n d v (found_among (suc n) ds x) (cell_of ds vs) e (λ l. not_among (suc n) ds vs (omega (arith, h)) l)

  -- ---- in all of them

  pub many : (ns : Names) (vss : List (List (Option V))) → FitNames ns vss → length (flat vss) ≡ many_names ns
  many [] [] h = refl
  many [] (vs ∷ vss) h = absurd h
  many (ds ∷ ns) [] h = absurd h
  many (ds ∷ ns) (vs ∷ vss) h =
      let a = joined (flat vss) vs in
      let b = many ns vss h.1 in
      let c = h.0 in
      omega (arith, a, b, c)

  pub scope_of_round : (r : Round) (s : Scope V) → scope_in (context values r s) ≡ s
  scope_of_round (Own ds) s = refl
  scope_of_round (Inner ds l) s = refl
  scope_of_round (First ds others l) s = refl
  scope_of_round (Tried ds caught handler l) s = refl

  abbrev cells : List Round → List (List (Option V)) → Option (Cell V)
  cells rs vss = in_scopes (scopes_in (contexts values rs vss)) x

  -- the innermost block, and those outside
  one_more : (r : Round) (rs : List Round) (vs : List (Option V)) (vss : List (List (Option V))) → cells (r ∷ rs) (vs ∷ vss) ≡ option_or (cell_of (round_names r) vs) (cells rs vss)
  one_more r rs vs vss = ap (λ s. option_or (in_scope s x) (cells rs vss)) (scope_of_round r (scope_by values (round_names r) vs))

  by_found : (here : Option Found) (r : Round) (rs : List Round) (vs : List (Option V)) (vss : List (List (Option V))) (f : Found) → FitNames (names_of (r ∷ rs)) (vs ∷ vss) → found_among (many_names (names_of rs)) (round_names r) x ≡ here → option_or here (found_in (names_of rs) x) ≡ Some f → (found_in (names_of rs) x ≡ Some f → Told (flat vss) f (cells rs vss)) → Told (flat (vs ∷ vss)) f (cells (r ∷ rs) (vs ∷ vss))
  by_found (Some g) r rs vs vss f h e o outside =
      let same = some_same g f o in
      let it = among (flat vss) (round_names r) vs g h.0 (subst (λ n. found_among n (round_names r) x ≡ Some g) (sym (many (names_of rs) vss h.1)) e) in
      subst (λ k. Told (flat (vs ∷ vss)) k (cells (r ∷ rs) (vs ∷ vss))) same (it.0, it.1, one_more r rs vs vss ∙ ap (λ c. option_or c (cells rs vss)) it.2)
  by_found None r rs vs vss f h e o outside =
      let it = outside o in
      (it.0, kept (flat vss) vs f.place it.0 it.1, one_more r rs vs vss ∙ ap (λ c. option_or c (cells rs vss)) (not_among (many_names (names_of rs)) (round_names r) vs h.0 e) ∙ it.2)

  pub found : (rs : List Round) (vss : List (List (Option V))) (f : Found) → FitNames (names_of rs) vss → found_in (names_of rs) x ≡ Some f → Told (flat vss) f (cells rs vss)
  found [] vss f h e = absurd (apart f e)
  found (r ∷ rs) [] f h e = absurd h
  found (r ∷ rs) (vs ∷ vss) f h e = by_found (found_among (many_names (names_of rs)) (round_names r) x) r rs vs vss f h refl e (λ o. found rs vss f h.1 o)

  none_by : (here : Option Found) (r : Round) (rs : List Round) (vs : List (Option V)) (vss : List (List (Option V))) → FitNames (names_of (r ∷ rs)) (vs ∷ vss) → found_among (many_names (names_of rs)) (round_names r) x ≡ here → option_or here (found_in (names_of rs) x) ≡ None → (found_in (names_of rs) x ≡ None → cells rs vss ≡ None) → cells (r ∷ rs) (vs ∷ vss) ≡ None
  none_by (Some g) r rs vs vss h e o outside = absurd (parted g o)
  none_by None r rs vs vss h e o outside =
      one_more r rs vs vss ∙ ap (λ c. option_or c (cells rs vss)) (not_among (many_names (names_of rs)) (round_names r) vs h.0 e) ∙ outside o

  pub none : (rs : List Round) (vss : List (List (Option V))) → FitNames (names_of rs) vss → found_in (names_of rs) x ≡ None → cells rs vss ≡ None
  none [] [] h e = refl
  none [] (vs ∷ vss) h e = absurd h
  none (r ∷ rs) [] h e = absurd h
  none (r ∷ rs) (vs ∷ vss) h e = none_by (found_among (many_names (names_of rs)) (round_names r) x) r rs vs vss h refl e (λ o. none rs vss h.1 o)
