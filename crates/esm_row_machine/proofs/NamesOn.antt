-- The values of names on their stack, and those of the blocks of a function.
use Rattle.std.proofs.Common.{◌≡◌, ℕ, zero, suc, ◌+◌, Bool, true, false, List, [], ◌∷◌, ◌++◌, length, Option, Some, None, refl, ap, subst, ◌∙◌, arith}
use Rattle.std.specs.Prelude.{replicate, slice_get, slice_set, if◌then◌else◌}
use Rattle.std.specs.Str.{bytes_eq}
use Rattle.std.proofs.lemmas.List.{map-append}
use Rattle.esm_env.specs.Declarations.{Declaration}
use Rattle.esm_values.specs.Code.{CodeValue, value_of}
use Rattle.esm_values.specs.declared.value.Value.{Value}
use Rattle.esm_rows.specs.Rows.{Names, Found, found_among, many_names, caught_names, named}
use Rattle.esm_row_laws.specs.Spots.{Round, Own, Inner, First, Tried, names_of, left_row, handled_row}
use Rattle.esm_row_laws.specs.Places.{flat, FitNames}
use Rattle.esm_row_laws.specs.Operations.{Values, unset_of}
use Rattle.esm_row_laws.specs.Landings.{caught_values}
use Rattle.esm_row_laws.specs.Setting.{set_first, set_by, set_found, set_here}
use Rattle.esm_row_machine.specs.Stacks.{name_value, names_on, handler_by, handlers_of}
use Rattle.esm_row_machine.specs.Outside.{KnownIfSome}
use Rattle.esm_row_machine.specs.Naming.{caught_by, handler_with}
use Rattle.esm_row_machine.specs.Turns.{AreNamesKnown}
use Rattle.esm_row_machine.proofs.Told.{joined, some_same}

-- ---- behind others

pub past : {A : Type 0} (xs ys : List A) (n : ℕ) → slice_get (xs ++ ys) (length xs + n) ≡ slice_get ys n
past [] ys n = let e : 0 + n ≡ n = omega arith in ap (λ m. slice_get ys m) e
past (x ∷ xs) ys n = let e : suc (length xs) + n ≡ suc (length xs + n) = omega arith in ap (λ m. slice_get (x ∷ (xs ++ ys)) m) e ∙ past xs ys n

pub set_past : {A : Type 0} (xs ys : List A) (n : ℕ) (a : A) → slice_set (xs ++ ys) (length xs + n) a ≡ xs ++ slice_set ys n a
set_past [] ys n a = let e : 0 + n ≡ n = omega arith in ap (λ m. slice_set ys m a) e
set_past (x ∷ xs) ys n a =
    let e : suc (length xs) + n ≡ suc (length xs + n) = omega arith in
    ap (λ m. slice_set (x ∷ (xs ++ ys)) m a) e ∙ ap (λ zs. x ∷ zs) (set_past xs ys n a)

pub apart : {A : Type 0} (a : A) → ◌≡◌ {A = Option A} None (Some a) → ⊥
apart a e = cc

-- ---- on the stack

pub names_more : (xs ys : List (Option Value)) → names_on (xs ++ ys) ≡ names_on xs ++ names_on ys
names_more xs ys = map-append name_value xs ys

pub name_at : (ns : List (Option Value)) (n : ℕ) (v : Option Value) → slice_get ns n ≡ Some v → slice_get (names_on ns) n ≡ Some (name_value v)
name_at [] n v e = absurd (apart v e)
name_at (u ∷ ns) zero v e = ap (λ (q : Option Value). Some (name_value q)) (some_same u v e)
name_at (u ∷ ns) (suc n) v e = name_at ns n v e

pub name_set : (ns : List (Option Value)) (n : ℕ) (v : Value) → names_on (slice_set ns n (Some v)) ≡ slice_set (names_on ns) n (Some (value_of v))
name_set [] n v = refl
name_set (u ∷ ns) zero v = refl
name_set (u ∷ ns) (suc n) v = ap (λ zs. name_value u ∷ zs) (name_set ns n v)

pub unset_names : (ds : List Declaration) → names_on (replicate (length ds) None) ≡ unset_of ds
unset_names [] = refl
unset_names (d ∷ ds) = ap (λ ns. None ∷ ns) (unset_names ds)

pub unset_many : (ds : List Declaration) → length (unset_of ds) ≡ length ds
unset_many [] = refl
unset_many (d ∷ ds) = ap suc (unset_many ds)

pub caught_on : (caught : Option (List ℕ)) (v : Value) (ds : List Declaration) → names_on (caught_by (named caught) v ++ replicate (length ds) None) ≡ caught_values caught (value_of v) ++ unset_of ds
caught_on None v ds = unset_names ds
caught_on (Some name) v ds = ap (λ ns. Some (value_of v) ∷ ns) (unset_names ds)

pub caught_many : (caught : Option (List ℕ)) (v : CodeValue) (ds : List Declaration) → length (caught_values caught v ++ unset_of ds) ≡ length (caught_names caught ++ ds)
caught_many None v ds = unset_many ds
caught_many (Some name) v ds = ap suc (unset_many ds)

-- ---- known ones

module _ (K : CodeValue → Type 0) where
  pub names_known_more : (xs ys : List (Option Value)) → AreNamesKnown K xs → AreNamesKnown K ys → AreNamesKnown K (xs ++ ys)
  names_known_more [] ys h k = k
  names_known_more (x ∷ xs) ys h k = (h.0, names_known_more xs ys h.1 k)

  pub unset_known : (n : ℕ) → AreNamesKnown K (replicate n None)
  unset_known zero = tt
  unset_known (suc n) = (tt, unset_known n)

  pub caught_known : (b : Bool) (v : Value) → K (value_of v) → AreNamesKnown K (caught_by b v)
  caught_known true v h = (h, tt)
  caught_known false v h = tt

  pub set_known : (ns : List (Option Value)) (n : ℕ) (v : Value) → K (value_of v) → AreNamesKnown K ns → AreNamesKnown K (slice_set ns n (Some v))
  set_known [] n v h k = k
  set_known (u ∷ ns) zero v h k = (h, k.1)
  set_known (u ∷ ns) (suc n) v h k = (k.0, set_known ns n v h k.1)

  pub name_known : (ns : List (Option Value)) (n : ℕ) (v : Value) → slice_get ns n ≡ Some (Some v) → AreNamesKnown K ns → K (value_of v)
  name_known [] n v e k = absurd (apart (Some v) e)
  name_known (u ∷ ns) zero v e k = subst (λ (q : Option Value). KnownIfSome K (name_value q)) (some_same u (Some v) e) k.0
  name_known (u ∷ ns) (suc n) v e k = name_known ns n v e k.1

-- ---- as many values in each block

abbrev pub AsMany : Values → Values → Type 0
AsMany [] [] = Unit {0}
AsMany [] (ws ∷ wss) = ⊥
AsMany (vs ∷ vss) [] = ⊥
AsMany (vs ∷ vss) (ws ∷ wss) = (length ws ≡ length vs) × AsMany vss wss

pub many_itself : (vss : Values) → AsMany vss vss
many_itself [] = tt
many_itself (vs ∷ vss) = (refl, many_itself vss)

pub still_fit : (ns : Names) (vss wss : Values) → AsMany vss wss → FitNames ns vss → FitNames ns wss
still_fit [] [] [] m h = tt
still_fit [] [] (ws ∷ wss) m h = absurd m
still_fit [] (vs ∷ vss) wss m h = absurd h
still_fit (ds ∷ ns) [] wss m h = absurd h
still_fit (ds ∷ ns) (vs ∷ vss) [] m h = absurd m
still_fit (ds ∷ ns) (vs ∷ vss) (ws ∷ wss) m h = (m.0 ∙ h.0, still_fit ns vss wss m.1 h.1)

pub same_many : (vss wss : Values) → AsMany vss wss → length (flat wss) ≡ length (flat vss)
same_many [] [] m = refl
same_many [] (ws ∷ wss) m = absurd m
same_many (vs ∷ vss) [] m = absurd m
same_many (vs ∷ vss) (ws ∷ wss) m =
    let a = joined (flat wss) ws in
    let b = joined (flat vss) vs in
    let c = same_many vss wss m.1 in
    let d = m.0 in
    omega (arith, a, b, c, d)

same_handler : (base : ℕ) (r : Round) (rs : List Round) (vss wss : Values) → AsMany vss wss → handler_by base r rs wss ≡ handler_by base r rs vss
same_handler base (Own ds) rs vss wss m = refl
same_handler base (Inner ds l) rs vss wss m = refl
same_handler base (First ds others l) rs vss wss m = refl
same_handler base (Tried ds caught handler l) rs vss wss m = ap (λ n. handler_with (length (handled_row caught handler (names_of rs) (left_row l rs))) (base + n) ∷ []) (same_many vss wss m)

pub same_handlers : (base : ℕ) (rs : List Round) (vss wss : Values) → AsMany vss wss → handlers_of base rs wss ≡ handlers_of base rs vss
same_handlers base [] vss wss m = refl
same_handlers base (r ∷ rs) [] [] m = refl
same_handlers base (r ∷ rs) [] (ws ∷ wss) m = absurd m
same_handlers base (r ∷ rs) (vs ∷ vss) [] m = absurd m
same_handlers base (r ∷ rs) (vs ∷ vss) (ws ∷ wss) m = λ i. same_handlers base rs vss wss m.1 i ++ same_handler base r rs vss wss m.1 i

-- a name that is set leaves as many

first_many : (b : Bool) (v u : Option CodeValue) (vs later : List (Option CodeValue)) → length later ≡ length vs → length (if b then v ∷ vs else u ∷ later) ≡ suc (length vs)
first_many true v u vs later e = refl
first_many false v u vs later e = ap suc e

set_first_many : (ds : List Declaration) (x : List ℕ) (v : CodeValue) (vs : List (Option CodeValue)) → length (set_first ds x v vs) ≡ length vs
set_first_many [] x v vs = refl
set_first_many (d ∷ ds) x v [] = refl
set_first_many (d ∷ ds) x v (u ∷ vs) = first_many (bytes_eq d.name x) (Some v) u vs (set_first ds x v vs) (set_first_many ds x v vs)

set_by_many : (here : Option Found) (set vs : List (Option CodeValue)) (vss later : Values) → length set ≡ length vs → AsMany vss later → AsMany (vs ∷ vss) (set_by here set vs vss later)
set_by_many (Some f) set vs vss later e m = (e, many_itself vss)
set_by_many None set vs vss later e m = (refl, m)

pub found_many : (ns : Names) (x : List ℕ) (v : CodeValue) (vss : Values) → AsMany vss (set_found ns x v vss)
found_many [] x v vss = many_itself vss
found_many (ds ∷ ns) x v [] = tt
found_many (ds ∷ ns) x v (vs ∷ vss) =
    set_by_many (found_among (many_names ns) ds x) (set_first ds x v vs) vs vss (set_found ns x v vss) (set_first_many ds x v vs) (found_many ns x v vss)

pub here_many : (ns : Names) (x : List ℕ) (v : CodeValue) (vss : Values) → AsMany vss (set_here ns x v vss)
here_many [] x v vss = many_itself vss
here_many (ds ∷ ns) x v [] = tt
here_many (ds ∷ ns) x v (vs ∷ vss) = (set_first_many ds x v vs, many_itself vss)
