-- A name of a block by its place there, and of blocks, one after another.
use Rattle.std.proofs.Common.{◌≡◌, ◌≤◌, ◌<◌, ℕ, zero, suc, ◌+◌, Bool, true, false, List, [], ◌∷◌, length, drop, Option, Some, None, refl, ap, sym, subst, ◌∙◌, get_or, arith}
use Rattle.std.proofs.lemmas.List.{drop_more}
use Rattle.std.proofs.Math.ListN.{drop_of_length-le}
use Rattle.std.specs.Prelude.{option_map, if◌then◌else◌}
use Rattle.std.specs.Str.{bytes_eq}
use Rattle.std.specs.Option.{option_or}
use Rattle.std.proofs.lemmas.List.{length-map}
use Rattle.esm_env.specs.NamePlaces.{first_place}
use Rattle.esm_rows.specs.LocalPlaces.{texts_of}
use Rattle.esm_rows.specs.Locals.{declaration, declared, names_onto, names_of, place_told}
use Rattle.esm_rows.specs.Rows.{Names, Found, found_at, found_among, found_in, found_here, many_names}
use Rattle.esm_rows.specs.declared.names.Place.{Place}
use Rattle.esm_rows.specs.declared.names.Local.{Local}

found_by : (b : Bool) (o : Option ℕ) (l : Local) (ls : List Local) (before at : ℕ) (d : Local) (later : Option Found) → Some at ≡ (if b then Some 0 else option_map suc o) → ((k : ℕ) → Some k ≡ o → Some (found_at (suc before + k) (get_or ls k d).constant) ≡ later) → Some (found_at (before + at) (get_or (l ∷ ls) at d).constant) ≡ (if b then Some (found_at before l.constant) else later)
found_by true o l ls before zero d later e more = ap (λ n. Some (found_at n l.constant)) (omega arith)
found_by true o l ls before (suc k) d later e more = let z : suc k ≡ 0 = cc in absurd (omega (arith, z))
found_by false None l ls before at d later e more = absurd cc
found_by false (Some j) l ls before zero d later e more = let z : zero ≡ suc j = cc in absurd (omega (arith, z))
found_by false (Some j) l ls before (suc k) d later e more =
    let s : suc k ≡ suc j = cc in
    let same : k ≡ j = omega (arith, s) in
    ap (λ n. Some (found_at n (get_or ls k d).constant)) (omega arith) ∙ more k (ap Some same)

-- a name at its first place is what is found among the names behind so many others
pub found_place : (locals : List Local) (x : List ℕ) (before at : ℕ) (d : Local) → Some at ≡ first_place (texts_of locals) x → Some (found_at (before + at) (get_or locals at d).constant) ≡ found_among before (declared locals) x
found_place [] x before at d e = absurd cc
found_place (l ∷ ls) x before at d e =
    found_by (bytes_eq l.name x) (first_place (texts_of ls) x) l ls before at d (found_among (suc before) (declared ls) x) e (λ k h. found_place ls x (suc before) k d h)

pub found_there : (locals : List Local) (x : List ℕ) (before at next : ℕ) (l : Local) → Some at ≡ first_place (texts_of locals) x → next ≡ before + at → l ≡ get_or locals at l → Some (found_at next l.constant) ≡ found_among before (declared locals) x
found_there locals x before at next l e n is =
    ap (λ m. Some (found_at m l.constant)) n ∙ ap (λ (k : Local). Some (found_at (before + at) k.constant)) is ∙ found_place locals x before at l e

lost_by : (b : Bool) (o : Option ℕ) (f : Found) (later : Option Found) → None ≡ (if b then Some 0 else option_map suc o) → (None ≡ o → None ≡ later) → None ≡ (if b then Some f else later)
lost_by true o f later e more = absurd cc
lost_by false None f later e more = more refl
lost_by false (Some k) f later e more = absurd cc

pub lost : (locals : List Local) (x : List ℕ) (before : ℕ) → None ≡ first_place (texts_of locals) x → None ≡ found_among before (declared locals) x
lost [] x before e = refl
lost (l ∷ ls) x before e =
    lost_by (bytes_eq l.name x) (first_place (texts_of ls) x) (found_at before l.constant) (found_among (suc before) (declared ls) x) e (lost ls x (suc before))

-- ---- among blocks

-- the blocks before this place were looked at: what was found in them, and how many names they have
pub record Finding (blocks : List (List Local)) (from : Names → Option Found) (i : ℕ) (found : Option Place) (many : ℕ) : Type 0 where
  pub names : Names
  pub left : names_onto (drop i blocks) names ≡ names_of blocks
  pub told : place_told found ≡ from names
  pub counts : many ≡ many_names names

module _ (blocks : List (List Local)) (from : Names → Option Found) where
  pub begins : None ≡ from [] → Finding blocks from 0 None 0
  begins e = record { names = []; left = refl; told = e; counts = refl }

  pub looks : (i : ℕ) (b : List Local) (found later : Option Place) (many after : ℕ) → i < length blocks → (f : Finding blocks from i found many) → b ≡ get_or blocks i b → (place_told later ≡ from (declared b ∷ f.names)) → after ≡ many + length b → Finding blocks from (i + 1) later after
  looks i b found later many after h f is e a =
      let k = length-map b declaration in
      let m = f.counts in
      record {
        names = declared b ∷ f.names;
        left = subst (λ bs. names_onto bs f.names ≡ names_of blocks) (drop_more blocks i b h ∙ ap (λ (l : List Local). l ∷ drop (i + 1) blocks) (sym is)) f.left;
        told = e;
        counts = omega (arith, k, m, a);
      }

  pub looked : (i : ℕ) (found : Option Place) (many : ℕ) → length blocks ≤ i → Finding blocks from i found many → place_told found ≡ from (names_of blocks)
  looked i found many h f =
      f.told ∙ ap from (subst (λ bs. names_onto bs f.names ≡ names_of blocks) (drop_of_length-le blocks h) f.left)

  pub counts_all : (i : ℕ) (found : Option Place) (many : ℕ) → length blocks ≤ i → Finding blocks from i found many → many ≡ many_names (names_of blocks)
  counts_all i found many h f =
      f.counts ∙ ap many_names (subst (λ bs. names_onto bs f.names ≡ names_of blocks) (drop_of_length-le blocks h) f.left)

-- in this block, or else in those outside
pub found_more : (name : List ℕ) (ds : List Local) (names : Names) (here found later : Option Place) (many : ℕ) → many ≡ many_names names → place_told found ≡ found_in names name → place_told here ≡ found_among many (declared ds) name → place_told later ≡ option_or (place_told here) (place_told found) → place_told later ≡ found_in (declared ds ∷ names) name
found_more name ds names here found later many m f h e =
    e ∙ (λ i. option_or (h i) (f i)) ∙ ap (λ n. option_or (found_among n (declared ds) name) (found_in names name)) m

pub here_more : (name : List ℕ) (ds : List Local) (names : Names) (here : Option Place) (many : ℕ) → many ≡ many_names names → place_told here ≡ found_among many (declared ds) name → place_told here ≡ found_here (declared ds ∷ names) name
here_more name ds names here many m h = h ∙ ap (λ n. found_among n (declared ds) name) m
