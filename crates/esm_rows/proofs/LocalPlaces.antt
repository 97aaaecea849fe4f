-- The first place of a name of a block stands among its names.
use Rattle.std.proofs.Common.{◌≡◌, ℕ, suc, ◌<◌, Bool, true, false, List, [], ◌∷◌, length, refl, arith}
use Rattle.std.specs.Prelude.{Option, Some, None, option_map, if◌then◌else◌}
use Rattle.std.specs.Str.{bytes_eq}
use Rattle.esm_env.specs.NamePlaces.{first_place}
use Rattle.esm_rows.specs.LocalPlaces.{texts_of}
use Rattle.esm_rows.specs.declared.names.Local.{Local}

within_by : (b : Bool) (o : Option ℕ) (many at : ℕ) → Some at ≡ (if b then Some 0 else option_map suc o) → ((k : ℕ) → Some k ≡ o → k < many) → at < suc many
within_by true o many at e more = let z : at ≡ 0 = cc in omega (arith, z)
within_by false None many at e more = absurd cc
within_by false (Some k) many at e more =
    let s : at ≡ suc k = cc in
    let h = more k refl in
    omega (arith, s, h)

pub place_within : (locals : List Local) (x : List ℕ) (at : ℕ) → Some at ≡ first_place (texts_of locals) x → at < length locals
place_within [] x at e = absurd cc
place_within (l ∷ ls) x at e = within_by (bytes_eq l.name x) (first_place (texts_of ls) x) (length ls) at e (place_within ls x)
