-- Places in a list of URLs that has grown.
use Rattle.std.proofs.Common.{◌≡◌, ℕ, zero, suc, ◌+◌, ◌<◌, Bool, true, false, cond, List, [], ◌∷◌, ◌++◌, refl, ap, arith, length}
use Rattle.std.specs.Prelude.{not, bytes_eq}
use Rattle.esm_base.specs.Urls.{Url}
use Rattle.esm_ast.specs.Entries.{place_of}
use Rattle.esm_loads.specs.LoadsView.{url_at}

pub url_stays : (us more : List Url) (n : ℕ) → n < length us → url_at (us ++ more) n ≡ url_at us n
url_stays [] more n h = absurd (omega (arith, h))
url_stays (u ∷ us) more zero h = refl
url_stays (u ∷ us) more (suc n) h = url_stays us more n (omega (arith, h))

pub place_stays : (us more : List Url) (u : Url) → place_of us u < length us → place_of (us ++ more) u ≡ place_of us u
place_stays [] more u h = absurd (omega (arith, h))
place_stays (v ∷ us) more u h = by (bytes_eq u v) h (place_stays us more u)
  where
    by : (b : Bool) → cond (not b) (1 + place_of us u) 0 < suc (length us) →
        (place_of us u < length us → place_of (us ++ more) u ≡ place_of us u)
        → cond (not b) (1 + place_of (us ++ more) u) 0 ≡ cond (not b) (1 + place_of us u) 0
    by true h later = refl
    by false h later = ap (λ n. 1 + n) (later (omega (arith, h)))
