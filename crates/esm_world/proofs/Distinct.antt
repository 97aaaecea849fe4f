-- Lists that grow by what they don't have, and so have nothing twice.
use Rattle.std.proofs.Common.{◌≡◌, false, List, [], ◌∷◌, ◌++◌, subst, sym}
use Rattle.esm_base.specs.Urls.{Url, has}
use Rattle.esm_realm.specs.Laws.{AreDistinct}
use Rattle.esm_realm.proofs.Sounds.{distinct_push}

pub data Adds : List Url → List Url → Type 0 where
  same : {us : List Url} → Adds us us
  add : {us vs : List Url} (u : Url) → has us u ≡ false → Adds (us ++ u ∷ []) vs → Adds us vs

pub adds_on : {us vs ws : List Url} → Adds us vs → Adds vs ws → Adds us ws
adds_on same q = q
adds_on (add u h p) q = add u h (adds_on p q)

pub adds_same : {us vs : List Url} → vs ≡ us → Adds us vs
adds_same {us} e = subst (λ vs. Adds us vs) (sym e) same

pub adds_distinct : {us vs : List Url} → Adds us vs → AreDistinct us → AreDistinct vs
adds_distinct same d = d
adds_distinct (add {us = us} u h p) d = adds_distinct p (distinct_push us u d h)
