-- Lemmas on places of URLs.
use mathlib.Core.Bool.{true≢false}
use Rattle.std.proofs.Common.{◌≡◌, ℕ, suc, zero, ◌<◌, Bool, true, false, cond, List, [], ◌∷◌, ◌++◌, length, Option, Some, None, refl, ap, subst, sym, ◌∙◌, arith}
use Rattle.std.specs.Prelude.{◌||◌, slice_get, option_map}
use Rattle.esm_base.specs.Urls.{Url, has, same_url}
use Rattle.esm_realm.specs.Laws.{AreDistinct}
use Rattle.esm_realm.proofs.Urls.{same_text, own_text, or_true, or_left, both_false, not_both}
use Rattle.esm_loads.specs.LoadsView.{place_in, place_by}

pub same_sym : (u v : Url) → same_url u v ≡ same_url v u
same_sym u v = by (same_url u v) refl (same_url v u) refl
  where
    turn : (u v : Url) → same_url u v ≡ true → same_url v u ≡ true
    turn u v e = subst (λ w. same_url w u ≡ true) (same_text u v e) (own_text u)

    by : (b : Bool) → same_url u v ≡ b → (c : Bool) → same_url v u ≡ c → b ≡ c
    by true e true f = refl
    by false e false f = refl
    by true e false f = absurd (true≢false (sym (turn u v e) ∙ f))
    by false e true f = absurd (true≢false (sym (turn v u f) ∙ e))

pub none_map : (o : Option ℕ) → option_map suc o ≡ None → o ≡ None
none_map None e = refl
none_map (Some k) e = cc

-- a URL without a place isn't there
pub place_none : (us : List Url) (u : Url) → place_in us u ≡ None → has us u ≡ false
place_none [] u e = refl
place_none (v ∷ vs) u e = by (same_url u v) refl e (place_none vs u)
  where
    by : (b : Bool) → same_url u v ≡ b → place_by b (place_in vs u) ≡ None → (place_in vs u ≡ None → has vs u ≡ false) → (same_url u v || has vs u) ≡ false
    by true g f r = cc
    by false g f r = both_false (same_url u v) (has vs u) g (r (none_map _ f))

-- a place has its URL
pub record IsPlaced (us : List Url) (k : ℕ) (u : Url) : Type 0 where
  pub within : k < length us
  pub at : slice_get us k ≡ Some u

pub some_map : (o : Option ℕ) (k : ℕ) → option_map suc o ≡ Some k → (j : ℕ) × (o ≡ Some j) × (k ≡ suc j)
some_map None k e = cc
some_map (Some j) k e = (j, refl, sym (some_same e))
  where
    some_same : Some (suc j) ≡ Some k → suc j ≡ k
    some_same e = cc

pub place_some : (us : List Url) (u : Url) (k : ℕ) → place_in us u ≡ Some k → IsPlaced us k u
place_some [] u k e = cc
place_some (v ∷ vs) u k e = by (same_url u v) refl e (place_some vs u)
  where
    by : (b : Bool) → same_url u v ≡ b → place_by b (place_in vs u) ≡ Some k → ((j : ℕ) → place_in vs u ≡ Some j → IsPlaced vs j u) → IsPlaced (v ∷ vs) k u
    by true g f r = let z : k ≡ 0 = cc in subst (λ k. IsPlaced (v ∷ vs) k u) (sym z) (record { within = omega arith; at = ap (λ v. Some v) (sym (same_text u v g)) })
    by false g f r =
        let m = some_map (place_in vs u) k f in
        let p = r m.0 m.1 in
        let w : m.0 < length vs = p.within in
        subst (λ k. IsPlaced (v ∷ vs) k u) (sym m.2) (record { within = omega arith; at = p.at })

-- one more URL has the place behind all others
pub place_push : (us : List Url) (u q : Url) → place_in us u ≡ None → place_in (us ++ u ∷ []) q ≡ cond (same_url q u) (Some (length us)) (place_in us q)
place_push [] u q e = by (same_url q u)
  where
    by : (b : Bool) → place_by b None ≡ cond b (Some 0) None
    by true = refl
    by false = refl
place_push (v ∷ vs) u q e = by (same_url u v) refl e (same_url q v) refl (same_url q u) refl (place_push vs u q)
  where
    shift : (b : Bool) (n : ℕ) (o : Option ℕ) → option_map suc (cond b (Some n) o) ≡ cond b (Some (suc n)) (option_map suc o)
    shift true n o = refl
    shift false n o = refl

    by : (b : Bool) → same_url u v ≡ b → place_by b (place_in vs u) ≡ None → (c : Bool) → same_url q v ≡ c → (d : Bool) → same_url q u ≡ d
        → (place_in vs u ≡ None → place_in (vs ++ u ∷ []) q ≡ cond (same_url q u) (Some (length vs)) (place_in vs q))
        → place_by c (place_in (vs ++ u ∷ []) q) ≡ cond d (Some (length (v ∷ vs))) (place_by c (place_in vs q))
    by true g f c h d k r = cc
    by false g f true h true k r = absurd (true≢false (sym (subst (λ x. same_url x v ≡ true) (same_text q u k) h) ∙ g))
    by false g f true h false k r = refl
    by false g f false h d k r = ap (option_map suc) (r (none_map _ f) ∙ ap (λ b. cond b (Some (length vs)) (place_in vs q)) k) ∙ (shift d (length vs) (place_in vs q) ∙ ap (λ n. cond d (Some n) (option_map suc (place_in vs q))) (len vs))
      where
        len : (vs : List Url) → suc (length vs) ≡ length (v ∷ vs)
        len vs = omega arith

pub listed : (vs : List Url) (k : ℕ) (u : Url) → slice_get vs k ≡ Some u → has vs u ≡ true
listed [] k u e = cc
listed (w ∷ ws) zero u e = let same : w ≡ u = cc in or_left (same_url u w) (has ws u) (subst (λ w. same_url u w ≡ true) (sym same) (own_text u))
listed (w ∷ ws) (suc k) u e = or_true (same_url u w) (has ws u) (listed ws k u e)

-- where no URL stands twice, the place of the URL at a place is that place
pub place_at : (us : List Url) (k : ℕ) (u : Url) → AreDistinct us → slice_get us k ≡ Some u → place_in us u ≡ Some k
place_at [] k u d e = cc
place_at (v ∷ vs) zero u d e = let same : v ≡ u = cc in subst (λ u. place_in (v ∷ vs) u ≡ Some 0) same (ap (λ b. place_by b (place_in vs v)) (own_text v))
place_at (v ∷ vs) (suc k) u d e = by (same_url u v) refl (place_at vs k u d.1 e)
  where
    by : (b : Bool) → same_url u v ≡ b → place_in vs u ≡ Some k → place_by b (place_in vs u) ≡ Some (suc k)
    by true g r = absurd (not_both (has vs u) (listed vs k u e) (subst (λ x. has vs x ≡ false) (sym (same_text u v g)) d.0))
    by false g r = ap (option_map suc) r
