-- Lists of URLs that have the same members, in another order.
use Rattle.std.proofs.Common.{◌≡◌, ◌⊎◌, inl, inr, ℕ, suc, ◌+◌, ◌<◌, Bool, true, false, not, cond, List, [], ◌∷◌, ◌++◌, length, nat_lt, refl, ap, sym, ◌∙◌, arith}
use Rattle.std.specs.Prelude.{◌||◌}
use Rattle.std.specs.List.{list_any}
use Rattle.std.proofs.lemmas.Bool.{lt-ltb, le-ltb}
use Rattle.esm_base.specs.Urls.{Url, has, same_url}
use Rattle.esm_ast.specs.Entries.{place_of}
use Rattle.esm_loads.specs.LoadsView.{url_at}
use Rattle.esm_realm.proofs.Urls.{same_text, own_text, or_true, or_left, or_cases}

-- what stands in the list behind as many places as the first has
abbrev pub past : List Url → List Url → List Url
past [] us = us
past (x ∷ xs) [] = []
past (x ∷ xs) (u ∷ us) = past xs us

pub past_is : (xs new : List Url) → past xs (xs ++ new) ≡ new
past_is [] new = refl
past_is (x ∷ xs) new = past_is xs new

-- ---- a test of members

pub any_in : (f : Url → Bool) (us : List Url) (u : Url) → has us u ≡ true → f u ≡ true → list_any f us ≡ true
any_in f [] u h k = cc
any_in f (x ∷ us) u h k = by (or_cases (same_url u x) (has us u) h) (λ e. any_in f us u e k)
  where
    by : (same_url u x ≡ true) ⊎ (has us u ≡ true) → (has us u ≡ true → list_any f us ≡ true) → (f x || list_any f us) ≡ true
    by (inl e) rest = or_left (f x) (list_any f us) (ap f (sym (same_text u x e)) ∙ k)
    by (inr e) rest = or_true (f x) (list_any f us) (rest e)

record Passing (f : Url → Bool) (us : List Url) : Type 0 where
  url : Url
  listed : has us url ≡ true
  passes : f url ≡ true

any_out : (f : Url → Bool) (us : List Url) → list_any f us ≡ true → Passing f us
any_out f [] h = absurd (let e : false ≡ true = h in cc)
any_out f (x ∷ us) h = by (or_cases (f x) (list_any f us) h) (any_out f us)
  where
    by : (f x ≡ true) ⊎ (list_any f us ≡ true) → (list_any f us ≡ true → Passing f us) → Passing f (x ∷ us)
    by (inl e) rest = record { url = x; listed = or_left (same_url x x) (has us x) (own_text x); passes = e }
    by (inr e) rest = let p = rest e in record { url = p.url; listed = or_true (same_url p.url x) (has us p.url) p.listed; passes = p.passes }

pub both : (a b : Bool) → (a ≡ true → b ≡ true) → (b ≡ true → a ≡ true) → a ≡ b
both true true f g = refl
both false false f g = refl
both true false f g = sym (f refl)
both false true f g = g refl

-- the lists have the same members
abbrev pub Alike : List Url → List Url → Type 0
Alike us vs = (u : Url) → has vs u ≡ has us u

pub same_any : (f : Url → Bool) (us vs : List Url) → Alike us vs → list_any f vs ≡ list_any f us
same_any f us vs alike = both (list_any f vs) (list_any f us) (over vs us (λ u h. sym (alike u) ∙ h)) (over us vs (λ u h. alike u ∙ h))
  where
    over : (us vs : List Url) → ((u : Url) → has us u ≡ true → has vs u ≡ true) → list_any f us ≡ true → list_any f vs ≡ true
    over us vs within h = let p = any_out f us h in any_in f vs p.url (within p.url p.listed) p.passes

-- ---- places

at_place : (us : List Url) (v : Url) → has us v ≡ true → url_at us (place_of us v) ≡ v
at_place [] v h = cc
at_place (x ∷ us) v h = by (same_url v x) refl h (at_place us v)
  where
    by : (b : Bool) → same_url v x ≡ b → (b || has us v) ≡ true → (has us v ≡ true → url_at us (place_of us v) ≡ v) → url_at (x ∷ us) (cond (not b) (1 + place_of us v) 0) ≡ v
    by true e k rest = sym (same_text v x e)
    by false e k rest = let one : 1 + place_of us v ≡ suc (place_of us v) = omega arith in ap (url_at (x ∷ us)) one ∙ rest k

place_less : (us : List Url) (v : Url) → has us v ≡ true → place_of us v < length us
place_less [] v h = absurd (let e : false ≡ true = h in cc)
place_less (x ∷ us) v h = by (same_url v x) h (place_less us v)
  where
    by : (b : Bool) → (b || has us v) ≡ true → (has us v ≡ true → place_of us v < length us) → cond (not b) (1 + place_of us v) 0 < suc (length us)
    by true k rest = omega arith
    by false k rest = let lt = rest k in omega (arith, lt)

place_end : (us : List Url) (v : Url) → has us v ≡ false → place_of us v ≡ length us
place_end [] v h = refl
place_end (x ∷ us) v h = by (same_url v x) h (place_end us v)
  where
    by : (b : Bool) → (b || has us v) ≡ false → (has us v ≡ false → place_of us v ≡ length us) → cond (not b) (1 + place_of us v) 0 ≡ suc (length us)
    by true k rest = cc
    by false k rest = let e = rest k in omega (arith, e)

at_end : (us : List Url) → url_at us (length us) ≡ []
at_end [] = refl
at_end (x ∷ us) = at_end us

module _ (us vs : List Url) (alike : Alike us vs) (long : length vs ≡ length us) where
  abbrev pub number_by : Bool → ℕ → ℕ
  number_by true n = place_of vs (url_at us n)
  number_by false n = n

  -- the place in the one list of what stands at this place in the other
  abbrev pub number : ℕ → ℕ
  number n = number_by (nat_lt n (length us)) n

  pub number_is : (v : Url) → number (place_of us v) ≡ place_of vs v
  number_is v = by (has us v) refl
    where
      by : (b : Bool) → has us v ≡ b → number (place_of us v) ≡ place_of vs v
      by true h = ap (λ b. number_by b (place_of us v)) (lt-ltb (place_of us v) (length us) (place_less us v h)) ∙ ap (place_of vs) (at_place us v h)
      by false h =
          let e = place_end us v h in
          ap (λ b. number_by b (place_of us v)) (le-ltb (place_of us v) (length us) (omega (arith, e)))
          ∙ e ∙ sym long ∙ sym (place_end vs v (alike v ∙ h))

  pub url_is : (v : Url) → url_at vs (place_of vs v) ≡ url_at us (place_of us v)
  url_is v = by (has us v) refl
    where
      by : (b : Bool) → has us v ≡ b → url_at vs (place_of vs v) ≡ url_at us (place_of us v)
      by true h = at_place vs v (alike v ∙ h) ∙ sym (at_place us v h)
      by false h =
          ap (url_at vs) (place_end vs v (alike v ∙ h)) ∙ at_end vs
          ∙ sym (ap (url_at us) (place_end us v h) ∙ at_end us)

  pub apart : (v w : Url) → place_of vs v ≡ place_of vs w → place_of us v ≡ place_of us w
  apart v w e = by (has us v) refl (has us w) refl
    where
      by : (b : Bool) → has us v ≡ b → (c : Bool) → has us w ≡ c → place_of us v ≡ place_of us w
      by true h true k = ap (place_of us) (sym (at_place vs v (alike v ∙ h)) ∙ ap (url_at vs) e ∙ at_place vs w (alike w ∙ k))
      by true h false k = let a = place_less vs v (alike v ∙ h) in let b = place_end vs w (alike w ∙ k) in absurd (omega (arith, a, b, e))
      by false h true k = let a = place_less vs w (alike w ∙ k) in let b = place_end vs v (alike v ∙ h) in absurd (omega (arith, a, b, e))
      by false h false k = place_end us v h ∙ sym (place_end us w k)
