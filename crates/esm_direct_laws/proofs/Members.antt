-- The URLs of a list as names of their own.
use Rattle.std.proofs.Common.{◌≡◌, Bool, true, false, List, [], ◌∷◌, Option, Some, None, refl, ap, subst, sym, ◌∙◌}
use Rattle.std.specs.Prelude.{◌||◌}
use Rattle.std.specs.Option.{unwrap_or}
use mathlib.Core.Bool.{Bool-set}
use Rattle.esm_base.specs.Lists.{IsSameness, is_in}
use Rattle.esm_base.specs.Urls.{Url, has, same_url}
use Rattle.esm_realm.proofs.Urls.{own_text, same_text, not_both, has_own, or_true}
use Rattle.esm_values.specs.Naming.{Naming}

some_of : {A : Type 0} {a b : A} → ◌≡◌ {A = Option A} (Some a) (Some b) → a ≡ b
some_of e = cc

pub record Member (xs : List Url) : Type 0 where
  pub url : Url
  pub listed : has xs url ≡ true

abbrev pub member : {xs : List Url} (u : Url) → has xs u ≡ true → Member xs
member u e = record { url = u; listed = e }

-- members with the same URL are the same
pub member_same : {xs : List Url} (x y : Member xs) → x.url ≡ y.url → x ≡ y
member_same {xs} x y e = subst (λ u. (p : has xs u ≡ true) → x ≡ member u p) e (λ p. λ i. member x.url (Bool-set (has xs x.url) true x.listed p i)) y.listed

module _ (xs : List Url) where
  abbrev pub member_by : (u : Url) (b : Bool) → has xs u ≡ b → Option (Member xs)
  member_by u true e = Some (member u e)
  member_by u false e = None

  abbrev pub member_of : Url → Option (Member xs)
  member_of u = member_by u (has xs u) refl

  back_by : (m : Member xs) (b : Bool) (e : has xs m.url ≡ b) → member_by m.url b e ≡ Some m
  back_by m true e = ap Some (member_same (member m.url e) m refl)
  back_by m false e = absurd (not_both (has xs m.url) m.listed e)

  pub back : (m : Member xs) → member_of m.url ≡ Some m
  back m = back_by m (has xs m.url) refl

  only_by : (u : Url) (m : Member xs) (b : Bool) (e : has xs u ≡ b) → member_by u b e ≡ Some m → m.url ≡ u
  only_by u m true e k = sym (ap (λ (x : Member xs). x.url) (some_of k))
  only_by u m false e k = cc

  pub only : (u : Url) (m : Member xs) → member_of u ≡ Some m → m.url ≡ u
  only u m k = only_by u m (has xs u) refl k

  abbrev pub names : Naming (Member xs) Url
  names = record { name = λ m. m.url; of = member_of; back = back; only = only }

  abbrev pub same_member : Member xs → Member xs → Bool
  same_member x y = same_url x.url y.url

  pub members_apart : IsSameness same_member
  members_apart = record { own = λ x. own_text x.url; equal = λ x y e. member_same x y (same_text x.url y.url e) }

  -- the member with this URL, or another
  abbrev pub member_or : Member xs → Url → Member xs
  member_or d u = unwrap_or (member_of u) d

  pub member_at : (d : Member xs) (u : Url) → has xs u ≡ true → (member_or d u).url ≡ u
  member_at d u e = ap (λ o. (unwrap_or o d).url) (back (member u e))

-- each URL of the list is among these
abbrev pub every_of : (all xs : List Url) → ((u : Url) → has xs u ≡ true → has all u ≡ true) → List (Member all)
every_of all [] h = []
every_of all (x ∷ xs) h = member x (h x (has_own x xs)) ∷ every_of all xs (λ u e. h u (or_true (same_url u x) (has xs u) e))

every_has : (all xs : List Url) (h : (u : Url) → has xs u ≡ true → has all u ≡ true) (m : Member all) → is_in (same_member all) (every_of all xs h) m ≡ has xs m.url
every_has all [] h m = refl
every_has all (x ∷ xs) h m = ap (λ b. same_url m.url x || b) (every_has all xs (λ u e. h u (or_true (same_url u x) (has xs u) e)) m)

abbrev pub every : (xs : List Url) → List (Member xs)
every xs = every_of xs xs (λ u e. e)

pub every_is : (xs : List Url) (m : Member xs) → is_in (same_member xs) (every xs) m ≡ true
every_is xs m = every_has xs xs (λ u e. e) m ∙ m.listed
