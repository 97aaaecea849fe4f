-- Where a list has the closure, there is the closure as a list: the entry, and a missing target at a time, until none is missing.
use mathlib.Core.Bool.{true≢false}
use Rattle.std.proofs.Common.{◌≡◌, ℕ, zero, suc, ◌≤◌, ◌<◌, Bool, true, false, List, [], ◌∷◌, refl, subst, sym, inl, inr, arith}
use Rattle.std.specs.Prelude.{◌⊎◌, not}
use Rattle.std.specs.List.{list_any}
use Rattle.esm_base.specs.Urls.{Url, has, same_url}
use Rattle.esm_tree.specs.Syntax.{Item}
use Rattle.esm_import_map.specs.ImportMap.{Maps}
use Rattle.esm_ast.specs.Deliveries.{Files}
use Rattle.esm_realm.specs.Laws.{AreDistinct}
use Rattle.esm_realm.proofs.HasWalks.{left, left_less}
use Rattle.esm_realm.proofs.Lists.{any_found, none_found}
use Rattle.esm_realm.proofs.Urls.{cases, own_text, same_text, has_own, or_cases, or_true}
use Rattle.esm_loads.specs.UrlTable.{targets_in}
use Rattle.esm_world.specs.Direct.{Closure, itself, requested, AreClosure, file_entries}
use Rattle.esm_direct_laws.specs.Closures.{HasClosure}

not_is : (b : Bool) → not b ≡ true → b ≡ false
not_is true e = absurd (true≢false (sym e))
not_is false e = refl

is_not : (b : Bool) → not b ≡ false → b ≡ true
is_not true e = refl
is_not false e = absurd (true≢false e)

module _ (maps : Maps) (built : List Item → Bool) (files : Files) (entry : Url) where
  abbrev C : Url → Type 0
  C u = Closure maps built files entry u

  abbrev to : Url → List Url
  to u = targets_in (file_entries maps built files u)

  -- a part of the closure, which has the entry
  record Part (xs : List Url) : Type 0 where
    pub inside : (u : Url) → has xs u ≡ true → Closure maps built files entry u
    pub first : has xs entry ≡ true
    pub once : AreDistinct xs

  -- a URL that the part lacks
  record Lacks (xs : List Url) : Type 0 where
    pub url : Url
    pub new : has xs url ≡ false
    pub inside : Closure maps built files entry url

  abbrev misses : List Url → Url → Bool
  misses xs u = list_any (λ t. not (has xs t)) (to u)

  alone : Part (entry ∷ [])
  alone = record { inside = λ u h. by u (or_cases (same_url u entry) false h); first = has_own entry []; once = (refl, tt) }
    where
      by : (u : Url) → (same_url u entry ≡ true) ⊎ (false ≡ true) → C u
      by u (inl e) = subst (Closure maps built files entry) (sym (same_text u entry e)) itself
      by u (inr e) = absurd (true≢false (sym e))

  added : (xs : List Url) → Part xs → (m : Lacks xs) → Part (m.url ∷ xs)
  added xs p m = record { inside = λ u h. by u (or_cases (same_url u m.url) (has xs u) h); first = or_true (same_url entry m.url) (has xs entry) p.first; once = (m.new, p.once) }
    where
      by : (u : Url) → (same_url u m.url ≡ true) ⊎ (has xs u ≡ true) → C u
      by u (inl e) = subst (Closure maps built files entry) (sym (same_text u m.url e)) m.inside
      by u (inr h) = p.inside u h

  lacks : (xs : List Url) → Part xs → list_any (misses xs) xs ≡ true → Lacks xs
  lacks xs p e =
      let r = any_found same_url own_text same_text (misses xs) xs e in
      let s = any_found same_url own_text same_text (λ t. not (has xs t)) (to r.0) r.2 in
      record { url = s.0; new = not_is (has xs s.0) s.2; inside = requested (p.inside r.0 r.1) s.1 }

  -- a part that lacks nothing is the closure
  whole : (xs : List Url) → Part xs → list_any (misses xs) xs ≡ false → AreClosure maps built files entry xs
  whole xs p none = record { each = each; only = p.inside; once = p.once }
    where
      target : (u t : Url) → has xs u ≡ true → has (to u) t ≡ true → has xs t ≡ true
      target u t h k = is_not (has xs t) (none_found same_url own_text same_text (λ s. not (has xs s)) (to u) (none_found same_url own_text same_text (misses xs) xs none u h) t k)

      each : (u : Url) → Closure maps built files entry u → has xs u ≡ true
      each u itself = p.first
      each t (requested {u = u} c k) = target u t (each u c) k

  abbrev Exact : Type 0
  Exact = (exact : List Url) × AreClosure maps built files entry exact

  module _ (modules : List Url) (among : (u : Url) → Closure maps built files entry u → has modules u ≡ true) where
    fewer : (xs : List Url) (m : Lacks xs) → left same_url modules (m.url ∷ xs) < left same_url modules xs
    fewer xs m = left_less same_url own_text same_text modules xs m.url (among m.url m.inside) m.new

    grow : (k : ℕ) (xs : List Url) → Part xs → left same_url modules xs ≤ k → Exact
    grow zero xs p le = by (cases (list_any (misses xs) xs))
      where
        by : (list_any (misses xs) xs ≡ true) ⊎ (list_any (misses xs) xs ≡ false) → Exact
        by (inl e) = let lt = fewer xs (lacks xs p e) in absurd (omega (arith, lt, le))
        by (inr e) = (xs, whole xs p e)
    grow (suc k) xs p le = by (cases (list_any (misses xs) xs)) (grow k)
      where
        by : (list_any (misses xs) xs ≡ true) ⊎ (list_any (misses xs) xs ≡ false) → ((ys : List Url) → Part ys → left same_url modules ys ≤ k → Exact) → Exact
        by (inl e) rest =
            let m = lacks xs p e in
            let lt = fewer xs m in
            rest (m.url ∷ xs) (added xs p m) (omega (arith, lt, le))
        by (inr e) rest = (xs, whole xs p e)

pub has_closure : HasClosure
has_closure maps built files entry modules among = grow maps built files entry modules among (left same_url modules (entry ∷ [])) (entry ∷ []) (alone maps built files entry) (omega arith)
