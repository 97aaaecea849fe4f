-- The marks of a walk are of linked modules, and each Pass has its target.
use Rattle.std.proofs.Common.{◌≡◌, ℕ, zero, suc, ◌+◌, Bool, true, List, [], ◌∷◌, ◌++◌, Some, ap, subst, arith}
use Rattle.std.specs.Prelude.{slice_get}
use Rattle.esm_realm.specs.Walk.{Mark, Visits, Passes}
use Rattle.esm_base.specs.Lists.{is_in}
use Rattle.esm_realm.specs.Walk.Mark.{Enter, Pass, Leave}
use Rattle.esm_realm.specs.Walk.Visits.{known, fresh}
use Rattle.esm_realm.specs.Walk.Passes.{all, next}
use Rattle.esm_realm.proofs.Lists.{in_first, in_later}

module _ {N : Type 0} (same : N → N → Bool) (own : (x : N) → same x x ≡ true) (equal : (x y : N) → same x y ≡ true → x ≡ y)
    (to : N → List N) (IsModule : N → Type 0) (inside : (x t : N) → IsModule x → is_in same (to x) t ≡ true → IsModule t) where
  abbrev pub AreMarked : List (Mark N) → Type 0
  AreMarked [] = Unit {0}
  AreMarked (Enter x ∷ ms) = IsModule x × AreMarked ms
  AreMarked (Pass x i ∷ ms) = IsModule x × ((t : N) × (slice_get (to x) i ≡ Some t) × IsModule t) × AreMarked ms
  AreMarked (Leave x ∷ ms) = IsModule x × AreMarked ms

  marked_on : (a b : List (Mark N)) → AreMarked a → AreMarked b → AreMarked (a ++ b)
  marked_on [] b h k = k
  marked_on (Enter x ∷ a) b h k = (h.0, marked_on a b h.1 k)
  marked_on (Pass x i ∷ a) b h k = (h.0, h.1, marked_on a b h.2 k)
  marked_on (Leave x ∷ a) b h k = (h.0, marked_on a b h.1 k)

  -- these are the targets of x from the i-th on
  abbrev From : N → ℕ → List N → Type 0
  From x i ts = (k : ℕ) → slice_get (to x) (i + k) ≡ slice_get ts k

  later : (x : N) (i : ℕ) (t : N) (ts : List N) → From x i (t ∷ ts) → From x (suc i) ts
  later x i t ts f k = let e : i + suc k ≡ suc i + k = omega arith in subst (λ n. slice_get (to x) n ≡ slice_get ts k) e (f (suc k))

  whole : (x : N) → From x 0 (to x)
  whole x k = let e : 0 + k ≡ k = omega arith in ap (λ n. slice_get (to x) n) e

  first_is : (x : N) (i : ℕ) (t : N) (ts : List N) → From x i (t ∷ ts) → slice_get (to x) i ≡ Some t
  first_is x i t ts f = let e : i + zero ≡ i = omega arith in subst (λ n. slice_get (to x) n ≡ Some t) e (f zero)

  mutual
    pub visits_marked : {seen after : List N} {x : N} {marks : List (Mark N)} → Visits same to seen x marks after → IsModule x → AreMarked marks
    visits_marked (known h) m = tt
    visits_marked (fresh {x = x} {marks = marks} n p) m =
        (m, marked_on marks (Leave x ∷ []) (passes_marked p m (λ t h. h) (whole x)) (m, tt))

    passes_marked : {seen after : List N} {x : N} {i : ℕ} {ts : List N} {marks : List (Mark N)} → Passes same to seen x i ts marks after
        → IsModule x → ((t : N) → is_in same ts t ≡ true → is_in same (to x) t ≡ true) → From x i ts → AreMarked marks
    passes_marked all m within f = tt
    passes_marked (next {x = x} {t = t} {i = i} {ts = ts} {first = first} {marks = marks} v p) m within f =
        let k = inside x t m (within t (in_first same own equal t ts)) in
        marked_on first (Pass x i ∷ marks) (visits_marked v k)
        (m, (t, first_is x i t ts f, k), passes_marked p m (λ u h. within u (in_later same own equal t ts u h)) (later x i t ts f))
