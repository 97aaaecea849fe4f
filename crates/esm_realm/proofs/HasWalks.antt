-- Each finite graph has walks, whatever its modules are named by.
use Rattle.std.proofs.Common.{◌≡◌, ℕ, suc, zero, ◌+◌, ◌≤◌, ◌<◌, Bool, true, false, List, [], ◌∷◌, ◌++◌, refl, subst, sym, arith}
use Rattle.std.specs.Prelude.{◌||◌, cond}
use Rattle.esm_realm.specs.Walk.{Mark, Visits, Passes}
use Rattle.esm_base.specs.Lists.{is_in}
use Rattle.esm_realm.specs.Walk.Mark.{Enter, Pass, Leave}
use Rattle.esm_realm.specs.Walk.Visits.{known, fresh}
use Rattle.esm_realm.specs.Walk.Passes.{all, next}
use Rattle.esm_realm.proofs.Lists.{either, in_first, in_later, in_cons}

module _ {N : Type 0} (same : N → N → Bool) where
  -- how many of the modules were not entered
  abbrev pub left : List N → List N → ℕ
  left [] seen = 0
  left (m ∷ ms) seen = cond (is_in same seen m) 0 1 + left ms seen

fewer : (a b : Bool) (m n : ℕ) → m ≤ n → cond (a || b) 0 1 + m ≤ cond b 0 1 + n
fewer true true m n h = omega arith
fewer true false m n h = omega arith
fewer false b m n h = omega arith

fewer_less : (a b : Bool) (m n : ℕ) → m < n → cond (a || b) 0 1 + m < cond b 0 1 + n
fewer_less true true m n h = omega arith
fewer_less true false m n h = omega arith
fewer_less false b m n h = omega arith

one_less : (a b : Bool) (m n : ℕ) → a ≡ true → b ≡ false → m ≤ n → cond (a || b) 0 1 + m < cond b 0 1 + n
one_less true false m n h k le = omega arith
one_less true true m n h k le = cc
one_less false b m n h k le = cc

module _ {N : Type 0} (same : N → N → Bool) (own : (x : N) → same x x ≡ true) (equal : (x y : N) → same x y ≡ true → x ≡ y) where
  -- once more is entered, no more is left
  pub left_more : (modules seen : List N) (x : N) → left same modules (x ∷ seen) ≤ left same modules seen
  left_more [] seen x = omega arith
  left_more (m ∷ ms) seen x = fewer (same m x) (is_in same seen m) _ _ (left_more ms seen x)

  pub left_less : (modules seen : List N) (x : N) → is_in same modules x ≡ true → is_in same seen x ≡ false
      → left same modules (x ∷ seen) < left same modules seen
  left_less [] seen x h n = cc
  left_less (m ∷ ms) seen x h n = either (in_cons same own equal m ms x h)
      (λ e. one_less (same m x) (is_in same seen m) _ _ (subst (λ y. same m y ≡ true) (sym e) (own m)) (subst (λ y. is_in same seen y ≡ false) e n) (left_more ms seen x))
      (λ k. fewer_less (same m x) (is_in same seen m) _ _ (left_less ms seen x k n))

  Walked : (N → List N) → List N → List N → N → Type 0
  Walked to modules seen x = (marks : List (Mark N)) × (after : List N) × Visits same to seen x marks after × (left same modules after ≤ left same modules seen)

  Passed : (N → List N) → List N → List N → N → ℕ → List N → Type 0
  Passed to modules seen x i ts = (marks : List (Mark N)) × (after : List N) × Passes same to seen x i ts marks after × (left same modules after ≤ left same modules seen)

  -- the modules that are told, with each the targets, are among a finite list
  module _ (to : N → List N) (modules : List N) (inside : N → Type 0) (closed : (u t : N) → inside u → is_in same (to u) t ≡ true → inside t) (among : (u : N) → inside u → is_in same modules u ≡ true) where
    Walk_of : ℕ → Type 0
    Walk_of k = (seen : List N) (x : N) → inside x → left same modules seen ≤ k → Walked to modules seen x

    passed : (k : ℕ) → Walk_of k → (x : N) (ts : List N) → ((t : N) → is_in same ts t ≡ true → inside t) → (seen : List N) (i : ℕ) → left same modules seen ≤ k → Passed to modules seen x i ts
    unfolding Walk_of Walked Passed
    passed k walk x [] within seen i le = ([], seen, all, omega arith)
    passed k walk x (t ∷ ts) within seen i le =
        let v = walk seen t (within t (in_first same own equal t ts)) le in
        let p = passed k walk x ts (λ u h. within u (in_later same own equal t ts u h)) v.1 (suc i) (omega arith) in
        (v.0 ++ Pass x i ∷ p.0, p.1, next v.2 p.2, omega arith)

    walked : (k : ℕ) → Walk_of k
    unfolding Walk_of Walked Passed
    walked zero seen x h le = by (is_in same seen x) refl
      where
        by : (b : Bool) → is_in same seen x ≡ b → Walked to modules seen x
        by true e = ([], seen, known e, omega arith)
        by false e = let lt = left_less modules seen x (among x h) e in absurd (omega arith)
    walked (suc k) seen x h le = by (is_in same seen x) refl (walked k)
      where
        by : (b : Bool) → is_in same seen x ≡ b → Walk_of k → Walked to modules seen x
        by true e walk = ([], seen, known e, omega arith)
        by false e walk =
            let lt = left_less modules seen x (among x h) e in
            let p = passed k walk x (to x) (λ t. closed x t h) (x ∷ seen) 0 (omega arith) in
            (Enter x ∷ (p.0 ++ Leave x ∷ []), p.1, fresh e p.2, omega arith)

    pub walks_inside : (seen : List N) (x : N) → inside x → (marks : List (Mark N)) × (after : List N) × Visits same to seen x marks after
    unfolding Walk_of Walked
    walks_inside seen x h = let w = walked (left same modules seen) seen x h (omega arith) in (w.0, w.1, w.2)
