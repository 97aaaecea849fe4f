-- The marks of a walk enter what wasn't entered, and pass and leave what was.
use Rattle.std.proofs.Common.{◌≡◌, ℕ, Bool, true, false, List, [], ◌∷◌, ◌++◌, subst, sym, append_assoc}
use Rattle.esm_realm.specs.Walk.{Mark, Visits, Passes}
use Rattle.esm_base.specs.Lists.{is_in}
use Rattle.esm_realm.specs.Walk.Mark.{Enter, Pass, Leave}
use Rattle.esm_realm.specs.Walk.Visits.{known, fresh}
use Rattle.esm_realm.specs.Walk.Passes.{all, next}
use Rattle.esm_realm.proofs.Lists.{in_first, in_later}

module _ {N : Type 0} (same : N → N → Bool) (own : (x : N) → same x x ≡ true) (equal : (x y : N) → same x y ≡ true → x ≡ y) (to : N → List N) where
  abbrev pub Fits : List N → List (Mark N) → Type 0
  Fits seen [] = Unit {0}
  Fits seen (Enter x ∷ ms) = (is_in same seen x ≡ false) × Fits (x ∷ seen) ms
  Fits seen (Pass x i ∷ ms) = (is_in same seen x ≡ true) × Fits seen ms
  Fits seen (Leave x ∷ ms) = (is_in same seen x ≡ true) × Fits seen ms

  mutual
    pub visits_grow : {seen seen' : List N} {x : N} {marks : List (Mark N)} → Visits same to seen x marks seen' → (y : N) → is_in same seen y ≡ true → is_in same seen' y ≡ true
    visits_grow (known h) y k = k
    visits_grow (fresh {seen = seen} {x = x} n p) y k = passes_grow p y (in_later same own equal x seen y k)

    pub passes_grow : {seen seen' : List N} {x : N} {i : ℕ} {ts : List N} {marks : List (Mark N)} → Passes same to seen x i ts marks seen' → (y : N) → is_in same seen y ≡ true → is_in same seen' y ≡ true
    passes_grow all y k = k
    passes_grow (next v p) y k = passes_grow p y (visits_grow v y k)

  mutual
    visits_fit : {seen seen' : List N} {x : N} {marks : List (Mark N)} → Visits same to seen x marks seen' → (ms : List (Mark N)) → Fits seen' ms → Fits seen (marks ++ ms)
    visits_fit (known h) ms f = f
    visits_fit (fresh {seen = seen} {x = x} {marks = marks} n p) ms f =
        let here = in_first same own equal x seen in
        (n, subst (λ ns. Fits (x ∷ seen) ns) (sym (append_assoc marks (Leave x ∷ []) ms)) (passes_fit p here (Leave x ∷ ms) (passes_grow p x here, f)))

    passes_fit : {seen seen' : List N} {x : N} {i : ℕ} {ts : List N} {marks : List (Mark N)} → Passes same to seen x i ts marks seen' → is_in same seen x ≡ true → (ms : List (Mark N)) → Fits seen' ms → Fits seen (marks ++ ms)
    passes_fit all h ms f = f
    passes_fit (next {seen = seen} {x = x} {i = i} {first = first} {marks = marks} v p) h ms f =
        let here = visits_grow v x h in
        subst (λ ns. Fits seen ns) (sym (append_assoc first (Pass x i ∷ marks) ms)) (visits_fit v (Pass x i ∷ (marks ++ ms)) (here, passes_fit p here ms f))

  pub walk_fits : {seen seen' : List N} {x : N} {marks : List (Mark N)} → Visits same to seen x marks seen' → Fits seen (marks ++ [])
  walk_fits v = visits_fit v [] tt
