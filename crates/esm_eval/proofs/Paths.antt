-- A walk leaves the module that it entered last and hasn't left.
use Rattle.std.proofs.Common.{◌≡◌, ℕ, Bool, true, false, List, [], ◌∷◌, ◌++◌, refl, subst, sym, append_assoc}
use Rattle.esm_realm.specs.Walk.{Mark, Visits, Passes}
use Rattle.esm_base.specs.Lists.{is_in}
use Rattle.esm_realm.specs.Walk.Mark.{Enter, Pass, Leave}
use Rattle.esm_realm.specs.Walk.Visits.{known, fresh}
use Rattle.esm_realm.specs.Walk.Passes.{all, next}
use Rattle.esm_realm.proofs.Urls.{not_true, not_both}
use Rattle.esm_realm.proofs.Lists.{either, in_first, in_later, in_cons}
use Rattle.esm_eval.proofs.Fits.{visits_grow}

module _ {N : Type 0} (same : N → N → Bool) (own : (x : N) → same x x ≡ true) (equal : (x y : N) → same x y ≡ true → x ≡ y) (to : N → List N) where
  -- the path has the modules that were entered and aren't left, the newest first
  abbrev pub Paths : List N → List (Mark N) → Type 0
  Paths path [] = Unit {0}
  Paths path (Enter x ∷ ms) = Paths (x ∷ path) ms
  Paths path (Pass x i ∷ ms) = Paths path ms
  Paths path (Leave x ∷ ms) = (rest : List N) × (path ≡ x ∷ rest) × (is_in same rest x ≡ false) × Paths rest ms

  abbrev Inside : List N → List N → Type 0
  Inside path seen = (y : N) → is_in same path y ≡ true → is_in same seen y ≡ true

  mutual
    visits_path : {seen seen' : List N} {x : N} {marks : List (Mark N)} → Visits same to seen x marks seen' → (path : List N) → Inside path seen → (ms : List (Mark N)) → Paths path ms → Paths path (marks ++ ms)
    visits_path (known h) path i ms f = f
    visits_path (fresh {seen = seen} {x = x} {marks = marks} n p) path i ms f =
        let out : is_in same path x ≡ false = not_true (is_in same path x) (λ k. not_both (is_in same seen x) (i x k) n) in
        let inside : Inside (x ∷ path) (x ∷ seen) = λ y h. either (in_cons same own equal x path y h) (λ e. subst (λ z. is_in same (x ∷ seen) z ≡ true) (sym e) (in_first same own equal x seen)) (λ k. in_later same own equal x seen y (i y k)) in
        subst (λ ns. Paths (x ∷ path) ns) (sym (append_assoc marks (Leave x ∷ []) ms)) (passes_path p (x ∷ path) inside (Leave x ∷ ms) (path, refl, out, f))

    passes_path : {seen seen' : List N} {x : N} {i : ℕ} {ts : List N} {marks : List (Mark N)} → Passes same to seen x i ts marks seen' → (path : List N) → Inside path seen → (ms : List (Mark N)) → Paths path ms → Paths path (marks ++ ms)
    passes_path all path i ms f = f
    passes_path (next {x = x} {i = n} {first = first} {marks = marks} v p) path i ms f =
        subst (λ ns. Paths path ns) (sym (append_assoc first (Pass x n ∷ marks) ms))
        (visits_path v path i (Pass x n ∷ (marks ++ ms)) (passes_path p path (λ y h. visits_grow same own equal to v y (i y h)) ms f))

  pub walk_path : {seen seen' : List N} {x : N} {marks : List (Mark N)} → Visits same to seen x marks seen' → Paths [] (marks ++ [])
  walk_path v = visits_path v [] (λ y h. cc) [] tt
