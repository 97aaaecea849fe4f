-- A walk depends on the targets of what it reaches alone, and on which of that is closed.
use Rattle.std.proofs.Common.{◌≡◌, ℕ, Bool, true, false, List, [], ◌∷◌, ◌++◌, refl, ap, subst, sym, ◌∙◌}
use Rattle.std.specs.Prelude.{◌||◌, not}
use Rattle.std.specs.List.{list_any, AllByRecursion}
use Rattle.esm_base.specs.Lists.{is_in}
use Rattle.esm_realm.specs.Walk.{Mark, Visits, Passes, IsWalkOf}
use Rattle.esm_realm.specs.Walk.Mark.{Enter, Pass, Leave}
use Rattle.esm_realm.specs.Walk.Visits.{known, fresh}
use Rattle.esm_realm.specs.Walk.Passes.{all, next}
use Rattle.esm_realm.specs.Components.{before_by, opened_before, onwards_by, opened_from, leads_into, closes}

-- P holds of what is there: the targets of it are there, and are the same
module _ {N : Type 0} (same : N → N → Bool) (to tos : N → List N) (P : N → Type 0) (alike : (x : N) → P x → tos x ≡ to x) (inside : (x : N) → P x → AllByRecursion P (to x)) where
  -- of what is there both lists have the same
  abbrev pub Same : List N → List N → Type 0
  Same xs ys = (y : N) → P y → is_in same ys y ≡ is_in same xs y

  same_more : (x : N) (xs ys : List N) → Same xs ys → Same (x ∷ xs) (x ∷ ys)
  same_more x xs ys s y p = ap (λ b. same y x || b) (s y p)

  -- the visit over the other targets, where these were seen
  abbrev VisitsSo : List N → N → List (Mark N) → List N → Type 0
  VisitsSo seen x marks after = (after' : List N) × Visits same tos seen x marks after' × Same after after'

  abbrev PassesSo : List N → N → ℕ → List N → List (Mark N) → List N → Type 0
  PassesSo seen x i ts marks after = (after' : List N) × Passes same tos seen x i ts marks after' × Same after after'

  mutual
    visits : {seen after : List N} {x : N} {marks : List (Mark N)} → Visits same to seen x marks after → P x → (seen' : List N) → Same seen seen' → VisitsSo seen' x marks after
    visits (known {x = x} h) p seen' s = (seen', known (s x p ∙ h), s)
    visits (fresh {seen = seen} {x = x} {marks = marks} h q) p seen' s =
        let r = passes q (inside x p) (x ∷ seen') (same_more x seen seen' s) in
        (r.0, fresh (s x p ∙ h) (subst (λ ts. Passes same tos (x ∷ seen') x 0 ts marks r.0) (sym (alike x p)) r.1), r.2)

    passes : {seen after : List N} {x : N} {i : ℕ} {ts : List N} {marks : List (Mark N)} → Passes same to seen x i ts marks after → AllByRecursion P ts → (seen' : List N) → Same seen seen' → PassesSo seen' x i ts marks after
    passes all a seen' s = (seen', all, s)
    passes (next v q) a seen' s =
        let one = visits v a.0 seen' s in
        let rest = passes q a.1 one.0 one.2 in
        (rest.0, next one.1 rest.1, rest.2)

  pub walks : (closed others : List N) (root : N) (marks : List (Mark N)) → P root → Same closed others → IsWalkOf same to closed root marks → IsWalkOf same tos others root marks
  walks closed others root marks p s w = let r = visits w.1 p others s in (r.0, r.1)

  -- ---- the marks are of what is there

  abbrev pub MarksThere : List (Mark N) → Type 0
  MarksThere [] = Unit {0}
  MarksThere (Enter x ∷ ms) = P x × MarksThere ms
  MarksThere (Pass x i ∷ ms) = MarksThere ms
  MarksThere (Leave x ∷ ms) = P x × MarksThere ms

  marks_on : (ms ns : List (Mark N)) → MarksThere ms → MarksThere ns → MarksThere (ms ++ ns)
  marks_on [] ns h k = k
  marks_on (Enter x ∷ ms) ns h k = (h.0, marks_on ms ns h.1 k)
  marks_on (Pass x i ∷ ms) ns h k = marks_on ms ns h k
  marks_on (Leave x ∷ ms) ns h k = (h.0, marks_on ms ns h.1 k)

  mutual
    visits_there : {seen after : List N} {x : N} {marks : List (Mark N)} → Visits same to seen x marks after → P x → MarksThere marks
    visits_there (known h) p = tt
    visits_there (fresh {x = x} {marks = marks} h q) p = (p, marks_on marks (Leave x ∷ []) (passes_there q (inside x p)) (p, tt))

    passes_there : {seen after : List N} {x : N} {i : ℕ} {ts : List N} {marks : List (Mark N)} → Passes same to seen x i ts marks after → AllByRecursion P ts → MarksThere marks
    passes_there all a = tt
    passes_there (next {x = x} {i = i} {first = first} {marks = marks} v q) a = marks_on first (Pass x i ∷ marks) (visits_there v a.0) (passes_there q a.1)

  pub marks_there : (closed : List N) (root : N) (marks : List (Mark N)) → P root → IsWalkOf same to closed root marks → MarksThere marks
  marks_there closed root marks p w = visits_there w.1 p

  -- ---- components close where they close

  from_there : (opened : List N) (x : N) → AllByRecursion P opened → AllByRecursion P (opened_from same opened x)
  from_there [] x a = tt
  from_there (y ∷ ys) x a = by (same y x) (from_there ys x a.1)
    where
      by : (b : Bool) → AllByRecursion P (opened_from same ys x) → AllByRecursion P (onwards_by same b (y ∷ ys) (opened_from same ys x))
      by true rest = a
      by false rest = rest

  pub before_there : (opened : List N) (x : N) → AllByRecursion P opened → AllByRecursion P (opened_before same opened x)
  before_there [] x a = tt
  before_there (y ∷ ys) x a = by (same y x) (before_there ys x a.1)
    where
      by : (b : Bool) → AllByRecursion P (opened_before same ys x) → AllByRecursion P (before_by same b y (opened_before same ys x))
      by true rest = tt
      by false rest = (a.0, rest)

  pub push_there : (opened : List N) (x : N) → AllByRecursion P opened → P x → AllByRecursion P (opened ++ x ∷ [])
  push_there [] x a p = (p, tt)
  push_there (y ∷ ys) x a p = (a.0, push_there ys x a.1 p)

  leads_alike : (xs ys : List N) → AllByRecursion P xs → leads_into same tos xs ys ≡ leads_into same to xs ys
  leads_alike [] ys a = refl
  leads_alike (x ∷ xs) ys a = λ i. list_any (λ t. is_in same ys t) (alike x a.0 i) || leads_alike xs ys a.1 i

  pub closes_alike : (opened : List N) (x : N) → AllByRecursion P opened → closes same tos opened x ≡ closes same to opened x
  closes_alike opened x a = ap not (leads_alike (opened_from same opened x) (opened_before same opened x) (from_there opened x a))
