-- A walk over modules is the walk over their names.
use Rattle.std.proofs.Common.{◌≡◌, ℕ, Bool, true, false, List, [], ◌∷◌, map, refl, ap, subst, sym, ◌∙◌}
use Rattle.std.specs.Prelude.{◌||◌, not}
use Rattle.std.specs.List.{list_any}
use Rattle.std.proofs.lemmas.List.{map-append}
use Rattle.esm_base.specs.Lists.{is_in}
use Rattle.esm_realm.specs.Walk.{Mark, Visits, Passes, leaves}
use Rattle.esm_realm.specs.Walk.Mark.{Enter, Pass, Leave}
use Rattle.esm_realm.specs.Walk.Visits.{known, fresh}
use Rattle.esm_realm.specs.Walk.Passes.{all, next}
use Rattle.esm_realm.specs.Components.{before_by, opened_before, onwards_by, opened_from, leads_into, closes}
use Rattle.esm_realm.specs.Naming.{named_mark, AreNamed, WalksFollowNames}

module _ {M N : Type 0} (name : M → N) (same : M → M → Bool) (others : N → N → Bool) (to : M → List M) (tos : N → List N) (is : AreNamed name same others to tos) where
  pub in_named : (xs : List M) (x : M) → is_in others (map name xs) (name x) ≡ is_in same xs x
  in_named [] x = refl
  in_named (y ∷ ys) x = λ i. is.alike x y i || in_named ys x i

  mutual
    visits : {seen after : List M} {x : M} {marks : List (Mark M)} → Visits same to seen x marks after → Visits others tos (map name seen) (name x) (map (named_mark name) marks) (map name after)
    visits (known {seen = seen} {x = x} h) = known (in_named seen x ∙ h)
    visits (fresh {seen = seen} {after = after} {x = x} {marks = marks} h p) =
        let inner : Passes others tos (name x ∷ map name seen) (name x) 0 (tos (name x)) (map (named_mark name) marks) (map name after) = subst (λ ts. Passes others tos (name x ∷ map name seen) (name x) 0 ts (map (named_mark name) marks) (map name after)) (sym (is.targets x)) (passes p) in
        subst (λ ms. Visits others tos (map name seen) (name x) (Enter (name x) ∷ ms) (map name after)) (sym (map-append (named_mark name) marks (Leave x ∷ []))) (fresh (in_named seen x ∙ h) inner)

    passes : {seen after : List M} {x : M} {i : ℕ} {ts : List M} {marks : List (Mark M)} → Passes same to seen x i ts marks after → Passes others tos (map name seen) (name x) i (map name ts) (map (named_mark name) marks) (map name after)
    passes all = all
    passes (next {seen = seen} {after = after} {x = x} {t = t} {i = i} {ts = ts} {first = first} {marks = marks} v p) =
        subst (λ ms. Passes others tos (map name seen) (name x) i (name t ∷ map name ts) ms (map name after)) (sym (map-append (named_mark name) first (Pass x i ∷ marks))) (next (visits v) (passes p))

  leaves_named : (marks : List (Mark M)) → leaves (map (named_mark name) marks) ≡ map name (leaves marks)
  leaves_named [] = refl
  leaves_named (Enter x ∷ marks) = leaves_named marks
  leaves_named (Pass x i ∷ marks) = leaves_named marks
  leaves_named (Leave x ∷ marks) = ap (λ us. name x ∷ us) (leaves_named marks)

  before_named : (opened : List M) (x : M) → opened_before others (map name opened) (name x) ≡ map name (opened_before same opened x)
  before_named [] x = refl
  before_named (y ∷ ys) x = (λ i. before_by others (is.alike y x i) (name y) (before_named ys x i)) ∙ by (same y x)
    where
      by : (b : Bool) → before_by others b (name y) (map name (opened_before same ys x)) ≡ map name (before_by same b y (opened_before same ys x))
      by true = refl
      by false = refl

  from_named : (opened : List M) (x : M) → opened_from others (map name opened) (name x) ≡ map name (opened_from same opened x)
  from_named [] x = refl
  from_named (y ∷ ys) x = (λ i. onwards_by others (is.alike y x i) (name y ∷ map name ys) (from_named ys x i)) ∙ by (same y x)
    where
      by : (b : Bool) → onwards_by others b (name y ∷ map name ys) (map name (opened_from same ys x)) ≡ map name (onwards_by same b (y ∷ ys) (opened_from same ys x))
      by true = refl
      by false = refl

  any_named : (ts ys : List M) → list_any (λ t. is_in others (map name ys) t) (map name ts) ≡ list_any (λ t. is_in same ys t) ts
  any_named [] ys = refl
  any_named (t ∷ ts) ys = λ i. in_named ys t i || any_named ts ys i

  leads_named : (xs ys : List M) → leads_into others tos (map name xs) (map name ys) ≡ leads_into same to xs ys
  leads_named [] ys = refl
  leads_named (x ∷ xs) ys =
      let one : list_any (λ t. is_in others (map name ys) t) (tos (name x)) ≡ list_any (λ t. is_in same ys t) (to x) = ap (λ ts. list_any (λ t. is_in others (map name ys) t) ts) (is.targets x) ∙ any_named (to x) ys in
      λ i. one i || leads_named xs ys i

  closes_named : (opened : List M) (x : M) → closes others tos (map name opened) (name x) ≡ closes same to opened x
  closes_named opened x = (λ i. not (leads_into others tos (from_named opened x i) (before_named opened x i))) ∙ ap not (leads_named (opened_from same opened x) (opened_before same opened x))

pub walks_follow_names : {M N : Type 0} (name : M → N) → WalksFollowNames name
walks_follow_names name same others to tos is = record {
  walk = λ closed root marks w. (map name w.0, visits name same others to tos is w.1);
  leaves_are = leaves_named name same others to tos is;
  before = before_named name same others to tos is;
  onwards = from_named name same others to tos is;
  closes_so = closes_named name same others to tos is;
}
