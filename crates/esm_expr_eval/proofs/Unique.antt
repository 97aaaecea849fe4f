-- A rewriting has one outcome where each call on the world has one.
use Rattle.std.proofs.Common.{◌≡◌, ℕ, List, ◌∷◌, refl, ap, subst, sym}
use Rattle.esm_values.specs.Plans.{Acting, Rewritten, inside, Follows}
use Rattle.esm_values.specs.Operators.{Values}
use Rattle.esm_values.proofs.Follows.{ActsOne, follows_one}
use Rattle.esm_expr_eval.specs.Terms.{Term, Terms}
use Rattle.esm_expr_eval.specs.Terms.Term.{Val, Or, And, Equal, Sum, Not, Post, Print, NewError, Import}
use Rattle.esm_expr_eval.specs.Terms.Terms.{more}
use Rattle.esm_expr_eval.specs.Terms.Compared.{compared}
use Rattle.esm_expr_eval.specs.Terms.LinkTerms.{call}
use Rattle.esm_expr_eval.specs.Rewriting.{AreValues, Rewrites, RewritesIn, called}
use Rattle.esm_expr_eval.specs.Rewriting.AreValues.{nil, cons}
use Rattle.esm_expr_eval.specs.Rewriting.Rewrites.{fails, name, or_in, or, and_in, and, equal_in, equal_right, equal, equal_end, sum_in, sum_right, joins, sum_end, not_in, not_of, post_in, member_of, arguments, call_of, post_end, print_in, print, error_in, error, import_in, begins, own_url}
use Rattle.esm_expr_eval.specs.Rewriting.RewritesIn.{first, later}

values_one : {V : Type 0} {es : Terms V} {vs us : List V} → AreValues es vs → AreValues es us → us ≡ vs
values_one nil nil = refl
values_one (cons {v = v} a) (cons b) = ap (λ vs. v ∷ vs) (values_one a b)

module _ {W V S : Type 0} (values : Values V) (url : W → List ℕ) (acts : Acting W V S) where
  pub no_step : {w after : W} {v : V} {c : Rewritten V S (Term V)} → Rewrites values url acts w (Val v) c after → ⊥
  no_step s = elim s [ ]

  no_steps : {w after : W} {es : Terms V} {vs : List V} {c : Rewritten V S (Terms V)} → AreValues es vs → RewritesIn values url acts w es c after → ⊥
  no_steps nil s = elim s [ ]
  no_steps (cons a) (first s) = no_step s
  no_steps (cons a) (later s) = no_steps a s

  module _ (h : ActsOne acts) where
    mutual
      pub step_one : {w x y : W} {t : Term V} {c d : Rewritten V S (Term V)} → Rewrites values url acts w t c x → Rewrites values url acts w t d y → (d ≡ c) × (y ≡ x)
      step_one fails fails = (refl, refl)
      step_one (name a) (name b) = follows_one acts h a b
      step_one (or_in {es = es} s) (or_in t) = let r = step_one s t in (ap (inside (λ e. Or e es)) r.0, r.1)
      step_one (or_in s) or = absurd (no_step s)
      step_one or (or_in t) = absurd (no_step t)
      step_one or or = (refl, refl)
      step_one (and_in {es = es} s) (and_in t) = let r = step_one s t in (ap (inside (λ e. And e es)) r.0, r.1)
      step_one (and_in s) and = absurd (no_step s)
      step_one and (and_in t) = absurd (no_step t)
      step_one and and = (refl, refl)
      step_one (equal_in {cs = cs} s) (equal_in t) = let r = step_one s t in (ap (inside (λ e. Equal e cs)) r.0, r.1)
      step_one (equal_in s) (equal_right t) = absurd (no_step s)
      step_one (equal_in s) equal = absurd (no_step s)
      step_one (equal_in s) equal_end = absurd (no_step s)
      step_one (equal_right s) (equal_in t) = absurd (no_step t)
      step_one (equal_right {v = v} {b = b} {cs = cs} s) (equal_right t) = let r = step_one s t in (ap (inside (λ e. Equal (Val v) (compared b e cs))) r.0, r.1)
      step_one (equal_right s) equal = absurd (no_step s)
      step_one equal (equal_in t) = absurd (no_step t)
      step_one equal (equal_right t) = absurd (no_step t)
      step_one equal equal = (refl, refl)
      step_one equal_end (equal_in t) = absurd (no_step t)
      step_one equal_end equal_end = (refl, refl)
      step_one (sum_in {es = es} s) (sum_in t) = let r = step_one s t in (ap (inside (λ e. Sum e es)) r.0, r.1)
      step_one (sum_in s) (sum_right t) = absurd (no_step s)
      step_one (sum_in s) (joins b) = absurd (no_step s)
      step_one (sum_in s) sum_end = absurd (no_step s)
      step_one (sum_right s) (sum_in t) = absurd (no_step t)
      step_one (sum_right {v = v} {es = es} s) (sum_right t) = let r = step_one s t in (ap (inside (λ e. Sum (Val v) (more e es))) r.0, r.1)
      step_one (sum_right s) (joins b) = absurd (no_step s)
      step_one (joins a) (sum_in t) = absurd (no_step t)
      step_one (joins a) (sum_right t) = absurd (no_step t)
      step_one (joins a) (joins b) = follows_one acts h a b
      step_one sum_end (sum_in t) = absurd (no_step t)
      step_one sum_end sum_end = (refl, refl)
      step_one (not_in s) (not_in t) = let r = step_one s t in (ap (inside (λ e. Not e)) r.0, r.1)
      step_one (not_in s) not_of = absurd (no_step s)
      step_one not_of (not_in t) = absurd (no_step t)
      step_one not_of not_of = (refl, refl)
      step_one (post_in {ls = ls} s) (post_in t) = let r = step_one s t in (ap (inside (λ e. Post e ls)) r.0, r.1)
      step_one (post_in s) (member_of b) = absurd (no_step s)
      step_one (post_in s) (arguments t) = absurd (no_step s)
      step_one (post_in s) (call_of q b) = absurd (no_step s)
      step_one (post_in s) post_end = absurd (no_step s)
      step_one (member_of a) (post_in t) = absurd (no_step t)
      step_one (member_of a) (member_of b) = follows_one acts h a b
      step_one (arguments s) (post_in t) = absurd (no_step t)
      step_one (arguments {f = f} {ls = ls} s) (arguments t) = let r = steps_one s t in (ap (inside (λ es. Post (Val f) (call es ls))) r.0, r.1)
      step_one (arguments s) (call_of q b) = absurd (no_steps q s)
      step_one (call_of p a) (post_in t) = absurd (no_step t)
      step_one (call_of p a) (arguments t) = absurd (no_steps p t)
      step_one {w = w} {y = y} {d = d} (call_of {f = f} {ls = ls} p a) (call_of q b) = follows_one acts h a (subst (λ vs. Follows acts w (called values f vs ls) d y) (values_one p q) b)
      step_one post_end (post_in t) = absurd (no_step t)
      step_one post_end post_end = (refl, refl)
      step_one (print_in s) (print_in t) = let r = steps_one s t in (ap (inside (λ es. Print es)) r.0, r.1)
      step_one (print_in s) (print q b) = absurd (no_steps q s)
      step_one (print p a) (print_in t) = absurd (no_steps p t)
      step_one {w = w} {y = y} {d = d} (print p a) (print q b) = follows_one acts h a (rw (sym (values_one p q)) b)
      step_one (error_in s) (error_in t) = let r = step_one s t in (ap (inside (λ e. NewError e)) r.0, r.1)
      step_one (error_in s) (error b) = absurd (no_step s)
      step_one (error a) (error_in t) = absurd (no_step t)
      step_one (error a) (error b) = follows_one acts h a b
      step_one (import_in s) (import_in t) = let r = step_one s t in (ap (inside (λ e. Import e)) r.0, r.1)
      step_one (import_in s) (begins b) = absurd (no_step s)
      step_one (begins a) (import_in t) = absurd (no_step t)
      step_one (begins a) (begins b) = follows_one acts h a b
      step_one own_url own_url = (refl, refl)

      pub steps_one : {w x y : W} {es : Terms V} {c d : Rewritten V S (Terms V)} → RewritesIn values url acts w es c x → RewritesIn values url acts w es d y → (d ≡ c) × (y ≡ x)
      steps_one (first {es = es} s) (first t) = let r = step_one s t in (ap (inside (λ e. more e es)) r.0, r.1)
      steps_one (first s) (later t) = absurd (no_step s)
      steps_one (later s) (first t) = absurd (no_step t)
      steps_one (later {v = v} s) (later t) = let r = steps_one s t in (ap (inside (λ es. more (Val v) es)) r.0, r.1)
