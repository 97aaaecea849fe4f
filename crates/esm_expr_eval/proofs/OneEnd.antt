-- An expression leads to one end where each call on the world has one outcome.
use Rattle.std.proofs.Common.{◌≡◌, ℕ, List, refl, ap, subst}
use Rattle.std.specs.Prelude.{Result}
use Rattle.esm_values.specs.Acts.{Act, AnswerTo}
use Rattle.esm_values.specs.Plans.{Acting}
use Rattle.esm_values.specs.Code.{CodeValue, numbered}
use Rattle.esm_values.specs.Operators.{Values}
use Rattle.esm_values.proofs.Follows.{ActsOne}
use Rattle.esm_expr_eval.specs.Terms.{Term}
use Rattle.esm_expr_eval.specs.Ends.{TermEnd, Thrown, Call, Stopped, Leads}
use Rattle.esm_expr_eval.specs.Ends.Leads.{value, goes, throws, calls, stopped}
use Rattle.esm_expr_eval.specs.Laws.{ActsOnce, RewritesOnce}
use Rattle.esm_expr_eval.proofs.Unique.{no_step, step_one}

module _ {W V S : Type 0} (values : Values V) (url : W → List ℕ) (acts : Acting W V S) (h : ActsOne acts) where
  pub leads_one : {w x y : W} {t : Term V} {c d : TermEnd V S} → Leads values url acts w t c x → Leads values url acts w t d y → (d ≡ c) × (y ≡ x)
  leads_one value value = (refl, refl)
  leads_one value (goes s b) = absurd (no_step values url acts s)
  leads_one value (throws s) = absurd (no_step values url acts s)
  leads_one value (calls s) = absurd (no_step values url acts s)
  leads_one value (stopped s) = absurd (no_step values url acts s)
  leads_one (goes s a) value = absurd (no_step values url acts s)
  leads_one {y = y} {d = d} (goes {mid = mid} {rest = rest} s a) (goes {mid = n} {rest = r} u b) =
      let e = step_one values url acts h s u in
      let same : r ≡ rest = cc in
      leads_one a (subst (λ r. Leads values url acts mid r d y) same (subst (λ m. Leads values url acts m r d y) e.1 b))
  leads_one (goes s a) (throws u) = let e = step_one values url acts h s u in absurd cc
  leads_one (goes s a) (calls u) = let e = step_one values url acts h s u in absurd cc
  leads_one (goes s a) (stopped u) = let e = step_one values url acts h s u in absurd cc
  leads_one (throws s) value = absurd (no_step values url acts s)
  leads_one (throws s) (goes u b) = let e = step_one values url acts h s u in absurd cc
  leads_one (throws {v = v} s) (throws {v = r} u) =
      let e = step_one values url acts h s u in
      let same : r ≡ v = cc in
      (ap Thrown same, e.1)
  leads_one (throws s) (calls u) = let e = step_one values url acts h s u in absurd cc
  leads_one (throws s) (stopped u) = let e = step_one values url acts h s u in absurd cc
  leads_one (calls s) value = absurd (no_step values url acts s)
  leads_one (calls s) (goes u b) = let e = step_one values url acts h s u in absurd cc
  leads_one (calls s) (throws u) = let e = step_one values url acts h s u in absurd cc
  leads_one (calls {rest = rest} {f = f} {vs = vs} s) (calls {rest = r} {f = g} {vs = us} u) =
      let e = step_one values url acts h s u in
      let same : Call g us r ≡ Call f vs rest = cc in
      (same, e.1)
  leads_one (calls s) (stopped u) = let e = step_one values url acts h s u in absurd cc
  leads_one (stopped s) value = absurd (no_step values url acts s)
  leads_one (stopped s) (goes u b) = let e = step_one values url acts h s u in absurd cc
  leads_one (stopped s) (throws u) = let e = step_one values url acts h s u in absurd cc
  leads_one (stopped s) (calls u) = let e = step_one values url acts h s u in absurd cc
  leads_one (stopped {why = why} s) (stopped {why = r} u) =
      let e = step_one values url acts h s u in
      let same : r ≡ why = cc in
      (ap Stopped same, e.1)

module _ {W S : Type 0} (url : W → List ℕ) (acts : Acting W CodeValue S) where
  once : ActsOnce acts → {w x y : W} {a : Act CodeValue} {r s : Result (AnswerTo a) S} → acts w a r x → acts w a s y → (s ≡ r) × (y ≡ x)
  once k {w} {x} {y} {a} {r} {s} p q = k.once w x y a r s p q

  one_of : ActsOnce acts → ActsOne acts
  one_of k = record { one = once k }

  pub rewrites_once : RewritesOnce url acts
  rewrites_once = record {
    rewrites = λ k w one other t c d a b. step_one numbered url acts (one_of k) a b;
    leads = λ k w one other t c d a b. leads_one numbered url acts (one_of k) a b;
  }
