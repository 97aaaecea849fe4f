-- What follows rewritings takes steps, of which there are no more than may be, or less remains of it and its callers.
use Rattle.std.proofs.Common.{◌≡◌, ℕ, suc, ◌<◌, ◌≤◌, Bool, true, false, List, [], ◌∷◌, length, Option, Some, None, refl, arith}
use Rattle.std.specs.Prelude.{⊤, nat_lt}
use Rattle.esm_base.specs.declared.limits.Limit.{Limit}
use Rattle.esm_base.specs.declared.limits.TheConstants.{MAX_STEPS, MAX_CALL_DEPTH}
use Rattle.esm_values.specs.Value.{Value, Undefined}
use Rattle.esm_values.specs.Plans.{Rewritten as comes}
use Rattle.esm_expr_eval.specs.Terms.{Term}
use Rattle.esm_expr_eval.specs.Terms.Term.{Val, Fails}
use Rattle.esm_expr_eval.specs.Sizes.{size}
use Rattle.esm_promise.specs.Outer.{Outer}
use Rattle.esm_env.specs.Modules.{Modules}
use Rattle.esm_rewriting.specs.Rest.{Rest, end, fill_rest}
use Rattle.esm_rewriting.specs.State.{State, Importing}
use Rattle.esm_rewriting.specs.BodyRewriting.{RewrittenBody, On, Gives, Waits}
use Rattle.esm_rewriting.specs.Segment.{Active, Next, Goes, Over, next_by, call_by, called, return_to}
use Rattle.esm_rewriting.specs.Fits.{Kind}
use Rattle.esm_rewriting.proofs.Grown.{same_rest}
use Rattle.esm_rewriting.proofs.OneAct.{BeginsOne}
use Rattle.esm_rewriting.proofs.SomeAct.{BeginsSome, Took}
use Rattle.esm_rewriting.proofs.SomeSegment.{measure}
use Rattle.esm_rewriting.proofs.Turning.{Lands}

module _ {N : Type 0} where
  back : (given : Term (Value N)) → size given ≡ 1 → (r : Rest (Value N)) (c : Active N) (cs : List (Active N)) → measure (fill_rest given c.rest) cs < measure r (c ∷ cs)
  back given one r c cs = let s = same_rest given one c.rest in omega (arith, s)

module _ {N I : Type 0} where
  pub record Advances (w late : State N I) (before after : ℕ) : Type 0 where
    pub more : w.engine.steps ≤ late.engine.steps
    pub bound : w.engine.steps < late.engine.steps → late.engine.steps ≤ MAX_STEPS
    pub less : late.engine.steps ≡ w.engine.steps → after < before

  abbrev pub Onward : State N I → ℕ → Option (Next N I) → Type 0
  Onward w before None = ⊤
  Onward w before (Some (Goes m r cs late)) = Advances w late before (measure r cs)
  Onward w before (Some (Over how late)) = ⊤

  advanced : (w mid : State N I) (n before after : ℕ) → Took w n mid → (n ≡ 0 → after < before) → Advances w mid before after
  advanced w mid n before after t h = record {
    more = let s = t.steps in omega (arith, s);
    bound = λ l. t.bound (let s = t.steps in omega (arith, s, l));
    less = λ e. h (let s = t.steps in omega (arith, s, e));
  }

module _ {N I : Type 0} (same : N → N → Bool) (modules : I → Modules N) (linked : I → N → Bool) (Whole : Outer N I → Type 0) (begins : Importing N I) (some : BeginsSome modules linked Whole begins) (one : BeginsOne begins) (m : N) (k : Kind) where
  abbrev W : Type 0
  W = State N I

  calls_onward : (w mid : W) (n before : ℕ) (s : Rest (Value N)) (cs : List (Active N)) → Took w (suc n) mid → (b : Bool) (callee : Option (Active N)) → Onward w before (call_by same modules begins b m s cs mid callee)
  calls_onward w mid n before s cs t true None = tt
  calls_onward w mid n before s cs t true (Some a) = advanced w mid (suc n) before _ t (λ z. absurd (omega (arith, z)))
  calls_onward w mid n before s cs t false callee =
      let a = advanced w mid (suc n) before (measure (fill_rest (Fails (Rattle.esm_rewriting.specs.State.new_error mid)) s) cs) t (λ z. absurd (omega (arith, z))) in
      record { more = a.more; bound = a.bound; less = a.less }

  pub lighter : (w mid : W) (r : Rest (Value N)) (cs : List (Active N)) (move : RewrittenBody (Value N) Limit) → Lands same modules linked Whole begins some one m k w r move mid → Onward w (measure r cs) (next_by same modules begins m cs move mid)
  lighter w mid r cs (On (comes.Goes s)) (n, (l, (h, less))) = advanced w mid n _ _ l.took (λ z. let x = less z in omega (arith, x))
  lighter w mid r [] (On (comes.Leaves v)) (n, (l, h)) = tt
  lighter w mid r (c ∷ cs) (On (comes.Leaves v)) (n, (l, h)) = advanced w mid n _ _ l.took (λ z. back (Fails v) refl r c cs)
  lighter w mid r cs (On (comes.Calls f vs s)) (n, (l, h)) = calls_onward w mid n (measure r cs) s cs l.took (nat_lt (length cs) MAX_CALL_DEPTH) (called (modules mid.outer.imports) f vs)
  lighter w mid r cs (On (comes.Stops why)) h = tt
  lighter w mid r [] (Gives v) (a, (n, (l, h))) = tt
  lighter w mid r (c ∷ cs) (Gives v) (a, (n, (l, h))) = advanced w mid n _ _ l.took (λ z. back (Val v) refl r c cs)
  lighter w mid r [] (Waits v s) h = tt
  lighter w mid r (c ∷ cs) (Waits v s) h = tt

module _ {N I : Type 0} (same : N → N → Bool) (modules : I → Modules N) (begins : Importing N I) where
  -- where nothing remains, the caller goes on
  pub done_lighter : (w : State N I) (c : Active N) (cs : List (Active N)) → Onward w (measure {N = N} end (c ∷ cs)) (return_to same modules begins (Val Undefined) (c ∷ cs) w)
  done_lighter w c cs = record { more = omega arith; bound = λ l. absurd (omega (arith, l)); less = λ z. back (Val Undefined) refl end c cs }
