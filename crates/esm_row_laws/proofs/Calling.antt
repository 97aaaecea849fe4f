-- Calls: what is called with which values, and the caller that waits.
use Rattle.std.proofs.Common.{◌≡◌, ◌<◌, ◌≤◌, ℕ, zero, suc, ◌+◌, nat_eq, Bool, true, false, List, [], ◌∷◌, ◌++◌, length, Some, refl, ap, subst, sym, ◌∙◌, arith}
use Rattle.std.proofs.lemmas.Bool.Decides.{nat_tests}
use Rattle.std.specs.Prelude.{Result, Ok, Err, nat_lt, codes}
use Rattle.esm_base.specs.declared.limits.Limit.{Limit}
use Rattle.esm_base.specs.declared.limits.TheConstants.{MAX_CALL_DEPTH}
use Rattle.esm_tree.specs.Syntax.{Links}
use Rattle.esm_env.specs.Modules.{Modules}
use Rattle.esm_values.specs.Value.{Value}
use Rattle.esm_values.specs.Errors.{fault}
use Rattle.esm_values.specs.Operators.{values, look_of, is_func, faults}
use Rattle.esm_values.specs.Operators.{Look as look}
use Rattle.esm_values.specs.Operators.{Look}
use Rattle.esm_values.specs.declared.errors.FaultKind.TheVariants as kinds
use Rattle.esm_values.specs.Acts.{Act as act}
use Rattle.esm_values.specs.Plans.{Rewritten, Plan, Follows}
use Rattle.esm_values.specs.Plans.{Follows as follows}
use Rattle.esm_values.specs.Plans.Rewritten.{Leaves, Calls, Stops}
use Rattle.esm_expr_eval.specs.Terms.{Term, Terms, LinkTerms, links}
use Rattle.esm_expr_eval.specs.Terms.Term.{Val, Waits, Fails, Post}
use Rattle.esm_expr_eval.specs.Terms.Terms.{none as no_more_terms, more as further}
use Rattle.esm_expr_eval.specs.Terms.LinkTerms.{call as calling}
use Rattle.esm_expr_eval.specs.Rewriting.{AreValues, nil, cons, enters}
use Rattle.esm_expr_eval.specs.Rewriting.{called as called_plan}
use Rattle.esm_expr_eval.specs.Rewriting.Rewrites.{call_of}
use Rattle.esm_rewriting.specs.Rest.{Rest, fill_rest}
use Rattle.esm_rewriting.specs.State.{State, Importing, take_steps, new_error, with_error}
use Rattle.esm_rewriting.specs.Acts.{Performs, over_scopes, modules_of}
use Rattle.esm_rewriting.specs.BodyRewriting.{On}
use Rattle.esm_rewriting.specs.Segment.{Active, active, Ended, Segment, called, next_by, call_by, too_deep, RewritesOutermost}
use Rattle.esm_rewriting.specs.Segment.{Next as nexts}
use Rattle.esm_rewriting.specs.Segment.{Ended as ended}
use Rattle.esm_rewriting.specs.Contexts.{surrounded}
use Rattle.esm_rewriting.proofs.Paths.{outer_calls, outer_stops}
use Rattle.esm_row_laws.specs.Spots.{Kont, Posts, rounds_of, Spot}
use Rattle.esm_row_laws.specs.Rooms.{HasRoom}
use Rattle.esm_row_laws.specs.Remaining.{contexts, passed, under, call_under, plug, rest_of, rest_at}
use Rattle.esm_row_laws.specs.Operations.{Values}
use Rattle.esm_row_laws.specs.Landings.{over_names, ThrowsIn, remains}
use Rattle.esm_row_laws.specs.Callings.{above, Calling, without, with_last, waiting}
use Rattle.esm_row_laws.proofs.Filling.{fill_of}
use Rattle.esm_row_laws.proofs.Plugged as plugged

-- ---- arguments

-- values as arguments, in front of others
abbrev pub in_front : List (Value ℕ) → Terms (Value ℕ) → Terms (Value ℕ)
in_front [] es = es
in_front (u ∷ us) es = further (Val u) (in_front us es)

are_values : (us : List (Value ℕ)) → AreValues (in_front us no_more_terms) us
are_values [] = nil
are_values (u ∷ us) = cons (are_values us)

-- so many operands above others are the arguments
under_above : (us : List (Value ℕ)) (n : ℕ) (vs : List (Value ℕ)) (es : Terms (Value ℕ)) → under (values nat_eq) (length us + n) (above us vs) es ≡ under (values nat_eq) n vs (in_front us es)
under_above [] n vs es = ap (λ k. under (values nat_eq) k vs es) (zero_more n) where
  zero_more : (n : ℕ) → 0 + n ≡ n
  zero_more n = omega arith
under_above (u ∷ us) n vs es = ap (λ k. under (values nat_eq) k (above us (u ∷ vs)) es) (moved (length us) n) ∙ under_above us (suc n) (u ∷ vs) es where
  moved : (a n : ℕ) → suc a + n ≡ a + suc n
  moved a n = omega arith

pub all_under : (us : List (Value ℕ)) (vs : List (Value ℕ)) (es : Terms (Value ℕ)) → under (values nat_eq) (length us) (above us vs) es ≡ Some (passed (in_front us es) vs)
all_under us vs es = ap (λ k. under (values nat_eq) k (above us vs) es) (none_more (length us)) ∙ under_above us zero vs es where
  none_more : (n : ℕ) → n ≡ n + 0
  none_more n = omega arith

joined : (us : List (Value ℕ)) (u : Value ℕ) → in_front us (further (Val u) no_more_terms) ≡ in_front (us ++ u ∷ []) no_more_terms
joined [] u = refl
joined (v ∷ us) u = ap (λ es. further (Val v) es) (joined us u)

less : (a b : ℕ) → a < b → nat_lt a b ≡ true
less a b h = by (nat_lt a b) refl where
  by : (t : Bool) → nat_lt a b ≡ t → t ≡ true
  by true e = refl
  by false e = absurd (grind (arith, nat_tests))

no_less : (a b : ℕ) → b ≤ a → nat_lt a b ≡ false
no_less a b h = by (nat_lt a b) refl where
  by : (t : Bool) → nat_lt a b ≡ t → t ≡ false
  by true e = absurd (grind (arith, nat_tests))
  by false e = refl

-- what is no function
refused_by : (f : Value ℕ) (us : List (Value ℕ)) (ls : LinkTerms (Value ℕ)) (l : Look) → is_func l ≡ false
    → ◌≡◌ {A = Plan (Value ℕ) Limit (Term (Value ℕ))} (enters (values nat_eq) f us ls l) (faults (values nat_eq) kinds.TypeError (codes "not a function"))
refused_by f us ls look.Undefined h = refl
refused_by f us ls (look.Truth b) h = refl
refused_by f us ls (look.Text t) h = refl
refused_by f us ls look.Func h = absurd (cc)
refused_by f us ls look.Error h = refl
refused_by f us ls look.Other h = refl

-- ---- at a call

module _ {S : Type 0} (modules : S → Modules ℕ) (begins : Importing ℕ S) (m : ℕ) (ls : Links) (k : Kont) (f : Value ℕ) (vs : List (Value ℕ)) (vss : Values) where
  abbrev Whole : Term (Value ℕ) → Rest (Value ℕ)
  Whole e = rest_of (values nat_eq) k vss vs e

  -- the call with these arguments
  abbrev with_args : List (Value ℕ) → Term (Value ℕ)
  with_args us = Post (Val f) (calling (in_front us no_more_terms) (links (values nat_eq) ls))

  pub at_call : (us : List (Value ℕ)) (s : Spot) (operands : List (Value ℕ)) → Calling ls k f vs us s operands → rest_at (values nat_eq) s vss operands ≡ Whole (with_args us)
  at_call _ _ _ without = refl
  at_call _ _ _ (with_last us u) =
      ap (λ q. surrounded (contexts (values nat_eq) (rounds_of k) vss) (call_under (values nat_eq) (plug (values nat_eq) k) ls q)) (all_under us (f ∷ vs) (further (Val u) no_more_terms)) ∙ ap (λ es. Whole (Post (Val f) (calling es (links (values nat_eq) ls)))) (joined us u)

  abbrev Planned : State ℕ S → List (Value ℕ) → Rewritten (Value ℕ) Limit (Term (Value ℕ)) → State ℕ S → Type 0
  Planned w us c late = Follows (Performs nat_eq modules begins m) (over_names modules begins (rounds_of k) vss w) (called_plan (values nat_eq) f us (links (values nat_eq) ls)) c (over_names modules begins (rounds_of k) vss late)

  performs : (w late : State ℕ S) (answer : Result (Unit {0}) Limit) → take_steps w 1 ≡ (answer, late) → Performs nat_eq modules begins m (over_names modules begins (rounds_of k) vss w) (act.Step 1) answer (over_names modules begins (rounds_of k) vss late)
  performs w late answer e = ap (over_scopes (over_names modules begins (rounds_of k) vss w)) (sym e)

  calls_plan : (w late : State ℕ S) (us : List (Value ℕ)) → look_of f ≡ look.Func → take_steps w 1 ≡ (Ok tt, late) → Planned w us (Calls f us (Post Waits (links (values nat_eq) ls))) late
  calls_plan w late us h e =
      follows.asks tt (performs w late (Ok tt) e)
      (subst (λ l. Follows (Performs nat_eq modules begins m) (over_names modules begins (rounds_of k) vss late) (enters (values nat_eq) f us (links (values nat_eq) ls) l) (Calls f us (Post Waits (links (values nat_eq) ls))) (over_names modules begins (rounds_of k) vss late)) (sym h) follows.ends)

  stops_plan : (w late : State ℕ S) (us : List (Value ℕ)) (why : Limit) → take_steps w 1 ≡ (Err why, late) → Planned w us (Stops why) late
  stops_plan w late us why e = follows.stops (performs w late (Err why) e)

  whole_calls : (w late : State ℕ S) (us : List (Value ℕ)) → HasRoom k vs → look_of f ≡ look.Func → take_steps w 1 ≡ (Ok tt, late) → RewritesOutermost nat_eq modules begins m w (Whole (with_args us)) (On (Calls f us (waiting modules begins ls k vss vs))) late
  whole_calls w late us room h e =
      outer_calls nat_eq modules begins m (contexts (values nat_eq) (rounds_of k) vss) w (plug (values nat_eq) k vs (with_args us)) (plug (values nat_eq) k vs (Post Waits (links (values nat_eq) ls))) f us (over_names modules begins (rounds_of k) vss late) refl
      (plugged.calls nat_eq modules begins m k vs f us (over_names modules begins (rounds_of k) vss w) (over_names modules begins (rounds_of k) vss late) (with_args us) (Post Waits (links (values nat_eq) ls)) room (call_of (are_values us) (calls_plan w late us h e)))

  -- what follows a call of as few functions as may be active
  enters_next : (late : State ℕ S) (us : List (Value ℕ)) (callers : List (Active ℕ)) (callee : Active ℕ) (r : Rest (Value ℕ)) → length callers < MAX_CALL_DEPTH → called (modules_of modules late) f us ≡ Some callee → next_by nat_eq modules begins m callers (On (Calls f us r)) late ≡ Some (nexts.Goes callee.at callee.rest (active m r ∷ callers) late)
  enters_next late us callers callee r few e = λ i. call_by nat_eq modules begins (less (length callers) MAX_CALL_DEPTH few i) m r callers late (e i)

  calls_at : (w late : State ℕ S) (us : List (Value ℕ)) (callers : List (Active ℕ)) (callee : Active ℕ) (how : Ended ℕ) (after : State ℕ S) → HasRoom k vs → look_of f ≡ look.Func → take_steps w 1 ≡ (Ok tt, late) → length callers < MAX_CALL_DEPTH → called (modules_of modules late) f us ≡ Some callee → Segment nat_eq modules begins late callee.at callee.rest (active m (waiting modules begins ls k vss vs) ∷ callers) how after → Segment nat_eq modules begins w m (Whole (with_args us)) callers how after
  calls_at w late us callers callee how after room h e few told seg =
      Segment.goes (On (Calls f us (waiting modules begins ls k vss vs))) (whole_calls w late us room h e) (enters_next late us callers callee (waiting modules begins ls k vss vs) few told) seg

  pub calls : (us : List (Value ℕ)) (s : Spot) (operands : List (Value ℕ)) (w late : State ℕ S) (callers : List (Active ℕ)) (callee : Active ℕ) (how : Ended ℕ) (after : State ℕ S) → HasRoom k vs → Calling ls k f vs us s operands → look_of f ≡ look.Func → take_steps w 1 ≡ (Ok tt, late) → length callers < MAX_CALL_DEPTH → called (modules_of modules late) f us ≡ Some callee → Segment nat_eq modules begins late callee.at callee.rest (active m (waiting modules begins ls k vss vs) ∷ callers) how after → Segment nat_eq modules begins w m (rest_at (values nat_eq) s vss operands) callers how after
  calls us s operands w late callers callee how after room at h e few told seg =
      subst (λ r. Segment nat_eq modules begins w m r callers how after) (sym (at_call us s operands at)) (calls_at w late us callers callee how after room h e few told seg)

  pub stops : (us : List (Value ℕ)) (s : Spot) (operands : List (Value ℕ)) (w late : State ℕ S) (why : Limit) (callers : List (Active ℕ)) → HasRoom k vs → Calling ls k f vs us s operands → take_steps w 1 ≡ (Err why, late) → Segment nat_eq modules begins w m (rest_at (values nat_eq) s vss operands) callers (ended.Stopped why) late
  stops us s operands w late why callers room at e =
      subst (λ r. Segment nat_eq modules begins w m r callers (ended.Stopped why) late) (sym (at_call us s operands at))
      (Segment.over (On (Stops why)) (outer_stops nat_eq modules begins m (contexts (values nat_eq) (rounds_of k) vss) w (plug (values nat_eq) k vs (with_args us)) why (over_names modules begins (rounds_of k) vss late) refl
      (plugged.stops nat_eq modules begins m k vs why (over_names modules begins (rounds_of k) vss w) (over_names modules begins (rounds_of k) vss late) (with_args us) room (call_of (are_values us) (stops_plan w late us why e)))) refl)

  -- ---- calls that fail

  -- one function too many
  deep_next : (late : State ℕ S) (us : List (Value ℕ)) (callers : List (Active ℕ)) (r : Rest (Value ℕ)) → MAX_CALL_DEPTH ≤ length callers → next_by nat_eq modules begins m callers (On (Calls f us r)) late ≡ Some (nexts.Goes m (fill_rest (Fails (new_error late)) r) callers (too_deep nat_eq modules begins late))
  deep_next late us callers r many = λ i. call_by nat_eq modules begins (no_less (length callers) MAX_CALL_DEPTH many i) m r callers late (called (modules_of modules late) f us)

  deep_at : (w late : State ℕ S) (us : List (Value ℕ)) (callers : List (Active ℕ)) (how : Ended ℕ) (after : State ℕ S) → HasRoom k vs → look_of f ≡ look.Func → take_steps w 1 ≡ (Ok tt, late) → MAX_CALL_DEPTH ≤ length callers
      → Segment nat_eq modules begins (with_error late (fault kinds.RangeError (codes "call depth"))) m (rest_of (values nat_eq) (Posts ls k) vss vs (Fails (new_error late))) callers how after → Segment nat_eq modules begins w m (Whole (with_args us)) callers how after
  deep_at w late us callers how after room h e many seg =
      Segment.goes (On (Calls f us (waiting modules begins ls k vss vs))) (whole_calls w late us room h e) (deep_next late us callers (waiting modules begins ls k vss vs) many)
      (subst (λ r. Segment nat_eq modules begins (with_error late (fault kinds.RangeError (codes "call depth"))) m r callers how after) (sym (fill_of (Fails (new_error late)) (Posts ls k) vss vs Waits)) seg)

  pub deep : (us : List (Value ℕ)) (s : Spot) (operands : List (Value ℕ)) (w late : State ℕ S) (callers : List (Active ℕ)) (how : Ended ℕ) (after : State ℕ S) → HasRoom k vs → Calling ls k f vs us s operands → look_of f ≡ look.Func → take_steps w 1 ≡ (Ok tt, late) → MAX_CALL_DEPTH ≤ length callers
      → Segment nat_eq modules begins (with_error late (fault kinds.RangeError (codes "call depth"))) m (rest_of (values nat_eq) (Posts ls k) vss vs (Fails (new_error late))) callers how after → Segment nat_eq modules begins w m (rest_at (values nat_eq) s vss operands) callers how after
  deep us s operands w late callers how after room at h e many seg =
      subst (λ r. Segment nat_eq modules begins w m r callers how after) (sym (at_call us s operands at)) (deep_at w late us callers how after room h e many seg)

  -- no function
  fault_plan : (late : State ℕ S) → Follows (Performs nat_eq modules begins m) (over_names modules begins (rounds_of k) vss late) (faults {A = Term (Value ℕ)} (values nat_eq) kinds.TypeError (codes "not a function")) (Leaves (new_error late))
      (over_names modules begins (rounds_of k) vss (with_error late (fault kinds.TypeError (codes "not a function"))))
  fault_plan late = follows.asks (new_error late) refl follows.ends

  refused_plan : (w late : State ℕ S) (us : List (Value ℕ)) → is_func (look_of f) ≡ false → take_steps w 1 ≡ (Ok tt, late) → Planned w us (Leaves (new_error late)) (with_error late (fault kinds.TypeError (codes "not a function")))
  refused_plan w late us h e =
      follows.asks tt (performs w late (Ok tt) e)
      (subst (λ (p : Plan (Value ℕ) Limit (Term (Value ℕ))). Follows (Performs nat_eq modules begins m) (over_names modules begins (rounds_of k) vss late) p (Leaves (new_error late)) (over_names modules begins (rounds_of k) vss (with_error late (fault kinds.TypeError (codes "not a function")))))
      (sym (refused_by f us (links (values nat_eq) ls) (look_of f) h)) (fault_plan late))

  pub refuses : (us : List (Value ℕ)) (s : Spot) (operands : List (Value ℕ)) (w late : State ℕ S) → HasRoom k vs → Calling ls k f vs us s operands → is_func (look_of f) ≡ false → take_steps w 1 ≡ (Ok tt, late)
      → (r : Rest (Value ℕ)) × (rest_at (values nat_eq) s vss operands ≡ remains modules begins (rounds_of k) vss r) × ThrowsIn modules begins m (rounds_of k) vss w r (new_error late) (with_error late (fault kinds.TypeError (codes "not a function")))
  refuses us s operands w late room at h e = (
    plug (values nat_eq) k vs (with_args us),
    at_call us s operands at,
    plugged.leaves nat_eq modules begins m k vs (new_error late) (over_names modules begins (rounds_of k) vss w) (over_names modules begins (rounds_of k) vss (with_error late (fault kinds.TypeError (codes "not a function")))) (with_args us) room (call_of (are_values us) (refused_plan w late us h e)),
  )
