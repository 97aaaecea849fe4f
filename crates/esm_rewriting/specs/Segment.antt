-- A segment of a body: rewriting until the body ends, a throw leaves it, it stands at an await, or a limit is passed.
-- A function that was called runs in front of those rests that have no value for their call yet.
use Rattle.std.specs.Prelude.{◌≡◌, nat_lt, Bool, true, false, List, [], ◌∷◌, length, Option, Some, None, codes}
use Rattle.esm_base.specs.declared.limits.Limit.{Limit}
use Rattle.esm_env.specs.Declarations.{FunctionCode}
use Rattle.esm_values.specs.Value.{Value, Undefined, Func}
use Rattle.esm_values.specs.Errors.{fault}
use Rattle.esm_values.specs.Plans.{Rewritten as comes}
use Rattle.esm_values.specs.declared.errors.FaultKind.TheVariants as kinds
use Rattle.esm_expr_eval.specs.Terms.{Term}
use Rattle.esm_expr_eval.specs.Terms.Term.{Val, Fails}
use Rattle.esm_env.specs.Modules.{Modules, function_of}
use Rattle.esm_rewriting.specs.Scopes.{call_scope}
use Rattle.esm_rewriting.specs.Rest.{Rest, end, more, whole, fill_rest}
use Rattle.esm_rewriting.specs.Rest.Part.{In}
use Rattle.esm_rewriting.specs.State.{State, Importing, new_error, with_error}
use Rattle.esm_base.specs.declared.limits.TheConstants.{MAX_CALL_DEPTH}
use Rattle.esm_rewriting.specs.Acts.{modules_of}
use Rattle.esm_rewriting.specs.BodyRewriting.{RewrittenBody, On, Gives, Waits, RewritesBody}

-- a function or a body under way: the module in which it stands written, and what remains of it
pub record Active (N : Type 0) : Type 0 where
  pub at : N
  pub rest : Rest (Value N)

abbrev pub active : {N : Type 0} → N → Rest (Value N) → Active N
active m rest = record { at = m; rest = rest }

-- how a segment ends
pub data Ended (N : Type 0) : Type 0 where
  Normal : Ended N
  Thrown : (v : Value N) → Ended N
  Awaiting : (v : Value N) (rest : Rest (Value N)) → Ended N
  Stopped : (why : Limit) → Ended N

-- a rest that goes on, with its callers, or the end
pub data Next (N I : Type 0) : Type 0 where
  Goes : (m : N) (rest : Rest (Value N)) (callers : List (Active N)) (w : State N I) → Next N I
  Over : (how : Ended N) (w : State N I) → Next N I

abbrev pub called_by : {N : Type 0} → N → List (Value N) → Option FunctionCode → Option (Active N)
called_by m vs None = None
called_by m vs (Some f) = Some (active m (more (In (call_scope Undefined f vs) (whole f.body)) end))

-- the call of a function: a scope with its parameters, and its body
abbrev pub called : {N : Type 0} → Modules N → Value N → List (Value N) → Option (Active N)
called g (Func m index) vs = called_by m vs (function_of g m index)
called g v vs = None

module _ {N I : Type 0} (same : N → N → Bool) (modules : I → Modules N) (begins : Importing N I) where
  -- a rewriting of what stands in no block
  abbrev pub RewritesOutermost : N → State N I → Rest (Value N) → RewrittenBody (Value N) Limit → State N I → Type 0
  RewritesOutermost m w rest move after = RewritesBody same modules begins m (record { scopes = []; state = w }) rest move (record {
    scopes =
        [];
    state = after;
  })

  abbrev pub too_deep : State N I → State N I
  too_deep w = with_error w (fault kinds.RangeError (codes "call depth"))

  abbrev pub call_by : Bool → N → Rest (Value N) → List (Active N) → State N I → Option (Active N) → Option (Next N I)
  call_by true m s callers w (Some callee) = Some (Goes callee.at callee.rest (active m s ∷ callers) w)
  call_by true m s callers w None = None
  call_by false m s callers w callee = Some (Goes m (fill_rest (Fails (new_error w)) s) callers (too_deep w))

  -- the caller goes on with what stands for its call
  abbrev pub return_to : Term (Value N) → List (Active N) → State N I → Option (Next N I)
  return_to given [] w = None
  return_to given (c ∷ cs) w = Some (Goes c.at (fill_rest given c.rest) cs w)

  abbrev pub throw_to : Value N → List (Active N) → State N I → Option (Next N I)
  throw_to v [] w = Some (Over (Thrown v) w)
  throw_to v (c ∷ cs) w = return_to (Fails v) (c ∷ cs) w

  abbrev pub wait_by : Value N → Rest (Value N) → List (Active N) → State N I → Option (Next N I)
  wait_by v s [] w = Some (Over (Awaiting v s) w)
  wait_by v s (c ∷ cs) w = None

  -- what follows a rewriting, where these are the callers of what runs. ECMA-262, EvaluateCall and Return; own: at most
  -- MAX_CALL_DEPTH functions are active. There is no return from a body, and no await in a function
  abbrev pub next_by : N → List (Active N) → RewrittenBody (Value N) Limit → State N I → Option (Next N I)
  next_by m callers (On (comes.Goes s)) w = Some (Goes m s callers w)
  next_by m callers (On (comes.Leaves v)) w = throw_to v callers w
  next_by m callers (On (comes.Calls f vs s)) w = call_by (nat_lt (length callers) MAX_CALL_DEPTH) m s callers w
      (called (modules_of modules w) f vs)
  next_by m callers (On (comes.Stops why)) w = Some (Over (Stopped why) w)
  next_by m callers (Gives v) w = return_to (Val v) callers w
  next_by m callers (Waits v s) w = wait_by v s callers w

  -- ECMA-262, EvaluateBody and EvaluateCall, with the running execution contexts as a list.
  -- Segment w m rest callers how after: this rest, written in the module m, runs, and these are its callers, the last of them
  -- the body
  pub data Segment : State N I → N → Rest (Value N) → List (Active N) → Ended N → State N I → Type 0 where
    ends : {w : State N I} {m : N} → Segment w m end [] Normal w
    returns : {w after : State N I} {m : N} {c : Active N} {cs : List (Active N)} {how : Ended N}
        → Segment w c.at (fill_rest (Val Undefined) c.rest) cs how after → Segment w m end (c ∷ cs) how after
    goes : {w mid late after : State N I} {m n : N} {r s : Rest (Value N)} {callers others : List (Active N)} {how : Ended N}
        (move : RewrittenBody (Value N) Limit) → RewritesOutermost m w r move mid → next_by m callers move mid ≡ Some (Goes n s others late)
        → Segment late n s others how after → Segment w m r callers how after
    over : {w mid after : State N I} {m : N} {r : Rest (Value N)} {callers : List (Active N)} {how : Ended N}
        (move : RewrittenBody (Value N) Limit) → RewritesOutermost m w r move mid → next_by m callers move mid ≡ Some (Over how after)
        → Segment w m r callers how after
