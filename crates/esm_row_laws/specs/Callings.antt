-- Calls: what is called with which values, and the caller that waits.
use Rattle.std.specs.Prelude.{◌≡◌, ◌<◌, ◌≤◌, ℕ, nat_eq, false, List, [], ◌∷◌, ◌++◌, length, Some, Ok, Err, codes}
use Rattle.esm_base.specs.declared.limits.Limit.{Limit}
use Rattle.esm_base.specs.declared.limits.TheConstants.{MAX_CALL_DEPTH}
use Rattle.esm_tree.specs.Syntax.{none, Links, call}
use Rattle.esm_env.specs.Modules.{Modules}
use Rattle.esm_values.specs.Value.{Value}
use Rattle.esm_values.specs.Errors.{fault}
use Rattle.esm_values.specs.Operators.{values, look_of, is_func}
use Rattle.esm_values.specs.Operators.{Look as look}
use Rattle.esm_values.specs.declared.errors.FaultKind.TheVariants as kinds
use Rattle.esm_expr_eval.specs.Terms.{Term}
use Rattle.esm_expr_eval.specs.Terms.Term.{Waits, Fails}
use Rattle.esm_rewriting.specs.Rest.{Rest, fill_rest}
use Rattle.esm_rewriting.specs.State.{State, Importing, take_steps, new_error, with_error}
use Rattle.esm_rewriting.specs.Acts.{modules_of}
use Rattle.esm_rewriting.specs.Segment.{Active, active, Ended, Segment, called}
use Rattle.esm_rewriting.specs.Segment.{Ended as ended}
use Rattle.esm_row_laws.specs.Spots.{Kont, Posts, Passes, rounds_of, Spot, Has}
use Rattle.esm_row_laws.specs.Rooms.{HasRoom}
use Rattle.esm_row_laws.specs.Remaining.{rest_of, rest_at}
use Rattle.esm_row_laws.specs.Operations.{Values}
use Rattle.esm_row_laws.specs.Landings.{ThrowsIn, remains}

-- the operands with these above, the last of which is on top
abbrev pub above : List (Value ℕ) → List (Value ℕ) → List (Value ℕ)
above [] vs = vs
above (u ∷ us) vs = above us (u ∷ vs)

-- a callee with these arguments, and the operands below, at a call
pub data Calling (ls : Links) (k : Kont) (f : Value ℕ) (vs : List (Value ℕ)) : List (Value ℕ) → Spot → List (Value ℕ) → Type 0 where
  without : Calling ls k f vs [] (Has (Posts (call none ls) k)) (f ∷ vs)
  with_last : (us : List (Value ℕ)) (u : Value ℕ)
      → Calling ls k f vs (us ++ u ∷ []) (Has (Passes (length us) none ls k)) (u ∷ above us (f ∷ vs))

module _ {S : Type 0} (modules : S → Modules ℕ) (begins : Importing ℕ S) where
  -- the caller waits behind its head
  abbrev pub waiting : Links → Kont → Values → List (Value ℕ) → Rest (Value ℕ)
  waiting ls k vss vs = rest_of (values nat_eq) (Posts ls k) vss vs Waits

  pub record CallsLead : Type 0 where
    -- what stands for the call is given to the caller
    pub given : (ls : Links) (k : Kont) (vss : Values) (vs : List (Value ℕ)) (t : Term (Value ℕ))
        → fill_rest t (waiting ls k vss vs) ≡ rest_of (values nat_eq) (Posts ls k) vss vs t
    pub calls : (m : ℕ) (ls : Links) (k : Kont) (f : Value ℕ) (vs us : List (Value ℕ)) (s : Spot) (operands : List (Value ℕ)) (vss : Values)
        (w late : State ℕ S) (callers : List (Active ℕ)) (callee : Active ℕ) (how : Ended ℕ) (after : State ℕ S) → HasRoom k vs
        → Calling ls k f vs us s operands → look_of f ≡ look.Func → take_steps w 1 ≡ (Ok tt, late) → length callers < MAX_CALL_DEPTH
        → called (modules_of modules late) f us ≡ Some callee
        → Segment nat_eq modules begins late callee.at callee.rest (active m (waiting ls k vss vs) ∷ callers) how after
        → Segment nat_eq modules begins w m (rest_at (values nat_eq) s vss operands) callers how after
    pub stops : (m : ℕ) (ls : Links) (k : Kont) (f : Value ℕ) (vs us : List (Value ℕ)) (s : Spot) (operands : List (Value ℕ)) (vss : Values)
        (w late : State ℕ S) (why : Limit) (callers : List (Active ℕ)) → HasRoom k vs → Calling ls k f vs us s operands
        → take_steps w 1 ≡ (Err why, late)
        → Segment nat_eq modules begins w m (rest_at (values nat_eq) s vss operands) callers (ended.Stopped why) late
    -- where as many functions are active as may be, the head throws
    pub deep : (m : ℕ) (ls : Links) (k : Kont) (f : Value ℕ) (vs us : List (Value ℕ)) (s : Spot) (operands : List (Value ℕ)) (vss : Values)
        (w late : State ℕ S) (callers : List (Active ℕ)) (how : Ended ℕ) (after : State ℕ S) → HasRoom k vs
        → Calling ls k f vs us s operands → look_of f ≡ look.Func → take_steps w 1 ≡ (Ok tt, late) → MAX_CALL_DEPTH ≤ length callers
        → Segment nat_eq modules begins (with_error late (fault kinds.RangeError (codes "call depth"))) m
        (rest_of (values nat_eq) (Posts ls k) vss vs (Fails (new_error late))) callers how after
        → Segment nat_eq modules begins w m (rest_at (values nat_eq) s vss operands) callers how after
    -- the call of what is no function throws
    pub refuses : (m : ℕ) (ls : Links) (k : Kont) (f : Value ℕ) (vs us : List (Value ℕ)) (s : Spot) (operands : List (Value ℕ))
        (vss : Values) (w late : State ℕ S) → HasRoom k vs → Calling ls k f vs us s operands → is_func (look_of f) ≡ false
        → take_steps w 1 ≡ (Ok tt, late)
        → (r : Rest (Value ℕ)) × (rest_at (values nat_eq) s vss operands ≡ remains modules begins (rounds_of k) vss r)
        × ThrowsIn modules begins m (rounds_of k) vss w r (new_error late)
        (with_error late (fault kinds.TypeError (codes "not a function")))
