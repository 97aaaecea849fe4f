-- What an expression under way stands for.
use Rattle.std.specs.Prelude.{◌≡◌, ℕ, List, length, Option, Some, None, IfSome, Result, Ok, Err}
use Rattle.esm_tree.specs.Syntax as ast
use Rattle.esm_values.specs.Plans.{Acting}
use Rattle.std.specs.Arc.{arc_value}
use Rattle.esm_expr_eval.specs.Terms.{Term, fill}
use Rattle.esm_expr_eval.specs.Terms.Term.{Val, Waits}
use Rattle.esm_expr_eval.specs.Ends.{Leads, TermEnd}
use Rattle.esm_values.specs.Code.{CodeValue, value_of, values_of, func_value, numbered}
use Rattle.esm_expr_eval.specs.Frames.{around, at_focus, AreFrames, IsFocus}
use Rattle.esm_values.specs.declared.value.Value.{Value}
use Rattle.esm_expr_eval.specs.declared.frame.Frame.{Frame}
use Rattle.esm_expr_eval.specs.declared.frame.Focus.{Focus}
use Rattle.esm_expr_eval.specs.declared.machine.ExprFrame.{ExprFrame}
use Rattle.esm_expr_eval.specs.declared.machine.Move.{Move}
use Rattle.esm_expr_eval.specs.declared.machine.Move.TheVariants as move
use Rattle.esm_expr_eval.specs.declared.world.ExprEnd.{ExprEnd}
use Rattle.esm_expr_eval.specs.declared.world.ExprEnd.TheVariants as ends

module _ {W S : Type 0} (url : W → List ℕ) (acts : Acting W CodeValue S) where
  -- the answer is that to which rewriting leads, and behind a call the rest is what remains
  abbrev pub LeadsToMove : W → Term CodeValue → Result Move (ExprEnd S) → W → Term CodeValue → Type 0
  LeadsToMove w t (Ok (move.Value v)) after rest = Leads numbered url acts w t (TermEnd.Value (value_of v)) after
  LeadsToMove w t (Ok (move.Thrown v)) after rest = Leads numbered url acts w t (TermEnd.Thrown (value_of v)) after
  LeadsToMove w t (Ok (move.Call f vs)) after rest =
      Leads numbered url acts w t (TermEnd.Call (func_value f) (values_of vs.items) rest) after
  LeadsToMove w t (Err (ends.Stopped why)) after rest = Leads numbered url acts w t (TermEnd.Stopped why) after
  LeadsToMove w t (Err ends.Memory) after rest = Unit {0}

  abbrev pub FramesLeadToMove : List ast.Expr → W → Term CodeValue → Result Move (ExprEnd S) → W → List Frame → Type 0
  FramesLeadToMove exprs w t r after frames = LeadsToMove w t r after (around exprs frames Waits)

abbrev pub KeepsFrames : {S : Type 0} → List ast.Expr → Result Move (ExprEnd S) → List Frame → Type 0
KeepsFrames exprs (Ok (move.Value v)) frames = Unit {0}
KeepsFrames exprs (Ok (move.Thrown v)) frames = Unit {0}
KeepsFrames exprs (Ok (move.Call f vs)) frames = AreFrames (length exprs) frames
KeepsFrames exprs (Err end) frames = Unit {0}

-- the part under way, or the call whose value isn't there yet
abbrev pub at_rest : List ast.Expr → Option Focus → Term CodeValue
at_rest exprs None = Waits
at_rest exprs (Some focus) = at_focus exprs focus

-- what remains
abbrev pub rest_of : ExprFrame → Term CodeValue
rest_of s = around (arc_value s.tree).exprs s.frames.items (at_rest (arc_value s.tree).exprs s.focus)

abbrev pub IsSound : ExprFrame → Type 0
IsSound s = AreFrames (length (arc_value s.tree).exprs) s.frames.items × IfSome s.focus (IsFocus (length (arc_value s.tree).exprs))

-- a value is given just where a call is under way
abbrev pub IsGiven : Option Value → Option Focus → Type 0
IsGiven None None = ⊥
IsGiven None (Some focus) = Unit {0}
IsGiven (Some v) None = Unit {0}
IsGiven (Some v) (Some focus) = ⊥

abbrev pub with_given : Option Value → Term CodeValue → Term CodeValue
with_given None t = t
with_given (Some v) t = fill (Val (value_of v)) t

abbrev pub StaysSound : {S : Type 0} → Result Move (ExprEnd S) → ExprFrame → Type 0
StaysSound (Ok (move.Value v)) s = Unit {0}
StaysSound (Ok (move.Thrown v)) s = Unit {0}
StaysSound (Ok (move.Call f vs)) s = IsSound s × (s.focus ≡ None)
StaysSound (Err end) s = Unit {0}
