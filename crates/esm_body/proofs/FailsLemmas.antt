-- A throw of a function is one of the expression that called it.
use Rattle.std.proofs.Common.{◌≡◌, ℕ, nat_eq, Bool, refl, subst, sym, ◌∙◌}
use Rattle.std.specs.Prelude.{Result}
use Rattle.std.specs.Arc.{arc_value}
use Rattle.esm_values.specs.Code.{CodeValue, value_of, numbered}
use Rattle.esm_values.specs.declared.value.Value.{Value}
use Rattle.esm_values.specs.Plans.{Rewritten as comes}
use Rattle.esm_expr_eval.specs.Frames.{around}
use Rattle.esm_expr_eval.specs.Machine.{rest_of, at_rest}
use Rattle.esm_expr_eval.specs.Rewriting.{Rewrites}
use Rattle.esm_expr_eval.specs.Rewriting.{Rewrites as step}
use Rattle.esm_expr_eval.specs.Terms.{fill}
use Rattle.esm_expr_eval.specs.Terms.Term.{Fails}
use Rattle.esm_expr_eval.proofs.Ends.{fill_around}
use Rattle.esm_expr_eval.proofs.Steps.{rewritten}
use Rattle.esm_promise.specs.Outer.{Outer}
use Rattle.esm_env.specs.Modules.{Modules}
use Rattle.esm_rewriting.specs.Rest.{more}
use Rattle.esm_rewriting.specs.Rest.{Part as parts}
use Rattle.esm_rewriting.specs.State.{Importing}
use Rattle.esm_rewriting.specs.Acts.{Performs}
use Rattle.esm_rewriting.specs.BodyRewriting.{own_url}
use Rattle.esm_rewriting.specs.BodyRewriting.{RewritesBody as rule}
use Rattle.esm_rewriting.specs.Fits.{Kind}
use Rattle.esm_rewriting.specs.Chains.{only}
use Rattle.esm_body.specs.Inner.Running.{doing_filled}
use Rattle.esm_body.specs.Code.{innermost, awaited_by, use_of}
use Rattle.esm_body.specs.Inner.Turn.{IsCalling, IsReadyFor, Threw, Turned}
use Rattle.esm_body.specs.Inner.World.{inner_of}
use Rattle.esm_body.specs.declared.inside.Inside.{Inside}
use Rattle.esm_rewriting.specs.declared.stop.Stop.{Stop}
use Rattle.esm_body.specs.declared.turn.Outcome.{Outcome}
use Rattle.esm_body.specs.declared.work.Doing.{Doing}
use Rattle.esm_body.proofs.TurnParts.{keeps_itself, front_throws, threw_turned}

module _ {I S : Type 0} (seen : I → S) (modules : S → Modules ℕ) (linked : S → ℕ → Bool) (fits : Outer ℕ S → Type 0) (begins : Importing ℕ S) where
  -- the frames of the expression, round what threw
  filled : (n : ℕ) (d : Doing) (v : CodeValue) → IsCalling n d → fill (Fails v) (rest_of d.frame) ≡ around (arc_value d.frame.tree).exprs d.frame.frames.items (Fails v)
  filled n d v c =
      fill_around (Fails v) (arc_value d.frame.tree).exprs d.frame.frames.items (at_rest (arc_value d.frame.tree).exprs d.frame.focus)
      ∙ (λ j. around (arc_value d.frame.tree).exprs d.frame.frames.items (fill (Fails v) (at_rest (arc_value d.frame.tree).exprs (c.waits j))))

  leaves : (w : Inside I) (n : ℕ) (d : Doing) (v : CodeValue) → IsCalling n d
      → Rewrites numbered (own_url nat_eq modules begins w.code.now.at.0) (Performs nat_eq modules begins w.code.now.at.0) (inner_of seen w) (fill (Fails v) (rest_of d.frame)) (comes.Leaves v) (inner_of seen w)
  leaves w n d v c =
      subst (λ t. Rewrites numbered (own_url nat_eq modules begins w.code.now.at.0) (Performs nat_eq modules begins w.code.now.at.0) (inner_of seen w) t (comes.Leaves v) (inner_of seen w)) (sym (filled n d v c))
      (rewritten (own_url nat_eq modules begins w.code.now.at.0) (Performs nat_eq modules begins w.code.now.at.0) (arc_value d.frame.tree).exprs d.frame.frames.items step.fails)

  pub fails_turned : (w after : Inside I) (k : Kind) (n : ℕ) (d : Doing) (v : Value) (result : Result Outcome Stop) → IsCalling n d → IsReadyFor seen modules linked fits begins w k (doing_filled w.code.now d (Fails (value_of v))) → Threw w v result after
      → Turned seen modules linked fits begins w (doing_filled w.code.now d (Fails (value_of v))) result after
  fails_turned w after k n d v result c r t =
      threw_turned seen modules linked fits begins w w after (doing_filled w.code.now d (Fails (value_of v))) v result refl refl (keeps_itself seen modules linked fits begins w r.made) t
      (only (front_throws seen modules linked fits begins w
      (more (parts.Does (awaited_by (arc_value w.code.now.tree).stmts d.awaits (use_of (arc_value w.code.now.tree).stmts d.purpose)) (fill (Fails (value_of v)) (rest_of d.frame))) (innermost (arc_value w.code.now.tree).stmts w.code.now.levels.items))
      (value_of v) (inner_of seen w) refl (rule.does (leaves w n d (value_of v) c))))
