-- A stack with one more frame.
use Rattle.std.proofs.Common.{◌≡◌, ℕ, ◌+◌, List, [], ◌∷◌, ◌++◌, length, refl, ap, arith}
use Rattle.esm_tree.specs.Syntax as ast
use Rattle.esm_expr_eval.specs.Terms.{Term}
use Rattle.esm_values.specs.Code.{CodeValue}
use Rattle.esm_expr_eval.specs.Frames.{plug, around, IsFrame, AreFrames, frame_work, frames_work}
use Rattle.esm_expr_eval.specs.declared.frame.Frame.{Frame}

pub around_push : (exprs : List ast.Expr) (frames : List Frame) (frame : Frame) (t : Term CodeValue) → around exprs (frames ++ frame ∷ []) t ≡ around exprs frames (plug exprs frame t)
unfolding around
around_push exprs [] frame t = refl
around_push exprs (f ∷ frames) frame t = ap (plug exprs f) (around_push exprs frames frame t)

pub work_push : (exprs : List ast.Expr) (frames : List Frame) (frame : Frame) → frames_work exprs (frames ++ frame ∷ []) ≡ frames_work exprs frames + frame_work exprs frame
unfolding frames_work
work_push exprs [] frame = omega arith
work_push exprs (f ∷ frames) frame = let e = work_push exprs frames frame in omega (arith, e)

pub frames_push : (n : ℕ) (frames : List Frame) (frame : Frame) → AreFrames n frames → IsFrame n frame → AreFrames n (frames ++ frame ∷ [])
unfolding AreFrames
frames_push n [] frame all is = (is, tt)
frames_push n (f ∷ frames) frame all is = (all.0, frames_push n frames frame all.1 is)

pub frames_pop : (n : ℕ) (frames : List Frame) (frame : Frame) → AreFrames n (frames ++ frame ∷ []) → AreFrames n frames × IsFrame n frame
unfolding AreFrames
frames_pop n [] frame all = (tt, all.0)
frames_pop n (f ∷ frames) frame all = let r = frames_pop n frames frame all.1 in ((all.0, r.0), r.1)

pub around_none : (exprs : List ast.Expr) (frames : List Frame) (t : Term CodeValue) → length frames ≡ 0 → around exprs frames t ≡ t
unfolding around
around_none exprs [] t h = refl
around_none exprs (f ∷ frames) t h = absurd (omega (arith, h))

pub around_empty : (exprs : List ast.Expr) (t : Term CodeValue) → around exprs [] t ≡ t
unfolding around
around_empty exprs t = refl

pub no_frames : (n : ℕ) → AreFrames n []
unfolding AreFrames
no_frames n = tt
