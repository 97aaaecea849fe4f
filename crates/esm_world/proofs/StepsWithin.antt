-- No more steps are taken than may be.
use Rattle.std.proofs.Common.{◌≡◌, ℕ, ◌+◌, ◌≤◌, Bool, true, false, List, [], ◌∷◌, Option, Some, None, refl, ap, subst, sym, arith}
use Rattle.std.specs.Prelude.{nat_lt, length}
use Rattle.esm_base.specs.declared.limits.Limit.{Limit}
use Rattle.esm_base.specs.declared.limits.TheConstants.{MAX_STEPS, MAX_CALL_DEPTH}
use Rattle.esm_values.specs.Value.{Value}
use Rattle.esm_values.specs.Acts.{Act, AnswerTo}
use Rattle.esm_values.specs.Acts.{Act as act}
use Rattle.esm_values.specs.Plans.{Rewritten as comes}
use Rattle.esm_values.specs.Operators.{values, text_of}
use Rattle.esm_env.specs.Modules.{Modules}
use Rattle.esm_rewriting.specs.Scopes.{in_scopes}
use Rattle.esm_rewriting.specs.Rest.{Rest}
use Rattle.esm_rewriting.specs.State.{State, Importing, AnswerWith, steps_by}
use Rattle.esm_rewriting.specs.Acts.{Inner, Performs, AnswersAct, over_scopes, modules_of}
use Rattle.esm_rewriting.specs.BodyRewriting.{RewrittenBody, On, Gives, Waits, RewritesBody, own_url}
use Rattle.esm_rewriting.specs.BodyRewriting.RewritesBody.{begins_at, does, drops, sets, writes, throws, returns, prints, chooses, awaits, inner, inner_end, tries, tries_end}
use Rattle.esm_rewriting.specs.Segment.{Active, Ended, Next, Goes, Over, Segment, next_by, call_by, called}
use Rattle.esm_rewriting.specs.Segment.{Segment as segment}
use Rattle.esm_rewriting.proofs.ExprKeeps.{Stays, follows_keeps, step_keeps}
use Rattle.esm_world.proofs.BodyFalls.{steps_of, act_counted, import_counted, set_counted, by_write}

lt_no : (a b : ℕ) → nat_lt a b ≡ false → b ≤ a
lt_no a b e = grind (arith, e)

abbrev pub Within : ℕ → ℕ → Type 0
Within m n = m ≤ MAX_STEPS → n ≤ MAX_STEPS

pub within_same : {m n : ℕ} → n ≡ m → Within m n
within_same {m} {n} e = λ h. omega (arith, e, h)

module _ {N I : Type 0} where
  abbrev told_steps : {A : Type 0} → AnswerWith A (Inner N I) → ℕ
  told_steps t = steps_of t.1

  by_within : (w : Inner N I) (n : ℕ) (b : Bool) → nat_lt MAX_STEPS (steps_of w + n) ≡ b → Within (steps_of w) (told_steps (over_scopes w (steps_by b w.state n)))
  by_within w n true e = λ h. h
  by_within w n false e = λ h. lt_no MAX_STEPS (steps_of w + n) e

module _ {N I : Type 0} (same : N → N → Bool) (modules : I → Modules N) (begins : Importing N I) where
  module _ (m : N) where
    abbrev Keep : Inner N I → Inner N I → Type 0
    Keep v w = Within (steps_of v) (steps_of w)

    act_within : (w : Inner N I) (a : Act (Value N)) (t : AnswerWith (AnswerTo a) (Inner N I)) → AnswersAct same modules begins m w a t → Keep w t.1
    act_within w (act.Read x) t p = within_same (ap (λ t. t.0) (act_counted same modules begins m w (act.Read x) t tt p))
    act_within w (act.Member of x) t p = within_same (ap (λ t. t.0) (act_counted same modules begins m w (act.Member of x) t tt p))
    act_within w (act.Display of) t p = within_same (ap (λ t. t.0) (act_counted same modules begins m w (act.Display of) t tt p))
    act_within w (act.Print vs) t p = within_same (ap (λ t. t.0) (act_counted same modules begins m w (act.Print vs) t tt p))
    act_within w (act.Fault kind message) t p = within_same (ap (λ t. t.0) (act_counted same modules begins m w (act.Fault kind message) t tt p))
    act_within w (act.Step n) t p = λ h. subst (λ k. k ≤ MAX_STEPS) (sym (ap (λ t. steps_of t.1) p)) (by_within w n (nat_lt MAX_STEPS (steps_of w + n)) refl h)
    act_within w (act.Import of) t p = within_same (import_counted same modules begins m w (text_of w.state.outer.errors of) t p)

    acts_stay : Stays (Performs same modules begins m) Keep
    acts_stay = record { same = λ w h. h; on = λ p q h. q (p h); call = λ {v} {w} {a} {r} p. act_within v a (r, w) p }

    moves_within : {v : Inner N I} {r : Rest (Value N)} {move : RewrittenBody (Value N) Limit} {w : Inner N I} → RewritesBody same modules begins m v r move w → Keep v w
    moves_within (begins_at p) = follows_keeps (Performs same modules begins m) Keep acts_stay p
    moves_within (does s) = step_keeps (Performs same modules begins m) Keep acts_stay (values same) (own_url same modules begins m) s
    moves_within drops = λ h. h
    moves_within {v} (sets {x = x} {v = u}) = within_same (ap (λ t. t.0) (set_counted same modules begins m v.scopes v.state x u))
    moves_within {v} (writes {x = x} {v = u}) = within_same (ap (λ t. t.0) (by_write same modules begins m v x u (in_scopes v.scopes x)))
    moves_within throws = λ h. h
    moves_within returns = λ h. h
    moves_within (prints p) = follows_keeps (Performs same modules begins m) Keep acts_stay p
    moves_within chooses = λ h. h
    moves_within awaits = λ h. h
    moves_within (inner p) = moves_within p
    moves_within inner_end = λ h. h
    moves_within (tries p) = moves_within p
    moves_within tries_end = λ h. h

  abbrev next_steps : Next N I → ℕ
  next_steps (Goes m r cs w) = w.engine.steps
  next_steps (Over how w) = w.engine.steps

  abbrev IsSame : State N I → Option (Next N I) → Type 0
  IsSame w None = Unit {0}
  IsSame w (Some n) = next_steps n ≡ w.engine.steps

  by_call : (b : Bool) (m : N) (s : Rest (Value N)) (cs : List (Active N)) (w : State N I) (callee : Option (Active N)) → IsSame w (call_by same modules begins b m s cs w callee)
  by_call true m s cs w (Some c) = refl
  by_call true m s cs w None = tt
  by_call false m s cs w callee = refl

  next_same : (m : N) (cs : List (Active N)) (move : RewrittenBody (Value N) Limit) (w : State N I) → IsSame w (next_by same modules begins m cs move w)
  next_same m cs (On (comes.Goes s)) w = refl
  next_same m [] (On (comes.Leaves v)) w = refl
  next_same m (c ∷ cs) (On (comes.Leaves v)) w = refl
  next_same m cs (On (comes.Calls f vs s)) w = by_call (nat_lt (length cs) MAX_CALL_DEPTH) m s cs w (called (modules_of modules w) f vs)
  next_same m cs (On (comes.Stops why)) w = refl
  next_same m [] (Gives v) w = tt
  next_same m (c ∷ cs) (Gives v) w = refl
  next_same m [] (Waits v s) w = refl
  next_same m (c ∷ cs) (Waits v s) w = tt

  next_is : (w : State N I) {o : Option (Next N I)} {n : Next N I} → o ≡ Some n → IsSame w o → next_steps n ≡ w.engine.steps
  next_is w e h = subst (λ o. IsSame w o) e h

  pub segment_within : {v : State N I} {m : N} {r : Rest (Value N)} {cs : List (Active N)} {how : Ended N} {w : State N I} → Segment same modules begins v m r cs how w → Within v.engine.steps w.engine.steps
  segment_within segment.ends = λ h. h
  segment_within (segment.returns p) = segment_within p
  segment_within {m = m} {cs = cs} (segment.goes {mid = mid} move p e q) = λ h. segment_within q (within_same (next_is mid e (next_same m cs move mid)) (moves_within m p h))
  segment_within {m = m} {cs = cs} (segment.over {mid = mid} move p e) = λ h. within_same (next_is mid e (next_same m cs move mid)) (moves_within m p h)
