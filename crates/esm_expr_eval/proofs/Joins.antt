-- The text of a sum.
use Rattle.std.proofs.Common.{◌≡◌, ℕ, ◌<◌, ◌≤◌, nat_lt, Bool, true, false, List, ◌++◌, ◌||◌, refl, ap, sym, ◌∙◌, arith}
use Rattle.std.specs.Prelude.{Option, Some, None, Result, Ok, Err, if◌then◌else◌}
use Rattle.esm_values.specs.Acts.{Act as act}
use Rattle.esm_values.specs.Plans.{Acting, Plan, Follows as follows}
use Rattle.esm_expr_eval.specs.Terms.{Term}
use Rattle.esm_values.specs.Operators.{Look, Look as look, new_error, error_of, joined, either_text, shown, is_text, operand, sum, made}
use Rattle.esm_values.specs.Code.{CodeValue, numbered}
use Rattle.esm_values.specs.Operators.{look_of}
use Rattle.esm_expr_eval.specs.Frames.{IsShown, Copied, Sees, AnswersPlan}
use Rattle.esm_expr_eval.specs.declared.world.Out.{Out}
use Rattle.esm_expr_eval.specs.declared.world.Out.TheVariants as o
use Rattle.esm_expr_eval.specs.declared.world.ExprEnd.{ExprEnd}
use Rattle.esm_expr_eval.specs.declared.world.ExprEnd.TheVariants as ends
use Rattle.esm_expr_eval.specs.declared.sums.Shown.{Shown}

pub joined_of : (l m : Look) (s t : Shown) → IsShown l (Some s) → IsShown m (Some t) → joined l m ≡ (if s.is_text || t.is_text then Some (s.text ++ t.text) else None)
joined_of l m s t a b = rw (a.1, b.1, a.0, b.0) refl

pub joined_left : (l m : Look) → shown l ≡ None → joined l m ≡ None
joined_left l m a = rw a refl

either_right : (l m : Look) (s : Option (List ℕ)) → either_text l m s None ≡ None
either_right l m None = refl
either_right l m (Some s) = refl

pub joined_right : (l m : Look) → shown m ≡ None → joined l m ≡ None
joined_right l m a = rw a (either_right l m (shown l))

module _ {W S : Type 0} (url : W → List ℕ) (acts : Acting W CodeValue S) where
  -- an operand that is no error is seen as it is
  pub sees_plain : (w : W) (v : CodeValue) (l : Look) (is : Bool) (bytes : List ℕ) (r : Result (Option Shown) (ExprEnd S)) → look_of v ≡ l → ((next : Look → Plan CodeValue S (Term CodeValue)) → operand numbered v l next ≡ next l) → is_text l ≡ is → shown l ≡ Some bytes → Copied is bytes r → Sees url acts w v r w
  sees_plain w v l is bytes (Ok (Some s)) e plain a b copied = (l, (a ∙ sym copied.0, b ∙ ap Some (sym copied.1)), λ next c after f. rw (e, plain next) f)
  sees_plain w v l is bytes (Ok None) e plain a b copied = absurd copied
  sees_plain w v l is bytes (Err (ends.Stopped why)) e plain a b copied = absurd copied
  sees_plain w v l is bytes (Err ends.Memory) e plain a b copied = tt

  -- both operands, then what is made of them
  pub sums : (w mid two after : W) (a b : CodeValue) (l m : Option Shown) (r : Result Out (ExprEnd S)) → Sees url acts w a (Ok l) mid → Sees url acts mid b (Ok m) two → ((x y : Look) → IsShown x l → IsShown y m → AnswersPlan url acts two (λ rest. made numbered rest (joined x y)) r after) → AnswersPlan url acts w (λ rest. sum numbered a b rest) r after
  sums w mid two after a b l m (Ok (o.Value v)) s t made = λ rest. s.2 _ _ _ (t.2 _ _ _ (made s.0 t.0 s.1 t.1 rest))
  sums w mid two after a b l m (Ok (o.Thrown v)) s t made = λ rest. s.2 _ _ _ (t.2 _ _ _ (made s.0 t.0 s.1 t.1 rest))
  sums w mid two after a b l m (Err (ends.Stopped why)) s t made = λ rest. s.2 _ _ _ (t.2 _ _ _ (made s.0 t.0 s.1 t.1 rest))
  sums w mid two after a b l m (Err ends.Memory) s t made = tt

  pub sums_left : (w after : W) (a b : CodeValue) (e : ExprEnd S) → Sees url acts w a (Err e) after → AnswersPlan url acts w (λ rest. sum numbered a b rest) (Err e) after
  sums_left w after a b (ends.Stopped why) s = λ rest. s _
  sums_left w after a b ends.Memory s = tt

  pub sums_right : (w mid after : W) (a b : CodeValue) (l : Option Shown) (e : ExprEnd S) → Sees url acts w a (Ok l) mid → Sees url acts mid b (Err e) after → AnswersPlan url acts w (λ rest. sum numbered a b rest) (Err e) after
  sums_right w mid after a b l (ends.Stopped why) s t = λ rest. s.2 _ _ _ (t _)
  sums_right w mid after a b l ends.Memory s t = tt

module _ {W S : Type 0} (url : W → List ℕ) (acts : Acting W CodeValue S) where
  -- an error is shown, then a new one is made with its text as message
  pub shows : (w mid after : W) (v : CodeValue) (text : List ℕ) (r : Result Out (ExprEnd S)) → acts w (act.Display v) (Ok text) mid → AnswersPlan url acts mid (λ rest. new_error numbered rest text) r after → AnswersPlan url acts w (λ rest. error_of numbered rest v look.Error) r after
  shows w mid after v text (Ok (o.Value u)) a h = λ rest. follows.asks text a (h rest)
  shows w mid after v text (Ok (o.Thrown u)) a h = λ rest. follows.asks text a (h rest)
  shows w mid after v text (Err (ends.Stopped why)) a h = λ rest. follows.asks text a (h rest)
  shows w mid after v text (Err ends.Memory) a h = tt

pub lt_true : (m n : ℕ) → m < n → nat_lt m n ≡ true
lt_true m n h = grind (arith, h)

pub lt_false : (m n : ℕ) → n ≤ m → nat_lt m n ≡ false
lt_false m n h = grind (arith, h)
