-- What holds wherever a call on the world stops, holds wherever a rewriting of an expression stops.
use Rattle.std.proofs.Common.{ℕ, List, Bool, true, false, Option, Some, None}
use Rattle.std.specs.Prelude.{Err, nat_lt, length, if◌then◌else◌}
use Rattle.esm_base.specs.declared.limits.TheConstants.{MAX_TEXT_BYTES}
use Rattle.esm_values.specs.Acts.{Act, AnswerTo}
use Rattle.esm_values.specs.Completion.{Completion, Normal, Throw}
use Rattle.esm_values.specs.Plans.{Acting, Rewritten, Plan, Follows, inside}
use Rattle.esm_values.specs.Plans.{Follows as follow}
use Rattle.esm_values.specs.Plans.Rewritten.{Goes, Leaves, Calls, Stops}
use Rattle.esm_values.specs.Plans.Plan.{Ends, Asks}
use Rattle.esm_values.specs.Operators.{Look, Textual, Known, Displayed, Refused, Values, textual, joined, made, operand, sum, complete, to_text_by, error_of, new_error}
use Rattle.esm_values.specs.Operators.{Look as look}
use Rattle.esm_expr_eval.specs.Terms.{Term, Terms, LinkTerms}
use Rattle.esm_expr_eval.specs.Terms.Term.{Val, Sum}
use Rattle.esm_expr_eval.specs.Rewriting.{Rewrites, RewritesIn, or_on, and_on, enters}
use Rattle.esm_expr_eval.specs.Rewriting.Rewrites.{fails, name, or_in, or, and_in, and, equal_in, equal_right, equal, equal_end, sum_in, sum_right, joins, sum_end, not_in, not_of, post_in, member_of, arguments, call_of, post_end, print_in, print, error_in, error, import_in, begins, own_url}
use Rattle.esm_expr_eval.specs.Rewriting.RewritesIn.{first, later}

abbrev pub NoStop : {V S A : Type 0} → Rewritten V S A → Type 0
NoStop (Goes a) = Unit {0}
NoStop (Leaves v) = Unit {0}
NoStop (Calls f vs a) = Unit {0}
NoStop (Stops why) = ⊥

-- the plan itself has no stop
pub data Never {V S A : Type 0} : Plan V S A → Type 0 where
  ends : {c : Rewritten V S A} → NoStop c → Never (Ends c)
  asks : {a : Act V} {next : AnswerTo a → Plan V S A} → ((r : AnswerTo a) → Never (next r)) → Never (Asks a next)

-- where it stops, this holds of the reason and the world
abbrev pub StopsAs : {V S A W : Type 0} → (S → W → Type 0) → Rewritten V S A → W → Type 0
StopsAs P (Goes a) w = Unit {0}
StopsAs P (Leaves v) w = Unit {0}
StopsAs P (Calls f vs a) w = Unit {0}
StopsAs P (Stops why) w = P why w

pub record StopsBy {W V S : Type 0} (acts : Acting W V S) (P : S → W → Type 0) : Type 0 where
  pub call : {v w : W} {a : Act V} {why : S} → acts v a (Err why) w → P why w

module _ {W V S : Type 0} (acts : Acting W V S) (P : S → W → Type 0) (k : StopsBy acts P) where
  no_stop : {A : Type 0} (w : W) (c : Rewritten V S A) → NoStop c → StopsAs P c w
  no_stop w (Goes a) n = tt
  no_stop w (Leaves v) n = tt
  no_stop w (Calls f vs a) n = tt
  no_stop w (Stops why) n = absurd n

  pub inside_stop : {A B : Type 0} (f : A → B) (w : W) (c : Rewritten V S A) → StopsAs P c w → StopsAs P (inside f c) w
  inside_stop f w (Goes a) s = tt
  inside_stop f w (Leaves v) s = tt
  inside_stop f w (Calls g vs a) s = tt
  inside_stop f w (Stops why) s = s

  pub follows_stop : {A : Type 0} {v w : W} {p : Plan V S A} {c : Rewritten V S A} → Never p → Follows acts v p c w → StopsAs P c w
  follows_stop {v = v} {c = c} (Never.ends n) follow.ends = no_stop v c n
  follows_stop {A = A} {v = v} {w = w} {c = c} (Never.asks n) (follow.asks {mid = mid} r a f) = follows_stop {v = mid} (n r) f
  follows_stop (Never.asks n) (follow.stops a) = k.call a

  module _ (values : Values V) where
    abbrev Plans : Type 0 → Type 0
    Plans A = Plan V S A

    pub complete_never : {A : Type 0} (rest : V → A) (c : Completion V) → Never {S = S} (complete values rest c)
    complete_never rest (Normal v) = Never.ends tt
    complete_never rest (Throw v) = Never.ends tt

    by_if : {A : Type 0} (b : Bool) {p q : Plans A} → Never p → Never q → Never (if b then p else q)
    by_if true n m = n
    by_if false n m = m

    made_never : {A : Type 0} (rest : V → A) (o : Option (List ℕ)) → Never {S = S} (made values rest o)
    made_never rest None = Never.asks (λ r. Never.ends tt)
    made_never rest (Some t) = by_if (nat_lt MAX_TEXT_BYTES (length t)) (Never.asks (λ r. Never.ends tt)) (Never.asks (λ r. Never.ends tt))

    operand_never : {A : Type 0} (v : V) (l : Look) (next : Look → Plans A) → ((l : Look) → Never (next l)) → Never (operand values v l next)
    operand_never v look.Undefined next h = h look.Undefined
    operand_never v (look.Truth b) next h = h (look.Truth b)
    operand_never v (look.Text t) next h = h (look.Text t)
    operand_never v look.Func next h = h look.Func
    operand_never v look.Error next h = Never.asks (λ t. h (look.Text t))
    operand_never v look.Other next h = h look.Other

    pub sum_never : {A : Type 0} (a b : V) (rest : V → A) → Never {S = S} (sum values a b rest)
    sum_never a b rest = operand_never a (values.look a) _ (λ l. operand_never b (values.look b) _ (λ m. made_never rest (joined l m)))

    text_never : {A : Type 0} (v : V) (t : Textual) (next : List ℕ → Plans A) → ((s : List ℕ) → Never (next s)) → Never (to_text_by values v t next)
    text_never v (Known t) next h = h t
    text_never v Displayed next h = Never.asks h
    text_never v Refused next h = Never.asks (λ r. Never.ends tt)

    pub error_never : {A : Type 0} (rest : V → A) (v : V) (l : Look) → Never {S = S} (error_of values rest v l)
    error_never rest v look.Undefined = Never.asks (λ r. Never.ends tt)
    error_never rest v (look.Truth b) = text_never v (textual (look.Truth b)) (new_error values rest) (λ s. Never.asks (λ r. Never.ends tt))
    error_never rest v (look.Text t) = text_never v (textual (look.Text t)) (new_error values rest) (λ s. Never.asks (λ r. Never.ends tt))
    error_never rest v look.Func = text_never v (textual look.Func) (new_error values rest) (λ s. Never.asks (λ r. Never.ends tt))
    error_never rest v look.Error = text_never v (textual look.Error) (new_error values rest) (λ s. Never.asks (λ r. Never.ends tt))
    error_never rest v look.Other = text_never v (textual look.Other) (new_error values rest) (λ s. Never.asks (λ r. Never.ends tt))

    pub enters_never : (f : V) (vs : List V) (ls : LinkTerms V) (l : Look) → Never {S = S} (enters values f vs ls l)
    enters_never f vs ls look.Undefined = Never.asks (λ r. Never.ends tt)
    enters_never f vs ls (look.Truth b) = Never.asks (λ r. Never.ends tt)
    enters_never f vs ls (look.Text t) = Never.asks (λ r. Never.ends tt)
    enters_never f vs ls look.Func = Never.ends tt
    enters_never f vs ls look.Error = Never.asks (λ r. Never.ends tt)
    enters_never f vs ls look.Other = Never.asks (λ r. Never.ends tt)

    or_stop : (w : W) (v : V) (es : Terms V) → StopsAs P (or_on {S = S} values v es) w
    or_stop w v Terms.none = tt
    or_stop w v (Terms.more e es) = tt

    and_stop : (w : W) (v : V) (es : Terms V) → StopsAs P (and_on {S = S} values v es) w
    and_stop w v Terms.none = tt
    and_stop w v (Terms.more e es) = tt

    module _ (url : W → List ℕ) where
      mutual
        pub rewrites_stop : {v w : W} {t : Term V} {c : Rewritten V S (Term V)} → Rewrites values url acts v t c w → StopsAs P c w
        rewrites_stop fails = tt
        rewrites_stop (name a) = follows_stop (Never.asks (λ r. complete_never _ r)) a
        rewrites_stop {w = w} (or_in {c = c} s) = inside_stop _ w c (rewrites_stop s)
        rewrites_stop {w = w} (or {v = v} {es = es}) = or_stop w v es
        rewrites_stop {w = w} (and_in {c = c} s) = inside_stop _ w c (rewrites_stop s)
        rewrites_stop {w = w} (and {v = v} {es = es}) = and_stop w v es
        rewrites_stop {w = w} (equal_in {c = c} s) = inside_stop _ w c (rewrites_stop s)
        rewrites_stop {w = w} (equal_right {c = c} s) = inside_stop _ w c (rewrites_stop s)
        rewrites_stop equal = tt
        rewrites_stop equal_end = tt
        rewrites_stop {w = w} (sum_in {c = c} s) = inside_stop _ w c (rewrites_stop s)
        rewrites_stop {w = w} (sum_right {c = c} s) = inside_stop _ w c (rewrites_stop s)
        rewrites_stop (joins {a = x} {b = y} {es = es} a) = follows_stop (sum_never x y (λ z. Sum (Val z) es)) a
        rewrites_stop sum_end = tt
        rewrites_stop {w = w} (not_in {c = c} s) = inside_stop _ w c (rewrites_stop s)
        rewrites_stop not_of = tt
        rewrites_stop {w = w} (post_in {c = c} s) = inside_stop _ w c (rewrites_stop s)
        rewrites_stop (member_of a) = follows_stop (Never.asks (λ r. complete_never _ r)) a
        rewrites_stop {w = w} (arguments {c = c} s) = inside_stop _ w c (rewrites_in_stop s)
        rewrites_stop (call_of {f = f} {vs = vs} {ls = ls} p a) = follows_stop (Never.asks (λ r. enters_never f vs ls (values.look f))) a
        rewrites_stop post_end = tt
        rewrites_stop {w = w} (print_in {c = c} s) = inside_stop _ w c (rewrites_in_stop s)
        rewrites_stop (print p a) = follows_stop (Never.asks (λ r. Never.asks (λ r. Never.ends tt))) a
        rewrites_stop {w = w} (error_in {c = c} s) = inside_stop _ w c (rewrites_stop s)
        rewrites_stop (error {v = v} a) = follows_stop (Never.asks (λ r. error_never _ v (values.look v))) a
        rewrites_stop {w = w} (import_in {c = c} s) = inside_stop _ w c (rewrites_stop s)
        rewrites_stop (begins a) = follows_stop (Never.asks (λ r. Never.asks (λ r. Never.ends tt))) a
        rewrites_stop own_url = tt

        rewrites_in_stop : {v w : W} {es : Terms V} {c : Rewritten V S (Terms V)} → RewritesIn values url acts v es c w → StopsAs P c w
        rewrites_in_stop {w = w} (first {c = c} s) = inside_stop _ w c (rewrites_stop s)
        rewrites_in_stop {w = w} (later {c = c} s) = inside_stop _ w c (rewrites_in_stop s)
