-- What holds wherever no call on the world has stopped, holds wherever a rewriting of an expression doesn't stop.
use Rattle.std.proofs.Common.{ℕ, List}
use Rattle.std.specs.Prelude.{Result, Ok, Err}
use Rattle.esm_values.specs.Acts.{Act, AnswerTo}
use Rattle.esm_values.specs.Plans.{Acting, Rewritten, Plan, Follows, inside}
use Rattle.esm_values.specs.Plans.{Follows as follow}
use Rattle.esm_values.specs.Plans.Rewritten.{Goes, Leaves, Calls, Stops}
use Rattle.esm_values.specs.Operators.{Values}
use Rattle.esm_expr_eval.specs.Terms.{Term, Terms}
use Rattle.esm_expr_eval.specs.Terms.Term.{Val, Sum}
use Rattle.esm_expr_eval.specs.Rewriting.{Rewrites, RewritesIn, or_on, and_on}
use Rattle.esm_expr_eval.specs.Rewriting.Rewrites.{fails, name, or_in, or, and_in, and, equal_in, equal_right, equal, equal_end, sum_in, sum_right, joins, sum_end, not_in, not_of, post_in, member_of, arguments, call_of, post_end, print_in, print, error_in, error, import_in, begins, own_url}
use Rattle.esm_expr_eval.specs.Rewriting.RewritesIn.{first, later}
use Rattle.esm_world.proofs.ExprStops.{NoStop, Never, StopsBy, complete_never, sum_never, error_never, enters_never}

-- Live holds of worlds that nothing has stopped, and Halted of those that were stopped for a reason
module _ {W V S : Type 0} (acts : Acting W V S) (Live : W → Type 0) (Halted : S → W → Type 0) where
  -- where nothing stopped the world is live
  abbrev pub Told : {A : Type 0} → Result A S → W → Type 0
  Told (Ok a) w = Live w
  Told (Err why) w = Halted why w

  abbrev pub Comes : {A : Type 0} → Rewritten V S A → W → Type 0
  Comes (Goes a) w = Live w
  Comes (Leaves v) w = Live w
  Comes (Calls f vs a) w = Live w
  Comes (Stops why) w = Halted why w

  pub record Lives : Type 0 where
    pub call : {v w : W} {a : Act V} {r : Result (AnswerTo a) S} → acts v a r w → Live v → Told r w

  module _ (k : Lives) where
    no_stop : {A : Type 0} (w : W) (c : Rewritten V S A) → NoStop c → Live w → Comes c w
    no_stop w (Goes a) n l = l
    no_stop w (Leaves v) n l = l
    no_stop w (Calls f vs a) n l = l
    no_stop w (Stops why) n l = absurd n

    pub inside_lives : {A B : Type 0} (f : A → B) (w : W) (c : Rewritten V S A) → Comes c w → Comes (inside f c) w
    inside_lives f w (Goes a) s = s
    inside_lives f w (Leaves v) s = s
    inside_lives f w (Calls g vs a) s = s
    inside_lives f w (Stops why) s = s

    pub follows_lives : {A : Type 0} {v w : W} {p : Plan V S A} {c : Rewritten V S A} → Never p → Follows acts v p c w → Live v → Comes c w
    follows_lives {v = v} {c = c} (Never.ends n) follow.ends l = no_stop v c n l
    follows_lives {A = A} {v = v} {w = w} {c = c} (Never.asks n) (follow.asks {mid = mid} r a f) l = follows_lives {v = mid} (n r) f (k.call a l)
    follows_lives (Never.asks n) (follow.stops a) l = k.call a l

    module _ (values : Values V) where
      abbrev Nothing : S → W → Type 0
      Nothing why w = Unit {0}

      quiet : StopsBy acts Nothing
      quiet = record { call = λ p. tt }

      or_lives : (w : W) (v : V) (es : Terms V) → Live w → Comes (or_on {S = S} values v es) w
      or_lives w v Terms.none l = l
      or_lives w v (Terms.more e es) l = l

      and_lives : (w : W) (v : V) (es : Terms V) → Live w → Comes (and_on {S = S} values v es) w
      and_lives w v Terms.none l = l
      and_lives w v (Terms.more e es) l = l

      module _ (url : W → List ℕ) where
        mutual
          pub rewrites_live : {v w : W} {t : Term V} {c : Rewritten V S (Term V)} → Rewrites values url acts v t c w → Live v → Comes c w
          rewrites_live fails l = l
          rewrites_live (name a) l = follows_lives (Never.asks (λ r. complete_never acts Nothing quiet values _ r)) a l
          rewrites_live {w = w} (or_in {c = c} s) l = inside_lives _ w c (rewrites_live s l)
          rewrites_live {w = w} (or {v = v} {es = es}) l = or_lives w v es l
          rewrites_live {w = w} (and_in {c = c} s) l = inside_lives _ w c (rewrites_live s l)
          rewrites_live {w = w} (and {v = v} {es = es}) l = and_lives w v es l
          rewrites_live {w = w} (equal_in {c = c} s) l = inside_lives _ w c (rewrites_live s l)
          rewrites_live {w = w} (equal_right {c = c} s) l = inside_lives _ w c (rewrites_live s l)
          rewrites_live equal l = l
          rewrites_live equal_end l = l
          rewrites_live {w = w} (sum_in {c = c} s) l = inside_lives _ w c (rewrites_live s l)
          rewrites_live {w = w} (sum_right {c = c} s) l = inside_lives _ w c (rewrites_live s l)
          rewrites_live (joins {a = x} {b = y} {es = es} a) l = follows_lives (sum_never acts Nothing quiet values x y (λ z. Sum (Val z) es)) a l
          rewrites_live sum_end l = l
          rewrites_live {w = w} (not_in {c = c} s) l = inside_lives _ w c (rewrites_live s l)
          rewrites_live not_of l = l
          rewrites_live {w = w} (post_in {c = c} s) l = inside_lives _ w c (rewrites_live s l)
          rewrites_live (member_of a) l = follows_lives (Never.asks (λ r. complete_never acts Nothing quiet values _ r)) a l
          rewrites_live {w = w} (arguments {c = c} s) l = inside_lives _ w c (rewrites_in_live s l)
          rewrites_live (call_of {f = f} {vs = vs} {ls = ls} p a) l = follows_lives (Never.asks (λ r. enters_never acts Nothing quiet values f vs ls (values.look f))) a l
          rewrites_live post_end l = l
          rewrites_live {w = w} (print_in {c = c} s) l = inside_lives _ w c (rewrites_in_live s l)
          rewrites_live (print p a) l = follows_lives (Never.asks (λ r. Never.asks (λ r. Never.ends tt))) a l
          rewrites_live {w = w} (error_in {c = c} s) l = inside_lives _ w c (rewrites_live s l)
          rewrites_live (error {v = v} a) l = follows_lives (Never.asks (λ r. error_never acts Nothing quiet values _ v (values.look v))) a l
          rewrites_live {w = w} (import_in {c = c} s) l = inside_lives _ w c (rewrites_live s l)
          rewrites_live (begins a) l = follows_lives (Never.asks (λ r. Never.asks (λ r. Never.ends tt))) a l
          rewrites_live own_url l = l

          rewrites_in_live : {v w : W} {es : Terms V} {c : Rewritten V S (Terms V)} → RewritesIn values url acts v es c w → Live v → Comes c w
          rewrites_in_live {w = w} (first {c = c} s) l = inside_lives _ w c (rewrites_live s l)
          rewrites_in_live {w = w} (later {c = c} s) l = inside_lives _ w c (rewrites_in_live s l)
