-- A rewriting of an expression takes a step, or leaves promises as they are and makes smaller what remains.
use Rattle.std.proofs.Common.{◌≡◌, ℕ, suc, ◌+◌, ◌<◌, ◌≤◌, List, Bool, true, false, Option, Some, None, arith}
use Rattle.std.specs.Prelude.{Ok, nat_lt, length, if◌then◌else◌, ⊤}
use Rattle.esm_base.specs.declared.limits.TheConstants.{MAX_TEXT_BYTES}
use Rattle.esm_values.specs.Acts.{Act, AnswerTo}
use Rattle.esm_values.specs.Acts.{Act as act}
use Rattle.esm_values.specs.Completion.{Completion, Normal, Throw}
use Rattle.esm_values.specs.Plans.{Acting, Rewritten, Plan, Follows, inside}
use Rattle.esm_values.specs.Plans.{Follows as follow}
use Rattle.esm_values.specs.Plans.Rewritten.{Goes, Leaves, Calls, Stops}
use Rattle.esm_values.specs.Plans.Plan.{Ends, Asks}
use Rattle.esm_values.specs.Operators.{Look, Values, joined, made, operand, sum, complete, is_true}
use Rattle.esm_values.specs.Operators.{Look as look}
use Rattle.esm_expr_eval.specs.Terms.{Term, Terms}
use Rattle.esm_expr_eval.specs.Terms.Term.{Val, Or, And, Equal, Sum, Not, Post, Print, NewError, Import}
use Rattle.esm_expr_eval.specs.Terms.LinkTerms.{call, member}
use Rattle.esm_expr_eval.specs.Terms.Compared.{compared}
use Rattle.esm_expr_eval.specs.Rewriting.{Rewrites, RewritesIn, or_on, and_on}
use Rattle.esm_expr_eval.specs.Rewriting.Rewrites.{fails, name, or_in, or, and_in, and, equal_in, equal_right, equal, equal_end, sum_in, sum_right, joins, sum_end, not_in, not_of, post_in, member_of, arguments, call_of, post_end, print_in, print, error_in, error, import_in, begins, own_url}
use Rattle.esm_expr_eval.specs.Rewriting.RewritesIn.{first, later}
use Rattle.esm_expr_eval.specs.Sizes.{size, size_all, size_compared, size_links}

-- acts beside steps and import()
abbrev pub IsOther : {V : Type 0} → Act V → Type 0
IsOther (act.Step n) = ⊥
IsOther (act.Import of) = ⊥
IsOther a = ⊤

-- how acts count steps, and what the others leave as it is
pub record Counts {W V S : Type 0} (acts : Acting W V S) (steps : W → ℕ) (Quiet : W → W → Type 0) : Type 0 where
  pub same : (w : W) → Quiet w w
  pub on : {u v w : W} → Quiet u v → Quiet v w → Quiet u w
  pub step : {v w : W} {n : ℕ} {r : Unit {0}} → acts v (act.Step n) (Ok r) w → (steps w ≡ steps v + n) × Quiet v w
  pub other : {v w : W} {a : Act V} {r : AnswerTo a} → IsOther a → acts v a (Ok r) w → (steps w ≡ steps v) × Quiet v w
  pub imports : {v w : W} {of r : V} → acts v (act.Import of) (Ok r) w → steps w ≡ steps v

module _ {W V S : Type 0} (acts : Acting W V S) (steps : W → ℕ) (Quiet : W → W → Type 0) (k : Counts acts steps Quiet) where
  pub record Calm (v w : W) : Type 0 where
    pub grows : steps v ≤ steps w
    pub quiet : steps w ≡ steps v → Quiet v w

  -- what is come to from what has the size s
  abbrev pub Falls : {A : Type 0} → (A → ℕ) → ℕ → W → Rewritten V S A → W → Type 0
  Falls size s v (Goes a) w = Calm v w × (steps w ≡ steps v → size a < s)
  Falls size s v (Leaves u) w = Calm v w
  Falls size s v (Calls f vs a) w = steps v < steps w
  Falls size s v (Stops why) w = Unit {0}

  calm_same : (w : W) → Calm w w
  calm_same w = record { grows = omega arith; quiet = λ e. k.same w }

  pub calm_on : {u v w : W} → Calm u v → Calm v w → Calm u w
  calm_on p q = record {
    grows = let a = p.grows in let b = q.grows in omega (arith, a, b);
    quiet = λ e. k.on (p.quiet (let a = p.grows in let b = q.grows in omega (arith, a, b, e))) (q.quiet (let a = p.grows in let b = q.grows in omega (arith, a, b, e)));
  }

  calm_step : {v w : W} (n : ℕ) → steps w ≡ steps v + n → Quiet v w → Calm v w
  calm_step n e q = record { grows = omega (arith, e); quiet = λ h. q }

  calm_alike : {v w : W} → steps w ≡ steps v → Quiet v w → Calm v w
  calm_alike e q = record { grows = omega (arith, e); quiet = λ h. q }

  calm_risen : {v w : W} → steps v < steps w → Calm v w
  calm_risen lt = record { grows = omega (arith, lt); quiet = λ h. absurd (omega (arith, lt, h)) }

  falls_on : {A : Type 0} (size : A → ℕ) (s : ℕ) (v mid w : W) (c : Rewritten V S A) → Calm v mid → Falls size s mid c w → Falls size s v c w
  falls_on size s v mid w (Goes a) p q = (calm_on p q.0, λ e. q.1 (let x = p.grows in let y = q.0.grows in omega (arith, x, y, e)))
  falls_on size s v mid w (Leaves u) p q = calm_on p q
  falls_on size s v mid w (Calls f vs a) p q = let x = p.grows in omega (arith, x, q)
  falls_on size s v mid w (Stops why) p q = tt

  risen : {A : Type 0} (size : A → ℕ) (s : ℕ) {v w : W} (c : Rewritten V S A) → steps v < steps w → Falls size s v c w
  risen size s (Goes a) lt = (calm_risen lt, λ e. absurd (omega (arith, lt, e)))
  risen size s (Leaves u) lt = calm_risen lt
  risen size s (Calls f vs a) lt = lt
  risen size s (Stops why) lt = tt

  -- ---- plans

  -- a plan of which nothing is known: steps only grow
  abbrev Grown : {A : Type 0} → W → Rewritten V S A → W → Type 0
  Grown v (Stops why) w = Unit {0}
  Grown v c w = steps v ≤ steps w

  act_grows : {v w : W} (a : Act V) {r : AnswerTo a} → acts v a (Ok r) w → steps v ≤ steps w
  act_grows (act.Read x) p = let e = (k.other tt p).0 in omega (arith, e)
  act_grows (act.Member of x) p = let e = (k.other tt p).0 in omega (arith, e)
  act_grows (act.Display of) p = let e = (k.other tt p).0 in omega (arith, e)
  act_grows (act.Print vs) p = let e = (k.other tt p).0 in omega (arith, e)
  act_grows (act.Fault kind message) p = let e = (k.other tt p).0 in omega (arith, e)
  act_grows (act.Step n) p = let e = (k.step p).0 in omega (arith, e)
  act_grows (act.Import of) p = let e = k.imports p in omega (arith, e)

  grown_same : {A : Type 0} (w : W) (c : Rewritten V S A) → Grown w c w
  grown_same w (Goes a) = omega arith
  grown_same w (Leaves v) = omega arith
  grown_same w (Calls f vs a) = omega arith
  grown_same w (Stops why) = tt

  grown_on : {A : Type 0} (v mid w : W) (c : Rewritten V S A) → steps v ≤ steps mid → Grown mid c w → Grown v c w
  grown_on v mid w (Goes a) p q = omega (arith, p, q)
  grown_on v mid w (Leaves u) p q = omega (arith, p, q)
  grown_on v mid w (Calls f vs a) p q = omega (arith, p, q)
  grown_on v mid w (Stops why) p q = tt

  follows_grows : {A : Type 0} {v : W} {p : Plan V S A} {c : Rewritten V S A} {w : W} → Follows acts v p c w → Grown v c w
  follows_grows {v = v} {c = c} follow.ends = grown_same v c
  follows_grows {v = v} {c = c} {w = w} (follow.asks {mid = mid} {a = a} r p f) = grown_on v mid w c (act_grows a p) (follows_grows {v = mid} f)
  follows_grows (follow.stops a) = tt

  grown_risen : {A : Type 0} (size : A → ℕ) (s : ℕ) (v mid w : W) (c : Rewritten V S A) → steps v < steps mid → Grown mid c w → Falls size s v c w
  grown_risen size s v mid w (Goes a) lt g = risen size s (Goes a) (omega (arith, lt, g))
  grown_risen size s v mid w (Leaves u) lt g = risen size s (Leaves u) (omega (arith, lt, g))
  grown_risen size s v mid w (Calls f vs a) lt g = omega (arith, lt, g)
  grown_risen size s v mid w (Stops why) lt g = tt

  -- a plan without import(), or that begins with a step
  pub data Light {A : Type 0} (size : A → ℕ) (s : ℕ) : Plan V S A → Type 0 where
    goes : {a : A} → size a < s → Light size s (Ends (Goes a))
    leaves : {v : V} → Light size s (Ends (Leaves v))
    others : {a : Act V} {next : AnswerTo a → Plan V S A} → IsOther a → ((r : AnswerTo a) → Light size s (next r)) → Light size s (Asks a next)
    counted : {n : ℕ} {next : Unit {0} → Plan V S A} → ((r : Unit {0}) → Light size s (next r)) → Light size s (Asks (act.Step n) next)
    heavy : {next : Unit {0} → Plan V S A} → Light size s (Asks (act.Step 1) next)

  pub follows_falls : {A : Type 0} (size : A → ℕ) (s : ℕ) {v : W} {p : Plan V S A} {c : Rewritten V S A} {w : W} → Light size s p → Follows acts v p c w → Falls size s v c w
  follows_falls size s {v} (Light.goes lt) follow.ends = (calm_same v, λ e. lt)
  follows_falls size s {v} Light.leaves follow.ends = calm_same v
  follows_falls size s {v} {c = c} {w = w} (Light.others o l) (follow.asks {mid = mid} r p f) = let h = k.other o p in falls_on size s v mid w c (calm_alike h.0 h.1) (follows_falls size s {v = mid} (l r) f)
  follows_falls size s (Light.others o l) (follow.stops a) = tt
  follows_falls size s {v} {c = c} {w = w} (Light.counted {n = n} l) (follow.asks {mid = mid} r p f) = let h = k.step p in falls_on size s v mid w c (calm_step n h.0 h.1) (follows_falls size s {v = mid} (l r) f)
  follows_falls size s (Light.counted l) (follow.stops a) = tt
  follows_falls size s {v} {c = c} {w = w} Light.heavy (follow.asks {mid = mid} r p f) = let h = k.step p in grown_risen size s v mid w c (let e = h.0 in omega (arith, e)) (follows_grows {v = mid} f)
  follows_falls size s Light.heavy (follow.stops a) = tt

  pub inside_falls : {A B : Type 0} (f : A → B) (sizeA : A → ℕ) (sizeB : B → ℕ) (s t n : ℕ) → ((a : A) → sizeB (f a) ≡ sizeA a + n) → t ≡ s + n → (v w : W) (c : Rewritten V S A) → Falls sizeA s v c w → Falls sizeB t v (inside f c) w
  inside_falls f sizeA sizeB s t n e d v w (Goes a) p = (p.0, λ h. let x = p.1 h in let y = e a in omega (arith, x, y, d))
  inside_falls f sizeA sizeB s t n e d v w (Leaves u) p = p
  inside_falls f sizeA sizeB s t n e d v w (Calls g vs a) p = p
  inside_falls f sizeA sizeB s t n e d v w (Stops why) p = tt

  module _ (values : Values V) where
    light_complete : {A : Type 0} (size : A → ℕ) (s : ℕ) (rest : V → A) → ((v : V) → size (rest v) < s) → (c : Completion V) → Light size s (complete values rest c)
    light_complete size s rest lt (Normal v) = Light.goes (lt v)
    light_complete size s rest lt (Throw v) = Light.leaves

    light_if : {A : Type 0} (size : A → ℕ) (s : ℕ) (b : Bool) {p q : Plan V S A} → Light size s p → Light size s q → Light size s (if b then p else q)
    light_if size s true p q = p
    light_if size s false p q = q

    light_made : {A : Type 0} (size : A → ℕ) (s : ℕ) (rest : V → A) → ((v : V) → size (rest v) < s) → (o : Option (List ℕ)) → Light size s (made values rest o)
    light_made size s rest lt None = Light.others tt (λ r. Light.leaves)
    light_made size s rest lt (Some t) = light_if size s (nat_lt MAX_TEXT_BYTES (length t)) (Light.others tt (λ r. Light.leaves)) (Light.counted (λ r. Light.goes (lt (values.text t))))

    light_operand : {A : Type 0} (size : A → ℕ) (s : ℕ) (v : V) (l : Look) (next : Look → Plan V S A) → ((l : Look) → Light size s (next l)) → Light size s (operand values v l next)
    light_operand size s v look.Undefined next h = h look.Undefined
    light_operand size s v (look.Truth b) next h = h (look.Truth b)
    light_operand size s v (look.Text t) next h = h (look.Text t)
    light_operand size s v look.Func next h = h look.Func
    light_operand size s v look.Error next h = Light.others tt (λ t. h (look.Text t))
    light_operand size s v look.Other next h = h look.Other

    light_sum : {A : Type 0} (size : A → ℕ) (s : ℕ) (a b : V) (rest : V → A) → ((v : V) → size (rest v) < s) → Light size s (sum values a b rest)
    light_sum size s a b rest lt = light_operand size s a (values.look a) _ (λ l. light_operand size s b (values.look b) _ (λ m. light_made size s rest lt (joined l m)))

    or_falls : (w : W) (v : V) (es : Terms V) → Falls size (suc (1 + size_all es)) w (or_on {S = S} values v es) w
    or_falls w v Terms.none = (calm_same w, λ e. omega arith)
    or_falls w v (Terms.more e es) = (calm_same w, λ h. by (is_true (values.look v)))
      where
        by : (b : Bool) → size (if b then Val v else Or e es) < suc (1 + suc (size e + size_all es))
        by true = omega arith
        by false = omega arith

    and_falls : (w : W) (v : V) (es : Terms V) → Falls size (suc (1 + size_all es)) w (and_on {S = S} values v es) w
    and_falls w v Terms.none = (calm_same w, λ e. omega arith)
    and_falls w v (Terms.more e es) = (calm_same w, λ h. by (is_true (values.look v)))
      where
        by : (b : Bool) → size (if b then And e es else Val v) < suc (1 + suc (size e + size_all es))
        by true = omega arith
        by false = omega arith

    module _ (url : W → List ℕ) where
      mutual
        pub rewrites_falls : {v : W} {t : Term V} {c : Rewritten V S (Term V)} {w : W} → Rewrites values url acts v t c w → Falls size (size t) v c w
        rewrites_falls {v} fails = calm_same v
        rewrites_falls (name a) = follows_falls size 2 (Light.others tt (λ r. light_complete size 2 (λ v. Val v) (λ v. omega arith) r)) a
        rewrites_falls {v} {w = w} (or_in {e = e} {es = es} {c = c} s) = inside_falls (λ e. Or e es) size size (size e) (size (Or e es)) (suc (size_all es)) (λ e. omega arith) (omega arith) v w c (rewrites_falls s)
        rewrites_falls {v} (or {v = u} {es = es}) = or_falls v u es
        rewrites_falls {v} {w = w} (and_in {e = e} {es = es} {c = c} s) = inside_falls (λ e. And e es) size size (size e) (size (And e es)) (suc (size_all es)) (λ e. omega arith) (omega arith) v w c (rewrites_falls s)
        rewrites_falls {v} (and {v = u} {es = es}) = and_falls v u es
        rewrites_falls {v} {w = w} (equal_in {e = e} {cs = cs} {c = c} s) = inside_falls (λ e. Equal e cs) size size (size e) (size (Equal e cs)) (suc (size_compared cs)) (λ e. omega arith) (omega arith) v w c (rewrites_falls s)
        rewrites_falls {v} {w = w} (equal_right {v = u} {b = b} {e = e} {cs = cs} {c = c} s) = inside_falls (λ e. Equal (Val u) (compared b e cs)) size size (size e) (size (Equal (Val u) (compared b e cs))) (3 + size_compared cs) (λ e. omega arith) (omega arith) v w c (rewrites_falls s)
        rewrites_falls {v} equal = (calm_same v, λ e. omega arith)
        rewrites_falls {v} equal_end = (calm_same v, λ e. omega arith)
        rewrites_falls {v} {w = w} (sum_in {e = e} {es = es} {c = c} s) = inside_falls (λ e. Sum e es) size size (size e) (size (Sum e es)) (suc (size_all es)) (λ e. omega arith) (omega arith) v w c (rewrites_falls s)
        rewrites_falls {v} {w = w} (sum_right {v = u} {e = e} {es = es} {c = c} s) = inside_falls (λ e. Sum (Val u) (Terms.more e es)) size size (size e) (size (Sum (Val u) (Terms.more e es))) (3 + size_all es) (λ e. omega arith) (omega arith) v w c (rewrites_falls s)
        rewrites_falls (joins {a = x} {b = y} {es = es} a) = follows_falls size (size (Sum (Val x) (Terms.more (Val y) es))) (light_sum size (size (Sum (Val x) (Terms.more (Val y) es))) x y (λ z. Sum (Val z) es) (λ z. omega arith)) a
        rewrites_falls {v} sum_end = (calm_same v, λ e. omega arith)
        rewrites_falls {v} {w = w} (not_in {e = e} {c = c} s) = inside_falls (λ e. Not e) size size (size e) (size (Not e)) 1 (λ e. omega arith) (omega arith) v w c (rewrites_falls s)
        rewrites_falls {v} not_of = (calm_same v, λ e. omega arith)
        rewrites_falls {v} {w = w} (post_in {e = e} {ls = ls} {c = c} s) = inside_falls (λ e. Post e ls) size size (size e) (size (Post e ls)) (suc (size_links ls)) (λ e. omega arith) (omega arith) v w c (rewrites_falls s)
        rewrites_falls (member_of {v = u} {x = x} {ls = ls} a) =
            follows_falls size (size (Post (Val u) (member x ls))) (Light.others tt (λ r. light_complete size (size (Post (Val u) (member x ls))) (λ z. Post (Val z) ls) (λ z. omega arith) r)) a
        rewrites_falls {v} {w = w} (arguments {f = f} {es = es} {ls = ls} {c = c} s) = inside_falls (λ es. Post (Val f) (call es ls)) size_all size (size_all es) (size (Post (Val f) (call es ls))) (3 + size_links ls) (λ es. omega arith) (omega arith) v w c (rewrites_in_falls s)
        rewrites_falls (call_of {f = f} {es = es} {ls = ls} p a) = follows_falls size (size (Post (Val f) (call es ls))) Light.heavy a
        rewrites_falls {v} post_end = (calm_same v, λ e. omega arith)
        rewrites_falls {v} {w = w} (print_in {es = es} {c = c} s) = inside_falls (λ es. Print es) size_all size (size_all es) (size (Print es)) 2 (λ es. omega arith) (omega arith) v w c (rewrites_in_falls s)
        rewrites_falls (print {es = es} p a) = follows_falls size (size (Print es)) Light.heavy a
        rewrites_falls {v} {w = w} (error_in {e = e} {c = c} s) = inside_falls (λ e. NewError e) size size (size e) (size (NewError e)) 1 (λ e. omega arith) (omega arith) v w c (rewrites_falls s)
        rewrites_falls (error {v = u} a) = follows_falls size (size (NewError (Val u))) Light.heavy a
        rewrites_falls {v} {w = w} (import_in {e = e} {c = c} s) = inside_falls (λ e. Import e) size size (size e) (size (Import e)) 1 (λ e. omega arith) (omega arith) v w c (rewrites_falls s)
        rewrites_falls (begins {v = u} a) = follows_falls size (size (Import (Val u))) Light.heavy a
        rewrites_falls {v} own_url = (calm_same v, λ e. omega arith)

        rewrites_in_falls : {v : W} {es : Terms V} {c : Rewritten V S (Terms V)} {w : W} → RewritesIn values url acts v es c w → Falls size_all (size_all es) v c w
        rewrites_in_falls {v} {w = w} (first {e = e} {es = es} {c = c} s) = inside_falls (λ e. Terms.more e es) size size_all (size e) (size_all (Terms.more e es)) (suc (size_all es)) (λ e. omega arith) (omega arith) v w c (rewrites_falls s)
        rewrites_in_falls {v} {w = w} (later {v = u} {es = es} {c = c} s) = inside_falls (λ es. Terms.more (Val u) es) size_all size_all (size_all es) (size_all (Terms.more (Val u) es)) 2 (λ es. omega arith) (omega arith) v w c (rewrites_in_falls s)
