-- An expression that holds no import() is rewritten the same, however an import() would begin.
use Rattle.std.proofs.Common.{ℕ, Bool, true, false, List, [], Option, Some, None}
use Rattle.std.specs.Prelude.{Ok, Err, Result, nat_lt, length, if◌then◌else◌, codes, ◌/◌, ⊤}
use Rattle.esm_base.specs.declared.limits.TheConstants.{MAX_TEXT_BYTES}
use Rattle.esm_values.specs.declared.limits.TheConstants.{BYTES_PER_STEP}
use Rattle.esm_values.specs.declared.errors.FaultKind.{FaultKind}
use Rattle.esm_values.specs.declared.errors.FaultKind.TheVariants as kinds
use Rattle.esm_values.specs.Acts.{Act, AnswerTo}
use Rattle.esm_values.specs.Acts.{Act as act}
use Rattle.esm_values.specs.Completion.{Completion, Normal, Throw}
use Rattle.esm_values.specs.Plans.{Acting, Rewritten, inside, Plan, Follows}
use Rattle.esm_values.specs.Plans.{Rewritten as comes}
use Rattle.esm_values.specs.Plans.{Plan as plan}
use Rattle.esm_values.specs.Plans.{Follows as follow}
use Rattle.esm_values.specs.Operators.{Look, Values, Textual, is_true, sum, operand, made, joined, complete, faults, error_of, new_error, to_text_by, textual}
use Rattle.esm_values.specs.Operators.{Look as look}
use Rattle.esm_values.specs.Operators.{Textual as text}
use Rattle.esm_expr_eval.specs.Terms.{Term, Terms, LinkTerms}
use Rattle.esm_expr_eval.specs.Terms.{Term as term}
use Rattle.esm_expr_eval.specs.Terms.{Terms as terms}
use Rattle.esm_expr_eval.specs.Terms.{Compared as pairs}
use Rattle.esm_expr_eval.specs.Terms.{LinkTerms as links}
use Rattle.esm_expr_eval.specs.Rewriting.{or_on, and_on, enters, called, printed, error_made, Rewrites, RewritesIn}
use Rattle.esm_order_laws.proofs.Quiet.{Quiet, AllQuiet, QuietLinks}

abbrev pub NotImport : {V : Type 0} → Act V → Type 0
NotImport (act.Read x) = ⊤
NotImport (act.Member v x) = ⊤
NotImport (act.Display v) = ⊤
NotImport (act.Print vs) = ⊤
NotImport (act.Fault kind message) = ⊤
NotImport (act.Step steps) = ⊤
NotImport (act.Import v) = ⊥

-- what is left holds none
abbrev pub QuietCame : {V S A : Type 0} → (A → Type 0) → Rewritten V S A → Type 0
QuietCame Q (comes.Goes a) = Q a
QuietCame Q (comes.Leaves v) = ⊤
QuietCame Q (comes.Calls g vs a) = Q a
QuietCame Q (comes.Stops why) = ⊤

pub inside_quiet : {V S A B : Type 0} (P : A → Type 0) (Q : B → Type 0) (g : A → B) → ((a : A) → P a → Q (g a)) → (c : Rewritten V S A) → QuietCame P c → QuietCame Q (inside g c)
inside_quiet P Q g on (comes.Goes a) h = on a h
inside_quiet P Q g on (comes.Leaves v) h = tt
inside_quiet P Q g on (comes.Calls f vs a) h = on a h
inside_quiet P Q g on (comes.Stops why) h = tt

-- ---- plans

pub data QuietPlan {V S A : Type 0} (Q : A → Type 0) : Plan V S A → Type 0 where
  ends : {c : Rewritten V S A} → QuietCame Q c → QuietPlan Q (plan.Ends c)
  asks : {a : Act V} {next : AnswerTo a → Plan V S A} → NotImport a → ((r : AnswerTo a) → QuietPlan Q (next r)) → QuietPlan Q (plan.Asks a next)

-- all but the calls of import() are the same
abbrev pub ActAlike : {W V S : Type 0} → Acting W V S → Acting W V S → Type 0
ActAlike {W} {V} {S} acts others = (w after : W) (a : Act V) (r : Result (AnswerTo a) S) → NotImport a → acts w a r after → others w a r after

module _ {W V S : Type 0} (acts others : Acting W V S) (alike : ActAlike acts others) where
  pub follows_quiet : {A : Type 0} (Q : A → Type 0) {p : Plan V S A} {w after : W} {c : Rewritten V S A} → QuietPlan Q p → Follows acts w p c after → Follows others w p c after × QuietCame Q c
  follows_quiet Q (QuietPlan.ends q) follow.ends = (follow.ends, q)
  follows_quiet Q (QuietPlan.asks n h) (follow.asks {a = a} r p q) = let k = follows_quiet Q (h r) q in (follow.asks r (alike _ _ a (Ok r) n p) k.0, k.1)
  follows_quiet Q (QuietPlan.asks n h) (follow.stops {a = a} {why = why} p) = (follow.stops (alike _ _ a (Err why) n p), tt)

or_quiet : {V : Type 0} (S : Type 0) (values : Values V) (v : V) (es : Terms V) → AllQuiet es → QuietCame {V = V} {S = S} Quiet (or_on values v es)
or_quiet S values v terms.none q = tt
or_quiet S values v (terms.more e es) q = by (is_true (values.look v))
  where
    by : (b : Bool) → Quiet (if b then term.Val v else term.Or e es)
    by true = tt
    by false = q

and_quiet : {V : Type 0} (S : Type 0) (values : Values V) (v : V) (es : Terms V) → AllQuiet es → QuietCame {V = V} {S = S} Quiet (and_on values v es)
and_quiet S values v terms.none q = tt
and_quiet S values v (terms.more e es) q = by (is_true (values.look v))
  where
    by : (b : Bool) → Quiet (if b then term.And e es else term.Val v)
    by true = q
    by false = tt

module _ {V S : Type 0} (values : Values V) where
  module _ {A : Type 0} (Q : A → Type 0) where
    abbrev P : Plan V S A → Type 0
    P p = QuietPlan Q p

    pub faults_quiet : (kind : FaultKind) (message : List ℕ) → P (faults values kind message)
    faults_quiet kind message = QuietPlan.asks tt (λ v. QuietPlan.ends tt)

    complete_quiet : (one : V → A) → ((v : V) → Q (one v)) → (c : Completion V) → P (complete values one c)
    complete_quiet one q (Normal v) = QuietPlan.ends (q v)
    complete_quiet one q (Throw v) = QuietPlan.ends tt

    made_quiet : (one : V → A) → ((v : V) → Q (one v)) → (t : Option (List ℕ)) → P (made values one t)
    made_quiet one q None = faults_quiet kinds.TypeError (codes "bad operands")
    made_quiet one q (Some t) = by (nat_lt MAX_TEXT_BYTES (length t))
      where
        by : (b : Bool) → P (if b then faults values kinds.RangeError (codes "text length") else plan.Asks (act.Step (length t / BYTES_PER_STEP)) (λ _. plan.Ends (comes.Goes (one (values.text t)))))
        by true = faults_quiet kinds.RangeError (codes "text length")
        by false = QuietPlan.asks tt (λ r. QuietPlan.ends (q (values.text t)))

    operand_quiet : (v : V) (next : Look → Plan V S A) → ((m : Look) → P (next m)) → (m : Look) → P (operand values v m next)
    operand_quiet v next h look.Undefined = h look.Undefined
    operand_quiet v next h (look.Truth b) = h (look.Truth b)
    operand_quiet v next h (look.Text t) = h (look.Text t)
    operand_quiet v next h look.Func = h look.Func
    operand_quiet v next h look.Error = QuietPlan.asks tt (λ t. h (look.Text t))
    operand_quiet v next h look.Other = h look.Other

    sum_quiet : (a b : V) (one : V → A) → ((v : V) → Q (one v)) → P (sum values a b one)
    sum_quiet a b one q = operand_quiet a _ (λ m. operand_quiet b _ (λ n. made_quiet one q (joined m n)) (values.look b)) (values.look a)

    text_quiet : (v : V) (next : List ℕ → Plan V S A) → ((t : List ℕ) → P (next t)) → (t : Textual) → P (to_text_by values v t next)
    text_quiet v next h (text.Known t) = h t
    text_quiet v next h text.Displayed = QuietPlan.asks tt h
    text_quiet v next h text.Refused = faults_quiet kinds.TypeError (codes "cannot convert to text")

    new_quiet : (one : V → A) → ((v : V) → Q (one v)) → (message : List ℕ) → P (new_error values one message)
    new_quiet one q message = QuietPlan.asks tt (λ v. QuietPlan.ends (q v))

    error_quiet : (one : V → A) → ((v : V) → Q (one v)) → (v : V) (m : Look) → P (error_of values one v m)
    error_quiet one q v look.Undefined = new_quiet one q []
    error_quiet one q v (look.Truth b) = text_quiet v _ (new_quiet one q) (textual (look.Truth b))
    error_quiet one q v (look.Text t) = text_quiet v _ (new_quiet one q) (textual (look.Text t))
    error_quiet one q v look.Func = text_quiet v _ (new_quiet one q) (textual look.Func)
    error_quiet one q v look.Error = text_quiet v _ (new_quiet one q) (textual look.Error)
    error_quiet one q v look.Other = text_quiet v _ (new_quiet one q) (textual look.Other)

  abbrev T : Plan V S (Term V) → Type 0
  T p = QuietPlan Quiet p

  abbrev Came : Rewritten V S (Term V) → Type 0
  Came c = QuietCame Quiet c

  enters_quiet : (g : V) (vs : List V) (ls : LinkTerms V) → QuietLinks ls → (m : Look) → T (enters values g vs ls m)
  enters_quiet g vs ls q look.Undefined = faults_quiet Quiet kinds.TypeError (codes "not a function")
  enters_quiet g vs ls q (look.Truth b) = faults_quiet Quiet kinds.TypeError (codes "not a function")
  enters_quiet g vs ls q (look.Text t) = faults_quiet Quiet kinds.TypeError (codes "not a function")
  enters_quiet g vs ls q look.Func = QuietPlan.ends (tt, q)
  enters_quiet g vs ls q look.Error = faults_quiet Quiet kinds.TypeError (codes "not a function")
  enters_quiet g vs ls q look.Other = faults_quiet Quiet kinds.TypeError (codes "not a function")

  called_quiet : (g : V) (vs : List V) (ls : LinkTerms V) → QuietLinks ls → T (called values g vs ls)
  called_quiet g vs ls q = QuietPlan.asks tt (λ r. enters_quiet g vs ls q (values.look g))

  printed_quiet : (vs : List V) → T (printed values vs)
  printed_quiet vs = QuietPlan.asks tt (λ r. QuietPlan.asks tt (λ s. QuietPlan.ends tt))

  error_made_quiet : (v : V) → T (error_made values v)
  error_made_quiet v = QuietPlan.asks tt (λ r. error_quiet Quiet (λ u. term.Val u) (λ u. tt) v (values.look v))

  -- ---- rewritings

  module _ {W : Type 0} (url : W → List ℕ) (acts others : Acting W V S) (alike : ActAlike acts others) where
    abbrev On : W → Term V → Rewritten V S (Term V) → W → Type 0
    On w e c after = Rewrites values url others w e c after × QuietCame Quiet c

    into : (g : Term V → Term V) → ((e : Term V) → Quiet e → Quiet (g e)) → (c : Rewritten V S (Term V)) → Came c → Came (inside g c)
    into g on c h = inside_quiet Quiet Quiet g on c h

    into_all : (g : Terms V → Term V) → ((es : Terms V) → AllQuiet es → Quiet (g es)) → (c : Rewritten V S (Terms V)) → QuietCame AllQuiet c → Came (inside g c)
    into_all g on c h = inside_quiet AllQuiet Quiet g on c h

    mutual
      pub rewrites_quiet : {w after : W} {e : Term V} {c : Rewritten V S (Term V)} → Quiet e → Rewrites values url acts w e c after → On w e c after
      rewrites_quiet q Rewrites.fails = (Rewrites.fails, tt)
      rewrites_quiet q (Rewrites.name p) = let k = follows_quiet acts others alike Quiet (QuietPlan.asks tt (complete_quiet Quiet (λ v. term.Val v) (λ v. tt))) p in (Rewrites.name k.0, k.1)
      rewrites_quiet q (Rewrites.or_in {es = es} {c = c} p) = let k = rewrites_quiet q.0 p in (Rewrites.or_in k.0, into (λ e. term.Or e es) (λ e h. (h, q.1)) c k.1)
      rewrites_quiet q (Rewrites.or {v = v} {es = es}) = (Rewrites.or, or_quiet S values v es q.1)
      rewrites_quiet q (Rewrites.and_in {es = es} {c = c} p) = let k = rewrites_quiet q.0 p in (Rewrites.and_in k.0, into (λ e. term.And e es) (λ e h. (h, q.1)) c k.1)
      rewrites_quiet q (Rewrites.and {v = v} {es = es}) = (Rewrites.and, and_quiet S values v es q.1)
      rewrites_quiet q (Rewrites.equal_in {cs = cs} {c = c} p) = let k = rewrites_quiet q.0 p in (Rewrites.equal_in k.0, into (λ e. term.Equal e cs) (λ e h. (h, q.1)) c k.1)
      rewrites_quiet q (Rewrites.equal_right {v = v} {b = b} {cs = cs} {c = c} p) =
          let k = rewrites_quiet q.1.0 p in (Rewrites.equal_right k.0, into (λ e. term.Equal (term.Val v) (pairs.compared b e cs)) (λ e h. (tt, (h, q.1.1))) c k.1)
      rewrites_quiet q Rewrites.equal = (Rewrites.equal, (tt, q.1.1))
      rewrites_quiet q Rewrites.equal_end = (Rewrites.equal_end, tt)
      rewrites_quiet q (Rewrites.sum_in {es = es} {c = c} p) = let k = rewrites_quiet q.0 p in (Rewrites.sum_in k.0, into (λ e. term.Sum e es) (λ e h. (h, q.1)) c k.1)
      rewrites_quiet q (Rewrites.sum_right {v = v} {es = es} {c = c} p) =
          let k = rewrites_quiet q.1.0 p in (Rewrites.sum_right k.0, into (λ e. term.Sum (term.Val v) (terms.more e es)) (λ e h. (tt, (h, q.1.1))) c k.1)
      rewrites_quiet q (Rewrites.joins {a = a} {b = b} {es = es} p) =
          let k = follows_quiet acts others alike Quiet (sum_quiet Quiet a b (λ v. term.Sum (term.Val v) es) (λ v. (tt, q.1.1))) p in (Rewrites.joins k.0, k.1)
      rewrites_quiet q Rewrites.sum_end = (Rewrites.sum_end, tt)
      rewrites_quiet q (Rewrites.not_in {c = c} p) = let k = rewrites_quiet q p in (Rewrites.not_in k.0, into (λ e. term.Not e) (λ e h. h) c k.1)
      rewrites_quiet q Rewrites.not_of = (Rewrites.not_of, tt)
      rewrites_quiet q (Rewrites.post_in {ls = ls} {c = c} p) = let k = rewrites_quiet q.0 p in (Rewrites.post_in k.0, into (λ e. term.Post e ls) (λ e h. (h, q.1)) c k.1)
      rewrites_quiet q (Rewrites.member_of {ls = ls} p) =
          let k = follows_quiet acts others alike Quiet (QuietPlan.asks tt (complete_quiet Quiet (λ u. term.Post (term.Val u) ls) (λ u. (tt, q.1)))) p in (Rewrites.member_of k.0, k.1)
      rewrites_quiet q (Rewrites.arguments {f = f} {ls = ls} {c = c} p) =
          let k = rewrites_in_quiet q.1.0 p in (Rewrites.arguments k.0, into_all (λ es. term.Post (term.Val f) (links.call es ls)) (λ es h. (tt, (h, q.1.1))) c k.1)
      rewrites_quiet q (Rewrites.call_of {f = f} {vs = vs} {ls = ls} h p) = let k = follows_quiet acts others alike Quiet (called_quiet f vs ls q.1.1) p in (Rewrites.call_of h k.0, k.1)
      rewrites_quiet q Rewrites.post_end = (Rewrites.post_end, tt)
      rewrites_quiet q (Rewrites.print_in {c = c} p) = let k = rewrites_in_quiet q p in (Rewrites.print_in k.0, into_all (λ es. term.Print es) (λ es h. h) c k.1)
      rewrites_quiet q (Rewrites.print {vs = vs} h p) = let k = follows_quiet acts others alike Quiet (printed_quiet vs) p in (Rewrites.print h k.0, k.1)
      rewrites_quiet q (Rewrites.error_in {c = c} p) = let k = rewrites_quiet q p in (Rewrites.error_in k.0, into (λ e. term.NewError e) (λ e h. h) c k.1)
      rewrites_quiet q (Rewrites.error {v = v} p) = let k = follows_quiet acts others alike Quiet (error_made_quiet v) p in (Rewrites.error k.0, k.1)
      rewrites_quiet q (Rewrites.import_in p) = absurd q
      rewrites_quiet q (Rewrites.begins p) = absurd q
      rewrites_quiet q Rewrites.own_url = (Rewrites.own_url, tt)

      rewrites_in_quiet : {w after : W} {es : Terms V} {c : Rewritten V S (Terms V)} → AllQuiet es → RewritesIn values url acts w es c after → RewritesIn values url others w es c after × QuietCame AllQuiet c
      rewrites_in_quiet q (RewritesIn.first {es = es} {c = c} p) =
          let k = rewrites_quiet q.0 p in (RewritesIn.first k.0, inside_quiet Quiet AllQuiet (λ e. terms.more e es) (λ e h. (h, q.1)) c k.1)
      rewrites_in_quiet q (RewritesIn.later {v = v} {es = es} {c = c} p) =
          let k = rewrites_in_quiet q.1 p in (RewritesIn.later k.0, inside_quiet AllQuiet AllQuiet (λ es. terms.more (term.Val v) es) (λ es h. (tt, h)) c k.1)
