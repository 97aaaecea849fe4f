-- The rewriting of expressions over any world: one rewriting at the leftmost part that isn't a value.
use Rattle.std.specs.Prelude.{ℕ, Bool, List, [], ◌∷◌, codes, if◌then◌else◌, not}
use Rattle.esm_values.specs.Plans.{Acting, Rewritten, inside, Plan, Follows}
use Rattle.esm_values.specs.Plans.Rewritten.{Goes, Leaves, Calls}
use Rattle.esm_values.specs.Plans.Plan.{Ends, Asks}
use Rattle.esm_values.specs.Acts.{Act as act}
use Rattle.esm_values.specs.Operators.{Look, Values, is_true, compare, sum, complete, faults, error_of}
use Rattle.esm_values.specs.Operators.Look.{Func}
use Rattle.esm_expr_eval.specs.Terms.{Term, Terms, Compared, LinkTerms}
use Rattle.esm_expr_eval.specs.Terms.Term.{Val, Waits, Fails, Name, Or, And, Equal, Sum, Not, Post, Print, NewError, Import, OwnUrl}
use Rattle.esm_expr_eval.specs.Terms.Terms.{none, more}
use Rattle.esm_expr_eval.specs.Terms.Compared.{last, compared}
use Rattle.esm_expr_eval.specs.Terms.LinkTerms.{ends, member, call}
use Rattle.esm_values.specs.declared.errors.FaultKind.TheVariants as kinds

-- the values of arguments that are all values
pub data AreValues {V : Type 0} : Terms V → List V → Type 0 where
  nil : AreValues none []
  cons : {v : V} {es : Terms V} {vs : List V} → AreValues es vs → AreValues (more (Val v) es) (v ∷ vs)

module _ {V S : Type 0} (values : Values V) where
  -- v || es. ECMA-262, binary logical operators: the right operand is evaluated only where the left doesn't decide
  abbrev pub or_on : V → Terms V → Rewritten V S (Term V)
  or_on v none = Goes (Val v)
  or_on v (more e es) = Goes (if is_true (values.look v) then Val v else Or e es)

  -- v && es. ECMA-262, binary logical operators
  abbrev pub and_on : V → Terms V → Rewritten V S (Term V)
  and_on v none = Goes (Val v)
  and_on v (more e es) = Goes (if is_true (values.look v) then And e es else Val v)

  -- a call of f, behind its step. ECMA-262, EvaluateCall; own: the text `not a function`, and that it comes behind the step
  abbrev pub enters : V → List V → LinkTerms V → Look → Plan V S (Term V)
  enters f vs ls Func = Ends (Calls f vs (Post Waits ls))
  enters f vs ls l = faults values kinds.TypeError (codes "not a function")

  -- own: a call takes its step behind its arguments and before anything else
  abbrev pub called : V → List V → LinkTerms V → Plan V S (Term V)
  called f vs ls = Asks (act.Step 1) (λ _. enters f vs ls (values.look f))

  -- own: `print` takes its step first, then prints its line, and gives undefined
  abbrev pub printed : List V → Plan V S (Term V)
  printed vs = Asks (act.Step 1) (λ _. Asks (act.Print vs) (λ _. Ends (Goes (Val values.undefined))))

  -- ECMA-262, Error(message); own: it takes its step first
  abbrev pub error_made : V → Plan V S (Term V)
  error_made v = Asks (act.Step 1) (λ _. error_of values (λ u. Val u) v (values.look v))

  -- ECMA-262, EvaluateImportCall; own: it takes its step first
  abbrev pub import_begun : V → Plan V S (Term V)
  import_begun v = Asks (act.Step 1) (λ _. Asks (act.Import v) (λ p. Ends (Goes (Val p))))

module _ {W V S : Type 0} (values : Values V) (url : W → List ℕ) (acts : Acting W V S) where
  mutual
    -- one rewriting of an expression. ECMA-262, Runtime Semantics: Evaluation. A rule named `.._in`, `equal_right` or
    -- `sum_right` rewrites the first part that isn't a value
    pub data Rewrites : W → Term V → Rewritten V S (Term V) → W → Type 0 where
      -- own: the value of a call, or of an await, that threw is thrown here
      fails : {w : W} {v : V} → Rewrites w (Fails v) (Leaves v) w
      -- ECMA-262, ResolveBinding and GetValue of an IdentifierReference
      name : {w after : W} {x : List ℕ} {c : Rewritten V S (Term V)}
          → Follows acts w (Asks (act.Read x) (complete values (λ v. Val v))) c after → Rewrites w (Name x) c after
      -- ECMA-262, binary logical operators
      or_in : {w after : W} {e : Term V} {es : Terms V} {c : Rewritten V S (Term V)} → Rewrites w e c after
          → Rewrites w (Or e es) (inside (λ e. Or e es) c) after
      or : {w : W} {v : V} {es : Terms V} → Rewrites w (Or (Val v) es) (or_on values v es) w
      and_in : {w after : W} {e : Term V} {es : Terms V} {c : Rewritten V S (Term V)} → Rewrites w e c after
          → Rewrites w (And e es) (inside (λ e. And e es) c) after
      and : {w : W} {v : V} {es : Terms V} → Rewrites w (And (Val v) es) (and_on values v es) w
      -- ECMA-262, IsStrictlyEqual of the values, from left to right
      equal_in : {w after : W} {e : Term V} {cs : Compared V} {c : Rewritten V S (Term V)} → Rewrites w e c after
          → Rewrites w (Equal e cs) (inside (λ e. Equal e cs) c) after
      equal_right : {w after : W} {v : V} {b : Bool} {e : Term V} {cs : Compared V} {c : Rewritten V S (Term V)} → Rewrites w e c after
          → Rewrites w (Equal (Val v) (compared b e cs)) (inside (λ e. Equal (Val v) (compared b e cs)) c) after
      equal : {w : W} {u v : V} {b : Bool} {cs : Compared V}
          → Rewrites w (Equal (Val u) (compared b (Val v) cs)) (Goes (Equal (Val (values.truth (compare b (values.same u v)))) cs)) w
      equal_end : {w : W} {v : V} → Rewrites w (Equal (Val v) last) (Goes (Val v)) w
      -- ECMA-262, the addition operator, from left to right
      sum_in : {w after : W} {e : Term V} {es : Terms V} {c : Rewritten V S (Term V)} → Rewrites w e c after
          → Rewrites w (Sum e es) (inside (λ e. Sum e es) c) after
      sum_right : {w after : W} {v : V} {e : Term V} {es : Terms V} {c : Rewritten V S (Term V)} → Rewrites w e c after
          → Rewrites w (Sum (Val v) (more e es)) (inside (λ e. Sum (Val v) (more e es)) c) after
      joins : {w after : W} {a b : V} {es : Terms V} {c : Rewritten V S (Term V)}
          → Follows acts w (sum values a b (λ v. Sum (Val v) es)) c after → Rewrites w (Sum (Val a) (more (Val b) es)) c after
      sum_end : {w : W} {v : V} → Rewrites w (Sum (Val v) none) (Goes (Val v)) w
      -- ECMA-262, the logical NOT operator
      not_in : {w after : W} {e : Term V} {c : Rewritten V S (Term V)} → Rewrites w e c after
          → Rewrites w (Not e) (inside (λ e. Not e) c) after
      not_of : {w : W} {v : V} → Rewrites w (Not (Val v)) (Goes (Val (values.truth (not (is_true (values.look v)))))) w
      post_in : {w after : W} {e : Term V} {ls : LinkTerms V} {c : Rewritten V S (Term V)} → Rewrites w e c after
          → Rewrites w (Post e ls) (inside (λ e. Post e ls) c) after
      -- ECMA-262, property accessors, GetValue
      member_of : {w after : W} {v : V} {x : List ℕ} {ls : LinkTerms V} {c : Rewritten V S (Term V)}
          → Follows acts w (Asks (act.Member v x) (complete values (λ u. Post (Val u) ls))) c after
          → Rewrites w (Post (Val v) (member x ls)) c after
      -- ECMA-262, ArgumentListEvaluation
      arguments : {w after : W} {f : V} {es : Terms V} {ls : LinkTerms V} {c : Rewritten V S (Terms V)} → RewritesIn w es c after
          → Rewrites w (Post (Val f) (call es ls)) (inside (λ es. Post (Val f) (call es ls)) c) after
      -- ECMA-262, EvaluateCall
      call_of : {w after : W} {f : V} {es : Terms V} {vs : List V} {ls : LinkTerms V} {c : Rewritten V S (Term V)} → AreValues es vs
          → Follows acts w (called values f vs ls) c after → Rewrites w (Post (Val f) (call es ls)) c after
      post_end : {w : W} {v : V} → Rewrites w (Post (Val v) ends) (Goes (Val v)) w
      -- own: `print`
      print_in : {w after : W} {es : Terms V} {c : Rewritten V S (Terms V)} → RewritesIn w es c after
          → Rewrites w (Print es) (inside (λ es. Print es) c) after
      print : {w after : W} {es : Terms V} {vs : List V} {c : Rewritten V S (Term V)} → AreValues es vs
          → Follows acts w (printed values vs) c after → Rewrites w (Print es) c after
      -- ECMA-262, the new operator, of Error alone
      error_in : {w after : W} {e : Term V} {c : Rewritten V S (Term V)} → Rewrites w e c after
          → Rewrites w (NewError e) (inside (λ e. NewError e) c) after
      error : {w after : W} {v : V} {c : Rewritten V S (Term V)} → Follows acts w (error_made values v) c after
          → Rewrites w (NewError (Val v)) c after
      -- ECMA-262, EvaluateImportCall
      import_in : {w after : W} {e : Term V} {c : Rewritten V S (Term V)} → Rewrites w e c after
          → Rewrites w (Import e) (inside (λ e. Import e) c) after
      begins : {w after : W} {v : V} {c : Rewritten V S (Term V)} → Follows acts w (import_begun values v) c after
          → Rewrites w (Import (Val v)) c after
      -- ECMA-262, import.meta; HTML, HostGetImportMetaProperties: `url`
      own_url : {w : W} → Rewrites w OwnUrl (Goes (Val (values.text (url w)))) w

    -- the first argument that isn't a value
    pub data RewritesIn : W → Terms V → Rewritten V S (Terms V) → W → Type 0 where
      first : {w after : W} {e : Term V} {es : Terms V} {c : Rewritten V S (Term V)} → Rewrites w e c after
          → RewritesIn w (more e es) (inside (λ e. more e es) c) after
      later : {w after : W} {v : V} {es : Terms V} {c : Rewritten V S (Terms V)} → RewritesIn w es c after
          → RewritesIn w (more (Val v) es) (inside (λ es. more (Val v) es) c) after
