-- A rewriting of the part under way is one of the whole.
use Rattle.std.proofs.Common.{◌≡◌, ℕ, ◌+◌, ◌<◌, Bool, true, false, List, [], ◌∷◌, ◌++◌, length, Vec, refl, ap, subst, sym, arith}
use Rattle.std.specs.Prelude.{Result, Ok, Err, codes, not, if◌then◌else◌}
use Rattle.esm_tree.specs.Syntax as ast
use Rattle.std.specs.declared.alloc.Global.{Global}
use Rattle.esm_tree.specs.Flat.{part}
use Rattle.esm_tree.specs.declared.node.ExprId.{ExprId}
use Rattle.esm_values.specs.Plans.{Acting, Rewritten, Plan, inside, Follows}
use Rattle.esm_values.specs.Plans.Rewritten.{Goes, Leaves, Calls, Stops}
use Rattle.esm_values.specs.Acts.{Act as act}
use Rattle.esm_values.specs.Plans.{Follows as follows}
use Rattle.esm_values.specs.Completion.{Normal, Throw}
use Rattle.esm_values.specs.Operators.{is_true, is_func, faults, sum, error_of, compare, look_of, Look, Look as look}
use Rattle.esm_values.specs.declared.errors.FaultKind.TheVariants as kinds
use Rattle.esm_values.specs.Code.{CodeValue, value_of, values_of, numbered}
use Rattle.esm_values.specs.declared.value.Value.{Value}
use Rattle.esm_expr_eval.specs.Terms.{Term, Terms, LinkTerms, term, terms, links}
use Rattle.esm_expr_eval.specs.Terms.Term.{Val, Waits, NewError, Import, Or, And, Sum, Post, Print}
use Rattle.esm_expr_eval.specs.Terms.Terms.{none, more}
use Rattle.esm_expr_eval.specs.Terms.LinkTerms.{call}
use Rattle.esm_expr_eval.specs.Parts.{from, compared_from, links_of, links_from}
use Rattle.esm_expr_eval.specs.Rewriting.{Rewrites, RewritesIn, enters, printed, error_made, import_begun, AreValues, AreValues as values_are}
use Rattle.esm_expr_eval.specs.Rewriting.{Rewrites as step}
use Rattle.esm_expr_eval.specs.Rewriting.{RewritesIn as step_in}
use Rattle.esm_expr_eval.specs.Ends.{Leads, TermEnd}
use Rattle.esm_expr_eval.specs.Ends.{Leads as leads}
use Rattle.esm_expr_eval.specs.Frames.{behind, plug, around, rest_links, arguments_of, rest_operands, operands_of, comparisons_of, IsFrame, AreFrames, frame_work, frames_work, size, sizes, compared_size, links_size, GoesOn, EndsTurn, Keeps, AnswersPlan, IsCalled, FollowsPlan, Begins}
use Rattle.esm_expr_eval.proofs.Stacks.{around_push, frames_push, work_push}
use Rattle.esm_expr_eval.specs.declared.world.Out.TheVariants as o
use Rattle.esm_expr_eval.specs.declared.world.ExprEnd.{ExprEnd}
use Rattle.esm_expr_eval.specs.declared.world.ExprEnd.TheVariants as ends
use Rattle.esm_expr_eval.specs.declared.frame.Focus.TheVariants as focus
use Rattle.esm_expr_eval.specs.declared.frame.Next.{Next}
use Rattle.esm_expr_eval.specs.declared.frame.Next.TheVariants as next
use Rattle.esm_expr_eval.specs.declared.frame.Frame.{Frame}
use Rattle.esm_expr_eval.specs.declared.frame.Frame.TheVariants as f

inside_id : {V S A : Type 0} (c : Rewritten V S A) → inside (λ a. a) c ≡ c
inside_id (Goes a) = refl
inside_id (Leaves v) = refl
inside_id (Calls g vs a) = refl
inside_id (Stops why) = refl

inside_twice : {V S A B C : Type 0} (g : B → C) (h : A → B) (c : Rewritten V S A) → inside g (inside h c) ≡ inside (λ a. g (h a)) c
inside_twice g h (Goes a) = refl
inside_twice g h (Leaves v) = refl
inside_twice g h (Calls k vs a) = refl
inside_twice g h (Stops why) = refl

module _ {W S : Type 0} (url : W → List ℕ) (acts : Acting W CodeValue S) where
  abbrev RewritesNumbered : W → Term CodeValue → Rewritten CodeValue S (Term CodeValue) → W → Type 0
  RewritesNumbered = Rewrites numbered url acts

  arguments_in : (vs : List CodeValue) (es : Terms CodeValue) {w after : W} {t : Term CodeValue} {c : Rewritten CodeValue S (Term CodeValue)} → RewritesNumbered w t c after → RewritesIn numbered url acts w (behind vs (more t es)) (inside (λ t. behind vs (more t es)) c) after
  arguments_in [] es s = step_in.first s
  arguments_in (v ∷ vs) es {w} {after} {t} {c} s = subst (λ d. RewritesIn numbered url acts w (behind (v ∷ vs) (more t es)) d after) (inside_twice _ _ c) (step_in.later (arguments_in vs es s))

  plugged : (exprs : List ast.Expr) (frame : Frame) {w after : W} {t : Term CodeValue} {c : Rewritten CodeValue S (Term CodeValue)} → RewritesNumbered w t c after → RewritesNumbered w (plug exprs frame t) (inside (plug exprs frame) c) after
  plugged exprs (f.Or at n) s = step.or_in s
  plugged exprs (f.And at n) s = step.and_in s
  plugged exprs (f.Equal at n) s = step.equal_in s
  plugged exprs (f.Compared at n alike v) s = step.equal_right s
  plugged exprs (f.Sum at n) s = step.sum_in s
  plugged exprs (f.Added at n v) s = step.sum_right s
  plugged exprs f.Not s = step.not_in s
  plugged exprs (f.Post at n) s = step.post_in s
  plugged exprs (f.Arguments at link n callee vs) {w} {after} {t} {c} s = subst (λ d. RewritesNumbered w (plug exprs (f.Arguments at link n callee vs) t) d after) (inside_twice _ _ c) (step.arguments (arguments_in (values_of vs.items) _ s))
  plugged exprs (f.Print at n vs) {w} {after} {t} {c} s = subst (λ d. RewritesNumbered w (plug exprs (f.Print at n vs) t) d after) (inside_twice _ _ c) (step.print_in (arguments_in (values_of vs.items) _ s))
  plugged exprs f.NewError s = step.error_in s
  plugged exprs f.Import s = step.import_in s

  pub rewritten : (exprs : List ast.Expr) (frames : List Frame) {w after : W} {t : Term CodeValue} {c : Rewritten CodeValue S (Term CodeValue)} → RewritesNumbered w t c after → RewritesNumbered w (around exprs frames t) (inside (around exprs frames) c) after
  unfolding around
  rewritten exprs [] {w} {after} {t} {c} s = subst (λ d. RewritesNumbered w t d after) (sym (inside_id c)) s
  rewritten exprs (frame ∷ frames) {w} {after} {t} {c} s = subst (λ d. RewritesNumbered w (around exprs (frame ∷ frames) t) d after) (inside_twice _ _ c) (plugged exprs frame (rewritten exprs frames s))

  -- each end of a rewriting of the part under way
  pub goes_on : (exprs : List ast.Expr) (frames : List Frame) {w mid : W} {t u : Term CodeValue} → RewritesNumbered w t (Goes u) mid → GoesOn url acts w (around exprs frames t) mid (around exprs frames u)
  goes_on exprs frames s = λ end after l. leads.goes (rewritten exprs frames s) l

  pub leaves : (exprs : List ast.Expr) (frames : List Frame) {w after : W} {t : Term CodeValue} {v : CodeValue} → RewritesNumbered w t (Leaves v) after → Leads numbered url acts w (around exprs frames t) (TermEnd.Thrown v) after
  leaves exprs frames s = leads.throws (rewritten exprs frames s)

  pub stands : (exprs : List ast.Expr) (frames : List Frame) {w after : W} {t u : Term CodeValue} {g : CodeValue} {vs : List CodeValue} → RewritesNumbered w t (Calls g vs u) after → Leads numbered url acts w (around exprs frames t) (TermEnd.Call g vs (around exprs frames u)) after
  stands exprs frames s = leads.calls (rewritten exprs frames s)

  pub stops : (exprs : List ast.Expr) (frames : List Frame) {w after : W} {t : Term CodeValue} {why : S} → RewritesNumbered w t (Stops why) after → Leads numbered url acts w (around exprs frames t) (TermEnd.Stopped why) after
  stops exprs frames s = leads.stopped (rewritten exprs frames s)

  pub same : (w : W) (t u : Term CodeValue) → t ≡ u → GoesOn url acts w t w u
  same w t u e = λ end after l. subst (λ t. Leads numbered url acts w t end after) (sym e) l

  -- a rewriting, behind which a part begins in a frame
  pub begins_tells : (exprs : List ast.Expr) (old new : List Frame) (w : W) (t : Term CodeValue) (frame : Frame) (id : ExprId) (r : Result Next (ExprEnd S)) → GoesOn url acts w (around exprs old t) w (around exprs old (plug exprs frame (term numbered (part exprs id)))) → Begins old frame id r new → EndsTurn url acts exprs w (around exprs old t) r w new
  begins_tells exprs old new w t frame id (Ok (next.Focus (focus.Begin k))) g h = rw (h.0, h.1, around_push exprs old frame (term numbered (part exprs id))) g
  begins_tells exprs old new w t frame id (Ok (next.Focus (focus.Value v))) g h = absurd h
  begins_tells exprs old new w t frame id (Ok (next.Thrown v)) g h = absurd h
  begins_tells exprs old new w t frame id (Ok (next.Call k us)) g h = absurd h
  begins_tells exprs old new w t frame id (Ok (next.Done v)) g h = absurd h
  begins_tells exprs old new w t frame id (Err (ends.Stopped why)) g h = absurd h
  begins_tells exprs old new w t frame id (Err ends.Memory) g h = tt

  -- the same where the whole is that part in its frame already
  pub begun_tells : (exprs : List ast.Expr) (old new : List Frame) (w : W) (t : Term CodeValue) (frame : Frame) (id : ExprId) (r : Result Next (ExprEnd S)) → t ≡ plug exprs frame (term numbered (part exprs id)) → Begins old frame id r new → EndsTurn url acts exprs w (around exprs old t) r w new
  begun_tells exprs old new w t frame id r e h = begins_tells exprs old new w t frame id r (same w _ _ (ap (around exprs old) e)) h

  -- a value in a frame
  pub value_pushed : (exprs : List ast.Expr) (old new : List Frame) (w after : W) (t : Term CodeValue) (frame : Frame) (v : CodeValue) → GoesOn url acts w (around exprs old t) after (around exprs old (plug exprs frame (Val v))) → new ≡ old ++ frame ∷ [] → GoesOn url acts w (around exprs old t) after (around exprs new (Val v))
  value_pushed exprs old new w after t frame v g e = rw (e, around_push exprs old frame (Val v)) g

  -- || and && behind a value
  or_true : (w : W) (v : CodeValue) (e : Term CodeValue) (es : Terms CodeValue) → is_true (look_of v) ≡ true → RewritesNumbered w (Or (Val v) (more e es)) (Goes (Val v)) w
  or_true w v e es t = let P : Bool → Type 0 = λ b. RewritesNumbered w (Or (Val v) (more e es)) (Goes (if b then Val v else Or e es)) w in subst P t step.or

  or_false : (w : W) (v : CodeValue) (e : Term CodeValue) (es : Terms CodeValue) → is_true (look_of v) ≡ false → RewritesNumbered w (Or (Val v) (more e es)) (Goes (Or e es)) w
  or_false w v e es t = let P : Bool → Type 0 = λ b. RewritesNumbered w (Or (Val v) (more e es)) (Goes (if b then Val v else Or e es)) w in subst P t step.or

  and_true : (w : W) (v : CodeValue) (e : Term CodeValue) (es : Terms CodeValue) → is_true (look_of v) ≡ true → RewritesNumbered w (And (Val v) (more e es)) (Goes (And e es)) w
  and_true w v e es t = let P : Bool → Type 0 = λ b. RewritesNumbered w (And (Val v) (more e es)) (Goes (if b then And e es else Val v)) w in subst P t step.and

  and_false : (w : W) (v : CodeValue) (e : Term CodeValue) (es : Terms CodeValue) → is_true (look_of v) ≡ false → RewritesNumbered w (And (Val v) (more e es)) (Goes (Val v)) w
  and_false w v e es t = let P : Bool → Type 0 = λ b. RewritesNumbered w (And (Val v) (more e es)) (Goes (if b then And e es else Val v)) w in subst P t step.and

  module _ (exprs : List ast.Expr) (frames : List Frame) (w : W) (at : ExprId) (n : ℕ) (v : CodeValue) where
    abbrev Begun : (ExprId → Term CodeValue) → (Term CodeValue) → Type 0
    Begun frame t = (id : ExprId) → from n (operands_of exprs at) ≡ ast.more (part exprs id) (from (n + 1) (operands_of exprs at)) → GoesOn url acts w (around exprs frames t) w (around exprs frames (frame id))

    pub or_last : from n (operands_of exprs at) ≡ ast.none → GoesOn url acts w (around exprs frames (plug exprs (f.Or at n) (Val v))) w (around exprs frames (Val v))
    or_last e = rw e (goes_on exprs frames step.or)

    pub or_found : {e : ast.Expr} {es : ast.Exprs} → from n (operands_of exprs at) ≡ ast.more e es → is_true (look_of v) ≡ true → GoesOn url acts w (around exprs frames (plug exprs (f.Or at n) (Val v))) w (around exprs frames (Val v))
    or_found e t = rw e (goes_on exprs frames (or_true w v _ _ t))

    pub or_next : (id : ExprId) → from n (operands_of exprs at) ≡ ast.more (part exprs id) (from (n + 1) (operands_of exprs at)) → is_true (look_of v) ≡ false → GoesOn url acts w (around exprs frames (plug exprs (f.Or at n) (Val v))) w (around exprs frames (plug exprs (f.Or at (n + 1)) (term numbered (part exprs id))))
    or_next id e t = rw e (goes_on exprs frames (or_false w v _ _ t))

    pub and_last : from n (operands_of exprs at) ≡ ast.none → GoesOn url acts w (around exprs frames (plug exprs (f.And at n) (Val v))) w (around exprs frames (Val v))
    and_last e = rw e (goes_on exprs frames step.and)

    pub and_found : {e : ast.Expr} {es : ast.Exprs} → from n (operands_of exprs at) ≡ ast.more e es → is_true (look_of v) ≡ false → GoesOn url acts w (around exprs frames (plug exprs (f.And at n) (Val v))) w (around exprs frames (Val v))
    and_found e t = rw e (goes_on exprs frames (and_false w v _ _ t))

    pub and_next : (id : ExprId) → from n (operands_of exprs at) ≡ ast.more (part exprs id) (from (n + 1) (operands_of exprs at)) → is_true (look_of v) ≡ true → GoesOn url acts w (around exprs frames (plug exprs (f.And at n) (Val v))) w (around exprs frames (plug exprs (f.And at (n + 1)) (term numbered (part exprs id))))
    and_next id e t = rw e (goes_on exprs frames (and_true w v _ _ t))

    -- comparisons behind a value
    pub equal_last : compared_from n (comparisons_of exprs at) ≡ ast.last → GoesOn url acts w (around exprs frames (plug exprs (f.Equal at n) (Val v))) w (around exprs frames (Val v))
    equal_last e = rw e (goes_on exprs frames step.equal_end)

    -- + behind a value
    pub sum_last : from n (operands_of exprs at) ≡ ast.none → GoesOn url acts w (around exprs frames (plug exprs (f.Sum at n) (Val v))) w (around exprs frames (Val v))
    sum_last e = rw e (goes_on exprs frames step.sum_end)

    -- members and calls behind a value
    pub post_last : links_from n (links_of (part exprs at)) ≡ ast.ends → GoesOn url acts w (around exprs frames (plug exprs (f.Post at n) (Val v))) w (around exprs frames (Val v))
    post_last e = rw e (goes_on exprs frames step.post_end)

    module _ (x : List ℕ) (it : links_from n (links_of (part exprs at)) ≡ ast.member x (links_from (n + 1) (links_of (part exprs at)))) (after : W) where
      pub member_goes : (u : CodeValue) → acts w (act.Member v x) (Ok (Normal u)) after → GoesOn url acts w (around exprs frames (plug exprs (f.Post at n) (Val v))) after (around exprs frames (plug exprs (f.Post at (n + 1)) (Val u)))
      member_goes u a = rw it (goes_on exprs frames (step.member_of (follows.asks (Normal u) a follows.ends)))

      pub member_leaves : (u : CodeValue) → acts w (act.Member v x) (Ok (Throw u)) after → Leads numbered url acts w (around exprs frames (plug exprs (f.Post at n) (Val v))) (TermEnd.Thrown u) after
      member_leaves u a = rw it (leaves exprs frames (step.member_of (follows.asks (Throw u) a follows.ends)))

      pub member_stops : (why : S) → acts w (act.Member v x) (Err why) after → Leads numbered url acts w (around exprs frames (plug exprs (f.Post at n) (Val v))) (TermEnd.Stopped why) after
      member_stops why a = rw it (stops exprs frames (step.member_of (follows.stops a)))

  pub equal_next : (exprs : List ast.Expr) (frames : List Frame) (w : W) (at : ExprId) (n : ℕ) (v : Value) (alike : Bool) (id : ExprId) → compared_from n (comparisons_of exprs at) ≡ ast.compared alike (part exprs id) (compared_from (n + 1) (comparisons_of exprs at)) → GoesOn url acts w (around exprs frames (plug exprs (f.Equal at n) (Val (value_of v)))) w (around exprs frames (plug exprs (f.Compared at (n + 1) alike v) (term numbered (part exprs id))))
  equal_next exprs frames w at n v alike id e = rw e (λ end after l. l)

  pub compares : (exprs : List ast.Expr) (frames : List Frame) (w : W) (at : ExprId) (n : ℕ) (alike : Bool) (left : Value) (v : CodeValue) → GoesOn url acts w (around exprs frames (plug exprs (f.Compared at n alike left) (Val v))) w (around exprs frames (plug exprs (f.Equal at n) (Val (numbered.truth (compare alike (numbered.same (value_of left) v))))))
  compares exprs frames w at n alike left v = goes_on exprs frames step.equal

  pub sum_next : (exprs : List ast.Expr) (frames : List Frame) (w : W) (at : ExprId) (n : ℕ) (v : Value) (id : ExprId) → from n (operands_of exprs at) ≡ ast.more (part exprs id) (from (n + 1) (operands_of exprs at)) → GoesOn url acts w (around exprs frames (plug exprs (f.Sum at n) (Val (value_of v)))) w (around exprs frames (plug exprs (f.Added at (n + 1) v) (term numbered (part exprs id))))
  sum_next exprs frames w at n v id e = rw e (λ end after l. l)

  module _ (exprs : List ast.Expr) (frames : List Frame) (w after : W) (at : ExprId) (n : ℕ) (a : Value) (b : CodeValue) where
    pub sum_joined : (v : Value) → AnswersPlan url acts w (λ rest. sum numbered (value_of a) b rest) (Ok (o.Value v)) after → GoesOn url acts w (around exprs frames (plug exprs (f.Added at n a) (Val b))) after (around exprs frames (plug exprs (f.Sum at n) (Val (value_of v))))
    sum_joined v h = goes_on exprs frames (step.joins (h (λ v. Sum (Val v) (rest_operands exprs at n))))

    pub sum_leaves : (v : Value) → AnswersPlan url acts w (λ rest. sum numbered (value_of a) b rest) (Ok (o.Thrown v)) after → Leads numbered url acts w (around exprs frames (plug exprs (f.Added at n a) (Val b))) (TermEnd.Thrown (value_of v)) after
    sum_leaves v h = leaves exprs frames (step.joins (h (λ v. Sum (Val v) (rest_operands exprs at n))))

    pub sum_ends : (new : List Frame) (end : ExprEnd S) → AnswersPlan url acts w (λ rest. sum numbered (value_of a) b rest) (Err end) after → EndsTurn url acts exprs w (around exprs frames (plug exprs (f.Added at n a) (Val b))) (Err end) after new
    sum_ends new (ends.Stopped why) h = stops exprs frames (step.joins (h (λ v. Sum (Val v) (rest_operands exprs at n))))
    sum_ends new ends.Memory h = tt

  -- the first argument, and further ones, are begun
  pub argument_first : (exprs : List ast.Expr) (frames : List Frame) (w : W) (at : ExprId) (n : ℕ) (v : Value) (vs : Vec Value Global) (id : ExprId) (es : ast.Exprs) → vs.items ≡ [] → links_from n (links_of (part exprs at)) ≡ ast.call es (links_from (n + 1) (links_of (part exprs at))) → es ≡ ast.more (part exprs id) (from 1 es) → GoesOn url acts w (around exprs frames (plug exprs (f.Post at n) (Val (value_of v)))) w (around exprs frames (plug exprs (f.Arguments at n 1 v vs) (term numbered (part exprs id))))
  argument_first exprs frames w at n v vs id es i e d =
      same w _ _ (rw (e, i) (ap (λ x. around exprs frames (Post (Val (value_of v)) (call (terms numbered x) (links numbered (links_from (n + 1) (links_of (part exprs at))))))) d))

  behind_values : (vs : List CodeValue) → AreValues (behind vs none) vs
  behind_values [] = values_are.nil
  behind_values (v ∷ vs) = values_are.cons (behind_values vs)

  pub behind_push : (vs : List Value) (v : Value) (es : Terms CodeValue) → behind (values_of (vs ++ v ∷ [])) es ≡ behind (values_of vs) (more (Val (value_of v)) es)
  behind_push [] v es = refl
  behind_push (u ∷ vs) v es = ap (λ es. more (Val (value_of u)) es) (behind_push vs v es)

  pub argument_next : (exprs : List ast.Expr) (frames : List Frame) (w : W) (at : ExprId) (link n : ℕ) (g v : Value) (vs us : Vec Value Global) (id : ExprId) → us.items ≡ vs.items ++ v ∷ [] → from n (arguments_of exprs at link) ≡ ast.more (part exprs id) (from (n + 1) (arguments_of exprs at link)) → GoesOn url acts w (around exprs frames (plug exprs (f.Arguments at link n g vs) (Val (value_of v)))) w (around exprs frames (plug exprs (f.Arguments at link (n + 1) g us) (term numbered (part exprs id))))
  argument_next exprs frames w at link n g v vs us id i e = rw (i, behind_push vs.items v _, e) (λ end after l. l)

  pub called_tells : (exprs : List ast.Expr) (frames new : List Frame) (w after : W) (at : ExprId) (n : ℕ) (g : CodeValue) (vs : List CodeValue) (r : Result Next (ExprEnd S)) → IsCalled url acts w frames (f.Post at n) g vs r after new → EndsTurn url acts exprs w (around exprs frames (Post (Val g) (call (behind vs none) (rest_links exprs at n)))) r after new
  called_tells exprs frames new w after at n g vs (Ok (next.Focus foc)) h = absurd h
  called_tells exprs frames new w after at n g vs (Ok (next.Done v)) h = absurd h
  called_tells exprs frames new w after at n g vs (Ok (next.Thrown v)) h = leaves exprs frames (step.call_of (behind_values vs) (h _))
  called_tells exprs frames new w after at n g vs (Ok (next.Call k us)) h = rw (h.0, h.1, h.2, around_push exprs frames (f.Post at n) Waits) (stands exprs frames (step.call_of (behind_values vs) (h.3 _)))
  called_tells exprs frames new w after at n g vs (Err (ends.Stopped why)) h = stops exprs frames (step.call_of (behind_values vs) (h _))
  called_tells exprs frames new w after at n g vs (Err ends.Memory) h = tt

  pub called_tells_behind : (exprs : List ast.Expr) (frames new : List Frame) (w after : W) (at : ExprId) (n : ℕ) (g : CodeValue) (vs : List Value) (v : Value) (r : Result Next (ExprEnd S)) → IsCalled url acts w frames (f.Post at n) g (values_of (vs ++ v ∷ [])) r after new → EndsTurn url acts exprs w (around exprs frames (Post (Val g) (call (behind (values_of vs) (more (Val (value_of v)) none)) (rest_links exprs at n)))) r after new
  called_tells_behind exprs frames new w after at n g vs v r h = rw (← behind_push vs v none) (called_tells exprs frames new w after at n g (values_of (vs ++ v ∷ [])) r h)

  pub called_keeps : (exprs : List ast.Expr) (frames new : List Frame) (w after : W) (at : ExprId) (n most : ℕ) (g : CodeValue) (vs : List CodeValue) (r : Result Next (ExprEnd S)) → AreFrames (length exprs) frames → at.0 < length exprs → IsCalled url acts w frames (f.Post at n) g vs r after new → Keeps exprs most r new
  called_keeps exprs frames new w after at n most g vs (Ok (next.Focus foc)) a b h = absurd h
  called_keeps exprs frames new w after at n most g vs (Ok (next.Done v)) a b h = tt
  called_keeps exprs frames new w after at n most g vs (Ok (next.Thrown v)) a b h = tt
  called_keeps exprs frames new w after at n most g vs (Ok (next.Call k us)) a b h = rw h.2 (frames_push _ _ _ a b)
  called_keeps exprs frames new w after at n most g vs (Err end) a b h = tt

  -- print
  pub print_next : (exprs : List ast.Expr) (frames : List Frame) (w : W) (at : ExprId) (n : ℕ) (v : Value) (vs us : Vec Value Global) (id : ExprId) → us.items ≡ vs.items ++ v ∷ [] → from n (operands_of exprs at) ≡ ast.more (part exprs id) (from (n + 1) (operands_of exprs at)) → GoesOn url acts w (around exprs frames (plug exprs (f.Print at n vs) (Val (value_of v)))) w (around exprs frames (plug exprs (f.Print at (n + 1) us) (term numbered (part exprs id))))
  print_next exprs frames w at n v vs us id i e = rw (i, behind_push vs.items v _, e) (λ end after l. l)

  -- a turn that follows the plan of a rewriting
  pub planned_tells : (exprs : List ast.Expr) (frames : List Frame) (w after : W) (t : Term CodeValue) (plan : Plan CodeValue S (Term CodeValue)) (r : Result Next (ExprEnd S)) → ((c : Rewritten CodeValue S (Term CodeValue)) → Follows acts w plan c after → RewritesNumbered w t c after) → FollowsPlan url acts w plan r after → EndsTurn url acts exprs w (around exprs frames t) r after frames
  planned_tells exprs frames w after t plan (Ok (next.Focus (focus.Begin id))) s h = absurd h
  planned_tells exprs frames w after t plan (Ok (next.Focus (focus.Value v))) s h = goes_on exprs frames (s _ h)
  planned_tells exprs frames w after t plan (Ok (next.Thrown v)) s h = leaves exprs frames (s _ h)
  planned_tells exprs frames w after t plan (Ok (next.Call k us)) s h = absurd h
  planned_tells exprs frames w after t plan (Ok (next.Done v)) s h = absurd h
  planned_tells exprs frames w after t plan (Err (ends.Stopped why)) s h = stops exprs frames (s _ h)
  planned_tells exprs frames w after t plan (Err ends.Memory) s h = tt

  pub planned_keeps : (exprs : List ast.Expr) (frames : List Frame) (w after : W) (left : ℕ) (plan : Plan CodeValue S (Term CodeValue)) (r : Result Next (ExprEnd S)) → AreFrames (length exprs) frames → 0 < left → FollowsPlan url acts w plan r after → Keeps exprs (frames_work exprs frames + left) r frames
  planned_keeps exprs frames w after left plan (Ok (next.Focus (focus.Begin id))) a l h = absurd h
  planned_keeps exprs frames w after left plan (Ok (next.Focus (focus.Value v))) a l h = (a, tt, omega (arith, l))
  planned_keeps exprs frames w after left plan (Ok (next.Thrown v)) a l h = tt
  planned_keeps exprs frames w after left plan (Ok (next.Call k us)) a l h = absurd h
  planned_keeps exprs frames w after left plan (Ok (next.Done v)) a l h = absurd h
  planned_keeps exprs frames w after left plan (Err end) a l h = tt

  pub printed_tells : (exprs : List ast.Expr) (frames : List Frame) (w after : W) (vs : List CodeValue) (r : Result Next (ExprEnd S)) → FollowsPlan url acts w (printed numbered vs) r after → EndsTurn url acts exprs w (around exprs frames (Print (behind vs none))) r after frames
  printed_tells exprs frames w after vs r h = planned_tells exprs frames w after (Print (behind vs none)) (printed numbered vs) r (λ c p. step.print (behind_values vs) p) h

  pub printed_tells_behind : (exprs : List ast.Expr) (frames : List Frame) (w after : W) (vs : List Value) (v : Value) (r : Result Next (ExprEnd S)) → FollowsPlan url acts w (printed numbered (values_of (vs ++ v ∷ []))) r after → EndsTurn url acts exprs w (around exprs frames (Print (behind (values_of vs) (more (Val (value_of v)) none)))) r after frames
  printed_tells_behind exprs frames w after vs v r h = rw (← behind_push vs v none) (printed_tells exprs frames w after (values_of (vs ++ v ∷ [])) r h)

  -- ! behind a value
  pub not_goes : (exprs : List ast.Expr) (frames : List Frame) (w : W) (v : CodeValue) → GoesOn url acts w (around exprs frames (plug exprs f.Not (Val v))) w (around exprs frames (Val (numbered.truth (not (is_true (look_of v))))))
  not_goes exprs frames w v = goes_on exprs frames step.not_of

  -- new Error and import() behind a value
  pub error_tells : (exprs : List ast.Expr) (frames : List Frame) (w after : W) (v : CodeValue) (r : Result Next (ExprEnd S)) → FollowsPlan url acts w (error_made numbered v) r after → EndsTurn url acts exprs w (around exprs frames (plug exprs f.NewError (Val v))) r after frames
  error_tells exprs frames w after v r h = planned_tells exprs frames w after (NewError (Val v)) (error_made numbered v) r (λ c p. step.error p) h

  pub import_tells : (exprs : List ast.Expr) (frames : List Frame) (w after : W) (v : CodeValue) (r : Result Next (ExprEnd S)) → FollowsPlan url acts w (import_begun numbered v) r after → EndsTurn url acts exprs w (around exprs frames (plug exprs f.Import (Val v))) r after frames
  import_tells exprs frames w after v r h = planned_tells exprs frames w after (Import (Val v)) (import_begun numbered v) r (λ c p. step.begins p) h

  pub error_ends : (w mid after : W) (v : CodeValue) (end : ExprEnd S) → acts w (act.Step 1) (Ok tt) mid → AnswersPlan url acts mid (λ rest. error_of numbered rest v (look_of v)) (Err end) after → FollowsPlan url acts w (error_made numbered v) (Err end) after
  error_ends w mid after v (ends.Stopped why) took h = follows.asks tt took (h (λ u. Val u))
  error_ends w mid after v ends.Memory took h = tt

  -- a callee
  pub enters_function : (w : W) (g : CodeValue) (vs : List CodeValue) (ls : LinkTerms CodeValue) (l : Look) → is_func l ≡ true → Follows acts w (enters numbered g vs ls l) (Calls g vs (Post Waits ls)) w
  enters_function w g vs ls look.Undefined e = cc
  enters_function w g vs ls (look.Truth b) e = cc
  enters_function w g vs ls (look.Text s) e = cc
  enters_function w g vs ls look.Func e = follows.ends
  enters_function w g vs ls look.Error e = cc
  enters_function w g vs ls look.Other e = cc

  pub enters_other : (w after : W) (g : CodeValue) (vs : List CodeValue) (ls : LinkTerms CodeValue) (c : Rewritten CodeValue S (Term CodeValue)) (l : Look) → is_func l ≡ false → Follows acts w (faults numbered kinds.TypeError (codes "not a function")) c after → Follows acts w (enters numbered g vs ls l) c after
  enters_other w after g vs ls c look.Undefined e h = h
  enters_other w after g vs ls c (look.Truth b) e h = h
  enters_other w after g vs ls c (look.Text s) e h = h
  enters_other w after g vs ls c look.Func e h = cc
  enters_other w after g vs ls c look.Error e h = h
  enters_other w after g vs ls c look.Other e h = h

  pub called_ends : (w mid after : W) (old new : List Frame) (frame : Frame) (g : CodeValue) (vs : List CodeValue) (end : ExprEnd S) → is_func (look_of g) ≡ false → acts w (act.Step 1) (Ok tt) mid → AnswersPlan url acts mid (λ rest. faults numbered kinds.TypeError (codes "not a function")) (Err end) after → IsCalled url acts w old frame g vs (Err end) after new
  called_ends w mid after old new frame g vs (ends.Stopped why) e a h = λ ls. follows.asks tt a (enters_other mid after g vs ls _ _ e (h (λ v. Val v)))
  called_ends w mid after old new frame g vs ends.Memory e a h = tt

  -- a name
  module _ (exprs : List ast.Expr) (frames : List Frame) (w after : W) (at : ExprId) (x : List ℕ) (it : part exprs at ≡ ast.Name x) where
    pub read_goes : (v : CodeValue) → acts w (act.Read x) (Ok (Normal v)) after → GoesOn url acts w (around exprs frames (term numbered (part exprs at))) after (around exprs frames (Val v))
    read_goes v a = rw it (goes_on exprs frames (step.name (follows.asks (Normal v) a follows.ends)))

    pub read_leaves : (v : CodeValue) → acts w (act.Read x) (Ok (Throw v)) after → Leads numbered url acts w (around exprs frames (term numbered (part exprs at))) (TermEnd.Thrown v) after
    read_leaves v a = rw it (leaves exprs frames (step.name (follows.asks (Throw v) a follows.ends)))

    pub read_stops : (why : S) → acts w (act.Read x) (Err why) after → Leads numbered url acts w (around exprs frames (term numbered (part exprs at))) (TermEnd.Stopped why) after
    read_stops why a = rw it (stops exprs frames (step.name (follows.stops a)))

  pub url_goes : (exprs : List ast.Expr) (frames : List Frame) (w : W) (at : ExprId) → part exprs at ≡ ast.Url → GoesOn url acts w (around exprs frames (term numbered (part exprs at))) w (around exprs frames (Val (numbered.text (url w))))
  url_goes exprs frames w at e = rw e (goes_on exprs frames step.own_url)

  -- what a part is, with the same syntax
  pub is_same : (exprs : List ast.Expr) (frames : List Frame) (w : W) (t u : Term CodeValue) → t ≡ u → GoesOn url acts w (around exprs frames t) w (around exprs frames u)
  is_same exprs frames w t u e = same w _ _ (ap (around exprs frames) e)

-- what is printed begins with its first argument
pub print_begun : (exprs : List ast.Expr) (at id : ExprId) (es : ast.Exprs) (vs : Vec Value Global) → part exprs at ≡ ast.Print es → vs.items ≡ [] → es ≡ ast.more (part exprs id) (from 1 es) → term numbered (part exprs at) ≡ plug exprs (f.Print at 1 vs) (term numbered (part exprs id))
print_begun exprs at id es vs e i d = rw (e, i) (ap (λ x. Print (terms numbered x)) d)

-- less is left behind one more frame
keeps_begin : (exprs : List ast.Expr) (frames : List Frame) (frame : Frame) (id : ExprId) (most : ℕ) → AreFrames (length exprs) frames → IsFrame (length exprs) frame → id.0 < length exprs → frame_work exprs frame + size (part exprs id) < most → AreFrames (length exprs) (frames ++ frame ∷ []) × (id.0 < length exprs) × (frames_work exprs (frames ++ frame ∷ []) + size (part exprs id) < frames_work exprs frames + most)
keeps_begin exprs frames frame id most a b i h =
    let p = work_push exprs frames frame in
    (frames_push _ _ _ a b, i, omega (arith, p, h))

pub begins_keeps : {S : Type 0} (exprs : List ast.Expr) (old new : List Frame) (frame : Frame) (id : ExprId) (most : ℕ) (r : Result Next (ExprEnd S)) → AreFrames (length exprs) old → IsFrame (length exprs) frame → id.0 < length exprs → frame_work exprs frame + size (part exprs id) < most → Begins old frame id r new → Keeps exprs (frames_work exprs old + most) r new
begins_keeps exprs old new frame id most (Ok (next.Focus (focus.Begin k))) a b i l h = rw (h.0, h.1) (keeps_begin exprs old frame id most a b i l)
begins_keeps exprs old new frame id most (Ok (next.Focus (focus.Value v))) a b i l h = absurd h
begins_keeps exprs old new frame id most (Ok (next.Thrown v)) a b i l h = absurd h
begins_keeps exprs old new frame id most (Ok (next.Call g us)) a b i l h = absurd h
begins_keeps exprs old new frame id most (Ok (next.Done v)) a b i l h = absurd h
begins_keeps exprs old new frame id most (Err end) a b i l h = tt

pub keeps_value : (exprs : List ast.Expr) (frames new : List Frame) (frame : Frame) (most : ℕ) → AreFrames (length exprs) frames → IsFrame (length exprs) frame → frame_work exprs frame < most → new ≡ frames ++ frame ∷ [] → AreFrames (length exprs) new × Unit {0} × (frames_work exprs new + 0 < frames_work exprs frames + most)
keeps_value exprs frames new frame most a b h e =
    let p = work_push exprs frames frame in
    rw e (frames_push _ _ _ a b, tt, omega (arith, p, h))

-- what the parts behind a place weigh
pub operand_work : {rest es : ast.Exprs} {e : ast.Expr} → rest ≡ ast.more e es → sizes rest ≡ 2 + size e + sizes es
operand_work e = ap (λ x. sizes x) e

pub compared_work : {rest cs : ast.Compared} {b : Bool} {e : ast.Expr} → rest ≡ ast.compared b e cs → compared_size rest ≡ 3 + size e + compared_size cs
compared_work e = ap (λ x. compared_size x) e

pub call_work : {rest ls : ast.Links} {es : ast.Exprs} → rest ≡ ast.call es ls → links_size rest ≡ 2 + sizes es + links_size ls
call_work e = ap (λ x. links_size x) e

pub member_work : {rest ls : ast.Links} {x : List ℕ} → rest ≡ ast.member x ls → links_size rest ≡ 1 + links_size ls
member_work e = ap (λ x. links_size x) e
