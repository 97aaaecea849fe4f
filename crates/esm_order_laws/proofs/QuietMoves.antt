-- What remains of a body, where no tree holds an import(), goes on the same, however an import() would begin.
use Rattle.std.proofs.Common.{◌≡◌, ℕ, Bool, true, false, List, [], ◌∷◌, length, Option, Some, None, refl, subst, ◌∙◌}
use Rattle.std.specs.Prelude.{nat_lt, ⊤}
use Rattle.esm_base.specs.declared.limits.Limit.{Limit}
use Rattle.esm_base.specs.declared.limits.TheConstants.{MAX_CALL_DEPTH}
use Rattle.esm_base.specs.Lists.{IsSameness}
use Rattle.esm_tree.specs.Syntax.{Stmts}
use Rattle.esm_values.specs.Value.{Value, Undefined}
use Rattle.esm_values.specs.Value.{Value as value}
use Rattle.esm_values.specs.Naming.{Naming}
use Rattle.esm_values.specs.Acts.{Act as act}
use Rattle.esm_values.specs.Completion.{Completion}
use Rattle.esm_values.specs.Plans.{Rewritten as comes}
use Rattle.esm_values.specs.Operators.{values, look_of, is_true}
use Rattle.esm_expr_eval.specs.Terms.{Term}
use Rattle.esm_expr_eval.specs.Terms.Term.{Val, Fails}
use Rattle.esm_env.specs.Cells.{Cell, Reading}
use Rattle.esm_env.specs.Declarations.{FunctionCode}
use Rattle.esm_env.specs.Modules.{Modules, function_of}
use Rattle.esm_env.specs.Naming.{AreNamed}
use Rattle.esm_env.specs.Writing.{Writing, writing_of}
use Rattle.esm_env.specs.Writing.{Writing as writing}
use Rattle.esm_rewriting.specs.Scopes.{Scope, in_scopes}
use Rattle.esm_rewriting.specs.Rest.{Rest, more}
use Rattle.esm_rewriting.specs.Rest.{Part as part}
use Rattle.esm_rewriting.specs.Rest.{Use as use_of}
use Rattle.esm_rewriting.specs.State.{State, Importing, AnswerWith}
use Rattle.esm_rewriting.specs.Acts.{Inner, Performs, ReadsBy, ReadsMemberOf, set_at, write_in, write_name, scope_write, module_write, modules_of}
use Rattle.esm_rewriting.specs.BodyRewriting.{RewrittenBody, On, Gives, Waits, within, caught, wrote, own_url, RewritesBody}
use Rattle.esm_rewriting.specs.Segment.{Active, Ended, Normal, Thrown, Awaiting, Stopped, Next, Goes, Over, called_by, called, call_by, return_to, next_by, Segment}
use Rattle.esm_rewriting.specs.Segment.{Segment as segment}
use Rattle.esm_rewriting.specs.Naming.{ImportsFollow}
use Rattle.esm_rewriting.proofs.NamedMoves.{moves_stay}
use Rattle.esm_world.specs.ImportCalls.{stmts_import, holds_import}
use Rattle.esm_order_laws.proofs.Quiet.{Quiet, QuietRest, whole_quiet, rest_filled, begin_quiet, branch_quiet, code_quiet}
use Rattle.esm_order_laws.proofs.QuietTerms.{QuietCame, inside_quiet, QuietPlan, ActAlike, follows_quiet, rewrites_quiet}

-- each module by its own name
abbrev pub one_of : {N : Type 0} (n m : N) → Some n ≡ Some m → m ≡ n
one_of n m e = cc

abbrev pub own : {N : Type 0} → Naming N N
own = record { name = λ n. n; of = λ n. Some n; back = λ n. refl; only = one_of }

-- no import() begins
abbrev pub Nowhere : {N I : Type 0} → Importing N I
Nowhere o m text p how x = ⊥

module _ {N : Type 0} where
  -- ---- what a rewriting comes to

  abbrev pub QuietMove : RewrittenBody (Value N) Limit → Type 0
  QuietMove (On c) = QuietCame QuietRest c
  QuietMove (Gives v) = ⊤
  QuietMove (Waits v r) = QuietRest r

  within_quiet : (f : Rest (Value N) → Rest (Value N)) → ((r : Rest (Value N)) → QuietRest r → QuietRest (f r)) → (move : RewrittenBody (Value N) Limit) → QuietMove move → QuietMove (within f move)
  within_quiet f on (On c) q = inside_quiet QuietRest QuietRest f on c q
  within_quiet f on (Gives v) q = tt
  within_quiet f on (Waits v r) q = on r q

  caught_quiet : (x : Option (List ℕ)) (handler : Stmts) (rest : Rest (Value N)) → stmts_import handler ≡ false → QuietRest rest → (move : RewrittenBody (Value N) Limit) → QuietMove move
      → QuietMove (caught x handler rest move)
  caught_quiet x handler rest h k (On (comes.Leaves v)) q = (whole_quiet (Value N) handler h, k)
  caught_quiet x handler rest h k (On (comes.Goes r)) q = ((q, h), k)
  caught_quiet x handler rest h k (On (comes.Calls f vs r)) q = ((q, h), k)
  caught_quiet x handler rest h k (On (comes.Stops why)) q = tt
  caught_quiet x handler rest h k (Gives v) q = tt
  caught_quiet x handler rest h k (Waits v r) q = ((q, h), k)

  wrote_quiet : (rest : Rest (Value N)) (o : Option (Value N)) → QuietRest rest → QuietMove (wrote rest o)
  wrote_quiet rest None q = q
  wrote_quiet rest (Some v) q = tt

  abbrev pub QuietCallers : List (Active N) → Type 0
  QuietCallers [] = ⊤
  QuietCallers (c ∷ cs) = QuietRest c.rest × QuietCallers cs

  abbrev pub QuietEnd : Ended N → Type 0
  QuietEnd Normal = ⊤
  QuietEnd (Thrown v) = ⊤
  QuietEnd (Awaiting v rest) = QuietRest rest
  QuietEnd (Stopped why) = ⊤

module _ {N I : Type 0} (same : N → N → Bool) (modules : I → Modules N) (begins : Importing N I) where
  -- ---- calls on the world that aren't import()

  module _ (m : N) where
    reads_alike : (w : State N I) (x : List ℕ) (c : Option (Cell (Value N))) (read : Reading (Value N)) → ReadsBy same modules begins m w x c read → ReadsBy same modules Nowhere m w x c read
    reads_alike w x (Some c) read p = p
    reads_alike w x None read p = p

    members_alike : (w : Inner N I) (v : Value N) (x : List ℕ) (told : AnswerWith (Completion (Value N)) (Inner N I)) → ReadsMemberOf same modules begins m w v x told → ReadsMemberOf same modules Nowhere m w v x told
    members_alike w value.Undefined x told p = p
    members_alike w (value.Truth b) x told p = p
    members_alike w (value.Text t) x told p = p
    members_alike w (value.Func k i) x told p = p
    members_alike w (value.Error e) x told p = p
    members_alike w (value.Namespace k) x told p = p
    members_alike w (value.Promise q) x told p = p

    acts_alike : ActAlike (Performs same modules begins m) (Performs same modules Nowhere m)
    acts_alike w after (act.Read x) r n p = (p.0, reads_alike w.state x (in_scopes w.scopes x) p.0 p.1, p.2)
    acts_alike w after (act.Member v x) r n p = members_alike w v x (r, after) p
    acts_alike w after (act.Display v) r n p = p
    acts_alike w after (act.Print vs) r n p = p
    acts_alike w after (act.Fault kind message) r n p = p
    acts_alike w after (act.Step steps) r n p = p
    acts_alike w after (act.Import v) r n p = absurd n

    set_alike : (ss : List (Scope (Value N))) (w : State N I) (x : List ℕ) (v : Value N) → set_at same modules Nowhere m ss w x v ≡ set_at same modules begins m ss w x v
    set_alike [] w x v = refl
    set_alike (s ∷ ss) w x v = refl

    scope_alike : (w : Inner N I) (x : List ℕ) (v : Value N) (constant : Bool) (old : Option (Value N)) → scope_write same modules Nowhere m w x v constant old ≡ scope_write same modules begins m w x v constant old
    scope_alike w x v constant None = refl
    scope_alike w x v true (Some old) = refl
    scope_alike w x v false (Some old) = refl

    module_alike : (w : Inner N I) (x : List ℕ) (o : Writing N) → module_write same modules Nowhere m w x o ≡ module_write same modules begins m w x o
    module_alike w x (writing.Done cells) = refl
    module_alike w x writing.Unset = refl
    module_alike w x writing.Constant = refl
    module_alike w x writing.Undeclared = refl

    in_alike : (w : Inner N I) (x : List ℕ) (v : Value N) (c : Option (Cell (Value N))) → write_in same modules Nowhere m w x v c ≡ write_in same modules begins m w x v c
    in_alike w x v (Some c) = scope_alike w x v c.constant c.value
    in_alike w x v None = module_alike w x (writing_of same (modules_of modules w.state) w.state.cells m x v)

    write_alike : (w : Inner N I) (x : List ℕ) (v : Value N) → write_name same modules Nowhere m w x v ≡ write_name same modules begins m w x v
    write_alike w x v = in_alike w x v (in_scopes w.scopes x)

    -- ---- rewritings

    abbrev V : Type 0
    V = Value N

    abbrev After : Inner N I → Rest V → RewrittenBody V Limit → Inner N I → Type 0
    After w r move after = RewritesBody same modules Nowhere m w r move after × QuietMove move

    pub moves_quiet : {w after : Inner N I} {r : Rest V} {move : RewrittenBody V Limit} → QuietRest r → RewritesBody same modules begins m w r move after → After w r move after
    moves_quiet q (RewritesBody.begins_at {s = s} {rest = rest} p) =
        let k = follows_quiet (Performs same modules begins m) (Performs same modules Nowhere m) acts_alike QuietRest (QuietPlan.asks tt (λ r. QuietPlan.ends (begin_quiet (values same) s rest q.0 q.1))) p in
        (RewritesBody.begins_at k.0, k.1)
    moves_quiet q (RewritesBody.does {purpose = purpose} {rest = rest} {c = c} p) =
        let k = rewrites_quiet (values same) (own_url same modules begins m) (Performs same modules begins m) (Performs same modules Nowhere m) acts_alike q.0.1 p in
        (RewritesBody.does k.0, inside_quiet Quiet QuietRest (λ e. more (part.Does purpose e) rest) (λ e h. ((q.0.0, h), q.1)) c k.1)
    moves_quiet q RewritesBody.drops = (RewritesBody.drops, q.1)
    moves_quiet {w} q (RewritesBody.sets {x = x} {v = v} {rest = rest}) =
        (subst (λ a. RewritesBody same modules Nowhere m w (more (part.Does (use_of.Sets x) (Val v)) rest) (On (comes.Goes rest)) a) (set_alike w.scopes w.state x v) RewritesBody.sets, q.1)
    moves_quiet {w} q (RewritesBody.writes {x = x} {v = v} {rest = rest}) = (
      subst (λ (k : Option V × Inner N I). RewritesBody same modules Nowhere m w (more (part.Does (use_of.Writes x) (Val v)) rest) (wrote rest k.0) k.1) (write_alike w x v) RewritesBody.writes,
      wrote_quiet rest (write_name same modules begins m w x v).0 q.1,
    )
    moves_quiet q RewritesBody.throws = (RewritesBody.throws, tt)
    moves_quiet q RewritesBody.returns = (RewritesBody.returns, tt)
    moves_quiet q (RewritesBody.prints {rest = rest} p) =
        let k = follows_quiet (Performs same modules begins m) (Performs same modules Nowhere m) acts_alike QuietRest (QuietPlan.asks tt (λ r. QuietPlan.asks tt (λ s. QuietPlan.ends q.1))) p in
        (RewritesBody.prints k.0, k.1)
    moves_quiet q (RewritesBody.chooses {v = v} {ss = ss} {others = others}) = (RewritesBody.chooses, (branch_quiet (values same) (is_true (look_of v)) ss others q.0.0.0 q.0.0.1, q.1))
    moves_quiet q RewritesBody.awaits = (RewritesBody.awaits, (q.0.0, q.1))
    moves_quiet q (RewritesBody.inner {scope' = scope'} {rest = rest} {move = move} p) =
        let k = moves_quiet q.0 p in (RewritesBody.inner k.0, within_quiet (λ r. more (part.In scope' r) rest) (λ r h. (h, q.1)) move k.1)
    moves_quiet q RewritesBody.inner_end = (RewritesBody.inner_end, q.1)
    moves_quiet q (RewritesBody.tries {rest = rest} {x = x} {handler = handler} {move = move} p) =
        let k = moves_quiet q.0.0 p in (RewritesBody.tries k.0, caught_quiet x handler rest q.0.1 q.1 move k.1)
    moves_quiet q RewritesBody.tries_end = (RewritesBody.tries_end, q.1)

  -- ---- segments

  call_alike : (b : Bool) (m : N) (r : Rest (Value N)) (cs : List (Active N)) (w : State N I) (c : Option (Active N)) → call_by same modules Nowhere b m r cs w c ≡ call_by same modules begins b m r cs w c
  call_alike true m r cs w (Some c) = refl
  call_alike true m r cs w None = refl
  call_alike false m r cs w c = refl

  return_alike : (given : Term (Value N)) (cs : List (Active N)) (w : State N I) → return_to same modules Nowhere given cs w ≡ return_to same modules begins given cs w
  return_alike given [] w = refl
  return_alike given (c ∷ cs) w = refl

  next_alike : (m : N) (cs : List (Active N)) (move : RewrittenBody (Value N) Limit) (w : State N I) → next_by same modules Nowhere m cs move w ≡ next_by same modules begins m cs move w
  next_alike m cs (On (comes.Goes r)) w = refl
  next_alike m [] (On (comes.Leaves v)) w = refl
  next_alike m (c ∷ cs) (On (comes.Leaves v)) w = return_alike (Fails v) (c ∷ cs) w
  next_alike m cs (On (comes.Calls f vs r)) w = call_alike (nat_lt (length cs) MAX_CALL_DEPTH) m r cs w (called (modules_of modules w) f vs)
  next_alike m cs (On (comes.Stops why)) w = refl
  next_alike m cs (Gives v) w = return_alike (Val v) cs w
  next_alike m [] (Waits v r) w = refl
  next_alike m (c ∷ cs) (Waits v r) w = refl

  -- no tree of these modules holds an import()
  module _ (Good : I → Type 0) (trees : (i : I) → Good i → (m : N) → holds_import ((modules i).tree m) ≡ false) where
    abbrev QuietCalled : Option (Active N) → Type 0
    QuietCalled None = ⊤
    QuietCalled (Some a) = QuietRest a.rest

    by_code : (m : N) (vs : List (Value N)) (o : Option FunctionCode) → ((f : FunctionCode) → o ≡ Some f → stmts_import f.body ≡ false) → QuietCalled (called_by m vs o)
    by_code m vs None q = tt
    by_code m vs (Some f) q = (whole_quiet (Value N) f.body (q f refl), tt)

    called_quiet : (i : I) → Good i → (f : Value N) (vs : List (Value N)) → QuietCalled (called (modules i) f vs)
    called_quiet i g value.Undefined vs = tt
    called_quiet i g (value.Truth b) vs = tt
    called_quiet i g (value.Text t) vs = tt
    called_quiet i g (value.Func m k) vs = by_code m vs (function_of (modules i) m k) (λ f e. code_quiet ((modules i).tree m) (trees i g m) k f e)
    called_quiet i g (value.Error e) vs = tt
    called_quiet i g (value.Namespace m) vs = tt
    called_quiet i g (value.Promise p) vs = tt

    abbrev QuietNext : Option (Next N I) → Type 0
    QuietNext None = ⊤
    QuietNext (Some (Goes m r cs w)) = Good w.outer.imports × QuietRest r × QuietCallers cs
    QuietNext (Some (Over how w)) = Good w.outer.imports × QuietEnd how

    by_call : (b : Bool) (m : N) (r : Rest (Value N)) (cs : List (Active N)) (w : State N I) (c : Option (Active N)) → Good w.outer.imports → QuietRest r → QuietCallers cs → QuietCalled c
        → QuietNext (call_by same modules begins b m r cs w c)
    by_call true m r cs w (Some c) g q qs k = (g, k, (q, qs))
    by_call true m r cs w None g q qs k = tt
    by_call false m r cs w c g q qs k = (g, rest_filled (Fails _) tt r q, qs)

    by_return : (given : Term (Value N)) → Quiet given → (cs : List (Active N)) (w : State N I) → Good w.outer.imports → QuietCallers cs → QuietNext (return_to same modules begins given cs w)
    by_return given q [] w g qs = tt
    by_return given q (c ∷ cs) w g qs = (g, rest_filled given q c.rest qs.0, qs.1)

    next_quiet : (m : N) (cs : List (Active N)) (move : RewrittenBody (Value N) Limit) (w : State N I) → Good w.outer.imports → QuietMove move → QuietCallers cs
        → QuietNext (next_by same modules begins m cs move w)
    next_quiet m cs (On (comes.Goes r)) w g q qs = (g, q, qs)
    next_quiet m [] (On (comes.Leaves v)) w g q qs = (g, tt)
    next_quiet m (c ∷ cs) (On (comes.Leaves v)) w g q qs = by_return (Fails v) tt (c ∷ cs) w g qs
    next_quiet m cs (On (comes.Calls f vs r)) w g q qs =
        by_call (nat_lt (length cs) MAX_CALL_DEPTH) m r cs w (called (modules_of modules w) f vs) g q qs (called_quiet w.outer.imports g f vs)
    next_quiet m cs (On (comes.Stops why)) w g q qs = (g, tt)
    next_quiet m cs (Gives v) w g q qs = by_return (Val v) tt cs w g qs
    next_quiet m [] (Waits v r) w g q qs = (g, q)
    next_quiet m (c ∷ cs) (Waits v r) w g q qs = tt

    module _ (sameness : IsSameness same) where
      itself_named : (i : I) → Good i → AreNamed own (modules i) (modules i)
      itself_named i g = record {
        url = λ m. refl;
        tree = λ m. refl;
        target = λ m k below. refl;
        number = λ x. x;
        numbers = λ m. refl;
        renumbers = λ m. record { entries = λ x r. refl; by_name = λ x e r c. refl; by_star = λ x s r c. refl; apart = λ x y r s e. e };
        named = λ m x r. refl;
      }

      no_imports : ImportsFollow {M = N} {N = N} own (λ (i : I). i) Good Nowhere Nowhere
      no_imports o x m text p how g b = absurd b

      stays_good : (m : N) {w after : Inner N I} {r : Rest (Value N)} {move : RewrittenBody (Value N) Limit} → Good w.state.outer.imports → RewritesBody same modules Nowhere m w r move after
          → Good after.state.outer.imports
      stays_good m g p = moves_stay own (λ (i : I). i) same same modules modules Nowhere Nowhere sameness sameness Good itself_named no_imports m g p

      pub segments_quiet : {w after : State N I} {m : N} {r : Rest (Value N)} {cs : List (Active N)} {how : Ended N} → Good w.outer.imports → QuietRest r → QuietCallers cs
          → Segment same modules begins w m r cs how after → Segment same modules Nowhere w m r cs how after × QuietEnd how
      segments_quiet g q qs segment.ends = (segment.ends, tt)
      segments_quiet g q qs (segment.returns {c = c} p) =
          let k = segments_quiet g (rest_filled (Val Undefined) tt c.rest qs.0) qs.1 p in (segment.returns k.0, k.1)
      segments_quiet {w} {m = m} {cs = cs} g q qs (segment.goes {mid = mid} move p e next) =
          let one = moves_quiet m q p in
          let good = stays_good m g one.0 in
          let n = subst QuietNext e (next_quiet m cs move mid good one.1 qs) in
          let k = segments_quiet n.0 n.1 n.2 next in
          (segment.goes move one.0 (next_alike m cs move mid ∙ e) k.0, k.1)
      segments_quiet {w} {m = m} {cs = cs} g q qs (segment.over {mid = mid} move p e) =
          let one = moves_quiet m q p in
          let good = stays_good m g one.0 in
          let n = subst QuietNext e (next_quiet m cs move mid good one.1 qs) in
          (segment.over move one.0 (next_alike m cs move mid ∙ e), n.1)
