-- Rewritings of bodies, and segments, follow the names of modules.
use Rattle.std.proofs.Common.{◌≡◌, ℕ, suc, Bool, true, false, List, [], ◌∷◌, map, Option, Some, None, refl, ap, subst, sym, ◌∙◌, length}
use Rattle.std.specs.Prelude.{nat_lt}
use Rattle.std.specs.Option.{option_map}
use Rattle.esm_base.specs.declared.limits.Limit.{Limit}
use Rattle.esm_base.specs.declared.limits.TheConstants.{MAX_CALL_DEPTH}
use Rattle.esm_base.specs.Lists.{IsSameness}
use Rattle.esm_tree.specs.Syntax.{Item, Stmts}
use Rattle.esm_values.specs.Value.{Value, Undefined, Truth, Text, Func, Error, Namespace, Promise}
use Rattle.esm_values.specs.Plans.{Rewritten}
use Rattle.esm_values.specs.Plans.{Rewritten as comes}
use Rattle.esm_values.specs.Plans.{Plan as plan}
use Rattle.esm_values.specs.Operators.{values, look_of, is_true}
use Rattle.esm_values.specs.Naming.{Naming, mapped_rewritten, LooksAlike}
use Rattle.esm_expr_eval.specs.Terms.{Term}
use Rattle.esm_expr_eval.specs.Terms.Term.{Val, Fails}
use Rattle.esm_expr_eval.specs.Naming.{mapped_term, ActsFollow}
use Rattle.esm_expr_eval.proofs.Named.{PlanFollows, plan_follows, plan_stays, inside_follows, rewrites_follow, rewrites_stay}
use Rattle.esm_env.specs.Declarations.{FunctionCode, function_at}
use Rattle.esm_env.specs.Modules.{Modules, function_of}
use Rattle.esm_env.specs.Naming.{AreNamed}
use Rattle.esm_env.proofs.Named as env
use Rattle.esm_rewriting.specs.Rest.{Rest, end, more, begin, branch}
use Rattle.esm_rewriting.specs.Rest.{Part as part}
use Rattle.esm_rewriting.specs.Rest.{Use as use_of}
use Rattle.esm_rewriting.specs.State.{State, Importing}
use Rattle.esm_rewriting.specs.Acts.{Inner, Performs, modules_of, write_name}
use Rattle.esm_rewriting.specs.BodyRewriting.{RewrittenBody, On, Gives, Waits, within, caught, wrote, own_url, RewritesBody}
use Rattle.esm_rewriting.specs.Segment.{Active, active, Ended, Next, Goes, Over, called_by, called, call_by, return_to, next_by, too_deep, Segment}
use Rattle.esm_rewriting.specs.Segment.{Segment as segment}
use Rattle.esm_rewriting.specs.Naming.{mapped_scope, mapped_rest, renamed_active, renamed_ended, ImportsFollow}
use Rattle.esm_rewriting.proofs.NamedRests.{fill_follows, whole_follows, call_scope_follows, handler_follows, begin_follows, branch_follows}
use Rattle.esm_rewriting.proofs.NamedActs.{V, ren, ren_inner, look_alike, acts_follow, sets, writes, set_stays, write_stays}

module _ {M N I J : Type 0} (names : Naming M N) (image : I → J) (same : M → M → Bool) (other : N → N → Bool) (modules : I → Modules M) (images : J → Modules N)
    (begins : Importing M I) (others : Importing N J) (s : IsSameness same) (t : IsSameness other) (Good : I → Type 0) (k : (i : I) → Good i → AreNamed names (modules i) (images (image i))) (imports : ImportsFollow names image Good begins others) where
  abbrev pub F : Value M → Value N
  F v = V names image same other modules images begins others s t Good k imports v

  abbrev pub R : State M I → State N J
  R w = ren names image same other modules images begins others s t Good k imports w

  abbrev pub RI : Inner M I → Inner N J
  RI w = ren_inner names image same other modules images begins others s t Good k imports w

  abbrev pub Rr : Rest (Value M) → Rest (Value N)
  Rr r = mapped_rest F r

  abbrev Came : Rewritten (Value M) Limit (Rest (Value M)) → Rewritten (Value N) Limit (Rest (Value N))
  Came c = mapped_rewritten F Rr c

  abbrev pub moved : RewrittenBody (Value M) Limit → RewrittenBody (Value N) Limit
  moved (On c) = On (Came c)
  moved (Gives v) = Gives (F v)
  moved (Waits v r) = Waits (F v) (Rr r)

  -- what import() reads and writes is good
  abbrev pub IsGood : State M I → Type 0
  IsGood w = Good w.outer.imports

  abbrev pub Inside : Inner M I → Type 0
  Inside w = IsGood w.state

  pub looks : (i : I) → Good i → LooksAlike F (values same) (values other)
  looks i g = look_alike names.name same other (env.same_follows names (modules i) (images (image i)) (k i g) same other s t)

  within_follows : (g : Rest (Value M) → Rest (Value M)) (h : Rest (Value N) → Rest (Value N)) → ((r : Rest (Value M)) → Rr (g r) ≡ h (Rr r)) → (move : RewrittenBody (Value M) Limit) → moved (within g move) ≡ within h (moved move)
  within_follows g h e (On c) = ap On (inside_follows F g h Rr Rr e c)
  within_follows g h e (Gives v) = refl
  within_follows g h e (Waits v r) = ap (Waits (F v)) (e r)

  caught_follows : (x : Option (List ℕ)) (handler : Stmts) (rest : Rest (Value M)) (move : RewrittenBody (Value M) Limit) → moved (caught x handler rest move) ≡ caught x handler (Rr rest) (moved move)
  caught_follows x handler rest (On (comes.Leaves v)) = λ i. On (comes.Goes (more (part.In (handler_follows F x v handler i) (whole_follows F handler i)) (Rr rest)))
  caught_follows x handler rest (On (comes.Goes r)) = refl
  caught_follows x handler rest (On (comes.Calls f vs r)) = refl
  caught_follows x handler rest (On (comes.Stops why)) = refl
  caught_follows x handler rest (Gives v) = refl
  caught_follows x handler rest (Waits v r) = refl

  wrote_follows : (rest : Rest (Value M)) (o : Option (Value M)) → moved (wrote rest o) ≡ wrote (Rr rest) (option_map F o)
  wrote_follows rest None = refl
  wrote_follows rest (Some v) = refl

  module _ (m : M) where
    abbrev Before : Inner M I → Rest (Value M) → RewrittenBody (Value M) Limit → Inner M I → Type 0
    Before w r move after = RewritesBody same modules begins m w r move after

    abbrev After : Inner M I → Rest (Value N) → RewrittenBody (Value N) Limit → Inner M I → Type 0
    After w r move after = RewritesBody other images others (names.name m) (RI w) r move (RI after)

    same_move : (w after : Inner M I) {r : Rest (Value N)} {a b : RewrittenBody (Value N) Limit} → a ≡ b → After w r b after → After w r a after
    same_move w after {r} e p = subst (λ a. After w r a after) (sym e) p

    abbrev A : (w : Inner M I) → Inside w → LooksAlike F (values same) (values other)
    A w g = looks w.state.outer.imports g

    goes : (rest : Rest (Value M)) (other_rest : Rest (Value N)) → Rr rest ≡ other_rest → PlanFollows F {S = Limit} Rr (plan.Ends (comes.Goes rest)) (plan.Ends (comes.Goes other_rest))
    goes rest other_rest e = subst (λ r. PlanFollows F {S = Limit} Rr (plan.Ends (comes.Goes rest)) (plan.Ends (comes.Goes r))) e PlanFollows.ends

    abbrev K : ActsFollow F Inside RI (Performs same modules begins m) (Performs other images others (names.name m))
    K = acts_follow names image same other modules images begins others s t Good k imports m

    pub moves_follow : {w after : Inner M I} {r : Rest (Value M)} {move : RewrittenBody (Value M) Limit} → Inside w → Before w r move after → After w (Rr r) (moved move) after
    moves_follow {w} g (RewritesBody.begins_at {s = stmt} {rest = rest} p) =
        RewritesBody.begins_at (plan_follows F Inside RI (Performs same modules begins m) (Performs other images others (names.name m)) K (PlanFollows.asks (λ r. goes (begin (values same) stmt rest) (begin (values other) stmt (Rr rest)) (begin_follows F (values same) (values other) (A w g) stmt rest))) g p)
    moves_follow {w} {after} g (RewritesBody.does {purpose = u} {rest = rest} {c = c} p) =
        same_move w after (ap On (inside_follows F (λ e. more (part.Does u e) rest) (λ e. more (part.Does u e) (Rr rest)) (mapped_term F) Rr (λ e. refl) c))
        (RewritesBody.does (rewrites_follow F (values same) (values other) (A w g) Inside RI (own_url same modules begins m) (own_url other images others (names.name m)) (Performs same modules begins m) (Performs other images others (names.name m)) (λ w g. (k w.state.outer.imports g).url m) K g p))
    moves_follow g RewritesBody.drops = RewritesBody.drops
    moves_follow {w} g (RewritesBody.sets {x = x} {v = v} {rest = rest}) =
        subst (λ a. RewritesBody other images others (names.name m) (RI w) (more (part.Does (use_of.Sets x) (Val (F v))) (Rr rest)) (On (comes.Goes (Rr rest))) a)
        (sets names image same other modules images begins others s t Good k imports m w.scopes w.state g x v) RewritesBody.sets
    moves_follow {w} {after} g (RewritesBody.writes {x = x} {v = v} {rest = rest}) =
        same_move w after (wrote_follows rest (write_name same modules begins m w x v).0)
        (subst (λ (q : Option (Value N) × Inner N J). RewritesBody other images others (names.name m) (RI w) (more (part.Does (use_of.Writes x) (Val (F v))) (Rr rest)) (wrote (Rr rest) q.0) q.1)
        (writes names image same other modules images begins others s t Good k imports m w g x v) RewritesBody.writes)
    moves_follow g RewritesBody.throws = RewritesBody.throws
    moves_follow g RewritesBody.returns = RewritesBody.returns
    moves_follow g (RewritesBody.prints {v = v} {rest = rest} p) =
        RewritesBody.prints (plan_follows F Inside RI (Performs same modules begins m) (Performs other images others (names.name m)) K (PlanFollows.asks (λ r. PlanFollows.asks (λ q. PlanFollows.ends))) g p)
    moves_follow {w} {after} g (RewritesBody.chooses {v = v} {ss = ss} {others = rs} {rest = rest}) =
        same_move w after ((λ i. On (comes.Goes (more (branch_follows F (values same) (values other) (A w g) (is_true (look_of v)) ss rs i) (Rr rest)))) ∙ ap (λ l. On (comes.Goes (more (branch (values other) (is_true l) ss rs) (Rr rest)))) (sym ((A w g).look v)))
        RewritesBody.chooses
    moves_follow g RewritesBody.awaits = RewritesBody.awaits
    moves_follow {w} {after} g (RewritesBody.inner {scope' = scope'} {rest = rest} {move = move} p) =
        same_move w after (within_follows (λ r. more (part.In scope' r) rest) (λ r. more (part.In (mapped_scope F scope') r) (Rr rest)) (λ r. refl) move) (RewritesBody.inner (moves_follow g p))
    moves_follow g RewritesBody.inner_end = RewritesBody.inner_end
    moves_follow {w} {after} g (RewritesBody.tries {rest = rest} {x = x} {handler = handler} {move = move} p) = same_move w after (caught_follows x handler rest move) (RewritesBody.tries (moves_follow g p))
    moves_follow g RewritesBody.tries_end = RewritesBody.tries_end

    pub moves_stay : {w after : Inner M I} {r : Rest (Value M)} {move : RewrittenBody (Value M) Limit} → Inside w → Before w r move after → Inside after
    moves_stay g (RewritesBody.begins_at p) = plan_stays F Inside RI (Performs same modules begins m) (Performs other images others (names.name m)) K g p
    moves_stay {w} g (RewritesBody.does p) =
        rewrites_stay F (values same) (values other) (A w g) Inside RI (own_url same modules begins m) (own_url other images others (names.name m)) (Performs same modules begins m) (Performs other images others (names.name m)) (λ w g. (k w.state.outer.imports g).url m) K g p
    moves_stay g RewritesBody.drops = g
    moves_stay {w} g (RewritesBody.sets {x = x} {v = v}) = set_stays names image same other modules images begins others s t Good k imports m w.scopes w.state g x v
    moves_stay {w} g (RewritesBody.writes {x = x} {v = v}) = write_stays names image same other modules images begins others s t Good k imports m w g x v
    moves_stay g RewritesBody.throws = g
    moves_stay g RewritesBody.returns = g
    moves_stay g (RewritesBody.prints p) = plan_stays F Inside RI (Performs same modules begins m) (Performs other images others (names.name m)) K g p
    moves_stay g RewritesBody.chooses = g
    moves_stay g RewritesBody.awaits = g
    moves_stay g (RewritesBody.inner p) = moves_stay g p
    moves_stay g RewritesBody.inner_end = g
    moves_stay g (RewritesBody.tries p) = moves_stay g p
    moves_stay g RewritesBody.tries_end = g

  -- ---- segments

  abbrev Ra : Active M → Active N
  Ra a = renamed_active names a

  abbrev next_moved : Next M I → Next N J
  next_moved (Goes m r cs w) = Goes (names.name m) (Rr r) (map Ra cs) (R w)
  next_moved (Over how w) = Over (renamed_ended names how) (R w)

  count : (cs : List (Active M)) → length (map Ra cs) ≡ length cs
  count [] = refl
  count (c ∷ cs) = ap suc (count cs)

  called_by_follows : (m : M) (vs : List (Value M)) (o : Option FunctionCode) → called_by (names.name m) (map F vs) o ≡ option_map Ra (called_by m vs o)
  called_by_follows m vs None = refl
  called_by_follows m vs (Some f) = λ i. Some (active (names.name m) (more (part.In (sym (call_scope_follows F Undefined f vs) i) (sym (whole_follows F f.body) i)) end))

  called_follows : (w : State M I) → IsGood w → (f : Value M) (vs : List (Value M)) → called (modules_of images (R w)) (F f) (map F vs) ≡ option_map Ra (called (modules_of modules w) f vs)
  called_follows w g Undefined vs = refl
  called_follows w g (Truth b) vs = refl
  called_follows w g (Text u) vs = refl
  called_follows w g (Func m i) vs = ap (λ (items : List Item). called_by (names.name m) (map F vs) (function_at items i)) ((k w.outer.imports g).tree m) ∙ called_by_follows m vs (function_of (modules_of modules w) m i)
  called_follows w g (Error e) vs = refl
  called_follows w g (Namespace m) vs = refl
  called_follows w g (Promise p) vs = refl

  call_follows : (b : Bool) (m : M) (r : Rest (Value M)) (cs : List (Active M)) (w : State M I) (c : Option (Active M))
      → call_by other images others b (names.name m) (Rr r) (map Ra cs) (R w) (option_map Ra c) ≡ option_map next_moved (call_by same modules begins b m r cs w c)
  call_follows true m r cs w (Some c) = refl
  call_follows true m r cs w None = refl
  call_follows false m r cs w c = λ i. Some (Goes (names.name m) (sym (fill_follows F (Fails (Error (length w.outer.errors))) r) i) (map Ra cs) (R (too_deep same modules begins w)))

  return_follows : (given : Term (Value M)) (cs : List (Active M)) (w : State M I) → return_to other images others (mapped_term F given) (map Ra cs) (R w) ≡ option_map next_moved (return_to same modules begins given cs w)
  return_follows given [] w = refl
  return_follows given (c ∷ cs) w = λ i. Some (Goes (names.name c.at) (sym (fill_follows F given c.rest) i) (map Ra cs) (R w))

  next_follows : (m : M) (cs : List (Active M)) (move : RewrittenBody (Value M) Limit) (w : State M I) → IsGood w → next_by other images others (names.name m) (map Ra cs) (moved move) (R w) ≡ option_map next_moved (next_by same modules begins m cs move w)
  next_follows m cs (On (comes.Goes r)) w g = refl
  next_follows m [] (On (comes.Leaves v)) w g = refl
  next_follows m (c ∷ cs) (On (comes.Leaves v)) w g = return_follows (Fails v) (c ∷ cs) w
  next_follows m cs (On (comes.Calls f vs r)) w g =
      (λ i. call_by other images others (nat_lt (count cs i) MAX_CALL_DEPTH) (names.name m) (Rr r) (map Ra cs) (R w) (called_follows w g f vs i))
      ∙ call_follows (nat_lt (length cs) MAX_CALL_DEPTH) m r cs w (called (modules_of modules w) f vs)
  next_follows m cs (On (comes.Stops why)) w g = refl
  next_follows m [] (Gives v) w g = refl
  next_follows m (c ∷ cs) (Gives v) w g = return_follows (Val v) (c ∷ cs) w
  next_follows m [] (Waits v r) w g = refl
  next_follows m (c ∷ cs) (Waits v r) w g = refl

  -- what is good stays so
  abbrev NextGood : Option (Next M I) → Type 0
  NextGood None = Unit {0}
  NextGood (Some (Goes m r cs w)) = IsGood w
  NextGood (Some (Over how w)) = IsGood w

  call_stays : (b : Bool) (m : M) (r : Rest (Value M)) (cs : List (Active M)) (w : State M I) → IsGood w → (c : Option (Active M)) → NextGood (call_by same modules begins b m r cs w c)
  call_stays true m r cs w g (Some c) = g
  call_stays true m r cs w g None = tt
  call_stays false m r cs w g c = g

  next_stays : (m : M) (cs : List (Active M)) (move : RewrittenBody (Value M) Limit) (w : State M I) → IsGood w → NextGood (next_by same modules begins m cs move w)
  next_stays m cs (On (comes.Goes r)) w g = g
  next_stays m [] (On (comes.Leaves v)) w g = g
  next_stays m (c ∷ cs) (On (comes.Leaves v)) w g = g
  next_stays m cs (On (comes.Calls f vs r)) w g = call_stays (nat_lt (length cs) MAX_CALL_DEPTH) m r cs w g (called (modules_of modules w) f vs)
  next_stays m cs (On (comes.Stops why)) w g = g
  next_stays m [] (Gives v) w g = tt
  next_stays m (c ∷ cs) (Gives v) w g = g
  next_stays m [] (Waits v r) w g = g
  next_stays m (c ∷ cs) (Waits v r) w g = tt

  pub segments_follow : {w after : State M I} {m : M} {r : Rest (Value M)} {cs : List (Active M)} {how : Ended M} → IsGood w → Segment same modules begins w m r cs how after
      → Segment other images others (R w) (names.name m) (Rr r) (map Ra cs) (renamed_ended names how) (R after) × IsGood after
  segments_follow g segment.ends = (segment.ends, g)
  segments_follow {w} {after} g (segment.returns {c = c} {cs = cs} {how = how} p) =
      let rest = segments_follow g p in
      (segment.returns (subst (λ r. Segment other images others (R w) (names.name c.at) r (map Ra cs) (renamed_ended names how) (R after)) (fill_follows F (Val Undefined) c.rest) rest.0), rest.1)
  segments_follow {m = m} {cs = cs} g (segment.goes {mid = mid} move p e q) =
      let kept = moves_stay m g p in
      let rest = segments_follow (subst NextGood e (next_stays m cs move mid kept)) q in
      (segment.goes (moved move) (moves_follow m g p) (next_follows m cs move mid kept ∙ ap (option_map next_moved) e) rest.0, rest.1)
  segments_follow {m = m} {cs = cs} g (segment.over {mid = mid} move p e) =
      let kept = moves_stay m g p in
      (segment.over (moved move) (moves_follow m g p) (next_follows m cs move mid kept ∙ ap (option_map next_moved) e), subst NextGood e (next_stays m cs move mid kept))
