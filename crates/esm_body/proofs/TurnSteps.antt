-- Turns that take a step, and those that evaluate an expression.
use Rattle.std.proofs.Common.{◌≡◌, ◌<◌, ◌≤◌, ℕ, nat_eq, Bool, List, [], ◌∷◌, length, ap, subst, sym, ◌∙◌}
use Rattle.std.specs.Prelude.{Result, Ok, Err}
use Rattle.std.specs.Arc.{arc_value}
use Rattle.esm_base.specs.declared.limits.Limit.{Limit}
use Rattle.esm_tree.specs.Syntax.{Parts}
use Rattle.esm_tree.specs.Flat.{stmt_part, stmt_of, need_of, IsStmtBelow}
use Rattle.esm_tree.specs.declared.node.StmtId.{StmtId}
use Rattle.esm_tree.specs.declared.node.StmtNode.{StmtNode}
use Rattle.esm_values.specs.Code.{CodeValue, value_of, values_of, numbered}
use Rattle.esm_values.specs.declared.value.Value.{Value}
use Rattle.esm_values.specs.Acts.{Act as act}
use Rattle.esm_values.specs.Plans.{Rewritten as comes}
use Rattle.esm_values.specs.Plans.{Follows as follows}
use Rattle.esm_expr_eval.specs.Terms.Term.{Val}
use Rattle.esm_promise.specs.Outer.{Outer}
use Rattle.esm_env.specs.Modules.{Modules}
use Rattle.esm_rewriting.specs.Rest.{Part, Rest, more, begin}
use Rattle.esm_rewriting.specs.Rest.{Part as parts}
use Rattle.esm_rewriting.specs.Rest.{Use as uses}
use Rattle.esm_rewriting.specs.State.{Importing}
use Rattle.esm_rewriting.specs.Acts.{Performs}
use Rattle.esm_rewriting.specs.BodyRewriting.{On}
use Rattle.esm_rewriting.specs.BodyRewriting.{RewritesBody as rule}
use Rattle.esm_rewriting.specs.Fits.{Kind, Knows}
use Rattle.esm_rewriting.specs.Chains.{Turns, only}
use Rattle.esm_rewriting.specs.Contexts.{surrounded}
use Rattle.esm_body.specs.Inner.Stack.{levels_rest, scopes_round, Becomes, IsNodeOf}
use Rattle.esm_body.specs.Code.{innermost, AreLevels, IsCode}
use Rattle.esm_body.specs.Inner.World.{state_in, inner_of, HasScopes, IsSame, CodeIsWhole, Answers, ActsInside, with_code}
use Rattle.esm_body.specs.Inner.Turn.{code_rest, code_contexts, used, unbegun, IsReadyFor, Came, Halted, Turned}
use Rattle.esm_body.specs.declared.inside.Inside.{Inside}
use Rattle.esm_rewriting.specs.declared.stop.Stop.{Stop}
use Rattle.esm_rewriting.specs.declared.stop.Stop.TheVariants as stops
use Rattle.esm_body.specs.declared.turn.Outcome.TheVariants as o
use Rattle.esm_body.specs.declared.work.Activation.{Activation}
use Rattle.esm_body.specs.declared.work.Use.TheVariants as u
use Rattle.esm_body.proofs.Led.{same_both}
use Rattle.esm_body.proofs.TurnParts.{keeps_same, keeps_now, part_held, is_ready, front_goes, front_stops, rest_is, ready_stepped}

-- the node of a statement of a tree, seen over another view of the tree
pub node_there : (tree view : Parts) (id : StmtId) (node : StmtNode) → view ≡ tree → stmt_part view.stmts id ≡ stmt_of view.exprs view.stmts node → need_of node ≤ length view.exprs → IsStmtBelow id.0 node → IsNodeOf tree id node
node_there tree view id node e p n b = subst (λ t. IsNodeOf t id node) e (record { part = p; need = n; below = b })

module _ {I S : Type 0} (seen : I → S) (modules : S → Modules ℕ) (linked : S → ℕ → Bool) (fits : Outer ℕ S → Type 0) (begins : Importing ℕ S) where
  abbrev Ready : Inside I → Kind → Rest CodeValue → Type 0
  Ready w k r = IsReadyFor seen modules linked fits begins w k r

  abbrev Step : Inside I → Result (Unit {0}) Limit → Inside I → Type 0
  Step w r y = Answers seen modules linked fits begins w (act.Step 1) r y

  abbrev inner_rest : Inside I → Rest CodeValue
  inner_rest w = innermost (arc_value w.code.now.tree).stmts w.code.now.levels.items

  -- no act of an expression changes scopes
  same_scopes : (w y : Inside I) → IsSame w y → (inner_of seen y).scopes ≡ scopes_round w.code.now.levels.items
  same_scopes w y s = ap (λ (n : Activation). scopes_round n.levels.items) s.now

  same_code : (w y : Inside I) → IsSame w y → IsCode w.code.now → IsCode y.code.now
  same_code w y s c = subst IsCode (sym s.now) c

  -- ---- a statement begins

  pub begin_came : (w y : Inside I) (n : Activation) (k : Kind) (id : StmtId) → Ready w k (unbegun w.code.now id) → Step w (Ok tt) y → n.at ≡ w.code.now.at → n.tree ≡ w.code.now.tree → IsCode n
      → code_rest n ≡ surrounded (code_contexts w.code.now) (begin numbered (stmt_part (arc_value w.code.now.tree).stmts id) (inner_rest w)) → Came seen modules linked fits begins w (unbegun w.code.now id) o.On (with_code y n)
  begin_came w y n k id r s at tree c e =
      let told = s.1 (is_ready seen modules linked fits begins w k (parts.Whole (stmt_part (arc_value w.code.now.tree).stmts id)) r) tt in
      record {
        moved = subst (λ z. Turns nat_eq modules begins w.code.now.at.0 (state_in seen w) (unbegun w.code.now id) (On (comes.Goes z)) (state_in seen y)) (sym e)
            (only (front_goes seen modules linked fits begins w (more (parts.Whole (stmt_part (arc_value w.code.now.tree).stmts id)) (inner_rest w)) (begin numbered (stmt_part (arc_value w.code.now.tree).stmts id) (inner_rest w)) (inner_of seen y) (same_scopes w y s.0)
            (rule.begins_at (follows.asks tt told.0 follows.ends))));
        same = record { at = at; tree = tree; code = c; outcome = tt };
        keeps = keeps_now seen modules linked fits begins w y n (keeps_same seen modules linked fits begins w y r.made s.0 told.1);
      }

  pub begin_halts : (w y : Inside I) (k : Kind) (id : StmtId) (limit : Limit) → Ready w k (unbegun w.code.now id) → Step w (Err limit) y → Halted seen modules linked fits begins w (unbegun w.code.now id) limit y
  begin_halts w y k id limit r s =
      let told = s.1 (is_ready seen modules linked fits begins w k (parts.Whole (stmt_part (arc_value w.code.now.tree).stmts id)) r) tt in
      record {
        turns = only (front_stops seen modules linked fits begins w (more (parts.Whole (stmt_part (arc_value w.code.now.tree).stmts id)) (inner_rest w)) limit (inner_of seen y) (same_scopes w y s.0) (rule.begins_at (follows.stops told.0)));
        keeps = keeps_same seen modules linked fits begins w y r.made s.0 told.1;
      }

  -- ---- a value that was awaited is printed

  abbrev prints_part : Value → Part CodeValue
  prints_part v = parts.Does uses.Prints (Val (value_of v))

  abbrev Prints : Inside I → Value → Result (Unit {0}) Limit → Inside I → Type 0
  Prints w v r y = Answers seen modules linked fits begins w (act.Print (value_of v ∷ [])) r y

  same_twice : {w y z : Inside I} → IsSame w y → IsSame y z → IsSame w z
  same_twice a b = same_both a b

  -- behind the step
  pub record Between (w y : Inside I) (v : Value) : Type 0 where
    pub steps : Performs nat_eq modules begins w.code.now.at.0 (inner_of seen w) (act.Step 1) (Ok tt) (inner_of seen y)
    pub ready : CodeIsWhole seen modules linked fits begins y
    pub knows : Knows modules linked (seen y.imports.now) (value_of v)

  between : (w y : Inside I) (k : Kind) (v : Value) → Ready w k (used w.code.now u.Prints v) → Step w (Ok tt) y → Between w y v
  between w y k v r s =
      let ready = is_ready seen modules linked fits begins w k (prints_part v) r in
      let told = s.1 ready tt in
      let late = ready_stepped seen modules linked fits begins w y k (value_of v) s.0 ready (part_held seen modules linked fits begins w k (prints_part v) r).1 told.0 told.1 in
      record { steps = told.0; ready = late.0; knows = late.1 }

  printed : (w y z : Inside I) (r : Result (Unit {0}) Limit) (v : Value) → IsSame w y → Between w y v → Prints y v r z → Performs nat_eq modules begins w.code.now.at.0 (inner_of seen y) (act.Print (value_of v ∷ [])) r (inner_of seen z) × HasScopes seen modules linked fits begins z
  printed w y z r v same b p =
      let told = p.1 b.ready (b.knows, tt) in
      (subst (λ (n : Activation). Performs nat_eq modules begins n.at.0 (inner_of seen y) (act.Print (value_of v ∷ [])) r (inner_of seen z)) same.now told.0, told.1)

  pub prints_came : (w y z : Inside I) (k : Kind) (v : Value) → IsCode w.code.now → Ready w k (used w.code.now u.Prints v) → Step w (Ok tt) y → Prints y v (Ok tt) z → Came seen modules linked fits begins w (used w.code.now u.Prints v) o.On z
  prints_came w y z k v c r s p =
      let b = between w y k v r s in
      let told = printed w y z (Ok tt) v s.0 b p in
      let same = same_twice s.0 p.0 in
      record {
        moved = subst (λ (t : Rest CodeValue). Turns nat_eq modules begins w.code.now.at.0 (state_in seen w) (used w.code.now u.Prints v) (On (comes.Goes t)) (state_in seen z))
            (rest_is seen modules linked fits begins w ∙ ap code_rest (sym same.now))
            (only (front_goes seen modules linked fits begins w (more (prints_part v) (inner_rest w)) (inner_rest w) (inner_of seen z) (same_scopes w z same)
            (rule.prints (follows.asks tt b.steps (follows.asks tt told.0 follows.ends)))));
        same = record { at = ap (λ (n : Activation). n.at) same.now; tree = ap (λ (n : Activation). n.tree) same.now; code = same_code w z same c; outcome = tt };
        keeps = keeps_same seen modules linked fits begins w z r.made same told.1;
      }

  pub print_halts : (w y z : Inside I) (k : Kind) (v : Value) (limit : Limit) → Ready w k (used w.code.now u.Prints v) → Step w (Ok tt) y → Prints y v (Err limit) z → Halted seen modules linked fits begins w (used w.code.now u.Prints v) limit z
  print_halts w y z k v limit r s p =
      let b = between w y k v r s in
      let told = printed w y z (Err limit) v s.0 b p in
      let same = same_twice s.0 p.0 in
      record {
        turns = only (front_stops seen modules linked fits begins w (more (prints_part v) (inner_rest w)) limit (inner_of seen z) (same_scopes w z same) (rule.prints (follows.asks tt b.steps (follows.stops told.0))));
        keeps = keeps_same seen modules linked fits begins w z r.made same told.1;
      }

  pub step_halts : (w y : Inside I) (k : Kind) (v : Value) (limit : Limit) → Ready w k (used w.code.now u.Prints v) → Step w (Err limit) y → Halted seen modules linked fits begins w (used w.code.now u.Prints v) limit y
  step_halts w y k v limit r s =
      let told = s.1 (is_ready seen modules linked fits begins w k (prints_part v) r) tt in
      record {
        turns = only (front_stops seen modules linked fits begins w (more (prints_part v) (inner_rest w)) limit (inner_of seen y) (same_scopes w y s.0) (rule.prints (follows.stops told.0)));
        keeps = keeps_same seen modules linked fits begins w y r.made s.0 told.1;
      }

  -- ---- behind a step, and where a limit was passed

  abbrev Acts : Inside I → (r : Result (Unit {0}) Stop) → Inside I → Type 0
  Acts w r y = ActsInside seen modules linked fits begins w (act.Step 1) r y

  pub id_there : (w y : Inside I) (id : StmtId) → IsSame w y → id.0 < length (arc_value w.code.now.tree).stmts → id.0 < length (arc_value y.code.now.tree).stmts
  id_there w y id s h = subst (λ (n : Activation). id.0 < length (arc_value n.tree).stmts) (sym s.now) h

  pub code_there : (w y : Inside I) → IsSame w y → IsCode w.code.now → IsCode y.code.now
  code_there w y s c = same_code w y s c

  -- a statement has begun, in what the code is behind the step
  pub begun_came : (w y : Inside I) (n : Activation) (k : Kind) (id : StmtId) → IsCode w.code.now → Ready w k (unbegun w.code.now id) → Acts w (Ok tt) y → n.at ≡ y.code.now.at → n.tree ≡ y.code.now.tree
      → AreLevels (length (arc_value y.code.now.tree).stmts) n.levels.items × (0 < length n.levels.items)
      → Becomes (arc_value y.code.now.tree).stmts y.code.now.levels.items n.levels.items (begin numbered (stmt_part (arc_value y.code.now.tree).stmts id) (inner_rest y))
      → Came seen modules linked fits begins w (unbegun w.code.now id) o.On (with_code y n)
  begun_came w y n k id c r s at tree sound e =
      begin_came w y n k id r s (at ∙ ap (λ (a : Activation). a.at) s.0.now) (tree ∙ ap (λ (a : Activation). a.tree) s.0.now) (record { levels = rw tree sound.0; some = sound.1 })
      ((λ j. levels_rest (arc_value (tree j)).stmts n.levels.items) ∙ e
      ∙ (λ j. surrounded (code_contexts (s.0.now j)) (begin numbered (stmt_part (arc_value (s.0.now j).tree).stmts id) (innermost (arc_value (s.0.now j).tree).stmts (s.0.now j).levels.items))))

  pub begin_stops : (w y : Inside I) (k : Kind) (id : StmtId) (why : Stop) → Ready w k (unbegun w.code.now id) → Acts w (Err why) y → Turned seen modules linked fits begins w (unbegun w.code.now id) (Err why) y
  begin_stops w y k id (stops.Limit limit) r s = begin_halts w y k id limit r s
  begin_stops w y k id stops.Memory r s = tt

  abbrev PrintsOne : Inside I → Value → Result (Unit {0}) Stop → Inside I → Type 0
  PrintsOne w v r y = ActsInside seen modules linked fits begins w (act.Print (value_of v ∷ [])) r y

  -- one value is printed, where these are just it
  pub prints_one : (w y : Inside I) (v : Value) (vs : List Value) (r : Result (Unit {0}) Stop) → vs ≡ v ∷ [] → ActsInside seen modules linked fits begins w (act.Print (values_of vs)) r y → PrintsOne w v r y
  prints_one w y v vs r e h = subst (λ (us : List Value). ActsInside seen modules linked fits begins w (act.Print (values_of us)) r y) e h

  pub step_stops : (w y : Inside I) (k : Kind) (v : Value) (why : Stop) → Ready w k (used w.code.now u.Prints v) → Acts w (Err why) y → Turned seen modules linked fits begins w (used w.code.now u.Prints v) (Err why) y
  step_stops w y k v (stops.Limit limit) r s = step_halts w y k v limit r s
  step_stops w y k v stops.Memory r s = tt

  pub print_stops : (w y z : Inside I) (k : Kind) (v : Value) (why : Stop) → Ready w k (used w.code.now u.Prints v) → Acts w (Ok tt) y → PrintsOne y v (Err why) z → Turned seen modules linked fits begins w (used w.code.now u.Prints v) (Err why) z
  print_stops w y z k v (stops.Limit limit) r s p = print_halts w y z k v limit r s p
  print_stops w y z k v stops.Memory r s p = tt
