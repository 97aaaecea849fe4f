-- Each turn of code under way is one rewriting or more.
use Rattle.std.proofs.Common.{◌≡◌, ℕ, nat_eq, Bool, List, [], ◌∷◌, length, Option, Some, None, refl, ap, subst, sym, ◌∙◌, arith}
use Rattle.std.specs.Prelude.{Result, Ok}
use Rattle.std.specs.Arc.{arc_value}
use Rattle.esm_tree.specs.Syntax as x
use Rattle.esm_tree.specs.Syntax.{Stmt as Statement}
use Rattle.esm_tree.specs.Flat.{stmt_part}
use Rattle.esm_tree.specs.declared.node.StmtId.{StmtId}
use Rattle.esm_values.specs.Code.{CodeValue, value_of}
use Rattle.esm_values.specs.declared.value.Value.{Value}
use Rattle.esm_values.specs.Operators.{is_true, look_of}
use Rattle.esm_values.specs.Plans.{Rewritten as comes}
use Rattle.esm_expr_eval.specs.Terms.Term.{Val}
use Rattle.esm_promise.specs.Outer.{Outer}
use Rattle.esm_env.specs.Modules.{Modules}
use Rattle.esm_rewriting.specs.Rest.{Part, Rest, more}
use Rattle.esm_rewriting.specs.Rest.{Part as parts}
use Rattle.esm_rewriting.specs.Rest.{Use as uses}
use Rattle.esm_rewriting.specs.State.{Importing}
use Rattle.esm_rewriting.specs.Acts.{Inner, write_name}
use Rattle.esm_rewriting.specs.BodyRewriting.{On, RewritesBody, wrote}
use Rattle.esm_rewriting.specs.BodyRewriting.{RewritesBody as rule}
use Rattle.esm_rewriting.specs.Segment.{RewritesOutermost}
use Rattle.esm_rewriting.specs.Fits.{Kind}
use Rattle.esm_body.specs.Inner.Calls.{begun_branch}
use Rattle.esm_rewriting.specs.Chains.{Turns, only}
use Rattle.esm_rewriting.specs.Contexts.{Context, surrounded, retaken, caught_in}
use Rattle.esm_rewriting.specs.Sets.{IsNameOf, SetsRest}
use Rattle.esm_body.specs.Inner.Stack.{scopes_round, levels_rest}
use Rattle.esm_body.specs.Code.{contexts_of, innermost, in_front_of, chosen, assigned, use_of, IsCode}
use Rattle.esm_body.specs.Inner.World.{state_in, inner_of, HasScopes, with_code}
use Rattle.esm_body.specs.Inner.Written.{IsLike, SetsName, WritesName, thrown}
use Rattle.esm_body.specs.Inner.Turn.{IsOutcome, code_rest, code_contexts, used, SameCode, IsReadyFor, Came, Turned, Threw}
use Rattle.esm_rewriting.specs.declared.stop.Stop.{Stop}
use Rattle.esm_body.specs.declared.inside.Inside.{Inside}
use Rattle.esm_body.specs.declared.turn.Outcome.{Outcome}
use Rattle.esm_body.specs.declared.turn.Outcome.TheVariants as o
use Rattle.esm_body.specs.declared.work.Activation.{Activation}
use Rattle.esm_body.specs.declared.work.Use.{Use}
use Rattle.esm_body.specs.declared.work.Use.TheVariants as u
use Rattle.esm_rewriting.proofs.Moved as moved
use Rattle.esm_body.proofs.Paths.{scopes_are}
use Rattle.esm_body.proofs.SlotLevels.{rounds_many, slots_many, slots_contexts, slots_rest, slots_levels, slots_some}
use Rattle.esm_body.proofs.TurnParts.{keeps_itself, keeps_like, keeps_now, declared_cell, Front, front_goes, front_gives, front_throws, rest_is, threw_turned, thrown_retaken}

module _ {I S : Type 0} (seen : I → S) (modules : S → Modules ℕ) (linked : S → ℕ → Bool) (fits : Outer ℕ S → Type 0) (begins : Importing ℕ S) where
  abbrev Ready : Inside I → Kind → Rest CodeValue → Type 0
  Ready w k r = IsReadyFor seen modules linked fits begins w k r

  abbrev Came' : Inside I → Rest CodeValue → Outcome → Inside I → Type 0
  Came' w r out after = Came seen modules linked fits begins w r out after

  abbrev Turned' : Inside I → Rest CodeValue → Result Outcome Stop → Inside I → Type 0
  Turned' w r result after = Turned seen modules linked fits begins w r result after

  abbrev inner_rest : Inside I → Rest CodeValue
  inner_rest w = innermost (arc_value w.code.now.tree).stmts w.code.now.levels.items

  same_here : (w : Inside I) (out : Outcome) → IsCode w.code.now → IsOutcome (length (arc_value w.code.now.tree).stmts) out → SameCode w.code.now w.code.now out
  same_here w out c q = record { at = refl; tree = refl; code = c; outcome = q }

  -- ---- values

  pub drops_came : (w : Inside I) (k : Kind) (v : Value) → IsCode w.code.now → Ready w k (used w.code.now u.Drops v) → Came' w (used w.code.now u.Drops v) o.On w
  drops_came w k v c r = record {
    moved = subst (λ s. Turns nat_eq modules begins w.code.now.at.0 (state_in seen w) (used w.code.now u.Drops v) (On (comes.Goes s)) (state_in seen w)) (rest_is seen modules linked fits begins w)
        (only (front_goes seen modules linked fits begins w (more (parts.Does uses.Drops (Val (value_of v))) (inner_rest w)) (inner_rest w) (inner_of seen w) refl rule.drops));
    same = same_here w o.On c tt;
    keeps = keeps_itself seen modules linked fits begins w r.made;
  }

  pub returns_came : (w : Inside I) (k : Kind) (v : Value) → IsCode w.code.now → Ready w k (used w.code.now u.Returns v) → Came' w (used w.code.now u.Returns v) (o.Returns v) w
  returns_came w k v c r = record {
    moved = only (front_gives seen modules linked fits begins w (more (parts.Does uses.Returns (Val (value_of v))) (inner_rest w)) (value_of v) (inner_of seen w) refl rule.returns);
    same = same_here w (o.Returns v) c tt;
    keeps = keeps_itself seen modules linked fits begins w r.made;
  }

  pub throws_turned : (w after : Inside I) (k : Kind) (v : Value) (result : Result Outcome Stop) → Ready w k (used w.code.now u.Throws v) → Threw w v result after → Turned' w (used w.code.now u.Throws v) result after
  throws_turned w after k v result r t =
      threw_turned seen modules linked fits begins w w after (used w.code.now u.Throws v) v result refl refl (keeps_itself seen modules linked fits begins w r.made) t
      (only (front_throws seen modules linked fits begins w (more (parts.Does uses.Throws (Val (value_of v))) (inner_rest w)) (value_of v) (inner_of seen w) refl rule.throws))

  -- ---- names

  -- over the scopes of what is round, to the scopes that there are now
  slots_goes : (w after : Inside I) (r s : Rest CodeValue) → IsLike w after → Front seen modules linked fits begins w r (On (comes.Goes s)) (inner_of seen after)
      → RewritesOutermost nat_eq modules begins w.code.now.at.0 (state_in seen w) (surrounded (code_contexts w.code.now) r) (On (comes.Goes (surrounded (retaken (code_contexts w.code.now) (scopes_round after.code.now.levels.items)) s))) (state_in seen after)
  slots_goes w after r s like d =
      let stmts = (arc_value w.code.now.tree).stmts in
      moved.goes nat_eq modules begins w.code.now.at.0 (code_contexts w.code.now) (scopes_round after.code.now.levels.items) (state_in seen w) (state_in seen after) r s
      (rounds_many stmts after.code.now.levels.items ∙ slots_many stmts w.code.now.levels.items after.code.now.levels.items like.levels)
      (subst (λ ss. RewritesBody nat_eq modules begins w.code.now.at.0 (record { scopes = ss; state = state_in seen w }) r (On (comes.Goes s)) (inner_of seen after)) (sym (scopes_are stmts w.code.now.levels.items)) d)

  slots_leaves : (w after : Inside I) (r : Rest CodeValue) (v : CodeValue) → IsLike w after → Front seen modules linked fits begins w r (On (comes.Leaves v)) (inner_of seen after)
      → RewritesOutermost nat_eq modules begins w.code.now.at.0 (state_in seen w) (surrounded (code_contexts w.code.now) r) (caught_in (code_contexts after.code.now) v) (state_in seen after)
  slots_leaves w after r v like d =
      let stmts = (arc_value w.code.now.tree).stmts in
      let many = rounds_many stmts after.code.now.levels.items ∙ slots_many stmts w.code.now.levels.items after.code.now.levels.items like.levels in
      let there : retaken (code_contexts w.code.now) (scopes_round after.code.now.levels.items) ≡ code_contexts after.code.now =
      sym (slots_contexts stmts w.code.now.levels.items after.code.now.levels.items like.levels) ∙ (λ j. contexts_of (arc_value (sym like.tree j)).stmts after.code.now.levels.items) in
      subst (λ move. RewritesOutermost nat_eq modules begins w.code.now.at.0 (state_in seen w) (surrounded (code_contexts w.code.now) r) move (state_in seen after))
      (thrown_retaken nat_eq modules begins w.code.now.at.0 (code_contexts w.code.now) (scopes_round after.code.now.levels.items) v many ∙ ap (λ cs. caught_in cs v) there)
      (moved.leaves nat_eq modules begins w.code.now.at.0 (code_contexts w.code.now) (scopes_round after.code.now.levels.items) (state_in seen w) (state_in seen after) r v many
      (subst (λ ss. RewritesBody nat_eq modules begins w.code.now.at.0 (record { scopes = ss; state = state_in seen w }) r (On (comes.Leaves v)) (inner_of seen after)) (sym (scopes_are stmts w.code.now.levels.items)) d))

  like_rest : (w after : Inside I) → IsLike w after → surrounded (retaken (code_contexts w.code.now) (scopes_round after.code.now.levels.items)) (inner_rest w) ≡ code_rest after.code.now
  like_rest w after like =
      slots_rest (arc_value w.code.now.tree).stmts w.code.now.levels.items after.code.now.levels.items like.levels ∙ (λ j. levels_rest (arc_value (sym like.tree j)).stmts after.code.now.levels.items)

  pub like_code : (w after : Inside I) → IsLike w after → IsCode w.code.now → IsCode after.code.now
  like_code w after like c = record {
    levels = rw like.tree (slots_levels (length (arc_value w.code.now.tree).stmts) w.code.now.levels.items after.code.now.levels.items like.levels c.levels);
    some = slots_some w.code.now.levels.items after.code.now.levels.items like.levels c.some;
  }

  slots_came : (w after : Inside I) (p : Part CodeValue) → IsCode w.code.now → IsLike w after → HasScopes seen modules linked fits begins after → Front seen modules linked fits begins w (more p (inner_rest w)) (On (comes.Goes (inner_rest w))) (inner_of seen after)
      → Came' w (in_front_of w.code.now p) o.On after
  slots_came w after p c like made d = record {
    moved = subst (λ s. Turns nat_eq modules begins w.code.now.at.0 (state_in seen w) (in_front_of w.code.now p) (On (comes.Goes s)) (state_in seen after)) (like_rest w after like) (only (slots_goes w after _ _ like d));
    same = record { at = like.at; tree = like.tree; code = like_code w after like c; outcome = tt };
    keeps = keeps_like seen modules linked fits begins w after like made;
  }

  -- outside of all blocks, what remains is just this
  no_contexts : (w : Inside I) → scopes_round w.code.now.levels.items ≡ [] → code_contexts w.code.now ≡ []
  no_contexts w e = none (code_contexts w.code.now) (sym (rounds_many (arc_value w.code.now.tree).stmts w.code.now.levels.items) ∙ ap length e)
    where
      none : (cs : List (Context CodeValue)) → length cs ≡ 0 → cs ≡ []
      none [] h = refl
      none (c ∷ cs) h = absurd (omega (arith, h))

  pub sets_came : (w after : Inside I) (k : Kind) (p : Use) (y : List ℕ) (v : Value) → use_of (arc_value w.code.now.tree).stmts p ≡ uses.Sets y → IsCode w.code.now → Ready w k (used w.code.now p v) → SetsName seen modules linked fits begins w y v after
      → Came' w (used w.code.now p v) o.On after
  sets_came w after k p y v e c r s =
      let part : parts.Does (use_of (arc_value w.code.now.tree).stmts p) (Val (value_of v)) ≡ parts.Does (uses.Sets y) (Val (value_of v)) = ap (λ z. parts.Does z (Val (value_of v))) e in
      let ready : Ready w k (in_front_of w.code.now (parts.Does (uses.Sets y) (Val (value_of v)))) = subst (λ z. Ready w k (in_front_of w.code.now z)) part r in
      let told = s.1 r.made r.home (λ none. declared_cell seen modules linked fits begins w k (in_front_of w.code.now (parts.Does (uses.Sets y) (Val (value_of v)))) ready y
      (subst (λ cs. SetsRest (IsNameOf (arc_value w.code.now.tree).items) (surrounded cs (more (parts.Does (uses.Sets y) (Val (value_of v))) (inner_rest w)))) (no_contexts w none) ready.sets).0) in
      subst (λ z. Came' w (in_front_of w.code.now z) o.On after) (sym part)
      (slots_came w after (parts.Does (uses.Sets y) (Val (value_of v))) c s.0 told.1
      (subst (λ z. Front seen modules linked fits begins w (more (parts.Does (uses.Sets y) (Val (value_of v))) (inner_rest w)) (On (comes.Goes (inner_rest w))) z) (sym told.0) rule.sets))

  writes_front : (w after : Inside I) (y : List ℕ) (v : Value) (told : Option Value) → (thrown told, inner_of seen after) ≡ write_name nat_eq modules begins w.code.now.at.0 (inner_of seen w) y (value_of v)
      → Front seen modules linked fits begins w (more (parts.Does (uses.Writes y) (Val (value_of v))) (inner_rest w)) (wrote (inner_rest w) (thrown told)) (inner_of seen after)
  writes_front w after y v told e =
      subst (λ (z : Option CodeValue × Inner ℕ S). Front seen modules linked fits begins w (more (parts.Does (uses.Writes y) (Val (value_of v))) (inner_rest w)) (wrote (inner_rest w) z.0) z.1) (sym e) rule.writes

  -- the name that an assignment writes, as it was read
  written_name : (w y : Inside I) (id : StmtId) (v : Value) (told : Option Value) (text : List ℕ) → text ≡ assigned (stmt_part (arc_value w.code.now.tree).stmts id) → WritesName seen modules linked fits begins w text v (Ok told) y
      → WritesName seen modules linked fits begins w (assigned (stmt_part (arc_value w.code.now.tree).stmts id)) v (Ok told) y
  written_name w y id v told text e s = subst (λ z. WritesName seen modules linked fits begins w z v (Ok told) y) e s

  pub writes_came : (w after : Inside I) (k : Kind) (id : StmtId) (v : Value) → IsCode w.code.now → Ready w k (used w.code.now (u.Writes id) v) → (text : List ℕ) → text ≡ assigned (stmt_part (arc_value w.code.now.tree).stmts id) → WritesName seen modules linked fits begins w text v (Ok None) after
      → Came' w (used w.code.now (u.Writes id) v) o.On after
  writes_came w after k id v c r text e s =
      let s' = written_name w after id v None text e s in
      let told = s'.1 r.made r.home in
      slots_came w after (parts.Does (uses.Writes (assigned (stmt_part (arc_value w.code.now.tree).stmts id))) (Val (value_of v))) c s'.0 told.1 (writes_front w after (assigned (stmt_part (arc_value w.code.now.tree).stmts id)) v None told.0)

  pub writes_turned : (w y after : Inside I) (k : Kind) (id : StmtId) (v error : Value) (result : Result Outcome Stop) → Ready w k (used w.code.now (u.Writes id) v) → (text : List ℕ) → text ≡ assigned (stmt_part (arc_value w.code.now.tree).stmts id)
      → WritesName seen modules linked fits begins w text v (Ok (Some error)) y → Threw y error result after → Turned' w (used w.code.now (u.Writes id) v) result after
  writes_turned w y after k id v error result r text e s t =
      let s' = written_name w y id v (Some error) text e s in
      let told = s'.1 r.made r.home in
      threw_turned seen modules linked fits begins w y after (used w.code.now (u.Writes id) v) error result s'.0.at s'.0.tree (keeps_like seen modules linked fits begins w y s'.0 told.1) t
      (only (slots_leaves w y _ (value_of error) s'.0 (writes_front w y (assigned (stmt_part (arc_value w.code.now.tree).stmts id)) v (Some error) told.0)))

  -- ---- branches

  chosen_goes : (w : Inside I) (s : Statement) (v : CodeValue) (rest : Rest CodeValue) → Front seen modules linked fits begins w (more (parts.Does (chosen s) (Val v)) rest) (On (comes.Goes (begun_branch s (is_true (look_of v)) rest))) (inner_of seen w)
  chosen_goes w x.Empty v rest = rule.drops
  chosen_goes w (x.Expression e) v rest = rule.drops
  chosen_goes w (x.Assign y e) v rest = rule.drops
  chosen_goes w (x.Block ss) v rest = rule.drops
  chosen_goes w (x.If e ss) v rest = rule.chooses
  chosen_goes w (x.IfElse e ss ts) v rest = rule.chooses
  chosen_goes w (x.Try ss ts) v rest = rule.drops
  chosen_goes w (x.TryCatch ss y ts) v rest = rule.drops
  chosen_goes w (x.Throw e) v rest = rule.drops
  chosen_goes w x.Return v rest = rule.drops
  chosen_goes w (x.ReturnValue e) v rest = rule.drops
  chosen_goes w (x.Await e) v rest = rule.drops
  chosen_goes w (x.PrintAwait e) v rest = rule.drops
  chosen_goes w (x.Const bs) v rest = rule.drops
  chosen_goes w (x.Let bs) v rest = rule.drops
  chosen_goes w (x.Default e) v rest = rule.drops

  -- the levels have become what remains
  becomes_came : (w : Inside I) (n : Activation) (r : Rest CodeValue) (s : Rest CodeValue) → n.at ≡ w.code.now.at → n.tree ≡ w.code.now.tree → IsCode n → HasScopes seen modules linked fits begins w
      → Turns nat_eq modules begins w.code.now.at.0 (state_in seen w) r (On (comes.Goes (surrounded (code_contexts w.code.now) s))) (state_in seen w)
      → code_rest n ≡ surrounded (code_contexts w.code.now) s → Came' w r o.On (with_code w n)
  becomes_came w n r s at tree c made d e = record {
    moved = subst (λ z. Turns nat_eq modules begins w.code.now.at.0 (state_in seen w) r (On (comes.Goes z)) (state_in seen w)) (sym e) d;
    same = record { at = at; tree = tree; code = c; outcome = tt };
    keeps = keeps_now seen modules linked fits begins w w n (keeps_itself seen modules linked fits begins w made);
  }

  pub branch_came : (w : Inside I) (n : Activation) (k : Kind) (id : StmtId) (v : Value) (truth : Bool) → truth ≡ is_true (look_of (value_of v)) → n.at ≡ w.code.now.at → n.tree ≡ w.code.now.tree → IsCode n → Ready w k (used w.code.now (u.Chooses id) v)
      → code_rest n ≡ surrounded (code_contexts w.code.now) (begun_branch (stmt_part (arc_value w.code.now.tree).stmts id) truth (inner_rest w)) → Came' w (used w.code.now (u.Chooses id) v) o.On (with_code w n)
  branch_came w n k id v truth t at tree c r e =
      becomes_came w n (used w.code.now (u.Chooses id) v) (begun_branch (stmt_part (arc_value w.code.now.tree).stmts id) (is_true (look_of (value_of v))) (inner_rest w)) at tree c r.made
      (only (front_goes seen modules linked fits begins w _ _ (inner_of seen w) refl (chosen_goes w (stmt_part (arc_value w.code.now.tree).stmts id) (value_of v) (inner_rest w))))
      (e ∙ ap (λ b. surrounded (code_contexts w.code.now) (begun_branch (stmt_part (arc_value w.code.now.tree).stmts id) b (inner_rest w))) t)
