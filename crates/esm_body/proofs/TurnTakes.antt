-- The next part is taken, or the innermost level is left.
use Rattle.std.proofs.Common.{◌≡◌, ℕ, ◌≤◌, Bool, List, [], ◌∷◌, length, Option, Some, None, refl, subst, sym, ◌∙◌, arith}
use Rattle.std.specs.Prelude.{Result}
use Rattle.std.specs.Arc.{arc_value}
use Rattle.esm_tree.specs.Syntax.{Stmt as Statement}
use Rattle.esm_values.specs.Code.{CodeValue}
use Rattle.esm_promise.specs.Outer.{Outer}
use Rattle.esm_env.specs.Modules.{Modules}
use Rattle.esm_rewriting.specs.Rest.{Rest, end, more}
use Rattle.esm_rewriting.specs.State.{Importing}
use Rattle.esm_rewriting.specs.Fits.{Kind}
use Rattle.esm_rewriting.specs.Contexts.{surrounded}
use Rattle.esm_body.specs.Inner.Stack.{levels_rest, IsTaken, IsLeft}
use Rattle.esm_body.specs.Code.{contexts_of, innermost, in_front_of, part_of, AreLevels, IsWork, IsCode}
use Rattle.esm_body.specs.Inner.World.{state_in, with_code}
use Rattle.esm_body.specs.Inner.Turn.{code_rest, IsReadyFor, MayTurn, Came, Turned}
use Rattle.esm_rewriting.specs.declared.stop.Stop.{Stop}
use Rattle.esm_body.specs.declared.inside.Inside.{Inside}
use Rattle.esm_body.specs.declared.turn.Outcome.{Outcome}
use Rattle.esm_body.specs.declared.turn.Outcome.TheVariants as o
use Rattle.esm_body.specs.declared.work.Activation.{Activation}
use Rattle.esm_body.specs.declared.work.Kind.{Kind as LevelKind}
use Rattle.esm_body.specs.declared.work.Level.{Level}
use Rattle.esm_body.specs.declared.work.Work.{Work}
use Rattle.esm_body.proofs.Ended.{level_ends}
use Rattle.esm_body.proofs.Levels.{levels_surround}
use Rattle.esm_body.proofs.TurnParts.{keeps_itself, keeps_now, turned_from, ready_from}

pub taken_rest : (stmts : List Statement) (old new : List Level) (one : Work) → IsTaken stmts old (Some one) new → levels_rest stmts old ≡ surrounded (contexts_of stmts new) (more (part_of stmts one) (innermost stmts new))
taken_rest stmts old new one h = sym (levels_surround stmts old) ∙ (λ i. surrounded (sym h.1.0 i) (h.0 i))

pub untaken_rest : (stmts : List Statement) (old new : List Level) → IsTaken stmts old None new → levels_rest stmts old ≡ levels_rest stmts new
untaken_rest stmts old new h = sym (levels_surround stmts old) ∙ (λ i. surrounded (sym h.1.0 i) (h.0 i)) ∙ (λ i. surrounded (contexts_of stmts new) (sym h.1.1 i)) ∙ levels_surround stmts new

one_level : (stmts : List Statement) (ls : List Level) → length ls ≤ 1 → innermost stmts ls ≡ end → levels_rest stmts ls ≡ end
one_level stmts [] h e = refl
one_level stmts (l ∷ []) h e = e
one_level stmts (l ∷ n ∷ ls) h e = absurd (omega (arith, h))

-- what was taken is this
taken_as : (old new : List Level) (r s : Option Work) → r ≡ s → ((stmts : List Statement) → IsTaken stmts old r new) → (stmts : List Statement) → IsTaken stmts old s new
taken_as old new r s e h stmts = subst (λ (t : Option Work). IsTaken stmts old t new) e (h stmts)

module _ (a n : Activation) (r : Option Work) (tree : n.tree ≡ a.tree) (h : (stmts : List Statement) → IsTaken stmts a.levels.items r n.levels.items) where
  pub taken_code : (one : Work) → r ≡ Some one → IsCode a → IsCode n
  taken_code one e c =
      let t = taken_as a.levels.items n.levels.items r (Some one) e h (arc_value a.tree).stmts in
      record { levels = rw tree (t.3 (length (arc_value a.tree).stmts) c.levels).1; some = t.1.2 }

  pub taken_work : (one : Work) → r ≡ Some one → IsCode a → IsWork (length (arc_value n.tree).stmts) one
  taken_work one e c =
      let t = taken_as a.levels.items n.levels.items r (Some one) e h (arc_value a.tree).stmts in
      rw tree (t.3 (length (arc_value a.tree).stmts) c.levels).0

  taken_is : (one : Work) → r ≡ Some one → code_rest a ≡ in_front_of n (part_of (arc_value n.tree).stmts one)
  taken_is one e =
      taken_rest (arc_value a.tree).stmts a.levels.items n.levels.items one (taken_as a.levels.items n.levels.items r (Some one) e h (arc_value a.tree).stmts)
      ∙ (λ j. surrounded (contexts_of (arc_value (sym tree j)).stmts n.levels.items) (more (part_of (arc_value (sym tree j)).stmts one) (innermost (arc_value (sym tree j)).stmts n.levels.items)))

  pub untaken_code : r ≡ None → IsCode a → IsCode n
  untaken_code e c =
      let t = taken_as a.levels.items n.levels.items r None e h (arc_value a.tree).stmts in
      record { levels = rw tree (t.3 (length (arc_value a.tree).stmts) c.levels); some = t.1.2 }

  pub untaken_ends : r ≡ None → innermost (arc_value n.tree).stmts n.levels.items ≡ end
  untaken_ends e = (taken_as a.levels.items n.levels.items r None e h (arc_value n.tree).stmts).1.1

  untaken_is : r ≡ None → code_rest a ≡ code_rest n
  untaken_is e =
      untaken_rest (arc_value a.tree).stmts a.levels.items n.levels.items (taken_as a.levels.items n.levels.items r None e h (arc_value a.tree).stmts)
      ∙ (λ j. levels_rest (arc_value (sym tree j)).stmts n.levels.items)

module _ {I S : Type 0} (seen : I → S) (modules : S → Modules ℕ) (linked : S → ℕ → Bool) (fits : Outer ℕ S → Type 0) (begins : Importing ℕ S) where
  abbrev Ready : Inside I → Kind → Rest CodeValue → Type 0
  Ready w k r = IsReadyFor seen modules linked fits begins w k r

  -- a block at its end is left
  pub leaves_came : (w : Inside I) (n : Activation) (k : Kind) (kind : LevelKind) → Ready w k (code_rest w.code.now) → innermost (arc_value w.code.now.tree).stmts w.code.now.levels.items ≡ end → n.at ≡ w.code.now.at → n.tree ≡ w.code.now.tree
      → IsLeft (arc_value w.code.now.tree).stmts w.code.now.levels.items kind n.levels.items → AreLevels (length (arc_value w.code.now.tree).stmts) n.levels.items → Came seen modules linked fits begins w (code_rest w.code.now) o.On (with_code w n)
  leaves_came w n k kind r e at tree left levels = record {
    moved = rw tree (level_ends modules begins w.code.now.at.0 (arc_value w.code.now.tree).stmts w.code.now.levels.items n.levels.items kind (state_in seen w) left e);
    same = record { at = at; tree = tree; code = record { levels = rw tree levels; some = left.some }; outcome = tt };
    keeps = keeps_now seen modules linked fits begins w w n (keeps_itself seen modules linked fits begins w r.made);
  }

  -- nothing remains
  pub ends_came : (w : Inside I) (k : Kind) → IsCode w.code.now → Ready w k (code_rest w.code.now) → innermost (arc_value w.code.now.tree).stmts w.code.now.levels.items ≡ end → length w.code.now.levels.items ≤ 1 → Came seen modules linked fits begins w (code_rest w.code.now) o.Done w
  ends_came w k c r e few = record {
    moved = (one_level (arc_value w.code.now.tree).stmts w.code.now.levels.items few e, refl);
    same = record { at = refl; tree = refl; code = c; outcome = tt };
    keeps = keeps_itself seen modules linked fits begins w r.made;
  }

  -- ---- the next part was taken

  module _ (w : Inside I) (n : Activation) (r : Option Work) (at : n.at ≡ w.code.now.at) (tree : n.tree ≡ w.code.now.tree) (h : (stmts : List Statement) → IsTaken stmts w.code.now.levels.items r n.levels.items) where
    abbrev front : Work → Rest CodeValue
    front one = in_front_of n (part_of (arc_value n.tree).stmts one)

    pub taken_may : (one : Work) → r ≡ Some one → MayTurn seen modules linked fits begins w (code_rest w.code.now) → MayTurn seen modules linked fits begins (with_code w n) (front one)
    taken_may one e m = (m.0, ready_from seen modules linked fits begins w n m.0 (code_rest w.code.now) (front one) at tree (taken_is w.code.now n r tree h one e) m.1)

    pub taken_turned : (after : Inside I) (one : Work) (result : Result Outcome Stop) → r ≡ Some one → Turned seen modules linked fits begins (with_code w n) (front one) result after → Turned seen modules linked fits begins w (code_rest w.code.now) result after
    taken_turned after one result e t = turned_from seen modules linked fits begins w after n (code_rest w.code.now) (front one) result at tree (sym (taken_is w.code.now n r tree h one e)) t

    pub untaken_may : r ≡ None → MayTurn seen modules linked fits begins w (code_rest w.code.now) → MayTurn seen modules linked fits begins (with_code w n) (code_rest n)
    untaken_may e m = (m.0, ready_from seen modules linked fits begins w n m.0 (code_rest w.code.now) (code_rest n) at tree (untaken_is w.code.now n r tree h e) m.1)

    pub untaken_turned : (after : Inside I) (result : Result Outcome Stop) → r ≡ None → Turned seen modules linked fits begins (with_code w n) (code_rest n) result after → Turned seen modules linked fits begins w (code_rest w.code.now) result after
    untaken_turned after result e t = turned_from seen modules linked fits begins w after n (code_rest w.code.now) (code_rest n) result at tree (sym (untaken_is w.code.now n r tree h e)) t
