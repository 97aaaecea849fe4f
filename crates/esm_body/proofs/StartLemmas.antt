-- What a body starts with: the statements of its items, one by one.
use Rattle.std.proofs.Common.{◌≡◌, ℕ, zero, suc, ◌+◌, ◌<◌, ◌≤◌, List, [], ◌∷◌, length, drop, ap, subst, sym, ◌∙◌, get_or, arith}
use Rattle.std.proofs.lemmas.List.{drop_more}
use Rattle.std.proofs.Math.ListN.{drop_of_length-le}
use Rattle.std.specs.Prelude.{Option, Some, None}
use Rattle.esm_tree.specs.Syntax.{Stmts}
use Rattle.esm_tree.specs.Syntax.{Stmt as Statement}
use Rattle.esm_tree.specs.Flat.{item_of, item_need, items_of, items_need, stmt_part, AllAtMost}
use Rattle.esm_tree.specs.declared.node.ItemNode.{ItemNode}
use Rattle.esm_tree.specs.declared.node.StmtId.{StmtId}
use Rattle.esm_env.specs.Declarations.{body_of, does, onto}
use Rattle.esm_rewriting.specs.Rest.{end, more, whole}
use Rattle.esm_rewriting.specs.Rest.{Part as parts}
use Rattle.esm_body.specs.Code.{in_front, AreWork, AreLevels}
use Rattle.esm_body.specs.Inner.Stack.{levels_rest}
use Rattle.esm_body.specs.Inner.Calls.{stmt_told, IsBelowTold, AddsStatement, IsOutermost}
use Rattle.esm_body.specs.Inner.Remainders.{wholes}
use Rattle.esm_body.specs.declared.work.Level.{Level}
use Rattle.esm_body.specs.declared.work.Work.{Work}
use Rattle.esm_body.proofs.Levels.{statement_more, statement_sound}

module _ (stmts : List Statement) where
  told_more : (told : Option StmtId) (ids new : List StmtId) (rest : Stmts) → AddsStatement ids told new → in_front stmts (wholes ids) end ≡ whole rest → in_front stmts (wholes new) end ≡ whole (onto (stmt_told stmts told) rest)
  told_more None ids new rest a h = ap (λ js. in_front stmts (wholes js) end) a ∙ h
  told_more (Some id) ids new rest a h = ap (λ js. in_front stmts (wholes js) end) a ∙ statement_more stmts ids id ∙ ap (λ r. more (parts.Whole (stmt_part stmts id)) r) h

  -- the statements from one place on, with those behind it
  pub body_go : (items : List ItemNode) (i p : ℕ) (d : ItemNode) (told : Option StmtId) (ids new : List StmtId) → p ≡ i + 1 → i < length items → does (item_of stmts (get_or items i d)) ≡ stmt_told stmts told → AddsStatement ids told new
      → in_front stmts (wholes ids) end ≡ whole (body_of (items_of stmts (drop p items))) → in_front stmts (wholes new) end ≡ whole (body_of (items_of stmts (drop i items)))
  body_go items i p d told ids new e h t a k =
      let later = body_of (items_of stmts (drop (i + 1) items)) in
      told_more told ids new later a (subst (λ q. in_front stmts (wholes ids) end ≡ whole (body_of (items_of stmts (drop q items)))) e k)
      ∙ ap (λ o. whole (onto o later)) (sym t) ∙ ap (λ is. whole (body_of (items_of stmts is))) (sym (drop_more items i d h))

  pub no_body : (items : List ItemNode) → in_front stmts [] end ≡ whole (body_of (items_of stmts (drop (length items) items)))
  no_body items = ap (λ is. whole (body_of (items_of stmts is))) (sym (drop_of_length-le items (omega arith)))

pub told_sound : (n : ℕ) (told : Option StmtId) (ids new : List StmtId) → AddsStatement ids told new → IsBelowTold n told → AreWork n (wholes ids) → AreWork n (wholes new)
told_sound n None ids new a b h = subst (λ js. AreWork n (wholes js)) (sym a) h
told_sound n (Some id) ids new a b h = subst (λ js. AreWork n (wholes js)) (sym a) (statement_sound n ids id h b)

pub need_at : (n : ℕ) (items : List ItemNode) (i : ℕ) (d : ItemNode) → AllAtMost n (items_need items) → i < length items → item_need (get_or items i d) ≤ n
need_at n [] i d a h = absurd (omega (arith, h))
need_at n (item ∷ items) zero d a h = a.0
need_at n (item ∷ items) (suc i) d a h = need_at n items i d a.1 (omega (arith, h))

-- ---- the outermost level

pub outer_rest : (stmts : List Statement) (ls : List Level) (work : List Work) → IsOutermost work ls → levels_rest stmts ls ≡ in_front stmts work end
outer_rest stmts [] work h = absurd h
outer_rest stmts (l ∷ []) work h = ap (λ ws. in_front stmts ws end) h.0
outer_rest stmts (l ∷ m ∷ ls) work h = absurd h

pub outer_sound : (n : ℕ) (ls : List Level) (work : List Work) → IsOutermost work ls → AreWork n work → AreLevels n ls
outer_sound n [] work h w = absurd h
outer_sound n (l ∷ []) work h w = (rw h.1 tt, subst (AreWork n) (sym h.0) w, tt)
outer_sound n (l ∷ m ∷ ls) work h w = absurd h

pub outer_some : (ls : List Level) (work : List Work) → IsOutermost work ls → 0 < length ls
outer_some [] work h = absurd h
outer_some (l ∷ ls) work h = omega arith
