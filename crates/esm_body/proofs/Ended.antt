-- A block at its end is left.
use Rattle.std.proofs.Common.{◌≡◌, ℕ, Bool, List, refl, ap, subst, sym, ◌∙◌}
use Rattle.std.specs.Prelude.{nat_eq}
use Rattle.esm_tree.specs.Syntax.{Stmt as Statement}
use Rattle.esm_tree.specs.Flat.{stmt_part}
use Rattle.esm_values.specs.Value.{Value}
use Rattle.esm_values.specs.Code.{CodeValue}
use Rattle.esm_values.specs.Plans.{Rewritten as comes}
use Rattle.esm_env.specs.Modules.{Modules}
use Rattle.esm_rewriting.specs.Scopes.{Scope}
use Rattle.esm_rewriting.specs.Rest.{Rest, end}
use Rattle.esm_rewriting.specs.State.{State, Importing}
use Rattle.esm_rewriting.specs.BodyRewriting.{On}
use Rattle.esm_rewriting.specs.BodyRewriting.RewritesBody.{inner_end, tries, tries_end}
use Rattle.esm_rewriting.specs.Chains.{Turns, only, behind}
use Rattle.esm_rewriting.specs.Contexts.{Context, Block, Trying, scopes_in, placed, surrounded}
use Rattle.esm_body.specs.Inner.Stack.{levels_rest, IsLeft}
use Rattle.esm_body.specs.Code.{contexts_of, context_by, innermost}
use Rattle.esm_body.specs.declared.work.Kind.{Kind}
use Rattle.esm_body.specs.declared.work.Kind.TheVariants as k
use Rattle.esm_body.specs.declared.work.Level.{Level}
use Rattle.esm_body.proofs.Levels.{levels_surround}
use Rattle.esm_body.proofs.CaughtLemmas.{trying_as}
use Rattle.esm_rewriting.proofs.Paths.{outer_goes}

abbrev left_rest : {V : Type 0} → Context V → Rest V
left_rest (Block scope rest) = rest
left_rest (Trying scope x handler rest) = rest

module _ {N I : Type 0} (same : N → N → Bool) (modules : I → Modules N) (begins : Importing N I) (m : N) where
  ends_by : (cs : List (Context (Value N))) (c : Context (Value N)) (w : State N I) → Turns same modules begins m w (surrounded cs (placed c end)) (On (comes.Goes (surrounded cs (left_rest c)))) w
  ends_by cs (Block scope rest) w = only (outer_goes same modules begins m cs w _ rest (record { scopes = scopes_in cs; state = w }) refl inner_end)
  ends_by cs (Trying scope x handler rest) w =
      behind (outer_goes same modules begins m cs w _ _ (record { scopes = scopes_in cs; state = w }) refl (tries inner_end))
      (only (outer_goes same modules begins m cs w _ rest (record { scopes = scopes_in cs; state = w }) refl tries_end))

left_kind : (stmts : List Statement) (kind : Kind) (scope : Scope CodeValue) (rest : Rest CodeValue) → left_rest (context_by stmts kind scope rest) ≡ rest
left_kind stmts k.Block scope rest = refl
left_kind stmts (k.Tries id) scope rest = ap left_rest (trying_as stmts (stmt_part stmts id) scope rest)

module _ {I : Type 0} (modules : I → Modules ℕ) (begins : Importing ℕ I) (m : ℕ) where
  -- the innermost level, at its end, is left
  pub level_ends : (stmts : List Statement) (old new : List Level) (kind : Kind) (w : State ℕ I) → IsLeft stmts old kind new → innermost stmts old ≡ end
      → Turns nat_eq modules begins m w (levels_rest stmts old) (On (comes.Goes (levels_rest stmts new))) w
  level_ends stmts old new kind w h e =
      let c = context_by stmts kind h.scope (innermost stmts new) in
      let whole : surrounded (contexts_of stmts new) (placed c end) ≡ levels_rest stmts old = (λ i. surrounded (sym h.contexts i) (sym e i)) ∙ levels_surround stmts old in
      let rest : surrounded (contexts_of stmts new) (left_rest c) ≡ levels_rest stmts new = ap (surrounded (contexts_of stmts new)) (left_kind stmts kind h.scope (innermost stmts new)) ∙ levels_surround stmts new in
      subst (λ r. Turns nat_eq modules begins m w r (On (comes.Goes (levels_rest stmts new))) w) whole
      (subst (λ s. Turns nat_eq modules begins m w (surrounded (contexts_of stmts new) (placed c end)) (On (comes.Goes s)) w) rest (ends_by nat_eq modules begins m (contexts_of stmts new) c w))
