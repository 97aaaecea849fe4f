-- An expression that is evaluated in front of what remains: its rewritings are rewritings of the whole.
use Rattle.std.proofs.Common.{◌≡◌, ℕ, nat_eq, Bool, List, [], ◌∷◌, ◌++◌, refl, subst, ◌∙◌}
use Rattle.esm_base.specs.declared.limits.Limit.{Limit}
use Rattle.esm_tree.specs.Syntax as x
use Rattle.esm_tree.specs.Syntax.{Stmt as Statement}
use Rattle.esm_tree.specs.Flat.{stmt_part}
use Rattle.esm_values.specs.Code.{CodeValue}
use Rattle.esm_values.specs.Plans.{Rewritten as comes}
use Rattle.esm_expr_eval.specs.Terms.{Term}
use Rattle.esm_expr_eval.specs.Terms.Term.{Val}
use Rattle.esm_expr_eval.specs.Ends.{TermEnd}
use Rattle.esm_expr_eval.specs.Ends.{TermEnd as end}
use Rattle.esm_promise.specs.Outer.{Outer}
use Rattle.esm_env.specs.Modules.{Modules}
use Rattle.esm_rewriting.specs.Scopes.{Scope}
use Rattle.esm_rewriting.specs.Rest.{Use, Rest, more}
use Rattle.esm_rewriting.specs.Rest.{Rest as rests}
use Rattle.esm_rewriting.specs.Rest.Part.{Does}
use Rattle.esm_rewriting.specs.State.{Importing}
use Rattle.esm_rewriting.specs.Acts.{Inner}
use Rattle.esm_rewriting.specs.BodyRewriting.{RewrittenBody, On, RewritesBody}
use Rattle.esm_rewriting.specs.BodyRewriting.RewritesBody.{does}
use Rattle.esm_rewriting.specs.Chains.{Comes, here, last, later}
use Rattle.esm_rewriting.specs.Contexts.{Context, scope_in, scopes_in, surrounded}
use Rattle.esm_body.specs.Inner.Stack.{scopes_round}
use Rattle.esm_body.specs.Code.{scope_of_level, contexts_of, context_by, trying, in_front}
use Rattle.esm_body.specs.declared.work.Kind.{Kind as BlockKind}
use Rattle.esm_body.specs.declared.work.Kind.TheVariants as k
use Rattle.esm_body.specs.declared.work.Level.{Level}
use Rattle.esm_body.specs.declared.inside.Inside.{Inside}
use Rattle.esm_rewriting.proofs.OneAct.{BeginsOne}
use Rattle.esm_rewriting.proofs.SomeAct.{BeginsSome}
use Rattle.esm_body.proofs.Led.{Two, value, goes, throws, calls, stopped}
use Rattle.esm_rewriting.proofs.Paths.{scopes_append, outer_goes, outer_calls, outer_stops, outer_throws, thrown_in}

-- ---- scopes and contexts

module _ (stmts : List Statement) where
  trying_scope : (s : Statement) (scope : Scope CodeValue) (rest : Rest CodeValue) → scope_in (trying stmts s scope rest) ≡ scope
  trying_scope x.Empty scope rest = refl
  trying_scope (x.Expression e) scope rest = refl
  trying_scope (x.Assign y e) scope rest = refl
  trying_scope (x.Block ss) scope rest = refl
  trying_scope (x.If e ss) scope rest = refl
  trying_scope (x.IfElse e ss ts) scope rest = refl
  trying_scope (x.Try ss ts) scope rest = refl
  trying_scope (x.TryCatch ss y ts) scope rest = refl
  trying_scope (x.Throw e) scope rest = refl
  trying_scope x.Return scope rest = refl
  trying_scope (x.ReturnValue e) scope rest = refl
  trying_scope (x.Await e) scope rest = refl
  trying_scope (x.PrintAwait e) scope rest = refl
  trying_scope (x.Const bs) scope rest = refl
  trying_scope (x.Let bs) scope rest = refl
  trying_scope (x.Default e) scope rest = refl

  context_scope : (kind : BlockKind) (scope : Scope CodeValue) (rest : Rest CodeValue) → scope_in (context_by stmts kind scope rest) ≡ scope
  context_scope k.Block scope rest = refl
  context_scope (k.Tries id) scope rest = trying_scope (stmt_part stmts id) scope rest

  -- the scopes round the code are those of its contexts
  pub scopes_are : (ls : List Level) → scopes_in (contexts_of stmts ls) ≡ scopes_round ls
  scopes_are [] = refl
  scopes_are (l ∷ []) = refl
  scopes_are (l ∷ m ∷ ls) =
      scopes_append (contexts_of stmts (m ∷ ls)) _ ∙ (λ i. scopes_are (m ∷ ls) i ++ context_scope m.kind (scope_of_level m) (in_front stmts l.work rests.end) i ∷ [])

-- ---- the expression of a statement

module _ {I S : Type 0} (seen : I → S) (modules : S → Modules ℕ) (linked : S → ℕ → Bool) (fits : Outer ℕ S → Type 0) (begins : Importing ℕ S) (some : BeginsSome modules linked fits begins) (one : BeginsOne begins) (first : Inside I) where
  -- what an evaluation's end comes to, of the whole
  abbrev pub end_in : List (Context CodeValue) → Use → Rest CodeValue → TermEnd CodeValue Limit → RewrittenBody CodeValue Limit
  end_in cs purpose rest (end.Value v) = On (comes.Goes (surrounded cs (more (Does purpose (Val v)) rest)))
  end_in cs purpose rest (end.Thrown v) = thrown_in nat_eq modules begins first.code.now.at.0 cs v
  end_in cs purpose rest (end.Call f vs t) = On (comes.Calls f vs (surrounded cs (more (Does purpose t) rest)))
  end_in cs purpose rest (end.Stopped why) = On (comes.Stops why)

  pub path_comes : (cs : List (Context CodeValue)) (purpose : Use) (rest : Rest CodeValue) {u after : Inner ℕ S} {t : Term CodeValue} {e : TermEnd CodeValue Limit} → Two seen modules linked fits begins some one first u t e after → u.scopes ≡ scopes_in cs
      → Comes nat_eq modules begins first.code.now.at.0 u.state (surrounded cs (more (Does purpose t) rest)) (end_in cs purpose rest e) after.state
  path_comes cs purpose rest value s = here
  path_comes cs purpose rest {u = u} (goes {mid = mid} {t = t} {rest = t'} r k more') s =
      later (outer_goes nat_eq modules begins first.code.now.at.0 cs u.state _ _ mid (k ∙ s) (subst (λ ss. RewritesBody nat_eq modules begins first.code.now.at.0 (record { scopes = ss; state = u.state }) (more (Does purpose t) rest) (On (comes.Goes (more (Does purpose t') rest))) mid) s (does r)))
      (path_comes cs purpose rest more' (k ∙ s))
  path_comes cs purpose rest {u = u} {after = after} (throws {t = t} {v = v} r k) s =
      last (outer_throws nat_eq modules begins first.code.now.at.0 cs u.state _ v after (k ∙ s) (subst (λ ss. RewritesBody nat_eq modules begins first.code.now.at.0 (record { scopes = ss; state = u.state }) (more (Does purpose t) rest) (On (comes.Leaves v)) after) s (does r)))
  path_comes cs purpose rest {u = u} {after = after} (calls {t = t} {rest = t'} {f = f} {vs = vs} r k) s =
      last (outer_calls nat_eq modules begins first.code.now.at.0 cs u.state _ _ f vs after (k ∙ s) (subst (λ ss. RewritesBody nat_eq modules begins first.code.now.at.0 (record { scopes = ss; state = u.state }) (more (Does purpose t) rest) (On (comes.Calls f vs (more (Does purpose t') rest))) after) s (does r)))
  path_comes cs purpose rest {u = u} {after = after} (stopped {t = t} {why = why} r k) s =
      last (outer_stops nat_eq modules begins first.code.now.at.0 cs u.state _ why after (k ∙ s) (subst (λ ss. RewritesBody nat_eq modules begins first.code.now.at.0 (record { scopes = ss; state = u.state }) (more (Does purpose t) rest) (On (comes.Stops why)) after) s (does r)))
