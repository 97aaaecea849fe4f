-- One rewriting of what remains of a body: of its first part. Expressions are rewritten by their own rules, over the scopes
-- and the world.
use Rattle.std.specs.Prelude.{ℕ, Bool, List, [], ◌∷◌, Option, Some, None}
use Rattle.esm_base.specs.declared.limits.Limit.{Limit}
use Rattle.esm_tree.specs.Syntax.{Stmts}
use Rattle.esm_tree.specs.Syntax.{Stmt as Statement}
use Rattle.esm_values.specs.Value.{Value}
use Rattle.esm_values.specs.Acts.{Act as act}
use Rattle.esm_values.specs.Plans.{Rewritten, inside, Follows}
use Rattle.esm_values.specs.Plans.Rewritten.{Goes, Leaves, Calls, Stops}
use Rattle.esm_values.specs.Plans.Plan.{Ends, Asks}
use Rattle.esm_values.specs.Operators.{values, look_of, is_true}
use Rattle.esm_expr_eval.specs.Terms.{Term}
use Rattle.esm_expr_eval.specs.Terms.Term.{Val}
use Rattle.esm_expr_eval.specs.Rewriting.{Rewrites}
use Rattle.esm_env.specs.Modules.{Modules}
use Rattle.esm_rewriting.specs.Scopes.{Scope, handler_scope}
use Rattle.esm_rewriting.specs.Rest.{Use, Rest, end, more, whole, begin, branch}
use Rattle.esm_rewriting.specs.Rest.Part.{Whole, Does, Stands, In, Tries}
use Rattle.esm_rewriting.specs.Rest.Use.{Drops, Sets, Writes, Throws, Returns, Prints, Chooses, Awaits}
use Rattle.esm_rewriting.specs.State.{Importing}
use Rattle.esm_rewriting.specs.Acts.{Inner, Performs, modules_of, set_name, write_name}

-- what a rewriting of a body comes to, beside what one of an expression does: it returns, or stands at an await
pub data RewrittenBody (V S : Type 0) : Type 0 where
  On : (c : Rewritten V S (Rest V)) → RewrittenBody V S
  Gives : (v : V) → RewrittenBody V S
  Waits : (v : V) (rest : Rest V) → RewrittenBody V S

abbrev pub within : {V S : Type 0} → (Rest V → Rest V) → RewrittenBody V S → RewrittenBody V S
within f (On c) = On (inside f c)
within f (Gives v) = Gives v
within f (Waits v rest) = Waits v (f rest)

-- ECMA-262, TryStatement: a throw in the block leads to the handler
abbrev pub caught : {V S : Type 0} → Option (List ℕ) → Stmts → Rest V → RewrittenBody V S → RewrittenBody V S
caught x handler rest (On (Leaves v)) = On (Goes (more (In (handler_scope x v handler) (whole handler)) rest))
caught x handler rest (On (Goes r)) = On (Goes (more (Tries r x handler) rest))
caught x handler rest (On (Calls f vs r)) = On (Calls f vs (more (Tries r x handler) rest))
caught x handler rest (On (Stops why)) = On (Stops why)
caught x handler rest (Gives v) = Gives v
caught x handler rest (Waits v r) = Waits v (more (Tries r x handler) rest)

abbrev pub wrote : {V S : Type 0} → Rest V → Option V → RewrittenBody V S
wrote rest None = On (Goes rest)
wrote rest (Some v) = On (Leaves v)

module _ {N I : Type 0} (same : N → N → Bool) (modules : I → Modules N) (begins : Importing N I) (m : N) where
  -- the URL of the module in which the code stands written
  abbrev pub own_url : Inner N I → List ℕ
  own_url w = (modules_of modules w.state).url m

  -- a rewriting of an expression in this module
  abbrev pub RewritesTerm : Inner N I → Term (Value N) → Rewritten (Value N) Limit (Term (Value N)) → Inner N I → Type 0
  RewritesTerm w e c after = Rewrites (values same) own_url (Performs same modules begins m) w e c after

  -- one rewriting of what remains of a body. ECMA-262, Runtime Semantics: Evaluation of statements
  pub data RewritesBody : Inner N I → Rest (Value N) → RewrittenBody (Value N) Limit → Inner N I → Type 0 where
    -- own: each statement takes a step, before anything of it
    begins_at : {w after : Inner N I} {s : Statement} {rest : Rest (Value N)} {c : Rewritten (Value N) Limit (Rest (Value N))}
        → Follows (Performs same modules begins m) w (Asks (act.Step 1) (λ _. Ends (Goes (begin (values same) s rest)))) c after
        → RewritesBody w (more (Whole s) rest) (On c) after
    -- the expression of a statement is evaluated, by its own rules
    does : {w after : Inner N I} {purpose : Use} {e : Term (Value N)} {rest : Rest (Value N)}
        {c : Rewritten (Value N) Limit (Term (Value N))} → RewritesTerm w e c after
        → RewritesBody w (more (Does purpose e) rest) (On (inside (λ e. more (Does purpose e) rest) c)) after
    -- ECMA-262, ExpressionStatement
    drops : {w : Inner N I} {v : Value N} {rest : Rest (Value N)} → RewritesBody w (more (Does Drops (Val v)) rest) (On (Goes rest)) w
    -- ECMA-262, LexicalDeclaration, InitializeReferencedBinding
    sets : {w : Inner N I} {x : List ℕ} {v : Value N} {rest : Rest (Value N)}
        → RewritesBody w (more (Does (Sets x) (Val v)) rest) (On (Goes rest)) (set_name same modules begins m w x v)
    -- ECMA-262, the assignment operator, PutValue
    writes : {w : Inner N I} {x : List ℕ} {v : Value N} {rest : Rest (Value N)}
        → RewritesBody w (more (Does (Writes x) (Val v)) rest) (wrote rest (write_name same modules begins m w x v).0)
        (write_name same modules begins m w x v).1
    -- ECMA-262, ThrowStatement
    throws : {w : Inner N I} {v : Value N} {rest : Rest (Value N)} → RewritesBody w (more (Does Throws (Val v)) rest) (On (Leaves v)) w
    -- ECMA-262, ReturnStatement
    returns : {w : Inner N I} {v : Value N} {rest : Rest (Value N)} → RewritesBody w (more (Does Returns (Val v)) rest) (Gives v) w
    -- own: `print(await E)`, behind its await, takes a step as a `print`
    prints : {w after : Inner N I} {v : Value N} {rest : Rest (Value N)} {c : Rewritten (Value N) Limit (Rest (Value N))}
        → Follows (Performs same modules begins m) w (Asks (act.Step 1) (λ _. Asks (act.Print (v ∷ [])) (λ _. Ends (Goes rest)))) c after
        → RewritesBody w (more (Does Prints (Val v)) rest) (On c) after
    -- ECMA-262, IfStatement, with ToBoolean
    chooses : {w : Inner N I} {v : Value N} {ss others : Stmts} {rest : Rest (Value N)}
        → RewritesBody w (more (Does (Chooses ss others) (Val v)) rest)
        (On (Goes (more (branch (values same) (is_true (look_of v)) ss others) rest))) w
    -- ECMA-262, AwaitExpression
    awaits : {w : Inner N I} {v : Value N} {purpose : Use} {rest : Rest (Value N)}
        → RewritesBody w (more (Does (Awaits purpose) (Val v)) rest) (Waits v (more (Stands purpose) rest)) w
    -- ECMA-262, Block, and the body of a function or a handler, each with its scope
    inner : {w after : Inner N I} {scope scope' : Scope (Value N)} {r rest : Rest (Value N)} {move : RewrittenBody (Value N) Limit}
        → RewritesBody (record w { scopes = scope ∷ w.scopes }) r move (record after { scopes = scope' ∷ after.scopes })
        → RewritesBody w (more (In scope r) rest) (within (λ r. more (In scope' r) rest) move) after
    inner_end : {w : Inner N I} {scope : Scope (Value N)} {rest : Rest (Value N)}
        → RewritesBody w (more (In scope end) rest) (On (Goes rest)) w
    -- ECMA-262, TryStatement
    tries : {w after : Inner N I} {r rest : Rest (Value N)} {x : Option (List ℕ)} {handler : Stmts} {move : RewrittenBody (Value N) Limit}
        → RewritesBody w r move after → RewritesBody w (more (Tries r x handler) rest) (caught x handler rest move) after
    tries_end : {w : Inner N I} {rest : Rest (Value N)} {x : Option (List ℕ)} {handler : Stmts}
        → RewritesBody w (more (Tries end x handler) rest) (On (Goes rest)) w
