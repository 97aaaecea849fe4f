-- A move of the innermost block, over the scopes of all that is round it, is a move of the whole.
use Rattle.std.proofs.Common.{◌≡◌, Bool, List, [], ◌∷◌, length, arith}
use Rattle.esm_base.specs.declared.limits.Limit.{Limit}
use Rattle.esm_values.specs.Value.{Value}
use Rattle.esm_values.specs.Plans.Rewritten.{Goes, Leaves, Calls, Stops}
use Rattle.esm_env.specs.Modules.{Modules}
use Rattle.esm_rewriting.specs.Scopes.{Scope, handler_scope}
use Rattle.esm_rewriting.specs.Rest.{Rest, more, whole}
use Rattle.esm_rewriting.specs.Rest.Part.{In}
use Rattle.esm_rewriting.specs.State.{State, Importing}
use Rattle.esm_rewriting.specs.Acts.{Inner}
use Rattle.esm_rewriting.specs.BodyRewriting.{RewrittenBody, On, Gives, Waits, RewritesBody}
use Rattle.esm_rewriting.specs.BodyRewriting.RewritesBody.{inner, tries}
use Rattle.esm_rewriting.specs.Contexts.{Context, Block, Trying, scopes_in, surrounded, retaken}

module _ {N I : Type 0} (same : N → N → Bool) (modules : I → Modules N) (begins : Importing N I) (m : N) where
  abbrev over : List (Scope (Value N)) → State N I → Inner N I
  over ss w = record { scopes = ss; state = w }

  abbrev Move_of : List (Scope (Value N)) → State N I → Rest (Value N) → RewrittenBody (Value N) Limit → List (Scope (Value N)) → State N I → Type 0
  Move_of ss w r move ts u = RewritesBody same modules begins m (over ss w) r move (over ts u)

  pub goes : (cs : List (Context (Value N))) (ss : List (Scope (Value N))) (w u : State N I) (r s : Rest (Value N)) → length ss ≡ length cs → Move_of (scopes_in cs) w r (On (Goes s)) ss u → Move_of [] w (surrounded cs r) (On (Goes (surrounded (retaken cs ss) s))) [] u
  goes [] [] w u r s h move = move
  goes [] (t ∷ ts) w u r s h move = absurd (omega (arith, h))
  goes (c ∷ cs) [] w u r s h move = absurd (omega (arith, h))
  goes (Block scope rest ∷ cs) (t ∷ ts) w u r s h move = goes cs ts w u _ _ (omega (arith, h)) (inner move)
  goes (Trying scope x handler rest ∷ cs) (t ∷ ts) w u r s h move = goes cs ts w u _ _ (omega (arith, h)) (tries (inner move))

  pub calls : (cs : List (Context (Value N))) (ss : List (Scope (Value N))) (w u : State N I) (r s : Rest (Value N)) (f : Value N) (vs : List (Value N)) → length ss ≡ length cs → Move_of (scopes_in cs) w r (On (Calls f vs s)) ss u → Move_of [] w (surrounded cs r) (On (Calls f vs (surrounded (retaken cs ss) s))) [] u
  calls [] [] w u r s f vs h move = move
  calls [] (t ∷ ts) w u r s f vs h move = absurd (omega (arith, h))
  calls (c ∷ cs) [] w u r s f vs h move = absurd (omega (arith, h))
  calls (Block scope rest ∷ cs) (t ∷ ts) w u r s f vs h move = calls cs ts w u _ _ f vs (omega (arith, h)) (inner move)
  calls (Trying scope x handler rest ∷ cs) (t ∷ ts) w u r s f vs h move = calls cs ts w u _ _ f vs (omega (arith, h)) (tries (inner move))

  pub waits : (cs : List (Context (Value N))) (ss : List (Scope (Value N))) (w u : State N I) (r s : Rest (Value N)) (v : Value N) → length ss ≡ length cs → Move_of (scopes_in cs) w r (Waits v s) ss u → Move_of [] w (surrounded cs r) (Waits v (surrounded (retaken cs ss) s)) [] u
  waits [] [] w u r s v h move = move
  waits [] (t ∷ ts) w u r s v h move = absurd (omega (arith, h))
  waits (c ∷ cs) [] w u r s v h move = absurd (omega (arith, h))
  waits (Block scope rest ∷ cs) (t ∷ ts) w u r s v h move = waits cs ts w u _ _ v (omega (arith, h)) (inner move)
  waits (Trying scope x handler rest ∷ cs) (t ∷ ts) w u r s v h move = waits cs ts w u _ _ v (omega (arith, h)) (tries (inner move))

  pub gives : (cs : List (Context (Value N))) (ss : List (Scope (Value N))) (w u : State N I) (r : Rest (Value N)) (v : Value N) → length ss ≡ length cs → Move_of (scopes_in cs) w r (Gives v) ss u → Move_of [] w (surrounded cs r) (Gives v) [] u
  gives [] [] w u r v h move = move
  gives [] (t ∷ ts) w u r v h move = absurd (omega (arith, h))
  gives (c ∷ cs) [] w u r v h move = absurd (omega (arith, h))
  gives (Block scope rest ∷ cs) (t ∷ ts) w u r v h move = gives cs ts w u _ v (omega (arith, h)) (inner move)
  gives (Trying scope x handler rest ∷ cs) (t ∷ ts) w u r v h move = gives cs ts w u _ v (omega (arith, h)) (tries (inner move))

  pub stops : (cs : List (Context (Value N))) (ss : List (Scope (Value N))) (w u : State N I) (r : Rest (Value N)) (why : Limit) → length ss ≡ length cs → Move_of (scopes_in cs) w r (On (Stops why)) ss u → Move_of [] w (surrounded cs r) (On (Stops why)) [] u
  stops [] [] w u r why h move = move
  stops [] (t ∷ ts) w u r why h move = absurd (omega (arith, h))
  stops (c ∷ cs) [] w u r why h move = absurd (omega (arith, h))
  stops (Block scope rest ∷ cs) (t ∷ ts) w u r why h move = stops cs ts w u _ why (omega (arith, h)) (inner move)
  stops (Trying scope x handler rest ∷ cs) (t ∷ ts) w u r why h move = stops cs ts w u _ why (omega (arith, h)) (tries (inner move))

  -- where a throw leads: to the handler of the innermost `try`, or out
  abbrev pub thrown : List (Context (Value N)) → List (Scope (Value N)) → Value N → RewrittenBody (Value N) Limit
  thrown [] ss v = On (Leaves v)
  thrown (c ∷ cs) [] v = On (Leaves v)
  thrown (Block scope rest ∷ cs) (t ∷ ts) v = thrown cs ts v
  thrown (Trying scope x handler rest ∷ cs) (t ∷ ts) v = On (Goes (surrounded (retaken cs ts) (more (In (handler_scope x v handler) (whole handler)) rest)))

  pub leaves : (cs : List (Context (Value N))) (ss : List (Scope (Value N))) (w u : State N I) (r : Rest (Value N)) (v : Value N) → length ss ≡ length cs → Move_of (scopes_in cs) w r (On (Leaves v)) ss u → Move_of [] w (surrounded cs r) (thrown cs ss v) [] u
  leaves [] [] w u r v h move = move
  leaves [] (t ∷ ts) w u r v h move = absurd (omega (arith, h))
  leaves (c ∷ cs) [] w u r v h move = absurd (omega (arith, h))
  leaves (Block scope rest ∷ cs) (t ∷ ts) w u r v h move = leaves cs ts w u _ v (omega (arith, h)) (inner move)
  leaves (Trying scope x handler rest ∷ cs) (t ∷ ts) w u r v h move = goes cs ts w u _ _ (omega (arith, h)) (tries (inner move))
