-- What stands in blocks and contexts: a rewriting of the innermost block is one of the whole, by what it comes to.
use Rattle.std.proofs.Common.{◌≡◌, suc, Bool, List, [], ◌∷◌, ◌++◌, length, refl, ap, subst}
use Rattle.esm_base.specs.declared.limits.Limit.{Limit}
use Rattle.esm_values.specs.Value.{Value}
use Rattle.esm_values.specs.Plans.{Rewritten as comes}
use Rattle.esm_env.specs.Modules.{Modules}
use Rattle.esm_rewriting.specs.Scopes.{Scope}
use Rattle.esm_rewriting.specs.Rest.{Rest, more}
use Rattle.esm_rewriting.specs.Rest.{Rest as rests}
use Rattle.esm_rewriting.specs.Rest.Part.{In, Tries}
use Rattle.esm_rewriting.specs.State.{State, Importing}
use Rattle.esm_rewriting.specs.Acts.{Inner}
use Rattle.esm_rewriting.specs.BodyRewriting.{RewrittenBody, On, Gives, Waits, RewritesBody}
use Rattle.esm_rewriting.specs.Segment.{RewritesOutermost}
use Rattle.esm_rewriting.specs.Fits.{Kind, HoldScopes, HoldsRest}
use Rattle.esm_rewriting.specs.Contexts.{Context, Block, Trying, scope_in, scopes_in, surrounded, rescoped, retaken}
use Rattle.esm_rewriting.proofs.Moved as moved

-- ---- scopes and contexts

module _ {V : Type 0} where
  same_scope : (c : Context V) → rescoped c (scope_in c) ≡ c
  same_scope (Block scope rest) = refl
  same_scope (Trying scope x handler rest) = refl

  pub same_scopes : (cs : List (Context V)) → retaken cs (scopes_in cs) ≡ cs
  same_scopes [] = refl
  same_scopes (c ∷ cs) = λ i. same_scope c i ∷ same_scopes cs i

  pub scopes_append : (cs : List (Context V)) (c : Context V) → scopes_in (cs ++ c ∷ []) ≡ scopes_in cs ++ scope_in c ∷ []
  scopes_append [] c = refl
  scopes_append (d ∷ cs) c = ap (λ ss. scope_in d ∷ ss) (scopes_append cs c)

  pub same_many : (cs : List (Context V)) → length (scopes_in cs) ≡ length cs
  same_many [] = refl
  same_many (c ∷ cs) = ap suc (same_many cs)

-- ---- what stands in contexts

module _ {V : Type 0} (Knows : V → Type 0) (waits : Type 0) (kind : Kind) where
  pub held_inside : (cs : List (Context V)) (r : Rest V) → HoldsRest Knows waits kind (surrounded cs r) → HoldsRest Knows waits kind r × HoldScopes Knows (scopes_in cs)
  held_inside [] r h = (h, tt)
  held_inside (Block scope rest ∷ cs) r h = let o = held_inside cs (more (In scope r) rest) h in (o.0.0.1, (o.0.0.0, o.1))
  held_inside (Trying scope x handler rest ∷ cs) r h = let o = held_inside cs (more (Tries (more (In scope r) rests.end) x handler) rest) h in (o.0.0.0.0.1, (o.0.0.0.0.0, o.1))

-- ---- rewritings of the innermost block that leave the scopes

module _ {N I : Type 0} (same : N → N → Bool) (modules : I → Modules N) (begins : Importing N I) (m : N) where
  abbrev over : List (Scope (Value N)) → State N I → Inner N I
  over ss w = record { scopes = ss; state = w }

  abbrev pub InnerMoves : List (Context (Value N)) → State N I → Rest (Value N) → RewrittenBody (Value N) Limit → Inner N I → Type 0
  InnerMoves cs w r move after = RewritesBody same modules begins m (over (scopes_in cs) w) r move after

  abbrev Whole : State N I → Rest (Value N) → RewrittenBody (Value N) Limit → State N I → Type 0
  Whole = RewritesOutermost same modules begins m

  kept : (cs : List (Context (Value N))) (w : State N I) (r : Rest (Value N)) (move : RewrittenBody (Value N) Limit) (after : Inner N I) → after.scopes ≡ scopes_in cs → InnerMoves cs w r move after → InnerMoves cs w r move (over (scopes_in cs) after.state)
  kept cs w r move after e h = subst (λ ss. InnerMoves cs w r move (over ss after.state)) e h

  pub outer_goes : (cs : List (Context (Value N))) (w : State N I) (r s : Rest (Value N)) (after : Inner N I) → after.scopes ≡ scopes_in cs → InnerMoves cs w r (On (comes.Goes s)) after → Whole w (surrounded cs r) (On (comes.Goes (surrounded cs s))) after.state
  outer_goes cs w r s after e h =
      subst (λ ds. Whole w (surrounded cs r) (On (comes.Goes (surrounded ds s))) after.state) (same_scopes cs) (moved.goes same modules begins m cs (scopes_in cs) w after.state r s (same_many cs) (kept cs w r _ after e h))

  pub outer_calls : (cs : List (Context (Value N))) (w : State N I) (r s : Rest (Value N)) (f : Value N) (vs : List (Value N)) (after : Inner N I) → after.scopes ≡ scopes_in cs → InnerMoves cs w r (On (comes.Calls f vs s)) after → Whole w (surrounded cs r) (On (comes.Calls f vs (surrounded cs s))) after.state
  outer_calls cs w r s f vs after e h =
      subst (λ ds. Whole w (surrounded cs r) (On (comes.Calls f vs (surrounded ds s))) after.state) (same_scopes cs) (moved.calls same modules begins m cs (scopes_in cs) w after.state r s f vs (same_many cs) (kept cs w r _ after e h))

  pub outer_waits : (cs : List (Context (Value N))) (w : State N I) (r s : Rest (Value N)) (v : Value N) (after : Inner N I) → after.scopes ≡ scopes_in cs → InnerMoves cs w r (Waits v s) after → Whole w (surrounded cs r) (Waits v (surrounded cs s)) after.state
  outer_waits cs w r s v after e h =
      subst (λ ds. Whole w (surrounded cs r) (Waits v (surrounded ds s)) after.state) (same_scopes cs) (moved.waits same modules begins m cs (scopes_in cs) w after.state r s v (same_many cs) (kept cs w r _ after e h))

  pub outer_gives : (cs : List (Context (Value N))) (w : State N I) (r : Rest (Value N)) (v : Value N) (after : Inner N I) → after.scopes ≡ scopes_in cs → InnerMoves cs w r (Gives v) after → Whole w (surrounded cs r) (Gives v) after.state
  outer_gives cs w r v after e h = moved.gives same modules begins m cs (scopes_in cs) w after.state r v (same_many cs) (kept cs w r _ after e h)

  pub outer_stops : (cs : List (Context (Value N))) (w : State N I) (r : Rest (Value N)) (why : Limit) (after : Inner N I) → after.scopes ≡ scopes_in cs → InnerMoves cs w r (On (comes.Stops why)) after → Whole w (surrounded cs r) (On (comes.Stops why)) after.state
  outer_stops cs w r why after e h = moved.stops same modules begins m cs (scopes_in cs) w after.state r why (same_many cs) (kept cs w r _ after e h)

  -- where a throw leads: to the handler of the innermost `try`, or out
  abbrev pub thrown_in : List (Context (Value N)) → Value N → RewrittenBody (Value N) Limit
  thrown_in cs v = moved.thrown same modules begins m cs (scopes_in cs) v

  pub outer_throws : (cs : List (Context (Value N))) (w : State N I) (r : Rest (Value N)) (v : Value N) (after : Inner N I) → after.scopes ≡ scopes_in cs → InnerMoves cs w r (On (comes.Leaves v)) after → Whole w (surrounded cs r) (thrown_in cs v) after.state
  outer_throws cs w r v after e h = moved.leaves same modules begins m cs (scopes_in cs) w after.state r v (same_many cs) (kept cs w r _ after e h)
