-- Where a throw leads in a function, and what a handler and the ends of a function come to.
use Rattle.std.proofs.Common.{◌≡◌, ℕ, nat_eq, false, List, [], ◌∷◌, ◌++◌, map, Option, Some, None, refl, ap, subst, ◌∙◌}
use Rattle.esm_base.specs.declared.limits.Limit.{Limit}
use Rattle.esm_tree.specs.Syntax.{no_more, Stmts, nothing}
use Rattle.esm_env.specs.Declarations.{Declaration, declared_in}
use Rattle.esm_env.specs.Modules.{Modules}
use Rattle.esm_values.specs.Value.{Value, Undefined}
use Rattle.esm_values.specs.Operators.{values}
use Rattle.esm_values.specs.Plans.Rewritten.{Goes, Leaves}
use Rattle.esm_expr_eval.specs.Terms.Term.{Val, Fails}
use Rattle.esm_rewriting.specs.Scopes.{Scope, named_cell, unset, caught_name, handler_scope}
use Rattle.esm_rewriting.specs.Rest.{Use as purposes}
use Rattle.esm_rewriting.specs.Rest.{Rest, end, whole, fill_rest}
use Rattle.esm_rewriting.specs.Rest.{Rest as rests}
use Rattle.esm_rewriting.specs.Rest.{Part as parts}
use Rattle.esm_rewriting.specs.State.{State, Importing}
use Rattle.esm_rewriting.specs.BodyRewriting.{RewrittenBody, On, Gives}
use Rattle.esm_rewriting.specs.BodyRewriting.{RewritesBody as rule}
use Rattle.esm_rewriting.specs.Segment.{Active, Ended, Segment, RewritesOutermost}
use Rattle.esm_rewriting.specs.Contexts.{Context, scopes_in, surrounded, retaken}
use Rattle.esm_rewriting.proofs.Paths.{same_scopes, thrown_in, outer_throws, outer_gives}
use Rattle.esm_rows.specs.Rows.{caught_names}
use Rattle.esm_row_laws.specs.Spots.{Left, left, Round, Own, Inner, First, Tried, Uses, Has, Between, Handles}
use Rattle.esm_row_laws.specs.Remaining.{left_rest, scope_by, contexts, rest_at}
use Rattle.esm_row_laws.specs.Leading.{Leads}
use Rattle.esm_row_laws.specs.Operations.{Values, unset_of}
use Rattle.esm_row_laws.specs.Landings.{Landing, landing, caught_values, over_names, ThrowsIn, remains}
use Rattle.esm_row_laws.proofs.Operating.{scope_unset, inside}

-- ---- throws

-- the handler with its scope, in front of what is behind its `try`
abbrev pub handled : Landing → Value ℕ → Rest (Value ℕ)
handled l v = rest_at (values nat_eq) (Handles l.caught l.handler l.behind l.rounds) l.names (v ∷ [])

abbrev pub thrown_at : Option Landing → Value ℕ → RewrittenBody (Value ℕ) Limit
thrown_at None v = On (Leaves v)
thrown_at (Some l) v = On (Goes (handled l v))

module _ {S : Type 0} (modules : S → Modules ℕ) (begins : Importing ℕ S) (m : ℕ) (v : Value ℕ) where
  abbrev Thrown : List (Context (Value ℕ)) → RewrittenBody (Value ℕ) Limit
  Thrown cs = thrown_in nat_eq modules begins m cs v

  tried : (caught : Option (List ℕ)) (handler : Stmts) (l : Left) (cs : List (Context (Value ℕ))) → ◌≡◌ {A = RewrittenBody (Value ℕ) Limit} (On (Goes (surrounded (retaken cs (scopes_in cs)) (rests.more (parts.In (handler_scope caught v handler) (whole handler)) (left_rest (values nat_eq) l))))) (On (Goes (surrounded cs (rests.more (parts.In (handler_scope caught v handler) (whole handler)) (left_rest (values nat_eq) l)))))
  tried caught handler l cs = ap (λ ds. On (Goes (surrounded ds (rests.more (parts.In (handler_scope caught v handler) (whole handler)) (left_rest (values nat_eq) l))))) (same_scopes cs)

  pub thrown_lands : (rs : List Round) (vss : Values) → Thrown (contexts (values nat_eq) rs vss) ≡ thrown_at (landing rs vss) v
  thrown_lands [] vss = refl
  thrown_lands (Own ds ∷ rs) [] = thrown_lands rs []
  thrown_lands (Own ds ∷ rs) (vs ∷ vss) = thrown_lands rs vss
  thrown_lands (Inner ds l ∷ rs) [] = thrown_lands rs []
  thrown_lands (Inner ds l ∷ rs) (vs ∷ vss) = thrown_lands rs vss
  thrown_lands (First ds others l ∷ rs) [] = thrown_lands rs []
  thrown_lands (First ds others l ∷ rs) (vs ∷ vss) = thrown_lands rs vss
  thrown_lands (Tried ds caught handler l ∷ rs) [] = tried caught handler l (contexts (values nat_eq) rs [])
  thrown_lands (Tried ds caught handler l ∷ rs) (vs ∷ vss) = tried caught handler l (contexts (values nat_eq) rs vss)

  outside : (rs : List Round) (vss : Values) (w late : State ℕ S) (r : Rest (Value ℕ)) (o : Option Landing) → ThrowsIn modules begins m rs vss w r v late → landing rs vss ≡ o → RewritesOutermost nat_eq modules begins m w (remains modules begins rs vss r) (thrown_at o v) late
  outside rs vss w late r o h e =
      subst (λ move. RewritesOutermost nat_eq modules begins m w (remains modules begins rs vss r) move late) (thrown_lands rs vss ∙ ap (λ q. thrown_at q v) e) (outer_throws nat_eq modules begins m (contexts (values nat_eq) rs vss) w r v (over_names modules begins rs vss late) refl h)

  pub caught : (rs : List Round) (vss : Values) (w late : State ℕ S) (r : Rest (Value ℕ)) (l : Landing) → ThrowsIn modules begins m rs vss w r v late → landing rs vss ≡ Some l → Leads nat_eq modules begins m w (remains modules begins rs vss r) late (handled l v)
  caught rs vss w late r l h e callers how after seg = Segment.goes (On (Goes (handled l v))) (outside rs vss w late r (Some l) h e) refl seg

  pub leaves : (rs : List Round) (vss : Values) (w late : State ℕ S) (r : Rest (Value ℕ)) → ThrowsIn modules begins m rs vss w r v late → landing rs vss ≡ None → (c : Active ℕ) (cs : List (Active ℕ)) (how : Ended ℕ) (after : State ℕ S) → Segment nat_eq modules begins late c.at (fill_rest (Fails v) c.rest) cs how after → Segment nat_eq modules begins w m (remains modules begins rs vss r) (c ∷ cs) how after
  leaves rs vss w late r h e c cs how after seg = Segment.goes (On (Leaves v)) (outside rs vss w late r None h e) refl seg

  -- ---- handlers

  caught_scope : (x : Option (List ℕ)) (ds : List Declaration) → scope_by (values nat_eq) (caught_names x ++ ds) (caught_values x v ++ unset_of ds) ≡ caught_name x v ++ map unset ds
  caught_scope None ds = scope_unset ds
  caught_scope (Some name) ds = ap (λ s. named_cell name false (Some v) ∷ s) (scope_unset ds)

  pub handles : (x : Option (List ℕ)) (handler : Stmts) (l : Left) (rs : List Round) (vss : Values) (w : State ℕ S) → Leads nat_eq modules begins m w (rest_at (values nat_eq) (Handles x handler l rs) vss (v ∷ [])) w (rest_at (values nat_eq) (Between (left no_more handler) (Inner (caught_names x ++ declared_in handler) l ∷ rs)) ((caught_values x v ++ unset_of (declared_in handler)) ∷ vss) [])
  handles x handler l rs vss w callers how after seg =
      subst (λ (s : Scope (Value ℕ)). Segment nat_eq modules begins w m (surrounded (contexts (values nat_eq) rs vss) (rests.more (parts.In s (whole handler)) (left_rest (values nat_eq) l))) callers how after) (caught_scope x (declared_in handler)) seg

  -- ---- ends

  pub returns : (l : Left) (rs : List Round) (vss : Values) (w : State ℕ S) (c : Active ℕ) (cs : List (Active ℕ)) (how : Ended ℕ) (after : State ℕ S) → Segment nat_eq modules begins w c.at (fill_rest (Val v) c.rest) cs how after → Segment nat_eq modules begins w m (rest_at (values nat_eq) (Has (Uses purposes.Returns l rs)) vss (v ∷ [])) (c ∷ cs) how after
  returns l rs vss w c cs how after seg =
      Segment.goes (Gives v) (outer_gives nat_eq modules begins m (contexts (values nat_eq) rs vss) w _ v (over_names modules begins rs vss w) refl rule.returns) refl seg

module _ {S : Type 0} (modules : S → Modules ℕ) (begins : Importing ℕ S) (m : ℕ) where
  pub ends : (ds : List Declaration) (vs : List (Option (Value ℕ))) (w : State ℕ S) (c : Active ℕ) (cs : List (Active ℕ)) (how : Ended ℕ) (after : State ℕ S) → Segment nat_eq modules begins w c.at (fill_rest (Val Undefined) c.rest) cs how after → Segment nat_eq modules begins w m (rest_at (values nat_eq) (Between (left no_more nothing) (Own ds ∷ [])) (vs ∷ []) []) (c ∷ cs) how after
  ends ds vs w c cs how after seg =
      inside modules begins m w [] [] (rests.more (parts.In (scope_by (values nat_eq) ds vs) end) end) end rule.inner_end (c ∷ cs) how after (Segment.returns seg)
