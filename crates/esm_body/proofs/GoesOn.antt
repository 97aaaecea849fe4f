-- A body goes on from its start, or behind an await: its segment in the code is one of the definitions.
use Rattle.std.proofs.Common.{Vec, Global, ◌≡◌, ℕ, nat_eq, Bool, [], refl, ap, subst, sym, ◌∙◌, length}
use Rattle.std.specs.Prelude.{Result, Ok, Err}
use Rattle.std.specs.Arc.{arc_value}
use Rattle.esm_base.specs.declared.limits.Limit.{Limit}
use Rattle.esm_base.specs.declared.module_id.ModuleId.{ModuleId}
use Rattle.esm_resolve.specs.SharedSet.{SharedSetAgrees, SharedSetEnds}
use Rattle.esm_tree.specs.Syntax.{Parts}
use Rattle.esm_values.specs.Code.{CodeValue, value_of}
use Rattle.esm_values.specs.declared.value.Value.{Value}
use Rattle.esm_values.specs.Plans.{Rewritten as comes}
use Rattle.esm_expr_eval.specs.Terms.Term.{Val, Fails}
use Rattle.esm_expr_eval.specs.Rewriting.{Rewrites as step}
use Rattle.esm_promise.specs.Outer.{Outer}
use Rattle.esm_promise.specs.Promises.Settled.{Fulfilled, Rejected}
use Rattle.esm_env.specs.Modules.{Modules}
use Rattle.esm_env.specs.Calls.{scopes_of}
use Rattle.esm_env.specs.Scopes.{Scopes}
use Rattle.esm_body.specs.SameScopes.{HaveSameScopes}
use Rattle.esm_rewriting.specs.Rest.{Rest, more}
use Rattle.esm_rewriting.specs.Rest.{Part as parts}
use Rattle.esm_rewriting.specs.State.{State, Importing}
use Rattle.esm_rewriting.specs.BodyRewriting.{RewrittenBody, On}
use Rattle.esm_rewriting.specs.BodyRewriting.{RewritesBody as rule}
use Rattle.esm_rewriting.specs.Segment.{Segment, next_by}
use Rattle.esm_rewriting.specs.Segment.{Ended as ends}
use Rattle.esm_body.specs.Importers.{ImportsAreLawful}
use Rattle.esm_rewriting.specs.Chains.{Comes, here, only, EndsSo, IsFitNext}
use Rattle.esm_rewriting.specs.Contexts.{caught_in, surrounded}
use Rattle.esm_rewriting.specs.Sets.{IsNameOf, SetsMove}
use Rattle.esm_body.specs.Inner.Going.{FitsBody, MayGoOn, Halts, WentOn, GoesOnWith, GivesUse, GivenBy, CameTo, MovesOn, behind_rest}
use Rattle.esm_body.specs.Inner.Running.{MayFollow, RanBehind, EndsBehind, ended_of}
use Rattle.esm_body.specs.Inner.Stack.{IsFront}
use Rattle.esm_body.specs.Code.{innermost, in_front_of, part_of, use_of, AreLevels, IsCode}
use Rattle.esm_body.specs.Inner.Turn.{Threw, ThrewTo, code_rest, code_contexts, used}
use Rattle.esm_body.specs.Inner.World.{state_in, inner_of, with_code}
use Rattle.esm_body.specs.declared.inside.Inside.{Inside}
use Rattle.esm_rewriting.specs.declared.stop.Stop.{Stop}
use Rattle.esm_rewriting.specs.declared.stop.Stop.TheVariants as stops
use Rattle.esm_body.specs.declared.segment.Ended.{Ended}
use Rattle.esm_body.specs.declared.turn.Outcome.{Outcome}
use Rattle.esm_body.specs.declared.turn.Outcome.TheVariants as o
use Rattle.esm_body.specs.declared.work.Activation.{Activation}
use Rattle.esm_body.specs.declared.work.Level.{Level}
use Rattle.esm_body.specs.declared.work.Use.{Use}
use Rattle.esm_body.specs.declared.work.Work.TheVariants as work
use Rattle.esm_rewriting.proofs.DeclaredLemmas.{comes_set}
use Rattle.esm_body.proofs.EndLemmas.{halt}
use Rattle.esm_body.proofs.Filled.{fill_code}
use Rattle.esm_rewriting.proofs.Follows.{fits_next, ends_whole}
use Rattle.esm_body.proofs.Levels.{levels_surround}
use Rattle.esm_body.proofs.LawfulFits.{lawful_some, lawful_one}
use Rattle.esm_rewriting.proofs.OneAct.{BeginsOne}
use Rattle.esm_rewriting.proofs.SomeAct.{BeginsSome}
use Rattle.esm_body.proofs.TurnParts.{front_throws}
use Rattle.esm_rewriting.proofs.Turning.{comes_of}

-- a value stands in front of what remains
pub gives : {I : Type 0} (w : Inside I) (levels : Vec Level Global) (purpose : Use) (v : Value)
    → IsFront (arc_value w.code.now.tree).stmts w.code.now.levels.items levels.items (more (part_of (arc_value w.code.now.tree).stmts (work.Has purpose v)) (innermost (arc_value w.code.now.tree).stmts w.code.now.levels.items))
    → AreLevels (length (arc_value w.code.now.tree).stmts) levels.items → GoesOnWith w (used w.code.now purpose v) (with_code w (record w.code.now { levels = levels }))
gives w levels purpose v f sound = record {
  others = refl;
  same = record { at = refl; tree = refl; code = record { levels = sound; some = f.2 }; outcome = tt };
  left = sym (levels_surround (arc_value w.code.now.tree).stmts levels.items) ∙ (λ j. surrounded (f.0 j) (f.1 j));
}

module _ {I S : Type 0} (seen : I → S) (modules : S → Modules ℕ) (linked : S → ℕ → Bool) (fits : Outer ℕ S → Type 0) (begins : Importing ℕ S) where
  abbrev Fits : Inside I → Rest CodeValue → Bool → Type 0
  Fits w rest awaits = FitsBody modules linked fits (state_in seen w) (scopes_of w.envs.now) w.code.now rest awaits

  abbrev May : Inside I → Rest CodeValue → Type 0
  May w rest = MayGoOn modules linked fits (state_in seen w) (scopes_of w.envs.now) w.code.now rest

  abbrev Ran : Inside I → Outcome → Result Ended Stop → Inside I → Type 0
  Ran w out r y = RanBehind seen modules linked fits begins w out r y

  -- ---- from its start

  pub begins_follow : (w : Inside I) → May w (code_rest w.code.now) → MayFollow seen modules linked fits begins w o.On
  begins_follow w f = (f.0, record { next = f.1.run; known = tt; made = f.1.made; tree = f.1.belongs.tree; sets = f.1.belongs.sets })

  pub halts_on : (w y : Inside I) (end : Ended) → Ran w o.On (Ok end) y
      → Halts modules linked begins (state_in seen w) w.code.now (code_rest w.code.now) (halt end y.code.now) (state_in seen y) (scopes_of y.envs.now)
  halts_on w y end h = record { runs = h.0; at = h.1.body; code = h.1.code; ended = h.1.ended; belongs = h.1.belongs; made = h.1.keeps.made; trees = h.1.keeps.trees }

  pub stands_on : (w y : Inside I) (end : Ended) → Ran w o.On (Ok end) y → y.engine.now.standing ≡ w.engine.now.standing
  stands_on w y end h = h.1.keeps.loans.standing

  pub scopes_on : (w y : Inside I) (end : Ended) → Ran w o.On (Ok end) y → HaveSameScopes (scopes_of w.envs.now) (scopes_of y.envs.now)
  scopes_on w y end h = h.1.keeps.scopes

  pub stops_on : (w y : Inside I) (stop : Stop) → Ran w o.On (Err stop) y
      → WentOn modules linked begins (state_in seen w) w.code.now (code_rest w.code.now) (Err stop) (state_in seen y) (scopes_of y.envs.now)
  stops_on w y (stops.Limit limit) h = h.0
  stops_on w y stops.Memory h = tt

  -- ---- what an await is given

  -- it stands where the await stood
  behind_is : (w : Inside I) (purpose : Use) (v : CodeValue) → IsCode w.code.now → behind_rest w.code.now purpose (Fulfilled v) ≡ in_front_of w.code.now (parts.Does (use_of (arc_value w.code.now.tree).stmts purpose) (Val v))
  behind_is w purpose v c = fill_code (Val v) w.code.now (parts.Stands (use_of (arc_value w.code.now.tree).stmts purpose)) c

  fails_is : (w : Inside I) (purpose : Use) (v : CodeValue) → IsCode w.code.now → behind_rest w.code.now purpose (Rejected v) ≡ in_front_of w.code.now (parts.Does (use_of (arc_value w.code.now.tree).stmts purpose) (Fails v))
  fails_is w purpose v c = fill_code (Fails v) w.code.now (parts.Stands (use_of (arc_value w.code.now.tree).stmts purpose)) c

  abbrev Given : Inside I → Rest CodeValue → Result Outcome Stop → Inside I → Type 0
  Given w rest r x = GivenBy seen modules begins w rest r x

  abbrev Chain : Inside I → Rest CodeValue → RewrittenBody CodeValue Limit → Type 0
  Chain w rest move = Comes nat_eq modules begins w.code.now.at.0 (state_in seen w) rest move (state_in seen w)

  pub value_given : (w x : Inside I) (purpose : Use) (v : Value) (r : Result Outcome Stop) → IsCode w.code.now → GivesUse w purpose v r x → Given w (behind_rest w.code.now purpose (Fulfilled (value_of v))) r x
  value_given w x purpose v (Ok o.On) c h = record {
    others = h.others;
    same = h.same;
    moves = subst (λ rest. Chain w rest (On (comes.Goes (code_rest x.code.now)))) (h.left ∙ sym (behind_is w purpose (value_of v) c)) here;
  }
  value_given w x purpose v (Ok o.Done) c h = absurd h
  value_given w x purpose v (Ok (o.Returns u)) c h = absurd h
  value_given w x purpose v (Ok (o.Thrown u)) c h = absurd h
  value_given w x purpose v (Ok (o.Calls f vs d)) c h = absurd h
  value_given w x purpose v (Ok (o.Waits u p)) c h = absurd h
  value_given w x purpose v (Err (stops.Limit limit)) c h = absurd h
  value_given w x purpose v (Err stops.Memory) c h = tt

  throws_out : (w : Inside I) (purpose : Use) (v : CodeValue) → IsCode w.code.now → Chain w (behind_rest w.code.now purpose (Rejected v)) (caught_in (code_contexts w.code.now) v)
  throws_out w purpose v c =
      subst (λ rest. Chain w rest (caught_in (code_contexts w.code.now) v)) (sym (fails_is w purpose v c))
      (comes_of nat_eq modules begins (only (front_throws seen modules linked fits begins w
      (more (parts.Does (use_of (arc_value w.code.now.tree).stmts purpose) (Fails v)) (innermost (arc_value w.code.now.tree).stmts w.code.now.levels.items)) v (inner_of seen w) refl (rule.does step.fails))))

  thrown_moves : (w x : Inside I) (rest : Rest CodeValue) (v : Value) (out : Outcome) → ThrewTo w v out x → Chain w rest (caught_in (code_contexts w.code.now) (value_of v)) → MovesOn seen modules begins w rest out x.code.now
  thrown_moves w x rest v o.On t d = subst (Chain w rest) t.leads d
  thrown_moves w x rest v o.Done t d = absurd t.leads
  thrown_moves w x rest v (o.Returns u) t d = absurd t.leads
  thrown_moves w x rest v (o.Thrown u) t d = subst (Chain w rest) (t.leads.0 ∙ ap (λ (u : Value). On (comes.Leaves (value_of u))) (sym t.leads.1)) d
  thrown_moves w x rest v (o.Calls f vs d') t d = absurd t.leads
  thrown_moves w x rest v (o.Waits u p) t d = absurd t.leads

  pub throw_given : (w x : Inside I) (purpose : Use) (v : Value) (r : Result Outcome Stop) → IsCode w.code.now → Threw w v r x → Given w (behind_rest w.code.now purpose (Rejected (value_of v))) r x
  throw_given w x purpose v (Ok out) c t =
      record { others = t.rest; same = t.same; moves = thrown_moves w x (behind_rest w.code.now purpose (Rejected (value_of v))) v out t (throws_out w purpose (value_of v) c) }
  throw_given w x purpose v (Err (stops.Limit limit)) c t = absurd t
  throw_given w x purpose v (Err stops.Memory) c t = tt

  -- ---- behind an await

  module _ (agrees : SharedSetAgrees) (ended : SharedSetEnds) (lawful : ImportsAreLawful modules linked fits begins) where
    some : BeginsSome modules linked fits begins
    some = lawful_some modules linked fits begins agrees ended lawful

    one : BeginsOne begins
    one = lawful_one modules linked fits begins agrees ended lawful

    abbrev With : Inside I → Activation → Inside I
    With w n = with_code w n

    module _ (w : Inside I) (n : Activation) (rest : Rest CodeValue) (awaits : Bool) (f : Fits w rest awaits) (at : n.at ≡ w.code.now.at) (tree : n.tree ≡ w.code.now.tree) where
      fit_next : (move : RewrittenBody CodeValue Limit) → Chain w rest move → IsFitNext modules linked fits awaits (next_by nat_eq modules begins n.at.0 [] move (state_in seen w))
      fit_next move c =
          subst (λ (a : ModuleId). IsFitNext modules linked fits awaits (next_by nat_eq modules begins a.0 [] move (state_in seen w))) (sym at)
          (fits_next nat_eq modules linked fits begins some one awaits w.code.now.at.0 [] c f.run)

      same_parts : arc_value n.tree ≡ arc_value w.code.now.tree
      same_parts = ap arc_value tree

      tree_next : (modules (seen w.imports.now)).tree n.at.0 ≡ (arc_value n.tree).items
      tree_next = ap (λ (a : ModuleId). (modules (seen w.imports.now)).tree a.0) at ∙ f.belongs.tree ∙ ap (λ (p : Parts). p.items) (sym same_parts)

      sets_next : (move : RewrittenBody CodeValue Limit) → Chain w rest move → SetsMove (IsNameOf (arc_value n.tree).items) move
      sets_next move c = subst (λ (p : Parts). SetsMove (IsNameOf p.items) move) (sym same_parts) (comes_set nat_eq modules begins w.code.now.at.0 (IsNameOf (arc_value w.code.now.tree).items) c f.belongs.sets)

      pub follows_by : (out : Outcome) → MovesOn seen modules begins w rest out n → MayFollow seen modules linked fits begins (With w n) out
      follows_by o.On c = (awaits, record { next = fit_next _ c; known = tt; made = f.made; tree = tree_next; sets = sets_next _ c })
      follows_by o.Done c = absurd c
      follows_by (o.Returns v) c = absurd c
      follows_by (o.Thrown v) c = (awaits, record { next = fit_next _ c; known = tt; made = f.made; tree = tree_next; sets = sets_next _ c })
      follows_by (o.Calls g vs d) c = absurd c
      follows_by (o.Waits v p) c = absurd c

      whole_by : (move : RewrittenBody CodeValue Limit) (how : ends ℕ) (after : State ℕ S) → Chain w rest move → EndsSo nat_eq modules begins (next_by nat_eq modules begins n.at.0 [] move (state_in seen w)) how after
          → Segment nat_eq modules begins (state_in seen w) w.code.now.at.0 rest [] how after
      whole_by move how after c h =
          ends_whole nat_eq modules linked fits begins some one awaits w.code.now.at.0 [] how after c
          (subst (λ (a : ModuleId). EndsSo nat_eq modules begins (next_by nat_eq modules begins a.0 [] move (state_in seen w)) how after) at h)

      pub segment_by : (out : Outcome) (how : ends ℕ) (after : State ℕ S) → MovesOn seen modules begins w rest out n → EndsBehind seen modules linked fits begins (With w n) out how after
          → Segment nat_eq modules begins (state_in seen w) w.code.now.at.0 rest [] how after
      segment_by o.On how after c h = whole_by _ how after c h
      segment_by o.Done how after c h = absurd c
      segment_by (o.Returns v) how after c h = absurd c
      segment_by (o.Thrown v) how after c h = whole_by _ how after c h
      segment_by (o.Calls g vs d) how after c h = absurd c
      segment_by (o.Waits v p) how after c h = absurd c

    abbrev Came : Inside I → Rest CodeValue → Outcome → Inside I → Type 0
    Came w rest out x = CameTo seen modules begins w rest out x

    pub follows_behind : (w x : Inside I) (rest : Rest CodeValue) (out : Outcome) → May w rest → Came w rest out x → MayFollow seen modules linked fits begins x out
    follows_behind w x rest out f c = subst (λ z. MayFollow seen modules linked fits begins z out) (sym c.others) (follows_by w x.code.now rest f.0 f.1 c.same.at c.same.tree out c.moves)

    pub halts_behind : (w x y : Inside I) (rest : Rest CodeValue) (out : Outcome) (end : Ended) → May w rest → Came w rest out x → Ran x out (Ok end) y
        → Halts modules linked begins (state_in seen w) w.code.now rest (halt end y.code.now) (state_in seen y) (scopes_of y.envs.now)
    halts_behind w x y rest out end f c h =
        let h' : Ran (With w x.code.now) out (Ok end) y = subst (λ z. Ran z out (Ok end) y) c.others h in
        record {
          runs = segment_by w x.code.now rest f.0 f.1 c.same.at c.same.tree out (ended_of end y.code.now) (state_in seen y) c.moves h'.0;
          at = h'.1.body ∙ c.same.at;
          code = h'.1.code;
          ended = h'.1.ended;
          belongs = h'.1.belongs;
          made = h'.1.keeps.made;
          trees = h'.1.keeps.trees;
        }

    pub stands_behind : (w x y : Inside I) (rest : Rest CodeValue) (out : Outcome) (end : Ended) → Came w rest out x → Ran x out (Ok end) y → y.engine.now.standing ≡ w.engine.now.standing
    stands_behind w x y rest out end c h =
        let h' : Ran (With w x.code.now) out (Ok end) y = subst (λ z. Ran z out (Ok end) y) c.others h in
        h'.1.keeps.loans.standing

    pub scopes_behind : (w x y : Inside I) (rest : Rest CodeValue) (out : Outcome) (end : Ended) → Came w rest out x → Ran x out (Ok end) y
        → HaveSameScopes (scopes_of w.envs.now) (scopes_of y.envs.now)
    scopes_behind w x y rest out end c h =
        let h' : Ran (With w x.code.now) out (Ok end) y = subst (λ z. Ran z out (Ok end) y) c.others h in
        h'.1.keeps.scopes

    pub stops_behind : (w x y : Inside I) (rest : Rest CodeValue) (out : Outcome) (stop : Stop) → May w rest → Came w rest out x → Ran x out (Err stop) y
        → WentOn modules linked begins (state_in seen w) w.code.now rest (Err stop) (state_in seen y) (scopes_of y.envs.now)
    stops_behind w x y rest out (stops.Limit limit) f c h =
        let h' : Ran (With w x.code.now) out (Err (stops.Limit limit)) y = subst (λ z. Ran z out (Err (stops.Limit limit)) y) c.others h in
        segment_by w x.code.now rest f.0 f.1 c.same.at c.same.tree out (ends.Stopped limit) (state_in seen y) c.moves h'.0
    stops_behind w x y rest out stops.Memory f c h = tt

  -- memory ran out: nothing is said of what is there then
  none_given : (w x : Inside I) (rest : Rest CodeValue) (stop : Stop) (after : State ℕ S) (e : Scopes) → Given w rest (Err stop) x → WentOn modules linked begins (state_in seen w) w.code.now rest (Err stop) after e
  none_given w x rest (stops.Limit limit) after e h = absurd h
  none_given w x rest stops.Memory after e h = tt

  pub not_given : (w x : Inside I) (rest : Rest CodeValue) (r : Result Outcome Stop) (stop : Stop) (after : State ℕ S) (e : Scopes) → May w rest → Given w rest r x → r ≡ Err stop
      → WentOn modules linked begins (state_in seen w) w.code.now rest (Err stop) after e
  not_given w x rest r stop after e f h is = none_given w x rest stop after e (subst (λ r. Given w rest r x) is h)
