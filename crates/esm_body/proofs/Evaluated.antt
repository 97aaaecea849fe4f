-- Where the evaluation of a statement's expression leads, of the whole.
use Rattle.std.proofs.Common.{◌≡◌, ℕ, nat_eq, Bool, true, List, [], ◌∷◌, refl, ap, subst, sym, ◌∙◌}
use Rattle.std.specs.Prelude.{Result, Ok, Err}
use Rattle.std.specs.Arc.{arc_value}
use Rattle.esm_base.specs.declared.limits.Limit.{Limit}
use Rattle.esm_values.specs.Value.{Namespace}
use Rattle.esm_values.specs.Code.{CodeValue, numbered}
use Rattle.esm_values.specs.Plans.{Rewritten as comes}
use Rattle.esm_expr_eval.specs.Ends.{TermEnd, Leads}
use Rattle.esm_expr_eval.specs.Ends.{TermEnd as ends}
use Rattle.esm_expr_eval.specs.Terms.{Term}
use Rattle.esm_expr_eval.specs.Terms.Term.{Val}
use Rattle.esm_promise.specs.Outer.{Outer}
use Rattle.esm_env.specs.Modules.{Modules}
use Rattle.esm_rewriting.specs.Rest.{Part, Rest, Use, end, more}
use Rattle.esm_rewriting.specs.Rest.{Part as parts}
use Rattle.esm_rewriting.specs.State.{State, Importing}
use Rattle.esm_rewriting.specs.Acts.{Inner}
use Rattle.esm_rewriting.specs.BodyRewriting.{RewrittenBody, On, RewritesBody}
use Rattle.esm_rewriting.specs.BodyRewriting.{RewritesBody as rule}
use Rattle.esm_rewriting.specs.Segment.{RewritesOutermost}
use Rattle.esm_rewriting.specs.Fits.{Kind}
use Rattle.esm_rewriting.specs.Chains.{Comes, here, later, Turns, only, behind}
use Rattle.esm_rewriting.specs.Contexts.{Context, Block, Trying, scopes_in, surrounded, caught_in}
use Rattle.esm_rewriting.specs.Sets.{IsNameOf, SetsRest}
use Rattle.esm_body.specs.Code.{innermost, in_front_of}
use Rattle.esm_body.specs.Inner.World.{state_in, inner_of, HasScopes, IsSame, ActsInside, url_inside}
use Rattle.esm_body.specs.Inner.Turn.{code_contexts, IsReadyFor, Moved, Turned}
use Rattle.esm_rewriting.specs.declared.stop.Stop.{Stop}
use Rattle.esm_rewriting.specs.declared.stop.Stop.TheVariants as stops
use Rattle.esm_body.specs.declared.inside.Inside.{Inside}
use Rattle.esm_body.specs.declared.turn.Outcome.{Outcome}
use Rattle.esm_body.specs.declared.turn.Outcome.TheVariants as o
use Rattle.esm_body.specs.declared.work.Activation.{Activation}
use Rattle.esm_body.proofs.CaughtLemmas.{thrown_is}
use Rattle.esm_rewriting.proofs.DeclaredLemmas.{comes_set}
use Rattle.esm_body.proofs.Led.{Two, value, goes, throws, calls, stopped, Led, led, same_itself}
use Rattle.esm_rewriting.proofs.OneAct.{BeginsOne}
use Rattle.esm_body.proofs.Paths.{scopes_are}
use Rattle.esm_rewriting.proofs.Paths.{outer_goes, outer_calls, outer_stops, outer_throws}
use Rattle.esm_rewriting.proofs.SomeAct.{BeginsSome}
use Rattle.esm_body.proofs.TurnParts.{keeps_same, keeps_both, part_held, scopes_held}
use Rattle.esm_rewriting.proofs.Turning.{then_turns, Onward, came_onward}

pub no_end : (cs : List (Context CodeValue)) (p : Part CodeValue) (r : Rest CodeValue) → surrounded cs (more p r) ≡ end → ⊥
no_end [] p r e = cc
no_end (Block scope rest ∷ cs) p r e = no_end cs _ _ e
no_end (Trying scope x handler rest ∷ cs) p r e = no_end cs _ _ e

module _ {I S : Type 0} (seen : I → S) (modules : S → Modules ℕ) (linked : S → ℕ → Bool) (fits : Outer ℕ S → Type 0) (begins : Importing ℕ S) (some : BeginsSome modules linked fits begins) (one : BeginsOne begins) (w : Inside I) where
  abbrev W : Type 0
  W = State ℕ S

  abbrev m : ℕ
  m = w.code.now.at.0

  abbrev Ready : Inside I → Kind → Rest CodeValue → Type 0
  Ready y k r = IsReadyFor seen modules linked fits begins y k r

  abbrev Chain : W → Rest CodeValue → RewrittenBody CodeValue Limit → W → Type 0
  Chain = Comes nat_eq modules begins m

  abbrev Turn : W → Rest CodeValue → RewrittenBody CodeValue Limit → W → Type 0
  Turn = Turns nat_eq modules begins m

  module _ (cs : List (Context CodeValue)) (purpose : Use) (rest : Rest CodeValue) where
    -- an end of an evaluation, of the whole
    abbrev pub Reaches : W → Rest CodeValue → TermEnd CodeValue Limit → W → Type 0
    Reaches a r (ends.Value v) late = Chain a r (On (comes.Goes (surrounded cs (more (parts.Does purpose (Val v)) rest)))) late
    Reaches a r (ends.Thrown v) late = Turn a r (caught_in cs v) late
    Reaches a r (ends.Call f vs t) late = Turn a r (On (comes.Calls f vs (surrounded cs (more (parts.Does purpose t) rest)))) late
    Reaches a r (ends.Stopped why) late = Turn a r (On (comes.Stops why)) late

    before : (a mid late : W) (r s : Rest CodeValue) (e : TermEnd CodeValue Limit) → RewritesOutermost nat_eq modules begins m a r (On (comes.Goes s)) mid → Reaches mid s e late → Reaches a r e late
    before a mid late r s (ends.Value v) d h = later d h
    before a mid late r s (ends.Thrown v) d h = behind d h
    before a mid late r s (ends.Call f vs t) d h = behind d h
    before a mid late r s (ends.Stopped why) d h = behind d h

    abbrev Does : Term CodeValue → Rest CodeValue
    Does t = surrounded cs (more (parts.Does purpose t) rest)

    rescoped : (u after : Inner ℕ S) (t : Term CodeValue) (move : RewrittenBody CodeValue Limit) → u.scopes ≡ scopes_in cs → RewritesBody nat_eq modules begins m u (more (parts.Does purpose t) rest) move after
        → RewritesBody nat_eq modules begins m (record { scopes = scopes_in cs; state = u.state }) (more (parts.Does purpose t) rest) move after
    rescoped u after t move s d = subst (λ ss. RewritesBody nat_eq modules begins m (record { scopes = ss; state = u.state }) (more (parts.Does purpose t) rest) move after) s d

    pub reaches : {u after : Inner ℕ S} {t : Term CodeValue} {e : TermEnd CodeValue Limit} → Two seen modules linked fits begins some one w u t e after → u.scopes ≡ scopes_in cs → Reaches u.state (Does t) e after.state
    reaches value s = here
    reaches {u = u} {after = after} {e = e} (goes {mid = mid} {t = t} {rest = t'} r k more') s =
        before u.state mid.state after.state (Does t) (Does t') e (outer_goes nat_eq modules begins m cs u.state _ _ mid (k ∙ s) (rescoped u mid t _ s (rule.does r))) (reaches more' (k ∙ s))
    reaches {u = u} {after = after} (throws {t = t} {v = v} r k) s =
        only (subst (λ move. RewritesOutermost nat_eq modules begins m u.state (Does t) move after.state) (thrown_is nat_eq modules begins m cs v)
        (outer_throws nat_eq modules begins m cs u.state _ v after (k ∙ s) (rescoped u after t _ s (rule.does r))))
    reaches {u = u} {after = after} (calls {t = t} {rest = t'} {f = f} {vs = vs} r k) s = only (outer_calls nat_eq modules begins m cs u.state _ _ f vs after (k ∙ s) (rescoped u after t _ s (rule.does r)))
    reaches {u = u} {after = after} (stopped {t = t} {why = why} r k) s = only (outer_stops nat_eq modules begins m cs u.state _ why after (k ∙ s) (rescoped u after t _ s (rule.does r)))

  -- ---- the expression of a statement

  abbrev inner_rest : Rest CodeValue
  inner_rest = innermost (arc_value w.code.now.tree).stmts w.code.now.levels.items

  module _ (urls : I → ℕ → List ℕ) (shows : (o : Outer ℕ S) (i : I) (n : ℕ) → fits (record o { imports = seen i }) → linked (seen i) n ≡ true → urls i n ≡ (modules (seen i)).url n) (k : Kind) (purpose : Use) (t : Term CodeValue) (r : Ready w k (in_front_of w.code.now (parts.Does purpose t))) where
    abbrev Evaluates : TermEnd CodeValue Stop → Inside I → Type 0
    Evaluates e y = Leads numbered (url_inside urls) (ActsInside seen modules linked fits begins) w t e y

    pub evaluated : (y : Inside I) (e : TermEnd CodeValue Stop) → Evaluates e y → Led seen modules linked fits begins some one w (inner_of seen w) t e y
    evaluated y e h =
        led seen modules linked fits begins some one w urls shows h (inner_of seen w) (record { same = same_itself w; made = r.made; state = refl })
        (record { state = r.state; scopes = scopes_held seen modules linked fits begins w k (parts.Does purpose t) r; home = r.home })
        (part_held seen modules linked fits begins w k (parts.Does purpose t) r).1

    scopes_there : (inner_of seen w).scopes ≡ scopes_in (code_contexts w.code.now)
    scopes_there = sym (scopes_are (arc_value w.code.now.tree).stmts w.code.now.levels.items)

    pub record Reached (e : TermEnd CodeValue Limit) (y : Inside I) : Type 0 where
      pub leads : Reaches (code_contexts w.code.now) purpose inner_rest (state_in seen w) (in_front_of w.code.now (parts.Does purpose t)) e (state_in seen y)
      pub same : IsSame w y
      pub made : HasScopes seen modules linked fits begins y

    reached : (e : TermEnd CodeValue Limit) (y : Inside I) → Two seen modules linked fits begins some one w (inner_of seen w) t e (inner_of seen y) × (IsSame w y × HasScopes seen modules linked fits begins y) → Reached e y
    reached e y h = record { leads = reaches (code_contexts w.code.now) purpose inner_rest h.0 scopes_there; same = h.1.0; made = h.1.1 }

    pub has_value : (y : Inside I) (v : CodeValue) → Evaluates (ends.Value v) y → Reached (ends.Value v) y
    has_value y v h = reached (ends.Value v) y (evaluated y (ends.Value v) h)

    pub has_thrown : (y : Inside I) (v : CodeValue) → Evaluates (ends.Thrown v) y → Reached (ends.Thrown v) y
    has_thrown y v h = reached (ends.Thrown v) y (evaluated y (ends.Thrown v) h)

    pub has_called : (y : Inside I) (f : CodeValue) (vs : List CodeValue) (s : Term CodeValue) → Evaluates (ends.Call f vs s) y → Reached (ends.Call f vs s) y
    has_called y f vs s h = reached (ends.Call f vs s) y (evaluated y (ends.Call f vs s) h)

    pub has_stopped : (y : Inside I) (limit : Limit) → Evaluates (ends.Stopped (stops.Limit limit)) y → Reached (ends.Stopped limit) y
    has_stopped y limit h = reached (ends.Stopped limit) y (evaluated y (ends.Stopped (stops.Limit limit)) h)

  -- ---- behind a chain of rewritings that go on

  module _ (y : Inside I) (k : Kind) (r s : Rest CodeValue) (ready : Ready w k r) (same : IsSame w y) (made : HasScopes seen modules linked fits begins y) (c : Chain (state_in seen w) r (On (comes.Goes s)) (state_in seen y)) where
    abbrev late : Onward nat_eq modules linked fits begins some one m k (state_in seen w) s (state_in seen y)
    late = came_onward nat_eq modules linked fits begins some one m k c ready.state ready.home ready.holds

    pub ready_behind : Ready y k s
    ready_behind = record {
      state = late.state;
      home = subst (λ (n : Activation). linked (seen y.imports.now) n.at.0 ≡ true) (sym same.now) late.home;
      holds = late.holds;
      made = made;
      tree = subst (λ (n : Activation). (modules (seen y.imports.now)).tree n.at.0 ≡ (arc_value n.tree).items) (sym same.now) ((keeps_same seen modules linked fits begins w y ready.made same made).trees m ready.home ∙ ready.tree);
      sets = subst (λ (n : Activation). SetsRest (IsNameOf (arc_value n.tree).items) s) (sym same.now) (comes_set nat_eq modules begins m (IsNameOf (arc_value w.code.now.tree).items) c ready.sets);
    }

    abbrev Later : Rest CodeValue → RewrittenBody CodeValue Limit → Inside I → Type 0
    Later q move after = Turns nat_eq modules begins y.code.now.at.0 (state_in seen y) q move (state_in seen after)

    turns_behind : (move : RewrittenBody CodeValue Limit) (after : Inside I) → Later s move after → Turn (state_in seen w) r move (state_in seen after)
    turns_behind move after t =
        then_turns nat_eq modules begins c (subst (λ (n : Activation). Turns nat_eq modules begins n.at.0 (state_in seen y) s move (state_in seen after)) same.now t)

    moved_behind : (out : Outcome) (after : Inside I) → (s ≡ end → ⊥) → Moved seen modules linked fits begins y s out after → Moved seen modules linked fits begins w r out after
    moved_behind o.On after n h = turns_behind _ after h
    moved_behind o.Done after n h = absurd (n h.0)
    moved_behind (o.Returns v) after n h = turns_behind _ after h
    moved_behind (o.Thrown v) after n h = turns_behind _ after h
    moved_behind (o.Calls f vs d) after n h = turns_behind _ after h
    moved_behind (o.Waits v p) after n h = turns_behind _ after h

    pub turned_behind : (result : Result Outcome Stop) (after : Inside I) → (s ≡ end → ⊥) → Turned seen modules linked fits begins y s result after → Turned seen modules linked fits begins w r result after
    turned_behind (Ok out) after n h = record {
      moved = moved_behind out after n h.moved;
      same = record { at = h.same.at ∙ ap (λ (a : Activation). a.at) same.now; tree = h.same.tree ∙ ap (λ (a : Activation). a.tree) same.now; code = h.same.code; outcome = h.same.outcome };
      keeps = keeps_both seen modules linked fits begins (keeps_same seen modules linked fits begins w y ready.made same made) h.keeps (λ n l. late.keeps (Namespace n) l);
    }
    turned_behind (Err (stops.Limit limit)) after n h = record {
      turns = turns_behind _ after h.turns;
      keeps = keeps_both seen modules linked fits begins (keeps_same seen modules linked fits begins w y ready.made same made) h.keeps (λ n l. late.keeps (Namespace n) l);
    }
    turned_behind (Err stops.Memory) after n h = tt
