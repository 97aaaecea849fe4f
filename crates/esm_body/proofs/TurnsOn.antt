-- One turn and what follows it: a segment of what is left is one of the whole, and less is left.
use Rattle.std.proofs.Common.{◌≡◌, ℕ, nat_eq, suc, ◌<◌, ◌≤◌, Bool, true, List, [], ◌∷◌, Option, Some, None, refl, ap, subst, sym, ◌∙◌, arith}
use Rattle.std.specs.Prelude.{Result, Ok, Err}
use Rattle.std.specs.Arc.{arc_value}
use Rattle.esm_base.specs.declared.limits.Limit.{Limit}
use Rattle.esm_base.specs.declared.limits.TheConstants.{MAX_STEPS}
use Rattle.esm_base.specs.declared.module_id.ModuleId.{ModuleId}
use Rattle.esm_tree.specs.Syntax.{Item}
use Rattle.esm_env.specs.Declarations.{function_at}
use Rattle.esm_values.specs.Value.{Namespace}
use Rattle.esm_values.specs.Code.{CodeValue}
use Rattle.esm_values.specs.Plans.{Rewritten as comes}
use Rattle.esm_expr_eval.proofs.Lands.{AllKnown as AllLanded}
use Rattle.esm_promise.specs.Outer.{Outer}
use Rattle.esm_env.specs.Modules.{Modules}
use Rattle.esm_env.specs.OwnNames.{own_names}
use Rattle.esm_rows.specs.Functions.{IsRow}
use Rattle.esm_rewriting.specs.Rest.{Rest, end}
use Rattle.esm_rewriting.specs.State.{State, Importing}
use Rattle.esm_rewriting.specs.BodyRewriting.{RewrittenBody, On, Gives, Waits}
use Rattle.esm_rewriting.specs.Segment.{Segment, next_by}
use Rattle.esm_rewriting.specs.Segment.{Ended as ended}
use Rattle.esm_rewriting.specs.Segment.{Segment as segment}
use Rattle.esm_rewriting.specs.Fits.{of_body}
use Rattle.esm_rewriting.specs.Chains.{Turns as Rewritings, EndsSo, IsFitNext}
use Rattle.esm_rewriting.specs.Sets.{IsNameOf, SetsRest, SetsMove}
use Rattle.esm_row_machine.specs.Outside.{AllKnown}
use Rattle.esm_row_machine.specs.Tables.{row_in}
use Rattle.esm_row_machine.specs.declared.rows.Rows.{Rows}
use Rattle.esm_body.specs.Inner.Running.{place_rest, HasRows, Running, MayRun, next_after, EndsBehind, SegmentOf, LinksStay, Passes, KnowsCall, FollowsFit, MayFollow, Followed, Turns, Went, ended_of}
use Rattle.esm_body.specs.Inner.Turn.{MayTurn, Moved, Came, Turned, TreesStay, move_of}
use Rattle.esm_body.specs.Inner.World.{state_in}
use Rattle.esm_body.specs.declared.inside.Inside.{Inside}
use Rattle.esm_rewriting.specs.declared.stop.Stop.{Stop}
use Rattle.esm_rewriting.specs.declared.stop.Stop.TheVariants as stops
use Rattle.esm_body.specs.declared.segment.Next.{Next as CodeNext}
use Rattle.esm_body.specs.declared.segment.Next.TheVariants as n
use Rattle.esm_body.specs.declared.segment.Place.{Place}
use Rattle.esm_body.specs.declared.turn.Outcome.{Outcome}
use Rattle.esm_body.specs.declared.turn.Outcome.TheVariants as o
use Rattle.esm_rewriting.proofs.DeclaredLemmas.{turns_set}
use Rattle.esm_rewriting.proofs.Follows.{fits_next, ends_whole}
use Rattle.esm_rewriting.proofs.Lighter.{Advances}
use Rattle.esm_rewriting.proofs.OneAct.{BeginsOne}
use Rattle.esm_rewriting.proofs.SomeAct.{BeginsSome, Took}
use Rattle.esm_rewriting.proofs.SomeSegment.{measure}
use Rattle.esm_rewriting.proofs.Turning.{Lands, comes_of, turns_land}
use Rattle.esm_body.proofs.TurnParts.{keeps_both}

apart : {A : Type 0} {o : Option A} {x : A} → o ≡ None → o ≡ Some x → ⊥
apart a b = cc

all_known : (K : CodeValue → Type 0) (vs : List CodeValue) → AllLanded K vs → AllKnown K vs
all_known K [] h = tt
all_known K (v ∷ vs) h = (h.0, all_known K vs h.1)

-- what is left
abbrev pub left : Rest CodeValue → ℕ
left rest = measure {N = ℕ} rest []

module _ {I S : Type 0} (seen : I → S) (modules : S → Modules ℕ) (linked : S → ℕ → Bool) (fits : Outer ℕ S → Type 0) (begins : Importing ℕ S) where
  abbrev At : Inside I → State ℕ S
  At w = state_in seen w

  abbrev Fit : Inside I → Bool → Outcome → Type 0
  Fit w awaits out = FollowsFit seen modules linked fits begins w awaits out

  abbrev Runs : Inside I → Bool → Rest CodeValue → Type 0
  Runs w awaits rest = Running seen modules linked fits begins w awaits rest

  abbrev Came' : Inside I → Rest CodeValue → Outcome → Inside I → Type 0
  Came' w rest out mid = Came seen modules linked fits begins w rest out mid

  abbrev Links : Inside I → Inside I → Type 0
  Links w mid = LinksStay seen modules linked fits begins w mid

  abbrev Ends : Inside I → Outcome → ended ℕ → State ℕ S → Type 0
  Ends w out how after = EndsBehind seen modules linked fits begins w out how after

  abbrev Whole : Inside I → Rest CodeValue → ended ℕ → State ℕ S → Type 0
  Whole w rest how after = SegmentOf seen modules linked fits begins w rest how after

  pub may_turn : (w : Inside I) (rest : Rest CodeValue) → MayRun seen modules linked fits begins w rest → MayTurn seen modules linked fits begins w rest
  may_turn w rest f =
      (of_body f.0, record { state = f.1.run.state; home = f.1.run.home; holds = f.1.run.holds; made = f.1.made; tree = f.1.belongs.tree; sets = f.1.belongs.sets })

  -- rows stay those of functions
  pub rows_stay : (w after : Inside I) (rows : Rows) → TreesStay seen modules linked fits begins w after → Links w after → HasRows seen modules linked fits begins w rows → HasRows seen modules linked fits begins after rows
  rows_stay w after rows trees links has m k row there =
      let h = has m k row there in
      (links m h.0, (h.1.0, ap (λ items. function_at items k) (trees m h.0) ∙ h.1.1, subst (λ items. IsRow (own_names items) h.1.0 row) (sym (trees m h.0)) h.1.2))

  -- none was made
  pub no_rows : (w : Inside I) (rows : Rows) → ((m k : ℕ) → row_in rows m k ≡ None) → HasRows seen modules linked fits begins w rows
  no_rows w rows none m k row there = absurd (apart (none m k) there)

  moved_sets : (w mid : Inside I) (rest : Rest CodeValue) (out : Outcome) (Has : List ℕ → Type 0) → Moved seen modules linked fits begins w rest out mid → SetsRest Has rest → SetsMove Has (move_of out mid.code.now)
  moved_sets w mid rest o.On Has h g = turns_set nat_eq modules begins w.code.now.at.0 Has h g
  moved_sets w mid rest o.Done Has h g = tt
  moved_sets w mid rest (o.Returns v) Has h g = tt
  moved_sets w mid rest (o.Thrown v) Has h g = tt
  moved_sets w mid rest (o.Calls f vs d) Has h g = turns_set nat_eq modules begins w.code.now.at.0 Has h g
  moved_sets w mid rest (o.Waits v u) Has h g = turns_set nat_eq modules begins w.code.now.at.0 Has h g

  -- a limit that a turn passes ends all
  halts_whole : (m : ℕ) (w : State ℕ S) (rest : Rest CodeValue) (limit : Limit) (mid : State ℕ S) → Rewritings nat_eq modules begins m w rest (On (comes.Stops limit)) mid → Segment nat_eq modules begins w m rest [] (ended.Stopped limit) mid
  halts_whole m w rest limit mid (Rewritings.only d) = segment.over (On (comes.Stops limit)) d refl
  halts_whole m w rest limit mid (Rewritings.behind {s = s} d t) = segment.goes (On (comes.Goes s)) d refl (halts_whole m _ s limit mid t)

  pub halted_went : (w mid : Inside I) (rest : Rest CodeValue) (stop : Stop) → Turned seen modules linked fits begins w rest (Err stop) mid → Went seen modules linked fits begins w rest (Err stop) mid
  halted_went w mid rest (stops.Limit limit) h = (halts_whole w.code.now.at.0 (At w) rest limit (At mid) h.turns, h.keeps)
  halted_went w mid rest stops.Memory h = tt

  -- ---- where import() has one outcome that keeps what fits

  module _ (some : BeginsSome modules linked fits begins) (one : BeginsOne begins) where
    abbrev Landed : ℕ → Bool → State ℕ S → Rest CodeValue → RewrittenBody CodeValue Limit → State ℕ S → Type 0
    Landed m awaits w rest move mid = Lands nat_eq modules linked fits begins some one m (of_body awaits) w rest move mid

    landed : (w mid : Inside I) (awaits : Bool) (rest : Rest CodeValue) (move : RewrittenBody CodeValue Limit) → Runs w awaits rest → Rewritings nat_eq modules begins w.code.now.at.0 (At w) rest move (At mid) → Landed w.code.now.at.0 awaits (At w) rest move (At mid)
    landed w mid awaits rest move r t = turns_land nat_eq modules linked fits begins some one w.code.now.at.0 (of_body awaits) t r.run.state r.run.home r.run.holds

    links_land : (m : ℕ) (awaits : Bool) (w mid : State ℕ S) (rest : Rest CodeValue) (move : RewrittenBody CodeValue Limit) → Landed m awaits w rest move mid → (x : ℕ) → linked w.outer.imports x ≡ true → linked mid.outer.imports x ≡ true
    links_land m awaits w mid rest (On (comes.Goes s)) (k, (l, h)) x q = l.keeps (Namespace x) q
    links_land m awaits w mid rest (On (comes.Leaves v)) (k, (l, h)) x q = l.keeps (Namespace x) q
    links_land m awaits w mid rest (On (comes.Calls f vs s)) (k, (l, h)) x q = l.keeps (Namespace x) q
    links_land m awaits w mid rest (On (comes.Stops why)) h x q = h.keeps (Namespace x) q
    links_land m awaits w mid rest (Gives v) (a, (k, (l, h))) x q = l.keeps (Namespace x) q
    links_land m awaits w mid rest (Waits v s) (a, (k, (l, h))) x q = l.keeps (Namespace x) q

    turns_link : (w mid : Inside I) (awaits : Bool) (rest : Rest CodeValue) (move : RewrittenBody CodeValue Limit) → Runs w awaits rest → Rewritings nat_eq modules begins w.code.now.at.0 (At w) rest move (At mid) → Links w mid
    turns_link w mid awaits rest move r t x q = links_land w.code.now.at.0 awaits (At w) (At mid) rest move (landed w mid awaits rest move r t) x q

    moved_links : (w mid : Inside I) (awaits : Bool) (rest : Rest CodeValue) (out : Outcome) → Runs w awaits rest → Moved seen modules linked fits begins w rest out mid → Links w mid
    moved_links w mid awaits rest o.On r h x q = turns_link w mid awaits rest (move_of o.On mid.code.now) r h x q
    moved_links w mid awaits rest o.Done r h x q = ap (λ (s : State ℕ S). linked s.outer.imports x) h.1 ∙ q
    moved_links w mid awaits rest (o.Returns v) r h x q = turns_link w mid awaits rest (move_of (o.Returns v) mid.code.now) r h x q
    moved_links w mid awaits rest (o.Thrown v) r h x q = turns_link w mid awaits rest (move_of (o.Thrown v) mid.code.now) r h x q
    moved_links w mid awaits rest (o.Calls f vs d) r h x q = turns_link w mid awaits rest (move_of (o.Calls f vs d) mid.code.now) r h x q
    moved_links w mid awaits rest (o.Waits v u) r h x q = turns_link w mid awaits rest (move_of (o.Waits v u) mid.code.now) r h x q

    -- ---- what follows a turn fits

    next_fits : (w mid : Inside I) (awaits : Bool) (rest : Rest CodeValue) (move : RewrittenBody CodeValue Limit) → mid.code.now.at ≡ w.code.now.at → Runs w awaits rest → Rewritings nat_eq modules begins w.code.now.at.0 (At w) rest move (At mid)
        → IsFitNext modules linked fits awaits (next_by nat_eq modules begins mid.code.now.at.0 [] move (At mid))
    next_fits w mid awaits rest move at r t =
        subst (λ (m : ModuleId). IsFitNext modules linked fits awaits (next_by nat_eq modules begins m.0 [] move (At mid))) (sym at)
        (fits_next nat_eq modules linked fits begins some one awaits w.code.now.at.0 [] (comes_of nat_eq modules begins t) r.run)

    moved_fits : (w mid : Inside I) (awaits : Bool) (rest : Rest CodeValue) (out : Outcome) → mid.code.now.at ≡ w.code.now.at → Runs w awaits rest → Moved seen modules linked fits begins w rest out mid → IsFitNext modules linked fits awaits (next_after seen modules linked fits begins mid out)
    moved_fits w mid awaits rest o.On at r h = next_fits w mid awaits rest (move_of o.On mid.code.now) at r h
    moved_fits w mid awaits rest o.Done at r h = subst (λ s. IsFitNext modules linked fits awaits (Some (Rattle.esm_rewriting.specs.Segment.Over ended.Normal s))) (sym h.1) r.run.state
    moved_fits w mid awaits rest (o.Returns v) at r h = next_fits w mid awaits rest (move_of (o.Returns v) mid.code.now) at r h
    moved_fits w mid awaits rest (o.Thrown v) at r h = next_fits w mid awaits rest (move_of (o.Thrown v) mid.code.now) at r h
    moved_fits w mid awaits rest (o.Calls f vs d) at r h = next_fits w mid awaits rest (move_of (o.Calls f vs d) mid.code.now) at r h
    moved_fits w mid awaits rest (o.Waits v u) at r h = next_fits w mid awaits rest (move_of (o.Waits v u) mid.code.now) at r h

    -- what is called is known
    moved_knows : (w mid : Inside I) (awaits : Bool) (rest : Rest CodeValue) (out : Outcome) → Runs w awaits rest → Moved seen modules linked fits begins w rest out mid → KnowsCall seen modules linked fits begins mid out
    moved_knows w mid awaits rest o.On r h = tt
    moved_knows w mid awaits rest o.Done r h = tt
    moved_knows w mid awaits rest (o.Returns v) r h = tt
    moved_knows w mid awaits rest (o.Thrown v) r h = tt
    moved_knows w mid awaits rest (o.Calls f vs d) r h =
        let l = landed w mid awaits rest (move_of (o.Calls f vs d) mid.code.now) r h in
        (l.1.1.1.0, all_known (Rattle.esm_rewriting.specs.Fits.Knows modules linked (seen mid.imports.now)) (Rattle.esm_values.specs.Code.values_of vs.items) l.1.1.1.1.0)
    moved_knows w mid awaits rest (o.Waits v u) r h = tt

    pub follows_fit : (w mid : Inside I) (awaits : Bool) (rest : Rest CodeValue) (out : Outcome) → Runs w awaits rest → Came' w rest out mid → Fit mid awaits out
    follows_fit w mid awaits rest out r h =
        let items : (arc_value mid.code.now.tree).items ≡ (arc_value w.code.now.tree).items = rw h.same.tree refl in
        record {
          next = moved_fits w mid awaits rest out h.same.at r h.moved;
          known = moved_knows w mid awaits rest out r h.moved;
          made = h.keeps.made;
          tree = rw (h.same.at, h.same.tree) (h.keeps.trees w.code.now.at.0 r.run.home ∙ r.belongs.tree);
          sets = subst (λ (xs : List Item). SetsMove (IsNameOf xs) (move_of out mid.code.now)) (sym items) (moved_sets w mid rest out (IsNameOf (arc_value w.code.now.tree).items) h.moved r.belongs.sets);
        }

    -- what follows a turn may follow
    pub may_follow : (w mid : Inside I) (rest : Rest CodeValue) (out : Outcome) → MayRun seen modules linked fits begins w rest → Came' w rest out mid → MayFollow seen modules linked fits begins mid out
    may_follow w mid rest out f h = (f.0, follows_fit w mid f.0 rest out f.1 h)

    -- and the rows are there still
    pub rows_behind : (w mid : Inside I) (rest : Rest CodeValue) (out : Outcome) (rows : Rows) → MayRun seen modules linked fits begins w rest → Came' w rest out mid → HasRows seen modules linked fits begins w rows → HasRows seen modules linked fits begins mid rows
    rows_behind w mid rest out rows f h has = rows_stay w mid rows h.keeps.trees (moved_links w mid f.0 rest out f.1 h.moved) has

    -- ---- a segment of what follows is one of the whole

    turns_end : (w mid : Inside I) (awaits : Bool) (rest : Rest CodeValue) (move : RewrittenBody CodeValue Limit) (how : ended ℕ) (after : State ℕ S) → mid.code.now.at ≡ w.code.now.at → Rewritings nat_eq modules begins w.code.now.at.0 (At w) rest move (At mid)
        → EndsSo nat_eq modules begins (next_by nat_eq modules begins mid.code.now.at.0 [] move (At mid)) how after → Whole w rest how after
    turns_end w mid awaits rest move how after at t h =
        ends_whole nat_eq modules linked fits begins some one awaits w.code.now.at.0 [] how after (comes_of nat_eq modules begins t)
        (subst (λ (m : ModuleId). EndsSo nat_eq modules begins (next_by nat_eq modules begins m.0 [] move (At mid)) how after) at h)

    moved_ends : (w mid : Inside I) (awaits : Bool) (rest : Rest CodeValue) (out : Outcome) (how : ended ℕ) (after : State ℕ S) → mid.code.now.at ≡ w.code.now.at → Moved seen modules linked fits begins w rest out mid → Ends mid out how after → Whole w rest how after
    moved_ends w mid awaits rest o.On how after at h e = turns_end w mid awaits rest (move_of o.On mid.code.now) how after at h e
    moved_ends w mid awaits rest o.Done how after at h e =
        subst (λ r. Segment nat_eq modules begins (At w) w.code.now.at.0 r [] how after) (sym h.0)
        (subst (λ s. Segment nat_eq modules begins (At w) w.code.now.at.0 end [] how s) (sym (e.1 ∙ h.1))
        (subst (λ how. Segment nat_eq modules begins (At w) w.code.now.at.0 end [] how (At w)) (sym e.0) segment.ends))
    moved_ends w mid awaits rest (o.Returns v) how after at h e = turns_end w mid awaits rest (move_of (o.Returns v) mid.code.now) how after at h e
    moved_ends w mid awaits rest (o.Thrown v) how after at h e = turns_end w mid awaits rest (move_of (o.Thrown v) mid.code.now) how after at h e
    moved_ends w mid awaits rest (o.Calls f vs d) how after at h e = turns_end w mid awaits rest (move_of (o.Calls f vs d) mid.code.now) how after at h e
    moved_ends w mid awaits rest (o.Waits v u) how after at h e = turns_end w mid awaits rest (move_of (o.Waits v u) mid.code.now) how after at h e

    pub went : (w mid after : Inside I) (rest : Rest CodeValue) (out : Outcome) (r : Result CodeNext Stop) → MayRun seen modules linked fits begins w rest → Came' w rest out mid → Followed seen modules linked fits begins mid out r after
        → Went seen modules linked fits begins w rest r after
    went w mid after rest out (Ok (n.Goes spot)) f h k =
        let links = moved_links w mid f.0 rest out f.1 h.moved in (
          λ how end s. moved_ends w mid f.0 rest out how end h.same.at h.moved (k.0 how end s),
          (mid, (out, (h, k.1))),
          record {
            code = k.2.code;
            place = k.2.place;
            run = k.2.run;
            keeps = keeps_both seen modules linked fits begins h.keeps k.2.keeps links;
            links = λ x q. k.2.links x (links x q);
            body = k.2.body ∙ h.same.at;
          },
        )
    went w mid after rest out (Ok (n.Over how)) f h k = (
      moved_ends w mid f.0 rest out (ended_of how after.code.now) (At after) h.same.at h.moved k.0,
      record {
        code = k.1.code;
        ended = k.1.ended;
        belongs = k.1.belongs;
        keeps = keeps_both seen modules linked fits begins h.keeps k.1.keeps (moved_links w mid f.0 rest out f.1 h.moved);
        body = k.1.body ∙ h.same.at;
      },
    )
    went w mid after rest out (Err (stops.Limit limit)) f h k = (
      moved_ends w mid f.0 rest out (ended.Stopped limit) (At after) h.same.at h.moved k.0,
      keeps_both seen modules linked fits begins h.keeps k.1 (moved_links w mid f.0 rest out f.1 h.moved),
    )
    went w mid after rest out (Err stops.Memory) f h k = tt

    -- ---- and less is left

    advanced : (w late : State ℕ S) (n before after : ℕ) → Took w n late → (n ≡ 0 → after < before) → Advances w late before after
    advanced w late n before after t h = record {
      more = let s = t.steps in omega (arith, s);
      bound = λ l. t.bound (let s = t.steps in omega (arith, s, l));
      less = λ e. h (let s = t.steps in omega (arith, s, e));
    }

    -- a call has taken a step, and gives none back
    called : (w mid late : State ℕ S) (n before after : ℕ) → Took w (suc n) mid → mid.engine.steps ≤ late.engine.steps → (mid.engine.steps ≤ MAX_STEPS → late.engine.steps ≤ MAX_STEPS) → Advances w late before after
    called w mid late n before after t more bound = record {
      more = let s = t.steps in omega (arith, s, more);
      bound = λ l. bound (t.bound (omega arith));
      less = λ e. absurd (let s = t.steps in omega (arith, s, e, more));
    }

    passed : (w mid after : Inside I) (awaits : Bool) (rest : Rest CodeValue) (out : Outcome) (spot : Place) → Runs w awaits rest → Moved seen modules linked fits begins w rest out mid → Passes seen modules linked fits begins mid out spot after
        → Advances (At w) (At after) (left rest) (left (place_rest after.code.now spot))
    passed w mid after awaits rest o.On spot r h (turns, same) =
        let l = landed w mid awaits rest (move_of o.On mid.code.now) r h in
        subst (λ (x : Inside I). Advances (At w) (At x) (left rest) (left (place_rest x.code.now spot))) (sym same)
        (subst (λ spot. Advances (At w) (At mid) (left rest) (left (place_rest mid.code.now spot))) (sym turns)
        (advanced (At w) (At mid) l.0 _ _ l.1.0.took (λ z. let x = l.1.1.1 z in omega (arith, x))))
    passed w mid after awaits rest o.Done spot r h k = absurd k
    passed w mid after awaits rest (o.Returns v) spot r h k = absurd k
    passed w mid after awaits rest (o.Thrown v) spot r h k = absurd k
    passed w mid after awaits rest (o.Calls f vs d) spot r h (more, bound) =
        let l = landed w mid awaits rest (move_of (o.Calls f vs d) mid.code.now) r h in
        called (At w) (At mid) (At after) l.0 _ _ l.1.0.took more bound
    passed w mid after awaits rest (o.Waits v u) spot r h k = absurd k

    pub advances : (w after : Inside I) (rest : Rest CodeValue) (spot : Place) → MayRun seen modules linked fits begins w rest → Turns seen modules linked fits begins w rest spot after → Advances (At w) (At after) (left rest) (left (place_rest after.code.now spot))
    advances w after rest spot f (mid, (out, (h, k))) = passed w mid after f.0 rest out spot f.1 h.moved k
