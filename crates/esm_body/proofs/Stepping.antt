-- Turns one after another: up to one that took a step, and over these up to the end.
use Rattle.std.proofs.Common.{◌≡◌, ℕ, ◌-◌, ◌<◌, ◌≤◌, Bool, length, refl, ◌∙◌, arith}
use Rattle.std.specs.Prelude.{Result, Ok, Err}
use Rattle.std.specs.Arc.{arc_value}
use Rattle.esm_base.specs.declared.limits.TheConstants.{MAX_STEPS}
use Rattle.esm_values.specs.Code.{CodeValue}
use Rattle.esm_promise.specs.Outer.{Outer}
use Rattle.esm_env.specs.Modules.{Modules}
use Rattle.esm_rewriting.specs.Rest.{Rest}
use Rattle.esm_rewriting.specs.State.{State, Importing}
use Rattle.esm_rewriting.specs.Segment.{Ended as ended}
use Rattle.esm_rewriting.specs.declared.stop.Stop.{Stop}
use Rattle.esm_rewriting.specs.declared.stop.Stop.TheVariants as stops
use Rattle.esm_rewriting.proofs.Lighter.{Advances}
use Rattle.esm_rewriting.proofs.OneAct.{BeginsOne}
use Rattle.esm_rewriting.proofs.SomeAct.{BeginsSome}
use Rattle.esm_body.specs.Code.{IsCode}
use Rattle.esm_body.specs.Inner.Functions.{steps_of}
use Rattle.esm_body.specs.Inner.Running.{place_rest, ended_of, IsPlace, MayRun, Followed, LeadsOn, GoesOn, IsOver, Went, Stepped, Ran, RanBehind}
use Rattle.esm_body.specs.Inner.World.{state_in}
use Rattle.esm_body.specs.declared.inside.Inside.{Inside}
use Rattle.esm_body.specs.declared.segment.Ended.{Ended}
use Rattle.esm_body.specs.declared.segment.Next.{Next as CodeNext}
use Rattle.esm_body.specs.declared.segment.Next.TheVariants as n
use Rattle.esm_body.specs.declared.segment.Place.{Place}
use Rattle.esm_body.specs.declared.turn.Outcome.{Outcome}
use Rattle.esm_body.proofs.TurnsOn as on
use Rattle.esm_body.proofs.TurnParts.{keeps_itself, keeps_both}

-- what is left of code that goes on here
abbrev pub left_of : {I : Type 0} → Inside I → Place → ℕ
left_of w spot = on.left (place_rest w.code.now spot)

module _ {I S : Type 0} (seen : I → S) (modules : S → Modules ℕ) (linked : S → ℕ → Bool) (fits : Outer ℕ S → Type 0) (begins : Importing ℕ S) where
  abbrev At : Inside I → State ℕ S
  At w = state_in seen w

  abbrev Goes' : Inside I → Place → Inside I → Type 0
  Goes' w spot after = GoesOn seen modules linked fits begins w spot after

  abbrev Leads' : Inside I → Rest CodeValue → Place → Inside I → Type 0
  Leads' w rest spot after = LeadsOn seen modules linked fits begins w rest spot after

  abbrev Over' : Inside I → Ended → Inside I → Type 0
  Over' w how after = IsOver seen modules linked fits begins w how after

  abbrev Went' : Inside I → Place → Result CodeNext Stop → Inside I → Type 0
  Went' w spot r after = Went seen modules linked fits begins w (place_rest w.code.now spot) r after

  abbrev Stepped' : Inside I → Place → Result CodeNext Stop → Inside I → Type 0
  Stepped' w spot r after = Stepped seen modules linked fits begins w (place_rest w.code.now spot) r after

  abbrev Ran' : Inside I → Place → Result Ended Stop → Inside I → Type 0
  Ran' w spot r after = Ran seen modules linked fits begins w (place_rest w.code.now spot) r after

  goes_itself : (w : Inside I) (spot : Place) → IsCode w.code.now → IsPlace (length (arc_value w.code.now.tree).stmts) spot → MayRun seen modules linked fits begins w (place_rest w.code.now spot) → Goes' w spot w
  goes_itself w spot code place run = record {
    code = code;
    place = place;
    run = run;
    keeps = keeps_itself seen modules linked fits begins w run.1.made;
    links = λ m h. h;
    body = refl;
  }

  goes_both : (w mid after : Inside I) (spot next : Place) → Goes' w spot mid → Goes' mid next after → Goes' w next after
  goes_both w mid after spot next a b = record {
    code = b.code;
    place = b.place;
    run = b.run;
    keeps = keeps_both seen modules linked fits begins a.keeps b.keeps a.links;
    links = λ m h. b.links m (a.links m h);
    body = b.body ∙ a.body;
  }

  over_both : (w mid after : Inside I) (spot : Place) (how : Ended) → Goes' w spot mid → Over' mid how after → Over' w how after
  over_both w mid after spot how a b = record {
    code = b.code;
    ended = b.ended;
    belongs = b.belongs;
    keeps = keeps_both seen modules linked fits begins a.keeps b.keeps a.links;
    body = b.body ∙ a.body;
  }

  -- ---- up to a turn that took a step

  -- no step was taken so far
  pub record Midway (w : Inside I) (first : Place) (mid : Inside I) (spot : Place) : Type 0 where
    pub here : Goes' w spot mid
    pub leads : Leads' w (place_rest w.code.now first) spot mid
    pub steps : steps_of mid ≡ steps_of w

  pub midway_begins : (w : Inside I) (first : Place) → IsCode w.code.now → IsPlace (length (arc_value w.code.now.tree).stmts) first → MayRun seen modules linked fits begins w (place_rest w.code.now first) → Midway w first w first
  midway_begins w first code place run = record { here = goes_itself w first code place run; leads = λ how end h. h; steps = refl }

  module _ (some : BeginsSome modules linked fits begins) (one : BeginsOne begins) (w mid after : Inside I) (first spot : Place) (m : Midway w first mid spot) where
    advances : (next : Place) → Went' mid spot (Ok (n.Goes next)) after → Advances (At mid) (At after) (left_of mid spot) (left_of after next)
    advances next h = on.advances seen modules linked fits begins some one mid after (place_rest mid.code.now spot) next m.here.run h.1

    leads_on : (next : Place) → Went' mid spot (Ok (n.Goes next)) after → Leads' w (place_rest w.code.now first) next after
    leads_on next h how end s = m.leads how end (h.0 how end s)

    same_steps : (next : Place) → Went' mid spot (Ok (n.Goes next)) after → steps_of after ≤ steps_of w → steps_of after ≡ steps_of mid
    same_steps next h few = let a : steps_of mid ≤ steps_of after = (advances next h).more in let e = m.steps in omega (arith, a, e, few)

    pub midway_goes_on : (next : Place) → Went' mid spot (Ok (n.Goes next)) after → steps_of after ≤ steps_of w → Midway w first after next
    midway_goes_on next h few = record {
      here = goes_both w mid after spot next m.here h.2;
      leads = leads_on next h;
      steps = same_steps next h few ∙ m.steps;
    }

    pub midway_less : (next : Place) → Went' mid spot (Ok (n.Goes next)) after → steps_of after ≤ steps_of w → left_of after next < left_of mid spot
    midway_less next h few = (advances next h).less (same_steps next h few)

    pub midway_steps : (next : Place) → Went' mid spot (Ok (n.Goes next)) after → steps_of w < steps_of after → Stepped' w first (Ok (n.Goes next)) after
    midway_steps next h many =
        let e = m.steps in
        let more : steps_of mid < steps_of after = omega (arith, e, many) in
        (leads_on next h, goes_both w mid after spot next m.here h.2, (many, (advances next h).bound more))

    pub midway_ends : (how : Ended) → Went' mid spot (Ok (n.Over how)) after → Stepped' w first (Ok (n.Over how)) after
    midway_ends how h = (m.leads (ended_of how after.code.now) (At after) h.0, over_both w mid after spot how m.here h.1)

    pub midway_stops : (stop : Stop) → Went' mid spot (Err stop) after → Stepped' w first (Err stop) after
    midway_stops (stops.Limit limit) h = (m.leads (ended.Stopped limit) (At after) h.0, keeps_both seen modules linked fits begins m.here.keeps h.1 m.here.links)
    midway_stops stops.Memory h = tt

  -- ---- up to the end

  pub record Onway (w : Inside I) (first : Place) (mid : Inside I) (spot : Place) : Type 0 where
    pub here : Goes' w spot mid
    pub leads : Leads' w (place_rest w.code.now first) spot mid

  pub onway_begins : (w : Inside I) (first : Place) → IsCode w.code.now → IsPlace (length (arc_value w.code.now.tree).stmts) first → MayRun seen modules linked fits begins w (place_rest w.code.now first) → Onway w first w first
  onway_begins w first code place run = record { here = goes_itself w first code place run; leads = λ how end h. h }

  module _ (w mid after : Inside I) (first spot : Place) where
    pub onway_goes_on : (next : Place) → Onway w first mid spot → Stepped' mid spot (Ok (n.Goes next)) after → Onway w first after next
    onway_goes_on next m h = record { here = goes_both w mid after spot next m.here h.1; leads = λ how end s. m.leads how end (h.0 how end s) }

    pub onway_ends : (how : Ended) → Onway w first mid spot → Stepped' mid spot (Ok (n.Over how)) after → Ran' w first (Ok how) after
    onway_ends how m h = (m.leads (ended_of how after.code.now) (At after) h.0, over_both w mid after spot how m.here h.1)

    pub onway_stops : (stop : Stop) → Onway w first mid spot → Stepped' mid spot (Err stop) after → Ran' w first (Err stop) after
    onway_stops (stops.Limit limit) m h = (m.leads (ended.Stopped limit) (At after) h.0, keeps_both seen modules linked fits begins m.here.keeps h.1 m.here.links)
    onway_stops stops.Memory m h = tt

    -- steps are left
    pub onway_less : (next : Place) → Stepped' mid spot (Ok (n.Goes next)) after → MAX_STEPS - steps_of after < MAX_STEPS - steps_of mid
    onway_less next h = let a = h.2.0 in let b = h.2.1 in omega (arith, a, b)

  -- ---- behind an outcome of a body

  pub ran_behind : (w mid after : Inside I) (out : Outcome) (spot : Place) → Followed seen modules linked fits begins w out (Ok (n.Goes spot)) mid → (r : Result Ended Stop) → Ran' mid spot r after → RanBehind seen modules linked fits begins w out r after
  ran_behind w mid after out spot h (Ok how) s = (h.0 (ended_of how after.code.now) (At after) s.0, over_both w mid after spot how h.2 s.1)
  ran_behind w mid after out spot h (Err (stops.Limit limit)) s = (h.0 (ended.Stopped limit) (At after) s.0, keeps_both seen modules linked fits begins h.2.keeps s.1 h.2.links)
  ran_behind w mid after out spot h (Err stops.Memory) s = tt

  pub stopped_behind : (w mid : Inside I) (out : Outcome) (stop : Stop) → Followed seen modules linked fits begins w out (Err stop) mid → RanBehind seen modules linked fits begins w out (Err stop) mid
  stopped_behind w mid out (stops.Limit limit) h = h
  stopped_behind w mid out stops.Memory h = tt
