-- Rewritings of what remains one after another, and what follows the last of them.
use Rattle.std.specs.Prelude.{◌≡◌, Bool, true, Option, Some, None, ⊤}
use Rattle.esm_base.specs.declared.limits.Limit.{Limit}
use Rattle.esm_values.specs.Value.{Value}
use Rattle.esm_values.specs.Plans.{Rewritten as comes}
use Rattle.esm_promise.specs.Outer.{Outer}
use Rattle.esm_env.specs.Modules.{Modules}
use Rattle.esm_rewriting.specs.Rest.{Rest}
use Rattle.esm_rewriting.specs.State.{State, Importing}
use Rattle.esm_rewriting.specs.BodyRewriting.{RewrittenBody, On}
use Rattle.esm_rewriting.specs.Segment.{Ended, Normal, Thrown, Awaiting, Stopped, Next, Goes, Over, Segment, RewritesOutermost}
use Rattle.esm_rewriting.specs.Fits.{Knows, FitsState, FitsRun, HoldsRest, of_body}

module _ {N I : Type 0} (same : N → N → Bool) (modules : I → Modules N) (begins : Importing N I) where
  -- none or more rewritings that go on, and then one that comes to this; going on with what there is takes none
  pub data Comes (m : N) : State N I → Rest (Value N) → RewrittenBody (Value N) Limit → State N I → Type 0 where
    here : {w : State N I} {r : Rest (Value N)} → Comes m w r (On (comes.Goes r)) w
    last : {w mid : State N I} {r : Rest (Value N)} {move : RewrittenBody (Value N) Limit}
        → RewritesOutermost same modules begins m w r move mid → Comes m w r move mid
    later : {w mid late : State N I} {r s : Rest (Value N)} {move : RewrittenBody (Value N) Limit}
        → RewritesOutermost same modules begins m w r (On (comes.Goes s)) mid
        → Comes m mid s move late → Comes m w r move late

  -- one or more rewritings, each but the last of which goes on, and the last comes to this
  pub data Turns (m : N) : State N I → Rest (Value N) → RewrittenBody (Value N) Limit → State N I → Type 0 where
    only : {w mid : State N I} {r : Rest (Value N)} {move : RewrittenBody (Value N) Limit}
        → RewritesOutermost same modules begins m w r move mid → Turns m w r move mid
    behind : {w mid late : State N I} {r s : Rest (Value N)} {move : RewrittenBody (Value N) Limit}
        → RewritesOutermost same modules begins m w r (On (comes.Goes s)) mid
        → Turns m mid s move late → Turns m w r move late

  -- what goes on, ends so
  abbrev pub EndsSo : Option (Next N I) → Ended N → State N I → Type 0
  EndsSo None how after = ⊥
  EndsSo (Some (Goes m rest callers w)) how after = Segment same modules begins w m rest callers how after
  EndsSo (Some (Over end w)) how after = (how ≡ end) × (after ≡ w)

module _ {N I : Type 0} (modules : I → Modules N) (linked : I → N → Bool) (Whole : Outer N I → Type 0) (awaits : Bool) where
  -- the state at a segment's end fits, and what it leaves is known
  abbrev pub IsFitEnd : Ended N → State N I → Type 0
  IsFitEnd Normal w = FitsState modules linked Whole w
  IsFitEnd (Thrown v) w = FitsState modules linked Whole w × Knows modules linked w.outer.imports v
  IsFitEnd (Awaiting v rest) w = FitsState modules linked Whole w × (awaits ≡ true) × Knows modules linked w.outer.imports v
      × HoldsRest (Knows modules linked w.outer.imports) ⊤ (of_body awaits) rest
  IsFitEnd (Stopped why) w = FitsState modules linked Whole w

  -- there is something that follows, and it fits
  abbrev pub IsFitNext : Option (Next N I) → Type 0
  IsFitNext None = ⊥
  IsFitNext (Some (Goes m rest callers w)) = FitsRun modules linked Whole w m awaits rest callers
  IsFitNext (Some (Over end w)) = IsFitEnd end w
