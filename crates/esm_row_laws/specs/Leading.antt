-- What remains of code leads to what remains later: a segment of this is one of that.
use Rattle.std.specs.Prelude.{Bool, List}
use Rattle.esm_values.specs.Value.{Value}
use Rattle.esm_env.specs.Modules.{Modules}
use Rattle.esm_rewriting.specs.Rest.{Rest}
use Rattle.esm_rewriting.specs.State.{State, Importing}
use Rattle.esm_rewriting.specs.Segment.{Active, Ended, Segment}

module _ {N I : Type 0} (same : N → N → Bool) (modules : I → Modules N) (begins : Importing N I) (m : N) where
  -- in the same function or body, with the same callers
  abbrev pub Leads : State N I → Rest (Value N) → State N I → Rest (Value N) → Type 0
  Leads w r late s = (callers : List (Active N)) (how : Ended N) (after : State N I)
      → Segment same modules begins late m s callers how after → Segment same modules begins w m r callers how after
