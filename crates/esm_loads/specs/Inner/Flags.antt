-- When the flags of the visited modules are right.
use Rattle.std.specs.Prelude.{◌≡◌, ℕ, ◌<◌, Bool, List, [], length, slice_get, Option, Some, None, All}
use Rattle.esm_loads.specs.LoadsView.{LoadView, is_in}
use Rattle.esm_loads.specs.declared.data.Stage.{Stage}
use Rattle.esm_loads.specs.declared.data.Stage.TheVariants as stages

abbrev pub asked_load : LoadView
asked_load = record { stage = stages.Asked; visited = [] }

abbrev pub begun_record : ℕ → LoadView
begun_record root = record { stage = stages.Open root; visited = [] }

-- each flag says whether its id was visited
pub record AreFlags (flags : List Bool) (visited : List ℕ) : Type 0 where
  pub each : (k : ℕ) (b : Bool) → slice_get flags k ≡ Some b → is_in visited k ≡ b
  pub within : All (λ (k : ℕ). k < length flags) visited

-- there are no flags, or each says so
pub record HaveFlags (flags : List Bool) (visited : List ℕ) : Type 0 where
  pub right : 0 < length flags → AreFlags flags visited

-- the root of a load that goes on
abbrev pub root_in : Stage → Option ℕ
root_in stages.Asked = None
root_in (stages.Open root) = Some root
root_in (stages.Complete root) = None
root_in (stages.Thrown cause) = None
