-- What stands at places, as the functions that read it give it.
use Rattle.std.specs.Prelude.{ℕ, Option, Some, None}
use Rattle.esm_base.specs.declared.module_id.ModuleId.{ModuleId}
use Rattle.esm_loads.specs.LoadsView.{LoadView}
use Rattle.esm_loads.specs.declared.data.Slot.{Slot}
use Rattle.esm_loads.specs.declared.data.UrlState.{UrlState}
use Rattle.esm_loads.specs.declared.data.UrlState.TheVariants as states
use Rattle.esm_loads.specs.declared.data.Stage.{Stage}
use Rattle.esm_loads.specs.declared.data.Stage.TheVariants as stages

abbrev pub complete_in : Stage → Option ℕ
complete_in stages.Asked = None
complete_in (stages.Open root) = None
complete_in (stages.Complete root) = Some root
complete_in (stages.Thrown cause) = None

-- the place of the root of a load that is complete
abbrev pub complete_by : Option LoadView → Option ℕ
complete_by None = None
complete_by (Some l) = complete_in l.stage

abbrev pub module_in : UrlState → Option ModuleId
module_in states.Open = None
module_in states.Failed = None
module_in (states.Broken error) = None
module_in (states.Module id) = Some id

-- the module in a slot
abbrev pub module_by : Option Slot → Option ModuleId
module_by None = None
module_by (Some s) = module_in s.state
