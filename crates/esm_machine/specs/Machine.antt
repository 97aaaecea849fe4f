-- What contracts see of a machine.
use Rattle.std.specs.Prelude.{ℕ, Option}
use Rattle.esm_values.specs.Code.{value_of}
use Rattle.esm_values.specs.Errors.{Errors}
use Rattle.esm_env.specs.Calls.{scopes_of}
use Rattle.esm_env.specs.Cells.{Cells}
use Rattle.esm_env.specs.Scopes.{Scopes, cells_of}
use Rattle.esm_rewriting.specs.State.{Engine}
use Rattle.esm_body.specs.View.{engine_of}
use Rattle.esm_machine.specs.Evaluating.{held_in}
use Rattle.esm_machine.specs.Held.{EntryHeld, Underway, Ended, Failed, Held}
use Rattle.esm_machine.specs.ModuleStore.{seen_of}
use Rattle.esm_machine.specs.Represents.{MachineState, TurnEnd}
use Rattle.esm_machine.specs.Seen.{Seen}
use Rattle.esm_machine.specs.declared.host.BodyHost.{BodyHost}
use Rattle.esm_machine.specs.declared.parts.EntryState.{EntryState}
use Rattle.esm_machine.specs.declared.parts.EntryState.TheVariants as states
use Rattle.esm_machine.specs.declared.parts.Parts.{Parts}

-- ---- the parts, by the ids of modules

abbrev pub seen_by : BodyHost → Seen
seen_by b = seen_of b.imports

abbrev pub errors_by : BodyHost → Errors
errors_by b = b.errors

abbrev pub scopes_by : BodyHost → Scopes
scopes_by b = scopes_of b.envs

abbrev pub cells_by : BodyHost → Cells ℕ
cells_by b = cells_of (scopes_by b)

abbrev pub engine_by : BodyHost → Engine ℕ
engine_by b = engine_of b.engine

abbrev pub entry_held : EntryState → EntryHeld
entry_held states.Underway = Underway
entry_held states.Ended = Ended
entry_held (states.Failed v) = Failed (value_of v)

abbrev pub held_of : Parts → Held
held_of p = held_in seen_by errors_by cells_by engine_by (entry_held p.entry) p.host

-- ---- the machine

-- what it has of modules, and how it has stopped
pub record MachineParts : Type 0 where
  pub parts : Parts
  pub stopped : Option TurnEnd

-- what it holds, by the ids of modules, and how it has stopped
abbrev pub state_of : MachineParts → MachineState
state_of m = record { held = held_of m.parts; stopped = m.stopped }
