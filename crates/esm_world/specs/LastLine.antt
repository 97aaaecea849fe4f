-- How a run ends: its status and its last line. own
use Rattle.std.specs.Prelude.{◌≡◌, List, [], ◌∷◌, ◌++◌, Option, Some, None, codes}
use Rattle.esm_base.specs.declared.limits.Limit.{Limit}
use Rattle.esm_base.specs.declared.status.Status.{Status}
use Rattle.esm_base.specs.declared.status.Status.TheVariants as statuses
use Rattle.esm_base.specs.Limits.{limit_name}
use Rattle.esm_base.specs.Urls.{Text, Url}
use Rattle.esm_values.specs.Value.{Value}
use Rattle.esm_rewriting.specs.Acts.{Displays}
use Rattle.esm_world.specs.World.{World, EntryState, Underway, Ended, Failed, modules_in, body_state}

-- how a run has ended
pub data Ending : Type 0 where
  -- a limit has stopped it
  Stopped : (limit : Limit) → Ending
  -- the entry failed with this value
  Uncaught : (v : Value Url) → Ending
  -- the entry was evaluated
  Done : Ending
  -- nothing is left to do, and the entry's evaluation hasn't ended
  Pending : Ending

-- a limit comes first, and nothing has ended while an ask is open
abbrev pub ending_by : Option Limit → List Url → EntryState → Option Ending
ending_by (Some limit) asks entry = Some (Stopped limit)
ending_by None (u ∷ us) entry = None
ending_by None [] (Failed v) = Some (Uncaught v)
ending_by None [] Ended = Some Done
ending_by None [] Underway = Some Pending

abbrev pub exit_status : Ending → Status
exit_status (Stopped limit) = statuses.Limit
exit_status (Uncaught v) = statuses.EntryFailed
exit_status Done = statuses.Fulfilled
exit_status Pending = statuses.Unsettled

-- the last line, where the world has ended so: of an uncaught value it has the display text
abbrev pub IsLastLine : World → Option Ending → Text → Type 0
IsLastLine w None line = line ≡ []
IsLastLine w (Some (Stopped limit)) line = line ≡ codes "Limit " ++ limit_name limit
IsLastLine w (Some (Uncaught v)) line =
    (text : Text) × Displays modules_in (body_state w) v text × (line ≡ codes "Uncaught " ++ text)
IsLastLine w (Some Done) line = line ≡ []
IsLastLine w (Some Pending) line = line ≡ codes "Unsettled"
