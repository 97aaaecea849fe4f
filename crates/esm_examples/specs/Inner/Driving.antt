-- How far a machine was driven over files.
use Rattle.std.specs.Prelude.{◌≡◌, [], List, true, false, Option, Some, None}
use Rattle.esm_base.specs.Urls.{Url, has}
use Rattle.esm_import_map.specs.ImportMap.{Maps}
use Rattle.esm_ast.specs.Deliveries.{Delivery}
use Rattle.esm_machine.specs.Represents.{Represents, ShownBy, MachineState, asks_of}
use Rattle.esm_examples.specs.Fetches.{Files, AreFetches}

-- the URL is an open ask of the machine, and of whatever standard run it represents
pub record IsOpen (machine : MachineState) (url : Url) : Type 0 where
  pub here : has (asks_of machine) url ≡ true
  pub standard : ShownBy machine (λ what. has what.asks url ≡ true)

-- none where no ask is open, else an open ask
abbrev pub IsNext : MachineState → Option Url → Type 0
IsNext machine None = asks_of machine ≡ []
IsNext machine (Some url) = IsOpen machine url

-- the machine represents fetches of these URLs from the files
pub record IsDriven (maps : Maps) (entry : Url) (files : Files) (machine : MachineState) (urls : List Url) : Type 0 where
  pub deliveries : List Delivery
  pub represents : Represents maps entry false machine deliveries
  pub fetches : AreFetches files deliveries urls
