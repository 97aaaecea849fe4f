-- What is written before the log: the record of the run, where the words ask for it. own
use Rattle.std.specs.Prelude.{◌≡◌, ℕ, List, [], Option, Some, None, if◌then◌else◌}
use Rattle.url.specs.Parts.{serialize}
use Rattle.esm_base.specs.Urls.{Url}
use Rattle.esm_ast.specs.Deliveries.{Delivery}
use Rattle.esm_import_map.specs.ImportMap.{Maps}
use Rattle.esm_arguments.specs.declared.command.Command.{Command}
use Rattle.esm_record.specs.Record.{record_text}
use Rattle.esm_run.specs.CommandMap.{AreGiven, DeskChange}

-- the import map with its URL, where there is one
abbrev pub map_file : Option Url → Option (List ℕ) → Option (Url × List ℕ)
map_file None bytes = None
map_file (Some url) None = None
map_file (Some url) (Some bytes) = Some (url, bytes)

-- by the bytes of the import map, and by what was taken
abbrev pub front_text : Command → Option (List ℕ) → List Delivery → List ℕ
front_text command bytes taken =
    if command.recorded then record_text (serialize command.base) command.entry (map_file command.map bytes) taken else []

-- the same by what the desk answered, whose bytes say these maps
pub record IsFront (command : Command) (desk : DeskChange) (maps : Maps) (taken : List Delivery) (front : List ℕ) : Type 0 where
  pub bytes : Option (List ℕ)
  pub given : AreGiven command.map command.base desk maps bytes
  pub text : front ≡ front_text command bytes taken
