-- Files as a source in memory takes them, and the numbers of URLs.
use Rattle.std.specs.Prelude.{◌≡◌, ◌≢◌, ◌<◌, ◌^◌, ℕ, Option, Some, None}
use Rattle.esm_base.specs.Urls.{Url}
use Rattle.esm_ports.specs.Files as held
use Rattle.esm_gen.specs.Generated.{File, module_url}

-- what stands in a file that is held in memory
abbrev pub file_of : held.File → File
file_of file = record { url = file.0; text = file.1.items }

-- what is found is the number of the module with this URL; none where no module has it
abbrev pub IsNumberOf : Url → Option ℕ → Type 0
IsNumberOf url None = (i : ℕ) → i < 2 ^ 32 → url ≢ module_url i
IsNumberOf url (Some i) = (i < 2 ^ 32) × (url ≡ module_url i)
