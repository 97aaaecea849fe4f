-- What a fetch comes to: how the source was asked, and what its answer is read as.
use Rattle.std.specs.Prelude.{◌≡◌, ℕ, Bool, true, false, List, [], Option, Some, None, Result, Ok, Err, IsSomeAnd, take, length, bytes_eq, ⊤}
use Rattle.std.specs.List.{list_any}
use Rattle.esm_base.specs.declared.limits.TheConstants.{MAX_BODY_BYTES}
use Rattle.esm_base.specs.Urls.{Text, Url}
use Rattle.esm_ports.specs.declared.asked.AskKind.{AskKind}
use Rattle.esm_ports.specs.declared.asked.AskKind.TheVariants.{Body, Absent, Failed}
use Rattle.esm_grammar.specs.ModuleText.{Spells, FaultOf}
use Rattle.esm_ast.specs.Entries.{requests_of}
use Rattle.esm_ast.specs.Outcome as fetched
use Rattle.esm_ast.specs.Outcome.{OutcomeView}
use Rattle.esm_import_map.specs.ImportMap.{Maps}
use Rattle.esm_specifier.specs.Resolution.{resolution_of_specifier}
use Rattle.esm_specifier.specs.declared.fault.SpecFault.{SpecFault}
use Rattle.esm_specifier.specs.declared.targets.Targets.{Targets}
use Rattle.esm_specifier.specs.Targets.{are_targets}

-- how the ask was answered
abbrev pub kind_of : OutcomeView → AskKind
kind_of (fetched.Script text) = Body
kind_of (fetched.Broken broken) = Body
kind_of fetched.Absent = Absent
kind_of fetched.Failed = Failed

-- own: how many bytes an outcome keeps
abbrev pub size_of : OutcomeView → ℕ
size_of (fetched.Script text) = length text.bytes
size_of (fetched.Broken broken) = length broken.bytes
size_of fetched.Absent = 0
size_of fetched.Failed = 0

-- what a source holds for each URL
abbrev pub Contents : Type 0
Contents = List ℕ → Option (List ℕ)

-- the outcome is that of a source with these contents
abbrev pub IsToldOutcome : Contents → List ℕ → OutcomeView → Type 0
IsToldOutcome contents url (fetched.Script text) = IsSomeAnd (contents url) (λ bytes. text.bytes ≡ take MAX_BODY_BYTES bytes)
IsToldOutcome contents url (fetched.Broken broken) = IsSomeAnd (contents url) (λ bytes. broken.bytes ≡ take MAX_BODY_BYTES bytes)
IsToldOutcome contents url fetched.Absent = contents url ≡ None
IsToldOutcome contents url fetched.Failed = ⊤

-- a body is what its bytes are read as
abbrev pub IsRead : OutcomeView → Type 0
IsRead (fetched.Script text) = Spells text.bytes text.items
IsRead (fetched.Broken broken) = FaultOf broken.bytes broken.fault
IsRead fetched.Absent = ⊤
IsRead fetched.Failed = ⊤

abbrev pub is_answer : Url → Result Url SpecFault → Bool
is_answer to (Ok url) = bytes_eq url to
is_answer to (Err fault) = false

-- what an outcome requests: nothing where it is no module
abbrev pub requests_in : OutcomeView → List Text
requests_in (fetched.Script text) = requests_of text.items
requests_in (fetched.Broken broken) = []
requests_in fetched.Absent = []
requests_in fetched.Failed = []

-- own: what was resolved ahead is what these requests of the module at this URL resolve to, as a test
abbrev pub is_ahead : Maps → Url → List Text → Option Targets → Bool
is_ahead maps url requests (Some targets) = are_targets maps url requests targets
is_ahead maps url requests None = true

-- HTML, "fetch the descendants of a module script": what was fetched at the URL `from` is a module with a request that
-- resolves to the URL `to` under the import map
abbrev pub requests_url : Maps → Url → OutcomeView → Url → Bool
requests_url maps from (fetched.Script text) to =
    list_any (λ (specifier : Text). is_answer to (resolution_of_specifier maps from specifier)) (requests_of text.items)
requests_url maps from (fetched.Broken broken) to = false
requests_url maps from fetched.Absent to = false
requests_url maps from fetched.Failed to = false
