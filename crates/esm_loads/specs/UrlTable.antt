-- The table of URLs: the module map of the HTML Standard.
use Rattle.std.specs.Prelude.{ℕ, Bool, true, false, cond, List, [], ◌++◌, slice_index_or, Option, Some, None, Result, Ok, Err, codes}
use Rattle.esm_base.specs.Faults.{fault_description}
use Rattle.esm_base.specs.Urls.{Text, Url, same_url}
use Rattle.esm_base.specs.declared.fault.TextFault.{TextFault}
use Rattle.esm_tree.specs.Syntax.{Item}
use Rattle.esm_ast.specs.Entries.{requests_of}
use Rattle.esm_ast.specs.Outcome as outcomes
use Rattle.esm_ast.specs.Outcome.{OutcomeView}
use Rattle.esm_realm.specs.Records.{ModuleRecord}
use Rattle.esm_import_map.specs.ImportMap.{Maps}
use Rattle.esm_specifier.specs.Faults.{specifier_fault_description}
use Rattle.esm_specifier.specs.Targets as requested
use Rattle.esm_specifier.specs.Targets.{Refusal}
use Rattle.esm_specifier.specs.declared.fault.SpecFault.{SpecFault}
use Rattle.esm_values.specs.Errors.{fault}
use Rattle.esm_values.specs.declared.errors.Fault.{Fault}
use Rattle.esm_values.specs.declared.errors.FaultKind.TheVariants as kinds

-- ---- tables by URL

-- the table with this under the URL, and all else as it was
abbrev pub put_at : {A : Type 0} → (Url → A) → Url → A → Url → A
put_at table u a = λ v. cond (same_url u v) a (table v)

-- the set with this URL
abbrev pub with_url : (Url → Bool) → Url → Url → Bool
with_url set u = put_at set u true

abbrev pub no_urls : Url → Bool
no_urls = λ u. false

-- ---- what stands under a URL

-- the entry of a fetched URL
pub data TableEntry : Type 0 where
  -- nothing could be fetched
  Failed : TableEntry
  -- no module. HTML, the error to rethrow: the id of the one error value of this URL
  Broken : (error : ℕ) → TableEntry
  Module : (m : ModuleRecord) → TableEntry

-- the entries of the fetched URLs
abbrev pub Entries : Type 0
Entries = Url → Option TableEntry

abbrev pub no_entries : Entries
no_entries = λ u. None

abbrev pub targets_in : Option TableEntry → List Url
targets_in (Some (Module m)) = m.targets
targets_in _ = []

abbrev pub body_in : Option TableEntry → List Item
body_in (Some (Module m)) = m.body
body_in _ = []

-- ---- what an outcome brings

-- own: the TypeError of a specifier that doesn't resolve in the module at this URL
abbrev pub specifier_error : Url → Text → SpecFault → Fault
specifier_error referrer specifier f =
    fault kinds.TypeError (referrer ++ codes ": specifier " ++ specifier ++ codes ": " ++ specifier_fault_description f)

-- own: a request that is refused is told by its TypeError
abbrev pub told_targets : Url → List Text → Result (List Url) Refusal → Result (List Url) Fault
told_targets referrer requests (Ok urls) = Ok urls
told_targets referrer requests (Err refusal) =
    Err (specifier_error referrer (slice_index_or requests refusal.place []) refusal.fault)

-- the URLs of all requests of the module at this URL, or the TypeError of the first that doesn't resolve
abbrev pub targets_of : Maps → Url → List Text → Result (List Url) Fault
targets_of maps referrer requests = told_targets referrer requests (requested.targets_of maps referrer requests)

-- own: the SyntaxError of a body that is no module text
abbrev pub parse_error : Url → TextFault → Fault
parse_error url f = fault kinds.SyntaxError (url ++ codes ": " ++ fault_description f)

-- own: the SyntaxError of a module with a form that can't be run yet
abbrev pub not_built_error : Url → Fault
not_built_error url = fault kinds.SyntaxError (url ++ codes ": form not built yet")

-- what an outcome brings to its URL, before an error value is made of a fault
pub data Found : Type 0 where
  Nothing : Found
  Faulty : (f : Fault) → Found
  Script : (m : ModuleRecord) → Found

abbrev pub script_by : List Item → Result (List Url) Fault → Found
script_by items (Ok targets) = Script (record { body = items; targets = targets })
script_by items (Err f) = Faulty f

-- own: a module with a form that can't be run yet is broken, whatever it requests
abbrev pub built_by : Bool → Maps → Url → List Item → Found
built_by true maps url items = script_by items (targets_of maps url (requests_of items))
built_by false maps url items = Faulty (not_built_error url)

-- HTML, "create a JavaScript module script", by the import map, where these are the module texts that can be run
abbrev pub found : Maps → (List Item → Bool) → Url → OutcomeView → Found
found maps built url (outcomes.Script text) = built_by (built text.items) maps url text.items
found maps built url (outcomes.Broken broken) = Faulty (parse_error url broken.fault)
found maps built url outcomes.Absent = Nothing
found maps built url outcomes.Failed = Nothing

-- ---- what is thrown where no module stands

-- an error that is made for this throw, or one that there is
pub data Throw : Type 0 where
  New : (f : Fault) → Throw
  Kept : (error : ℕ) → Throw

-- own: the TypeError of a URL under which nothing could be fetched
abbrev pub fetch_error : Url → Fault
fetch_error url = fault kinds.TypeError (codes "cannot fetch " ++ url)

-- what a pending request of this URL is thrown, where the entry is no module
abbrev pub thrown_by : Url → TableEntry → Option Throw
thrown_by url Failed = Some (New (fetch_error url))
thrown_by url (Broken error) = Some (Kept error)
thrown_by url (Module m) = None
