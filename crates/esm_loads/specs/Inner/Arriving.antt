-- The entry that a fetch that ends makes for its URL.
use Rattle.std.specs.Prelude.{◌≡◌, ℕ, List, [], ◌∷◌, ◌++◌, length, true, false, slice_get, slice_set, Some}
use Rattle.esm_tree.specs.Syntax.{Item}
use Rattle.esm_ast.specs.Entries.{entries_of}
use Rattle.esm_ast.specs.Outcome.{OutcomeView}
use Rattle.esm_import_map.specs.ImportMap.{Maps}
use Rattle.esm_base.specs.Urls.{Text, Url}
use Rattle.esm_realm.specs.Sound.{RecordParts, new_record}
use Rattle.esm_values.specs.Errors.{Errors, make_error, next_error}
use Rattle.esm_values.specs.declared.errors.Fault.{Fault}
use Rattle.esm_loads.specs.UrlTable.{Nothing, Faulty, Script, found, specifier_error}
use Rattle.esm_specifier.specs.declared.fault.SpecFault.{SpecFault}
use Rattle.esm_loads.specs.LoadsView.{every_form, is_open}
use Rattle.esm_loads.specs.declared.data.Slot.{Slot}
use Rattle.esm_loads.specs.declared.data.UrlState.{UrlState}
use Rattle.esm_loads.specs.declared.data.UrlState.TheVariants as states
use Rattle.esm_loads.specs.declared.data.Waiting.{Waiting}
use Rattle.esm_loads.specs.declared.loads.Loads.{Loads}

-- trees, records and errors
pub record Stores : Type 0 where
  pub trees : List (List Item)
  pub records : List RecordParts
  pub errors : Errors

abbrev pub stores : List (List Item) → List RecordParts → Errors → Stores
stores trees records errors = record { trees = trees; records = records; errors = errors }

-- the message of the error of a specifier that resolves to no URL
abbrev pub unresolved_message : Url → Text → SpecFault → Text
unresolved_message referrer specifier f = (specifier_error referrer specifier f).message

-- the state of a URL by what its outcome brings, and what is left of trees, records and errors
pub data Filled (maps : Maps) (url : Url) (c : OutcomeView) (old new : Stores) : UrlState → Type 0 where
  AsModule : (tree : List Item) (targets : List Url)
      → found maps every_form url c ≡ Script (record { body = tree; targets = targets })
      → new.trees ≡ old.trees ++ tree ∷ []
      → new.records ≡ old.records ++ new_record url (entries_of tree) targets ∷ []
      → new.errors ≡ old.errors
      → Filled maps url c old new (states.Module (record { 0 = length old.records }))
  AsBroken : (f : Fault) → found maps every_form url c ≡ Faulty f → new.trees ≡ old.trees → new.records ≡ old.records
      → new.errors ≡ make_error old.errors f → Filled maps url c old new (states.Broken (record { 0 = next_error old.errors }))
  AsFailed : found maps every_form url c ≡ Nothing → new.trees ≡ old.trees → new.records ≡ old.records
      → new.errors ≡ old.errors → Filled maps url c old new states.Failed

-- an asked URL that isn't fetched
pub record IsOpenSlot (slots : List Slot) (place : ℕ) (url : Url) : Type 0 where
  pub slot : Slot
  pub at : slice_get slots place ≡ Some slot
  pub fetching : is_open slot.state ≡ true
  pub under : slot.url ≡ url

-- the slot at this place is another, and its URL is the one that was fetched last
abbrev pub settled : Loads → ℕ → Slot → Loads
settled l place slot = record l { urls = record l.urls { slots = slice_set l.urls.slots place slot }; delivered = place }

-- no fetched URL has a pending request
abbrev pub NonePending : Loads → Type 0
NonePending l = (k : ℕ) (s : Slot) (q : List Waiting) → slice_get l.urls.slots k ≡ Some s
    → slice_get l.queues.queues k ≡ Some q → is_open s.state ≡ false → q ≡ []
