-- Where the targets of requests stand among the asked URLs, as far as it is kept.
use Rattle.std.specs.Prelude.{◌≡◌, ◌⊎◌, ℕ, ◌+◌, ◌<◌, ◌≤◌, ◌++◌, List, [], ◌∷◌, length, map, slice_get, slice_set, Option, Some, None}
use Rattle.esm_base.specs.declared.limits.TheConstants.{MAX_URLS}
use Rattle.esm_base.specs.Urls.{Url}
use Rattle.esm_realm.specs.Sound.{RecordParts}
use Rattle.esm_loads.specs.LoadsView.{urls_of, place_in}
use Rattle.esm_loads.specs.Inner.Urls.{UrlsView}

-- ---- a list of places, where those of each module begin at a place of their own

-- here stands the place of a request of a module
pub record IsIndex (starts places : List ℕ) (id request at : ℕ) : Type 0 where
  pub first : ℕ
  pub begins : slice_get starts id ≡ Some first
  pub is : at ≡ first + request
  pub inside : at < length places

-- this place is kept for a request of a module
pub record IsKept (starts places : List ℕ) (id request place : ℕ) : Type 0 where
  pub first : ℕ
  pub begins : slice_get starts id ≡ Some first
  pub at : slice_get places (first + request) ≡ Some place
  pub known : place < MAX_URLS

abbrev pub with_place_by : Option ℕ → List ℕ → ℕ → ℕ → List ℕ
with_place_by None places request place = places
with_place_by (Some first) places request place = slice_set places (first + request) place

-- the list, where this place is kept for the request of the module
abbrev pub with_place : List ℕ → List ℕ → ℕ → ℕ → ℕ → List ℕ
with_place starts places id request place = with_place_by (slice_get starts id) places request place

-- ---- targets

abbrev pub record_targets : RecordParts → List Url
record_targets r = r.targets

-- the targets of each module, in order of ids
abbrev pub all_targets : List RecordParts → List (List Url)
all_targets records = map record_targets records

-- this is the target of a request of a module
pub record IsTargetOf (targets : List (List Url)) (id request : ℕ) (url : Url) : Type 0 where
  pub own : List Url
  pub is : slice_get targets id ≡ Some own
  pub at : slice_get own request ≡ Some url

-- each module has as many places as requests, behind those of the modules before it, and where a place is kept for a request its
-- target stands there
pub record AreKnown (urls : List Url) (starts places : List ℕ) (targets : List (List Url)) : Type 0 where
  pub as_many : length starts ≡ length targets
  pub inside : (id first : ℕ) (own : List Url) → slice_get starts id ≡ Some first → slice_get targets id ≡ Some own
      → first + length own ≤ length places
  pub apart : (id later first behind : ℕ) (own : List Url) → id < later → slice_get starts id ≡ Some first
      → slice_get starts later ≡ Some behind → slice_get targets id ≡ Some own → first + length own ≤ behind
  pub right : (id request place : ℕ) (url : Url) → IsKept starts places id request place → IsTargetOf targets id request url
      → place_in urls url ≡ Some place

-- the places that are kept beside the asked URLs are those of the targets of these records
abbrev pub KnowTargets : UrlsView → List RecordParts → Type 0
KnowTargets urls records = AreKnown (urls_of urls.slots) urls.starts urls.places (all_targets records)

-- there is no record more, or one
abbrev pub IsOneMore : List RecordParts → List RecordParts → Type 0
IsOneMore old new = (new ≡ old) ⊎ ((r : RecordParts) × (new ≡ old ++ r ∷ []))
