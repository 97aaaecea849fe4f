-- When the index of the asked URLs is right.
use Rattle.std.specs.Prelude.{◌≡◌, ℕ, suc, ◌≤◌, Bool, true, false, List, [], ◌∷◌, length}
use Rattle.esm_base.specs.declared.limits.TheConstants.{MAX_URLS, MAX_DELIVERED_BYTES}
use Rattle.esm_base.specs.Urls.{Url}
use Rattle.esm_realm.specs.Laws.{AreDistinct}
use Rattle.esm_loads.specs.LoadsView.{urls_of, is_open}
use Rattle.esm_loads.specs.Inner.Urls.{open_urls}
use Rattle.esm_loads.specs.declared.data.Slot.{Slot}
use Rattle.esm_loads.specs.declared.asked_urls.OpenAsks.{OpenAsks}

abbrev pub open_place_by : Bool → ℕ → List ℕ → List ℕ
open_place_by true place later = place ∷ later
open_place_by false place later = later

-- the places of the URLs that aren't fetched, where the first slot has this place
abbrev pub open_places : ℕ → List Slot → List ℕ
open_places first [] = []
open_places first (s ∷ ss) = open_place_by (is_open s.state) first (open_places (suc first) ss)

-- the URLs are those of the slots, and each stands there alone, there are at most MAX_URLS, the open ones are listed, and no more bytes
-- were delivered than may be
pub record AreIndexed (table : List Url) (slots : List Slot) (asks : OpenAsks) (bytes : ℕ) : Type 0 where
  pub listed : table ≡ urls_of slots
  pub distinct : AreDistinct (urls_of slots)
  pub few : length slots ≤ MAX_URLS
  pub urls : asks.urls ≡ open_urls slots
  pub places : asks.places ≡ open_places 0 slots
  pub few_bytes : bytes ≤ MAX_DELIVERED_BYTES
