-- What the functions of loading see of the asked URLs.
use Rattle.std.specs.Prelude.{◌≡◌, ℕ, Bool, true, false, List, [], ◌∷◌, slice_get, Some}
use Rattle.std.specs.List.{remove}
use Rattle.esm_base.specs.Urls.{Url}
use Rattle.esm_loads.specs.LoadsView.{is_open}
use Rattle.esm_loads.specs.declared.data.Slot.{Slot}
use Rattle.esm_loads.specs.declared.data.UrlState.TheVariants as states
use Rattle.esm_loads.specs.declared.asked_urls.OpenAsks.{OpenAsks}

pub record UrlsView : Type 0 where
  -- the asked URLs, in order of asking
  pub slots : List Slot
  -- how many bytes were delivered
  pub bytes : ℕ
  -- the places that are kept for the targets of requests, and where those of each module begin
  pub starts : List ℕ
  pub places : List ℕ

abbrev pub no_slots : UrlsView
no_slots = record { slots = []; bytes = 0; starts = []; places = [] }

abbrev pub open_by : Bool → Url → List Url → List Url
open_by true url later = url ∷ later
open_by false url later = later

-- the URLs that are asked and not fetched
abbrev pub open_urls : List Slot → List Url
open_urls [] = []
open_urls (s ∷ ss) = open_by (is_open s.state) s.url (open_urls ss)

abbrev pub open_slot : Url → Slot
open_slot url = record { url = url; state = states.Open }

-- the ask with this place is open no more
pub record Closes (old new : OpenAsks) (place : ℕ) : Type 0 where
  pub at : ℕ
  pub found : slice_get old.places at ≡ Some place
  pub urls : new.urls ≡ remove old.urls at
  pub places : new.places ≡ remove old.places at

-- the URL at this place isn't fetched
pub record IsOpenAt (slots : List Slot) (k : ℕ) : Type 0 where
  pub slot : Slot
  pub at : slice_get slots k ≡ Some slot
  pub fetching : is_open slot.state ≡ true
