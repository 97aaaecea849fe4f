-- Which posts fit the URL of their number, by the guide of the history.
use Rattle.std.specs.Prelude.{◌≡◌, ℕ, ◌&&◌, Bool, true, false, List, [], ◌∷◌, ◌++◌, slice_get, Option, Some, None}
use Rattle.std.specs.Arc.{arc_value}
use Rattle.esm_base.specs.Urls.{Url}
use Rattle.esm_module_map.specs.declared.event.MapEvent.{MapEvent}
use Rattle.esm_module_map.specs.declared.event.MapEvent.TheVariants.{Begin, Enrol, Ask, Take, Post, Shut}
use Rattle.esm_module_map.specs.Replay.{replay}
use Rattle.esm_module_map.specs.Leading.{guide_in}

module _ {P G : Type 0} (fits : G → P → Url → Bool) where
  -- by the guide with which the history begins, the payload fits the URL
  abbrev pub FitsIn : List (MapEvent P G) → P → Url → Type 0
  FitsIn history payload url = (guide : G) → guide_in history ≡ Some guide → fits guide payload url ≡ true

  abbrev pub fits_by : Option G → P → Option Url → Bool
  fits_by (Some guide) payload (Some url) = fits guide payload url
  fits_by (Some guide) payload None = false
  fits_by None payload url = false

module _ {P G : Type 0} (weight : P → ℕ) (fits : G → P → Url → Bool) where
  -- own: where the event is a post, it fits the URL of its number
  abbrev pub may_fit : List (MapEvent P G) → MapEvent P G → Bool
  may_fit past (Begin g) = true
  may_fit past (Enrol c) = true
  may_fit past (Ask c n u why) = true
  may_fit past (Take c n) = true
  may_fit past (Post c n p) = fits_by fits (guide_in past) (arc_value p) (slice_get (replay weight past).urls n)
  may_fit past (Shut c) = true

  abbrev pub are_fit_from : List (MapEvent P G) → List (MapEvent P G) → Bool
  are_fit_from past [] = true
  are_fit_from past (e ∷ es) = may_fit past e && are_fit_from (past ++ e ∷ []) es

  -- own: each post of the history fits the URL that its number had before it
  abbrev pub are_fit : List (MapEvent P G) → Bool
  are_fit es = are_fit_from [] es
