-- A load that is added, and asks for its root.
use Rattle.std.specs.Prelude.{◌≡◌, ℕ, ◌+◌, ◌++◌, List, [], ◌∷◌, slice_get, Some, false}
use Rattle.esm_base.specs.Urls.{Url}
use Rattle.esm_loads.specs.LoadsView.{urls_of, place_in, is_open}
use Rattle.esm_loads.specs.Inner.Flags.{asked_load}
use Rattle.esm_loads.specs.declared.data.Slot.{Slot}
use Rattle.esm_loads.specs.declared.data.Purpose.{Purpose}
use Rattle.esm_loads.specs.declared.loads.Loads.{Loads}

-- there is one load more, whose root isn't there
pub record AddsLoad (old new : Loads) (purpose : Purpose) : Type 0 where
  pub loads : new.loads.items ≡ old.loads.items ++ asked_load ∷ []
  pub purposes : new.purposes.items ≡ old.purposes.items ++ purpose ∷ []
  pub rest : new ≡ record old { queues = record old.queues { loads = old.queues.loads + 1 }; loads = new.loads; purposes = new.purposes }

-- the URL has this place, and is fetched
pub record IsFetchedAs (slots : List Slot) (u : Url) (k : ℕ) : Type 0 where
  pub slot : Slot
  pub at : slice_get slots k ≡ Some slot
  pub fetched : is_open slot.state ≡ false
  pub place : place_in (urls_of slots) u ≡ Some k
