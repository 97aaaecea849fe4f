-- Where the entry alone is asked for, it is an open ask.
use Rattle.std.proofs.Common.{◌≡◌, ℕ, true, List, [], ap, ◌∙◌}
use Rattle.esm_base.specs.Urls.{Url, has}
use Rattle.esm_import_map.specs.ImportMap.{Maps}
use Rattle.esm_realm.proofs.Urls.{has_own}
use Rattle.esm_realm.specs.Sound.{RecordParts}
use Rattle.esm_loads.specs.Arrival.{open_asks}
use Rattle.esm_loads.specs.Loading.{Loading}
use Rattle.esm_loads.specs.LoadsAsLoading.{loading_of, no_loading, asks_entry}
use Rattle.esm_loads.specs.declared.loads.Loads.{Loads}

entry_open : (maps : Maps) (u : Url) (promise : ℕ) (l : Loading) → l ≡ asks_entry (no_loading maps) u promise → has (open_asks l) u ≡ true
entry_open maps u promise l e = ap (λ k. has (open_asks k) u) e ∙ has_own u []

-- it was asked for where nothing was, and nothing has changed since
pub still_open : (maps : Maps) (u : Url) (promise : ℕ) (before asked after : Loads) (R S : List RecordParts)
    → loading_of maps before R ≡ no_loading maps
    → loading_of maps asked R ≡ asks_entry (loading_of maps before R) u promise
    → after ≡ asked → S ≡ R → has (open_asks (loading_of maps after S)) u ≡ true
still_open maps u promise before asked after R S nothing asks same records =
    entry_open maps u promise (loading_of maps after S)
    (ap (λ l. loading_of maps l S) same ∙ (ap (loading_of maps asked) records ∙ (asks ∙ ap (λ l. asks_entry l u promise) nothing)))
