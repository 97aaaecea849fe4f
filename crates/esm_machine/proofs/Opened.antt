-- What is known where the entry alone is asked.
use Rattle.std.proofs.Common.{◌≡◌, ℕ, false, List, [], map, Some, refl, ap, subst, sym, ◌∙◌}
use Rattle.std.specs.Prelude.{slice_get}
use Rattle.esm_base.specs.Urls.{Url}
use Rattle.esm_import_map.specs.ImportMap.{Maps}
use Rattle.esm_realm.specs.ById.{status_of, is_linking}
use Rattle.esm_realm.specs.Sound.{RecordParts, IsSound, url_of}
use Rattle.esm_loads.specs.Fits.{FitRecords, IsFetching}
use Rattle.esm_loads.specs.Laws.{IsOrderly, StaysOrderly, StaysWhole}
use Rattle.esm_loads.specs.Loading.{opening_loading}
use Rattle.esm_loads.specs.LoadsAsLoading.{loading_of, no_loading, asks_entry, OpensWithEntry}
use Rattle.esm_loads.specs.LoadsView.{every_form, place_in}
use Rattle.esm_loads.specs.Whole.{IsWhole}
use Rattle.esm_loads.specs.declared.loads.Loads.{Loads}
use Rattle.esm_machine.specs.Calls.{opening_seen}
use Rattle.esm_machine.specs.ModuleStore.{imported, seen_of, linked_urls}
use Rattle.esm_machine.specs.Kept.{IsKept}
use Rattle.esm_machine.specs.declared.condition.Condition.TheVariants as conditions

-- where nothing is asked no URL is fetched
pub nothing_fetched : (t : Loads) (maps : Maps) (u : Url) → loading_of maps t [] ≡ no_loading maps → IsFetching t u
nothing_fetched t maps u e k s p at = let none = subst (λ us. place_in us u ≡ Some k) (ap (λ l. l.asked) e) p in cc

module _ (R : List RecordParts) (t l : Loads) (maps : Maps) (u : Url) (p : ℕ) (none : R ≡ []) (nothing : loading_of maps t [] ≡ no_loading maps)
    (asked : loading_of maps l R ≡ asks_entry (loading_of maps t R) u p) (first : p ≡ 0) (opens : OpensWithEntry) where
  opening_is : loading_of maps l R ≡ opening_loading maps every_form u 0
  opening_is =
      asked ∙ (ap (λ rs. asks_entry (loading_of maps t rs) u p) none
      ∙ (ap (λ k. asks_entry k u p) nothing
      ∙ (opens maps u p ∙ ap (opening_loading maps every_form u) first)))

  pub opened_seen : seen_of (imported R l maps conditions.Whole) ≡ opening_seen maps u
  opened_seen = λ i. record { loading = opening_is i; urls = ap (map url_of) none i; linked = ap linked_urls none i }

  pub opened_kept : IsSound R → FitRecords l R → StaysOrderly → StaysWhole → IsKept (imported R l maps conditions.Whole)
  opened_kept sound fits orderly whole = record {
    sound = sound;
    known = record {
      fits = fits;
      orderly = subst IsOrderly (sym opening_is) (orderly.opening maps every_form u);
      whole = subst IsWhole (sym opening_is) (whole.opening maps every_form u);
      loaded = λ id i r at past lt. let no = subst (λ (rs : List RecordParts). slice_get rs id ≡ Some r) none at in cc;
      idle = λ m. subst (λ rs. is_linking (status_of rs m) ≡ false) (sym none) refl;
    };
  }
