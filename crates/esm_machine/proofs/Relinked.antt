-- Records that are as they were but for what has become Linked: what is seen and known of them.
use Rattle.std.proofs.Common.{◌≡◌, ◌⊎◌, inl, inr, ℕ, suc, ◌<◌, true, false, List, [], ◌∷◌, map, length, Option, Some, None, refl, ap, subst, sym, ◌∙◌}
use Rattle.std.specs.Prelude.{slice_get, option_map}
use Rattle.std.proofs.lemmas.List.{length-map}
use Rattle.esm_base.specs.Urls.{Url}
use Rattle.esm_tree.specs.Syntax.{Item, Parts}
use Rattle.esm_import_map.specs.ImportMap.{Maps}
use Rattle.esm_realm.specs.declared.record.ModuleStatus.TheVariants as statuses
use Rattle.esm_realm.specs.ById.{status_by, status_of, is_linking, without_status}
use Rattle.esm_realm.specs.Sound.{RecordParts, url_of}
use Rattle.esm_loads.specs.Fits.{AreJoined, HaveRecords, RecordsMatch}
use Rattle.esm_loads.specs.Inner.Targets.{AreKnown, all_targets}
use Rattle.esm_loads.specs.Laws.{IsOrderly}
use Rattle.esm_loads.specs.Loaded.{HaveLoaded}
use Rattle.esm_loads.specs.LoadsAsLoading.{loading_of, trees_of}
use Rattle.esm_loads.specs.LoadsView.{at_url, entries_in, entry_at, entry_by, is_past_new, is_unlinked, is_unlinked_by, module_of, modules_in, tree_at, urls_of}
use Rattle.esm_loads.specs.Whole.{IsWhole}
use Rattle.esm_loads.specs.declared.data.Slot.{Slot}
use Rattle.esm_loads.specs.declared.data.UrlState.{UrlState}
use Rattle.esm_loads.specs.declared.data.UrlState.TheVariants as states
use Rattle.esm_loads.specs.declared.loads.Loads.{Loads}
use Rattle.esm_loads.proofs.Places.{some_is}
use Rattle.esm_loads.proofs.Lookups.{modules_same}
use Rattle.esm_link.specs.Scopes.{LeavesRecords}
use Rattle.esm_machine.specs.Kept.{GoesOn}
use Rattle.esm_machine.specs.ModuleStore.{imported}
use Rattle.esm_machine.specs.declared.condition.Condition.TheVariants as conditions

-- ---- records that differ in their statuses alone

abbrev Plain : Option RecordParts → Option RecordParts
Plain o = option_map without_status o

-- the other record
pub record IsLike (o : Option RecordParts) (r : RecordParts) : Type 0 where
  pub parts : RecordParts
  pub at : o ≡ Some parts
  pub same : without_status parts ≡ without_status r

pub like : (o p : Option RecordParts) → Plain o ≡ Plain p → (r : RecordParts) → o ≡ Some r → IsLike p r
like None p h r e = cc
like (Some q) None h r e = cc
like (Some q) (Some x) h r e = record { parts = x; at = refl; same = some_is (sym h) ∙ ap without_status (some_is e) }

pub same_urls : (N R : List RecordParts) → ((x : ℕ) → Plain (slice_get N x) ≡ Plain (slice_get R x)) → map url_of N ≡ map url_of R
same_urls [] [] h = refl
same_urls [] (r ∷ R) h = let e = h 0 in cc
same_urls (n ∷ N) [] h = let e = h 0 in cc
same_urls (n ∷ N) (r ∷ R) h =
    let one : n.url ≡ r.url = ap url_of (some_is (h 0)) in
    let rest = same_urls N R (λ x. h (suc x)) in
    λ i. one i ∷ rest i

pub same_targets : (N R : List RecordParts) → ((x : ℕ) → Plain (slice_get N x) ≡ Plain (slice_get R x)) → all_targets N ≡ all_targets R
same_targets [] [] h = refl
same_targets [] (r ∷ R) h = let e = h 0 in cc
same_targets (n ∷ N) [] h = let e = h 0 in cc
same_targets (n ∷ N) (r ∷ R) h =
    let one : n.targets ≡ r.targets = ap (λ (q : RecordParts). q.targets) (some_is (h 0)) in
    let rest = same_targets N R (λ x. h (suc x)) in
    λ i. one i ∷ rest i

pub past_by : (o : Option RecordParts) → is_unlinked_by o ≡ is_past_new (status_by o)
past_by None = refl
past_by (Some r) = refl

module_plain : (tree : List Item) (o : Option RecordParts) → module_of tree (Plain o) ≡ module_of tree o
module_plain tree None = refl
module_plain tree (Some r) = refl

module _ (trees : List Parts) (R N : List RecordParts) (leaves : LeavesRecords trees R N) where
  pub urls_same : map url_of N ≡ map url_of R
  urls_same = same_urls N R leaves.records

  pub long_same : length N ≡ length R
  long_same = sym (length-map N url_of) ∙ ap length urls_same ∙ length-map R url_of

  -- what is past New
  pub past_same : (x : ℕ) → is_unlinked N x ≡ is_unlinked R x
  past_same x = past_by (slice_get N x) ∙ by (leaves.statuses_are x) ∙ sym (past_by (slice_get R x))
    where
      by : (status_of N x ≡ status_of R x) ⊎ ((status_of R x ≡ statuses.Unlinked) × (status_of N x ≡ statuses.Linked))
          → is_past_new (status_of N x) ≡ is_past_new (status_of R x)
      by (inl e) = ap is_past_new e
      by (inr e) = ap is_past_new e.1 ∙ sym (ap is_past_new e.0)

  idle_same : ((x : ℕ) → is_linking (status_of R x) ≡ false) → (x : ℕ) → is_linking (status_of N x) ≡ false
  idle_same idle x = by (leaves.statuses_are x)
    where
      by : (status_of N x ≡ status_of R x) ⊎ ((status_of R x ≡ statuses.Unlinked) × (status_of N x ≡ statuses.Linked))
          → is_linking (status_of N x) ≡ false
      by (inl e) = ap is_linking e ∙ idle x
      by (inr e) = ap is_linking e.1

  before : (x : ℕ) (r : RecordParts) → slice_get N x ≡ Some r → IsLike (slice_get R x) r
  before x r e = like (slice_get N x) (slice_get R x) (leaves.records x) r e

  behind : (x : ℕ) (r : RecordParts) → slice_get R x ≡ Some r → IsLike (slice_get N x) r
  behind x r e = like (slice_get R x) (slice_get N x) (sym (leaves.records x)) r e

  -- ---- loading

  module _ (t : Loads) (maps : Maps) where
    state_same : (state : UrlState) → entry_at (trees_of t) N state ≡ entry_at (trees_of t) R state
    state_same states.Open = refl
    state_same states.Failed = refl
    state_same (states.Broken error) = refl
    state_same (states.Module id) =
        sym (module_plain (tree_at (trees_of t) id.0) (slice_get N id.0))
        ∙ ap (module_of (tree_at (trees_of t) id.0)) (leaves.records id.0)
        ∙ module_plain (tree_at (trees_of t) id.0) (slice_get R id.0)

    slot_same : (o : Option Slot) → entry_by (trees_of t) N o ≡ entry_by (trees_of t) R o
    slot_same None = refl
    slot_same (Some x) = state_same x.state

    entries_same : entries_in (trees_of t) N t.urls.slots ≡ entries_in (trees_of t) R t.urls.slots
    entries_same = λ i u. slot_same (at_url (urls_of t.urls.slots) t.urls.slots u) i

    unlinked_same : modules_in t.urls.slots (is_unlinked N) ≡ modules_in t.urls.slots (is_unlinked R)
    unlinked_same = modules_same t.urls.slots (is_unlinked N) (is_unlinked R) past_same

    pub loading_same : loading_of maps t N ≡ loading_of maps t R
    loading_same = λ i. record (loading_of maps t R) { entries = entries_same i; unlinked = unlinked_same i }

    -- ---- what is known

    have_same : (slots : List Slot) → HaveRecords slots R → HaveRecords slots N
    have_same slots h = record {
      kept = λ k id m.
          let x = h.kept k id m in
          let y = behind id x.parts x.is in
          record { parts = y.parts; is = y.at; under = ap url_of y.same ∙ x.under };
    }

    matching_same : (slots : List Slot) (trees : List (List Item)) → RecordsMatch slots trees R → RecordsMatch slots trees N
    matching_same slots trees m = record {
      have = have_same slots m.have;
      known = λ id r e. let x = before id r e in m.known id x.parts x.at;
      as_many = m.as_many ∙ sym long_same;
      entries = λ id r tree e f. let x = before id r e in sym (ap (λ (q : RecordParts). q.entries) x.same) ∙ m.entries id x.parts tree x.at f;
      spelled = m.spelled;
    }

    loaded_same : HaveLoaded R → HaveLoaded N
    loaded_same h id i r e past lt =
        let x = before id r e in
        let was : is_past_new x.parts.status ≡ true =
        sym (ap is_unlinked_by x.at) ∙ sym (past_same id) ∙ ap is_unlinked_by e ∙ past in
        let many : i < length x.parts.targets = subst (λ (ts : List Url). i < length ts) (sym (ap (λ (q : RecordParts). q.targets) x.same)) lt in
        let y = h id i x.parts x.at was many in
        let z = behind y.target.0 y.parts y.is in
        record {
          target = y.target;
          at = ap (λ (q : RecordParts). slice_get q.loaded i) (sym x.same) ∙ y.at;
          parts = z.parts;
          is = z.at;
          under = ap (λ (q : RecordParts). slice_get q.targets i) (sym x.same) ∙ y.under ∙ ap (λ (q : RecordParts). Some q.url) (sym z.same);
          past_new = sym (ap is_unlinked_by z.at) ∙ past_same y.target.0 ∙ ap is_unlinked_by y.is ∙ y.past_new;
        }

    pub goes_on_same : GoesOn (imported R t maps conditions.Whole) → GoesOn (imported N t maps conditions.Whole)
    goes_on_same k = record {
      fits = record {
        joined = subst (AreJoined t) (sym long_same) k.fits.joined;
        matching = matching_same t.urls.slots (trees_of t) k.fits.matching;
        known = subst (AreKnown (urls_of t.urls.slots) t.urls.starts t.urls.places) (sym (same_targets N R leaves.records)) k.fits.known;
        purposes = k.fits.purposes;
        few_calls = k.fits.few_calls;
      };
      orderly = subst IsOrderly (sym loading_same) k.orderly;
      whole = subst IsWhole (sym loading_same) k.whole;
      loaded = loaded_same k.loaded;
      idle = idle_same k.idle;
    }
