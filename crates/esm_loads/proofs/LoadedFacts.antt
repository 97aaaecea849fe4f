-- The requests of what is Unlinked have loaded their modules.
use Rattle.std.proofs.Common.{◌≡◌, ℕ, suc, zero, ◌<◌, Bool, true, false, List, [], ◌∷◌, ◌++◌, length, map, Option, Some, None, refl, ap, subst, sym, ◌∙◌, inl, inr}
use Rattle.std.specs.Prelude.{◌⊎◌, slice_get}
use Rattle.esm_base.specs.Urls.{Url}
use Rattle.esm_ast.specs.Entries.{entries_of}
use Rattle.esm_realm.specs.Sound.{RecordParts, new_record, url_of}
use Rattle.esm_realm.specs.declared.record.ModuleStatus.TheVariants.{New}
use Rattle.esm_import_map.specs.ImportMap.{Maps}
use Rattle.esm_loads.specs.UrlTable.{Found, Nothing, Faulty, Script, targets_in}
use Rattle.esm_loads.specs.Loading.{Loading, targets}
use Rattle.esm_loads.specs.Whole.{IsWhole, AreUnlinked}
use Rattle.esm_loads.specs.LoadsView.{entries_in, entry_at, module_of, tree_at, id_under, has_id, is_unlinked, is_unlinked_by, is_past_new, before_linking}
use Rattle.esm_loads.specs.LoadsAsLoading.{loading_of, trees_of}
use Rattle.esm_loads.specs.Fits.{FitRecords, records_with}
use Rattle.esm_loads.specs.Loaded.{HaveLoaded, IsLoadedAt}
use Rattle.esm_loads.specs.Inner.Filling.{FillsNew, IsFilled}
use Rattle.esm_loads.specs.declared.loads.Loads.{Loads}
use Rattle.esm_loads.proofs.Places.{some_is, get_within, get_push, get_kept}
use Rattle.esm_loads.proofs.Lookups.{under, id_of_module}
use Rattle.esm_loads.proofs.NextFacts.{entry_of}
use Rattle.esm_loads.proofs.Unlinks.{get_stale}

pub is_there : (set : ℕ → Bool) (o : Option ℕ) → has_id set o ≡ true → (j : ℕ) × (o ≡ Some j) × (set j ≡ true)
is_there set None e = cc
is_there set (Some j) e = (j, refl, e)

record_there : (o : Option RecordParts) → is_unlinked_by o ≡ true → (r : RecordParts) × (o ≡ Some r) × (is_past_new r.status ≡ true)
record_there None e = cc
record_there (Some r) e = (r, refl, e)

target_unlinked : (l : Loading) (ts : List Url) (i : ℕ) (u : Url) → AreUnlinked l ts → slice_get ts i ≡ Some u → l.unlinked u ≡ true
target_unlinked l [] i u h e = cc
target_unlinked l (t ∷ ts) zero u h e = subst (λ v. l.unlinked v ≡ true) (some_is e) h.0
target_unlinked l (t ∷ ts) (suc i) u h e = target_unlinked l ts i u h.1 e

-- a record stands under its URL
under_own : (t : Loads) (R : List RecordParts) → FitRecords t R → (id : ℕ) (r : RecordParts) → slice_get R id ≡ Some r → id_under t.urls.slots r.url ≡ Some id
under_own t R fit id r e =
    let m = fit.matching.known id r e in
    let h = fit.matching.have.kept m.0 id m.1 in
    let same : h.parts ≡ r = some_is (sym h.is ∙ e) in
    ap (id_under t.urls.slots) (ap url_of (sym same) ∙ h.under) ∙ id_of_module t.urls.slots m.0 id fit.joined.distinct m.1

own_targets : (maps : Maps) (t : Loads) (R : List RecordParts) → FitRecords t R → (id : ℕ) (r : RecordParts) → slice_get R id ≡ Some r → targets (loading_of maps t R) r.url ≡ r.targets
own_targets maps t R fit id r e =
    let m = fit.matching.known id r e in
    let h = fit.matching.have.kept m.0 id m.1 in
    let same : h.parts ≡ r = some_is (sym h.is ∙ e) in
    let entry = ap (entries_in (trees_of t) R t.urls.slots) (ap url_of (sym same) ∙ h.under)
    ∙ (entry_of (trees_of t) R t.urls.slots m.0 m.1.slot (length R) t fit.joined refl m.1.at
    ∙ (ap (entry_at (trees_of t) R) m.1.stands ∙ ap (module_of (tree_at (trees_of t) id)) e)) in
    ap targets_in entry

-- the target of a request of what isn't New, with its record
record IsTarget (t : Loads) (R : List RecordParts) (r : RecordParts) (i : ℕ) : Type 0 where
  pub url : Url
  pub at : slice_get r.targets i ≡ Some url
  pub id : ℕ
  pub there : id_under t.urls.slots url ≡ Some id
  pub parts : RecordParts
  pub is : slice_get R id ≡ Some parts
  pub past_new : is_past_new parts.status ≡ true
  pub own : parts.url ≡ url

target_is : (maps : Maps) (t : Loads) (R : List RecordParts) → FitRecords t R → IsWhole (loading_of maps t R) → (id i : ℕ) (r : RecordParts) → slice_get R id ≡ Some r → is_past_new r.status ≡ true → i < length r.targets → IsTarget t R r i
target_is maps t R fit whole id i r e p l =
    let L = loading_of maps t R in
    let u = get_within r.targets i l in
    let unlinked : L.unlinked r.url ≡ true = ap (has_id (is_unlinked R)) (under_own t R fit id r e) ∙ (ap is_unlinked_by e ∙ p) in
    let loaded = whole.loaded r.url unlinked in
    let j = is_there (is_unlinked R) (id_under t.urls.slots u.0) (target_unlinked L (targets L r.url) i u.0 loaded.targets_are (ap (λ ts. slice_get ts i) (own_targets maps t R fit id r e) ∙ u.1)) in
    let q = record_there (slice_get R j.0) j.2 in
    let x = under t.urls.slots u.0 j.0 j.1 in
    let h = fit.matching.have.kept x.place j.0 x.module_is in
    record { url = u.0; at = u.1; id = j.0; there = j.1; parts = q.0; is = q.1; past_new = q.2; own = ap url_of (some_is (sym q.1 ∙ h.is)) ∙ (h.under ∙ x.under) }

pub have_after : (maps : Maps) (t : Loads) (R R' : List RecordParts) → FitRecords t R' → IsWhole (loading_of maps t R') → map before_linking R' ≡ map before_linking R → FillsNew t.urls.slots R R' → HaveLoaded R → HaveLoaded R'
have_after maps t R R' fit whole same fills before id i r e p l =
    let x = target_is maps t R' fit whole id i r e p l in
    by (fills id r e p) x
  where
    by : (slice_get R id ≡ Some r) ⊎ IsFilled t.urls.slots r → IsTarget t R' r i → IsLoadedAt R' r i
    by (inl old) x =
        let y = before id i r old p l in
        let q = get_stale R R' same y.target.0 y.parts y.is in
        let url : q.0.url ≡ x.url = ap url_of q.2 ∙ some_is (sym y.under ∙ x.at) in
        let one : x.id ≡ y.target.0 = some_is (sym x.there ∙ (ap (id_under t.urls.slots) (sym url) ∙ under_own t R' fit y.target.0 q.0 q.1)) in
        record { target = y.target; at = y.at; parts = x.parts; is = ap (slice_get R') (sym one) ∙ x.is; under = x.at ∙ ap (λ u. Some u) (sym x.own); past_new = x.past_new }
    by (inr filled) x = record { target = record { 0 = x.id }; at = filled i x.id x.url l x.at x.there; parts = x.parts; is = x.is; under = x.at ∙ ap (λ u. Some u) (sym x.own); past_new = x.past_new }

-- ---- one record more

have_push : (R : List RecordParts) (q : RecordParts) → q.status ≡ New → HaveLoaded R → HaveLoaded (R ++ q ∷ [])
have_push R q st h id i r e p l = by (get_push R q id r e)
  where
    by : (slice_get R id ≡ Some r) ⊎ ((id ≡ length R) × (r ≡ q)) → IsLoadedAt (R ++ q ∷ []) r i
    by (inl g) = let x = h id i r g p l in record { target = x.target; at = x.at; parts = x.parts; is = get_kept R (q ∷ []) x.target.0 x.parts x.is; under = x.under; past_new = x.past_new }
    by (inr g) = let f : is_past_new r.status ≡ false = ap (λ (r : RecordParts). is_past_new r.status) g.1 ∙ ap is_past_new st in cc

pub have_with : (R : List RecordParts) (url : Url) (f : Found) → HaveLoaded R → HaveLoaded (records_with R url f)
have_with R url Nothing h = h
have_with R url (Faulty f) h = h
have_with R url (Script m) h = have_push R (new_record url (entries_of m.body) m.targets) refl h
