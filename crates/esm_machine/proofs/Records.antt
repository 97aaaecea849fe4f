-- Records of modules: their numbers, and what stands under their URLs.
use mathlib.Core.Bool.{true≢false}
use Rattle.std.proofs.Common.{◌≡◌, ◌⊎◌, inl, inr, ℕ, zero, suc, ◌<◌, Bool, true, false, cond, List, [], ◌∷◌, map, length, Some, refl, ap, subst, sym, ◌∙◌, arith}
use Rattle.std.specs.Prelude.{slice_get}
use Rattle.esm_base.specs.Urls.{has, same_url}
use Rattle.esm_import_map.specs.ImportMap.{Maps}
use Rattle.esm_ast.specs.Entries.{EntryLists, entries_of}
use Rattle.esm_realm.specs.Laws.{AreDistinct}
use Rattle.esm_realm.specs.ById.{entries_at, entries_by, loaded_at, loaded_by}
use Rattle.esm_realm.specs.Sound.{RecordParts, IsSound, IsSoundRecord, url_of}
use Rattle.esm_realm.specs.declared.record.ModuleStatus.{ModuleStatus}
use Rattle.esm_realm.specs.declared.record.ModuleStatus.TheVariants as statuses
use Rattle.esm_realm.proofs.Urls.{same_text}
use Rattle.esm_values.proofs.Numbered.{numbers_urls}
use Rattle.esm_loads.specs.UrlTable.{Module, targets_in, body_in}
use Rattle.esm_loads.specs.LoadsView.{tree_at, entries_in, entry_at, module_of, is_past_new, url_at}
use Rattle.esm_loads.specs.LoadsAsLoading.{loading_of, trees_of}
use Rattle.esm_loads.specs.Fits.{FitRecords}
use Rattle.esm_loads.specs.Loaded.{HaveLoaded}
use Rattle.esm_loads.specs.declared.loads.Loads.{Loads}
use Rattle.esm_loads.proofs.Places.{some_is, get_map, get_within, all_get, at_place}
use Rattle.esm_loads.proofs.PlacesOfUrls.{listed}
use Rattle.esm_loads.proofs.NextFacts.{entry_of}
use Rattle.esm_link.specs.Realm.{is_linked}
use Rattle.esm_machine.specs.ModuleStore.{linked_urls, loaded_or}
use Rattle.esm_machine.specs.Inner.Numbers.{number, number_url}
use Rattle.esm_machine.specs.Inner.Importing.{or_true, Linked, Named, among, short}

-- ---- numbers

-- the number of a record names its URL
pub name_is : (R : List RecordParts) (id : ℕ) (r : RecordParts) → AreDistinct (map url_of R) → slice_get R id ≡ Some r → Named R id ≡ r.url
name_is R id r d e = numbers_urls.begins (map url_of R) id r.url d (get_map url_of R id r e)

pub number_is : (R : List RecordParts) (id : ℕ) (r : RecordParts) → AreDistinct (map url_of R) → slice_get R id ≡ Some r → number (map url_of R) r.url ≡ id
number_is R id r d e = ap (number (map url_of R)) (sym (name_is R id r d e)) ∙ number_url (map url_of R) id

-- ---- what is linked

-- the record of a linked URL is Linked
pub linked_status : (R : List RecordParts) (id : ℕ) (r : RecordParts) → AreDistinct (map url_of R) → slice_get R id ≡ Some r → has (linked_urls R) r.url ≡ true → is_linked r.status ≡ true
linked_status [] id r d e h = cc
linked_status (q ∷ R) zero r d e h = by (is_linked q.status) refl h
  where
    same : q ≡ r
    same = some_is e

    by : (b : Bool) → is_linked q.status ≡ b → has (map url_of (cond b (q ∷ Linked R) (Linked R))) r.url ≡ true → is_linked r.status ≡ true
    by true f k = subst (λ (p : RecordParts). is_linked p.status ≡ true) same f
    by false f k = absurd (true≢false (sym (among R q.url (subst (λ (p : RecordParts). has (map url_of (Linked R)) p.url ≡ true) (sym same) k)) ∙ d.0))
linked_status (q ∷ R) (suc id) r d e h = by (is_linked q.status) h (linked_status R id r d.1 e)
  where
    one : (same_url r.url q.url ≡ true) ⊎ (has (map url_of (Linked R)) r.url ≡ true) → (has (map url_of (Linked R)) r.url ≡ true → is_linked r.status ≡ true) → is_linked r.status ≡ true
    one (inl s) later = absurd (true≢false (sym (subst (λ u. has (map url_of R) u ≡ true) (same_text r.url q.url s) (listed (map url_of R) id r.url (get_map url_of R id r e))) ∙ d.0))
    one (inr k) later = later k

    by : (b : Bool) → has (map url_of (cond b (q ∷ Linked R) (Linked R))) r.url ≡ true → (has (map url_of (Linked R)) r.url ≡ true → is_linked r.status ≡ true) → is_linked r.status ≡ true
    by true k later = one (or_true (same_url r.url q.url) (has (map url_of (Linked R)) r.url) k) later
    by false k later = later k

-- the Linked record with a number
pub record IsLinkedRecord (R : List RecordParts) (m : ℕ) : Type 0 where
  pub parts : RecordParts
  pub at : slice_get R m ≡ Some parts
  pub linked : is_linked parts.status ≡ true

pub linked_record : (R : List RecordParts) (m : ℕ) → AreDistinct (map url_of R) → has (linked_urls R) (Named R m) ≡ true → IsLinkedRecord R m
linked_record R m d h =
    let g = get_within R m (short R m h) in
    record {
      parts = g.0;
      at = g.1;
      linked = linked_status R m g.0 d g.1 (subst (λ u. has (linked_urls R) u ≡ true) (name_is R m g.0 d g.1) h);
    }

pub past_new : (status : ModuleStatus) → is_linked status ≡ true → is_past_new status ≡ true
past_new statuses.New h = h
past_new statuses.Unlinked h = refl
past_new statuses.Linking h = refl
past_new statuses.Linked h = refl

-- ---- what stands under the URLs

module _ (maps : Maps) (t : Loads) (R : List RecordParts) (fits : FitRecords t R) where
  -- under the URL of a record stands its module
  pub entry_under : (id : ℕ) (r : RecordParts) → slice_get R id ≡ Some r
      → (loading_of maps t R).entries r.url ≡ Some (Module (record { body = tree_at (trees_of t) id; targets = r.targets }))
  entry_under id r e =
      let m = fits.matching.known id r e in
      let h = fits.matching.have.kept m.0 id m.1 in
      let same : h.parts ≡ r = some_is (sym h.is ∙ e) in
      ap (entries_in (trees_of t) R t.urls.slots) (ap url_of (sym same) ∙ h.under)
      ∙ (entry_of (trees_of t) R t.urls.slots m.0 m.1.slot (length R) t fits.joined refl m.1.at
      ∙ (ap (entry_at (trees_of t) R) m.1.stands ∙ ap (module_of (tree_at (trees_of t) id)) e))

  -- its tree has the entries of the record
  pub entries_under : (id : ℕ) (r : RecordParts) → slice_get R id ≡ Some r → r.entries ≡ entries_of (body_in ((loading_of maps t R).entries r.url))
  entries_under id r e =
      let few : length (trees_of t) ≡ length R = fits.matching.as_many in
      let tree = get_within (trees_of t) id (subst (λ n. id < n) (sym few) (within R id r e)) in
      fits.matching.entries id r tree.0 e tree.1
      ∙ ap entries_of (sym (at_place (trees_of t) id tree.0 [] tree.1) ∙ sym (ap body_in (entry_under id r e)))
    where
      within : (qs : List RecordParts) (k : ℕ) (r : RecordParts) → slice_get qs k ≡ Some r → k < length qs
      within [] k r e = cc
      within (q ∷ qs) zero r e = omega arith
      within (q ∷ qs) (suc k) r e = let l = within qs k r e in omega (arith, l)

  module _ (sound : IsSound R) where
    pub entries_read : (m : ℕ) → m < length R → entries_at R m ≡ entries_of (body_in ((loading_of maps t R).entries (Named R m)))
    entries_read m lt =
        let g = get_within R m lt in
        ap entries_by g.1 ∙ (entries_under m g.0 g.1 ∙ ap (λ u. entries_of (body_in ((loading_of maps t R).entries u))) (sym (name_is R m g.0 sound.differ g.1)))

    -- the module that a request of a linked module has loaded is the one under the URL of its target
    pub target_read : HaveLoaded R → (m i : ℕ) → has (linked_urls R) (Named R m) ≡ true
        → i < length (entries_of (body_in ((loading_of maps t R).entries (Named R m)))).requests
        → loaded_or m (slice_get (loaded_at R m) i) ≡ number (map url_of R) (url_at (targets_in ((loading_of maps t R).entries (Named R m))) i)
    target_read loaded m i h lt =
        let l = linked_record R m sound.differ h in
        let r = l.parts in
        let named : Named R m ≡ r.url = name_is R m r sound.differ l.at in
        let each = all_get (λ (r : RecordParts). IsSoundRecord r.url r.entries r.targets) R m r sound.each l.at in
        let long : length (entries_of (body_in ((loading_of maps t R).entries (Named R m)))).requests ≡ length r.targets =
        ap (λ u. length (entries_of (body_in ((loading_of maps t R).entries u))).requests) named
        ∙ (ap (λ (es : EntryLists). length es.requests) (sym (entries_under m r l.at)) ∙ sym each.as_many) in
        let is = loaded m i r l.at (past_new r.status l.linked) (subst (λ n. i < n) long lt) in
        let found : loaded_or m (slice_get (loaded_at R m) i) ≡ is.target.0 = ap (λ o. loaded_or m (slice_get (loaded_by o) i)) l.at ∙ ap (loaded_or m) is.at in
        let under : url_at (targets_in ((loading_of maps t R).entries (Named R m))) i ≡ is.parts.url =
        ap (λ u. url_at (targets_in ((loading_of maps t R).entries u)) i) named
        ∙ (ap (λ o. url_at (targets_in o) i) (entry_under m r l.at) ∙ at_place r.targets i is.parts.url [] is.under) in
        found ∙ sym (ap (number (map url_of R)) under ∙ number_is R is.target.0 is.parts sound.differ is.is)
