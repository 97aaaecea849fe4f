-- What is seen of modules, and what their records say: what is Linked, what is past New, and the modules that are past New.
use Rattle.std.proofs.Common.{◌≡◌, ◌⊎◌, inl, inr, ℕ, zero, suc, ◌<◌, Bool, true, false, cond, List, [], ◌∷◌, map, length, Option, Some, None, refl, ap, subst, sym, ◌∙◌, arith, All}
use Rattle.std.specs.Prelude.{slice_get, IfSome}
use Rattle.std.specs.Arc.{arc_value}
use Rattle.std.specs.declared.alloc.Global.{Global}
use Rattle.std.specs.declared.sync.Arc.{Arc}
use Rattle.std.proofs.lemmas.List.Elements.{All-filter}
use Rattle.esm_base.specs.Urls.{Url, IsUsable, has, same_url}
use Rattle.esm_base.specs.declared.module_id.ModuleId.{ModuleId}
use Rattle.esm_import_map.specs.ImportMap.{Maps}
use Rattle.esm_tree.specs.Syntax.{Item, Parts}
use Rattle.esm_ast.specs.Entries.{EntryLists, entries_of}
use Rattle.esm_realm.specs.Laws.{AreDistinct}
use Rattle.esm_realm.specs.ById.{status_by, status_of, url_at, url_by, loaded_by, target_at, target_by}
use Rattle.esm_realm.specs.Sound.{RecordParts, IsSound, IsSoundRecord, url_of}
use Rattle.esm_realm.proofs.Urls.{not_true, or_left, or_true, or_cases, own_text, same_text}
use Rattle.esm_env.specs.Modules.{entries}
use Rattle.esm_loads.specs.Arrival.{open_asks}
use Rattle.esm_loads.specs.Loading.{Loading, targets, is_fetching}
use Rattle.esm_loads.specs.LoadsAsLoading.{loading_of}
use Rattle.esm_loads.specs.LoadsView.{has_id, id_under, is_past_new, is_unlinked, is_unlinked_by, tree_at, tree_items}
use Rattle.esm_loads.specs.UrlTable.{TableEntry, targets_in, body_in}
use Rattle.esm_loads.specs.Whole.{is_module, AreUnlinked}
use Rattle.esm_loads.specs.declared.loads.Loads.{Loads}
use Rattle.esm_loads.proofs.Places.{some_is, all_get, at_place}
use Rattle.esm_loads.proofs.LoadedFacts.{is_there}
use Rattle.esm_loads.proofs.Lookups.{id_of_module, one_url}
use Rattle.esm_link.specs.Local.{AreWhole, AgreeOn}
use Rattle.esm_link.specs.Realm.{is_linked, items_at, modules_of}
use Rattle.esm_loads.specs.LoadsView as loads_view
use Rattle.esm_world.proofs.FitLists.{place_below, place_names}
use Rattle.esm_machine.specs.Kept.{GoesOn}
use Rattle.esm_machine.specs.ModuleStore.{imported, linked_urls, seen_of}
use Rattle.esm_machine.specs.Seen.{Seen, modules}
use Rattle.esm_machine.specs.declared.condition.Condition.TheVariants as conditions
use Rattle.esm_machine.specs.Inner.Importing.{Linked, Named}
use Rattle.esm_machine.specs.Inner.Numbers.{number, url_number, number_url}
use Rattle.esm_machine.proofs.Records.{name_is, number_is, linked_record, entry_under, entries_under}
use Rattle.esm_machine.proofs.Fetched.{open_unfetched}

pub alike : (a b : Bool) → (a ≡ true → b ≡ true) → (b ≡ true → a ≡ true) → a ≡ b
alike true true f g = refl
alike false false f g = refl
alike true false f g = sym (f refl)
alike false true f g = g refl

-- ---- what is Linked

linked_has : (R : List RecordParts) (id : ℕ) (r : RecordParts) → slice_get R id ≡ Some r → is_linked r.status ≡ true → has (linked_urls R) r.url ≡ true
linked_has [] id r e l = cc
linked_has (q ∷ R) zero r e l =
    let same : q ≡ r = some_is e in
    subst (λ b. has (map url_of (cond b (q ∷ Linked R) (Linked R))) r.url ≡ true) (sym (ap (λ (p : RecordParts). is_linked p.status) same ∙ l))
    (or_left (same_url r.url q.url) (has (map url_of (Linked R)) r.url) (subst (λ (p : RecordParts). same_url r.url p.url ≡ true) (sym same) (own_text r.url)))
linked_has (q ∷ R) (suc id) r e l = by (is_linked q.status) (linked_has R id r e l)
  where
    by : (b : Bool) → has (linked_urls R) r.url ≡ true → has (map url_of (cond b (q ∷ Linked R) (Linked R))) r.url ≡ true
    by true h = or_true (same_url r.url q.url) (has (map url_of (Linked R)) r.url) h
    by false h = h

-- a record whose status is this
pub record HasStatus (R : List RecordParts) (m : ℕ) : Type 0 where
  pub parts : RecordParts
  pub at : slice_get R m ≡ Some parts
  pub linked : is_linked parts.status ≡ true

pub status_linked : (R : List RecordParts) (m : ℕ) → is_linked (status_of R m) ≡ true → HasStatus R m
status_linked R m h = by (slice_get R m) refl h
  where
    by : (o : Option RecordParts) → slice_get R m ≡ o → is_linked (status_by o) ≡ true → HasStatus R m
    by None e h = cc
    by (Some r) e h = record { parts = r; at = e; linked = h }

pub linked_is : (R : List RecordParts) (m : ℕ) → AreDistinct (map url_of R) → has (linked_urls R) (Named R m) ≡ is_linked (status_of R m)
linked_is R m d = alike (has (linked_urls R) (Named R m)) (is_linked (status_of R m))
    (λ h. let l = linked_record R m d h in ap (λ o. is_linked (status_by o)) l.at ∙ l.linked)
    (λ h. let g = status_linked R m h in subst (λ u. has (linked_urls R) u ≡ true) (sym (name_is R m g.parts d g.at)) (linked_has R m g.parts g.at g.linked))

-- ---- what is past New

-- a module that isn't New has its record
pub record IsPastNew (R : List RecordParts) (m : ℕ) : Type 0 where
  pub parts : RecordParts
  pub at : slice_get R m ≡ Some parts
  pub past_new : is_past_new parts.status ≡ true

pub past_new_record : (R : List RecordParts) (m : ℕ) → is_unlinked R m ≡ true → IsPastNew R m
past_new_record R m h = by (slice_get R m) refl h
  where
    by : (o : Option RecordParts) → slice_get R m ≡ o → is_unlinked_by o ≡ true → IsPastNew R m
    by None e h = cc
    by (Some r) e h = record { parts = r; at = e; past_new = h }

pub below_records : (R : List RecordParts) (m : ℕ) (r : RecordParts) → slice_get R m ≡ Some r → m < length R
below_records [] m r e = cc
below_records (q ∷ R) zero r e = omega arith
below_records (q ∷ R) (suc m) r e = let l = below_records R m r e in omega (arith, l)

pub past_new_below : (R : List RecordParts) (m : ℕ) → is_unlinked R m ≡ true → m < length R
past_new_below R m h = let p = past_new_record R m h in below_records R m p.parts p.at

-- the record with a URL
pub record HasUrl (R : List RecordParts) (u : Url) : Type 0 where
  pub id : ℕ
  pub parts : RecordParts
  pub at : slice_get R id ≡ Some parts
  pub is : parts.url ≡ u

pub record_of : (R : List RecordParts) (u : Url) → has (map url_of R) u ≡ true → HasUrl R u
record_of [] u h = cc
record_of (r ∷ R) u h = by (or_cases (same_url u r.url) (has (map url_of R) u) h) (record_of R u)
  where
    by : (same_url u r.url ≡ true) ⊎ (has (map url_of R) u ≡ true) → (has (map url_of R) u ≡ true → HasUrl R u) → HasUrl (r ∷ R) u
    by (inl s) rest = record { id = 0; parts = r; at = refl; is = sym (same_text u r.url s) }
    by (inr k) rest = let x = rest k in record { id = suc x.id; parts = x.parts; at = x.at; is = x.is }

-- ---- trees

pub items_same : (ts : List (Arc Parts Global)) (m : ℕ) → items_at (map arc_value ts) m ≡ tree_at (map tree_items ts) m
items_same [] m = refl
items_same (x ∷ ts) zero = refl
items_same (x ∷ ts) (suc m) = items_same ts m

-- ---- targets

pub target_loaded : (l : Loading) (ts : List Url) (i : ℕ) → AreUnlinked l ts → i < length ts → l.unlinked (loads_view.url_at ts i) ≡ true
target_loaded l [] i h lt = absurd (omega (arith, lt))
target_loaded l (t ∷ ts) zero h lt = h.0
target_loaded l (t ∷ ts) (suc i) h lt = target_loaded l ts i h.1 (omega (arith, lt))

pub fetched_module : (o : Option TableEntry) → is_module o ≡ true → is_fetching o ≡ false
fetched_module None e = cc
fetched_module (Some x) e = refl

-- ---- as long as nothing was refused

module _ (R : List RecordParts) (t : Loads) (maps : Maps) (s : IsSound R) (k : GoesOn (imported R t maps conditions.Whole)) where
  abbrev L : Loading
  L = loading_of maps t R

  abbrev S : Seen
  S = seen_of (imported R t maps conditions.Whole)

  abbrev T : List Parts
  T = map arc_value t.trees.items

  abbrev There : ℕ → Type 0
  There m = is_unlinked R m ≡ true

  -- a record stands under its URL
  under_own : (id : ℕ) (r : RecordParts) → slice_get R id ≡ Some r → id_under t.urls.slots r.url ≡ Some id
  under_own id r e =
      let m = k.fits.matching.known id r e in
      let h = k.fits.matching.have.kept m.0 id m.1 in
      let same : h.parts ≡ r = some_is (sym h.is ∙ e) in
      ap (id_under t.urls.slots) (ap url_of (sym same) ∙ h.under) ∙ id_of_module t.urls.slots m.0 id k.fits.joined.distinct m.1

  pub unlinked_is : (m : ℕ) → L.unlinked (Named R m) ≡ is_unlinked R m
  unlinked_is m = alike (L.unlinked (Named R m)) (is_unlinked R m)
      (λ h.
      let j = is_there (is_unlinked R) (id_under t.urls.slots (Named R m)) h in
      let p = past_new_record R j.0 j.2 in
      let url : p.parts.url ≡ Named R m = one_url t.urls.slots R (Named R m) p.parts.url j.0 k.fits.matching.have j.1 (under_own j.0 p.parts p.at) in
      let id : j.0 ≡ m = sym (number_is R j.0 p.parts s.differ p.at) ∙ ap (number (map url_of R)) url ∙ number_url (map url_of R) m in
      subst (λ n. is_unlinked R n ≡ true) id j.2)
      (λ h.
      let p = past_new_record R m h in
      ap (has_id (is_unlinked R)) (ap (id_under t.urls.slots) (name_is R m p.parts s.differ p.at) ∙ under_own m p.parts p.at) ∙ h)

  -- an Unlinked URL is that of a module that isn't New
  pub named_there : (u : Url) → L.unlinked u ≡ true → There (number (map url_of R) u)
  named_there u h =
      sym (unlinked_is (number (map url_of R) u)) ∙ ap L.unlinked (url_number (map url_of R) u) ∙ h

  pub asks_new : (u : Url) → has (open_asks L) u ≡ true → has (map url_of R) u ≡ false
  asks_new u h = not_true (has (map url_of R) u) (λ e.
      let r = record_of R u e in
      let none : L.entries r.parts.url ≡ None = ap L.entries r.is ∙ open_unfetched L u h in
      let some = entry_under maps t R k.fits r.id r.parts r.at in
      absurd cc)

  pub asks_usable : All IsUsable (open_asks L)
  asks_usable = All-filter (λ u. is_fetching (L.entries u)) IsUsable L.asked k.fits.joined.usable

  pub root_seen : (o : Option ModuleId) → IfSome o (λ m. is_unlinked R m.0 ≡ true) → IfSome o (λ m. L.unlinked (Named R m.0) ≡ true)
  root_seen None h = tt
  root_seen (Some m) h = unlinked_is m.0 ∙ h

  -- ---- a module that isn't New

  module _ (m : ℕ) (p : There m) where
    abbrev P : IsPastNew R m
    P = past_new_record R m p

    pub named : Named R m ≡ P.parts.url
    named = name_is R m P.parts s.differ P.at

    pub loaded_url : L.unlinked (Named R m) ≡ true
    loaded_url = unlinked_is m ∙ p

    asked : has L.asked (Named R m) ≡ true
    asked = k.orderly.fetched (Named R m) (fetched_module (L.entries (Named R m)) (k.whole.loaded (Named R m) loaded_url).stands)

    -- its number is that of its URL
    pub number_named : (modules S).named ((modules S).number m) ≡ m
    number_named = ap (number (map url_of R)) (place_names L.asked (Named R m) asked) ∙ number_url (map url_of R) m

    pub number_below : (modules S).number m < (modules S).size
    number_below = place_below L.asked (Named R m) asked

    pub same_url_at : (modules S).url m ≡ url_at R m
    same_url_at = named ∙ sym (ap url_by P.at)

    pub same_tree : (modules S).tree m ≡ items_at T m
    same_tree =
        ap (λ u. body_in (L.entries u)) named
        ∙ ap body_in (entry_under maps t R k.fits m P.parts P.at)
        ∙ sym (items_same t.trees.items m)

    pub requests_many : length (entries (modules S) m).requests ≡ length P.parts.targets
    requests_many =
        let each = all_get (λ (r : RecordParts). IsSoundRecord r.url r.entries r.targets) R m P.parts s.each P.at in
        ap (λ u. length (entries_of (body_in (L.entries u))).requests) named
        ∙ ap (λ (es : EntryLists). length es.requests) (sym (entries_under maps t R k.fits m P.parts P.at)) ∙ sym each.as_many

    targets_are : targets L (Named R m) ≡ P.parts.targets
    targets_are = ap (targets L) named ∙ ap targets_in (entry_under maps t R k.fits m P.parts P.at)

    module _ (i : ℕ) (lt : i < length (entries (modules S) m).requests) where
      within : i < length P.parts.targets
      within = subst (λ n. i < n) requests_many lt

      -- the URL of the target of a request is Unlinked
      pub target_url : L.unlinked (loads_view.url_at (targets L (Named R m)) i) ≡ true
      target_url = target_loaded L (targets L (Named R m)) i (k.whole.loaded (Named R m) loaded_url).targets_are (subst (λ ts. i < length ts) (sym targets_are) within)

      -- the target of a request isn't New
      pub target_there : There ((modules S).target m i)
      target_there = named_there (loads_view.url_at (targets L (Named R m)) i) target_url

      pub same_target : (modules S).target m i ≡ target_at R m i
      same_target =
          let is = k.loaded m i P.parts P.at P.past_new within in
          let found : target_at R m i ≡ is.target.0 = ap (λ o. target_by (slice_get (loaded_by o) i)) P.at ∙ ap target_by is.at in
          let under : loads_view.url_at (targets L (Named R m)) i ≡ is.parts.url = ap (λ ts. loads_view.url_at ts i) targets_are ∙ at_place P.parts.targets i is.parts.url [] is.under in
          ap (number (map url_of R)) under ∙ number_is R is.target.0 is.parts s.differ is.is ∙ sym found

  -- ---- the modules that aren't New

  pub whole_seen : AreWhole (modules S) (is_unlinked R)
  whole_seen = record { targets = λ m i p lt. target_there m p i lt; named = λ m p. number_named m p }

  -- they are those of the records
  pub agree_records : AgreeOn (modules S) (modules_of T R) (is_unlinked R)
  agree_records = record {
    whole = whole_seen;
    url = λ m p. sym (same_url_at m p);
    tree = λ m p. sym (same_tree m p);
    target = λ m i p lt. sym (same_target m p i lt);
    named = λ m p. refl;
  }

  pub within_seen : (m i : ℕ) → There m → i < length (entries (modules_of T R) m).requests → i < length (entries (modules S) m).requests
  within_seen m i p lt = subst (λ (items : List Item). i < length (entries_of items).requests) (sym (same_tree m p)) lt

  pub whole_records : AreWhole (modules_of T R) (is_unlinked R)
  whole_records = record {
    targets = λ m i p lt. subst There (same_target m p i (within_seen m i p lt)) (target_there m p i (within_seen m i p lt));
    named = λ m p. refl;
  }

  pub agree_seen : AgreeOn (modules_of T R) (modules S) (is_unlinked R)
  agree_seen = record {
    whole = whole_records;
    url = λ m p. same_url_at m p;
    tree = λ m p. same_tree m p;
    target = λ m i p lt. same_target m p i (within_seen m i p lt);
    named = λ m p. number_named m p;
  }
