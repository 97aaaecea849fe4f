-- What is read of the records is what is seen of modules, as long as nothing is lost.
use Rattle.std.proofs.Common.{◌≡◌, ℕ, zero, suc, ◌<◌, Bool, true, false, List, [], ◌∷◌, map, length, Option, Some, None, refl, ap, subst, sym, ◌∙◌, arith, inl, inr}
use Rattle.std.specs.Prelude.{◌⊎◌, ◌&&◌, nat_lt, if◌then◌else◌, slice_get, All, IfSome}
use Rattle.std.specs.Option.{option_map}
use Rattle.std.proofs.lemmas.Bool.Decides.{nat_tests}
use Rattle.std.proofs.lemmas.List.Elements.{All-head, All-tail}
use Rattle.esm_base.specs.Urls.{Url, IsUsable, has, same_url}
use Rattle.esm_base.specs.declared.module_id.ModuleId.{ModuleId}
use Rattle.esm_import_map.specs.ImportMap.{Maps}
use Rattle.esm_realm.specs.ById.{entries_at, loaded_at, loaded_by, url_at, url_by}
use Rattle.esm_realm.specs.Sound.{RecordParts, IsSound, AreLoaded, url_of}
use Rattle.esm_realm.proofs.Urls.{or_cases, same_text}
use Rattle.esm_env.specs.Modules.{entries}
use Rattle.esm_loads.specs.Arrival.{open_asks}
use Rattle.esm_loads.specs.Loading.{Loading, import_promise}
use Rattle.esm_loads.specs.Loaded.{root_url}
use Rattle.esm_loads.specs.LoadsView.{is_unlinked}
use Rattle.esm_loads.specs.LoadsAsLoading.{loading_of}
use Rattle.esm_loads.specs.declared.loads.Loads.{Loads}
use Rattle.esm_loads.proofs.Places.{get_within, all_get}
use Rattle.esm_loads.proofs.ReadFacts.{past_end}
use Rattle.esm_link.specs.Scopes.{linked_in}
use Rattle.esm_machine.specs.Seen.{modules, linked}
use Rattle.esm_machine.specs.ModuleStore.{Imported, imported, is_whole, limit_by, known_linked, linked_urls, loading_by, seen_of, size_by, loaded_or, or_itself, target_of, graph_of, urls_by_id}
use Rattle.esm_machine.specs.Kept.{Show, GoesOn, IsKept, RecordsShow}
use Rattle.esm_machine.specs.declared.condition.Condition.{Condition}
use Rattle.esm_machine.specs.declared.condition.Condition.TheVariants as conditions
use Rattle.esm_machine.specs.Inner.Importing.{Named, among, lt_true}
use Rattle.esm_machine.proofs.Records.{name_is, entries_read, target_read}
use Rattle.esm_machine.proofs.SeenRecords.{linked_is, unlinked_is, asks_new, asks_usable, root_seen}

pub shows : (R : List RecordParts) (t : Loads) (maps : Maps) → IsSound R → GoesOn (imported R t maps conditions.Whole) → Show R (seen_of (imported R t maps conditions.Whole))
shows R t maps s k = record {
  entries_are = entries_read maps t R k.fits s;
  targets_are = target_read maps t R k.fits s k.loaded;
}

-- ---- entries

pub entries_right : (c : Condition) (R : List RecordParts) (t : Loads) (maps : Maps) → IsKept (imported R t maps c) → (m : ℕ) → m < size_by c (length R)
    → entries_at R m ≡ entries (modules (seen_of (imported R t maps c))) m
entries_right conditions.Whole R t maps k m lt = (shows R t maps k.sound k.known).entries_are m lt
entries_right (conditions.Stopped limit) R t maps k m lt = k.known.entries_are m lt
entries_right conditions.Lost R t maps k m lt = absurd (omega arith)

-- ---- targets

below_each : (n m : ℕ) (ls : List (Option ModuleId)) (i : ℕ) → m < n → All (λ (l : Option ModuleId). IfSome l (λ x. x.0 < n)) ls → loaded_or m (slice_get ls i) < n
below_each n m ls i lt each = by (slice_get ls i) refl
  where
    by : (o : Option (Option ModuleId)) → slice_get ls i ≡ o → loaded_or m o < n
    by None e = lt
    by (Some None) e = lt
    by (Some (Some target)) e = all_get (λ (l : Option ModuleId). IfSome l (λ x. x.0 < n)) ls i (Some target) each e

below_size : (R : List RecordParts) (m i : ℕ) → IsSound R → m < length R → loaded_or m (slice_get (loaded_at R m) i) < length R
below_size R m i s lt =
    let g = get_within R m lt in
    let each = all_get (λ (r : RecordParts). AreLoaded (length R) r.entries r.loaded) R m g.0 s.loaded g.1 in
    subst (λ ls. loaded_or m (slice_get ls i) < length R) (sym (ap loaded_by g.1)) (below_each (length R) m g.0.loaded i lt each.inside)

chosen : (b : Bool) (t v : ℕ) → (b ≡ true → v ≡ t) → (if b then t else v) ≡ v
chosen true t v h = sym (h refl)
chosen false t v h = refl

clamps : (size m v : ℕ) → v < size → or_itself size m v ≡ v
clamps size m v lt = ap (λ b. if b then v else m) (lt_true v size lt)

same_target : (R : List RecordParts) (t : Loads) (maps : Maps) (c : Condition) (m i : ℕ) → IsSound R → m < length R
    → (linked (seen_of (imported R t maps c)) m ≡ true → loaded_or m (slice_get (loaded_at R m) i) ≡ (modules (seen_of (imported R t maps c))).target m i)
    → or_itself (length R) m (target_of (imported R t maps c) m i) ≡ loaded_or m (slice_get (loaded_at R m) i)
same_target R t maps c m i s lt h =
    let v : ℕ = loaded_or m (slice_get (loaded_at R m) i) in
    ap (or_itself (length R) m) (chosen (linked (seen_of (imported R t maps c)) m) ((modules (seen_of (imported R t maps c))).target m i) v h)
    ∙ clamps (length R) m v (below_size R m i s lt)

pub target_right : (c : Condition) (R : List RecordParts) (t : Loads) (maps : Maps) → IsKept (imported R t maps c) → (m i : ℕ) → m < size_by c (length R)
    → i < length (entries (modules (seen_of (imported R t maps c))) m).requests
    → loaded_or m (slice_get (loaded_at R m) i) ≡ (graph_of (imported R t maps c)).target m i
target_right conditions.Whole R t maps k m i lt within =
    sym (same_target R t maps conditions.Whole m i k.sound lt (λ l. (shows R t maps k.sound k.known).targets_are m i l within))
target_right (conditions.Stopped limit) R t maps k m i lt within =
    sym (same_target R t maps (conditions.Stopped limit) m i k.sound lt (λ l. k.known.targets_are m i l within))
target_right conditions.Lost R t maps k m i lt within = absurd (omega arith)

-- ---- URLs

pub name_at : (R : List RecordParts) (m : ℕ) → IsSound R → m < length R → Named R m ≡ url_at R m
name_at R m s lt = let g = get_within R m lt in name_is R m g.0 s.differ g.1 ∙ sym (ap url_by g.1)

pub url_right : (i : Imported) → IsSound i.records → (m : ℕ) → url_at i.records m ≡ urls_by_id i m
url_right i s m = by (nat_lt m (length i.records)) refl
  where
    by : (b : Bool) → nat_lt m (length i.records) ≡ b → url_at i.records m ≡ (if b then Named i.records m else [])
    by true e = sym (name_at i.records m s (grind (arith, nat_tests)))
    by false e = ap url_by (past_end i.records m (grind (arith, nat_tests)))

-- ---- all together

linked_right : (c : Condition) (R : List RecordParts) (t : Loads) (maps : Maps) → is_whole c ≡ true → IsKept (imported R t maps c) → (m : ℕ)
    → linked (seen_of (imported R t maps c)) m ≡ linked_in R m
linked_right conditions.Whole R t maps w k m = linked_is R m k.sound.differ
linked_right (conditions.Stopped limit) R t maps w k m = cc
linked_right conditions.Lost R t maps w k m = cc

unlinked_right : (c : Condition) (R : List RecordParts) (t : Loads) (maps : Maps) → is_whole c ≡ true → IsKept (imported R t maps c) → (m : ℕ)
    → (seen_of (imported R t maps c)).loading.unlinked (Named R m) ≡ is_unlinked R m
unlinked_right conditions.Whole R t maps w k m = unlinked_is R t maps k.sound k.known m
unlinked_right (conditions.Stopped limit) R t maps w k m = cc
unlinked_right conditions.Lost R t maps w k m = cc

ids_right : (c : Condition) (R : List RecordParts) (u : Url) → has (known_linked c (linked_urls R)) u ≡ true → has (map url_of R) u ≡ true
ids_right conditions.Whole R u h = among R u h
ids_right (conditions.Stopped limit) R u h = among R u h
ids_right conditions.Lost R u h = cc

asks_right : (c : Condition) (R : List RecordParts) (t : Loads) (maps : Maps) → is_whole c ≡ true → IsKept (imported R t maps c) → (u : Url)
    → has (open_asks (seen_of (imported R t maps c)).loading) u ≡ true → has (map url_of R) u ≡ false
asks_right conditions.Whole R t maps w k u h = asks_new R t maps k.sound k.known u h
asks_right (conditions.Stopped limit) R t maps w k u h = cc
asks_right conditions.Lost R t maps w k u h = cc

stops_right : (c : Condition) (maps : Maps) (t : Loads) (R : List RecordParts) → (loading_by c (loading_of maps t R)).stopped ≡ limit_by c
stops_right conditions.Whole maps t R = refl
stops_right (conditions.Stopped limit) maps t R = refl
stops_right conditions.Lost maps t R = refl

pub records_show : RecordsShow
records_show = record {
  entries_are = λ i m k lt. entries_right i.condition i.records i.loads i.maps k m lt;
  targets_are = λ i m request k lt within. target_right i.condition i.records i.loads i.maps k m request lt within;
  urls_are = λ i m k. url_right i k.sound m;
  linked_are = λ i m k w. linked_right i.condition i.records i.loads i.maps w k m;
  unlinked_are = λ i m k w. unlinked_right i.condition i.records i.loads i.maps w k m;
  apart = λ i k. k.sound.differ;
  have_ids = λ i u h. ids_right i.condition i.records u h;
  asks_are_new = λ i u k w h. asks_right i.condition i.records i.loads i.maps w k u h;
  stops = λ i. stops_right i.condition i.maps i.loads i.records;
}

pub within_size : (c : Condition) (n m : ℕ) → m < size_by c n → m < n
within_size conditions.Whole n m lt = lt
within_size (conditions.Stopped limit) n m lt = lt
within_size conditions.Lost n m lt = absurd (omega arith)

pub both : (a b : Bool) → (a && b) ≡ true → (a ≡ true) × (b ≡ true)
both true b h = (refl, h)
both false b h = cc

-- ---- where nothing was refused

pub goes : (c : Condition) (R : List RecordParts) (t : Loads) (maps : Maps) → is_whole c ≡ true → IsKept (imported R t maps c) → GoesOn (imported R t maps conditions.Whole)
goes conditions.Whole R t maps w k = k.known
goes (conditions.Stopped limit) R t maps w k = cc
goes conditions.Lost R t maps w k = cc

pub loading_is : (c : Condition) (R : List RecordParts) (t : Loads) (maps : Maps) → is_whole c ≡ true → (seen_of (imported R t maps c)).loading ≡ loading_of maps t R
loading_is conditions.Whole R t maps w = refl
loading_is (conditions.Stopped limit) R t maps w = cc
loading_is conditions.Lost R t maps w = cc

pub promise_is : (c : Condition) (l : Loading) (s : ℕ) → import_promise (loading_by c l) s ≡ import_promise l s
promise_is conditions.Whole l s = refl
promise_is (conditions.Stopped limit) l s = refl
promise_is conditions.Lost l s = refl

there : (R : List RecordParts) (id : ℕ) → is_unlinked R id ≡ true → id < length R
there [] id e = cc
there (r ∷ R) zero e = omega arith
there (r ∷ R) (suc id) e = let l = there R id e in omega (arith, l)

-- the root of a load by its URL
pub root_named : (R : List RecordParts) → IsSound R → (o : Option ModuleId) → IfSome o (λ m. is_unlinked R m.0 ≡ true) → root_url R o ≡ option_map (λ m. Named R m.0) o
root_named R s None u = refl
root_named R s (Some m) u = ap (λ v. Some v) (sym (name_at R m.0 s (there R m.0 u)))

-- the root of a load is loaded
pub root_loaded : (c : Condition) (R : List RecordParts) (t : Loads) (maps : Maps) → is_whole c ≡ true → IsKept (imported R t maps c) → (o : Option ModuleId)
    → IfSome o (λ m. is_unlinked R m.0 ≡ true) → IfSome o (λ m. (seen_of (imported R t maps c)).loading.unlinked (Named R m.0) ≡ true)
root_loaded conditions.Whole R t maps w k o h = root_seen R t maps k.sound k.known o h
root_loaded (conditions.Stopped limit) R t maps w k o h = cc
root_loaded conditions.Lost R t maps w k o h = cc

pub usable_asks : (c : Condition) (R : List RecordParts) (t : Loads) (maps : Maps) → is_whole c ≡ true → IsKept (imported R t maps c)
    → All IsUsable (open_asks (loading_of maps t R))
usable_asks conditions.Whole R t maps w k = asks_usable R t maps k.sound k.known
usable_asks (conditions.Stopped limit) R t maps w k = cc
usable_asks conditions.Lost R t maps w k = cc

-- a usable URL among others
pub usable_among : (us : List Url) (u : Url) → All IsUsable us → has us u ≡ true → IsUsable u
usable_among [] u each h = cc
usable_among (v ∷ us) u each h = by (or_cases (same_url u v) (has us u) h) (usable_among us u (All-tail IsUsable v us each))
  where
    by : (same_url u v ≡ true) ⊎ (has us u ≡ true) → (has us u ≡ true → IsUsable u) → IsUsable u
    by (inl e) rest = subst IsUsable (sym (same_text u v e)) (All-head IsUsable v us each)
    by (inr e) rest = rest e
