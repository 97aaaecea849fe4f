-- Records that a call of loading leaves as they are, but for whether they are New or Unlinked.
use Rattle.std.proofs.Common.{◌≡◌, ℕ, zero, suc, ◌<◌, Bool, true, false, cond, List, [], ◌∷◌, map, length, refl, ap, subst, sym, ◌∙◌}
use Rattle.std.specs.Prelude.{slice_get}
use Rattle.esm_base.specs.Urls.{has}
use Rattle.esm_ast.specs.Entries.{EntryLists, entries_of}
use Rattle.esm_realm.specs.Laws.{AreDistinct}
use Rattle.esm_realm.specs.ById.{entries_at, loaded_at, loaded_by, status_of, is_linking}
use Rattle.esm_realm.specs.Sound.{RecordParts, IsSound, url_of}
use Rattle.esm_realm.specs.declared.record.ModuleStatus.{ModuleStatus}
use Rattle.esm_realm.specs.declared.record.ModuleStatus.TheVariants as statuses
use Rattle.esm_values.specs.Numbering.{numbering}
use Rattle.esm_env.specs.Modules.{entries}
use Rattle.esm_loads.specs.UrlTable.{Entries, targets_in, body_in}
use Rattle.esm_loads.specs.Loading.{Loading}
use Rattle.esm_loads.specs.LoadsView.{before_linking, status_before_linking, loaded_before_linking, url_at}
use Rattle.esm_loads.proofs.Unlinks.{get_stale, long_stale}
use Rattle.esm_link.specs.Realm.{is_linked}
use Rattle.esm_machine.specs.Seen.{Seen, modules, linked}
use Rattle.esm_machine.specs.ModuleStore.{linked_urls, loaded_or}
use Rattle.esm_machine.specs.Kept.{Show}
use Rattle.esm_machine.specs.Inner.Numbers.{number}
use Rattle.esm_machine.specs.Inner.Importing.{Linked, Named}
use Rattle.esm_machine.proofs.Records.{linked_record}

-- ---- one list of records

urls_before : (R : List RecordParts) → map url_of (map before_linking R) ≡ map url_of R
urls_before [] = refl
urls_before (r ∷ R) = λ i. r.url ∷ urls_before R i

linked_before : (status : ModuleStatus) → is_linked (status_before_linking status) ≡ is_linked status
linked_before statuses.New = refl
linked_before statuses.Unlinked = refl
linked_before statuses.Linking = refl
linked_before statuses.Linked = refl

linking_before : (status : ModuleStatus) → is_linking (status_before_linking status) ≡ is_linking status
linking_before statuses.New = refl
linking_before statuses.Unlinked = refl
linking_before statuses.Linking = refl
linking_before statuses.Linked = refl

linked_all : (R : List RecordParts) → linked_urls (map before_linking R) ≡ linked_urls R
linked_all [] = refl
linked_all (r ∷ R) = by (is_linked (status_before_linking r.status)) (is_linked r.status) (linked_before r.status) (linked_all R)
  where
    by : (b c : Bool) → b ≡ c → linked_urls (map before_linking R) ≡ linked_urls R
        → map url_of (cond b (before_linking r ∷ Linked (map before_linking R)) (Linked (map before_linking R))) ≡ map url_of (cond c (r ∷ Linked R) (Linked R))
    by true true e k = λ i. r.url ∷ k i
    by false false e k = k
    by true false e k = cc
    by false true e k = cc

entries_before : (R : List RecordParts) (m : ℕ) → entries_at (map before_linking R) m ≡ entries_at R m
entries_before [] m = refl
entries_before (r ∷ R) zero = refl
entries_before (r ∷ R) (suc m) = entries_before R m

status_before : (R : List RecordParts) (m : ℕ) → is_linking (status_of (map before_linking R) m) ≡ is_linking (status_of R m)
status_before [] m = refl
status_before (r ∷ R) zero = linking_before r.status
status_before (r ∷ R) (suc m) = status_before R m

-- what a Linked module has loaded stays
loaded_kept : (r p : RecordParts) → before_linking r ≡ before_linking p → is_linked p.status ≡ true → r.loaded ≡ p.loaded
loaded_kept r p e l = by p.status r.status (ap (λ (q : RecordParts). q.status) e) (ap (λ (q : RecordParts). q.loaded) e) l
  where
    by : (b a : ModuleStatus) → status_before_linking a ≡ status_before_linking b → loaded_before_linking a r.loaded ≡ loaded_before_linking b p.loaded → is_linked b ≡ true
        → r.loaded ≡ p.loaded
    by statuses.New a s q k = cc
    by statuses.Unlinked a s q k = cc
    by statuses.Linking a s q k = cc
    by statuses.Linked statuses.New s q k = cc
    by statuses.Linked statuses.Unlinked s q k = cc
    by statuses.Linked statuses.Linking s q k = cc
    by statuses.Linked statuses.Linked s q k = q

-- ---- two lists of records

module _ (R S : List RecordParts) (same : map before_linking S ≡ map before_linking R) where
  pub urls_stay : map url_of S ≡ map url_of R
  urls_stay = sym (urls_before S) ∙ (ap (map url_of) same ∙ urls_before R)

  pub linked_stay : linked_urls S ≡ linked_urls R
  linked_stay = sym (linked_all S) ∙ (ap linked_urls same ∙ linked_all R)

  pub entries_stay : (m : ℕ) → entries_at S m ≡ entries_at R m
  entries_stay m = sym (entries_before S m) ∙ (ap (λ rs. entries_at rs m) same ∙ entries_before R m)

  -- none is amid a walk of linking
  pub idle_stays : ((x : ℕ) → is_linking (status_of R x) ≡ false) → (x : ℕ) → is_linking (status_of S x) ≡ false
  idle_stays idle x = sym (status_before S x) ∙ (ap (λ rs. is_linking (status_of rs x)) same ∙ (status_before R x ∙ idle x))

  loaded_stays : AreDistinct (map url_of R) → (m : ℕ) → has (linked_urls R) (Named R m) ≡ true → loaded_at S m ≡ loaded_at R m
  loaded_stays d m h =
      let l = linked_record R m d h in
      let g = get_stale R S same m l.parts l.at in
      ap loaded_by g.1 ∙ (loaded_kept g.0 l.parts g.2 l.linked ∙ sym (ap loaded_by l.at))

  -- ---- what is seen, where the same entries stand under URLs

  module _ (l k : Loading) (still : k.entries ≡ l.entries) where
    abbrev Before : Seen
    Before = record { loading = l; urls = map url_of R; linked = linked_urls R }

    abbrev After : Seen
    After = record { loading = k; urls = map url_of S; linked = linked_urls S }

    entries_same : (m : ℕ) → entries (modules Before) m ≡ entries (modules After) m
    entries_same m =
        ap (λ (es : Entries). entries_of (body_in (es (Named R m)))) (sym still)
        ∙ ap (λ us. entries_of (body_in (k.entries ((numbering us).name m)))) (sym urls_stay)

    target_same : (m i : ℕ) → (modules Before).target m i ≡ (modules After).target m i
    target_same m i =
        ap (λ (es : Entries). number (map url_of R) (url_at (targets_in (es (Named R m))) i)) (sym still)
        ∙ ap (λ us. number us (url_at (targets_in (k.entries ((numbering us).name m))) i)) (sym urls_stay)

    linked_same : (m : ℕ) → linked After m ≡ linked Before m
    linked_same m = ap (λ ls. has ls (Named S m)) linked_stay ∙ ap (λ us. has (linked_urls R) ((numbering us).name m)) urls_stay

    pub show_stays : IsSound R → Show R Before → Show S After
    show_stays s shown = record {
      entries_are = λ m lt. entries_stay m ∙ (shown.entries_are m (subst (λ n. m < n) (long_stale R S same) lt) ∙ entries_same m);
      targets_are = λ m i h lt.
          let was : linked Before m ≡ true = sym (linked_same m) ∙ h in
          let within : i < length (entries (modules Before) m).requests = subst (λ (es : EntryLists). i < length es.requests) (sym (entries_same m)) lt in
          ap (λ ls. loaded_or m (slice_get ls i)) (loaded_stays s.differ m was) ∙ (shown.targets_are m i was within ∙ target_same m i);
    }
