-- Scopes that are right for what is seen of modules stay so.
use Rattle.std.proofs.Common.{◌≡◌, ℕ, ◌+◌, ◌<◌, Bool, true, false, cond, List, map, length, Option, Some, None, refl, ap, subst, sym, ◌∙◌, arith}
use Rattle.std.specs.Prelude.{nat_lt, is_some, Result}
use Rattle.std.proofs.lemmas.List.{length-map}
use Rattle.esm_base.specs.declared.limits.Limit.{Limit}
use Rattle.esm_base.specs.declared.limits.TheConstants.{MAX_DELIVERED_BYTES}
use Rattle.esm_base.specs.Urls.{Text, Url, has, same_url}
use Rattle.esm_ast.specs.Outcome.{OutcomeView}
use Rattle.esm_import_map.specs.ImportMap.{Maps}
use Rattle.esm_realm.specs.Sound.{RecordParts, IsSound, url_of}
use Rattle.esm_realm.proofs.Urls.{not_true, same_text}
use Rattle.esm_values.specs.Errors.{Errors, next_error}
use Rattle.esm_values.specs.Numbering.{numbering}
use Rattle.esm_promise.specs.Code.{Numbered}
use Rattle.esm_promise.specs.Outer.{Outer}
use Rattle.esm_env.specs.Faithful.{AreScopesOf}
use Rattle.esm_env.specs.Modules.{entries}
use Rattle.esm_env.specs.Scopes.{Scopes, scope_in}
use Rattle.esm_env.specs.declared.scope.ModuleScope.{ModuleScope}
use Rattle.esm_loads.specs.Arrival.{AnswersNext, after_fetch, bytes_of, count, count_by, open_asks, put_found, store_by}
use Rattle.esm_loads.specs.Host.{Host, with_loading}
use Rattle.esm_loads.specs.Hosted.{host_of}
use Rattle.esm_loads.specs.Laws.{Grows}
use Rattle.esm_loads.specs.Loading.{Loading, is_fetching}
use Rattle.esm_loads.specs.LoadsAsLoading.{loading_of}
use Rattle.esm_loads.specs.LoadsView.{every_form, is_unlinked, url_at}
use Rattle.esm_loads.specs.UrlTable.{Entries, TableEntry, Failed, Broken, Module, Found, Nothing, Faulty, Script, found, targets_in, body_in}
use Rattle.esm_loads.specs.Whole.{is_module}
use Rattle.esm_loads.specs.declared.loads.Loads.{Loads}
use Rattle.esm_loads.proofs.Orderly.{only_grows}
use Rattle.esm_link.specs.Local.{AgreeOn}
use Rattle.esm_link.specs.Realm.{modules_of}
use Rattle.esm_link.specs.Scopes.{ScopesAreLocal, linked_in}
use Rattle.esm_rewriting.specs.Keeps.{ChangedBy}
use Rattle.esm_world.proofs.FitLists.{place_below, place_names}
use Rattle.esm_world.proofs.UnlinkedGrows.{unlinked_stays}
use Rattle.esm_machine.specs.Arrivals.{urls_with}
use Rattle.esm_machine.specs.Calls.{KeepsRecords}
use Rattle.esm_machine.specs.Kept.{GoesOn, IsKept}
use Rattle.esm_machine.specs.ModuleStore.{Imported, imported, is_whole, linked_urls, seen_of}
use Rattle.esm_machine.specs.Seen.{Seen, BeginsById, host, linked, modules, names}
use Rattle.esm_body.specs.SameScopes.{HaveSameScopes}
use Rattle.esm_machine.specs.SeenScopes.{AreScopesIn, ScopesStay, trees_in}
use Rattle.esm_machine.specs.declared.condition.Condition.{Condition}
use Rattle.esm_machine.specs.declared.condition.Condition.TheVariants as conditions
use Rattle.esm_machine.specs.Inner.Below.{below}
use Rattle.esm_machine.specs.Inner.Importing.{Named, among}
use Rattle.esm_machine.specs.Inner.Lawful.{by_number, scopes_grow}
use Rattle.esm_machine.specs.Inner.Numbers.{number, url_number, number_url}
use Rattle.esm_machine.proofs.Fetched.{open_unfetched}
use Rattle.esm_machine.proofs.Grown.{same_url_of}
use Rattle.esm_machine.proofs.SeenRecords.{agree_records, agree_seen, alike, asks_new, linked_is, named_there, number_below, past_new_below, target_url, unlinked_is, whole_seen}

-- ---- more URLs are asked

-- what is loaded stays so
abbrev pub StaysLoaded : Loading → Loading → Type 0
StaysLoaded l m = (u : Url) → l.unlinked u ≡ true → m.unlinked u ≡ true

-- right by these URLs, this table, these asks and these linked modules
abbrev RightBy : Scopes → List Url → Entries → List Url → List Url → Type 0
RightBy e urls entries asked linked_are = AreScopesOf (by_number urls entries asked) (λ m. has linked_are ((numbering urls).name m)) e

same_name : (s after : Seen) → KeepsRecords s after → (m : ℕ) → (names after).name m ≡ (names s).name m
same_name s after k m = ap (λ us. (numbering us).name m) k.urls

pub grows : (s after : Seen) (e : Scopes) → KeepsRecords s after → Grows s.loading after.loading → StaysLoaded s.loading after.loading
    → AreScopesIn s e → AreScopesIn after e
grows s after e k g more a = record {
  right =
      subst (λ us. RightBy e us after.loading.entries after.loading.asked after.linked) (sym k.urls)
      (subst (λ ls. RightBy e s.urls after.loading.entries after.loading.asked ls) (sym k.linked)
      (subst (λ es. RightBy e s.urls es after.loading.asked s.linked) (sym g.entries)
      (subst (λ qs. RightBy e s.urls s.loading.entries qs s.linked) (sym g.asked)
      (scopes_grow s.urls s.loading.entries s.loading.asked g.more (linked s) e a.right))));
  loaded = λ m t is. subst (λ u. after.loading.unlinked u ≡ true) (sym (same_name s after k m)) (more ((names s).name m) (a.loaded m t is));
}

answers : (s after : Seen) (named : ℕ → Url) (promises promises_after : Numbered) (errors errors_after : Errors) (e : Scopes)
    → AnswersNext (host_of named promises errors s.loading) (host_of named promises_after errors_after after.loading)
    → KeepsRecords s after → AreScopesIn s e → AreScopesIn after e
answers s after named promises promises_after errors errors_after e call k a =
    let h : Host = host_of named promises errors s.loading in
    let left : Host = host_of named promises_after errors_after after.loading in
    grows s after e k (only_grows.next h left call) (λ u q. unlinked_stays.next h left u call q) a

-- ---- import()

begun_keeps : (o after : Outer ℕ Seen) (m : ℕ) (specifier : Text) (promise : ℕ) (end : Result (Unit {0}) Limit)
    → BeginsById o m specifier promise end after → KeepsRecords o.imports after.imports
begun_keeps o after m specifier promise end b = record { urls = b.urls; linked = b.linked }

begun_loaded : (o after : Outer ℕ Seen) (m : ℕ) (specifier : Text) (promise : ℕ) (end : Result (Unit {0}) Limit)
    → BeginsById o m specifier promise end after → StaysLoaded o.imports.loading after.imports.loading
begun_loaded o after m specifier promise end b u q =
    unlinked_stays.begins (host o) (host after) ((names o.imports).name m) specifier promise end u b.begins q

begins : (o after : Outer ℕ Seen) (m : ℕ) (specifier : Text) (promise : ℕ) (end : Result (Unit {0}) Limit) (e : Scopes)
    → BeginsById o m specifier promise end after → AreScopesIn o.imports e → AreScopesIn after.imports e
begins o after m specifier promise end e b a =
    grows o.imports after.imports e (begun_keeps o after m specifier promise end b)
    (only_grows.imports (host o) (host after) ((names o.imports).name m) specifier promise b.begins.imports)
    (begun_loaded o after m specifier promise end b) a

-- ---- bodies

record Changes (s after : Seen) : Type 0 where
  pub records : KeepsRecords s after
  pub loaded : StaysLoaded s.loading after.loading

changed : {s after : Seen} → ChangedBy BeginsById s after → Changes s after
changed ChangedBy.none = record { records = record { urls = refl; linked = refl }; loaded = λ u h. h }
changed (ChangedBy.call {o = o} {after = after} {m = m} {specifier = specifier} {promise = promise} {end = end} p b) =
    let c = changed p in
    let k = begun_keeps o after m specifier promise end b in
    record {
      records = record { urls = k.urls ∙ c.records.urls; linked = k.linked ∙ c.records.linked };
      loaded = λ u h. begun_loaded o after m specifier promise end b u (c.loaded u h);
    }

made_before : (o : Option ModuleScope) → is_some o ≡ true → (t : ModuleScope) × (o ≡ Some t)
made_before None h = cc
made_before (Some t) h = (t, refl)

bodies : (s after : Seen) (e late : Scopes) → ChangedBy BeginsById s after → HaveSameScopes e late
    → AreScopesOf (modules after) (linked after) late → AreScopesIn s e → AreScopesIn after late
bodies s after e late p same right a =
    let c = changed p in
    record {
      right = right;
      loaded = λ m t is.
          let old = made_before (scope_in e m) (sym (same m) ∙ ap is_some is) in
          subst (λ u. after.loading.unlinked u ≡ true) (sym (same_name s after c.records m)) (c.loaded ((names s).name m) (a.loaded m old.0 old.1));
    }

-- ---- the end of a fetch

asked_found : (h : Host) (u : Url) (f : Found) → (put_found h u f).imports.asked ≡ h.imports.asked
asked_found h u Nothing = refl
asked_found h u (Script m) = refl
asked_found h u (Faulty f) = refl

asked_stored : (o : Option Limit) (h : Host) (u : Url) (c : OutcomeView) → (store_by o h u c).imports.asked ≡ h.imports.asked
asked_stored None h u c = asked_found h u (found h.imports.maps h.imports.built u c)
asked_stored (Some limit) h u c = refl

asked_counted : (b : Bool) (l : Loading) (n : ℕ) → (count_by b l n).asked ≡ l.asked
asked_counted true l n = refl
asked_counted false l n = refl

asked_same : (h : Host) (u : Url) (c : OutcomeView) → (after_fetch h u c).imports.asked ≡ h.imports.asked
asked_same h u c = asked_stored _ (with_loading h (count h.imports (bytes_of c))) u c
    ∙ asked_counted (nat_lt MAX_DELIVERED_BYTES (h.imports.bytes + bytes_of c)) h.imports (bytes_of c)

entry_found : (h : Host) (u v : Url) (f : Found) → same_url u v ≡ false → (put_found h u f).imports.entries v ≡ h.imports.entries v
entry_found h u v Nothing e = ap (λ b. cond b (Some Failed) (h.imports.entries v)) e
entry_found h u v (Script m) e = ap (λ b. cond b (Some (Module m)) (h.imports.entries v)) e
entry_found h u v (Faulty f) e = ap (λ b. cond b (Some (Broken (next_error h.errors))) (h.imports.entries v)) e

entry_stored : (o : Option Limit) (h : Host) (u v : Url) (c : OutcomeView) → same_url u v ≡ false → (store_by o h u c).imports.entries v ≡ h.imports.entries v
entry_stored None h u v c e = entry_found h u v (found h.imports.maps h.imports.built u c) e
entry_stored (Some limit) h u v c e = refl

entry_counted : (b : Bool) (l : Loading) (n : ℕ) → (count_by b l n).entries ≡ l.entries
entry_counted true l n = refl
entry_counted false l n = refl

-- what stands under another URL stays
entry_same : (h : Host) (u v : Url) (c : OutcomeView) → same_url u v ≡ false → (after_fetch h u c).imports.entries v ≡ h.imports.entries v
entry_same h u v c e = entry_stored _ (with_loading h (count h.imports (bytes_of c))) u v c e
    ∙ ap (λ (es : Entries). es v) (entry_counted (nat_lt MAX_DELIVERED_BYTES (h.imports.bytes + bytes_of c)) h.imports (bytes_of c))

-- the URLs of records keep their numbers
kept_name : (R : List RecordParts) (u : Url) (f : Found) (m : ℕ) → IsSound R → has (map url_of R) u ≡ false → m < length R
    → (numbering (urls_with (map url_of R) u f)).name m ≡ Named R m
kept_name R u Nothing m s new lt = refl
kept_name R u (Faulty f) m s new lt = refl
kept_name R u (Script r) m s new lt = sym (same_url_of (map url_of R) u s.differ new m (subst (λ n. m < n) (sym (length-map R url_of)) lt))

module_fetched : (o : Option TableEntry) → is_module o ≡ true → is_fetching o ≡ false
module_fetched None e = cc
module_fetched (Some x) e = refl

no_module : (o : Option TableEntry) → o ≡ None → is_module o ≡ true → ⊥
no_module None e h = cc
no_module (Some x) e h = cc

module _ (R : List RecordParts) (t : Loads) (maps : Maps) (s : IsSound R) (k : GoesOn (imported R t maps conditions.Whole)) (after : Seen)
    (h : Host) (u : Url) (c : OutcomeView) (f : Found) (is : h.imports ≡ loading_of maps t R) (ask : has (open_asks (loading_of maps t R)) u ≡ true)
    (fetched : after.loading ≡ (after_fetch h u c).imports) (urls : after.urls ≡ urls_with (map url_of R) u f) (links : after.linked ≡ linked_urls R) where
  abbrev L : Loading
  L = loading_of maps t R

  abbrev S : Seen
  S = seen_of (imported R t maps conditions.Whole)

  new : has (map url_of R) u ≡ false
  new = asks_new R t maps s k u ask

  -- by the names of then
  abbrev Then : ℕ → Url
  Then m = (names after).name m

  name_kept : (m : ℕ) → m < length R → Then m ≡ Named R m
  name_kept m lt = ap (λ us. (numbering us).name m) urls ∙ kept_name R u f m s new lt

  -- a URL of a record has its number still
  number_kept : (m : ℕ) → m < length R → number after.urls (Named R m) ≡ m
  number_kept m lt = ap (number after.urls) (sym (name_kept m lt)) ∙ number_url after.urls m

  asked_kept : after.loading.asked ≡ L.asked
  asked_kept = ap (λ (l : Loading). l.asked) fetched ∙ asked_same h u c ∙ ap (λ (l : Loading). l.asked) is

  -- what is loaded isn't fetched anew
  other_url : (v : Url) → L.unlinked v ≡ true → same_url u v ≡ false
  other_url v q = not_true (same_url u v) (λ e.
      no_module (L.entries u) (open_unfetched L u ask) (ap (λ w. is_module (L.entries w)) (same_text u v e) ∙ (k.whole.loaded v q).stands))

  entry_kept : (v : Url) → L.unlinked v ≡ true → after.loading.entries v ≡ L.entries v
  entry_kept v q = ap (λ (l : Loading). l.entries v) fetched ∙ entry_same h u v c (other_url v q) ∙ ap (λ (l : Loading). l.entries v) is

  loaded_kept : StaysLoaded L after.loading
  loaded_kept v q =
      ap (λ (l : Loading). l.unlinked v) fetched
      ∙ unlinked_stays.fetched h u c v (ap (λ (l : Loading). l.unlinked v) is ∙ q)

  -- ---- a module that isn't New

  module _ (m : ℕ) (p : is_unlinked R m ≡ true) where
    lt : m < length R
    lt = past_new_below R m p

    loaded_url : L.unlinked (Named R m) ≡ true
    loaded_url = unlinked_is R t maps s k m ∙ p

    entry_at : after.loading.entries (Then m) ≡ L.entries (Named R m)
    entry_at = ap after.loading.entries (name_kept m lt) ∙ entry_kept (Named R m) loaded_url

    asked_then : has after.loading.asked (Then m) ≡ true
    asked_then =
        let o = k.orderly.fetched (Named R m) (module_fetched (L.entries (Named R m)) (k.whole.loaded (Named R m) loaded_url).stands) in
        ap (λ us. has us (Then m)) asked_kept ∙ ap (has L.asked) (name_kept m lt) ∙ o

    pub named_then : (modules after).named ((modules after).number m) ≡ m
    named_then = ap (number after.urls) (place_names after.loading.asked (Then m) asked_then) ∙ number_url after.urls m

    pub below_then : (modules after).number m < (modules after).size
    below_then = place_below after.loading.asked (Then m) asked_then

    pub target_then : (i : ℕ) → i < length (entries (modules S) m).requests → (modules after).target m i ≡ (modules S).target m i
    target_then i within =
        let v : Url = url_at (targets_in (L.entries (Named R m))) i in
        let there : is_unlinked R (number (map url_of R) v) ≡ true = named_there R t maps s k v (target_url R t maps s k m p i within) in
        let id : ℕ = number (map url_of R) v in
        let own : Named R id ≡ v = url_number (map url_of R) v in
        ap (λ o. number after.urls (url_at (targets_in o) i)) entry_at
        ∙ ap (number after.urls) (sym own) ∙ number_kept id (past_new_below R id there)

  agree : AgreeOn (modules S) (modules after) (is_unlinked R)
  agree = record {
    whole = whole_seen R t maps s k;
    url = λ m p. name_kept m (lt m p);
    tree = λ m p. ap body_in (entry_at m p);
    target = λ m i p within. target_then m p i within;
    named = λ m p. named_then m p;
  }

  -- ---- the same are linked

  linked_below : (m : ℕ) → has (linked_urls R) (Named R m) ≡ true → m < length R
  linked_below m q = let l = below (map url_of R) m (among R (Named R m) q) in omega (arith, l, length-map R url_of)

  linked_kept : (m : ℕ) → linked after m ≡ linked S m
  linked_kept m = ap (λ ls. has ls (Then m)) links ∙ alike (has (linked_urls R) (Then m)) (has (linked_urls R) (Named R m))
      (λ q.
      let id : ℕ = number (map url_of R) (Then m) in
      let own : Named R id ≡ Then m = url_number (map url_of R) (Then m) in
      let there : has (linked_urls R) (Named R id) ≡ true = ap (has (linked_urls R)) own ∙ q in
      let same : m ≡ id = sym (number_url after.urls m) ∙ ap (number after.urls) (sym own) ∙ number_kept id (linked_below id there) in
      subst (λ n. has (linked_urls R) (Named R n) ≡ true) (sym same) there)
      (λ q. ap (has (linked_urls R)) (name_kept m (linked_below m q)) ∙ q)

  pub fetch_scopes : ScopesAreLocal → (e : Scopes) → AreScopesIn S e → AreScopesIn after e
  fetch_scopes local e a =
      let here : (m : ℕ) (t : ModuleScope) → scope_in e m ≡ Some t → is_unlinked R m ≡ true =
      (λ m x q. sym (unlinked_is R t maps s k m) ∙ a.loaded m x q) in
      let same : linked S ≡ linked after = λ i m. sym (linked_kept m) i in
      record {
        right = subst (λ (ls : ℕ → Bool). AreScopesOf (modules after) ls e) same
            (local.all (modules S) (modules after) (is_unlinked R) (linked S) e agree (λ m p. below_then m p) here a.right);
        loaded = λ m x q.
            subst (λ v. after.loading.unlinked v ≡ true) (sym (name_kept m (lt m (here m x q)))) (loaded_kept (Named R m) (a.loaded m x q));
      }

fetches_by : ScopesAreLocal → (con : Condition) (R : List RecordParts) (t : Loads) (maps : Maps) (new : Imported) (named : ℕ → Url) (promises : Numbered)
    (errors errors_after : Errors) (u : Url) (c : OutcomeView) (e : Scopes) → IsKept (imported R t maps con) → is_whole con ≡ true
    → has (open_asks (seen_of (imported R t maps con)).loading) u ≡ true
    → host_of named promises errors_after (seen_of new).loading ≡ after_fetch (host_of named promises errors (seen_of (imported R t maps con)).loading) u c
    → (seen_of new).urls ≡ urls_with (map url_of R) u (found maps every_form u c)
    → (seen_of new).linked ≡ (seen_of (imported R t maps con)).linked
    → AreScopesIn (seen_of (imported R t maps con)) e → AreScopesIn (seen_of new) e
fetches_by local conditions.Whole R t maps new named promises errors errors_after u c e k w ask fetched urls links a =
    fetch_scopes R t maps k.sound k.known (seen_of new) (host_of named promises errors (loading_of maps t R)) u c (found maps every_form u c) refl ask
    (ap (λ (o : Host). o.imports) fetched) urls links local e a
fetches_by local (conditions.Stopped limit) R t maps new named promises errors errors_after u c e k w ask fetched urls links a = cc
fetches_by local conditions.Lost R t maps new named promises errors errors_after u c e k w ask fetched urls links a = cc

-- ---- over records

linked_same : (R : List RecordParts) (t : Loads) (maps : Maps) → IsSound R → linked (seen_of (imported R t maps conditions.Whole)) ≡ linked_in R
linked_same R t maps s = λ i m. linked_is R m s.differ i

pub of_records_whole : ScopesAreLocal → (R : List RecordParts) (t : Loads) (maps : Maps) (e : Scopes) → IsSound R → GoesOn (imported R t maps conditions.Whole)
    → AreScopesIn (seen_of (imported R t maps conditions.Whole)) e → AreScopesOf (modules_of (trees_in (imported R t maps conditions.Whole)) R) (linked_in R) e
of_records_whole local R t maps e s k a =
    let i : Imported = imported R t maps conditions.Whole in
    subst (λ (ls : ℕ → Bool). AreScopesOf (modules_of (trees_in i) R) ls e) (linked_same R t maps s)
    (local.all (modules (seen_of i)) (modules_of (trees_in i) R) (is_unlinked R) (linked (seen_of i)) e (agree_records R t maps s k)
    (λ m p. past_new_below R m p) (λ m x q. sym (unlinked_is R t maps s k m) ∙ a.loaded m x q) a.right)

pub of_seen_whole : ScopesAreLocal → (R : List RecordParts) (t : Loads) (maps : Maps) (e : Scopes) → IsSound R → GoesOn (imported R t maps conditions.Whole)
    → ((m : ℕ) (x : ModuleScope) → scope_in e m ≡ Some x → is_unlinked R m ≡ true)
    → AreScopesOf (modules_of (trees_in (imported R t maps conditions.Whole)) R) (linked_in R) e → AreScopesIn (seen_of (imported R t maps conditions.Whole)) e
of_seen_whole local R t maps e s k here right =
    let i : Imported = imported R t maps conditions.Whole in
    record {
      right = subst (λ (ls : ℕ → Bool). AreScopesOf (modules (seen_of i)) ls e) (sym (linked_same R t maps s))
          (local.all (modules_of (trees_in i) R) (modules (seen_of i)) (is_unlinked R) (linked_in R) e (agree_seen R t maps s k)
          (λ m p. number_below R t maps s k m p) here right);
      loaded = λ m x q. unlinked_is R t maps s k m ∙ here m x q;
    }

of_records : ScopesAreLocal → (con : Condition) (R : List RecordParts) (t : Loads) (maps : Maps) (e : Scopes) → IsKept (imported R t maps con) → is_whole con ≡ true
    → AreScopesIn (seen_of (imported R t maps con)) e → AreScopesOf (modules_of (trees_in (imported R t maps con)) R) (linked_in R) e
of_records local conditions.Whole R t maps e k w a = of_records_whole local R t maps e k.sound k.known a
of_records local (conditions.Stopped limit) R t maps e k w a = cc
of_records local conditions.Lost R t maps e k w a = cc

of_seen : ScopesAreLocal → (con : Condition) (R : List RecordParts) (t : Loads) (maps : Maps) (e : Scopes) → IsKept (imported R t maps con) → is_whole con ≡ true
    → ((m : ℕ) (x : ModuleScope) → scope_in e m ≡ Some x → is_unlinked R m ≡ true)
    → AreScopesOf (modules_of (trees_in (imported R t maps con)) R) (linked_in R) e → AreScopesIn (seen_of (imported R t maps con)) e
of_seen local conditions.Whole R t maps e k w here right = of_seen_whole local R t maps e k.sound k.known here right
of_seen local (conditions.Stopped limit) R t maps e k w here right = cc
of_seen local conditions.Lost R t maps e k w here right = cc

pub scopes_stay : ScopesAreLocal → ScopesStay
scopes_stay local = record {
  grows = grows;
  answers = answers;
  begins = begins;
  bodies = bodies;
  fetches = λ i new named promises errors errors_after u c e k w ask fetched urls links a.
      fetches_by local i.condition i.records i.loads i.maps new named promises errors errors_after u c e k w ask fetched urls links a;
  of_records = λ i e k w a. of_records local i.condition i.records i.loads i.maps e k w a;
  of_seen = λ i e k w here right. of_seen local i.condition i.records i.loads i.maps e k w here right;
}
