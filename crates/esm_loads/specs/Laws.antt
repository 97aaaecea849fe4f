-- The laws of loading.
use Rattle.std.specs.Prelude.{◌≡◌, ◌⊎◌, ℕ, ◌+◌, ◌≤◌, ◌<◌, Bool, true, false, List, [], ◌∷◌, ◌++◌, length, slice_get, Some, None, Result}
use Rattle.esm_base.specs.declared.limits.Limit.{Limit}
use Rattle.esm_base.specs.declared.limits.Limit.TheVariants.{L1, L2}
use Rattle.esm_base.specs.declared.limits.TheConstants.{MAX_URLS, MAX_DELIVERED_BYTES}
use Rattle.esm_base.specs.Urls.{Text, Url, has, same_url}
use Rattle.esm_tree.specs.Syntax.{Item}
use Rattle.esm_ast.specs.Outcome.{OutcomeView}
use Rattle.esm_realm.specs.Laws.{AreDistinct, IsClosedUnder}
use Rattle.esm_import_map.specs.ImportMap.{Maps}
use Rattle.esm_loads.specs.UrlTable.{Entries, TableEntry, found}
use Rattle.esm_loads.specs.Loading.{Loading, LoadState, PendingRequest, Request, OpenLoad, open_load, finish, ask, add_pending, is_fetching, targets, root_of_load}
use Rattle.esm_loads.specs.Load.{Enters, Asks, Answers}
use Rattle.esm_loads.specs.Host.{Host, Answered, opening_host, begin_load, with_loading}
use Rattle.esm_loads.specs.Arrival.{bytes_of, after_fetch, put_found, Next, next, AnswersNext, Arrives, pending_left, open_asks}
use Rattle.esm_promise.specs.Promises.{is_pending}
use Rattle.esm_loads.specs.Owed.{owed, OwesPromises}
use Rattle.esm_loads.specs.Whole.{IsWhole, HasEnded, unlinked_modules}
use Rattle.esm_loads.specs.ImportCall.{Imports, BeginsImport, IsFull, HasRoom, stop_imports}

-- ---- one outcome

-- each relation of loading has at most one outcome
pub record OneLoad : Type 0 where
  pub enters : (l one other : Loading) (s : ℕ) (x : Url) → Enters l s x one → Enters l s x other → one ≡ other
  pub asks : (l one other : Loading) (s i : ℕ) (x : Url) (ts : List Url) → Asks l s x i ts one → Asks l s x i ts other → one ≡ other
  pub answers : (l one other : Loading) (a : PendingRequest) (t : Url) (e : TableEntry)
      → Answers l a t e one → Answers l a t e other → one ≡ other
  pub answered : (h one other : Host) (a : PendingRequest) (u : Url) (e : TableEntry)
      → Answered h a u e one → Answered h a u e other → one ≡ other
  pub next : (h one other : Host) → AnswersNext h one → AnswersNext h other → one ≡ other
  pub arrives : (h one other : Host) (u : Url) (c : OutcomeView) → Arrives h u c one → Arrives h u c other → one ≡ other
  pub imports : (h one other : Host) (referrer : Url) (specifier : Text) (promise : ℕ)
      → Imports h referrer specifier promise one → Imports h referrer specifier promise other → one ≡ other
  pub begins : (h one other : Host) (referrer : Url) (specifier : Text) (promise : ℕ) (a b : Result (Unit {0}) Limit)
      → BeginsImport h referrer specifier promise a one → BeginsImport h referrer specifier promise b other → (a ≡ b) × (one ≡ other)

-- ---- what is asked

-- no URL is asked twice over all loads, no more than MAX_URLS are, and what is fetched or has a pending request was asked
pub record AreOrderly (asked : List Url) (entries : Entries) (pending : Url → List PendingRequest) : Type 0 where
  pub once : AreDistinct asked
  pub few : length asked ≤ MAX_URLS
  pub fetched : (u : Url) → is_fetching (entries u) ≡ false → has asked u ≡ true
  pub waits : (u : Url) → has asked u ≡ false → pending u ≡ []

abbrev pub IsOrderly : Loading → Type 0
IsOrderly l = AreOrderly l.asked l.entries l.pending

-- that holds where the entry alone is asked, and an answer, an import() and the end of a fetch that was asked for keep it
pub record StaysOrderly : Type 0 where
  pub opening : (maps : Maps) (built : List Item → Bool) (entry : Url) → IsOrderly (opening_host maps built entry).imports
  pub answered : (before after : Host) (a : PendingRequest) (u : Url) (e : TableEntry)
      → IsOrderly before.imports → Answered before a u e after → IsOrderly after.imports
  pub next : (before after : Host) → IsOrderly before.imports → AnswersNext before after → IsOrderly after.imports
  pub imports : (before after : Host) (referrer : Url) (specifier : Text) (promise : ℕ)
      → IsOrderly before.imports → Imports before referrer specifier promise after → IsOrderly after.imports
  pub fetched : (before : Host) (u : Url) (c : OutcomeView)
      → IsOrderly before.imports → has before.imports.asked u ≡ true → IsOrderly (after_fetch before u c).imports

-- what was asked stays asked, in its order, what is fetched stays as it is, and the import map is the same
pub record Grows (before after : Loading) : Type 0 where
  pub maps : after.maps ≡ before.maps
  pub built : after.built ≡ before.built
  pub entries : after.entries ≡ before.entries
  pub bytes : after.bytes ≡ before.bytes
  pub more : List Url
  pub asked : after.asked ≡ before.asked ++ more

pub record OnlyGrows : Type 0 where
  pub answered : (before after : Host) (a : PendingRequest) (u : Url) (e : TableEntry)
      → Answered before a u e after → Grows before.imports after.imports
  pub next : (before after : Host) → AnswersNext before after → Grows before.imports after.imports
  pub imports : (before after : Host) (referrer : Url) (specifier : Text) (promise : ℕ)
      → Imports before referrer specifier promise after → Grows before.imports after.imports

-- a URL that was asked isn't asked again, MAX_URLS URLs are asked, and one more stops loading
pub record AskLimit : Type 0 where
  pub again : (l : Loading) (u : Url) (a : PendingRequest) → has l.asked u ≡ true → ask l u a ≡ add_pending l u a
  pub asks : (l : Loading) (u : Url) (a : PendingRequest) → has l.asked u ≡ false → length l.asked < MAX_URLS
      → ask l u a ≡ add_pending (record l { asked = l.asked ++ u ∷ [] }) u a
  -- the request waits behind the others of its URL
  pub behind : (l : Loading) (u : Url) (a : PendingRequest) → (add_pending l u a).pending u ≡ l.pending u ++ a ∷ []
  pub elsewhere : (l : Loading) (u v : Url) (a : PendingRequest) → same_url u v ≡ false → (add_pending l u a).pending v ≡ l.pending v
  pub stops : (l : Loading) (u : Url) (a : PendingRequest) → has l.asked u ≡ false → MAX_URLS ≤ length l.asked
      → ask l u a ≡ record l { stopped = Some L1 }

-- ---- which request is answered next

-- the URL isn't fetched, or has no pending request
abbrev pub HasNothing : Loading → Url → Type 0
HasNothing l u = (l.entries u ≡ None) ⊎ (l.pending u ≡ [])

-- none of these URLs is fetched and has a pending request
abbrev pub HaveNothing : Loading → List Url → Type 0
HaveNothing l [] = Unit {0}
HaveNothing l (u ∷ us) = HasNothing l u × HaveNothing l us

-- it is the first pending request, in order of asking, of the first fetched URL that has one, and the others stay in order
pub record IsFirst (l : Loading) (n : Next) : Type 0 where
  pub before : List Url
  pub behind : List Url
  pub all : l.asked ≡ before ++ n.url ∷ behind
  pub nothing : HaveNothing l before
  pub fetched : l.entries n.url ≡ Some n.entry
  pub first : l.pending n.url ≡ n.pending_request ∷ n.others

pub record FirstPending : Type 0 where
  pub is : (l : Loading) (n : Next) → next l ≡ Some n → IsFirst l n
  -- none is next only where no fetched URL has a pending request
  pub none : (l : Loading) → next l ≡ None → HaveNothing l l.asked

-- no URL but this one is fetched and has pending requests
abbrev pub IsAnswering : Loading → Url → Type 0
IsAnswering l u = (v : Url) → same_url u v ≡ false → HasNothing l v

-- behind the end of a fetch only the pending requests of its URL are answered, until none is left
pub record OneUrlAtATime : Type 0 where
  pub fetched : (before : Host) (u : Url) (c : OutcomeView)
      → IsOrderly before.imports → next before.imports ≡ None → IsAnswering (after_fetch before u c).imports u
  pub answer : (before after : Host) (u : Url) → IsAnswering before.imports u → AnswersNext before after → IsAnswering after.imports u
  pub import_call : (before after : Host) (u referrer : Url) (specifier : Text) (promise : ℕ)
      → IsAnswering before.imports u → Imports before referrer specifier promise after → IsAnswering after.imports u
  pub who : (l : Loading) (u : Url) (n : Next) → IsAnswering l u → next l ≡ Some n → n.url ≡ u

-- an answer leaves fewer pending requests of fetched URLs, and an import() adds none
pub record FewerLeft : Type 0 where
  pub answer : (before after : Host) → AnswersNext before after → pending_left after.imports < pending_left before.imports
  pub import_call : (before after : Host) (referrer : Url) (specifier : Text) (promise : ℕ)
      → Imports before referrer specifier promise after → pending_left after.imports ≡ pending_left before.imports
  pub none : (l : Loading) → next l ≡ None → pending_left l ≡ 0

-- ---- limits and late answers

-- where a limit has stopped loading, or the load has ended, entering and asking do nothing; a request of such a load is answered
-- by nothing
pub record EndedLoadStays : Type 0 where
  pub enters : (l after : Loading) (s : ℕ) (x : Url) → open_load l s ≡ None → Enters l s x after → after ≡ l
  pub asks : (l after : Loading) (s i : ℕ) (x : Url) (ts : List Url) → open_load l s ≡ None → Asks l s x i ts after → after ≡ l
  pub finishes : (l : Loading) (s : ℕ) → open_load l s ≡ None → finish l s ≡ l
  pub answered : (h after : Host) (s i : ℕ) (x u : Url) (e : TableEntry)
      → open_load h.imports s ≡ None → Answered h (Request s x i) u e after → after ≡ h

-- a load enters no module that it has visited, and none that isn't New: where it comes to one, nothing changes. That what it
-- enters stays visited is seen by StaysWhole
pub record VisitsOnce : Type 0 where
  pub visited : (l after : Loading) (s : ℕ) (x : Url) (o : OpenLoad)
      → open_load l s ≡ Some o → o.1 x ≡ true → Enters l s x after → after ≡ l
  pub unlinked : (l after : Loading) (s : ℕ) (x : Url) → l.unlinked x ≡ true → Enters l s x after → after ≡ l

-- a limit stops at once: no promise is settled and no error is made behind it
pub record LimitStops : Type 0 where
  pub answered : (h after : Host) (a : PendingRequest) (u : Url) (e : TableEntry) (limit : Limit)
      → h.imports.stopped ≡ None → Answered h a u e after → after.imports.stopped ≡ Some limit
      → (after.promises ≡ (begin_load h a u e).promises) × (after.errors ≡ h.errors)
  pub imports : (h after : Host) (referrer : Url) (specifier : Text) (promise : ℕ)
      → IsFull h.imports → Imports h referrer specifier promise after → after ≡ stop_imports h
  -- each call of import() that isn't stopped by its own limit is counted, also one whose specifier doesn't resolve
  pub counts : (h after : Host) (referrer : Url) (specifier : Text) (promise : ℕ)
      → HasRoom h.imports → Imports h referrer specifier promise after → after.imports.import_calls ≡ h.imports.import_calls + 1

-- the bytes are counted before the outcome is stored: past MAX_DELIVERED_BYTES nothing else happens
abbrev pub BytesFirst : Type 0
BytesFirst = (h : Host) (u : Url) (c : OutcomeView) → MAX_DELIVERED_BYTES < h.imports.bytes + bytes_of c
    → after_fetch h u c ≡ with_loading h (record h.imports { bytes = h.imports.bytes + bytes_of c; stopped = Some L2 })

abbrev pub with_bytes : Host → ℕ → Host
with_bytes h bytes = with_loading h (record h.imports { bytes = h.imports.bytes + bytes })

-- up to MAX_DELIVERED_BYTES the outcome makes the URL's entry
abbrev pub StoresOutcome : Type 0
StoresOutcome = (h : Host) (u : Url) (c : OutcomeView) → h.imports.stopped ≡ None
    → h.imports.bytes + bytes_of c ≤ MAX_DELIVERED_BYTES
    → after_fetch h u c ≡ put_found (with_bytes h (bytes_of c)) u (found h.imports.maps h.imports.built u c)

-- ---- what is loaded

-- what is Unlinked is loaded with all that it reaches, and each load has ended or waits: this holds where the entry alone is asked,
-- and an answer, an import() and the end of a fetch keep it
pub record StaysWhole : Type 0 where
  pub opening : (maps : Maps) (built : List Item → Bool) (entry : Url) → IsWhole (opening_host maps built entry).imports
  pub next : (before after : Host) → IsWhole before.imports → AnswersNext before after → IsWhole after.imports
  pub imports : (before after : Host) (referrer : Url) (specifier : Text) (promise : ℕ)
      → IsWhole before.imports → Imports before referrer specifier promise after → IsWhole after.imports
  pub fetched : (before : Host) (u : Url) (c : OutcomeView)
      → IsWhole before.imports → before.imports.entries u ≡ None → IsWhole (after_fetch before u c).imports

-- the Unlinked modules are a finite graph, which is closed under requests: so linking and evaluation walk over modules alone
pub record UnlinkedIsClosed : Type 0 where
  pub all : (l : Loading) (x : Url) → IsOrderly l → IsWhole l → l.unlinked x ≡ true → has (unlinked_modules l) x ≡ true
  pub only : (l : Loading) (x : Url) → has (unlinked_modules l) x ≡ true → l.unlinked x ≡ true
  pub closed : (l : Loading) → IsOrderly l → IsWhole l → IsClosedUnder (targets l) (unlinked_modules l)
  pub root : (l : Loading) (s : ℕ) (start : Url) → IsOrderly l → IsWhole l → root_of_load l s ≡ Some start
      → has (unlinked_modules l) start ≡ true

-- where no URL is being fetched and no request is left, each load has ended, unless a limit has stopped loading
abbrev pub LoadsEnd : Type 0
LoadsEnd = (l : Loading) (s : ℕ) (state : LoadState) → IsWhole l → l.stopped ≡ None → next l ≡ None → open_asks l ≡ []
    → slice_get l.loads s ≡ Some state → HasEnded state

-- ---- promises

-- the promise of each load that hasn't ended is pending, and of that load alone: so each promise is settled once. This holds where
-- the entry alone is asked, and an answer, an import() whose promise is pending and no load's, and the end of a fetch keep it
pub record KeepsPromises : Type 0 where
  pub opening : (maps : Maps) (built : List Item → Bool) (entry : Url) → OwesPromises (opening_host maps built entry)
  pub next : (before after : Host) → IsOrderly before.imports → before.imports.stopped ≡ None
      → OwesPromises before → AnswersNext before after → OwesPromises after
  pub imports : (before after : Host) (referrer : Url) (specifier : Text) (promise : ℕ) → IsOrderly before.imports
      → is_pending before.promises promise ≡ true → ((s : ℕ) → owed before.imports s ≡ Some promise → ⊥)
      → OwesPromises before → Imports before referrer specifier promise after → OwesPromises after
  pub fetched : (before : Host) (u : Url) (c : OutcomeView) → OwesPromises before → OwesPromises (after_fetch before u c)

-- ---- there is an outcome

pub record HasLoad : Type 0 where
  pub enters : (l : Loading) (s : ℕ) (x : Url) → IsOrderly l → (after : Loading) × Enters l s x after
  pub answered : (h : Host) (a : PendingRequest) (u : Url) (e : TableEntry) → IsOrderly h.imports → (after : Host) × Answered h a u e after
  pub next : (h : Host) (n : Next) → IsOrderly h.imports → next h.imports ≡ Some n → (after : Host) × AnswersNext h after
  pub arrives : (h : Host) (u : Url) (c : OutcomeView) → IsOrderly h.imports → has h.imports.asked u ≡ true
      → (after : Host) × Arrives h u c after
  pub imports : (h : Host) (referrer : Url) (specifier : Text) (promise : ℕ) → IsOrderly h.imports
      → (after : Host) × Imports h referrer specifier promise after
  pub begins : (h : Host) (referrer : Url) (specifier : Text) (promise : ℕ) → IsOrderly h.imports
      → (end : Result (Unit {0}) Limit) × (after : Host) × BeginsImport h referrer specifier promise end after
