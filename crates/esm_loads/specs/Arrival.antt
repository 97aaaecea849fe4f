-- A fetch ends, and the pending requests of its URL are answered.
use Rattle.std.specs.Prelude.{◌≡◌, ℕ, ◌+◌, Bool, true, false, nat_lt, List, [], ◌∷◌, length, filter, Option, Some, None}
use Rattle.esm_base.specs.declared.limits.Limit.{Limit}
use Rattle.esm_base.specs.declared.limits.Limit.TheVariants.{L2}
use Rattle.esm_base.specs.declared.limits.TheConstants.{MAX_DELIVERED_BYTES}
use Rattle.esm_base.specs.Urls.{Url}
use Rattle.esm_ast.specs.Entries.{requests_of}
use Rattle.esm_ast.specs.Outcome as outcomes
use Rattle.esm_ast.specs.Outcome.{OutcomeView}
use Rattle.esm_ast.specs.Script.{SpelledText}
use Rattle.esm_import_map.specs.ImportMap.{Maps}
use Rattle.esm_specifier.specs.Targets.{AreTargets}
use Rattle.esm_specifier.specs.declared.targets.Targets.{Targets}
use Rattle.esm_values.specs.Errors.{make_error, next_error}
use Rattle.esm_loads.specs.UrlTable.{TableEntry, Entries, Failed, Broken, Module, Found, Nothing, Faulty, Script, found, put_at}
use Rattle.esm_loads.specs.Loading.{Loading, PendingRequest, is_fetching}
use Rattle.esm_loads.specs.Host.{Host, with_loading, Answered}

-- ---- the requests are resolved

-- the targets are what the requests of this outcome at this URL resolve to. Of what is no module text nothing is said
abbrev pub AreResolved : Maps → Url → OutcomeView → Targets → Type 0
AreResolved maps url outcome targets =
    (text : SpelledText) → outcome ≡ outcomes.Script text → AreTargets maps url (requests_of text.items) targets

-- ---- the outcome is stored

-- how many bytes the body has
abbrev pub bytes_of : OutcomeView → ℕ
bytes_of (outcomes.Script text) = length text.bytes
bytes_of (outcomes.Broken broken) = length broken.bytes
bytes_of outcomes.Absent = 0
bytes_of outcomes.Failed = 0

abbrev pub count_by : Bool → Loading → ℕ → Loading
count_by true l bytes = record l { bytes = l.bytes + bytes; stopped = Some L2 }
count_by false l bytes = record l { bytes = l.bytes + bytes }

-- own: the bytes are counted. No more than MAX_DELIVERED_BYTES are delivered
abbrev pub count : Loading → ℕ → Loading
count l bytes = count_by (nat_lt MAX_DELIVERED_BYTES (l.bytes + bytes)) l bytes

abbrev pub with_entry : Loading → Url → TableEntry → Loading
with_entry l u e = record l { entries = put_at l.entries u (Some e) }

-- of a fault the one error value of its URL is made
abbrev pub put_found : Host → Url → Found → Host
put_found h u Nothing = with_loading h (with_entry h.imports u Failed)
put_found h u (Script m) = with_loading h (with_entry h.imports u (Module m))
put_found h u (Faulty f) = record h {
  errors = make_error h.errors f;
  imports = with_entry h.imports u (Broken (next_error h.errors));
}

abbrev pub store_by : Option Limit → Host → Url → OutcomeView → Host
store_by None h u c = put_found h u (found h.imports.maps h.imports.built u c)
store_by (Some limit) h u c = h

-- the outcome stands in the table, unless a limit has stopped
abbrev pub store : Host → Url → OutcomeView → Host
store h u c = store_by h.imports.stopped h u c

-- HTML, "fetch a single module script", where the fetch of this URL has ended. own: the bytes are counted first
abbrev pub after_fetch : Host → Url → OutcomeView → Host
after_fetch h u c = store (with_loading h (count h.imports (bytes_of c))) u c

-- ---- which request is answered next

-- a pending request of a fetched URL, the URL's entry, and the other pending requests of the URL
pub record Next : Type 0 where
  pub url : Url
  pub pending_request : PendingRequest
  pub entry : TableEntry
  pub others : List PendingRequest

abbrev pub next_by : Url → Option TableEntry → List PendingRequest → Option Next → Option Next
next_by u (Some e) (a ∷ others) later = Some (record { url = u; pending_request = a; entry = e; others = others })
next_by u _ _ later = later

abbrev pub next_among : Loading → List Url → Option Next
next_among l [] = None
next_among l (u ∷ us) = next_by u (l.entries u) (l.pending u) (next_among l us)

-- the first pending request, in order of asking, of the first fetched URL that has one
abbrev pub next : Loading → Option Next
next l = next_among l l.asked

-- the request is no more pending
abbrev pub without_next : Host → Next → Host
without_next h n = with_loading h (record h.imports { pending = put_at h.imports.pending n.url n.others })

-- the next pending request is answered
pub record AnswersNext (before after : Host) : Type 0 where
  pub who : Next
  pub is_next : next before.imports ≡ Some who
  pub answered : Answered (without_next before who) who.pending_request who.url who.entry after

-- the pending requests of fetched URLs are answered, one after the other, until none is left or a limit stops. Between two of them
-- the world runs its jobs: this is an arrival for loading alone
pub data AnswersAll : Host → Host → Type 0 where
  none : {h : Host} → next h.imports ≡ None → AnswersAll h h
  stops : {h : Host} (limit : Limit) → h.imports.stopped ≡ Some limit → AnswersAll h h
  answers : {h mid after : Host} → h.imports.stopped ≡ None → AnswersNext h mid → AnswersAll mid after → AnswersAll h after

abbrev pub Arrives : Host → Url → OutcomeView → Host → Type 0
Arrives h u c after = AnswersAll (after_fetch h u c) after

-- ---- what is left

abbrev pub waiting_by : Option TableEntry → List PendingRequest → ℕ
waiting_by None requests = 0
waiting_by (Some e) requests = length requests

abbrev pub left_among : Entries → (Url → List PendingRequest) → List Url → ℕ
left_among entries pending [] = 0
left_among entries pending (u ∷ us) = waiting_by (entries u) (pending u) + left_among entries pending us

-- how many pending requests of fetched URLs there are
abbrev pub pending_left : Loading → ℕ
pending_left l = left_among l.entries l.pending l.asked

-- ---- what is asked for

-- the URLs that are asked and not fetched, in order of asking
abbrev pub open_asks : Loading → List Url
open_asks l = filter (λ u. is_fetching (l.entries u)) l.asked
