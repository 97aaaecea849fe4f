-- How the next pending request is answered.
use Rattle.std.specs.Prelude.{◌≡◌, ℕ, ◌<◌, ◌∷◌, [], List, length, slice_get, slice_set, Option, Some, Result, OnOk, false}
use Rattle.esm_base.specs.declared.end.End.{End}
use Rattle.esm_base.specs.declared.limits.Limit.{Limit}
use Rattle.esm_base.specs.Urls.{Url}
use Rattle.esm_realm.specs.Sound.{RecordParts}
use Rattle.esm_import_map.specs.ImportMap.{Maps}
use Rattle.esm_values.specs.Errors.{Errors}
use Rattle.esm_promise.specs.Code.{Numbered}
use Rattle.esm_loads.specs.UrlTable.{TableEntry, Throw}
use Rattle.esm_loads.specs.Loading.{Loading, PendingRequest, Root, load_of}
use Rattle.esm_loads.specs.Host.{Host, Answered, begin_by, begin_load, settle_load, with_loading}
use Rattle.esm_loads.specs.Load.{Answers}
use Rattle.esm_loads.specs.LoadsView.{urls_of, url_at, is_open, request_of}
use Rattle.esm_loads.specs.Fits.{AreJoined, HaveRecords}
use Rattle.esm_base.specs.declared.memory.Memory.{Memory}
use Rattle.esm_loads.specs.LoadsAsLoading.{loading_of}
use Rattle.esm_loads.specs.Hosted.{host_of, StopsHost}
use Rattle.esm_loads.specs.declared.data.Slot.{Slot}
use Rattle.esm_loads.specs.declared.data.Waiting.{Waiting}
use Rattle.esm_loads.specs.declared.loads.Loads.{Loads}

-- the first pending request of the URL that was fetched last is taken
pub record Takes (old new : Loads) (w : Waiting) : Type 0 where
  pub slot : Slot
  pub at : slice_get old.urls.slots old.delivered ≡ Some slot
  pub fetched : is_open slot.state ≡ false
  pub rest : List Waiting
  pub queue : slice_get old.queues.queues old.delivered ≡ Some (w ∷ rest)
  pub load : w.load < old.queues.loads
  pub new_is : new
      ≡ record old { queues = record old.queues { queues = slice_set old.queues.queues old.delivered rest } }

-- where the URL that was fetched last is there, its queue is empty
abbrev pub NothingPending : Loads → Type 0
NothingPending l = (s : Slot) (q : List Waiting) → slice_get l.urls.slots l.delivered ≡ Some s
    → slice_get l.queues.queues l.delivered ≡ Some q
    → is_open s.state ≡ false → q ≡ []

-- the load of an import() whose root isn't thrown gets its promise
abbrev pub BeginsBy : (ℕ → Url) → Maps → List RecordParts → Errors → Loads → Numbered → Loads → Numbered → ℕ → Option Throw
    → Type 0
BeginsBy named maps records errors old before new after load thrown =
    host_of named after errors (loading_of maps new records)
    ≡ begin_by (host_of named before errors (loading_of maps old records)) load thrown
    (slice_get (loading_of maps old records).purposes load)

-- the request is answered, and the promise of its load is settled where the load has ended by that
pub record Settles (h : Host) (a : PendingRequest) (u : Url) (e : TableEntry) (after : Host) : Type 0 where
  pub answered : Loading
  pub answers : Answers h.imports a u e answered
  pub settled : after ≡ settle_load (with_loading h answered) (load_of a)

-- where the URL at the place is fetched, the load of an import() whose root is a module gets its promise
abbrev pub IsBegun : (ℕ → Url) → Maps → List RecordParts → Errors → Loads → Numbered → ℕ → ℕ
    → Result (Unit {0}) Memory → Loads → Numbered → Type 0
IsBegun named maps records errors old before place load result new after =
    (e : TableEntry) → (loading_of maps old records).entries (url_at (urls_of old.urls.slots) place) ≡ Some e
    → HaveRecords old.urls.slots records → AreJoined old (length records) → OnOk result
    (host_of named after errors (loading_of maps new records)
    ≡ begin_load (host_of named before errors (loading_of maps old records)) (Root load)
    (url_at (urls_of old.urls.slots) place) e)

-- a relation of a host, a pending request, the entry of its URL, and a host
abbrev pub AnswerOf : Type 1
AnswerOf = Host → PendingRequest → Url → TableEntry → Host → Type 0

-- the call answers the request with the entry of the URL at the place, in this way
abbrev pub IsGiven : AnswerOf → (ℕ → Url) → Maps → Loads → Numbered → Errors → List RecordParts → Waiting → ℕ
    → Result (Unit {0}) (End Limit) → Loads → Numbered → Errors → List RecordParts → Type 0
IsGiven answers named maps old before errors records w place result new after made more =
    (e : TableEntry) → (loading_of maps old records).entries (url_at (urls_of old.urls.slots) place) ≡ Some e
    → OnOk result (answers (host_of named before errors (loading_of maps old records)) (request_of (urls_of old.urls.slots) w)
    (url_at (urls_of old.urls.slots) place) e (host_of named after made (loading_of maps new more)))
    × StopsHost result (host_of named after made (loading_of maps new more))
    (answers (host_of named before errors (loading_of maps old records))
    (request_of (urls_of old.urls.slots) w) (url_at (urls_of old.urls.slots) place) e)

-- the answer to the request, behind the beginning of its load, and what the end of the load settles
abbrev pub IsSettled : (ℕ → Url) → Maps → Loads → Numbered → Errors → List RecordParts → Waiting → ℕ
    → Result (Unit {0}) (End Limit) → Loads → Numbered → Errors → List RecordParts → Type 0
IsSettled = IsGiven Settles

-- the request is answered with the entry of the URL at the place
abbrev pub IsAnsweredIn : (ℕ → Url) → Maps → Loads → Numbered → Errors → List RecordParts → Waiting → ℕ
    → Result (Unit {0}) (End Limit) → Loads → Numbered → Errors → List RecordParts → Type 0
IsAnsweredIn = IsGiven Answered
