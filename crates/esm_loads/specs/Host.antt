-- What loading reads and writes: its own state, promises and error values. The end of a load settles its promise.
use Rattle.std.specs.Prelude.{◌≡◌, ℕ, Bool, List, [], ◌∷◌, slice_get, slice_set, Option, Some, None}
use Rattle.esm_tree.specs.Syntax.{Item}
use Rattle.esm_base.specs.Urls.{Url}
use Rattle.esm_import_map.specs.ImportMap.{Maps}
use Rattle.esm_values.specs.Value.{Undefined, Error}
use Rattle.esm_values.specs.Errors.{make_error, next_error}
use Rattle.esm_values.specs.declared.errors.Fault.{Fault}
use Rattle.esm_promise.specs.Promises.{make, settle, next_promise, no_promises}
use Rattle.esm_promise.specs.Promises.Settled.{Fulfilled, Rejected}
use Rattle.esm_promise.specs.Reactions.{Loaded, EntryLoaded}
use Rattle.esm_promise.specs.Outer.{Outer}
use Rattle.esm_loads.specs.UrlTable.{TableEntry, Throw, New, Kept, thrown_by}
use Rattle.esm_loads.specs.Loading.{Loading, PendingRequest, Root, Request, LoadState, LoadComplete, Thrown, Purpose, ForEntry, ForImport, opening_loading, open_load, load_of}
use Rattle.esm_loads.specs.Load.{Answers}

abbrev pub Host : Type 0
Host = Outer Url Loading

-- the entry alone is asked, and its load has the first promise
abbrev pub opening_host : Maps → (List Item → Bool) → Url → Host
opening_host maps built entry = record {
  promises = make no_promises (EntryLoaded ∷ []);
  errors = [];
  imports = opening_loading maps built entry 0;
}

abbrev pub with_loading : Host → Loading → Host
with_loading h l = record h { imports = l }

-- ---- promises

abbrev pub fulfill : Host → ℕ → Host
fulfill h p = record h { promises = settle h.promises p (Fulfilled Undefined) }

abbrev pub reject_with : Host → ℕ → ℕ → Host
reject_with h p error = record h { promises = settle h.promises p (Rejected (Error error)) }

-- a promise is rejected with a new error
abbrev pub reject_new : Host → ℕ → Fault → Host
reject_new h p f = reject_with (record h { errors = make_error h.errors f }) p (next_error h.errors)

abbrev pub reject : Host → ℕ → Throw → Host
reject h p (New f) = reject_new h p f
reject h p (Kept error) = reject_with h p error

-- the promise that the end of a load settles: of an import() whose root isn't there it is its own
abbrev pub promise_of : Purpose → ℕ
promise_of (ForEntry promise) = promise
promise_of (ForImport promise None) = promise
promise_of (ForImport promise (Some load)) = load

abbrev pub settle_by : Host → Option Purpose → Option LoadState → Host
settle_by h (Some p) (Some (LoadComplete root)) = fulfill h (promise_of p)
settle_by h (Some p) (Some (Thrown thrown)) = reject h (promise_of p) thrown
settle_by h _ _ = h

-- where the load has ended its promise is settled
abbrev pub settle_load : Host → ℕ → Host
settle_load h s = settle_by h (slice_get h.imports.purposes s) (slice_get h.imports.loads s)

-- ---- answers

-- the load of an import() gets its promise
abbrev pub own_load : Host → ℕ → ℕ → Host
own_load h s promise = record h {
  promises = make h.promises (Loaded s ∷ []);
  imports = record h.imports { purposes = slice_set h.imports.purposes s (ForImport promise (Some (next_promise h.promises))) };
}

abbrev pub begin_by : Host → ℕ → Option Throw → Option Purpose → Host
begin_by h s None (Some (ForImport promise None)) = own_load h s promise
begin_by h s _ _ = h

-- ECMA-262, ContinueDynamicImport: where a module answers the root of an import(), its load begins, with a promise
abbrev pub begin_load : Host → PendingRequest → Url → TableEntry → Host
begin_load h (Root s) u e = begin_by h s (thrown_by u e) (slice_get h.imports.purposes s)
begin_load h (Request s x i) u e = h

-- ECMA-262, FinishLoadingImportedModule
pub data Answered : Host → PendingRequest → Url → TableEntry → Host → Type 0 where
  -- the load has ended: nothing more is done
  late : {h : Host} {s i : ℕ} {x u : Url} {e : TableEntry} → open_load h.imports s ≡ None → Answered h (Request s x i) u e h
  -- the request is answered, and where its load ends by that the load's promise is settled
  answered : {h : Host} {a : PendingRequest} {u : Url} {e : TableEntry} {l : Loading}
      → Answers (begin_load h a u e).imports a u e l
      → Answered h a u e (settle_load (with_loading (begin_load h a u e) l) (load_of a))
