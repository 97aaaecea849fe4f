-- Promises, errors and loading of the code, as those of the definitions, where the numbers of modules name URLs.
use Rattle.std.specs.Prelude.{◌≡◌, ℕ, Some, None, Result, Ok, Err, OnOk}
use Rattle.esm_base.specs.declared.end.End.{End}
use Rattle.esm_base.specs.declared.end.End.TheVariants.{Fault}
use Rattle.esm_base.specs.declared.limits.Limit.{Limit}
use Rattle.esm_base.specs.Urls.{Text, Url}
use Rattle.esm_values.specs.Errors.{Errors}
use Rattle.esm_promise.specs.Code.{Numbered}
use Rattle.esm_promise.specs.Renaming.{renamed}
use Rattle.esm_loads.specs.UrlTable.{TableEntry}
use Rattle.esm_loads.specs.Loading.{Loading, Root}
use Rattle.esm_loads.specs.Host.{Host, Answered}
use Rattle.esm_loads.specs.ImportCall.{BeginsImport, add_load, ask_root, next_load}

abbrev pub host_of : (ℕ → Url) → Numbered → Errors → Loading → Host
host_of named promises errors l = record { promises = renamed named promises; errors = errors; imports = l }

-- loading that a limit has stopped
abbrev pub stopped_by : Loading → Limit → Loading
stopped_by l limit = record l { stopped = Some limit }

abbrev pub stopped_host : Host → Limit → Host
stopped_host h limit = record h { imports = stopped_by h.imports limit }

-- where a limit ends the call, the host that is left, stopped by it, is one of this kind
abbrev pub StopsHost : {T : Type 0} → Result T (End Limit) → Host → (Host → Type 0) → Type 0
StopsHost result left IsOne = (limit : Limit) → result ≡ Err (Fault limit) → IsOne (stopped_host left limit)

-- where a limit ends the call, it stops this host
abbrev pub StopsAt : {T : Type 0} → Result T (End Limit) → Host → Type 0
StopsAt result after = (limit : Limit) → result ≡ Err (Fault limit) → after.imports.stopped ≡ Some limit

-- a load for an import() is there, and its root is asked for, or answered where its URL is fetched
pub record IsRooted (h : Host) (promise : ℕ) (u : Url) (result : Result (Unit {0}) (End Limit)) (after : Host) : Type 0 where
  pub asks : h.imports.entries u ≡ None → OnOk result (after ≡ ask_root (add_load h promise) (next_load h) u)
      × StopsHost result after (λ left. left ≡ ask_root (add_load h promise) (next_load h) u)
  pub answers : (e : TableEntry) → h.imports.entries u ≡ Some e
      → OnOk result (Answered (add_load h promise) (Root (next_load h)) u e after)
      × StopsHost result after (Answered (add_load h promise) (Root (next_load h)) u e)

-- a call of import() begins, or a limit stops it: all else is then as it is left
pub record IsImport
    (h : Host) (referrer : Url) (specifier : Text) (promise : ℕ) (result : Result (Unit {0}) (End Limit)) (after : Host) : Type 0 where
  pub begins : OnOk result (BeginsImport h referrer specifier promise (Ok tt) after)
  pub limit : (limit : Limit) → result ≡ Err (Fault limit)
      → BeginsImport h referrer specifier promise (Err limit) (stopped_host after limit)
