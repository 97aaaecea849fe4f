-- A call of import() up to the promise of its load. ECMA-262, EvaluateImportCall and ContinueDynamicImport.
use Rattle.std.specs.Prelude.{◌≡◌, ℕ, ◌+◌, ◌==◌, true, false, [], ◌∷◌, ◌++◌, length, Option, Some, None, Result, Ok, Err}
use Rattle.esm_base.specs.declared.limits.Limit.{Limit}
use Rattle.esm_base.specs.declared.limits.Limit.TheVariants.{L4}
use Rattle.esm_base.specs.declared.limits.TheConstants.{MAX_IMPORT_CALLS}
use Rattle.esm_base.specs.Urls.{Text, Url}
use Rattle.esm_specifier.specs.Resolution.{resolution_of_specifier}
use Rattle.esm_specifier.specs.declared.fault.SpecFault.{SpecFault}
use Rattle.esm_loads.specs.UrlTable.{TableEntry, specifier_error}
use Rattle.esm_loads.specs.Loading.{Loading, Root, Asked, ForImport, ask}
use Rattle.esm_loads.specs.Host.{Host, Answered, with_loading, reject_new}

-- own: so many calls were begun that no more is
abbrev pub IsFull : Loading → Type 0
IsFull l = (l.import_calls == MAX_IMPORT_CALLS) ≡ true

abbrev pub HasRoom : Loading → Type 0
HasRoom l = (l.import_calls == MAX_IMPORT_CALLS) ≡ false

-- the call is counted
abbrev pub counted : Host → Host
counted h = with_loading h (record h.imports { import_calls = h.imports.import_calls + 1 })

-- the number of the load that is added next
abbrev pub next_load : Host → ℕ
next_load h = length h.imports.loads

-- a load for an import() with this promise. Its root isn't there
abbrev pub add_load : Host → ℕ → Host
add_load h promise = with_loading h (record h.imports {
  loads = h.imports.loads ++ Asked ∷ [];
  purposes = h.imports.purposes ++ ForImport promise None ∷ [];
})

abbrev pub stop_imports : Host → Host
stop_imports h = with_loading h (record h.imports { stopped = Some L4 })

abbrev pub ask_root : Host → ℕ → Url → Host
ask_root h s u = with_loading h (ask h.imports u (Root s))

-- HTML, HostLoadImportedModule of an import(): its specifier stands in the module at the URL referrer, and its promise is there.
-- own: no more than MAX_IMPORT_CALLS calls are begun
pub data Imports : Host → Url → Text → ℕ → Host → Type 0 where
  limit : {h : Host} {referrer : Url} {specifier : Text} {promise : ℕ} → IsFull h.imports
      → Imports h referrer specifier promise (stop_imports h)
  -- the specifier names no URL
  unresolved : {h : Host} {referrer : Url} {specifier : Text} {promise : ℕ} (f : SpecFault) → HasRoom h.imports
      → resolution_of_specifier h.imports.maps referrer specifier ≡ Err f
      → Imports h referrer specifier promise (reject_new (counted h) promise (specifier_error referrer specifier f))
  -- the URL isn't fetched: it is asked for, unless it was
  asks : {h : Host} {referrer : Url} {specifier : Text} {promise : ℕ} (u : Url) → HasRoom h.imports
      → resolution_of_specifier h.imports.maps referrer specifier ≡ Ok u → h.imports.entries u ≡ None
      → Imports h referrer specifier promise (ask_root (add_load (counted h) promise) (next_load h) u)
  -- it is fetched, and the root is answered at once
  answers : {h after : Host} {referrer : Url} {specifier : Text} {promise : ℕ} (u : Url) (e : TableEntry) → HasRoom h.imports
      → resolution_of_specifier h.imports.maps referrer specifier ≡ Ok u → h.imports.entries u ≡ Some e
      → Answered (add_load (counted h) promise) (Root (next_load h)) u e after → Imports h referrer specifier promise after

abbrev pub end_by : Option Limit → Result (Unit {0}) Limit
end_by None = Ok tt
end_by (Some l) = Err l

-- an import() begins, as a body sees it: whether a limit was passed, and what is then
pub record BeginsImport
    (h : Host) (referrer : Url) (specifier : Text) (promise : ℕ) (end : Result (Unit {0}) Limit) (after : Host) : Type 0 where
  pub imports : Imports h referrer specifier promise after
  pub ends : end ≡ end_by after.imports.stopped
