-- What loading has brought, as linking and bodies need it.
use Rattle.std.specs.Prelude.{◌≡◌, ℕ, Bool, true, List, length, Option, Some, None, Result}
use Rattle.esm_tree.specs.Syntax.{Item}
use Rattle.esm_import_map.specs.ImportMap.{Maps}
use Rattle.esm_base.specs.declared.limits.Limit.{Limit}
use Rattle.esm_base.specs.Urls.{Text, Url, same_url, has}
use Rattle.esm_ast.specs.Entries.{requests_of}
use Rattle.esm_ast.specs.ModuleTree.{IsModuleTree}
use Rattle.esm_ast.specs.Outcome.{OutcomeView}
use Rattle.esm_realm.specs.Records.{ModuleRecord}
use Rattle.esm_loads.specs.UrlTable.{Module}
use Rattle.esm_loads.specs.Loading.{Loading, root_of_load}
use Rattle.esm_loads.specs.Host.{Host, opening_host}
use Rattle.esm_loads.specs.Arrival.{after_fetch, AnswersNext, open_asks}
use Rattle.esm_loads.specs.ImportCall.{BeginsImport}
use Rattle.esm_loads.specs.Whole.{IsWhole}
use Rattle.esm_loads.specs.Laws.{IsOrderly}
use Rattle.esm_link.specs.Faults.{FaultAt}
use Rattle.esm_link.specs.Link.{IsLinking}
use Rattle.esm_rewriting.specs.Fits.{AreLinked}
use Rattle.esm_world.specs.World.{modules_in}
use Rattle.esm_world.specs.Run.{HasModuleTree}

-- the tree is a module's, and each request has a target
pub record HasTree (m : ModuleRecord) : Type 0 where
  pub tree : IsModuleTree m.body
  pub targets : length m.targets ≡ length (requests_of m.body)

-- loading is orderly and whole, and each module has its tree
pub record FitsLoading (l : Loading) : Type 0 where
  pub orderly : IsOrderly l
  pub whole : IsWhole l
  pub trees : (x : Url) (m : ModuleRecord) → l.entries x ≡ Some (Module m) → HasTree m

-- that holds where the entry alone is asked, and an answer, an import() and the end of a fetch that may come keep it
pub record LoadingStaysFit : Type 0 where
  pub opening : (maps : Maps) (built : List Item → Bool) (entry : Url) → FitsLoading (opening_host maps built entry).imports
  pub next : (before after : Host) → FitsLoading before.imports → AnswersNext before after → FitsLoading after.imports
  pub begins : (before after : Host) (referrer : Url) (specifier : Text) (promise : ℕ) (end : Result (Unit {0}) Limit)
      → FitsLoading before.imports → BeginsImport before referrer specifier promise end after → FitsLoading after.imports
  pub fetched : (before : Host) (u : Url) (c : OutcomeView) → FitsLoading before.imports
      → has (open_asks before.imports) u ≡ true → HasModuleTree c → FitsLoading (after_fetch before u c).imports

-- what is Unlinked are modules in which bodies can run
abbrev pub LoadedAreLinked : Type 0
LoadedAreLinked = (l : Loading) → FitsLoading l → AreLinked (modules_in l) l.unlinked

-- linking an Unlinked module has an outcome, and the root of a load that is complete is one
pub record HasLink : Type 0 where
  pub root : (l : Loading) (s : ℕ) (start : Url) → FitsLoading l → root_of_load l s ≡ Some start → l.unlinked start ≡ true
  pub links : (l : Loading) (closed : List Url) (start : Url) → FitsLoading l → l.unlinked start ≡ true
      → (fault : Option (FaultAt Url)) × (after : List Url) × IsLinking same_url (modules_in l) closed start fault after

-- where what is linked are Unlinked modules in which bodies can run, it is so behind linking, with a fault or without one; nothing is
-- linked no more, and without a fault the root is linked
pub record IsStillLinked (l : Loading) (closed after : List Url) : Type 0 where
  pub modules : AreLinked (modules_in l) (has after)
  pub unlinked : (u : Url) → has after u ≡ true → l.unlinked u ≡ true
  pub stays : (u : Url) → has closed u ≡ true → has after u ≡ true

pub record LinkedStaysLinked : Type 0 where
  pub links : (l : Loading) (closed after : List Url) (start : Url) (fault : Option (FaultAt Url)) → FitsLoading l
      → l.unlinked start ≡ true → AreLinked (modules_in l) (has closed) → ((u : Url) → has closed u ≡ true → l.unlinked u ≡ true)
      → IsLinking same_url (modules_in l) closed start fault after → IsStillLinked l closed after
  pub root : (l : Loading) (closed after : List Url) (start : Url) → IsLinking same_url (modules_in l) closed start None after
      → has after start ≡ true

-- what is Unlinked stays so, through an answer, an import() and the end of a fetch
pub record UnlinkedStays : Type 0 where
  pub next : (before after : Host) (u : Url) → AnswersNext before after → before.imports.unlinked u ≡ true
      → after.imports.unlinked u ≡ true
  pub begins : (before after : Host) (referrer : Url) (specifier : Text) (promise : ℕ) (end : Result (Unit {0}) Limit) (u : Url)
      → BeginsImport before referrer specifier promise end after → before.imports.unlinked u ≡ true
      → after.imports.unlinked u ≡ true
  pub fetched : (before : Host) (url : Url) (c : OutcomeView) (u : Url) → before.imports.unlinked u ≡ true
      → (after_fetch before url c).imports.unlinked u ≡ true
