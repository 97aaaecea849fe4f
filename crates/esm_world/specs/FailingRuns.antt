-- Worked examples of what fails: entries, imported modules, and a limit behind an entry that failed. And entries with too many
-- imports.
use Rattle.std.specs.Prelude.{◌≡◌, ℕ, ◌<◌, ◌≤◌, Bool, true, List, [], ◌∷◌, length, codes}
use Rattle.esm_base.specs.declared.fault.TextFault.TheVariants.{P2, P6}
use Rattle.esm_base.specs.declared.limits.TheConstants.{MAX_DELIVERED_BYTES, MAX_URLS}
use Rattle.esm_base.specs.declared.status.Status.TheVariants as statuses
use Rattle.esm_base.specs.Urls.{Url, has}
use Rattle.esm_tree.specs.Syntax as x
use Rattle.esm_tree.specs.Syntax.{Item}
use Rattle.esm_import_map.specs.ImportMap.{Maps}
use Rattle.esm_ast.specs.Outcome.{OutcomeView, Absent, Broken}
use Rattle.esm_realm.specs.Laws.{AreDistinct}
use Rattle.esm_loads.specs.UrlTable.{Script, found}
use Rattle.esm_loads.specs.Arrival.{bytes_of}
use Rattle.esm_rewriting.specs.State.{Begins, Ends, Throws}
use Rattle.esm_ast.specs.Deliveries.{Delivery, completed}
use Rattle.esm_world.specs.Run.{HasModuleTree, StandardRun}
use Rattle.esm_world.specs.Examples.{Run, ended, line, file, main_url, b_url, catching_main, imports_name}

-- ---- an entry that isn't there

-- the error of the URL is uncaught
abbrev pub EntryAbsent : Type 0
EntryAbsent = Run (completed main_url Absent ∷ []) (ended statuses.EntryFailed (main_url ∷ []) []
    (codes "Uncaught TypeError: cannot fetch a:/m") [])

-- ---- a limit behind an entry that failed

abbrev pub c_url : Url
c_url = codes "a:/c"

abbrev pub two_imports : Delivery
two_imports = file main_url (codes "import \"./b\"; import \"./c\";") (x.ImportEffect (codes "./b") ∷ x.ImportEffect (codes "./c") ∷ [])

abbrev pub too_long : List ℕ → Delivery
too_long bytes = completed c_url (Broken (record { fault = P6; bytes = bytes }))

-- the entry has failed by what it imports first. Where the bytes of the second pass their limit, that is told, and not the failure
abbrev pub LimitFirst : Type 0
LimitFirst = (bytes : List ℕ) → MAX_DELIVERED_BYTES < length bytes
    → Run (two_imports ∷ completed b_url Absent ∷ too_long bytes ∷ [])
    (ended statuses.Limit (main_url ∷ b_url ∷ c_url ∷ []) [] (codes "Limit L2") [])

-- ---- a throw behind an await

abbrev pub awaiting_main : Delivery
awaiting_main = file main_url (codes "await undefined; throw \"x\";")
    (x.Statement (x.Await x.Undefined) ∷ x.Statement (x.Throw (x.Text (codes "x"))) ∷ [])

-- the body goes on in its job, and the entry fails with what it throws
abbrev pub ThrowsBehindAwait : Type 0
ThrowsBehindAwait = Run (awaiting_main ∷ []) (ended statuses.EntryFailed (main_url ∷ []) [] (codes "Uncaught x")
    (Begins main_url ∷ Throws main_url ∷ []))

-- ---- an import() of a module whose body throws

abbrev pub throwing_module : Delivery
throwing_module = file b_url (codes "throw \"x\";") (x.Statement (x.Throw (x.Text (codes "x"))) ∷ [])

-- the promise of the import() is rejected with what the body throws, and the run goes on
abbrev pub CatchesThrow : Type 0
CatchesThrow = Run (catching_main ∷ throwing_module ∷ []) (ended statuses.Fulfilled (main_url ∷ b_url ∷ []) (line (codes "x")) []
    (Begins main_url ∷ Begins b_url ∷ Throws b_url ∷ Ends main_url ∷ []))

-- ---- an import() of a module that is not linked

abbrev pub unlinkable_b : Delivery
unlinkable_b = file b_url (codes "import {x} from \"./m\";") (x.ImportFrom (codes "./m") (imports_name (codes "x") ∷ []) ∷ [])

-- the promise of the import() is rejected with the error of the link fault, no body of it begins, and the run goes on
abbrev pub CatchesFault : Type 0
CatchesFault = Run (catching_main ∷ unlinkable_b ∷ []) (ended statuses.Fulfilled (main_url ∷ b_url ∷ [])
    (line (codes "SyntaxError: a:/b: no export x in a:/m")) [] (Begins main_url ∷ Ends main_url ∷ []))

-- ---- an import() whose load is refused

abbrev pub importing_c : Delivery
importing_c = file b_url (codes "import \"./c\";") (x.ImportEffect (codes "./c") ∷ [])

-- the imported module is there, and what it imports isn't: the promise of the import() is rejected as its load was
abbrev pub CatchesRefusal : Type 0
CatchesRefusal = Run (catching_main ∷ importing_c ∷ completed c_url Absent ∷ []) (ended statuses.Fulfilled (main_url ∷ b_url ∷ c_url ∷ [])
    (line (codes "TypeError: cannot fetch a:/c")) [] (Begins main_url ∷ Ends main_url ∷ []))

-- ---- an entry that requests a bare specifier

abbrev pub bare_main : Delivery
bare_main = file main_url (codes "import \"./b\"; import \"react\";")
    (x.ImportEffect (codes "./b") ∷ x.ImportEffect (codes "react") ∷ [])

-- no import map names it: the entry is broken, and nothing of it is asked
abbrev pub BareSpecifier : Type 0
BareSpecifier = Run (bare_main ∷ []) (ended statuses.EntryFailed (main_url ∷ []) []
    (codes "Uncaught TypeError: a:/m: specifier react: S4 bare and not mapped") [])

-- ---- an entry that is no module text

abbrev pub two_texts : Delivery
two_texts = completed main_url (Broken (record { fault = P2; bytes = codes "print(\"a\" \"b\")" }))

-- the error of the fault that is delivered is uncaught
abbrev pub NoModuleText : Type 0
NoModuleText = Run (two_texts ∷ []) (ended statuses.EntryFailed (main_url ∷ []) []
    (codes "Uncaught SyntaxError: a:/m: P2 no module text") [])

-- ---- too many imports

-- what is delivered for the entry is a module text that can be run, of at most MAX_DELIVERED_BYTES bytes, whose requests resolve to
-- these targets. The entry and its targets are more than MAX_URLS different URLs
pub record ImportsTooMany (maps : Maps) (built : List Item → Bool) (entry : Url) (c : OutcomeView) (targets : List Url) : Type 0 where
  pub items : List Item
  pub is : found maps built entry c ≡ Script (record { body = items; targets = targets })
  pub tree : HasModuleTree c
  pub small : bytes_of c ≤ MAX_DELIVERED_BYTES
  pub urls : List Url
  pub apart : AreDistinct urls
  pub among : (u : Url) → has urls u ≡ true → has (entry ∷ targets) u ≡ true
  pub many : MAX_URLS < length urls

-- MAX_URLS are asked (which, isn't said here), and the limit stops the run: after this one delivery it has ended, the log is empty,
-- and no body has begun
abbrev pub TooManyImports : Type 0
TooManyImports = (maps : Maps) (built : List Item → Bool) (entry : Url) (trace : Bool) (c : OutcomeView) (targets : List Url)
    → ImportsTooMany maps built entry c targets → (asked : List Url) × (length asked ≡ MAX_URLS)
    × StandardRun maps built entry trace (completed entry c ∷ []) (ended statuses.Limit asked [] (codes "Limit L1") [])
