-- Worked examples: whole standard runs, each held against its text.
use Rattle.std.specs.Prelude.{true, false, List, [], ◌∷◌, ◌++◌, Some, codes}
use Rattle.esm_base.specs.declared.status.Status.{Status}
use Rattle.esm_base.specs.declared.status.Status.TheVariants as statuses
use Rattle.esm_base.specs.Urls.{Text, Url}
use Rattle.esm_tree.specs.Syntax as x
use Rattle.esm_tree.specs.Syntax.{Item, Expr}
use Rattle.esm_tree.specs.declared.node.ImportBinding.{ImportBinding}
use Rattle.esm_tree.specs.declared.node.Wanted.TheVariants.{Named}
use Rattle.esm_ast.specs.Outcome.{Script, Absent}
use Rattle.esm_import_map.specs.ImportMap.{no_maps}
use Rattle.esm_loads.specs.LoadsView.{every_form}
use Rattle.esm_rewriting.specs.State.{Event, Begins, Ends, Throws}
use Rattle.esm_world.specs.Run.{Shown, StandardRun}
use Rattle.esm_ast.specs.Deliveries.{Delivery, completed}

abbrev pub main_url : Url
main_url = codes "a:/m"

abbrev pub b_url : Url
b_url = codes "a:/b"

-- a file of this text, which spells these items
abbrev pub file : Url → Text → List Item → Delivery
file u text items = completed u (Script (record { bytes = text; items = items }))

-- the standard run of a:/m, without a map and without trace lines, over these deliveries shows this
abbrev pub Run : List Delivery → Shown → Type 0
Run deliveries what = StandardRun no_maps every_form main_url false deliveries what

-- a run that has ended
abbrev pub ended : Status → List Url → Text → Text → List (Event Url) → Shown
ended status asked log line events = record {
  asked = asked;
  asks = [];
  ended = true;
  status = Some status;
  log = log;
  last_line = line;
  events = events;
}

abbrev pub line : Text → Text
line text = text ++ 10 ∷ []

-- ---- items

abbrev pub print_of : Expr → Item
print_of e = x.Statement (x.Expression (x.Print (x.more e x.none)))

-- print("TEXT");
abbrev pub prints : Text → Item
prints text = print_of (x.Text text)

abbrev pub import_of : Text → Expr
import_of specifier = x.Import (x.Text specifier)

abbrev pub imports_name : Text → ImportBinding
imports_name name = record { wanted = Named name; local = name }

-- ---- an import() that is awaited

abbrev pub importing_main : Delivery
importing_main = file main_url (codes "await import(\"./b\"); print(\"m\");")
    (x.Statement (x.Await (import_of (codes "./b"))) ∷ prints (codes "m") ∷ [])

abbrev pub printing_b : Delivery
printing_b = file b_url (codes "print(\"b\");") (prints (codes "b") ∷ [])

-- the imported body runs once it is there, and then the importing one goes on
abbrev pub AwaitsImport : Type 0
AwaitsImport = Run (importing_main ∷ printing_b ∷ []) (ended statuses.Fulfilled (main_url ∷ b_url ∷ [])
    (line (codes "b") ++ line (codes "m")) [] (Begins main_url ∷ Begins b_url ∷ Ends b_url ∷ Ends main_url ∷ []))

-- ---- an import() of the module that is being evaluated

abbrev pub self_main : Delivery
self_main = file main_url (codes "import(\"./m\"); print(\"m\");")
    (x.Statement (x.Expression (import_of (codes "./m"))) ∷ prints (codes "m") ∷ [])

-- it is answered at once, and nothing runs a second time
abbrev pub ImportsItself : Type 0
ImportsItself = Run (self_main ∷ []) (ended statuses.Fulfilled (main_url ∷ []) (line (codes "m")) []
    (Begins main_url ∷ Ends main_url ∷ []))

abbrev pub waiting_main : Delivery
waiting_main = file main_url (codes "print(\"1\"); await import(\"./m\"); print(\"2\");")
    (prints (codes "1") ∷ x.Statement (x.Await (import_of (codes "./m"))) ∷ prints (codes "2") ∷ [])

-- where it is awaited, the module waits for the end of its own evaluation
abbrev pub WaitsForItself : Type 0
WaitsForItself = Run (waiting_main ∷ []) (ended statuses.Unsettled (main_url ∷ []) (line (codes "1")) (codes "Unsettled")
    (Begins main_url ∷ []))

-- ---- an import() that fails and is caught

abbrev pub catching_main : Delivery
catching_main = file main_url (codes "try { await import(\"./b\"); } catch (e) { print(e); }")
    (x.Statement (x.TryCatch (x.first (x.Await (import_of (codes "./b"))) x.nothing) (codes "e")
    (x.first (x.Expression (x.Print (x.more (x.Name (codes "e")) x.none))) x.nothing)) ∷ [])

-- the error of the URL is thrown at the await
abbrev pub CatchesImport : Type 0
CatchesImport = Run (catching_main ∷ completed b_url Absent ∷ []) (ended statuses.Fulfilled (main_url ∷ b_url ∷ [])
    (line (codes "TypeError: cannot fetch a:/b")) [] (Begins main_url ∷ Ends main_url ∷ []))

-- ---- a throw in a cycle

abbrev pub cycle_main : Delivery
cycle_main = file main_url (codes "import \"./b\"; print(\"m\");") (x.ImportEffect (codes "./b") ∷ prints (codes "m") ∷ [])

abbrev pub throwing_b : Delivery
throwing_b = file b_url (codes "import \"./m\"; throw \"x\";")
    (x.ImportEffect (codes "./m") ∷ x.Statement (x.Throw (x.Text (codes "x"))) ∷ [])

-- the body of the entry doesn't begin
abbrev pub ThrowsInCycle : Type 0
ThrowsInCycle = Run (cycle_main ∷ throwing_b ∷ []) (ended statuses.EntryFailed (main_url ∷ b_url ∷ []) [] (codes "Uncaught x")
    (Begins b_url ∷ Throws b_url ∷ []))

-- ---- a live binding, and a call of another module's function

abbrev pub print_x : Item
print_x = print_of (x.Name (codes "x"))

abbrev pub live_main : Delivery
live_main = file main_url (codes "import {x, bump} from \"./b\"; print(x); bump(); print(x);")
    (x.ImportFrom (codes "./b") (imports_name (codes "x") ∷ imports_name (codes "bump") ∷ []) ∷ print_x
    ∷ x.Statement (x.Expression (x.Post (x.Name (codes "bump")) (x.call x.none x.ends))) ∷ print_x ∷ [])

abbrev pub live_b : Delivery
live_b = file b_url (codes "export let x = \"1\"; export function bump() { x = \"2\"; }")
    (x.ExportStatement (x.Let (x.binding (codes "x") (x.plain (x.Text (codes "1"))) x.no_more))
    ∷ x.ExportFunction (codes "bump") [] (x.first (x.Assign (codes "x") (x.plain (x.Text (codes "2")))) x.nothing) ∷ [])

-- the second reading sees what the function wrote
abbrev pub LiveBinding : Type 0
LiveBinding = Run (live_main ∷ live_b ∷ []) (ended statuses.Fulfilled (main_url ∷ b_url ∷ [])
    (line (codes "1") ++ line (codes "2")) [] (Begins b_url ∷ Ends b_url ∷ Begins main_url ∷ Ends main_url ∷ []))

-- ---- an import of what isn't exported

abbrev pub default_main : Delivery
default_main = file main_url (codes "import d from \"./b\";")
    (x.ImportFrom (codes "./b") (record { wanted = Named (codes "default"); local = codes "d" } ∷ []) ∷ [])

abbrev pub empty_b : Delivery
empty_b = file b_url [] []

-- no body runs
abbrev pub NoSuchExport : Type 0
NoSuchExport = Run (default_main ∷ empty_b ∷ []) (ended statuses.EntryFailed (main_url ∷ b_url ∷ []) []
    (codes "Uncaught SyntaxError: a:/m: no export default in a:/b") [])
