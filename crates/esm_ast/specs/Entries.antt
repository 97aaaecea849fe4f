-- What a module requests, imports and exports, in order of appearance.
-- ECMA-262, ModuleRequests, ImportEntries, ExportEntries, and the sorting of export entries in ParseModule.
use Rattle.std.specs.Prelude.{ℕ, ◌<◌, Bool, true, false, ◌||◌, List, [], ◌∷◌, ◌++◌, map, All, codes, bytes_eq, Option, Some, None, if◌then◌else◌}
use Rattle.std.specs.List.{list_any, position_or_len}
use Rattle.esm_base.specs.DefaultExport.{star_default, or_star_default}
use Rattle.esm_tree.specs.declared.node.Wanted.{Wanted}
use Rattle.esm_tree.specs.declared.node.Wanted.TheVariants.{Named, Whole}
use Rattle.esm_tree.specs.declared.node.ImportBinding.{ImportBinding}
use Rattle.esm_tree.specs.declared.node.ExportSpecifier.{ExportSpecifier}
use Rattle.esm_tree.specs.Syntax.{Init, awaited, Bindings, no_more, binding, Stmt, Assign, Block, If, IfElse, Try, TryCatch, Await, PrintAwait, Const, Let, Default, Stmts, nothing, first, Item, ImportEffect, ImportFrom, ExportAll, ExportAllAs, ExportFrom, ExportList, ExportStatement, ExportFunction, ExportDefaultFunction, Statement}
use Rattle.esm_grammar.specs.Names.{declared_names}
use Rattle.esm_base.specs.Urls.{Text}
use Rattle.esm_ast.specs.declared.entries.ImportEntry.{ImportEntry}
use Rattle.esm_ast.specs.declared.entries.LocalExport.{LocalExport}
use Rattle.esm_ast.specs.declared.entries.IndirectExport.{IndirectExport}

-- what a module requests, imports and exports, and whether it has top-level await
pub record EntryLists : Type 0 where
  pub requests : List Text
  pub imports : List ImportEntry
  pub locals : List LocalExport
  pub indirects : List IndirectExport
  pub stars : List ℕ
  pub awaits : Bool

abbrev pub no_entries : EntryLists
no_entries = record { requests = []; imports = []; locals = []; indirects = []; stars = []; awaits = false }

-- each place of a request that the exports of other modules name is one of so many requests
pub record ExportsNameRequests (entries : EntryLists) (requests : ℕ) : Type 0 where
  pub indirects : All (λ (i : IndirectExport). i.request < requests) entries.indirects
  pub stars : All (λ (i : ℕ). i < requests) entries.stars

-- and each place that the imports name
pub record NamesRequests (entries : EntryLists) (requests : ℕ) : Type 0 where
  pub imports : All (λ (i : ImportEntry). i.request < requests) entries.imports
  pub exports : ExportsNameRequests entries requests

-- ---- requests

-- ECMA-262, ModuleRequests of an item
unfoldable pub request_of : Item → Option Text
request_of (ImportEffect s) = Some s
request_of (ImportFrom s bs) = Some s
request_of (ExportAll s) = Some s
request_of (ExportAllAs n s) = Some s
request_of (ExportFrom es s) = Some s
request_of _ = None

-- a list to which a text was added, unless it has it
unfoldable pub with_text : List Text → Text → List Text
with_text found s = if list_any (bytes_eq s) found then found else found ++ s ∷ []

unfoldable pub add_request : List Text → Option Text → List Text
add_request found None = found
add_request found (Some s) = with_text found s

unfoldable pub requests_after : List Text → List Item → List Text
requests_after found [] = found
requests_after found (x ∷ xs) = requests_after (add_request found (request_of x)) xs

-- ECMA-262, ModuleRequests: each specifier once, in order of first appearance
abbrev pub requests_of : List Item → List Text
requests_of xs = requests_after [] xs

-- the place of a text in a list, or its length
abbrev pub place_of : List Text → Text → ℕ
place_of requests s = position_or_len (bytes_eq s) requests

-- ---- imports

abbrev pub import_entry : ℕ → ImportBinding → ImportEntry
import_entry request b = record { request = request; wanted = b.wanted; local = b.local }

-- ECMA-262, ImportEntries of an item
unfoldable pub imports_of : List Text → Item → List ImportEntry
imports_of requests (ImportFrom s bs) = map (import_entry (place_of requests s)) bs
imports_of requests _ = []

unfoldable pub all_imports : List Text → List Item → List ImportEntry
all_imports requests [] = []
all_imports requests (x ∷ xs) = imports_of requests x ++ all_imports requests xs

-- the import entry of a local name
unfoldable pub import_named : List ImportEntry → Text → Option ImportEntry
import_named [] name = None
import_named (e ∷ es) name = if bytes_eq e.local name then Some e else import_named es name

-- ---- exports

-- what an export entry is: of the module's own binding, or of another module's
pub data Export : Type 0 where
  Local : LocalExport → Export
  Indirect : IndirectExport → Export

abbrev pub local_export : Text → Text → Export
local_export name local = Local (record { name = name; local = local })

abbrev pub indirect_export : Text → ℕ → Wanted → Export
indirect_export name request wanted = Indirect (record { name = name; request = request; wanted = wanted })

-- a name that was imported by name is exported from where it was imported; a namespace is a binding of the module
unfoldable pub listed_by_wanted : Text → Text → ℕ → Wanted → Export
listed_by_wanted name local request (Named wanted) = indirect_export name request (Named wanted)
listed_by_wanted name local request Whole = local_export name local

unfoldable pub listed_by : Text → Text → Option ImportEntry → Export
listed_by name local None = local_export name local
listed_by name local (Some e) = listed_by_wanted name local e.request e.wanted

-- ECMA-262, ExportEntries of `export { .. }`, sorted as ParseModule does
unfoldable pub listed : List ImportEntry → ExportSpecifier → Export
listed imports s = listed_by s.exported s.first (import_named imports s.first)

abbrev pub passed_on : ℕ → ExportSpecifier → Export
passed_on request s = indirect_export s.exported request (Named s.first)

abbrev pub own_export : Text → Export
own_export n = local_export n n

abbrev pub default_export : Text → Export
default_export local = local_export (codes "default") local

unfoldable pub statement_exports : Stmt → List Export
statement_exports (Default v) = default_export star_default ∷ []
statement_exports s = map own_export (declared_names s)

-- ECMA-262, ExportEntries of an item, `export *` aside
unfoldable pub exports_of : List Text → List ImportEntry → Item → List Export
exports_of requests imports (ExportAllAs n s) = indirect_export n (place_of requests s) Whole ∷ []
exports_of requests imports (ExportFrom es s) = map (passed_on (place_of requests s)) es
exports_of requests imports (ExportList es) = map (listed imports) es
exports_of requests imports (ExportStatement s) = statement_exports s
exports_of requests imports (ExportFunction n ps ss) = own_export n ∷ []
exports_of requests imports (ExportDefaultFunction n ps ss) = default_export (or_star_default n) ∷ []
exports_of requests imports _ = []

unfoldable pub all_exports : List Text → List ImportEntry → List Item → List Export
all_exports requests imports [] = []
all_exports requests imports (x ∷ xs) = exports_of requests imports x ++ all_exports requests imports xs

unfoldable pub locals_of : List Export → List LocalExport
locals_of [] = []
locals_of (Local e ∷ es) = e ∷ locals_of es
locals_of (Indirect e ∷ es) = locals_of es

unfoldable pub indirects_of : List Export → List IndirectExport
indirects_of [] = []
indirects_of (Local e ∷ es) = indirects_of es
indirects_of (Indirect e ∷ es) = e ∷ indirects_of es

-- the requests of `export *`
unfoldable pub stars_of : List Text → List Item → List ℕ
stars_of requests [] = []
stars_of requests (ExportAll s ∷ xs) = place_of requests s ∷ stars_of requests xs
stars_of requests (x ∷ xs) = stars_of requests xs

-- ---- top-level await: ECMA-262, Contains, with `await`; it doesn't look into functions

unfoldable pub init_awaits : Init → Bool
init_awaits (awaited e) = true
init_awaits _ = false

unfoldable pub bindings_await : Bindings → Bool
bindings_await no_more = false
bindings_await (binding n v bs) = init_awaits v || bindings_await bs

unfoldable mutual
  pub stmt_awaits : Stmt → Bool
  stmt_awaits (Assign n v) = init_awaits v
  stmt_awaits (Block ss) = stmts_await ss
  stmt_awaits (If e ss) = stmts_await ss
  stmt_awaits (IfElse e ss rs) = stmts_await ss || stmts_await rs
  stmt_awaits (Try ss rs) = stmts_await ss || stmts_await rs
  stmt_awaits (TryCatch ss n rs) = stmts_await ss || stmts_await rs
  stmt_awaits (Await e) = true
  stmt_awaits (PrintAwait e) = true
  stmt_awaits (Const bs) = bindings_await bs
  stmt_awaits (Let bs) = bindings_await bs
  stmt_awaits (Default v) = init_awaits v
  stmt_awaits _ = false

  pub stmts_await : Stmts → Bool
  stmts_await nothing = false
  stmts_await (first s ss) = stmt_awaits s || stmts_await ss

unfoldable pub item_awaits : Item → Bool
item_awaits (Statement s) = stmt_awaits s
item_awaits (ExportStatement s) = stmt_awaits s
item_awaits _ = false

-- ---- entries

unfoldable pub entries_with : List Text → List ImportEntry → List Item → EntryLists
entries_with requests imports xs = record {
  requests = requests;
  imports = imports;
  locals = locals_of (all_exports requests imports xs);
  indirects = indirects_of (all_exports requests imports xs);
  stars = stars_of requests xs;
  awaits = list_any item_awaits xs;
}

unfoldable pub entries_of : List Item → EntryLists
entries_of xs = entries_with (requests_of xs) (all_imports (requests_of xs) xs) xs
