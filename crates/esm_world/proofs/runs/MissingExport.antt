-- The example of an import of what isn't exported, step by step.
use Rattle.std.proofs.Common.{◌≡◌, ℕ, false, List, [], ◌∷◌, Some, refl}
use Rattle.std.specs.Prelude.{codes, ◌||◌}
use Rattle.url.proofs.OnLiterals.{url_on_literals}
use Rattle.esm_base.specs.Urls.{Url}
use Rattle.esm_tree.specs.Syntax as x
use Rattle.esm_tree.specs.Syntax.{Item, Stmts}
use Rattle.esm_grammar.specs.EarlyErrors.{exported_names, exported_of, module_names, declared_of, statement_exported, name_list}
use Rattle.esm_grammar.specs.Names.{declared_names, names_of}
use Rattle.esm_ast.specs.Entries.{import_named, statement_exports, listed, listed_by, listed_by_wanted, entries_of, entries_with, request_of, with_text, add_request, requests_after, imports_of, all_imports, exports_of, all_exports, locals_of, indirects_of, stars_of, item_awaits, stmt_awaits, stmts_await, init_awaits, bindings_await}
use Rattle.esm_base.specs.DefaultExport.{or_star_default}
use Rattle.esm_ast.specs.ModuleTree.{IsModuleTree, returns_outside, awaits_inside, stmt_returns, stmts_return}
use Rattle.esm_import_map.specs.ImportMap.{no_maps}
use Rattle.esm_realm.specs.Walk.Visits.{fresh}
use Rattle.esm_realm.specs.Walk.Passes.{all, next}
use Rattle.esm_ast.specs.declared.entries.ImportEntry.{ImportEntry}
use Rattle.esm_tree.specs.declared.node.Wanted.TheVariants.{Named}
use Rattle.esm_resolve.specs.Resolution.{pair_of}
use Rattle.esm_resolve.specs.declared.graph.Resolution.TheVariants.{Missing}
use Rattle.esm_env.specs.Modules.{Modules, graph, Exports}
use Rattle.esm_values.specs.Value.{Undefined}
use Rattle.esm_promise.specs.Promises.{Done, Fulfilled, job}
use Rattle.esm_promise.specs.Reactions.{EntryLoaded}
use Rattle.esm_loads.specs.UrlTable.{no_urls, with_url, put_at}
use Rattle.esm_loads.specs.Loading.{Root, Request, Open, LoadComplete}
use Rattle.esm_loads.specs.Load.{Enters, Asks, Answers}
use Rattle.esm_loads.specs.Host.{Host, Answered}
use Rattle.esm_loads.specs.Arrival.{AnswersNext}
use Rattle.esm_link.specs.Faults.{FaultAt, ExportFault, ImportFault, of_imports}
use Rattle.esm_link.specs.declared.LinkKind.TheVariants.{K1}
use Rattle.esm_link.specs.Link.{LinksMarks}
use Rattle.esm_world.specs.World.{World, Failed, opening, modules_in, with_host, host_of}
use Rattle.esm_world.specs.Layers.{with_promises}
use Rattle.esm_world.specs.Jobs.{Jobs, Reacts, LinksLoad, link_failed, new_error, with_entry_state}
use Rattle.esm_world.specs.Turn.{Tasks, Turn, fetched}
use Rattle.esm_world.specs.Examples.{main_url, b_url, default_main, empty_b, NoSuchExport}
use Rattle.esm_loads.specs.LoadsView.{every_form}
use Rattle.esm_world.proofs.runs.Steps.{entry_of, arrived, turn_from, no_names, some_names, utf8_d, no_export_of}

abbrev main_items : List Item
main_items = x.ImportFrom (codes "./b") (record { wanted = Named (codes "default"); local = codes "d" } ∷ []) ∷ []

abbrev b_items : List Item
b_items = []

-- ---- the first turn: the module asks for what it imports

abbrev w0 : World
w0 = opening no_maps every_form main_url false

abbrev w1 : World
w1 = arrived w0 main_url 20 (entry_of main_items (b_url ∷ []))

fetched1 : fetched w0 main_url default_main.outcome ≡ w1
unfolding url_on_literals requests_after add_request request_of with_text
fetched1 = refl

abbrev h1 : Host
h1 = record {
  promises = w0.promises;
  errors = [];
  imports = record w1.loading {
    asked = main_url ∷ b_url ∷ [];
    pending = put_at (put_at w1.loading.pending main_url []) b_url (Request 0 main_url 0 ∷ []);
    loads = Open main_url (with_url no_urls main_url) ∷ [];
  };
}

answers1 : AnswersNext (host_of w1) h1
answers1 = record {
  who = record { url = main_url; pending_request = Root 0; entry = entry_of main_items (b_url ∷ []); others = [] };
  is_next = refl;
  answered = Answered.answered (Answers.root refl (Enters.enters (main_url, no_urls) refl refl
      (Asks.waits (main_url, with_url no_urls main_url) refl refl Asks.no_more)));
}

abbrev w2 : World
w2 = with_host w1 h1

turn1 : Turn w0 main_url default_main.outcome w2
turn1 = turn_from fetched1 refl (Tasks.task refl answers1 (Jobs.none refl) (Tasks.none refl))

-- ---- the second turn

abbrev w3 : World
w3 = arrived w2 b_url 0 (entry_of b_items [])

fetched2 : fetched w2 b_url empty_b.outcome ≡ w3
unfolding url_on_literals requests_after add_request request_of with_text
fetched2 = refl

abbrev h3 : Host
h3 = record {
  promises = record { all = Done (Fulfilled Undefined) ∷ []; jobs = job 0 EntryLoaded ∷ [] };
  errors = [];
  imports = record w3.loading {
    pending = put_at w3.loading.pending b_url [];
    loads = LoadComplete main_url ∷ [];
    unlinked = λ u. false || with_url (with_url no_urls main_url) b_url u;
  };
}

answers2 : AnswersNext (host_of w3) h3
answers2 = record {
  who = record { url = b_url; pending_request = Request 0 main_url 0; entry = entry_of b_items []; others = [] };
  is_next = refl;
  answered = Answered.answered (Answers.request (main_url, with_url no_urls main_url) refl refl
      (Enters.enters (main_url, with_url no_urls main_url) refl refl Asks.no_more));
}

abbrev w4 : World
w4 = with_host w3 h3

abbrev w5 : World
w5 = with_promises w4 (record w4.promises { jobs = [] })

abbrev g : Modules Url
g = modules_in w5.loading

is_missing : Exports g b_url (codes "default") Missing
unfolding entries_of entries_with request_of with_text add_request requests_after imports_of all_imports exports_of all_exports locals_of indirects_of stars_of item_awaits stmt_awaits stmts_await init_awaits bindings_await import_named or_star_default statement_exports listed listed_by listed_by_wanted declared_names names_of
is_missing = no_export_of (graph g) (pair_of 1 (codes "default")) refl refl

abbrev d_entry : ImportEntry
d_entry = record { request = 0; wanted = Named (codes "default"); local = codes "d" }

abbrev no_export : FaultAt Url
no_export = record { kind = K1; module_is = main_url; name = codes "default"; target = b_url }

link1 : LinksLoad w5 0 main_url (Some no_export) (b_url ∷ [])
unfolding entries_of entries_with request_of with_text add_request requests_after imports_of all_imports exports_of all_exports locals_of indirects_of stars_of item_awaits stmt_awaits stmts_await init_awaits bindings_await import_named or_star_default statement_exports listed listed_by listed_by_wanted declared_names names_of
link1 = record {
  is_root = refl;
  links = record {
    marks = _;
    walk = (_, fresh refl (next (fresh refl all) all));
    links = LinksMarks.enters (LinksMarks.enters (LinksMarks.component (of_imports ExportFault.none ImportFault.none) refl
        (LinksMarks.passes (LinksMarks.fails (of_imports ExportFault.none (ImportFault.found {e = d_entry} (codes "default") Missing refl is_missing refl))))));
  };
}

abbrev w6 : World
w6 = with_entry_state (link_failed w5 no_export (b_url ∷ [])) (Failed (new_error w5))

jobs2 : Jobs w4 w6
jobs2 = Jobs.job (job 0 EntryLoaded) w5.promises (Fulfilled Undefined) refl refl refl (Reacts.entry_fault main_url no_export (b_url ∷ []) link1) (Jobs.none refl)

turn2 : Turn w2 b_url empty_b.outcome w6
turn2 = turn_from fetched2 refl (Tasks.task refl answers2 jobs2 (Tasks.none refl))

main_tree : IsModuleTree main_items
unfolding exported_names exported_of module_names declared_of statement_exported name_list returns_outside awaits_inside stmt_returns stmts_return declared_names names_of stmts_await stmt_awaits init_awaits
main_tree = record { returns = refl; awaits = refl; exported = no_names refl; declared = some_names {ys = codes "d" ∷ []} refl (utf8_d, tt) }

b_tree : IsModuleTree b_items
unfolding exported_names exported_of module_names declared_of statement_exported name_list returns_outside awaits_inside stmt_returns stmts_return declared_names names_of stmts_await stmt_awaits init_awaits
b_tree = record { returns = refl; awaits = refl; exported = no_names refl; declared = no_names refl }

abbrev thrown_text : List ℕ
thrown_text = codes "SyntaxError: a:/m: no export default in a:/b"

pub no_such_export : NoSuchExport
no_such_export = record {
  world = w6;
  line = codes "Uncaught SyntaxError: a:/m: no export default in a:/b";
  runs = (record { asked = refl; tree = main_tree }, w2, turn1, (record { asked = refl; tree = b_tree }, w6, turn2, refl));
  last_line = (thrown_text, refl, refl);
  shows = refl;
}
