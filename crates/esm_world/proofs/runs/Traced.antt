-- The example of trace lines, step by step.
use Rattle.std.proofs.Common.{◌≡◌, true, false, List, [], ◌∷◌, None, refl}
use Rattle.std.specs.Prelude.{Ok, codes, ◌||◌}
use Rattle.url.proofs.OnLiterals.{url_on_literals}
use Rattle.esm_tree.specs.Syntax as x
use Rattle.esm_tree.specs.Syntax.{Item}
use Rattle.esm_grammar.specs.EarlyErrors.{exported_names, exported_of, module_names, declared_of, statement_exported, name_list}
use Rattle.esm_grammar.specs.Names.{declared_names}
use Rattle.esm_ast.specs.Entries.{entries_of, entries_with, request_of, with_text, add_request, requests_after, imports_of, all_imports, exports_of, all_exports, locals_of, indirects_of, stars_of, item_awaits, stmt_awaits, stmts_await, init_awaits, bindings_await}
use Rattle.esm_ast.specs.ModuleTree.{IsModuleTree, returns_outside, awaits_inside, stmt_returns, stmts_return}
use Rattle.esm_import_map.specs.ImportMap.{no_maps}
use Rattle.esm_realm.specs.Walk.Visits.{fresh}
use Rattle.esm_realm.specs.Walk.Passes.{all, next}
use Rattle.esm_values.specs.Value.{Undefined}
use Rattle.esm_values.specs.Ran.Ran.{Normal}
use Rattle.esm_promise.specs.Promises.{Done, Fulfilled, job}
use Rattle.esm_promise.specs.Reactions.{EntryLoaded, EntryDone}
use Rattle.esm_loads.specs.UrlTable.{no_urls, with_url, put_at}
use Rattle.esm_loads.specs.Loading.{Root, Request, Open, LoadComplete}
use Rattle.esm_loads.specs.Load.{Enters, Asks, Answers}
use Rattle.esm_loads.specs.Host.{Host, Answered}
use Rattle.esm_loads.specs.Arrival.{AnswersNext}
use Rattle.esm_link.specs.Faults.{ExportFault, ImportFault, of_imports}
use Rattle.esm_link.specs.Link.{LinksMarks}
use Rattle.esm_eval.specs.Nodes.{Run}
use Rattle.esm_eval.specs.Evaluate.{Ends, Marks, Leaves, EvaluatesRoot, Walks, keep, enter, close}
use Rattle.esm_eval.specs.Evaluate.{Executes as executes}
use Rattle.esm_rewriting.specs.Rest.{end, more}
use Rattle.esm_rewriting.specs.Rest.Part.{Whole}
use Rattle.esm_rewriting.specs.State.{Begins, Ends as ends_event, add_event, add_line, take_steps}
use Rattle.esm_rewriting.specs.Segment.{Segment}
use Rattle.esm_rewriting.specs.Segment.{Ended as ended}
use Rattle.esm_rewriting.specs.Bodies.{RunsBody}
use Rattle.esm_world.specs.World.{World, Ended, opening, body_state, with_state, with_host, host_of}
use Rattle.esm_world.specs.Layers.{CallsForBody, evaluation, with_linked, with_promises}
use Rattle.esm_world.specs.Jobs.{Jobs, Reacts, LinksLoad, EvaluatesLoad, with_reaction, with_entry_state, settle_promise}
use Rattle.esm_world.specs.Turn.{Tasks, Turn, fetched}
use Rattle.esm_world.specs.Examples.{main_url, b_url, cycle_main, printing_b, prints}
use Rattle.esm_loads.specs.LoadsView.{every_form}
use Rattle.esm_world.specs.TracedRun.{TraceLines}
use Rattle.esm_world.proofs.runs.Steps.{Here, Runs, entry_of, arrived, turn_from, printing, prints_text, no_names}

abbrev main_items : List Item
main_items = x.ImportEffect (codes "./b") ∷ prints (codes "m") ∷ []

abbrev b_items : List Item
b_items = prints (codes "b") ∷ []

-- ---- the first turn: the module asks for what it imports

abbrev w0 : World
w0 = opening no_maps every_form main_url true

abbrev w1 : World
w1 = arrived w0 main_url 25 (entry_of main_items (b_url ∷ []))

fetched1 : fetched w0 main_url cycle_main.outcome ≡ w1
unfolding url_on_literals requests_after add_request request_of with_text
fetched1 = refl

abbrev h1 : Host
h1 = record {
  promises = w0.promises;
  errors = [];
  imports = record w1.loading {
    asked = main_url ∷ b_url ∷ [];
    pending = put_at (put_at w1.loading.pending main_url []) b_url (Request 0 main_url 0 ∷ []);
    loads = Open main_url (with_url no_urls main_url) ∷ [];
  };
}

answers1 : AnswersNext (host_of w1) h1
answers1 = record {
  who = record { url = main_url; pending_request = Root 0; entry = entry_of main_items (b_url ∷ []); others = [] };
  is_next = refl;
  answered = Answered.answered (Answers.root refl (Enters.enters (main_url, no_urls) refl refl
      (Asks.waits (main_url, with_url no_urls main_url) refl refl Asks.no_more)));
}

abbrev w2 : World
w2 = with_host w1 h1

turn1 : Turn w0 main_url cycle_main.outcome w2
turn1 = turn_from fetched1 refl (Tasks.task refl answers1 (Jobs.none refl) (Tasks.none refl))

-- ---- the second turn

abbrev w3 : World
w3 = arrived w2 b_url 11 (entry_of b_items [])

fetched2 : fetched w2 b_url printing_b.outcome ≡ w3
unfolding url_on_literals requests_after add_request request_of with_text
fetched2 = refl

abbrev h3 : Host
h3 = record {
  promises = record { all = Done (Fulfilled Undefined) ∷ []; jobs = job 0 EntryLoaded ∷ [] };
  errors = [];
  imports = record w3.loading {
    pending = put_at w3.loading.pending b_url [];
    loads = LoadComplete main_url ∷ [];
    unlinked = λ u. false || with_url (with_url no_urls main_url) b_url u;
  };
}

answers2 : AnswersNext (host_of w3) h3
answers2 = record {
  who = record { url = b_url; pending_request = Request 0 main_url 0; entry = entry_of b_items []; others = [] };
  is_next = refl;
  answered = Answered.answered (Answers.request (main_url, with_url no_urls main_url) refl refl
      (Enters.enters (main_url, with_url no_urls main_url) refl refl Asks.no_more));
}

abbrev w4 : World
w4 = with_host w3 h3

abbrev w5 : World
w5 = with_promises w4 (record w4.promises { jobs = [] })

link1 : LinksLoad w5 0 main_url None (b_url ∷ main_url ∷ [])
unfolding entries_of entries_with request_of with_text add_request requests_after imports_of all_imports exports_of all_exports locals_of indirects_of stars_of item_awaits stmt_awaits stmts_await init_awaits bindings_await
link1 = record {
  is_root = refl;
  links = record {
    marks = _;
    walk = (_, fresh refl (next (fresh refl all) all));
    links = LinksMarks.enters (LinksMarks.enters (LinksMarks.component (of_imports ExportFault.none ImportFault.none) refl
        (LinksMarks.passes (LinksMarks.component (of_imports ExportFault.none ImportFault.none) refl LinksMarks.done))));
  };
}

abbrev w6 : World
w6 = with_linked w5 (b_url ∷ main_url ∷ [])

abbrev w7 : World
w7 = keep evaluation w6 main_url

abbrev w8 : World
w8 = enter evaluation (enter evaluation w7 main_url) b_url

-- the body of the imported module, between its lines

abbrev a1 : Here
a1 = add_event (Begins b_url) (add_line (body_state w8) (codes "# start a:/b")).1

abbrev a2 : Here
a2 = (add_line (take_steps (take_steps a1 1).1 1).1 (codes "b")).1

segment1 : Runs a1 b_url (more (Whole (printing (codes "b"))) end) [] ended.Normal a2
segment1 = prints_text {late = a2} refl refl refl Segment.ends

abbrev w9 : World
w9 = with_state w8 (add_event (ends_event b_url) (add_line a2 (codes "# end a:/b")).1)

ran1 : CallsForBody w8 (Run b_url) (Ok Normal) w9
ran1 = CallsForBody.run (RunsBody.segment {mid = a1} {late = a2} refl segment1 refl)

leaves1 : Leaves evaluation CallsForBody w8 b_url Ends w9
unfolding entries_of entries_with request_of with_text add_request requests_after imports_of all_imports exports_of all_exports locals_of indirects_of stars_of item_awaits stmt_awaits stmts_await init_awaits bindings_await
leaves1 = Leaves.runs refl refl (executes.ends ran1)

abbrev w10 : World
w10 = close evaluation w9 b_url (b_url ∷ [])

-- that of the entry

abbrev m1 : Here
m1 = add_event (Begins main_url) (add_line (body_state w10) (codes "# start a:/m")).1

abbrev m2 : Here
m2 = (add_line (take_steps (take_steps m1 1).1 1).1 (codes "m")).1

segment2 : Runs m1 main_url (more (Whole (printing (codes "m"))) end) [] ended.Normal m2
segment2 = prints_text {late = m2} refl refl refl Segment.ends

abbrev w11 : World
w11 = with_state w10 (add_event (ends_event main_url) (add_line m2 (codes "# end a:/m")).1)

ran2 : CallsForBody w10 (Run main_url) (Ok Normal) w11
ran2 = CallsForBody.run (RunsBody.segment {mid = m1} {late = m2} refl segment2 refl)

leaves2 : Leaves evaluation CallsForBody w10 main_url Ends w11
unfolding entries_of entries_with request_of with_text add_request requests_after imports_of all_imports exports_of all_exports locals_of indirects_of stars_of item_awaits stmt_awaits stmts_await init_awaits bindings_await
leaves2 = Leaves.runs refl refl (executes.ends ran2)

abbrev w12 : World
w12 = close evaluation w11 main_url (main_url ∷ [])

walk1 : Walks evaluation CallsForBody w6 main_url w7 Ends w12
unfolding entries_of entries_with request_of with_text add_request requests_after imports_of all_imports exports_of all_exports locals_of indirects_of stars_of item_awaits stmt_awaits stmts_await init_awaits bindings_await
walk1 = record {
  closed = [];
  closed_is = λ x. refl;
  marks = _;
  walk = (_, fresh refl (next (fresh refl all) all));
  leads = Marks.enters (Marks.enters (Marks.component leaves1 refl (Marks.passes {t = b_url} refl refl (Marks.component leaves2 refl Marks.done))));
}

abbrev w13 : World
w13 = settle_promise w12 1 (Fulfilled Undefined)

evaluates1 : EvaluatesLoad w5 0 (Ok 1) w13
evaluates1 = record { root = main_url; linked = b_url ∷ main_url ∷ []; links = link1; evaluates = EvaluatesRoot.walks refl refl walk1 }

abbrev w14 : World
w14 = with_reaction w13 1 EntryDone

abbrev w15 : World
w15 = with_promises w14 (record w14.promises { jobs = [] })

abbrev w16 : World
w16 = with_entry_state w15 Ended

jobs2 : Jobs w4 w16
jobs2 = Jobs.job (job 0 EntryLoaded) w5.promises (Fulfilled Undefined) refl refl refl (Reacts.entry_linked evaluates1)
    (Jobs.job (job 1 EntryDone) w15.promises (Fulfilled Undefined) refl refl refl Reacts.entry_ended (Jobs.none refl))

turn2 : Turn w2 b_url printing_b.outcome w16
turn2 = turn_from fetched2 refl (Tasks.task refl answers2 jobs2 (Tasks.none refl))

main_tree : IsModuleTree main_items
unfolding exported_names exported_of module_names declared_of statement_exported name_list returns_outside awaits_inside stmt_returns stmts_return declared_names
main_tree = record { returns = refl; awaits = refl; exported = no_names refl; declared = no_names refl }

b_tree : IsModuleTree b_items
unfolding exported_names exported_of module_names declared_of statement_exported name_list returns_outside awaits_inside stmt_returns stmts_return declared_names
b_tree = record { returns = refl; awaits = refl; exported = no_names refl; declared = no_names refl }

pub trace_lines : TraceLines
trace_lines = record {
  world = w16;
  line = [];
  runs = (record { asked = refl; tree = main_tree }, w2, turn1, (record { asked = refl; tree = b_tree }, w16, turn2, refl));
  last_line = refl;
  shows = refl;
}
