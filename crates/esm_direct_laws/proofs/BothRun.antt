-- The run of the example, step by step.
use Rattle.std.proofs.Common.{◌≡◌, Bool, false, List, [], ◌∷◌, None, refl}
use Rattle.std.specs.Prelude.{Ok, codes, ◌||◌}
use Rattle.url.proofs.OnLiterals.{url_on_literals}
use Rattle.esm_base.specs.Urls.{Url}
use Rattle.esm_tree.specs.Syntax as x
use Rattle.esm_tree.specs.Syntax.{Item}
use Rattle.esm_grammar.specs.EarlyErrors.{exported_names, exported_of, module_names, declared_of, statement_exported, name_list}
use Rattle.esm_grammar.specs.Names.{declared_names}
use Rattle.esm_ast.specs.Entries.{entries_of, entries_with, request_of, with_text, add_request, requests_after, imports_of, all_imports, exports_of, all_exports, locals_of, indirects_of, stars_of, item_awaits, stmt_awaits, stmts_await, init_awaits, bindings_await}
use Rattle.esm_ast.specs.ModuleTree.{IsModuleTree, returns_outside, awaits_inside, stmt_returns, stmts_return}
use Rattle.esm_import_map.specs.ImportMap.{no_maps}
use Rattle.esm_realm.specs.Walk.Visits.{fresh}
use Rattle.esm_realm.specs.Walk.Passes.{all, next}
use Rattle.esm_values.specs.Value.{Undefined}
use Rattle.esm_values.specs.Ran.Ran.{Normal}
use Rattle.esm_promise.specs.Promises.{Done, Fulfilled, job}
use Rattle.esm_promise.specs.Reactions.{EntryLoaded, EntryDone}
use Rattle.esm_loads.specs.UrlTable.{no_urls, with_url, put_at}
use Rattle.esm_loads.specs.Loading.{Root, Request, Open, LoadComplete}
use Rattle.esm_loads.specs.Load.{Enters, Asks, Answers}
use Rattle.esm_loads.specs.Host.{Host, Answered}
use Rattle.esm_loads.specs.Arrival.{AnswersNext}
use Rattle.esm_link.specs.Faults.{ExportFault, ImportFault, of_imports}
use Rattle.esm_link.specs.Link.{LinksMarks}
use Rattle.esm_eval.specs.Nodes.{Run}
use Rattle.esm_eval.specs.Evaluate.{Ends, Marks, Leaves, EvaluatesRoot, Walks, keep, enter, close}
use Rattle.esm_eval.specs.Evaluate.{Executes as executes}
use Rattle.esm_rewriting.specs.Rest.{end, more}
use Rattle.esm_rewriting.specs.Rest.Part.{Whole}
use Rattle.esm_rewriting.specs.State.{Begins, Ends as ends_event, add_event, add_line, take_steps}
use Rattle.esm_rewriting.specs.Segment.{Segment}
use Rattle.esm_rewriting.specs.Segment.{Ended as ended}
use Rattle.esm_rewriting.specs.Bodies.{RunsBody}
use Rattle.esm_world.specs.World.{World, Ended, opening, body_state, with_state, with_host, host_of}
use Rattle.esm_world.specs.Layers.{CallsForBody, evaluation, with_linked, with_promises}
use Rattle.esm_world.specs.Jobs.{Jobs, Reacts, LinksLoad, EvaluatesLoad, with_reaction, with_entry_state, settle_promise}
use Rattle.esm_world.specs.Turn.{Tasks, Turn, fetched}
use Rattle.esm_world.specs.Examples.{Run as Ran, main_url, b_url, printing_b, prints}
use Rattle.esm_loads.specs.LoadsView.{every_form}
use Rattle.esm_direct_laws.specs.Examples.{asking_both, both_shown, c_url, printing_c}
use Rattle.esm_world.proofs.runs.Steps.{Here, Runs, entry_of, arrived, turn_from, printing, prints_text, no_names}

abbrev pub main_items : List Item
main_items = x.ImportEffect (codes "./b") ∷ x.ImportEffect (codes "./c") ∷ []

abbrev pub b_items : List Item
b_items = prints (codes "b") ∷ []

abbrev pub c_items : List Item
c_items = prints (codes "c") ∷ []

-- ---- the first turn: the module asks for what it imports

abbrev w0 : World
w0 = opening no_maps every_form main_url false

abbrev w1 : World
w1 = arrived w0 main_url 27 (entry_of main_items (b_url ∷ c_url ∷ []))

fetched1 : fetched w0 main_url asking_both.outcome ≡ w1
unfolding url_on_literals requests_after add_request request_of with_text
fetched1 = refl

abbrev h1 : Host
h1 = record {
  promises = w0.promises;
  errors = [];
  imports = record w1.loading {
    asked = main_url ∷ b_url ∷ c_url ∷ [];
    pending = put_at (put_at (put_at w1.loading.pending main_url []) b_url (Request 0 main_url 0 ∷ [])) c_url (Request 0 main_url 1 ∷ []);
    loads = Open main_url (with_url no_urls main_url) ∷ [];
  };
}

answers1 : AnswersNext (host_of w1) h1
answers1 = record {
  who = record { url = main_url; pending_request = Root 0; entry = entry_of main_items (b_url ∷ c_url ∷ []); others = [] };
  is_next = refl;
  answered = Answered.answered (Answers.root refl (Enters.enters (main_url, no_urls) refl refl
      (Asks.waits (main_url, with_url no_urls main_url) refl refl
      (Asks.waits (main_url, with_url no_urls main_url) refl refl Asks.no_more))));
}

abbrev w2 : World
w2 = with_host w1 h1

turn1 : Turn w0 main_url asking_both.outcome w2
turn1 = turn_from fetched1 refl (Tasks.task refl answers1 (Jobs.none refl) (Tasks.none refl))

-- ---- the second turn: the load goes on, since the other request is pending

abbrev w3 : World
w3 = arrived w2 b_url 11 (entry_of b_items [])

fetched2 : fetched w2 b_url printing_b.outcome ≡ w3
unfolding url_on_literals requests_after add_request request_of with_text
fetched2 = refl

abbrev main_and_b : Url → Bool
main_and_b = with_url (with_url no_urls main_url) b_url

abbrev h2 : Host
h2 = record {
  promises = w3.promises;
  errors = [];
  imports = record w3.loading {
    pending = put_at w3.loading.pending b_url [];
    loads = Open main_url main_and_b ∷ [];
  };
}

answers2 : AnswersNext (host_of w3) h2
answers2 = record {
  who = record { url = b_url; pending_request = Request 0 main_url 0; entry = entry_of b_items []; others = [] };
  is_next = refl;
  answered = Answered.answered (Answers.request (main_url, with_url no_urls main_url) refl refl
      (Enters.enters (main_url, with_url no_urls main_url) refl refl Asks.no_more));
}

abbrev w4 : World
w4 = with_host w3 h2

turn2 : Turn w2 b_url printing_b.outcome w4
turn2 = turn_from fetched2 refl (Tasks.task refl answers2 (Jobs.none refl) (Tasks.none refl))

-- ---- the third turn: the load ends

abbrev w5 : World
w5 = arrived w4 c_url 11 (entry_of c_items [])

fetched3 : fetched w4 c_url printing_c.outcome ≡ w5
unfolding url_on_literals requests_after add_request request_of with_text
fetched3 = refl

abbrev all_three : Url → Bool
all_three = with_url main_and_b c_url

abbrev h3 : Host
h3 = record {
  promises = record { all = Done (Fulfilled Undefined) ∷ []; jobs = job 0 EntryLoaded ∷ [] };
  errors = [];
  imports = record w5.loading {
    pending = put_at w5.loading.pending c_url [];
    loads = LoadComplete main_url ∷ [];
    unlinked = λ u. false || all_three u;
  };
}

answers3 : AnswersNext (host_of w5) h3
answers3 = record {
  who = record { url = c_url; pending_request = Request 0 main_url 1; entry = entry_of c_items []; others = [] };
  is_next = refl;
  answered = Answered.answered (Answers.request (main_url, main_and_b) refl refl
      (Enters.enters (main_url, main_and_b) refl refl Asks.no_more));
}

abbrev w6 : World
w6 = with_host w5 h3

abbrev w7 : World
w7 = with_promises w6 (record w6.promises { jobs = [] })

abbrev linked_all : List Url
linked_all = b_url ∷ c_url ∷ main_url ∷ []

link1 : LinksLoad w7 0 main_url None linked_all
unfolding entries_of entries_with request_of with_text add_request requests_after imports_of all_imports exports_of all_exports locals_of indirects_of stars_of item_awaits stmt_awaits stmts_await init_awaits bindings_await
link1 = record {
  is_root = refl;
  links = record {
    marks = _;
    walk = (_, fresh refl (next (fresh refl all) (next (fresh refl all) all)));
    links = LinksMarks.enters (LinksMarks.enters (LinksMarks.component (of_imports ExportFault.none ImportFault.none) refl
        (LinksMarks.passes (LinksMarks.enters (LinksMarks.component (of_imports ExportFault.none ImportFault.none) refl
        (LinksMarks.passes (LinksMarks.component (of_imports ExportFault.none ImportFault.none) refl LinksMarks.done)))))));
  };
}

abbrev w8 : World
w8 = with_linked w7 linked_all

abbrev w9 : World
w9 = keep evaluation w8 main_url

abbrev w10 : World
w10 = enter evaluation (enter evaluation w9 main_url) b_url

-- the body of b

abbrev a1 : Here
a1 = add_event (Begins b_url) (body_state w10)

abbrev a2 : Here
a2 = (add_line (take_steps (take_steps a1 1).1 1).1 (codes "b")).1

segment1 : Runs a1 b_url (more (Whole (printing (codes "b"))) end) [] ended.Normal a2
segment1 = prints_text {late = a2} refl refl refl Segment.ends

abbrev w11 : World
w11 = with_state w10 (add_event (ends_event b_url) a2)

ran1 : CallsForBody w10 (Run b_url) (Ok Normal) w11
ran1 = CallsForBody.run (RunsBody.segment {mid = a1} {late = a2} refl segment1 refl)

leaves1 : Leaves evaluation CallsForBody w10 b_url Ends w11
unfolding entries_of entries_with request_of with_text add_request requests_after imports_of all_imports exports_of all_exports locals_of indirects_of stars_of item_awaits stmt_awaits stmts_await init_awaits bindings_await
leaves1 = Leaves.runs refl refl (executes.ends ran1)

abbrev w12 : World
w12 = enter evaluation (close evaluation w11 b_url (b_url ∷ [])) c_url

-- that of c

abbrev c1 : Here
c1 = add_event (Begins c_url) (body_state w12)

abbrev c2 : Here
c2 = (add_line (take_steps (take_steps c1 1).1 1).1 (codes "c")).1

segment2 : Runs c1 c_url (more (Whole (printing (codes "c"))) end) [] ended.Normal c2
segment2 = prints_text {late = c2} refl refl refl Segment.ends

abbrev w13 : World
w13 = with_state w12 (add_event (ends_event c_url) c2)

ran2 : CallsForBody w12 (Run c_url) (Ok Normal) w13
ran2 = CallsForBody.run (RunsBody.segment {mid = c1} {late = c2} refl segment2 refl)

leaves2 : Leaves evaluation CallsForBody w12 c_url Ends w13
unfolding entries_of entries_with request_of with_text add_request requests_after imports_of all_imports exports_of all_exports locals_of indirects_of stars_of item_awaits stmt_awaits stmts_await init_awaits bindings_await
leaves2 = Leaves.runs refl refl (executes.ends ran2)

abbrev w14 : World
w14 = close evaluation w13 c_url (c_url ∷ [])

-- that of the entry

abbrev m1 : Here
m1 = add_event (Begins main_url) (body_state w14)

abbrev w15 : World
w15 = with_state w14 (add_event (ends_event main_url) m1)

ran3 : CallsForBody w14 (Run main_url) (Ok Normal) w15
ran3 = CallsForBody.run (RunsBody.segment {mid = m1} {late = m1} {how = ended.Normal} refl Segment.ends refl)

leaves3 : Leaves evaluation CallsForBody w14 main_url Ends w15
unfolding entries_of entries_with request_of with_text add_request requests_after imports_of all_imports exports_of all_exports locals_of indirects_of stars_of item_awaits stmt_awaits stmts_await init_awaits bindings_await
leaves3 = Leaves.runs refl refl (executes.ends ran3)

abbrev w16 : World
w16 = close evaluation w15 main_url (main_url ∷ [])

walk1 : Walks evaluation CallsForBody w8 main_url w9 Ends w16
unfolding entries_of entries_with request_of with_text add_request requests_after imports_of all_imports exports_of all_exports locals_of indirects_of stars_of item_awaits stmt_awaits stmts_await init_awaits bindings_await
walk1 = record {
  closed = [];
  closed_is = λ x. refl;
  marks = _;
  walk = (_, fresh refl (next (fresh refl all) (next (fresh refl all) all)));
  leads = Marks.enters (Marks.enters (Marks.component leaves1 refl (Marks.passes {t = b_url} refl refl
      (Marks.enters (Marks.component leaves2 refl (Marks.passes {t = c_url} refl refl (Marks.component leaves3 refl Marks.done)))))));
}

abbrev w17 : World
w17 = settle_promise w16 1 (Fulfilled Undefined)

evaluates1 : EvaluatesLoad w7 0 (Ok 1) w17
evaluates1 = record { root = main_url; linked = linked_all; links = link1; evaluates = EvaluatesRoot.walks refl refl walk1 }

abbrev w18 : World
w18 = with_reaction w17 1 EntryDone

abbrev w19 : World
w19 = with_promises w18 (record w18.promises { jobs = [] })

abbrev w20 : World
w20 = with_entry_state w19 Ended

jobs3 : Jobs w6 w20
jobs3 = Jobs.job (job 0 EntryLoaded) w7.promises (Fulfilled Undefined) refl refl refl (Reacts.entry_linked evaluates1)
    (Jobs.job (job 1 EntryDone) w19.promises (Fulfilled Undefined) refl refl refl Reacts.entry_ended (Jobs.none refl))

turn3 : Turn w4 c_url printing_c.outcome w20
turn3 = turn_from fetched3 refl (Tasks.task refl answers3 jobs3 (Tasks.none refl))

pub main_tree : IsModuleTree main_items
unfolding exported_names exported_of module_names declared_of statement_exported name_list returns_outside awaits_inside stmt_returns stmts_return declared_names
main_tree = record { returns = refl; awaits = refl; exported = no_names refl; declared = no_names refl }

pub b_tree : IsModuleTree b_items
unfolding exported_names exported_of module_names declared_of statement_exported name_list returns_outside awaits_inside stmt_returns stmts_return declared_names
b_tree = record { returns = refl; awaits = refl; exported = no_names refl; declared = no_names refl }

pub c_tree : IsModuleTree c_items
unfolding exported_names exported_of module_names declared_of statement_exported name_list returns_outside awaits_inside stmt_returns stmts_return declared_names
c_tree = record { returns = refl; awaits = refl; exported = no_names refl; declared = no_names refl }

pub both_run : Ran (asking_both ∷ printing_b ∷ printing_c ∷ []) both_shown
both_run = record {
  world = w20;
  line = [];
  runs = (
    record { asked = refl; tree = main_tree },
    w2,
    turn1,
    (
      record { asked = refl; tree = b_tree },
      w4,
      turn2,
      (record { asked = refl; tree = c_tree }, w20, turn3, refl),
    ),
  );
  last_line = refl;
  shows = refl;
}
