-- The example of a throw in a cycle, step by step.
use Rattle.std.proofs.Common.{◌≡◌, false, List, [], ◌∷◌, None, refl}
use Rattle.std.specs.Prelude.{Ok, codes, ◌||◌}
use Rattle.url.proofs.OnLiterals.{url_on_literals}
use Rattle.esm_tree.specs.Syntax as x
use Rattle.esm_tree.specs.Syntax.{Item}
use Rattle.esm_grammar.specs.EarlyErrors.{exported_names, exported_of, module_names, declared_of, statement_exported, name_list}
use Rattle.esm_grammar.specs.Names.{declared_names}
use Rattle.esm_ast.specs.Entries.{entries_of, entries_with, request_of, with_text, add_request, requests_after, imports_of, all_imports, exports_of, all_exports, locals_of, indirects_of, stars_of, item_awaits, stmt_awaits, stmts_await, init_awaits, bindings_await}
use Rattle.esm_ast.specs.ModuleTree.{IsModuleTree, returns_outside, awaits_inside, stmt_returns, stmts_return}
use Rattle.esm_import_map.specs.ImportMap.{no_maps}
use Rattle.esm_realm.specs.Walk.Visits.{known, fresh}
use Rattle.esm_realm.specs.Walk.Passes.{all, next}
use Rattle.esm_values.specs.Value.{Undefined, Text}
use Rattle.esm_values.specs.Plans.Rewritten.{Goes, Leaves as leaves_by}
use Rattle.esm_values.specs.Plans.{Follows as follow}
use Rattle.esm_values.specs.Ran.Ran.{Thrown}
use Rattle.esm_expr_eval.specs.Terms.Term.{Val}
use Rattle.esm_promise.specs.Promises.{Done, Fulfilled, Rejected, job}
use Rattle.esm_promise.specs.Reactions.{EntryLoaded, EntryDone}
use Rattle.esm_loads.specs.UrlTable.{no_urls, with_url, put_at}
use Rattle.esm_loads.specs.Loading.{Root, Request, Open, LoadComplete}
use Rattle.esm_loads.specs.Load.{Enters, Asks, Answers}
use Rattle.esm_loads.specs.Host.{Host, Answered}
use Rattle.esm_loads.specs.Arrival.{AnswersNext}
use Rattle.esm_link.specs.Faults.{ExportFault, ImportFault, of_imports}
use Rattle.esm_link.specs.Link.{LinksMarks}
use Rattle.esm_eval.specs.Nodes.{Run}
use Rattle.esm_eval.specs.Evaluate.{Throws, fail, Marks, Leaves, EvaluatesRoot, Walks, keep, enter}
use Rattle.esm_eval.specs.Evaluate.{Executes as executes}
use Rattle.esm_rewriting.specs.Rest.{end, more}
use Rattle.esm_rewriting.specs.Rest.Part.{Whole, Does}
use Rattle.esm_rewriting.specs.Rest.Use.{Throws as throws_use}
use Rattle.esm_rewriting.specs.State.{Begins, Throws as throws_event, add_event, take_steps}
use Rattle.esm_rewriting.specs.BodyRewriting.{On, RewritesBody}
use Rattle.esm_rewriting.specs.Segment.{Segment}
use Rattle.esm_rewriting.specs.Segment.{Ended as ended}
use Rattle.esm_rewriting.specs.Bodies.{RunsBody}
use Rattle.esm_world.specs.World.{World, Failed, opening, body_state, with_state, with_host, host_of}
use Rattle.esm_world.specs.Layers.{CallsForBody, evaluation, with_linked, with_promises}
use Rattle.esm_world.specs.Jobs.{Jobs, Reacts, LinksLoad, EvaluatesLoad, with_reaction, with_entry_state, settle_promise}
use Rattle.esm_world.specs.Turn.{Tasks, Turn, fetched}
use Rattle.esm_world.specs.Examples.{main_url, b_url, cycle_main, throwing_b, ThrowsInCycle, prints}
use Rattle.esm_loads.specs.LoadsView.{every_form}
use Rattle.esm_world.proofs.runs.Steps.{Here, Runs, entry_of, arrived, turn_from, no_names}

abbrev main_items : List Item
main_items = x.ImportEffect (codes "./b") ∷ prints (codes "m") ∷ []

abbrev b_items : List Item
b_items = x.ImportEffect (codes "./m") ∷ x.Statement (x.Throw (x.Text (codes "x"))) ∷ []

-- ---- the first turn: the module asks for what it imports

abbrev w0 : World
w0 = opening no_maps every_form main_url false

abbrev w1 : World
w1 = arrived w0 main_url 25 (entry_of main_items (b_url ∷ []))

fetched1 : fetched w0 main_url cycle_main.outcome ≡ w1
unfolding url_on_literals requests_after add_request request_of with_text
fetched1 = refl

abbrev h1 : Host
h1 = record {
  promises = w0.promises;
  errors = [];
  imports = record w1.loading {
    asked = main_url ∷ b_url ∷ [];
    pending = put_at (put_at w1.loading.pending main_url []) b_url (Request 0 main_url 0 ∷ []);
    loads = Open main_url (with_url no_urls main_url) ∷ [];
  };
}

answers1 : AnswersNext (host_of w1) h1
answers1 = record {
  who = record { url = main_url; pending_request = Root 0; entry = entry_of main_items (b_url ∷ []); others = [] };
  is_next = refl;
  answered = Answered.answered (Answers.root refl (Enters.enters (main_url, no_urls) refl refl
      (Asks.waits (main_url, with_url no_urls main_url) refl refl Asks.no_more)));
}

abbrev w2 : World
w2 = with_host w1 h1

turn1 : Turn w0 main_url cycle_main.outcome w2
turn1 = turn_from fetched1 refl (Tasks.task refl answers1 (Jobs.none refl) (Tasks.none refl))

-- ---- the second turn

abbrev w3 : World
w3 = arrived w2 b_url 24 (entry_of b_items (main_url ∷ []))

fetched2 : fetched w2 b_url throwing_b.outcome ≡ w3
unfolding url_on_literals requests_after add_request request_of with_text
fetched2 = refl

abbrev h3 : Host
h3 = record {
  promises = record { all = Done (Fulfilled Undefined) ∷ []; jobs = job 0 EntryLoaded ∷ [] };
  errors = [];
  imports = record w3.loading {
    pending = put_at w3.loading.pending b_url [];
    loads = LoadComplete main_url ∷ [];
    unlinked = λ u. false || with_url (with_url no_urls main_url) b_url u;
  };
}

answers2 : AnswersNext (host_of w3) h3
answers2 = record {
  who = record { url = b_url; pending_request = Request 0 main_url 0; entry = entry_of b_items (main_url ∷ []); others = [] };
  is_next = refl;
  answered = Answered.answered (Answers.request (main_url, with_url no_urls main_url) refl refl
      (Enters.enters (main_url, with_url no_urls main_url) refl refl
      (Asks.loads (main_url, with_url (with_url no_urls main_url) b_url) (entry_of main_items (b_url ∷ [])) refl refl refl
      (Enters.known (main_url, with_url (with_url no_urls main_url) b_url) refl refl) Asks.no_more)));
}

abbrev w4 : World
w4 = with_host w3 h3

abbrev w5 : World
w5 = with_promises w4 (record w4.promises { jobs = [] })

link1 : LinksLoad w5 0 main_url None (main_url ∷ b_url ∷ [])
unfolding entries_of entries_with request_of with_text add_request requests_after imports_of all_imports exports_of all_exports locals_of indirects_of stars_of item_awaits stmt_awaits stmts_await init_awaits bindings_await
link1 = record {
  is_root = refl;
  links = record {
    marks = _;
    walk = (_, fresh refl (next (fresh refl (next (known refl) all)) all));
    links = LinksMarks.enters (LinksMarks.enters (LinksMarks.passes (LinksMarks.stays (of_imports ExportFault.none ImportFault.none) refl
        (LinksMarks.passes (LinksMarks.component (of_imports ExportFault.none ImportFault.none) refl LinksMarks.done)))));
  };
}

abbrev w6 : World
w6 = with_linked w5 (main_url ∷ b_url ∷ [])

abbrev w7 : World
w7 = keep evaluation w6 main_url

abbrev w8 : World
w8 = enter evaluation (enter evaluation w7 main_url) b_url

abbrev k1 : Here
k1 = add_event (Begins b_url) (body_state w8)

abbrev k2 : Here
k2 = (take_steps k1 1).1

segment1 : Runs k1 b_url (more (Whole (x.Throw (x.Text (codes "x")))) end) [] (ended.Thrown (Text (codes "x"))) k2
segment1 = Segment.goes (On (Goes (more (Does throws_use (Val (Text (codes "x")))) end)))
    (RewritesBody.begins_at (follow.asks tt refl follow.ends)) refl
    (Segment.over (On (leaves_by (Text (codes "x")))) RewritesBody.throws refl)

abbrev w9 : World
w9 = with_state w8 (add_event (throws_event b_url) k2)

ran1 : CallsForBody w8 (Run b_url) (Ok (Thrown (Text (codes "x")))) w9
ran1 = CallsForBody.run (RunsBody.segment {mid = k1} {late = k2} refl segment1 refl)

leaves1 : Leaves evaluation CallsForBody w8 b_url (Throws (Text (codes "x"))) w9
unfolding entries_of entries_with request_of with_text add_request requests_after imports_of all_imports exports_of all_exports locals_of indirects_of stars_of item_awaits stmt_awaits stmts_await init_awaits bindings_await
leaves1 = Leaves.runs refl refl (executes.throws (Text (codes "x")) ran1)

-- both modules get the error
abbrev w10 : World
w10 = fail evaluation w9 (Text (codes "x")) (main_url ∷ b_url ∷ [])

walk1 : Walks evaluation CallsForBody w6 main_url w7 (Throws (Text (codes "x"))) w10
unfolding entries_of entries_with request_of with_text add_request requests_after imports_of all_imports exports_of all_exports locals_of indirects_of stars_of item_awaits stmt_awaits stmts_await init_awaits bindings_await
walk1 = record {
  closed = [];
  closed_is = λ x. refl;
  marks = _;
  walk = (_, fresh refl (next (fresh refl (next (known refl) all)) all));
  leads = Marks.enters (Marks.enters (Marks.passes {t = main_url} refl refl (Marks.leave_throws (Text (codes "x")) leaves1)));
}

abbrev w11 : World
w11 = settle_promise w10 1 (Rejected (Text (codes "x")))

evaluates1 : EvaluatesLoad w5 0 (Ok 1) w11
evaluates1 = record {
  root = main_url;
  linked = main_url ∷ b_url ∷ [];
  links = link1;
  evaluates = EvaluatesRoot.throws (Text (codes "x")) refl refl walk1;
}

abbrev w12 : World
w12 = with_reaction w11 1 EntryDone

abbrev w13 : World
w13 = with_promises w12 (record w12.promises { jobs = [] })

abbrev w14 : World
w14 = with_entry_state w13 (Failed (Text (codes "x")))

jobs2 : Jobs w4 w14
jobs2 = Jobs.job (job 0 EntryLoaded) w5.promises (Fulfilled Undefined) refl refl refl (Reacts.entry_linked evaluates1)
    (Jobs.job (job 1 EntryDone) w13.promises (Rejected (Text (codes "x"))) refl refl refl Reacts.entry_threw (Jobs.none refl))

turn2 : Turn w2 b_url throwing_b.outcome w14
turn2 = turn_from fetched2 refl (Tasks.task refl answers2 jobs2 (Tasks.none refl))

main_tree : IsModuleTree main_items
unfolding exported_names exported_of module_names declared_of statement_exported name_list returns_outside awaits_inside stmt_returns stmts_return declared_names
main_tree = record { returns = refl; awaits = refl; exported = no_names refl; declared = no_names refl }

b_tree : IsModuleTree b_items
unfolding exported_names exported_of module_names declared_of statement_exported name_list returns_outside awaits_inside stmt_returns stmts_return declared_names
b_tree = record { returns = refl; awaits = refl; exported = no_names refl; declared = no_names refl }

pub throws_in_cycle : ThrowsInCycle
throws_in_cycle = record {
  world = w14;
  line = codes "Uncaught x";
  runs = (record { asked = refl; tree = main_tree }, w2, turn1, (record { asked = refl; tree = b_tree }, w14, turn2, refl));
  last_line = (codes "x", refl, refl);
  shows = refl;
}
