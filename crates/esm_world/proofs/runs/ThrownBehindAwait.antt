-- The example of a throw behind an await, step by step.
use Rattle.std.proofs.Common.{◌≡◌, false, List, [], ◌∷◌, None, refl}
use Rattle.std.specs.Prelude.{Ok, codes, ◌||◌}
use Rattle.url.proofs.OnLiterals.{url_on_literals}
use Rattle.esm_base.specs.Urls.{Url, same_url}
use Rattle.esm_tree.specs.Syntax as x
use Rattle.esm_tree.specs.Syntax.{Item, Stmts}
use Rattle.esm_grammar.specs.EarlyErrors.{exported_names, exported_of, module_names, declared_of, statement_exported, name_list}
use Rattle.esm_grammar.specs.Names.{declared_names}
use Rattle.esm_ast.specs.Entries.{entries_of, entries_with, request_of, with_text, add_request, requests_after, imports_of, all_imports, exports_of, all_exports, locals_of, indirects_of, stars_of, item_awaits, stmt_awaits, stmts_await, init_awaits, bindings_await}
use Rattle.esm_ast.specs.ModuleTree.{IsModuleTree, returns_outside, awaits_inside, stmt_returns, stmts_return}
use Rattle.esm_import_map.specs.ImportMap.{no_maps}
use Rattle.esm_realm.specs.Walk.Visits.{fresh}
use Rattle.esm_realm.specs.Walk.Passes.{all}
use Rattle.esm_values.specs.Value.{Value, Undefined, Text}
use Rattle.esm_values.specs.Plans.Rewritten.{Goes, Leaves as leaves_by}
use Rattle.esm_values.specs.Plans.{Follows as follow}
use Rattle.esm_expr_eval.specs.Terms.Term.{Val}
use Rattle.esm_promise.specs.Promises.{Done, Fulfilled, Rejected, job, settle}
use Rattle.esm_promise.specs.Reactions.{EntryLoaded, EntryDone, Await, BodyEnd}
use Rattle.esm_loads.specs.UrlTable.{no_urls, with_url, put_at}
use Rattle.esm_loads.specs.Loading.{Root, LoadComplete}
use Rattle.esm_loads.specs.Load.{Enters, Asks, Answers}
use Rattle.esm_loads.specs.Host.{Host, Answered}
use Rattle.esm_loads.specs.Arrival.{AnswersNext}
use Rattle.esm_loads.specs.ImportCall.{BeginsImport}
use Rattle.esm_link.specs.Faults.{ExportFault, ImportFault, of_imports}
use Rattle.esm_link.specs.Link.{LinksMarks}
use Rattle.esm_eval.specs.Nodes.{Start}
use Rattle.esm_eval.specs.BodyEnd.{Rejects, RejectsAll, refuse}
use Rattle.esm_eval.specs.Evaluate.{Ends, Marks, Leaves, ExecutesAsync, EvaluatesRoot, Walks, keep, enter, close}
use Rattle.esm_rewriting.specs.Rest.{Rest, end, more}
use Rattle.esm_rewriting.specs.Rest.Part.{Whole, Does, Stands}
use Rattle.esm_rewriting.specs.Rest.Use.{Awaits, Drops, Throws as throws_use}
use Rattle.esm_rewriting.specs.State.{with_promises as state_promises, Begins, Throws as throws_event, add_event, take_steps}
use Rattle.esm_rewriting.specs.BodyRewriting.{On, Waits, RewritesBody}
use Rattle.esm_rewriting.specs.Segment.{Segment, Awaiting}
use Rattle.esm_rewriting.specs.Segment.{Ended as ended}
use Rattle.esm_rewriting.specs.Bodies.{StartsBody, ResumesBody, stand, without_standing}
use Rattle.esm_world.specs.World.{World, Failed, opening, modules_in, body_state, with_state, with_host, host_of}
use Rattle.esm_world.specs.Layers.{CallsForBody, evaluation, with_linked, with_promises}
use Rattle.esm_world.specs.Jobs.{Jobs, Reacts, LinksLoad, EvaluatesLoad, with_reaction, with_entry_state}
use Rattle.esm_world.specs.Turn.{Tasks, Turn, fetched}
use Rattle.esm_world.specs.Examples.{main_url}
use Rattle.esm_loads.specs.LoadsView.{every_form}
use Rattle.esm_world.specs.FailingRuns.{awaiting_main, ThrowsBehindAwait}
use Rattle.esm_world.proofs.runs.Steps.{Here, Runs, entry_of, arrived, turn_from, no_names, still_async}

abbrev throwing : Rest (Value Url)
throwing = more (Whole (x.Throw (x.Text (codes "x")))) end

abbrev items : List Item
items = x.Statement (x.Await x.Undefined) ∷ x.Statement (x.Throw (x.Text (codes "x"))) ∷ []

-- ---- the module stands at its await

abbrev w0 : World
w0 = opening no_maps every_form main_url false

abbrev w1 : World
w1 = arrived w0 main_url 27 (entry_of items [])

fetched1 : fetched w0 main_url awaiting_main.outcome ≡ w1
unfolding url_on_literals requests_after add_request request_of with_text
fetched1 = refl

abbrev h1 : Host
h1 = record {
  promises = record { all = Done (Fulfilled Undefined) ∷ []; jobs = job 0 EntryLoaded ∷ [] };
  errors = [];
  imports = record w1.loading {
    pending = put_at w1.loading.pending main_url [];
    loads = LoadComplete main_url ∷ [];
    unlinked = λ u. false || with_url no_urls main_url u;
  };
}

answers1 : AnswersNext (host_of w1) h1
answers1 = record {
  who = record { url = main_url; pending_request = Root 0; entry = entry_of items []; others = [] };
  is_next = refl;
  answered = Answered.answered (Answers.root refl (Enters.enters (main_url, no_urls) refl refl Asks.no_more));
}

abbrev w2 : World
w2 = with_host w1 h1

abbrev w3 : World
w3 = with_promises w2 (record w2.promises { jobs = [] })

link1 : LinksLoad w3 0 main_url None (main_url ∷ [])
unfolding entries_of entries_with request_of with_text add_request requests_after imports_of all_imports exports_of all_exports locals_of indirects_of stars_of item_awaits stmt_awaits stmts_await init_awaits bindings_await
link1 = record {
  is_root = refl;
  links = record {
    marks = _;
    walk = (_, fresh refl all);
    links = LinksMarks.enters (LinksMarks.component (of_imports ExportFault.none ImportFault.none) refl LinksMarks.done);
  };
}

abbrev w4 : World
w4 = with_linked w3 (main_url ∷ [])

abbrev w5 : World
w5 = keep evaluation w4 main_url

abbrev w6 : World
w6 = enter evaluation w5 main_url

abbrev w7 : World
w7 = evaluation.make_body_promise (evaluation.add_stamp w6 main_url) main_url

abbrev k1 : Here
k1 = add_event (Begins main_url) (body_state w7)

abbrev k2 : Here
k2 = (take_steps k1 1).1

abbrev standing_at : Rest (Value Url)
standing_at = more (Stands Drops) throwing

abbrev k3 : Here
k3 = stand k2 main_url 2 Undefined standing_at

segment1 : Runs k1 main_url (more (Whole (x.Await x.Undefined)) throwing) [] (Awaiting Undefined standing_at) k2
segment1 = Segment.goes (On (Goes (more (Does (Awaits Drops) (Val Undefined)) throwing)))
    (RewritesBody.begins_at (follow.asks tt refl follow.ends)) refl
    (Segment.over (Waits Undefined standing_at) RewritesBody.awaits refl)

started1 : CallsForBody w7 (Start main_url 2) (Ok tt) (with_state w7 k3)
started1 = CallsForBody.start (StartsBody.segment {mid = k1} {late = k2} refl segment1 refl)

abbrev w8 : World
w8 = with_state w7 k3

leaves1 : Leaves evaluation CallsForBody w6 main_url Ends w8
unfolding entries_of entries_with request_of with_text add_request requests_after imports_of all_imports exports_of all_exports locals_of indirects_of stars_of item_awaits stmt_awaits stmts_await init_awaits bindings_await
leaves1 = Leaves.starts refl refl (ExecutesAsync.starts started1)

abbrev w9 : World
w9 = close evaluation w8 main_url (main_url ∷ [])

walk1 : Walks evaluation CallsForBody w4 main_url w5 Ends w9
unfolding entries_of entries_with request_of with_text add_request requests_after imports_of all_imports exports_of all_exports locals_of indirects_of stars_of item_awaits stmt_awaits stmts_await init_awaits bindings_await
walk1 = record {
  closed = [];
  closed_is = λ x. refl;
  marks = _;
  walk = (_, fresh refl all);
  leads = Marks.enters (Marks.component leaves1 refl Marks.done);
}

evaluates1 : EvaluatesLoad w3 0 (Ok 1) w9
evaluates1 = record { root = main_url; linked = main_url ∷ []; links = link1; evaluates = EvaluatesRoot.walks refl refl walk1 }

abbrev w10 : World
w10 = with_reaction w9 1 EntryDone

-- ---- it goes on with a throw

abbrev w11 : World
w11 = with_promises w10 (record w10.promises { jobs = [] })

abbrev p0 : Here
p0 = without_standing same_url modules_in BeginsImport (body_state w11) []

abbrev p1 : Here
p1 = (take_steps p0 1).1

segment2 : Runs p0 main_url (more (Does Drops (Val Undefined)) throwing) [] (ended.Thrown (Text (codes "x"))) p1
segment2 = Segment.goes (On (Goes throwing)) RewritesBody.drops refl
    (Segment.goes (On (Goes (more (Does throws_use (Val (Text (codes "x")))) end)))
    (RewritesBody.begins_at (follow.asks tt refl follow.ends)) refl
    (Segment.over (On (leaves_by (Text (codes "x")))) RewritesBody.throws refl))

abbrev p2 : Here
p2 = state_promises (add_event (throws_event main_url) p1) (settle p1.outer.promises 2 (Rejected (Text (codes "x"))))

resumed : ResumesBody same_url modules_in BeginsImport (body_state w11) main_url (Fulfilled Undefined) (Ok tt) p2
resumed = record {
  taken = record { standing = record { at = main_url; done = 2; rest = standing_at }; others = [] };
  ended = ended.Thrown (Text (codes "x"));
  late = p1;
  stands = refl;
  runs = segment2;
  ends = refl;
}

abbrev w12 : World
w12 = with_state w11 p2

-- the module gets the error, and its promise is rejected

abbrev w13 : World
w13 = with_promises w12 (record w12.promises { jobs = [] })

abbrev w14 : World
w14 = refuse evaluation w13 main_url (Text (codes "x"))

body_threw : Reacts w13 (BodyEnd main_url) (Rejected (Text (codes "x"))) w14
body_threw = Reacts.body_threw (Rejects.rejects still_async RejectsAll.none)

abbrev w15 : World
w15 = with_promises w14 (record w14.promises { jobs = [] })

abbrev w16 : World
w16 = with_entry_state w15 (Failed (Text (codes "x")))

jobs1 : Jobs w2 w16
jobs1 = Jobs.job (job 0 EntryLoaded) w3.promises (Fulfilled Undefined) refl refl refl (Reacts.entry_linked evaluates1)
    (Jobs.job (job 3 (Await main_url)) w11.promises (Fulfilled Undefined) refl refl refl (Reacts.resumes resumed)
    (Jobs.job (job 2 (BodyEnd main_url)) w13.promises (Rejected (Text (codes "x"))) refl refl refl body_threw
    (Jobs.job (job 1 EntryDone) w15.promises (Rejected (Text (codes "x"))) refl refl refl Reacts.entry_threw (Jobs.none refl))))

turn1 : Turn w0 main_url awaiting_main.outcome w16
turn1 = turn_from fetched1 refl (Tasks.task refl answers1 jobs1 (Tasks.none refl))

tree1 : IsModuleTree items
unfolding exported_names exported_of module_names declared_of statement_exported name_list returns_outside awaits_inside stmt_returns stmts_return declared_names bindings_await
tree1 = record { returns = refl; awaits = refl; exported = no_names refl; declared = no_names refl }

pub throws_behind_await : ThrowsBehindAwait
throws_behind_await = record {
  world = w16;
  line = codes "Uncaught x";
  runs = (record { asked = refl; tree = tree1 }, w16, turn1, refl);
  last_line = (codes "x", refl, refl);
  shows = refl;
}
