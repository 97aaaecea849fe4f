-- The examples in which a module imports itself while it is evaluated, step by step.
use Rattle.std.proofs.Common.{◌≡◌, false, List, [], ◌∷◌, Some, None, refl}
use Rattle.std.specs.Prelude.{Ok, codes, ◌||◌}
use Rattle.url.proofs.OnLiterals.{url_on_literals}
use Rattle.esm_base.specs.Urls.{Url}
use Rattle.esm_tree.specs.Syntax as x
use Rattle.esm_tree.specs.Syntax.{Item}
use Rattle.esm_grammar.specs.EarlyErrors.{exported_names, exported_of, module_names, declared_of, statement_exported, name_list}
use Rattle.esm_grammar.specs.Names.{declared_names}
use Rattle.esm_ast.specs.Entries.{entries_of, entries_with, request_of, with_text, add_request, requests_after, imports_of, all_imports, exports_of, all_exports, locals_of, indirects_of, stars_of, item_awaits, stmt_awaits, stmts_await, init_awaits, bindings_await}
use Rattle.esm_ast.specs.ModuleTree.{IsModuleTree, returns_outside, awaits_inside, stmt_returns, stmts_return}
use Rattle.esm_import_map.specs.ImportMap.{no_maps}
use Rattle.esm_specifier.specs.Resolution.{resolution_of_specifier}
use Rattle.esm_realm.specs.Walk.Visits.{known, fresh}
use Rattle.esm_realm.specs.Walk.Passes.{all}
use Rattle.esm_values.specs.Value.{Value, Undefined, Text, Namespace, Promise}
use Rattle.esm_values.specs.Plans.Rewritten.{Goes}
use Rattle.esm_values.specs.Plans.{Follows as follow}
use Rattle.esm_values.specs.Ran.Ran.{Normal}
use Rattle.esm_expr_eval.specs.Terms.{Term as t}
use Rattle.esm_expr_eval.specs.Terms.Term.{Val}
use Rattle.esm_expr_eval.specs.Rewriting.{Rewrites}
use Rattle.esm_promise.specs.Promises.{Done, Fulfilled, job, make, settle}
use Rattle.esm_promise.specs.Reactions.{EntryLoaded, EntryDone, Loaded, Evaluated as Evaluated_of}
use Rattle.esm_loads.specs.UrlTable.{no_urls, with_url, put_at}
use Rattle.esm_loads.specs.Loading.{Root, LoadComplete, ForEntry, ForImport}
use Rattle.esm_loads.specs.Load.{Enters, Asks, Answers}
use Rattle.esm_loads.specs.Host.{Host, Answered}
use Rattle.esm_loads.specs.Arrival.{AnswersNext}
use Rattle.esm_loads.specs.ImportCall.{Imports, BeginsImport}
use Rattle.esm_link.specs.Faults.{ExportFault, ImportFault, of_imports}
use Rattle.esm_link.specs.Link.{LinksMarks}
use Rattle.esm_eval.specs.Nodes.{Start, Run}
use Rattle.esm_eval.specs.Evaluate.{Ends, Marks, Leaves, ExecutesAsync, EvaluatesRoot, Walks, keep, enter, close}
use Rattle.esm_eval.specs.Evaluate.{Executes as executes}
use Rattle.esm_rewriting.specs.Rest.{Rest, end, more}
use Rattle.esm_rewriting.specs.Rest.Part.{Whole, Does, Stands}
use Rattle.esm_rewriting.specs.Rest.Use.{Awaits, Drops}
use Rattle.esm_rewriting.specs.State.{Begins, Ends as ends_event, add_event, take_steps, add_line}
use Rattle.esm_rewriting.specs.Acts.{with_promise, with_outer}
use Rattle.esm_rewriting.specs.BodyRewriting.{On, Waits, RewritesBody}
use Rattle.esm_rewriting.specs.Segment.{Segment, Awaiting}
use Rattle.esm_rewriting.specs.Segment.{Ended as ended}
use Rattle.esm_rewriting.specs.Bodies.{StartsBody, RunsBody, stand}
use Rattle.esm_world.specs.World.{World, Ended, opening, body_state, with_state, with_host, host_of}
use Rattle.esm_world.specs.Layers.{CallsForBody, evaluation, with_linked, with_promises}
use Rattle.esm_world.specs.Jobs.{Jobs, Reacts, LinksLoad, EvaluatesLoad, with_reaction, with_entry_state, settle_promise}
use Rattle.esm_world.specs.Turn.{Tasks, Turn, fetched}
use Rattle.esm_world.specs.Examples.{main_url, waiting_main, WaitsForItself, self_main, ImportsItself, prints, import_of}
use Rattle.esm_loads.specs.LoadsView.{every_form}
use Rattle.esm_world.proofs.runs.Steps.{Here, Runs, entry_of, arrived, turn_from, printing, prints_text, no_names}

-- ---- it is awaited

abbrev waiting_items : List Item
waiting_items = prints (codes "1") ∷ x.Statement (x.Await (import_of (codes "./m"))) ∷ prints (codes "2") ∷ []

abbrev w0 : World
w0 = opening no_maps every_form main_url false

abbrev w1 : World
w1 = arrived w0 main_url 44 (entry_of waiting_items [])

fetched_is : fetched w0 main_url waiting_main.outcome ≡ w1
unfolding url_on_literals requests_after add_request request_of with_text
fetched_is = refl

abbrev h1 : Host
h1 = record {
  promises = record { all = Done (Fulfilled Undefined) ∷ []; jobs = job 0 EntryLoaded ∷ [] };
  errors = [];
  imports = record w1.loading {
    pending = put_at w1.loading.pending main_url [];
    loads = LoadComplete main_url ∷ [];
    unlinked = λ u. false || with_url no_urls main_url u;
  };
}

answers1 : AnswersNext (host_of w1) h1
answers1 = record {
  who = record { url = main_url; pending_request = Root 0; entry = entry_of waiting_items []; others = [] };
  is_next = refl;
  answered = Answered.answered (Answers.root refl (Enters.enters (main_url, no_urls) refl refl Asks.no_more));
}

abbrev w2 : World
w2 = with_host w1 h1

abbrev w3 : World
w3 = with_promises w2 (record w2.promises { jobs = [] })

link1 : LinksLoad w3 0 main_url None (main_url ∷ [])
unfolding entries_of entries_with request_of with_text add_request requests_after imports_of all_imports exports_of all_exports locals_of indirects_of stars_of item_awaits stmt_awaits stmts_await init_awaits bindings_await
link1 = record {
  is_root = refl;
  links = record {
    marks = _;
    walk = (_, fresh refl all);
    links = LinksMarks.enters (LinksMarks.component (of_imports ExportFault.none ImportFault.none) refl LinksMarks.done);
  };
}

abbrev w4 : World
w4 = with_linked w3 (main_url ∷ [])

abbrev w5 : World
w5 = keep evaluation w4 main_url

abbrev w6 : World
w6 = enter evaluation w5 main_url

-- with the promise of the body's end
abbrev w7 : World
w7 = evaluation.make_body_promise (evaluation.add_stamp w6 main_url) main_url

abbrev k1 : Here
k1 = add_event (Begins main_url) (body_state w7)

abbrev k2 : Here
k2 = (add_line (take_steps (take_steps k1 1).1 1).1 (codes "1")).1

abbrev behind : Rest (Value Url)
behind = more (Whole (printing (codes "2"))) end

abbrev awaits_import : Rest (Value Url)
awaits_import = more (Whole (x.Await (import_of (codes "./m")))) behind

abbrev importing : Rest (Value Url)
importing = more (Does (Awaits Drops) (t.Import (Val (Text (codes "./m"))))) behind

abbrev k3 : Here
k3 = (take_steps k2 1).1

abbrev k4 : Here
k4 = with_promise (take_steps k3 1).1

names_main : resolution_of_specifier no_maps main_url (codes "./m") ≡ Ok main_url
unfolding url_on_literals
names_main = refl

-- the load of the import() is complete at once
abbrev o4 : Host
o4 = record {
  promises = settle (make k4.outer.promises (Loaded 1 ∷ [])) 4 (Fulfilled Undefined);
  errors = [];
  imports = record k4.outer.imports {
    loads = LoadComplete main_url ∷ LoadComplete main_url ∷ [];
    purposes = ForEntry 0 ∷ ForImport 3 (Some 4) ∷ [];
    import_calls = 1;
    unlinked = λ u. (false || with_url no_urls main_url u) || no_urls u;
  };
}

begins_main : BeginsImport k4.outer main_url (codes "./m") 3 (Ok tt) o4
begins_main = record {
  imports = Imports.answers main_url (entry_of waiting_items []) refl names_main refl
      (Answered.answered (Answers.root refl (Enters.known (main_url, no_urls) refl refl)));
  ends = refl;
}

abbrev k5 : Here
k5 = with_outer k4 o4

abbrev awaiting : Rest (Value Url)
awaiting = more (Does (Awaits Drops) (Val (Promise 3))) behind

abbrev k6 : Here
k6 = stand k5 main_url 2 (Promise 3) (more (Stands Drops) behind)

segment1 : Runs k1 main_url (more (Whole (printing (codes "1"))) awaits_import) [] (Awaiting (Promise 3) (more (Stands Drops) behind)) k5
segment1 = prints_text {late = k2} refl refl refl
    (Segment.goes (On (Goes importing)) (RewritesBody.begins_at (follow.asks tt refl follow.ends)) refl
    (Segment.goes (On (Goes awaiting))
    (RewritesBody.does (Rewrites.begins (follow.asks tt refl (follow.asks (Promise 3) (Ok tt, o4, begins_main, refl) follow.ends)))) refl
    (Segment.over (Waits (Promise 3) (more (Stands Drops) behind)) RewritesBody.awaits refl)))

started1 : CallsForBody w7 (Start main_url 2) (Ok tt) (with_state w7 k6)
started1 = CallsForBody.start (StartsBody.segment {mid = k1} {late = k5} refl segment1 refl)

abbrev w8 : World
w8 = with_state w7 k6

leaves1 : Leaves evaluation CallsForBody w6 main_url Ends w8
unfolding entries_of entries_with request_of with_text add_request requests_after imports_of all_imports exports_of all_exports locals_of indirects_of stars_of item_awaits stmt_awaits stmts_await init_awaits bindings_await
leaves1 = Leaves.starts refl refl (ExecutesAsync.starts started1)

abbrev w9 : World
w9 = close evaluation w8 main_url (main_url ∷ [])

walk1 : Walks evaluation CallsForBody w4 main_url w5 Ends w9
unfolding entries_of entries_with request_of with_text add_request requests_after imports_of all_imports exports_of all_exports locals_of indirects_of stars_of item_awaits stmt_awaits stmts_await init_awaits bindings_await
walk1 = record {
  closed = [];
  closed_is = λ x. refl;
  marks = _;
  walk = (_, fresh refl all);
  leads = Marks.enters (Marks.component leaves1 refl Marks.done);
}

evaluates1 : EvaluatesLoad w3 0 (Ok 1) w9
evaluates1 = record { root = main_url; linked = main_url ∷ []; links = link1; evaluates = EvaluatesRoot.walks refl refl walk1 }

abbrev w10 : World
w10 = with_reaction w9 1 EntryDone

-- the job of the import()'s load: the module is linked, and keeps a promise
abbrev w11 : World
w11 = with_promises w10 (record w10.promises { jobs = [] })

link2 : LinksLoad w11 1 main_url None (main_url ∷ [])
link2 = record { is_root = refl; links = record { marks = _; walk = (_, known refl); links = LinksMarks.done } }

abbrev w12 : World
w12 = with_linked w11 (main_url ∷ [])

evaluates2 : EvaluatesLoad w11 1 (Ok 1) w12
evaluates2 = record { root = main_url; linked = main_url ∷ []; links = link2; evaluates = EvaluatesRoot.kept 1 refl }

abbrev w13 : World
w13 = with_reaction w12 1 (Evaluated_of 1)

jobs1 : Jobs w2 w13
jobs1 = Jobs.job (job 0 EntryLoaded) w3.promises (Fulfilled Undefined) refl refl refl (Reacts.entry_linked evaluates1)
    (Jobs.job (job 4 (Loaded 1)) w11.promises (Fulfilled Undefined) refl refl refl (Reacts.linked evaluates2) (Jobs.none refl))

turn1 : Turn w0 main_url waiting_main.outcome w13
turn1 = turn_from fetched_is refl (Tasks.task refl answers1 jobs1 (Tasks.none refl))

tree1 : IsModuleTree waiting_items
unfolding exported_names exported_of module_names declared_of statement_exported name_list returns_outside awaits_inside stmt_returns stmts_return declared_names
tree1 = record { returns = refl; awaits = refl; exported = no_names refl; declared = no_names refl }

pub waits_for_itself : WaitsForItself
waits_for_itself = record { world = w13; line = codes "Unsettled"; runs = (record { asked = refl; tree = tree1 }, w13, turn1, refl); last_line = refl; shows = refl }

-- ---- it isn't awaited

abbrev self_items : List Item
self_items = x.Statement (x.Expression (import_of (codes "./m"))) ∷ prints (codes "m") ∷ []

abbrev v1 : World
v1 = arrived w0 main_url 26 (entry_of self_items [])

self_fetched : fetched w0 main_url self_main.outcome ≡ v1
unfolding url_on_literals requests_after add_request request_of with_text
self_fetched = refl

abbrev g1 : Host
g1 = record {
  promises = record { all = Done (Fulfilled Undefined) ∷ []; jobs = job 0 EntryLoaded ∷ [] };
  errors = [];
  imports = record v1.loading {
    pending = put_at v1.loading.pending main_url [];
    loads = LoadComplete main_url ∷ [];
    unlinked = λ u. false || with_url no_urls main_url u;
  };
}

self_answers : AnswersNext (host_of v1) g1
self_answers = record {
  who = record { url = main_url; pending_request = Root 0; entry = entry_of self_items []; others = [] };
  is_next = refl;
  answered = Answered.answered (Answers.root refl (Enters.enters (main_url, no_urls) refl refl Asks.no_more));
}

abbrev v2 : World
v2 = with_host v1 g1

abbrev v3 : World
v3 = with_promises v2 (record v2.promises { jobs = [] })

self_link1 : LinksLoad v3 0 main_url None (main_url ∷ [])
unfolding entries_of entries_with request_of with_text add_request requests_after imports_of all_imports exports_of all_exports locals_of indirects_of stars_of item_awaits stmt_awaits stmts_await init_awaits bindings_await
self_link1 = record {
  is_root = refl;
  links = record {
    marks = _;
    walk = (_, fresh refl all);
    links = LinksMarks.enters (LinksMarks.component (of_imports ExportFault.none ImportFault.none) refl LinksMarks.done);
  };
}

abbrev v4 : World
v4 = with_linked v3 (main_url ∷ [])

abbrev v5 : World
v5 = keep evaluation v4 main_url

abbrev v6 : World
v6 = enter evaluation v5 main_url

abbrev j1 : Here
j1 = add_event (Begins main_url) (body_state v6)

abbrev prints_m : Rest (Value Url)
prints_m = more (Whole (printing (codes "m"))) end

abbrev j2 : Here
j2 = (take_steps j1 1).1

abbrev j3 : Here
j3 = with_promise (take_steps j2 1).1

abbrev p3 : Host
p3 = record {
  promises = settle (make j3.outer.promises (Loaded 1 ∷ [])) 3 (Fulfilled Undefined);
  errors = [];
  imports = record j3.outer.imports {
    loads = LoadComplete main_url ∷ LoadComplete main_url ∷ [];
    purposes = ForEntry 0 ∷ ForImport 2 (Some 3) ∷ [];
    import_calls = 1;
    unlinked = λ u. (false || with_url no_urls main_url u) || no_urls u;
  };
}

begins_self : BeginsImport j3.outer main_url (codes "./m") 2 (Ok tt) p3
begins_self = record {
  imports = Imports.answers main_url (entry_of self_items []) refl names_main refl
      (Answered.answered (Answers.root refl (Enters.known (main_url, no_urls) refl refl)));
  ends = refl;
}

abbrev j4 : Here
j4 = with_outer j3 p3

abbrev j5 : Here
j5 = (add_line (take_steps (take_steps j4 1).1 1).1 (codes "m")).1

self_segment : Runs j1 main_url (more (Whole (x.Expression (import_of (codes "./m")))) prints_m) [] ended.Normal j5
self_segment = Segment.goes (On (Goes (more (Does Drops (t.Import (Val (Text (codes "./m"))))) prints_m)))
    (RewritesBody.begins_at (follow.asks tt refl follow.ends)) refl
    (Segment.goes (On (Goes (more (Does Drops (Val (Promise 2))) prints_m)))
    (RewritesBody.does (Rewrites.begins (follow.asks tt refl (follow.asks (Promise 2) (Ok tt, p3, begins_self, refl) follow.ends)))) refl
    (Segment.goes (On (Goes prints_m)) RewritesBody.drops refl (prints_text {late = j5} refl refl refl Segment.ends)))

abbrev v7 : World
v7 = with_state v6 (add_event (ends_event main_url) j5)

self_ran : CallsForBody v6 (Run main_url) (Ok Normal) v7
self_ran = CallsForBody.run (RunsBody.segment {mid = j1} {late = j5} refl self_segment refl)

self_leaves : Leaves evaluation CallsForBody v6 main_url Ends v7
unfolding entries_of entries_with request_of with_text add_request requests_after imports_of all_imports exports_of all_exports locals_of indirects_of stars_of item_awaits stmt_awaits stmts_await init_awaits bindings_await
self_leaves = Leaves.runs refl refl (executes.ends self_ran)

abbrev v8 : World
v8 = close evaluation v7 main_url (main_url ∷ [])

self_walk : Walks evaluation CallsForBody v4 main_url v5 Ends v8
unfolding entries_of entries_with request_of with_text add_request requests_after imports_of all_imports exports_of all_exports locals_of indirects_of stars_of item_awaits stmt_awaits stmts_await init_awaits bindings_await
self_walk = record {
  closed = [];
  closed_is = λ x. refl;
  marks = _;
  walk = (_, fresh refl all);
  leads = Marks.enters (Marks.component self_leaves refl Marks.done);
}

abbrev v9 : World
v9 = settle_promise v8 1 (Fulfilled Undefined)

self_evaluates : EvaluatesLoad v3 0 (Ok 1) v9
self_evaluates = record { root = main_url; linked = main_url ∷ []; links = self_link1; evaluates = EvaluatesRoot.walks refl refl self_walk }

abbrev v10 : World
v10 = with_reaction v9 1 EntryDone

-- the job of the import()'s load, before that of the entry's evaluation
abbrev v11 : World
v11 = with_promises v10 (record v10.promises { jobs = job 1 EntryDone ∷ [] })

self_link2 : LinksLoad v11 1 main_url None (main_url ∷ [])
self_link2 = record { is_root = refl; links = record { marks = _; walk = (_, known refl); links = LinksMarks.done } }

abbrev v12 : World
v12 = with_linked v11 (main_url ∷ [])

self_again : EvaluatesLoad v11 1 (Ok 1) v12
self_again = record { root = main_url; linked = main_url ∷ []; links = self_link2; evaluates = EvaluatesRoot.kept 1 refl }

abbrev v13 : World
v13 = with_reaction v12 1 (Evaluated_of 1)

abbrev v14 : World
v14 = with_promises v13 (record v13.promises { jobs = job 1 (Evaluated_of 1) ∷ [] })

abbrev v15 : World
v15 = with_entry_state v14 Ended

abbrev v16 : World
v16 = with_promises v15 (record v15.promises { jobs = [] })

-- the promise of the import() is fulfilled with the namespace
abbrev v17 : World
v17 = settle_promise v16 2 (Fulfilled (Namespace main_url))

self_jobs : Jobs v2 v17
self_jobs = Jobs.job (job 0 EntryLoaded) v3.promises (Fulfilled Undefined) refl refl refl (Reacts.entry_linked self_evaluates)
    (Jobs.job (job 3 (Loaded 1)) v11.promises (Fulfilled Undefined) refl refl refl (Reacts.linked self_again)
    (Jobs.job (job 1 EntryDone) v14.promises (Fulfilled Undefined) refl refl refl Reacts.entry_ended
    (Jobs.job (job 1 (Evaluated_of 1)) v16.promises (Fulfilled Undefined) refl refl refl (Reacts.evaluated 2 main_url refl refl) (Jobs.none refl))))

self_turn : Turn w0 main_url self_main.outcome v17
self_turn = turn_from self_fetched refl (Tasks.task refl self_answers self_jobs (Tasks.none refl))

self_tree : IsModuleTree self_items
unfolding exported_names exported_of module_names declared_of statement_exported name_list returns_outside awaits_inside stmt_returns stmts_return declared_names
self_tree = record { returns = refl; awaits = refl; exported = no_names refl; declared = no_names refl }

pub imports_itself : ImportsItself
imports_itself = record { world = v17; line = []; runs = (record { asked = refl; tree = self_tree }, v17, self_turn, refl); last_line = refl; shows = refl }
