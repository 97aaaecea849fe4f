-- The example of an import() that is awaited, step by step.
use Rattle.std.proofs.Common.{◌≡◌, ◌⊎◌, inl, inr, true, ap, subst, sym, ◌∙◌, false, List, [], ◌∷◌, Some, None, refl}
use Rattle.std.specs.Prelude.{Ok, codes, ◌||◌}
use Rattle.url.proofs.OnLiterals.{url_on_literals}
use Rattle.esm_base.specs.Urls.{Url, same_url, has}
use Rattle.esm_tree.specs.Syntax as x
use Rattle.esm_tree.specs.Syntax.{Item, Stmts}
use Rattle.esm_grammar.specs.EarlyErrors.{exported_names, exported_of, module_names, declared_of, statement_exported, name_list}
use Rattle.esm_grammar.specs.Names.{declared_names}
use Rattle.esm_ast.specs.Entries.{entries_of, entries_with, request_of, with_text, add_request, requests_after, imports_of, all_imports, exports_of, all_exports, locals_of, indirects_of, stars_of, item_awaits, stmt_awaits, stmts_await, init_awaits, bindings_await}
use Rattle.esm_ast.specs.ModuleTree.{IsModuleTree, returns_outside, awaits_inside, stmt_returns, stmts_return}
use Rattle.esm_import_map.specs.ImportMap.{no_maps}
use Rattle.esm_specifier.specs.Resolution.{resolution_of_specifier}
use Rattle.esm_realm.proofs.Urls.{cases, same_text}
use Rattle.esm_realm.specs.Walk.Visits.{fresh}
use Rattle.esm_realm.specs.Walk.Passes.{all}
use Rattle.esm_values.specs.Value.{Value, Undefined, Text, Namespace, Promise}
use Rattle.esm_values.specs.Plans.Rewritten.{Goes}
use Rattle.esm_values.specs.Plans.{Follows as follow}
use Rattle.esm_values.specs.Ran.Ran.{Normal}
use Rattle.esm_expr_eval.specs.Terms.{Term as t}
use Rattle.esm_expr_eval.specs.Terms.Term.{Val}
use Rattle.esm_expr_eval.specs.Rewriting.{Rewrites}
use Rattle.esm_promise.specs.Promises.{Done, Fulfilled, job, make, settle}
use Rattle.esm_promise.specs.Reactions.{EntryLoaded, EntryDone, Loaded, Await, BodyEnd, Evaluated as Evaluated_of}
use Rattle.esm_loads.specs.UrlTable.{no_urls, with_url, put_at}
use Rattle.esm_loads.specs.Loading.{Root, LoadComplete, ForEntry, ForImport}
use Rattle.esm_loads.specs.Load.{Enters, Asks, Answers}
use Rattle.esm_loads.specs.Host.{Host, Answered}
use Rattle.esm_loads.specs.Arrival.{AnswersNext}
use Rattle.esm_loads.specs.ImportCall.{Imports, BeginsImport, counted, add_load, ask_root}
use Rattle.esm_link.specs.Faults.{ExportFault, ImportFault, of_imports}
use Rattle.esm_link.specs.Link.{LinksMarks}
use Rattle.esm_eval.specs.Nodes.{Start, Run, was_entered, Node, untouched}
use Rattle.esm_eval.specs.BodyEnd.{ReadyAmong, GoOn, Fulfills, finish}
use Rattle.esm_eval.specs.Evaluate.{Ends, Marks, Leaves, ExecutesAsync, EvaluatesRoot, Walks, keep, enter, close}
use Rattle.esm_eval.specs.Evaluate.{Executes as executes}
use Rattle.esm_rewriting.specs.Rest.{Rest, end, more}
use Rattle.esm_rewriting.specs.Rest.Part.{Whole, Does, Stands}
use Rattle.esm_rewriting.specs.Rest.Use.{Awaits, Drops}
use Rattle.esm_rewriting.specs.State.{with_promises as state_promises, Begins, Ends as ends_event, add_event, take_steps, add_line}
use Rattle.esm_rewriting.specs.Acts.{with_promise, with_outer}
use Rattle.esm_rewriting.specs.BodyRewriting.{On, Waits, RewritesBody}
use Rattle.esm_rewriting.specs.Segment.{Segment, Awaiting}
use Rattle.esm_rewriting.specs.Segment.{Ended as ended}
use Rattle.esm_rewriting.specs.Bodies.{StartsBody, RunsBody, ResumesBody, stand, without_standing}
use Rattle.esm_world.specs.World.{World, Ended, opening, modules_in, body_state, with_state, with_host, host_of}
use Rattle.esm_world.specs.Layers.{CallsForBody, evaluation, with_linked, with_promises}
use Rattle.esm_world.specs.Jobs.{Jobs, Reacts, LinksLoad, EvaluatesLoad, with_reaction, with_entry_state, settle_promise}
use Rattle.esm_world.specs.Turn.{Tasks, Turn, fetched}
use Rattle.esm_world.specs.Examples.{main_url, b_url, importing_main, printing_b, AwaitsImport, prints, import_of}
use Rattle.esm_loads.specs.LoadsView.{every_form}
use Rattle.esm_world.proofs.runs.Steps.{Here, Runs, entry_of, arrived, turn_from, printing, prints_text, no_names, still_async, not_ready, other_url, put_other}

abbrev main_items : List Item
main_items = x.Statement (x.Await (import_of (codes "./b"))) ∷ prints (codes "m") ∷ []

abbrev b_items : List Item
b_items = prints (codes "b") ∷ []

-- ---- the first turn: the importing module stands at its await

abbrev w0 : World
w0 = opening no_maps every_form main_url false

abbrev w1 : World
w1 = arrived w0 main_url 32 (entry_of main_items [])

fetched1 : fetched w0 main_url importing_main.outcome ≡ w1
unfolding url_on_literals requests_after add_request request_of with_text
fetched1 = refl

abbrev h1 : Host
h1 = record {
  promises = record { all = Done (Fulfilled Undefined) ∷ []; jobs = job 0 EntryLoaded ∷ [] };
  errors = [];
  imports = record w1.loading {
    pending = put_at w1.loading.pending main_url [];
    loads = LoadComplete main_url ∷ [];
    unlinked = λ u. false || with_url no_urls main_url u;
  };
}

answers1 : AnswersNext (host_of w1) h1
answers1 = record {
  who = record { url = main_url; pending_request = Root 0; entry = entry_of main_items []; others = [] };
  is_next = refl;
  answered = Answered.answered (Answers.root refl (Enters.enters (main_url, no_urls) refl refl Asks.no_more));
}

abbrev w2 : World
w2 = with_host w1 h1

abbrev w3 : World
w3 = with_promises w2 (record w2.promises { jobs = [] })

link1 : LinksLoad w3 0 main_url None (main_url ∷ [])
unfolding entries_of entries_with request_of with_text add_request requests_after imports_of all_imports exports_of all_exports locals_of indirects_of stars_of item_awaits stmt_awaits stmts_await init_awaits bindings_await
link1 = record {
  is_root = refl;
  links = record {
    marks = _;
    walk = (_, fresh refl all);
    links = LinksMarks.enters (LinksMarks.component (of_imports ExportFault.none ImportFault.none) refl LinksMarks.done);
  };
}

abbrev w4 : World
w4 = with_linked w3 (main_url ∷ [])

abbrev w5 : World
w5 = keep evaluation w4 main_url

abbrev w6 : World
w6 = enter evaluation w5 main_url

abbrev w7 : World
w7 = evaluation.make_body_promise (evaluation.add_stamp w6 main_url) main_url

abbrev k1 : Here
k1 = add_event (Begins main_url) (body_state w7)

abbrev behind : Rest (Value Url)
behind = more (Whole (printing (codes "m"))) end

abbrev k2 : Here
k2 = (take_steps k1 1).1

abbrev k3 : Here
k3 = with_promise (take_steps k2 1).1

names_b : resolution_of_specifier no_maps main_url (codes "./b") ≡ Ok b_url
unfolding url_on_literals
names_b = refl

abbrev o3 : Host
o3 = ask_root (add_load (counted k3.outer) 3) 1 b_url

begins_b : BeginsImport k3.outer main_url (codes "./b") 3 (Ok tt) o3
begins_b = record { imports = Imports.asks b_url refl names_b refl; ends = refl }

abbrev k4 : Here
k4 = with_outer k3 o3

abbrev standing_at : Rest (Value Url)
standing_at = more (Stands Drops) behind

abbrev k5 : Here
k5 = stand k4 main_url 2 (Promise 3) standing_at

segment1 : Runs k1 main_url (more (Whole (x.Await (import_of (codes "./b")))) behind) [] (Awaiting (Promise 3) standing_at) k4
segment1 = Segment.goes (On (Goes (more (Does (Awaits Drops) (t.Import (Val (Text (codes "./b"))))) behind)))
    (RewritesBody.begins_at (follow.asks tt refl follow.ends)) refl
    (Segment.goes (On (Goes (more (Does (Awaits Drops) (Val (Promise 3))) behind)))
    (RewritesBody.does (Rewrites.begins (follow.asks tt refl (follow.asks (Promise 3) (Ok tt, o3, begins_b, refl) follow.ends)))) refl
    (Segment.over (Waits (Promise 3) standing_at) RewritesBody.awaits refl))

started1 : CallsForBody w7 (Start main_url 2) (Ok tt) (with_state w7 k5)
started1 = CallsForBody.start (StartsBody.segment {mid = k1} {late = k4} refl segment1 refl)

abbrev w8 : World
w8 = with_state w7 k5

leaves1 : Leaves evaluation CallsForBody w6 main_url Ends w8
unfolding entries_of entries_with request_of with_text add_request requests_after imports_of all_imports exports_of all_exports locals_of indirects_of stars_of item_awaits stmt_awaits stmts_await init_awaits bindings_await
leaves1 = Leaves.starts refl refl (ExecutesAsync.starts started1)

abbrev w9 : World
w9 = close evaluation w8 main_url (main_url ∷ [])

walk1 : Walks evaluation CallsForBody w4 main_url w5 Ends w9
unfolding entries_of entries_with request_of with_text add_request requests_after imports_of all_imports exports_of all_exports locals_of indirects_of stars_of item_awaits stmt_awaits stmts_await init_awaits bindings_await
walk1 = record {
  closed = [];
  closed_is = λ x. refl;
  marks = _;
  walk = (_, fresh refl all);
  leads = Marks.enters (Marks.component leaves1 refl Marks.done);
}

evaluates1 : EvaluatesLoad w3 0 (Ok 1) w9
evaluates1 = record { root = main_url; linked = main_url ∷ []; links = link1; evaluates = EvaluatesRoot.walks refl refl walk1 }

abbrev w10 : World
w10 = with_reaction w9 1 EntryDone

turn1 : Turn w0 main_url importing_main.outcome w10
turn1 = turn_from fetched1 refl (Tasks.task refl answers1
    (Jobs.job (job 0 EntryLoaded) w3.promises (Fulfilled Undefined) refl refl refl (Reacts.entry_linked evaluates1) (Jobs.none refl)) (Tasks.none refl))

-- ---- the second turn: the imported module

abbrev v1 : World
v1 = arrived w10 b_url 11 (entry_of b_items [])

fetched2 : fetched w10 b_url printing_b.outcome ≡ v1
unfolding url_on_literals requests_after add_request request_of with_text
fetched2 = refl

abbrev h2 : Host
h2 = record {
  promises = settle (make w10.promises (Loaded 1 ∷ [])) 4 (Fulfilled Undefined);
  errors = [];
  imports = record v1.loading {
    pending = put_at v1.loading.pending b_url [];
    loads = LoadComplete main_url ∷ LoadComplete b_url ∷ [];
    purposes = ForEntry 0 ∷ ForImport 3 (Some 4) ∷ [];
    unlinked = λ u. (false || with_url no_urls main_url u) || with_url no_urls b_url u;
  };
}

answers2 : AnswersNext (host_of v1) h2
answers2 = record {
  who = record { url = b_url; pending_request = Root 1; entry = entry_of b_items []; others = [] };
  is_next = refl;
  answered = Answered.answered (Answers.root refl (Enters.enters (b_url, no_urls) refl refl Asks.no_more));
}

abbrev v2 : World
v2 = with_host v1 h2

abbrev v3 : World
v3 = with_promises v2 (record v2.promises { jobs = [] })

link2 : LinksLoad v3 1 b_url None (main_url ∷ b_url ∷ [])
unfolding entries_of entries_with request_of with_text add_request requests_after imports_of all_imports exports_of all_exports locals_of indirects_of stars_of item_awaits stmt_awaits stmts_await init_awaits bindings_await
link2 = record {
  is_root = refl;
  links = record {
    marks = _;
    walk = (_, fresh refl all);
    links = LinksMarks.enters (LinksMarks.component (of_imports ExportFault.none ImportFault.none) refl LinksMarks.done);
  };
}

abbrev v4 : World
v4 = with_linked v3 (main_url ∷ b_url ∷ [])

-- only the importing module was entered
main_entered : (x : Url) → has (main_url ∷ []) x ≡ was_entered (v4.nodes x).phase
main_entered x = by (cases (same_url x main_url))
  where
    same : (same_url main_url x ≡ false) → v4.nodes x ≡ untouched
    same e = put_other w8.nodes main_url _ x e ∙ put_other w5.nodes main_url _ x e ∙ put_other w4.nodes main_url _ x e

    by : (same_url x main_url ≡ true) ⊎ (same_url x main_url ≡ false) → has (main_url ∷ []) x ≡ was_entered (v4.nodes x).phase
    by (inl k) = subst (λ x. has (main_url ∷ []) x ≡ was_entered (v4.nodes x).phase) (sym (same_text x main_url k)) refl
    by (inr k) = ap (λ b. b || false) k ∙ sym (ap (λ (n : Node Url (Value Url)). was_entered n.phase) (same (other_url x main_url k)))

abbrev v5 : World
v5 = keep evaluation v4 b_url

abbrev v6 : World
v6 = enter evaluation v5 b_url

abbrev q1 : Here
q1 = add_event (Begins b_url) (body_state v6)

abbrev q2 : Here
q2 = (add_line (take_steps (take_steps q1 1).1 1).1 (codes "b")).1

segment2 : Runs q1 b_url (more (Whole (printing (codes "b"))) end) [] ended.Normal q2
segment2 = prints_text {late = q2} refl refl refl Segment.ends

abbrev v7 : World
v7 = with_state v6 (add_event (ends_event b_url) q2)

ran2 : CallsForBody v6 (Run b_url) (Ok Normal) v7
ran2 = CallsForBody.run (RunsBody.segment {mid = q1} {late = q2} refl segment2 refl)

leaves2 : Leaves evaluation CallsForBody v6 b_url Ends v7
unfolding entries_of entries_with request_of with_text add_request requests_after imports_of all_imports exports_of all_exports locals_of indirects_of stars_of item_awaits stmt_awaits stmts_await init_awaits bindings_await
leaves2 = Leaves.runs refl refl (executes.ends ran2)

abbrev v8 : World
v8 = close evaluation v7 b_url (b_url ∷ [])

walk2 : Walks evaluation CallsForBody v4 b_url v5 Ends v8
unfolding entries_of entries_with request_of with_text add_request requests_after imports_of all_imports exports_of all_exports locals_of indirects_of stars_of item_awaits stmt_awaits stmts_await init_awaits bindings_await
walk2 = record {
  closed = main_url ∷ [];
  closed_is = main_entered;
  marks = _;
  walk = (_, fresh refl all);
  leads = Marks.enters (Marks.component leaves2 refl Marks.done);
}

abbrev v9 : World
v9 = settle_promise v8 5 (Fulfilled Undefined)

evaluates2 : EvaluatesLoad v3 1 (Ok 5) v9
evaluates2 = record { root = b_url; linked = main_url ∷ b_url ∷ []; links = link2; evaluates = EvaluatesRoot.walks refl refl walk2 }

abbrev v10 : World
v10 = with_reaction v9 5 (Evaluated_of 1)

abbrev v11 : World
v11 = with_promises v10 (record v10.promises { jobs = [] })

abbrev v12 : World
v12 = settle_promise v11 3 (Fulfilled (Namespace b_url))

-- the importing body goes on

abbrev v13 : World
v13 = with_promises v12 (record v12.promises { jobs = [] })

abbrev p0 : Here
p0 = without_standing same_url modules_in BeginsImport (body_state v13) []

abbrev p1 : Here
p1 = (add_line (take_steps (take_steps p0 1).1 1).1 (codes "m")).1

segment3 : Runs p0 main_url (more (Does Drops (Val (Namespace b_url))) behind) [] ended.Normal p1
segment3 = Segment.goes (On (Goes behind)) RewritesBody.drops refl (prints_text {late = p1} refl refl refl Segment.ends)

abbrev p2 : Here
p2 = state_promises (add_event (ends_event main_url) p1) (settle p1.outer.promises 2 (Fulfilled Undefined))

resumed : ResumesBody same_url modules_in BeginsImport (body_state v13) main_url (Fulfilled (Namespace b_url)) (Ok tt) p2
resumed = record {
  taken = record { standing = record { at = main_url; done = 2; rest = standing_at }; others = [] };
  ended = ended.Normal;
  late = p1;
  stands = refl;
  runs = segment3;
  ends = refl;
}

abbrev v14 : World
v14 = with_state v13 p2

abbrev v15 : World
v15 = with_promises v14 (record v14.promises { jobs = [] })

abbrev v16 : World
v16 = finish evaluation v15 main_url

ends_body : Reacts v15 (BodyEnd main_url) (Fulfilled Undefined) v16
ends_body = Reacts.body_ended (Fulfills.goes_on still_async (ReadyAmong.dropped (not_ready refl) ReadyAmong.none) GoOn.none)

abbrev v17 : World
v17 = with_promises v16 (record v16.promises { jobs = [] })

abbrev v18 : World
v18 = with_entry_state v17 Ended

jobs2 : Jobs v2 v18
jobs2 = Jobs.job (job 4 (Loaded 1)) v3.promises (Fulfilled Undefined) refl refl refl (Reacts.linked evaluates2)
    (Jobs.job (job 5 (Evaluated_of 1)) v11.promises (Fulfilled Undefined) refl refl refl (Reacts.evaluated 3 b_url refl refl)
    (Jobs.job (job 3 (Await main_url)) v13.promises (Fulfilled (Namespace b_url)) refl refl refl (Reacts.resumes resumed)
    (Jobs.job (job 2 (BodyEnd main_url)) v15.promises (Fulfilled Undefined) refl refl refl ends_body
    (Jobs.job (job 1 EntryDone) v17.promises (Fulfilled Undefined) refl refl refl Reacts.entry_ended (Jobs.none refl)))))

turn2 : Turn w10 b_url printing_b.outcome v18
turn2 = turn_from fetched2 refl (Tasks.task refl answers2 jobs2 (Tasks.none refl))

main_tree : IsModuleTree main_items
unfolding exported_names exported_of module_names declared_of statement_exported name_list returns_outside awaits_inside stmt_returns stmts_return declared_names
main_tree = record { returns = refl; awaits = refl; exported = no_names refl; declared = no_names refl }

b_tree : IsModuleTree b_items
unfolding exported_names exported_of module_names declared_of statement_exported name_list returns_outside awaits_inside stmt_returns stmts_return declared_names
b_tree = record { returns = refl; awaits = refl; exported = no_names refl; declared = no_names refl }

pub awaits_import : AwaitsImport
awaits_import = record {
  world = v18;
  line = [];
  runs = (record { asked = refl; tree = main_tree }, w10, turn1, (record { asked = refl; tree = b_tree }, v18, turn2, refl));
  last_line = refl;
  shows = refl;
}
