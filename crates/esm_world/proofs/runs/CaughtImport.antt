-- The example of an import() that fails and is caught, step by step.
use Rattle.std.proofs.Common.{◌≡◌, ℕ, false, List, [], ◌∷◌, Some, None, refl}
use Rattle.std.specs.Prelude.{Ok, codes, ◌||◌}
use Rattle.url.proofs.OnLiterals.{url_on_literals}
use Rattle.esm_base.specs.Urls.{Url, same_url}
use Rattle.esm_tree.specs.Syntax as x
use Rattle.esm_tree.specs.Syntax.{Item, Stmts}
use Rattle.esm_grammar.specs.EarlyErrors.{exported_names, exported_of, module_names, declared_of, statement_exported, name_list}
use Rattle.esm_grammar.specs.Names.{declared_names}
use Rattle.esm_ast.specs.Entries.{entries_of, entries_with, request_of, with_text, add_request, requests_after, imports_of, all_imports, exports_of, all_exports, locals_of, indirects_of, stars_of, item_awaits, stmt_awaits, stmts_await, init_awaits, bindings_await}
use Rattle.esm_ast.specs.ModuleTree.{IsModuleTree, returns_outside, awaits_inside, stmt_returns, stmts_return}
use Rattle.esm_ast.specs.Outcome.{Absent}
use Rattle.esm_import_map.specs.ImportMap.{no_maps}
use Rattle.esm_specifier.specs.Resolution.{resolution_of_specifier}
use Rattle.esm_realm.specs.Walk.Visits.{fresh}
use Rattle.esm_realm.specs.Walk.Passes.{all}
use Rattle.esm_values.specs.Value.{Value, Undefined, Text, Promise, Error}
use Rattle.esm_values.specs.Plans.Rewritten.{Goes}
use Rattle.esm_values.specs.Plans.{Follows as follow}
use Rattle.esm_expr_eval.specs.Terms.{Term as t}
use Rattle.esm_expr_eval.specs.Terms.Term.{Val}
use Rattle.esm_expr_eval.specs.Rewriting.{Rewrites, RewritesIn, AreValues}
use Rattle.esm_expr_eval.specs.Terms.{Terms as terms}
use Rattle.esm_values.specs.Completion.{Normal as gives_value}
use Rattle.esm_env.specs.Cells.{Reading as reading}
use Rattle.esm_promise.specs.Promises.{Done, Fulfilled, Rejected, job, settle}
use Rattle.esm_promise.specs.Reactions.{EntryLoaded, EntryDone, Await, BodyEnd}
use Rattle.esm_loads.specs.UrlTable.{Failed as failed_entry, New, fetch_error, no_urls, with_url, put_at}
use Rattle.esm_loads.specs.Loading.{Thrown as thrown_load, Root, LoadComplete}
use Rattle.esm_loads.specs.Load.{Enters, Asks, Answers}
use Rattle.esm_loads.specs.Host.{Host, Answered}
use Rattle.esm_loads.specs.Arrival.{AnswersNext}
use Rattle.esm_loads.specs.ImportCall.{Imports, BeginsImport, counted, add_load, ask_root}
use Rattle.esm_link.specs.Faults.{ExportFault, ImportFault, of_imports}
use Rattle.esm_link.specs.Link.{LinksMarks}
use Rattle.esm_eval.specs.Nodes.{Start}
use Rattle.esm_eval.specs.BodyEnd.{ReadyAmong, GoOn, Fulfills, finish}
use Rattle.esm_eval.specs.Evaluate.{Ends, Marks, Leaves, ExecutesAsync, EvaluatesRoot, Walks, keep, enter, close}
use Rattle.esm_rewriting.specs.Rest.{Rest, end, more, whole}
use Rattle.esm_rewriting.specs.Rest.Part.{Whole, Does, Stands, In, Tries}
use Rattle.esm_rewriting.specs.Rest.Use.{Awaits, Drops}
use Rattle.esm_rewriting.specs.State.{with_promises as state_promises, Begins, Ends as ends_event, add_event, take_steps, add_line}
use Rattle.esm_rewriting.specs.Acts.{with_promise, with_outer}
use Rattle.esm_rewriting.specs.BodyRewriting.{On, Waits, RewritesBody}
use Rattle.esm_rewriting.specs.Segment.{RewritesOutermost, Segment, Awaiting}
use Rattle.esm_rewriting.specs.Segment.{Ended as ended}
use Rattle.esm_rewriting.specs.Bodies.{StartsBody, ResumesBody, stand, without_standing}
use Rattle.esm_rewriting.specs.Scopes.{Scope, named_cell}
use Rattle.esm_world.specs.World.{World, Ended, opening, modules_in, body_state, with_state, with_host, host_of}
use Rattle.esm_world.specs.Layers.{CallsForBody, evaluation, with_linked, with_promises}
use Rattle.esm_world.specs.Jobs.{Jobs, Reacts, LinksLoad, EvaluatesLoad, with_reaction, with_entry_state}
use Rattle.esm_world.specs.Turn.{Tasks, Turn, fetched}
use Rattle.esm_world.specs.Examples.{main_url, b_url, catching_main, CatchesImport, import_of}
use Rattle.esm_loads.specs.LoadsView.{every_form}
use Rattle.esm_world.proofs.runs.Steps.{Here, Runs, entry_of, arrived, turn_from, no_names, still_async, not_ready}

abbrev e_name : List ℕ
e_name = codes "e"

abbrev handler : Stmts
handler = x.first (x.Expression (x.Print (x.more (x.Name e_name) x.none))) x.nothing

abbrev tried : Stmts
tried = x.first (x.Await (import_of (codes "./b"))) x.nothing

abbrev items : List Item
items = x.Statement (x.TryCatch tried e_name handler) ∷ []

-- ---- the first turn: the importing module stands at its await

abbrev w0 : World
w0 = opening no_maps every_form main_url false

abbrev w1 : World
w1 = arrived w0 main_url 52 (entry_of items [])

fetched1 : fetched w0 main_url catching_main.outcome ≡ w1
unfolding url_on_literals requests_after add_request request_of with_text
fetched1 = refl

abbrev h1 : Host
h1 = record {
  promises = record { all = Done (Fulfilled Undefined) ∷ []; jobs = job 0 EntryLoaded ∷ [] };
  errors = [];
  imports = record w1.loading {
    pending = put_at w1.loading.pending main_url [];
    loads = LoadComplete main_url ∷ [];
    unlinked = λ u. false || with_url no_urls main_url u;
  };
}

answers1 : AnswersNext (host_of w1) h1
answers1 = record {
  who = record { url = main_url; pending_request = Root 0; entry = entry_of items []; others = [] };
  is_next = refl;
  answered = Answered.answered (Answers.root refl (Enters.enters (main_url, no_urls) refl refl Asks.no_more));
}

abbrev w2 : World
w2 = with_host w1 h1

abbrev w3 : World
w3 = with_promises w2 (record w2.promises { jobs = [] })

link1 : LinksLoad w3 0 main_url None (main_url ∷ [])
unfolding entries_of entries_with request_of with_text add_request requests_after imports_of all_imports exports_of all_exports locals_of indirects_of stars_of item_awaits stmt_awaits stmts_await init_awaits bindings_await
link1 = record {
  is_root = refl;
  links = record {
    marks = _;
    walk = (_, fresh refl all);
    links = LinksMarks.enters (LinksMarks.component (of_imports ExportFault.none ImportFault.none) refl LinksMarks.done);
  };
}

abbrev w4 : World
w4 = with_linked w3 (main_url ∷ [])

abbrev w5 : World
w5 = keep evaluation w4 main_url

abbrev w6 : World
w6 = enter evaluation w5 main_url

abbrev w7 : World
w7 = evaluation.make_body_promise (evaluation.add_stamp w6 main_url) main_url

-- what is under way inside the block of the `try`
abbrev trying : Rest (Value Url) → Rest (Value Url)
trying r = more (Tries (more (In [] r) end) (Some e_name) handler) end

abbrev k1 : Here
k1 = add_event (Begins main_url) (body_state w7)

abbrev k2 : Here
k2 = (take_steps k1 1).1

abbrev k3 : Here
k3 = (take_steps k2 1).1

abbrev k4 : Here
k4 = with_promise (take_steps k3 1).1

names_b : resolution_of_specifier no_maps main_url (codes "./b") ≡ Ok b_url
unfolding url_on_literals
names_b = refl

abbrev o4 : Host
o4 = ask_root (add_load (counted k4.outer) 3) 1 b_url

begins_b : BeginsImport k4.outer main_url (codes "./b") 3 (Ok tt) o4
begins_b = record { imports = Imports.asks b_url refl names_b refl; ends = refl }

abbrev k5 : Here
k5 = with_outer k4 o4

abbrev standing_at : Rest (Value Url)
standing_at = trying (more (Stands Drops) end)

abbrev k6 : Here
k6 = stand k5 main_url 2 (Promise 3) standing_at

abbrev Moving : Here → Rest (Value Url) → Rest (Value Url) → Here → Type 0
Moving k r s l = RewritesOutermost same_url modules_in BeginsImport main_url k r (On (Goes s)) l

move1 : Moving k1 (more (Whole (x.TryCatch tried e_name handler)) end) (trying (whole tried)) k2
move1 = RewritesBody.begins_at (follow.asks tt refl follow.ends)

move2 : Moving k2 (trying (whole tried)) (trying (more (Does (Awaits Drops) (t.Import (Val (Text (codes "./b"))))) end)) k3
move2 = RewritesBody.tries (RewritesBody.inner {scope' = []} (RewritesBody.begins_at (follow.asks tt refl follow.ends)))

move3 : Moving k3 (trying (more (Does (Awaits Drops) (t.Import (Val (Text (codes "./b"))))) end)) (trying (more (Does (Awaits Drops) (Val (Promise 3))) end)) k5
move3 = RewritesBody.tries (RewritesBody.inner {scope' = []}
    (RewritesBody.does (Rewrites.begins (follow.asks tt refl (follow.asks (Promise 3) (Ok tt, o4, begins_b, refl) follow.ends)))))

move4 : RewritesOutermost same_url modules_in BeginsImport main_url k5 (trying (more (Does (Awaits Drops) (Val (Promise 3))) end)) (Waits (Promise 3) standing_at) k5
move4 = RewritesBody.tries (RewritesBody.inner {scope' = []} RewritesBody.awaits)

segment1 : Runs k1 main_url (more (Whole (x.TryCatch tried e_name handler)) end) [] (Awaiting (Promise 3) standing_at) k5
segment1 = Segment.goes _ move1 refl (Segment.goes _ move2 refl (Segment.goes _ move3 refl (Segment.over _ move4 refl)))

started1 : CallsForBody w7 (Start main_url 2) (Ok tt) (with_state w7 k6)
started1 = CallsForBody.start (StartsBody.segment {mid = k1} {late = k5} refl segment1 refl)

abbrev w8 : World
w8 = with_state w7 k6

leaves1 : Leaves evaluation CallsForBody w6 main_url Ends w8
unfolding entries_of entries_with request_of with_text add_request requests_after imports_of all_imports exports_of all_exports locals_of indirects_of stars_of item_awaits stmt_awaits stmts_await init_awaits bindings_await
leaves1 = Leaves.starts refl refl (ExecutesAsync.starts started1)

abbrev w9 : World
w9 = close evaluation w8 main_url (main_url ∷ [])

walk1 : Walks evaluation CallsForBody w4 main_url w5 Ends w9
unfolding entries_of entries_with request_of with_text add_request requests_after imports_of all_imports exports_of all_exports locals_of indirects_of stars_of item_awaits stmt_awaits stmts_await init_awaits bindings_await
walk1 = record {
  closed = [];
  closed_is = λ x. refl;
  marks = _;
  walk = (_, fresh refl all);
  leads = Marks.enters (Marks.component leaves1 refl Marks.done);
}

evaluates1 : EvaluatesLoad w3 0 (Ok 1) w9
evaluates1 = record { root = main_url; linked = main_url ∷ []; links = link1; evaluates = EvaluatesRoot.walks refl refl walk1 }

abbrev w10 : World
w10 = with_reaction w9 1 EntryDone

turn1 : Turn w0 main_url catching_main.outcome w10
turn1 = turn_from fetched1 refl (Tasks.task refl answers1
    (Jobs.job (job 0 EntryLoaded) w3.promises (Fulfilled Undefined) refl refl refl (Reacts.entry_linked evaluates1) (Jobs.none refl)) (Tasks.none refl))

-- ---- the second turn: there is nothing under the URL

abbrev v1 : World
v1 = record w10 { loading = record w10.loading { entries = put_at w10.loading.entries b_url (Some failed_entry) } }

fetched2 : fetched w10 b_url Absent ≡ v1
fetched2 = refl

abbrev h2 : Host
h2 = record {
  promises = settle w10.promises 3 (Rejected (Error 0));
  errors = fetch_error b_url ∷ [];
  imports = record v1.loading {
    pending = put_at v1.loading.pending b_url [];
    loads = LoadComplete main_url ∷ thrown_load (New (fetch_error b_url)) ∷ [];
  };
}

answers2 : AnswersNext (host_of v1) h2
answers2 = record {
  who = record { url = b_url; pending_request = Root 1; entry = failed_entry; others = [] };
  is_next = refl;
  answered = Answered.answered (Answers.no_root (New (fetch_error b_url)) refl);
}

abbrev v2 : World
v2 = with_host v1 h2

abbrev v3 : World
v3 = with_promises v2 (record v2.promises { jobs = [] })

-- the body goes on with the throw

abbrev p0 : Here
p0 = without_standing same_url modules_in BeginsImport (body_state v3) []

abbrev caught_scope : Scope (Value Url)
caught_scope = named_cell e_name false (Some (Error 0)) ∷ []

abbrev handling : Rest (Value Url) → Rest (Value Url)
handling r = more (In caught_scope r) end

abbrev naming : Rest (Value Url)
naming = more (Does Drops (t.Print (terms.more (t.Name e_name) terms.none))) end

abbrev printing_error : Rest (Value Url)
printing_error = more (Does Drops (t.Print (terms.more (Val (Error 0)) terms.none))) end

abbrev p1 : Here
p1 = (take_steps p0 1).1

abbrev error_line : List ℕ
error_line = codes "TypeError: cannot fetch a:/b"

abbrev p2 : Here
p2 = (add_line (take_steps p1 1).1 error_line).1

move5 : Moving p0 (trying (more (Does Drops (t.Fails (Error 0))) end)) (handling (whole handler)) p0
move5 = RewritesBody.tries (RewritesBody.inner {scope' = []} (RewritesBody.does Rewrites.fails))

move6 : Moving p0 (handling (whole handler)) (handling naming) p1
move6 = RewritesBody.inner {scope' = caught_scope} (RewritesBody.begins_at (follow.asks tt refl follow.ends))

move7 : Moving p1 (handling naming) (handling printing_error) p1
move7 = RewritesBody.inner {scope' = caught_scope} (RewritesBody.does (Rewrites.print_in (RewritesIn.first
    (Rewrites.name (follow.asks (gives_value (Error 0)) (reading.Value (Error 0), refl, refl) follow.ends)))))

move8 : Moving p1 (handling printing_error) (handling (more (Does Drops (Val Undefined)) end)) p2
move8 = RewritesBody.inner {scope' = caught_scope} (RewritesBody.does (Rewrites.print (AreValues.cons AreValues.nil)
    (follow.asks tt refl (follow.asks tt (error_line ∷ [], (error_line, [], refl, refl, refl), refl) follow.ends))))

move9 : Moving p2 (handling (more (Does Drops (Val Undefined)) end)) (handling end) p2
move9 = RewritesBody.inner {scope' = caught_scope} RewritesBody.drops

move10 : Moving p2 (handling end) end p2
move10 = RewritesBody.inner_end

segment2 : Runs p0 main_url (trying (more (Does Drops (t.Fails (Error 0))) end)) [] ended.Normal p2
segment2 = Segment.goes _ move5 refl (Segment.goes _ move6 refl (Segment.goes _ move7 refl (Segment.goes _ move8 refl
    (Segment.goes _ move9 refl (Segment.goes _ move10 refl Segment.ends)))))

abbrev p3 : Here
p3 = state_promises (add_event (ends_event main_url) p2) (settle p2.outer.promises 2 (Fulfilled Undefined))

resumed : ResumesBody same_url modules_in BeginsImport (body_state v3) main_url (Rejected (Error 0)) (Ok tt) p3
resumed = record {
  taken = record { standing = record { at = main_url; done = 2; rest = standing_at }; others = [] };
  ended = ended.Normal;
  late = p2;
  stands = refl;
  runs = segment2;
  ends = refl;
}

abbrev v4 : World
v4 = with_state v3 p3

abbrev v5 : World
v5 = with_promises v4 (record v4.promises { jobs = [] })

abbrev v6 : World
v6 = finish evaluation v5 main_url

ends_body : Reacts v5 (BodyEnd main_url) (Fulfilled Undefined) v6
ends_body = Reacts.body_ended (Fulfills.goes_on still_async (ReadyAmong.dropped (not_ready refl) ReadyAmong.none) GoOn.none)

abbrev v7 : World
v7 = with_promises v6 (record v6.promises { jobs = [] })

abbrev v8 : World
v8 = with_entry_state v7 Ended

jobs2 : Jobs v2 v8
jobs2 = Jobs.job (job 3 (Await main_url)) v3.promises (Rejected (Error 0)) refl refl refl (Reacts.resumes resumed)
    (Jobs.job (job 2 (BodyEnd main_url)) v5.promises (Fulfilled Undefined) refl refl refl ends_body
    (Jobs.job (job 1 EntryDone) v7.promises (Fulfilled Undefined) refl refl refl Reacts.entry_ended (Jobs.none refl)))

turn2 : Turn w10 b_url Absent v8
turn2 = turn_from fetched2 refl (Tasks.task refl answers2 jobs2 (Tasks.none refl))

tree1 : IsModuleTree items
unfolding exported_names exported_of module_names declared_of statement_exported name_list returns_outside awaits_inside stmt_returns stmts_return declared_names bindings_await
tree1 = record { returns = refl; awaits = refl; exported = no_names refl; declared = no_names refl }

pub catches_import : CatchesImport
catches_import = record {
  world = v8;
  line = [];
  runs = (record { asked = refl; tree = tree1 }, w10, turn1, (record { asked = refl; tree = tt }, v8, turn2, refl));
  last_line = refl;
  shows = refl;
}
