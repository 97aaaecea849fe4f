-- The example of a live binding, step by step.
use Rattle.std.proofs.Common.{◌≡◌, ℕ, false, List, [], ◌∷◌, None, refl}
use Rattle.std.specs.Prelude.{Ok, codes, ◌||◌}
use Rattle.url.proofs.OnLiterals.{url_on_literals}
use Rattle.esm_base.specs.Urls.{Url, same_url}
use Rattle.esm_tree.specs.Syntax as x
use Rattle.esm_tree.specs.Syntax.{Item, Stmts}
use Rattle.esm_grammar.specs.EarlyErrors.{exported_names, exported_of, module_names, declared_of, statement_exported, name_list}
use Rattle.esm_grammar.specs.Names.{declared_names, names_of}
use Rattle.esm_ast.specs.Entries.{import_named, statement_exports, listed, listed_by, listed_by_wanted, entries_of, entries_with, request_of, with_text, add_request, requests_after, imports_of, all_imports, exports_of, all_exports, locals_of, indirects_of, stars_of, item_awaits, stmt_awaits, stmts_await, init_awaits, bindings_await}
use Rattle.esm_base.specs.DefaultExport.{or_star_default}
use Rattle.esm_ast.specs.ModuleTree.{IsModuleTree, returns_outside, awaits_inside, stmt_returns, stmts_return}
use Rattle.esm_import_map.specs.ImportMap.{no_maps}
use Rattle.esm_realm.specs.Walk.Visits.{fresh}
use Rattle.esm_realm.specs.Walk.Passes.{all, next}
use Rattle.esm_ast.specs.declared.entries.ImportEntry.{ImportEntry}
use Rattle.esm_tree.specs.declared.node.Wanted.TheVariants.{Named}
use Rattle.esm_resolve.specs.Resolution.{pair_of}
use Rattle.esm_resolve.specs.declared.graph.Resolution.{Resolution}
use Rattle.esm_resolve.specs.declared.graph.Resolution.TheVariants.{One}
use Rattle.esm_resolve.specs.declared.graph.Binding.TheVariants.{Local}
use Rattle.esm_env.specs.Modules.{Modules, graph, Exports}
use Rattle.esm_env.specs.Bindings.{Binds}
use Rattle.esm_env.specs.Reading.{IsReadingOf}
use Rattle.esm_values.specs.Value.{Value, Undefined, Text, Func}
use Rattle.esm_values.specs.Plans.Rewritten.{Goes, Calls}
use Rattle.esm_values.specs.Plans.{Follows as follow}
use Rattle.esm_values.specs.Ran.Ran.{Normal}
use Rattle.esm_expr_eval.specs.Terms.{Term as t}
use Rattle.esm_expr_eval.specs.Terms.Term.{Val}
use Rattle.esm_expr_eval.specs.Rewriting.{Rewrites, RewritesIn, AreValues}
use Rattle.esm_expr_eval.specs.Terms.{Terms as terms}
use Rattle.esm_expr_eval.specs.Terms.{LinkTerms as links}
use Rattle.esm_values.specs.Completion.{Normal as gives_value}
use Rattle.esm_env.specs.Cells.{Reading as reading, write_cell}
use Rattle.esm_promise.specs.Promises.{Done, Fulfilled, job}
use Rattle.esm_promise.specs.Reactions.{EntryLoaded, EntryDone}
use Rattle.esm_loads.specs.UrlTable.{no_urls, with_url, put_at}
use Rattle.esm_loads.specs.Loading.{Root, Request, Open, LoadComplete}
use Rattle.esm_loads.specs.Load.{Enters, Asks, Answers}
use Rattle.esm_loads.specs.Host.{Host, Answered}
use Rattle.esm_loads.specs.Arrival.{AnswersNext}
use Rattle.esm_loads.specs.ImportCall.{BeginsImport}
use Rattle.esm_link.specs.Faults.{ExportFault, ImportFault, of_imports}
use Rattle.esm_link.specs.Link.{LinksMarks}
use Rattle.esm_eval.specs.Nodes.{Run}
use Rattle.esm_eval.specs.Evaluate.{Ends, Marks, Leaves, EvaluatesRoot, Walks, keep, enter, close}
use Rattle.esm_eval.specs.Evaluate.{Executes as executes}
use Rattle.esm_rewriting.specs.Rest.{Rest, end, more}
use Rattle.esm_rewriting.specs.Rest.Part.{Whole, Does, In}
use Rattle.esm_rewriting.specs.Rest.Use.{Drops, Sets, Writes}
use Rattle.esm_rewriting.specs.State.{Begins, Ends as ends_event, add_event, take_steps, add_line}
use Rattle.esm_rewriting.specs.BodyRewriting.{On, RewritesBody}
use Rattle.esm_rewriting.specs.Segment.{RewritesOutermost, Segment, active}
use Rattle.esm_rewriting.specs.Segment.{Ended as ended}
use Rattle.esm_rewriting.specs.Bodies.{RunsBody}
use Rattle.esm_world.specs.World.{World, Ended, opening, modules_in, body_state, with_state, with_host, host_of}
use Rattle.esm_world.specs.Layers.{CallsForBody, evaluation, with_linked, with_promises}
use Rattle.esm_world.specs.Jobs.{Jobs, Reacts, LinksLoad, EvaluatesLoad, with_reaction, with_entry_state, settle_promise}
use Rattle.esm_world.specs.Turn.{Tasks, Turn, fetched}
use Rattle.esm_world.specs.Examples.{main_url, b_url, imports_name, print_x, live_main, live_b, LiveBinding}
use Rattle.esm_loads.specs.LoadsView.{every_form}
use Rattle.esm_world.proofs.runs.Steps.{Here, Runs, entry_of, arrived, turn_from, no_names, some_names, utf8_x, utf8_bump, own_export}

abbrev main_items : List Item
main_items = x.ImportFrom (codes "./b") (imports_name (codes "x") ∷ imports_name (codes "bump") ∷ []) ∷ print_x
    ∷ x.Statement (x.Expression (x.Post (x.Name (codes "bump")) (x.call x.none x.ends))) ∷ print_x ∷ []

abbrev b_items : List Item
b_items = x.ExportStatement (x.Let (x.binding (codes "x") (x.plain (x.Text (codes "1"))) x.no_more))
    ∷ x.ExportFunction (codes "bump") [] (x.first (x.Assign (codes "x") (x.plain (x.Text (codes "2")))) x.nothing) ∷ []

-- ---- the first turn: the module asks for what it imports

abbrev w0 : World
w0 = opening no_maps every_form main_url false

abbrev w1 : World
w1 = arrived w0 main_url 56 (entry_of main_items (b_url ∷ []))

fetched1 : fetched w0 main_url live_main.outcome ≡ w1
unfolding url_on_literals requests_after add_request request_of with_text
fetched1 = refl

abbrev h1 : Host
h1 = record {
  promises = w0.promises;
  errors = [];
  imports = record w1.loading {
    asked = main_url ∷ b_url ∷ [];
    pending = put_at (put_at w1.loading.pending main_url []) b_url (Request 0 main_url 0 ∷ []);
    loads = Open main_url (with_url no_urls main_url) ∷ [];
  };
}

answers1 : AnswersNext (host_of w1) h1
answers1 = record {
  who = record { url = main_url; pending_request = Root 0; entry = entry_of main_items (b_url ∷ []); others = [] };
  is_next = refl;
  answered = Answered.answered (Answers.root refl (Enters.enters (main_url, no_urls) refl refl
      (Asks.waits (main_url, with_url no_urls main_url) refl refl Asks.no_more)));
}

abbrev w2 : World
w2 = with_host w1 h1

turn1 : Turn w0 main_url live_main.outcome w2
turn1 = turn_from fetched1 refl (Tasks.task refl answers1 (Jobs.none refl) (Tasks.none refl))

-- ---- the second turn

abbrev w3 : World
w3 = arrived w2 b_url 55 (entry_of b_items [])

fetched2 : fetched w2 b_url live_b.outcome ≡ w3
unfolding url_on_literals requests_after add_request request_of with_text
fetched2 = refl

abbrev h3 : Host
h3 = record {
  promises = record { all = Done (Fulfilled Undefined) ∷ []; jobs = job 0 EntryLoaded ∷ [] };
  errors = [];
  imports = record w3.loading {
    pending = put_at w3.loading.pending b_url [];
    loads = LoadComplete main_url ∷ [];
    unlinked = λ u. false || with_url (with_url no_urls main_url) b_url u;
  };
}

answers2 : AnswersNext (host_of w3) h3
answers2 = record {
  who = record { url = b_url; pending_request = Request 0 main_url 0; entry = entry_of b_items []; others = [] };
  is_next = refl;
  answered = Answered.answered (Answers.request (main_url, with_url no_urls main_url) refl refl
      (Enters.enters (main_url, with_url no_urls main_url) refl refl Asks.no_more));
}

abbrev w4 : World
w4 = with_host w3 h3

abbrev w5 : World
w5 = with_promises w4 (record w4.promises { jobs = [] })

abbrev g : Modules Url
g = modules_in w5.loading

-- ---- linking

abbrev x_end : Resolution
x_end = One (record { 0 = 1 }) (Local (codes "x"))

abbrev bump_end : Resolution
bump_end = One (record { 0 = 1 }) (Local (codes "bump"))

x_is : Exports g b_url (codes "x") x_end
unfolding entries_of entries_with request_of with_text add_request requests_after imports_of all_imports exports_of all_exports locals_of indirects_of stars_of item_awaits stmt_awaits stmts_await init_awaits bindings_await import_named or_star_default statement_exports listed listed_by listed_by_wanted declared_names names_of
x_is = own_export (graph g) (pair_of 1 (codes "x")) (record { 0 = 1 }) (Local (codes "x")) refl refl

bump_is : Exports g b_url (codes "bump") bump_end
unfolding entries_of entries_with request_of with_text add_request requests_after imports_of all_imports exports_of all_exports locals_of indirects_of stars_of item_awaits stmt_awaits stmts_await init_awaits bindings_await import_named or_star_default statement_exports listed listed_by listed_by_wanted declared_names names_of
bump_is = own_export (graph g) (pair_of 1 (codes "bump")) (record { 0 = 1 }) (Local (codes "bump")) refl refl

abbrev x_entry : ImportEntry
x_entry = record { request = 0; wanted = Named (codes "x"); local = codes "x" }

abbrev bump_entry : ImportEntry
bump_entry = record { request = 0; wanted = Named (codes "bump"); local = codes "bump" }

link1 : LinksLoad w5 0 main_url None (b_url ∷ main_url ∷ [])
unfolding entries_of entries_with request_of with_text add_request requests_after imports_of all_imports exports_of all_exports locals_of indirects_of stars_of item_awaits stmt_awaits stmts_await init_awaits bindings_await import_named or_star_default statement_exports listed listed_by listed_by_wanted declared_names names_of
link1 = record {
  is_root = refl;
  links = record {
    marks = _;
    walk = (_, fresh refl (next (fresh refl all) all));
    links = LinksMarks.enters (LinksMarks.enters (LinksMarks.component (of_imports ExportFault.none ImportFault.none) refl
        (LinksMarks.passes (LinksMarks.component (of_imports ExportFault.none
        (ImportFault.fine {e = x_entry} (codes "x") x_end refl x_is refl
        (ImportFault.fine {e = bump_entry} (codes "bump") bump_end refl bump_is refl ImportFault.none))) refl LinksMarks.done))));
  };
}

-- ---- evaluation

abbrev w6 : World
w6 = with_linked w5 (b_url ∷ main_url ∷ [])

abbrev w7 : World
w7 = keep evaluation w6 main_url

abbrev w8 : World
w8 = enter evaluation (enter evaluation w7 main_url) b_url

abbrev Moving : Url → Here → Rest (Value Url) → Rest (Value Url) → Here → Type 0
Moving m k r s l = RewritesOutermost same_url modules_in BeginsImport m k r (On (Goes s)) l

-- the body of the imported module

abbrev a1 : Here
a1 = add_event (Begins b_url) (body_state w8)

abbrev a2 : Here
a2 = (take_steps a1 1).1

abbrev setting : Rest (Value Url)
setting = more (Does (Sets (codes "x")) (Val (Text (codes "1")))) end

abbrev a3 : Here
a3 = record a2 { cells = write_cell same_url a2.cells b_url (codes "x") (Text (codes "1")) }

move1 : Moving b_url a1 (more (Whole (x.Let (x.binding (codes "x") (x.plain (x.Text (codes "1"))) x.no_more))) end) setting a2
move1 = RewritesBody.begins_at (follow.asks tt refl follow.ends)

move2 : Moving b_url a2 setting end a3
move2 = RewritesBody.sets

abbrev w9 : World
w9 = with_state w8 (add_event (ends_event b_url) a3)

ran1 : CallsForBody w8 (Run b_url) (Ok Normal) w9
ran1 = CallsForBody.run (RunsBody.segment {mid = a1} {late = a3} {how = ended.Normal} refl (Segment.goes _ move1 refl (Segment.goes _ move2 refl Segment.ends)) refl)

leaves1 : Leaves evaluation CallsForBody w8 b_url Ends w9
unfolding entries_of entries_with request_of with_text add_request requests_after imports_of all_imports exports_of all_exports locals_of indirects_of stars_of item_awaits stmt_awaits stmts_await init_awaits bindings_await import_named or_star_default statement_exports listed listed_by listed_by_wanted declared_names names_of
leaves1 = Leaves.runs refl refl (executes.ends ran1)

abbrev w10 : World
w10 = close evaluation w9 b_url (b_url ∷ [])

-- the body of the importing module

abbrev m1 : Here
m1 = add_event (Begins main_url) (body_state w10)

abbrev then_print : Rest (Value Url)
then_print = more (Whole (x.Expression (x.Print (x.more (x.Name (codes "x")) x.none)))) end

abbrev then_call : Rest (Value Url)
then_call = more (Whole (x.Expression (x.Post (x.Name (codes "bump")) (x.call x.none x.ends)))) then_print

abbrev whole_main : Rest (Value Url)
whole_main = more (Whole (x.Expression (x.Print (x.more (x.Name (codes "x")) x.none)))) then_call

abbrev naming : Rest (Value Url) → Rest (Value Url)
naming rest = more (Does Drops (t.Print (terms.more (t.Name (codes "x")) terms.none))) rest

abbrev printing_of : List ℕ → Rest (Value Url) → Rest (Value Url)
printing_of text rest = more (Does Drops (t.Print (terms.more (Val (Text text)) terms.none))) rest

abbrev dropping : Rest (Value Url) → Rest (Value Url)
dropping rest = more (Does Drops (Val Undefined)) rest

abbrev m2 : Here
m2 = (take_steps m1 1).1

move3 : Moving main_url m1 whole_main (naming then_call) m2
move3 = RewritesBody.begins_at (follow.asks tt refl follow.ends)

reads_one : IsReadingOf g m2.cells main_url (codes "x") (reading.Value (Text (codes "1")))
unfolding entries_of entries_with request_of with_text add_request requests_after imports_of all_imports exports_of all_exports locals_of indirects_of stars_of item_awaits stmt_awaits stmts_await init_awaits bindings_await import_named or_star_default statement_exports listed listed_by listed_by_wanted declared_names names_of
reads_one = IsReadingOf.bound refl (Binds.named x_entry (codes "x") x_end refl refl x_is)

move4 : Moving main_url m2 (naming then_call) (printing_of (codes "1") then_call) m2
move4 = RewritesBody.does (Rewrites.print_in (RewritesIn.first
    (Rewrites.name (follow.asks (gives_value (Text (codes "1"))) (reading.Value (Text (codes "1")), reads_one, refl) follow.ends))))

abbrev m3 : Here
m3 = (add_line (take_steps m2 1).1 (codes "1")).1

move5 : Moving main_url m2 (printing_of (codes "1") then_call) (dropping then_call) m3
move5 = RewritesBody.does (Rewrites.print (AreValues.cons AreValues.nil)
    (follow.asks tt refl (follow.asks tt (codes "1" ∷ [], (codes "1", [], refl, refl, refl), refl) follow.ends)))

abbrev m4 : Here
m4 = (take_steps m3 1).1

abbrev calling : t (Value Url) → Rest (Value Url)
calling f = more (Does Drops (t.Post f (links.call terms.none links.ends))) then_print

move6 : Moving main_url m3 then_call (calling (t.Name (codes "bump"))) m4
move6 = RewritesBody.begins_at (follow.asks tt refl follow.ends)

reads_bump : IsReadingOf g m4.cells main_url (codes "bump") (reading.Value (Func b_url 0))
unfolding entries_of entries_with request_of with_text add_request requests_after imports_of all_imports exports_of all_exports locals_of indirects_of stars_of item_awaits stmt_awaits stmts_await init_awaits bindings_await import_named or_star_default statement_exports listed listed_by listed_by_wanted declared_names names_of
reads_bump = IsReadingOf.bound refl (Binds.named bump_entry (codes "bump") bump_end refl refl bump_is)

move7 : Moving main_url m4 (calling (t.Name (codes "bump"))) (calling (Val (Func b_url 0))) m4
move7 = RewritesBody.does (Rewrites.post_in (Rewrites.name (follow.asks (gives_value (Func b_url 0)) (reading.Value (Func b_url 0), reads_bump, refl) follow.ends)))

abbrev m5 : Here
m5 = (take_steps m4 1).1

abbrev waiting : Rest (Value Url)
waiting = more (Does Drops (t.Post t.Waits links.ends)) then_print

move8 : RewritesOutermost same_url modules_in BeginsImport main_url m4 (calling (Val (Func b_url 0))) (On (Calls (Func b_url 0) [] waiting)) m5
move8 = RewritesBody.does (Rewrites.call_of AreValues.nil (follow.asks tt refl follow.ends))

abbrev inside_bump : Rest (Value Url) → Rest (Value Url)
inside_bump rest = more (In [] rest) end

abbrev bump_body : Rest (Value Url)
bump_body = more (Whole (x.Assign (codes "x") (x.plain (x.Text (codes "2"))))) end

abbrev writing : Rest (Value Url)
writing = more (Does (Writes (codes "x")) (Val (Text (codes "2")))) end

abbrev m6 : Here
m6 = (take_steps m5 1).1

move9 : Moving b_url m5 (inside_bump bump_body) (inside_bump writing) m6
move9 = RewritesBody.inner {scope' = []} (RewritesBody.begins_at (follow.asks tt refl follow.ends))

abbrev m7 : Here
m7 = record m6 { cells = write_cell same_url m6.cells b_url (codes "x") (Text (codes "2")) }

move10 : Moving b_url m6 (inside_bump writing) (inside_bump end) m7
move10 = RewritesBody.inner {scope' = []} RewritesBody.writes

move11 : Moving b_url m7 (inside_bump end) end m7
move11 = RewritesBody.inner_end

abbrev returned : Rest (Value Url)
returned = more (Does Drops (t.Post (Val Undefined) links.ends)) then_print

move12 : Moving main_url m7 returned (dropping then_print) m7
move12 = RewritesBody.does Rewrites.post_end

abbrev m8 : Here
m8 = (take_steps m7 1).1

move13 : Moving main_url m7 then_print (naming end) m8
move13 = RewritesBody.begins_at (follow.asks tt refl follow.ends)

reads_two : IsReadingOf g m8.cells main_url (codes "x") (reading.Value (Text (codes "2")))
unfolding entries_of entries_with request_of with_text add_request requests_after imports_of all_imports exports_of all_exports locals_of indirects_of stars_of item_awaits stmt_awaits stmts_await init_awaits bindings_await import_named or_star_default statement_exports listed listed_by listed_by_wanted declared_names names_of
reads_two = IsReadingOf.bound refl (Binds.named x_entry (codes "x") x_end refl refl x_is)

move14 : Moving main_url m8 (naming end) (printing_of (codes "2") end) m8
move14 = RewritesBody.does (Rewrites.print_in (RewritesIn.first
    (Rewrites.name (follow.asks (gives_value (Text (codes "2"))) (reading.Value (Text (codes "2")), reads_two, refl) follow.ends))))

abbrev m9 : Here
m9 = (add_line (take_steps m8 1).1 (codes "2")).1

move15 : Moving main_url m8 (printing_of (codes "2") end) (dropping end) m9
move15 = RewritesBody.does (Rewrites.print (AreValues.cons AreValues.nil)
    (follow.asks tt refl (follow.asks tt (codes "2" ∷ [], (codes "2", [], refl, refl, refl), refl) follow.ends)))

last_part : Runs m7 main_url returned [] ended.Normal m9
last_part = Segment.goes _ move12 refl (Segment.goes _ RewritesBody.drops refl (Segment.goes _ move13 refl (Segment.goes _ move14 refl
    (Segment.goes _ move15 refl (Segment.goes _ RewritesBody.drops refl Segment.ends)))))

called_part : Runs m5 b_url (inside_bump bump_body) (active main_url waiting ∷ []) ended.Normal m9
called_part = Segment.goes _ move9 refl (Segment.goes _ move10 refl (Segment.goes _ move11 refl (Segment.returns last_part)))

first_part : Runs m1 main_url whole_main [] ended.Normal m9
first_part = Segment.goes _ move3 refl (Segment.goes _ move4 refl (Segment.goes _ move5 refl (Segment.goes _ RewritesBody.drops refl
    (Segment.goes _ move6 refl (Segment.goes _ move7 refl (Segment.goes _ move8 refl called_part))))))

abbrev w11 : World
w11 = with_state w10 (add_event (ends_event main_url) m9)

ran2 : CallsForBody w10 (Run main_url) (Ok Normal) w11
ran2 = CallsForBody.run (RunsBody.segment {mid = m1} {late = m9} {how = ended.Normal} refl first_part refl)

leaves2 : Leaves evaluation CallsForBody w10 main_url Ends w11
unfolding entries_of entries_with request_of with_text add_request requests_after imports_of all_imports exports_of all_exports locals_of indirects_of stars_of item_awaits stmt_awaits stmts_await init_awaits bindings_await import_named or_star_default statement_exports listed listed_by listed_by_wanted declared_names names_of
leaves2 = Leaves.runs refl refl (executes.ends ran2)

abbrev w12 : World
w12 = close evaluation w11 main_url (main_url ∷ [])

walk1 : Walks evaluation CallsForBody w6 main_url w7 Ends w12
unfolding entries_of entries_with request_of with_text add_request requests_after imports_of all_imports exports_of all_exports locals_of indirects_of stars_of item_awaits stmt_awaits stmts_await init_awaits bindings_await import_named or_star_default statement_exports listed listed_by listed_by_wanted declared_names names_of
walk1 = record {
  closed = [];
  closed_is = λ x. refl;
  marks = _;
  walk = (_, fresh refl (next (fresh refl all) all));
  leads = Marks.enters (Marks.enters (Marks.component leaves1 refl (Marks.passes {t = b_url} refl refl (Marks.component leaves2 refl Marks.done))));
}

abbrev w13 : World
w13 = settle_promise w12 1 (Fulfilled Undefined)

evaluates1 : EvaluatesLoad w5 0 (Ok 1) w13
evaluates1 = record { root = main_url; linked = b_url ∷ main_url ∷ []; links = link1; evaluates = EvaluatesRoot.walks refl refl walk1 }

abbrev w14 : World
w14 = with_reaction w13 1 EntryDone

abbrev w15 : World
w15 = with_promises w14 (record w14.promises { jobs = [] })

abbrev w16 : World
w16 = with_entry_state w15 Ended

jobs2 : Jobs w4 w16
jobs2 = Jobs.job (job 0 EntryLoaded) w5.promises (Fulfilled Undefined) refl refl refl (Reacts.entry_linked evaluates1)
    (Jobs.job (job 1 EntryDone) w15.promises (Fulfilled Undefined) refl refl refl Reacts.entry_ended (Jobs.none refl))

turn2 : Turn w2 b_url live_b.outcome w16
turn2 = turn_from fetched2 refl (Tasks.task refl answers2 jobs2 (Tasks.none refl))

abbrev the_names : List (List ℕ)
the_names = codes "x" ∷ codes "bump" ∷ []

main_tree : IsModuleTree main_items
unfolding exported_names exported_of module_names declared_of statement_exported name_list returns_outside awaits_inside stmt_returns stmts_return declared_names names_of stmts_await stmt_awaits init_awaits
main_tree = record {
  returns = refl;
  awaits = refl;
  exported = no_names refl;
  declared = some_names {ys = the_names} refl (utf8_x, (utf8_bump, tt));
}

b_tree : IsModuleTree b_items
unfolding exported_names exported_of module_names declared_of statement_exported name_list returns_outside awaits_inside stmt_returns stmts_return declared_names names_of stmts_await stmt_awaits init_awaits
b_tree = record {
  returns = refl;
  awaits = refl;
  exported = some_names {ys = the_names} refl (utf8_x, (utf8_bump, tt));
  declared = some_names {ys = the_names} refl (utf8_x, (utf8_bump, tt));
}

pub live_binding : LiveBinding
live_binding = record {
  world = w16;
  line = [];
  runs = (record { asked = refl; tree = main_tree }, w2, turn1, (record { asked = refl; tree = b_tree }, w16, turn2, refl));
  last_line = refl;
  shows = refl;
}
