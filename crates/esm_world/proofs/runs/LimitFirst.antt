-- The example of a limit behind an entry that failed, step by step.
use Rattle.std.proofs.Common.{◌≡◌, ℕ, ◌+◌, Bool, true, false, List, [], ◌∷◌, length, Some, arith, refl, ap, subst}
use Rattle.std.specs.Prelude.{codes, nat_lt, ◌<◌}
use Rattle.url.proofs.OnLiterals.{url_on_literals}
use Rattle.esm_base.specs.declared.limits.Limit.TheVariants.{L2}
use Rattle.esm_base.specs.declared.limits.TheConstants.{MAX_DELIVERED_BYTES}
use Rattle.esm_tree.specs.Syntax as x
use Rattle.esm_tree.specs.Syntax.{Item}
use Rattle.esm_grammar.specs.EarlyErrors.{exported_names, exported_of, module_names, declared_of, statement_exported, name_list}
use Rattle.esm_grammar.specs.Names.{declared_names}
use Rattle.esm_ast.specs.Entries.{request_of, with_text, add_request, requests_after}
use Rattle.esm_ast.specs.ModuleTree.{IsModuleTree, returns_outside, awaits_inside, stmt_returns, stmts_return}
use Rattle.esm_ast.specs.Outcome.{Absent}
use Rattle.esm_import_map.specs.ImportMap.{no_maps}
use Rattle.esm_values.specs.Value.{Error}
use Rattle.esm_promise.specs.Promises.{Rejected, job, settle}
use Rattle.esm_promise.specs.Reactions.{EntryLoaded}
use Rattle.esm_loads.specs.UrlTable.{Failed as failed_entry, New, fetch_error, no_urls, with_url, put_at}
use Rattle.esm_loads.specs.Loading.{Thrown as thrown_load, Root, Request, Open}
use Rattle.esm_loads.specs.Load.{Enters, Asks, Answers}
use Rattle.esm_loads.specs.Host.{Host, Answered, with_loading}
use Rattle.esm_loads.specs.Arrival.{AnswersNext, count_by, store}
use Rattle.esm_world.specs.World.{World, Failed, opening, with_host, host_of}
use Rattle.esm_world.specs.Layers.{with_promises}
use Rattle.esm_world.specs.Jobs.{Jobs, Reacts, with_entry_state}
use Rattle.esm_world.specs.Turn.{Tasks, Turn, fetched}
use Rattle.esm_world.specs.Examples.{main_url, b_url}
use Rattle.esm_loads.specs.LoadsView.{every_form}
use Rattle.esm_world.specs.FailingRuns.{c_url, two_imports, too_long, LimitFirst}
use Rattle.esm_world.proofs.runs.Steps.{entry_of, arrived, turn_from, no_names}

abbrev items : List Item
items = x.ImportEffect (codes "./b") ∷ x.ImportEffect (codes "./c") ∷ []

-- ---- the first turn: both URLs are asked for

abbrev w0 : World
w0 = opening no_maps every_form main_url false

abbrev w1 : World
w1 = arrived w0 main_url 27 (entry_of items (b_url ∷ c_url ∷ []))

fetched1 : fetched w0 main_url two_imports.outcome ≡ w1
unfolding url_on_literals requests_after add_request request_of with_text
fetched1 = refl

abbrev h1 : Host
h1 = record {
  promises = w0.promises;
  errors = [];
  imports = record w1.loading {
    asked = main_url ∷ b_url ∷ c_url ∷ [];
    pending = put_at (put_at (put_at w1.loading.pending main_url []) b_url (Request 0 main_url 0 ∷ [])) c_url (Request 0 main_url 1 ∷ []);
    loads = Open main_url (with_url no_urls main_url) ∷ [];
  };
}

answers1 : AnswersNext (host_of w1) h1
answers1 = record {
  who = record { url = main_url; pending_request = Root 0; entry = entry_of items (b_url ∷ c_url ∷ []); others = [] };
  is_next = refl;
  answered = Answered.answered (Answers.root refl (Enters.enters (main_url, no_urls) refl refl
      (Asks.waits (main_url, with_url no_urls main_url) refl refl
      (Asks.waits (main_url, with_url no_urls main_url) refl refl Asks.no_more))));
}

abbrev w2 : World
w2 = with_host w1 h1

turn1 : Turn w0 main_url two_imports.outcome w2
turn1 = turn_from fetched1 refl (Tasks.task refl answers1 (Jobs.none refl) (Tasks.none refl))

-- ---- the second turn: the load ends by a throw, and the entry fails

abbrev w3 : World
w3 = record w2 { loading = record w2.loading { entries = put_at w2.loading.entries b_url (Some failed_entry) } }

fetched2 : fetched w2 b_url Absent ≡ w3
fetched2 = refl

abbrev h3 : Host
h3 = record {
  promises = settle w2.promises 0 (Rejected (Error 0));
  errors = fetch_error b_url ∷ [];
  imports = record w3.loading {
    pending = put_at w3.loading.pending b_url [];
    loads = thrown_load (New (fetch_error b_url)) ∷ [];
  };
}

answers2 : AnswersNext (host_of w3) h3
answers2 = record {
  who = record { url = b_url; pending_request = Request 0 main_url 0; entry = failed_entry; others = [] };
  is_next = refl;
  answered = Answered.answered (Answers.no_module (main_url, with_url no_urls main_url) (New (fetch_error b_url)) refl refl);
}

abbrev w4 : World
w4 = with_host w3 h3

abbrev w5 : World
w5 = with_promises w4 (record w4.promises { jobs = [] })

abbrev w6 : World
w6 = with_entry_state w5 (Failed (Error 0))

jobs2 : Jobs w4 w6
jobs2 = Jobs.job (job 0 EntryLoaded) w5.promises (Rejected (Error 0)) refl refl refl Reacts.entry_refused (Jobs.none refl)

turn2 : Turn w2 b_url Absent w6
turn2 = turn_from fetched2 refl (Tasks.task refl answers2 jobs2 (Tasks.none refl))

-- ---- the third turn: the bytes pass their limit

lt_true : (a b : ℕ) → a < b → nat_lt a b ≡ true
lt_true a b h = grind arith

passes : (n : ℕ) → MAX_DELIVERED_BYTES < n → nat_lt MAX_DELIVERED_BYTES (27 + n) ≡ true
passes n more = lt_true MAX_DELIVERED_BYTES (27 + n) (omega (arith, more))

abbrev counted_by : List ℕ → Bool → World
counted_by bytes b = with_host w6 (store (with_loading (host_of w6) (count_by b w6.loading (length bytes))) c_url (too_long bytes).outcome)

fetched3 : (bytes : List ℕ) → MAX_DELIVERED_BYTES < length bytes → fetched w6 c_url (too_long bytes).outcome ≡ counted_by bytes true
fetched3 bytes more = ap (counted_by bytes) (passes (length bytes) more)

turn3 : (bytes : List ℕ) → MAX_DELIVERED_BYTES < length bytes → Turn w6 c_url (too_long bytes).outcome (counted_by bytes true)
turn3 bytes more = subst (λ after. Turn w6 c_url (too_long bytes).outcome after) (fetched3 bytes more)
    (Turn.limit L2 (ap (λ (w : World). w.loading.stopped) (fetched3 bytes more)))

tree1 : IsModuleTree items
unfolding exported_names exported_of module_names declared_of statement_exported name_list returns_outside awaits_inside stmt_returns stmts_return declared_names
tree1 = record { returns = refl; awaits = refl; exported = no_names refl; declared = no_names refl }

pub limit_first : LimitFirst
limit_first bytes more = record {
  world = counted_by bytes true;
  line = codes "Limit L2";
  runs = (
    record { asked = refl; tree = tree1 },
    w2,
    turn1,
    (
      record { asked = refl; tree = tt },
      w6,
      turn2,
      (record { asked = refl; tree = tt }, counted_by bytes true, turn3 bytes more, refl),
    ),
  );
  last_line = refl;
  shows = refl;
}
