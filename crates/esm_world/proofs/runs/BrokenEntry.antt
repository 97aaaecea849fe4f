-- The examples of entries that are broken, step by step: by a request that names no URL, and by a text that is no module text.
use Rattle.std.proofs.Common.{◌≡◌, ℕ, false, List, [], ◌∷◌, Some, refl}
use Rattle.std.specs.Prelude.{codes}
use Rattle.url.proofs.OnLiterals.{url_on_literals}
use Rattle.esm_base.specs.declared.fault.TextFault.TheVariants.{P2}
use Rattle.esm_tree.specs.Syntax as x
use Rattle.esm_tree.specs.Syntax.{Item}
use Rattle.esm_grammar.specs.EarlyErrors.{exported_names, exported_of, module_names, declared_of, statement_exported, name_list}
use Rattle.esm_grammar.specs.Names.{declared_names}
use Rattle.esm_ast.specs.Entries.{request_of, with_text, add_request, requests_after}
use Rattle.esm_ast.specs.ModuleTree.{IsModuleTree, returns_outside, awaits_inside, stmt_returns, stmts_return}
use Rattle.esm_ast.specs.Outcome.{OutcomeView}
use Rattle.esm_import_map.specs.ImportMap.{no_maps}
use Rattle.esm_specifier.specs.declared.fault.SpecFault.TheVariants.{S4}
use Rattle.esm_values.specs.Value.{Error}
use Rattle.esm_values.specs.declared.errors.Fault.{Fault}
use Rattle.esm_promise.specs.Promises.{Rejected, job, settle}
use Rattle.esm_promise.specs.Reactions.{EntryLoaded}
use Rattle.esm_loads.specs.UrlTable.{Broken as broken_entry, Kept, parse_error, specifier_error, put_at}
use Rattle.esm_loads.specs.Loading.{Thrown as thrown_load, Root}
use Rattle.esm_loads.specs.Load.{Answers}
use Rattle.esm_loads.specs.LoadsView.{every_form}
use Rattle.esm_loads.specs.Host.{Host, Answered}
use Rattle.esm_loads.specs.Arrival.{AnswersNext}
use Rattle.esm_world.specs.World.{World, Failed, opening, with_host, host_of}
use Rattle.esm_world.specs.Layers.{with_promises}
use Rattle.esm_world.specs.Jobs.{Jobs, Reacts, with_entry_state}
use Rattle.esm_world.specs.Turn.{Tasks, Turn, fetched}
use Rattle.esm_world.specs.Examples.{main_url}
use Rattle.esm_world.specs.FailingRuns.{bare_main, two_texts, BareSpecifier, NoModuleText}
use Rattle.esm_world.proofs.runs.Steps.{turn_from, no_names}

abbrev w0 : World
w0 = opening no_maps every_form main_url false

-- ---- so many bytes have brought this fault

-- an error is made of it, which the entry keeps
abbrev w1 : ℕ → Fault → World
w1 bytes f = record w0 {
  loading = record w0.loading { entries = put_at w0.loading.entries main_url (Some (broken_entry 0)); bytes = bytes };
  errors = f ∷ [];
}

abbrev h1 : ℕ → Fault → Host
h1 bytes f = record {
  promises = settle w0.promises 0 (Rejected (Error 0));
  errors = f ∷ [];
  imports = record (w1 bytes f).loading {
    pending = put_at (w1 bytes f).loading.pending main_url [];
    loads = thrown_load (Kept 0) ∷ [];
  };
}

answers1 : (bytes : ℕ) (f : Fault) → AnswersNext (host_of (w1 bytes f)) (h1 bytes f)
answers1 bytes f = record {
  who = record { url = main_url; pending_request = Root 0; entry = broken_entry 0; others = [] };
  is_next = refl;
  answered = Answered.answered (Answers.no_root (Kept 0) refl);
}

abbrev w2 : ℕ → Fault → World
w2 bytes f = with_host (w1 bytes f) (h1 bytes f)

abbrev w3 : ℕ → Fault → World
w3 bytes f = with_promises (w2 bytes f) (record (w2 bytes f).promises { jobs = [] })

abbrev w4 : ℕ → Fault → World
w4 bytes f = with_entry_state (w3 bytes f) (Failed (Error 0))

jobs1 : (bytes : ℕ) (f : Fault) → Jobs (w2 bytes f) (w4 bytes f)
jobs1 bytes f = Jobs.job (job 0 EntryLoaded) (w3 bytes f).promises (Rejected (Error 0)) refl refl refl Reacts.entry_refused (Jobs.none refl)

turn1 : (bytes : ℕ) (f : Fault) (c : OutcomeView) → fetched w0 main_url c ≡ w1 bytes f → Turn w0 main_url c (w4 bytes f)
turn1 bytes f c e = turn_from e refl (Tasks.task refl (answers1 bytes f) (jobs1 bytes f) (Tasks.none refl))

-- ---- a request that names no URL

abbrev items : List Item
items = x.ImportEffect (codes "./b") ∷ x.ImportEffect (codes "react") ∷ []

abbrev bare : Fault
bare = specifier_error main_url (codes "react") S4

bare_fetched : fetched w0 main_url bare_main.outcome ≡ w1 29 bare
unfolding url_on_literals requests_after add_request request_of with_text
bare_fetched = refl

tree1 : IsModuleTree items
unfolding exported_names exported_of module_names declared_of statement_exported name_list returns_outside awaits_inside stmt_returns stmts_return declared_names
tree1 = record { returns = refl; awaits = refl; exported = no_names refl; declared = no_names refl }

abbrev bare_text : List ℕ
bare_text = codes "TypeError: a:/m: specifier react: S4 bare and not mapped"

pub bare_specifier : BareSpecifier
bare_specifier = record {
  world = w4 29 bare;
  line = codes "Uncaught TypeError: a:/m: specifier react: S4 bare and not mapped";
  runs = (record { asked = refl; tree = tree1 }, w4 29 bare, turn1 29 bare bare_main.outcome bare_fetched, refl);
  last_line = (bare_text, refl, refl);
  shows = refl;
}

-- ---- a text that is no module text

abbrev no_text : Fault
no_text = parse_error main_url P2

no_text_fetched : fetched w0 main_url two_texts.outcome ≡ w1 14 no_text
no_text_fetched = refl

abbrev fault_line : List ℕ
fault_line = codes "SyntaxError: a:/m: P2 no module text"

pub no_module_text : NoModuleText
no_module_text = record {
  world = w4 14 no_text;
  line = codes "Uncaught SyntaxError: a:/m: P2 no module text";
  runs = (record { asked = refl; tree = tt }, w4 14 no_text, turn1 14 no_text two_texts.outcome no_text_fetched, refl);
  last_line = (fault_line, refl, refl);
  shows = refl;
}
