-- The example of an entry that isn't there, step by step.
use Rattle.std.proofs.Common.{◌≡◌, ℕ, false, List, [], ◌∷◌, Some, refl}
use Rattle.std.specs.Prelude.{codes}
use Rattle.esm_ast.specs.Outcome.{Absent}
use Rattle.esm_import_map.specs.ImportMap.{no_maps}
use Rattle.esm_values.specs.Value.{Error}
use Rattle.esm_promise.specs.Promises.{Rejected, job, settle}
use Rattle.esm_promise.specs.Reactions.{EntryLoaded}
use Rattle.esm_loads.specs.UrlTable.{Failed as failed_entry, New, fetch_error, put_at}
use Rattle.esm_loads.specs.Loading.{Thrown as thrown_load, Root}
use Rattle.esm_loads.specs.Load.{Answers}
use Rattle.esm_loads.specs.Host.{Host, Answered}
use Rattle.esm_loads.specs.Arrival.{AnswersNext}
use Rattle.esm_world.specs.World.{World, Failed, opening, with_host, host_of}
use Rattle.esm_world.specs.Layers.{with_promises}
use Rattle.esm_world.specs.Jobs.{Jobs, Reacts, with_entry_state}
use Rattle.esm_world.specs.Turn.{Tasks, Turn, fetched}
use Rattle.esm_world.specs.Examples.{main_url}
use Rattle.esm_loads.specs.LoadsView.{every_form}
use Rattle.esm_world.specs.FailingRuns.{EntryAbsent}
use Rattle.esm_world.proofs.runs.Steps.{turn_from}

abbrev w0 : World
w0 = opening no_maps every_form main_url false

abbrev w1 : World
w1 = record w0 { loading = record w0.loading { entries = put_at w0.loading.entries main_url (Some failed_entry) } }

fetched1 : fetched w0 main_url Absent ≡ w1
fetched1 = refl

abbrev h1 : Host
h1 = record {
  promises = settle w0.promises 0 (Rejected (Error 0));
  errors = fetch_error main_url ∷ [];
  imports = record w1.loading {
    pending = put_at w1.loading.pending main_url [];
    loads = thrown_load (New (fetch_error main_url)) ∷ [];
  };
}

answers1 : AnswersNext (host_of w1) h1
answers1 = record {
  who = record { url = main_url; pending_request = Root 0; entry = failed_entry; others = [] };
  is_next = refl;
  answered = Answered.answered (Answers.no_root (New (fetch_error main_url)) refl);
}

abbrev w2 : World
w2 = with_host w1 h1

abbrev w3 : World
w3 = with_promises w2 (record w2.promises { jobs = [] })

abbrev w4 : World
w4 = with_entry_state w3 (Failed (Error 0))

jobs1 : Jobs w2 w4
jobs1 = Jobs.job (job 0 EntryLoaded) w3.promises (Rejected (Error 0)) refl refl refl Reacts.entry_refused (Jobs.none refl)

turn1 : Turn w0 main_url Absent w4
turn1 = turn_from fetched1 refl (Tasks.task refl answers1 jobs1 (Tasks.none refl))

abbrev error_text : List ℕ
error_text = codes "TypeError: cannot fetch a:/m"

pub entry_absent : EntryAbsent
entry_absent = record {
  world = w4;
  line = codes "Uncaught TypeError: cannot fetch a:/m";
  runs = (record { asked = refl; tree = tt }, w4, turn1, refl);
  last_line = (error_text, refl, refl);
  shows = refl;
}
