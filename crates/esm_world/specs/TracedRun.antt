-- A worked example of trace lines.
use Rattle.std.specs.Prelude.{true, [], ◌∷◌, ◌++◌, codes}
use Rattle.esm_base.specs.declared.status.Status.TheVariants as statuses
use Rattle.esm_base.specs.Urls.{Text}
use Rattle.esm_import_map.specs.ImportMap.{no_maps}
use Rattle.esm_rewriting.specs.State.{Begins, Ends}
use Rattle.esm_world.specs.Run.{StandardRun}
use Rattle.esm_world.specs.Examples.{main_url, b_url, cycle_main, printing_b, ended, line}
use Rattle.esm_loads.specs.LoadsView.{every_form}

-- what the entry of the cycle prints, where the other module only prints: each body stands between its two lines
abbrev pub traced_log : Text
traced_log = line (codes "# start a:/b") ++ line (codes "b") ++ line (codes "# end a:/b")
    ++ line (codes "# start a:/m") ++ line (codes "m") ++ line (codes "# end a:/m")

-- the lines stand in the log, and the events are those of a run without them
abbrev pub TraceLines : Type 0
TraceLines = StandardRun no_maps every_form main_url true (cycle_main ∷ printing_b ∷ []) (ended statuses.Fulfilled (main_url ∷ b_url ∷ [])
    traced_log [] (Begins b_url ∷ Ends b_url ∷ Begins main_url ∷ Ends main_url ∷ []))
