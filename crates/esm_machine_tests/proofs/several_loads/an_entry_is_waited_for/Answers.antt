-- The entry's URL is usable, and nothing is fetched yet.
use Rattle.std.specs.Prelude.{◌≡◌, is_some, None}
use mathlib.Core.Bool.{true≢false}
use Rattle.std.proofs.Common.{ap, sym, ◌∙◌}
use Rattle.esm_base.specs.Urls.{is_usable}
use Rattle.esm_import_map.specs.ImportMap.{no_maps}
use Rattle.esm_realm.proofs.PlainRecords.{main_usable}
use Rattle.esm_loads.specs.LoadsAsLoading.{loading_of}
use Rattle.esm_loads.specs.LoadsView.{place_in, urls_of}
use Rattle.esm_machine_tests.proofs.several_loads.an_entry_is_waited_for.Goals as goal

pub waits_for-requires-clause-nothing : goal.waits_for-requires-clause-nothing
waits_for-requires-clause-nothing c maps = ap (loading_of maps c.new-loads.result) c.new-realm.ensures.records ∙ c.new-loads.ensures.nothing maps

pub waits_for-requires-clause-usable : goal.waits_for-requires-clause-usable
waits_for-requires-clause-usable c = ap is_usable c.in_ok-url.ensures ∙ main_usable

pub waits_for-requires-clause-fetching : goal.waits_for-requires-clause-fetching
waits_for-requires-clause-fetching c k s at here =
    let none : place_in (urls_of c.new-loads.result.urls.slots) c.in_ok-url.url ≡ None
    = ap (λ l. place_in l.asked c.in_ok-url.url) (c.new-loads.ensures.nothing no_maps) in
    absurd (true≢false (sym (ap is_some at) ∙ ap is_some none))
