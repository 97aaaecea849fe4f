-- By the state of the URL.
use Rattle.std.proofs.Common.{ap, sym, ◌∙◌}
use Rattle.esm_loads.specs.LoadsView.{id_in}
use Rattle.esm_loads.proofs.FillFacts.{place_within, under_is, under_none}
use Rattle.esm_loads.proofs.filling.module_under.Goals as goal

pub state-requires : goal.state-requires
state-requires c = place_within c.args.urls.now.slots c.args.target.now c.in-Some.place (sym c.find_target.ensures ∙ c.in-Some.is)

pub returns-in-Open-clause-none : goal.returns-in-Open-clause-none
returns-in-Open-clause-none c none = under_is c.args.urls.now.slots c.args.target.now c.in-Some.place c.state.result (sym c.find_target.ensures ∙ c.in-Some.is) c.state.ensures ∙ ap id_in c.in-Open.is

pub returns-in-Failed-clause-none : goal.returns-in-Failed-clause-none
returns-in-Failed-clause-none c none = under_is c.args.urls.now.slots c.args.target.now c.in-Some.place c.state.result (sym c.find_target.ensures ∙ c.in-Some.is) c.state.ensures ∙ ap id_in c.in-Failed.is

pub returns-in-Broken-clause-none : goal.returns-in-Broken-clause-none
returns-in-Broken-clause-none c none = under_is c.args.urls.now.slots c.args.target.now c.in-Some.place c.state.result (sym c.find_target.ensures ∙ c.in-Some.is) c.state.ensures ∙ ap id_in c.in-Broken.is

pub returns-in-Module-clause-some : goal.returns-in-Module-clause-some
returns-in-Module-clause-some c = under_is c.args.urls.now.slots c.args.target.now c.in-Some.place c.state.result (sym c.find_target.ensures ∙ c.in-Some.is) c.state.ensures ∙ ap id_in c.in-Module.is

pub returns-in-None-clause-none : goal.returns-in-None-clause-none
returns-in-None-clause-none c none = under_none c.args.urls.now.slots c.args.target.now (sym c.find_target.ensures ∙ c.in-None.is)
