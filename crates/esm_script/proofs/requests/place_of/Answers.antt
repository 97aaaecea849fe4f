use Rattle.std.proofs.Common.{sym, ◌∙◌}
use Rattle.esm_script.proofs.Items.{place_found, place_missing}
use Rattle.esm_script.proofs.requests.place_of.Goals as goal

pub returns-in-Some : goal.returns-in-Some
returns-in-Some c = place_found _ c.args.requests.now c.in-Some.place (sym c.find.ensures ∙ c.in-Some.is)

pub returns-in-None : goal.returns-in-None
returns-in-None c = c.len.ensures ∙ place_missing _ c.args.requests.now (sym c.find.ensures ∙ c.in-None.is)
