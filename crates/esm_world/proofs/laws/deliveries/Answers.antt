use Rattle.esm_world.proofs.Deliveries.{delivered_once, delivered_was_asked, few_deliveries, delivered_all}
use Rattle.esm_world.proofs.laws.deliveries.Goals as goal

pub returns : goal.returns
returns c = record {
  once = λ maps built entry trace ds what p. delivered_once maps built entry trace ds what p;
  asked = λ maps built entry trace ds what u p h. delivered_was_asked maps built entry trace ds what p u h;
  few = λ maps built entry trace ds what u p h. few_deliveries maps built entry trace ds what p u h;
  all = λ maps built entry trace ds what u p n h. delivered_all maps built entry trace ds what p u n h;
}
