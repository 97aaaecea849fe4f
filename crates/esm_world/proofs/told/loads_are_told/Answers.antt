use Rattle.esm_world.proofs.ToldWorld.{stays_told, stays_complete}
use Rattle.esm_world.proofs.told.loads_are_told.Goals as goal

pub returns-clause-told : goal.returns-clause-told
returns-clause-told c = stays_told

pub returns-clause-complete : goal.returns-clause-complete
returns-clause-complete c = stays_complete
