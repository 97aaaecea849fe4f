use Rattle.esm_env.specs.FunctionPlaces.{places_from}
use Rattle.esm_env.proofs.FunctionLemmas.{PlacesLeft}
use Rattle.esm_env.proofs.functions.function_places.Given as goal

abbrev pub invariant-loop-at : goal.invariant-loop-at
invariant-loop-at l = PlacesLeft l.tree.stmts l.items l.at l.places.items (places_from 0 l.tree.items)
