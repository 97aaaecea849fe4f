use Rattle.std.proofs.Common.{map, take}
use Rattle.esm_env.specs.NamePlaces.{ArePlaces}
use Rattle.esm_env.proofs.name_index.places_of.Given as goal

-- the names so far
abbrev pub invariant-loop-at : goal.invariant-loop-at
invariant-loop-at g l = ArePlaces l.places (map g.T.HasName.own_name (take l.at l.list))
