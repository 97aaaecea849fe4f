-- The modules before have their places.
use Rattle.std.proofs.Common.{take}
use Rattle.esm_eval.specs.Inner.Stack.{HavePlaces}
use Rattle.esm_eval.proofs.stack.places_of.Given as goal

abbrev pub invariant-loop-i : goal.invariant-loop-i
invariant-loop-i l = HavePlaces (take l.i l.opened) l.places.items
