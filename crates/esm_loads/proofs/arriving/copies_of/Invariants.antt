use Rattle.std.specs.Prelude.{◌≡◌, take}
use Rattle.esm_loads.proofs.arriving.copies_of.Given as goal

abbrev pub invariant-loop-text : goal.invariant-loop-text
invariant-loop-text l = l.copies.items ≡ take l.text-index l.texts
