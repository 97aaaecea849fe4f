use Rattle.std.proofs.Common.{true}
use Rattle.esm_specifier.specs.Resolution.{reaches}
use Rattle.esm_specifier.proofs.Keys.Longest.{NoneLonger, passes}
use Rattle.esm_specifier.proofs.lookup.find_prefix.Given as goal

abbrev pub invariant-loop-place : goal.invariant-loop-place
invariant-loop-place l = NoneLonger (passes l.map (reaches true l.normal)) l.place
