use Rattle.std.proofs.Common.{◌≡◌, ◌++◌, drop, map}
use Rattle.esm_parse_mod.specs.Inner.Names.{texts}
use Rattle.esm_parse_mod.proofs.errors.add_locals.Given as goal

abbrev pub invariant-loop-binding : goal.invariant-loop-binding
invariant-loop-binding l = texts l.fn.names.items ++ map (λ b. b.local) l.bindings ≡ texts l.names.items ++ map (λ b. b.local) (drop l.binding-index l.bindings)
