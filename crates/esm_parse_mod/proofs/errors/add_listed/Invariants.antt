use Rattle.std.proofs.Common.{◌≡◌, ◌++◌, drop, map}
use Rattle.esm_parse_mod.specs.Inner.Names.{texts}
use Rattle.esm_parse_mod.proofs.errors.add_listed.Given as goal

abbrev pub invariant-loop-specifier : goal.invariant-loop-specifier
invariant-loop-specifier l = texts l.fn.names.items ++ map (λ e. e.exported) l.specifiers ≡ texts l.names.items ++ map (λ e. e.exported) (drop l.specifier-index l.specifiers)
