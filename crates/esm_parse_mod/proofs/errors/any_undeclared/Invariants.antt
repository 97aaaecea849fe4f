use Rattle.std.proofs.Common.{◌≡◌, drop}
use Rattle.std.specs.List.{list_any}
use Rattle.esm_parse_mod.specs.Inner.Names.{is_unlisted, held}
use Rattle.esm_parse_mod.proofs.errors.any_undeclared.Given as goal

abbrev pub invariant-loop-specifier : goal.invariant-loop-specifier
invariant-loop-specifier l = list_any (is_unlisted (held l.declared)) l.specifiers ≡ list_any (is_unlisted (held l.declared)) (drop l.specifier-index l.specifiers)
