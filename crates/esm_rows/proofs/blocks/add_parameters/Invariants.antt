use Rattle.std.proofs.Common.{◌≡◌, ◌++◌, drop}
use Rattle.std.specs.Prelude.{map}
use Rattle.esm_rows.specs.Rows.{parameter}
use Rattle.esm_rows.specs.Locals.{declared}
use Rattle.esm_rows.proofs.blocks.add_parameters.Given as goal

-- what is there and what is left are the whole
abbrev pub invariant-loop-name : goal.invariant-loop-name
invariant-loop-name l = declared l.names.items ++ map parameter (drop l.name-index l.parameters) ≡ declared l.fn.names.items ++ map parameter l.fn.parameters
