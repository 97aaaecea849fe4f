use Rattle.std.proofs.Common.{◌≡◌, map}
use Rattle.std.specs.List.{range_with_len}
use Rattle.esm_gen.specs.Generated.{module_file}
use Rattle.esm_gen.specs.Held.{file_of}
use Rattle.esm_gen.proofs.modules.files.Given as goal

-- the files of the modules before this one
abbrev pub invariant-loop-number : goal.invariant-loop-number
invariant-loop-number l = map file_of l.files.items ≡ map (module_file l.start l.count) (range_with_len 0 l.number)
