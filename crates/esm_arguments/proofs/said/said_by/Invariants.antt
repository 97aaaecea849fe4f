use Rattle.std.proofs.Common.{◌≡◌, map, drop, string_bytes}
use Rattle.std.specs.Prelude.{Some}
use Rattle.esm_arguments.specs.Inner.Code.{said_of}
use Rattle.esm_arguments.specs.Said.{said_by, said_on}
use Rattle.esm_arguments.proofs.said.said_by.Given as goal

-- what is said so far leads, by the words that are left, to what all say
abbrev pub invariant-loop-word : goal.invariant-loop-word
invariant-loop-word l = said_on (Some (said_of l.said)) (map string_bytes (drop l.word-index l.words)) ≡ said_by (map string_bytes l.words)
