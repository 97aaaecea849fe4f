use Rattle.std.proofs.Common.{◌≡◌, ℕ, List, length}
use Rattle.std.specs.Option.{option_or}
use Rattle.std.specs.Vec.Iter.{into_iter_items, into_iter_len}
use Rattle.esm_ports.specs.Files.{contents_of, held_at}
use Rattle.esm_ports.proofs.held_files.by_url.Given as goal

abbrev pub invariant-loop-file : goal.invariant-loop-file
invariant-loop-file l = (into_iter_len l.file-iterator ≡ length (into_iter_items l.file-iterator)) × ((url : List ℕ) → option_or (held_at l.held url) (contents_of (into_iter_items l.file-iterator) url) ≡ contents_of l.fn.files.items url)
