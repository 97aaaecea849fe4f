use Rattle.std.proofs.Common.{◌≡◌, ◌++◌, length}
use Rattle.std.specs.Vec.Iter.{into_iter_items, into_iter_len}
use Rattle.esm_tree.proofs.fit.tight.Given as goal

abbrev pub invariant-loop-element : goal.invariant-loop-element
invariant-loop-element g l = (into_iter_len l.element-iterator ≡ length (into_iter_items l.element-iterator)) × (l.exact.items ++ into_iter_items l.element-iterator ≡ l.fn.list.items)
