use Rattle.std.proofs.Common.{◌≡◌, ℕ, List, map}
use Rattle.esm_eval.specs.Table.{AreKept, node_of}
use Rattle.esm_eval.proofs.passing.pass_waiters.Given as goal

-- nodes say the same, and are kept
abbrev pub invariant-loop-i : goal.invariant-loop-i
invariant-loop-i l = record {
  same : map node_of l.nodes.items ≡ map node_of l.fn.nodes.items;
  kept : (stamps : List ℕ) → AreKept l.fn.nodes.items stamps → AreKept l.nodes.items stamps;
}
