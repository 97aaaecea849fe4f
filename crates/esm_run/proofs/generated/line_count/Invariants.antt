use Rattle.std.proofs.Common.{◌≡◌, ◌≤◌, ◌+◌, drop}
use Rattle.esm_run.specs.Summed.{line_count}
use Rattle.esm_run.proofs.generated.line_count.Given as goal

-- so far, and those that are left
abbrev pub invariant-loop-byte : goal.invariant-loop-byte
invariant-loop-byte l = record {
  so : l.count + line_count (drop l.byte-index l.text) ≡ line_count l.text;
  small : l.count ≤ l.byte-index;
}
