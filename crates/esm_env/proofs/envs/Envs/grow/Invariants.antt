use Rattle.std.proofs.Common.{◌≡◌, ◌≤◌, ℕ}
use Rattle.std.specs.Prelude.{vec_len}
use Rattle.esm_env.specs.Scopes.{scope_in}
use Rattle.esm_env.proofs.envs.Envs.grow.Given as goal

abbrev pub invariant-loop-next : goal.invariant-loop-next
invariant-loop-next l = record {
  long : l.next ≤ vec_len l.self.scopes;
  same : (n : ℕ) → scope_in l.self.scopes.items n ≡ scope_in l.fn.self.scopes.items n;
}
