-- Where there is no argument with a number, undefined stands for it.
use Rattle.std.proofs.Common.{◌≡◌, ℕ, ◌≤◌, List, length, drop, ap, sym}
use Rattle.std.proofs.Math.ListN.{drop_of_length-le}
use Rattle.esm_values.specs.Value.{Undefined}
use Rattle.esm_values.specs.Code.{values_of}
use Rattle.esm_values.specs.declared.value.Value.{Value}
use Rattle.esm_rewriting.specs.Scopes.{argument_of}

pub argument_missing : (values : List Value) (i : ℕ) → length values ≤ i → Undefined ≡ argument_of (values_of (drop i values))
argument_missing values i h = ap (λ (vs : List Value). argument_of (values_of vs)) (sym (drop_of_length-le values h))
