use Rattle.std.proofs.Common.{subst}
use Rattle.std.specs.Prelude.{IfOk, [], false}
use Rattle.esm_machine.specs.Machine.{state_of}
use Rattle.esm_machine.specs.Represents.{Represents}
use Rattle.esm_examples.proofs.fetches.new_machine.Goals as goal

pub returns : goal.returns
returns c =
    subst (λ url. IfOk c.new-2.result (λ m. Represents c.args.map url false (state_of m) [])) c.in_ok-clone.ensures
    (subst (λ maps. IfOk c.new-2.result (λ m. Represents maps c.in_ok-clone.field-0 false (state_of m) [])) c.in_ok-map.ensures.ok c.new-2.ensures.represents)
