use Rattle.std.proofs.Common.{subst}
use Rattle.std.specs.Prelude.{IfOk, []}
use Rattle.std.specs.Arc.{arc_value}
use Rattle.esm_import_map.specs.ImportMap.{Maps}
use Rattle.esm_machine.specs.Machine.{state_of}
use Rattle.esm_machine.specs.Represents.{Represents}
use Rattle.esm_run.proofs.lead.start.Goals as goal

pub returns : goal.returns
returns c =
    let own = subst (λ url. IfOk c.new.result (λ m. Represents (arc_value c.in_ok-map.map) url c.args.trace (state_of m) [])) c.in_ok-clone.ensures c.new.ensures.represents in
    subst (λ (maps : Maps). IfOk c.new.result (λ m. Represents maps c.args.entry.now c.args.trace (state_of m) [])) c.in_ok-map.ensures own
