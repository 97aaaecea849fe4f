use Rattle.std.proofs.Common.{subst}
use Rattle.std.specs.Prelude.{Err}
use Rattle.esm_machine.specs.Inner.Parts.{seen_in}
use Rattle.esm_machine.specs.Linking.{NamesRecords}
use Rattle.esm_machine.proofs.linking.refusal.Goals as goal

pub fault_error-requires : goal.fault_error-requires
fault_error-requires c = record { ids = subst (λ e. NamesRecords (seen_in c.args.parts.now) (Err e)) c.in-Fault.is c.requires }
