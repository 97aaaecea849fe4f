use Rattle.std.proofs.Common.{◌≡◌, false, [], refl, rules}
use Rattle.esm_loads.specs.Hosted.{host_of}
use Rattle.esm_machine.specs.ModuleStore.{seen_of}
use Rattle.esm_machine_tests.proofs.FreshStores.{none_left}
use Rattle.esm_machine_tests.proofs.store.answer_all.Goals as goal

pub returns-in-Ok-false-clause-answered : goal.returns-in-Ok-false-clause-answered
returns-in-Ok-false-clause-answered c =
    let off : c.in-Ok-false.field-0 ≡ false = search rules in
    none_left c.in-Ok-false.field-0 c.loop-round.store c.step.new.self
    (host_of (λ n. []) c.loop-round.promises c.loop-round.errors (seen_of c.loop-round.store).loading)
    (host_of (λ n. []) c.step.new.promises c.step.new.errors (seen_of c.step.new.self).loading)
    refl off (c.in-Ok-false.ensures.answers (λ n. [])) (λ e. (c.in-Ok-false.ensures.unchanged e).0)
