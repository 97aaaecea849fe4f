use Rattle.std.proofs.Common.{subst, ◌∙◌}
use Rattle.std.specs.Prelude.{Some}
use Rattle.esm_base.specs.declared.status.Status.TheVariants.{MapRefused}
use Rattle.esm_run.specs.Written.{EndsWith, change_of}
use Rattle.esm_run.proofs.top.show_refusal.Goals as goal

pub returns-in-Ok : goal.returns-in-Ok
returns-in-Ok g c =
    subst (λ text. EndsWith (Some MapRefused) text c.finish.result (change_of g.K.Sink.written g.K.Sink.faults c.args.out.now c.finish.new.out))
    (c.as_bytes.ensures.value ∙ c.as_str.ensures.value ∙ c.in-Ok.ensures) c.finish.ensures
