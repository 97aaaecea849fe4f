use Rattle.std.proofs.Common.{◌∙◌, ap, sym, subst, refl, inl, inr}
use Rattle.std.specs.Prelude.{Some, is_some}
use Rattle.esm_gen.specs.Summary.{summary_text}
use Rattle.esm_machine.specs.Machine.{state_of}
use Rattle.esm_machine.specs.Represents.{ending_of}
use Rattle.esm_run.specs.Summed.{line_count}
use Rattle.esm_run.specs.Written.{EndsWith, change_of}
use Rattle.esm_run.proofs.EndLemmas.{status_by}
use Rattle.esm_run.proofs.GeneratedLemmas.{summary_is}
use Rattle.esm_run.proofs.generated.write_summary.Goals as goal

pub finish-requires-clause-not_write_fault : goal.finish-requires-clause-not_write_fault
finish-requires-clause-not_write_fault g c = (status_by (ending_of (state_of c.args.machine.now)) c.in-Some.status (sym c.end.ensures.state ∙ c.in-Some.is)).1

pub finish-requires-clause-not_memory : goal.finish-requires-clause-not_memory
finish-requires-clause-not_memory g c = (status_by (ending_of (state_of c.args.machine.now)) c.in-Some.status (sym c.end.ensures.state ∙ c.in-Some.is)).2

pub returns-in-Err : goal.returns-in-Err
returns-in-Err g c = λ maps entry trace deliveries what represents run. inl (refl, (refl, refl))

pub returns-in-Ok : goal.returns-in-Ok
returns-in-Ok g c = λ maps entry trace deliveries what represents run.
    let sink = change_of g.K.Sink.written g.K.Sink.faults c.args.out.now c.finish.new.out in
    let is = sym (c.end.ensures.standard maps entry trace deliveries what represents run) ∙ c.in-Some.is in
    let ended = sym (c.end.ensures.ended maps entry trace deliveries what represents run) ∙ ap is_some c.in-Some.is in
    let starts = c.started-starts.ensures.standard maps entry trace deliveries what represents run in
    let lines = c.line_count-lines.ensures ∙ ap line_count (c.log.ensures.standard maps entry trace deliveries what represents run) in
    let text = c.as_bytes.ensures.value ∙ c.as_str.ensures.value ∙ c.in-Ok.ensures
    ∙ ap summary_text (summary_is _ c.args.count c.started-starts.result c.line_count-lines.result what c.in-Some.status c.from.ensures starts lines) in
    inr (ended, c.in-Some.status, is, subst (λ t. EndsWith (Some c.in-Some.status) t c.finish.result sink) text c.finish.ensures)
