use Rattle.std.proofs.Common.{◌∙◌, ◌++◌, sym, subst, refl, inl, inr}
use Rattle.std.specs.Prelude.{Some}
use Rattle.esm_run.specs.Written.{EndsWith, change_of, written_text}
use Rattle.esm_run.proofs.ending.write_ending.Goals as goal

pub returns-in_default : goal.returns-in_default
returns-in_default g c = λ maps entry trace deliveries what represents run. inl (refl, (refl, refl))

pub returns : goal.returns
returns g c = λ maps entry trace deliveries what represents run.
    let is = c.in-Ok.ensures.what maps entry trace deliveries what represents run in
    let sink = change_of g.K.Sink.written g.K.Sink.faults c.args.out.now c.finish.new.out in
    inr (is.ended, subst (λ w. EndsWith w (c.args.front.items ++ written_text what) c.finish.result sink) (sym is.status) (subst (λ t. EndsWith (Some c.in-Ok.ending.status) t c.finish.result sink) (c.deref.ensures.value ∙ is.text) c.finish.ensures))
