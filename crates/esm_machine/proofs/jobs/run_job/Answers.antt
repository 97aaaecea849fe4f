use Rattle.std.proofs.Common.{ℕ, Some, ap, subst, sym, ◌∙◌}
use Rattle.esm_promise.specs.Code.{reaction_of, settled_of}
use Rattle.esm_promise.specs.Promises.{Job, job}
use Rattle.esm_promise.specs.Reactions.{Reaction}
use Rattle.esm_machine.specs.Inner.Parts.{AreSound, parts_with_promises}
use Rattle.esm_machine.proofs.JobTaken.{is_settled, job_done, job_stopped, may_do, no_job, sound_behind}
use Rattle.esm_machine.proofs.jobs.run_job.Goals as goal

pub returns-in_default-clause-job : goal.returns-in_default-clause-job
returns-in_default-clause-job c = λ w live.
    let t = c.in_default.ensures in
    no_job c.args.parts.now (parts_with_promises c.args.parts.now c.pop.new.self) w live t.0 (ap (λ ps. parts_with_promises c.args.parts.now ps) t.1)

pub returns-in_default-clause-sound : goal.returns-in_default-clause-sound
returns-in_default-clause-sound c =
    let t = c.in_default.ensures in
    subst AreSound (sym (ap (λ ps. parts_with_promises c.args.parts.now ps) t.1)) c.requires.sound

pub unreachable-requires : goal.unreachable-requires
unreachable-requires c =
    let j : Job (Reaction ℕ) = job c.in-Some.promise.0 (reaction_of c.in-Some.reaction) in
    is_settled c.args.parts.now j c.pop.new.self c.in-Some.ensures c.requires.sound c.worlds_stay_sound.ensures.steps (sym c.in_default-settled.ensures)

pub react-requires : goal.react-requires
react-requires c =
    let j : Job (Reaction ℕ) = job c.in-Some.promise.0 (reaction_of c.in-Some.reaction) in
    record { may = may_do c.args.parts.now j c.pop.new.self c.in-Some.ensures (settled_of c.in-Ok.how) (sym c.in-Some-settled.ensures ∙ ap (λ h. Some h) (sym c.in-Ok.ensures)) c.requires.sound c.worlds_stay_sound.ensures.steps }

pub returns-in-Ok-react-clause-job : goal.returns-in-Ok-react-clause-job
returns-in-Ok-react-clause-job c =
    let j : Job (Reaction ℕ) = job c.in-Some.promise.0 (reaction_of c.in-Some.reaction) in
    job_done c.args.parts.now j c.pop.new.self c.in-Some.ensures (settled_of c.in-Ok.how) (sym c.in-Some-settled.ensures ∙ ap (λ h. Some h) (sym c.in-Ok.ensures)) c.react.new.parts c.in-Ok-react.ensures.job

pub returns-in-Ok-react-clause-sound : goal.returns-in-Ok-react-clause-sound
returns-in-Ok-react-clause-sound c =
    let j : Job (Reaction ℕ) = job c.in-Some.promise.0 (reaction_of c.in-Some.reaction) in
    sound_behind c.args.parts.now j c.pop.new.self c.in-Some.ensures (settled_of c.in-Ok.how) (sym c.in-Some-settled.ensures ∙ ap (λ h. Some h) (sym c.in-Ok.ensures)) c.react.new.parts c.requires.sound c.worlds_stay_sound.ensures.steps c.in-Ok-react.ensures.job c.in-Ok-react.ensures.order

pub returns-in-Err-clause-job : goal.returns-in-Err-clause-job
returns-in-Err-clause-job c =
    let j : Job (Reaction ℕ) = job c.in-Some.promise.0 (reaction_of c.in-Some.reaction) in
    job_stopped c.args.parts.now j c.pop.new.self c.in-Some.ensures (settled_of c.in-Ok.how) (sym c.in-Some-settled.ensures ∙ ap (λ h. Some h) (sym c.in-Ok.ensures)) c.react.new.parts c.in-Err.end c.in-Err.ensures.job
