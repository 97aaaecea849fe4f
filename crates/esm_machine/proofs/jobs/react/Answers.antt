use Rattle.std.proofs.Common.{◌<◌, ◌^◌, arith, subst, sym}
use Rattle.std.specs.Prelude.{Ok}
use Rattle.esm_promise.specs.Code.{reaction_by, settled_of}
use Rattle.esm_promise.specs.Subjects.{subjects}
use Rattle.esm_machine.specs.Inner.Leads.{DoesJob}
use Rattle.esm_machine.specs.Inner.Parts.{MayDo}
use Rattle.esm_machine.proofs.jobs.react.Goals as goal

pub entry_loaded-requires : goal.entry_loaded-requires
entry_loaded-requires c = record { may = subst (λ k. MayDo c.args.parts.now (reaction_by k c.args.reaction.subject) (settled_of c.args.how)) c.in-EntryLoaded.is c.requires.may }

pub returns-in-EntryLoaded-clause-job : goal.returns-in-EntryLoaded-clause-job
returns-in-EntryLoaded-clause-job c = subst (λ k. DoesJob c.args.parts.now (reaction_by k c.args.reaction.subject) (settled_of c.args.how) c.entry_loaded.result c.entry_loaded.new.parts) (sym c.in-EntryLoaded.is) c.entry_loaded.ensures.job

pub entry_done-requires : goal.entry_done-requires
entry_done-requires c = record { may = subst (λ k. MayDo c.args.parts.now (reaction_by k c.args.reaction.subject) (settled_of c.args.how)) c.in-EntryDone.is c.requires.may }

pub returns-in-EntryDone-clause-job : goal.returns-in-EntryDone-clause-job
returns-in-EntryDone-clause-job c = subst (λ k. DoesJob c.args.parts.now (reaction_by k c.args.reaction.subject) (settled_of c.args.how) (Ok tt) c.entry_done.new.parts) (sym c.in-EntryDone.is) c.entry_done.ensures.job

pub loaded-requires : goal.loaded-requires
loaded-requires c = record { may = subst (λ k. MayDo c.args.parts.now (reaction_by k c.args.reaction.subject) (settled_of c.args.how)) c.in-Loaded.is c.requires.may }

pub returns-in-Loaded-clause-job : goal.returns-in-Loaded-clause-job
returns-in-Loaded-clause-job c = subst (λ k. DoesJob c.args.parts.now (reaction_by k c.args.reaction.subject) (settled_of c.args.how) c.loaded.result c.loaded.new.parts) (sym c.in-Loaded.is) c.loaded.ensures.job

pub evaluated-requires : goal.evaluated-requires
evaluated-requires c = record { may = subst (λ k. MayDo c.args.parts.now (reaction_by k c.args.reaction.subject) (settled_of c.args.how)) c.in-Evaluated.is c.requires.may }

pub returns-in-Evaluated-clause-job : goal.returns-in-Evaluated-clause-job
returns-in-Evaluated-clause-job c = subst (λ k. DoesJob c.args.parts.now (reaction_by k c.args.reaction.subject) (settled_of c.args.how) (Ok tt) c.evaluated.new.parts) (sym c.in-Evaluated.is) c.evaluated.ensures.job

pub overflow_cast-id : goal.overflow_cast-id
overflow_cast-id c = let few : c.args.reaction.subject < 2 ^ 32 = subst (λ k. c.args.reaction.subject < subjects k) c.in-BodyEnd.is c.args.reaction.fits in omega (arith, few)

pub body_ended-requires : goal.body_ended-requires
body_ended-requires c = record { may = subst (λ k. MayDo c.args.parts.now (reaction_by k c.args.reaction.subject) (settled_of c.args.how)) c.in-BodyEnd.is c.requires.may }

pub returns-in-BodyEnd-clause-job : goal.returns-in-BodyEnd-clause-job
returns-in-BodyEnd-clause-job c = subst (λ k. DoesJob c.args.parts.now (reaction_by k c.args.reaction.subject) (settled_of c.args.how) c.body_ended.result c.body_ended.new.parts) (sym c.in-BodyEnd.is) c.body_ended.ensures.job

pub overflow_cast-id-in-Await : goal.overflow_cast-id-in-Await
overflow_cast-id-in-Await c = let few : c.args.reaction.subject < 2 ^ 32 = subst (λ k. c.args.reaction.subject < subjects k) c.in-Await.is c.args.reaction.fits in omega (arith, few)

pub go_on-requires : goal.go_on-requires
go_on-requires c = record { may = subst (λ k. MayDo c.args.parts.now (reaction_by k c.args.reaction.subject) (settled_of c.args.how)) c.in-Await.is c.requires.may }

pub returns-in-Await-clause-job : goal.returns-in-Await-clause-job
returns-in-Await-clause-job c = subst (λ k. DoesJob c.args.parts.now (reaction_by k c.args.reaction.subject) (settled_of c.args.how) c.go_on.result c.go_on.new.parts) (sym c.in-Await.is) c.go_on.ensures.job
