use Rattle.std.proofs.Common.{◌≡◌, Some, slice_get, slice_set, ap, ◌∙◌, arith}
use Rattle.esm_promise.specs.Promises as spec
use Rattle.esm_promise.specs.Code.{settled_of}
use Rattle.esm_promise.specs.Inner.Queue.{promises_of}
use Rattle.esm_promise.specs.declared.promises.Promise.TheVariants as kept
use Rattle.esm_promise.proofs.Queue as lemmas
use Rattle.esm_promise.proofs.promises.Promises.settle.Goals as goal
use Rattle.esm_promise.proofs.promises.Promises.settle.Goals.{in-Fulfilled+in-Text-1, in-Fulfilled+in-Undefined-1, in-Rejected+in-Text-1, in-Rejected+in-Undefined-1}

pub returns-in-Pending : goal.returns-in-Pending
returns-in-Pending c =
    let all = c.self.inside.all in
    let at : slice_get all.items c.args.id.0 ≡ Some (kept.Pending c.in-Pending.reactions) =
    lemmas.reads all.items c.len.result c.args.id.0 c.index_mut.result.now (omega (arith, all.ok.0)) (omega arith) c.index_mut.ensures.value
    ∙ ap Some (cc (c.replace.ensures.value, c.in-Pending.is)) in
    rw (← c.self.view_is, c.replace.ensures.after, c.add_jobs.ensures.items, c.deref.ensures.value)
    (lemmas.settles all.items c.self.inside.jobs.items c.args.id (kept.Pending c.in-Pending.reactions) c.args.with at)

pub returns-in-Done : goal.returns-in-Done
returns-in-Done c =
    let all = c.self.inside.all in
    let at : slice_get all.items c.args.id.0 ≡ Some (kept.Done c.in-Done._how) =
    lemmas.reads all.items c.len.result c.args.id.0 c.index_mut.result.now (omega (arith, all.ok.0)) (omega arith) c.index_mut.ensures.value
    ∙ ap Some (cc (c.replace.ensures.value, c.in-Done.is)) in
    let set : promises_of (slice_set all.items c.args.id.0 c.replace.new.dest) c.self.inside.jobs.items ≡ spec.settle c.args.self.now c.args.id.0 (settled_of c.args.with) =
    rw (← c.self.view_is, c.replace.ensures.after)
    (lemmas.settles_again all.items c.self.inside.jobs.items c.args.id (kept.Done c.in-Done._how) c.args.with at tt) in
    elim c.match-how.branch [
      | in-Fulfilled+in-Text-1 w ↦ w.self-is ∙ set
      | in-Fulfilled+in-Undefined-1 w ↦ w.self-is ∙ set
      | in-Rejected+in-Text-1 w ↦ w.self-is ∙ set
      | in-Rejected+in-Undefined-1 w ↦ w.self-is ∙ set
    ]

pub returns-else-at-len : goal.returns-else-at-len
returns-else-at-len c =
    let all = c.self.inside.all in
    rw (← c.self.view_is) (lemmas.settles_none all.items c.self.inside.jobs.items c.args.id c.args.with (omega (arith, all.ok.0, c.len.ensures)))
