use Rattle.std.proofs.Common.{◌≡◌, Some, slice_get, ap, arith}
use Rattle.esm_promise.specs.Inner.Queue.{HasAdded, IsDone, promise_of}
use Rattle.esm_promise.proofs.Queue as lemmas
use Rattle.esm_promise.proofs.promises.Promises.then.Goals as goal
use Rattle.esm_promise.proofs.promises.Promises.then.Goals.{then-added, else-added}

pub returns-in-Err-clause-err : goal.returns-in-Err-clause-err
returns-in-Err-clause-err c =
    let all = c.self.inside.all in
    let at : slice_get all.items c.args.on.0 ≡ Some c.index_mut.result.now =
    lemmas.reads all.items c.len.result c.args.on.0 c.index_mut.result.now (omega (arith, all.ok.0)) (omega arith) c.index_mut.ensures.value in
    rw (← c.self.view_is, c.reserve.ensures.items)
    (lemmas.stays all.items c.self.inside.jobs.items c.args.on.0 c.index_mut.result.now c.add_reaction.new.promise at c.in-Err.ensures)

pub invariant_of-self-2 : goal.invariant_of-self-2
invariant_of-self-2 c =
    let all = c.self.inside.all in
    let at : slice_get all.items c.args.on.0 ≡ Some c.index_mut.result.now =
    lemmas.reads all.items c.len.result c.args.on.0 c.index_mut.result.now (omega (arith, all.ok.0)) (omega arith) c.index_mut.ensures.value in
    let sum = lemmas.sum_there all.items c.args.on.0 c.index_mut.result.now c.add_reaction.new.promise at in
    elim c.if-added.branch [
      | then-added w ↦
          let more : HasAdded c.index_mut.result.now c.args.reaction c.add_reaction.new.promise = rw w.if-added.true at c.in-Ok.ensures in
          let one = lemmas.waits_more c.index_mut.result.now c.add_reaction.new.promise c.args.reaction more in
          rw w.self-inside-is (omega (arith, c.self.invariant.0), omega (arith, c.self.invariant.1, c.in_ok-reserve.ensures.ok))
      | else-added w ↦
          let same : IsDone c.index_mut.result.now × (c.add_reaction.new.promise ≡ c.index_mut.result.now) = rw w.if-added.false at c.in-Ok.ensures in
          let none = lemmas.waits_as c.index_mut.result.now c.add_reaction.new.promise c.args.reaction same in
          rw w.self-inside-is (omega (arith, c.self.invariant.0), omega (arith, c.self.invariant.1, c.in_ok-reserve.ensures.ok, w.push_back_reserved.ensures.len, w.push_back_reserved.ensures.capacity))
    ]

pub returns-clause-ok : goal.returns-clause-ok
returns-clause-ok c =
    let all = c.self.inside.all in
    let at : slice_get all.items c.args.on.0 ≡ Some c.index_mut.result.now =
    lemmas.reads all.items c.len.result c.args.on.0 c.index_mut.result.now (omega (arith, all.ok.0)) (omega arith) c.index_mut.ensures.value in
    elim c.if-added.branch [
      | then-added w ↦
          let more : HasAdded c.index_mut.result.now c.args.reaction c.add_reaction.new.promise = rw w.if-added.true at c.in-Ok.ensures in
          rw (w.self-inside-is, ← c.self.view_is, c.reserve.ensures.items)
          (lemmas.registers all.items c.self.inside.jobs.items c.args.on.0 c.args.reaction c.index_mut.result.now c.add_reaction.new.promise at more)
      | else-added w ↦
          let same : IsDone c.index_mut.result.now × (c.add_reaction.new.promise ≡ c.index_mut.result.now) = rw w.if-added.false at c.in-Ok.ensures in
          rw (w.self-inside-is, ← c.self.view_is, w.push_back_reserved.ensures.items, c.reserve.ensures.items)
          (lemmas.at_once all.items c.self.inside.jobs.items c.args.on c.args.reaction c.index_mut.result.now c.add_reaction.new.promise at same.0 (ap promise_of same.1))
    ]
