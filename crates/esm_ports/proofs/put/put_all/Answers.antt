use Rattle.std.proofs.Common.{◌∙◌, ◌<◌, length, arith}
use Rattle.std.proofs.lemmas.Bool.Decides.{nat_tests}
use Rattle.esm_ports.proofs.PutLemmas.{wrote_more, took_piece, refused_piece, nothing_left}
use Rattle.esm_ports.proofs.put.put_all.Goals as goal

pub loop-rest-preserved : goal.loop-rest-preserved
loop-rest-preserved g c =
    let some : 0 < length c.loop-rest.rest.now = grind (arith, nat_tests) in
    record {
      wrote = rw c.split_at.ensures.back (wrote_more _ _ _ _ _ _ c.loop-rest.invariant.wrote c.in-Ok.ensures.wrote.2);
      same = c.in-Ok.ensures.wrote.3 ∙ c.loop-rest.invariant.same;
      calls = rw c.split_at.ensures.back
          (λ end after later. c.loop-rest.invariant.calls end after (took_piece _ _ _ _ _ some c.in-Ok.ensures.gives end after later));
    }

pub returns-in-Err-clause-calls : goal.returns-in-Err-clause-calls
returns-in-Err-clause-calls g c =
    let some : 0 < length c.loop-rest.rest.now = grind (arith, nat_tests) in
    c.loop-rest.invariant.calls _ _ (refused_piece _ _ _ _ _ some c.in-Err.ensures.gives)

pub returns-clause-calls : goal.returns-clause-calls
returns-clause-calls g c =
    c.loop-rest.invariant.calls _ _ (nothing_left _ c.loop-rest.rest.now c.loop-rest.out (grind (arith, nat_tests)))
