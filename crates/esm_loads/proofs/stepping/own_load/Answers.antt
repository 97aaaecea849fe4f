-- The load has its promise, or gets it.
use Rattle.std.proofs.Common.{ap, ◌∙◌, refl, Some}
use Rattle.esm_loads.proofs.HostFacts.{owns, begins_own}
use Rattle.esm_loads.proofs.stepping.own_load.Goals as goal

pub returns-in_ok-own-in-Some-clause-begins : goal.returns-in_ok-own-in-Some-clause-begins
returns-in_ok-own-in-Some-clause-begins c named maps R errors =
    let at = c.purpose_at.ensures ∙ ap (λ p. Some p) c.in-Some.ensures.some in
    begins_own named maps R errors c.args.loads.now c.args.promises.now c.make_with.new.self c.args.load c.in-Some.promise c.in_ok-own-in-Some.own at c.in_ok-own-in-Some.ensures.id c.in_ok-own-in-Some.ensures.ok

pub returns-in-None-clause-begins : goal.returns-in-None-clause-begins
returns-in-None-clause-begins c named maps R errors =
    owns named maps R errors c.args.loads.now c.args.promises.now c.args.load c.purpose_at.result c.purpose_at.ensures (c.in-None.ensures.none refl)
