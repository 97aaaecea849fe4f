use Rattle.std.proofs.Common.{ap, sym, ◌∙◌}
use Rattle.esm_env.specs.Placed.{place_by}
use Rattle.esm_env.proofs.OwnLemmas.{place_told}
use Rattle.esm_env.proofs.envs.Envs.place.Goals as goal

pub returns-in-Some : goal.returns-in-Some
returns-in-Some c =
    place_told c.in-Some.scope.now.slots.items c.args.name.now c.place.result c.place.ensures
    ∙ sym (ap (λ o. place_by o c.args.name.now) c.in-Some.ensures)

pub returns-in-None : goal.returns-in-None
returns-in-None c = sym (ap (λ o. place_by o c.args.name.now) c.in-None.ensures)
