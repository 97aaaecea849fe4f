use Rattle.esm_env.proofs.OwnLemmas.{found_of, value_read}
use Rattle.esm_env.specs.Calls.{scopes_of, told_read}
use Rattle.esm_env.proofs.envs.Envs.value.Goals as goal

pub returns-in-Some : goal.returns-in-Some
returns-in-Some c = λ x e.
    value_read (scopes_of c.args.self.now) c.args.m.0 c.in-Some.scope.now x c.args.place (told_read c.read_place.result) c.in-Some.ensures
    (c.read_place.ensures x (found_of (scopes_of c.args.self.now) c.args.m.0 c.in-Some.scope.now x c.args.place c.in-Some.ensures e)) e
