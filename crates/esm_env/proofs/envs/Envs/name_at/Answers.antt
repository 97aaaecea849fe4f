use Rattle.std.proofs.Common.{◌≡◌, ℕ, ap, sym, ◌∙◌}
use Rattle.std.specs.Prelude.{Option, Some, None}
use Rattle.esm_env.specs.Calls.{scopes_of}
use Rattle.esm_env.specs.Placed.{place_by}
use Rattle.esm_env.proofs.OwnLemmas.{found_of}
use Rattle.esm_env.proofs.envs.Envs.name_at.Goals as goal

pub returns-in-Some : goal.returns-in-Some
returns-in-Some c = λ x e. c.name_at.ensures x (found_of (scopes_of c.args.self.now) c.args.m.0 c.in-Some.scope.now x c.args.place c.in-Some.ensures e)

pub returns-in-None : goal.returns-in-None
returns-in-None c = λ x e.
    let none : ◌≡◌ {A = Option ℕ} None (Some c.args.place) = sym (ap (λ o. place_by o x) c.in-None.ensures) ∙ e in
    absurd (cc)
