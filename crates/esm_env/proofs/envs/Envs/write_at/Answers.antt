use Rattle.std.proofs.Common.{refl, sym, ◌∙◌}
use Rattle.std.specs.Prelude.{Some}
use Rattle.esm_env.proofs.ScopesLemmas.{scope_at, scope_none, scope_set, scope_other}
use Rattle.esm_env.proofs.envs.Envs.write_at.Goals as goal

pub returns-in-Some : goal.returns-in-Some
returns-in-Some c =
    let before = scope_at c.args.self.now.scopes.items c.args.m.0 _ (rw (c.len.ensures, c.args.self.now.scopes.ok.0) at c.if-at-len.true) ∙ sym c.index_mut.ensures.value ∙ c.in-Some.is in
    let after = scope_set c.args.self.now.scopes.items c.args.m.0 (Some c.write_place.new.self) (rw (c.len.ensures, c.args.self.now.scopes.ok.0) at c.if-at-len.true) in
    (rw (before, after) c.write_place.ensures, λ n d. scope_other c.args.self.now.scopes.items c.args.m.0 _ n d)

pub returns-in-None : goal.returns-in-None
returns-in-None c =
    let before = scope_at c.args.self.now.scopes.items c.args.m.0 _ (rw (c.len.ensures, c.args.self.now.scopes.ok.0) at c.if-at-len.true) ∙ sym c.index_mut.ensures.value ∙ c.in-None.is in
    let after = scope_set c.args.self.now.scopes.items c.args.m.0 c.index_mut.result.now (rw (c.len.ensures, c.args.self.now.scopes.ok.0) at c.if-at-len.true) in
    (rw (before, after) (refl, c.in-None.is), λ n d. scope_other c.args.self.now.scopes.items c.args.m.0 _ n d)

pub returns-else-at-len : goal.returns-else-at-len
returns-else-at-len c =
    let none = scope_none c.args.self.now.scopes.items c.args.m.0 (rw (c.len.ensures, c.args.self.now.scopes.ok.0) at c.if-at-len.false) in
    (rw none (refl, refl), λ n d. refl)
