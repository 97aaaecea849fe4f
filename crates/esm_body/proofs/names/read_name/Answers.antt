use Rattle.std.proofs.Common.{ap, sym, ◌∙◌}
use Rattle.esm_env.specs.Calls.{scopes_of}
use Rattle.esm_env.specs.Scopes.{read_or, read_in}
use Rattle.esm_body.specs.Inner.Names.{seen_slot}
use Rattle.esm_body.proofs.LevelNames.{place_bound, found_some, found_none}
use Rattle.esm_body.proofs.Shown.{weaker}
use Rattle.esm_body.proofs.names.read_name.Goals as goal

pub get-requires : goal.get-requires
get-requires c =
    let h = c.in-Some.ensures in
    (place_bound c.args.levels.now c.in-Some.level c.in-Some.place c.args.name.now h.1).1 c.index-levels-level.result

pub returns-in-Some : goal.returns-in-Some
returns-in-Some c =
    let s = found_some c.args.levels.now c.args.name.now (c.in-Some.level, c.in-Some.place) (c.in-Some.ensures) c.index-levels-level.result c.get.result.now in
    weaker _ _ (λ found h. h ∙ ap seen_slot (c.get.ensures c.get.result.now) ∙ sym (ap (λ o. read_or o (read_in (scopes_of c.args.envs.now) c.args.at.0 c.args.name.now)) s)) c.slot_value.result c.slot_value.ensures

pub returns-in-None : goal.returns-in-None
returns-in-None c =
    let s = found_none c.args.levels.now c.args.name.now c.in-None.ensures in
    weaker _ _ (λ found h. h ∙ c.read.ensures ∙ sym (ap (λ o. read_or o (read_in (scopes_of c.args.envs.now) c.args.at.0 c.args.name.now)) s)) c.owned.result c.owned.ensures
