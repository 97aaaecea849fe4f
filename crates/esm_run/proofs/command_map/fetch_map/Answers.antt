use Rattle.esm_run.specs.CommandMap.{desk_change}
use Rattle.esm_run.proofs.MapLemmas.{comes_at}
use Rattle.esm_run.proofs.command_map.fetch_map.Goals as goal

pub returns-in-Ok-clause-comes : goal.returns-in-Ok-clause-comes
returns-in-Ok-clause-comes g c =
    comes_at c.given_map.result (desk_change g.S.Source.asked g.S.Source.holds c.args.desk.now c.fetch.new.self) c.args.base.now c.as_str.result.now c.args.url.now
    c.in-Ok.body.items c.as_str.ensures.value c.in-Ok.ensures.asked c.in-Ok.ensures.told c.given_map.ensures
