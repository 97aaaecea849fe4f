use Rattle.esm_run.specs.CommandMap.{desk_change}
use Rattle.esm_run.proofs.MapLemmas.{gives_map}
use Rattle.esm_run.proofs.command_map.map_of.Goals as goal

pub returns-in-Some-clause-comes : goal.returns-in-Some-clause-comes
returns-in-Some-clause-comes g c =
    gives_map c.fetch_map.result c.args.command.now c.in-Some.url (desk_change g.S.Source.asked g.S.Source.holds c.args.desk.now c.fetch_map.new.desk) c.in-Some.is c.fetch_map.ensures.comes
