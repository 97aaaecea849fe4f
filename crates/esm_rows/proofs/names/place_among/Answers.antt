use Rattle.esm_rows.proofs.LocalPlaces.{place_within}
use Rattle.esm_rows.proofs.Found.{found_there, lost}
use Rattle.esm_rows.proofs.names.place_among.Goals as goal

pub get-requires : goal.get-requires
get-requires c = place_within c.args.block.now c.args.name.now c.in-Some.at c.in-Some.ensures

pub returns-in_ok-next-in-Some : goal.returns-in_ok-next-in-Some
returns-in_ok-next-in-Some c =
    found_there c.args.block.now c.args.name.now c.args.before c.in-Some.at c.in_ok-next-in-Some.next c.get.result.now c.in-Some.ensures c.in_ok-next-in-Some.ensures (c.get.ensures c.get.result.now)

pub returns-in-None : goal.returns-in-None
returns-in-None c = lost c.args.block.now c.args.name.now c.args.before c.in-None.ensures
