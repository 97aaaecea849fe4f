use Rattle.esm_env.proofs.FoundNames.{placed}
use Rattle.std.proofs.Common.{ap}
use Rattle.std.specs.Prelude.{Ok}
use Rattle.esm_env.proofs.name_index.add_place.Goals as goal

pub returns-in-Ok : goal.returns-in-Ok
returns-in-Ok c =
    let inserted = rw c.in_ok-key.ensures.ok at c.in-Ok.ensures.inserted in
    λ before l a. placed c.args.places.now c.insert_new.new.self before c.args.name.now c.args.at c.in-Ok._fresh inserted (λ e. c.in-Ok.ensures.known (ap Ok e)) l a
