use Rattle.std.proofs.Common.{ap}
use Rattle.std.specs.Prelude.{Ok}
use Rattle.esm_link.proofs.Naming.{put_new}
use Rattle.esm_link.proofs.namespaces.add_name.Goals as goal

pub returns-in-Ok : goal.returns-in-Ok
returns-in-Ok c =
    let inserted = rw c.in_ok-key.ensures.ok at c.in-Ok.ensures.inserted in
    λ x. put_new c.args.names.now c.insert_new.new.self c.args.name.now c.args.target x c.in-Ok._fresh inserted (λ e. c.in-Ok.ensures.known (ap Ok e))
