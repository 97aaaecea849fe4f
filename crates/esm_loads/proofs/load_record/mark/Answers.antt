-- The flag of the place is set.
use Rattle.esm_loads.proofs.Flags.{flags_visit}
use Rattle.esm_loads.proofs.load_record.mark.Goals as goal

pub returns : goal.returns
returns c visited h = flags_visit c.grow.new.flags.items visited c.args.id c.in_ok-grow.ensures.room (c.in_ok-grow.ensures.flags visited h)
