-- The place of the id is told.
use Rattle.esm_eval.proofs.Inner.Stacks as stacks
use Rattle.esm_eval.proofs.stack.note.Goals as goal

pub returns : goal.returns
returns c opened h out last =
    stacks.pushed opened c.grow.new.places.items (c.grow.ensures.kept opened h) c.args.id c.args.place c.in_ok-grow.ensures.room out last
