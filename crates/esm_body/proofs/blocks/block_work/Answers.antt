use Rattle.esm_body.proofs.Levels.{block_front, block_sound}
use Rattle.esm_body.proofs.blocks.block_work.Goals as goal

pub returns-clause-work : goal.returns-clause-work
returns-clause-work c = λ stmts. rw (c.of.ensures, c.in_ok-statements.ensures) (block_front stmts c.args.ids.now)

pub returns-clause-sound : goal.returns-clause-sound
returns-clause-sound c = λ n below. rw (c.of.ensures, c.in_ok-statements.ensures) (block_sound n c.args.ids.now below)
