use Rattle.std.proofs.Common.{refl}
use Rattle.esm_run.specs.Written.{Whole, SinkFailed, OutOfMemory}
use Rattle.esm_run.proofs.ending.finish.Goals as goal

pub returns-in-Ok : goal.returns-in-Ok
returns-in-Ok g c = Whole refl c.requires.not_write_fault c.requires.not_memory c.in-Ok.ensures.whole

pub returns-in-Err-Failed : goal.returns-in-Err-Failed
returns-in-Err-Failed g c = let is = rw c.in-Err-Failed.field-0-is at c.in-Err-Failed.ensures in SinkFailed refl is.whole.0 is.whole.1

pub returns-in-Err-Memory : goal.returns-in-Err-Memory
returns-in-Err-Memory g c = let is = rw c.in-Err-Memory.field-0-is at c.in-Err-Memory.ensures in OutOfMemory refl is.whole.0 is.whole.1
