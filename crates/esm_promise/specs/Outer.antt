-- What loading and bodies share: promises, errors, and what import() reads and writes besides. Modules have names of any
-- kind N.
use Rattle.esm_values.specs.Value.{Value}
use Rattle.esm_values.specs.Errors.{Errors}
use Rattle.esm_promise.specs.Promises.{Promises}
use Rattle.esm_promise.specs.Reactions.{Reaction}

pub record Outer (N I : Type 0) : Type 0 where
  pub promises : Promises (Reaction N) (Value N)
  pub errors : Errors
  pub imports : I
