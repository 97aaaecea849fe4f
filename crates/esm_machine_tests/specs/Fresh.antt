-- Records and loads of which nothing is linked.
use Rattle.std.specs.Prelude.{◌≡◌, true, []}
use Rattle.esm_machine.specs.ModuleStore.{Imported, is_whole, seen_of}

-- nothing was refused, and nothing is linked
pub record IsFresh (i : Imported) : Type 0 where
  pub whole : is_whole i.condition ≡ true
  pub none : (seen_of i).linked ≡ []
