-- The closure as a list.
use Rattle.std.specs.Prelude.{◌≡◌, Bool, true, List}
use Rattle.esm_base.specs.Urls.{Url, has}
use Rattle.esm_tree.specs.Syntax.{Item}
use Rattle.esm_import_map.specs.ImportMap.{Maps}
use Rattle.esm_ast.specs.Deliveries.{Files}
use Rattle.esm_world.specs.Direct.{Closure, AreClosure}

-- where some list has each URL of the closure, there is a list of these alone, each once
abbrev pub HasClosure : Type 0
HasClosure = (maps : Maps) (built : List Item → Bool) (files : Files) (entry : Url) (modules : List Url)
    → ((u : Url) → Closure maps built files entry u → has modules u ≡ true)
    → (exact : List Url) × AreClosure maps built files entry exact
