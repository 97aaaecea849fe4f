-- The names that a module declares, in the order in which its scope has them.
use Rattle.std.specs.Prelude.{ℕ, List, ◌++◌, map}
use Rattle.esm_tree.specs.Syntax.{Item}
use Rattle.esm_env.specs.Declarations.{Declaration, FunctionCode, declared_in, body_of, functions_of}

-- those of its statements, then its functions
abbrev pub own_names : List Item → List (List ℕ)
own_names items = map (λ (d : Declaration). d.name) (declared_in (body_of items)) ++ map (λ (f : FunctionCode). f.name) (functions_of items)
