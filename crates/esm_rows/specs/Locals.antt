-- The names of the blocks round a place, as the code keeps them.
use Rattle.std.specs.Prelude.{List, [], ◌∷◌, map, Option, Some, None}
use Rattle.esm_env.specs.Declarations.{Declaration}
use Rattle.esm_rows.specs.Rows.{Names, Found, found_at}
use Rattle.esm_rows.specs.declared.names.Local.{Local}
use Rattle.esm_rows.specs.declared.names.Place.{Place}

abbrev pub declaration : Local → Declaration
declaration l = record { name = l.name; constant = l.constant }

abbrev pub declared : List Local → List Declaration
declared ls = map declaration ls

-- the last block is the innermost
abbrev pub names_onto : List (List Local) → Names → Names
names_onto [] ns = ns
names_onto (b ∷ bs) ns = names_onto bs (declared b ∷ ns)

abbrev pub names_of : List (List Local) → Names
names_of bs = names_onto bs []

abbrev pub place_told : Option Place → Option Found
place_told None = None
place_told (Some p) = Some (found_at p.at p.constant)
