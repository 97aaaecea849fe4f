-- What bodies do by ids, they do in the world.
use Rattle.std.specs.Prelude.{◌≡◌, ℕ, Bool, true, List, ◌++◌, map, nat_eq, Option}
use Rattle.std.specs.Option.{option_map}
use Rattle.esm_base.specs.Urls.{Url, has, same_url}
use Rattle.esm_values.specs.Numbering.{numbering}
use Rattle.esm_loads.specs.Loading.{Loading}
use Rattle.esm_loads.specs.ImportCall.{BeginsImport}
use Rattle.esm_link.specs.Faults.{FaultAt}
use Rattle.esm_link.specs.Link.{IsLinking}
use Rattle.esm_link.specs.Local.{AreWhole}
use Rattle.esm_link.specs.Naming.{named_fault}
use Rattle.esm_rewriting.specs.Naming.{BodiesFollow}
use Rattle.esm_world.specs.World.{modules_in}
use Rattle.esm_machine.specs.Seen.{Seen, names, modules, BeginsById}

abbrev pub seen_loading : Seen → Loading
seen_loading s = s.loading

-- as long as these are the URLs of the records, each body that starts, runs or goes on by the ids of modules does so in the world, where
-- their URLs name them
abbrev pub BodiesAreOfTheWorld : Type 0
BodiesAreOfTheWorld = (urls : List Url)
    → BodiesFollow (numbering urls) seen_loading (λ s. s.urls ≡ urls) nat_eq same_url modules modules_in BeginsById BeginsImport

-- linking by ids is linking in the world, whatever the order in which the world has the modules that are linked
abbrev pub LinkingIsOfTheWorld : Type 0
LinkingIsOfTheWorld = (s : Seen) (there : Url → Bool) (linked : List Url) (ids after : List ℕ) (root : ℕ) (fault : Option (FaultAt ℕ))
    → AreWhole (modules_in s.loading) there → there ((names s).name root) ≡ true
    → ((u : Url) → has linked u ≡ has (map (names s).name ids) u) → IsLinking nat_eq (modules s) ids root fault after
    → (more : List Url) × (map (names s).name after ≡ map (names s).name ids ++ more)
    × IsLinking same_url (modules_in s.loading) linked ((names s).name root) (option_map (named_fault (names s)) fault) (linked ++ more)
