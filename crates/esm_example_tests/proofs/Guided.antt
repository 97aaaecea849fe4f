-- That the guide of a map is the empty import map.
use Rattle.std.proofs.Common.{◌≡◌, ◌∙◌, ap, sym, List, [], ◌∷◌, ◌++◌, append_assoc, Some}
use Rattle.std.specs.Arc.{arc_value}
use Rattle.std.specs.declared.sync.Arc.{Arc}
use Rattle.std.specs.declared.alloc.Global.{Global}
use Rattle.esm_import_map.specs.ImportMap.{Maps, no_maps}
use Rattle.esm_module_map.specs.declared.event.MapEvent.{MapEvent}
use Rattle.esm_module_map.specs.declared.event.MapEvent.TheVariants.{Begin}
use Rattle.esm_module_map.specs.Leading.{guide_in}
use Rattle.esm_module_map.specs.Saying.{Begins}
use Rattle.esm_fetch.specs.declared.posted.Posted.{Posted}

abbrev History : Type 0
History = List (MapEvent Posted Maps)

-- it is so where the map has just been made
pub begun : (h : History) (g : Arc Maps Global) → h ≡ Begin g ∷ [] → arc_value g ≡ no_maps → guide_in h ≡ Some no_maps
begun h g is by = ap guide_in is ∙ ap Some by

pub begins_on : (a b c : History) → Begins a b → Begins b c → Begins a c
begins_on a b c p q = (p.0 ++ q.0, q.1 ∙ ap (λ l. l ++ q.0) p.1 ∙ append_assoc a p.0 q.0)

-- and for whoever has seen the same
pub same_guide : (a b : History) → b ≡ a → guide_in a ≡ Some no_maps → guide_in b ≡ Some no_maps
same_guide a b same guide = ap guide_in same ∙ guide

-- as a call is given it
pub as_given : (h : History) (maps : Maps) → maps ≡ no_maps → guide_in h ≡ Some no_maps → guide_in h ≡ Some maps
as_given h maps is guide = guide ∙ ap Some (sym is)
