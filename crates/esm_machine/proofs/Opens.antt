-- The opening machine stands for the opening world, and what loading does to it, it does to the world.
use Rattle.std.proofs.Common.{[], refl, ap, sym}
use Rattle.esm_env.specs.Cells.{no_cells}
use Rattle.esm_env.specs.Naming.{renamed_in}
use Rattle.esm_loads.specs.LoadsView.{every_form}
use Rattle.esm_loads.specs.Hosted.{host_of}
use Rattle.esm_world.specs.World as world
use Rattle.esm_world.specs.World.{opening}
use Rattle.esm_values.specs.Numbering.{numbering, is_total}
use Rattle.esm_machine.specs.Held.{OpensAsWorld, LoadingIsOfTheWorld}

pub opens_as_world : OpensAsWorld
opens_as_world maps entry trace = record {
  linked = λ u. refl;
  world = λ i. record (opening maps every_form entry trace) { cells = λ u x. sym (ap (renamed_in (numbering []) no_cells x) ((is_total [] u).1)) i };
}

pub loading_is_of_the_world : LoadingIsOfTheWorld
loading_is_of_the_world h w promises errors l s = record {
  linked = s.linked;
  world = ap (λ v. world.with_host v (host_of (numbering h.seen.urls).name promises errors l)) s.world;
}
