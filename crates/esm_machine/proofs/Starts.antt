-- How many bodies have begun: the same by other names of modules.
use Rattle.std.proofs.Common.{◌≡◌, List, [], ◌∷◌, map, length, suc, refl, ap}
use Rattle.esm_base.specs.Urls.{Url}
use Rattle.esm_values.specs.Naming.{Naming}
use Rattle.esm_rewriting.specs.State.{Event, Begins, Ends, Throws}
use Rattle.esm_rewriting.specs.Keeps.{started}
use Rattle.esm_rewriting.specs.Naming.{renamed_event}
use Rattle.esm_machine.specs.Held.{Held, world_of}
use Rattle.esm_machine.specs.Seen.{names}

pub starts_renamed : {M N : Type 0} (names : Naming M N) (es : List (Event M)) → length (started (map (renamed_event names) es)) ≡ length (started es)
starts_renamed names [] = refl
starts_renamed names (Begins m ∷ es) = ap suc (starts_renamed names es)
starts_renamed names (Ends m ∷ es) = starts_renamed names es
starts_renamed names (Throws m ∷ es) = starts_renamed names es

pub starts_held : (h : Held) (linked : List Url) → length (started (world_of h linked).engine.events) ≡ length (started h.engine.events)
starts_held h linked = starts_renamed (names h.seen) h.engine.events
