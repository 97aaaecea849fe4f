-- Where the world that is stood for fits, what is held fits by ids.
use Rattle.std.specs.Prelude.{◌≡◌, ℕ, true, All}
use Rattle.esm_values.specs.Value.{Value}
use Rattle.esm_eval.specs.Keeping.{IsNodeOf}
use Rattle.esm_eval.specs.Nodes.{was_entered}
use Rattle.esm_eval.specs.Table.{node_at}
use Rattle.esm_rewriting.specs.Fits.{IsKnown, FitsState}
use Rattle.esm_world.specs.World.{World}
use Rattle.esm_world.specs.Fits.{IsFit}
use Rattle.esm_machine.specs.Seen.{Seen, HaveIds, modules, linked, Fits}
use Rattle.esm_machine.specs.Held.{Held, StandsFor, body_state}

abbrev pub IsLinkedId : Seen → ℕ → Type 0
IsLinkedId s m = linked s m ≡ true

abbrev pub KnowsId : Seen → Value ℕ → Type 0
KnowsId s v = IsKnown (modules s) (linked s) v

-- what bodies read and write fits, and nodes and stamps are of linked modules
pub record FitsById (h : Held) : Type 0 where
  pub state : FitsState modules linked Fits (body_state h)
  pub nodes : (m : ℕ) → IsNodeOf (IsLinkedId h.seen) (KnowsId h.seen) (node_at h.nodes m)
  pub entered : (m : ℕ) → was_entered (node_at h.nodes m).phase ≡ true → IsLinkedId h.seen m
  pub stamps : All (IsLinkedId h.seen) h.nodes.stamps

-- the URLs of the records differ, and each linked module has one
abbrev pub WorldsFitById : Type 0
WorldsFitById = (h : Held) (w : World) → StandsFor h w → IsFit w → HaveIds h.seen.urls h.seen.linked → FitsById h
