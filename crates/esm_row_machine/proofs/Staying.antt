-- What the stacks stand for stays where the world keeps linked modules with their trees.
use Rattle.std.proofs.Common.{ℕ, Bool, List, [], ◌∷◌, Option, Some, None, ap, ◌∙◌}
use Rattle.esm_tree.specs.Syntax.{Item}
use Rattle.esm_env.specs.Modules.{Modules}
use Rattle.esm_env.specs.Declarations.{function_at}
use Rattle.esm_values.specs.Code.{CodeValue, values_of}
use Rattle.esm_values.specs.declared.value.Value.{Value}
use Rattle.esm_rewriting.specs.State.{State, Importing}
use Rattle.esm_rows.specs.Rows.{Row}
use Rattle.esm_row_laws.specs.Spots.{Round}
use Rattle.esm_row_laws.specs.Operations.{Values}
use Rattle.esm_row_machine.specs.Functions.{Waiter}
use Rattle.esm_row_machine.specs.Stacks.{AreFrames, none_waits, one_waits, HasNames, IsLeft}
use Rattle.esm_row_machine.specs.Outside.{KnownIfSome, Stays, modules_in}
use Rattle.esm_row_machine.specs.Stacks.{name_value}
use Rattle.esm_row_machine.specs.Turns.{AreNamesKnown, AreLinkedAll, Linked, Fits}
use Rattle.esm_row_machine.specs.declared.machine.Frame.{Frame}
use Rattle.esm_row_machine.specs.declared.machine.Machine.{Machine}
use Rattle.esm_row_machine.proofs.Going as going

module _ {W S : Type 0} (state : W → State ℕ S) (modules : S → Modules ℕ) (linked : S → ℕ → Bool) (begins : Importing ℕ S)
    (Ready : W → Type 0) (Keeps : W → W → Type 0) (owns : S → ℕ → List (List ℕ)) (w after : W) (st : Stays state modules linked begins Ready Keeps owns w after) where
  abbrev Before : ℕ → List Item
  Before = (modules_in state modules linked begins Ready Keeps w).tree

  abbrev After : ℕ → List Item
  After = (modules_in state modules linked begins Ready Keeps after).tree

  abbrev Home : ℕ → Type 0
  Home m = Linked state modules linked begins Ready Keeps owns w m

  pub left_stays : (m k : ℕ) (c : Row) (n : ℕ) → Home m → IsLeft Before m k c n → IsLeft After m k c n
  left_stays m k c n home l = record { code = l.code; there = ap (λ (items : List Item). function_at items k) (st.trees m home) ∙ l.there; ends = l.ends; many = l.many }

  frames_stay : (fs : List Frame) (ws : List Waiter) → AreLinkedAll state modules linked begins Ready Keeps owns w ws → AreFrames Before fs ws → AreFrames After fs ws
  frames_stay _ _ homes none_waits = none_waits
  frames_stay _ _ homes (one_waits fs f {w = a} {ws = ws} h k) =
      one_waits fs f (frames_stay fs ws homes.1 h) (record { frame = k.frame; place = left_stays a.at a.function _ f.left homes.0 k.place; fit = k.fit; room = k.room; rounds = k.rounds })

  pub names_stay : (s : Machine) (f : Frame) (m k : ℕ) (rs : List Round) (vss : Values) (ws : List Waiter) → AreLinkedAll state modules linked begins Ready Keeps owns w ws → HasNames Before s f m k rs vss ws → HasNames After s f m k rs vss ws
  names_stay s f m k rs vss ws homes b = record {
    names = b.names;
    handlers = b.handlers;
    frames = frames_stay s.frames.items ws homes b.frames;
    frame = b.frame;
    fit = b.fit;
    rounds = b.rounds;
  }

  pub homes_stay : (ws : List Waiter) → AreLinkedAll state modules linked begins Ready Keeps owns w ws → AreLinkedAll state modules linked begins Ready Keeps owns after ws
  homes_stay [] h = tt
  homes_stay (a ∷ ws) h = (st.links a.at h.0, homes_stay ws h.1)

  known_if : (v : Option CodeValue) → KnownIfSome (going.Known state modules linked begins Ready Keeps owns w) v → KnownIfSome (going.Known state modules linked begins Ready Keeps owns after) v
  known_if None h = tt
  known_if (Some v) h = going.known_stays state modules linked begins Ready Keeps owns w after st v h

  pub names_known : (ns : List (Option Value)) → AreNamesKnown (going.Known state modules linked begins Ready Keeps owns w) ns → AreNamesKnown (going.Known state modules linked begins Ready Keeps owns after) ns
  names_known [] h = tt
  names_known (n ∷ ns) h = (known_if (name_value n) h.0, names_known ns h.1)

  pub fits_stay : (s : Machine) (m : ℕ) (ws : List Waiter) → Ready after → Fits state modules linked begins Ready Keeps owns w s m ws → Fits state modules linked begins Ready Keeps owns after s m ws
  fits_stay s m ws ready f = record {
    is_ready = ready;
    home = st.links m f.home;
    homes = homes_stay ws f.homes;
    operands = going.all_stay state modules linked begins Ready Keeps owns w after st (values_of s.operands.items) f.operands;
    names = names_known s.names.items f.names;
  }
