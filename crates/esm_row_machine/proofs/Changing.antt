-- A function goes on at another place, with other values of names and other handlers.
use Rattle.std.proofs.Common.{◌≡◌, ℕ, Bool, List, [], ◌++◌, length, sym, subst}
use Rattle.std.specs.Prelude.{reverse, Result, Ok, Err}
use Rattle.esm_tree.specs.Syntax.{Item}
use Rattle.esm_env.specs.Modules.{Modules}
use Rattle.esm_values.specs.Code.{CodeValue, values_of}
use Rattle.esm_rewriting.specs.State.{State, Importing}
use Rattle.esm_rewriting.specs.declared.stop.Stop.{Stop}
use Rattle.esm_rewriting.specs.declared.stop.Stop.TheVariants as stops
use Rattle.esm_row_laws.specs.Spots.{Spot, names_of, spot_row}
use Rattle.esm_row_laws.specs.Rooms.{SpotHasRoom}
use Rattle.esm_row_laws.specs.Places.{flat, FitNames}
use Rattle.esm_row_laws.specs.Operations.{Values}
use Rattle.esm_row_machine.specs.Functions.{Here, Waiter, rounds_at, moved}
use Rattle.esm_row_machine.specs.Stacks.{AreFrames, AreOfFunction, IsLeft, names_on, names_under, operands_under, handlers_under, handlers_of}
use Rattle.esm_row_machine.specs.Outside.{AllKnown, modules_in}
use Rattle.esm_row_machine.specs.Naming.{GoesTo}
use Rattle.esm_row_machine.specs.Turns.{AreNamesKnown, LeadsTo, GoesOn, Turned}
use Rattle.esm_row_machine.specs.declared.machine.Frame.{Frame}
use Rattle.esm_row_machine.specs.declared.machine.Machine.{Machine}
use Rattle.esm_row_machine.specs.declared.turn.Turn.{Turn}
use Rattle.esm_row_machine.specs.declared.turn.Turn.TheVariants as turn
use Rattle.esm_row_machine.proofs.Going as going
use Rattle.esm_row_machine.proofs.Going.{IsLawful}
use Rattle.esm_row_machine.proofs.Coming.{At}

module _ {W S : Type 0} (state : W → State ℕ S) (modules : S → Modules ℕ) (linked : S → ℕ → Bool) (begins : Importing ℕ S)
    (Ready : W → Type 0) (Keeps : W → W → Type 0) (owns : S → ℕ → List (List ℕ)) (lawful : IsLawful state modules linked begins Ready Keeps owns)
    (w : W) (s : Machine) (f : Frame) (n : ℕ) (h : Here) (ws : List Waiter) where
  abbrev Known : CodeValue → Type 0
  Known u = going.Known state modules linked begins Ready Keeps owns w u

  abbrev Tree : ℕ → List Item
  Tree = (modules_in state modules linked begins Ready Keeps w).tree

  abbrev Stands : Spot → List CodeValue → Type 0
  Stands t vs = At state modules linked begins Ready Keeps owns w s f n h ws t vs

  abbrev Goes : ℕ → Machine → Type 0
  Goes left late = GoesOn state modules linked begins Ready Keeps owns w f h ws left w late

  pub goes_to : (t0 : Spot) (vs0 : List CodeValue) → Stands t0 vs0 → (left : ℕ) (t : Spot) (vss : Values) (vs : List CodeValue) (late : Machine)
      → names_on late.names.items ≡ names_under ws ++ flat vss → late.handlers.items ≡ handlers_under ws ++ handlers_of (length (names_under ws)) (rounds_at t) vss
      → late.frames.items ≡ s.frames.items → FitNames (names_of (rounds_at t)) vss → AreOfFunction (rounds_at t)
      → values_of late.operands.items ≡ operands_under ws ++ reverse vs → SpotHasRoom t vs → IsLeft Tree h.at h.function (spot_row t) left
      → AllKnown Known (values_of late.operands.items) → AreNamesKnown Known late.names.items
      → LeadsTo state modules linked begins Ready Keeps owns w (moved h t0 h.names vs0) w (moved h t vss vs) → Goes left late
  goes_to t0 vs0 a left t vss vs late names handlers frames fit rounds operands room place known names_known leads = record {
    spot = t;
    vss = vss;
    values = vs;
    stands = record {
      stands = record {
        below = record {
          names = names;
          handlers = handlers;
          frames = subst (λ (fs : List Frame). AreFrames Tree fs ws) (sym frames) a.stand.stands.below.frames;
          frame = a.stand.stands.below.frame;
          fit = fit;
          rounds = rounds;
        };
        operands = operands;
        room = room;
        place = place;
      };
      fits = record {
        is_ready = a.stand.fits.is_ready;
        home = a.stand.fits.home;
        homes = a.stand.fits.homes;
        operands = known;
        names = names_known;
      };
    };
    leads = λ cs how end seg. a.leads cs how end (leads cs how end seg);
    keeps = lawful.itself w;
  }

  -- no operand is there
  pub bare : (t : Spot) (vs : List CodeValue) → vs ≡ [] → Stands t vs → Stands t []
  bare t vs e a = subst (λ (us : List CodeValue). Stands t us) e a

  pub to_turns : (left : ℕ) (P : Type 0) (late : Machine) → (P → Goes left late) → (result : Result Turn Stop) → GoesTo left P result
      → Turned state modules linked begins Ready Keeps owns w f h ws result w late
  to_turns left P late on (Ok (turn.On m)) p = subst (λ (q : ℕ). Goes q late) (sym p.0) (on p.1)
  to_turns left P late on (Ok (turn.Calls count m)) p = absurd p
  to_turns left P late on (Ok (turn.Returns u)) p = absurd p
  to_turns left P late on (Ok (turn.Throws u)) p = absurd p
  to_turns left P late on (Err (stops.Limit why)) p = absurd p
  to_turns left P late on (Err stops.Memory) p = tt
