-- A function goes on at another place: what has to be shown where only operands have changed.
use Rattle.std.proofs.Common.{◌≡◌, ℕ, Bool, List, [], ◌∷◌, ◌++◌, Option, ap, sym, subst, ◌∙◌}
use Rattle.std.proofs.lemmas.List.{map-append}
use Rattle.std.specs.Prelude.{reverse, Result, Ok, Err}
use Rattle.esm_tree.specs.Syntax.{Item}
use Rattle.esm_env.specs.Modules.{Modules}
use Rattle.esm_env.specs.Declarations.{function_at}
use Rattle.esm_values.specs.Value as value
use Rattle.esm_values.specs.Code.{CodeValue, value_of, values_of}
use Rattle.esm_values.specs.declared.value.Value.{Value}
use Rattle.esm_rewriting.specs.State.{State, Importing}
use Rattle.esm_rewriting.specs.declared.stop.Stop.TheVariants as stops
use Rattle.esm_row_laws.specs.Spots.{Round, Spot, spot_row}
use Rattle.esm_row_laws.specs.Rooms.{SpotHasRoom}
use Rattle.esm_row_laws.specs.Operations.{Values}
use Rattle.esm_row_machine.specs.Functions.{Here, Waiter, rounds_at, moved}
use Rattle.esm_row_machine.specs.Stacks.{AreFrames, HasNames, IsLeft, names_on, operands_under}
use Rattle.esm_row_machine.specs.Outside.{AllKnown, Stays, modules_in, KnowsIn}
use Rattle.esm_row_machine.specs.Changes.{OperandsAre, GoesWith, Put}
use Rattle.esm_row_machine.specs.Turns.{AreNamesKnown, Fits, Stands, GoesOn, LeadsTo, Turned}
use Rattle.esm_row_machine.specs.declared.machine.Frame.{Frame}
use Rattle.esm_row_machine.specs.declared.machine.Machine.{Machine}
use Rattle.esm_row_machine.specs.declared.turn.Turn.{Turn}
use Rattle.esm_row_machine.specs.declared.turn.Turn.TheVariants as turn
use Rattle.esm_rewriting.specs.declared.stop.Stop.{Stop}

-- ---- lists of values

pub known_more : (K : CodeValue → Type 0) (us vs : List CodeValue) → AllKnown K us → AllKnown K vs → AllKnown K (us ++ vs)
known_more K [] vs h k = k
known_more K (u ∷ us) vs h k = (h.0, known_more K us vs h.1 k)

pub known_front : (K : CodeValue → Type 0) (us vs : List CodeValue) → AllKnown K (us ++ vs) → AllKnown K us
known_front K [] vs h = tt
known_front K (u ∷ us) vs h = (h.0, known_front K us vs h.1)

pub known_back : (K : CodeValue → Type 0) (us vs : List CodeValue) → AllKnown K (us ++ vs) → AllKnown K vs
known_back K [] vs h = h
known_back K (u ∷ us) vs h = known_back K us vs h.1

pub values_more : (us vs : List Value) → values_of (us ++ vs) ≡ values_of us ++ values_of vs
values_more us vs = map-append value_of us vs

-- ---- the world

-- what a trait's laws say of what calls keep
pub record IsLawful {W S : Type 0} (state : W → State ℕ S) (modules : S → Modules ℕ) (linked : S → ℕ → Bool) (begins : Importing ℕ S)
    (Ready : W → Type 0) (Keeps : W → W → Type 0) (owns : S → ℕ → List (List ℕ)) : Type 0 where
  pub itself : (w : W) → Keeps w w
  pub both : (w mid after : W) → Keeps w mid → Keeps mid after → Keeps w after
  pub stays : (w after : W) → Keeps w after → Stays state modules linked begins Ready Keeps owns w after

module _ {W S : Type 0} (state : W → State ℕ S) (modules : S → Modules ℕ) (linked : S → ℕ → Bool) (begins : Importing ℕ S)
    (Ready : W → Type 0) (Keeps : W → W → Type 0) (owns : S → ℕ → List (List ℕ)) where
  abbrev Tree : W → ℕ → List Item
  Tree w = (modules_in state modules linked begins Ready Keeps w).tree

  abbrev pub Known : W → CodeValue → Type 0
  Known w v = KnowsIn state modules linked begins Ready Keeps w v

  abbrev Goes : W → Frame → Here → List Waiter → ℕ → W → Machine → Type 0
  Goes w f h ws left after late = GoesOn state modules linked begins Ready Keeps owns w f h ws left after late

  abbrev Stand : W → Machine → Frame → ℕ → Here → List Waiter → Type 0
  Stand w s f left h ws = Stands state modules linked begins Ready Keeps owns w s f left h ws

  pub known_stays : (w after : W) → Stays state modules linked begins Ready Keeps owns w after → (v : CodeValue) → Known w v → Known after v
  known_stays w after st value.Undefined h = h
  known_stays w after st (value.Truth b) h = h
  known_stays w after st (value.Text t) h = h
  known_stays w after st (value.Func m k) h = (st.links m h.0, (h.1.0, ap (λ (items : List Item). function_at items k) (st.trees m h.0) ∙ h.1.1))
  known_stays w after st (value.Error id) h = h
  known_stays w after st (value.Namespace m) h = st.links m h
  known_stays w after st (value.Promise id) h = h

  pub all_stay : (w after : W) → Stays state modules linked begins Ready Keeps owns w after → (vs : List CodeValue) → AllKnown (Known w) vs → AllKnown (Known after) vs
  all_stay w after st [] h = tt
  all_stay w after st (v ∷ vs) h = (known_stays w after st v h.0, all_stay w after st vs h.1)

  -- ---- where only operands have changed

  module _ (w : W) (s : Machine) (f : Frame) (h : Here) (ws : List Waiter) (late : Machine) (items : List Value) (are : OperandsAre s items late) where
    pub same_names : (m k : ℕ) (rs : List Round) (vss : Values) → HasNames (Tree w) s f m k rs vss ws → HasNames (Tree w) late f m k rs vss ws
    same_names m k rs vss b = record {
      names = ap names_on are.names ∙ b.names;
      handlers = are.handlers ∙ b.handlers;
      frames = subst (λ fs. AreFrames (Tree w) fs ws) (sym are.frames) b.frames;
      frame = b.frame;
      fit = b.fit;
      rounds = b.rounds;
    }

    pub same_fits : Fits state modules linked begins Ready Keeps owns w s h.at ws → AllKnown (Known w) (values_of items) → Fits state modules linked begins Ready Keeps owns w late h.at ws
    same_fits fits known = record {
      is_ready = fits.is_ready;
      home = fits.home;
      homes = fits.homes;
      operands = subst (λ (vs : List Value). AllKnown (Known w) (values_of vs)) (sym are.operands) known;
      names = subst (λ (ns : List (Option Value)). AreNamesKnown (Known w) ns) (sym are.names) fits.names;
    }

    -- the function goes on at this place, with these operands
    pub goes : (lawful : IsLawful state modules linked begins Ready Keeps owns) (before left : ℕ) (t : Spot) (vs : List CodeValue) → Stand w s f before h ws → rounds_at t ≡ rounds_at h.spot
        → values_of items ≡ operands_under ws ++ reverse vs → SpotHasRoom t vs → IsLeft (Tree w) h.at h.function (spot_row t) left
        → AllKnown (Known w) (values_of items) → LeadsTo state modules linked begins Ready Keeps owns w h w (moved h t h.names vs) → Goes w f h ws left w late
    goes lawful before left t vs st same e room place known leads = record {
      spot = t;
      vss = h.names;
      values = vs;
      stands = record {
        stands = record {
          below = subst (λ rs. HasNames (Tree w) late f h.at h.function rs h.names ws) (sym same) (same_names h.at h.function (rounds_at h.spot) h.names st.stands.below);
          operands = ap values_of are.operands ∙ e;
          room = room;
          place = place;
        };
        fits = same_fits st.fits known;
      };
      leads = leads;
      keeps = lawful.itself w;
    }

  -- these operands are there
  pub with_turns : (w : W) (s : Machine) (f : Frame) (h : Here) (ws : List Waiter) (items : List Value) (left : ℕ) (late : Machine)
      → (OperandsAre s items late → Goes w f h ws left w late)
      → (late.names.items ≡ s.names.items) × (late.handlers.items ≡ s.handlers.items) × (late.frames.items ≡ s.frames.items)
      → (result : Result Turn Stop) → GoesWith items left result late.operands.items
      → Turned state modules linked begins Ready Keeps owns w f h ws result w late
  with_turns w s f h ws items left late k same (Ok (turn.On n)) p =
      subst (λ n. Goes w f h ws n w late) (sym p.0) (k (record { operands = p.1; names = same.0; handlers = same.1; frames = same.2 }))
  with_turns w s f h ws items left late k same (Ok (turn.Calls count n)) p = absurd p
  with_turns w s f h ws items left late k same (Ok (turn.Returns u)) p = absurd p
  with_turns w s f h ws items left late k same (Ok (turn.Throws u)) p = absurd p
  with_turns w s f h ws items left late k same (Err (stops.Limit why)) p = absurd p
  with_turns w s f h ws items left late k same (Err stops.Memory) p = tt

  -- a value stands above the others
  pub put_turns : (w : W) (s : Machine) (f : Frame) (h : Here) (ws : List Waiter) (v : Value) (left : ℕ) (late : Machine)
      → (OperandsAre s (s.operands.items ++ v ∷ []) late → Goes w f h ws left w late)
      → (late.names.items ≡ s.names.items) × (late.handlers.items ≡ s.handlers.items) × (late.frames.items ≡ s.frames.items)
      → (result : Result Turn Stop) → Put s.operands.items v left result late.operands.items
      → Turned state modules linked begins Ready Keeps owns w f h ws result w late
  put_turns w s f h ws v left late k same result p = with_turns w s f h ws (s.operands.items ++ v ∷ []) left late k same result p
