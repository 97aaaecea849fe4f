-- A new error is thrown.
use Rattle.std.proofs.Common.{◌≡◌, ℕ, nat_eq, Bool, List, ◌++◌, length, Option, Some, None, ap, sym, subst, ◌∙◌}
use Rattle.std.specs.Borrow.{Bor}
use Rattle.std.specs.Prelude.{reverse, slice_get, Result, Ok, Err}
use Rattle.esm_tree.specs.Syntax.{Item}
use Rattle.esm_env.specs.Modules.{Modules}
use Rattle.esm_values.specs.Code.{CodeValue, value_of, values_of, numbered}
use Rattle.esm_values.specs.Errors.{fault}
use Rattle.esm_values.specs.declared.errors.FaultKind.{FaultKind}
use Rattle.esm_values.specs.declared.value.Value.{Value}
use Rattle.esm_rewriting.specs.Rest.{Rest}
use Rattle.esm_rewriting.specs.State.{State, Importing, new_error, with_error}
use Rattle.esm_rewriting.specs.Segment.{Segment}
use Rattle.esm_rewriting.specs.declared.stop.Stop.{Stop}
use Rattle.esm_rewriting.specs.declared.stop.Stop.TheVariants as stops
use Rattle.esm_row_laws.specs.Spots.{Spot, rounds_row}
use Rattle.esm_row_laws.specs.Remaining.{rest_at}
use Rattle.esm_row_laws.specs.Landings.{ThrowsIn, remains}
use Rattle.esm_row_machine.specs.Functions.{Here, Waiter, rounds_at}
use Rattle.esm_row_machine.specs.Stacks.{IsLeft}
use Rattle.esm_row_machine.specs.Outside.{Stays, modules_in}
use Rattle.esm_row_machine.specs.Changes.{OperandsAre, IsTextAt}
use Rattle.esm_row_machine.specs.Naming.{ThrowsFault, ThrowsNamed}
use Rattle.esm_row_machine.specs.Turns.{ThrowsHere, Turned}
use Rattle.esm_row_machine.specs.declared.machine.Frame.{Frame}
use Rattle.esm_row_machine.specs.declared.machine.Machine.{Machine}
use Rattle.esm_row_machine.specs.declared.turn.Turn.{Turn}
use Rattle.esm_row_machine.specs.declared.turn.Turn.TheVariants as turn
use Rattle.esm_row_machine.proofs.Told.{some_same}
use Rattle.esm_row_machine.proofs.Going as going
use Rattle.esm_row_machine.proofs.Going.{IsLawful}
use Rattle.esm_row_machine.proofs.Coming.{At}
use Rattle.esm_row_machine.proofs.Staying as staying
use Rattle.esm_row_machine.proofs.Literals.{with_operands}

module _ {W S : Type 0} (state : W → State ℕ S) (modules : S → Modules ℕ) (linked : S → ℕ → Bool) (begins : Importing ℕ S)
    (Ready : W → Type 0) (Keeps : W → W → Type 0) (owns : S → ℕ → List (List ℕ)) (lawful : IsLawful state modules linked begins Ready Keeps owns)
    (w : W) (s : Machine) (f : Frame) (n : ℕ) (h : Here) (ws : List Waiter) where
  abbrev Tree : W → ℕ → List Item
  Tree a = (modules_in state modules linked begins Ready Keeps a).tree

  abbrev Does : Result Turn Stop → W → Machine → Type 0
  Does result after late = Turned state modules linked begins Ready Keeps owns w f h ws result after late

  -- what remains at this place, in the innermost block, throws a new error with this message
  module _ (t : Spot) (vs : List CodeValue) (at : At state modules linked begins Ready Keeps owns w s f n h ws t vs) (rest : Rest CodeValue) (is : rest_at numbered t h.names vs ≡ remains modules begins (rounds_at t) h.names rest)
      (kind : FaultKind) (message : List ℕ) (throws : ThrowsIn modules begins h.at (rounds_at t) h.names (state w) rest (new_error (state w)) (with_error (state w) (fault kind message)))
      (row : IsLeft (Tree w) h.at h.function (rounds_row (rounds_at t)) (length (rounds_row (rounds_at t)))) where
    -- in a machine with the same stacks
    module _ (late : Machine) (same : with_operands s late) (operands : late.operands.items ≡ s.operands.items) where
      are : OperandsAre s s.operands.items late
      are = record { operands = operands; names = same.0; handlers = same.1; frames = same.2 }

      thrown : (after : W) (v : Value) → value_of v ≡ new_error (state w) → state after ≡ with_error (state w) (fault kind message) → Ready after → Keeps w after
          → ThrowsHere state modules linked begins Ready Keeps owns w f h ws (value_of v) after late
      thrown after v made told ready keeps =
          let st : Stays state modules linked begins Ready Keeps owns w after = lawful.stays w after keeps in
          record {
            rounds = rounds_at t;
            vss = h.names;
            rest = rest;
            mid = state w;
            leads = λ cs how end seg. at.leads cs how end (subst (λ (r : Rest CodeValue). Segment nat_eq modules begins (state w) h.at r cs how end) (sym is) seg);
            throws = subst (λ (a : State ℕ S). ThrowsIn modules begins h.at (rounds_at t) h.names (state w) rest (value_of v) a) (sym told)
                (subst (λ (u : CodeValue). ThrowsIn modules begins h.at (rounds_at t) h.names (state w) rest u (with_error (state w) (fault kind message))) (sym made) throws);
            row = staying.left_stays state modules linked begins Ready Keeps owns w after st h.at h.function (rounds_row (rounds_at t)) (length (rounds_row (rounds_at t))) at.stand.fits.home row;
            below = staying.names_stay state modules linked begins Ready Keeps owns w after st late f h.at h.function (rounds_at t) h.names ws at.stand.fits.homes
                (going.same_names state modules linked begins Ready Keeps owns w s f h ws late s.operands.items are h.at h.function (rounds_at t) h.names at.stand.stands.below);
            above = reverse vs;
            stacked = ap values_of operands ∙ at.stand.stands.operands;
            known = subst (λ (u : CodeValue). going.Known state modules linked begins Ready Keeps owns after u) (sym made) tt;
            fits = staying.fits_stay state modules linked begins Ready Keeps owns w after st late h.at ws ready
                (going.same_fits state modules linked begins Ready Keeps owns w s f h ws late s.operands.items are at.stand.fits at.stand.fits.operands);
            keeps = keeps;
          }

      pub faults : (after : W) (result : Result Turn Stop) → ThrowsFault state modules linked begins Ready Keeps w kind message result after → Does result after late
      faults after (Ok (turn.On m)) p = absurd p
      faults after (Ok (turn.Calls count m)) p = absurd p
      faults after (Ok (turn.Returns v)) p = absurd p
      faults after (Ok (turn.Throws v)) p = let t = p at.stand.fits.is_ready in thrown after v t.0 t.1 t.2.is_ready t.2.keeps
      faults after (Err (stops.Limit why)) p = absurd p
      faults after (Err stops.Memory) p = tt

  -- the message is a name, which stands in the table, and these words
  module _ (t : Spot) (vs : List CodeValue) (at : At state modules linked begins Ready Keeps owns w s f n h ws t vs) (rest : Rest CodeValue) (is : rest_at numbered t h.names vs ≡ remains modules begins (rounds_at t) h.names rest)
      (row : IsLeft (Tree w) h.at h.function (rounds_row (rounds_at t)) (length (rounds_row (rounds_at t)))) (kind : FaultKind) (name words : List ℕ)
      (throws : ThrowsIn modules begins h.at (rounds_at t) h.names (state w) rest (new_error (state w)) (with_error (state w) (fault kind (name ++ words)))) where
    pub named_faults : (texts : List (List ℕ)) (k : ℕ) → slice_get texts k ≡ Some name → (told : Option (Bor (List ℕ))) → IsTextAt texts k told → (late : Machine) → with_operands s late → late.operands.items ≡ s.operands.items
        → (after : W) (result : Result Turn Stop) → ThrowsNamed state modules linked begins Ready Keeps w kind told words result after → Does result after late
    named_faults texts k is_name None there late same operands after result p = subst (λ (r : Result Turn Stop). Does r after late) (sym p) tt
    named_faults texts k is_name (Some b) there late same operands after result p =
        faults t vs at rest is kind (name ++ words) throws row late same operands after result
        (subst (λ (x : List ℕ). ThrowsFault state modules linked begins Ready Keeps w kind (x ++ words) result after) (some_same b.now name (sym there ∙ is_name)) p)
