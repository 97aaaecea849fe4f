-- What was said of a result, said with more, or of what was taken before.
use Rattle.std.proofs.Common.{◌≡◌, ℕ, Bool, List, [], ◌∷◌, ◌++◌, Option, Some, sym, subst, ◌∙◌}
use Rattle.std.specs.Borrow.{Bor}
use Rattle.std.specs.Prelude.{slice_get, is_some, Result, Ok, Err}
use Rattle.esm_env.specs.Modules.{Modules}
use Rattle.esm_rewriting.specs.State.{State, Importing}
use Rattle.esm_values.specs.declared.value.Value.{Value}
use Rattle.esm_rewriting.specs.declared.stop.Stop.{Stop}
use Rattle.esm_rewriting.specs.declared.stop.Stop.TheVariants as stops
use Rattle.esm_row_machine.specs.Changes.{Popped}
use Rattle.esm_row_machine.specs.Naming.{GoesTo, FoundAt, PutsFound, WritesWhere}
use Rattle.esm_row_machine.specs.declared.turn.Turn.{Turn}
use Rattle.esm_row_machine.specs.declared.turn.Turn.TheVariants as turn

pub goes_more : (left : ℕ) (P Q : Type 0) → (P → Q) → (result : Result Turn Stop) → GoesTo left P result → GoesTo left Q result
goes_more left P Q on (Ok (turn.On n)) p = (p.0, on p.1)
goes_more left P Q on (Ok (turn.Calls count n)) p = absurd p
goes_more left P Q on (Ok (turn.Returns v)) p = absurd p
goes_more left P Q on (Ok (turn.Throws v)) p = absurd p
goes_more left P Q on (Err (stops.Limit why)) p = absurd p
goes_more left P Q on (Err stops.Memory) p = tt

pub popped_is : (vs items : List Value) (v : Value) (P : List Value → Value → Result Turn Stop → Type 0) → vs ≡ items ++ v ∷ [] → (result : Result Turn Stop) → P items v result → Popped vs P result
popped_is vs items v P e (Ok t) p = (items, v, e, p)
popped_is vs items v P e (Err (stops.Limit why)) p = (items, v, e, p)
popped_is vs items v P e (Err stops.Memory) p = tt

pub found_is : (ns : List (Option Value)) (at : ℕ) (v : Option Value) (P : Option Value → Result Turn Stop → Type 0) → slice_get ns at ≡ Some v → (result : Result Turn Stop) → P v result → FoundAt ns at P result
found_is ns at v P e (Ok t) p = (v, e, p)
found_is ns at v P e (Err (stops.Limit why)) p = (v, e, p)
found_is ns at v P e (Err stops.Memory) p = tt

-- ---- a write of a name that is set, or isn't

module _ {W S : Type 0} (state : W → State ℕ S) (modules : S → Modules ℕ) (linked : S → ℕ → Bool) (begins : Importing ℕ S)
    (Ready : W → Type 0) (Keeps : W → W → Type 0) (constant : Bool) (w : W) (vs : List Value) (ns : List (Option Value)) (at left : ℕ) (name : Option (Bor (List ℕ))) (after : W) (us : List Value) (late : List (Option Value)) where
  abbrev Writes : Bool → Result Turn Stop → Type 0
  Writes set r = WritesWhere state modules linked begins Ready Keeps set constant w vs ns at name left r after us late

  pub written : (set : Bool) (v : Option Value) → slice_get ns at ≡ Some v → set ≡ is_some v → (known : Bool) → set ≡ known → (result : Result Turn Stop) → Writes known result → FoundAt ns at (λ v r. Writes (is_some v) r) result
  written set v there is known e result p = found_is ns at v (λ v r. Writes (is_some v) r) there result (subst (λ (b : Bool). Writes b result) (sym e ∙ is) p)

-- ---- a read of one

module _ {W S : Type 0} (state : W → State ℕ S) (modules : S → Modules ℕ) (linked : S → ℕ → Bool) (begins : Importing ℕ S)
    (Ready : W → Type 0) (Keeps : W → W → Type 0) (w : W) (vs : List Value) (ns : List (Option Value)) (at left : ℕ) (name : Option (Bor (List ℕ))) (after : W) (us : List Value) where
  abbrev Reads : Option Value → Result Turn Stop → Type 0
  Reads v r = PutsFound state modules linked begins Ready Keeps w vs v name left r after us

  pub read : (v : Option Value) → slice_get ns at ≡ Some v → (result : Result Turn Stop) → Reads v result → FoundAt ns at (λ v r. Reads v r) result
  read v there result p = found_is ns at v (λ v r. Reads v r) there result p
