-- A function begins on the stacks.
use Rattle.std.proofs.Common.{◌≡◌, ◌<◌, ℕ, zero, suc, ◌+◌, ◌-◌, List, ◌∷◌, ◌++◌, length, take, drop, Option, None, refl, ap, sym, ◌∙◌, arith}
use Rattle.std.proofs.lemmas.List.{append_assoc, map-append, length-drop}
use Rattle.std.proofs.Math.Seq.{take-length}
use Rattle.std.specs.Prelude.{replicate}
use Rattle.esm_values.specs.Code.{values_of}
use Rattle.esm_values.specs.declared.value.FuncId.{FuncId}
use Rattle.esm_values.specs.declared.value.Value.{Value}
use Rattle.esm_rows.specs.declared.row.Row.{Row}
use Rattle.esm_row_machine.specs.Stacks.{names_on, name_value}
use Rattle.esm_row_machine.specs.Entering.{passed, EntersAs}
use Rattle.esm_row_machine.specs.declared.machine.Frame.{Frame}
use Rattle.esm_row_machine.specs.declared.machine.Machine.{Machine}
use Rattle.esm_row_machine.proofs.Told.{joined}
use Rattle.esm_row_machine.proofs.Splitting.{Split, split_at}

-- a slice from here on
pub slice_is : (ys xs : List Value) (n : ℕ) → ys ≡ xs → take (length ys - n) (drop n ys) ≡ drop n xs
slice_is ys xs n e = ap (λ k. take k (drop n ys)) (sym (length-drop n ys)) ∙ take-length (drop n ys) ∙ ap (λ zs. drop n zs) e

-- no value
abbrev unset_value : Option Value
unset_value = None

unset_names : (n : ℕ) → names_on (replicate n unset_value) ≡ replicate n None
unset_names zero = refl
unset_names (suc n) = ap (λ ys. None ∷ ys) (unset_names n)

names_begun : (xs : List (Option Value)) (n : ℕ) → names_on (xs ++ replicate n None) ≡ names_on xs ++ replicate n None
names_begun xs n = map-append name_value xs (replicate n None) ∙ ap (λ ys. names_on xs ++ ys) (unset_names n)

module _ (s : Machine) (function : FuncId) (row : Row) (count begin : ℕ) (few : count < length s.operands.items) (at : begin ≡ length s.operands.items - count) where
  abbrev place : Split s.operands.items (begin - 1)
  place = split_at s.operands.items (begin - 1) (omega (arith, few, at))

  behind : begin ≡ suc (begin - 1)
  behind = omega (arith, few, at)

  many_over : length place.over ≡ count
  many_over =
      let whole : length s.operands.items ≡ length place.under + suc (length place.over) = ap length place.whole ∙ joined place.under (place.element ∷ place.over) in
      omega (arith, whole, place.long, few, at)

  module _ (given : List Value) (are : given ≡ drop begin s.operands.items) (mid : List (Option Value)) (pass : names_on mid ≡ names_on s.names.items ++ passed row.parameters (values_of given)) where
    arguments_are : given ≡ place.over
    arguments_are = are ∙ ap (λ n. drop n s.operands.items) behind ∙ place.back

    names_there : names_on (mid ++ replicate row.names None) ≡ names_on s.names.items ++ (passed row.parameters (values_of place.over) ++ replicate row.names None)
    names_there =
        names_begun mid row.names ∙ ap (λ ns. ns ++ replicate row.names None) pass
        ∙ append_assoc (names_on s.names.items) (passed row.parameters (values_of given)) (replicate row.names None)
        ∙ ap (λ vs. names_on s.names.items ++ (passed row.parameters (values_of vs) ++ replicate row.names None)) arguments_are

    pub entered : (late : Machine) → late.operands.items ≡ take (begin - 1) s.operands.items → late.names.items ≡ mid ++ replicate row.names None → late.handlers.items ≡ s.handlers.items → late.frames.items ≡ s.frames.items
        → (g : Frame) → g.at ≡ function.module → g.function ≡ function.index → g.left ≡ length row.ops.items → g.names ≡ length s.names.items → g.operands ≡ begin - 1 → g.handlers ≡ length s.handlers.items
        → EntersAs s function row count g late
    entered late operands names handlers frames g home number left names_below operands_below handlers_below = record {
      under = place.under;
      callee = place.element;
      arguments = place.over;
      stacked = place.whole;
      many = many_over;
      operands = operands ∙ place.front;
      names = ap names_on names ∙ names_there;
      handlers = handlers;
      frames = frames;
      home = home;
      number = number;
      left = left;
      names_below = names_below;
      operands_below = operands_below ∙ sym place.long;
      handlers_below = handlers_below;
    }
