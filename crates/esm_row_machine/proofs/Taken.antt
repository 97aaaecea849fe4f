-- What was taken from the operands, where the result is anything.
use Rattle.std.proofs.Common.{◌≡◌, ℕ, ◌≤◌, ◌-◌, List, [], ◌∷◌, ◌++◌, length, take, drop, take-append-drop, sym, arith}
use Rattle.std.proofs.lemmas.List.{length-drop, take_all}
use Rattle.std.specs.Prelude.{Result, Ok, Err}
use Rattle.esm_values.specs.declared.value.Value.{Value}
use Rattle.esm_rewriting.specs.declared.stop.Stop.{Stop}
use Rattle.esm_rewriting.specs.declared.stop.Stop.TheVariants as stops
use Rattle.esm_row_machine.specs.Changes.{PoppedTwo}
use Rattle.esm_row_machine.specs.Asking.{PoppedMany}
use Rattle.esm_row_machine.specs.declared.turn.Turn.{Turn}

pub popped_two : (P : List Value → Value → Value → Result Turn Stop → Type 0) (vs items : List Value) (u v : Value) → vs ≡ items ++ u ∷ v ∷ [] → (result : Result Turn Stop) → P items u v result → PoppedTwo vs P result
popped_two P vs items u v e (Ok t) p = (items, u, v, e, p)
popped_two P vs items u v e (Err (stops.Limit why)) p = (items, u, v, e, p)
popped_two P vs items u v e (Err stops.Memory) p = tt

pub popped_many : (P : List Value → List Value → Result Turn Stop → Type 0) (vs items us : List Value) (n : ℕ) → vs ≡ items ++ us → length us ≡ n → (result : Result Turn Stop) → P items us result → PoppedMany vs n P result
popped_many P vs items us n e long (Ok t) p = (items, us, e, long, p)
popped_many P vs items us n e long (Err (stops.Limit why)) p = (items, us, e, long, p)
popped_many P vs items us n e long (Err stops.Memory) p = tt

-- the last of a list that is so long
pub last_of : {A : Type 0} (long n : ℕ) (xs : List A) → long ≡ length xs → n ≤ long → length (drop (long - n) xs) ≡ n
last_of long n xs e h = let d = length-drop (long - n) xs in omega (arith, d, e, h)

pub cut_at : {A : Type 0} (n : ℕ) (xs : List A) → xs ≡ take n xs ++ drop n xs
cut_at n xs = sym (take-append-drop n xs)

pub rest_is : {A : Type 0} (n : ℕ) (xs : List A) → take (length xs - n) (drop n xs) ≡ drop n xs
rest_is n xs = let e = length-drop n xs in take_all (length xs - n) (drop n xs) (omega (arith, e))
