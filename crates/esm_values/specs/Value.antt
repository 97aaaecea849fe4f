-- The values of the body language. ECMA-262, ECMAScript Language Types. Modules have names of any kind N: URLs in the
-- world, numbers in the code.
use Rattle.std.specs.Prelude.{ℕ, Bool, true, false, not, ◌&&◌, List, nat_eq}
use Rattle.std.specs.Str.{bytes_eq}

pub data Value (N : Type 0) : Type 0 where
  Undefined : Value N
  Truth : (b : Bool) → Value N
  Text : (text : List ℕ) → Value N
  -- the function with this number in this module
  Func : (m : N) (index : ℕ) → Value N
  -- the error value that was made as the id-th
  Error : (id : ℕ) → Value N
  -- the namespace of this module
  Namespace : (m : N) → Value N
  -- the promise that was made as the id-th
  Promise : (id : ℕ) → Value N

abbrev pub same_truth : Bool → Bool → Bool
same_truth true b = b
same_truth false b = not b

-- ECMA-262, IsStrictlyEqual: texts by their characters, truth values and undefined by value, all others by identity
abbrev pub same_value : {N : Type 0} → (N → N → Bool) → Value N → Value N → Bool
same_value same Undefined Undefined = true
same_value same (Truth b) (Truth c) = same_truth b c
same_value same (Text s) (Text t) = bytes_eq s t
same_value same (Func m i) (Func n j) = same m n && nat_eq i j
same_value same (Error i) (Error j) = nat_eq i j
same_value same (Namespace m) (Namespace n) = same m n
same_value same (Promise i) (Promise j) = nat_eq i j
same_value same _ _ = false
