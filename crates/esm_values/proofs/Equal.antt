-- === holds exactly between equal values.
use Rattle.std.proofs.Common.{◌≡◌, ◌&&◌, ℕ, Bool, true, false, List, refl, ap, nat_eq}
use Rattle.std.specs.Str.{bytes_eq}
use Rattle.esm_values.specs.Value.{Value, Undefined, Truth, Text, Func, Error, Namespace, Promise, same_truth, same_value}
use Rattle.esm_values.specs.Laws.{SameIsEqual}
use Rattle.std.proofs.lemmas.Bool.{eqb-true, eq-eqb}
use Rattle.std.proofs.lemmas.Slice.Eq.{bytes_eq-Decides}

text_same : (s t : List ℕ) → bytes_eq s t ≡ true → s ≡ t
text_same s t h = (bytes_eq-Decides s t).0 h

text_itself : (s : List ℕ) → bytes_eq s s ≡ true
text_itself s = (bytes_eq-Decides s s).1 refl

nat_itself : (i : ℕ) → nat_eq i i ≡ true
nat_itself i = eq-eqb i i refl

truth_same : (b c : Bool) → same_truth b c ≡ true → b ≡ c
truth_same true true h = refl
truth_same true false h = cc
truth_same false true h = cc
truth_same false false h = refl

truth_itself : (b : Bool) → same_truth b b ≡ true
truth_itself true = refl
truth_itself false = refl

left : (b c : Bool) → b && c ≡ true → b ≡ true
left true c h = refl
left false c h = cc

right : (b c : Bool) → b && c ≡ true → c ≡ true
right true c h = h
right false c h = cc

and_from : (b c : Bool) → b ≡ true → c ≡ true → b && c ≡ true
and_from true c h k = k
and_from false c h k = cc

equal : (v w : Value ℕ) → same_value nat_eq v w ≡ true → v ≡ w
equal Undefined Undefined h = refl
equal (Truth b) (Truth c) h = ap (λ b. Truth b) (truth_same b c h)
equal (Text s) (Text t) h = ap (λ t. Text t) (text_same s t h)
equal (Func m i) (Func n j) h =
    let modules : m ≡ n = eqb-true m n (left (nat_eq m n) (nat_eq i j) h) in
    let indexes : i ≡ j = eqb-true i j (right (nat_eq m n) (nat_eq i j) h) in
    cc
equal (Error i) (Error j) h = ap (λ i. Error i) (eqb-true i j h)
equal (Namespace m) (Namespace n) h = ap (λ m. Namespace m) (eqb-true m n h)
equal (Promise i) (Promise j) h = ap (λ i. Promise i) (eqb-true i j h)
equal Undefined (Truth c) h = cc
equal Undefined (Text t) h = cc
equal Undefined (Func n j) h = cc
equal Undefined (Error j) h = cc
equal Undefined (Namespace n) h = cc
equal Undefined (Promise j) h = cc
equal (Truth b) Undefined h = cc
equal (Truth b) (Text t) h = cc
equal (Truth b) (Func n j) h = cc
equal (Truth b) (Error j) h = cc
equal (Truth b) (Namespace n) h = cc
equal (Truth b) (Promise j) h = cc
equal (Text s) Undefined h = cc
equal (Text s) (Truth c) h = cc
equal (Text s) (Func n j) h = cc
equal (Text s) (Error j) h = cc
equal (Text s) (Namespace n) h = cc
equal (Text s) (Promise j) h = cc
equal (Func m i) Undefined h = cc
equal (Func m i) (Truth c) h = cc
equal (Func m i) (Text t) h = cc
equal (Func m i) (Error j) h = cc
equal (Func m i) (Namespace n) h = cc
equal (Func m i) (Promise j) h = cc
equal (Error i) Undefined h = cc
equal (Error i) (Truth c) h = cc
equal (Error i) (Text t) h = cc
equal (Error i) (Func n j) h = cc
equal (Error i) (Namespace n) h = cc
equal (Error i) (Promise j) h = cc
equal (Namespace m) Undefined h = cc
equal (Namespace m) (Truth c) h = cc
equal (Namespace m) (Text t) h = cc
equal (Namespace m) (Func n j) h = cc
equal (Namespace m) (Error j) h = cc
equal (Namespace m) (Promise j) h = cc
equal (Promise i) Undefined h = cc
equal (Promise i) (Truth c) h = cc
equal (Promise i) (Text t) h = cc
equal (Promise i) (Func n j) h = cc
equal (Promise i) (Error j) h = cc
equal (Promise i) (Namespace n) h = cc

same : (v : Value ℕ) → same_value nat_eq v v ≡ true
same Undefined = refl
same (Truth b) = truth_itself b
same (Text t) = text_itself t
same (Func m i) = and_from (nat_eq m m) (nat_eq i i) (nat_itself m) (nat_itself i)
same (Error i) = nat_itself i
same (Namespace m) = nat_itself m
same (Promise i) = nat_itself i

pub same_is_equal : SameIsEqual
same_is_equal = record { equal = equal; same = same }
