-- Which values have texts.
use Rattle.std.proofs.Common.{◌≡◌, ◌⊎◌, true, false, [], ◌∷◌, refl, inl, inr}
use Rattle.esm_values.specs.Value as value
use Rattle.esm_values.specs.Operators.{Look, Undefined, Truth, Text, Func, Error, Other, is_true}
use Rattle.esm_values.specs.Laws.{DisplaysOne, FalsyAreThree, SumsTexts}

pub displays_one : DisplaysOne
displays_one name_of errors value.Undefined = inl (_, refl)
displays_one name_of errors (value.Truth b) = inl (_, refl)
displays_one name_of errors (value.Text t) = inl (_, refl)
displays_one name_of errors (value.Func m i) = inl (_, refl)
displays_one name_of errors (value.Error id) = inl (_, refl)
displays_one name_of errors (value.Namespace m) = inr (m, refl)
displays_one name_of errors (value.Promise id) = inl (_, refl)

others : (l : Look) → is_true l ≡ false → (l ≡ Undefined) ⊎ (l ≡ Truth false) ⊎ (l ≡ Text [])
others Undefined h = inl refl
others (Truth true) h = cc
others (Truth false) h = inr (inl refl)
others (Text []) h = inr (inr refl)
others (Text (c ∷ cs)) h = cc
others Func h = cc
others Error h = cc
others Other h = cc

pub falsy_are_three : FalsyAreThree
falsy_are_three = record { undefined = refl; truth = λ b. refl; empty = refl; others = others }

pub sums_texts : SumsTexts
sums_texts Undefined Undefined = refl
sums_texts Undefined (Truth c) = refl
sums_texts Undefined (Text t) = refl
sums_texts Undefined Func = refl
sums_texts Undefined Error = refl
sums_texts Undefined Other = refl
sums_texts (Truth b) Undefined = refl
sums_texts (Truth b) (Truth c) = refl
sums_texts (Truth b) (Text t) = refl
sums_texts (Truth b) Func = refl
sums_texts (Truth b) Error = refl
sums_texts (Truth b) Other = refl
sums_texts (Text s) Undefined = refl
sums_texts (Text s) (Truth c) = refl
sums_texts (Text s) (Text t) = refl
sums_texts (Text s) Func = refl
sums_texts (Text s) Error = refl
sums_texts (Text s) Other = refl
sums_texts Func Undefined = refl
sums_texts Func (Truth c) = refl
sums_texts Func (Text t) = refl
sums_texts Func Func = refl
sums_texts Func Error = refl
sums_texts Func Other = refl
sums_texts Error Undefined = refl
sums_texts Error (Truth c) = refl
sums_texts Error (Text t) = refl
sums_texts Error Func = refl
sums_texts Error Error = refl
sums_texts Error Other = refl
sums_texts Other Undefined = refl
sums_texts Other (Truth c) = refl
sums_texts Other (Text t) = refl
sums_texts Other Func = refl
sums_texts Other Error = refl
sums_texts Other Other = refl
