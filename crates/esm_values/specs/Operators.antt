-- Values, as operators see them, and what operators ask of the world.
use Rattle.std.specs.Prelude.{ℕ, nat_lt, Bool, true, false, ◌||◌, List, [], ◌∷◌, ◌++◌, length, ◌/◌, Option, Some, None, codes, if◌then◌else◌, not}
use Rattle.esm_values.specs.Value as value
use Rattle.esm_values.specs.Value.{same_value}
use Rattle.esm_values.specs.Errors.{Errors, error_text}
use Rattle.esm_values.specs.Display.{truth_text}
use Rattle.esm_values.specs.Completion.{Completion, Normal, Throw}
use Rattle.esm_values.specs.Acts.Act.{Display, Fault, Step}
use Rattle.esm_values.specs.Plans.{Plan}
use Rattle.esm_values.specs.Plans.Rewritten.{Goes, Leaves}
use Rattle.esm_values.specs.Plans.Plan.{Ends, Asks}
use Rattle.esm_values.specs.declared.errors.FaultKind.{FaultKind}
use Rattle.esm_values.specs.declared.errors.FaultKind.TheVariants as kinds
use Rattle.esm_base.specs.declared.limits.TheConstants.{MAX_TEXT_BYTES}
use Rattle.esm_values.specs.declared.limits.TheConstants.{BYTES_PER_STEP}

-- what operators see of a value
pub data Look : Type 0 where
  Undefined : Look
  Truth : (b : Bool) → Look
  Text : (text : List ℕ) → Look
  Func : Look
  Error : Look
  -- a namespace or a promise
  Other : Look

-- what the language asks of values
pub record Values (V : Type 0) : Type 0 where
  pub look : V → Look
  -- whether === holds
  pub same : V → V → Bool
  pub undefined : V
  pub truth : Bool → V
  pub text : List ℕ → V

abbrev pub look_of : {N : Type 0} → value.Value N → Look
look_of value.Undefined = Undefined
look_of (value.Truth b) = Truth b
look_of (value.Text t) = Text t
look_of (value.Func m i) = Func
look_of (value.Error id) = Error
look_of (value.Namespace m) = Other
look_of (value.Promise id) = Other

abbrev pub values : {N : Type 0} → (N → N → Bool) → Values (value.Value N)
values same = record {
  look = look_of;
  same = same_value same;
  undefined = value.Undefined;
  truth = λ b. value.Truth b;
  text = λ t. value.Text t;
}

-- ECMA-262, ToBoolean
abbrev pub is_true : Look → Bool
is_true Undefined = false
is_true (Truth b) = b
is_true (Text []) = false
is_true (Text (c ∷ cs)) = true
is_true Func = true
is_true Error = true
is_true Other = true

abbrev pub is_text : Look → Bool
is_text (Text t) = true
is_text _ = false

-- ECMA-262, IsCallable
abbrev pub is_func : Look → Bool
is_func Func = true
is_func _ = false

-- how a value becomes a text
pub data Textual : Type 0 where
  -- by itself
  Known : (text : List ℕ) → Textual
  -- by its display text, which the world knows
  Displayed : Textual
  -- not at all
  Refused : Textual

-- ECMA-262, ToString. own: a function, a namespace and a promise have no text
abbrev pub textual : Look → Textual
textual Undefined = Known (codes "undefined")
textual (Truth b) = Known (truth_text b)
textual (Text t) = Known t
textual Error = Displayed
textual Func = Refused
textual Other = Refused

abbrev pub known_text : Textual → Option (List ℕ)
known_text (Known t) = Some t
known_text Displayed = None
known_text Refused = None

-- the text of what can be joined, an error apart
abbrev pub shown : Look → Option (List ℕ)
shown l = known_text (textual l)

-- the text of a value where these errors were made, if it has one
abbrev pub text_of : {N : Type 0} → Errors → value.Value N → Option (List ℕ)
text_of errors (value.Error id) = Some (error_text errors id)
text_of errors v = shown (look_of v)

abbrev pub either_text : Look → Look → Option (List ℕ) → Option (List ℕ) → Option (List ℕ)
either_text l m (Some s) (Some t) = if is_text l || is_text m then Some (s ++ t) else None
either_text l m _ _ = None

-- ECMA-262, ApplyStringOrNumericBinaryOperator for `+`: the text of a sum, where there is one.
-- own: one of both is a text, and the other a text, a truth value or undefined
abbrev pub joined : Look → Look → Option (List ℕ)
joined l m = either_text l m (shown l) (shown m)

-- === where it is true, !== where not
abbrev pub compare : Bool → Bool → Bool
compare true same = same
compare false same = not same

module _ {V S A : Type 0} (values : Values V) where
  -- throws a new error
  abbrev pub faults : FaultKind → List ℕ → Plan V S A
  faults kind message = Asks (Fault kind message) (λ v. Ends (Leaves v))

  -- own: a text of a sum has at most MAX_TEXT_BYTES, and each BYTES_PER_STEP of them take a step
  abbrev pub made : (V → A) → Option (List ℕ) → Plan V S A
  made rest None = faults kinds.TypeError (codes "bad operands")
  made rest (Some t) =
      if nat_lt MAX_TEXT_BYTES (length t) then faults kinds.RangeError (codes "text length")
      else Asks (Step (length t / BYTES_PER_STEP)) (λ _. Ends (Goes (rest (values.text t))))

  -- own: an error operand of a sum is its display text
  abbrev pub operand : V → Look → (Look → Plan V S A) → Plan V S A
  operand v Error next = Asks (Display v) (λ t. next (Text t))
  operand v l next = next l

  -- a + b, behind both operands
  abbrev pub sum : V → V → (V → A) → Plan V S A
  sum a b rest = operand a (values.look a) (λ l. operand b (values.look b) (λ m. made rest (joined l m)))

  -- goes on with the value of a normal completion, and leaves by the throw of a throw completion
  abbrev pub complete : (V → A) → Completion V → Plan V S A
  complete rest (Normal v) = Ends (Goes (rest v))
  complete rest (Throw v) = Ends (Leaves v)

  abbrev pub to_text_by : V → Textual → (List ℕ → Plan V S A) → Plan V S A
  to_text_by v (Known t) next = next t
  to_text_by v Displayed next = Asks (Display v) next
  to_text_by v Refused next = faults kinds.TypeError (codes "cannot convert to text")

  -- ECMA-262, ToString; own: `cannot convert to text`
  abbrev pub to_text : V → Look → (List ℕ → Plan V S A) → Plan V S A
  to_text v l next = to_text_by v (textual l) next

  abbrev pub new_error : (V → A) → List ℕ → Plan V S A
  new_error rest message = Asks (Fault kinds.Error message) (λ v. Ends (Goes (rest v)))

  -- ECMA-262, Error(message), behind its step: of undefined the message is empty
  abbrev pub error_of : (V → A) → V → Look → Plan V S A
  error_of rest v Undefined = new_error rest []
  error_of rest v l = to_text v l (new_error rest)
