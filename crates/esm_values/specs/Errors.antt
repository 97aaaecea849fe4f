-- Error values. ECMA-262, Error Objects: the id of an error is its place in order of making.
use Rattle.std.specs.Prelude.{ℕ, List, [], ◌∷◌, ◌++◌, length, slice_get, Option, Some, None, codes}
use Rattle.esm_values.specs.declared.errors.FaultKind.{FaultKind}
use Rattle.esm_values.specs.declared.errors.FaultKind.TheVariants as kinds
use Rattle.esm_values.specs.declared.errors.Fault.{Fault}

-- the errors that were made, in order of making
abbrev pub Errors : Type 0
Errors = List Fault

abbrev pub fault : FaultKind → List ℕ → Fault
fault kind message = record { kind = kind; message = message }

-- the id of the error that is made next
abbrev pub next_error : Errors → ℕ
next_error errors = length errors

abbrev pub make_error : Errors → Fault → Errors
make_error errors f = errors ++ f ∷ []

-- ECMA-262, the `name` of Error and of each NativeError
abbrev pub kind_name : FaultKind → List ℕ
kind_name kinds.Error = codes "Error"
kind_name kinds.TypeError = codes "TypeError"
kind_name kinds.ReferenceError = codes "ReferenceError"
kind_name kinds.SyntaxError = codes "SyntaxError"
kind_name kinds.RangeError = codes "RangeError"

abbrev pub text_by : List ℕ → List ℕ → List ℕ
text_by name [] = name
text_by name (c ∷ cs) = name ++ codes ": " ++ c ∷ cs

-- ECMA-262, Error.prototype.toString: KIND: MESSAGE, or KIND where the message is empty
abbrev pub fault_text : Fault → List ℕ
fault_text f = text_by (kind_name f.kind) f.message

-- an error that wasn't made has the empty text, message and name
abbrev pub text_in : Option Fault → List ℕ
text_in None = []
text_in (Some f) = fault_text f

abbrev pub error_text : Errors → ℕ → List ℕ
error_text errors id = text_in (slice_get errors id)

abbrev pub message_in : Option Fault → List ℕ
message_in None = []
message_in (Some f) = f.message

-- ECMA-262, the `message` of an error
abbrev pub error_message : Errors → ℕ → List ℕ
error_message errors id = message_in (slice_get errors id)

abbrev pub name_in : Option Fault → List ℕ
name_in None = []
name_in (Some f) = kind_name f.kind

-- ECMA-262, the `name` of an error
abbrev pub error_name : Errors → ℕ → List ℕ
error_name errors id = name_in (slice_get errors id)
