-- What a body asks of the world, and what is answered. m is the module in which the code stands written.
use Rattle.std.specs.Prelude.{◌≡◌, ℕ, Bool, true, false, List, [], ◌∷◌, ◌++◌, Option, Some, None, Result, Ok, Err, codes}
use Rattle.std.specs.Str.{bytes_eq, IsUtf8}
use Rattle.std.specs.List.{All}
use Rattle.esm_base.specs.declared.limits.Limit.{Limit}
use Rattle.esm_resolve.specs.Keys.{AreNamespaceKeysOf}
use Rattle.esm_values.specs.Value.{Value, Undefined, Text, Error, Namespace, Promise}
use Rattle.esm_values.specs.Errors.{Errors, fault, error_message, error_name}
use Rattle.esm_values.specs.Display.{simple_text, namespace_text, printed_line}
use Rattle.esm_values.specs.Operators.{text_of}
use Rattle.esm_values.specs.Completion.{Completion, Normal, Throw}
use Rattle.esm_values.specs.Acts.{Act, AnswerTo}
use Rattle.esm_values.specs.Acts.{Act as act}
use Rattle.esm_values.specs.declared.errors.FaultKind.{FaultKind}
use Rattle.esm_values.specs.declared.errors.FaultKind.TheVariants as kinds
use Rattle.esm_promise.specs.Promises.{make, settle, next_promise}
use Rattle.esm_promise.specs.Promises.Settled.{Rejected}
use Rattle.esm_promise.specs.Outer.{Outer}
use Rattle.esm_env.specs.Modules.{Modules, graph, function_name}
use Rattle.esm_env.specs.Cells.{Cell, Reading, read_cell, write_cell}
use Rattle.esm_env.specs.Cells.{Reading as reading}
use Rattle.esm_env.specs.Reading.{IsReadingOf, IsMemberOf}
use Rattle.esm_env.specs.Writing.{Writing, writing_of}
use Rattle.esm_env.specs.Writing.{Writing as writing}
use Rattle.esm_rewriting.specs.Scopes.{Scope, in_scopes, set_in, set_in_scopes}
use Rattle.esm_rewriting.specs.State.{State, Importing, AnswerWith, take_steps, add_line, new_error, with_error, with_promises}

-- the scopes round the code, the innermost first, over the state in which its module has its cells
pub record Inner (N I : Type 0) : Type 0 where
  pub scopes : List (Scope (Value N))
  pub state : State N I

module _ {N I : Type 0} (modules : I → Modules N) where
  abbrev pub modules_of : State N I → Modules N
  modules_of w = modules w.outer.imports

  -- the display text of a value. Of a namespace it has the keys
  abbrev pub Displays : State N I → Value N → List ℕ → Type 0
  Displays w (Namespace m) text = (keys : List (List ℕ)) × AreNamespaceKeysOf (graph (modules_of w)) ((modules_of w).number m) keys
      × All IsUtf8 keys × (text ≡ namespace_text keys)
  Displays w v text = simple_text (function_name (modules_of w)) w.outer.errors v ≡ Some text

  abbrev pub DisplaysAll : State N I → List (Value N) → List (List ℕ) → Type 0
  DisplaysAll w [] texts = texts ≡ []
  DisplaysAll w (v ∷ vs) texts = (text : List ℕ) × (others : List (List ℕ)) × Displays w v text × DisplaysAll w vs others
      × (texts ≡ text ∷ others)

abbrev pub member_by : {N : Type 0} → Bool → Bool → Errors → ℕ → Value N
member_by true name errors id = Text (error_message errors id)
member_by false true errors id = Text (error_name errors id)
member_by false false errors id = Undefined

-- own: an error has the members `message` and `name`, and no other
abbrev pub error_member : {N : Type 0} → Errors → ℕ → List ℕ → Value N
error_member errors id x = member_by (bytes_eq x (codes "message")) (bytes_eq x (codes "name")) errors id

abbrev pub import_answer : {N : Type 0} → ℕ → Result (Unit {0}) Limit → Result (Value N) Limit
import_answer p (Ok done) = Ok (Promise p)
import_answer p (Err limit) = Err limit

-- own: the messages of errors about names
abbrev pub not_initialized : List ℕ → List ℕ
not_initialized x = x ++ codes " is not initialized"

abbrev pub not_defined : List ℕ → List ℕ
not_defined x = x ++ codes " is not defined"

abbrev pub is_constant : List ℕ → List ℕ
is_constant x = x ++ codes " is constant"

module _ {N I : Type 0} where
  abbrev pub with_state : Inner N I → State N I → Inner N I
  with_state w s = record w { state = s }

  -- a new error was made
  abbrev pub with_new : Inner N I → FaultKind → List ℕ → Inner N I
  with_new w kind message = with_state w (with_error w.state (fault kind message))

  -- a new error is thrown
  abbrev pub throws_new : Inner N I → FaultKind → List ℕ → AnswerWith (Completion (Value N)) (Inner N I)
  throws_new w kind message = (Ok (Throw (new_error w.state)), with_new w kind message)

  abbrev pub gives : Inner N I → Value N → AnswerWith (Completion (Value N)) (Inner N I)
  gives w v = (Ok (Normal v), w)

  -- ECMA-262, GetBindingValue: an unset name, and one that isn't declared, throws a ReferenceError
  abbrev pub read_answer : Inner N I → List ℕ → Reading (Value N) → AnswerWith (Completion (Value N)) (Inner N I)
  read_answer w x (reading.Value v) = gives w v
  read_answer w x reading.Unset = throws_new w kinds.ReferenceError (not_initialized x)
  read_answer w x reading.Undeclared = throws_new w kinds.ReferenceError (not_defined x)

  abbrev pub over_scopes : {A : Type 0} → Inner N I → AnswerWith A (State N I) → AnswerWith A (Inner N I)
  over_scopes w (answer, s) = (answer, with_state w s)

  -- ---- import()

  -- ECMA-262, IfAbruptRejectPromise: where the value has no text, a new promise is rejected. own: its message
  abbrev pub refuse_import : State N I → State N I
  refuse_import w =
      let refused = with_error w (fault kinds.TypeError (codes "cannot convert to text")) in
      with_promises refused (settle (make w.outer.promises []) (next_promise w.outer.promises) (Rejected (new_error w)))

  -- a new promise is made
  abbrev pub with_promise : State N I → State N I
  with_promise w = with_promises w (make w.outer.promises [])

  abbrev pub with_outer : State N I → Outer N I → State N I
  with_outer w o = record w { outer = o }

module _ {N I : Type 0} (same : N → N → Bool) (modules : I → Modules N) (begins : Importing N I) (m : N) where
  abbrev pub ReadsBy : State N I → List ℕ → Option (Cell (Value N)) → Reading (Value N) → Type 0
  ReadsBy w x (Some c) read = read ≡ read_cell (Some c)
  ReadsBy w x None read = IsReadingOf (modules_of modules w) w.cells m x read

  -- ECMA-262, ResolveBinding: a name is read in the innermost scope that declares it, else in the module
  abbrev pub ReadsName : Inner N I → List ℕ → Reading (Value N) → Type 0
  ReadsName w x read = ReadsBy w.state x (in_scopes w.scopes x) read

  -- own: other values than namespaces and errors have no members
  abbrev pub ReadsMemberOf : Inner N I → Value N → List ℕ → AnswerWith (Completion (Value N)) (Inner N I) → Type 0
  ReadsMemberOf w (Namespace k) x told =
      (read : Reading (Value N)) × IsMemberOf (modules_of modules w.state) w.state.cells k x read × (told ≡ read_answer w x read)
  ReadsMemberOf w (Error id) x told = told ≡ gives w (error_member w.state.outer.errors id x)
  ReadsMemberOf w v x told = told ≡ throws_new w kinds.TypeError (codes "no members")

  -- ECMA-262, EvaluateImportCall: a new promise; without a text it is rejected at once
  abbrev pub BeginsBy : Inner N I → Option (List ℕ) → AnswerWith (Value N) (Inner N I) → Type 0
  BeginsBy w None told = told ≡ (Ok (Promise (next_promise w.state.outer.promises)), with_state w (refuse_import w.state))
  BeginsBy w (Some specifier) told = (end : Result (Unit {0}) Limit) × (after : Outer N I)
      × begins (with_promise w.state).outer m specifier (next_promise w.state.outer.promises) end after
      × (told ≡ (import_answer (next_promise w.state.outer.promises) end, with_state w (with_outer w.state after)))

  -- each call on the world and its answer
  abbrev pub AnswersAct : Inner N I → (a : Act (Value N)) → AnswerWith (AnswerTo a) (Inner N I) → Type 0
  AnswersAct w (act.Read x) told = (read : Reading (Value N)) × ReadsName w x read × (told ≡ read_answer w x read)
  AnswersAct w (act.Member of x) told = ReadsMemberOf w of x told
  AnswersAct w (act.Display of) told = (text : List ℕ) × Displays modules w.state of text × (told ≡ (Ok text, w))
  AnswersAct w (act.Print vs) told =
      (texts : List (List ℕ)) × DisplaysAll modules w.state vs texts × (told ≡ over_scopes w (add_line w.state (printed_line texts)))
  AnswersAct w (act.Fault kind message) told = told ≡ (Ok (new_error w.state), with_new w kind message)
  AnswersAct w (act.Step steps) told = told ≡ over_scopes w (take_steps w.state steps)
  AnswersAct w (act.Import of) told = BeginsBy w (text_of w.state.outer.errors of) told

  abbrev pub Performs : Inner N I → (a : Act (Value N)) → Result (AnswerTo a) Limit → Inner N I → Type 0
  Performs w a answer after = AnswersAct w a (answer, after)

  -- ---- names that are set and written

  abbrev pub set_at : List (Scope (Value N)) → State N I → List ℕ → Value N → Inner N I
  set_at [] w x v = record { scopes = []; state = record w { cells = write_cell same w.cells m x v } }
  set_at (s ∷ ss) w x v = record { scopes = set_in s x v ∷ ss; state = w }

  -- ECMA-262, InitializeReferencedBinding: a declaration sets its name, in the scope in which it stands
  abbrev pub set_name : Inner N I → List ℕ → Value N → Inner N I
  set_name w x v = set_at w.scopes w.state x v

  -- what an assignment throws, if it throws, and what is then
  abbrev pub throws_unset : Inner N I → List ℕ → Option (Value N) × Inner N I
  throws_unset w x = (Some (new_error w.state), with_new w kinds.ReferenceError (not_initialized x))

  abbrev pub throws_constant : Inner N I → List ℕ → Option (Value N) × Inner N I
  throws_constant w x = (Some (new_error w.state), with_new w kinds.TypeError (is_constant x))

  abbrev pub module_write : Inner N I → List ℕ → Writing N → Option (Value N) × Inner N I
  module_write w x (writing.Done cells) = (None, with_state w (record w.state { cells = cells }))
  module_write w x writing.Unset = throws_unset w x
  module_write w x writing.Constant = throws_constant w x
  module_write w x writing.Undeclared = (Some (new_error w.state), with_new w kinds.ReferenceError (not_defined x))

  -- that a name is unset is told before that it is a constant
  abbrev pub scope_write : Inner N I → List ℕ → Value N → Bool → Option (Value N) → Option (Value N) × Inner N I
  scope_write w x v constant None = throws_unset w x
  scope_write w x v true (Some old) = throws_constant w x
  scope_write w x v false (Some old) = (None, record w { scopes = set_in_scopes w.scopes x v })

  abbrev pub write_in : Inner N I → List ℕ → Value N → Option (Cell (Value N)) → Option (Value N) × Inner N I
  write_in w x v (Some c) = scope_write w x v c.constant c.value
  write_in w x v None = module_write w x (writing_of same (modules_of modules w.state) w.state.cells m x v)

  -- ECMA-262, PutValue and SetMutableBinding
  abbrev pub write_name : Inner N I → List ℕ → Value N → Option (Value N) × Inner N I
  write_name w x v = write_in w x v (in_scopes w.scopes x)
