-- What bodies ask of the world, and what is answered, follows the names of modules.
use Rattle.std.proofs.Common.{◌≡◌, ℕ, ◌+◌, Bool, true, false, ◌&&◌, nat_eq, List, [], ◌∷◌, map, Option, Some, None, refl, ap, subst, sym, ◌∙◌, length}
use Rattle.std.specs.Prelude.{Result, Ok, Err, nat_lt, codes}
use Rattle.std.specs.Option.{option_map}
use Rattle.std.specs.Str.{bytes_eq}
use Rattle.esm_base.specs.declared.limits.Limit.{Limit}
use Rattle.esm_base.specs.declared.limits.TheConstants.{MAX_STEPS, MAX_LOG_BYTES}
use Rattle.esm_base.specs.Lists.{IsSameness}
use Rattle.esm_tree.specs.Syntax.{Item}
use Rattle.esm_values.specs.Value.{Value, Undefined, Truth, Text, Func, Error, Namespace, Promise}
use Rattle.esm_values.specs.Errors.{Errors}
use Rattle.esm_values.specs.Display.{printed_line, function_text}
use Rattle.esm_values.specs.Completion.{Completion, Normal}
use Rattle.esm_values.specs.Acts.{Act, AnswerTo}
use Rattle.esm_values.specs.Acts.{Act as act}
use Rattle.esm_values.specs.Operators.{values, look_of, text_of}
use Rattle.esm_values.specs.Value.{same_value}
use Rattle.esm_values.specs.Naming.{Naming, renamed_value, mapped_act, mapped_result, LooksAlike}
use Rattle.esm_expr_eval.specs.Naming.{ActsFollow}
use Rattle.esm_promise.specs.Promises.{Promises, Rejected, make, settle, next_promise}
use Rattle.esm_promise.specs.Reactions.{Reaction}
use Rattle.esm_promise.specs.Renaming.{renamed}
use Rattle.esm_promise.proofs.Renamed as promises
use Rattle.esm_promise.specs.Outer.{Outer}
use Rattle.esm_env.specs.Declarations.{function_at}
use Rattle.esm_env.specs.Modules.{Modules, name_by}
use Rattle.esm_env.specs.Cells.{Cell, Reading}
use Rattle.esm_env.specs.Cells.{Reading as reading}
use Rattle.esm_env.specs.Writing.{Writing, writing_of}
use Rattle.esm_env.specs.Writing.{Writing as writing}
use Rattle.esm_env.specs.Naming.{AreNamed, renamed_reading, renamed_writing, WritesFollow}
use Rattle.esm_env.proofs.Named as env
use Rattle.esm_rewriting.specs.Scopes.{Scope, in_scopes}
use Rattle.esm_rewriting.specs.State.{State, Importing, AnswerWith, steps_by, add_line, line_by}
use Rattle.esm_rewriting.specs.Acts.{Inner, Displays, DisplaysAll, ReadsBy, ReadsMemberOf, BeginsBy, AnswersAct, Performs, modules_of, member_by, read_answer, over_scopes, import_answer, with_outer, refuse_import, set_at, write_in, write_name, scope_write, module_write}
use Rattle.esm_rewriting.specs.Naming.{mapped_scope, renamed_outer, renamed_state, ImportsFollow}
use Rattle.esm_rewriting.proofs.NamedRests.{of_cell, in_scopes_follow, set_follows, set_scopes_follow}

-- ---- values

module _ {M N : Type 0} (name : M → N) where
  looks : (v : Value M) → look_of (renamed_value name v) ≡ look_of v
  looks Undefined = refl
  looks (Truth b) = refl
  looks (Text t) = refl
  looks (Func m i) = refl
  looks (Error e) = refl
  looks (Namespace m) = refl
  looks (Promise p) = refl

  texts : (errors : Errors) (v : Value M) → text_of errors (renamed_value name v) ≡ text_of errors v
  texts errors Undefined = refl
  texts errors (Truth b) = refl
  texts errors (Text t) = refl
  texts errors (Func m i) = refl
  texts errors (Error e) = refl
  texts errors (Namespace m) = refl
  texts errors (Promise p) = refl

module _ {M N : Type 0} (name : M → N) (one : M → M → Bool) (other : N → N → Bool) (same : (m n : M) → other (name m) (name n) ≡ one m n) where
  same_values : (u v : Value M) → same_value other (renamed_value name u) (renamed_value name v) ≡ same_value one u v
  same_values Undefined Undefined = refl
  same_values Undefined (Truth c) = refl
  same_values Undefined (Text u) = refl
  same_values Undefined (Func n j) = refl
  same_values Undefined (Error f) = refl
  same_values Undefined (Namespace n) = refl
  same_values Undefined (Promise q) = refl
  same_values (Truth b) Undefined = refl
  same_values (Truth b) (Truth c) = refl
  same_values (Truth b) (Text u) = refl
  same_values (Truth b) (Func n j) = refl
  same_values (Truth b) (Error f) = refl
  same_values (Truth b) (Namespace n) = refl
  same_values (Truth b) (Promise q) = refl
  same_values (Text t) Undefined = refl
  same_values (Text t) (Truth c) = refl
  same_values (Text t) (Text u) = refl
  same_values (Text t) (Func n j) = refl
  same_values (Text t) (Error f) = refl
  same_values (Text t) (Namespace n) = refl
  same_values (Text t) (Promise q) = refl
  same_values (Func m i) Undefined = refl
  same_values (Func m i) (Truth c) = refl
  same_values (Func m i) (Text u) = refl
  same_values (Func m i) (Func n j) = ap (λ b. b && nat_eq i j) (same m n)
  same_values (Func m i) (Error f) = refl
  same_values (Func m i) (Namespace n) = refl
  same_values (Func m i) (Promise q) = refl
  same_values (Error e) Undefined = refl
  same_values (Error e) (Truth c) = refl
  same_values (Error e) (Text u) = refl
  same_values (Error e) (Func n j) = refl
  same_values (Error e) (Error f) = refl
  same_values (Error e) (Namespace n) = refl
  same_values (Error e) (Promise q) = refl
  same_values (Namespace m) Undefined = refl
  same_values (Namespace m) (Truth c) = refl
  same_values (Namespace m) (Text u) = refl
  same_values (Namespace m) (Func n j) = refl
  same_values (Namespace m) (Error f) = refl
  same_values (Namespace m) (Namespace n) = same m n
  same_values (Namespace m) (Promise q) = refl
  same_values (Promise p) Undefined = refl
  same_values (Promise p) (Truth c) = refl
  same_values (Promise p) (Text u) = refl
  same_values (Promise p) (Func n j) = refl
  same_values (Promise p) (Error f) = refl
  same_values (Promise p) (Namespace n) = refl
  same_values (Promise p) (Promise q) = refl

  pub look_alike : LooksAlike (renamed_value name) (values one) (values other)
  look_alike = record { look = looks name; same = same_values; undefined = refl; truth = λ b. refl; text = λ t. refl }

module _ {M N I J : Type 0} (names : Naming M N) (image : I → J) (same : M → M → Bool) (other : N → N → Bool) (modules : I → Modules M) (images : J → Modules N)
    (begins : Importing M I) (others : Importing N J) (s : IsSameness same) (t : IsSameness other) (Good : I → Type 0) (k : (i : I) → Good i → AreNamed names (modules i) (images (image i))) (imports : ImportsFollow names image Good begins others) where
  abbrev pub V : Value M → Value N
  V v = renamed_value names.name v

  abbrev pub ren : State M I → State N J
  ren w = renamed_state names image w

  abbrev pub ren_inner : Inner M I → Inner N J
  ren_inner w = record { scopes = map (mapped_scope V) w.scopes; state = ren w.state }

  abbrev told : (a : Act (Value M)) → AnswerWith (AnswerTo a) (Inner M I) → AnswerWith (AnswerTo (mapped_act V a)) (Inner N J)
  told a t = (mapped_result V a t.0, ren_inner t.1)

  -- what import() reads and writes is good
  abbrev pub IsGood : State M I → Type 0
  IsGood w = Good w.outer.imports

  abbrev pub Inside : Inner M I → Type 0
  Inside w = IsGood w.state

  abbrev E : (w : State M I) → IsGood w → AreNamed names (modules_of modules w) (modules_of images (ren w))
  E w g = k w.outer.imports g

  -- ---- names and members

  reads_by : (m : M) (w : State M I) → IsGood w → (x : List ℕ) (o : Option (Cell (Value M))) (r : Reading (Value M)) → ReadsBy same modules begins m w x o r
      → ReadsBy other images others (names.name m) (ren w) x (option_map (of_cell V) o) (renamed_reading names r)
  reads_by m w g x (Some c) r p = ap (renamed_reading names) p ∙ sym (env.read_follows names (modules_of modules w) (modules_of images (ren w)) (E w g) (Some c))
  reads_by m w g x None r p = ((env.follows_names names same other).reads (modules_of modules w) (modules_of images (ren w)) (E w g)).reads w.cells m x r p

  read_told : (w : Inner M I) (x : List ℕ) (r : Reading (Value M)) → told (act.Read x) (read_answer w x r) ≡ read_answer (ren_inner w) x (renamed_reading names r)
  read_told w x (reading.Value v) = refl
  read_told w x reading.Unset = refl
  read_told w x reading.Undeclared = refl

  members_by : (a b : Bool) (errors : Errors) (id : ℕ) → V (member_by a b errors id) ≡ member_by a b errors id
  members_by true b errors id = refl
  members_by false true errors id = refl
  members_by false false errors id = refl

  members : (m : M) (w : Inner M I) → Inside w → (v : Value M) (x : List ℕ) (r : AnswerWith (Completion (Value M)) (Inner M I)) → ReadsMemberOf same modules begins m w v x r
      → ReadsMemberOf other images others (names.name m) (ren_inner w) (V v) x (told (act.Member v x) r)
  members m w g Undefined x r p = ap (told (act.Member Undefined x)) p
  members m w g (Truth b) x r p = ap (told (act.Member (Truth b) x)) p
  members m w g (Text u) x r p = ap (told (act.Member (Text u) x)) p
  members m w g (Func n i) x r p = ap (told (act.Member (Func n i) x)) p
  members m w g (Error e) x r p = ap (told (act.Member (Error e) x)) p ∙ (λ i. (Ok (Normal (members_by (bytes_eq x (codes "message")) (bytes_eq x (codes "name")) w.state.outer.errors e i)), ren_inner w))
  members m w g (Namespace n) x r p = (
    renamed_reading names p.0,
    ((env.follows_names names same other).reads (modules_of modules w.state) (modules_of images (ren w.state)) (E w.state g)).members w.state.cells n x p.0 p.1,
    ap (told (act.Member (Namespace n) x)) p.2 ∙ read_told w x p.0,
  )
  members m w g (Promise q) x r p = ap (told (act.Member (Promise q) x)) p

  -- ---- texts

  displays : (w : State M I) → IsGood w → (v : Value M) (text : List ℕ) → Displays modules w v text → Displays images (ren w) (V v) text
  displays w g Undefined text p = p
  displays w g (Truth b) text p = p
  displays w g (Text u) text p = p
  displays w g (Func m i) text p = ap (λ (items : List Item). Some (function_text (name_by (function_at items i)))) ((E w g).tree m) ∙ p
  displays w g (Error e) text p = p
  displays w g (Namespace m) text p =
      (p.0, ((env.follows_names names same other).reads (modules_of modules w) (modules_of images (ren w)) (E w g)).keys m p.0 p.1, p.2, p.3)
  displays w g (Promise q) text p = p

  displays_all : (w : State M I) → IsGood w → (vs : List (Value M)) (ts : List (List ℕ)) → DisplaysAll modules w vs ts → DisplaysAll images (ren w) (map V vs) ts
  displays_all w g [] ts p = p
  displays_all w g (v ∷ vs) ts p = (p.0, p.1, displays w g v p.0 p.2, displays_all w g vs p.1 p.3, p.4)

  abbrev unit_told : AnswerWith (Unit {0}) (State M I) → AnswerWith (Unit {0}) (State N J)
  unit_told t = (t.0, ren t.1)

  line_told : (w : State M I) (text : List ℕ) (b : Bool) → unit_told (line_by b w text) ≡ line_by b (ren w) text
  line_told w text true = refl
  line_told w text false = refl

  pub line_follows : (w : State M I) (text : List ℕ) → unit_told (add_line w text) ≡ add_line (ren w) text
  line_follows w text = line_told w text (nat_lt MAX_LOG_BYTES (length w.engine.log + length text + 1))

  printed : (w : Inner M I) (vs : List (Value M)) (text : List ℕ) (b : Bool) → told (act.Print vs) (over_scopes w (line_by b w.state text)) ≡ over_scopes (ren_inner w) (line_by b (ren w.state) text)
  printed w vs text true = refl
  printed w vs text false = refl

  stepped : (w : Inner M I) (n : ℕ) (b : Bool) → told (act.Step n) (over_scopes w (steps_by b w.state n)) ≡ over_scopes (ren_inner w) (steps_by b (ren w.state) n)
  stepped w n true = refl
  stepped w n false = refl

  -- ---- import()

  abbrev Ps : Type 0
  Ps = Promises (Reaction M) (Value M)

  next_is : (ps : Ps) → next_promise ps ≡ next_promise (renamed names.name ps)
  next_is ps = sym ((promises.follows_names names.name).next ps)

  refused : (ps : Ps) (v : Value M) → renamed names.name (settle (make ps []) (next_promise ps) (Rejected v)) ≡ settle (make (renamed names.name ps) []) (next_promise (renamed names.name ps)) (Rejected (V v))
  refused ps v =
      (promises.follows_names names.name).settles (make ps []) (next_promise ps) (Rejected v)
      ∙ (λ i. settle ((promises.follows_names names.name).makes ps [] i) (next_is ps i) (Rejected (V v)))

  imported : (w : Inner M I) (v : Value M) (after : Outer M I) (end : Result (Unit {0}) Limit)
      → told (act.Import v) (import_answer (next_promise w.state.outer.promises) end, record w { state = with_outer w.state after })
      ≡ (import_answer (next_promise (renamed names.name w.state.outer.promises)) end, record (ren_inner w) { state = with_outer (ren w.state) (renamed_outer names image after) })
  imported w v after (Ok done) = λ i. (Ok (Promise (next_is w.state.outer.promises i)), record (ren_inner w) { state = with_outer (ren w.state) (renamed_outer names image after) })
  imported w v after (Err why) = refl

  begins_by : (m : M) (w : Inner M I) → Inside w → (v : Value M) (o : Option (List ℕ)) (r : AnswerWith (Value M) (Inner M I)) → BeginsBy same modules begins m w o r
      → BeginsBy other images others (names.name m) (ren_inner w) o (told (act.Import v) r)
  begins_by m w g v None r p =
      ap (told (act.Import v)) p
      ∙ (λ i. (Ok (Promise (next_is w.state.outer.promises i)), record (ren_inner w) { state = record (ren w.state) { outer = record { promises = refused w.state.outer.promises (Error (length w.state.outer.errors)) i; errors = (refuse_import w.state).outer.errors; imports = image w.state.outer.imports } } }))
  begins_by m w g v (Some text) r p =
      let b = (imports _ p.1 m text (next_promise w.state.outer.promises) p.0 g p.2).0 in (
        p.0,
        renamed_outer names image p.1,
        subst (λ (q : Promises (Reaction N) (Value N) × ℕ). others (record { promises = q.0; errors = w.state.outer.errors; imports = image w.state.outer.imports }) (names.name m) text q.1 p.0 (renamed_outer names image p.1))
            (λ i. ((promises.follows_names names.name).makes w.state.outer.promises [] i, next_is w.state.outer.promises i)) b,
        ap (told (act.Import v)) p.3 ∙ imported w v p.1 p.0,
      )

  -- ---- calls on the world

  answers : (m : M) (w : Inner M I) → Inside w → (a : Act (Value M)) (r : AnswerWith (AnswerTo a) (Inner M I)) → AnswersAct same modules begins m w a r
      → AnswersAct other images others (names.name m) (ren_inner w) (mapped_act V a) (told a r)
  answers m w g (act.Read x) r p = (
    renamed_reading names p.0,
    subst (λ o. ReadsBy other images others (names.name m) (ren w.state) x o (renamed_reading names p.0)) (sym (in_scopes_follow V w.scopes x)) (reads_by m w.state g x (in_scopes w.scopes x) p.0 p.1),
    ap (told (act.Read x)) p.2 ∙ read_told w x p.0,
  )
  answers m w g (act.Member v x) r p = members m w g v x r p
  answers m w g (act.Display v) r p = (p.0, displays w.state g v p.0 p.1, ap (told (act.Display v)) p.2)
  answers m w g (act.Print vs) r p =
      (p.0, displays_all w.state g vs p.0 p.1, ap (told (act.Print vs)) p.2 ∙ printed w vs (printed_line p.0) (nat_lt MAX_LOG_BYTES (length w.state.engine.log + length (printed_line p.0) + 1)))
  answers m w g (act.Fault kind message) r p = ap (told (act.Fault kind message)) p
  answers m w g (act.Step n) r p = ap (told (act.Step n)) p ∙ stepped w n (nat_lt MAX_STEPS (w.state.engine.steps + n))
  answers m w g (act.Import v) r p =
      subst (λ o. BeginsBy other images others (names.name m) (ren_inner w) o (told (act.Import v) r)) (sym (texts names.name w.state.outer.errors v)) (begins_by m w g v (text_of w.state.outer.errors v) r p)

  -- ---- what is good stays so

  abbrev Stays : (A : Type 0) → AnswerWith A (Inner M I) → Type 0
  Stays A t = Inside t.1

  read_stays : (w : Inner M I) → Inside w → (x : List ℕ) (r : Reading (Value M)) → Stays (Completion (Value M)) (read_answer w x r)
  read_stays w g x (reading.Value v) = g
  read_stays w g x reading.Unset = g
  read_stays w g x reading.Undeclared = g

  member_stays : (m : M) (w : Inner M I) → Inside w → (v : Value M) (x : List ℕ) (r : AnswerWith (Completion (Value M)) (Inner M I)) → ReadsMemberOf same modules begins m w v x r → Stays (Completion (Value M)) r
  member_stays m w g Undefined x r p = subst (Stays (Completion (Value M))) (sym p) g
  member_stays m w g (Truth b) x r p = subst (Stays (Completion (Value M))) (sym p) g
  member_stays m w g (Text u) x r p = subst (Stays (Completion (Value M))) (sym p) g
  member_stays m w g (Func n i) x r p = subst (Stays (Completion (Value M))) (sym p) g
  member_stays m w g (Error e) x r p = subst (Stays (Completion (Value M))) (sym p) g
  member_stays m w g (Namespace n) x r p = subst (Stays (Completion (Value M))) (sym p.2) (read_stays w g x p.0)
  member_stays m w g (Promise q) x r p = subst (Stays (Completion (Value M))) (sym p) g

  line_stays : (w : Inner M I) → Inside w → (text : List ℕ) (b : Bool) → Stays (Unit {0}) (over_scopes w (line_by b w.state text))
  line_stays w g text true = g
  line_stays w g text false = g

  step_stays : (w : Inner M I) → Inside w → (n : ℕ) (b : Bool) → Stays (Unit {0}) (over_scopes w (steps_by b w.state n))
  step_stays w g n true = g
  step_stays w g n false = g

  import_stays : (m : M) (w : Inner M I) → Inside w → (o : Option (List ℕ)) (r : AnswerWith (Value M) (Inner M I)) → BeginsBy same modules begins m w o r → Stays (Value M) r
  import_stays m w g None r p = subst (Stays (Value M)) (sym p) g
  import_stays m w g (Some text) r p = subst (Stays (Value M)) (sym p.3) ((imports _ p.1 m text (next_promise w.state.outer.promises) p.0 g p.2).1)

  acts_stay : (m : M) (w : Inner M I) → Inside w → (a : Act (Value M)) (r : AnswerWith (AnswerTo a) (Inner M I)) → AnswersAct same modules begins m w a r → Stays (AnswerTo a) r
  acts_stay m w g (act.Read x) r p = subst (Stays (Completion (Value M))) (sym p.2) (read_stays w g x p.0)
  acts_stay m w g (act.Member v x) r p = member_stays m w g v x r p
  acts_stay m w g (act.Display v) r p = subst (Stays (List ℕ)) (sym p.2) g
  acts_stay m w g (act.Print vs) r p = subst (Stays (Unit {0})) (sym p.2) (line_stays w g (printed_line p.0) (nat_lt MAX_LOG_BYTES (length w.state.engine.log + length (printed_line p.0) + 1)))
  acts_stay m w g (act.Fault kind message) r p = subst (Stays (Value M)) (sym p) g
  acts_stay m w g (act.Step n) r p = subst (Stays (Unit {0})) (sym p) (step_stays w g n (nat_lt MAX_STEPS (w.state.engine.steps + n)))
  acts_stay m w g (act.Import v) r p = import_stays m w g (text_of w.state.outer.errors v) r p

  pub acts_follow : (m : M) → ActsFollow V Inside ren_inner (Performs same modules begins m) (Performs other images others (names.name m))
  acts_follow m w after a r g p = (answers m w g a (r, after) p, acts_stay m w g a (r, after) p)

  -- ---- names that are set and written

  abbrev Ws : (w : State M I) → IsGood w → WritesFollow names same other (modules_of modules w) (modules_of images (ren w))
  Ws w g = (env.follows_names names same other).writes (modules_of modules w) (modules_of images (ren w)) s t (E w g)

  pub sets : (m : M) (ss : List (Scope (Value M))) (w : State M I) → IsGood w → (x : List ℕ) (v : Value M)
      → set_at other images others (names.name m) (map (mapped_scope V) ss) (ren w) x (V v) ≡ ren_inner (set_at same modules begins m ss w x v)
  sets m [] w g x v = λ i. record { scopes = []; state = record (ren w) { cells = (Ws w g).cells w.cells m x v i } }
  sets m (c ∷ ss) w g x v = λ i. record { scopes = set_follows V c x v i ∷ map (mapped_scope V) ss; state = ren w }

  abbrev pub told_write : Option (Value M) × Inner M I → Option (Value N) × Inner N J
  told_write t = (option_map V t.0, ren_inner t.1)

  module_writes : (m : M) (w : Inner M I) (x : List ℕ) (r : Writing M) → module_write other images others (names.name m) (ren_inner w) x (renamed_writing names r) ≡ told_write (module_write same modules begins m w x r)
  module_writes m w x (writing.Done cells) = refl
  module_writes m w x writing.Unset = refl
  module_writes m w x writing.Constant = refl
  module_writes m w x writing.Undeclared = refl

  scope_writes : (m : M) (w : Inner M I) (x : List ℕ) (v : Value M) (constant : Bool) (old : Option (Value M))
      → scope_write other images others (names.name m) (ren_inner w) x (V v) constant (option_map V old) ≡ told_write (scope_write same modules begins m w x v constant old)
  scope_writes m w x v constant None = refl
  scope_writes m w x v true (Some old) = refl
  scope_writes m w x v false (Some old) = λ i. (None, record (ren_inner w) { scopes = set_scopes_follow V w.scopes x v i })

  writes_in : (m : M) (w : Inner M I) → Inside w → (x : List ℕ) (v : Value M) (c : Option (Cell (Value M)))
      → write_in other images others (names.name m) (ren_inner w) x (V v) (option_map (of_cell V) c) ≡ told_write (write_in same modules begins m w x v c)
  writes_in m w g x v (Some c) = scope_writes m w x v c.constant c.value
  writes_in m w g x v None =
      ap (module_write other images others (names.name m) (ren_inner w) x) ((Ws w.state g).writes w.state.cells m x v)
      ∙ module_writes m w x (writing_of same (modules_of modules w.state) w.state.cells m x v)

  pub writes : (m : M) (w : Inner M I) → Inside w → (x : List ℕ) (v : Value M) → write_name other images others (names.name m) (ren_inner w) x (V v) ≡ told_write (write_name same modules begins m w x v)
  writes m w g x v = ap (write_in other images others (names.name m) (ren_inner w) x (V v)) (in_scopes_follow V w.scopes x) ∙ writes_in m w g x v (in_scopes w.scopes x)

  pub set_stays : (m : M) (ss : List (Scope (Value M))) (w : State M I) → IsGood w → (x : List ℕ) (v : Value M) → Inside (set_at same modules begins m ss w x v)
  set_stays m [] w g x v = g
  set_stays m (c ∷ ss) w g x v = g

  abbrev Wrote : Option (Value M) × Inner M I → Type 0
  Wrote t = Inside t.1

  module_stays : (m : M) (w : Inner M I) → Inside w → (x : List ℕ) (r : Writing M) → Wrote (module_write same modules begins m w x r)
  module_stays m w g x (writing.Done cells) = g
  module_stays m w g x writing.Unset = g
  module_stays m w g x writing.Constant = g
  module_stays m w g x writing.Undeclared = g

  scope_stays : (m : M) (w : Inner M I) → Inside w → (x : List ℕ) (v : Value M) (constant : Bool) (old : Option (Value M)) → Wrote (scope_write same modules begins m w x v constant old)
  scope_stays m w g x v constant None = g
  scope_stays m w g x v true (Some old) = g
  scope_stays m w g x v false (Some old) = g

  write_by_stays : (m : M) (w : Inner M I) → Inside w → (x : List ℕ) (v : Value M) (c : Option (Cell (Value M))) → Wrote (write_in same modules begins m w x v c)
  write_by_stays m w g x v (Some c) = scope_stays m w g x v c.constant c.value
  write_by_stays m w g x v None = module_stays m w g x (writing_of same (modules_of modules w.state) w.state.cells m x v)

  pub write_stays : (m : M) (w : Inner M I) → Inside w → (x : List ℕ) (v : Value M) → Wrote (write_name same modules begins m w x v)
  write_stays m w g x v = write_by_stays m w g x v (in_scopes w.scopes x)
