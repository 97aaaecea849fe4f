-- In a state that fits, each call on the world is answered.
use Rattle.std.proofs.Common.{◌≡◌, ℕ, zero, suc, ◌+◌, ◌≤◌, Bool, true, false, List, [], ◌∷◌, Option, Some, None, refl, ap, subst, sym, ◌∙◌, arith, length}
use Rattle.std.proofs.lemmas.Bool.Decides.{nat_tests}
use Rattle.std.specs.Prelude.{Result, Ok, Err, nat_lt, codes, ⊤}
use Rattle.std.specs.Option.{option_or}
use Rattle.esm_base.specs.declared.limits.Limit.{Limit}
use Rattle.esm_base.specs.declared.limits.Limit.TheVariants.{L3, L5}
use Rattle.esm_base.specs.declared.limits.TheConstants.{MAX_STEPS, MAX_LOG_BYTES}
use Rattle.esm_values.specs.Value.{Value, Undefined, Truth, Text, Func, Error, Namespace, Promise}
use Rattle.esm_values.specs.Display.{namespace_text, printed_line}
use Rattle.esm_values.specs.Operators.{values, text_of}
use Rattle.esm_values.specs.Completion.{Normal, Throw}
use Rattle.esm_values.specs.Acts.{Act, AnswerTo}
use Rattle.esm_values.specs.Acts.{Act as act}
use Rattle.esm_values.specs.declared.errors.FaultKind.{FaultKind}
use Rattle.esm_values.specs.declared.errors.FaultKind.TheVariants as kinds
use Rattle.esm_expr_eval.proofs.Lands.{AllKnown, KnowsAct, Views, Later, HasAnswer, answers, stopped, Lives}
use Rattle.esm_values.specs.declared.errors.Fault.{Fault}
use Rattle.esm_values.specs.Errors.{Errors, make_error, fault}
use Rattle.esm_expr_eval.specs.Ready.{Holds}
use Rattle.esm_promise.specs.Promises.{Settled, make, settle, next_promise}
use Rattle.esm_promise.specs.Promises.Settled.{Rejected}
use Rattle.esm_promise.specs.Outer.{Outer}
use Rattle.esm_env.specs.Modules.{Modules}
use Rattle.esm_env.specs.Cells.{Cell, Reading, read_cell, read_value}
use Rattle.esm_env.specs.Cells.{Reading as reading}
use Rattle.esm_rewriting.specs.Scopes.{Scope, in_scope, in_scopes, cell_by}
use Rattle.esm_rewriting.specs.State.{State, Standing, Importing, new_error, steps_by, line_by}
use Rattle.esm_rewriting.specs.Acts.{Inner, Performs, Displays, DisplaysAll, ReadsBy, ReadsName, BeginsBy, over_scopes, with_state, with_new, with_outer, not_initialized, not_defined, error_member, member_by, refuse_import, with_promise}
use Rattle.esm_rewriting.specs.Fits.{IsKnown, IsKnownReading, HoldsValue, HoldsScope, HoldScopes, FitsState, FitStanding, Knows, of_body}
use Rattle.esm_rewriting.specs.Bodies.{await_on, given_by}
use Rattle.esm_rewriting.proofs.Readable.{AreReadable}
use Rattle.esm_rewriting.proofs.Grown.{held_scopes, held_rest}

-- what is asked of promises, errors and modules is kept by what bodies write there, and import() has an outcome that keeps it
pub record BeginsSome {N I : Type 0} (modules : I → Modules N) (linked : I → N → Bool) (Whole : Outer N I → Type 0) (begins : Importing N I) : Type 0 where
  pub readable : (o : Outer N I) → Whole o → AreReadable (modules o.imports) (linked o.imports)
  pub errors : (o : Outer N I) (es : Errors) → Whole o → Whole (record o { errors = es })
  pub makes : (o : Outer N I) → Whole o → Whole (record o { promises = make o.promises [] })
  pub settles : (o : Outer N I) (p : ℕ) (how : Settled (Value N)) → Holds (Knows modules linked o.imports) ⊥ (given_by how) → Whole o → Whole (record o { promises = settle o.promises p how })
  pub awaits : (o : Outer N I) (v : Value N) (m : N) → Knows modules linked o.imports v → linked o.imports m ≡ true → Whole o → Whole (record o { promises = await_on o.promises v m })
  pub some : (o : Outer N I) (m : N) (text : List ℕ) (p : ℕ) → Whole o
      → (r : Result (Unit {0}) Limit) × ((after : Outer N I) × (begins o m text p r after
      × (Whole after × ((v : Value N) → Knows modules linked o.imports v → Knows modules linked after.imports v))))

pub held_standing : {N I : Type 0} (modules : I → Modules N) (linked : I → N → Bool) (i j : I) → ((v : Value N) → Knows modules linked i v → Knows modules linked j v) → (ss : List (Standing N)) → FitStanding modules linked i ss → FitStanding modules linked j ss
held_standing modules linked i j k [] h = tt
held_standing modules linked i j k (s ∷ ss) h = (k (Namespace s.at) h.0, held_rest (Knows modules linked i) (Knows modules linked j) k ⊤ (of_body true) s.rest h.1, held_standing modules linked i j k ss h.2)

-- steps are taken, no more than may be
pub record Took {N I : Type 0} (w : State N I) (n : ℕ) (after : State N I) : Type 0 where
  pub steps : after.engine.steps ≡ w.engine.steps + n
  pub bound : 1 ≤ n → after.engine.steps ≤ MAX_STEPS

pub took_none : {N I : Type 0} (w : State N I) → Took w 0 w
took_none w = record { steps = omega arith; bound = λ l. absurd (omega (arith, l)) }

pub took_both : {N I : Type 0} {w mid after : State N I} (n k : ℕ) → Took w n mid → Took mid k after → Took w (n + k) after
took_both {w = w} {mid = mid} {after = after} n zero a b =
    record { steps = let x = a.steps in let y = b.steps in omega (arith, x, y); bound = λ l. let x = a.bound (omega (arith, l)) in let y = b.steps in omega (arith, x, y) }
took_both n (suc k) a b = record { steps = let x = a.steps in let y = b.steps in omega (arith, x, y); bound = λ l. b.bound (omega arith) }

module _ {N I : Type 0} (same : N → N → Bool) (modules : I → Modules N) (linked : I → N → Bool) (Whole : Outer N I → Type 0) (begins : Importing N I) (some : BeginsSome modules linked Whole begins) where
  abbrev pub Known : State N I → Value N → Type 0
  Known w v = Knows modules linked w.outer.imports v

  pub record FitsInner (m : N) (w : Inner N I) : Type 0 where
    pub state : FitsState modules linked Whole w.state
    pub scopes : HoldScopes (Known w.state) w.scopes
    pub home : linked w.state.outer.imports m ≡ true

  pub record TookIn (w : Inner N I) (n : ℕ) (after : Inner N I) : Type 0 where
    pub scopes : after.scopes ≡ w.scopes
    pub took : Took w.state n after.state

  -- what a call that stops leaves
  pub record HaltsIn (m : N) (w after : Inner N I) : Type 0 where
    pub fits : FitsInner m after
    pub keeps : (v : Value N) → Known w.state v → Known after.state v
    pub scopes : after.scopes ≡ w.scopes

  abbrev pub view : N → Views (Inner N I) (Value N)
  view m = record { Fits = FitsInner m; Knows = λ w v. Known w.state v; Took = TookIn; Halts = HaltsIn m }

  module _ (m : N) where
    abbrev pub acts : Inner N I → (a : Act (Value N)) → Result (AnswerTo a) Limit → Inner N I → Type 0
    acts = Performs same modules begins m

    abbrev Answer' : Inner N I → Act (Value N) → Type 0
    Answer' w a = HasAnswer (view m) acts w a

    -- nothing but the log, errors and promises changed
    abbrev Alike : Inner N I → Inner N I → Type 0
    Alike w after = FitsInner m w → Later (view m) w 0 after

    same_later : (w : Inner N I) → FitsInner m w → Later (view m) w 0 w
    same_later w f = record { fits = f; keeps = λ v k. k; took = record { scopes = refl; took = took_none w.state } }

    new_later : (w : Inner N I) (kind : FaultKind) (message : List ℕ) → FitsInner m w → Later (view m) w 0 (with_new w kind message)
    new_later w kind message f = record {
      fits = record { state = record { whole = some.errors w.state.outer (make_error w.state.outer.errors (fault kind message)) f.state.whole; cells = f.state.cells; standing = f.state.standing }; scopes = f.scopes; home = f.home };
      keeps = λ v k. k;
      took = record { scopes = refl; took = record { steps = omega arith; bound = λ l. absurd (omega (arith, l)) } };
    }

    -- ---- names

    cell_known : (P : Value N → Type 0) (b : Bool) (c : Cell (Value N)) (o : Option (Cell (Value N))) → HoldsValue P c.value → ((d : Cell (Value N)) → o ≡ Some d → HoldsValue P d.value)
        → (d : Cell (Value N)) → cell_by b c o ≡ Some d → HoldsValue P d.value
    cell_known P true c o h g d e = subst (λ (c : Cell (Value N)). HoldsValue P c.value) (let s : c ≡ d = cc in s) h
    cell_known P false c o h g d e = g d e

    scope_known : (P : Value N → Type 0) (s : Scope (Value N)) (x : List ℕ) → HoldsScope P s → (d : Cell (Value N)) → in_scope s x ≡ Some d → HoldsValue P d.value
    scope_known P [] x h d e = absurd (cc)
    scope_known P (s ∷ ss) x h d e = cell_known P _ s.cell (in_scope ss x) h.0 (scope_known P ss x h.1) d e

    either_known : (P : Value N → Type 0) (o q : Option (Cell (Value N))) → ((d : Cell (Value N)) → o ≡ Some d → HoldsValue P d.value) → ((d : Cell (Value N)) → q ≡ Some d → HoldsValue P d.value)
        → (d : Cell (Value N)) → option_or o q ≡ Some d → HoldsValue P d.value
    either_known P None q h g d e = g d e
    either_known P (Some c) q h g d e = h d e

    pub scopes_known : (P : Value N → Type 0) (ss : List (Scope (Value N))) (x : List ℕ) → HoldScopes P ss → (d : Cell (Value N)) → in_scopes ss x ≡ Some d → HoldsValue P d.value
    scopes_known P [] x h d e = absurd (cc)
    scopes_known P (s ∷ ss) x h d e = either_known P (in_scope s x) (in_scopes ss x) (scope_known P s x h.0) (scopes_known P ss x h.1) d e

    value_read : (g : Modules N) (l : N → Bool) (o : Option (Value N)) → HoldsValue (IsKnown g l) o → IsKnownReading g l (read_value o)
    value_read g l None h = tt
    value_read g l (Some v) h = h

    abbrev Reads : Inner N I → List ℕ → Type 0
    Reads w x = (read : Reading (Value N)) × (ReadsName same modules begins m w x read × IsKnownReading (modules w.state.outer.imports) (linked w.state.outer.imports) read)

    reads_by : (w : Inner N I) (x : List ℕ) → FitsInner m w → (o : Option (Cell (Value N))) → in_scopes w.scopes x ≡ o
        → (read : Reading (Value N)) × (ReadsBy same modules begins m w.state x o read × IsKnownReading (modules w.state.outer.imports) (linked w.state.outer.imports) read)
    reads_by w x f (Some c) e = (read_cell (Some c), (refl, value_read (modules w.state.outer.imports) (linked w.state.outer.imports) c.value (scopes_known (Known w.state) w.scopes x f.scopes c e)))
    reads_by w x f None e = let r = (some.readable w.state.outer f.state.whole).names w.state.cells m x f.state.cells f.home in (r.0, (r.1, r.2))

    reads : (w : Inner N I) (x : List ℕ) → FitsInner m w → Reads w x
    reads w x f = reads_by w x f (in_scopes w.scopes x) refl

    named : (w : Inner N I) (x : List ℕ) → FitsInner m w → (read : Reading (Value N)) → ReadsName same modules begins m w x read → IsKnownReading (modules w.state.outer.imports) (linked w.state.outer.imports) read → Answer' w (act.Read x)
    named w x f (reading.Value v) h k = answers (Normal v) w (reading.Value v, h, refl) (same_later w f) k
    named w x f reading.Unset h k = answers (Throw (new_error w.state)) (with_new w kinds.ReferenceError (not_initialized x)) (reading.Unset, h, refl) (new_later w _ _ f) tt
    named w x f reading.Undeclared h k = answers (Throw (new_error w.state)) (with_new w kinds.ReferenceError (not_defined x)) (reading.Undeclared, h, refl) (new_later w _ _ f) tt

    member_read : (w : Inner N I) (k : N) (x : List ℕ) → FitsInner m w → (read : Reading (Value N)) → Rattle.esm_env.specs.Reading.IsMemberOf (modules w.state.outer.imports) w.state.cells k x read → IsKnownReading (modules w.state.outer.imports) (linked w.state.outer.imports) read
        → Answer' w (act.Member (Namespace k) x)
    member_read w k x f (reading.Value v) h q = answers (Normal v) w (reading.Value v, h, refl) (same_later w f) q
    member_read w k x f reading.Unset h q = answers (Throw (new_error w.state)) (with_new w kinds.ReferenceError (not_initialized x)) (reading.Unset, h, refl) (new_later w _ _ f) tt
    member_read w k x f reading.Undeclared h q = answers (Throw (new_error w.state)) (with_new w kinds.ReferenceError (not_defined x)) (reading.Undeclared, h, refl) (new_later w _ _ f) tt

    no_member : (w : Inner N I) (v : Value N) (x : List ℕ) → FitsInner m w → acts w (act.Member v x) (Ok (Throw (new_error w.state))) (with_new w kinds.TypeError (codes "no members")) → Answer' w (act.Member v x)
    no_member w v x f h = answers (Throw (new_error w.state)) (with_new w kinds.TypeError (codes "no members")) h (new_later w _ _ f) tt

    error_known : (P : Value N → Type 0) → ((t : List ℕ) → P (Text t)) → P Undefined → (a b : Bool) (e : Rattle.esm_values.specs.Errors.Errors) (id : ℕ) → P (member_by a b e id)
    error_known P t u true b e id = t _
    error_known P t u false true e id = t _
    error_known P t u false false e id = u

    member_answered : (w : Inner N I) (v : Value N) (x : List ℕ) → FitsInner m w → Known w.state v → Answer' w (act.Member v x)
    member_answered w Undefined x f k = no_member w Undefined x f refl
    member_answered w (Truth b) x f k = no_member w (Truth b) x f refl
    member_answered w (Text t) x f k = no_member w (Text t) x f refl
    member_answered w (Func n i) x f k = no_member w (Func n i) x f refl
    member_answered w (Error id) x f k = answers (Normal (error_member w.state.outer.errors id x)) w refl (same_later w f) (error_known (Known w.state) (λ t. tt) tt _ _ _ id)
    member_answered w (Namespace n) x f k = let r = (some.readable w.state.outer f.state.whole).members w.state.cells n x f.state.cells k in member_read w n x f r.0 r.1 r.2
    member_answered w (Promise id) x f k = no_member w (Promise id) x f refl

    -- ---- texts

    shows : (w : Inner N I) (v : Value N) → FitsInner m w → Known w.state v → (text : List ℕ) × Displays modules w.state v text
    shows w Undefined f k = (_, refl)
    shows w (Truth b) f k = (_, refl)
    shows w (Text t) f k = (_, refl)
    shows w (Func n i) f k = (_, refl)
    shows w (Error id) f k = (_, refl)
    shows w (Namespace n) f k = let r = (some.readable w.state.outer f.state.whole).keys n k in (namespace_text r.0, (r.0, r.1, r.2, refl))
    shows w (Promise id) f k = (_, refl)

    shows_all : (w : Inner N I) (vs : List (Value N)) → FitsInner m w → AllKnown (Known w.state) vs → (texts : List (List ℕ)) × DisplaysAll modules w.state vs texts
    shows_all w [] f k = ([], refl)
    shows_all w (v ∷ vs) f k = let a = shows w v f k.0 in let b = shows_all w vs f k.1 in (a.0 ∷ b.0, (a.0, b.0, a.1, b.1, refl))

    displays : (w : Inner N I) (v : Value N) → FitsInner m w → (text : List ℕ) × Displays modules w.state v text → Answer' w (act.Display v)
    displays w v f t = answers t.0 w (t.0, t.1, refl) (same_later w f) tt

    prints_by : (w : Inner N I) (vs : List (Value N)) → FitsInner m w → (texts : List (List ℕ)) → DisplaysAll modules w.state vs texts → (b : Bool)
        → nat_lt MAX_LOG_BYTES (length w.state.engine.log + length (printed_line texts) + 1) ≡ b → Answer' w (act.Print vs)
    prints_by w vs f texts d true e = stopped L5 _ (texts, d, ap (λ b. over_scopes w (line_by b w.state (printed_line texts))) (sym e)) (record { fits = record { state = record { whole = f.state.whole; cells = f.state.cells; standing = f.state.standing }; scopes = f.scopes; home = f.home }; keeps = λ v k. k; scopes = refl })
    prints_by w vs f texts d false e =
        answers tt (over_scopes w (line_by false w.state (printed_line texts))).1 (texts, d, ap (λ b. over_scopes w (line_by b w.state (printed_line texts))) (sym e))
        (record {
          fits = record { state = record { whole = f.state.whole; cells = f.state.cells; standing = f.state.standing }; scopes = f.scopes; home = f.home };
          keeps = λ v k. k;
          took = record { scopes = refl; took = record { steps = omega arith; bound = λ l. absurd (omega (arith, l)) } };
        }) tt

    prints : (w : Inner N I) (vs : List (Value N)) → FitsInner m w → (texts : List (List ℕ)) × DisplaysAll modules w.state vs texts → Answer' w (act.Print vs)
    prints w vs f t = prints_by w vs f t.0 t.1 _ refl

    -- ---- steps

    step_by : (w : Inner N I) (n : ℕ) → FitsInner m w → (b : Bool) → nat_lt MAX_STEPS (w.state.engine.steps + n) ≡ b → Answer' w (act.Step n)
    step_by w n f true e = stopped L3 _ (ap (λ b. over_scopes w (steps_by b w.state n)) (sym e)) (record { fits = record { state = record { whole = f.state.whole; cells = f.state.cells; standing = f.state.standing }; scopes = f.scopes; home = f.home }; keeps = λ v k. k; scopes = refl })
    step_by w n f false e =
        answers tt (over_scopes w (steps_by false w.state n)).1 (ap (λ b. over_scopes w (steps_by b w.state n)) (sym e))
        (record {
          fits = record { state = record { whole = f.state.whole; cells = f.state.cells; standing = f.state.standing }; scopes = f.scopes; home = f.home };
          keeps = λ v k. k;
          took = record { scopes = refl; took = record { steps = refl; bound = λ l. grind (arith, nat_tests) } };
        }) tt

    -- ---- import()

    abbrev cannot : Fault
    cannot = fault kinds.TypeError (codes "cannot convert to text")

    refused : (w : Inner N I) (v : Value N) → FitsInner m w → text_of w.state.outer.errors v ≡ None → Answer' w (act.Import v)
    refused w v f e =
        answers (Promise (next_promise w.state.outer.promises)) (with_state w (refuse_import w.state)) (subst (λ t. BeginsBy same modules begins m w t (Ok (Promise (next_promise w.state.outer.promises)), with_state w (refuse_import w.state))) (sym e) refl)
        (record {
          fits = record {
            state = record {
              whole = some.settles (record (record w.state.outer { errors = make_error w.state.outer.errors cannot }) { promises = make w.state.outer.promises [] }) (next_promise w.state.outer.promises) (Rejected (new_error w.state)) tt
                  (some.makes (record w.state.outer { errors = make_error w.state.outer.errors cannot }) (some.errors w.state.outer (make_error w.state.outer.errors cannot) f.state.whole));
              cells = f.state.cells;
              standing = f.state.standing;
            };
            scopes = f.scopes;
            home = f.home;
          };
          keeps = λ v k. k;
          took = record { scopes = refl; took = record { steps = omega arith; bound = λ l. absurd (omega (arith, l)) } };
        }) tt

    begun_fits : (w : Inner N I) (after : Outer N I) → FitsInner m w → Whole after → ((v : Value N) → Knows modules linked w.state.outer.imports v → Knows modules linked after.imports v) → FitsInner m (with_state w (with_outer w.state after))
    begun_fits w after f a k = record {
      state = record { whole = a; cells = λ n x v e. k v (f.state.cells n x v e); standing = held_standing modules linked w.state.outer.imports after.imports k w.state.engine.standing f.state.standing };
      scopes = held_scopes _ _ k w.scopes f.scopes;
      home = k (Namespace m) f.home;
    }

    begun_by : (w : Inner N I) (v : Value N) (text : List ℕ) → FitsInner m w → text_of w.state.outer.errors v ≡ Some text → (r : Result (Unit {0}) Limit) (after : Outer N I)
        → begins (with_promise w.state).outer m text (next_promise w.state.outer.promises) r after → Whole after
        → ((v : Value N) → Knows modules linked w.state.outer.imports v → Knows modules linked after.imports v) → Answer' w (act.Import v)
    begun_by w v text f e (Err why) after h a k =
        stopped why (with_state w (with_outer w.state after)) (subst (λ t. BeginsBy same modules begins m w t (Err why, with_state w (with_outer w.state after))) (sym e) (Err why, after, h, refl))
        (record { fits = begun_fits w after f a k; keeps = k; scopes = refl })
    begun_by w v text f e (Ok done) after h a k =
        answers (Promise (next_promise w.state.outer.promises)) (with_state w (with_outer w.state after))
        (subst (λ t. BeginsBy same modules begins m w t (Ok (Promise (next_promise w.state.outer.promises)), with_state w (with_outer w.state after))) (sym e) (Ok done, after, h, refl))
        (record {
          fits = begun_fits w after f a k;
          keeps = k;
          took = record { scopes = refl; took = record { steps = omega arith; bound = λ l. absurd (omega (arith, l)) } };
        }) tt

    imports_by : (w : Inner N I) (v : Value N) → FitsInner m w → (o : Option (List ℕ)) → text_of w.state.outer.errors v ≡ o → Answer' w (act.Import v)
    imports_by w v f None e = refused w v f e
    imports_by w v f (Some text) e =
        let b = some.some (with_promise w.state).outer m text (next_promise w.state.outer.promises) (some.makes w.state.outer f.state.whole) in
        begun_by w v text f e b.0 b.1.0 b.1.1.0 b.1.1.1.0 b.1.1.1.1

    -- ---- each call

    answered : (w : Inner N I) (a : Act (Value N)) → FitsInner m w → KnowsAct (Known w.state) a → Answer' w a
    answered w (act.Read x) f k = let r = reads w x f in named w x f r.0 r.1.0 r.1.1
    answered w (act.Member v x) f k = member_answered w v x f k
    answered w (act.Display v) f k = displays w v f (shows w v f k)
    answered w (act.Print vs) f k = prints w vs f (shows_all w vs f k)
    answered w (act.Fault kind message) f k = answers (new_error w.state) (with_new w kind message) refl (new_later w kind message f) tt
    answered w (act.Step n) f k = step_by w n f _ refl
    answered w (act.Import v) f k = imports_by w v f _ refl

    pub lives : Lives (view m) acts (values same)
    lives = record {
      answered = answered;
      undefined = λ w. tt;
      truth = λ w b. tt;
      text = λ w t. tt;
      none = λ w. record { scopes = refl; took = took_none w.state };
      halts = λ a b. record { fits = b.fits; keeps = λ v k. b.keeps v (a.keeps v k); scopes = b.scopes ∙ a.took.scopes };
      both = λ {w} {mid} {after} {n} {k} a b. record { scopes = b.scopes ∙ a.scopes; took = took_both n k a.took b.took };
    }
