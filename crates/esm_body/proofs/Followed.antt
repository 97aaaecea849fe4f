-- What follows an outcome of a body: it goes on, with what stands for a call that is over, or the segment ends.
use Rattle.std.proofs.Common.{◌≡◌, ℕ, nat_eq, Bool, true, List, [], ◌∷◌, length, Option, Some, None, Vec, Box, Global, refl, ap, subst, sym, ◌∙◌}
use Rattle.std.specs.Prelude.{nat_lt, Result, Ok, Err}
use Rattle.std.specs.Arc.{arc_value}
use Rattle.esm_base.specs.declared.limits.TheConstants.{MAX_CALL_DEPTH}
use Rattle.esm_base.specs.declared.module_id.ModuleId.{ModuleId}
use Rattle.esm_env.specs.Declarations.{function_at}
use Rattle.esm_env.specs.Modules.{Modules}
use Rattle.esm_values.specs.Value.{Undefined, Truth, Text, Func, Error, Namespace, Promise}
use Rattle.esm_values.specs.Code.{CodeValue, value_of, values_of, func_value}
use Rattle.esm_values.specs.declared.value.FuncId.{FuncId}
use Rattle.esm_values.specs.declared.value.Value.{Value}
use Rattle.esm_expr_eval.specs.Ready.{Holds}
use Rattle.esm_expr_eval.specs.Terms.{Term}
use Rattle.esm_expr_eval.specs.Terms.Term.{Val, Fails}
use Rattle.esm_promise.specs.Outer.{Outer}
use Rattle.esm_rewriting.specs.Rest.{Rest, more, fill_rest}
use Rattle.esm_rewriting.specs.State.{State, Importing}
use Rattle.esm_rewriting.specs.Segment.{Active, active, Segment, call_by, called}
use Rattle.esm_rewriting.specs.Segment.{Ended as ended}
use Rattle.esm_rewriting.specs.Fits.{HoldsRest, HoldScopes, FitsRun, Knows, kind_by}
use Rattle.esm_rewriting.specs.Chains.{EndsSo, IsFitNext}
use Rattle.esm_rewriting.specs.Sets.{IsNameOf, SetsRest}
use Rattle.esm_rewriting.specs.declared.stop.Stop.{Stop}
use Rattle.esm_rewriting.specs.declared.stop.Stop.TheVariants as stops
use Rattle.esm_rewriting.proofs.DeclaredLemmas.{filled_sets}
use Rattle.esm_rewriting.proofs.Grown.{held_rest, filled_rest}
use Rattle.esm_rewriting.proofs.Paths.{held_inside}
use Rattle.esm_row_machine.specs.Follows.{CallIsDone, CalledBy}
use Rattle.esm_row_machine.specs.declared.rows.Rows.{Rows}
use Rattle.esm_row_machine.specs.declared.runs.Ending.{Ending}
use Rattle.esm_row_machine.specs.declared.runs.Ending.TheVariants as ending
use Rattle.esm_body.specs.Code.{in_front_of, innermost, Belongs, IsUse, IsCode}
use Rattle.esm_body.specs.Inner.Functions.{KeepsBody, owned_by}
use Rattle.esm_body.specs.Inner.Running.{doing_filled, place_rest, IsPlace, HasRows, Running, EndsBehind, GoesOn, Followed, FollowsFit}
use Rattle.esm_body.specs.Inner.Stack.{doing_part}
use Rattle.esm_body.specs.Inner.Turn.{IsCalling, Keeps, SameLoans, code_contexts}
use Rattle.esm_body.specs.Inner.World.{state_in, CodeIsWhole}
use Rattle.esm_body.specs.declared.inside.Inside.{Inside}
use Rattle.esm_body.specs.declared.segment.Ended.TheVariants as e
use Rattle.esm_body.specs.declared.segment.Next.{Next as CodeNext}
use Rattle.esm_body.specs.declared.segment.Next.TheVariants as n
use Rattle.esm_body.specs.declared.segment.Place.{Place}
use Rattle.esm_body.specs.declared.segment.Place.TheVariants as p
use Rattle.esm_body.specs.declared.turn.Outcome.{Outcome}
use Rattle.esm_body.specs.declared.turn.Outcome.TheVariants as o
use Rattle.esm_body.specs.declared.work.Activation.{Activation}
use Rattle.esm_body.specs.declared.work.Doing.{Doing}
use Rattle.esm_body.specs.declared.work.Use.{Use}
use Rattle.esm_body.proofs.Filled.{fill_code}
use Rattle.esm_body.proofs.Paths.{scopes_are}
use Rattle.esm_body.proofs.TurnParts.{keeps_itself}

-- a body may call: it is no function
few : nat_lt (length {A = Active ℕ} []) MAX_CALL_DEPTH ≡ true
few = refl

module _ {I S : Type 0} (seen : I → S) (modules : S → Modules ℕ) (linked : S → ℕ → Bool) (fits : Outer ℕ S → Type 0) (begins : Importing ℕ S) where
  abbrev At : Inside I → State ℕ S
  At w = state_in seen w

  abbrev K : Inside I → CodeValue → Type 0
  K w v = Knows modules linked (seen w.imports.now) v

  abbrev Follows : Inside I → Outcome → Result CodeNext Stop → Inside I → Type 0
  Follows w out r after = Followed seen modules linked fits begins w out r after

  abbrev Fit : Inside I → Bool → Outcome → Type 0
  Fit w awaits out = FollowsFit seen modules linked fits begins w awaits out

  abbrev Kept : Inside I → Inside I → Type 0
  Kept w after = KeepsBody seen modules linked fits begins w after

  -- ---- what runs goes on

  pub on_followed : (w : Inside I) (awaits : Bool) → IsCode w.code.now → Fit w awaits o.On → Follows w o.On (Ok (n.Goes p.Turn)) w
  on_followed w awaits code fit = (
    λ how end h. h,
    (refl, refl),
    record {
      code = code;
      place = tt;
      run = (awaits, record { run = fit.next; made = fit.made; belongs = record { tree = fit.tree; sets = fit.sets } });
      keeps = keeps_itself seen modules linked fits begins w fit.made;
      links = λ m h. h;
      body = refl;
    },
  )

  -- ---- ends, throws and awaits

  pub done_followed : (w : Inside I) (awaits : Bool) → IsCode w.code.now → Fit w awaits o.Done → Follows w o.Done (Ok (n.Over e.Normal)) w
  done_followed w awaits code fit = (
    (refl, refl),
    record { code = code; ended = tt; belongs = tt; keeps = keeps_itself seen modules linked fits begins w fit.made; body = refl },
  )

  -- there is no return from a body
  pub never_returns : (w : Inside I) (awaits : Bool) (v : Value) → Fit w awaits (o.Returns v) → ⊥
  never_returns w awaits v fit = fit.next

  pub thrown_followed : (w : Inside I) (awaits : Bool) (v : Value) → IsCode w.code.now → Fit w awaits (o.Thrown v) → Follows w (o.Thrown v) (Ok (n.Over (e.Thrown v))) w
  thrown_followed w awaits v code fit = (
    (refl, refl),
    record { code = code; ended = tt; belongs = tt; keeps = keeps_itself seen modules linked fits begins w fit.made; body = refl },
  )

  pub waits_followed : (w : Inside I) (awaits : Bool) (v : Value) (purpose : Use) → IsCode w.code.now → IsUse (length (arc_value w.code.now.tree).stmts) purpose → Fit w awaits (o.Waits v purpose)
      → Follows w (o.Waits v purpose) (Ok (n.Over (e.Awaits v purpose))) w
  waits_followed w awaits v purpose code named fit = (
    (refl, refl),
    record {
      code = code;
      ended = named;
      belongs = record { tree = fit.tree; sets = fit.sets };
      keeps = keeps_itself seen modules linked fits begins w fit.made;
      body = refl;
    },
  )

  -- ---- calls

  -- what was known is known still
  pub known_still : (w after : Inside I) → Kept w after → (v : CodeValue) → K w v → K after v
  known_still w after k Undefined h = tt
  known_still w after k (Truth b) h = tt
  known_still w after k (Text t) h = tt
  known_still w after k (Func m index) h = (k.links m h.0, (h.1.0, ap (λ items. function_at items index) (k.trees m h.0) ∙ h.1.1))
  known_still w after k (Error id) h = tt
  known_still w after k (Namespace m) h = k.links m h
  known_still w after k (Promise id) h = tt

  same_loans : (w after : Inside I) → Kept w after → SameLoans w after
  same_loans w after k = record {
    alloc = k.alloc;
    code = k.code;
    engine = k.engine;
    standing = k.standing;
    errors = k.errors;
    envs = k.envs;
    promises = k.promises;
    imports = k.imports;
  }

  keeps_of : (w after : Inside I) → Kept w after → Rattle.esm_body.specs.Inner.World.HasScopes seen modules linked fits begins after → Keeps seen modules linked fits begins w after
  keeps_of w after k made = record { made = made; trees = k.trees; scopes = k.scopes; loans = same_loans w after k }

  -- what the machine of rows says of a call
  abbrev pub CallsBy : Inside I → Rows → FuncId → List CodeValue → Result Ending Stop → Inside I → Rows → Type 0
  CallsBy w rows f vs r after tables =
      CalledBy (state_in seen) modules linked begins (CodeIsWhole seen modules linked fits begins) (KeepsBody seen modules linked fits begins) (owned_by modules) w rows f vs r after tables

  module _ (w : Inside I) (f : FuncId) (vs : Vec Value Global) (d : Box Doing Global) (awaits : Bool) (code : IsCode w.code.now) (calling : IsCalling (length (arc_value w.code.now.tree).stmts) d.value) (fit : Fit w awaits (o.Calls f vs d)) where
    abbrev out : Outcome
    out = o.Calls f vs d

    abbrev part : Rest CodeValue
    part = in_front_of w.code.now (doing_part (arc_value w.code.now.tree).stmts d.value)

    abbrev body : Active ℕ
    body = active w.code.now.at.0 part

    abbrev next_by_call : Bool → Option (Active ℕ) → Type 0
    next_by_call b callee = IsFitNext modules linked fits awaits (call_by nat_eq modules begins b w.code.now.at.0 part [] (At w) callee)

    abbrev callee_told : Option (Active ℕ)
    callee_told = called (modules (seen w.imports.now)) (func_value f) (values_of vs.items)

    -- the function is there, and its call fits
    abbrev Found : Option (Active ℕ) → Type 0
    Found told = (callee : Active ℕ) × ((told ≡ Some callee) × FitsRun modules linked fits (At w) callee.at awaits callee.rest (body ∷ []))

    found_by : (told : Option (Active ℕ)) → next_by_call true told → Found told
    found_by None h = absurd h
    found_by (Some callee) h = (callee, (refl, h))

    found : Found callee_told
    found = found_by callee_told (subst (λ b. next_by_call b callee_told) few fit.next)

    abbrev callee : Active ℕ
    callee = found.0

    run : FitsRun modules linked fits (At w) callee.at awaits callee.rest (body ∷ [])
    run = found.1.1

    abbrev CalleeEnds : ended ℕ → State ℕ S → Type 0
    CalleeEnds how end = Segment nat_eq modules begins (At w) callee.at callee.rest (body ∷ []) how end

    -- where the call comes to an end, what follows the outcome does
    ends_as : (how : ended ℕ) (end : State ℕ S) → CalleeEnds how end → EndsBehind seen modules linked fits begins w out how end
    ends_as how end s =
        subst (λ b. EndsSo nat_eq modules begins (call_by nat_eq modules begins b w.code.now.at.0 part [] (At w) callee_told) how end) (sym few)
        (subst (λ told. EndsSo nat_eq modules begins (call_by nat_eq modules begins true w.code.now.at.0 part [] (At w) told) how end) (sym found.1.0) s)

    -- the code is ready
    whole : CodeIsWhole seen modules linked fits begins w
    whole = record {
      state = run.state;
      scopes = subst (HoldScopes (K w)) (scopes_are (arc_value w.code.now.tree).stmts w.code.now.levels.items)
          (held_inside (K w) (Unit {0}) (kind_by modules linked awaits []) (code_contexts w.code.now)
          (more (doing_part (arc_value w.code.now.tree).stmts d.value) (innermost (arc_value w.code.now.tree).stmts w.code.now.levels.items)) run.before.1).1;
      home = run.before.0;
      made = fit.made;
    }

    -- what the call has come to
    told : (rows tables : Rows) (r : Result Ending Stop) (after : Inside I) → HasRows seen modules linked fits begins w rows → CallsBy w rows f (values_of vs.items) r after tables
        → Rattle.esm_row_machine.specs.Follows.CallEnds (state_in seen) modules linked begins (CodeIsWhole seen modules linked fits begins) (KeepsBody seen modules linked fits begins) (owned_by modules) w callee body r after
        × Rattle.std.specs.Prelude.OnOk r (HasRows seen modules linked fits begins after tables)
    told rows tables r after has h = h whole has fit.known.0 fit.known.1 callee body found.1.0

    pub rows_followed : (rows tables : Rows) (x : Ending) (after : Inside I) → HasRows seen modules linked fits begins w rows → CallsBy w rows f (values_of vs.items) (Ok x) after tables → HasRows seen modules linked fits begins after tables
    rows_followed rows tables x after has h = (told rows tables (Ok x) after has h).1

    module _ (after : Inside I) (spot : Place) (given : Term CodeValue) (v : CodeValue) (place_is : (a : Activation) → place_rest a spot ≡ doing_filled a d.value given) (is_place : (n : ℕ) → IsCalling n d.value → IsPlace n spot)
        (holds : K after v → Holds (K after) ⊥ given)
        (done : CallIsDone (state_in seen) modules linked begins (CodeIsWhole seen modules linked fits begins) (KeepsBody seen modules linked fits begins) (owned_by modules) w callee body given v after) where
      now_is : after.code.now ≡ w.code.now
      now_is = done.keeps.now

      at_is : after.code.now.at ≡ w.code.now.at
      at_is = ap (λ (a : Activation). a.at) now_is

      rest_is : place_rest after.code.now spot ≡ fill_rest given part
      rest_is = place_is after.code.now ∙ ap (λ (a : Activation). doing_filled a d.value given) now_is ∙ sym (fill_code given w.code.now (doing_part (arc_value w.code.now.tree).stmts d.value) code)

      leads : (how : ended ℕ) (end : State ℕ S) → Segment nat_eq modules begins (At after) after.code.now.at.0 (place_rest after.code.now spot) [] how end → EndsBehind seen modules linked fits begins w out how end
      leads how end s =
          ends_as how end (done.leads how end
          (subst (λ (m : ModuleId). Segment nat_eq modules begins (At after) m.0 (fill_rest given part) [] how end) at_is
          (subst (λ rest. Segment nat_eq modules begins (At after) after.code.now.at.0 rest [] how end) rest_is s)))

      runs : FitsRun modules linked fits (At after) after.code.now.at.0 awaits (place_rest after.code.now spot) []
      runs = record {
        state = done.is_ready.state;
        home = done.is_ready.home;
        holds = subst (HoldsRest (K after) ⊥ (kind_by modules linked awaits [])) (sym rest_is)
            (filled_rest (K after) given (holds done.known) (kind_by modules linked awaits []) part (held_rest (K w) (K after) (known_still w after done.keeps) (Unit {0}) (kind_by modules linked awaits []) part run.before.1));
        before = tt;
      }

      belongs : Belongs modules (seen after.imports.now) after.code.now (place_rest after.code.now spot)
      belongs = record {
        tree = ap (λ (a : Activation). (modules (seen after.imports.now)).tree a.at.0) now_is ∙ done.keeps.trees w.code.now.at.0 run.before.0 ∙ fit.tree ∙ ap (λ (a : Activation). (arc_value a.tree).items) (sym now_is);
        sets = subst (λ (a : Activation). SetsRest (IsNameOf (arc_value a.tree).items) (place_rest after.code.now spot)) (sym now_is)
            (subst (SetsRest (IsNameOf (arc_value w.code.now.tree).items)) (sym rest_is) (filled_sets (IsNameOf (arc_value w.code.now.tree).items) given part fit.sets));
      }

      goes_followed : Follows w out (Ok (n.Goes spot)) after
      goes_followed = (leads, passes, goes)
        where
          passes : Rattle.esm_body.specs.Inner.Running.Passes seen modules linked fits begins w out spot after
          passes = (done.keeps.more, done.keeps.bound)

          goes : GoesOn seen modules linked fits begins w spot after
          goes = record {
            code = subst (λ (a : Activation). IsCode a) (sym now_is) code;
            place = subst (λ (a : Activation). IsPlace (length (arc_value a.tree).stmts) spot) (sym now_is) (is_place (length (arc_value w.code.now.tree).stmts) calling);
            run = (awaits, record { run = runs; made = done.is_ready.made; belongs = belongs });
            keeps = keeps_of w after done.keeps done.is_ready.made;
            links = done.keeps.links;
            body = at_is;
          }

    -- the expression goes on with the value
    pub value_followed : (rows tables : Rows) (v : Value) (after : Inside I) → HasRows seen modules linked fits begins w rows → CallsBy w rows f (values_of vs.items) (Ok (ending.Value v)) after tables → Follows w out (Ok (n.Goes (p.Gives d v))) after
    value_followed rows tables v after has h = goes_followed after (p.Gives d v) (Val (value_of v)) (value_of v) (λ a. refl) (λ n c. c) (λ k. k) (told rows tables (Ok (ending.Value v)) after has h).0

    -- or with the throw
    pub throw_followed : (rows tables : Rows) (v : Value) (after : Inside I) → HasRows seen modules linked fits begins w rows → CallsBy w rows f (values_of vs.items) (Ok (ending.Thrown v)) after tables → Follows w out (Ok (n.Goes (p.Throws d v))) after
    throw_followed rows tables v after has h = goes_followed after (p.Throws d v) (Fails (value_of v)) (value_of v) (λ a. refl) (λ n c. c) (λ k. k) (told rows tables (Ok (ending.Thrown v)) after has h).0

    -- or a limit was passed
    pub stop_followed : (rows tables : Rows) (stop : Stop) (after : Inside I) → HasRows seen modules linked fits begins w rows → CallsBy w rows f (values_of vs.items) (Err stop) after tables → Follows w out (Err stop) after
    stop_followed rows tables (stops.Limit limit) after has h =
        let t = (told rows tables (Err (stops.Limit limit)) after has h).0 in
        (ends_as (ended.Stopped limit) (At after) t.0, keeps_of w after t.1 (t.1.made fit.made))
    stop_followed rows tables stops.Memory after has h = tt
