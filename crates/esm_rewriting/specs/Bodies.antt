-- Whole bodies. ECMA-262, ExecuteModule, ExecuteAsyncModule and Await.
use Rattle.std.specs.Prelude.{◌≡◌, ℕ, Bool, true, false, List, [], ◌∷◌, ◌++◌, Option, Some, None, Result, Ok, Err}
use Rattle.esm_base.specs.declared.limits.Limit.{Limit}
use Rattle.esm_env.specs.Declarations.{body_of}
use Rattle.esm_values.specs.Value.{Value, Undefined, Promise}
use Rattle.esm_values.specs.Ran.{Ran}
use Rattle.esm_values.specs.Ran.{Ran as ran}
use Rattle.esm_expr_eval.specs.Terms.{Term}
use Rattle.esm_expr_eval.specs.Terms.Term.{Val, Fails}
use Rattle.esm_promise.specs.Promises.{Promises, Settled, settle, register, make_fulfilled, next_promise}
use Rattle.esm_promise.specs.Promises.Settled.{Fulfilled, Rejected}
use Rattle.esm_promise.specs.Reactions.{Reaction, Await}
use Rattle.esm_env.specs.Modules.{Modules}
use Rattle.esm_rewriting.specs.Rest.{Rest, whole, fill_rest}
use Rattle.esm_rewriting.specs.State.{Begins, Ends, Throws, Standing, State, Importing, AnswerWith, note, with_promises}
use Rattle.esm_rewriting.specs.Acts.{modules_of}
use Rattle.esm_rewriting.specs.Segment.{Ended, Normal, Thrown, Awaiting, Stopped, Segment}

-- a body at its await, and the others
pub record Taken (N : Type 0) : Type 0 where
  pub standing : Standing N
  pub others : List (Standing N)

module _ {N : Type 0} (same : N → N → Bool) where
  abbrev pub behind : Standing N → Option (Taken N) → Option (Taken N)
  behind s None = None
  behind s (Some t) = Some (record t { others = s ∷ t.others })

  abbrev pub take_by : Bool → Standing N → List (Standing N) → Option (Taken N) → Option (Taken N)
  take_by true s ss later = Some (record { standing = s; others = ss })
  take_by false s ss later = behind s later

  abbrev pub take_standing : List (Standing N) → N → Option (Taken N)
  take_standing [] m = None
  take_standing (s ∷ ss) m = take_by (same s.at m) s ss (take_standing ss m)

-- ECMA-262, Await and PromiseResolve: on a promise a reaction is registered, of another value one is made that is fulfilled
abbrev pub await_on : {N : Type 0} → Promises (Reaction N) (Value N) → Value N → N → Promises (Reaction N) (Value N)
await_on ps (Promise p) m = register ps p (Await m)
await_on ps v m = register (make_fulfilled ps v) (next_promise ps) (Await m)

module _ {N I : Type 0} where
  abbrev pub stand : State N I → N → ℕ → Value N → Rest (Value N) → State N I
  stand w m done v rest = with_promises (record w {
    engine = record w.engine {
      standing = w.engine.standing
          ++ record { at = m; done = done; rest = rest } ∷ [];
    };
  }) (await_on w.outer.promises v m)

  abbrev pub settle_done : ℕ → Settled (Value N) → AnswerWith (Unit {0}) (State N I) → AnswerWith (Unit {0}) (State N I)
  settle_done done how (Ok noted, w) = (Ok tt, with_promises w (settle w.outer.promises done how))
  settle_done done how (Err why, w) = (Err why, w)

  -- where a segment of a body that awaits has ended
  abbrev pub segment_end : (N → List ℕ) → N → ℕ → Ended N → State N I → AnswerWith (Unit {0}) (State N I)
  segment_end url m done Normal w = settle_done done (Fulfilled Undefined) (note url w (Ends m))
  segment_end url m done (Thrown v) w = settle_done done (Rejected v) (note url w (Throws m))
  segment_end url m done (Awaiting v rest) w = (Ok tt, stand w m done v rest)
  segment_end url m done (Stopped why) w = (Err why, w)

  abbrev pub ran_by : Ran (Value N) → AnswerWith (Unit {0}) (State N I) → Option (AnswerWith (Ran (Value N)) (State N I))
  ran_by how (Ok noted, w) = Some (Ok how, w)
  ran_by how (Err why, w) = Some (Err why, w)

  -- where a body that doesn't await has ended. It stands at no await, so there is no such end
  abbrev pub body_end : (N → List ℕ) → N → Ended N → State N I → Option (AnswerWith (Ran (Value N)) (State N I))
  body_end url m Normal w = ran_by ran.Normal (note url w (Ends m))
  body_end url m (Thrown v) w = ran_by (ran.Thrown v) (note url w (Throws m))
  body_end url m (Awaiting v rest) w = None
  body_end url m (Stopped why) w = Some (Err why, w)

-- what stands for the await from now on
abbrev pub given_by : {N : Type 0} → Settled (Value N) → Term (Value N)
given_by (Fulfilled v) = Val v
given_by (Rejected v) = Fails v

module _ {N I : Type 0} (same : N → N → Bool) (modules : I → Modules N) (begins : Importing N I) where
  abbrev pub url_in : State N I → N → List ℕ
  url_in w m = (modules_of modules w).url m

  -- the body from its start
  abbrev pub whole_body : State N I → N → Rest (Value N)
  whole_body w m = whole (body_of ((modules_of modules w).tree m))

  -- ECMA-262, ExecuteAsyncModule: a body that awaits begins, and goes on to its first await or its end
  pub data StartsBody (w : State N I) (m : N) (done : ℕ) : Result (Unit {0}) Limit → State N I → Type 0 where
    stopped : {after : State N I} {why : Limit} → note (url_in w) w (Begins m) ≡ (Err why, after) → StartsBody w m done (Err why) after
    segment : {mid late after : State N I} {how : Ended N} {end : Result (Unit {0}) Limit} → note (url_in w) w (Begins m) ≡ (Ok tt, mid)
        → Segment same modules begins mid m (whole_body w m) [] how late → segment_end (url_in w) m done how late ≡ (end, after)
        → StartsBody w m done end after

  -- ECMA-262, ExecuteModule: a body that doesn't await runs to its end
  pub data RunsBody (w : State N I) (m : N) : Result (Ran (Value N)) Limit → State N I → Type 0 where
    stopped : {after : State N I} {why : Limit} → note (url_in w) w (Begins m) ≡ (Err why, after) → RunsBody w m (Err why) after
    segment : {mid late after : State N I} {how : Ended N} {end : Result (Ran (Value N)) Limit} → note (url_in w) w (Begins m)
        ≡ (Ok tt, mid) → Segment same modules begins mid m (whole_body w m) [] how late → body_end (url_in w) m how late ≡ Some (end, after)
        → RunsBody w m end after

  abbrev pub without_standing : State N I → List (Standing N) → State N I
  without_standing w others = record w { engine = record w.engine { standing = others } }

  -- ECMA-262, Await: a body goes on behind its await
  pub record ResumesBody (w : State N I) (m : N) (how : Settled (Value N)) (end : Result (Unit {0}) Limit)
      (after : State N I) : Type 0 where
    pub taken : Taken N
    pub ended : Ended N
    pub late : State N I
    pub stands : take_standing same w.engine.standing m ≡ Some taken
    pub runs : Segment same modules begins (without_standing w taken.others) m (fill_rest (given_by how) taken.standing.rest) [] ended late
    pub ends : segment_end (url_in w) m taken.standing.done ended late ≡ (end, after)
