-- What follows the end of a segment in the code is what follows it in the definitions.
use Rattle.std.proofs.Common.{◌≡◌, ℕ, Bool, true, false, List, [], ◌∷◌, ◌++◌, map, Some, refl, ap, sym, ◌∙◌}
use Rattle.std.proofs.lemmas.List.{map-append}
use Rattle.std.specs.Prelude.{Result, Ok, Err, OnOk, codes}
use Rattle.esm_base.specs.declared.module_id.ModuleId.{ModuleId}
use Rattle.esm_values.specs.Errors.{Errors}
use Rattle.esm_values.specs.Value as value
use Rattle.esm_values.specs.Ran.{Ran as ran}
use Rattle.esm_values.specs.Code.{ran_of, value_of}
use Rattle.esm_values.specs.declared.value.PromiseId.{PromiseId}
use Rattle.esm_values.specs.declared.value.Value.{Value}
use Rattle.esm_values.specs.declared.value.Ran.{Ran}
use Rattle.esm_values.specs.declared.value.Ran.TheVariants as r
use Rattle.esm_promise.specs.Code.{Numbered}
use Rattle.esm_promise.specs.Promises.{Settled}
use Rattle.esm_promise.specs.Promises.Settled.{Fulfilled, Rejected}
use Rattle.esm_env.specs.Scopes.{Scopes}
use Rattle.esm_rewriting.specs.State as state
use Rattle.esm_rewriting.specs.State.{State, note_by, event_behind, add_line}
use Rattle.esm_rewriting.specs.Bodies.{await_on, segment_end, settle_done, body_end, ran_by}
use Rattle.esm_rewriting.specs.Segment.{Ended as ends}
use Rattle.esm_body.specs.View.{standing_of, engine_of, state_of}
use Rattle.esm_body.specs.Inner.Going.{EndsSegment, EndsBody}
use Rattle.esm_body.specs.Inner.Noting.{NotesTo, Notes, NotesRan, SettlesEnd, StandsNow}
use Rattle.esm_body.specs.Code.{standing_rest}
use Rattle.esm_body.specs.declared.engine.Engine.{Engine}
use Rattle.esm_body.specs.declared.engine.Event.{Event}
use Rattle.esm_body.specs.declared.engine.Event.TheVariants as events
use Rattle.esm_rewriting.specs.declared.stop.Stop.{Stop}
use Rattle.esm_rewriting.specs.declared.stop.Stop.TheVariants as stops
use Rattle.esm_body.specs.declared.ends.Halt.{Halt}
use Rattle.esm_body.specs.declared.segment.Ended.{Ended}
use Rattle.esm_body.specs.declared.segment.Ended.TheVariants as e
use Rattle.esm_body.specs.declared.work.Activation.{Activation}
use Rattle.esm_body.specs.declared.work.Standing.{Standing}
use Rattle.esm_body.specs.declared.work.Use.{Use}
use Rattle.esm_body.proofs.NotedLines.{notes_ok, notes_stop, settles_ok, settles_stop}

abbrev pub halt : Ended → Activation → Halt
halt ended body = record { ended = ended; body = body }

module _ {I : Type 0} (old new : Engine) (sc : Scopes) (ps late : Numbered) (es : Errors) (i : I) (url : ℕ → List ℕ) (m : ModuleId) where
  abbrev St : State ℕ I
  St = state_of old sc ps es i

  abbrev After : State ℕ I
  After = state_of new sc late es i

  -- ---- of a body that awaits

  pub ends_normal : (done : PromiseId) (body : Activation) (r : Result (Unit {0}) Stop) → SettlesEnd old ps (events.Ends m) (url m.0) done.0 (Fulfilled value.Undefined) r new late
      → EndsSegment url m.0 done.0 (halt e.Normal body) St r After
  ends_normal done body (Ok u) h = settles_ok old sc ps es i url (events.Ends m) (url m.0) refl new late done.0 (Fulfilled value.Undefined) h.0 h.1
  ends_normal done body (Err (stops.Limit limit)) h = settles_stop old sc ps es i url (events.Ends m) (url m.0) refl new late limit done.0 (Fulfilled value.Undefined) h.0 h.1
  ends_normal done body (Err stops.Memory) h = tt

  pub ends_thrown : (done : PromiseId) (v : Value) (body : Activation) (r : Result (Unit {0}) Stop) → SettlesEnd old ps (events.Throws m) (url m.0) done.0 (Rejected (value_of v)) r new late
      → EndsSegment url m.0 done.0 (halt (e.Thrown v) body) St r After
  ends_thrown done v body (Ok u) h = settles_ok old sc ps es i url (events.Throws m) (url m.0) refl new late done.0 (Rejected (value_of v)) h.0 h.1
  ends_thrown done v body (Err (stops.Limit limit)) h = settles_stop old sc ps es i url (events.Throws m) (url m.0) refl new late limit done.0 (Rejected (value_of v)) h.0 h.1
  ends_thrown done v body (Err stops.Memory) h = tt

  abbrev Stood : List (state.Standing ℕ) → Numbered → State ℕ I
  Stood ss p = record St { engine = record (engine_of old) { standing = ss }; outer = record St.outer { promises = p } }

  abbrev standing : PromiseId → Activation → Use → Standing
  standing done body purpose = record { done = done; body = body; purpose = purpose }

  abbrev stands_for : ℕ → PromiseId → Activation → Use → state.Standing ℕ
  stands_for at done body purpose = record { at = at; done = done.0; rest = standing_rest body purpose }

  pub ends_waiting : (done : PromiseId) (v : Value) (purpose : Use) (body : Activation) → body.at.0 ≡ m.0 → StandsNow old ps (standing done body purpose) (value_of v) m.0 new late
      → EndsSegment url m.0 done.0 (halt (e.Awaits v purpose) body) St (Ok tt) After
  ends_waiting done v purpose body at h =
      let before = map standing_of old.standing.items in
      let more : map standing_of new.standing.items ≡ before ++ stands_for m.0 done body purpose ∷ [] =
      ap (map standing_of) h.items ∙ map-append standing_of old.standing.items (standing done body purpose ∷ []) ∙ ap (λ n. before ++ stands_for n done body purpose ∷ []) at in
      let told : After ≡ Stood (map standing_of new.standing.items) late = ap (λ (n : Engine). state_of n sc late es i) h.rest in
      let whole : After ≡ Stood (before ++ stands_for m.0 done body purpose ∷ []) (await_on ps (value_of v) m.0) = told ∙ (λ j. Stood (more j) (h.waits j)) in
      λ j. (Ok tt, sym whole j)

-- ---- of a body that doesn't

-- what is noted doesn't touch promises
module _ {I : Type 0} (old new : Engine) (sc : Scopes) (ps : Numbered) (es : Errors) (i : I) (url : ℕ → List ℕ) (m : ModuleId) where
  abbrev From : State ℕ I
  From = state_of old sc ps es i

  abbrev To : State ℕ I
  To = state_of new sc ps es i

  pub runs_normal : (now : Activation) (result : Result Ran Stop) → NotesRan old (events.Ends m) (url m.0) r.Normal result new → EndsBody url m.0 e.Normal now From result To
  runs_normal now (Ok how) h = ap (λ t. ran_by ran.Normal t) (notes_ok old sc ps es i url (events.Ends m) (url m.0) refl new h.0) ∙ ap (λ (how : Ran). Some (Ok (ran_of how), To)) (sym h.1)
  runs_normal now (Err (stops.Limit limit)) h = ap (λ t. ran_by ran.Normal t) (notes_stop old sc ps es i url (events.Ends m) (url m.0) refl new limit h)
  runs_normal now (Err stops.Memory) h = tt

  pub runs_thrown : (v : Value) (now : Activation) (result : Result Ran Stop) → NotesRan old (events.Throws m) (url m.0) (r.Thrown v) result new → EndsBody url m.0 (e.Thrown v) now From result To
  runs_thrown v now (Ok how) h = ap (λ t. ran_by (ran.Thrown (value_of v)) t) (notes_ok old sc ps es i url (events.Throws m) (url m.0) refl new h.0) ∙ ap (λ (how : Ran). Some (Ok (ran_of how), To)) (sym h.1)
  runs_thrown v now (Err (stops.Limit limit)) h = ap (λ t. ran_by (ran.Thrown (value_of v)) t) (notes_stop old sc ps es i url (events.Throws m) (url m.0) refl new limit h)
  runs_thrown v now (Err stops.Memory) h = tt

-- the bodies at their awaits behind an end that was noted
pub stays_settled : (old new : Engine) (ps late : Numbered) (event : Event) (text : List ℕ) (done : ℕ) (how : Settled (value.Value ℕ)) (r : Result (Unit {0}) Stop) → SettlesEnd old ps event text done how r new late → OnOk r (new.standing.items ≡ old.standing.items)
stays_settled old new ps late event text done how (Ok u) h = ap (λ (n : Engine). n.standing.items) h.0.rest
stays_settled old new ps late event text done how (Err stop) h = tt

pub stays_ran : (old new : Engine) (event : Event) (text : List ℕ) (how : Ran) (result : Result Ran Stop) → NotesRan old event text how result new → OnOk result (new.standing ≡ old.standing)
stays_ran old new event text how (Ok told) h = ap (λ (n : Engine). n.standing) h.0.rest
stays_ran old new event text how (Err stop) h = tt

pub ran_stops : (old mid : Engine) (event : Event) (text : List ℕ) (how : Ran) (stop : Stop) → Notes old event text (Err stop) mid → NotesRan old event text how (Err stop) mid
ran_stops old mid event text how (stops.Limit limit) h = h
ran_stops old mid event text how stops.Memory h = tt

pub stays_noted : (old new : Engine) (event : Event) (text : List ℕ) → NotesTo old event text new → new.standing ≡ old.standing
stays_noted old new event text h = ap (λ (n : Engine). n.standing) h.rest

-- ---- an end is told by the URL of its module alone

module _ {I : Type 0} (url other : ℕ → List ℕ) (m : ℕ) (same : other m ≡ url m) where
  noted_ends : (b : Bool) (w : State ℕ I) → note_by b other w (state.Ends m) ≡ note_by b url w (state.Ends m)
  noted_ends true w = ap (λ t. event_behind (state.Ends m) (add_line w (codes "# end " ++ t))) same
  noted_ends false w = refl

  noted_throws : (b : Bool) (w : State ℕ I) → note_by b other w (state.Throws m) ≡ note_by b url w (state.Throws m)
  noted_throws true w = ap (λ t. event_behind (state.Throws m) (add_line w (codes "# throw " ++ t))) same
  noted_throws false w = refl

  pub end_told : (done : ℕ) (how : ends ℕ) (w : State ℕ I) → segment_end other m done how w ≡ segment_end url m done how w
  end_told done ends.Normal w = ap (λ t. settle_done done (Fulfilled value.Undefined) t) (noted_ends w.engine.trace w)
  end_told done (ends.Thrown v) w = ap (λ t. settle_done done (Rejected v) t) (noted_throws w.engine.trace w)
  end_told done (ends.Awaiting v rest) w = refl
  end_told done (ends.Stopped why) w = refl

  pub body_told : (how : ends ℕ) (w : State ℕ I) → body_end other m how w ≡ body_end url m how w
  body_told ends.Normal w = ap (λ t. ran_by ran.Normal t) (noted_ends w.engine.trace w)
  body_told (ends.Thrown v) w = ap (λ t. ran_by (ran.Thrown v) t) (noted_throws w.engine.trace w)
  body_told (ends.Awaiting v rest) w = refl
  body_told (ends.Stopped why) w = refl
