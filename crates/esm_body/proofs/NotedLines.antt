-- What the code notes of bodies is what the definitions note.
use Rattle.std.proofs.Common.{◌≡◌, ℕ, ◌+◌, ◌<◌, ◌≤◌, Bool, true, false, List, [], ◌∷◌, ◌++◌, length, map, Option, refl, ap, subst, sym, ◌∙◌, arith}
use Rattle.std.proofs.lemmas.Bool.Decides.{nat_tests}
use Rattle.std.proofs.lemmas.List.{map-append}
use Rattle.std.specs.Prelude.{Result, Ok, Err, nat_lt, codes, string_bytes}
use Rattle.esm_base.specs.declared.limits.Limit.{Limit}
use Rattle.esm_base.specs.declared.limits.Limit.TheVariants.{L1, L2, L3, L4, L5}
use Rattle.esm_base.specs.declared.limits.TheConstants.{MAX_LOG_BYTES}
use Rattle.esm_values.specs.Errors.{Errors}
use Rattle.esm_values.specs.Value.{Value}
use Rattle.esm_promise.specs.Code.{Numbered}
use Rattle.esm_promise.specs.Promises.{Settled, settle}
use Rattle.esm_env.specs.Scopes.{Scopes}
use Rattle.esm_rewriting.specs.State as state
use Rattle.esm_rewriting.specs.State.{State, AnswerWith, add_line, line_by, event_behind, event_line, note, note_by}
use Rattle.esm_rewriting.specs.Bodies.{settle_done}
use Rattle.esm_body.specs.Noted.{event_of}
use Rattle.esm_body.specs.View.{engine_of, state_of}
use Rattle.esm_body.specs.Inner.Log.{AddedLine}
use Rattle.esm_body.specs.Inner.Noting.{word_of, AddedWhere, TracesTo, Traces, NotesTo, Notes, SettlesEnd}
use Rattle.esm_body.specs.declared.engine.Engine.{Engine}
use Rattle.esm_body.specs.declared.engine.Event.{Event}
use Rattle.esm_body.specs.declared.engine.Event.TheVariants as events
use Rattle.esm_body.specs.declared.log.Log.{Log}
use Rattle.esm_rewriting.specs.declared.stop.Stop.{Stop}
use Rattle.esm_rewriting.specs.declared.stop.Stop.TheVariants as stops

not_less : (a b : ℕ) → b ≤ a → nat_lt a b ≡ false
not_less a b h = by (nat_lt a b) refl
  where
    by : (t : Bool) → nat_lt a b ≡ t → t ≡ false
    by true e = absurd (grind (arith, nat_tests))
    by false e = refl

less : (a b : ℕ) → a < b → nat_lt a b ≡ true
less a b h = by (nat_lt a b) refl
  where
    by : (t : Bool) → nat_lt a b ≡ t → t ≡ true
    by true e = refl
    by false e = absurd (grind (arith, nat_tests))

-- ---- of the code

pub traced : (old : Engine) (event : Event) (url line : List ℕ) (r : Result (Unit {0}) Stop) (log : Log) → old.trace ≡ true → line ≡ word_of event ++ url → AddedLine old.log line r log → Traces old event url r (record old { log = log })
traced old event url line (Ok u) log t l h = record { rest = refl; line = subst (λ b. AddedWhere b old.log (word_of event ++ url) (Ok tt) log) (sym t) (subst (λ l. AddedLine old.log l (Ok tt) log) l h) }
traced old event url line (Err (stops.Limit limit)) log t l h =
    record { rest = refl; line = subst (λ b. AddedWhere b old.log (word_of event ++ url) (Err (stops.Limit limit)) log) (sym t) (subst (λ l. AddedLine old.log l (Err (stops.Limit limit)) log) l h) }
traced old event url line (Err stops.Memory) log t l h = tt

-- without lines
pub untraced : (old : Engine) (event : Event) (url : List ℕ) → old.trace ≡ false → TracesTo old event url (Ok tt) old
untraced old event url t = record { rest = refl; line = subst (λ b. AddedWhere b old.log (word_of event ++ url) (Ok tt) old.log) (sym t) refl }

pub noted : (old mid : Engine) (event : Event) (url : List ℕ) (evs : List Event) → TracesTo old event url (Ok tt) mid → evs ≡ mid.events ++ event ∷ [] → NotesTo old event url (record mid { events = evs })
noted old mid event url evs h e =
    let more : evs ≡ old.events ++ event ∷ [] = e ∙ ap (λ (n : Engine). n.events ++ event ∷ []) h.rest in
    record { rest = λ j. record (h.rest j) { events = more j }; line = h.line }

pub note_stops : (old mid : Engine) (event : Event) (url : List ℕ) (stop : Stop) → Traces old event url (Err stop) mid → Notes old event url (Err stop) mid
note_stops old mid event url (stops.Limit limit) h = h
note_stops old mid event url stops.Memory h = tt

pub settle_stops : (old mid : Engine) (ps : Numbered) (event : Event) (url : List ℕ) (done : ℕ) (how : Settled (Value ℕ)) (stop : Stop) → Notes old event url (Err stop) mid → SettlesEnd old ps event url done how (Err stop) mid ps
settle_stops old mid ps event url done how (stops.Limit limit) h = (h, refl)
settle_stops old mid ps event url done how stops.Memory h = tt

-- ---- of the definitions

abbrev pub module_of : Event → ℕ
module_of (events.Begins m) = m.0
module_of (events.Ends m) = m.0
module_of (events.Throws m) = m.0

line_is : (url : ℕ → List ℕ) (text : List ℕ) (event : Event) → url (module_of event) ≡ text → event_line url (event_of event) ≡ word_of event ++ text
line_is url text (events.Begins m) e = ap (λ t. codes "# start " ++ t) e
line_is url text (events.Ends m) e = ap (λ t. codes "# end " ++ t) e
line_is url text (events.Throws m) e = ap (λ t. codes "# throw " ++ t) e

module _ {I : Type 0} (old : Engine) (e : Scopes) (ps : Numbered) (es : Errors) (i : I) (url : ℕ → List ℕ) (event : Event) (text : List ℕ) (told : url (module_of event) ≡ text) where
  abbrev St : Engine → State ℕ I
  St n = state_of n e ps es i

  abbrev line : List ℕ
  line = word_of event ++ text

  -- with these events, this log, so many steps, and this limit
  abbrev At : List (state.Event ℕ) → List ℕ → ℕ → Option Limit → State ℕ I
  At evs log steps stopped = record (St old) { engine = record (engine_of old) { events = evs; log = log; steps = steps; stopped = stopped } }

  abbrev Said : State ℕ I → AnswerWith (Unit {0}) (State ℕ I)
  Said w = (Ok tt, w)

  abbrev Refused : Limit → State ℕ I → AnswerWith (Unit {0}) (State ℕ I)
  Refused limit w = (Err limit, w)

  abbrev Behind : AnswerWith (Unit {0}) (State ℕ I) → AnswerWith (Unit {0}) (State ℕ I)
  Behind t = event_behind (event_of event) t

  more : map event_of (old.events ++ event ∷ []) ≡ map event_of old.events ++ event_of event ∷ []
  more = map-append event_of old.events (event ∷ [])

  noted_by : (b : Bool) (log : Log) → AddedWhere b old.log line (Ok tt) log → note_by b url (St old) (event_of event) ≡ Said (St (record old { log = log; events = old.events ++ event ∷ [] }))
  noted_by true log h =
      let test = not_less MAX_LOG_BYTES (length (string_bytes old.log.text) + length line + 1) h.0 in
      ap (λ t. Behind (add_line (St old) t)) (line_is url text event told) ∙ ap (λ b. Behind (line_by b (St old) line)) test
      ∙ (λ j. Said (At (sym more j) (sym h.3 j) (sym h.1 j) (sym h.2 j)))
  noted_by false log h = λ j. Said (At (sym more j) (string_bytes (sym h j).text) (sym h j).steps (sym h j).stopped)

  pub notes_ok : (new : Engine) → NotesTo old event text new → note url (St old) (event_of event) ≡ (Ok tt, St new)
  notes_ok new h = noted_by old.trace new.log h.line ∙ ap (λ (n : Engine). Said (St n)) (sym h.rest)

  stopped_by : (b : Bool) (limit : Limit) (log : Log) → AddedWhere b old.log line (Err (stops.Limit limit)) log → note_by b url (St old) (event_of event) ≡ Refused limit (St (record old { log = log }))
  stopped_by true L1 log h = absurd h
  stopped_by true L2 log h = absurd h
  stopped_by true L3 log h = absurd h
  stopped_by true L4 log h = absurd h
  stopped_by true L5 log h =
      let test = less MAX_LOG_BYTES (length (string_bytes old.log.text) + length line + 1) h.0 in
      ap (λ t. Behind (add_line (St old) t)) (line_is url text event told) ∙ ap (λ b. Behind (line_by b (St old) line)) test
      ∙ ap (λ (l : Log). Refused L5 (St (record old { log = l }))) (sym h.1)
  stopped_by false limit log h = absurd h

  pub notes_stop : (new : Engine) (limit : Limit) → TracesTo old event text (Err (stops.Limit limit)) new → note url (St old) (event_of event) ≡ (Err limit, St new)
  notes_stop new limit h = stopped_by old.trace limit new.log h.line ∙ ap (λ (n : Engine). Refused limit (St n)) (sym h.rest)

  abbrev Settles : Settled (Value ℕ) → ℕ → AnswerWith (Unit {0}) (State ℕ I) → AnswerWith (Unit {0}) (State ℕ I)
  Settles how done t = settle_done done how t

  -- the end of a body is noted, and its promise is settled
  pub settles_ok : (new : Engine) (late : Numbered) (done : ℕ) (how : Settled (Value ℕ)) → NotesTo old event text new → late ≡ settle ps done how
      → settle_done done how (note url (St old) (event_of event)) ≡ (Ok tt, state_of new e late es i)
  settles_ok new late done how h s = ap (Settles how done) (notes_ok new h) ∙ ap (λ (p : Numbered). Said (state_of new e p es i)) (sym s)

  pub settles_stop : (new : Engine) (late : Numbered) (limit : Limit) (done : ℕ) (how : Settled (Value ℕ)) → TracesTo old event text (Err (stops.Limit limit)) new → late ≡ ps
      → settle_done done how (note url (St old) (event_of event)) ≡ (Err limit, state_of new e late es i)
  settles_stop new late limit done how h s = ap (Settles how done) (notes_stop new limit h) ∙ ap (λ (p : Numbered). Refused limit (state_of new e p es i)) (sym s)
