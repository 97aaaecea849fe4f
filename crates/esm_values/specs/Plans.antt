-- What a rewriting comes to, and what is asked of the world for it, in order.
use Rattle.std.specs.Prelude.{List, Result, Ok, Err}
use Rattle.esm_values.specs.Acts.{Act, AnswerTo}

-- what a rewriting comes to: it goes on with what remains, leaves by a throw, stands at a call of a function, whose
-- value what remains is given, or a call on the world stopped
pub data Rewritten (V S A : Type 0) : Type 0 where
  Goes : (rest : A) → Rewritten V S A
  Leaves : (v : V) → Rewritten V S A
  Calls : (f : V) (vs : List V) (rest : A) → Rewritten V S A
  Stops : (why : S) → Rewritten V S A

-- the same, where what remains stands inside something else
abbrev pub inside : {V S A B : Type 0} → (A → B) → Rewritten V S A → Rewritten V S B
inside f (Goes a) = Goes (f a)
inside f (Leaves v) = Leaves v
inside f (Calls g vs a) = Calls g vs (f a)
inside f (Stops why) = Stops why

-- calls on the world in order, each answer deciding what follows
pub data Plan (V S A : Type 0) : Type 0 where
  Ends : (c : Rewritten V S A) → Plan V S A
  Asks : (a : Act V) (next : AnswerTo a → Plan V S A) → Plan V S A

-- how the calls on a world W act: the world before, the call, its answer or why it stopped, the world after
abbrev pub Acting : Type 0 → Type 0 → Type 0 → Type 1
Acting W V S = W → (a : Act V) → Result (AnswerTo a) S → W → Type 0

-- the plan is followed: each call on the world is one step of acts, and a call that stops ends it
pub data Follows {W V S A : Type 0} (acts : Acting W V S) : W → Plan V S A → Rewritten V S A → W → Type 0 where
  ends : {w : W} {c : Rewritten V S A} → Follows acts w (Ends c) c w
  asks : {w mid after : W} {a : Act V} {next : AnswerTo a → Plan V S A} {c : Rewritten V S A} (r : AnswerTo a)
      → acts w a (Ok r) mid → Follows acts mid (next r) c after → Follows acts w (Asks a next) c after
  stops : {w after : W} {a : Act V} {next : AnswerTo a → Plan V S A} {why : S}
      → acts w a (Err why) after → Follows acts w (Asks a next) (Stops why) after
