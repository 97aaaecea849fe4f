-- What a body asks of the world has one answer, where import() has one.
use Rattle.std.proofs.Common.{◌≡◌, ℕ, Bool, List, [], ◌∷◌, Option, Some, None, ap, ap₂, sym, ◌∙◌}
use Rattle.std.specs.Prelude.{Result, Ok}
use Rattle.esm_base.specs.declared.limits.Limit.{Limit}
use Rattle.esm_rewriting.proofs.OneKeys.{keys_one}
use Rattle.esm_values.specs.Value.{Value, Undefined, Truth, Text, Func, Error, Namespace, Promise}
use Rattle.esm_values.specs.Display.{namespace_text, printed_line}
use Rattle.esm_values.specs.Operators.{text_of}
use Rattle.esm_values.specs.Acts.{Act, AnswerTo}
use Rattle.esm_values.specs.Completion.{Completion}
use Rattle.esm_values.specs.Acts.{Act as act}
use Rattle.esm_values.proofs.Follows.{ActsOne}
use Rattle.esm_env.specs.Modules.{Modules}
use Rattle.esm_env.specs.Cells.{Cell, Reading}
use Rattle.esm_env.proofs.OneRead.{reads_one, member_one}
use Rattle.esm_rewriting.specs.Scopes.{in_scopes}
use Rattle.esm_promise.specs.Outer.{Outer}
use Rattle.esm_rewriting.specs.State.{State, Importing, AnswerWith}
use Rattle.esm_rewriting.specs.Acts.{Inner, Performs, AnswersAct, Displays, DisplaysAll, ReadsBy, ReadsMemberOf, BeginsBy, read_answer, over_scopes, with_state, with_outer, import_answer}
use Rattle.esm_rewriting.specs.State.{add_line}
use Rattle.esm_promise.specs.Promises.{next_promise}

-- each import() has one outcome
pub record BeginsOne {N I : Type 0} (begins : Importing N I) : Type 0 where
  pub one : {o x y : Outer N I} {m : N} {text : List ℕ} {p : ℕ} {r s : Result (Unit {0}) Limit} → begins o m text p r x → begins o m text p s y → (s ≡ r) × (y ≡ x)

module _ {N I : Type 0} (modules : I → Modules N) where
  some_one : {A : Type 0} {o : Option A} {a b : A} → o ≡ Some a → o ≡ Some b → b ≡ a
  some_one p q = cc

  pub displays_one : (w : State N I) (v : Value N) {s t : List ℕ} → Displays modules w v s → Displays modules w v t → t ≡ s
  displays_one w Undefined p q = some_one p q
  displays_one w (Truth b) p q = some_one p q
  displays_one w (Text x) p q = some_one p q
  displays_one w (Func m i) p q = some_one p q
  displays_one w (Error i) p q = some_one p q
  displays_one w (Namespace m) p q = q.3 ∙ ap namespace_text (sym (keys_one _ _ p.0 q.0 p.1 q.1 p.2 q.2)) ∙ sym p.3
  displays_one w (Promise i) p q = some_one p q

  pub displays_all_one : (w : State N I) (vs : List (Value N)) {s t : List (List ℕ)} → DisplaysAll modules w vs s → DisplaysAll modules w vs t → t ≡ s
  displays_all_one w [] p q = q ∙ sym p
  displays_all_one w (v ∷ vs) p q = q.4 ∙ ap₂ (λ x xs. x ∷ xs) (displays_one w v p.2 q.2) (displays_all_one w vs p.3 q.3) ∙ sym p.4

module _ {N I : Type 0} (same : N → N → Bool) (modules : I → Modules N) (begins : Importing N I) (one : BeginsOne begins) (m : N) where
  reads_by_one : (w : State N I) (x : List ℕ) (c : Option (Cell (Value N))) {r s : Reading (Value N)} → ReadsBy same modules begins m w x c r → ReadsBy same modules begins m w x c s → s ≡ r
  reads_by_one w x (Some c) p q = q ∙ sym p
  reads_by_one w x None p q = reads_one _ p q

  members_one : (w : Inner N I) (v : Value N) (x : List ℕ) {t u : AnswerWith (Completion (Value N)) (Inner N I)} → ReadsMemberOf same modules begins m w v x t → ReadsMemberOf same modules begins m w v x u → u ≡ t
  members_one w Undefined x p q = q ∙ sym p
  members_one w (Truth b) x p q = q ∙ sym p
  members_one w (Text s) x p q = q ∙ sym p
  members_one w (Func k i) x p q = q ∙ sym p
  members_one w (Error i) x p q = q ∙ sym p
  members_one w (Namespace k) x p q = q.2 ∙ ap (read_answer w x) (member_one _ p.1 q.1) ∙ sym p.2
  members_one w (Promise i) x p q = q ∙ sym p

  begun_one : (w : Inner N I) (text : Option (List ℕ)) {t u : AnswerWith (Value N) (Inner N I)} → BeginsBy same modules begins m w text t → BeginsBy same modules begins m w text u → u ≡ t
  begun_one w None p q = q ∙ sym p
  begun_one w (Some text) p q =
      let k = one.one p.2 q.2 in
      q.3 ∙ (λ i. (import_answer (next_promise w.state.outer.promises) (k.0 i), with_state w (with_outer w.state (k.1 i)))) ∙ sym p.3

  tells_one : (w : Inner N I) (a : Act (Value N)) {t u : AnswerWith (AnswerTo a) (Inner N I)} → AnswersAct same modules begins m w a t → AnswersAct same modules begins m w a u → u ≡ t
  tells_one w (act.Read x) p q = q.2 ∙ ap (read_answer w x) (reads_by_one w.state x (in_scopes w.scopes x) p.1 q.1) ∙ sym p.2
  tells_one w (act.Member of x) p q = members_one w of x p q
  tells_one w (act.Display of) p q = q.2 ∙ ap (λ t. (Ok t, w)) (displays_one modules w.state of p.1 q.1) ∙ sym p.2
  tells_one w (act.Print vs) p q = q.2 ∙ ap (λ ts. over_scopes w (add_line w.state (printed_line ts))) (displays_all_one modules w.state vs p.1 q.1) ∙ sym p.2
  tells_one w (act.Fault kind message) p q = q ∙ sym p
  tells_one w (act.Step steps) p q = q ∙ sym p
  tells_one w (act.Import of) p q = begun_one w (text_of w.state.outer.errors of) p q

  pub acts_one : ActsOne (Performs same modules begins m)
  acts_one = record { one = λ {w} {x} {y} {a} {r} {s} p q. let e = tells_one w a p q in (ap (λ t. t.0) e, ap (λ t. t.1) e) }
