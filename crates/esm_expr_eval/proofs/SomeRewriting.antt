-- Over a world in which each call has an outcome, what remains of an expression is a value or has a rewriting.
use Rattle.std.proofs.Common.{◌≡◌, ℕ, zero, suc, ◌<◌, ◌⊎◌, inl, inr, List, arith, subst, sym}
use Rattle.std.specs.Prelude.{Result, Ok, Err, ⊤}
use Rattle.esm_values.specs.Acts.{Act, AnswerTo}
use Rattle.esm_values.specs.Acts.{Act as act}
use Rattle.esm_values.specs.Completion.{Completion, Normal, Throw}
use Rattle.esm_values.specs.Code.{CodeValue, numbered}
use Rattle.esm_values.specs.Plans.{Acting, Rewritten}
use Rattle.esm_values.specs.Plans.Rewritten.{Goes, Leaves, Calls, Stops}
use Rattle.esm_expr_eval.specs.Ends.{TermEnd, Value, Thrown, Call, Stopped, Leads}
use Rattle.esm_expr_eval.specs.Terms.{Term}
use Rattle.esm_expr_eval.specs.Terms.Term.{Val}
use Rattle.esm_expr_eval.specs.Ready.{IsAtWork}
use Rattle.esm_expr_eval.specs.Rewriting.{Rewrites}
use Rattle.esm_expr_eval.specs.Laws.{ActsAlways, HasRewriting}
use Rattle.esm_expr_eval.proofs.Lands.{Views, HasAnswer, answers, stopped, Lives, KnowsAnswer, KnowsCompletion}
use Rattle.esm_expr_eval.proofs.HasRewriting.{Comes', comes, come, Here, Arrives}
use Rattle.esm_expr_eval.specs.Sizes.{size}

-- nothing is asked of worlds and values
abbrev any : (W : Type 0) → Views W CodeValue
any W = record { Fits = λ w. ⊤; Knows = λ w v. ⊤; Took = λ w n after. ⊤; Halts = λ w after. ⊤ }

completion_any : (c : Completion CodeValue) → KnowsCompletion (λ v. ⊤) c
completion_any (Normal v) = tt
completion_any (Throw v) = tt

answer_any : (a : Act CodeValue) (r : AnswerTo a) → KnowsAnswer (λ v. ⊤) a r
answer_any (act.Read x) r = completion_any r
answer_any (act.Member v x) r = completion_any r
answer_any (act.Display v) r = tt
answer_any (act.Print vs) r = tt
answer_any (act.Fault kind message) r = tt
answer_any (act.Step n) r = tt
answer_any (act.Import v) r = tt

module _ {W S : Type 0} (url : W → List ℕ) (acts : Acting W CodeValue S) (always : ActsAlways acts) where
  answered_by : (w : W) (a : Act CodeValue) (r : Result (AnswerTo a) S) (after : W) → acts w a r after → HasAnswer (any W) acts w a
  answered_by w a (Ok r) after h = answers r after h (record { fits = tt; keeps = λ v k. tt; took = tt }) (answer_any a r)
  answered_by w a (Err why) after h = stopped why after h tt

  lives : Lives (any W) acts numbered
  lives = record {
    answered = λ w a f k. let o = always w a in answered_by w a o.0 o.1.0 o.1.1;
    undefined = λ w. tt;
    truth = λ w b. tt;
    text = λ w t. tt;
    none = λ w. tt;
    halts = λ a b. tt;
    both = λ a b. tt;
  }

  abbrev Some : W → Term CodeValue → Type 0
  Some w t = ((v : CodeValue) × (t ≡ Val v)) ⊎ ((c : Rewritten CodeValue S (Term CodeValue)) × ((after : W) × Rewrites numbered url acts w t c after))

  found : (w : W) (t : Term CodeValue) → Comes' (any W) numbered url acts lives w t → Some w t
  found w t (comes c after r l) = inr (c, (after, r))

  -- rewritings up to an end, for terms of at most this size
  abbrev Found : W → Term CodeValue → Type 0
  Found w t = (end : TermEnd CodeValue S) × ((after : W) × Leads numbered url acts w t end after)

  abbrev Later' : ℕ → Type 0
  Later' n = (w : W) (t : Term CodeValue) → size t < n → IsAtWork t → Found w t

  went : (n : ℕ) (again : Later' n) (w : W) (t : Term CodeValue) → size t < suc n → (c : Rewritten CodeValue S (Term CodeValue)) (after : W) → Rewrites numbered url acts w t c after
      → Arrives (any W) numbered url acts lives w (size t) c after → Found w t
  went n again w t lt (Goes f) after r (k, (l, (h, g))) = let e = again after f (omega (arith, lt, g)) h in (e.0, (e.1.0, Leads.goes r e.1.1))
  went n again w t lt (Leaves v) after r l = (Thrown v, (after, Leads.throws r))
  went n again w t lt (Calls f vs e) after r l = (Call f vs e, (after, Leads.calls r))
  went n again w t lt (Stops why) after r l = (Stopped why, (after, Leads.stopped r))

  stepped : (n : ℕ) (again : Later' n) (w : W) (t : Term CodeValue) → size t < suc n → Comes' (any W) numbered url acts lives w t → Found w t
  stepped n again w t lt (comes c after r l) = went n again w t lt c after r l

  ended_by : (n : ℕ) (again : Later' n) (w : W) (t : Term CodeValue) → size t < suc n → Here (any W) numbered url acts lives w t → Found w t
  ended_by n again w t lt (inl x) = (Value x.0, (w, subst (λ t. Leads numbered url acts w t (Value x.0) w) (sym x.1) Leads.value))
  ended_by n again w t lt (inr c) = stepped n again w t lt c

  ended : (n : ℕ) → Later' n
  ended zero w t lt h = absurd (omega (arith, lt))
  ended (suc n) w t lt h = ended_by n (ended n) w t lt (come (any W) numbered url acts lives w tt t h)

  pub leads_somewhere : (w : W) (t : Term CodeValue) → IsAtWork t → Found w t
  leads_somewhere w t h = ended (suc (size t)) w t (omega arith) h

  either : (w : W) (t : Term CodeValue) → Here (any W) numbered url acts lives w t → Some w t
  either w t (inl x) = inl x
  either w t (inr c) = found w t c

  pub some_rewriting : (w : W) (t : Term CodeValue) → IsAtWork t → Some w t
  some_rewriting w t h = either w t (come (any W) numbered url acts lives w tt t h)

pub has_rewriting : {W S : Type 0} (url : W → List ℕ) (acts : Acting W CodeValue S) → HasRewriting url acts
has_rewriting url acts = record { rewrites = λ always w t h. some_rewriting url acts always w t h; leads = λ always w t h. leads_somewhere url acts always w t h }
