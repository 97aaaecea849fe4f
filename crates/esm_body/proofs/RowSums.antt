-- Sums and errors of values, in code of any module and in any scopes: what the code's plan comes to, that of the definitions does.
use Rattle.std.proofs.Common.{◌≡◌, ℕ, nat_eq, Bool, true, false, List, [], ◌∷◌, Option, Some, None, refl, ap, subst, sym}
use Rattle.std.specs.Prelude.{Result, Ok, Err, codes, if◌then◌else◌}
use Rattle.esm_base.specs.declared.limits.Limit.{Limit}
use Rattle.esm_resolve.specs.SharedSet.{SharedSetAgrees, SharedSetEnds}
use Rattle.esm_values.specs.Acts.{Act, AnswerTo}
use Rattle.esm_values.specs.Acts.{Act as act}
use Rattle.esm_values.specs.Code.{CodeValue, numbered}
use Rattle.esm_values.specs.Plans.{Rewritten, Plan, Follows}
use Rattle.esm_values.specs.Plans.{Follows as follows}
use Rattle.esm_values.specs.Plans.Rewritten.{Goes, Leaves, Calls, Stops}
use Rattle.esm_values.specs.Plans.Plan.{Ends, Asks}
use Rattle.esm_values.specs.Operators.{Textual, Known, Displayed, Refused, sum, operand, made, joined, faults, to_text_by, textual, new_error, error_of, look_of}
use Rattle.esm_values.specs.Operators.{Look}
use Rattle.esm_values.specs.Operators.{Look as look}
use Rattle.esm_values.specs.declared.errors.FaultKind.{FaultKind}
use Rattle.esm_values.specs.declared.errors.FaultKind.TheVariants as kinds
use Rattle.esm_expr_eval.specs.Frames.{AnswersPlan}
use Rattle.esm_expr_eval.specs.Terms.{Term}
use Rattle.esm_expr_eval.specs.Terms.Term.{Val}
use Rattle.esm_expr_eval.specs.declared.world.ExprEnd.TheVariants as ends
use Rattle.esm_expr_eval.specs.declared.world.Out.{Out}
use Rattle.esm_expr_eval.specs.declared.world.Out.TheVariants as out
use Rattle.esm_promise.specs.Outer.{Outer}
use Rattle.esm_env.specs.Modules.{Modules}
use Rattle.esm_rewriting.specs.Scopes.{Scope}
use Rattle.esm_rewriting.specs.State.{State, Importing}
use Rattle.esm_rewriting.specs.Acts.{Performs}
use Rattle.esm_rewriting.specs.Fits.{Knows}
use Rattle.esm_rewriting.specs.declared.stop.Stop.{Stop}
use Rattle.esm_rewriting.specs.declared.stop.Stop.TheVariants as stops
use Rattle.esm_row_machine.specs.Outside as said
use Rattle.esm_row_machine.specs.Outside.{AllKnown}
use Rattle.esm_body.specs.Importers.{ImportsAreLawful}
use Rattle.esm_body.specs.Inner.Functions.{KeepsBody, keeps_itself, keeps_both}
use Rattle.esm_body.specs.Inner.World.{state_in, CodeIsWhole, ActsInside}
use Rattle.esm_body.specs.declared.inside.Inside.{Inside}
use Rattle.esm_body.proofs.Followed.{known_still}
use Rattle.esm_body.proofs.Lawful.{begins_some, begins_one}
use Rattle.esm_body.proofs.RowActs.{over, Acted, acted, acted_well, acted_halts, step_first, step_stops, step_unstepped, never_halts}
use Rattle.esm_rewriting.proofs.OneAct.{BeginsOne}
use Rattle.esm_rewriting.proofs.SomeAct.{BeginsSome}

-- ---- plans that display known values, take steps and make errors

module _ {A : Type 0} (Shows : CodeValue → Type 0) (Ends' : CodeValue → Type 0) (rest : CodeValue → A) where
  pub data Free : Plan CodeValue Stop A → Plan CodeValue Limit A → Type 0 where
    goes : {v : CodeValue} → Ends' v → Free (Ends (Goes (rest v))) (Ends (Goes (rest v)))
    leaves : {v : CodeValue} → Ends' v → Free (Ends (Leaves v)) (Ends (Leaves v))
    displays : {v : CodeValue} {next : List ℕ → Plan CodeValue Stop A} {other : List ℕ → Plan CodeValue Limit A} → Shows v → ((t : List ℕ) → Free (next t) (other t)) → Free (Asks (act.Display v) next) (Asks (act.Display v) other)
    steps : {n : ℕ} {next : Unit {0} → Plan CodeValue Stop A} {other : Unit {0} → Plan CodeValue Limit A} → ((u : Unit {0}) → Free (next u) (other u)) → Free (Asks (act.Step n) next) (Asks (act.Step n) other)
    faulty : {kind : FaultKind} {message : List ℕ} {next : CodeValue → Plan CodeValue Stop A} {other : CodeValue → Plan CodeValue Limit A} → ((v : CodeValue) → Ends' v → Free (next v) (other v)) → Free (Asks (act.Fault kind message) next) (Asks (act.Fault kind message) other)

  faults_free : (kind : FaultKind) (message : List ℕ) → Free (faults numbered kind message) (faults numbered kind message)
  faults_free kind message = faulty (λ v k. leaves k)

  module _ (texts : (t : List ℕ) → Ends' (numbered.text t)) where
    made_by : (b : Bool) (t : List ℕ) (n : ℕ)
        → Free (if b then faults numbered kinds.RangeError (codes "text length") else Asks (act.Step n) (λ _. Ends (Goes (rest (numbered.text t)))))
        (if b then faults numbered kinds.RangeError (codes "text length") else Asks (act.Step n) (λ _. Ends (Goes (rest (numbered.text t)))))
    made_by true t n = faults_free _ _
    made_by false t n = steps (λ u. goes (texts t))

    made_free : (t : Option (List ℕ)) → Free (made numbered rest t) (made numbered rest t)
    made_free None = faults_free _ _
    made_free (Some t) = made_by _ t _

    operand_free : (v : CodeValue) (l : Look) (next : Look → Plan CodeValue Stop A) (other : Look → Plan CodeValue Limit A) → Shows v → ((l : Look) → Free (next l) (other l)) → Free (operand numbered v l next) (operand numbered v l other)
    operand_free v look.Undefined next other k h = h look.Undefined
    operand_free v (look.Truth b) next other k h = h (look.Truth b)
    operand_free v (look.Text t) next other k h = h (look.Text t)
    operand_free v look.Func next other k h = h look.Func
    operand_free v look.Error next other k h = displays k (λ t. h (look.Text t))
    operand_free v look.Other next other k h = h look.Other

    pub sum_free : (a b : CodeValue) → Shows a → Shows b → Free (sum numbered a b rest) (sum numbered a b rest)
    sum_free a b h k = operand_free a (numbered.look a) _ _ h (λ l. operand_free b (numbered.look b) _ _ k (λ m. made_free (joined l m)))

  error_free : (message : List ℕ) → Free (new_error numbered rest message) (new_error numbered rest message)
  error_free message = faulty (λ v k. goes k)

  text_free : (v : CodeValue) (t : Textual) → Shows v → Free (to_text_by numbered v t (new_error numbered rest)) (to_text_by numbered v t (new_error numbered rest))
  text_free v (Known t) k = error_free t
  text_free v Displayed k = displays k (λ t. error_free t)
  text_free v Refused k = faults_free _ _

  pub error_of_free : (v : CodeValue) (l : Look) → Shows v → Free (error_of numbered rest v l) (error_of numbered rest v l)
  error_of_free v look.Undefined k = error_free []
  error_of_free v (look.Truth b) k = text_free v (textual (look.Truth b)) k
  error_of_free v (look.Text t) k = text_free v (textual (look.Text t)) k
  error_of_free v look.Func k = text_free v (textual look.Func) k
  error_of_free v look.Error k = text_free v (textual look.Error) k
  error_of_free v look.Other k = text_free v (textual look.Other) k

-- ---- what they come to

module _ {I S : Type 0} (seen : I → S) (modules : S → Modules ℕ) (linked : S → ℕ → Bool) (fits : Outer ℕ S → Type 0) (begins : Importing ℕ S) (some : BeginsSome modules linked fits begins) (one : BeginsOne begins) where
  abbrev At : Inside I → State ℕ S
  At w = state_in seen w

  abbrev K : Inside I → CodeValue → Type 0
  K w v = Knows modules linked (seen w.imports.now) v

  abbrev Ready : Inside I → Type 0
  Ready w = CodeIsWhole seen modules linked fits begins w

  abbrev Kept : Inside I → Inside I → Type 0
  Kept w after = KeepsBody seen modules linked fits begins w after

  abbrev Well : Inside I → Inside I → Type 0
  Well w after = said.Well (state_in seen) modules linked begins (CodeIsWhole seen modules linked fits begins) (KeepsBody seen modules linked fits begins) w after

  -- known wherever what is known here is
  abbrev Stays : Inside I → CodeValue → Type 0
  Stays w v = (x : Inside I) → ((u : CodeValue) → K w u → K x u) → K x v

  -- known everywhere
  abbrev Always : CodeValue → Type 0
  Always v = (x : Inside I) → K x v

  abbrev Acted' : Inside I → (a : Act CodeValue) → Result (AnswerTo a) Limit → Inside I → Type 0
  Acted' w a r after = Acted seen modules linked fits begins some one w a r after

  well_itself : (w : Inside I) → Ready w → Well w w
  well_itself w ready = record { is_ready = ready; keeps = keeps_itself seen modules linked fits begins w }

  well_both : (w mid after : Inside I) → Well w mid → Well mid after → Well w after
  well_both w mid after a b = record { is_ready = b.is_ready; keeps = keeps_both seen modules linked fits begins w mid after a.keeps b.keeps }

  -- a new error is known everywhere
  fault_always : (w after : Inside I) (kind : FaultKind) (message : List ℕ) (v : CodeValue) → Acted' w (act.Fault kind message) (Ok v) after → Always v
  fault_always w after kind message v a x = subst (K x) (sym (ok_is (ap (λ t. t.0) (a.does w.code.now.at.0 [])))) tt
    where
      ok_is : {a b : CodeValue} → ◌≡◌ {A = Result CodeValue Limit} (Ok a) (Ok b) → a ≡ b
      ok_is e = cc

  module _ {A : Type 0} (rest : CodeValue → A) where
    abbrev Follow : Inside I → Plan CodeValue Limit A → Rewritten CodeValue Limit A → Inside I → Type 0
    Follow x q c y = (m : ℕ) (ss : List (Scope CodeValue)) → Follows (Performs nat_eq modules begins m) (over ss (At x)) q c (over ss (At y))

    abbrev Converted : Inside I → Plan CodeValue Limit A → Rewritten CodeValue Stop A → Inside I → Type 0
    Converted x q (Goes a) y = Follow x q (Goes a) y × Well x y × ((v : CodeValue) × ((a ≡ rest v) × Always v))
    Converted x q (Leaves v) y = Follow x q (Leaves v) y × Well x y × Always v
    Converted x q (Calls f vs a) y = ⊥
    Converted x q (Stops (stops.Limit why)) y = Follow x q (Stops why) y × Kept x y
    Converted x q (Stops stops.Memory) y = Unit {0}

    -- an act that is answered comes first
    asked : (x mid y : Inside I) (a : Act CodeValue) (r : AnswerTo a) (next : AnswerTo a → Plan CodeValue Limit A) (c : Rewritten CodeValue Stop A) → Acted' x a (Ok r) mid → Well x mid → Converted mid (next r) c y → Converted x (Asks a next) c y
    asked x mid y a r next (Goes b) d w h = (λ m ss. follows.asks r (d.does m ss) (h.0 m ss), well_both x mid y w h.1, h.2)
    asked x mid y a r next (Leaves v) d w h = (λ m ss. follows.asks r (d.does m ss) (h.0 m ss), well_both x mid y w h.1, h.2)
    asked x mid y a r next (Calls f vs b) d w h = h
    asked x mid y a r next (Stops (stops.Limit why)) d w h = (λ m ss. follows.asks r (d.does m ss) (h.0 m ss), keeps_both seen modules linked fits begins x mid y w.keeps h.1)
    asked x mid y a r next (Stops stops.Memory) d w h = tt

    pub converted : (w x : Inside I) {p : Plan CodeValue Stop A} {q : Plan CodeValue Limit A} {c : Rewritten CodeValue Stop A} {y : Inside I} → Free (Stays w) Always rest p q → Ready x → ((u : CodeValue) → K w u → K x u)
        → Follows (ActsInside seen modules linked fits begins) x p c y → Converted x q c y
    converted w x (goes {v = v} k) ready keeps follows.ends = (λ m ss. follows.ends, well_itself x ready, (v, (refl, k)))
    converted w x (leaves k) ready keeps follows.ends = (λ m ss. follows.ends, well_itself x ready, k)
    converted w x {c = c} {y = y} (displays {v = v} {other = other} k more) ready keeps (follows.asks {mid = mid} r h f) =
        let a = acted seen modules linked fits begins some one x mid (act.Display v) tt (Ok r) ready (k x keeps) h in
        let b = (acted_well seen modules linked fits begins some one x mid (act.Display v) r ready (k x keeps) a).0 in
        asked x mid y (act.Display v) r other c a b (converted w mid (more r) b.is_ready (λ u q. known_still seen modules linked fits begins x mid b.keeps u (keeps u q)) f)
    converted w x (displays {v = v} k more) ready keeps (follows.stops {after = after} {why = stops.Limit why} h) =
        absurd (never_halts modules begins x.code.now.at.0 (act.Display v) tt _ _ why (h.1 ready (k x keeps)).0)
    converted w x (displays k more) ready keeps (follows.stops {why = stops.Memory} h) = tt
    converted w x {c = c} {y = y} (steps {n = n} {other = other} more) ready keeps (follows.asks {mid = mid} r h f) =
        let a = acted seen modules linked fits begins some one x mid (act.Step n) tt (Ok r) ready tt h in
        let b = (acted_well seen modules linked fits begins some one x mid (act.Step n) r ready tt a).0 in
        asked x mid y (act.Step n) r other c a b (converted w mid (more r) b.is_ready (λ u q. known_still seen modules linked fits begins x mid b.keeps u (keeps u q)) f)
    converted w x (steps {n = n} {other = other} more) ready keeps (follows.stops {after = after} {why = stops.Limit why} h) =
        let a = acted seen modules linked fits begins some one x after (act.Step n) tt (Err why) ready tt h in
        (λ m ss. follows.stops (a.does m ss), acted_halts seen modules linked fits begins some one x after (act.Step n) why ready tt a (step_unstepped seen modules linked fits begins some one x after n why a))
    converted w x (steps more) ready keeps (follows.stops {why = stops.Memory} h) = tt
    converted w x {c = c} {y = y} (faulty {kind = kind} {message = message} {other = other} more) ready keeps (follows.asks {mid = mid} r h f) =
        let a = acted seen modules linked fits begins some one x mid (act.Fault kind message) tt (Ok r) ready tt h in
        let b = (acted_well seen modules linked fits begins some one x mid (act.Fault kind message) r ready tt a).0 in
        asked x mid y (act.Fault kind message) r other c a b (converted w mid (more r (fault_always x mid kind message r a)) b.is_ready (λ u q. known_still seen modules linked fits begins x mid b.keeps u (keeps u q)) f)
    converted w x (faulty {kind = kind} {message = message} more) ready keeps (follows.stops {after = after} {why = stops.Limit why} h) =
        absurd (never_halts modules begins x.code.now.at.0 (act.Fault kind message) tt _ _ why (h.1 ready tt).0)
    converted w x (faulty more) ready keeps (follows.stops {why = stops.Memory} h) = tt

-- ---- what is said of sums and errors

module _ {I S : Type 0} (seen : I → S) (modules : S → Modules ℕ) (linked : S → ℕ → Bool) (fits : Outer ℕ S → Type 0) (begins : Importing ℕ S) (lawful : ImportsAreLawful modules linked fits begins) (agrees : SharedSetAgrees) (ended : SharedSetEnds) where
  some : BeginsSome modules linked fits begins
  some = begins_some modules linked fits begins lawful agrees ended

  one : BeginsOne begins
  one = begins_one modules linked fits begins lawful

  abbrev Asked' : Inside I → List CodeValue → said.Planning → Result Out Stop → Inside I → Type 0
  Asked' w vs plan r after = said.Asked (state_in seen) modules linked begins (CodeIsWhole seen modules linked fits begins) (KeepsBody seen modules linked fits begins) w vs plan r after

  val_is : {a b : CodeValue} → ◌≡◌ {A = Term CodeValue} (Val a) (Val b) → a ≡ b
  val_is e = cc

  abbrev Code : Type 0
  Code = (CodeValue → Term CodeValue) → Plan CodeValue Stop (Term CodeValue)

  abbrev IsFreePlan : Inside I → Code → said.Planning → Type 0
  IsFreePlan w code plan = (rest : CodeValue → Term CodeValue) → Free (λ v. (x : Inside I) → ((u : CodeValue) → Knows modules linked (seen w.imports.now) u → Knows modules linked (seen x.imports.now) u) → Knows modules linked (seen x.imports.now) v) (λ v. (x : Inside I) → Knows modules linked (seen x.imports.now) v) rest (code rest) (plan rest)

  -- from a world that is ready, the definitions' plan comes to what the code's does
  answered : (m : ℕ) (w after : Inside I) (urls : Inside I → List ℕ) (code : Code) (plan : said.Planning) (r : Out) → IsFreePlan w code plan → CodeIsWhole seen modules linked fits begins w → AnswersPlan urls (ActsInside seen modules linked fits begins) w code (Ok r) after
      → said.Answered (state_in seen) modules linked begins (CodeIsWhole seen modules linked fits begins) (KeepsBody seen modules linked fits begins) m w plan (Ok r) after
  answered m w after urls code plan (out.Value v) free ready h =
      let c = converted seen modules linked fits begins some one (λ u. Val u) w w (free (λ u. Val u)) ready (λ u k. k) (h (λ u. Val u)) in
      (λ ss rest. (converted seen modules linked fits begins some one rest w w (free rest) ready (λ u k. k) (h rest)).0 m ss, subst (Knows modules linked (seen after.imports.now)) (sym (val_is c.2.1.0)) (c.2.1.1 after), c.1)
  answered m w after urls code plan (out.Thrown v) free ready h =
      let c = converted seen modules linked fits begins some one (λ u. Val u) w w (free (λ u. Val u)) ready (λ u k. k) (h (λ u. Val u)) in
      (λ ss rest. (converted seen modules linked fits begins some one rest w w (free rest) ready (λ u k. k) (h rest)).0 m ss, c.2 after, c.1)

  stopped : (m : ℕ) (w after : Inside I) (urls : Inside I → List ℕ) (code : Code) (plan : said.Planning) (stop : Stop) → IsFreePlan w code plan → CodeIsWhole seen modules linked fits begins w → AnswersPlan urls (ActsInside seen modules linked fits begins) w code (Err (ends.Stopped stop)) after
      → said.Answered (state_in seen) modules linked begins (CodeIsWhole seen modules linked fits begins) (KeepsBody seen modules linked fits begins) m w plan (Err stop) after
  stopped m w after urls code plan (stops.Limit why) free ready h =
      let c = converted seen modules linked fits begins some one (λ u. Val u) w w (free (λ u. Val u)) ready (λ u k. k) (h (λ u. Val u)) in
      (λ ss rest. (converted seen modules linked fits begins some one rest w w (free rest) ready (λ u k. k) (h rest)).0 m ss, c.1)
  stopped m w after urls code plan stops.Memory free ready h = tt

  sum_plan_free : (w : Inside I) (u v : CodeValue) → AllKnown (Knows modules linked (seen w.imports.now)) (u ∷ v ∷ []) → IsFreePlan w (λ rest. sum numbered u v rest) (said.sum_plan u v)
  sum_plan_free w u v known rest = sum_free _ _ rest (λ t x. tt) u v (λ x k. k u known.0) (λ x k. k v known.1.0)

  pub sums : (w after : Inside I) (urls : Inside I → List ℕ) (u v : CodeValue) (r : Out) → AnswersPlan urls (ActsInside seen modules linked fits begins) w (λ rest. sum numbered u v rest) (Ok r) after → Asked' w (u ∷ v ∷ []) (said.sum_plan u v) (Ok r) after
  sums w after urls u v r h m ready home known = answered m w after urls (λ rest. sum numbered u v rest) (said.sum_plan u v) r (sum_plan_free w u v known) ready h

  pub sum_stopped : (w after : Inside I) (urls : Inside I → List ℕ) (u v : CodeValue) (stop : Stop) → AnswersPlan urls (ActsInside seen modules linked fits begins) w (λ rest. sum numbered u v rest) (Err (ends.Stopped stop)) after → Asked' w (u ∷ v ∷ []) (said.sum_plan u v) (Err stop) after
  sum_stopped w after urls u v stop h m ready home known = stopped m w after urls (λ rest. sum numbered u v rest) (said.sum_plan u v) stop (sum_plan_free w u v known) ready h

  -- ---- `new Error`, behind its step

  abbrev made_plan : CodeValue → said.Planning
  made_plan v = λ rest. error_of numbered rest v (look_of v)

  error_plan_free : (w : Inside I) (v : CodeValue) → Knows modules linked (seen w.imports.now) v → IsFreePlan w (λ rest. error_of numbered rest v (look_of v)) (made_plan v)
  error_plan_free w v known rest = error_of_free _ _ rest v (look_of v) (λ x k. k v known)

  pub makes_errors : (w mid after : Inside I) (urls : Inside I → List ℕ) (v : CodeValue) (r : Out) → ActsInside seen modules linked fits begins w (act.Step 1) (Ok tt) mid
      → AnswersPlan urls (ActsInside seen modules linked fits begins) mid (λ rest. error_of numbered rest v (look_of v)) (Ok r) after → Asked' w (v ∷ []) (said.error_plan v) (Ok r) after
  makes_errors w mid after urls v r h k m ready home known =
      let s = step_first seen modules linked fits begins some one w mid ready h in
      let there = known_still seen modules linked fits begins w mid s.1.keeps v known.0 in
      let a = answered m mid after urls (λ rest. error_of numbered rest v (look_of v)) (made_plan v) r (error_plan_free mid v there) s.1.is_ready k in
      (λ ss rest. follows.asks tt (s.0.does m ss) (a.0 ss rest), a.1, well_both seen modules linked fits begins some one w mid after s.1 a.2)

  pub error_stopped : (w mid after : Inside I) (urls : Inside I → List ℕ) (v : CodeValue) (stop : Stop) → ActsInside seen modules linked fits begins w (act.Step 1) (Ok tt) mid
      → AnswersPlan urls (ActsInside seen modules linked fits begins) mid (λ rest. error_of numbered rest v (look_of v)) (Err (ends.Stopped stop)) after → Asked' w (v ∷ []) (said.error_plan v) (Err stop) after
  error_stopped w mid after urls v (stops.Limit why) h k m ready home known =
      let s = step_first seen modules linked fits begins some one w mid ready h in
      let there = known_still seen modules linked fits begins w mid s.1.keeps v known.0 in
      let a = stopped m mid after urls (λ rest. error_of numbered rest v (look_of v)) (made_plan v) (stops.Limit why) (error_plan_free mid v there) s.1.is_ready k in
      (λ ss rest. follows.asks tt (s.0.does m ss) (a.0 ss rest), keeps_both seen modules linked fits begins w mid after s.1.keeps a.1)
  error_stopped w mid after urls v stops.Memory h k m ready home known = tt

  pub error_unstepped : (w after : Inside I) (v : CodeValue) (stop : Stop) → ActsInside seen modules linked fits begins w (act.Step 1) (Err stop) after → Asked' w (v ∷ []) (said.error_plan v) (Err stop) after
  error_unstepped w after v (stops.Limit why) h m ready home known =
      let s = step_stops seen modules linked fits begins some one w after why ready h in
      (λ ss rest. follows.stops (s.0.does m ss), s.1)
  error_unstepped w after v stops.Memory h m ready home known = tt
