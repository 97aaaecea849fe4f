-- An evaluation of a module calls for bodies alone that have all they need.
use Rattle.std.proofs.Common.{ℕ, List, [], ap, sym, ◌∙◌}
use Rattle.std.specs.Prelude.{Result, Ok, Err, ⊤}
use Rattle.esm_eval.specs.Nodes.{Phase, NotEntered, Evaluating, EvaluatingAsync, Evaluated, was_entered, BodyCalls}
use Rattle.esm_eval.specs.Evaluation.{Evaluation, IsLawful, IsSteady, phase}
use Rattle.esm_eval.specs.Evaluate.{WalkEnd, Walks, EvaluatesRoot, Evaluates, keep, fulfill_by}
use Rattle.esm_needs_laws.proofs.Shape.{Inv}
use Rattle.esm_needs_laws.proofs.Moves.{Tells, alike_inv}
use Rattle.esm_needs_laws.proofs.Steps.{keep_inv, keep_phase}
use Rattle.esm_needs_laws.proofs.Bodies.{Fine}
use Rattle.esm_needs_laws.proofs.Walked.{After, walked}

module _ {N V W S : Type 0} (E : Evaluation N V W) (acts : BodyCalls N V W S) (L : IsLawful E) (steady : IsSteady E acts) (Ended : W → N → Type 0) (tells : Tells E acts Ended) where
  abbrev I : (N → List N) → W → Type 0
  I to w = Inv E to Ended w []

  abbrev fine : (N → List N) → BodyCalls N V W S
  fine to = Fine E acts L steady to Ended tells

  -- behind an evaluation that wasn't stopped
  abbrev pub Kept : (N → List N) → Result ℕ S → W → Type 0
  Kept to (Ok p) v = I to v
  Kept to (Err why) v = ⊤

  walks_fine : {w v : W} {m : N} {end : WalkEnd V S} → I (E.targets w) w → Walks E acts w m (keep E w m) end v → Walks E (fine (E.targets w)) w m (keep E w m) end v × After E acts L steady (E.targets w) Ended tells end v
  walks_fine {w} {v} {m} {end} i p =
      let q = walked E acts L steady (E.targets w) Ended tells (λ x. p.closed_is x ∙ sym (ap was_entered (keep_phase E acts L steady (E.targets w) Ended tells w m x))) p.walk (keep_inv E acts L steady (E.targets w) Ended tells w m i) p.leads in
      (record { closed = p.closed; closed_is = p.closed_is; marks = p.marks; walk = p.walk; leads = q.0 }, q.1)

  fulfilled : (to : N → List N) (w : W) (p : ℕ) (h : Phase) → I to w → I to (fulfill_by E w p h)
  fulfilled to w p NotEntered i = i
  fulfilled to w p Evaluating i = i
  fulfilled to w p EvaluatingAsync i = i
  fulfilled to w p Evaluated i = alike_inv E acts L steady to Ended tells w (E.fulfill w p) [] (L.fulfill w p) (tells.fulfill w p) i

  refused : (to : N → List N) (w : W) (p : ℕ) (u : V) → I to w → I to (E.reject w p u)
  refused to w p u i = alike_inv E acts L steady to Ended tells w (E.reject w p u) [] (L.reject w p u) (tells.reject w p u) i

  root_fine : {w : W} {m : N} {a : Result ℕ S} {v : W} → I (E.targets w) w → EvaluatesRoot E acts w m a v → EvaluatesRoot E (fine (E.targets w)) w m a v × Kept (E.targets w) a v
  root_fine i (EvaluatesRoot.kept p h) = (EvaluatesRoot.kept p h, i)
  root_fine {w} {m = m} i (EvaluatesRoot.thrown u h e) =
      (EvaluatesRoot.thrown u h e, refused (E.targets w) (keep E w m) (E.next_promise w) u (keep_inv E acts L steady (E.targets w) Ended tells w m i))
  root_fine {w} {m = m} i (EvaluatesRoot.walks {after = after} h e p) =
      let q = walks_fine i p in
      (EvaluatesRoot.walks h e q.0, fulfilled (E.targets w) after (E.next_promise w) (phase E after m) q.1)
  root_fine {w} i (EvaluatesRoot.throws {after = after} u h e p) =
      let q = walks_fine i p in
      (EvaluatesRoot.throws u h e q.0, refused (E.targets w) after (E.next_promise w) u q.1)
  root_fine i (EvaluatesRoot.stops why h e p) =
      let q = walks_fine i p in
      (EvaluatesRoot.stops why h e q.0, tt)

  pub evaluates_fine : (w after : W) (m : N) (a : Result ℕ S) → I (E.targets w) w → Evaluates E acts w m a after → Evaluates E (fine (E.targets w)) w m a after × Kept (E.targets w) a after
  evaluates_fine w after m a i p = root_fine i p
