-- Worked examples of evaluation.
use Rattle.std.specs.Prelude.{◌≡◌, Bool, List, [], ◌∷◌, Some, None, Ok, Err}
use Rattle.esm_eval.specs.Nodes.{NotEntered, Evaluating, EvaluatingAsync, Evaluated}
use Rattle.esm_eval.specs.Evaluation.{IsLawful, IsSteady}
use Rattle.esm_eval.specs.Evaluate.{Evaluates}
use Rattle.esm_eval.specs.BodyEnd.{Rejects, Fulfills}
use Rattle.esm_eval.specs.Begins.{BeginsOne}
use Rattle.esm_eval.specs.SmallWorld.{Name, A, B, C, D, Small, opening, small, Body, Writes, all_run, fails, halts, none, only, both, Pending, Fulfilled, Rejected}

-- ---- A imports B, B imports A, and B awaits

abbrev pub cycle : Name → List Name
cycle A = B ∷ []
cycle B = A ∷ []
cycle x = []

-- B begins and A waits for it; once B has ended A runs, and only then is the promise of A fulfilled
pub record CycleOfWhichOneAwaits : Type 0 where
  pub mid : Small
  pub after : Small
  pub evaluates : Evaluates (small cycle (only B)) (Writes all_run) opening A (Ok 0) mid
  pub first : mid.log ≡ B ∷ []
  pub stamps : mid.stamps ≡ B ∷ A ∷ []
  pub pending : mid.promises ≡ Pending ∷ Pending ∷ []
  pub ends : Fulfills (small cycle (only B)) (Writes all_run) mid B (Ok tt) after
  pub second : after.log ≡ B ∷ A ∷ []
  pub fulfilled : after.promises ≡ Fulfilled ∷ Pending ∷ []

-- ---- A imports B, B imports C and A, and the body of B throws

abbrev pub cycle_behind : Name → List Name
cycle_behind A = B ∷ []
cycle_behind B = C ∷ A ∷ []
cycle_behind x = []

-- A and B get the error, A without having begun, and C, whose component has closed, doesn't. A second evaluation of B,
-- which has no cycle root, rejects a promise of its own
pub record ThrowInCycle : Type 0 where
  pub mid : Small
  pub after : Small
  pub evaluates : Evaluates (small cycle_behind none) (Writes (fails B)) opening A (Ok 0) mid
  pub log : mid.log ≡ C ∷ B ∷ []
  pub errors : (mid.nodes.a.error ≡ Some B) × (mid.nodes.b.error ≡ Some B) × (mid.nodes.c.error ≡ None)
  pub phases : (mid.nodes.a.phase ≡ Evaluated) × (mid.nodes.b.phase ≡ Evaluated) × (mid.nodes.c.phase ≡ Evaluated)
  pub rejected : mid.promises ≡ Rejected B ∷ []
  pub again : Evaluates (small cycle_behind none) (Writes (fails B)) mid A (Ok 0) mid
  pub other : Evaluates (small cycle_behind none) (Writes (fails B)) mid B (Ok 1) after
  pub both : after.promises ≡ Rejected B ∷ Rejected B ∷ []
  pub no_more : after.log ≡ C ∷ B ∷ []

-- ---- A imports B and C, and the body of B throws

abbrev pub beside : Name → List Name
beside A = B ∷ C ∷ []
beside x = []

-- the walk is cut: C is never entered, and neither its body nor that of A begins
pub record NothingBehindAThrow : Type 0 where
  pub after : Small
  pub evaluates : Evaluates (small beside none) (Writes (fails B)) opening A (Ok 0) after
  pub log : after.log ≡ B ∷ []
  pub phases : (after.nodes.a.phase ≡ Evaluated) × (after.nodes.b.phase ≡ Evaluated) × (after.nodes.c.phase ≡ NotEntered)
  pub errors : (after.nodes.a.error ≡ Some B) × (after.nodes.b.error ≡ Some B)
  pub rejected : after.promises ≡ Rejected B ∷ []

-- ---- A imports B and C, which both import D, and D awaits

abbrev pub diamond : Name → List Name
diamond A = B ∷ C ∷ []
diamond B = D ∷ []
diamond C = D ∷ []
diamond D = []

-- D throws behind its await: B, then A, then C are rejected with its error, each once, and none of them begins
pub record SharedRejection : Type 0 where
  pub mid : Small
  pub after : Small
  pub evaluates : Evaluates (small diamond (only D)) (Writes all_run) opening A (Ok 0) mid
  pub first : mid.log ≡ D ∷ []
  pub stamps : mid.stamps ≡ D ∷ B ∷ C ∷ A ∷ []
  pub waiters : (mid.nodes.d.waiters ≡ B ∷ C ∷ []) × (mid.nodes.a.waits ≡ B ∷ C ∷ [])
  pub rejects : Rejects (small diamond (only D)) mid D D after
  pub errors : (after.nodes.a.error ≡ Some D) × (after.nodes.b.error ≡ Some D) × (after.nodes.c.error ≡ Some D)
  pub rejected : after.promises ≡ Rejected D ∷ Pending ∷ []
  pub no_more : after.log ≡ D ∷ []

-- ---- A imports B, B imports A and C, C awaits, and D imports B

abbrev pub meeting : Name → List Name
meeting A = B ∷ []
meeting B = A ∷ C ∷ []
meeting C = []
meeting D = B ∷ []

-- A is evaluated first. An evaluation of B gives the promise of its cycle root A, and one of D waits for that root.
-- Once C has ended B, A and D run, in their order
pub record MeetsAWaitingCycle : Type 0 where
  pub first : Small
  pub mid : Small
  pub after : Small
  pub evaluates : Evaluates (small meeting (only C)) (Writes all_run) opening A (Ok 0) first
  pub member : Evaluates (small meeting (only C)) (Writes all_run) first B (Ok 0) first
  pub later : Evaluates (small meeting (only C)) (Writes all_run) first D (Ok 2) mid
  pub log : mid.log ≡ C ∷ []
  pub waits : (mid.nodes.b.waits ≡ C ∷ []) × (mid.nodes.a.waits ≡ B ∷ []) × (mid.nodes.d.waits ≡ A ∷ [])
  pub ends : Fulfills (small meeting (only C)) (Writes all_run) mid C (Ok tt) after
  pub others : after.log ≡ C ∷ B ∷ A ∷ D ∷ []
  pub fulfilled : after.promises ≡ Fulfilled ∷ Pending ∷ Fulfilled ∷ []

-- ---- the cycle of A and B again, where B awaits and the body of A throws; D imports B

abbrev pub cycle_beside : Name → List Name
cycle_beside A = B ∷ []
cycle_beside B = A ∷ []
cycle_beside C = []
cycle_beside D = B ∷ []

-- once B has ended A runs and throws: B has no error, but its cycle root A has. So D, which imports B, fails with the error of A
-- before it begins, and an evaluation of B gives the rejected promise of A
pub record RootFails : Type 0 where
  pub first : Small
  pub mid : Small
  pub after : Small
  pub evaluates : Evaluates (small cycle_beside (only B)) (Writes (fails A)) opening A (Ok 0) first
  pub ends : Fulfills (small cycle_beside (only B)) (Writes (fails A)) first B (Ok tt) mid
  pub log : mid.log ≡ B ∷ A ∷ []
  pub errors : (mid.nodes.a.error ≡ Some A) × (mid.nodes.b.error ≡ None) × (mid.nodes.b.phase ≡ Evaluated)
  pub rejected : mid.promises ≡ Rejected A ∷ Pending ∷ []
  pub member : Evaluates (small cycle_beside (only B)) (Writes (fails A)) mid B (Ok 0) mid
  pub later : Evaluates (small cycle_beside (only B)) (Writes (fails A)) mid D (Ok 2) after
  pub no_more : after.log ≡ B ∷ A ∷ []
  pub both : after.promises ≡ Rejected A ∷ Pending ∷ Rejected A ∷ []

-- ---- A imports B, B imports C, and C awaits

abbrev pub chain : Name → List Name
chain A = B ∷ []
chain B = C ∷ []
chain x = []

-- B and A are evaluated, each with a promise of its own. Once C has ended both are ready; B throws, and A, which is rejected by that,
-- is skipped. The promise of B is rejected before that of A
pub record ReadyThrows : Type 0 where
  pub first : Small
  pub mid : Small
  pub after : Small
  pub evaluates : Evaluates (small chain (only C)) (Writes (fails B)) opening B (Ok 0) first
  pub later : Evaluates (small chain (only C)) (Writes (fails B)) first A (Ok 2) mid
  pub ends : Fulfills (small chain (only C)) (Writes (fails B)) mid C (Ok tt) after
  pub log : after.log ≡ C ∷ B ∷ []
  pub errors : (after.nodes.a.error ≡ Some B) × (after.nodes.b.error ≡ Some B) × (after.nodes.c.error ≡ None)
  pub promises : after.promises ≡ Rejected B ∷ Pending ∷ Rejected B ∷ []
  pub order : after.settled ≡ 0 ∷ 2 ∷ []

-- where B awaits too, the end of C starts B alone: A waits on, until B has ended
pub record ReadyHoldsBack : Type 0 where
  pub first : Small
  pub mid : Small
  pub after : Small
  pub evaluates : Evaluates (small chain (both B C)) (Writes all_run) opening A (Ok 0) first
  pub stamps : first.stamps ≡ C ∷ B ∷ A ∷ []
  pub ends : Fulfills (small chain (both B C)) (Writes all_run) first C (Ok tt) mid
  pub log : mid.log ≡ C ∷ B ∷ []
  pub waits_on : mid.nodes.a.phase ≡ EvaluatingAsync
  pub next : Fulfills (small chain (both B C)) (Writes all_run) mid B (Ok tt) after
  pub whole : after.log ≡ C ∷ B ∷ A ∷ []
  pub fulfilled : after.promises ≡ Fulfilled ∷ Pending ∷ Pending ∷ []

-- where a limit stops the call for C, nothing more is done: no module closes, and the promise stays pending
pub record StopsAtOnce : Type 0 where
  pub after : Small
  pub stops : Evaluates (small chain none) (Writes (halts C)) opening A (Err tt) after
  pub log : after.log ≡ []
  pub pending : after.promises ≡ Pending ∷ []
  pub phases : (after.nodes.a.phase ≡ Evaluating) × (after.nodes.b.phase ≡ Evaluating) × (after.nodes.c.phase ≡ Evaluating)

-- ---- the laws range over worlds like this one

pub record SmallWorldsAreLawful : Type 0 where
  pub lawful : (targets : Name → List Name) (awaits : Name → Bool) → IsLawful (small targets awaits)
  pub steady : (targets : Name → List Name) (awaits : Name → Bool) (bodies : Name → Body)
      → IsSteady (small targets awaits) (Writes bodies)
  pub begins : (targets : Name → List Name) (awaits : Name → Bool) (bodies : Name → Body)
      → BeginsOne (small targets awaits) (Writes bodies)
