-- Laws of the definitions, over modules with numbers, where import() is a function of what it is given and changes nothing but
-- promises, errors and the modules that are there.
use Rattle.std.specs.Prelude.{◌≡◌, ℕ, ◌+◌, nat_eq, Bool, true, false, List, Option, Some, Result}
use Rattle.esm_base.specs.declared.limits.Limit.{Limit}
use Rattle.esm_values.specs.Value.{Value}
use Rattle.esm_values.specs.Ran.{Ran}
use Rattle.esm_promise.specs.Promises.{Settled}
use Rattle.esm_promise.specs.Outer.{Outer}
use Rattle.esm_env.specs.Modules.{Modules, entries}
use Rattle.esm_tree.specs.Syntax.{Stmts}
use Rattle.esm_tree.specs.Syntax.{Stmt as Statement}
use Rattle.esm_values.specs.Plans.Rewritten.{Goes, Stops}
use Rattle.esm_values.specs.declared.errors.FaultKind.TheVariants as kinds
use Rattle.esm_env.specs.Cells.{Reading as reading}
use Rattle.esm_rewriting.specs.Rest.{Rest, more}
use Rattle.esm_rewriting.specs.Rest.Part.{Whole, Tries}
use Rattle.esm_rewriting.specs.State.{State, Importing}
use Rattle.esm_rewriting.specs.Acts.{Inner, read_answer, throws_new, not_initialized}
use Rattle.esm_rewriting.specs.BodyRewriting.{RewrittenBody, On, RewritesBody}
use Rattle.esm_rewriting.specs.Segment.{Active, Ended, Segment}
use Rattle.esm_rewriting.specs.Fits.{AreLinked, IsKnown, FitsState, FitsRun, FitsEnd, FitsAfter}
use Rattle.esm_expr_eval.specs.Ready.{Holds}
use Rattle.esm_rewriting.specs.Bodies.{StartsBody, RunsBody, ResumesBody, Taken, take_standing, given_by}

abbrev pub Around : Type 0
Around = Outer ℕ (Modules ℕ)

abbrev pub Here : Type 0
Here = State ℕ (Modules ℕ)

abbrev pub Importer : Type 0
Importer = Around → ℕ → List ℕ → ℕ → Result (Unit {0}) Limit × Around

-- what an import() that is a function comes to
abbrev pub imports_by : Importer → Importing ℕ (Modules ℕ)
imports_by f o m text p end after = f o m text p ≡ (end, after)

abbrev pub itself : Modules ℕ → Modules ℕ
itself g = g

-- a rewriting, a segment, and each call for a body have at most one outcome
pub record HaveOneOutcome : Type 0 where
  pub rewriting : (f : Importer) (m : ℕ) (w one other : Inner ℕ (Modules ℕ)) (r : Rest (Value ℕ)) (a b : RewrittenBody (Value ℕ) Limit)
      → RewritesBody nat_eq itself (imports_by f) m w r a one → RewritesBody nat_eq itself (imports_by f) m w r b other
      → (b ≡ a) × (other ≡ one)
  pub segment : (f : Importer) (m : ℕ) (w one other : Here) (r : Rest (Value ℕ)) (callers : List (Active ℕ)) (a b : Ended ℕ)
      → Segment nat_eq itself (imports_by f) w m r callers a one → Segment nat_eq itself (imports_by f) w m r callers b other
      → (b ≡ a) × (other ≡ one)
  pub start : (f : Importer) (m done : ℕ) (w one other : Here) (a b : Result (Unit {0}) Limit)
      → StartsBody nat_eq itself (imports_by f) w m done a one → StartsBody nat_eq itself (imports_by f) w m done b other
      → (b ≡ a) × (other ≡ one)
  pub run : (f : Importer) (m : ℕ) (w one other : Here) (a b : Result (Ran (Value ℕ)) Limit)
      → RunsBody nat_eq itself (imports_by f) w m a one → RunsBody nat_eq itself (imports_by f) w m b other
      → (b ≡ a) × (other ≡ one)
  pub resume : (f : Importer) (m : ℕ) (how : Settled (Value ℕ)) (w one other : Here) (a b : Result (Unit {0}) Limit)
      → ResumesBody nat_eq itself (imports_by f) w m how a one → ResumesBody nat_eq itself (imports_by f) w m how b other
      → (b ≡ a) × (other ≡ one)

-- a statement that begins takes one step
abbrev pub StatementsTakeSteps : Type 0
StatementsTakeSteps = (f : Importer) (m : ℕ) (w after : Inner ℕ (Modules ℕ)) (s : Statement) (rest r : Rest (Value ℕ))
    → RewritesBody nat_eq itself (imports_by f) m w (more (Whole s) rest) (On (Goes r)) after
    → after.state.engine.steps ≡ w.state.engine.steps + 1

-- a limit that is passed in the block of a `try` stops all: its handler doesn't go on
abbrev pub StopsAreNotCaught : Type 0
StopsAreNotCaught = (f : Importer) (m : ℕ) (w after : Inner ℕ (Modules ℕ)) (r rest : Rest (Value ℕ)) (x : Option (List ℕ))
    (handler : Stmts) (why : Limit)
    → RewritesBody nat_eq itself (imports_by f) m w r (On (Stops why)) after
    → RewritesBody nat_eq itself (imports_by f) m w (more (Tries r x handler) rest) (On (Stops why)) after

-- an unset name throws a ReferenceError
abbrev pub UnsetThrows : Type 0
UnsetThrows = (w : Inner ℕ (Modules ℕ)) (x : List ℕ)
    → read_answer w x reading.Unset ≡ throws_new w kinds.ReferenceError (not_initialized x)

-- what is linked is so
abbrev pub KeepsLinked : (Modules ℕ → ℕ → Bool) → Around → Type 0
KeepsLinked linked o = AreLinked o.imports (linked o.imports)

-- import() leaves what is linked so, and what is known
abbrev pub ImportsKeepModules : (Modules ℕ → ℕ → Bool) → Importer → Type 0
ImportsKeepModules linked f = (o : Around) (m : ℕ) (text : List ℕ) (p : ℕ) → KeepsLinked linked o → KeepsLinked linked (f o m text p).1
    × ((v : Value ℕ) → IsKnown o.imports (linked o.imports) v → IsKnown (f o m text p).1.imports (linked (f o m text p).1.imports) v)

-- from each state that fits, a segment has an outcome, and what it leaves fits
abbrev pub HasSegment : Type 0
HasSegment = (linked : Modules ℕ → ℕ → Bool) (f : Importer) → ImportsKeepModules linked f → (w : Here) (m : ℕ) (awaits : Bool)
    (r : Rest (Value ℕ)) (callers : List (Active ℕ)) → FitsRun itself linked (KeepsLinked linked) w m awaits r callers
    → (how : Ended ℕ) × ((after : Here) × (Segment nat_eq itself (imports_by f) w m r callers how after
    × FitsEnd itself linked (KeepsLinked linked) w awaits how after))

-- so do the calls for a body, from each state that fits
pub record HaveOutcomes : Type 0 where
  pub start : (linked : Modules ℕ → ℕ → Bool) (f : Importer) → ImportsKeepModules linked f → (w : Here) (m done : ℕ)
      → FitsState itself linked (KeepsLinked linked) w → linked w.outer.imports m ≡ true
      → (end : Result (Unit {0}) Limit) × ((after : Here) × (StartsBody nat_eq itself (imports_by f) w m done end after
      × FitsAfter itself linked (KeepsLinked linked) w after))
  pub run : (linked : Modules ℕ → ℕ → Bool) (f : Importer) → ImportsKeepModules linked f → (w : Here) (m : ℕ)
      → FitsState itself linked (KeepsLinked linked) w → linked w.outer.imports m ≡ true
      → (entries w.outer.imports m).awaits ≡ false
      → (end : Result (Ran (Value ℕ)) Limit) × ((after : Here) × (RunsBody nat_eq itself (imports_by f) w m end after
      × FitsAfter itself linked (KeepsLinked linked) w after))
  pub resume : (linked : Modules ℕ → ℕ → Bool) (f : Importer) → ImportsKeepModules linked f → (w : Here) (m : ℕ) (t : Taken ℕ)
      (how : Settled (Value ℕ)) → FitsState itself linked (KeepsLinked linked) w → linked w.outer.imports m ≡ true
      → take_standing nat_eq w.engine.standing m ≡ Some t
      → Holds (IsKnown w.outer.imports (linked w.outer.imports)) ⊥ (given_by how)
      → (end : Result (Unit {0}) Limit) × ((after : Here) × (ResumesBody nat_eq itself (imports_by f) w m how end after
      × FitsAfter itself linked (KeepsLinked linked) w after))
