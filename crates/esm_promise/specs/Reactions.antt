-- What follows the settling of a promise. Modules have names of any kind N; a load has its number.
use Rattle.std.specs.Prelude.{ℕ}

pub data Reaction (N : Type 0) : Type 0 where
  -- the body of the module goes on behind its await. ECMA-262, Await
  Await : (m : N) → Reaction N
  -- the body of the module, which awaits, has ended. ECMA-262, ExecuteAsyncModule
  BodyEnd : (m : N) → Reaction N
  -- the load, which an import() began, has ended. ECMA-262, ContinueDynamicImport
  Loaded : (load : ℕ) → Reaction N
  -- the root of that load was evaluated. ECMA-262, ContinueDynamicImport
  Evaluated : (load : ℕ) → Reaction N
  -- the entry's load has ended. HTML, fetch the descendants of and link a module script
  EntryLoaded : Reaction N
  -- the entry was evaluated. HTML, run a module script
  EntryDone : Reaction N
