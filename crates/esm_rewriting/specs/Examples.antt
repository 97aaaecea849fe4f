-- Worked examples: bodies of one module, from their start.
use Rattle.std.specs.Prelude.{ℕ, nat_eq, false, List, [], ◌∷◌, ◌++◌, Ok, codes}
use Rattle.esm_tree.specs.Syntax as syntax
use Rattle.esm_tree.specs.Syntax.{Item}
use Rattle.esm_values.specs.Value.{Value, Undefined, Text}
use Rattle.esm_values.specs.Ran.{Ran as ran}
use Rattle.esm_promise.specs.Promises.{Promises, Pending, Done, Fulfilled, job, no_promises, make}
use Rattle.esm_promise.specs.Reactions.{Reaction, Await}
use Rattle.esm_env.specs.Modules.{Modules}
use Rattle.esm_env.specs.Cells.{no_cells}
use Rattle.esm_rewriting.specs.Rest.{Rest, end, more}
use Rattle.esm_rewriting.specs.Rest.Use.{Drops}
use Rattle.esm_rewriting.specs.Rest.Part.{Whole, Stands}
use Rattle.esm_rewriting.specs.State.{Engine, Begins, Ends, Throws, Standing, opening_engine}
use Rattle.esm_rewriting.specs.Bodies.{StartsBody, RunsBody, ResumesBody}
use Rattle.esm_rewriting.specs.Laws.{Here, Importer, imports_by, itself}

-- one module, with these items
abbrev pub alone : List Item → Modules ℕ
alone items = record {
  url = λ m. codes "file:///a.js";
  tree = λ m. items;
  target = λ m request. 0;
  size = 1;
  number = λ m. m;
  named = λ n. n;
}

-- nothing was written, with this engine and these promises
abbrev pub here : List Item → Engine ℕ → Promises (Reaction ℕ) (Value ℕ) → Here
here items engine promises = record {
  engine = engine;
  cells = no_cells;
  outer = record {
    promises = promises;
    errors = [];
    imports = alone items;
  };
}

-- throw "x";
abbrev pub throwing : List Item
throwing = syntax.Statement (syntax.Throw (syntax.Text (codes "x"))) ∷ []

abbrev pub thrown_engine : Engine ℕ
thrown_engine = record (opening_engine false) { events = Begins 0 ∷ Throws 0 ∷ []; steps = 1 }

-- the body takes one step, and leaves by its throw
abbrev pub ThrowLeaves : Type 0
ThrowLeaves = (f : Importer) → RunsBody nat_eq itself (imports_by f) (here throwing (opening_engine false) no_promises) 0
    (Ok (ran.Thrown (Text (codes "x")))) (here throwing thrown_engine no_promises)

abbrev pub printing : List ℕ → syntax.Stmt
printing text = syntax.Expression (syntax.Print (syntax.more (syntax.Text text) syntax.none))

abbrev pub print_item : List ℕ → Item
print_item text = syntax.Statement (printing text)

-- print("a"); await undefined; print("b");
abbrev pub awaiting : List Item
awaiting = print_item (codes "a") ∷ syntax.Statement (syntax.Await syntax.Undefined) ∷ print_item (codes "b") ∷ []

-- what remains at its await
abbrev pub behind_await : Rest (Value ℕ)
behind_await = more (Stands Drops) (more (Whole (printing (codes "b"))) end)

abbrev pub waiting : Standing ℕ
waiting = record { at = 0; done = 0; rest = behind_await }

-- "a" is printed, and the body stands at its await
abbrev pub waiting_engine : Engine ℕ
waiting_engine = record (opening_engine false) { events = Begins 0 ∷ []; log = codes "a" ++ 10 ∷ []; steps = 3; standing = waiting ∷ [] }

-- "b" is printed behind it, and the body has ended
abbrev pub ended_engine : Engine ℕ
ended_engine = record (opening_engine false) {
  events = Begins 0 ∷ Ends 0 ∷ [];
  log = codes "a" ++ 10 ∷ codes "b" ++ 10 ∷ [];
  steps = 5;
}

-- its end's promise is pending, that of its await is fulfilled, and the job that resumes it is there
abbrev pub waiting_promises : Promises (Reaction ℕ) (Value ℕ)
waiting_promises = record { all = Pending [] ∷ Done (Fulfilled Undefined) ∷ []; jobs = job 1 (Await 0) ∷ [] }

-- the job is taken
abbrev pub taken_promises : Promises (Reaction ℕ) (Value ℕ)
taken_promises = record waiting_promises { jobs = [] }

-- the promise of the body's end is fulfilled
abbrev pub ended_promises : Promises (Reaction ℕ) (Value ℕ)
ended_promises = record { all = Done (Fulfilled Undefined) ∷ Done (Fulfilled Undefined) ∷ []; jobs = [] }

-- an await divides a body: what is behind it runs in the job
pub record AwaitDivides : Type 0 where
  pub started : (f : Importer) → StartsBody nat_eq itself (imports_by f)
      (here awaiting (opening_engine false) (make no_promises [])) 0 0 (Ok tt) (here awaiting waiting_engine waiting_promises)
  pub resumed : (f : Importer) → ResumesBody nat_eq itself (imports_by f) (here awaiting waiting_engine taken_promises) 0
      (Fulfilled Undefined) (Ok tt) (here awaiting ended_engine ended_promises)
