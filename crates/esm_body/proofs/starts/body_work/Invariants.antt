use Rattle.std.proofs.Common.{◌≡◌, ℕ, List, drop}
use Rattle.esm_tree.specs.Syntax.{Stmt}
use Rattle.esm_tree.specs.Flat.{items_of, items_need, AllAtMost}
use Rattle.esm_env.specs.Declarations.{body_of}
use Rattle.esm_rewriting.specs.Rest.{end, whole}
use Rattle.esm_body.specs.Code.{in_front, AreWork}
use Rattle.esm_body.specs.Inner.Remainders.{wholes}
use Rattle.esm_body.proofs.starts.body_work.Given as goal

-- the statements from this place on are there
abbrev pub invariant-loop-place : goal.invariant-loop-place
invariant-loop-place l = record {
  work : (stmts : List Stmt) → in_front stmts (wholes l.statements.items) end ≡ whole (body_of (items_of stmts (drop l.place l.items)));
  sound : (n : ℕ) → AllAtMost n (items_need l.items) → AreWork n (wholes l.statements.items);
}
