-- A function under way: where it is in its row, with the values of its names and its operands; and one that waits for the value
-- of a call.
use Rattle.std.specs.Prelude.{ℕ, List, map}
use Rattle.esm_tree.specs.Syntax.{Links}
use Rattle.esm_values.specs.Code.{CodeValue, numbered}
use Rattle.esm_env.specs.Modules.{Modules}
use Rattle.esm_rewriting.specs.Rest.{Rest}
use Rattle.esm_rewriting.specs.State.{Importing}
use Rattle.esm_rewriting.specs.Segment.{Active, active}
use Rattle.esm_row_laws.specs.Spots.{Round, Kont, Spot, Begins, Has, Between, Opens, Handles, rounds_of}
use Rattle.esm_row_laws.specs.Remaining.{rest_at}
use Rattle.esm_row_laws.specs.Operations.{Values}
use Rattle.esm_row_laws.specs.Callings.{waiting}

pub record Here : Type 0 where
  -- its module, and its number there
  pub at : ℕ
  pub function : ℕ
  pub spot : Spot
  -- of each block, the innermost first
  pub names : Values
  -- the one on top first
  pub operands : List CodeValue

pub record Waiter : Type 0 where
  pub at : ℕ
  pub function : ℕ
  -- what is behind the call in its postfix expression, and what becomes of that
  pub links : Links
  pub kont : Kont
  pub names : Values
  pub operands : List CodeValue

-- the blocks round a place
abbrev pub rounds_at : Spot → List Round
rounds_at (Begins e k) = rounds_of k
rounds_at (Has k) = rounds_of k
rounds_at (Between behind rs) = rs
rounds_at (Opens opening ss behind rs) = rs
rounds_at (Handles caught handler behind rs) = rs

abbrev pub what_remains : Here → Rest CodeValue
what_remains h = rest_at numbered h.spot h.names h.operands

-- the same function at another place
abbrev pub moved : Here → Spot → Values → List CodeValue → Here
moved h s vss vs = record { at = h.at; function = h.function; spot = s; names = vss; operands = vs }

module _ {S : Type 0} (modules : S → Modules ℕ) (begins : Importing ℕ S) where
  -- a function that waits, as a caller of the definitions
  abbrev pub caller : Waiter → Active ℕ
  caller w = active w.at (waiting modules begins w.links w.kont w.names w.operands)

  -- the innermost first
  abbrev pub callers : List Waiter → List (Active ℕ)
  callers ws = map (caller) ws
