-- How many modules of a table are left.
use Rattle.std.specs.Prelude.{ℕ, suc, Bool, true, false, List, [], ◌∷◌}
use Rattle.esm_values.specs.Code.{CodeValue}
use Rattle.esm_eval.specs.Nodes.{Phase, NotEntered, Evaluating, EvaluatingAsync, Evaluated, was_entered, Node}
use Rattle.esm_eval.specs.Table.{Table}

abbrev pub unless : Bool → ℕ → ℕ
unless true n = n
unless false n = suc n

-- how many of these phases don't pass the test
abbrev pub failing : (Phase → Bool) → List (Node ℕ CodeValue) → ℕ
failing test [] = 0
failing test (n ∷ ns) = unless (test n.phase) (failing test ns)

-- how many have nodes and weren't entered
abbrev pub unentered : Table → ℕ
unentered t = failing was_entered t.nodes

abbrev pub is_over : Phase → Bool
is_over Evaluated = true
is_over NotEntered = false
is_over Evaluating = false
is_over EvaluatingAsync = false

-- how many have nodes and aren't evaluated
abbrev pub unfinished : Table → ℕ
unfinished t = failing is_over t.nodes
