-- What evaluation keeps of modules in the code, as a table of nodes by the numbers of modules.
use Rattle.std.specs.Prelude.{◌≡◌, ◌<◌, ◌≤◌, ℕ, zero, suc, Bool, true, false, nat_eq, List, [], ◌∷◌, ◌++◌, map, length, slice_get, Option, Some, None}
use Rattle.std.specs.Option.{option_map}
use Rattle.esm_base.specs.Lists.{is_in}
use Rattle.esm_values.specs.Code.{CodeValue, value_of}
use Rattle.esm_eval.specs.Nodes as nodes
use Rattle.esm_eval.specs.Nodes.{untouched}
use Rattle.esm_eval.specs.declared.nodes.Phase.{Phase}
use Rattle.esm_eval.specs.declared.nodes.Phase.TheVariants as phases
use Rattle.esm_eval.specs.declared.nodes.Node.{Node}

pub record Table : Type 0 where
  -- the node of a module is the one at its number
  pub nodes : List (nodes.Node ℕ CodeValue)
  -- the modules with an [[AsyncEvaluationOrder]], in that order
  pub stamps : List ℕ

abbrev pub phase_of : Phase → nodes.Phase
phase_of phases.NotEntered = nodes.NotEntered
phase_of phases.Evaluating = nodes.Evaluating
phase_of phases.EvaluatingAsync = nodes.EvaluatingAsync
phase_of phases.Evaluated = nodes.Evaluated

abbrev pub node_of : Node → nodes.Node ℕ CodeValue
node_of n = record {
  phase = phase_of n.phase;
  error = option_map value_of n.error;
  cycle_root = n.cycle_root;
  promise = option_map (λ p. p.0) n.promise;
  done = n.done;
  waits = n.waits.items;
  waiters = n.waiters.items;
}

abbrev pub table_of : List Node → List ℕ → Table
table_of ns stamps = record { nodes = map node_of ns; stamps = stamps }

abbrev pub no_nodes : Table
no_nodes = record { nodes = []; stamps = [] }

abbrev pub node_by : Option (nodes.Node ℕ CodeValue) → nodes.Node ℕ CodeValue
node_by None = untouched
node_by (Some n) = n

-- the node of a module; nothing is written where there is none
abbrev pub node_at : Table → ℕ → nodes.Node ℕ CodeValue
node_at t x = node_by (slice_get t.nodes x)

abbrev pub put_at : List (nodes.Node ℕ CodeValue) → ℕ → nodes.Node ℕ CodeValue → List (nodes.Node ℕ CodeValue)
put_at [] zero n = n ∷ []
put_at [] (suc x) n = untouched ∷ put_at [] x n
put_at (m ∷ ms) zero n = n ∷ ms
put_at (m ∷ ms) (suc x) n = m ∷ put_at ms x n

abbrev pub with_node : Table → ℕ → nodes.Node ℕ CodeValue → Table
with_node t x n = record t { nodes = put_at t.nodes x n }

abbrev pub size : Table → ℕ
size t = length t.nodes

-- with one node more, in which nothing is written
abbrev pub with_one : Table → Table
with_one t = record t { nodes = t.nodes ++ untouched ∷ [] }

-- the module has the next order
abbrev pub with_stamp : Table → ℕ → Table
with_stamp t x = record t { stamps = t.stamps ++ x ∷ [] }

-- the modules that a node names have nodes
pub record IsBounded (size : ℕ) (n : Node) : Type 0 where
  pub root : (r : ℕ) → n.cycle_root ≡ Some r → r < size
  pub waits : (k y : ℕ) → slice_get n.waits.items k ≡ Some y → y < size
  pub waiters : (k y : ℕ) → slice_get n.waiters.items k ≡ Some y → y < size

-- the order that x has: its place among these stamps
abbrev pub IsOrderOf : List ℕ → ℕ → Option ℕ → Type 0
IsOrderOf stamps x None = is_in nat_eq stamps x ≡ false
IsOrderOf stamps x (Some k) = slice_get stamps k ≡ Some x

-- the module is done
abbrev pub is_done_by : Option Node → Bool
is_done_by None = false
is_done_by (Some n) = n.done

abbrev pub is_done_in : List Node → ℕ → Bool
is_done_in ns y = is_done_by (slice_get ns y)

-- of these waits those before this place are done
abbrev pub ArePassed : List Node → List ℕ → ℕ → Type 0
ArePassed ns waits place = (k y : ℕ) → k < place → slice_get waits k ≡ Some y → is_done_in ns y ≡ true

abbrev pub AreDone : Table → List ℕ → ℕ → Type 0
AreDone t waits place = (k y : ℕ) → k < place → slice_get waits k ≡ Some y → (node_at t y).done ≡ true

-- what a node has passed is there and done
pub record HasPassed (ns : List Node) (n : Node) : Type 0 where
  pub within : n.passed ≤ length n.waits.items
  pub passed : ArePassed ns n.waits.items n.passed

-- y may go on to this place of its waits
abbrev pub PassesTo : List Node → ℕ → ℕ → Type 0
PassesTo ns y place = (n : Node) → slice_get ns y ≡ Some n → HasPassed ns n
    → (place ≤ length n.waits.items) × ArePassed ns n.waits.items place

-- nodes and stamps belong together
pub record AreKept (ns : List Node) (stamps : List ℕ) : Type 0 where
  pub bounded : (x : ℕ) (n : Node) → slice_get ns x ≡ Some n → IsBounded (length ns) n
  pub ordered : (x : ℕ) (n : Node) → slice_get ns x ≡ Some n → IsOrderOf stamps x n.order
  pub below : (k x : ℕ) → slice_get stamps k ≡ Some x → x < length ns
  pub gone : (x : ℕ) (n : Node) → slice_get ns x ≡ Some n → HasPassed ns n
