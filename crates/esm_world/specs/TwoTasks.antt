-- A worked example of two pending requests of one URL.
use Rattle.std.specs.Prelude.{[], ◌∷◌, codes}
use Rattle.esm_base.specs.declared.status.Status.TheVariants as statuses
use Rattle.esm_tree.specs.Syntax as x
use Rattle.esm_rewriting.specs.State.{Begins, Ends}
use Rattle.esm_ast.specs.Deliveries.{Delivery}
use Rattle.esm_world.specs.Examples.{Run, ended, file, line, main_url, b_url, printing_b}

abbrev pub asking_twice : Delivery
asking_twice = file main_url (codes "import \"./b\"; import \"././b\";")
    (x.ImportEffect (codes "./b") ∷ x.ImportEffect (codes "././b") ∷ [])

-- the URL is asked once, each request is answered in a task of its own, and the load ends in the second: the body runs once
abbrev pub TwoTasks : Type 0
TwoTasks = Run (asking_twice ∷ printing_b ∷ []) (ended statuses.Fulfilled (main_url ∷ b_url ∷ []) (line (codes "b")) []
    (Begins b_url ∷ Ends b_url ∷ Begins main_url ∷ Ends main_url ∷ []))
