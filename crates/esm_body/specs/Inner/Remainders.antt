-- What remains of a level: statements that haven't begun, and what is in front of them.
use Rattle.std.specs.Prelude.{◌≡◌, List, [], ◌∷◌, ◌++◌, map, Option, Some, None}
use Rattle.esm_tree.specs.declared.node.StmtId.{StmtId}
use Rattle.esm_body.specs.declared.work.Work.{Work}
use Rattle.esm_body.specs.declared.work.Work.TheVariants as w

-- statements that haven't begun
abbrev pub wholes : List StmtId → List Work
wholes ids = map (λ id. w.Whole id) ids

-- the last was taken, if there is one
abbrev pub IsLast : List Work → Option Work → List Work → Type 0
IsLast old None new = (old ≡ []) × (new ≡ [])
IsLast old (Some one) new = old ≡ new ++ one ∷ []
