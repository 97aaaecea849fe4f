-- The parts of an expression, by place.
use Rattle.std.specs.Prelude.{◌≡◌, ℕ, zero, suc, ◌+◌, ◌<◌, Bool, List, Option, Some, None}
use Rattle.esm_tree.specs.Flat.{part}
use Rattle.esm_tree.specs.declared.node.ExprId.{ExprId}
use Rattle.esm_tree.specs.Syntax as ast

-- the operands behind the first, or what is printed
abbrev pub operands : ast.Expr → ast.Exprs
operands (ast.Or e es) = es
operands (ast.And e es) = es
operands (ast.Sum e es) = es
operands (ast.Print es) = es
operands _ = ast.none

abbrev pub from : ℕ → ast.Exprs → ast.Exprs
from zero es = es
from (suc n) ast.none = ast.none
from (suc n) (ast.more e es) = from n es

abbrev pub compared_of : ast.Expr → ast.Compared
compared_of (ast.Equal e cs) = cs
compared_of _ = ast.last

abbrev pub compared_from : ℕ → ast.Compared → ast.Compared
compared_from zero cs = cs
compared_from (suc n) ast.last = ast.last
compared_from (suc n) (ast.compared b e cs) = compared_from n cs

abbrev pub links_of : ast.Expr → ast.Links
links_of (ast.Post e ls) = ls
links_of _ = ast.ends

abbrev pub links_from : ℕ → ast.Links → ast.Links
links_from zero ls = ls
links_from (suc n) ast.ends = ast.ends
links_from (suc n) (ast.member x ls) = links_from n ls
links_from (suc n) (ast.call es ls) = links_from n ls

-- the arguments of the first link
abbrev pub arguments : ast.Links → ast.Exprs
arguments ast.ends = ast.none
arguments (ast.member x ls) = ast.none
arguments (ast.call es ls) = es

-- the part with a number, and those behind it
abbrev pub IsNext : ℕ → List ast.Expr → ast.Exprs → ℕ → Option ExprId → Type 0
IsNext at done es next None = from next es ≡ ast.none
IsNext at done es next (Some id) = (id.0 < at) × (from next es ≡ ast.more (part done id) (from (next + 1) es))

abbrev pub IsNextCompared : ℕ → List ast.Expr → ast.Compared → ℕ → Option (Bool × ExprId) → Type 0
IsNextCompared at done cs next None = compared_from next cs ≡ ast.last
IsNextCompared at done cs next (Some c) = (c.1.0 < at) × (compared_from next cs
    ≡ ast.compared c.0 (part done c.1) (compared_from (next + 1) cs))
