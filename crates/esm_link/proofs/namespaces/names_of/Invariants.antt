use Rattle.esm_link.specs.Inner.Graph.{modules_in}
use Rattle.esm_link.proofs.Naming.{NamesOn}
use Rattle.esm_link.proofs.namespaces.names_of.Given as goal

-- the names so far, with those that are left
abbrev pub invariant-loop-i : goal.invariant-loop-i
invariant-loop-i l = NamesOn ((modules_in l.graph).target l.m.0) l.imports l.names l.i
