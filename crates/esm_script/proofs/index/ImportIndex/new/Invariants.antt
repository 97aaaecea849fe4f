use Rattle.std.proofs.Common.{◌≡◌, ℕ, List, drop}
use Rattle.esm_ast.specs.Entries.{import_named}
use Rattle.esm_script.specs.Inner.{found_in}
use Rattle.esm_script.proofs.index.ImportIndex.new.Given as goal

abbrev pub invariant-loop-i : goal.invariant-loop-i
invariant-loop-i l = (name : List ℕ) → found_in l.by_local name ≡ import_named (drop l.i l.imports) name
