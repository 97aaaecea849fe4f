-- What can be read of linked modules.
use Rattle.std.proofs.Common.{◌≡◌, ℕ, Bool, true, false, List, Some}
use Rattle.std.specs.Str.{IsUtf8}
use Rattle.std.specs.List.{All}
use Rattle.esm_ast.specs.Entries.{stmts_await}
use Rattle.esm_ast.specs.ModuleTree.{stmts_return}
use Rattle.esm_resolve.specs.Keys.{AreNamespaceKeysOf}
use Rattle.esm_values.specs.Value.{Value}
use Rattle.esm_env.specs.Declarations.{FunctionCode, body_of}
use Rattle.esm_env.specs.Modules.{Modules, graph, function_of}
use Rattle.esm_env.specs.Cells.{Cells, Reading}
use Rattle.esm_env.specs.Reading.{IsReadingOf, IsMemberOf}
use Rattle.esm_rewriting.specs.Fits.{IsKnownReading, AreKnownCells}

module _ {N : Type 0} (g : Modules N) (linked : N → Bool) where
  -- a linked module's names, and the members and keys of its namespace, can be read; no await stands in its functions, and no
  -- return in its body
  pub record AreReadable : Type 0 where
    pub names : (cells : Cells N) (m : N) (x : List ℕ) → AreKnownCells g linked cells → linked m ≡ true
        → (read : Reading (Value N)) × IsReadingOf g cells m x read × IsKnownReading g linked read
    pub members : (cells : Cells N) (m : N) (x : List ℕ) → AreKnownCells g linked cells → linked m ≡ true
        → (read : Reading (Value N)) × IsMemberOf g cells m x read × IsKnownReading g linked read
    pub keys : (m : N) → linked m ≡ true → (keys : List (List ℕ)) × AreNamespaceKeysOf (graph g) (g.number m) keys × All IsUtf8 keys
    pub functions : (m : N) (index : ℕ) (f : FunctionCode) → linked m ≡ true → function_of g m index ≡ Some f
        → stmts_await f.body ≡ false
    pub bodies : (m : N) → linked m ≡ true → stmts_return (body_of (g.tree m)) ≡ false
