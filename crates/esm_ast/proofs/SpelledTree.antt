-- What a text spells is a module's tree.
use Rattle.std.proofs.Common.{ℕ, List}
use Rattle.esm_tree.specs.Syntax.{Item}
use Rattle.esm_grammar.specs.ModuleText.{Spells}
use Rattle.esm_ast.specs.ModuleTree.{IsModuleTree}
use Rattle.esm_ast.proofs.Forms.{items_plain, items_still}
use Rattle.esm_ast.proofs.NamesUtf8.{exports_utf8, declared_utf8}

pub spelled_is_module_tree : (bytes : List ℕ) (items : List Item) → Spells bytes items → IsModuleTree items
spelled_is_module_tree bytes items s = record {
  returns = items_plain s.ts s.derived;
  awaits = items_still s.ts s.derived;
  exported = exports_utf8 bytes items s;
  declared = declared_utf8 bytes items s;
}
