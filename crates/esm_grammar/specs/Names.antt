-- Lists of texts, and the names that statements declare.
use Rattle.std.specs.Prelude.{Bool, List, [], ◌∷◌, bytes_eq}
use Rattle.std.specs.List.{list_any}
use Rattle.esm_base.specs.Urls.{Text}
use Rattle.esm_tree.specs.Syntax.{Bindings, no_more, binding, Stmt, Const, Let}

unfoldable pub has_text : List Text → Text → Bool
has_text texts text = list_any (λ s. bytes_eq s text) texts

unfoldable pub names_of : Bindings → List Text
names_of no_more = []
names_of (binding n v bs) = n ∷ names_of bs

-- ECMA-262, BoundNames of a lexical declaration; other statements declare no name
unfoldable pub declared_names : Stmt → List Text
declared_names (Const bs) = names_of bs
declared_names (Let bs) = names_of bs
declared_names _ = []
