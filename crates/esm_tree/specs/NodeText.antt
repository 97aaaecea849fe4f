-- What contracts see of a text of a node.
use Rattle.std.specs.Prelude.{ℕ, ◌≤◌, List, take}
use Rattle.std.specs.Str.{IsUtf8}
use Rattle.esm_tree.specs.declared.node_text.Form.{Form}
use Rattle.esm_tree.specs.declared.node_text.Form.TheVariants as f

-- its bytes
abbrev pub bytes_of : Form → List ℕ
bytes_of (f.Short n bytes) = take n bytes
bytes_of (f.Long text) = text.value

-- as many as lie in the node are UTF-8
abbrev pub IsForm : Form → Type 0
IsForm (f.Short n bytes) = (n ≤ 22) × ∥ IsUtf8 (take n bytes) ∥₁
IsForm (f.Long text) = Unit {0}
