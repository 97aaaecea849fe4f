-- Names that are gathered, and what is tested of them.
use Rattle.std.specs.Prelude.{◌≡◌, Bool, true, false, not, ◌||◌, List, [], ◌∷◌, ◌++◌, Option, Some, None}
use Rattle.std.specs.Ordering.{nat_cmp}
use Rattle.std.specs.Cmp.Lexicographic.{slice_cmp}
use Rattle.std.specs.BTreeSet.{BTreeSet, contains_by}
use Rattle.esm_tree.specs.declared.node.ExportSpecifier.{ExportSpecifier}
use Rattle.esm_tree.specs.Syntax.{Item}
use Rattle.std.specs.List.{list_any}
use Rattle.std.specs.Borrow.{Bor}
use Rattle.esm_tree.specs.declared.node.LexicalBinding.{LexicalBinding}
use Rattle.esm_grammar.specs.Names.{has_text}
use Rattle.esm_base.specs.Urls.{Text}
use Rattle.esm_grammar.specs.EarlyErrors.{Scope, has_repeat, listed_of, item_scopes}

unfoldable pub texts : List (Bor Text) → List Text
texts [] = []
texts (b ∷ bs) = b.now ∷ texts bs

unfoldable pub binding_names : List LexicalBinding → List Text
binding_names [] = []
binding_names (b ∷ bs) = b.name ∷ binding_names bs

-- the parameter of a catch clause, where it has one
abbrev pub given : Option (Bor Text) → List Text
given None = []
given (Some b) = b.now ∷ []

-- a name of the scope is declared twice, its parameters among them
unfoldable pub clashes : Scope → Bool
clashes s = has_repeat (s.parameters ++ s.declared)

unfoldable pub any_clashes : List Scope → Bool
any_clashes ss = list_any clashes ss

-- ---- sets of names

-- whether a text is in a set
abbrev pub held : BTreeSet (Bor Text) → Text → Bool
held set s = contains_by (λ k. slice_cmp nat_cmp s k.now) set

-- no name stands twice, and the set has these names
pub record Holds (names : List (Bor Text)) (set : BTreeSet (Bor Text)) : Type 0 where
  pub distinct : has_repeat (texts names) ≡ false
  pub same : (s : Text) → held set s ≡ has_text (texts names) s

-- a name stands twice, or this is the set of them
abbrev pub IsSetOf : List (Bor Text) → Option (BTreeSet (Bor Text)) → Type 0
IsSetOf names None = has_repeat (texts names) ≡ true
IsSetOf names (Some set) = Holds names set

-- what is listed is no name, or isn't held
abbrev pub is_unlisted : (Text → Bool) → ExportSpecifier → Bool
is_unlisted has e = not e.is_name || not (has e.first)

-- an item lists what isn't held, or has a scope that clashes
unfoldable pub any_item_wrong : (Text → Bool) → List Item → Bool
any_item_wrong has [] = false
any_item_wrong has (x ∷ xs) = (list_any (is_unlisted has) (listed_of x) || any_clashes (item_scopes x)) || any_item_wrong has xs
