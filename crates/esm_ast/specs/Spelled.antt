-- That a text spells the items of a module.
use Rattle.std.specs.Prelude.{ℕ, List}
use Rattle.esm_tree.specs.Syntax.{Item}
use Rattle.esm_grammar.specs.ModuleText.{Spells}

-- a text spells these items
abbrev pub AreSpelled : List Item → Type 0
AreSpelled items = (bytes : List ℕ) × Spells bytes items
