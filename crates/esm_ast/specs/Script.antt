-- What contracts see of a module text that was read, and of one that was refused.
use Rattle.std.specs.Prelude.{◌≡◌, ℕ, List}
use Rattle.esm_base.specs.declared.fault.TextFault.{TextFault}
use Rattle.esm_tree.specs.Syntax.{Item, Parts}
use Rattle.esm_grammar.specs.ModuleText.{Spells}
use Rattle.esm_ast.specs.Entries.{EntryLists, entries_of}

pub record ScriptParts : Type 0 where
  pub bytes : List ℕ
  pub tree : Parts
  pub entries : EntryLists

abbrev pub script_parts : List ℕ → Parts → EntryLists → ScriptParts
script_parts bytes tree entries = record { bytes = bytes; tree = tree; entries = entries }

-- a module text as an outcome shows it: its bytes and the items that they spell. How the parts of a tree are numbered
-- isn't seen, and the entries are those of the items
pub record SpelledText : Type 0 where
  pub bytes : List ℕ
  pub items : List Item

abbrev pub spelled_text : ScriptParts → SpelledText
spelled_text script = record { bytes = script.bytes; items = script.tree.items }

pub record BrokenParts : Type 0 where
  pub fault : TextFault
  pub bytes : List ℕ

-- the script that is read from these bytes
pub record IsScriptOf (bytes : List ℕ) (script : ScriptParts) : Type 0 where
  pub bytes_are : script.bytes ≡ bytes
  pub spelled : Spells bytes script.tree.items
  pub entries_are : script.entries ≡ entries_of script.tree.items
