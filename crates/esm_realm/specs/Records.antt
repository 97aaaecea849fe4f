-- ECMA-262, Source Text Module Records.
use Rattle.std.specs.Prelude.{List}
use Rattle.esm_tree.specs.Syntax.{Item}
use Rattle.esm_base.specs.Urls.{Url}

-- the module that stands under a URL: its body, and the resolved URL of each of its requests, in order
pub record ModuleRecord : Type 0 where
  pub body : List Item
  pub targets : List Url
