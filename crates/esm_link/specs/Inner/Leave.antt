-- What the leave of a module does.
use Rattle.std.specs.Prelude.{◌≡◌, ℕ, List, None}
use Rattle.esm_base.specs.declared.end.End.{End}
use Rattle.esm_tree.specs.Syntax.{Parts}
use Rattle.esm_realm.specs.Sound.{RecordParts}
use Rattle.esm_env.specs.Makes.{OthersStay}
use Rattle.esm_env.specs.Scopes.{Scopes, scope_in}
use Rattle.esm_link.specs.Faults.{FirstFault}
use Rattle.esm_link.specs.Realm.{modules_of, IsLinkedScope}
use Rattle.esm_link.specs.Inner.Imports.{HasFault}
use Rattle.esm_link.specs.declared.LinkFault.{LinkFault}

module _ (trees : List Parts) (rs : List RecordParts) (x : ℕ) (scopes scopes' : Scopes) where
  -- it has no fault, and its scope is made
  pub record IsLeft : Type 0 where
    pub fault : FirstFault (modules_of trees rs) x None
    pub made : IsLinkedScope trees rs x (scope_in scopes' x)
    pub others : OthersStay scopes x scopes'

  -- it has its first fault, or memory ran out
  pub record IsNotLeft (end : End LinkFault) : Type 0 where
    pub fault : HasFault (modules_of trees rs) x end
    pub scopes_are : (n : ℕ) → scope_in scopes' n ≡ scope_in scopes n
