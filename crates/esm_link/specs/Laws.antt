-- The laws of linking, for modules with names of any kind.
use Rattle.std.specs.Prelude.{◌≡◌, ℕ, Bool, true, List, [], ◌∷◌, Option, Some, None}
use Rattle.esm_base.specs.Lists.{IsSameness, is_in}
use Rattle.esm_realm.specs.Walk.{Mark, Enter, Pass, Leave, IsWalkOf}
use Rattle.esm_resolve.specs.declared.graph.Resolution.{Resolution}
use Rattle.esm_env.specs.Modules.{Modules, Exports}
use Rattle.esm_link.specs.Faults.{FaultAt}
use Rattle.esm_link.specs.Link.{targets, IsLinking}
use Rattle.esm_tree.specs.Syntax.{Parts}
use Rattle.esm_realm.specs.Sound.{RecordParts}
use Rattle.esm_env.specs.Faithful.{IsFaithfulAt}
use Rattle.esm_env.specs.declared.scope.ModuleScope.{ModuleScope}
use Rattle.esm_link.specs.Realm.{modules_of, IsLinkedScope}

-- linking has one outcome
abbrev pub OneLinking : Type 0 → Type 0
OneLinking N = (same : N → N → Bool) (g : Modules N) (closed : List N) (root : N) (one other : Option (FaultAt N)) (x y : List N)
    → IsLinking same g closed root one x → IsLinking same g closed root other y → (other ≡ one) × (y ≡ x)

-- with each module of the list the list has the modules of its requests
abbrev pub IsClosedUnder : {N : Type 0} → (N → N → Bool) → Modules N → List N → Type 0
IsClosedUnder {N} same g modules =
    (x t : N) → is_in same modules x ≡ true → is_in same (targets g x) t ≡ true → is_in same modules t ≡ true

-- each name that is asked of these modules has a resolution
abbrev pub HaveResolutions : {N : Type 0} → (N → N → Bool) → Modules N → List N → Type 0
HaveResolutions {N} same g modules =
    (x : N) (name : List ℕ) → is_in same modules x ≡ true → (r : Resolution) × Exports g x name r

-- linking a module of a finite graph has an outcome
abbrev pub HasLinking : Type 0 → Type 0
HasLinking N = (same : N → N → Bool) (g : Modules N) (modules closed : List N) (root : N) → IsSameness same
    → HaveResolutions same g modules → IsClosedUnder same g modules → is_in same modules root ≡ true
    → (fault : Option (FaultAt N)) × (after : List N) × IsLinking same g closed root fault after

-- the modules that the marks enter, in order
abbrev pub entered : {N : Type 0} → List (Mark N) → List N
entered [] = []
entered (Enter x ∷ marks) = x ∷ entered marks
entered (Pass x i ∷ marks) = entered marks
entered (Leave x ∷ marks) = entered marks

-- without a fault what was closed, and each module that the walk enters, is closed
abbrev pub LinksWhole : Type 0 → Type 0
LinksWhole N = (same : N → N → Bool) (g : Modules N) (closed after : List N) (root : N) (marks : List (Mark N)) → IsSameness same
    → IsWalkOf same (targets g) closed root marks → IsLinking same g closed root None after → (x : N)
    → (is_in same closed x ≡ true → is_in same after x ≡ true)
    × (is_in same (entered marks) x ≡ true → is_in same after x ≡ true)

-- with a fault or without one, what is closed behind linking is closed under requests, has what was closed before, and is of these
-- modules, where what was closed before is so
pub record ClosesWhole (N : Type 0) : Type 0 where
  pub closed : (same : N → N → Bool) (g : Modules N) (modules closed after : List N) (root : N) (fault : Option (FaultAt N))
      → IsSameness same → IsClosedUnder same g modules → is_in same modules root ≡ true → IsClosedUnder same g closed
      → ((x : N) → is_in same closed x ≡ true → is_in same modules x ≡ true) → IsLinking same g closed root fault after
      → IsClosedUnder same g after × ((x : N) → is_in same closed x ≡ true → is_in same after x ≡ true)
      × ((x : N) → is_in same after x ≡ true → is_in same modules x ≡ true)
  -- without a fault the root is closed
  pub root : (same : N → N → Bool) (g : Modules N) (closed after : List N) (root : N) → IsSameness same
      → IsLinking same g closed root None after → is_in same after root ≡ true

-- a scope that linking has made is faithful to its module
abbrev pub LinkedScopesAreFaithful : Type 0
LinkedScopesAreFaithful = (trees : List Parts) (rs : List RecordParts) (x : ℕ) (s : ModuleScope)
    → IsLinkedScope trees rs x (Some s) → IsFaithfulAt (modules_of trees rs) x s
