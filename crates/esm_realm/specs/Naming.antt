-- Walks over modules by other names: each module of the one kind has a name, and the same modules the same names.
use Rattle.std.specs.Prelude.{◌≡◌, Bool, List, map}
use Rattle.esm_realm.specs.Walk.{Mark, Enter, Pass, Leave, IsWalkOf, leaves}
use Rattle.esm_realm.specs.Components.{opened_before, opened_from, closes}

module _ {M N : Type 0} (name : M → N) where
  -- the same mark, of the module by its name
  abbrev pub named_mark : Mark M → Mark N
  named_mark (Enter x) = Enter (name x)
  named_mark (Pass x i) = Pass (name x) i
  named_mark (Leave x) = Leave (name x)

  -- the tests say the same of modules and of their names, and the targets of a name are the names of the targets
  pub record AreNamed (same : M → M → Bool) (others : N → N → Bool) (to : M → List M) (tos : N → List N) : Type 0 where
    pub alike : (x y : M) → others (name x) (name y) ≡ same x y
    pub targets : (x : M) → tos (name x) ≡ map name (to x)

  -- a walk over modules is the walk over their names
  pub record WalkFollows (same : M → M → Bool) (others : N → N → Bool) (to : M → List M) (tos : N → List N) : Type 0 where
    pub walk : (closed : List M) (root : M) (marks : List (Mark M)) → IsWalkOf same to closed root marks
        → IsWalkOf others tos (map name closed) (name root) (map named_mark marks)
    pub leaves_are : (marks : List (Mark M)) → leaves (map named_mark marks) ≡ map name (leaves marks)
    -- and its components close where they close
    pub before : (opened : List M) (x : M) → opened_before others (map name opened) (name x) ≡ map name (opened_before same opened x)
    pub onwards : (opened : List M) (x : M) → opened_from others (map name opened) (name x) ≡ map name (opened_from same opened x)
    pub closes_so : (opened : List M) (x : M) → closes others tos (map name opened) (name x) ≡ closes same to opened x

  abbrev pub WalksFollowNames : Type 0
  WalksFollowNames = (same : M → M → Bool) (others : N → N → Bool) (to : M → List M) (tos : N → List N) → AreNamed same others to tos
      → WalkFollows same others to tos
