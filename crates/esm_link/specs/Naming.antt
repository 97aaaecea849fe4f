-- Linking modules by other names.
use Rattle.std.specs.Prelude.{◌≡◌, Bool, List, map, Option}
use Rattle.std.specs.Option.{option_map}
use Rattle.esm_values.specs.Naming.{Naming}
use Rattle.esm_env.specs.Modules.{Modules}
use Rattle.esm_env.specs.Naming.{AreNamed}
use Rattle.esm_link.specs.Faults.{FaultAt, link_error}
use Rattle.esm_link.specs.Link.{IsLinking}

module _ {M N : Type 0} (names : Naming M N) where
  abbrev pub named_fault : FaultAt M → FaultAt N
  named_fault f = record { kind = f.kind; module_is = names.name f.module_is; name = f.name; target = names.name f.target }

  -- same and other tell the modules apart, and their names
  module _ (same : M → M → Bool) (other : N → N → Bool) where
    pub record LinkFollows (g : Modules M) (h : Modules N) : Type 0 where
      pub links : (closed : List M) (root : M) (fault : Option (FaultAt M)) (after : List M) → IsLinking same g closed root fault after
          → IsLinking other h (map names.name closed) (names.name root) (option_map named_fault fault) (map names.name after)
      pub error : (f : FaultAt M) → link_error h (named_fault f) ≡ link_error g f

    -- linking follows names: the fault is the same, or there is none, and the modules that are linked then are
    abbrev pub LinkingFollowsNames : Type 0
    LinkingFollowsNames = (g : Modules M) (h : Modules N) → ((x y : M) → other (names.name x) (names.name y) ≡ same x y)
        → AreNamed names g h → LinkFollows g h
