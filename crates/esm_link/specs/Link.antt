-- Linking. ECMA-262, Link and InnerModuleLinking, mark by mark of the walk over the modules that are unlinked.
use Rattle.std.specs.Prelude.{◌≡◌, ℕ, suc, Bool, true, false, List, [], ◌∷◌, ◌++◌, Option, Some, None}
use Rattle.esm_realm.specs.Walk.{Mark, Enter, Pass, Leave, IsWalkOf}
use Rattle.esm_realm.specs.Components.{closes, opened_before, opened_from}
use Rattle.esm_env.specs.Modules.{Modules, entries}
use Rattle.esm_link.specs.Faults.{FaultAt, FirstFault}

module _ {N : Type 0} (g : Modules N) where
  abbrev pub targets_from : N → ℕ → List (List ℕ) → List N
  targets_from x i [] = []
  targets_from x i (r ∷ rs) = g.target x i ∷ targets_from x (suc i) rs

  -- the modules of all its requests, in order. [[LoadedModules]]
  abbrev pub targets : N → List N
  targets x = targets_from x 0 (entries g x).requests

module _ {N : Type 0} (same : N → N → Bool) (g : Modules N) where
  -- LinksMarks opened closed marks fault after: with these modules on the stack, and those closed, the marks of the walk come to this fault,
  -- or to none, and then the modules of `after` are closed
  pub data LinksMarks : List N → List N → List (Mark N) → Option (FaultAt N) → List N → Type 0 where
    done : {closed : List N} → LinksMarks [] closed [] None closed
    enters : {opened closed after : List N} {x : N} {ms : List (Mark N)} {f : Option (FaultAt N)}
        → LinksMarks (opened ++ x ∷ []) closed ms f after → LinksMarks opened closed (Enter x ∷ ms) f after
    passes : {opened closed after : List N} {x : N} {i : ℕ} {ms : List (Mark N)} {f : Option (FaultAt N)}
        → LinksMarks opened closed ms f after → LinksMarks opened closed (Pass x i ∷ ms) f after
    -- InitializeEnvironment throws: Link makes each module of the stack Unlinked again
    fails : {opened closed : List N} {x : N} {ms : List (Mark N)} {f : FaultAt N} → FirstFault g x (Some f)
        → LinksMarks opened closed (Leave x ∷ ms) (Some f) closed
    stays : {opened closed after : List N} {x : N} {ms : List (Mark N)} {f : Option (FaultAt N)} → FirstFault g x None
        → closes same (targets g) opened x ≡ false → LinksMarks opened closed ms f after → LinksMarks opened closed (Leave x ∷ ms) f after
    -- the modules of the component are linked
    component : {opened closed after : List N} {x : N} {ms : List (Mark N)} {f : Option (FaultAt N)} → FirstFault g x None
        → closes same (targets g) opened x ≡ true
        → LinksMarks (opened_before same opened x) (closed ++ opened_from same opened x) ms f after
        → LinksMarks opened closed (Leave x ∷ ms) f after

  -- LinksPart opened closed marks after: linking is broken off somewhere amid these marks, with the modules of `after` closed
  pub data LinksPart : List N → List N → List (Mark N) → List N → Type 0 where
    cut : {opened closed : List N} {ms : List (Mark N)} → LinksPart opened closed ms closed
    enters : {opened closed after : List N} {x : N} {ms : List (Mark N)}
        → LinksPart (opened ++ x ∷ []) closed ms after → LinksPart opened closed (Enter x ∷ ms) after
    passes : {opened closed after : List N} {x : N} {i : ℕ} {ms : List (Mark N)}
        → LinksPart opened closed ms after → LinksPart opened closed (Pass x i ∷ ms) after
    stays : {opened closed after : List N} {x : N} {ms : List (Mark N)} → FirstFault g x None
        → closes same (targets g) opened x ≡ false → LinksPart opened closed ms after → LinksPart opened closed (Leave x ∷ ms) after
    component : {opened closed after : List N} {x : N} {ms : List (Mark N)} → FirstFault g x None
        → closes same (targets g) opened x ≡ true
        → LinksPart (opened_before same opened x) (closed ++ opened_from same opened x) ms after
        → LinksPart opened closed (Leave x ∷ ms) after

  -- linking the root, where the modules of `closed` are all those that aren't Unlinked: the first fault in the order in which modules
  -- are left, or none. What `after` has beyond `closed` is Linked then, and every other module is as it was
  pub record IsLinking (closed : List N) (root : N) (fault : Option (FaultAt N)) (after : List N) : Type 0 where
    pub marks : List (Mark N)
    pub walk : IsWalkOf same (targets g) closed root marks
    pub links : LinksMarks [] closed marks fault after

  -- linking the root is broken off, as where memory runs out: what `after` has beyond `closed` are components that had closed
  pub record IsCutLinking (closed : List N) (root : N) (after : List N) : Type 0 where
    pub marks : List (Mark N)
    pub walk : IsWalkOf same (targets g) closed root marks
    pub part : LinksPart [] closed marks after
