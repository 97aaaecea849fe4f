-- Linking is local: it depends on the modules that the root reaches, and on which of these are closed.
use Rattle.std.specs.Prelude.{◌≡◌, ◌<◌, ◌⊎◌, ℕ, Bool, true, List, ◌++◌, length, slice_get, nat_eq, Option, Some, option_map, Result}
use Rattle.esm_base.specs.Lists.{is_in}
use Rattle.esm_base.specs.declared.end.End.{End}
use Rattle.esm_tree.specs.Syntax.{Parts}
use Rattle.esm_realm.specs.declared.record.ModuleStatus.TheVariants as statuses
use Rattle.esm_realm.specs.Sound.{RecordParts}
use Rattle.esm_realm.specs.ById.{status_of, without_status}
use Rattle.esm_resolve.specs.Renumbered.{Renumbers}
use Rattle.esm_env.specs.Modules.{Modules, entries, graph}
use Rattle.esm_env.specs.Bindings.{Target, Binds}
use Rattle.esm_link.specs.Faults.{FaultAt, FirstFault, link_error}
use Rattle.esm_link.specs.Link.{IsLinking, IsCutLinking}
use Rattle.esm_link.specs.Realm.{modules_of, is_linked, IsLinkedBy, LinkedAs}
use Rattle.esm_link.specs.declared.LinkFault.{LinkFault}

-- with each of these modules those that it requests are among them, and each is the one that its number names
pub record AreWhole {N : Type 0} (g : Modules N) (there : N → Bool) : Type 0 where
  pub targets : (m : N) (i : ℕ) → there m ≡ true → i < length (entries g m).requests → there (g.target m i) ≡ true
  pub named : (m : N) → there m ≡ true → g.named (g.number m) ≡ m

-- these modules are the same in g and in h, with the same targets of their requests; they may have other numbers
pub record AgreeOn {N : Type 0} (g h : Modules N) (there : N → Bool) : Type 0 where
  pub whole : AreWhole g there
  pub url : (m : N) → there m ≡ true → h.url m ≡ g.url m
  pub tree : (m : N) → there m ≡ true → h.tree m ≡ g.tree m
  pub target : (m : N) (i : ℕ) → there m ≡ true → i < length (entries g m).requests → h.target m i ≡ g.target m i
  pub named : (m : N) → there m ≡ true → h.named (h.number m) ≡ m

module _ {N : Type 0} (same : N → N → Bool) where
  -- from a root that is there, linking over g is linking over h
  pub record LinkAlike (g h : Modules N) (there : N → Bool) : Type 0 where
    pub links : (closed : List N) (root : N) (fault : Option (FaultAt N)) (after : List N) → there root ≡ true
        → IsLinking same g closed root fault after → IsLinking same h closed root fault after
    pub cut : (closed : List N) (root : N) (after : List N) → there root ≡ true
        → IsCutLinking same g closed root after → IsCutLinking same h closed root after
    pub error : (closed : List N) (root : N) (fault : FaultAt N) (after : List N) → there root ≡ true
        → IsLinking same g closed root (Some fault) after → link_error h fault ≡ link_error g fault
    pub faults : (m : N) (fault : Option (FaultAt N)) → there m ≡ true → FirstFault g m fault → FirstFault h m fault
    pub binds : (m : N) (x : List ℕ) (target : Option (Target N)) → there m ≡ true → Binds g m x target → Binds h m x target
    -- a module has the number in h of what its number names in g
    pub renumbers : (m : N) → there m ≡ true → Renumbers (graph g) (graph h) (λ n. h.number (g.named n)) (g.number m)

  -- ---- other closed modules

  -- of the modules that are there both lists have the same
  abbrev pub HaveSame : (N → Bool) → List N → List N → Type 0
  HaveSame there xs ys = (x : N) → there x ≡ true → is_in same ys x ≡ is_in same xs x

  -- linking with these modules closed comes to the same fault, or to none, and closes the same beyond them
  abbrev pub LinksSo : Modules N → List N → List N → N → Option (FaultAt N) → List N → Type 0
  LinksSo g closed others root fault after =
      (more : List N) × (after ≡ closed ++ more) × IsLinking same g others root fault (others ++ more)

  abbrev pub IsCutSo : Modules N → List N → List N → N → List N → Type 0
  IsCutSo g closed others root after = (more : List N) × (after ≡ closed ++ more) × IsCutLinking same g others root (others ++ more)

  -- of what is closed only what the root reaches matters
  pub record CloseAlike : Type 0 where
    pub links : (g : Modules N) (there : N → Bool) (closed others : List N) (root : N) (fault : Option (FaultAt N)) (after : List N)
        → AreWhole g there → there root ≡ true → HaveSame there closed others
        → IsLinking same g closed root fault after → LinksSo g closed others root fault after
    pub cut : (g : Modules N) (there : N → Bool) (closed others : List N) (root : N) (after : List N)
        → AreWhole g there → there root ≡ true → HaveSame there closed others
        → IsCutLinking same g closed root after → IsCutSo g closed others root after

-- ---- the laws

abbrev pub LinkingIsLocal : Type 0 → Type 0
LinkingIsLocal N =
    (same : N → N → Bool) (g h : Modules N) (there : N → Bool) → AgreeOn g h there → LinkAlike same g h there

abbrev pub ClosingIsLocal : Type 0 → Type 0
ClosingIsLocal N = (same : N → N → Bool) → CloseAlike same

-- ---- over records

-- these modules are the Linked ones
abbrev pub AreTheLinked : List RecordParts → List ℕ → Type 0
AreTheLinked rs linked = (x : ℕ) → x < length rs → is_in nat_eq linked x ≡ is_linked (status_of rs x)

-- each module that is there has its record, and is Unlinked or Linked
abbrev pub AreLinkable : List RecordParts → (ℕ → Bool) → Type 0
AreLinkable rs there =
    (x : ℕ) → there x ≡ true → (x < length rs) × ((status_of rs x ≡ statuses.Unlinked) ⊎ (status_of rs x ≡ statuses.Linked))

-- where the root reaches only what is Unlinked or Linked, linking with the Linked modules closed is what `link` does
abbrev pub LinksFromLinked : Type 0
LinksFromLinked = (trees : List Parts) (rs new : List RecordParts) (there : ℕ → Bool) (linked : List ℕ) (root : ℕ)
    (result : Result (Unit {0}) (End LinkFault)) → AreWhole (modules_of trees rs) there → AreLinkable rs there → there root ≡ true
    → AreTheLinked rs linked → IsLinkedBy trees rs root result new → LinkedAs trees rs linked root result new

-- records that are the same but for their statuses, and their trees, are the same modules
abbrev pub RecordsAgree : Type 0
RecordsAgree = (trees others : List Parts) (rs qs : List RecordParts) (there : ℕ → Bool) → AreWhole (modules_of trees rs) there
    → ((x : ℕ) → there x ≡ true → (slice_get others x ≡ slice_get trees x)
    × (option_map without_status (slice_get qs x) ≡ option_map without_status (slice_get rs x)))
    → AgreeOn (modules_of trees rs) (modules_of others qs) there
