-- What linking says of what lies outside of bodies.
use Rattle.std.specs.Prelude.{◌≡◌, ◌<◌, ℕ, true, List, length, Some, None, Result, Ok, Err}
use Rattle.esm_base.specs.declared.end.End.{End}
use Rattle.esm_base.specs.declared.end.End.TheVariants.{Fault, Memory}
use Rattle.esm_base.specs.Urls.{Url, has, same_url}
use Rattle.esm_env.specs.Scopes.{Scopes}
use Rattle.esm_link.specs.Faults.{FaultAt}
use Rattle.esm_link.specs.Link.{IsLinking}
use Rattle.esm_link.specs.Naming.{named_fault}
use Rattle.esm_link.specs.Realm.{fault_of}
use Rattle.esm_link.specs.declared.LinkFault.{LinkFault}
use Rattle.esm_world.specs.World.{modules_in}
use Rattle.esm_machine.specs.ModuleStore.{Imported, is_whole, seen_of}
use Rattle.esm_machine.specs.Seen.{Seen, names}
use Rattle.esm_machine.specs.SeenScopes.{AreScopesIn}
use Rattle.esm_machine.specs.declared.condition.Condition.{Condition}
use Rattle.esm_machine.specs.declared.condition.Condition.TheVariants as conditions

abbrev pub SameMembers : List Url → List Url → Type 0
SameMembers us vs = (u : Url) → has us u ≡ has vs u

-- the root is linked where these modules are, and what is linked then is seen. Where memory ran out nothing is said
abbrev pub LinksSeen : Seen → List Url → ℕ → Result (Unit {0}) (End LinkFault) → Seen → Type 0
LinksSeen s linked_are root (Ok done) new = (after : List Url)
    × IsLinking same_url (modules_in s.loading) linked_are ((names s).name root) None after × SameMembers after new.linked
LinksSeen s linked_are root (Err (Fault f)) new = (after : List Url)
    × IsLinking same_url (modules_in s.loading) linked_are ((names s).name root) (Some (named_fault (names s) (fault_of f))) after
    × SameMembers after new.linked
LinksSeen s linked_are root (Err Memory) new = Unit {0}

-- the modules that a link fault names have records
pub record HasIds (s : Seen) (f : FaultAt ℕ) : Type 0 where
  pub module_has : f.module_is < length s.urls
  pub target_has : f.target < length s.urls

abbrev pub NamesRecords : Seen → Result (Unit {0}) (End LinkFault) → Type 0
NamesRecords s (Ok done) = Unit {0}
NamesRecords s (Err (Fault f)) = HasIds s (fault_of f)
NamesRecords s (Err Memory) = Unit {0}

-- what is known behind it: a fault changes nothing of that
abbrev pub condition_linked : Result (Unit {0}) (End LinkFault) → Condition
condition_linked (Ok done) = conditions.Whole
condition_linked (Err (Fault f)) = conditions.Whole
condition_linked (Err Memory) = conditions.Lost

-- nothing was refused, and the scopes are those of the modules
pub record HaveScopes (i : Imported) (e : Scopes) : Type 0 where
  pub whole : is_whole i.condition ≡ true
  pub scopes : AreScopesIn (seen_of i) e

abbrev pub KeepsScopes : Result (Unit {0}) (End LinkFault) → Imported → Scopes → Type 0
KeepsScopes (Ok done) i e = HaveScopes i e
KeepsScopes (Err (Fault f)) i e = HaveScopes i e
KeepsScopes (Err Memory) i e = Unit {0}
