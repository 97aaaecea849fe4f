-- The scopes that linking leaves: those of the modules, with each import of a linked one bound to what has a scope.
use Rattle.std.specs.Prelude.{◌≡◌, ◌<◌, ◌⊎◌, ℕ, Bool, true, List, length, slice_get, Option, Some, option_map, Result}
use Rattle.esm_base.specs.declared.end.End.{End}
use Rattle.esm_tree.specs.Syntax.{Parts}
use Rattle.esm_realm.specs.declared.record.ModuleStatus.TheVariants as statuses
use Rattle.esm_realm.specs.Sound.{RecordParts, IsSound}
use Rattle.esm_realm.specs.ById.{status_of, without_status}
use Rattle.esm_env.specs.Modules.{Modules}
use Rattle.esm_env.specs.Faithful.{IsFaithfulAt, AreScopesOf}
use Rattle.esm_env.specs.Scopes.{Scopes, scope_in, cells_of}
use Rattle.esm_env.specs.declared.scope.ModuleScope.{ModuleScope}
use Rattle.esm_link.specs.Realm.{AreTrees, modules_of, is_linked, IsLinkedBy, IsLinkedScope, MakesScopes}
use Rattle.esm_link.specs.Local.{AreWhole, AgreeOn, AreLinkable}
use Rattle.esm_link.specs.declared.LinkFault.{LinkFault}

abbrev pub linked_in : List RecordParts → ℕ → Bool
linked_in rs x = is_linked (status_of rs x)

-- what a Linked module requests is Linked, and scopes are as they are to be
pub record IsLinkedRealm (trees : List Parts) (rs : List RecordParts) (e : Scopes) : Type 0 where
  pub whole : AreWhole (modules_of trees rs) (linked_in rs)
  pub scopes : AreScopesOf (modules_of trees rs) (linked_in rs) e

-- it is so behind linking, and what was written is what was written before
pub record StaysLinked (trees : List Parts) (new : List RecordParts) (e after : Scopes) : Type 0 where
  pub realm : IsLinkedRealm trees new after
  pub cells : (m : ℕ) (x : List ℕ) → cells_of after m x ≡ cells_of e m x

-- linking keeps it so, whatever it answers, from a root that reaches only what is Unlinked or Linked
abbrev pub LinkKeepsScopes : Type 0
LinkKeepsScopes = (trees : List Parts) (rs new : List RecordParts) (e after : Scopes) (there : ℕ → Bool) (root : ℕ)
    (result : Result (Unit {0}) (End LinkFault)) → IsSound rs → AreTrees trees rs
    → AreWhole (modules_of trees rs) there → AreLinkable rs there → there root ≡ true
    → IsLinkedBy trees rs root result new → MakesScopes trees rs e new after
    → IsLinkedRealm trees rs e → StaysLinked trees new e after

-- where modules agree with others on all that have scopes, and these have numbers there, scopes of the ones are scopes of the others
pub record ScopesAreLocal : Type 0 where
  pub all : (g h : Modules ℕ) (there linked : ℕ → Bool) (e : Scopes) → AgreeOn g h there → ((m : ℕ) → there m ≡ true → h.number m < h.size)
      → ((m : ℕ) (s : ModuleScope) → scope_in e m ≡ Some s → there m ≡ true) → AreScopesOf g linked e → AreScopesOf h linked e
  pub one : (g h : Modules ℕ) (there : ℕ → Bool) (m : ℕ) (s : ModuleScope) → AgreeOn g h there → there m ≡ true
      → IsFaithfulAt g m s → IsFaithfulAt h m s
  pub linked : (trees others : List Parts) (rs qs : List RecordParts) (there : ℕ → Bool) (m : ℕ) (o : Option ModuleScope)
      → AgreeOn (modules_of trees rs) (modules_of others qs) there → there m ≡ true → slice_get others m ≡ slice_get trees m
      → IsLinkedScope trees rs m o → IsLinkedScope others qs m o

-- ---- what changes of the records

-- each record is as it was but for its status, which is Linked now where it was Unlinked, or as it was
pub record LeavesRecords (trees : List Parts) (rs new : List RecordParts) : Type 0 where
  pub records : (x : ℕ) → option_map without_status (slice_get new x) ≡ option_map without_status (slice_get rs x)
  pub modules : modules_of trees new ≡ modules_of trees rs
  pub statuses_are : (x : ℕ) → (status_of new x ≡ status_of rs x)
      ⊎ ((status_of rs x ≡ statuses.Unlinked) × (status_of new x ≡ statuses.Linked))

-- so linking leaves them, whatever it answers
abbrev pub LinkLeavesRecords : Type 0
LinkLeavesRecords = (trees : List Parts) (rs new : List RecordParts) (root : ℕ) (result : Result (Unit {0}) (End LinkFault))
    → IsLinkedBy trees rs root result new → LeavesRecords trees rs new

-- what is there keeps its records and its trees, and has all that is Linked before and behind
pub record AreKept (trees others : List Parts) (rs qs : List RecordParts) (there : ℕ → Bool) : Type 0 where
  pub below : (x : ℕ) → there x ≡ true → x < length qs
  pub records : (x : ℕ) → there x ≡ true → slice_get qs x ≡ slice_get rs x
  pub trees_are : (x : ℕ) → there x ≡ true → slice_get others x ≡ slice_get trees x
  pub before : (x : ℕ) → linked_in rs x ≡ true → there x ≡ true
  pub behind : (x : ℕ) → linked_in qs x ≡ true → there x ≡ true

-- where all scopes are of what is there, and that is kept, scopes are right still: as when a load goes on, or a fetch ends
abbrev pub RecordsKeepScopes : Type 0
RecordsKeepScopes = (trees others : List Parts) (rs qs : List RecordParts) (there : ℕ → Bool) (e : Scopes)
    → AreWhole (modules_of trees rs) there → AreKept trees others rs qs there
    → ((m : ℕ) (s : ModuleScope) → scope_in e m ≡ Some s → there m ≡ true)
    → IsLinkedRealm trees rs e → IsLinkedRealm others qs e
