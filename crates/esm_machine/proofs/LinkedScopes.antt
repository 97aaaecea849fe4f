-- What is known of the records and their scopes behind linking, and what is told of it.
use Rattle.std.proofs.Common.{◌≡◌, ◌⊎◌, inl, inr, ℕ, ◌<◌, true, false, List, map, length, Some, refl, ap, subst, sym, ◌∙◌}
use Rattle.std.specs.Prelude.{slice_get, Result, Ok, Err}
use Rattle.std.specs.Arc.{arc_value}
use Rattle.esm_base.specs.Urls.{Url}
use Rattle.esm_base.specs.declared.end.End.{End}
use Rattle.esm_base.specs.declared.end.End.TheVariants.{Fault, Memory}
use Rattle.esm_tree.specs.Syntax.{Parts}
use Rattle.esm_import_map.specs.ImportMap.{Maps}
use Rattle.esm_realm.specs.declared.record.ModuleStatus.{ModuleStatus}
use Rattle.esm_realm.specs.declared.record.ModuleStatus.TheVariants as statuses
use Rattle.esm_realm.specs.ById as by_id
use Rattle.esm_realm.specs.ById.{status_of}
use Rattle.esm_realm.specs.Sound.{RecordParts, IsSound, url_of}
use Rattle.esm_realm.proofs.Urls.{cases}
use Rattle.esm_env.specs.Scopes.{Scopes, scope_in, cells_of}
use Rattle.esm_env.specs.declared.scope.ModuleScope.{ModuleScope}
use Rattle.esm_loads.specs.LoadsAsLoading.{loading_of}
use Rattle.esm_loads.specs.LoadsView.{is_past_new, is_unlinked}
use Rattle.esm_loads.specs.declared.loads.Loads.{Loads}
use Rattle.esm_link.specs.Local.{LinksFromLinked}
use Rattle.esm_link.specs.Parsed.{SpelledIsBound}
use Rattle.esm_link.specs.Realm.{AreTrees, IsLinkedBy, MakesScopes}
use Rattle.esm_link.specs.Scopes.{LeavesRecords, LinkKeepsScopes, LinkLeavesRecords, ScopesAreLocal, StaysLinked}
use Rattle.esm_link.specs.declared.LinkFault.{LinkFault}
use Rattle.esm_rewriting.specs.Fits.{AreLinked}
use Rattle.esm_machine.specs.Following.{LinkingIsOfTheWorld}
use Rattle.esm_machine.specs.Kept.{GoesOn, IsKept}
use Rattle.esm_machine.specs.Linking.{KeepsScopes, LinksSeen, NamesRecords, SameMembers, condition_linked}
use Rattle.esm_machine.specs.ModuleStore.{Imported, imported, is_whole, seen_of}
use Rattle.esm_machine.specs.Seen.{Seen, linked, modules}
use Rattle.esm_machine.specs.SeenScopes.{AreScopesIn}
use Rattle.esm_machine.specs.declared.condition.Condition.{Condition}
use Rattle.esm_machine.specs.declared.condition.Condition.TheVariants as conditions
use Rattle.esm_machine.specs.Inner.Importing.{Named}
use Rattle.esm_machine.proofs.Linked.{linkable, linked_as, linked_whole, links_by, names_by, trees_are}
use Rattle.esm_machine.proofs.Relinked.{goes_on_same, loading_same, past_by, past_same, urls_same}
use Rattle.esm_machine.proofs.SeenRecords.{past_new_below, unlinked_is, whole_records}
use Rattle.esm_machine.proofs.SeenScopes.{of_records_whole, of_seen_whole}

unlinked_status : (status : ModuleStatus) → by_id.is_unlinked status ≡ true → is_past_new status ≡ true
unlinked_status statuses.New h = cc
unlinked_status statuses.Unlinked h = refl
unlinked_status statuses.Linking h = cc
unlinked_status statuses.Linked h = cc

-- the laws that linking stands on
pub record Laws : Type 0 where
  pub world : LinkingIsOfTheWorld
  pub from : LinksFromLinked
  pub leaves : LinkLeavesRecords
  pub keeps : LinkKeepsScopes
  pub local : ScopesAreLocal
  pub spelled : SpelledIsBound

module _ (laws : Laws) (R N : List RecordParts) (t : Loads) (maps : Maps) (root : ℕ) (result : Result (Unit {0}) (End LinkFault))
    (links : IsLinkedBy (map arc_value t.trees.items) R root result N) where
  abbrev T : List Parts
  T = map arc_value t.trees.items

  leaves : LeavesRecords T R N
  leaves = laws.leaves T R N root result links

  -- ---- what stays, whatever is answered

  pub urls_stay : map url_of N ≡ map url_of R
  urls_stay = urls_same T R N leaves

  loading_by : (r : Result (Unit {0}) (End LinkFault)) → (seen_of (imported N t maps (condition_linked r))).loading ≡ loading_of maps t R
  loading_by (Ok done) = loading_same T R N leaves t maps
  loading_by (Err (Fault f)) = loading_same T R N leaves t maps
  loading_by (Err Memory) = loading_same T R N leaves t maps

  pub loading_stays : (c d : Condition) → is_whole c ≡ true → d ≡ condition_linked result
      → (seen_of (imported N t maps d)).loading ≡ (seen_of (imported R t maps c)).loading
  loading_stays conditions.Whole d w e = ap (λ d. (seen_of (imported N t maps d)).loading) e ∙ loading_by result
  loading_stays (conditions.Stopped limit) d w e = cc
  loading_stays conditions.Lost d w e = cc

  kept_by : (r : Result (Unit {0}) (End LinkFault)) → GoesOn (imported R t maps conditions.Whole) → IsSound N → IsKept (imported N t maps (condition_linked r))
  kept_by (Ok done) k sound = record { sound = sound; known = goes_on_same T R N leaves t maps k }
  kept_by (Err (Fault f)) k sound = record { sound = sound; known = goes_on_same T R N leaves t maps k }
  kept_by (Err Memory) k sound = record { sound = sound; known = tt }

  pub linked_kept : (c d : Condition) → is_whole c ≡ true → d ≡ condition_linked result → IsKept (imported R t maps c) → IsSound N → IsKept (imported N t maps d)
  linked_kept conditions.Whole d w e k sound = subst (λ d. IsKept (imported N t maps d)) (sym e) (kept_by result k.known sound)
  linked_kept (conditions.Stopped limit) d w e k sound = cc
  linked_kept conditions.Lost d w e k sound = cc

  -- ---- from a root that isn't New

  module _ (s : IsSound R) (k : GoesOn (imported R t maps conditions.Whole)) (sound : IsSound N) (p : is_unlinked R root ≡ true) where
    abbrev S : Seen
    S = seen_of (imported R t maps conditions.Whole)

    seen_by : (r : Result (Unit {0}) (End LinkFault)) (linked_are : List Url) → LinksSeen S linked_are root r (seen_of (imported N t maps conditions.Whole))
        → LinksSeen S linked_are root r (seen_of (imported N t maps (condition_linked r)))
    seen_by (Ok done) linked_are h = h
    seen_by (Err (Fault f)) linked_are h = h
    seen_by (Err Memory) linked_are h = tt

    module _ (a : AreLinked (modules S) (linked S)) where
      links_whole : (linked_are : List Url) → SameMembers linked_are S.linked → LinksSeen S linked_are root result (seen_of (imported N t maps (condition_linked result)))
      links_whole linked_are same = seen_by result linked_are
          (links_by R t maps s k root p a N laws.world urls_stay sound linked_are same result
          (linked_as R t maps s k root p a N laws.world urls_stay sound laws.from result links))

      names_whole : NamesRecords S result
      names_whole = names_by R t maps s k root p a N laws.world urls_stay sound result
          (linked_as R t maps s k root p a N laws.world urls_stay sound laws.from result links)

      module _ (e late : Scopes) (makes : MakesScopes T R e N late) (scopes : AreScopesIn S e) where
        stays : StaysLinked T N e late
        stays = laws.keeps T R N e late (is_unlinked R) root result s (trees_are R t maps s k laws.spelled) (whole_records R t maps s k) (linkable R t maps s k) p links makes
            (record { whole = linked_whole R t maps s k a; scopes = of_records_whole laws.local R t maps e s k scopes })

        -- only what isn't New has a scope
        here : (m : ℕ) (x : ModuleScope) → scope_in late m ≡ Some x → is_unlinked N m ≡ true
        here m x is = by (cases (by_id.is_unlinked (status_of R m)))
          where
            by : (by_id.is_unlinked (status_of R m) ≡ true) ⊎ (by_id.is_unlinked (status_of R m) ≡ false) → is_unlinked N m ≡ true
            by (inl q) = past_same T R N leaves m ∙ past_by (slice_get R m) ∙ unlinked_status (status_of R m) q
            by (inr q) = past_same T R N leaves m ∙ sym (unlinked_is R t maps s k m) ∙ scopes.loaded m x (sym (makes.others m q) ∙ is)

        scopes_new : AreScopesIn (seen_of (imported N t maps conditions.Whole)) late
        scopes_new = of_seen_whole laws.local N t maps late sound (goes_on_same T R N leaves t maps k) here stays.realm.scopes

        cells_new : cells_of late ≡ cells_of e
        cells_new = λ i m x. stays.cells m x i

        scopes_by : (r : Result (Unit {0}) (End LinkFault)) → KeepsScopes r (imported N t maps (condition_linked r)) late
        scopes_by (Ok done) = record { whole = refl; scopes = scopes_new }
        scopes_by (Err (Fault f)) = record { whole = refl; scopes = scopes_new }
        scopes_by (Err Memory) = tt

  -- ---- whatever was known

  module _ (c d : Condition) (w : is_whole c ≡ true) (f : d ≡ condition_linked result) (k : IsKept (imported R t maps c)) (sound : IsSound N)
      (p : (seen_of (imported R t maps c)).loading.unlinked (Named R root) ≡ true)
      (a : AreLinked (modules (seen_of (imported R t maps c))) (linked (seen_of (imported R t maps c)))) where
    abbrev Old : Imported
    Old = imported R t maps c

    abbrev New : Imported
    New = imported N t maps d

    pub links_seen : (linked_are : List Url) → SameMembers linked_are (seen_of Old).linked → LinksSeen (seen_of Old) linked_are root result (seen_of New)
    links_seen linked_are same = by c w k p a same
      where
        by : (c : Condition) → is_whole c ≡ true → IsKept (imported R t maps c) → (seen_of (imported R t maps c)).loading.unlinked (Named R root) ≡ true
            → AreLinked (modules (seen_of (imported R t maps c))) (linked (seen_of (imported R t maps c))) → SameMembers linked_are (seen_of (imported R t maps c)).linked
            → LinksSeen (seen_of (imported R t maps c)) linked_are root result (seen_of New)
        by conditions.Whole w k p a same = subst (λ d. LinksSeen (seen_of (imported R t maps conditions.Whole)) linked_are root result (seen_of (imported N t maps d))) (sym f)
            (links_whole k.sound k.known sound (sym (unlinked_is R t maps k.sound k.known root) ∙ p) a linked_are same)
        by (conditions.Stopped limit) w k p a same = cc
        by conditions.Lost w k p a same = cc

    pub names_seen : NamesRecords (seen_of Old) result
    names_seen = by c w k p a
      where
        by : (c : Condition) → is_whole c ≡ true → IsKept (imported R t maps c) → (seen_of (imported R t maps c)).loading.unlinked (Named R root) ≡ true
            → AreLinked (modules (seen_of (imported R t maps c))) (linked (seen_of (imported R t maps c))) → NamesRecords (seen_of (imported R t maps c)) result
        by conditions.Whole w k p a = names_whole k.sound k.known sound (sym (unlinked_is R t maps k.sound k.known root) ∙ p) a
        by (conditions.Stopped limit) w k p a = cc
        by conditions.Lost w k p a = cc

    pub scopes_seen : (e late : Scopes) → MakesScopes T R e N late → AreScopesIn (seen_of Old) e → KeepsScopes result New late
    scopes_seen e late makes scopes = by c w k p a scopes
      where
        by : (c : Condition) → is_whole c ≡ true → IsKept (imported R t maps c) → (seen_of (imported R t maps c)).loading.unlinked (Named R root) ≡ true
            → AreLinked (modules (seen_of (imported R t maps c))) (linked (seen_of (imported R t maps c))) → AreScopesIn (seen_of (imported R t maps c)) e
            → KeepsScopes result New late
        by conditions.Whole w k p a scopes = subst (λ d. KeepsScopes result (imported N t maps d) late) (sym f)
            (scopes_by k.sound k.known sound (sym (unlinked_is R t maps k.sound k.known root) ∙ p) a e late makes scopes result)
        by (conditions.Stopped limit) w k p a scopes = cc
        by conditions.Lost w k p a scopes = cc

    pub cells_seen : (e late : Scopes) → MakesScopes T R e N late → AreScopesIn (seen_of Old) e → cells_of late ≡ cells_of e
    cells_seen e late makes scopes = by c w k p a scopes
      where
        by : (c : Condition) → is_whole c ≡ true → IsKept (imported R t maps c) → (seen_of (imported R t maps c)).loading.unlinked (Named R root) ≡ true
            → AreLinked (modules (seen_of (imported R t maps c))) (linked (seen_of (imported R t maps c))) → AreScopesIn (seen_of (imported R t maps c)) e
            → cells_of late ≡ cells_of e
        by conditions.Whole w k p a scopes =
            cells_new k.sound k.known sound (sym (unlinked_is R t maps k.sound k.known root) ∙ p) a e late makes scopes
        by (conditions.Stopped limit) w k p a scopes = cc
        by conditions.Lost w k p a scopes = cc

-- ---- the conditions of linking

pub trees_known : (c : Condition) (R : List RecordParts) (t : Loads) (maps : Maps) → is_whole c ≡ true → IsKept (imported R t maps c) → SpelledIsBound
    → AreTrees (map arc_value t.trees.items) R
trees_known conditions.Whole R t maps w k spelled = trees_are R t maps k.sound k.known spelled
trees_known (conditions.Stopped limit) R t maps w k spelled = cc
trees_known conditions.Lost R t maps w k spelled = cc

pub root_known : (c : Condition) (R : List RecordParts) (t : Loads) (maps : Maps) (root : ℕ) → is_whole c ≡ true → IsKept (imported R t maps c)
    → (seen_of (imported R t maps c)).loading.unlinked (Named R root) ≡ true → root < length R
root_known conditions.Whole R t maps root w k p = past_new_below R root (sym (unlinked_is R t maps k.sound k.known root) ∙ p)
root_known (conditions.Stopped limit) R t maps root w k p = cc
root_known conditions.Lost R t maps root w k p = cc
