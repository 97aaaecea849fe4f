-- Scopes of the modules that are seen: what loading, bodies and fetches leave right.
use Rattle.std.specs.Prelude.{◌≡◌, ℕ, true, List, map, Some, Result}
use Rattle.std.specs.Arc.{arc_value}
use Rattle.esm_base.specs.declared.limits.Limit.{Limit}
use Rattle.esm_base.specs.Urls.{Text, Url, has}
use Rattle.esm_tree.specs.Syntax.{Parts}
use Rattle.esm_ast.specs.Outcome.{OutcomeView}
use Rattle.esm_values.specs.Errors.{Errors}
use Rattle.esm_promise.specs.Code.{Numbered}
use Rattle.esm_promise.specs.Outer.{Outer}
use Rattle.esm_env.specs.Faithful.{AreScopesOf}
use Rattle.esm_env.specs.Scopes.{Scopes, scope_in}
use Rattle.esm_env.specs.declared.scope.ModuleScope.{ModuleScope}
use Rattle.esm_loads.specs.Arrival.{AnswersNext, after_fetch, open_asks}
use Rattle.esm_loads.specs.Hosted.{host_of}
use Rattle.esm_loads.specs.Laws.{Grows}
use Rattle.esm_loads.specs.LoadsView.{every_form, is_unlinked}
use Rattle.esm_loads.specs.UrlTable.{found}
use Rattle.esm_link.specs.Realm.{modules_of}
use Rattle.esm_link.specs.Scopes.{linked_in}
use Rattle.esm_rewriting.specs.Keeps.{ChangedBy}
use Rattle.esm_body.specs.SameScopes.{HaveSameScopes}
use Rattle.esm_machine.specs.Arrivals.{urls_with}
use Rattle.esm_machine.specs.Calls.{KeepsRecords}
use Rattle.esm_machine.specs.Kept.{IsKept}
use Rattle.esm_machine.specs.ModuleStore.{Imported, is_whole, seen_of}
use Rattle.esm_machine.specs.Seen.{Seen, BeginsById, linked, modules, names}

-- scopes are those of the modules that are seen, and only what is loaded has one
pub record AreScopesIn (s : Seen) (e : Scopes) : Type 0 where
  pub right : AreScopesOf (modules s) (linked s) e
  pub loaded : (m : ℕ) (t : ModuleScope) → scope_in e m ≡ Some t → s.loading.unlinked ((names s).name m) ≡ true

-- the trees of the modules, in order of ids
abbrev pub trees_in : Imported → List Parts
trees_in i = map arc_value i.loads.trees.items

pub record ScopesStay : Type 0 where
  -- more URLs are asked, and more is loaded
  pub grows : (s after : Seen) (e : Scopes) → KeepsRecords s after → Grows s.loading after.loading
      → ((u : Url) → s.loading.unlinked u ≡ true → after.loading.unlinked u ≡ true) → AreScopesIn s e → AreScopesIn after e
  -- a pending request is answered
  pub answers : (s after : Seen) (named : ℕ → Url) (promises promises_after : Numbered) (errors errors_after : Errors) (e : Scopes)
      → AnswersNext (host_of named promises errors s.loading) (host_of named promises_after errors_after after.loading)
      → KeepsRecords s after → AreScopesIn s e → AreScopesIn after e
  -- an import() begins
  pub begins : (o after : Outer ℕ Seen) (m : ℕ) (specifier : Text) (promise : ℕ) (end : Result (Unit {0}) Limit) (e : Scopes)
      → BeginsById o m specifier promise end after → AreScopesIn o.imports e → AreScopesIn after.imports e
  -- bodies have written cells, and begun calls of import()
  pub bodies : (s after : Seen) (e late : Scopes) → ChangedBy BeginsById s after → HaveSameScopes e late
      → AreScopesOf (modules after) (linked after) late → AreScopesIn s e → AreScopesIn after late
  -- a fetch ends, with a record more or none
  pub fetches : (i new : Imported) (named : ℕ → Url) (promises : Numbered) (errors errors_after : Errors) (u : Url) (c : OutcomeView)
      (e : Scopes) → IsKept i → is_whole i.condition ≡ true → has (open_asks (seen_of i).loading) u ≡ true
      → host_of named promises errors_after (seen_of new).loading ≡ after_fetch (host_of named promises errors (seen_of i).loading) u c
      → (seen_of new).urls ≡ urls_with (seen_of i).urls u (found i.maps every_form u c) → (seen_of new).linked ≡ (seen_of i).linked
      → AreScopesIn (seen_of i) e → AreScopesIn (seen_of new) e
  -- they are those of the records with their trees, and the other way round
  pub of_records : (i : Imported) (e : Scopes) → IsKept i → is_whole i.condition ≡ true → AreScopesIn (seen_of i) e
      → AreScopesOf (modules_of (trees_in i) i.records) (linked_in i.records) e
  pub of_seen : (i : Imported) (e : Scopes) → IsKept i → is_whole i.condition ≡ true
      → ((m : ℕ) (t : ModuleScope) → scope_in e m ≡ Some t → is_unlinked i.records m ≡ true)
      → AreScopesOf (modules_of (trees_in i) i.records) (linked_in i.records) e → AreScopesIn (seen_of i) e
