-- Whether anything was refused shows in what is seen: a limit has stopped loading, and where nothing is known nothing is linked.
use Rattle.std.proofs.Common.{◌≡◌, true, false, List, Option, Some, None, refl}
use Rattle.esm_base.specs.declared.limits.Limit.{Limit}
use Rattle.esm_base.specs.Urls.{Url, has}
use Rattle.esm_loads.specs.Loading.{Loading}
use Rattle.esm_loads.specs.LoadsAsLoading.{loading_of}
use Rattle.esm_machine.specs.ModuleStore.{Imported, is_whole, known_linked, linked_urls, loading_by, seen_of}
use Rattle.esm_machine.specs.Inner.Importing.{among}
use Rattle.esm_machine.specs.declared.condition.Condition.{Condition}
use Rattle.esm_machine.specs.declared.condition.Condition.TheVariants as conditions

whole_by : (c : Condition) (l : Loading) (us : List Url) (u : Url) → (loading_by c l).stopped ≡ None → has (known_linked c us) u ≡ true → is_whole c ≡ true
whole_by conditions.Whole l us u s h = refl
whole_by (conditions.Stopped limit) l us u s h = let e : ◌≡◌ {A = Option Limit} (Some limit) None = s in absurd cc
whole_by conditions.Lost l us u s h = let e : false ≡ true = h in absurd cc

-- where no limit has stopped loading, and a module is linked, nothing was refused
pub whole_is : (i : Imported) (u : Url) → (seen_of i).loading.stopped ≡ None → has (seen_of i).linked u ≡ true → is_whole i.condition ≡ true
whole_is i u s h = whole_by i.condition (loading_of i.maps i.loads i.records) (linked_urls i.records) u s h

live_by : (c : Condition) (l : Loading) → l.stopped ≡ None → is_whole c ≡ true → (loading_by c l).stopped ≡ None
live_by conditions.Whole l e h = e
live_by (conditions.Stopped limit) l e h = let f : false ≡ true = h in absurd cc
live_by conditions.Lost l e h = e

-- where nothing was refused no limit has stopped loading
pub live_is : (i : Imported) → is_whole i.condition ≡ true → (seen_of i).loading.stopped ≡ None
live_is i h = live_by i.condition (loading_of i.maps i.loads i.records) refl h

among_by : (c : Condition) (us vs : List Url) (u : Url) → (has us u ≡ true → has vs u ≡ true) → has (known_linked c us) u ≡ true → has vs u ≡ true
among_by conditions.Whole us vs u k h = k h
among_by (conditions.Stopped limit) us vs u k h = k h
among_by conditions.Lost us vs u k h = let e : false ≡ true = h in absurd cc

-- each linked module has a record
pub linked_have_ids : (i : Imported) (u : Url) → has (seen_of i).linked u ≡ true → has (seen_of i).urls u ≡ true
linked_have_ids i u h = among_by i.condition (linked_urls i.records) (seen_of i).urls u (among i.records u) h
