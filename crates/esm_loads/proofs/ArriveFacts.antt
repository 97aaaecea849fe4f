-- A URL is fetched: the loading that the tables are then.
use Rattle.std.proofs.Common.{◌≡◌, ℕ, ◌<◌, Bool, true, false, cond, List, length, map, Option, Some, None, refl, ap, sym, ◌∙◌}
use Rattle.std.specs.Prelude.{slice_get, slice_set, All}
use Rattle.std.proofs.lemmas.List.Elements.{All-weaker}
use Rattle.esm_tree.specs.Syntax.{Item}
use Rattle.esm_base.specs.Urls.{Url, same_url}
use Rattle.esm_realm.specs.Sound.{RecordParts}
use Rattle.esm_realm.proofs.Urls.{same_text}
use Rattle.esm_loads.specs.UrlTable.{TableEntry, put_at}
use Rattle.esm_loads.specs.Loading as loading
use Rattle.esm_loads.specs.LoadsView.{urls_of, url_at, place_in, get_by, at_url, is_open, entries_in, entry_at, entry_by, id_in, id_by, id_under, has_id, modules_in, is_in, is_unlinked, load_state, state_of, throw_of, LoadView}
use Rattle.esm_loads.specs.Fits.{HaveRecords, IsLoadWithin, AreBelow}
use Rattle.esm_loads.specs.declared.data.Slot.{Slot}
use Rattle.esm_loads.specs.declared.data.UrlState.{UrlState}
use Rattle.esm_loads.specs.declared.data.UrlState.TheVariants as states
use Rattle.esm_loads.specs.declared.data.Stage.{Stage}
use Rattle.esm_loads.specs.declared.data.Stage.TheVariants as stages
use Rattle.esm_loads.proofs.Places.{map_same}
use Rattle.esm_loads.proofs.PlacesOfUrls.{same_sym}
use Rattle.esm_loads.proofs.UrlIndices.{urls_set}
use Rattle.esm_loads.proofs.Lookups.{at_set, found}
use Rattle.esm_loads.proofs.EnterFacts.{id_within}

-- how trees and records have grown for a URL in this state, whose entry this is
pub record Grew (trees more_trees : List (List Item)) (R R' : List RecordParts) (ss : List Slot) (state : UrlState) (e : TableEntry) : Type 0 where
  pub entry : entry_at more_trees R' state ≡ Some e
  pub kept : (k : ℕ) (s : Slot) → slice_get ss k ≡ Some s → entry_at more_trees R' s.state ≡ entry_at trees R s.state
  pub new : has_id (is_unlinked R') (id_in state) ≡ false
  pub old : (id : ℕ) → id < length R → is_unlinked R' id ≡ is_unlinked R id
  pub apart : (ids : List ℕ) → AreBelow (length R) ids → has_id (is_in ids) (id_in state) ≡ false

module _ (trees more_trees : List (List Item)) (R R' : List RecordParts) (ss : List Slot) (k : ℕ) (s : Slot) (state : UrlState) (e : TableEntry) (u : Url)
    (place : place_in (urls_of ss) u ≡ Some k) (at : slice_get ss k ≡ Some s) (fetching : is_open s.state ≡ true) (have : HaveRecords ss R) (grew : Grew trees more_trees R R' ss state e) where
  abbrev t : Slot
  t = record s { state = state }

  abbrev new : List Slot
  new = slice_set ss k (record s { state = state })

  same_urls : urls_of new ≡ urls_of ss
  same_urls = urls_set ss k s t at refl

  look : (v : Url) → at_url (urls_of new) new v ≡ cond (same_url v u) (Some t) (at_url (urls_of ss) ss v)
  look v = ap (λ us. at_url us new v) same_urls ∙ at_set (urls_of ss) u ss k s t v place at

  pub entries_are : entries_in more_trees R' new ≡ put_at (entries_in trees R ss) u (Some e)
  entries_are = λ i v. by v i
    where
      slot_by : (v : Url) (o : Option Slot) → at_url (urls_of ss) ss v ≡ o → entry_by more_trees R' o ≡ entry_by trees R o
      slot_by v None f = refl
      slot_by v (Some r) f = let x = found ss v r f in grew.kept x.place r x.at

      step : (v : Url) (b : Bool) → entry_by more_trees R' (cond b (Some t) (at_url (urls_of ss) ss v)) ≡ cond b (Some e) (entries_in trees R ss v)
      step v true = grew.entry
      step v false = slot_by v (at_url (urls_of ss) ss v) refl

      by : (v : Url) → entries_in more_trees R' new v ≡ cond (same_url u v) (Some e) (entries_in trees R ss v)
      by v = ap (entry_by more_trees R') (look v) ∙ (step v (same_url v u) ∙ ap (λ b. cond b (Some e) (entries_in trees R ss v)) (same_sym v u))

  -- a set that doesn't have the new module
  modules_are : (f g : ℕ → Bool) → has_id f (id_in state) ≡ false → ((id : ℕ) → id < length R → f id ≡ g id) → modules_in new f ≡ modules_in ss g
  modules_are f g none same = λ i v. by v i
    where
      open_id : (state : UrlState) → is_open state ≡ true → id_in state ≡ None
      open_id states.Open o = refl
      open_id states.Failed o = refl
      open_id (states.Broken error) o = refl
      open_id (states.Module id) o = cc

      was : (v : Url) → same_url v u ≡ true → has_id g (id_under ss v) ≡ false
      was v h = ap (λ w. has_id g (id_under ss w)) (same_text v u h) ∙ (ap (λ o. has_id g (id_by (get_by ss o))) place ∙ (ap (λ o. has_id g (id_by o)) at ∙ ap (has_id g) (open_id s.state fetching)))

      slot_by : (v : Url) (o : Option Slot) → at_url (urls_of ss) ss v ≡ o → has_id f (id_by o) ≡ has_id g (id_by o)
      slot_by v None h = refl
      slot_by v (Some r) h = state_by r.state refl
        where
          state_by : (state : UrlState) → r.state ≡ state → has_id f (id_in state) ≡ has_id g (id_in state)
          state_by states.Open c = refl
          state_by states.Failed c = refl
          state_by (states.Broken error) c = refl
          state_by (states.Module id) c =
              let x = found ss v r h in
              same id.0 (id_within ss R x.place id.0 have (record { slot = r; at = x.at; stands = c }))

      step : (v : Url) (b : Bool) → same_url v u ≡ b → has_id f (id_by (cond b (Some t) (at_url (urls_of ss) ss v))) ≡ has_id g (id_under ss v)
      step v true h = none ∙ sym (was v h)
      step v false h = slot_by v (at_url (urls_of ss) ss v) refl

      by : (v : Url) → modules_in new f v ≡ modules_in ss g v
      by v = ap (λ o. has_id f (id_by o)) (look v) ∙ step v (same_url v u) refl

  load_is : (l : LoadView) → AreBelow (length R) l.visited → load_state new l ≡ load_state ss l
  load_is l below = by l.stage
    where
      by : (stage : Stage) → state_of new stage l.visited ≡ state_of ss stage l.visited
      by stages.Asked = refl
      by (stages.Open root) = ap (λ us. loading.Open (url_at us root) (modules_in new (is_in l.visited))) same_urls ∙ ap (loading.Open (url_at (urls_of ss) root)) (modules_are (is_in l.visited) (is_in l.visited) (grew.apart l.visited below) (λ id h. refl))
      by (stages.Complete root) = ap (λ us. loading.LoadComplete (url_at us root)) same_urls
      by (stages.Thrown cause) = ap (λ us. loading.Thrown (throw_of us cause)) same_urls

  pub loads_are : (ls : List LoadView) (n : ℕ) → All (IsLoadWithin n (length R)) ls → map (load_state new) ls ≡ map (load_state ss) ls
  loads_are ls n h = map_same (load_state new) (load_state ss) ls (All-weaker (IsLoadWithin n (length R)) (λ l. load_state new l ≡ load_state ss l) (λ l w. load_is l w.1) ls h)

  pub unlinked_is : modules_in new (is_unlinked R') ≡ modules_in ss (is_unlinked R)
  unlinked_is = modules_are (is_unlinked R') (is_unlinked R) grew.new grew.old
