-- What the code of entering knows at each step.
use Rattle.std.proofs.Common.{◌≡◌, ℕ, suc, zero, ◌<◌, ◌≤◌, Bool, true, false, List, [], ◌∷◌, ◌++◌, length, map, Option, Some, None, ap, subst, sym, ◌∙◌, refl, arith, append_assoc, IfSome}
use Rattle.std.specs.Prelude.{◌||◌, not, slice_get, All, nat_lt}
use Rattle.std.proofs.lemmas.List.{length-set}
use Rattle.std.proofs.lemmas.List.Elements.{All-append, All-push}
use Rattle.std.proofs.lemmas.Option.{slice_get_within}
use Rattle.esm_tree.specs.Syntax.{Item}
use Rattle.esm_base.specs.Urls.{Url, IsUsable}
use Rattle.esm_base.specs.declared.limits.Limit.{Limit}
use Rattle.esm_base.specs.declared.module_id.ModuleId.{ModuleId}
use Rattle.esm_base.specs.declared.limits.Limit.TheVariants.{L1}
use Rattle.esm_realm.specs.Sound.{RecordParts, IsSound, IsSoundRecord, parts_of, records_of}
use Rattle.esm_realm.specs.declared.record.Record.{Record}
use Rattle.esm_realm.specs.declared.realm.Realm.{Realm}
use Rattle.esm_import_map.specs.ImportMap.{Maps}
use Rattle.esm_loads.specs.UrlTable.{TableEntry, Module, thrown_by, targets_in}
use Rattle.esm_loads.specs.UrlTable as table
use Rattle.esm_loads.specs.Loading.{PendingRequest, open_load, targets, is_fresh, ask, ask_by}
use Rattle.esm_loads.specs.Hosted.{stopped_by}
use Rattle.esm_loads.specs.LoadsView.{urls_of, url_at, place_in, get_by, is_open, entries_in, entry_at, entry_by, module_of, tree_at, id_under, has_id, modules_in, is_in, is_unlinked, is_unlinked_by, is_past_new, throw_of, LoadView}
use Rattle.esm_loads.specs.LoadsAsLoading.{loading_of, trees_of}
use Rattle.esm_loads.specs.Fits.{AreJoined, HaveRecords, IsModuleAt, IsLoadWithin, IsStageWithin}
use Rattle.esm_loads.specs.Inner.Urls.{open_slot}
use Rattle.esm_loads.specs.Inner.Steps.{Grown, IsLoading, freshness, fresh_below, is_open_stage, set_load, add_waiting, place_or, with_asked, with_places, target_at, target_of, target_by}
use Rattle.esm_loads.specs.declared.data.Slot.{Slot}
use Rattle.esm_loads.specs.declared.data.UrlState.{UrlState}
use Rattle.esm_loads.specs.declared.data.UrlState.TheVariants as states
use Rattle.esm_loads.specs.declared.data.Stage.{Stage}
use Rattle.esm_loads.specs.declared.data.Stage.TheVariants as stages
use Rattle.esm_loads.specs.declared.data.TargetState.{TargetState}
use Rattle.esm_loads.specs.declared.data.TargetState.TheVariants as target_states
use Rattle.esm_loads.specs.declared.data.Cause.{Cause}
use Rattle.esm_loads.specs.declared.data.Waiting.{Waiting}
use Rattle.esm_loads.specs.declared.loads.Loads.{Loads}
use Rattle.esm_loads.proofs.Places.{some_is, get_within, get_kept, get_map, map_long, all_get, set_get, at_place, nothing}
use Rattle.esm_loads.proofs.PlacesOfUrls.{place_some, place_none}
use Rattle.esm_loads.proofs.UrlIndices.{urls_many}
use Rattle.esm_loads.proofs.Lookups.{slot_url, own_place, at_own, id_of_module}
use Rattle.esm_loads.proofs.LoadSteps.{over_is, joined_load}
use Rattle.esm_loads.proofs.Freshness.{fresh_visit}

-- ---- the load

module _ (t : Loads) (s : ℕ) (inside : s < length t.loads.items) (b : Bool) (told : (l : LoadView) → slice_get t.loads.items s ≡ Some l → b ≡ is_open_stage l.stage) where
  pub goes_on : b ≡ true → IsLoading t s
  goes_on e = by (get_within t.loads.items s inside)
    where
      root_of : (stage : Stage) → is_open_stage stage ≡ true → (root : ℕ) × (stage ≡ stages.Open root)
      root_of stages.Asked e = cc
      root_of (stages.Open root) e = (root, refl)
      root_of (stages.Complete root) e = cc
      root_of (stages.Thrown cause) e = cc

      by : (l : LoadView) × (slice_get t.loads.items s ≡ Some l) → IsLoading t s
      by l = let r = root_of l.0.stage (sym (told l.0 l.1) ∙ e) in record { load = l.0; root = r.0; at = l.1; open_is = r.1 }

  pub is_over : (maps : Maps) (R : List RecordParts) → b ≡ false → open_load (loading_of maps t R) s ≡ None
  is_over maps R e = let l = get_within t.loads.items s inside in over_is maps R t s l.0 l.1 (sym (told l.0 l.1) ∙ e)

-- ---- tables that have grown

abbrev IsOpen : Slot → Type 0
IsOpen s = is_open s.state ≡ true

pub old_module : (ss more : List Slot) (k id : ℕ) → All IsOpen more → (m : IsModuleAt (ss ++ more) k id) → slice_get ss k ≡ Some m.slot
old_module ss more k id h m = by ss k m.at
  where
    closed : is_open m.slot.state ≡ false
    closed = ap is_open m.stands

    by : (ss : List Slot) (k : ℕ) → slice_get (ss ++ more) k ≡ Some m.slot → slice_get ss k ≡ Some m.slot
    by [] k e = let o = all_get IsOpen more k m.slot h e in let c = closed in cc
    by (s ∷ ss) zero e = e
    by (s ∷ ss) (suc k) e = by ss k e

pub records_grown : (n s : ℕ) (t new : Loads) (R : List RecordParts) → HaveRecords t.urls.slots R → Grown n s t new → HaveRecords new.urls.slots R
records_grown n s t new R h g = subst (λ ss. HaveRecords ss R) (sym g.slots) (record { kept = λ k id m. h.kept k id (record { slot = m.slot; at = old_module t.urls.slots g.more k id g.fetching m; stands = m.stands }) })

pub module_grown : (n s : ℕ) (t new : Loads) (k id : ℕ) → IsModuleAt t.urls.slots k id → Grown n s t new → IsModuleAt new.urls.slots k id
module_grown n s t new k id m g = record { slot = m.slot; at = ap (λ ss. slice_get ss k) g.slots ∙ get_kept t.urls.slots g.more k m.slot m.at; stands = m.stands }

pub at_slot : (ss : List Slot) (k : ℕ) (s : Slot) → slice_get ss k ≡ Some s → url_at (urls_of ss) k ≡ s.url
at_slot ss k s e = at_place (urls_of ss) k s.url [] (slot_url ss k s e)

pub url_grown : (n s : ℕ) (t new : Loads) (k id : ℕ) (m : IsModuleAt t.urls.slots k id) → Grown n s t new → url_at (urls_of new.urls.slots) k ≡ url_at (urls_of t.urls.slots) k
unfolding module_grown
url_grown n s t new k id m g = at_slot new.urls.slots k m.slot (module_grown n s t new k id m g).at ∙ sym (at_slot t.urls.slots k m.slot m.at)

pub grown_grown : (n s : ℕ) (t m new : Loads) → Grown n s t m → Grown n s m new → Grown n s t new
grown_grown n s t m new g h = record {
  more = g.more ++ h.more;
  slots = h.slots ∙ (ap (λ ss. ss ++ h.more) g.slots ∙ append_assoc t.urls.slots g.more h.more);
  fetching = All-append IsOpen g.more h.more g.fetching h.fetching;
  rest = h.rest ∙ (ap (λ (l : Loads). record l { urls = record new.urls { bytes = m.urls.bytes }; queues = new.queues; loads = new.loads }) g.rest ∙ ap (λ b. record t { urls = record new.urls { bytes = b }; queues = new.queues; loads = new.loads }) g.bytes);
  bytes = h.bytes ∙ g.bytes;
  loads = h.loads ∙ g.loads;
  fresh = omega (arith, g.fresh, h.fresh);
}

pub grown_load : (n s : ℕ) (t : Loads) (l m : LoadView) → slice_get t.loads.items s ≡ Some l → fresh_below n m.visited ≤ fresh_below n l.visited → Grown n s t (set_load t s m)
grown_load n s t l m at f = record {
  more = [];
  slots = sym (nothing t.urls.slots);
  fetching = λ k d l. absurd (omega arith);
  rest = refl;
  bytes = refl;
  loads = length-set t.loads.items s m;
  fresh = rw (set_get t.loads.items s l m at, at) f;
}

pub grown_same : (n s : ℕ) (t : Loads) → Grown n s t t
grown_same n s t = record { more = []; slots = sym (nothing t.urls.slots); fetching = λ k d l. absurd (omega arith); rest = refl; bytes = refl; loads = refl; fresh = omega arith }

pub grown_placed : (n s : ℕ) (t new : Loads) (places : List ℕ) → Grown n s t new → Grown n s t (with_places new places)
grown_placed n s t new places g = record {
  more = g.more;
  slots = g.slots;
  fetching = g.fetching;
  rest = ap (λ (l : Loads). with_places l places) g.rest;
  bytes = g.bytes;
  loads = g.loads;
  fresh = g.fresh;
}

pub grown_ask : (n s : ℕ) (t : Loads) (u : Url) (at : Option ℕ) (k : ℕ) (w : Waiting) → Grown n s t (add_waiting (with_asked t u at) k w)
grown_ask n s t u (Some p) k w = record { more = []; slots = sym (nothing t.urls.slots); fetching = λ k d l. absurd (omega arith); rest = refl; bytes = refl; loads = refl; fresh = omega arith }
grown_ask n s t u None k w = record {
  more = open_slot u ∷ [];
  slots = refl;
  fetching = one;
  rest = refl;
  bytes = refl;
  loads = refl;
  fresh = omega arith;
}
  where
    one : All IsOpen (open_slot u ∷ [])
    one zero d l = refl
    one (suc k) d l = absurd (omega arith)

-- ---- how a URL stands

-- what a target's state says of the entry
abbrev pub Tells : List (List Item) → List RecordParts → List Slot → Url → TargetState → Type 0
Tells trees R ss u target_states.Fetching = entries_in trees R ss u ≡ None
Tells trees R ss u (target_states.Throws cause) = (e : TableEntry) × (entries_in trees R ss u ≡ Some e) × (thrown_by u e ≡ Some (throw_of (urls_of ss) cause)) × IsStageWithin (length ss) (stages.Thrown cause)
Tells trees R ss u (target_states.Module k id) = (e : TableEntry) × (entries_in trees R ss u ≡ Some e) × (thrown_by u e ≡ None) × IsModuleAt ss k id.0 × (url_at (urls_of ss) k ≡ u)

pub told : (trees : List (List Item)) (R : List RecordParts) (ss : List Slot) (u : Url) (at : Option ℕ) (r : TargetState) → HaveRecords ss R → at ≡ place_in (urls_of ss) u → r ≡ target_at ss at → Tells trees R ss u r
told trees R ss u None r h e f = subst (Tells trees R ss u) (sym f) (ap (λ o. entry_by trees R (get_by ss o)) (sym e))
told trees R ss u (Some k) r h e f = subst (Tells trees R ss u) (sym f) (by (get_within ss k inside))
  where
    placed : slice_get (urls_of ss) k ≡ Some u
    placed = (place_some (urls_of ss) u k (sym e)).at

    inside : k < length ss
    inside = let l = slice_get_within (urls_of ss) k u placed in omega (arith, l, urls_many ss)

    here : url_at (urls_of ss) k ≡ u
    here = at_place (urls_of ss) k u [] placed

    module_is : (id : ℕ) (m : IsModuleAt ss k id) → (entry_at trees R (states.Module (record { 0 = id })) ≡ Some (Module (record { body = tree_at trees id; targets = (h.kept k id m).parts.targets })))
    module_is id m = ap (module_of (tree_at trees id)) (h.kept k id m).is

    stand_by : (state : UrlState) (s : Slot) → slice_get ss k ≡ Some s → s.state ≡ state → entries_in trees R ss u ≡ entry_at trees R state → Tells trees R ss u (target_of k state)
    stand_by states.Open s g is e = e
    stand_by states.Failed s g is e = (table.Failed, e, ap (λ v. thrown_by v table.Failed) (sym here), inside)
    stand_by (states.Broken error) s g is e = (table.Broken error.0, e, refl, tt)
    stand_by (states.Module id) s g is e = let m : IsModuleAt ss k id.0 = record { slot = s; at = g; stands = is } in (_, e ∙ module_is id.0 m, refl, m, here)

    by : (s : Slot) × (slice_get ss k ≡ Some s) → Tells trees R ss u (target_at ss (Some k))
    by s = subst (λ o. Tells trees R ss u (target_by k o)) (sym s.1) (stand_by s.0.state s.0 s.1 refl (ap (λ o. entry_by trees R (get_by ss o)) (sym e) ∙ ap (entry_by trees R) s.1))

-- a module stands at the place that was looked at
pub found_at : (ss : List Slot) (at : Option ℕ) (k : ℕ) (id : ModuleId) → target_states.Module k id ≡ target_at ss at → at ≡ Some k
found_at ss None k id e = cc
found_at ss (Some j) k id e = by_slot (slice_get ss j) e
  where
    by : (state : UrlState) → target_states.Module k id ≡ target_of j state → Some j ≡ Some k
    by states.Open e = cc
    by states.Failed e = cc
    by (states.Broken error) e = cc
    by (states.Module n) e = cc

    by_slot : (o : Option Slot) → target_states.Module k id ≡ target_by j o → Some j ≡ Some k
    by_slot None e = cc
    by_slot (Some s) e = by s.state e

-- a place that isn't fetched has no entry
pub open_target : (ss : List Slot) (k : ℕ) (s : Slot) → target_at ss (Some k) ≡ target_states.Fetching → slice_get ss k ≡ Some s → is_open s.state ≡ true
open_target ss k s f e = by s.state (ap (target_by k) (sym e) ∙ f)
  where
    by : (state : UrlState) → target_of k state ≡ target_states.Fetching → is_open state ≡ true
    by states.Open f = refl
    by states.Failed f = cc
    by (states.Broken error) f = cc
    by (states.Module id) f = cc

-- ---- records

pub record_at : (rs : List Record) (id : ℕ) (r : Record) → slice_get rs id ≡ Some r → slice_get (map parts_of rs) id ≡ Some (parts_of r)
record_at rs id r e = get_map parts_of rs id r e

pub records_many : (rs : List Record) → length (map parts_of rs) ≡ length rs
records_many rs = map_long parts_of rs

pub id_within : (ss : List Slot) (R : List RecordParts) (k id : ℕ) → HaveRecords ss R → IsModuleAt ss k id → id < length R
id_within ss R k id h m = let x = h.kept k id m in slice_get_within R id x.parts x.is

pub module_record : (t : Loads) (realm : Realm) (place id : ℕ) → HaveRecords t.urls.slots (records_of realm) → IsModuleAt t.urls.slots place id → id < length realm.records.items
module_record t realm place id h m = let l = id_within t.urls.slots (records_of realm) place id h m in omega (arith, l, records_many realm.records.items)

pub targets_are : (maps : Maps) (t : Loads) (n : ℕ) (realm : Realm) (k id : ℕ) (r : Record) → AreJoined t n → HaveRecords t.urls.slots (records_of realm) → (m : IsModuleAt t.urls.slots k id) → slice_get realm.records.items id ≡ Some r
    → r.targets.items ≡ targets (loading_of maps t (records_of realm)) (url_at (urls_of t.urls.slots) k)
targets_are maps t n realm k id r j h m e =
    let R = records_of realm in
    let ss = t.urls.slots in
    let x = h.kept k id m in
    let same : x.parts ≡ parts_of r = some_is (sym x.is ∙ record_at realm.records.items id r e) in
    let url = at_slot ss k m.slot m.at in
    let entry = ap (λ u. entries_in (trees_of t) R ss u) url ∙ (ap (entry_by (trees_of t) R) (at_own ss ss k m.slot m.slot j.distinct m.at m.at) ∙ (ap (entry_at (trees_of t) R) m.stands ∙ ap (module_of (tree_at (trees_of t) id)) x.is)) in
    sym (ap targets_in entry ∙ ap (λ (p : RecordParts). p.targets) same)

pub id_at : (t : Loads) (n k id : ℕ) → AreJoined t n → (m : IsModuleAt t.urls.slots k id) → id_under t.urls.slots (url_at (urls_of t.urls.slots) k) ≡ Some id
id_at t n k id j m = ap (id_under t.urls.slots) (at_slot t.urls.slots k m.slot m.at) ∙ id_of_module t.urls.slots k id j.distinct m

not_visited : (a b : Bool) → not (a || b) ≡ true → a ≡ false
not_visited true b e = cc
not_visited false b e = refl

module _ (t : Loads) (realm : Realm) (k id : ℕ) (l : LoadView) (s : ℕ) (b : Bool) (j : AreJoined t (length (records_of realm))) (h : HaveRecords t.urls.slots (records_of realm)) (m : IsModuleAt t.urls.slots k id) (at : slice_get t.loads.items s ≡ Some l)
    (says : (l : LoadView) (r : Record) → slice_get t.loads.items s ≡ Some l → slice_get realm.records.items id ≡ Some r → b ≡ not (is_in l.visited id || is_past_new r.status)) where
  record_of : (r : Record) × (slice_get realm.records.items id ≡ Some r)
  record_of = get_within realm.records.items id (module_record t realm k id h m)

  pub fresh_told : (maps : Maps) → is_fresh (loading_of maps t (records_of realm)) (modules_in t.urls.slots (is_in l.visited)) (url_at (urls_of t.urls.slots) k) ≡ b
  fresh_told maps =
      ap (λ o. not (has_id (is_in l.visited) o || has_id (is_unlinked (records_of realm)) o)) (id_at t (length (records_of realm)) k id j m)
      ∙ (ap (λ o. not (is_in l.visited id || is_unlinked_by o)) (record_at realm.records.items id record_of.0 record_of.1) ∙ sym (says l record_of.0 at record_of.1))

  pub visit_fresh : b ≡ true → suc (fresh_below (length (records_of realm)) (l.visited ++ id ∷ [])) ≡ fresh_below (length (records_of realm)) l.visited
  visit_fresh e = fresh_visit (length (records_of realm)) l.visited id (id_within t.urls.slots (records_of realm) k id h m) (not_visited _ _ (sym (says l record_of.0 at record_of.1) ∙ e))

  pub visit_grown : b ≡ true → Grown (length (records_of realm)) s t (set_load t s (record l { visited = l.visited ++ id ∷ [] })) × (freshness (length (records_of realm)) s (set_load t s (record l { visited = l.visited ++ id ∷ [] })) < freshness (length (records_of realm)) s t)
  visit_grown e =
      let less = visit_fresh e in
      (grown_load (length (records_of realm)) s t l (record l { visited = l.visited ++ id ∷ [] }) at (omega (arith, less)), rw (set_get t.loads.items s l (record l { visited = l.visited ++ id ∷ [] }) at, at) (omega (arith, less)))

  pub visit_joined : AreJoined (set_load t s (record l { visited = l.visited ++ id ∷ [] })) (length (records_of realm))
  visit_joined = let w = all_get (IsLoadWithin (length t.urls.slots) (length (records_of realm))) t.loads.items s l j.loads at in
      joined_load t (length (records_of realm)) s (record l { visited = l.visited ++ id ∷ [] }) j (w.0, All-push (λ (id : ℕ). id < length (records_of realm)) l.visited id w.1 (id_within t.urls.slots (records_of realm) k id h m))

pub throw_joined : (t : Loads) (n s : ℕ) (l : LoadView) (cause : Cause) → AreJoined t n → slice_get t.loads.items s ≡ Some l → IsStageWithin (length t.urls.slots) (stages.Thrown cause) → AreJoined (set_load t s (record l { stage = stages.Thrown cause })) n
throw_joined t n s l cause j at h = joined_load t n s (record l { stage = stages.Thrown cause }) j (h, (all_get (IsLoadWithin (length t.urls.slots) n) t.loads.items s l j.loads at).1)

pub throw_grown : (n : ℕ) (t : Loads) (s : ℕ) (l : LoadView) (cause : Cause) → slice_get t.loads.items s ≡ Some l → Grown n s t (set_load t s (record l { stage = stages.Thrown cause }))
throw_grown n t s l cause at = grown_load n s t l (record l { stage = stages.Thrown cause }) at (omega arith)

pub throw_over : (maps : Maps) (R : List RecordParts) (t : Loads) (s : ℕ) (l : LoadView) (cause : Cause) → slice_get t.loads.items s ≡ Some l → open_load (loading_of maps (set_load t s (record l { stage = stages.Thrown cause })) R) s ≡ None
throw_over maps R t s l cause at = over_is maps R (set_load t s (record l { stage = stages.Thrown cause })) s (record l { stage = stages.Thrown cause }) (set_get t.loads.items s l (record l { stage = stages.Thrown cause }) at) refl

pub asked_limit : (maps : Maps) (R : List RecordParts) (t : Loads) (u : Url) (a : PendingRequest) (limit : Limit) → place_in (urls_of t.urls.slots) u ≡ None → limit ≡ L1 → length t.urls.slots ≡ 4096 → (ask (loading_of maps t R) u a).stopped ≡ Some limit
asked_limit maps R t u a limit place is full =
    let new = place_none (urls_of t.urls.slots) u place in
    let off : nat_lt (length (urls_of t.urls.slots)) 4096 ≡ false = ap (λ n. nat_lt n 4096) (urls_many t.urls.slots ∙ full) in
    rw (new, off) (ap (λ l. Some l) (sym is))

-- one URL too many stops loading, and nothing else is done
pub asked_full : (maps : Maps) (R : List RecordParts) (t : Loads) (u : Url) (a : PendingRequest) (limit : Limit) → place_in (urls_of t.urls.slots) u ≡ None → limit ≡ L1 → length t.urls.slots ≡ 4096 → stopped_by (loading_of maps t R) limit ≡ ask (loading_of maps t R) u a
asked_full maps R t u a limit place is full =
    let l = loading_of maps t R in
    let new = place_none (urls_of t.urls.slots) u place in
    let off : nat_lt (length (urls_of t.urls.slots)) 4096 ≡ false = ap (λ n. nat_lt n 4096) (urls_many t.urls.slots ∙ full) in
    sym (ap (λ b. ask_by b (nat_lt (length (urls_of t.urls.slots)) 4096) l u a) new ∙ (ap (λ b. ask_by false b l u a) off ∙ ap (stopped_by l) (sym is)))

pub found_within : (ss : List Slot) (u : Url) (at : Option ℕ) → at ≡ place_in (urls_of ss) u → (n : ℕ) → n ≡ length ss → IfSome at (λ k. k < n)
found_within ss u None e n f = tt
found_within ss u (Some k) e n f = let l = (place_some (urls_of ss) u k (sym e)).within in omega (arith, l, urls_many ss, f)

pub place_few : (t : Loads) (n k : ℕ) (u : Url) → AreJoined t n → place_in (urls_of t.urls.slots) u ≡ Some k → k < 4096
place_few t n k u j e = let l = (place_some (urls_of t.urls.slots) u k e).within in omega (arith, l, urls_many t.urls.slots, j.few)

-- the place of a URL that is asked for
pub asked_few : (t : Loads) (n k : ℕ) (u : Url) (at : Option ℕ) → AreJoined t n → at ≡ place_in (urls_of t.urls.slots) u → (at ≡ None → length t.urls.slots < 4096) → k ≡ place_or t at → k < 4096
asked_few t n k u None j e room is = let l = room refl in omega (arith, l, is)
asked_few t n k u (Some p) j e room is = let l = place_few t n p u j (sym e) in omega (arith, l, is)

pub place_own : (t : Loads) (n k : ℕ) → AreJoined t n → k < length t.urls.slots → Some k ≡ place_in (urls_of t.urls.slots) (url_at (urls_of t.urls.slots) k)
place_own t n k j l =
    let ss = t.urls.slots in
    let s = get_within ss k l in
    sym (ap (place_in (urls_of ss)) (at_slot ss k s.0 s.1) ∙ own_place ss k s.0 j.distinct s.1)

-- a target of a sound record is usable
pub target_usable : (R : List RecordParts) (id : ℕ) (r : RecordParts) (i : ℕ) (u : Url) → IsSound R → slice_get R id ≡ Some r → slice_get r.targets i ≡ Some u → IsUsable u
target_usable R id r i u sound at e = all_get IsUsable r.targets i u (all_get (λ (r : RecordParts). IsSoundRecord r.url r.entries r.targets) R id r sound.each at).targets_are e
