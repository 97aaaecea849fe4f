-- What the jobs of loads read.
use Rattle.std.proofs.Common.{◌≡◌, ℕ, suc, zero, ◌<◌, ◌≤◌, true, List, [], ◌∷◌, length, map, Option, Some, None, refl, ap, subst, sym, ◌∙◌, arith}
use Rattle.std.specs.Prelude.{slice_get, IfSome}
use Rattle.esm_realm.specs.ById as by_id
use Rattle.esm_realm.specs.Sound.{RecordParts}
use Rattle.esm_import_map.specs.ImportMap.{Maps}
use Rattle.esm_loads.specs.Loading as loading
use Rattle.esm_loads.specs.Whole.{IsWhole}
use Rattle.esm_loads.specs.LoadsView.{LoadView, urls_of, url_at, get_by, id_in, id_by, id_under, is_unlinked, load_state, purpose_of}
use Rattle.esm_loads.specs.LoadsAsLoading.{loading_of}
use Rattle.esm_loads.specs.Loaded.{root_url}
use Rattle.esm_loads.specs.Fits.{FitRecords, IsStageWithin, IsLoadWithin}
use Rattle.esm_loads.specs.Inner.Reading.{complete_in, complete_by, module_in, module_by}
use Rattle.esm_loads.specs.declared.data.UrlState.{UrlState}
use Rattle.esm_loads.specs.declared.data.UrlState.TheVariants as states
use Rattle.esm_loads.specs.declared.data.Stage.{Stage}
use Rattle.esm_loads.specs.declared.data.Stage.TheVariants as stages
use Rattle.esm_loads.specs.declared.data.Purpose.{Purpose}
use Rattle.esm_loads.specs.declared.loads.Loads.{Loads}
use Rattle.esm_loads.proofs.Places.{some_is, all_get, get_map, get_within}
use Rattle.esm_loads.proofs.Lookups.{own_place, under}
use Rattle.esm_loads.proofs.EnterFacts.{at_slot}
use Rattle.esm_loads.proofs.LoadedFacts.{is_there}

pub past_end : {A : Type 0} (xs : List A) (k : ℕ) → length xs ≤ k → slice_get xs k ≡ None
past_end [] k l = refl
past_end (x ∷ xs) zero l = absurd (omega arith)
past_end (x ∷ xs) (suc k) l = past_end xs k (omega arith)

pub none_map : {A B : Type 0} (f : A → B) (xs : List A) (k : ℕ) → slice_get xs k ≡ None → slice_get (map f xs) k ≡ None
none_map f [] k e = refl
none_map f (x ∷ xs) zero e = cc
none_map f (x ∷ xs) (suc k) e = none_map f xs k e

-- ---- the root of a load

module_state : (state : UrlState) (id : ℕ) → id_in state ≡ Some id → state ≡ states.Module (record { 0 = id })
module_state states.Open id e = cc
module_state states.Failed id e = cc
module_state (states.Broken error) id e = cc
module_state (states.Module m) id e = let same : m.0 ≡ id = some_is e in ap (λ n. states.Module (record { 0 = n })) same

-- what the definition reads of a load that isn't complete
pub not_complete : (maps : Maps) (t : Loads) (R : List RecordParts) (s : ℕ) → complete_by (slice_get t.loads.items s) ≡ None → loading.root_of_load (loading_of maps t R) s ≡ None
not_complete maps t R s e = by (slice_get t.loads.items s) refl e
  where
    stage_by : (v : LoadView) (stage : Stage) → v.stage ≡ stage → complete_in stage ≡ None → loading.root_in (Some (load_state t.urls.slots v)) ≡ None
    stage_by v stages.Asked g f = ap (λ stage. loading.root_in (Some (load_state t.urls.slots (record v { stage = stage })))) g
    stage_by v (stages.Open root) g f = ap (λ stage. loading.root_in (Some (load_state t.urls.slots (record v { stage = stage })))) g
    stage_by v (stages.Complete root) g f = cc
    stage_by v (stages.Thrown cause) g f = ap (λ stage. loading.root_in (Some (load_state t.urls.slots (record v { stage = stage })))) g

    by : (o : Option LoadView) → slice_get t.loads.items s ≡ o → complete_by o ≡ None → loading.root_of_load (loading_of maps t R) s ≡ None
    by None at f = ap loading.root_in (none_map (load_state t.urls.slots) t.loads.items s at)
    by (Some v) at f = ap loading.root_in (get_map (load_state t.urls.slots) t.loads.items s v at) ∙ stage_by v v.stage refl f

complete_load : (o : Option LoadView) (k : ℕ) → complete_by o ≡ Some k → (v : LoadView) × (o ≡ Some v) × (v.stage ≡ stages.Complete k)
complete_load None k e = cc
complete_load (Some v) k e = (v, refl, by v.stage e)
  where
    by : (stage : Stage) → complete_in stage ≡ Some k → stage ≡ stages.Complete k
    by stages.Asked e = cc
    by (stages.Open root) e = cc
    by (stages.Complete root) e = ap stages.Complete (some_is e)
    by (stages.Thrown cause) e = cc

-- what stands at the place of the root of a complete load
record HasRoot (maps : Maps) (t : Loads) (R : List RecordParts) (s k : ℕ) : Type 0 where
  pub id : ℕ
  pub ends : loading.root_of_load (loading_of maps t R) s ≡ Some (url_at (urls_of t.urls.slots) k)
  pub module_is : module_by (slice_get t.urls.slots k) ≡ Some (record { 0 = id })
  pub under : by_id.url_at R id ≡ url_at (urls_of t.urls.slots) k
  pub past_new : is_unlinked R id ≡ true

has_root : (maps : Maps) (t : Loads) (R : List RecordParts) (s k : ℕ) → FitRecords t R → IsWhole (loading_of maps t R) → complete_by (slice_get t.loads.items s) ≡ Some k → HasRoot maps t R s k
has_root maps t R s k fit whole e =
    let ss = t.urls.slots in
    let L = loading_of maps t R in
    let v = complete_load (slice_get t.loads.items s) k e in
    let start = url_at (urls_of ss) k in
    let at : slice_get L.loads s ≡ Some (loading.LoadComplete start) = get_map (load_state ss) t.loads.items s v.0 v.1 ∙ ap (λ stage. Some (load_state ss (record v.0 { stage = stage }))) v.2 in
    let unlinked : L.unlinked start ≡ true = (whole.each s).complete start at in
    let j = is_there (is_unlinked R) (id_under ss start) unlinked in
    let within : k < length ss = subst (IsStageWithin (length ss)) v.2 (all_get (IsLoadWithin (length ss) (length R)) t.loads.items s v.0 fit.joined.loads v.1).0 in
    let slot = get_within ss k within in
    let url : start ≡ slot.0.url = at_slot ss k slot.0 slot.1 in
    let own : id_under ss start ≡ id_in slot.0.state = ap (id_under ss) url ∙ (ap (λ o. id_by (get_by ss o)) (own_place ss k slot.0 fit.joined.distinct slot.1) ∙ ap id_by slot.1) in
    let state = module_state slot.0.state j.0 (sym own ∙ j.1) in
    let x = under ss start j.0 j.1 in
    let h = fit.matching.have.kept x.place j.0 x.module_is in
    record {
      id = j.0;
      ends = ap loading.root_in at;
      module_is = ap module_by slot.1 ∙ ap module_in state;
      under = ap by_id.url_by h.is ∙ (h.under ∙ x.under);
      past_new = j.2;
    }

-- the root of a complete load is a module
pub root_is : (maps : Maps) (t : Loads) (R : List RecordParts) (s k : ℕ) → FitRecords t R → IsWhole (loading_of maps t R) → complete_by (slice_get t.loads.items s) ≡ Some k
    → loading.root_of_load (loading_of maps t R) s ≡ root_url R (module_by (slice_get t.urls.slots k))
root_is maps t R s k fit whole e =
    let x = has_root maps t R s k fit whole e in
    x.ends ∙ sym (ap (root_url R) x.module_is ∙ ap (λ u. Some u) x.under)

-- and it isn't New
pub root_loaded : (maps : Maps) (t : Loads) (R : List RecordParts) (s k : ℕ) → FitRecords t R → IsWhole (loading_of maps t R) → complete_by (slice_get t.loads.items s) ≡ Some k
    → IfSome (module_by (slice_get t.urls.slots k)) (λ m. is_unlinked R m.0 ≡ true)
root_loaded maps t R s k fit whole e =
    let x = has_root maps t R s k fit whole e in
    subst (λ o. IfSome o (λ m. is_unlinked R m.0 ≡ true)) (sym x.module_is) x.past_new

-- ---- the promise of an import()

pub purpose_at : (maps : Maps) (t : Loads) (R : List RecordParts) (s : ℕ) (p : Purpose) → slice_get t.purposes.items s ≡ Some p → loading.import_promise (loading_of maps t R) s ≡ loading.import_promise_in (Some (purpose_of p))
purpose_at maps t R s p at = ap loading.import_promise_in (get_map purpose_of t.purposes.items s p at)

pub no_purpose : (maps : Maps) (t : Loads) (R : List RecordParts) (s : ℕ) → length t.purposes.items ≤ s → loading.import_promise (loading_of maps t R) s ≡ None
no_purpose maps t R s l = ap loading.import_promise_in (none_map purpose_of t.purposes.items s (past_end t.purposes.items s l))
