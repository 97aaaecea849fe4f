-- What is done to promises and errors is what the definitions do.
use Rattle.std.proofs.Common.{◌≡◌, ℕ, List, [], ◌∷◌, map, Option, Some, None, refl, ap, sym, subst, ◌∙◌}
use Rattle.std.specs.Prelude.{slice_get, slice_set}
use Rattle.esm_base.specs.Urls.{Url}
use Rattle.esm_realm.specs.Sound.{RecordParts}
use Rattle.esm_import_map.specs.ImportMap.{Maps}
use Rattle.esm_values.specs.Value.{Undefined, Error}
use Rattle.esm_values.specs.Errors.{Errors, make_error, next_error}
use Rattle.esm_values.specs.declared.errors.Fault.{Fault}
use Rattle.esm_promise.specs.Reactions.{Loaded}
use Rattle.esm_promise.specs.Promises.{settle, make, next_promise, Fulfilled, Rejected}
use Rattle.esm_promise.specs.Code.{Numbered}
use Rattle.esm_promise.specs.Renaming.{renamed}
use Rattle.esm_promise.proofs.Renamed.{follows_names}
use Rattle.esm_loads.specs.Loading.{Loading}
use Rattle.esm_loads.specs.Loading as loading
use Rattle.esm_loads.specs.declared.data.Cause.{Cause}
use Rattle.esm_loads.specs.Host.{Host, fulfill, reject_with, reject_new, reject, settle_load, settle_by, promise_of, begin_by, own_load}
use Rattle.esm_loads.specs.LoadsView.{load_state, LoadView, state_of, purpose_of, throw_of, urls_of}
use Rattle.esm_loads.specs.LoadsAsLoading.{loading_of}
use Rattle.esm_loads.specs.Hosted.{host_of}
use Rattle.esm_loads.specs.Inner.Settling.{promise_in, IsCauseWithin, OwnsLoad, OwnsBy}
use Rattle.esm_loads.specs.Inner.Stepping.{BeginsBy}
use Rattle.esm_loads.specs.Fits.{IsStageWithin}
use Rattle.std.specs.Vec.{with_item}
use Rattle.esm_loads.specs.declared.data.Cause.TheVariants as causes
use Rattle.esm_loads.specs.declared.data.Purpose.{Purpose}
use Rattle.esm_loads.specs.declared.data.Purpose.TheVariants as purposes
use Rattle.esm_loads.specs.declared.data.Stage.{Stage}
use Rattle.esm_loads.specs.declared.data.Stage.TheVariants as stages
use Rattle.esm_loads.specs.declared.loads.Loads.{Loads}
use Rattle.esm_loads.proofs.Places.{get_map, set_map}
use Rattle.esm_values.specs.declared.value.PromiseId.{PromiseId}

pub fulfilled : (named : ℕ → Url) (ps new : Numbered) (errors : Errors) (l : Loading) (p : ℕ) → new ≡ settle ps p (Fulfilled Undefined) → host_of named new errors l ≡ fulfill (host_of named ps errors l) p
fulfilled named ps new errors l p e = ap (λ ps. host_of named ps errors l) e ∙ ap (λ qs. record (host_of named ps errors l) { promises = qs }) ((follows_names named).settles ps p (Fulfilled Undefined))

pub rejected : (named : ℕ → Url) (ps new : Numbered) (errors : Errors) (l : Loading) (p error : ℕ) → new ≡ settle ps p (Rejected (Error error)) → host_of named new errors l ≡ reject_with (host_of named ps errors l) p error
rejected named ps new errors l p error e = ap (λ ps. host_of named ps errors l) e ∙ ap (λ qs. record (host_of named ps errors l) { promises = qs }) ((follows_names named).settles ps p (Rejected (Error error)))

-- a promise that is rejected with a new error
pub rejected_new : (named : ℕ → Url) (ps new : Numbered) (errors made : Errors) (l : Loading) (p error : ℕ) (f : Fault) → made ≡ make_error errors f → error ≡ next_error errors
    → ((named : ℕ → Url) (errors : Errors) (l : Loading) → host_of named new errors l ≡ reject_with (host_of named ps errors l) p error) → host_of named new made l ≡ reject_new (host_of named ps errors l) p f
rejected_new named ps new errors made l p error f made_is id is =
    is named made l ∙ (ap (λ id. reject_with (host_of named ps made l) p id) id ∙ ap (λ made. reject_with (host_of named ps made l) p (next_error errors)) made_is)

purpose_promise : (p : Purpose) → promise_of (purpose_of p) ≡ promise_in p
purpose_promise (purposes.ForEntry promise) = refl
purpose_promise (purposes.ForImport promise load) = by load
  where
    by : (load : Option PromiseId) → promise_of (purpose_of (purposes.ForImport promise load)) ≡ promise_in (purposes.ForImport promise load)
    by None = refl
    by (Some l) = refl

module _ (named : ℕ → Url) (maps : Maps) (R : List RecordParts) (t : Loads) (s : ℕ) (v : LoadView) (p : Purpose) (at : slice_get t.loads.items s ≡ Some v) (for : slice_get t.purposes.items s ≡ Some p) (ps : Numbered) (errors : Errors) where
  settles_by : settle_load (host_of named ps errors (loading_of maps t R)) s ≡ settle_by (host_of named ps errors (loading_of maps t R)) (Some (purpose_of p)) (Some (load_state t.urls.slots v))
  settles_by =
      let h = host_of named ps errors (loading_of maps t R) in
      ap (λ o. settle_by h o (slice_get h.imports.loads s)) (get_map purpose_of t.purposes.items s p for) ∙ ap (λ o. settle_by h (Some (purpose_of p)) o) (get_map (load_state t.urls.slots) t.loads.items s v at)

  abbrev By : Stage → Type 0
  By stage = settle_load (host_of named ps errors (loading_of maps t R)) s ≡ settle_by (host_of named ps errors (loading_of maps t R)) (Some (purpose_of p)) (Some (state_of t.urls.slots stage v.visited))

  settles_stage : (stage : Stage) → stage ≡ v.stage → By stage
  settles_stage stage e = subst By (sym e) settles_by

  pub settles_none : (stage : Stage) → stage ≡ v.stage → ((h : Host) (q : loading.Purpose) → settle_by h (Some q) (Some (state_of t.urls.slots stage v.visited)) ≡ h) → host_of named ps errors (loading_of maps t R) ≡ settle_load (host_of named ps errors (loading_of maps t R)) s
  settles_none stage e none = sym (settles_stage stage e ∙ none _ (purpose_of p))

  pub settles_complete : (stage : Stage) (root : ℕ) (promise : ℕ) (new : Numbered) → stage ≡ v.stage → stage ≡ stages.Complete root → promise ≡ promise_in p
      → host_of named new errors (loading_of maps t R) ≡ fulfill (host_of named ps errors (loading_of maps t R)) promise → host_of named new errors (loading_of maps t R) ≡ settle_load (host_of named ps errors (loading_of maps t R)) s
  settles_complete stage root promise new e f g is =
      is ∙ (ap (fulfill (host_of named ps errors (loading_of maps t R))) (g ∙ sym (purpose_promise p)) ∙ sym (settles_stage (stages.Complete root) (sym f ∙ e)))

  pub settles_thrown : (stage : Stage) (cause : Cause) (promise : ℕ) (new : Numbered) (made : Errors) → stage ≡ v.stage → stage ≡ stages.Thrown cause → promise ≡ promise_in p
      → host_of named new made (loading_of maps t R) ≡ reject (host_of named ps errors (loading_of maps t R)) promise (throw_of (urls_of t.urls.slots) cause) → host_of named new made (loading_of maps t R) ≡ settle_load (host_of named ps errors (loading_of maps t R)) s
  settles_thrown stage cause promise new made e f g is =
      is ∙ (ap (λ p. reject (host_of named ps errors (loading_of maps t R)) p (throw_of (urls_of t.urls.slots) cause)) (g ∙ sym (purpose_promise p)) ∙ sym (settles_stage (stages.Thrown cause) (sym f ∙ e)))

pub cause_within : (n : ℕ) (cause : Cause) → IsStageWithin n (stages.Thrown cause) → IsCauseWithin n cause
cause_within n (causes.Unfetched place) h = h
cause_within n (causes.Kept error) h = tt

-- ---- the promise of a load of its own

pub owns : (named : ℕ → Url) (maps : Maps) (R : List RecordParts) (errors : Errors) (t : Loads) (ps : Numbered) (s : ℕ) (p : Purpose) → slice_get t.purposes.items s ≡ Some p → OwnsLoad p → BeginsBy named maps R errors t ps t ps s None
owns named maps R errors t ps s p at h = sym (ap (begin_by (host_of named ps errors (loading_of maps t R)) s None) (get_map purpose_of t.purposes.items s p at) ∙ by p h)
  where
    by : (p : Purpose) → OwnsLoad p → begin_by (host_of named ps errors (loading_of maps t R)) s None (Some (purpose_of p)) ≡ host_of named ps errors (loading_of maps t R)
    by (purposes.ForEntry promise) h = refl
    by (purposes.ForImport promise load) h = load_by load h
      where
        load_by : (load : Option PromiseId) → OwnsBy load → begin_by (host_of named ps errors (loading_of maps t R)) s None (Some (purpose_of (purposes.ForImport promise load))) ≡ host_of named ps errors (loading_of maps t R)
        load_by None h = absurd h
        load_by (Some l) h = refl

pub begins_own : (named : ℕ → Url) (maps : Maps) (R : List RecordParts) (errors : Errors) (t : Loads) (ps new : Numbered) (s : ℕ) (promise own : PromiseId) → slice_get t.purposes.items s ≡ Some (purposes.ForImport promise None)
    → own.0 ≡ next_promise ps → new ≡ make ps (Loaded s ∷ [])
    → BeginsBy named maps R errors t ps (record t { purposes = with_item t.purposes s (purposes.ForImport promise (Some own)) }) new s None
begins_own named maps R errors t ps new s promise own at id is =
    let h = host_of named ps errors (loading_of maps t R) in
    let begun : begin_by h s None (slice_get h.imports.purposes s) ≡ own_load h s promise.0 = ap (begin_by h s None) (get_map purpose_of t.purposes.items s (purposes.ForImport promise None) at) in
    let promises : renamed named new ≡ make (renamed named ps) (Loaded s ∷ []) = ap (renamed named) is ∙ (follows_names named).makes ps (Loaded s ∷ []) in
    let list : map purpose_of (slice_set t.purposes.items s (purposes.ForImport promise (Some own))) ≡ slice_set (map purpose_of t.purposes.items) s (loading.ForImport promise.0 (Some (next_promise (renamed named ps)))) =
    set_map purpose_of t.purposes.items s (purposes.ForImport promise (Some own)) ∙ ap (λ k. slice_set (map purpose_of t.purposes.items) s (loading.ForImport promise.0 (Some k))) (id ∙ sym ((follows_names named).next ps)) in
    ap (λ qs. record h { promises = qs; imports = record (loading_of maps t R) { purposes = map purpose_of (slice_set t.purposes.items s (purposes.ForImport promise (Some own))) } }) promises
    ∙ (ap (λ ls. record h { promises = make (renamed named ps) (Loaded s ∷ []); imports = record (loading_of maps t R) { purposes = ls } }) list ∙ sym begun)
