-- What an answer to a pending request keeps.
use mathlib.Core.Bool.{true≢false}
use Rattle.std.proofs.Common.{◌≡◌, ℕ, ◌<◌, Bool, true, false, List, [], ◌++◌, length, map, Option, Some, None, ap, subst, sym, ◌∙◌, refl, append_assoc}
use Rattle.std.specs.Prelude.{slice_get, slice_set}
use Rattle.std.proofs.lemmas.List.{length-set}
use Rattle.std.proofs.lemmas.List.Elements.{All-append, All-nil}
use Rattle.esm_base.specs.Urls.{Url}
use Rattle.esm_base.specs.declared.limits.Limit.{Limit}
use Rattle.esm_realm.specs.Sound.{RecordParts}
use Rattle.esm_import_map.specs.ImportMap.{Maps}
use Rattle.esm_loads.specs.UrlTable.{TableEntry, Throw, thrown_by, no_urls}
use Rattle.esm_loads.specs.Loading.{Loading, Root, Request, OpenLoad, begin, throw, open_load}
use Rattle.esm_loads.specs.Loading as loading
use Rattle.esm_loads.specs.Load.{Enters, Answers}
use Rattle.esm_loads.specs.Load.Answers.{no_root, no_module, root, request}
use Rattle.esm_loads.specs.LoadsView.{urls_of, url_at, is_open, is_in, has_id, id_under, modules_in, load_state, request_by, throw_of, LoadView}
use Rattle.esm_loads.specs.LoadsAsLoading.{loading_of}
use Rattle.esm_loads.specs.Fits.{AreJoined}
use Rattle.esm_loads.specs.Inner.Flags.{begun_record}
use Rattle.esm_loads.specs.Inner.Steps.{Grown, IsLoading, set_load}
use Rattle.esm_loads.specs.Inner.Answering.{KeepsUrls, Reaches, IsAnswered, MayGoOnBy}
use Rattle.esm_loads.specs.declared.data.Slot.{Slot}
use Rattle.esm_loads.specs.declared.data.Requester.{Requester}
use Rattle.esm_loads.specs.declared.data.Requester.TheVariants as requesters
use Rattle.esm_loads.specs.declared.data.Cause.{Cause}
use Rattle.esm_loads.specs.declared.loads.Loads.{Loads}
use Rattle.esm_loads.proofs.Places.{some_is, set_get, set_map, nothing}
use Rattle.esm_loads.proofs.LoadSteps.{open_is, joined_load}
use Rattle.esm_loads.proofs.EnterSteps.{stopped_ended}
use Rattle.esm_loads.proofs.Limits.{finished_late}

abbrev IsOpen : Slot → Type 0
IsOpen s = is_open s.state ≡ true

pub kept_same : (l : Loads) → KeepsUrls l l
kept_same l = record { more = []; slots = sym (nothing l.urls.slots); fetching = All-nil IsOpen; rest = refl; loads = refl }

pub kept_load : (l : Loads) (s : ℕ) (v : LoadView) → KeepsUrls l (set_load l s v)
kept_load l s v = record { more = []; slots = sym (nothing l.urls.slots); fetching = All-nil IsOpen; rest = refl; loads = length-set l.loads.items s v }

pub kept_grown : (n s : ℕ) (t new : Loads) → Grown n s t new → KeepsUrls t new
kept_grown n s t new g = record { more = g.more; slots = g.slots; fetching = g.fetching; rest = g.rest; loads = g.loads }

pub kept_bytes : (t new : Loads) → KeepsUrls t new → new.urls.bytes ≡ t.urls.bytes
kept_bytes t new h = ap (λ (l : Loads). l.urls.bytes) h.rest

pub kept_kept : (t m new : Loads) → KeepsUrls t m → KeepsUrls m new → KeepsUrls t new
kept_kept t m new g h = record {
  more = g.more ++ h.more;
  slots = h.slots ∙ (ap (λ ss. ss ++ h.more) g.slots ∙ append_assoc t.urls.slots g.more h.more);
  fetching = All-append IsOpen g.more h.more g.fetching h.fetching;
  rest = h.rest ∙ (ap (λ (l : Loads). record l { urls = record new.urls { bytes = m.urls.bytes }; queues = new.queues; loads = new.loads }) g.rest ∙ ap (λ b. record t { urls = record new.urls { bytes = b }; queues = new.queues; loads = new.loads }) (kept_bytes t m g));
  loads = h.loads ∙ g.loads;
}

-- ---- a load that begins

none_visited : (ss : List Slot) → modules_in ss (is_in []) ≡ no_urls
none_visited ss = λ i u. by (id_under ss u) i
  where
    by : (o : Option ℕ) → has_id (is_in []) o ≡ false
    by None = refl
    by (Some n) = refl

pub begun_is : (maps : Maps) (R : List RecordParts) (t : Loads) (s k : ℕ) → loading_of maps (set_load t s (begun_record k)) R ≡ begin (loading_of maps t R) s (url_at (urls_of t.urls.slots) k)
begun_is maps R t s k =
    ap (λ ls. record (loading_of maps t R) { loads = ls }) (set_map (load_state t.urls.slots) t.loads.items s (begun_record k) ∙ ap (λ f. slice_set (map (load_state t.urls.slots) t.loads.items) s (loading.Open (url_at (urls_of t.urls.slots) k) f)) (none_visited t.urls.slots))

pub begun_joined : (t : Loads) (n s k : ℕ) → AreJoined t n → k < length t.urls.slots → AreJoined (set_load t s (begun_record k)) n
begun_joined t n s k j l = joined_load t n s (begun_record k) j (l, All-nil (λ (id : ℕ). id < n))

pub begun_loading : (t : Loads) (s k : ℕ) (v : LoadView) → slice_get t.loads.items s ≡ Some v → IsLoading (set_load t s (begun_record k)) s
begun_loading t s k v at = record { load = begun_record k; root = k; at = set_get t.loads.items s v (begun_record k) at; open_is = refl }

-- ---- answers

is_there : Option TableEntry → Bool
is_there None = false
is_there (Some e) = true

pub none_some : (o : Option TableEntry) (e : TableEntry) → o ≡ None → o ≡ Some e → ⊥
unfolding is_there
none_some o e f g = true≢false (sym (ap is_there g) ∙ ap is_there f)

threw_by : (maps : Maps) (R : List RecordParts) (t : Loads) (s : ℕ) (r : Requester) (u : Url) (e : TableEntry) (thrown : Throw) → MayGoOnBy t s r → thrown_by u e ≡ Some thrown
    → Answers (loading_of maps t R) (request_by (urls_of t.urls.slots) s r) u e (throw (loading_of maps t R) s thrown)
threw_by maps R t s requesters.Root u e thrown b h = no_root thrown h
threw_by maps R t s (requesters.Module referrer i) u e thrown b h = no_module _ thrown (open_is maps R t s b.load b.at b.root b.open_is) h

pub threw_answer : (maps : Maps) (R : List RecordParts) (t new : Loads) (s : ℕ) (r : Requester) (u : Url) (e : TableEntry) (cause : Cause) → MayGoOnBy t s r → (loading_of maps t R).entries u ≡ Some e → thrown_by u e ≡ Some (throw_of (urls_of t.urls.slots) cause)
    → loading_of maps new R ≡ throw (loading_of maps t R) s (throw_of (urls_of t.urls.slots) cause) → IsAnswered (loading_of maps t R) (request_by (urls_of t.urls.slots) s r) u (loading_of maps new R)
threw_answer maps R t new s r u e cause b at h is x f =
    let same = some_is (sym at ∙ f) in
    subst (λ m. Answers (loading_of maps t R) (request_by (urls_of t.urls.slots) s r) u x m) (sym is)
    (threw_by maps R t s r u x (throw_of (urls_of t.urls.slots) cause) b (ap (thrown_by u) (sym same) ∙ h))

-- the root of a load is a module
pub root_answer : (L : Loading) (s : ℕ) (u : Url) (e : TableEntry) (after : Loading) → L.entries u ≡ Some e → thrown_by u e ≡ None → Reaches (begin L s u) s u after → IsAnswered L (Root s) u after
root_answer L s u e after at h r x f =
    let same = some_is (sym at ∙ f) in
    subst (λ m. Answers L (Root s) u x m) (sym r.finishes) (root (ap (thrown_by u) (sym same) ∙ h) r.enters)

pub module_answer : (L : Loading) (s i : ℕ) (v u : Url) (e : TableEntry) (after : Loading) (o : OpenLoad) → open_load L s ≡ Some o → L.entries u ≡ Some e → thrown_by u e ≡ None → Reaches L s u after → IsAnswered L (Request s v i) u after
module_answer L s i v u e after o open_is at h r x f =
    let same = some_is (sym at ∙ f) in
    subst (λ m. Answers L (Request s v i) u x m) (sym r.finishes) (request o open_is (ap (thrown_by u) (sym same) ∙ h) r.enters)

-- a limit stops the entering
pub root_stops : (L : Loading) (s : ℕ) (u : Url) (e : TableEntry) (m : Loading) (limit : Limit) → L.entries u ≡ Some e → thrown_by u e ≡ None → Enters (begin L s u) s u m → m.stopped ≡ Some limit
    → (x : TableEntry) → L.entries u ≡ Some x → Answers L (Root s) u x m
root_stops L s u e m limit at h entered stop x f =
    let same = some_is (sym at ∙ f) in
    subst (Answers L (Root s) u x) (finished_late m s (stopped_ended m s limit stop)) (root (ap (thrown_by u) (sym same) ∙ h) entered)

pub module_stops : (L : Loading) (s i : ℕ) (v u : Url) (e : TableEntry) (m : Loading) (limit : Limit) (o : OpenLoad) → open_load L s ≡ Some o → L.entries u ≡ Some e → thrown_by u e ≡ None → Enters L s u m → m.stopped ≡ Some limit
    → (x : TableEntry) → L.entries u ≡ Some x → Answers L (Request s v i) u x m
module_stops L s i v u e m limit o open_is at h entered stop x f =
    let same = some_is (sym at ∙ f) in
    subst (Answers L (Request s v i) u x) (finished_late m s (stopped_ended m s limit stop)) (request o open_is (ap (thrown_by u) (sym same) ∙ h) entered)
