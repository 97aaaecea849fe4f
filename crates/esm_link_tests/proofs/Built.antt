-- Records stay built: with a module more, a request that is loaded, a status that is written, and behind linking.
use Rattle.std.proofs.Common.{◌≡◌, ◌⊎◌, inl, inr, ℕ, zero, suc, ◌<◌, ◌≤◌, Bool, true, false, cond, nat_eq, List, [], ◌∷◌, ◌++◌, length, map, Option, Some, None, refl, ap, subst, sym, ◌∙◌, arith, length-append}
use Rattle.std.specs.Prelude.{All, slice_get}
use Rattle.std.specs.Option.{option_map}
use Rattle.std.proofs.lemmas.List.Elements.{All-push}
use Rattle.esm_base.specs.Urls.{Url, IsUsable}
use Rattle.esm_base.specs.declared.limits.TheConstants.{MAX_FILE_BYTES}
use Rattle.esm_base.specs.declared.module_id.ModuleId.{ModuleId}
use Rattle.esm_tree.specs.Syntax.{Parts}
use Rattle.esm_ast.specs.Entries.{EntryLists, NamesRequests, entries_of}
use Rattle.esm_ast.specs.Spelled.{AreSpelled}
use Rattle.esm_realm.specs.declared.record.ModuleStatus.{ModuleStatus}
use Rattle.esm_realm.specs.declared.record.ModuleStatus.TheVariants as statuses
use Rattle.esm_realm.specs.Sound.{RecordParts, IsSound, IsSoundRecord, new_record, load_request, load_request_of}
use Rattle.esm_realm.specs.ById.{status_by, status_of, entries_by, entries_at, is_linking, without_status}
use Rattle.esm_link.specs.Realm.{AreTrees, items_at}
use Rattle.esm_link.specs.Parsed.{SpelledIsBound}
use Rattle.esm_link.specs.Scopes.{LeavesRecords}
use Rattle.esm_link.proofs.Linking.{sound_on}
use Rattle.esm_link_tests.specs.Built.{IsBuilt}

-- ---- none

none_built : IsSound [] → IsBuilt [] []
none_built sound = record { sound = sound; spelled = λ k d lt. absurd (omega (arith, lt)); as_many = refl; entries = λ x lt. absurd (omega (arith, lt)); idle = λ x. refl }

pub built_none : (ts : List Parts) (rs : List RecordParts) → ts ≡ [] → rs ≡ [] → IsSound rs → IsBuilt ts rs
built_none ts rs e f sound =
    subst (λ ts. IsBuilt ts rs) (sym e) (subst (IsBuilt []) (sym f) (none_built (subst IsSound f sound)))

-- ---- a module more

entries_push : (ts : List Parts) (rs : List RecordParts) (t : Parts) (r : RecordParts) → length ts ≡ length rs → r.entries ≡ entries_of t.items
    → ((x : ℕ) → x < length rs → entries_at rs x ≡ entries_of (items_at ts x)) → (x : ℕ) → x < length (rs ++ r ∷ [])
    → entries_at (rs ++ r ∷ []) x ≡ entries_of (items_at (ts ++ t ∷ []) x)
entries_push [] [] t r e s h zero lt = s
entries_push [] [] t r e s h (suc x) lt = absurd (omega (arith, lt))
entries_push [] (q ∷ rs) t r e s h x lt = absurd (omega (arith, e))
entries_push (u ∷ ts) [] t r e s h x lt = absurd (omega (arith, e))
entries_push (u ∷ ts) (q ∷ rs) t r e s h zero lt = h 0 (omega arith)
entries_push (u ∷ ts) (q ∷ rs) t r e s h (suc x) lt = entries_push ts rs t r (omega (arith, e)) s (λ y k. h (suc y) (omega (arith, k))) x (omega (arith, lt))

idle_push : (rs : List RecordParts) (r : RecordParts) → r.status ≡ statuses.New → ((x : ℕ) → is_linking (status_of rs x) ≡ false)
    → (x : ℕ) → is_linking (status_of (rs ++ r ∷ []) x) ≡ false
idle_push [] r st h zero = ap is_linking st
idle_push [] r st h (suc x) = refl
idle_push (q ∷ rs) r st h zero = h 0
idle_push (q ∷ rs) r st h (suc x) = idle_push rs r st (λ y. h (suc y)) x

push_built : (ts : List Parts) (rs : List RecordParts) (t : Parts) (r : RecordParts) → IsBuilt ts rs → AreSpelled t.items
    → r.entries ≡ entries_of t.items → r.status ≡ statuses.New → IsSound (rs ++ r ∷ []) → IsBuilt (ts ++ t ∷ []) (rs ++ r ∷ [])
push_built ts rs t r b s own st sound = record {
  sound = sound;
  spelled = All-push (λ (t : Parts). AreSpelled t.items) ts t b.spelled s;
  as_many = omega (arith, length-append ts (t ∷ []), length-append rs (r ∷ []), b.as_many);
  entries = entries_push ts rs t r b.as_many own b.entries;
  idle = idle_push rs r st b.idle;
}

pub built_push : (ts all : List Parts) (rs new : List RecordParts) (t : Parts) (url : Url) (entries : EntryLists) (targets : List Url)
    → IsBuilt ts rs → AreSpelled t.items → entries ≡ entries_of t.items → all ≡ ts ++ t ∷ [] → new ≡ rs ++ new_record url entries targets ∷ []
    → IsSound new → IsBuilt all new
built_push ts all rs new t url entries targets b s own e f sound =
    subst (λ ts. IsBuilt ts new) (sym e) (subst (IsBuilt (ts ++ t ∷ [])) (sym f)
    (push_built ts rs t (new_record url entries targets) b s own refl (subst IsSound f sound)))

-- ---- other records that have the same of what is asked

as_built : (ts : List Parts) (rs qs : List RecordParts) → IsBuilt ts rs → IsSound qs → length qs ≡ length rs
    → ((x : ℕ) → entries_at qs x ≡ entries_at rs x) → ((x : ℕ) → is_linking (status_of qs x) ≡ false) → IsBuilt ts qs
as_built ts rs qs b sound many same idle =
    record { sound = sound; spelled = b.spelled; as_many = b.as_many ∙ sym many; entries = λ x lt. same x ∙ b.entries x (subst (λ n. x < n) many lt); idle = idle }

module _ {V : Type 0} (f : Option RecordParts → V) (i : ℕ) (t : ModuleId) (plain : (r : RecordParts) → f (Some (load_request r i t)) ≡ f (Some r)) where
  load_same : (rs : List RecordParts) (id x : ℕ) → f (slice_get (load_request_of rs id i t) x) ≡ f (slice_get rs x)
  load_same [] id x = refl
  load_same (r ∷ rs) zero zero = plain r
  load_same (r ∷ rs) zero (suc x) = refl
  load_same (r ∷ rs) (suc id) zero = refl
  load_same (r ∷ rs) (suc id) (suc x) = load_same rs id x

load_many : (rs : List RecordParts) (id i : ℕ) (t : ModuleId) → length (load_request_of rs id i t) ≡ length rs
load_many [] id i t = refl
load_many (r ∷ rs) zero i t = refl
load_many (r ∷ rs) (suc id) i t = ap suc (load_many rs id i t)

pub built_load : (ts : List Parts) (rs new : List RecordParts) (id i : ℕ) (t : ModuleId) → IsBuilt ts rs
    → new ≡ load_request_of rs id i t → IsSound new → IsBuilt ts new
built_load ts rs new id i t b e sound =
    subst (IsBuilt ts) (sym e) (as_built ts rs (load_request_of rs id i t) b (subst IsSound e sound) (load_many rs id i t)
    (load_same entries_by i t (λ r. refl) rs id)
    (λ x. ap is_linking (load_same status_by i t (λ r. refl) rs id x) ∙ b.idle x))

pub load_length : (rs new : List RecordParts) (id i : ℕ) (t : ModuleId) → new ≡ load_request_of rs id i t → length new ≡ length rs
load_length rs new id i t e = ap length e ∙ load_many rs id i t

-- ---- all but statuses stays

without_entries : (o : Option RecordParts) → entries_by (option_map without_status o) ≡ entries_by o
without_entries None = refl
without_entries (Some r) = refl

same_entries : (o p : Option RecordParts) → option_map without_status o ≡ option_map without_status p → entries_by o ≡ entries_by p
same_entries o p e = sym (without_entries o) ∙ ap entries_by e ∙ without_entries p

get_without : (rs : List RecordParts) (x : ℕ) → slice_get (map without_status rs) x ≡ option_map without_status (slice_get rs x)
get_without [] x = refl
get_without (r ∷ rs) zero = refl
get_without (r ∷ rs) (suc x) = get_without rs x

many_without : (rs : List RecordParts) → length (map without_status rs) ≡ length rs
many_without [] = refl
many_without (r ∷ rs) = ap suc (many_without rs)

pub plain_length : (rs new : List RecordParts) → map without_status new ≡ map without_status rs → length new ≡ length rs
plain_length rs new e = sym (many_without new) ∙ ap length e ∙ many_without rs

idle_cond : (b : Bool) (s : ModuleStatus) → is_linking s ≡ false → is_linking (cond b statuses.Unlinked s) ≡ false
idle_cond true s h = refl
idle_cond false s h = h

pub built_status : (ts : List Parts) (rs new : List RecordParts) (m : ℕ) → IsBuilt ts rs → map without_status new ≡ map without_status rs
    → ((y : ℕ) → status_of new y ≡ cond (nat_eq y m) statuses.Unlinked (status_of rs y)) → IsBuilt ts new
built_status ts rs new m b plain set =
    as_built ts rs new b (sound_on new rs plain b.sound) (plain_length rs new plain)
    (λ x. same_entries (slice_get new x) (slice_get rs x) (sym (get_without new x) ∙ ap (λ ps. slice_get ps x) plain ∙ get_without rs x))
    (λ x. ap is_linking (set x) ∙ idle_cond (nat_eq x m) (status_of rs x) (b.idle x))

-- behind linking no module is Linking
idle_by : (old new : ModuleStatus) → (new ≡ old) ⊎ ((old ≡ statuses.Unlinked) × (new ≡ statuses.Linked)) → is_linking old ≡ false → is_linking new ≡ false
idle_by old new (inl e) h = ap is_linking e ∙ h
idle_by old new (inr e) h = ap is_linking e.1

pub built_link : (ts : List Parts) (rs new : List RecordParts) → IsBuilt ts rs → IsSound new → LeavesRecords ts rs new → IsBuilt ts new
built_link ts rs new b sound l =
    as_built ts rs new b sound (ap (λ g. g.size) l.modules)
    (λ x. same_entries (slice_get new x) (slice_get rs x) (l.records x))
    (λ x. idle_by (status_of rs x) (status_of new x) (l.statuses_are x) (b.idle x))

-- ---- they may be linked

pub trees_built : (ts : List Parts) (rs : List RecordParts) → SpelledIsBound → IsBuilt ts rs → AreTrees ts rs
trees_built ts rs law b = law.trees ts rs b.as_many b.entries b.spelled

-- a script's own entries, with a target for each request
pub sound_script : (url : Url) (shared entries : EntryLists) (targets : List Url) (many : ℕ) → IsUsable url → All IsUsable targets
    → shared ≡ entries → length targets ≡ many → many ≡ length entries.requests → length entries.requests ≤ MAX_FILE_BYTES
    → NamesRequests entries (length entries.requests) → IsSoundRecord url shared targets
sound_script url shared entries targets many u us e n m few names =
    subst (λ shared. IsSoundRecord url shared targets) (sym e)
    (record { url_is = u; targets_are = us; as_many = n ∙ m; few_requests = few; names = names })
