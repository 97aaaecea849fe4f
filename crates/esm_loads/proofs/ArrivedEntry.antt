-- The entry of a fetched URL.
use Rattle.std.proofs.Common.{◌≡◌, ℕ, suc, ◌<◌, ◌≤◌, Bool, true, false, refl, inl, inr, List, [], ◌∷◌, ◌++◌, length, Some, ap, subst, sym, ◌∙◌, codes, get_or}
use Rattle.std.specs.Prelude.{◌⊎◌, Ok, Err, IfOk, Result, slice_index_or}
use Rattle.std.proofs.lemmas.List.{append_assoc, get_or_default}
use Rattle.esm_tree.specs.Syntax.{Item}
use Rattle.esm_ast.specs.Entries.{EntryLists, NamesRequests, entries_of, entries_with, requests_of}
use Rattle.esm_ast.specs.Script.{BrokenParts, SpelledText}
use Rattle.esm_ast.specs.Outcome as outcomes
use Rattle.esm_base.specs.declared.memory.Memory.{Memory}
use Rattle.esm_base.specs.Urls.{Text, Url, IsUsable, has, same_url}
use Rattle.esm_realm.proofs.Urls.{or_cases, same_text}
use Rattle.esm_loads.specs.Inner.Urls.{open_urls, open_by}
use Rattle.esm_realm.specs.Laws.{AreDistinct}
use Rattle.esm_realm.specs.Sound.{IsSoundRecord}
use Rattle.esm_import_map.specs.ImportMap.{Maps}
use Rattle.esm_specifier.specs.Targets.{AreTargets, AreUsable}
use Rattle.esm_specifier.specs.declared.targets.Targets.{Targets}
use Rattle.esm_values.specs.declared.errors.Fault.{Fault}
use Rattle.esm_loads.specs.Arrival.{AreResolved}
use Rattle.esm_loads.specs.UrlTable.{found, Faulty, script_by, targets_of}
use Rattle.esm_loads.specs.LoadsView.{every_form, urls_of, place_in, is_open}
use Rattle.esm_loads.specs.Inner.Arriving.{IsOpenSlot, Stores, Filled}
use Rattle.esm_loads.specs.Inner.Arriving.Filled.{AsBroken}
use Rattle.esm_loads.specs.declared.data.UrlState.TheVariants as states
use Rattle.esm_ast.specs.Outcome.{OutcomeView}
use Rattle.esm_values.specs.Errors.{make_error, next_error}
use Rattle.esm_values.specs.declared.value.ErrorId.{ErrorId}
use Rattle.esm_loads.specs.declared.data.Slot.{Slot}
use Rattle.esm_loads.proofs.Lookups.{slot_url}
use Rattle.esm_loads.proofs.PlacesOfUrls.{place_at}

-- the pieces of a printed message are its text
pub printed : (url specifier name wanted : Text) → name ≡ wanted → url ++ (codes ": specifier " ++ (specifier ++ (codes ": " ++ name))) ≡ url ++ codes ": specifier " ++ specifier ++ codes ": " ++ wanted
printed url specifier name wanted e = rw e (simp append_assoc)

pub parse_printed : (url description wanted : Text) → description ≡ wanted → url ++ (codes ": " ++ description) ≡ url ++ codes ": " ++ wanted
parse_printed url description wanted e = rw e (simp append_assoc)

-- ---- what requests resolve to

same_script : (text other : SpelledText) → outcomes.Script text ≡ outcomes.Script other → text ≡ other
same_script text other e = cc

-- of a module text it is what its requests resolve to
pub resolved_script : (maps : Maps) (url : Url) (o : OutcomeView) (text : SpelledText) (requests : List Text) (r : Result Targets Memory) → o ≡ outcomes.Script text → requests ≡ requests_of text.items
    → IfOk r (AreTargets maps url requests) → IfOk r (AreResolved maps url o)
resolved_script maps url o text requests (Ok targets) is are h = λ other e.
    let same : text ≡ other = same_script text other (sym is ∙ e) in
    subst (λ rs. AreTargets maps url rs targets) (are ∙ ap (λ (t : SpelledText). requests_of t.items) same) h
resolved_script maps url o text requests (Err want) is are h = tt

-- anything else is no module text
pub broken_no_script : (broken : BrokenParts) (text : SpelledText) → outcomes.Broken broken ≡ outcomes.Script text → ⊥
broken_no_script broken text e = cc

pub absent_no_script : (text : SpelledText) → outcomes.Absent ≡ outcomes.Script text → ⊥
absent_no_script text e = cc

pub failed_no_script : (text : SpelledText) → outcomes.Failed ≡ outcomes.Script text → ⊥
failed_no_script text e = cc

-- the specifier of a request that is refused
pub specifier_at : (requests : List Text) (place : ℕ) (specifier : Text) → place < length requests → specifier ≡ get_or requests place specifier → slice_index_or requests place [] ≡ specifier
specifier_at requests place specifier within is = get_or_default requests place [] specifier within ∙ sym is

-- ---- the record of a module is sound

pub sound_record : (url copy : Url) (entries shared : EntryLists) (requests : List Text) (targets : List Url) → copy ≡ url → IsUsable url → entries ≡ shared
    → length shared.requests ≤ 1048576 → NamesRequests shared (length shared.requests) → shared.requests ≡ requests → AreUsable requests targets → IsSoundRecord copy entries targets
sound_record url copy entries shared requests targets same usable of_script few named are found = rw (same, of_script) (record {
  url_is = usable;
  targets_are = found.each;
  as_many = found.as_many ∙ ap length (sym are);
  few_requests = few;
  names = named;
})

-- what a body that spells a tree brings
pub found_script : (maps : Maps) (url : Url) (text : SpelledText) (r : Result (List Url) Fault) → targets_of maps url (requests_of text.items) ≡ r
    → found maps every_form url (outcomes.Script text) ≡ script_by text.items r
found_script maps url text r e = ap (script_by text.items) e

-- the requests of the entries are those of the tree
pub requests_are : (e : EntryLists) (items : List Item) → e ≡ entries_of items → e.requests ≡ requests_of items
unfolding entries_of entries_with
requests_are e items is = ap (λ (f : EntryLists). f.requests) is

-- a fault is the newest error
pub broken : (maps : Maps) (url : Url) (c : OutcomeView) (old new : Stores) (error : ErrorId) (f : Fault) → error.0 ≡ next_error old.errors → found maps every_form url c ≡ Faulty f
    → new.trees ≡ old.trees → new.records ≡ old.records → new.errors ≡ make_error old.errors f → Filled maps url c old new (states.Broken error)
broken maps url c old new error f id e t r x = subst (λ n. Filled maps url c old new (states.Broken (record { 0 = n }))) (sym id) (AsBroken f e t r x)

-- ---- places

-- the place of an open ask is that of its slot
pub place_of : (ss : List Slot) (url : Url) (k : ℕ) → AreDistinct (urls_of ss) → IsOpenSlot ss k url → place_in (urls_of ss) url ≡ Some k
place_of ss url k d at = place_at (urls_of ss) k url d (slot_url ss k at.slot at.at ∙ ap (λ u. Some u) at.under)

-- an open ask has its slot
pub open_listed : (ss : List Slot) (u : Url) → has (open_urls ss) u ≡ true → (k : ℕ) × IsOpenSlot ss k u
open_listed [] u h = cc
open_listed (s ∷ ss) u h = by (is_open s.state) refl h (open_listed ss u)
  where
    later : ((k : ℕ) × IsOpenSlot ss k u) → (k : ℕ) × IsOpenSlot (s ∷ ss) k u
    later found = (suc found.0, record { slot = found.1.slot; at = found.1.at; fetching = found.1.fetching; under = found.1.under })

    here : is_open s.state ≡ true → (same_url u s.url ≡ true) ⊎ (has (open_urls ss) u ≡ true) → (has (open_urls ss) u ≡ true → (k : ℕ) × IsOpenSlot ss k u) → (k : ℕ) × IsOpenSlot (s ∷ ss) k u
    here o (inl e) rest = (0, record { slot = s; at = refl; fetching = o; under = sym (same_text u s.url e) })
    here o (inr f) rest = later (rest f)

    by : (b : Bool) → is_open s.state ≡ b → has (open_by b s.url (open_urls ss)) u ≡ true → (has (open_urls ss) u ≡ true → (k : ℕ) × IsOpenSlot ss k u) → (k : ℕ) × IsOpenSlot (s ∷ ss) k u
    by true o g rest = here o (or_cases (same_url u s.url) (has (open_urls ss) u) g) rest
    by false o g rest = later (rest g)
