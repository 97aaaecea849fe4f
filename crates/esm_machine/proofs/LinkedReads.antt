-- What is read of a module that is linked.
use Rattle.std.proofs.Common.{◌≡◌, ◌<◌, ◌+◌, ℕ, zero, suc, true, false, List, [], ◌∷◌, Some, length, slice_get, arith, refl, ap, subst, sym, ◌∙◌}
use Rattle.esm_import_map.specs.ImportMap.{Maps}
use Rattle.esm_ast.specs.Entries.{EntryLists}
use Rattle.esm_realm.specs.ById.{entries_at, entries_by, loaded_at, loaded_by}
use Rattle.esm_realm.specs.Sound.{AreLoaded, RecordParts}
use Rattle.esm_env.specs.Modules.{Modules, entries}
use Rattle.esm_loads.specs.declared.loads.Loads.{Loads}
use Rattle.esm_loads.proofs.Places.{all_get, get_within}
use Rattle.esm_link.specs.Link.{targets, targets_from}
use Rattle.esm_machine.specs.ModuleStore.{Imported, imported, loaded_or, seen_of}
use Rattle.esm_machine.specs.Inner.Importing.{there, there_too}
use Rattle.esm_machine.specs.Kept.{IsKept}
use Rattle.esm_machine.specs.Seen.{linked, modules}
use Rattle.esm_machine.specs.declared.condition.Condition.{Condition}
use Rattle.esm_machine.specs.declared.condition.Condition.TheVariants as conditions
use Rattle.esm_machine.proofs.Shows.{entries_right, shows}

-- ---- targets

pub targets_long : (g : Modules ℕ) (m i : ℕ) (rs : List (List ℕ)) → length (targets_from g m i rs) ≡ length rs
targets_long g m i [] = refl
targets_long g m i (r ∷ rs) = ap suc (targets_long g m (suc i) rs)

target_from : (g : Modules ℕ) (m i : ℕ) (rs : List (List ℕ)) (k : ℕ) → k < length rs → slice_get (targets_from g m i rs) k ≡ Some (g.target m (i + k))
target_from g m i [] k lt = absurd (omega (arith, lt))
target_from g m i (r ∷ rs) zero lt = let e : i ≡ i + 0 = omega arith in ap (λ n. Some (g.target m n)) e
target_from g m i (r ∷ rs) (suc k) lt =
    let e : suc i + k ≡ i + suc k = omega arith in
    target_from g m (suc i) rs k (omega (arith, lt)) ∙ ap (λ n. Some (g.target m n)) e

targets_by : (c : Condition) (R : List RecordParts) (t : Loads) (maps : Maps) → IsKept (imported R t maps c) → (m request : ℕ)
    → linked (seen_of (imported R t maps c)) m ≡ true → request < length (entries (modules (seen_of (imported R t maps c))) m).requests
    → loaded_or m (slice_get (loaded_at R m) request) ≡ (modules (seen_of (imported R t maps c))).target m request
targets_by conditions.Whole R t maps k m request l lt = (shows R t maps k.sound k.known).targets_are m request l lt
targets_by (conditions.Stopped limit) R t maps k m request l lt = k.known.targets_are m request l lt
targets_by conditions.Lost R t maps k m request l lt = let e : false ≡ true = l in absurd cc

module _ (i : Imported) (k : IsKept i) (m : ℕ) (l : linked (seen_of i) m ≡ true) where
  pub entries_read : entries_at i.records m ≡ entries (modules (seen_of i)) m
  entries_read = entries_right i.condition i.records i.loads i.maps k m (there i m l)

  -- what it has loaded has a place for each request
  pub loaded_read : length (loaded_at i.records m) ≡ length (entries (modules (seen_of i)) m).requests
  loaded_read =
      let g = get_within i.records m (there_too i m l) in
      let a = all_get (λ (r : RecordParts). AreLoaded (length i.records) r.entries r.loaded) i.records m g.0 k.sound.loaded g.1 in
      ap (λ o. length (loaded_by o)) g.1 ∙ a.as_many ∙ ap (λ o. length (entries_by o).requests) (sym g.1)
      ∙ ap (λ (e : EntryLists). length e.requests) entries_read

  -- the requests are as many as the targets
  pub count_read : length (entries (modules (seen_of i)) m).requests ≡ length (targets (modules (seen_of i)) m)
  count_read = sym (targets_long (modules (seen_of i)) m 0 (entries (modules (seen_of i)) m).requests)

  -- the module that a request has loaded is its target
  pub target_read : (request : ℕ) → request < length (targets (modules (seen_of i)) m)
      → slice_get (targets (modules (seen_of i)) m) request ≡ Some (loaded_or m (slice_get (loaded_at i.records m) request))
  target_read request lt =
      let within : request < length (entries (modules (seen_of i)) m).requests = subst (λ n. request < n) (sym count_read) lt in
      let at : 0 + request ≡ request = omega arith in
      target_from (modules (seen_of i)) m 0 (entries (modules (seen_of i)) m).requests request within
      ∙ ap (λ n. Some ((modules (seen_of i)).target m n)) at
      ∙ ap (λ n. Some n) (sym (targets_by i.condition i.records i.loads i.maps k m request l within))
