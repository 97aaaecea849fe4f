-- Flags of modules whose bodies await: what is read of them, and what keeps them right.
use Rattle.std.proofs.Common.{◌≡◌, ℕ, zero, suc, ◌<◌, Bool, true, List, [], ◌∷◌, ◌++◌, map, length, Some, refl, ap, subst, sym, ◌∙◌, arith}
use Rattle.std.specs.Prelude.{slice_get, option_map}
use Rattle.std.proofs.lemmas.List.{length-map, map-append}
use Rattle.esm_base.specs.Urls.{Url}
use Rattle.esm_ast.specs.Entries.{EntryLists, entries_of}
use Rattle.esm_tree.specs.Syntax.{Parts}
use Rattle.esm_realm.specs.ById.{entries_at, without_status}
use Rattle.esm_realm.specs.Sound.{RecordParts, new_record}
use Rattle.esm_env.specs.Modules.{entries}
use Rattle.esm_loads.specs.Fits.{records_with}
use Rattle.esm_loads.specs.LoadsView.{before_linking}
use Rattle.esm_loads.specs.UrlTable.{Found, Nothing, Faulty, Script}
use Rattle.esm_loads.proofs.Places.{some_is}
use Rattle.esm_link.specs.Scopes.{LeavesRecords}
use Rattle.esm_machine.specs.ModuleStore.{Imported, is_whole, seen_of, size_by}
use Rattle.esm_machine.specs.Seen.{linked, modules}
use Rattle.esm_machine.specs.declared.condition.Condition.{Condition}
use Rattle.esm_machine.specs.declared.condition.Condition.TheVariants as conditions
use Rattle.esm_machine.specs.Inner.Awaiting.{AreFlags, IsKeptWith, awaits_of}
use Rattle.esm_machine.specs.Inner.Importing.{there, there_too}
use Rattle.esm_machine.proofs.LinkedReads.{entries_read}

-- ---- what is read

flags_are : (c : Condition) (R : List RecordParts) (flags : List Bool) (m : ℕ) → m < size_by c (length R) → AreFlags c R flags → flags ≡ map awaits_of R
flags_are conditions.Whole R flags m lt f = f
flags_are (conditions.Stopped limit) R flags m lt f = f
flags_are conditions.Lost R flags m lt f = absurd (omega (arith, lt))

flag_by : (R : List RecordParts) (m : ℕ) (b : Bool) → slice_get (map awaits_of R) m ≡ Some b → b ≡ (entries_at R m).awaits
flag_by [] m b e = cc
flag_by (r ∷ R) zero b e = sym (some_is e)
flag_by (r ∷ R) (suc m) b e = flag_by R m b e

module _ (i : Imported) (flags : List Bool) (k : IsKeptWith i flags) (m : ℕ) (l : linked (seen_of i) m ≡ true) where
  same : flags ≡ map awaits_of i.records
  same = flags_are i.condition i.records flags m (there i m l) k.flags

  pub flag_there : m < length flags
  flag_there = subst (λ n. m < n) (sym (ap length same ∙ length-map i.records awaits_of)) (there_too i m l)

  pub flag_read : (b : Bool) → slice_get flags m ≡ Some b → b ≡ (entries (modules (seen_of i)) m).awaits
  flag_read b e =
      flag_by i.records m b (subst (λ fs. slice_get fs m ≡ Some b) same e)
      ∙ ap (λ (e : EntryLists). e.awaits) (entries_read i k.kept m l)

-- ---- a module arrives

long : (R : List RecordParts) (flags : List Bool) → flags ≡ map awaits_of R → length flags ≡ length R
long R flags f = ap length f ∙ length-map R awaits_of

last_entries : (R : List RecordParts) (r : RecordParts) → entries_at (R ++ r ∷ []) (length R) ≡ r.entries
last_entries [] r = refl
last_entries (q ∷ R) r = last_entries R r

module _ (R N : List RecordParts) (u : Url) (flags : List Bool) (f : flags ≡ map awaits_of R) where
  -- it has the next flag
  pub flag_more : (b : Bool) (found : Found) → N ≡ records_with R u found → length flags < length N → b ≡ (entries_at N (length flags)).awaits
      → flags ++ b ∷ [] ≡ map awaits_of N
  flag_more b Nothing n lt e = let k = long R flags f in let j : length N ≡ length R = ap length n in absurd (omega (arith, k, j, lt))
  flag_more b (Faulty x) n lt e = let k = long R flags f in let j : length N ≡ length R = ap length n in absurd (omega (arith, k, j, lt))
  flag_more b (Script m) n lt e =
      let r : RecordParts = new_record u (entries_of m.body) m.targets in
      let own : b ≡ awaits_of r =
      e ∙ (ap (λ x. (entries_at N x).awaits) (long R flags f)
      ∙ (ap (λ (rs : List RecordParts). (entries_at rs (length R)).awaits) n ∙ ap (λ (x : EntryLists). x.awaits) (last_entries R r))) in
      (λ i. f i ++ own i ∷ []) ∙ (sym (map-append awaits_of R (r ∷ [])) ∙ ap (map awaits_of) (sym n))

pub flags_arrived : (c : Condition) (R N : List RecordParts) (flags later : List Bool) → is_whole c ≡ true → AreFlags c R flags
    → (flags ≡ map awaits_of R → later ≡ map awaits_of N) → AreFlags c N later
flags_arrived conditions.Whole R N flags later w f g = g f
flags_arrived (conditions.Stopped limit) R N flags later w f g = cc
flags_arrived conditions.Lost R N flags later w f g = cc

-- where the entry alone is asked there is none
pub flags_opened : (R : List RecordParts) (flags : List Bool) → R ≡ [] → flags ≡ [] → flags ≡ map awaits_of R
flags_opened R flags none noted = noted ∙ ap (map awaits_of) (sym none)

-- ---- no module arrives

pub flags_behind : (c d : Condition) (R N : List RecordParts) (flags : List Bool) → is_whole c ≡ true → map awaits_of N ≡ map awaits_of R → AreFlags c R flags → AreFlags d N flags
flags_behind conditions.Whole conditions.Whole R N flags w same f = f ∙ sym same
flags_behind conditions.Whole (conditions.Stopped limit) R N flags w same f = f ∙ sym same
flags_behind conditions.Whole conditions.Lost R N flags w same f = tt
flags_behind (conditions.Stopped limit) d R N flags w same f = cc
flags_behind conditions.Lost d R N flags w same f = cc

awaits_before : (R : List RecordParts) → map awaits_of (map before_linking R) ≡ map awaits_of R
awaits_before [] = refl
awaits_before (r ∷ R) = λ i. awaits_of r ∷ awaits_before R i

-- a call of loading leaves entries as they are
pub awaits_stay : (R N : List RecordParts) → map before_linking N ≡ map before_linking R → map awaits_of N ≡ map awaits_of R
awaits_stay R N same = sym (awaits_before N) ∙ (ap (map awaits_of) same ∙ awaits_before R)

-- so does linking
awaits_by : (N R : List RecordParts) → ((x : ℕ) → option_map without_status (slice_get N x) ≡ option_map without_status (slice_get R x)) → map awaits_of N ≡ map awaits_of R
awaits_by [] [] h = refl
awaits_by [] (r ∷ R) h = let e = h 0 in cc
awaits_by (n ∷ N) [] h = let e = h 0 in cc
awaits_by (n ∷ N) (r ∷ R) h =
    let one : awaits_of n ≡ awaits_of r = ap awaits_of (some_is (h 0)) in
    let rest = awaits_by N R (λ x. h (suc x)) in
    λ i. one i ∷ rest i

pub awaits_linked : (trees : List Parts) (R N : List RecordParts) → LeavesRecords trees R N → map awaits_of N ≡ map awaits_of R
awaits_linked trees R N leaves = awaits_by N R leaves.records
