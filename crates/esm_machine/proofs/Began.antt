-- A call of import() by the records and the loads begins as what lies outside of bodies says, and keeps what is known of them.
use Rattle.std.proofs.Common.{◌≡◌, ℕ, ◌<◌, true, List, map, length, refl, ap, subst, sym}
use Rattle.std.specs.Prelude.{Result, Ok, Err}
use Rattle.esm_base.specs.declared.end.End.{End}
use Rattle.esm_base.specs.declared.end.End.TheVariants as ends
use Rattle.esm_base.specs.declared.limits.Limit.{Limit}
use Rattle.esm_base.specs.Urls.{Text}
use Rattle.esm_import_map.specs.ImportMap.{Maps}
use Rattle.esm_realm.specs.ById.{url_at}
use Rattle.esm_realm.specs.Sound.{RecordParts, IsSound, url_of}
use Rattle.esm_values.specs.Errors.{Errors}
use Rattle.esm_values.specs.Numbering.{numbering}
use Rattle.esm_promise.specs.Code.{Numbered}
use Rattle.esm_loads.specs.Fits.{FitRecords}
use Rattle.esm_loads.specs.Host.{Host}
use Rattle.esm_loads.specs.Hosted.{host_of, stopped_by, IsImport}
use Rattle.esm_loads.specs.ImportCall.{BeginsImport}
use Rattle.esm_loads.specs.Laws.{IsOrderly, OnlyGrows, StaysOrderly, StaysWhole}
use Rattle.esm_loads.specs.Loaded.{HaveLoaded}
use Rattle.esm_loads.specs.Loading.{Loading}
use Rattle.esm_loads.specs.LoadsView.{before_linking}
use Rattle.esm_loads.specs.LoadsAsLoading.{loading_of}
use Rattle.esm_loads.specs.Whole.{IsWhole}
use Rattle.esm_loads.specs.declared.loads.Loads.{Loads}
use Rattle.esm_body.specs.Importers.{Begun, outer_with}
use Rattle.esm_rewriting.specs.declared.stop.Stop.{Stop}
use Rattle.esm_machine.specs.Seen.{BeginsById}
use Rattle.esm_machine.specs.ModuleStore.{imported, seen_of, linked_urls, is_whole, condition_by, stop_by}
use Rattle.esm_machine.specs.Kept.{Show, GoesOn, IsKept}
use Rattle.esm_machine.specs.declared.condition.Condition.{Condition}
use Rattle.esm_machine.specs.declared.condition.Condition.TheVariants as conditions
use Rattle.esm_machine.specs.Inner.Importing.{Named}
use Rattle.esm_machine.proofs.Shows.{shows, name_at}
use Rattle.esm_machine.proofs.Stays.{urls_stay, linked_stay, idle_stays, show_stays}

-- what is known stays so where nothing was refused
pub kept_whole : (R S : List RecordParts) (t l : Loads) (maps : Maps) (c : Condition) → is_whole c ≡ true → IsKept (imported R t maps c) → IsSound S
    → (GoesOn (imported R t maps conditions.Whole) → GoesOn (imported S l maps conditions.Whole)) → IsKept (imported S l maps c)
kept_whole R S t l maps conditions.Whole w k sound goes = record { sound = sound; known = goes k.known }
kept_whole R S t l maps (conditions.Stopped limit) w k sound goes = cc
kept_whole R S t l maps conditions.Lost w k sound goes = cc

-- records and loads before a call and behind it, with promises and errors
module _ (R S : List RecordParts) (t l : Loads) (maps : Maps) (same : map before_linking S ≡ map before_linking R) where
  abbrev Before : Loading
  Before = loading_of maps t R

  abbrev After : Loading
  After = loading_of maps l S

  -- ---- what is known

  -- nothing was refused
  pub goes_on : GoesOn (imported R t maps conditions.Whole) → FitRecords l S → HaveLoaded S → IsOrderly After → IsWhole After
      → GoesOn (imported S l maps conditions.Whole)
  goes_on k fits loaded orderly whole = record {
    fits = fits;
    orderly = orderly;
    whole = whole;
    loaded = loaded;
    idle = idle_stays R S same k.idle;
  }

  -- a limit stopped the call
  shows_on : (limit : Limit) → After.entries ≡ Before.entries → IsSound R → GoesOn (imported R t maps conditions.Whole) → Show S (seen_of (imported S l maps (conditions.Stopped limit)))
  shows_on limit still s k = show_stays R S same Before (stopped_by After limit) still s (shows R t maps s k)

  kept_by : (end : End Limit) → IsSound R → GoesOn (imported R t maps conditions.Whole) → IsSound S
      → ((limit : Limit) → end ≡ ends.Fault limit → After.entries ≡ Before.entries) → IsKept (imported S l maps (condition_by end))
  kept_by (ends.Fault limit) s k sound still = record { sound = sound; known = shows_on limit (still limit refl) s k }
  kept_by ends.Memory s k sound still = record { sound = sound; known = tt }

  pub kept_err : (c d : Condition) (end : End Limit) → is_whole c ≡ true → d ≡ condition_by end → IsKept (imported R t maps c) → IsSound S
      → ((limit : Limit) → end ≡ ends.Fault limit → After.entries ≡ Before.entries) → IsKept (imported S l maps d)
  kept_err conditions.Whole d end w e k sound still = subst (λ d. IsKept (imported S l maps d)) (sym e) (kept_by end k.sound k.known sound still)
  kept_err (conditions.Stopped limit) d end w e k sound still = cc
  kept_err conditions.Lost d end w e k sound still = cc

  -- ---- import()

  module _ (promises promises_after : Numbered) (errors errors_after : Errors) where
    abbrev H : Host
    H = host_of (Named R) promises errors Before

    abbrev Left : Loading → Host
    Left k = host_of (Named R) promises_after errors_after k

    begins : (m : ℕ) (text : Text) (p : ℕ) (end : Result (Unit {0}) Limit) (k : Loading) → IsSound R → m < length R → BeginsImport H (url_at R m) text p end (Left k)
        → BeginsById (outer_with promises errors (record { loading = Before; urls = map url_of R; linked = linked_urls R })) m text p end
        (outer_with promises_after errors_after (record { loading = k; urls = map url_of S; linked = linked_urls S }))
    begins m text p end k s lt b = record {
      urls = urls_stay R S same;
      linked = linked_stay R S same;
      begins =
          subst (λ us. BeginsImport H (Named R m) text p end (host_of (numbering us).name promises_after errors_after k)) (sym (urls_stay R S same))
          (subst (λ u. BeginsImport H u text p end (Left k)) (sym (name_at R m s lt)) b);
    }

    pub begun_ok : (c : Condition) (m : ℕ) (text : Text) (p : ℕ) → is_whole c ≡ true → IsKept (imported R t maps c) → m < length R
        → IsImport H (url_at R m) text p (Ok tt) (Left After)
        → Begun BeginsById (outer_with promises errors (seen_of (imported R t maps c))) m text p (Ok tt) (outer_with promises_after errors_after (seen_of (imported S l maps c)))
    begun_ok conditions.Whole m text p w k lt i = begins m text p (Ok tt) After k.sound lt i.begins
    begun_ok (conditions.Stopped limit) m text p w k lt i = cc
    begun_ok conditions.Lost m text p w k lt i = cc

    begun_by : (end : End Limit) (m : ℕ) (text : Text) (p : ℕ) → IsSound R → m < length R → IsImport H (url_at R m) text p (Err end) (Left After)
        → Begun BeginsById (outer_with promises errors (seen_of (imported R t maps conditions.Whole))) m text p (Err (stop_by end))
        (outer_with promises_after errors_after (seen_of (imported S l maps (condition_by end))))
    begun_by (ends.Fault limit) m text p s lt i = begins m text p (Err limit) (stopped_by After limit) s lt (i.limit limit refl)
    begun_by ends.Memory m text p s lt i = tt

    pub begun_err : (c d : Condition) (stop : Stop) (end : End Limit) (m : ℕ) (text : Text) (p : ℕ) → is_whole c ≡ true → d ≡ condition_by end → stop ≡ stop_by end
        → IsKept (imported R t maps c) → m < length R → IsImport H (url_at R m) text p (Err end) (Left After)
        → Begun BeginsById (outer_with promises errors (seen_of (imported R t maps c))) m text p (Err stop) (outer_with promises_after errors_after (seen_of (imported S l maps d)))
    begun_err conditions.Whole d stop end m text p w e f k lt i =
        subst (λ d. Begun BeginsById (outer_with promises errors (seen_of (imported R t maps conditions.Whole))) m text p (Err stop) (outer_with promises_after errors_after (seen_of (imported S l maps d)))) (sym e)
        (subst (λ stop. Begun BeginsById (outer_with promises errors (seen_of (imported R t maps conditions.Whole))) m text p (Err stop) (outer_with promises_after errors_after (seen_of (imported S l maps (condition_by end))))) (sym f)
        (begun_by end m text p k.sound lt i))
    begun_err (conditions.Stopped limit) d stop end m text p w e f k lt i = cc
    begun_err conditions.Lost d stop end m text p w e f k lt i = cc

    -- what an import() that isn't refused keeps
    pub import_keeps : StaysOrderly → StaysWhole → (m : ℕ) (text : Text) (p : ℕ) → IsImport H (url_at R m) text p (Ok tt) (Left After)
        → FitRecords l S → (IsWhole Before → HaveLoaded R → HaveLoaded S) → GoesOn (imported R t maps conditions.Whole) → GoesOn (imported S l maps conditions.Whole)
    import_keeps orderly whole m text p i fits loaded k =
        let call = i.begins.imports in
        goes_on k fits (loaded k.whole k.loaded) (orderly.imports H (Left After) (url_at R m) text p k.orderly call)
        (whole.imports H (Left After) (url_at R m) text p k.whole call)

    -- the same entries stand under URLs where a limit stopped it
    pub import_still : OnlyGrows → (m : ℕ) (text : Text) (p : ℕ) (end : End Limit) → IsImport H (url_at R m) text p (Err end) (Left After)
        → (limit : Limit) → end ≡ ends.Fault limit → After.entries ≡ Before.entries
    import_still grows m text p end i limit e =
        (grows.imports H (Left (stopped_by After limit)) (url_at R m) text p (i.limit limit (ap Err e)).imports).entries
