-- An answer to a pending request, by the records and the loads.
use Rattle.std.proofs.Common.{◌≡◌, ℕ, Bool, true, false, List, map, None, refl, ap, subst, sym}
use Rattle.std.specs.Prelude.{Result, Ok, Err}
use Rattle.esm_base.specs.declared.end.End.{End}
use Rattle.esm_base.specs.declared.end.End.TheVariants as ends
use Rattle.esm_base.specs.declared.limits.Limit.{Limit}
use Rattle.esm_base.specs.Urls.{Url}
use Rattle.esm_import_map.specs.ImportMap.{Maps}
use Rattle.esm_realm.specs.Sound.{RecordParts}
use Rattle.esm_values.specs.Errors.{Errors}
use Rattle.esm_promise.specs.Code.{Numbered}
use Rattle.esm_loads.specs.Arrival.{AnswersNext, next}
use Rattle.esm_loads.specs.Fits.{FitRecords}
use Rattle.esm_loads.specs.Host.{Host}
use Rattle.esm_loads.specs.Hosted.{host_of, stopped_by}
use Rattle.esm_loads.specs.Laws.{OnlyGrows, StaysOrderly, StaysWhole}
use Rattle.esm_loads.specs.Loaded.{HaveLoaded}
use Rattle.esm_loads.specs.Loading.{Loading}
use Rattle.esm_loads.specs.LoadsView.{before_linking}
use Rattle.esm_loads.specs.LoadsAsLoading.{loading_of}
use Rattle.esm_loads.specs.Whole.{IsWhole}
use Rattle.esm_loads.specs.declared.loads.Loads.{Loads}
use Rattle.esm_machine.specs.Calls.{AnswersBy, KeepsRecords, UnlessLost}
use Rattle.esm_machine.specs.ModuleStore.{imported, seen_of, is_whole, condition_by}
use Rattle.esm_machine.specs.Kept.{GoesOn}
use Rattle.esm_machine.specs.declared.condition.Condition.{Condition}
use Rattle.esm_machine.specs.declared.condition.Condition.TheVariants as conditions
use Rattle.esm_machine.proofs.Stays.{urls_stay, linked_stay}
use Rattle.esm_machine.proofs.Began.{goes_on}

pub whole_is : (c : Condition) → is_whole c ≡ true → c ≡ conditions.Whole
whole_is conditions.Whole w = refl
whole_is (conditions.Stopped limit) w = cc
whole_is conditions.Lost w = cc

abbrev pub answered : Bool → Result Bool (End Limit)
answered b = Ok b

abbrev pub refused : End Limit → Result Bool (End Limit)
refused end = Err end

module _ (R S : List RecordParts) (t l : Loads) (maps : Maps) where
  abbrev Before : Loading
  Before = loading_of maps t R

  abbrev After : Loading
  After = loading_of maps l S

  -- ---- which modules there are

  pub leaves_ok : map before_linking S ≡ map before_linking R → (c : Condition) → is_whole c ≡ true
      → UnlessLost c (KeepsRecords (seen_of (imported R t maps c)) (seen_of (imported S l maps c)))
  leaves_ok same conditions.Whole w = record { urls = urls_stay R S same; linked = linked_stay R S same }
  leaves_ok same (conditions.Stopped limit) w = cc
  leaves_ok same conditions.Lost w = cc

  leaves_by : map before_linking S ≡ map before_linking R → (end : End Limit)
      → UnlessLost (condition_by end) (KeepsRecords (seen_of (imported R t maps conditions.Whole)) (seen_of (imported S l maps (condition_by end))))
  leaves_by same (ends.Fault limit) = record { urls = urls_stay R S same; linked = linked_stay R S same }
  leaves_by same ends.Memory = tt

  pub leaves_err : map before_linking S ≡ map before_linking R → (c d : Condition) (end : End Limit) → is_whole c ≡ true → d ≡ condition_by end
      → UnlessLost d (KeepsRecords (seen_of (imported R t maps c)) (seen_of (imported S l maps d)))
  leaves_err same conditions.Whole d end w e =
      subst (λ d. UnlessLost d (KeepsRecords (seen_of (imported R t maps conditions.Whole)) (seen_of (imported S l maps d)))) (sym e) (leaves_by same end)
  leaves_err same (conditions.Stopped limit) d end w e = cc
  leaves_err same conditions.Lost d end w e = cc

  module _ (named : ℕ → Url) (promises promises_after : Numbered) (errors errors_after : Errors) where
    abbrev H : Host
    H = host_of named promises errors Before

    abbrev Left : Loading → Host
    Left k = host_of named promises_after errors_after k

    -- ---- the answer

    pub answers_ok : (b : Bool) (c : Condition) → is_whole c ≡ true → (answered b ≡ Ok true → AnswersNext H (Left After)) → (answered b ≡ Ok false → next Before ≡ None)
        → AnswersBy (Ok b) (host_of named promises errors (seen_of (imported R t maps c)).loading) (host_of named promises_after errors_after (seen_of (imported S l maps c)).loading)
    answers_ok true conditions.Whole w f g = f refl
    answers_ok false conditions.Whole w f g = g refl
    answers_ok b (conditions.Stopped limit) w f g = cc
    answers_ok b conditions.Lost w f g = cc

    answers_by : (end : End Limit) → ((limit : Limit) → refused end ≡ Err (ends.Fault limit) → AnswersNext H (Left (stopped_by After limit)))
        → AnswersBy (Err end) H (host_of named promises_after errors_after (seen_of (imported S l maps (condition_by end))).loading)
    answers_by (ends.Fault limit) f = f limit refl
    answers_by ends.Memory f = tt

    pub answers_err : (end : End Limit) (c d : Condition) → is_whole c ≡ true → d ≡ condition_by end
        → ((limit : Limit) → refused end ≡ Err (ends.Fault limit) → AnswersNext H (Left (stopped_by After limit)))
        → AnswersBy (Err end) (host_of named promises errors (seen_of (imported R t maps c)).loading) (host_of named promises_after errors_after (seen_of (imported S l maps d)).loading)
    answers_err end conditions.Whole d w e f =
        subst (λ d. AnswersBy (Err end) H (host_of named promises_after errors_after (seen_of (imported S l maps d)).loading)) (sym e) (answers_by end f)
    answers_err end (conditions.Stopped limit) d w e f = cc
    answers_err end conditions.Lost d w e f = cc

    -- ---- what is known

    pub answer_keeps : map before_linking S ≡ map before_linking R → StaysOrderly → StaysWhole → (b : Bool)
        → (answered b ≡ Ok true → AnswersNext H (Left After)) → (answered b ≡ Ok false → l ≡ t) → (answered b ≡ Ok false → S ≡ R)
        → FitRecords l S → (IsWhole Before → HaveLoaded R → HaveLoaded S) → GoesOn (imported R t maps conditions.Whole) → GoesOn (imported S l maps conditions.Whole)
    answer_keeps same orderly whole true f g h fits loaded k =
        let call : AnswersNext H (Left After) = f refl in
        goes_on R S t l maps same k fits (loaded k.whole k.loaded) (orderly.next H (Left After) k.orderly call) (whole.next H (Left After) k.whole call)
    answer_keeps same orderly whole false f g h fits loaded k =
        subst (λ rs. GoesOn (imported rs l maps conditions.Whole)) (sym (h refl)) (subst (λ x. GoesOn (imported R x maps conditions.Whole)) (sym (g refl)) k)

    pub answer_still : OnlyGrows → (end : End Limit) → ((limit : Limit) → refused end ≡ Err (ends.Fault limit) → AnswersNext H (Left (stopped_by After limit)))
        → (limit : Limit) → end ≡ ends.Fault limit → After.entries ≡ Before.entries
    answer_still grows end f limit e = (grows.next H (Left (stopped_by After limit)) (f limit (ap refused e))).entries
