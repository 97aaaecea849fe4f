-- What a run of an entry did, from what was written: it went to its end, and is one function of clean files.
use mathlib.Core.Bool.{true≢false}
use Rattle.std.proofs.Common.{Bool, ◌≡◌, ◌≢◌, ◌∙◌, ap, sym, subst, refl, ℕ, List, [], ◌∷◌, ◌++◌, arith, ◌⊎◌, inl, inr, true, false, suc}
use Rattle.std.specs.Prelude.{Option, Some, None, option_map, All, Any, is_some}
use Rattle.esm_base.specs.declared.limits.Limit as limits
use Rattle.esm_base.specs.declared.status.Status.{Status}
use Rattle.esm_base.specs.declared.status.Status.TheVariants.{WriteFault, Limit, Memory}
use Rattle.esm_ports.specs.declared.asked.Asked.{Asked}
use Rattle.esm_ports.specs.Sink.{Grew}
use Rattle.esm_loads.specs.Arrival.{open_asks}
use Rattle.esm_base.specs.Urls.{Url, has, same_url}
use Rattle.esm_realm.proofs.Urls.{or_cases, same_text}
use Rattle.esm_world.specs.LastLine.{IsLastLine, ending_by, Ending, exit_status, Stopped, Uncaught, Done, Pending}
use Rattle.esm_loads.specs.LoadsView.{every_form}
use Rattle.esm_world.specs.Run.{Shown, shown, ending, StandardRun}
use Rattle.esm_ast.specs.Deliveries.{Delivery, Files, AreOfFiles, asks_by}
use Rattle.esm_world.specs.Direct.{IsClean}
use Rattle.esm_world.specs.OnOrder.{OrderFreeWithin}
use Rattle.esm_direct_laws.specs.Asks.{AsksClosure}
use Rattle.esm_order_laws.specs.OrderFree.{ShowSame}
use Rattle.esm_limit_laws.specs.Loaded.{StoppedLoading, HasLoadedRun, OrderFreeLoaded}
use Rattle.esm_world.specs.World.{EntryState, opening, stopped}
use Rattle.esm_world.specs.Laws.{OpenAsks, DeliversAll, urls_of}
use Rattle.esm_import_map.specs.ImportMap.{Maps}
use Rattle.esm_fetch.specs.Answered.{Contents}
use Rattle.esm_run.specs.Taken.{IsTrueRecord, IsAskedOnce}
use Rattle.esm_run.specs.Written.{SinkChange, IsUnwritten, WroteWhole, EndsWith, Whole, SinkFailed, OutOfMemory, last_text, written_text}
use Rattle.esm_run.specs.OneFunction.{WroteAsEachRun, WroteAsDirect, WroteAsFiles}
use Rattle.esm_run.specs.Report.{IsStandard, IsComplete, AsksAsStandard, IsEntryRun}
use Rattle.esm_run.proofs.FilesLemmas.{OneTree, NoFault, are_of_files}

-- at a status that is no fault and for which memory didn't run out the whole text was written
pub ends_whole : (wanted : Option Status) (text : List ℕ) (status : Status) (sink : SinkChange) → EndsWith wanted text status sink
    → status ≢ WriteFault → status ≢ Memory → (wanted ≡ Some status) × WroteWhole text sink
ends_whole wanted text status sink (Whole is not_write_fault not_memory wrote) f m = (is, wrote)
ends_whole wanted text status sink (SinkFailed is front rose) f m = absurd (f is)
ends_whole wanted text status sink (OutOfMemory is front same) f m = absurd (m is)

-- ---- the entry was delivered

opening_is_open : (maps : Maps) (entry : Url) (trace : Bool) → ending (opening maps every_form entry trace) ≡ None
opening_is_open maps entry trace = refl

any_here : {X : Type 0} (P : X → Type 0) (x : X) (xs : List X) → P x → Any P (x ∷ xs)
any_here P x xs h = (0, x, omega arith, refl, h)

only_entry : (entry url : Url) → has (entry ∷ []) url ≡ true → url ≡ entry
only_entry entry url h = by (or_cases (same_url url entry) false h)
  where
    by : (same_url url entry ≡ true) ⊎ (false ≡ true) → url ≡ entry
    by (inl same) = same_text url entry same
    by (inr never) = absurd (true≢false (sym never))

-- what the run shows over which nothing is delivered
opening_run : (maps : Maps) (entry : Url) (trace : Bool) → StandardRun maps every_form entry trace [] (shown (opening maps every_form entry trace) [])
opening_run maps entry trace = record {
  world = opening maps every_form entry trace;
  line = [];
  runs = refl;
  last_line = subst (λ e. IsLastLine (opening maps every_form entry trace) e []) (sym (opening_is_open maps entry trace)) refl;
  shows = refl;
}

has_entry : OpenAsks → (maps : Maps) (entry : Url) (trace : Bool) (taken : List Delivery) (what : Shown) → StandardRun maps every_form entry trace taken what → what.ended ≡ true
    → Any (λ (delivery : Delivery). delivery.url ≡ entry) taken
has_entry law maps entry trace [] what run ended =
    let none : what.ended ≡ false = ap (λ (s : Shown). s.ended) run.shows ∙ ap (λ w. is_some (ending w)) run.runs ∙ ap is_some (opening_is_open maps entry trace) in
    absurd (true≢false (sym ended ∙ none))
has_entry law maps entry trace (delivery ∷ taken) what run ended =
    any_here (λ (a : Delivery). a.url ≡ entry) delivery taken
    (only_entry entry delivery.url (law maps every_form entry trace [] (shown (opening maps every_form entry trace) []) delivery.url (opening_run maps entry trace) run.runs.0.asked).0)

-- ---- each URL that was asked was delivered

any_later : {X : Type 0} (P : X → Type 0) (x : X) (xs : List X) → Any P xs → Any P (x ∷ xs)
any_later P x xs (k, d, within, is, h) = (suc k, d, omega arith, is, h)

taken_has : (taken : List Delivery) (url : Url) → has (urls_of taken) url ≡ true → Any (λ (delivery : Delivery). delivery.url ≡ url) taken
taken_has [] url h = absurd (true≢false (sym h))
taken_has (delivery ∷ taken) url h = by (or_cases (same_url url delivery.url) (has (urls_of taken) url) h) (taken_has taken url)
  where
    by : (same_url url delivery.url ≡ true) ⊎ (has (urls_of taken) url ≡ true) → (has (urls_of taken) url ≡ true → Any (λ (a : Delivery). a.url ≡ url) taken)
        → Any (λ (a : Delivery). a.url ≡ url) (delivery ∷ taken)
    by (inl same) rest = any_here (λ (a : Delivery). a.url ≡ url) delivery taken (sym (same_text url delivery.url same))
    by (inr later) rest = any_later (λ (a : Delivery). a.url ≡ url) delivery taken (rest later)

ended_asks : (stop : Option limits.Limit) (urls : List Url) (entry : EntryState) → is_some (ending_by stop (asks_by stop urls) entry) ≡ true → asks_by stop urls ≡ []
ended_asks (Some limit) urls entry ended = refl
ended_asks None [] entry ended = refl
ended_asks None (u ∷ urls) entry ended = absurd (true≢false (sym ended))

-- a run that has ended has no open ask
none_open : (maps : Maps) (entry : Url) (trace : Bool) (taken : List Delivery) (what : Shown) → StandardRun maps every_form entry trace taken what → what.ended ≡ true → what.asks ≡ []
none_open maps entry trace taken what run ended =
    ap (λ (s : Shown). s.asks) run.shows ∙ ended_asks (stopped run.world) (open_asks run.world.loading) run.world.entry (sym (ap (λ (s : Shown). s.ended) run.shows) ∙ ended)

has_asked : DeliversAll → (maps : Maps) (entry : Url) (trace : Bool) (taken : List Delivery) (status : Status) (what : Shown) → StandardRun maps every_form entry trace taken what → what.ended ≡ true → what.status ≡ Some status
    → status ≢ Limit → (url : Url) → has what.asked url ≡ true → Any (λ (delivery : Delivery). delivery.url ≡ url) taken
has_asked law maps entry trace taken status what run ended is unlike url asked = by (law maps every_form entry trace taken what url run (λ e. unlike (cc (is, e))) asked)
  where
    none : what.asks ≡ []
    none = none_open maps entry trace taken what run ended

    by : (has what.asks url ≡ true) ⊎ (has (urls_of taken) url ≡ true) → Any (λ (delivery : Delivery). delivery.url ≡ url) taken
    by (inl open') = absurd (true≢false (sym (ap (λ us. has us url) (sym none) ∙ open')))
    by (inr delivered) = taken_has taken url delivered

-- ---- the ways a run ends

complete_by : OpenAsks → DeliversAll → (maps : Maps) (entry : Url) (trace : Bool) (taken : List Delivery) (front : List ℕ) (status : Status) (sink : SinkChange) (what : Shown) → StandardRun maps every_form entry trace taken what
    → what.ended ≡ true → EndsWith what.status (front ++ written_text what) status sink → sink.faults_after ≡ sink.faults_before → (status ≡ Memory) ⊎ IsComplete maps entry trace taken front status sink
complete_by law all maps entry trace taken front status sink what run ended (Whole is not_write_fault not_memory wrote) same =
    inr (record { what = what; run = run; ended = ended; status_is = is; whole = wrote.0; has_entry = has_entry law maps entry trace taken what run ended; has_asked = has_asked all maps entry trace taken status what run ended is })
complete_by law all maps entry trace taken front status sink what run ended (SinkFailed is prefix rose) same = absurd (omega arith)
complete_by law all maps entry trace taken front status sink what run ended (OutOfMemory is prefix calm) same = inl is

-- ---- what is written where the files are clean

same_text_of : (one other : Shown) → ShowSame one other → written_text other ≡ written_text one
same_text_of one other same = ap (λ log. log ++ last_text other.last_line) same.log ∙ ap (λ line. one.log ++ last_text line) same.last_line

-- by a limit, or not
limit_or_not : (e : Option Ending) → (option_map exit_status e ≡ Some Limit) ⊎ (option_map exit_status e ≢ Some Limit)
limit_or_not None = inr (λ same. cc same)
limit_or_not (Some (Stopped limit)) = inl refl
limit_or_not (Some (Uncaught thrown)) = inr (λ same. cc same)
limit_or_not (Some Done) = inr (λ same. cc same)
limit_or_not (Some Pending) = inr (λ same. cc same)

ends_by_limit_or_not : (maps : Maps) (entry : Url) (trace : Bool) (taken : List Delivery) (what : Shown) → StandardRun maps every_form entry trace taken what → (what.status ≡ Some Limit) ⊎ (what.status ≢ Some Limit)
ends_by_limit_or_not maps entry trace taken what run =
    subst (λ (o : Option Status). (o ≡ Some Limit) ⊎ (o ≢ Some Limit)) (sym (ap (λ (s : Shown). s.status) run.shows)) (limit_or_not (ending run.world))

-- the run over what was taken, which has ended so, writes what every run of these files does
as_each_run : OrderFreeLoaded → (maps : Maps) (entry : Url) (trace : Bool) (taken : List Delivery) (front : List ℕ) (status : Status) (sink : SinkChange) (what : Shown) → StandardRun maps every_form entry trace taken what
    → what.ended ≡ true → what.status ≡ Some status → WroteWhole (front ++ written_text what) sink
    → (files : Files) → AreOfFiles files taken → IsClean maps every_form files entry → WroteAsEachRun maps files entry trace front status sink
as_each_run loaded maps entry trace taken front status sink what run ended is wrote files here clean others other there other_run other_ended = record {
  status_is = by (ends_by_limit_or_not maps entry trace taken what run) (ends_by_limit_or_not maps entry trace others other other_run);
  whole = λ none. subst (λ text. Grew sink.written_before sink.written_after (front ++ text)) (same_text_of other what (same_as_other none)) wrote.0;
}
  where
    loaded_run : (deliveries : List Delivery) (one : Shown) → AreOfFiles files deliveries → StandardRun maps every_form entry trace deliveries one → one.ended ≡ true → (StoppedLoading one → ⊥)
        → HasLoadedRun maps every_form files entry trace one
    loaded_run deliveries one of_files one_run one_ended none =
        record { clean = clean; deliveries = deliveries; of_files = of_files; run = one_run; ends = record { ended = one_ended; loaded = none } }

    same_as_other : (StoppedLoading other → ⊥) → ShowSame other what
    same_as_other none =
        loaded maps every_form files entry trace other what taken (loaded_run others other there other_run other_ended none) here run (none_open maps entry trace taken what run ended)

    same_as_this : (StoppedLoading what → ⊥) → ShowSame what other
    same_as_this none =
        loaded maps every_form files entry trace what other others (loaded_run taken what here run ended none) there other_run (none_open maps entry trace others other other_run other_ended)

    by : (what.status ≡ Some Limit) ⊎ (what.status ≢ Some Limit) → (other.status ≡ Some Limit) ⊎ (other.status ≢ Some Limit) → other.status ≡ Some status
    by (inr within) too = (same_as_this (λ stop. within stop.limited)).status ∙ is
    by (inl limited) (inr within) = absurd (within (sym (same_as_other (λ stop. within stop.limited)).status ∙ limited))
    by (inl limited) (inl too) = too ∙ sym limited ∙ is

-- and what their direct run shows, where that meets no limit
as_direct : OrderFreeWithin → (maps : Maps) (entry : Url) (trace : Bool) (taken : List Delivery) (front : List ℕ) (status : Status) (sink : SinkChange) (what : Shown) → StandardRun maps every_form entry trace taken what
    → what.ended ≡ true → what.status ≡ Some status → WroteWhole (front ++ written_text what) sink
    → (files : Files) → AreOfFiles files taken → IsClean maps every_form files entry → WroteAsDirect maps files entry trace front status sink
as_direct within maps entry trace taken front status sink what run ended is wrote files here clean modules after direct meets =
    (what, within maps every_form files entry trace taken modules what after clean here run (none_open maps entry trace taken what run ended) direct meets, is, wrote.0)

standard_as_files : OrderFreeLoaded → OrderFreeWithin → (maps : Maps) (entry : Url) (trace : Bool) (taken : List Delivery) (front : List ℕ) (status : Status) (sink : SinkChange) → IsStandard maps entry trace taken front status sink
    → status ≢ WriteFault → status ≢ Memory
    → (files : Files) → AreOfFiles files taken → IsClean maps every_form files entry → WroteAsFiles maps files entry trace taken front status sink
standard_as_files loaded within maps entry trace taken front status sink standard f m files here clean = by standard.ends
  where
    by : ((status ≡ Memory) × IsUnwritten sink) ⊎ ((standard.what.ended ≡ true) × EndsWith standard.what.status (front ++ written_text standard.what) status sink)
        → WroteAsFiles maps files entry trace taken front status sink
    by (inl short) = absurd (m short.0)
    by (inr whole) =
        let ends = ends_whole standard.what.status (front ++ written_text standard.what) status sink whole.1 f m in
        record {
          of_files = here;
          each_run = as_each_run loaded maps entry trace taken front status sink standard.what standard.run whole.0 ends.0 ends.1 files here clean;
          direct = as_direct within maps entry trace taken front status sink standard.what standard.run whole.0 ends.0 ends.1 files here clean;
        }

-- ---- the run of an entry

complete_from : OpenAsks → DeliversAll → (maps : Maps) (entry : Url) (trace : Bool) (taken : List Delivery) (front : List ℕ) (status : Status) (sink : SinkChange) → IsStandard maps entry trace taken front status sink
    → sink.faults_after ≡ sink.faults_before → (status ≡ Memory) ⊎ IsComplete maps entry trace taken front status sink
complete_from law all maps entry trace taken front status sink standard same = by standard.ends
  where
    by : ((status ≡ Memory) × IsUnwritten sink) ⊎ ((standard.what.ended ≡ true) × EndsWith standard.what.status (front ++ written_text standard.what) status sink)
        → (status ≡ Memory) ⊎ IsComplete maps entry trace taken front status sink
    by (inl short) = inl short.0
    by (inr whole) = complete_by law all maps entry trace taken front status sink standard.what standard.run whole.0 whole.1 same

-- the laws from which all follows of what was written
pub record Laws : Type 0 where
  pub open_asks : OpenAsks
  pub delivers : DeliversAll
  pub loaded : OrderFreeLoaded
  pub within : OrderFreeWithin
  pub closure : AsksClosure
  pub tree : OneTree
  pub fault : NoFault

module _ {S : Type 0} (asked_of : S → List Asked) (holds_of : S → Option Contents) where
  pub entry_by : Laws → (maps : Maps) (entry : Url) (trace : Bool) (workers : ℕ) (taken : List Delivery) (front : List ℕ) (status : Status) (given back : List S) (sink : SinkChange)
      → All (λ s. asked_of s ≡ []) given → IsTrueRecord asked_of holds_of taken back → IsAskedOnce asked_of holds_of workers given back → AsksAsStandard asked_of maps entry trace taken back
      → IsStandard maps entry trace taken front status sink → IsEntryRun asked_of holds_of maps entry trace workers taken front status given back sink
  entry_by laws maps entry trace workers taken front status given back sink fresh true_record once asks standard = record {
    standard = standard;
    true_record = true_record;
    asked_once = once;
    asks = asks;
    complete = complete_from laws.open_asks laws.delivers maps entry trace taken front status sink standard;
    one_function = λ f m files are clean.
        standard_as_files laws.loaded laws.within maps entry trace taken front status sink standard f m files
        (are_of_files laws.tree laws.fault asked_of holds_of maps entry trace workers taken given back laws.closure fresh true_record once standard.what standard.run standard.read files are clean) clean;
  }
