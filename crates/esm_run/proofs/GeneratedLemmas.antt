-- A run over generated input.
use Rattle.std.proofs.Common.{◌≡◌, ◌≢◌, ◌∙◌, ap, sym, subst, refl, ℕ, zero, suc, List, [], ◌∷◌, length, map, arith, inl, false}
use Rattle.std.specs.Prelude.{Option, Some, None, IsSomeAnd, All, Contains, take}
use Rattle.std.proofs.lemmas.List.Elements.{All-nil, All-cons, All-map, All-weaker}
use Rattle.esm_base.specs.declared.limits.TheConstants.{MAX_BODY_BYTES}
use Rattle.esm_base.specs.declared.status.Status.{Status}
use Rattle.esm_base.specs.declared.status.Status.TheVariants.{Memory}
use Rattle.esm_ports.specs.declared.asked.Asked.{Asked}
use Rattle.esm_ports.specs.declared.asked.AskKind.TheVariants as kinds
use Rattle.esm_ports.specs.Asks.{failed_count}
use Rattle.esm_ast.specs.Deliveries.{Delivery}
use Rattle.esm_ast.specs.Outcome.{OutcomeView, Script, Broken, Absent, Failed}
use Rattle.esm_base.specs.Urls.{Url}
use Rattle.esm_import_map.specs.ImportMap.{Maps, no_maps}
use Rattle.esm_loads.specs.LoadsView.{every_form}
use Rattle.esm_rewriting.specs.Keeps.{started}
use Rattle.esm_world.specs.World.{opening}
use Rattle.esm_world.specs.Run.{Shown}
use Rattle.esm_world.specs.Laws.{HasStandardRun}
use Rattle.esm_fetch.specs.Answered.{Contents, IsRead, IsToldOutcome, kind_of}
use Rattle.esm_machine.specs.Machine.{MachineParts}
use Rattle.esm_arguments.specs.declared.command.Generation.{Generation}
use Rattle.esm_gen.specs.declared.source.GeneratedSource.{GeneratedSource}
use Rattle.esm_gen.specs.Generated.{generated_at, module_url}
use Rattle.esm_gen.specs.declared.summary.Summary.{Summary}
use Rattle.esm_run.specs.Taken.{ask_of, WasDelivered}
use Rattle.esm_run.specs.Written.{SinkChange, IsUnwritten}
use Rattle.esm_run.specs.Summed.{line_count, summary_of}
use Rattle.esm_run.specs.Generated.{IsGenerated, IsOfFile, RunsGenerated}
use Rattle.esm_run.specs.Inner.Generating.{EndsGenerated, HoldsGenerated}
use Rattle.esm_run.specs.Inner.Leading.{EndsDriven}
use Rattle.esm_run.specs.Report.{IsGraphRun}
use Rattle.esm_run.proofs.ReportLemmas.{pairs_nil}

-- ---- the summary

abbrev summary : ℕ → ℕ → ℕ → Status → Summary
summary modules starts lines end = record { modules = modules; started = starts; lines = lines; status = end }

pub summary_is : (modules count starts lines : ℕ) (what : Shown) (end : Status) → modules ≡ count → starts ≡ length (started what.events) → lines ≡ line_count what.log
    → summary modules starts lines end ≡ summary_of count what end
summary_is modules count starts lines what end modules_are starts_are lines_are =
    ap (λ n. summary n starts lines end) modules_are
    ∙ ap (λ n. summary count n lines end) starts_are
    ∙ ap (λ n. summary count (length (started what.events)) n end) lines_are

-- ---- what the sources answered

-- none of what was asked failed
no_failed : (asked : List Asked) (ask : Asked) → failed_count asked ≡ 0 → Contains asked ask → ask.kind ≢ kinds.Failed
no_failed [] ask none (k, within, is) failed = absurd (omega arith)
no_failed (a ∷ asked) ask none (zero, within, is) failed =
    let same : a ≡ ask = is in
    let one : failed_count (ask ∷ asked) ≡ 0 = subst (λ (x : Asked). failed_count (x ∷ asked) ≡ 0) same none in
    let more : failed_count (record { url = ask.url; kind = kinds.Failed } ∷ asked) ≡ 0 = subst (λ kind. failed_count (record { url = ask.url; kind = kind } ∷ asked) ≡ 0) failed one in
    omega (arith, more)
no_failed (a ∷ asked) ask none (suc k, within, is) failed = no_failed asked ask (omega (arith, none)) (k, omega arith, is) failed

of_file : (generation : Generation) (source : GeneratedSource) (url : List ℕ) (outcome : OutcomeView) → HoldsGenerated generation source → kind_of outcome ≢ kinds.Failed
    → IsToldOutcome (generated_at source.start source.count) url outcome → IsOfFile (generated_at generation.start generation.count url) outcome
of_file generation source url (Script text) holds fine told = subst (λ held. IsSomeAnd held (λ bytes. text.bytes ≡ take MAX_BODY_BYTES bytes)) (holds url) told
of_file generation source url (Broken broken) holds fine told = subst (λ held. IsSomeAnd held (λ bytes. broken.bytes ≡ take MAX_BODY_BYTES bytes)) (holds url) told
of_file generation source url Absent holds fine told = sym (holds url) ∙ told
of_file generation source url Failed holds fine told = absurd (fine refl)

-- what the sources hold
abbrev pub HoldsFiles : Generation → Option Contents → Type 0
HoldsFiles generation None = ⊥
HoldsFiles generation (Some contents) = (url : List ℕ) → contents url ≡ generated_at generation.start generation.count url

abbrev holds_of : GeneratedSource → Option Contents
holds_of source = Some (generated_at source.start source.count)

unmap : {X Y : Type 0} (P : Y → Type 0) (f : X → Y) (xs : List X) → All P (map f xs) → All (λ x. P (f x)) xs
unmap P f [] h = All-nil (λ x. P (f x))
unmap P f (x ∷ xs) h = All-cons (λ x. P (f x)) x xs (h 0 (f x) (omega arith)) (unmap P f xs (λ k d within. h (suc k) d (omega arith)))

kept_all : (generation : Generation) (given back : List GeneratedSource) → map holds_of back ≡ map holds_of given → All (HoldsGenerated generation) given → All (HoldsGenerated generation) back
kept_all generation given back kept holds =
    unmap (HoldsFiles generation) holds_of back (subst (All (HoldsFiles generation)) (sym kept) (All-map (HoldsFiles generation) holds_of given holds))

delivered_of : (generation : Generation) (back : List GeneratedSource) → All (HoldsGenerated generation) back → (d : Delivery) → WasDelivered (λ (s : GeneratedSource). s.asked) holds_of back d → IsGenerated generation d
delivered_of generation back holds d (k, source, within, is, (asked, told)) =
    of_file generation source d.url d.outcome (subst (HoldsGenerated generation) is (holds k source within)) (no_failed source.asked (ask_of d) source.sure asked) told

-- ---- the run

-- nothing was written where memory ran out
pub unsummed : (machine : Option MachineParts) (count : ℕ) (sink : SinkChange) → IsUnwritten sink → EndsGenerated machine count Memory sink
unsummed None count sink unwritten = (refl, unwritten)
unsummed (Some machine) count sink unwritten = λ maps entry trace deliveries what represents run. inl (refl, unwritten)

pub generated_run : HasStandardRun → (generation : Generation) (maps : Maps) (entry : Url) (machine : Option MachineParts) (taken : List Delivery) (status : Status) (sink : SinkChange) (given back : List GeneratedSource)
    → maps ≡ no_maps → entry ≡ module_url 0 → IsGraphRun (λ (s : GeneratedSource). s.asked) holds_of maps entry false generation.workers machine taken given back → All (HoldsGenerated generation) given
    → EndsGenerated machine generation.count status sink → RunsGenerated generation taken status sink
generated_run has_run generation maps entry machine taken status sink given back maps_are entry_is graph holds ends = by machine ends_so ends
  where
    ends_so : EndsDriven (λ delivery. IsRead delivery.outcome) no_maps (module_url 0) false machine taken
    ends_so = subst (λ (m : Maps). EndsDriven (λ delivery. IsRead delivery.outcome) m (module_url 0) false machine taken) maps_are
        (subst (λ (e : Url). EndsDriven (λ delivery. IsRead delivery.outcome) maps e false machine taken) entry_is graph.ends)

    each : All (IsGenerated generation) taken
    each = All-weaker (WasDelivered (λ (s : GeneratedSource). s.asked) holds_of back) (IsGenerated generation) (delivered_of generation back (kept_all generation given back graph.asked_once.kept holds)) taken graph.true_record.delivered

    by : (m : Option MachineParts) → EndsDriven (λ delivery. IsRead delivery.outcome) no_maps (module_url 0) false m taken → EndsGenerated m generation.count status sink → RunsGenerated generation taken status sink
    by None short (memory, unwritten) =
        let run = has_run no_maps every_form (module_url 0) false taken short.world short.runs in
        record { what = run.0; run = run.1; once = graph.true_record.once; read = short.delivered; generated = each; ends = inl (memory, unwritten) }
    by (Some m) (d, none) ended =
        let run = has_run no_maps every_form (module_url 0) false taken d.represents.0 d.represents.1 in
        record { what = run.0; run = run.1; once = graph.true_record.once; read = d.delivered; generated = each; ends = ended no_maps (module_url 0) false taken run.0 d.represents run.1 }

-- memory ran out before
pub generated_none : HasStandardRun → (generation : Generation) (taken : List Delivery) (status : Status) (sink : SinkChange) → status ≡ Memory → taken ≡ [] → IsUnwritten sink → RunsGenerated generation taken status sink
generated_none has_run generation taken status sink memory none unwritten =
    let run = has_run no_maps every_form (module_url 0) false [] (opening no_maps every_form (module_url 0) false) refl in rw none (record {
      what = run.0;
      run = run.1;
      once = pairs_nil (λ (a b : Delivery). a.url ≢ b.url);
      read = All-nil (λ (delivery : Delivery). IsRead delivery.outcome);
      generated = All-nil (IsGenerated generation);
      ends = inl (memory, unwritten);
    })
