-- What was taken is of the files that the sources hold, where these tell and none fails.
use Rattle.std.proofs.Common.{Bool, ◌≡◌, ◌<◌, ◌∙◌, ap, sym, subst, refl, ℕ, zero, suc, List, [], ◌∷◌, length, arith, take, drop}
use Rattle.std.specs.Prelude.{Option, Some, None, All, Any, Contains, IfSome, slice_index_or}
use Rattle.std.proofs.lemmas.List.Elements.{All-contains, All-drop}
use Rattle.esm_base.specs.declared.fault.TextFault.{TextFault}
use Rattle.esm_base.specs.Urls.{Url}
use Rattle.esm_tree.specs.Syntax.{Item}
use Rattle.esm_grammar.specs.ModuleText.{Spells, FaultOf}
use Rattle.esm_import_map.specs.ImportMap.{Maps}
use Rattle.esm_ports.specs.declared.asked.Asked.{Asked}
use Rattle.esm_ports.specs.declared.asked.AskKind.TheVariants.{Failed}
use Rattle.esm_ports.specs.Asks.{failed_kind, failed_count}
use Rattle.esm_ast.specs.Deliveries.{Delivery, Files, AreOfFiles}
use Rattle.esm_ast.specs.Outcome.{OutcomeView}
use Rattle.esm_ast.specs.Outcome as fetched
use Rattle.esm_ast.specs.Script.{SpelledText}
use Rattle.esm_fetch.specs.Answered.{Contents, kind_of, IsToldOutcome, IsRead}
use Rattle.esm_loads.specs.LoadsView.{every_form}
use Rattle.esm_world.specs.Run.{Shown, StandardRun}
use Rattle.esm_world.specs.Direct.{Closure, IsClean}
use Rattle.esm_direct_laws.specs.Asks.{AsksClosure}
use Rattle.esm_run.specs.Generated.{IsOfFile}
use Rattle.esm_run.specs.Taken.{ask_of, IsTold, WasDelivered, IsTrueRecord, IsAskedOnce}
use Rattle.esm_run.specs.OneFunction.{AnswersFrom, AreContents, AreFilesOf, OfTaken, OfSources}

-- a text spells at most one tree, and then has no fault
abbrev pub OneTree : Type 0
OneTree = (bytes : List ℕ) (one other : List Item) → Spells bytes one → Spells bytes other → one ≡ other

abbrev pub NoFault : Type 0
NoFault = (bytes : List ℕ) (items : List Item) (fault : TextFault) → Spells bytes items → FaultOf bytes fault → ⊥

-- ---- one source

contains_none : {X : Type 0} (xs : List X) (x : X) → xs ≡ [] → Contains xs x → ⊥
contains_none xs x none (k, within, is) = let e : length xs ≡ 0 = ap length none in absurd (omega (arith, within, e))

failed_some : (asks : List Asked) (a : Asked) → Contains asks a → a.kind ≡ Failed → 0 < failed_count asks
failed_some [] a (k, within, is) e = absurd (omega arith)
failed_some (b ∷ asks) a (zero, within, is) e = let f : failed_kind b.kind ≡ 1 = ap (λ (x : Asked). failed_kind x.kind) is ∙ ap failed_kind e in omega (arith, f)
failed_some (b ∷ asks) a (suc k, within, is) e = let r = failed_some asks a (k, omega arith, is) e in omega (arith, r)

-- what a source that has not failed was told to hold
of_file : (contents : Contents) (asks : List Asked) (url : Url) (outcome : OutcomeView) → Contains asks (record { url = url; kind = kind_of outcome }) → failed_count asks ≡ 0
    → IsToldOutcome contents url outcome → IsOfFile (contents url) outcome
of_file contents asks url (fetched.Script text) there calm told = told
of_file contents asks url (fetched.Broken broken) there calm told = told
of_file contents asks url fetched.Absent there calm told = told
of_file contents asks url fetched.Failed there calm told =
    let some = failed_some asks (record { url = url; kind = Failed }) there refl in absurd (omega (arith, some, calm))

-- ---- one outcome

module _ (tree : OneTree) (fault : NoFault) where
  -- of a text that spells a module
  one_outcome : (held : Option (List ℕ)) (text : SpelledText) (outcome : OutcomeView) → IsOfFile held (fetched.Script text) → Spells text.bytes text.items
      → IsOfFile held outcome → IsRead outcome → outcome ≡ fetched.Script text
  one_outcome None text outcome p s q r = absurd p
  one_outcome (Some bytes) text (fetched.Script other) p s q r =
      let same : other.bytes ≡ text.bytes = q ∙ sym p in
      let items : other.items ≡ text.items = tree text.bytes other.items text.items (subst (λ (b : List ℕ). Spells b other.items) same r) s in
      λ i. fetched.Script (record { bytes = same i; items = items i })
  one_outcome (Some bytes) text (fetched.Broken other) p s q r =
      absurd (fault text.bytes text.items other.fault s (subst (λ (b : List ℕ). FaultOf b other.fault) (q ∙ sym p) r))
  one_outcome (Some bytes) text fetched.Absent p s q r = let never : ◌≡◌ {A = Option (List ℕ)} (Some bytes) None = q in absurd cc
  one_outcome (Some bytes) text fetched.Failed p s q r = absurd q

  -- ---- the sources of the workers

  -- what no later one has, a first one has
  any_first : {X : Type 0} (P Q : X → Type 0) (n : ℕ) (xs : List X) → ((x : X) → P x → Q x → ⊥) → All Q (drop n xs) → Any P xs → Any P (take n xs)
  any_first P Q zero xs differ rest (k, x, within, is, h) = absurd (differ x h (subst Q is (rest k x within)))
  any_first P Q (suc n) [] differ rest (k, x, within, is, h) = absurd (omega arith)
  any_first P Q (suc n) (y ∷ xs) differ rest (zero, x, within, is, h) = (0, x, omega arith, is, h)
  any_first P Q (suc n) (y ∷ xs) differ rest (suc k, x, within, is, h) =
      let r = any_first P Q n xs differ rest (k, x, omega arith, is, h) in let w = r.2 in (suc r.0, r.1, omega arith, r.3, r.4)

  module _ {S : Type 0} (asked_of : S → List Asked) (holds_of : S → Option Contents) (maps : Maps) (entry : Url) (trace : Bool) (workers : ℕ) (taken : List Delivery) (given back : List S) where
    delivered_so : (files : Files) (contents : Contents) → All (λ s. asked_of s ≡ []) given → IsAskedOnce asked_of holds_of workers given back
        → All (AnswersFrom asked_of holds_of contents) (take workers back) → AreContents contents files → IsClean maps every_form files entry
        → (d : Delivery) → WasDelivered asked_of holds_of back d → IsRead d.outcome → Closure maps every_form files entry d.url → files d.url ≡ Some d.outcome
    delivered_so files contents fresh once hold are clean d was read inside =
        let f = clean.files_are d.url inside in
        let a = are d.url (fetched.Script f.text) f.file in
        let idle : All (λ (s : S). asked_of s ≡ []) (drop workers back) = subst (All (λ (s : S). asked_of s ≡ [])) (sym once.idle) (All-drop (λ (s : S). asked_of s ≡ []) workers given fresh) in
        let s = any_first (λ (source : S). Contains (asked_of source) (ask_of d) × IsTold (holds_of source) d) (λ (source : S). asked_of source ≡ []) workers back
        (λ source got none. contains_none (asked_of source) (ask_of d) none got.0) idle was in
        let h = All-contains (AnswersFrom asked_of holds_of contents) (take workers back) s.1 hold (s.0, s.2, s.3) in
        let told : IsToldOutcome contents d.url d.outcome = subst (λ (held : Option Contents). IfSome held (λ c. IsToldOutcome c d.url d.outcome)) h.0 s.4.1 in
        let is = one_outcome (contents d.url) f.text d.outcome a.0 a.1 (of_file contents (asked_of s.1) d.url d.outcome s.4.0 h.1 told) read in
        f.file ∙ ap Some (sym is)

    -- the files of a run are those of which what it took are deliveries
    pub are_of_files : AsksClosure → All (λ s. asked_of s ≡ []) given → IsTrueRecord asked_of holds_of taken back → IsAskedOnce asked_of holds_of workers given back
        → (what : Shown) → StandardRun maps every_form entry trace taken what → All (λ delivery. IsRead delivery.outcome) taken
        → (files : Files) → AreFilesOf asked_of holds_of workers taken back files → IsClean maps every_form files entry → AreOfFiles files taken
    are_of_files closure fresh record_is once what run read files (OfTaken here) clean = here
    are_of_files closure fresh record_is once what run read files (OfSources contents hold are) clean =
        (closure.only maps every_form files entry trace taken run.world clean run.runs
        (λ k d within. delivered_so files contents fresh once hold are clean (slice_index_or taken k d) (record_is.delivered k d within) (read k d within))).of_files
