-- Sources and their callers: what holds of them as the history grows, and what the whole history says of them.
use Rattle.std.proofs.Common.{◌≡◌, ◌≢◌, ◌⊎◌, inl, inr, ℕ, zero, suc, ◌+◌, ◌<◌, ◌≤◌, ◌==◌, cond, bytes_eq, Bool, true, false, List, [], ◌∷◌, ◌++◌, map, append_assoc, append-nil, sym, refl, ap, ◌∙◌, subst, arith, Option, Some, None, length, slice_index_or, slice_set, eq-eqb, eqb-true, Ok, Err}
use Rattle.std.specs.Prelude.{All, AllPairs, Contains, flat_map, IfSome, Result}
use Rattle.std.specs.Result.{result_ok}
use Rattle.std.proofs.lemmas.List.{map-append}
use Rattle.std.proofs.lemmas.Slice.Eq.{bytes_eq-Decides}
use Rattle.std.proofs.lemmas.List.Elements.{All-nil, All-append, All-contains, All-weaker, Contains-append_left, Contains-get_or}
use Rattle.esm_hlock.specs.Makers.{times, names}
use Rattle.esm_hlock.specs.declared.view.View.{View}
use Rattle.esm_base.specs.declared.memory.Memory.{Memory}
use Rattle.esm_base.specs.Urls.{Url}
use Rattle.esm_ports.specs.declared.asked.Asked.{Asked}
use Rattle.esm_ports.specs.declared.asked.AskKind.{AskKind}
use Rattle.esm_ports.specs.Asks.{asks_with}
use Rattle.esm_ast.specs.Outcome.{OutcomeView}
use Rattle.esm_import_map.specs.ImportMap.{Maps}
use Rattle.esm_module_map.specs.declared.event.MapEvent.{MapEvent}
use Rattle.esm_module_map.specs.Replay.{is_legal, maker_of}
use Rattle.esm_module_map.specs.Histories.{Answer, asks_by, takes_by, answers_by}
use Rattle.esm_module_map.specs.Counts.{count, total, AreTakenOnce}
use Rattle.esm_module_map.specs.Saying.{Begins, Stays, ShutSays}
use Rattle.esm_module_map.specs.Laws.{UrlsStay, PostsStay, PostsAreAnswers, TakesWereAsked}
use Rattle.esm_fetch.specs.declared.posted.Posted.{Posted}
use Rattle.esm_fetch.specs.Answered.{Contents, kind_of, IsRead, IsToldOutcome}
use Rattle.esm_fetch.specs.Serving.{weight, url_in, ask_for, IsTrueAnswer, IsServed, IsCut, Serves, Served, ServedIf}
use Rattle.esm_ast.specs.Deliveries.{Delivery}
use Rattle.esm_machine.specs.Machine.{MachineParts}
use Rattle.esm_run.specs.Taken.{ask_of, IsTold, WasDelivered}
use Rattle.esm_run.specs.Inner.Leading.{WasPosted, IsDriven, IsCutShort, EndsDriven, IsStandardAsk, AreServed, IsShared, IsNew, Leads}

-- ---- lists of numbers

pub listed_self : (n : ℕ) (ns : List ℕ) → 0 < times n (n ∷ ns)
listed_self n ns = let e : cond {A = ℕ} (n == n) 1 0 ≡ 1 = ap (λ b. cond b 1 0) (eq-eqb n n refl) in omega (arith, e)

listed_later : (n m : ℕ) (ns : List ℕ) → 0 < times n ns → 0 < times n (m ∷ ns)
listed_later n m ns h = omega (arith, h)

-- ---- as the history grows

pub served_any : {G : Type 0} (short : Bool) (holds : Option Contents) (asked : List Asked) (c : ℕ) (h : List (MapEvent Posted G)) → ServedIf short holds asked c h → Served 4 holds asked c h
served_any true holds asked c h s = s
served_any false holds asked c h s = inl s

module _ {G : Type 0} where
  -- who takes one URL at a time
  pub served_more : (holds : Option Contents) (asked : List Asked) (c : ℕ) (h : List (MapEvent Posted G)) → Served 1 holds asked c h → Served 4 holds asked c h
  served_more holds asked c h (inl s) = inl s
  served_more holds asked c h (inr s) = inr (record {
    answered = s.answered;
    url = s.url;
    asked_is = s.asked_is;
    rest = s.rest;
    few = let few = s.few in omega (arith, few);
    takes_is = s.takes_is;
  })

  pub served_same : (holds : Option Contents) (asked : List Asked) (c : ℕ) (seen h : List (MapEvent Posted G)) → takes_by weight c h ≡ takes_by weight c seen → answers_by weight c h ≡ answers_by weight c seen → Served 4 holds asked c seen → Served 4 holds asked c h
  served_same holds asked c seen h takes answers s =
      subst (λ t. IsServed holds asked t (answers_by weight c h) ⊎ IsCut 4 holds asked t (answers_by weight c h)) (sym takes)
      (subst (λ a. IsServed holds asked (takes_by weight c seen) a ⊎ IsCut 4 holds asked (takes_by weight c seen) a) (sym answers) s)

  pub serves_same : (holds : Option Contents) (asked : List Asked) (c : ℕ) (seen h : List (MapEvent Posted G)) → takes_by weight c h ≡ takes_by weight c seen → answers_by weight c h ≡ answers_by weight c seen → Serves holds asked c seen → Serves holds asked c h
  serves_same holds asked c seen h takes answers s =
      subst (λ t. IsServed holds asked t (answers_by weight c h)) (sym takes) (subst (λ a. IsServed holds asked (takes_by weight c seen) a) (sym answers) s)

  -- a caller that has done nothing serves a source that was asked for nothing
  pub serves_nothing : (holds : Option Contents) (asked : List Asked) (c : ℕ) (v : View (MapEvent Posted G)) → IsNew c v → asked ≡ [] → Serves holds asked c v.seen
  serves_nothing holds asked c v new none = record {
    answered = subst (All (IsTrueAnswer holds)) (sym new.unanswered) (All-nil (IsTrueAnswer holds));
    asked_is = none ∙ ap (map ask_for) (sym new.unanswered);
    takes_is = new.untaken ∙ ap (map url_in) (sym new.unanswered);
  }

  posted_stays : UrlsStay Posted G weight → PostsStay Posted G → (old new : List (MapEvent Posted G)) (d : Delivery) → Begins old new → WasPosted old d → WasPosted new d
  posted_stays urls posts old new d b w = record {
    number = w.number;
    payload = w.payload;
    has_url = urls w.number d.url old new b w.has_url;
    posted = posts w.number w.payload old new b w.posted;
    outcome = w.outcome;
  }

  pub all_posted : UrlsStay Posted G weight → PostsStay Posted G → (old new : List (MapEvent Posted G)) (taken : List Delivery) → Begins old new → All (WasPosted old) taken → All (WasPosted new) taken
  all_posted urls posts old new taken b all = All-weaker (WasPosted old) (WasPosted new) (λ d w. posted_stays urls posts old new d b w) taken all

  pub ends_on : UrlsStay Posted G weight → PostsStay Posted G → (old new : List (MapEvent Posted G)) (maps : Maps) (entry : Url) (trace : Bool) (machine : Option MachineParts) (taken : List Delivery) → Begins old new
      → EndsDriven (WasPosted old) maps entry trace machine taken → EndsDriven (WasPosted new) maps entry trace machine taken
  ends_on urls posts old new maps entry trace (Some machine) taken b (driven, none) =
      (record { represents = driven.represents; delivered = all_posted urls posts old new taken b driven.delivered }, none)
  ends_on urls posts old new maps entry trace None taken b cut = record { world = cut.world; runs = cut.runs; delivered = all_posted urls posts old new taken b cut.delivered }

pub cut_of : (D : Delivery → Type 0) (maps : Maps) (entry : Url) (trace : Bool) (machine : MachineParts) (taken : List Delivery) → IsDriven D maps entry trace machine taken → IsCutShort D maps entry trace taken
cut_of D maps entry trace machine taken d = record { world = d.represents.0; runs = d.represents.1; delivered = d.delivered }

pub ends_short : (D : Delivery → Type 0) (maps : Maps) (entry : Url) (trace : Bool) (machine : Option MachineParts) (taken : List Delivery) → EndsDriven D maps entry trace machine taken → IsCutShort D maps entry trace taken
ends_short D maps entry trace (Some machine) taken (driven, none) = cut_of D maps entry trace machine taken driven
ends_short D maps entry trace None taken cut = cut

pub ends_if : (short : Bool) (D : Delivery → Type 0) (maps : Maps) (entry : Url) (trace : Bool) (machine : Option MachineParts) (taken : List Delivery) → EndsDriven D maps entry trace machine taken → EndsDriven D maps entry trace (cond short None machine) taken
ends_if true D maps entry trace machine taken ends = ends_short D maps entry trace machine taken ends
ends_if false D maps entry trace machine taken ends = ends

module _ {G S : Type 0} (holds_of : S → Option Contents) (asked_of : S → List Asked) (Q : Url → Type 0) where
  abbrev StaysFor : List ℕ → List (MapEvent Posted G) → List (MapEvent Posted G) → Type 0
  StaysFor cs seen h = (c : ℕ) → 0 < times c cs → Stays weight c seen h

  pub are_still : (seen h : List (MapEvent Posted G)) (cs : List ℕ) (ss : List S) → StaysFor cs seen h → AreServed holds_of asked_of Q seen cs ss → AreServed holds_of asked_of Q h cs ss
  are_still seen h [] [] stays all = tt
  are_still seen h (c ∷ cs) (s ∷ ss) stays ((served, asks), rest) = let own = (stays c (listed_self c cs)).1 in
      ((served_same (holds_of s) (asked_of s) c seen h own.0 own.1 served, subst (All Q) (sym own.2) asks), are_still seen h cs ss (λ d listed. stays d (listed_later d c cs listed)) rest)
  are_still seen h [] (s ∷ ss) stays all = absurd all
  are_still seen h (c ∷ cs) [] stays all = absurd all

  pub are_more : (h : List (MapEvent Posted G)) (cs : List ℕ) (ss : List S) (c : ℕ) (s : S) → AreServed holds_of asked_of Q h cs ss → Served 4 (holds_of s) (asked_of s) c h × All Q (asks_by weight c h)
      → AreServed holds_of asked_of Q h (cs ++ c ∷ []) (ss ++ s ∷ [])
  are_more h [] [] c s all one = (one, tt)
  are_more h (d ∷ cs) (t ∷ ss) c s (first, rest) one = (first, are_more h cs ss c s rest one)
  are_more h [] (t ∷ ss) c s all one = absurd all
  are_more h (d ∷ cs) [] c s all one = absurd all

  -- the source of a listed caller
  abbrev HasSource : List (MapEvent Posted G) → ℕ → List S → Type 0
  HasSource h c ss = (k : ℕ) × (s : S) × (k < length ss) × (slice_index_or ss k s ≡ s) × (Served 4 (holds_of s) (asked_of s) c h × All Q (asks_by weight c h))

  source_later : (h : List (MapEvent Posted G)) (c : ℕ) (t : S) (ss : List S) → HasSource h c ss → HasSource h c (t ∷ ss)
  source_later h c t ss (k, s, within, is, has) = (suc k, s, omega arith, is, has)

  pub source_of : (h : List (MapEvent Posted G)) (cs : List ℕ) (ss : List S) (c : ℕ) → AreServed holds_of asked_of Q h cs ss → 0 < times c cs → HasSource h c ss
  source_of h [] ss c all listed = absurd (omega arith)
  source_of h (d ∷ cs) [] c all listed = absurd all
  source_of h (d ∷ cs) (t ∷ ss) c (first, rest) listed = by_test (d == c) refl (times c cs) listed (source_of h cs ss c rest)
    where
      by_test : (b : Bool) → (d == c) ≡ b → (n : ℕ) → 0 < cond b 1 0 + n → (0 < n → HasSource h c ss) → HasSource h c (t ∷ ss)
      by_test true e n h' later = let same : d ≡ c = eqb-true d c e in (0, t, omega arith, refl, subst (λ (x : ℕ). Served 4 (holds_of t) (asked_of t) x h × All Q (asks_by weight x h)) same first)
      by_test false e n h' later = source_later h c t ss (later (omega arith))

module _ {G S : Type 0} (holds_of : S → Option Contents) (asked_of : S → List Asked) (urls : UrlsStay Posted G weight) (posts : PostsStay Posted G) (maps : Maps) (entry : Url) (trace : Bool) where
  -- a worker that has ended, put to the others
  pub gathered : (v u w : View (MapEvent Posted G)) (machine after : Option MachineParts) (taken : List Delivery) (ss longer : List S) (c : ℕ) (s : S) (short : Bool) → Begins v.seen w.seen
      → ((d : ℕ) → 0 < times d v.numbers → Stays weight d v.seen w.seen) → ((d : ℕ) → 0 < times d u.numbers → Stays weight d u.seen w.seen)
      → w.numbers ≡ v.numbers ++ u.numbers → u.numbers ≡ c ∷ [] → ServedIf short (holds_of s) (asked_of s) c u.seen → asks_by weight c u.seen ≡ [] → longer ≡ ss ++ s ∷ [] → after ≡ cond short None machine
      → IsShared holds_of asked_of maps entry trace v machine taken ss → IsShared holds_of asked_of maps entry trace w after taken longer
  gathered v u w machine after taken ss longer c s short b one other numbers own served unasked more is shared =
      let Q : Url → Type 0 = IsStandardAsk maps entry trace taken in
      let stays = other c (subst (λ l. 0 < times c l) (sym own) (listed_self c [])) in
      let all = are_more holds_of asked_of Q w.seen v.numbers ss c s (are_still holds_of asked_of Q v.seen w.seen v.numbers ss one shared.served)
      (served_same (holds_of s) (asked_of s) c u.seen w.seen stays.1.0 stays.1.1 (served_any short (holds_of s) (asked_of s) c u.seen served), subst (All Q) (sym (stays.1.2 ∙ unasked)) (All-nil Q)) in
      record {
        served = subst (λ ns. AreServed holds_of asked_of Q w.seen ns longer) (sym (numbers ∙ ap (λ l. v.numbers ++ l) own)) (subst (λ l. AreServed holds_of asked_of Q w.seen (v.numbers ++ c ∷ []) l) (sym more) all);
        ends = subst (λ m. EndsDriven (WasPosted w.seen) maps entry trace m taken) (sym is) (ends_if short (WasPosted w.seen) maps entry trace machine taken (ends_on urls posts v.seen w.seen maps entry trace machine taken b shared.ends));
      }

  -- the calling thread's part, with its source alone, once the map is shut
  pub led_alone : (v w : View (MapEvent Posted G)) (r : Result MachineParts Memory) (machine : Option MachineParts) (taken : List Delivery) (c : ℕ) (given : List S) (first s : S) → w.numbers ≡ c ∷ [] → ShutSays weight c v.seen w.seen → length given ≡ 1 → first ≡ slice_index_or given 0 first
      → Served 1 (holds_of first) (asked_of s) c v.seen → holds_of s ≡ holds_of first → Leads maps entry trace r c v.seen taken → machine ≡ result_ok r → IsShared holds_of asked_of maps entry trace w machine taken (slice_set given 0 s)
  led_alone v w r machine taken c [] first s own stays one is served same leads made = absurd (omega arith)
  led_alone v w r machine taken c (o ∷ t ∷ given) first s own stays one is served same leads made = absurd (omega arith)
  led_alone v w r machine taken c (o ∷ []) first s own stays one is served same leads made =
      let Q : Url → Type 0 = IsStandardAsk maps entry trace taken in
      let ends = leads_ends r leads in
      record {
        served = subst (λ ns. AreServed holds_of asked_of Q w.seen ns (s ∷ [])) (sym own)
            ((subst (λ h. Served 4 h (asked_of s) c w.seen) (sym same) (served_same (holds_of first) (asked_of s) c v.seen w.seen stays.1.0 stays.1.1 (served_more (holds_of first) (asked_of s) c v.seen served)), subst (All Q) (sym stays.1.2) ends.1), tt);
        ends = subst (λ m. EndsDriven (WasPosted w.seen) maps entry trace m taken) (sym made) (ends_on urls posts v.seen w.seen maps entry trace (result_ok r) taken stays.0 ends.0);
      }
    where
      leads_ends : (r : Result MachineParts Memory) → Leads maps entry trace r c v.seen taken → EndsDriven (WasPosted v.seen) maps entry trace (result_ok r) taken × All (IsStandardAsk maps entry trace taken) (asks_by weight c v.seen)
      leads_ends (Ok machine) (led, none) = ((led.driven, none), led.asks)
      leads_ends (Err want) short = (short.cut, short.asks)

pub served_if_next : {G : Type 0} (short : Bool) (holds kept : Option Contents) (asked : List Asked) (c d : ℕ) (h : List (MapEvent Posted G)) → kept ≡ holds → d ≡ c → ServedIf short holds asked c h → ServedIf short kept asked d h
served_if_next short holds kept asked c d h same number s = subst (λ k. ServedIf short k asked d h) (sym same) (subst (λ n. ServedIf short holds asked n h) (sym number) s)

-- ---- callers that have done nothing

pub new_kept : {G : Type 0} (c d : ℕ) (v w : View (MapEvent Posted G)) → d ≡ c → w.numbers ≡ v.numbers → w.seen ≡ v.seen → IsNew c v → IsNew d w
new_kept c d v w number numbers seen new = subst (λ n. IsNew n w) (sym number) (record {
  own = numbers ∙ new.own;
  unasked = ap (asks_by weight c) seen ∙ new.unasked;
  untaken = ap (takes_by weight c) seen ∙ new.untaken;
  unanswered = ap (answers_by weight c) seen ∙ new.unanswered;
})

-- ---- a list of one source

module _ {S : Type 0} where
  pub first_fresh : (asked_of : S → List Asked) (given : List S) (first : S) → length given ≡ 1 → first ≡ slice_index_or given 0 first → All (λ s. asked_of s ≡ []) given → asked_of first ≡ []
  first_fresh asked_of [] first one is fresh = absurd (omega arith)
  first_fresh asked_of (o ∷ given) first one is fresh = ap asked_of is ∙ fresh 0 o (omega arith)

  pub kept_alone : (holds_of : S → Option Contents) (given : List S) (first s : S) → length given ≡ 1 → first ≡ slice_index_or given 0 first → holds_of s ≡ holds_of first → map holds_of (slice_set given 0 s) ≡ map holds_of given
  kept_alone holds_of [] first s one is same = absurd (omega arith)
  kept_alone holds_of (o ∷ given) first s one is same = ap (λ h. h ∷ map holds_of given) (same ∙ ap holds_of is)

-- ---- a list and its last

pub last_of : {X : Type 0} (P : X → Type 0) (all xs : List X) (x : X) → all ≡ xs ++ x ∷ [] → All P all → P x
last_of {X} P all xs x is each = at_end xs (subst (All P) is each)
  where
    at_end : (ys : List X) → All P (ys ++ x ∷ []) → P x
    at_end [] h = h 0 x (omega arith)
    at_end (y ∷ ys) h = at_end ys (λ k d less. h (suc k) d (omega arith))

pub kept_on : {S X : Type 0} (holds_of : S → X) (all rest : List S) (s t : S) (after : List X) → all ≡ rest ++ s ∷ [] → holds_of t ≡ holds_of s → after ≡ map holds_of rest ++ holds_of t ∷ [] → after ≡ map holds_of all
kept_on holds_of all rest s t after is same more = more ∙ ap (λ h. map holds_of rest ++ h ∷ []) same ∙ sym (map-append holds_of rest (s ∷ [])) ∙ ap (map holds_of) (sym is)

-- ---- what the whole history says

contains_mapped : {A B : Type 0} (f : A → B) (xs : List A) (x : A) → Contains xs x → Contains (map f xs) (f x)
contains_mapped f [] x (k, within, is) = absurd (omega arith)
contains_mapped f (y ∷ xs) x (zero, within, is) = (0, omega arith, ap f is)
contains_mapped f (y ∷ xs) x (suc k, within, is) = let r = contains_mapped f xs x (k, omega arith, is) in let w = r.1 in (suc r.0, omega arith, r.2)

abbrev url_of : Asked → Url
url_of a = a.url

urls_asked : (answers : List (Answer Posted)) → map url_of (map ask_for answers) ≡ map url_in answers
urls_asked [] = refl
urls_asked (a ∷ answers) = ap (λ l. a.url ∷ l) (urls_asked answers)

all_taken : (asked : List Asked) (takes : List Url) → ((rest : List Url) × (takes ≡ map url_of asked ++ rest)) → (a : Asked) → Contains asked a → Contains takes a.url
all_taken asked takes (rest, e) a there = subst (λ l. Contains l a.url) (sym e) (Contains-append_left (map url_of asked) rest a.url (contains_mapped url_of asked a there))

module _ {G : Type 0} where
  -- a source was asked for the first URLs that its caller took
  asked_urls : (holds : Option Contents) (asked : List Asked) (c : ℕ) (h : List (MapEvent Posted G)) → Served 4 holds asked c h
      → (rest : List Url) × (takes_by weight c h ≡ map url_of asked ++ rest)
  asked_urls holds asked c h (inl s) = ([], s.takes_is ∙ sym (urls_asked (answers_by weight c h)) ∙ ap (map url_of) (sym s.asked_is) ∙ sym (append-nil (map url_of asked)))
  asked_urls holds asked c h (inr s) = by_end s.asked_is
    where
      by_end : (asked ≡ map ask_for (answers_by weight c h)) ⊎ ((kind : AskKind) × (asked ≡ asks_with (map ask_for (answers_by weight c h)) s.url kind))
          → (rest : List Url) × (takes_by weight c h ≡ map url_of asked ++ rest)
      by_end (inl e) = (s.url ∷ s.rest, s.takes_is ∙ ap (λ l. l ++ s.url ∷ s.rest) (sym (urls_asked (answers_by weight c h)) ∙ ap (map url_of) (sym e)))
      by_end (inr (kind, e)) = (
        s.rest,
        s.takes_is ∙ ap (λ l. l ++ s.url ∷ s.rest) (sym (urls_asked (answers_by weight c h)))
            ∙ sym (append_assoc (map url_of (map ask_for (answers_by weight c h))) (s.url ∷ []) s.rest)
            ∙ ap (λ l. l ++ s.rest) (sym (map-append url_of (map ask_for (answers_by weight c h)) (record { url = s.url; kind = kind } ∷ [])) ∙ ap (map url_of) (sym e)),
      )

  -- what was posted was asked of the source, and is a true answer of it
  answered_there : (holds : Option Contents) (asked : List Asked) (c : ℕ) (h : List (MapEvent Posted G)) (a : Answer Posted) → Served 4 holds asked c h → Contains (answers_by weight c h) a → Contains asked (ask_for a) × IsTrueAnswer holds a
  answered_there holds asked c h a (inl s) there = (subst (λ l. Contains l (ask_for a)) (sym s.asked_is) (contains_mapped ask_for (answers_by weight c h) a there), All-contains (IsTrueAnswer holds) (answers_by weight c h) a s.answered there)
  answered_there holds asked c h a (inr s) there = (by_end s.asked_is (contains_mapped ask_for (answers_by weight c h) a there), All-contains (IsTrueAnswer holds) (answers_by weight c h) a s.answered there)
    where
      by_end : (asked ≡ map ask_for (answers_by weight c h)) ⊎ ((kind : AskKind) × (asked ≡ asks_with (map ask_for (answers_by weight c h)) s.url kind)) → Contains (map ask_for (answers_by weight c h)) (ask_for a) → Contains asked (ask_for a)
      by_end (inl e) mapped = subst (λ l. Contains l (ask_for a)) (sym e) mapped
      by_end (inr (kind, e)) mapped = subst (λ l. Contains l (ask_for a)) (sym e) (Contains-append_left (map ask_for (answers_by weight c h)) (record { url = s.url; kind = kind } ∷ []) (ask_for a) mapped)

-- ---- no URL is asked for twice

count_append : (u : Url) (xs ys : List Url) → count u (xs ++ ys) ≡ count u xs + count u ys
count_append u [] ys = omega arith
count_append u (x ∷ xs) ys = omega (arith, count_append u xs ys)

few_of : (u : Url) (asked : List Asked) (takes : List Url) → ((rest : List Url) × (takes ≡ map url_of asked ++ rest)) → count u (map url_of asked) ≤ count u takes
few_of u asked takes (rest, e) = let c = ap (count u) e in let d = count_append u (map url_of asked) rest in omega (arith, c, d)

counted : (asked : List Asked) (j : ℕ) (d : Asked) (u : Url) → j < length asked → u ≡ (slice_index_or asked j d).url → 0 < count u (map url_of asked)
counted [] j d u less is = absurd (omega arith)
counted (a ∷ asked) zero d u less is = let e : cond {A = ℕ} (bytes_eq u a.url) 1 0 ≡ 1 = ap (λ b. cond b 1 0) ((bytes_eq-Decides u a.url).1 is) in omega (arith, e)
counted (a ∷ asked) (suc j) d u less is = let r = counted asked j d u (omega arith) is in omega (arith, r)

pairs_differ : (asked : List Asked) → ((u : Url) → count u (map url_of asked) ≤ 1) → (i j : ℕ) (d : Asked) → i < j → j < length asked → (slice_index_or asked i d).url ≢ (slice_index_or asked j d).url
pairs_differ [] few i j d less within = λ same. absurd (omega arith)
pairs_differ (a ∷ asked) few i zero d less within = λ same. absurd (omega arith)
pairs_differ (a ∷ asked) few zero (suc j) d less within = λ same. let r = counted asked j d a.url (omega arith) same in
    let e : cond {A = ℕ} (bytes_eq a.url a.url) 1 0 ≡ 1 = ap (λ b. cond b 1 0) ((bytes_eq-Decides a.url a.url).1 refl) in let f = few a.url in absurd (omega (arith, r, e, f))
pairs_differ (a ∷ asked) few (suc i) (suc j) d less within = pairs_differ asked (λ u. let f = few u in omega (arith, f)) i j d (omega arith) (omega arith)

module _ {G S : Type 0} (holds_of : S → Option Contents) (asked_of : S → List Asked) (Q : Url → Type 0) where
  all_few : (h : List (MapEvent Posted G)) (u : Url) (cs : List ℕ) (ss : List S) → AreServed holds_of asked_of Q h cs ss → count u (map url_of (flat_map asked_of ss)) ≤ total (λ c. count u (takes_by weight c h)) cs
  all_few h u [] [] all = omega arith
  all_few h u (c ∷ cs) (s ∷ ss) (first, rest) =
      let one = few_of u (asked_of s) (takes_by weight c h) (asked_urls (holds_of s) (asked_of s) c h first.0) in
      let later = all_few h u cs ss rest in
      let m : count u (map url_of (asked_of s ++ flat_map asked_of ss)) ≡ count u (map url_of (asked_of s) ++ map url_of (flat_map asked_of ss)) = ap (count u) (map-append url_of (asked_of s) (flat_map asked_of ss)) in
      let a = count_append u (map url_of (asked_of s)) (map url_of (flat_map asked_of ss)) in omega (arith, one, later, m, a)
  all_few h u [] (s ∷ ss) all = absurd all
  all_few h u (c ∷ cs) [] all = absurd all

  pub asked_apart : (h : List (MapEvent Posted G)) (cs : List ℕ) (ss : List S) → AreServed holds_of asked_of Q h cs ss → AreTakenOnce weight h cs → AllPairs (λ a b. a.url ≢ b.url) (flat_map asked_of ss)
  asked_apart h cs ss all once = pairs_differ (flat_map asked_of ss) (λ u. let a = all_few h u cs ss all in let o = once u in omega (arith, a, o))

  -- ---- each URL that a source was asked for has the property

  pub asked_each : TakesWereAsked Posted G weight → (h : List (MapEvent Posted G)) (cs : List ℕ) (ss : List S) → is_legal weight h ≡ true → ((k : ℕ) → names maker_of k h ≡ 1 → times k cs ≡ 1) → AreServed holds_of asked_of Q h cs ss
      → (c : ℕ) (u : Url) → Contains (takes_by weight c h) u → Q u
  asked_each law h cs ss legal each all c u there =
      let d = law c u h legal there in
      let listed = each d.0 d.1 in
      let source = source_of holds_of asked_of Q h cs ss d.0 all (omega (arith, listed)) in
      All-contains Q (asks_by weight d.0 h) u source.4.1 d.2

  pub asked_all : (h : List (MapEvent Posted G)) (cs : List ℕ) (ss : List S) → ((c : ℕ) (u : Url) → Contains (takes_by weight c h) u → Q u) → AreServed holds_of asked_of Q h cs ss → All (λ (ask : Asked). Q ask.url) (flat_map asked_of ss)
  asked_all h [] [] each all = All-nil (λ (ask : Asked). Q ask.url)
  asked_all h (c ∷ cs) (s ∷ ss) each (first, rest) =
      let one = asked_urls (holds_of s) (asked_of s) c h first.0 in
      All-append (λ (ask : Asked). Q ask.url) (asked_of s) (flat_map asked_of ss)
      (all_from (asked_of s) (λ a there. each c a.url (all_taken (asked_of s) (takes_by weight c h) one a there)))
      (asked_all h cs ss each rest)
    where
      all_from : (asked : List Asked) → ((a : Asked) → Contains asked a → Q a.url) → All (λ (ask : Asked). Q ask.url) asked
      all_from asked has k d within = has (slice_index_or asked k d) (Contains-get_or asked k d within)
  asked_all h [] (s ∷ ss) each all = absurd all
  asked_all h (c ∷ cs) [] each all = absurd all

  -- ---- each delivery is an answer of a source

  pub answered_by : PostsAreAnswers Posted G weight → (h : List (MapEvent Posted G)) (cs : List ℕ) (ss : List S) → is_legal weight h ≡ true → ((k : ℕ) → names maker_of k h ≡ 1 → times k cs ≡ 1) → AreServed holds_of asked_of Q h cs ss
      → (d : Delivery) → WasPosted h d → WasDelivered asked_of holds_of ss d × IsRead d.outcome
  answered_by law h cs ss legal each all d w =
      let a : Answer Posted = record { number = w.number; url = d.url; payload = w.payload } in
      let p = law w.number d.url w.payload h legal w.has_url w.posted in
      let listed = each p.0 p.1 in
      let source = source_of holds_of asked_of Q h cs ss p.0 all (omega (arith, listed)) in
      let t = answered_there (holds_of source.1) (asked_of source.1) p.0 h a source.4.0 p.2 in
      let asks : Contains (asked_of source.1) (ask_of d) = subst (λ (o : OutcomeView). Contains (asked_of source.1) (record { url = d.url; kind = kind_of o })) w.outcome t.0 in
      let told : IsTold (holds_of source.1) d = subst (λ (o : OutcomeView). IfSome (holds_of source.1) (λ contents. IsToldOutcome contents d.url o)) w.outcome t.1.1 in
      ((source.0, source.1, source.2, source.3, (asks, told)), subst IsRead w.outcome t.1.0)
