-- Workers that have ended stay as they were when others end.
use Rattle.std.proofs.Common.{◌≡◌, ◌≢◌, ◌⊎◌, inl, inr, ℕ, zero, suc, ◌+◌, ◌<◌, ◌≤◌, cond, bytes_eq, List, [], ◌∷◌, ◌++◌, map, sym, refl, ap, ◌∙◌, subst, Option, arith, length, get_or, slice_index_or, ◌==◌, eq-eqb, Bool, true, false}
use Rattle.std.specs.Prelude.{All, AllPairs, flat_map}
use Rattle.std.proofs.lemmas.List.{map-append}
use Rattle.std.proofs.lemmas.Slice.Eq.{bytes_eq-Decides}
use Rattle.esm_hlock.specs.Makers.{times}
use Rattle.esm_hlock.specs.declared.view.View.{View}
use Rattle.esm_ports.specs.declared.asked.Asked.{Asked}
use Rattle.esm_module_map.specs.declared.event.MapEvent.{MapEvent}
use Rattle.esm_module_map.specs.Histories.{Answer, takes_by, answers_by}
use Rattle.esm_module_map.specs.Counts.{count, total, AreTakenOnce}
use Rattle.esm_base.specs.Urls.{Url}
use Rattle.esm_ports.specs.declared.asked.AskKind.{AskKind}
use Rattle.esm_ports.specs.Asks.{asks_with}
use Rattle.esm_module_map.specs.Saying.{Stays}
use Rattle.esm_fetch.specs.declared.posted.Posted.{Posted}
use Rattle.esm_fetch.specs.declared.pool.Done.{Done}
use Rattle.esm_fetch.specs.declared.pool.Job.{Job}
use Rattle.esm_fetch.specs.Answered.{Contents}
use Rattle.esm_fetch.specs.Serving.{weight, url_in, ask_for, IsTrueAnswer, Served, ServedIf}
use Rattle.esm_fetch.specs.Pool.{IsDone, caller_in, source_in, source_of}
use Rattle.esm_fetch.proofs.ServingLemmas.{serves_same}

listed_self : (n : ℕ) (ns : List ℕ) → 0 < times n (n ∷ ns)
listed_self n ns = let e : cond {A = ℕ} (n == n) 1 0 ≡ 1 = ap (λ b. cond b 1 0) (eq-eqb n n refl) in omega (arith, e)

listed_left : (n : ℕ) (xs ys : List ℕ) → 0 < times n xs → 0 < times n (xs ++ ys)
listed_left n [] ys h = absurd (omega arith)
listed_left n (x ∷ xs) ys h = by_test (x == n) (times n xs) (times n (xs ++ ys)) h (listed_left n xs ys)
  where
    by_test : (b : Bool) (k m : ℕ) → 0 < cond b 1 0 + k → (0 < k → 0 < m) → 0 < cond b 1 0 + m
    by_test true k m h f = omega arith
    by_test false k m h f = let g = f (omega arith) in omega arith

times_right : (n : ℕ) (xs ys : List ℕ) → 0 < times n ys → 0 < times n (xs ++ ys)
times_right n [] ys h = h
times_right n (x ∷ xs) ys h = let g = times_right n xs ys h in omega arith

module _ {G : Type 0} where
  -- what a history has of the listed callers is what was seen
  abbrev pub StaysFor : List ℕ → List (MapEvent Posted G) → List (MapEvent Posted G) → Type 0
  StaysFor ns seen h = (c : ℕ) → 0 < times c ns → Stays weight c seen h

  served_still : (most : ℕ) (holds : Option Contents) (asked : List Asked) (h seen : List (MapEvent Posted G)) (ns : List ℕ) (c : ℕ) → StaysFor ns seen h → 0 < times c ns → Served most holds asked c seen → Served most holds asked c h
  served_still most holds asked h seen ns c q listed (inl s) = inl (serves_same holds asked c seen h (q c listed).1 s)
  served_still most holds asked h seen ns c q listed (inr s) = let w = (q c listed).1 in inr (record {
    answered = subst (All (IsTrueAnswer holds)) (sym w.1) s.answered;
    url = s.url;
    asked_is = subst (λ l. (asked ≡ map ask_for l) ⊎ ((kind : AskKind) × (asked ≡ asks_with (map ask_for l) s.url kind))) (sym w.1) s.asked_is;
    rest = s.rest;
    few = s.few;
    takes_is = w.0 ∙ s.takes_is ∙ ap (λ l. map url_in l ++ s.url ∷ s.rest) (sym w.1);
  })

  still_if : (short : Bool) (holds : Option Contents) (asked : List Asked) (h seen : List (MapEvent Posted G)) (ns : List ℕ) (c : ℕ) → StaysFor ns seen h → 0 < times c ns → ServedIf short holds asked c seen → ServedIf short holds asked c h
  still_if false holds asked h seen ns c q listed s = serves_same holds asked c seen h (q c listed).1 s
  still_if true holds asked h seen ns c q listed s = served_still 4 holds asked h seen ns c q listed s

  served_any : (short : Bool) (holds : Option Contents) (asked : List Asked) (c : ℕ) (h : List (MapEvent Posted G)) → ServedIf short holds asked c h → Served 4 holds asked c h
  served_any false holds asked c h s = inl s
  served_any true holds asked c h s = s

  module _ {S : Type 0} (holds_of : S → Option Contents) (asked_of : S → List Asked) where
    done_still : (v w : View (MapEvent Posted G)) (ms : List ℕ) (d : Done S) → w.numbers ≡ v.numbers ++ ms → StaysFor v.numbers v.seen w.seen → IsDone holds_of asked_of v d → IsDone holds_of asked_of w d
    done_still v w ms d more q (listed, s) = (subst (λ l. 0 < times d.number l) (sym more) (listed_left d.number v.numbers ms listed), still_if d.short (holds_of d.source) (asked_of d.source) w.seen v.seen v.numbers d.number q listed s)

    pub all_still : (v w : View (MapEvent Posted G)) (ms : List ℕ) (ds : List (Done S)) → w.numbers ≡ v.numbers ++ ms → StaysFor v.numbers v.seen w.seen → All (IsDone holds_of asked_of v) ds → All (IsDone holds_of asked_of w) ds
    all_still v w ms ds more q all k d less = done_still v w ms (get_or ds k d) more q (all k d less)

    pub one_done : (v w : View (MapEvent Posted G)) (ms ns : List ℕ) (c : ℕ) (s : S) (short : Bool) → w.numbers ≡ ms ++ ns → ns ≡ c ∷ [] → StaysFor v.numbers v.seen w.seen → v.numbers ≡ c ∷ [] → ServedIf short (holds_of s) (asked_of s) c v.seen → IsDone holds_of asked_of w (record { number = c; source = s; short = short })
    one_done v w ms ns c s short more is q own served = let listed : 0 < times c v.numbers = subst (λ l. 0 < times c l) (sym own) (listed_self c []) in
        (subst (λ l. 0 < times c l) (sym more) (times_right c ms ns (subst (λ l. 0 < times c l) (sym is) (listed_self c []))), still_if short (holds_of s) (asked_of s) w.seen v.seen v.numbers c q listed served)

-- ---- no URL is asked for twice

total_append : (f : ℕ → ℕ) (xs ys : List ℕ) → total f (xs ++ ys) ≡ total f xs + total f ys
total_append f [] ys = omega arith
total_append f (x ∷ xs) ys = omega (arith, total_append f xs ys)

count_append : (u : Url) (xs ys : List Url) → count u (xs ++ ys) ≡ count u xs + count u ys
count_append u [] ys = omega arith
count_append u (x ∷ xs) ys = omega (arith, count_append u xs ys)

abbrev url_of : Asked → Url
url_of a = a.url

urls_asked : (answers : List (Answer Posted)) → map url_of (map ask_for answers) ≡ map url_in answers
urls_asked [] = refl
urls_asked (a ∷ answers) = ap (λ l. a.url ∷ l) (urls_asked answers)

module _ {G : Type 0} where
  -- a source was asked for the first URLs that its caller took, and nothing else
  asked_few : (holds : Option Contents) (asked : List Asked) (c : ℕ) (h : List (MapEvent Posted G)) (u : Url) → Served 4 holds asked c h → count u (map url_of asked) ≤ count u (takes_by weight c h)
  asked_few holds asked c h u (inl s) = let e : count u (map url_of asked) ≡ count u (takes_by weight c h) = ap (count u) (ap (map url_of) s.asked_is ∙ urls_asked (answers_by weight c h) ∙ sym s.takes_is) in omega (arith, e)
  asked_few holds asked c h u (inr s) = by_end s.asked_is
    where
      by_end : (asked ≡ map ask_for (answers_by weight c h)) ⊎ ((kind : AskKind) × (asked ≡ asks_with (map ask_for (answers_by weight c h)) s.url kind)) → count u (map url_of asked) ≤ count u (takes_by weight c h)
      by_end (inl e) =
          let a : count u (map url_of asked) ≡ count u (map url_in (answers_by weight c h)) = ap (count u) (ap (map url_of) e ∙ urls_asked (answers_by weight c h)) in
          let b : count u (takes_by weight c h) ≡ count u (map url_in (answers_by weight c h) ++ s.url ∷ s.rest) = ap (count u) s.takes_is in
          let d = count_append u (map url_in (answers_by weight c h)) (s.url ∷ s.rest) in omega (arith, a, b, d)
      by_end (inr (kind, e)) =
          let a : count u (map url_of asked) ≡ count u (map url_in (answers_by weight c h) ++ s.url ∷ []) = ap (count u) (ap (map url_of) e ∙ map-append url_of (map ask_for (answers_by weight c h)) (record { url = s.url; kind = kind } ∷ []) ∙ ap (λ l. l ++ s.url ∷ []) (urls_asked (answers_by weight c h))) in
          let b : count u (takes_by weight c h) ≡ count u (map url_in (answers_by weight c h) ++ s.url ∷ s.rest) = ap (count u) s.takes_is in
          let d = count_append u (map url_in (answers_by weight c h)) (s.url ∷ []) in
          let f = count_append u (map url_in (answers_by weight c h)) (s.url ∷ s.rest) in omega (arith, a, b, d, f)

  module _ {S : Type 0} (holds_of : S → Option Contents) (asked_of : S → List Asked) where
    all_few : (v : View (MapEvent Posted G)) (u : Url) (ds : List (Done S)) → All (IsDone holds_of asked_of v) ds → count u (map url_of (flat_map asked_of (map source_in ds))) ≤ total (λ c. count u (takes_by weight c v.seen)) (map caller_in ds)
    all_few v u [] all = omega arith
    all_few v u (d ∷ ds) all =
        let first = asked_few (holds_of d.source) (asked_of d.source) d.number v.seen u (served_any d.short (holds_of d.source) (asked_of d.source) d.number v.seen (all 0 d (omega arith)).1) in
        let rest = all_few v u ds (λ k e less. all (suc k) e (omega arith)) in
        let m : count u (map url_of (asked_of d.source ++ flat_map asked_of (map source_in ds))) ≡ count u (map url_of (asked_of d.source) ++ map url_of (flat_map asked_of (map source_in ds))) = ap (count u) (map-append url_of (asked_of d.source) (flat_map asked_of (map source_in ds))) in
        let a = count_append u (map url_of (asked_of d.source)) (map url_of (flat_map asked_of (map source_in ds))) in omega (arith, first, rest, m, a)

-- a URL that stands in the list is counted
counted : (asked : List Asked) (j : ℕ) (d : Asked) (u : Url) → j < length asked → u ≡ (slice_index_or asked j d).url → 0 < count u (map url_of asked)
counted [] j d u less is = absurd (omega arith)
counted (a ∷ asked) zero d u less is = let e : cond {A = ℕ} (bytes_eq u a.url) 1 0 ≡ 1 = ap (λ b. cond b 1 0) ((bytes_eq-Decides u a.url).1 is) in omega (arith, e)
counted (a ∷ asked) (suc j) d u less is = let r = counted asked j d u (omega arith) is in omega (arith, r)

pairs_differ : (asked : List Asked) → ((u : Url) → count u (map url_of asked) ≤ 1) → (i j : ℕ) (d : Asked) → i < j → j < length asked → (slice_index_or asked i d).url ≢ (slice_index_or asked j d).url
pairs_differ [] few i j d less within = λ same. absurd (omega arith)
pairs_differ (a ∷ asked) few i zero d less within = λ same. absurd (omega arith)
pairs_differ (a ∷ asked) few zero (suc j) d less within = λ same. let r = counted asked j d a.url (omega arith) same in let e : cond {A = ℕ} (bytes_eq a.url a.url) 1 0 ≡ 1 = ap (λ b. cond b 1 0) ((bytes_eq-Decides a.url a.url).1 refl) in let f = few a.url in absurd (omega (arith, r, e, f))
pairs_differ (a ∷ asked) few (suc i) (suc j) d less within = pairs_differ asked (λ u. let f = few u in omega (arith, f)) i j d (omega arith) (omega arith)

module _ {G S : Type 0} (holds_of : S → Option Contents) (asked_of : S → List Asked) where
  -- where all that callers took differs, so does all that their sources were asked for
  pub asked_once : (v : View (MapEvent Posted G)) (ms : List ℕ) (ds : List (Done S)) → v.numbers ≡ ms ++ map caller_in ds → All (IsDone holds_of asked_of v) ds → AreTakenOnce weight v.seen v.numbers → AllPairs (λ a b. a.url ≢ b.url) (flat_map asked_of (map source_in ds))
  asked_once v ms ds is all once = pairs_differ (flat_map asked_of (map source_in ds)) few
    where
      few : (u : Url) → count u (map url_of (flat_map asked_of (map source_in ds))) ≤ 1
      few u = let f = λ (c : ℕ). count u (takes_by weight c v.seen) in let a = all_few holds_of asked_of v u ds all in let o = once u in
          let e : total f v.numbers ≡ total f (ms ++ map caller_in ds) = ap (total f) is in let t = total_append f ms (map caller_in ds) in omega (arith, a, o, e, t)

module _ {S : Type 0} where
  -- what the sources hold, with one more at the end
  pub kept_on : {X : Type 0} (holds_of : S → X) (jobs rest : List (Job S)) (job : Job S) (before after : List X) (e : X) → jobs ≡ rest ++ job ∷ [] → after ≡ before ++ e ∷ [] → before ≡ map holds_of (map source_of rest) → e ≡ holds_of job.source → after ≡ map holds_of (map source_of jobs)
  kept_on holds_of jobs rest job before after e is more same own = more ∙ ap (λ l. l ++ e ∷ []) same ∙ ap (λ x. map holds_of (map source_of rest) ++ x ∷ []) own
      ∙ sym (map-append holds_of (map source_of rest) (job.source ∷ [])) ∙ ap (map holds_of) (sym (map-append source_of rest (job ∷ []))) ∙ ap (λ l. map holds_of (map source_of l)) (sym is)

  pub none_asked : (asked_of : S → List Asked) (ds : List (Done S)) → ds ≡ [] → AllPairs (λ a b. a.url ≢ b.url) (flat_map asked_of (map source_in ds))
  none_asked asked_of ds none = subst (λ l. AllPairs (λ a b. a.url ≢ b.url) (flat_map asked_of (map source_in l))) (sym none) (λ i j d less within. absurd (omega arith))

  pub none_kept : {X : Type 0} (holds_of : S → X) (ds : List (Done S)) (jobs : List (Job S)) → ds ≡ [] → length jobs ≡ 0 → map holds_of (map source_in ds) ≡ map holds_of (map source_of jobs)
  none_kept holds_of ds [] none empty = ap (λ l. map holds_of (map source_in l)) none
  none_kept holds_of ds (job ∷ jobs) none empty = absurd (omega arith)

pub last_of : {A : Type 0} (P : A → Type 0) (all xs : List A) (x : A) → all ≡ xs ++ x ∷ [] → All P all → P x
last_of {A} P all xs x is each = at_end xs (subst (All P) is each)
  where
    at_end : (ys : List A) → All P (ys ++ x ∷ []) → P x
    at_end [] h = h 0 x (omega arith)
    at_end (y ∷ ys) h = at_end ys (λ k d less. h (suc k) d (omega arith))
