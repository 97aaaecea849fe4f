-- No number is taken twice, and the URLs of numbers differ.
use Rattle.std.proofs.Common.{◌≡◌, ℕ, zero, suc, ◌+◌, ◌≤◌, ◌&&◌, Bool, true, false, cond, nat_lt, List, [], ◌∷◌, ◌++◌, length, sym, refl, ap, ◌∙◌, subst, arith, Option, Some, None, is_some, slice_get, slice_index_or, not, bytes_eq}
use Rattle.std.proofs.lemmas.Slice.Eq.{bytes_eq-Decides}
use Rattle.std.specs.List.{position_or_len}
use Rattle.esm_hlock.specs.Makers.{times, names}
use Rattle.esm_base.specs.Urls.{Url}
use Rattle.esm_module_map.specs.declared.event.Why.{Why}
use Rattle.esm_module_map.specs.declared.event.Why.TheVariants.{Wanted, Ahead}
use Rattle.esm_module_map.specs.declared.event.MapEvent.{MapEvent}
use Rattle.esm_module_map.specs.declared.event.MapEvent.TheVariants.{Begin, Enrol, Ask, Take, Post, Shut}
use Rattle.esm_module_map.specs.declared.number.Number.{Number}
use Rattle.esm_module_map.specs.Replay.{Replay, opening, change_at, asked_again, fresh_number, taken_by, posted_at, asked_by, is_numbered, number_for, is_free, next_order, step, is_legal, is_legal_from, may_come, maker_of}
use Rattle.esm_module_map.specs.Histories.{along}
use Rattle.esm_module_map.specs.Counts.{count, AreTakenOnce}
use Rattle.esm_module_map.proofs.Replays.{both_true, lt_false, length_change}
use Rattle.esm_module_map.proofs.Asks.{next_free}
use Rattle.esm_module_map.proofs.Calls.{the_is}
use Rattle.esm_module_map.proofs.Once.{count_append, takes_all, among_all}

-- ---- the URLs of numbers differ

-- one that isn't found isn't there
unfound : (u : Url) (us : List Url) → length us ≤ position_or_len (bytes_eq u) us → count u us ≡ 0
unfound u [] far = refl
unfound u (v ∷ us) far = by_test (bytes_eq u v) far (unfound u us)
  where
    by_test : (b : Bool) → suc (length us) ≤ cond (not b) (1 + position_or_len (bytes_eq u) us) 0 → (length us ≤ position_or_len (bytes_eq u) us → count u us ≡ 0) → cond b 1 0 + count u us ≡ 0
    by_test true h rest = absurd (omega arith)
    by_test false h rest = let r = rest (omega arith) in omega (arith, r)

-- each URL stands at most once, and each has one number
abbrev pub AreOnce : List Url → Type 0
AreOnce us = (u : Url) → count u us ≤ 1

abbrev pub IsNumbered : Replay → Type 0
IsNumbered s = AreOnce s.urls × (length s.numbers ≡ length s.urls)

once_more : (us : List Url) (v : Url) → count v us ≡ 0 → AreOnce us → AreOnce (us ++ v ∷ [])
once_more us v none once u = by_test (bytes_eq u v) refl
  where
    by_test : (b : Bool) → bytes_eq u v ≡ b → count u (us ++ v ∷ []) ≤ 1
    by_test true e = let same : u ≡ v = (bytes_eq-Decides u v).0 e in let c = subst (λ (x : Url). count x us ≡ 0) (sym same) none in let a = count_append u us (v ∷ []) in let f : cond {A = ℕ} (bytes_eq u v) 1 0 ≡ 1 = ap (λ b. cond b 1 0) e in omega (arith, a, c, f)
    by_test false e = let a = count_append u us (v ∷ []) in let f : cond {A = ℕ} (bytes_eq u v) 1 0 ≡ 0 = ap (λ b. cond b 1 0) e in omega (arith, a, f, once u)

length_more : {A : Type 0} (xs : List A) (x : A) → length (xs ++ x ∷ []) ≡ length xs + 1
length_more [] x = omega arith
length_more (y ∷ xs) x = omega (arith, length_more xs x)

numbered_asked : (b : Bool) (s : Replay) (n : ℕ) (v : Url) (why : Why) → is_numbered s v ≡ b → IsNumbered s → IsNumbered (asked_by b s n v why)
numbered_asked true s n v why e (once, same) = (once, length_change s.numbers n (asked_again why) ∙ same)
numbered_asked false s n v why e (once, same) = (
  once_more s.urls v (unfound v s.urls (lt_false (number_for s v) (length s.urls) e)) once,
  (let a = length_more s.numbers (fresh_number why) in let b = length_more s.urls v in omega (arith, a, b, same)),
)

-- ---- how often a URL is taken

abbrev tally_one : Bool → Number → ℕ
tally_one b x = cond (b && is_some x.taker) 1 0

-- how many taken numbers have the URL
abbrev tally : Url → List Url → List Number → ℕ
tally u [] xs = 0
tally u (v ∷ us) [] = 0
tally u (v ∷ us) (x ∷ xs) = tally_one (bytes_eq u v) x + tally u us xs

one_most : (a b : Bool) → cond (a && b) 1 0 ≤ cond a 1 0
one_most true true = omega arith
one_most true false = omega arith
one_most false b = omega arith

tally_most : (u : Url) (us : List Url) (xs : List Number) → tally u us xs ≤ count u us
tally_most u [] xs = omega arith
tally_most u (v ∷ us) [] = omega arith
tally_most u (v ∷ us) (x ∷ xs) = omega (arith, one_most (bytes_eq u v) (is_some x.taker), tally_most u us xs)

tally_kept : (u : Url) (us : List Url) (xs : List Number) (n : ℕ) (f : Number → Number) → ((x : Number) → is_some (f x).taker ≡ is_some x.taker) → tally u us (change_at xs n f) ≡ tally u us xs
tally_kept u [] xs n f same = refl
tally_kept u (v ∷ us) [] n f same = refl
tally_kept u (v ∷ us) (x ∷ xs) zero f same = ap (λ t. cond (bytes_eq u v && t) 1 0 + tally u us xs) (same x)
tally_kept u (v ∷ us) (x ∷ xs) (suc n) f same = ap (λ k. tally_one (bytes_eq u v) x + k) (tally_kept u us xs n f same)

tally_taken : (u : Url) (us : List Url) (xs : List Number) (n c : ℕ) (x : Number) → length xs ≡ length us → slice_get xs n ≡ Some x → is_free x ≡ true → tally u us (change_at xs n (taken_by c)) ≡ tally u us xs + count u (slice_index_or us n [] ∷ [])
tally_taken u [] [] n c x len at free = cc
tally_taken u [] (y ∷ xs) n c x len at free = absurd (omega arith)
tally_taken u (v ∷ us) [] n c x len at free = cc
tally_taken u (v ∷ us) (y ∷ xs) zero c x len at free = let same : y ≡ x = cc in by_test (bytes_eq u v) y.taker (subst (λ (z : Number). is_free z ≡ true) (sym same) free)
  where
    by_test : (b : Bool) (t : Option ℕ) → not (is_some t) ≡ true → cond (b && true) 1 0 + tally u us xs ≡ (cond (b && is_some t) 1 0 + tally u us xs) + (cond b 1 0 + 0)
    by_test true None e = omega arith
    by_test false None e = omega arith
    by_test b (Some k) e = cc
tally_taken u (v ∷ us) (y ∷ xs) (suc n) c x len at free = let r = tally_taken u us xs n c x (omega arith) at free in omega (arith, r)

and_false : (b : Bool) → b && false ≡ false
and_false true = refl
and_false false = refl

fresh_taker : (why : Why) → is_some (fresh_number why).taker ≡ false
fresh_taker Wanted = refl
fresh_taker (Ahead k) = refl

tally_more : (u : Url) (us : List Url) (xs : List Number) (v : Url) (y : Number) → length xs ≡ length us → is_some y.taker ≡ false → tally u (us ++ v ∷ []) (xs ++ y ∷ []) ≡ tally u us xs
tally_more u [] [] v y len free = let f : cond {A = ℕ} (bytes_eq u v && is_some y.taker) 1 0 ≡ 0 = ap (λ t. cond (bytes_eq u v && t) 1 0) free ∙ ap (λ b. cond b 1 0) (and_false (bytes_eq u v)) in omega (arith, f)
tally_more u [] (x ∷ xs) v y len free = absurd (omega arith)
tally_more u (w ∷ us) [] v y len free = absurd (omega arith)
tally_more u (w ∷ us) (x ∷ xs) v y len free = let r = tally_more u us xs v y (omega arith) free in omega (arith, r)

again_taker : (why : Why) (x : Number) → is_some (asked_again why x).taker ≡ is_some x.taker
again_taker Wanted x = refl
again_taker (Ahead k) x = refl

tally_asked : (u : Url) (b : Bool) (s : Replay) (n : ℕ) (v : Url) (why : Why) → IsNumbered s → tally u (asked_by b s n v why).urls (asked_by b s n v why).numbers ≡ tally u s.urls s.numbers
tally_asked u true s n v why (once, len) = tally_kept u s.urls s.numbers n (asked_again why) (again_taker why)
tally_asked u false s n v why (once, len) = tally_more u s.urls s.numbers v (fresh_number why) len (fresh_taker why)

module _ {P G : Type 0} (weight : P → ℕ) where
  pub numbered_step : (s : Replay) (e : MapEvent P G) → IsNumbered s → IsNumbered (step weight s e)
  numbered_step s (Begin g) h = h
  numbered_step s (Enrol d) h = h
  numbered_step s (Ask d n v why) h = numbered_asked (is_numbered s v) s n v why refl h
  numbered_step s (Take d n) h = (h.0, length_change s.numbers n (taken_by d) ∙ h.1)
  numbered_step s (Post d n p) h = (h.0, length_change s.numbers n (posted_at s.events) ∙ h.1)
  numbered_step s (Shut d) h = h

  -- a take makes one more, and nothing else does
  tally_step : (u : Url) (s : Replay) (e : MapEvent P G) → may_come s e ≡ true → IsNumbered s → tally u (step weight s e).urls (step weight s e).numbers ≡ tally u s.urls s.numbers + count u (takes_all s e)
  tally_step u s (Begin g) ok h = omega arith
  tally_step u s (Enrol d) ok h = omega arith
  tally_step u s (Ask d n v why) ok h = let r = tally_asked u (is_numbered s v) s n v why h in omega (arith, r)
  tally_step u s (Take d n) ok h = let f = next_free s n (the_is n (next_order s) (both_true (not s.shut) _ (both_true (nat_lt d s.callers) _ ok).1).1) in
      tally_taken u s.urls s.numbers n d f.0 h.1 f.1 f.2
  tally_step u s (Post d n p) ok h = let r = tally_kept u s.urls s.numbers n (posted_at s.events) (λ x. refl) in omega (arith, r)
  tally_step u s (Shut d) ok h = omega arith

  -- the takes of the URL are its taken numbers
  takes_most : (u : Url) (s : Replay) (h : List (MapEvent P G)) → is_legal_from weight s h ≡ true → IsNumbered s → tally u s.urls s.numbers + count u (along weight takes_all s h) ≤ 1
  takes_most u s [] ok h = let t = tally_most u s.urls s.numbers in let o = h.0 u in omega (arith, t, o)
  takes_most u s (e ∷ es) ok h = let l = both_true (may_come s e) (is_legal_from weight (step weight s e) es) ok in
      let r = takes_most u (step weight s e) es l.1 (numbered_step s e h) in
      let t = tally_step u s e l.0 h in
      let a = count_append u (takes_all s e) (along weight takes_all (step weight s e) es) in omega (arith, r, t, a)

  -- in a legal history no URL is taken twice
  pub taken_once : (u : Url) (h : List (MapEvent P G)) → is_legal weight h ≡ true → count u (along weight takes_all opening h) ≤ 1
  taken_once u h ok = let r = takes_most u opening h ok ((λ v. omega arith), refl) in omega (arith, r)

  -- nor by callers that differ, all together
  pub taken_once_by : (cs : List ℕ) (h : List (MapEvent P G)) → ((k : ℕ) → names maker_of k h ≡ 1 → times k cs ≡ 1) → is_legal weight h ≡ true → AreTakenOnce weight h cs
  taken_once_by cs h each ok u = let a = among_all weight u cs opening h (λ k named. let e = each k named in omega arith) in let t = taken_once u h ok in omega (arith, a, t)
