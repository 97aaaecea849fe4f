-- That a number is taken once and posted once, and that URLs of numbers differ.
use Rattle.std.proofs.Common.{◌≡◌, ℕ, suc, ◌+◌, ◌≤◌, ◌&&◌, ◌==◌, Bool, true, false, cond, nat_lt, List, [], ◌∷◌, refl, ap, subst, arith, Some, is_some, slice_get, not, ne_eqb}
use Rattle.std.specs.List.{count_by}
use Rattle.std.proofs.lemmas.List.Sums.{sum_by-cons}
use Rattle.esm_hlock.specs.Makers.{is_maker}
use Rattle.esm_module_map.specs.declared.event.Why.{Why}
use Rattle.esm_module_map.specs.declared.event.Why.TheVariants.{Wanted, Ahead}
use Rattle.esm_module_map.specs.declared.event.MapEvent.{MapEvent}
use Rattle.esm_module_map.specs.declared.event.MapEvent.TheVariants.{Begin, Enrol, Ask, Take, Post, Shut}
use Rattle.esm_module_map.specs.declared.number.Number.{Number}
use Rattle.esm_module_map.specs.Replay.{Replay, opening, asked_again, taken_by, posted_at, is_numbered, is_free, is_the, is_order, next_order, step, replay, replay_from, is_legal_from, may_come, maker_of}
use Rattle.esm_module_map.specs.Histories.{is_post_of}
use Rattle.esm_module_map.specs.Laws.{is_take_of, TakenOnce, PostedOnce, UrlsDiffer}
use Rattle.esm_module_map.proofs.Replays.{both_true, true_both, eq_from}
use Rattle.esm_module_map.proofs.Asks.{next_free}
use Rattle.esm_module_map.proofs.Calls.{At, is_done, changed_at, asked_keeps, one_at, posted_step, at_order, the_is, get_changed}
use Rattle.esm_module_map.proofs.Tally.{IsNumbered, numbered_step}

-- ---- what marks a number, and comes once

module _ {P G : Type 0} (weight : P → ℕ) (n : ℕ) (test : Number → Bool) (is_it : MapEvent P G → Bool)
    (kept : (s : Replay) (e : MapEvent P G) → may_come s e ≡ true → At test n s → At test n (step weight s e))
    (sets : (s : Replay) (e : MapEvent P G) → may_come s e ≡ true → is_it e ≡ true → At test n (step weight s e))
    (never : (s : Replay) (e : MapEvent P G) → may_come s e ≡ true → is_it e ≡ true → At test n s → ⊥) where
  count_more : (e : MapEvent P G) (es : List (MapEvent P G)) → count_by is_it (e ∷ es) ≡ cond (is_it e) 1 0 + count_by is_it es
  count_more e es = sum_by-cons (λ x. cond (is_it x) 1 0) e es

  -- behind the mark none comes
  none_behind : (s : Replay) (es : List (MapEvent P G)) → is_legal_from weight s es ≡ true → At test n s → count_by is_it es ≡ 0
  none_behind s [] ok at = refl
  none_behind s (e ∷ es) ok at = let h = both_true (may_come s e) (is_legal_from weight (step weight s e) es) ok in
      by_test (is_it e) refl (none_behind (step weight s e) es h.1 (kept s e h.0 at)) (λ it. never s e h.0 it at)
    where
      by_test : (b : Bool) → is_it e ≡ b → count_by is_it es ≡ 0 → (is_it e ≡ true → ⊥) → count_by is_it (e ∷ es) ≡ 0
      by_test true it rest not_it = absurd (not_it it)
      by_test false it rest not_it = let f : cond {A = ℕ} (is_it e) 1 0 ≡ 0 = ap (λ b. cond b 1 0) it in let m = count_more e es in omega (arith, m, f, rest)

  pub comes_once : (s : Replay) (es : List (MapEvent P G)) → is_legal_from weight s es ≡ true → count_by is_it es ≤ 1
  comes_once s [] ok = omega arith
  comes_once s (e ∷ es) ok = let h = both_true (may_come s e) (is_legal_from weight (step weight s e) es) ok in
      by_test (is_it e) refl (comes_once (step weight s e) es h.1) (λ it. none_behind (step weight s e) es h.1 (sets s e h.0 it))
    where
      by_test : (b : Bool) → is_it e ≡ b → count_by is_it es ≤ 1 → (is_it e ≡ true → count_by is_it es ≡ 0) → count_by is_it (e ∷ es) ≤ 1
      by_test true it rest none = let f : cond {A = ℕ} (is_it e) 1 0 ≡ 1 = ap (λ b. cond b 1 0) it in let m = count_more e es in let z = none it in omega (arith, m, f, z)
      by_test false it rest none = let f : cond {A = ℕ} (is_it e) 1 0 ≡ 0 = ap (λ b. cond b 1 0) it in let m = count_more e es in omega (arith, m, f, rest)

-- ---- takes

abbrev is_taken : Number → Bool
is_taken x = is_some x.taker

again_taken : (why : Why) (x : Number) → is_taken (asked_again why x) ≡ is_taken x
again_taken Wanted x = refl
again_taken (Ahead k) x = refl

not_both : (b : Bool) → not b ≡ true → b ≡ true → ⊥
not_both true e f = cc
not_both false e f = cc

-- what is taken was free
free_for : (s : Replay) (d n : ℕ) → nat_lt d s.callers && (not s.shut && is_the n (next_order s)) ≡ true → (x : Number) × (slice_get s.numbers n ≡ Some x) × (is_free x ≡ true)
free_for s d n ok = next_free s n (the_is n (next_order s) (both_true (not s.shut) (is_the n (next_order s)) (both_true (nat_lt d s.callers) (not s.shut && is_the n (next_order s)) ok).1).1)

module _ {P G : Type 0} (weight : P → ℕ) where
  taken_step : (k : ℕ) (s : Replay) (e : MapEvent P G) → may_come s e ≡ true → At is_taken k s → At is_taken k (step weight s e)
  taken_step k s (Begin g) ok h = h
  taken_step k s (Enrol d) ok h = h
  taken_step k s (Ask d n u why) ok h = asked_keeps is_taken again_taken k (is_numbered s u) s n u why h
  taken_step k s (Take d n) ok h = changed_at is_taken k n s.numbers (taken_by d) h.0 h.1 h.2 (λ _. refl)
  taken_step k s (Post d n p) ok h = changed_at is_taken k n s.numbers (posted_at s.events) h.0 h.1 h.2 (λ _. h.2)
  taken_step k s (Shut d) ok h = h

  take_sets : (k : ℕ) (s : Replay) (e : MapEvent P G) → may_come s e ≡ true → is_take_of k e ≡ true → At is_taken k (step weight s e)
  take_sets k s (Begin g) ok it = cc
  take_sets k s (Enrol d) ok it = cc
  take_sets k s (Ask d n u why) ok it = cc
  take_sets k s (Take d n) ok it = let f = free_for s d n ok in
      let e : MapEvent P G = Take d n in
      subst (λ (m : ℕ). At is_taken m (step weight s e)) (eq_from n k it) (taken_by d f.0, get_changed s.numbers n (taken_by d) f.0 f.1, refl)
  take_sets k s (Post d n p) ok it = cc
  take_sets k s (Shut d) ok it = cc

  take_never : (k : ℕ) (s : Replay) (e : MapEvent P G) → may_come s e ≡ true → is_take_of k e ≡ true → At is_taken k s → ⊥
  take_never k s (Begin g) ok it h = cc
  take_never k s (Enrol d) ok it h = cc
  take_never k s (Ask d n u why) ok it h = cc
  take_never k s (Take d n) ok it h = let f = free_for s d n ok in
      let same = one_at s.numbers k f.0 h.0 (subst (λ (m : ℕ). slice_get s.numbers m ≡ Some f.0) (eq_from n k it) f.1) h.1 in
      not_both (is_some h.0.taker) (subst (λ x. is_free x ≡ true) same f.2) h.2
  take_never k s (Post d n p) ok it h = cc
  take_never k s (Shut d) ok it h = cc

  pub taken_once : TakenOnce P G weight
  taken_once n h ok = comes_once weight n is_taken (is_take_of n) (taken_step n) (take_sets n) (take_never n) opening h ok

-- ---- posts

not_next : (c : ℕ) → (c == suc c) ≡ false
not_next c = ne_eqb c (suc c) (λ e. omega arith)

-- what is posted was out
order_for : (s : Replay) (d n : ℕ) → nat_lt d s.callers && is_order s d n ≡ true → (x : Number) × (slice_get s.numbers n ≡ Some x) × (is_some x.taker ≡ true) × (not (is_some x.place) ≡ true)
order_for s d n ok = let o = at_order s d n (both_true (nat_lt d s.callers) (is_order s d n) ok).1 in let b = both_true (is_the d o.0.taker) (not (is_some o.0.place)) o.2 in
    (o.0, o.1, ap is_some (the_is d o.0.taker b.0), b.1)

module _ {P G : Type 0} (weight : P → ℕ) where
  -- a caller that didn't make the event
  abbrev another : MapEvent P G → ℕ
  another (Begin g) = 0
  another (Enrol c) = suc c
  another (Ask c n u why) = suc c
  another (Take c n) = suc c
  another (Post c n p) = suc c
  another (Shut c) = suc c

  not_own : (e : MapEvent P G) → is_maker (another e) (maker_of e) ≡ false
  not_own (Begin g) = refl
  not_own (Enrol c) = not_next c
  not_own (Ask c n u why) = not_next c
  not_own (Take c n) = not_next c
  not_own (Post c n p) = not_next c
  not_own (Shut c) = not_next c

  done_step : (k : ℕ) (s : Replay) (e : MapEvent P G) → may_come s e ≡ true → At is_done k s → At is_done k (step weight s e)
  done_step k s e ok h = posted_step weight k (another e) s e ok (not_own e) h

  post_sets : (k : ℕ) (s : Replay) (e : MapEvent P G) → may_come s e ≡ true → is_post_of k e ≡ true → At is_done k (step weight s e)
  post_sets k s (Begin g) ok it = cc
  post_sets k s (Enrol d) ok it = cc
  post_sets k s (Ask d n u why) ok it = cc
  post_sets k s (Take d n) ok it = cc
  post_sets k s (Post d n p) ok it = let f = order_for s d n ok in
      let e : MapEvent P G = Post d n p in
      subst (λ (m : ℕ). At is_done m (step weight s e)) (eq_from n k it)
      (posted_at s.events f.0, get_changed s.numbers n (posted_at s.events) f.0 f.1, true_both (is_some f.0.taker) true f.2 refl)
  post_sets k s (Shut d) ok it = cc

  post_never : (k : ℕ) (s : Replay) (e : MapEvent P G) → may_come s e ≡ true → is_post_of k e ≡ true → At is_done k s → ⊥
  post_never k s (Begin g) ok it h = cc
  post_never k s (Enrol d) ok it h = cc
  post_never k s (Ask d n u why) ok it h = cc
  post_never k s (Take d n) ok it h = cc
  post_never k s (Post d n p) ok it h = let f = order_for s d n ok in
      let same = one_at s.numbers k f.0 h.0 (subst (λ (m : ℕ). slice_get s.numbers m ≡ Some f.0) (eq_from n k it) f.1) h.1 in
      not_both (is_some h.0.place) (subst (λ (x : Number). not (is_some x.place) ≡ true) same f.3) (both_true (is_some h.0.taker) (is_some h.0.place) h.2).1
  post_never k s (Shut d) ok it h = cc

  pub posted_once : PostedOnce P G weight
  posted_once n h ok = comes_once weight n is_done (is_post_of n) (done_step n) (post_sets n) (post_never n) opening h ok

  -- ---- URLs

  numbered_all : (s : Replay) (h : List (MapEvent P G)) → IsNumbered s → IsNumbered (replay_from weight s h)
  numbered_all s [] is = is
  numbered_all s (e ∷ es) is = numbered_all (step weight s e) es (numbered_step weight s e is)

  pub numbered_by : (h : List (MapEvent P G)) → IsNumbered (replay weight h)
  numbered_by h = numbered_all opening h ((λ v. omega arith), refl)

  pub urls_differ : UrlsDiffer P G weight
  urls_differ u h = (numbered_by h).0 u
