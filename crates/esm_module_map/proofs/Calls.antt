-- What a call of a caller leads to, from what the lock tells.
use Rattle.std.proofs.Common.{◌≡◌, ◌≢◌, ℕ, zero, suc, ◌+◌, ◌<◌, ◌≤◌, ◌&&◌, Bool, true, false, cond, nat_lt, List, [], ◌∷◌, ◌++◌, length, sym, refl, ap, ◌∙◌, subst, arith, Option, Some, None, is_some, slice_get, not, ◌==◌, ne_eqb, ◌⊎◌, inl, inr}
use Rattle.esm_hlock.specs.Makers as all
use Rattle.esm_hlock.specs.Makers.{times, is_maker, names, number_after, numbers_after, added}
use Rattle.esm_hlock.specs.declared.view.View.{View}
use Rattle.esm_hlock.specs.Views.{longer}
use Rattle.esm_base.specs.Urls.{Url}
use Rattle.esm_module_map.specs.declared.event.Why.{Why}
use Rattle.esm_module_map.specs.declared.event.Why.TheVariants.{Wanted, Ahead}
use Rattle.esm_module_map.specs.declared.event.MapEvent.{MapEvent}
use Rattle.esm_module_map.specs.declared.event.MapEvent.TheVariants.{Begin, Enrol, Ask, Take, Post, Shut}
use Rattle.esm_module_map.specs.declared.number.Number.{Number}
use Rattle.esm_module_map.specs.Replay.{Replay, opening, change_at, asked_again, taken_by, posted_at, asked_by, is_numbered, is_posted, has_place, is_free, is_the, is_out_with, is_order, next_order, may_be_ahead, step, replay, replay_from, is_legal, is_legal_from, may_come, maker_of}
use Rattle.esm_module_map.specs.Replies.{ContinuesFor}
use Rattle.esm_module_map.proofs.Replays.{both_true, true_both, lt_from, eq_true, eq_from}
use Rattle.esm_module_map.proofs.Asks.{next_free}

asked_callers : (b : Bool) (s : Replay) (n : ℕ) (u : Url) (why : Why) → (asked_by b s n u why).callers ≡ s.callers
asked_callers true s n u why = refl
asked_callers false s n u why = refl

other_than : (k c : ℕ) → c < k → (c == k) ≡ false
other_than k c less = ne_eqb c k (λ e. omega arith)

false_true : {b : Bool} → b ≡ false → b ≡ true → ⊥
false_true e f = cc

pub added_one : {E : Type 0} (es : List E) (e : E) → added es (es ++ e ∷ []) ≡ e ∷ []
added_one [] e = refl
added_one (x ∷ es) e = added_one es e

pub own_after : {E : Type 0} (maker : E → Option ℕ) (m : Option ℕ) (n : ℕ) (more : List E) → m ≡ Some n → number_after maker m more ≡ Some n
own_after maker m n more own = ap (λ k. number_after maker k more) own

pub numbers_kept : {E : Type 0} (maker : E → Option ℕ) (m : Option ℕ) (n : ℕ) (ns : List ℕ) (more : List E) → m ≡ Some n → numbers_after maker m ns more ≡ ns
numbers_kept maker m n ns more own = ap (λ k. numbers_after maker k ns more) own

pub listed_self : (n : ℕ) (ns : List ℕ) → 0 < times n (n ∷ ns)
listed_self n ns = let e : cond {A = ℕ} (n == n) 1 0 ≡ 1 = ap (λ b. cond b 1 0) (eq_true n n refl) in omega (arith, e)

pub listed_left : (n : ℕ) (xs ys : List ℕ) → 0 < times n xs → 0 < times n (xs ++ ys)
listed_left n [] ys h = absurd (omega arith)
listed_left n (x ∷ xs) ys h = by_test (x == n) (times n xs) (times n (xs ++ ys)) h (listed_left n xs ys)
  where
    by_test : (b : Bool) (k m : ℕ) → 0 < cond b 1 0 + k → (0 < k → 0 < m) → 0 < cond b 1 0 + m
    by_test true k m h f = omega arith
    by_test false k m h f = let g = f (omega arith) in omega arith

module _ {P G : Type 0} (weight : P → ℕ) where
  pub replay_split : (s : Replay) (es fs : List (MapEvent P G)) → replay_from weight s (es ++ fs) ≡ replay_from weight (replay_from weight s es) fs
  replay_split s [] fs = refl
  replay_split s (e ∷ es) fs = replay_split (step weight s e) es fs

  pub legal_split : (s : Replay) (es fs : List (MapEvent P G)) → is_legal_from weight s (es ++ fs) ≡ true → (is_legal_from weight s es ≡ true) × (is_legal_from weight (replay_from weight s es) fs ≡ true)
  legal_split s [] fs ok = (refl, ok)
  legal_split s (e ∷ es) fs ok = let h = both_true (may_come s e) (is_legal_from weight (step weight s e) (es ++ fs)) ok in let r = legal_split (step weight s e) es fs h.1 in
      (true_both (may_come s e) _ h.0 r.0, r.1)

  callers_step : (s : Replay) (e : MapEvent P G) → s.callers ≤ (step weight s e).callers
  callers_step s (Begin g) = omega arith
  callers_step s (Enrol c) = omega arith
  callers_step s (Ask c n u why) = let e = asked_callers (is_numbered s u) s n u why in omega arith
  callers_step s (Take c n) = omega arith
  callers_step s (Post c n p) = omega arith
  callers_step s (Shut c) = omega arith

  pub callers_grow : (s : Replay) (es : List (MapEvent P G)) → s.callers ≤ (replay_from weight s es).callers
  callers_grow s [] = omega arith
  callers_grow s (e ∷ es) = omega (arith, callers_step s e, callers_grow (step weight s e) es)

  pub other_maker : (s : Replay) (e : MapEvent P G) (k : ℕ) → may_come s e ≡ true → (step weight s e).callers ≤ k → is_maker k (maker_of e) ≡ false
  other_maker s (Begin g) k ok le = refl
  other_maker s (Enrol c) k ok le = let h = eq_from c s.callers (both_true (c == s.callers) _ ok).0 in other_than k c (omega arith)
  other_maker s (Ask c n u why) k ok le = let h = lt_from c s.callers (both_true (nat_lt c s.callers) _ ok).0 in let e = asked_callers (is_numbered s u) s n u why in other_than k c (omega arith)
  other_maker s (Take c n) k ok le = let h = lt_from c s.callers (both_true (nat_lt c s.callers) _ ok).0 in other_than k c (omega arith)
  other_maker s (Post c n p) k ok le = let h = lt_from c s.callers (both_true (nat_lt c s.callers) _ ok).0 in other_than k c (omega arith)
  other_maker s (Shut c) k ok le = let h = lt_from c s.callers (both_true (nat_lt c s.callers) _ ok).0 in other_than k c (omega arith)

  -- no event names a caller that has not enrolled
  pub unnamed : (s : Replay) (es : List (MapEvent P G)) (k : ℕ) → is_legal_from weight s es ≡ true → (replay_from weight s es).callers ≤ k → names maker_of k es ≡ 0
  unnamed s [] k ok le = refl
  unnamed s (e ∷ es) k ok le = let h = both_true (may_come s e) (is_legal_from weight (step weight s e) es) ok in
      ap (λ b. cond b 1 (names maker_of k es)) (other_maker s e k h.0 (let a = callers_grow (step weight s e) es in omega arith)) ∙ unnamed (step weight s e) es k h.1 le

  -- who has enrolled stays so
  pub in_found : (seen found : List (MapEvent P G)) (n : Option ℕ) (k : ℕ) → ContinuesFor maker_of found seen n → nat_lt k (replay weight seen).callers ≡ true → k < (replay weight found).callers
  in_found seen found n k q enrolled = let h = lt_from k (replay weight seen).callers enrolled in
      let g = callers_grow (replay weight seen) q.0 in let e : (replay weight found).callers ≡ (replay_from weight (replay weight seen) q.0).callers = ap (λ l. (replay weight l).callers) q.1 ∙ ap (λ (r : Replay). r.callers) (replay_split opening seen q.0) in omega arith

  -- what a caller finds, by its own number
  pub continues_as : (log : List (MapEvent P G)) (v w : View (MapEvent P G)) (n : ℕ) → w ≡ v → 0 < times n w.numbers → all.Continues maker_of log v.seen v.numbers → ContinuesFor maker_of log w.seen (Some n)
  continues_as log v w n same listed q = let r = subst (λ (x : View (MapEvent P G)). all.Continues maker_of log x.seen x.numbers) (sym same) q in
      (r.0, r.1, λ k e. let is : n ≡ k = cc in r.2 k (subst (λ (m : ℕ). 0 < times m w.numbers) is listed))

  pub continues_none : (log seen : List (MapEvent P G)) (ns : List ℕ) → all.Continues maker_of log seen ns → ContinuesFor maker_of log seen None
  continues_none log seen ns q = (q.0, q.1, λ k e. cc)

  -- what holds of a replay, and is kept by each step of others, holds after their events
  pub stays : (Q : Replay → Type 0) (k : ℕ) → ((s : Replay) (e : MapEvent P G) → may_come s e ≡ true → is_maker k (maker_of e) ≡ false → Q s → Q (step weight s e))
      → (s : Replay) (es : List (MapEvent P G)) → is_legal_from weight s es ≡ true → names maker_of k es ≡ 0 → Q s → Q (replay_from weight s es)
  stays Q k kept s [] ok none q = q
  stays Q k kept s (e ∷ es) ok none q = let h = both_true (may_come s e) (is_legal_from weight (step weight s e) es) ok in let o = others (is_maker k (maker_of e)) (names maker_of k es) none in
      stays Q k kept (step weight s e) es h.1 o.1 (kept s e h.0 o.0 q)
    where
      others : (b : Bool) (n : ℕ) → cond b 1 n ≡ 0 → (b ≡ false) × (n ≡ 0)
      others true n e = absurd (omega arith)
      others false n e = (refl, e)

  pub stays_found : (Q : Replay → Type 0) (k : ℕ) → ((s : Replay) (e : MapEvent P G) → may_come s e ≡ true → is_maker k (maker_of e) ≡ false → Q s → Q (step weight s e))
      → (seen found : List (MapEvent P G)) → is_legal weight found ≡ true → ContinuesFor maker_of found seen (Some k) → Q (replay weight seen) → Q (replay weight found)
  stays_found Q k kept seen found ok q holds = let l = legal_split opening seen q.0 (subst (λ h. is_legal weight h ≡ true) q.1 ok) in
      subst Q (sym (ap (replay weight) q.1 ∙ replay_split opening seen q.0)) (stays Q k kept (replay weight seen) q.0 l.1 (q.2 k refl) holds)

-- ---- numbers

module _ {A : Type 0} where
  pub get_changed : (xs : List A) (n : ℕ) (f : A → A) (x : A) → slice_get xs n ≡ Some x → slice_get (change_at xs n f) n ≡ Some (f x)
  get_changed [] n f x at = cc
  get_changed (y ∷ xs) zero f x at = let same : y ≡ x = cc in ap (λ z. Some (f z)) same
  get_changed (y ∷ xs) (suc n) f x at = get_changed xs n f x at

  pub get_unchanged : (xs : List A) (n k : ℕ) (f : A → A) → n ≢ k → slice_get (change_at xs n f) k ≡ slice_get xs k
  get_unchanged [] n k f other = refl
  get_unchanged (y ∷ xs) zero zero f other = absurd (other refl)
  get_unchanged (y ∷ xs) zero (suc k) f other = refl
  get_unchanged (y ∷ xs) (suc n) zero f other = refl
  get_unchanged (y ∷ xs) (suc n) (suc k) f other = get_unchanged xs n k f (λ e. other (ap suc e))

  pub get_append : (xs ys : List A) (k : ℕ) (x : A) → slice_get xs k ≡ Some x → slice_get (xs ++ ys) k ≡ Some x
  get_append [] ys k x at = cc
  get_append (y ∷ xs) ys zero x at = at
  get_append (y ∷ xs) ys (suc k) x at = get_append xs ys k x at

-- equal, or not
pub same_or : (n k : ℕ) → (n ≡ k) ⊎ (n ≢ k)
same_or n k = by_test (n == k) refl
  where
    by_test : (b : Bool) → (n == k) ≡ b → (n ≡ k) ⊎ (n ≢ k)
    by_test true e = inl (eq_from n k e)
    by_test false e = inr (λ same. false_true e (eq_true n k same))

-- the number k is one for which a test holds
abbrev pub At : (Number → Bool) → ℕ → Replay → Type 0
At test k s = (x : Number) × (slice_get s.numbers k ≡ Some x) × (test x ≡ true)

pub changed_at : (test : Number → Bool) (k n : ℕ) (xs : List Number) (f : Number → Number) (x : Number) → slice_get xs k ≡ Some x → test x ≡ true → (n ≡ k → test (f x) ≡ true) → (y : Number) × (slice_get (change_at xs n f) k ≡ Some y) × (test y ≡ true)
changed_at test k n xs f x at ok own = by_place (same_or n k)
  where
    by_place : (n ≡ k) ⊎ (n ≢ k) → (y : Number) × (slice_get (change_at xs n f) k ≡ Some y) × (test y ≡ true)
    by_place (inl same) = (f x, subst (λ m. slice_get (change_at xs m f) k ≡ Some (f x)) (sym same) (get_changed xs k f x at), own same)
    by_place (inr other) = (x, get_unchanged xs n k f other ∙ at, ok)

abbrev pub is_out_of : ℕ → Number → Bool
is_out_of c x = is_out_with c (Some x)

abbrev pub is_done : Number → Bool
is_done x = has_place (Some x)

pub asked_keeps : (test : Number → Bool) → ((why : Why) (x : Number) → test (asked_again why x) ≡ test x) → (k : ℕ) (b : Bool) (s : Replay) (n : ℕ) (u : Url) (why : Why) → At test k s → At test k (asked_by b s n u why)
asked_keeps test same k true s n u why h = changed_at test k n s.numbers (asked_again why) h.0 h.1 h.2 (λ _. same why h.0 ∙ h.2)
asked_keeps test same k false s n u why h = (h.0, get_append s.numbers _ k h.0 h.1, h.2)

again_out : (c : ℕ) (why : Why) (x : Number) → is_out_of c (asked_again why x) ≡ is_out_of c x
again_out c Wanted x = refl
again_out c (Ahead k) x = refl

again_done : (why : Why) (x : Number) → is_done (asked_again why x) ≡ is_done x
again_done Wanted x = refl
again_done (Ahead k) x = refl

-- who has taken a number, and whom another event names
taken_not_free : (t : Option ℕ) (b : Bool) → not (is_some t) ≡ true → is_some t && b ≡ true → ⊥
taken_not_free None b e f = cc
taken_not_free (Some k) b e f = cc

the_some : (c : ℕ) (t : Option ℕ) (b : Bool) → is_the c t && b ≡ true → is_some t && b ≡ true
the_some c None b e = cc
the_some c (Some k) b e = (both_true (k == c) b e).1

pub the_is : (n : ℕ) (o : Option ℕ) → is_the n o ≡ true → o ≡ Some n
the_is n None e = cc
the_is n (Some m) e = ap Some (eq_from m n e)

same_taker : (c d : ℕ) (t : Option ℕ) → is_the c t ≡ true → is_the d t ≡ true → c ≡ d
same_taker c d t e f = let a = the_is c t e in let b = the_is d t f in let both : Some c ≡ Some d = sym a ∙ b in cc

pub at_posted : (s : Replay) (k : ℕ) → is_posted s k ≡ true → At is_done k s
at_posted s k e = by_get (slice_get s.numbers k) refl e
  where
    by_get : (o : Option Number) → slice_get s.numbers k ≡ o → has_place o ≡ true → At is_done k s
    by_get None at e = cc
    by_get (Some x) at e = (x, at, e)

pub at_order : (s : Replay) (c k : ℕ) → is_order s c k ≡ true → At (is_out_of c) k s
at_order s c k e = by_get (slice_get s.numbers k) refl e
  where
    by_get : (o : Option Number) → slice_get s.numbers k ≡ o → is_out_with c o ≡ true → At (is_out_of c) k s
    by_get None at e = cc
    by_get (Some x) at e = (x, at, e)

-- one thing stands at a place
pub one_at : (xs : List Number) (k : ℕ) (x y : Number) → slice_get xs k ≡ Some x → slice_get xs k ≡ Some y → x ≡ y
one_at xs k x y a b = let both : Some x ≡ Some y = sym a ∙ b in cc

-- what is taken next is no order, and orders stay orders
pub not_next : (k c n : ℕ) (s : Replay) → next_order s ≡ Some n → At (is_out_of c) k s → n ≢ k
not_next k c n s next h same = let f = next_free s n next in
    taken_not_free h.0.taker (not (is_some h.0.place)) (subst (λ x. is_free x ≡ true) (one_at s.numbers k f.0 h.0 (subst (λ m. slice_get s.numbers m ≡ Some f.0) same f.1) h.1) f.2) (the_some c h.0.taker (not (is_some h.0.place)) h.2)

pub taken_beside : (k c d n : ℕ) (s : Replay) → next_order s ≡ Some n → At (is_out_of c) k s → At (is_out_of c) k (record s { events = s.events + 1; numbers = change_at s.numbers n (taken_by d) })
taken_beside k c d n s next h = changed_at (is_out_of c) k n s.numbers (taken_by d) h.0 h.1 h.2 (λ same. absurd (not_next k c n s next h same))

module _ {P G : Type 0} (weight : P → ℕ) where
  pub posted_step : (k c : ℕ) (s : Replay) (e : MapEvent P G) → may_come s e ≡ true → is_maker c (maker_of e) ≡ false → At is_done k s → At is_done k (step weight s e)
  posted_step k c s (Begin g) ok other h = h
  posted_step k c s (Enrol d) ok other h = h
  posted_step k c s (Ask d n u why) ok other h = asked_keeps is_done again_done k (is_numbered s u) s n u why h
  posted_step k c s (Take d n) ok other h = let f = next_free s n (the_is n (next_order s) (both_true (not s.shut) _ (both_true (nat_lt d s.callers) _ ok).1).1) in
      changed_at is_done k n s.numbers (taken_by d) h.0 h.1 h.2 (λ same. absurd (taken_not_free h.0.taker (is_some h.0.place) (subst (λ x. is_free x ≡ true) (one_at s.numbers k f.0 h.0 (subst (λ m. slice_get s.numbers m ≡ Some f.0) same f.1) h.1) f.2) h.2))
  posted_step k c s (Post d n p) ok other h = changed_at is_done k n s.numbers (posted_at s.events) h.0 h.1 h.2 (λ _. true_both (is_some h.0.taker) true (both_true (is_some h.0.taker) (is_some h.0.place) h.2).0 refl)
  posted_step k c s (Shut d) ok other h = h

  order_step : (k c : ℕ) (s : Replay) (e : MapEvent P G) → may_come s e ≡ true → is_maker c (maker_of e) ≡ false → At (is_out_of c) k s → At (is_out_of c) k (step weight s e)
  order_step k c s (Begin g) ok other h = h
  order_step k c s (Enrol d) ok other h = h
  order_step k c s (Ask d n u why) ok other h = asked_keeps (is_out_of c) (again_out c) k (is_numbered s u) s n u why h
  order_step k c s (Take d n) ok other h = taken_beside k c d n s (the_is n (next_order s) (both_true (not s.shut) _ (both_true (nat_lt d s.callers) _ ok).1).1) h
  order_step k c s (Post d n p) ok other h = let o = at_order s d n (both_true (nat_lt d s.callers) _ ok).1 in
      changed_at (is_out_of c) k n s.numbers (posted_at s.events) h.0 h.1 h.2 (λ same. absurd (false_true other (eq_true d c (same_taker d c h.0.taker
      (subst (λ (x : Number). is_the d x.taker ≡ true) (one_at s.numbers k o.0 h.0 (subst (λ m. slice_get s.numbers m ≡ Some o.0) same o.1) h.1) (both_true (is_the d o.0.taker) (not (is_some o.0.place)) o.2).0)
      (both_true (is_the c h.0.taker) (not (is_some h.0.place)) h.2).0))))
  order_step k c s (Shut d) ok other h = h

  -- what was posted is so later
  pub posted_found : (why : Why) (c : ℕ) (seen found : List (MapEvent P G)) → is_legal weight found ≡ true → ContinuesFor maker_of found seen (Some c) → may_be_ahead (replay weight seen) why ≡ true → may_be_ahead (replay weight found) why ≡ true
  posted_found Wanted c seen found ok q e = refl
  posted_found (Ahead k) c seen found ok q e = let h = stays_found weight (At is_done k) c (posted_step k c) seen found ok q (at_posted (replay weight seen) k e) in ap has_place h.1 ∙ h.2

  -- an order of a caller stays so, whatever others do
  pub order_found : (c k : ℕ) (seen found : List (MapEvent P G)) → is_legal weight found ≡ true → ContinuesFor maker_of found seen (Some c) → is_order (replay weight seen) c k ≡ true → is_order (replay weight found) c k ≡ true
  order_found c k seen found ok q e = let h = stays_found weight (At (is_out_of c) k) c (order_step k c) seen found ok q (at_order (replay weight seen) c k e) in ap (is_out_with c) h.1 ∙ h.2

  pub longer_legal : (xs ys : List (MapEvent P G)) → is_legal weight xs ≡ true → is_legal weight ys ≡ true → is_legal weight (longer xs ys) ≡ true
  longer_legal xs ys a b = by_test (nat_lt (length xs) (length ys))
    where
      by_test : (t : Bool) → is_legal weight (cond t ys xs) ≡ true
      by_test true = b
      by_test false = a
