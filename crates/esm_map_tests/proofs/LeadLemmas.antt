-- What is posted leads to any URL, where each payload does.
use Rattle.std.proofs.Common.{◌≡◌, ◌⊎◌, inl, inr, ℕ, zero, suc, ◌+◌, ◌<◌, ◌==◌, not, nat_lt, bytes_eq, Bool, true, false, cond, List, [], ◌∷◌, ◌++◌, length, slice_get, sym, refl, ◌∙◌, subst, arith, Option, Some, None, is_some}
use Rattle.std.specs.Arc.{arc_value}
use Rattle.esm_base.specs.Urls.{Url, is_usable}
use Rattle.esm_module_map.specs.declared.event.Why.{Why}
use Rattle.esm_module_map.specs.declared.event.Why.TheVariants.{Ahead}
use Rattle.esm_module_map.specs.declared.event.MapEvent.{MapEvent}
use Rattle.esm_module_map.specs.declared.event.MapEvent.TheVariants.{Begin, Enrol, Ask, Take, Post, Shut}
use Rattle.esm_module_map.specs.declared.number.Number.{Number}
use Rattle.esm_module_map.specs.Replay.{Replay, opening, asked_again, fresh_number, taken_by, posted_at, asked_by, number_for, is_numbered, has_place, is_posted, step, replay, replay_from, is_legal, is_legal_from, may_come}
use Rattle.esm_module_map.specs.Leading.{guide_in, url_in, payload_in, leads_by, leads_to}
use Rattle.esm_module_map.specs.Histories.{IsPostIn}
use Rattle.esm_module_map.proofs.Replays.{both_true, length_change, eq_true, eq_from, lt_from, lt_false}
use Rattle.esm_module_map.proofs.Asks.{or_len_most}
use Rattle.esm_module_map.proofs.Posted.{got_less}

some_cond : {A : Type 0} (b : Bool) (a : A) (r : Option A) → is_some r ≡ true → is_some (cond b (Some a) r) ≡ true
some_cond true a r is = refl
some_cond false a r is = is

some_here : {A : Type 0} (b : Bool) (a : A) (r : Option A) → b ≡ true → is_some (cond b (Some a) r) ≡ true
some_here true a r is = refl
some_here false a r is = cc

one_longer : {A : Type 0} (xs : List A) (x : A) → length (xs ++ x ∷ []) ≡ length xs + 1
one_longer [] x = omega arith
one_longer (y ∷ xs) x = omega (arith, one_longer xs x)

none_less : {A : Type 0} (c : ℕ) → nat_lt c 0 ≡ true → A
none_less c is = let less = lt_from c 0 is in absurd (omega (arith, less))

aligned_ask : (b : Bool) (s : Replay) (m : ℕ) (u : Url) (why : Why) → length s.numbers ≡ length s.urls → length (asked_by b s m u why).numbers ≡ length (asked_by b s m u why).urls
aligned_ask true s m u why same = length_change s.numbers m (asked_again why) ∙ same
aligned_ask false s m u why same = let a = one_longer s.numbers (fresh_number why) in let b = one_longer s.urls u in omega (arith, a, b, same)

as_long : (a b n : ℕ) → a ≡ b → n < a → n < b
as_long a b n same less = omega (arith, same, less)

named_ask : (b : Bool) (s : Replay) (m : ℕ) (u : Url) (why : Why) (n : ℕ) → is_numbered s u ≡ b → m ≡ number_for s u → length s.numbers ≡ length s.urls → n < length (asked_by b s m u why).numbers
    → (n < length s.numbers) ⊎ (m ≡ n)
named_ask true s m u why n e is same less = inl (as_long _ _ n (length_change s.numbers m (asked_again why)) less)
named_ask false s m u why n e is same less = by_test (nat_lt n (length s.numbers)) refl
  where
    by_test : (b : Bool) → nat_lt n (length s.numbers) ≡ b → (n < length s.numbers) ⊎ (m ≡ n)
    by_test true f = inl (lt_from n (length s.numbers) f)
    by_test false f = inr (let a = lt_false n (length s.numbers) f in let l = one_longer s.numbers (fresh_number why) in let far = lt_false (number_for s u) (length s.urls) e in let most = or_len_most (bytes_eq u) s.urls in omega (arith, a, l, far, most, is, same, less))

module _ {P G : Type 0} where
  url_later : (n : ℕ) (e : MapEvent P G) (es : List (MapEvent P G)) → is_some (url_in n es) ≡ true → is_some (url_in n (e ∷ es)) ≡ true
  url_later n (Begin g) es is = is
  url_later n (Enrol c) es is = is
  url_later n (Ask c m u why) es is = some_cond (m == n) u (url_in n es) is
  url_later n (Take c m) es is = is
  url_later n (Post c m p) es is = is
  url_later n (Shut c) es is = is

  payload_later : (n : ℕ) (e : MapEvent P G) (es : List (MapEvent P G)) → is_some (payload_in n es) ≡ true → is_some (payload_in n (e ∷ es)) ≡ true
  payload_later n (Begin g) es is = is
  payload_later n (Enrol c) es is = is
  payload_later n (Ask c m u why) es is = is
  payload_later n (Take c m) es is = is
  payload_later n (Post c m p) es is = some_cond (m == n) (arc_value p) (payload_in n es) is
  payload_later n (Shut c) es is = is

  payload_at : (h : List (MapEvent P G)) (n : ℕ) (p : P) (k : ℕ) (e : MapEvent P G) → slice_get h k ≡ Some e → is_some (payload_in n (e ∷ [])) ≡ true → is_some (payload_in n h) ≡ true
  payload_at [] n p k e at is = cc
  payload_at (x ∷ xs) n p zero e at is = let same : x ≡ e = cc in here x (subst (λ (y : MapEvent P G). is_some (payload_in n (y ∷ [])) ≡ true) (sym same) is)
    where
      here : (y : MapEvent P G) → is_some (payload_in n (y ∷ [])) ≡ true → is_some (payload_in n (y ∷ xs)) ≡ true
      here (Begin g) is = cc
      here (Enrol c) is = cc
      here (Ask c m u why) is = cc
      here (Take c m) is = cc
      here (Post c m q) is = by_test (m == n) is
        where
          by_test : (b : Bool) → is_some (cond b (Some (arc_value q)) None) ≡ true → is_some (cond b (Some (arc_value q)) (payload_in n xs)) ≡ true
          by_test true is = refl
          by_test false is = cc
      here (Shut c) is = cc
  payload_at (x ∷ xs) n p (suc k) e at is = payload_later n x xs (payload_at xs n p k e at is)

  payload_there : (h : List (MapEvent P G)) (n : ℕ) (p : P) → IsPostIn h n p → is_some (payload_in n h) ≡ true
  payload_there h n p (k, e, at, (c, q, is, value)) = payload_at h n p k e at (subst (λ (y : MapEvent P G). is_some (payload_in n (y ∷ [])) ≡ true) (sym is) (some_here (n == n) (arc_value q) None (eq_true n n refl)))

module _ {P G : Type 0} (weight : P → ℕ) where
  first_may : (e : MapEvent P G) (es : List (MapEvent P G)) → is_legal weight (e ∷ es) ≡ true → may_come opening e ≡ true
  first_may e es ok = (both_true (may_come opening e) (is_legal_from weight (step weight opening e) es) ok).0

  -- a history that has something begins with its guide
  guide_there : (h : List (MapEvent P G)) (k : ℕ) (e : MapEvent P G) → is_legal weight h ≡ true → slice_get h k ≡ Some e → is_some (guide_in h) ≡ true
  guide_there [] k e ok at = cc
  guide_there (Begin g ∷ es) k e ok at = refl
  guide_there (Enrol c ∷ es) k e ok at = let less = lt_from 0 0 (both_true (c == 0) (nat_lt 0 0) (first_may (Enrol c) es ok)).1 in absurd (omega (arith, less))
  guide_there (Ask c n u why ∷ es) k e ok at = none_less c (both_true (nat_lt c 0) _ (first_may (Ask c n u why) es ok)).0
  guide_there (Take c n ∷ es) k e ok at = none_less c (both_true (nat_lt c 0) _ (first_may (Take c n) es ok)).0
  guide_there (Post c n p ∷ es) k e ok at = none_less c (both_true (nat_lt c 0) _ (first_may (Post c n p) es ok)).0
  guide_there (Shut c ∷ es) k e ok at = none_less c (both_true (nat_lt c 0) _ (first_may (Shut c) es ok)).0

  -- there are as many URLs as numbers
  aligned : (s : Replay) (e : MapEvent P G) → length s.numbers ≡ length s.urls → length (step weight s e).numbers ≡ length (step weight s e).urls
  aligned s (Begin g) same = same
  aligned s (Enrol c) same = same
  aligned s (Ask c m u why) same = aligned_ask (is_numbered s u) s m u why same
  aligned s (Take c m) same = length_change s.numbers m (taken_by c) ∙ same
  aligned s (Post c m p) same = length_change s.numbers m (posted_at s.events) ∙ same
  aligned s (Shut c) same = same

  -- an event that makes a number asks for its URL
  named : (s : Replay) (e : MapEvent P G) (es : List (MapEvent P G)) (n : ℕ) → may_come s e ≡ true → length s.numbers ≡ length s.urls → n < length (step weight s e).numbers → (n < length s.numbers) ⊎ (is_some (url_in n (e ∷ es)) ≡ true)
  named s (Begin g) es n ok same less = inl less
  named s (Enrol c) es n ok same less = inl less
  named s (Ask c m u why) es n ok same less =
      let is = eq_from m (number_for s u) (both_true (m == number_for s u) _ (both_true (is_usable u) _ (both_true (not s.shut) _ (both_true (nat_lt c s.callers) _ ok).1).1).1).0 in
      either (named_ask (is_numbered s u) s m u why n refl is same less)
    where
      either : (n < length s.numbers) ⊎ (m ≡ n) → (n < length s.numbers) ⊎ (is_some (cond (m == n) (Some u) (url_in n es)) ≡ true)
      either (inl l) = inl l
      either (inr at) = inr (some_here (m == n) u (url_in n es) (eq_true m n at))
  named s (Take c m) es n ok same less = inl (as_long _ _ n (length_change s.numbers m (taken_by c)) less)
  named s (Post c m p) es n ok same less = inl (as_long _ _ n (length_change s.numbers m (posted_at s.events)) less)
  named s (Shut c) es n ok same less = inl less

  named_from : (s : Replay) (es : List (MapEvent P G)) (n : ℕ) → is_legal_from weight s es ≡ true → length s.numbers ≡ length s.urls → n < length (replay_from weight s es).numbers → (n < length s.numbers) ⊎ (is_some (url_in n es) ≡ true)
  named_from s [] n ok same less = inl less
  named_from s (e ∷ es) n ok same less = let h = both_true (may_come s e) (is_legal_from weight (step weight s e) es) ok in
      either h.0 (named_from (step weight s e) es n h.1 (aligned s e same) less)
    where
      either : may_come s e ≡ true → (n < length (step weight s e).numbers) ⊎ (is_some (url_in n es) ≡ true) → (n < length s.numbers) ⊎ (is_some (url_in n (e ∷ es)) ≡ true)
      either may (inl l) = named s e es n may same l
      either may (inr is) = inr (url_later n e es is)

  url_there : (h : List (MapEvent P G)) (n : ℕ) → is_legal weight h ≡ true → is_posted (replay weight h) n ≡ true → is_some (url_in n h) ≡ true
  url_there h n ok is = by_slot (slice_get (replay weight h).numbers n) refl is
    where
      either : (n < length opening.numbers) ⊎ (is_some (url_in n h) ≡ true) → is_some (url_in n h) ≡ true
      either (inl l) = absurd (omega (arith, l))
      either (inr is) = is

      by_slot : (o : Option Number) → slice_get (replay weight h).numbers n ≡ o → has_place o ≡ true → is_some (url_in n h) ≡ true
      by_slot None at is = cc
      by_slot (Some x) at is = either (named_from opening h n ok refl (got_less (replay weight h).numbers n x at))

  module _ (leads : G → P → Url → Url → Bool) where
    by_three : (any : (g : G) (p : P) (from to : Url) → leads g p from to ≡ true) (a : Option G) (b : Option P) (d : Option Url) (to : Url) → is_some a ≡ true → is_some b ≡ true → is_some d ≡ true → leads_by leads a b d to ≡ true
    by_three any (Some g) (Some p) (Some from) to e f h = any g p from to
    by_three any (Some g) (Some p) None to e f h = cc
    by_three any (Some g) None d to e f h = cc
    by_three any None b d to e f h = cc

    pub posted_leads : ((g : G) (p : P) (from to : Url) → leads g p from to ≡ true) → (h : List (MapEvent P G)) (n : ℕ) (p : P) → is_legal weight h ≡ true → is_posted (replay weight h) n ≡ true → IsPostIn h n p
        → (to : Url) → leads_to leads h (Ahead n) to ≡ true
    posted_leads any h n p ok is post to =
        by_three any (guide_in h) (payload_in n h) (url_in n h) to (guide_there h post.0 post.1 ok post.2) (payload_there h n p post) (url_there h n ok is)
