-- What each call does to a replay: the event may come, and the step leads to the new state.
use Rattle.std.proofs.Common.{◌≡◌, ℕ, zero, suc, ◌+◌, ◌<◌, ◌≤◌, ◌&&◌, ◌||◌, Bool, true, false, cond, nat_lt, min, List, [], ◌∷◌, ◌++◌, length, sym, refl, ap, ◌∙◌, subst, arith, Option, Some, None, is_some, slice_get, slice_index_or, not, bytes_eq, position, ◌⊎◌, inl, inr, ◌==◌}
use Rattle.std.proofs.lemmas.Option.{slice_get_within}
use Rattle.std.specs.List.{position_or_len, list_any}
use Rattle.std.specs.Arc.{arc_value}
use Rattle.std.specs.declared.sync.Arc.{Arc}
use Rattle.std.specs.declared.alloc.Global.{Global}
use Rattle.std.specs.Prelude.{Result, Ok, Err, OnOk, OnErr, MatchResult}
use Rattle.esm_base.specs.Urls.{Url, is_usable}
use Rattle.esm_module_map.specs.declared.event.Why.{Why}
use Rattle.esm_module_map.specs.declared.event.Why.TheVariants.{Wanted, Ahead}
use Rattle.esm_module_map.specs.declared.event.MapEvent.{MapEvent}
use Rattle.esm_module_map.specs.declared.event.MapEvent.TheVariants.{Ask, Take, Post}
use Rattle.esm_module_map.specs.declared.number.Number.{Number}
use Rattle.esm_module_map.specs.declared.reply.Asked.{Asked}
use Rattle.esm_module_map.specs.Replay.{Replay, change_at, asked_again, fresh_number, taken_by, posted_at, made_wanted, made_ahead, asked_by, is_numbered, number_for, may_ask, may_be_ahead, has_room, is_posted, is_free, is_wanted_and_free, is_out_with, is_the, is_order, next_by, next_order, step, replay, is_legal, may_come}
use Rattle.esm_module_map.specs.Inner.Outs.{outs_of, is_out}
use Rattle.esm_base.specs.declared.limits.TheConstants.{MAX_DELIVERED_BYTES}
use Rattle.esm_module_map.specs.Replies.{answer_by, answer_for}
use Rattle.esm_module_map.proofs.Replays.{both_true, true_both, lt_true, lt_from, lt_false, lt_none, outs_change, eq_true, legal_with, replay_with}

-- ---- places in lists

any_head : (b l : Bool) (n m : ℕ) → l ≡ nat_lt n m → (b || l) ≡ nat_lt (cond (not b) (1 + n) 0) (suc m)
any_head true l n m e = sym (lt_true 0 (suc m) (omega arith))
any_head false true n m e = sym (lt_true (1 + n) (suc m) (let h = lt_from n m (sym e) in omega arith))
any_head false false n m e = sym (lt_none (1 + n) (suc m) (let h = lt_false n m (sym e) in omega arith))

module _ {X : Type 0} (p : X → Bool) where
  pub any_within : (xs : List X) → list_any p xs ≡ nat_lt (position_or_len p xs) (length xs)
  any_within [] = refl
  any_within (x ∷ xs) = any_head (p x) (list_any p xs) (position_or_len p xs) (length xs) (any_within xs)

  at_head : (x : X) (xs : List X) (b : Bool) → p x ≡ b → cond (not b) (1 + position_or_len p xs) 0 < suc (length xs)
      → (position_or_len p xs < length xs → (y : X) × (slice_get xs (position_or_len p xs) ≡ Some y) × (p y ≡ true))
      → (y : X) × (slice_get (x ∷ xs) (cond (not b) (1 + position_or_len p xs) 0) ≡ Some y) × (p y ≡ true)
  at_head x xs true e less later = (x, refl, e)
  at_head x xs false e less later = let r = later (omega arith) in let n = position_or_len p xs in let one : suc n ≡ 1 + n = omega arith in
      (r.0, subst (λ k. slice_get (x ∷ xs) k ≡ Some r.0) one r.1, r.2)

  -- what stands where the first passes
  pub at_first : (xs : List X) → position_or_len p xs < length xs → (y : X) × (slice_get xs (position_or_len p xs) ≡ Some y) × (p y ≡ true)
  at_first [] less = absurd (omega arith)
  at_first (x ∷ xs) less = at_head x xs (p x) refl less (at_first xs)

  pub first_from : (xs : List X) (n : ℕ) → position p xs ≡ Some n → (position_or_len p xs ≡ n) × (n < length xs)
  first_from xs n is = by_test (nat_lt (position_or_len p xs) (length xs)) refl is
    where
      by_test : (b : Bool) → nat_lt (position_or_len p xs) (length xs) ≡ b → cond b (Some (position_or_len p xs)) None ≡ Some n → (position_or_len p xs ≡ n) × (n < length xs)
      by_test true e is = let same : position_or_len p xs ≡ n = cc in (same, subst (λ k. k < length xs) same (lt_from (position_or_len p xs) (length xs) e))
      by_test false e is = cc

  pub none_from : (xs : List X) → position p xs ≡ None → nat_lt (position_or_len p xs) (length xs) ≡ false
  none_from xs is = by_test (nat_lt (position_or_len p xs) (length xs)) refl is
    where
      by_test : (b : Bool) → nat_lt (position_or_len p xs) (length xs) ≡ b → cond b (Some (position_or_len p xs)) None ≡ None → nat_lt (position_or_len p xs) (length xs) ≡ false
      by_test true e is = cc
      by_test false e is = e

  pub or_len_most : (xs : List X) → position_or_len p xs ≤ length xs
  or_len_most [] = omega arith
  or_len_most (x ∷ xs) = most (not (p x)) (position_or_len p xs) (length xs) (or_len_most xs)
    where
      most : (b : Bool) (n m : ℕ) → n ≤ m → cond b (1 + n) 0 ≤ suc m
      most true n m h = omega arith
      most false n m h = omega arith

  -- the place where the first passes
  pub found_at : (xs : List X) (n : ℕ) → position p xs ≡ Some n → (y : X) × (slice_get xs n ≡ Some y) × (p y ≡ true)
  found_at xs n is = let f = first_from xs n is in let less : position_or_len p xs < length xs = (let same = f.0 in let within = f.1 in omega arith) in let r = at_first xs less in
      (r.0, subst (λ k. slice_get xs k ≡ Some r.0) f.0 r.1, r.2)

pub get_within : {X : Type 0} (xs : List X) (n : ℕ) (d : X) → n < length xs → slice_get xs n ≡ Some (slice_index_or xs n d)
get_within [] n d less = absurd (omega arith)
get_within (x ∷ xs) zero d less = refl
get_within (x ∷ xs) (suc n) d less = get_within xs n d (omega arith)

-- ---- an ask

-- a URL that has no number isn't among those that have one
pub no_number : (urls : List Url) (u : Url) → position_or_len (bytes_eq u) urls ≡ length urls → list_any (bytes_eq u) urls ≡ false
no_number urls u fresh = any_within (bytes_eq u) urls ∙ lt_none (position_or_len (bytes_eq u) urls) (length urls) (omega arith)

pub put_either : {T E : Type 0} (A B : Type 0) (r : Result T E) → OnOk r A → OnErr r B → MatchResult r (λ _. A) (λ _. B)
put_either A B (Ok done) a b = a
put_either A B (Err want) a b = b

module _ {P G : Type 0} (weight : P → ℕ) where
  -- one event more: the history is legal, comes to this state, and is the old one with the event
  abbrev pub Grown : Replay → List (MapEvent P G) → MapEvent P G → List (MapEvent P G) → Type 0
  Grown t es e now = (is_legal weight now ≡ true) × (t ≡ replay weight now) × (now ≡ es ++ e ∷ [])

  pub grown : (s t : Replay) (es es1 now : List (MapEvent P G)) (e : MapEvent P G) → s ≡ replay weight es → is_legal weight es ≡ true → es1 ≡ es → now ≡ es1 ++ e ∷ [] → may_come s e ≡ true → step weight s e ≡ t → Grown t es e now
  grown s t es es1 now e is legal kept more may steps = let all = more ∙ ap (λ (l : List (MapEvent P G)). l ++ e ∷ []) kept in
      (legal_with weight s es now e is all legal may, replay_with weight s t es now e is all steps, all)

  may_ask_for : (s : Replay) (e : MapEvent P G) (c n : ℕ) (v : Url) (why : Why) → e ≡ Ask c n v why → c < s.callers → s.shut ≡ false → is_usable v ≡ true → n ≡ number_for s v → may_ask (is_numbered s v) s why ≡ true → may_be_ahead s why ≡ true → may_come s e ≡ true
  may_ask_for s e c n v why is enrolled live usable number room ahead = subst (λ (x : MapEvent P G). may_come s x ≡ true) (sym is)
      (true_both (nat_lt c s.callers) _ (lt_true c s.callers enrolled) (true_both (not s.shut) _ (ap not live) (true_both (is_usable v) _ usable (true_both (n == number_for s v) _ (eq_true n (number_for s v) number) (true_both (may_ask (is_numbered s v) s why) _ room ahead)))))

  pub ask_known : (s : Replay) (es es1 now : List (MapEvent P G)) (c n k : ℕ) (u v : Url) (why : Why) (xs : List Number) → s ≡ replay weight es → is_legal weight es ≡ true → es1 ≡ es → now ≡ es1 ++ Ask c n u why ∷ []
      → u ≡ v → c < s.callers → s.shut ≡ false → is_usable v ≡ true → n ≡ number_for s v → n < length s.urls → may_be_ahead s why ≡ true → k ≡ s.events + 1 → xs ≡ change_at s.numbers n (asked_again why)
      → Grown (record s { events = k; numbers = xs }) es (Ask c n v why) now
  ask_known s es es1 now c n k u v why xs is legal kept more same enrolled live usable number within ahead count changed =
      let known : is_numbered s v ≡ true = lt_true (number_for s v) (length s.urls) (subst (λ m. m < length s.urls) number within) in
      let e : MapEvent P G = Ask c n v why in
      grown s _ es es1 now e is legal kept (more ∙ ap (λ (w : Url). es1 ++ Ask c n w why ∷ []) same) (may_ask_for s e c n v why refl enrolled live usable number (ap (λ b. may_ask b s why) known) ahead)
      (ap (λ b. asked_by b s n v why) known ∙ ap (λ (m : ℕ). record s { events = m; numbers = change_at s.numbers n (asked_again why) }) (sym count) ∙ ap (λ (l : List Number). record s { events = k; numbers = l }) (sym changed))

  pub ask_new : (s : Replay) (es es1 now : List (MapEvent P G)) (c n k w a : ℕ) (u v : Url) (why : Why) (xs : List Number) (us : List Url) → s ≡ replay weight es → is_legal weight es ≡ true → es1 ≡ es → now ≡ es1 ++ Ask c n u why ∷ []
      → u ≡ v → c < s.callers → s.shut ≡ false → is_usable v ≡ true → number_for s v ≡ length s.urls → n ≡ length s.urls → has_room s why ≡ true → may_be_ahead s why ≡ true
      → k ≡ s.events + 1 → us ≡ s.urls ++ v ∷ [] → xs ≡ s.numbers ++ fresh_number why ∷ [] → w ≡ s.wanted + made_wanted why → a ≡ s.ahead + made_ahead why
      → Grown (record s { events = k; urls = us; numbers = xs; wanted = w; ahead = a }) es (Ask c n v why) now
  ask_new s es es1 now c n k w a u v why xs us is legal kept more same enrolled live usable unnumbered number room ahead count keys longer more_wanted more_ahead =
      let fresh : is_numbered s v ≡ false = lt_none (number_for s v) (length s.urls) (let h = unnumbered in omega arith) in
      let e : MapEvent P G = Ask c n v why in
      grown s _ es es1 now e is legal kept (more ∙ ap (λ (x : Url). es1 ++ Ask c n x why ∷ []) same) (may_ask_for s e c n v why refl enrolled live usable (number ∙ sym unnumbered) (ap (λ b. may_ask b s why) fresh ∙ room) ahead)
      (ap (λ b. asked_by b s n v why) fresh
      ∙ ap (λ (m : ℕ). record s { events = m; urls = s.urls ++ v ∷ []; numbers = s.numbers ++ fresh_number why ∷ []; wanted = s.wanted + made_wanted why; ahead = s.ahead + made_ahead why }) (sym count)
      ∙ ap (λ (l : List Url). record s { events = k; urls = l; numbers = s.numbers ++ fresh_number why ∷ []; wanted = s.wanted + made_wanted why; ahead = s.ahead + made_ahead why }) (sym keys)
      ∙ ap (λ (l : List Number). record s { events = k; urls = us; numbers = l; wanted = s.wanted + made_wanted why; ahead = s.ahead + made_ahead why }) (sym longer)
      ∙ ap (λ (m : ℕ). record s { events = k; urls = us; numbers = xs; wanted = m; ahead = s.ahead + made_ahead why }) (sym more_wanted)
      ∙ ap (λ (m : ℕ). record s { events = k; urls = us; numbers = xs; wanted = w; ahead = m }) (sym more_ahead))

  pub take_next : (s : Replay) (es es1 now : List (MapEvent P G)) (c n k : ℕ) (xs : List Number) (ys : List ℕ) → s ≡ replay weight es → is_legal weight es ≡ true → es1 ≡ es → now ≡ es1 ++ Take c n ∷ []
      → c < s.callers → s.shut ≡ false → next_order s ≡ Some n → k ≡ s.events + 1 → xs ≡ change_at s.numbers n (taken_by c) → ys ≡ s.posts
      → Grown (record s { events = k; numbers = xs; posts = ys }) es (Take c n) now
  take_next s es es1 now c n k xs ys is legal kept more enrolled live next count changed posts =
      grown s _ es es1 now (Take c n) is legal kept more
      (true_both (nat_lt c s.callers) _ (lt_true c s.callers enrolled) (true_both (not s.shut) _ (ap not live) (ap (is_the n) next ∙ eq_true n n refl)))
      (ap (λ (m : ℕ). record s { events = m; numbers = change_at s.numbers n (taken_by c) }) (sym count) ∙ ap (λ (l : List Number). record s { events = k; numbers = l }) (sym changed) ∙ ap (λ (l : List ℕ). record s { events = k; numbers = xs; posts = l }) (sym posts))

  pub post_order : (s : Replay) (es now : List (MapEvent P G)) (c n k w : ℕ) (p : Arc P Global) (xs : List Number) (ys : List ℕ) → s ≡ replay weight es → is_legal weight es ≡ true → now ≡ es ++ Post c n p ∷ []
      → c < s.callers → is_order s c n ≡ true → k ≡ s.events + 1 → xs ≡ change_at s.numbers n (posted_at s.events) → ys ≡ s.posts ++ n ∷ [] → w ≡ min (s.weight + weight (arc_value p)) MAX_DELIVERED_BYTES
      → Grown (record s { events = k; numbers = xs; posts = ys; weight = w }) es (Post c n p) now
  post_order s es now c n k w p xs ys is legal more enrolled order count changed listed heavier =
      grown s _ es es now (Post c n p) is legal refl more
      (true_both (nat_lt c s.callers) _ (lt_true c s.callers enrolled) order)
      (ap (λ (m : ℕ). record s { events = m; numbers = change_at s.numbers n (posted_at s.events); posts = s.posts ++ n ∷ []; weight = min (s.weight + weight (arc_value p)) MAX_DELIVERED_BYTES }) (sym count)
      ∙ ap (λ (l : List Number). record s { events = k; numbers = l; posts = s.posts ++ n ∷ []; weight = min (s.weight + weight (arc_value p)) MAX_DELIVERED_BYTES }) (sym changed)
      ∙ ap (λ (l : List ℕ). record s { events = k; numbers = xs; posts = l; weight = min (s.weight + weight (arc_value p)) MAX_DELIVERED_BYTES }) (sym listed)
      ∙ ap (λ (m : ℕ). record s { events = k; numbers = xs; posts = ys; weight = m }) (sym heavier))

  -- what an ask is answered, by what it found
  pub asked_reply : (s r : Replay) (es now : List (MapEvent P G)) (c n : ℕ) (v : Url) (why : Why) (b d : Bool) (asked : Asked) → s ≡ r → now ≡ es ++ Ask c n v why ∷ [] → n ≡ number_for s v
      → is_numbered s v ≡ b → is_posted s n ≡ d → asked ≡ answer_by b d n → (now ≡ es ++ Ask c (number_for r v) v why ∷ []) × (asked ≡ answer_for r v)
  asked_reply s r es now c n v why b d asked same more number known posted is = (
    more ∙ ap (λ m. es ++ Ask c m v why ∷ []) (number ∙ ap (λ t. number_for t v) same),
    is ∙ ap (λ x. answer_by x d n) (sym known) ∙ ap (λ x. answer_by (is_numbered s v) x n) (sym posted) ∙ ap (λ m. answer_by (is_numbered s v) (is_posted s m) m) number ∙ ap (λ t. answer_for t v) same,
  )

-- ---- what is next

next_one : (a b : Option ℕ) (light : Bool) (n : ℕ) → next_by a light b ≡ Some n → (a ≡ Some n) ⊎ (b ≡ Some n)
next_one (Some m) b light n is = inl is
next_one None b true n is = inr is
next_one None b false n is = cc

-- the next order is a number that nobody has taken
pub next_free : (s : Replay) (n : ℕ) → next_order s ≡ Some n → (x : Number) × (slice_get s.numbers n ≡ Some x) × (is_free x ≡ true)
next_free s n is = by_list (next_one (position is_wanted_and_free s.numbers) (position is_free s.numbers) (nat_lt s.weight MAX_DELIVERED_BYTES) n is)
  where
    by_list : (position is_wanted_and_free s.numbers ≡ Some n) ⊎ (position is_free s.numbers ≡ Some n) → (x : Number) × (slice_get s.numbers n ≡ Some x) × (is_free x ≡ true)
    by_list (inl at) = let r = found_at is_wanted_and_free s.numbers n at in (r.0, r.1, (both_true r.0.wanted (is_free r.0) r.2).1)
    by_list (inr at) = found_at is_free s.numbers n at

-- taking a free number makes one more that is out
pub not_out : (x : Number) → is_free x ≡ true → is_out x ≡ false
not_out x free = by_taker x.taker free
  where
    by_taker : (o : Option ℕ) → not (is_some o) ≡ true → is_some o && not (is_some x.place) ≡ false
    by_taker None e = refl
    by_taker (Some k) e = cc

pub again_out : (why : Why) (x : Number) → is_out (asked_again why x) ≡ is_out x
again_out Wanted x = refl
again_out (Ahead k) x = refl

pub fresh_out : (why : Why) → is_out (fresh_number why) ≡ false
fresh_out Wanted = refl
fresh_out (Ahead k) = refl

-- one more is out where a free number is taken
pub taken_outs : (s : Replay) (n c : ℕ) → next_order s ≡ Some n → (n < length s.numbers) × (outs_of (change_at s.numbers n (taken_by c)) ≡ outs_of s.numbers + 1)
taken_outs s n c next = let r = next_free s n next in let e = outs_change s.numbers n (taken_by c) r.0 r.1 in let f : cond {A = ℕ} (is_out r.0) 1 0 ≡ 0 = ap (λ b. cond b 1 0) (not_out r.0 r.2) in
    (slice_get_within s.numbers n r.0 r.1, omega (arith, e, f))

order_out : (c : ℕ) (o : Option Number) → is_out_with c o ≡ true → (x : Number) × (o ≡ Some x) × (is_out x ≡ true)
order_out c None e = cc
order_out c (Some x) e = (x, refl, by_taker x.taker (is_some x.place) e)
  where
    by_taker : (t : Option ℕ) (b : Bool) → is_the c t && not b ≡ true → is_some t && not b ≡ true
    by_taker None b e = cc
    by_taker (Some k) b e = (both_true (k == c) (not b) e).1

-- one fewer is out where an order is posted
pub posted_outs : (xs : List Number) (n c k : ℕ) → is_out_with c (slice_get xs n) ≡ true → (n < length xs) × (outs_of (change_at xs n (posted_at k)) + 1 ≡ outs_of xs)
posted_outs xs n c k order = let r = order_out c (slice_get xs n) order in let e = outs_change xs n (posted_at k) r.0 r.1 in
    let f : cond {A = ℕ} (is_out r.0) 1 0 ≡ 1 = ap (λ b. cond b 1 0) r.2 in let h : cond {A = ℕ} (is_out (posted_at k r.0)) 1 0 ≡ 0 = ap (λ b. cond b 1 0) (never (is_some r.0.taker)) in
    (slice_get_within xs n r.0 r.1, omega (arith, e, f, h))
  where
    never : (b : Bool) → b && false ≡ false
    never true = refl
    never false = refl
