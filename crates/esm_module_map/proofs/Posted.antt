-- That the numbers of posts are posted, and how posts are heard.
use Rattle.std.proofs.Common.{◌≡◌, ◌⊎◌, inl, inr, ℕ, zero, suc, ◌+◌, ◌<◌, Bool, true, false, nat_lt, not, List, [], ◌∷◌, ◌++◌, length, sym, refl, ap, ◌∙◌, subst, arith, append_assoc, append-nil, Option, Some, None, is_some, option_map, IfSome, slice_get}
use Rattle.std.specs.Arc.{arc_value}
use Rattle.esm_base.specs.Urls.{Url}
use Rattle.esm_module_map.specs.declared.event.Why.{Why}
use Rattle.esm_module_map.specs.declared.event.MapEvent.{MapEvent}
use Rattle.esm_module_map.specs.declared.event.MapEvent.TheVariants.{Begin, Enrol, Ask, Take, Post, Shut}
use Rattle.esm_module_map.specs.declared.reply.Heard.{Heard}
use Rattle.esm_module_map.specs.Replay.{Replay, opening, asked_by, posted_at, is_numbered, is_posted, has_place, step, replay, replay_from, is_legal, is_legal_from, may_come}
use Rattle.esm_module_map.specs.Histories.{IsPostIn}
use Rattle.esm_module_map.specs.Hearing.{number_heard, IsPostAt, HearsPosts}
use Rattle.esm_module_map.proofs.Replays.{both_true, true_both}
use Rattle.esm_module_map.proofs.Calls.{other_maker, at_posted, posted_step, at_order, get_changed}
use Rattle.esm_module_map.proofs.Entries.{the_taken}

-- ---- lists

-- what stands in a list with one element more stands in the list, or is that element
got_last : {A : Type 0} (xs : List A) (v : A) (k : ℕ) (x : A) → slice_get (xs ++ v ∷ []) k ≡ Some x → (slice_get xs k ≡ Some x) ⊎ ((k ≡ length xs) × (v ≡ x))
got_last [] v zero x at = inr (refl, (let same : v ≡ x = cc in same))
got_last [] v (suc k) x at = inl at
got_last (y ∷ xs) v zero x at = inl at
got_last {A} (y ∷ xs) v (suc k) x at = behind (got_last xs v k x at)
  where
    behind : (slice_get xs k ≡ Some x) ⊎ ((k ≡ length xs) × (v ≡ x)) → (slice_get (y ∷ xs) (suc k) ≡ Some x) ⊎ ((suc k ≡ length (y ∷ xs)) × (v ≡ x))
    behind (inl there) = inl there
    behind (inr last) = inr (ap suc last.0, last.1)

one_longer : {A : Type 0} (xs : List A) (v : A) → length (xs ++ v ∷ []) ≡ length xs + 1
one_longer [] v = refl
one_longer (x ∷ xs) v = let e = one_longer xs v in omega (arith, e)

pub got_less : {A : Type 0} (xs : List A) (k : ℕ) (x : A) → slice_get xs k ≡ Some x → k < length xs
got_less [] k x at = cc
got_less (y ∷ xs) zero x at = omega arith
got_less (y ∷ xs) (suc k) x at = let h = got_less xs k x at in omega (arith, h)

-- ---- numbers of posts

abbrev pub ArePosted : Replay → Type 0
ArePosted s = (k n : ℕ) → slice_get s.posts k ≡ Some n → is_posted s n ≡ true

asked_posts : (b : Bool) (s : Replay) (m : ℕ) (u : Url) (why : Why) → (asked_by b s m u why).posts ≡ s.posts
asked_posts true s m u why = refl
asked_posts false s m u why = refl

module _ {P G : Type 0} (weight : P → ℕ) where
  still_posted : (s : Replay) (e : MapEvent P G) (n : ℕ) → may_come s e ≡ true → is_posted s n ≡ true → is_posted (step weight s e) n ≡ true
  still_posted s e n ok h = let other = other_maker weight s e (step weight s e).callers ok (omega arith) in
      let r = posted_step weight n (step weight s e).callers s e ok other (at_posted s n h) in ap has_place r.1 ∙ r.2

  posted_more : (s : Replay) (e : MapEvent P G) → may_come s e ≡ true → ArePosted s → ArePosted (step weight s e)
  posted_more s (Begin g) ok all = λ k n at. still_posted s (Begin g) n ok (all k n at)
  posted_more s (Enrol c) ok all = λ k n at. still_posted s (Enrol c) n ok (all k n at)
  posted_more s (Ask c m u why) ok all = λ k n at. still_posted s (Ask c m u why) n ok (all k n (subst (λ l. slice_get l k ≡ Some n) (asked_posts (is_numbered s u) s m u why) at))
  posted_more s (Take c m) ok all = λ k n at. still_posted s (Take c m) n ok (all k n at)
  posted_more s (Post c m p) ok all = λ k n at. either k n (got_last s.posts m k n at)
    where
      here : is_posted (step {P = P} {G = G} weight s (Post c m p)) m ≡ true
      here = let o = at_order s c m (both_true (nat_lt c s.callers) _ ok).1 in
          ap has_place (get_changed s.numbers m (posted_at s.events) o.0 o.1) ∙ true_both (is_some o.0.taker) true (the_taken c o.0.taker (not (is_some o.0.place)) o.2) refl

      either : (k n : ℕ) → (slice_get s.posts k ≡ Some n) ⊎ ((k ≡ length s.posts) × (m ≡ n)) → is_posted (step {P = P} {G = G} weight s (Post c m p)) n ≡ true
      either k n (inl there) = still_posted s (Post c m p) n ok (all k n there)
      either k n (inr last) = subst (λ (j : ℕ). is_posted (step {P = P} {G = G} weight s (Post c m p)) j ≡ true) last.1 here
  posted_more s (Shut c) ok all = λ k n at. still_posted s (Shut c) n ok (all k n at)

  posted_from : (s : Replay) (es : List (MapEvent P G)) → is_legal_from weight s es ≡ true → ArePosted s → ArePosted (replay_from weight s es)
  posted_from s [] ok all = all
  posted_from s (e ∷ es) ok all = let h = both_true (may_come s e) (is_legal_from weight (step weight s e) es) ok in posted_from (step weight s e) es h.1 (posted_more s e h.0 all)

  -- in a legal history something is posted under each number of a post
  pub posts_posted : (h : List (MapEvent P G)) (k n : ℕ) → is_legal weight h ≡ true → slice_get (replay weight h).posts k ≡ Some n → is_posted (replay weight h) n ≡ true
  posts_posted h k n ok at = posted_from opening h ok (λ i m none. cc) k n at

  -- ---- posts are heard one by one

  pub hears_nothing : (h : List (MapEvent P G)) (start : ℕ) (before : List (Heard P)) → HearsPosts weight h start before start before
  hears_nothing h start before = record { more = []; behind = sym (append-nil before); counted = omega arith; in_order = λ i x at. cc }

  pub hears_one : (h : List (MapEvent P G)) (start : ℕ) (before : List (Heard P)) (k : ℕ) (xs : List (Heard P)) (k2 : ℕ) (ys : List (Heard P)) (v : Heard P)
      → HearsPosts weight h start before k xs → Some v.number ≡ slice_get (replay weight h).posts k → IsPostIn h v.number (arc_value v.payload) → k2 ≡ k + 1 → ys ≡ xs ++ v ∷ [] → HearsPosts weight h start before k2 ys
  hears_one h start before k xs k2 ys v r here posted next grew = record {
    more = r.more ++ v ∷ [];
    behind = grew ∙ ap (λ l. l ++ v ∷ []) r.behind ∙ append_assoc before r.more (v ∷ []);
    counted = let c = r.counted in let e = one_longer r.more v in omega (arith, next, c, e);
    in_order = λ i x at. last i x (got_last r.more v i x at);
  }
    where
      last : (i : ℕ) (x : Heard P) → (slice_get r.more i ≡ Some x) ⊎ ((i ≡ length r.more) × (v ≡ x)) → IsPostAt weight h (start + i) x
      last i x (inl there) = r.in_order i x there
      last i x (inr (place, is)) = subst (λ y. IsPostAt weight h (start + i) y) is
          (ap (λ (m : ℕ). slice_get (replay weight h).posts m) (ap (λ (m : ℕ). start + m) place ∙ sym r.counted) ∙ sym here, posted)

  -- the next of them, by what was found
  pub hears_next : (h : List (MapEvent P G)) (start : ℕ) (before : List (Heard P)) (k : ℕ) (xs : List (Heard P)) (k2 : ℕ) (ys : List (Heard P)) (found : Option (Heard P)) (v : Heard P)
      → HearsPosts weight h start before k xs → found ≡ Some v → option_map number_heard found ≡ slice_get (replay weight h).posts k → IfSome found (λ x. IsPostIn h x.number (arc_value x.payload)) → k2 ≡ k + 1 → ys ≡ xs ++ v ∷ [] → HearsPosts weight h start before k2 ys
  hears_next h start before k xs k2 ys found v r is exact posted next grew =
      hears_one h start before k xs k2 ys v r (ap (option_map number_heard) (sym is) ∙ exact) (subst (λ o. IfSome o (λ x. IsPostIn h x.number (arc_value x.payload))) is posted) next grew

  pub heard_less : (h : List (MapEvent P G)) (k : ℕ) (found : Option (Heard P)) (v : Heard P) → found ≡ Some v → option_map number_heard found ≡ slice_get (replay weight h).posts k → k < length (replay weight h).posts
  heard_less h k found v is exact = got_less (replay weight h).posts k v.number (sym (ap (option_map number_heard) (sym is) ∙ exact))

  -- a number of a post has an entry
  pub no_gap : {X : Type 0} (h : List (MapEvent P G)) (k n : ℕ) (found : Option X) → is_legal weight h ≡ true → Some n ≡ slice_get (replay weight h).posts k → is_some found ≡ is_posted (replay weight h) n → found ≡ None → ⊥
  no_gap h k n found legal at exact none = let no : false ≡ true = ap is_some (sym none) ∙ exact ∙ posts_posted h k n legal (sym at) in cc
