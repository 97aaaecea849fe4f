-- What a number's entry is, from the event at its place.
use Rattle.std.proofs.Common.{◌≡◌, ◌⊎◌, inl, inr, ℕ, zero, suc, ◌+◌, ◌≤◌, ◌&&◌, nat_lt, slice_index_or, Bool, true, false, List, [], ◌∷◌, ◌++◌, length, Option, Some, None, is_some, Result, Ok, Err, sym, refl, ap, ◌∙◌, subst, arith, slice_get, append_assoc, append-nil, IfOk, IfSome}
use Rattle.std.specs.Arc.{arc_value}
use Rattle.std.specs.declared.sync.Arc.{Arc}
use Rattle.std.specs.declared.alloc.Global.{Global}
use Rattle.esm_base.specs.declared.memory.Memory.{Memory}
use Rattle.esm_base.specs.Urls.{Url}
use Rattle.esm_module_map.specs.declared.event.Why.{Why}
use Rattle.esm_module_map.specs.declared.event.Why.TheVariants.{Wanted, Ahead}
use Rattle.esm_module_map.specs.declared.number.Number.{Number}
use Rattle.esm_module_map.specs.declared.event.MapEvent.{MapEvent}
use Rattle.esm_module_map.specs.declared.event.MapEvent.TheVariants.{Begin, Enrol, Ask, Take, Post, Shut}
use Rattle.esm_module_map.specs.Replay.{Replay, opening, change_at, asked_again, fresh_number, taken_by, posted_at, asked_by, is_numbered, is_order, is_posted, has_place, is_the, step, replay, replay_from, is_legal, is_legal_from, may_come}
use Rattle.esm_module_map.proofs.Replays.{both_true, eq_true, lt_from, lt_false}
use Rattle.esm_module_map.proofs.Asks.{get_within}
use Rattle.esm_module_map.proofs.Calls.{get_append, at_order}
use Rattle.esm_module_map.specs.Histories.{Posts, IsPostIn, is_post_of}

module _ {P G : Type 0} where
  pub posted_there : (h : List (MapEvent P G)) (k n : ℕ) (e : MapEvent P G) (r : Result (Option (Arc P Global)) Memory) → slice_get h k ≡ Some e → IfOk r (λ found. IfSome found (λ p. Posts e n (arc_value p))) → IfOk r (λ found. IfSome found (λ p. IsPostIn h n (arc_value p)))
  posted_there h k n e (Err m) at posts = tt
  posted_there h k n e (Ok None) at posts = tt
  posted_there h k n e (Ok (Some p)) at posts = (k, e, at, posts)

  pub posted_as : (h l : List (MapEvent P G)) (n : ℕ) (r : Result (Option (Arc P Global)) Memory) → l ≡ h → IfOk r (λ found. IfSome found (λ p. IsPostIn h n (arc_value p))) → IfOk r (λ found. IfSome found (λ p. IsPostIn l n (arc_value p)))
  posted_as h l n r same is = subst (λ x. IfOk r (λ found. IfSome found (λ p. IsPostIn x n (arc_value p)))) (sym same) is

-- ---- a number's place has its post

-- what stands at a place of a changed list, and of one with an element more
changed_from : (xs : List Number) (n m : ℕ) (f : Number → Number) (x : Number) → slice_get (change_at xs n f) m ≡ Some x → ((n ≡ m) × ((y : Number) × (slice_get xs m ≡ Some y) × (x ≡ f y))) ⊎ (slice_get xs m ≡ Some x)
changed_from [] n m f x at = inr at
changed_from (y ∷ xs) zero zero f x at = let same : f y ≡ x = cc in inl (refl, (y, refl, sym same))
changed_from (y ∷ xs) zero (suc m) f x at = inr at
changed_from (y ∷ xs) (suc n) zero f x at = inr at
changed_from (y ∷ xs) (suc n) (suc m) f x at = by_place (changed_from xs n m f x at)
  where
    by_place : ((n ≡ m) × ((z : Number) × (slice_get xs m ≡ Some z) × (x ≡ f z))) ⊎ (slice_get xs m ≡ Some x) → ((suc n ≡ suc m) × ((z : Number) × (slice_get xs m ≡ Some z) × (x ≡ f z))) ⊎ (slice_get xs m ≡ Some x)
    by_place (inl (same, r)) = inl (ap suc same, r)
    by_place (inr e) = inr e

appended_from : (xs : List Number) (y : Number) (m : ℕ) (x : Number) → slice_get (xs ++ y ∷ []) m ≡ Some x → (slice_get xs m ≡ Some x) ⊎ (y ≡ x)
appended_from [] y zero x at = inr (let same : y ≡ x = cc in same)
appended_from [] y (suc m) x at = inl at
appended_from (z ∷ xs) y zero x at = inl at
appended_from (z ∷ xs) y (suc m) x at = appended_from xs y m x at

get_last : {E : Type 0} (es : List E) (e : E) → slice_get (es ++ e ∷ []) (length es) ≡ Some e
get_last [] e = refl
get_last (x ∷ es) e = get_last es e

fresh_place : (why : Why) → (fresh_number why).place ≡ None
fresh_place Wanted = refl
fresh_place (Ahead k) = refl

again_place : (why : Why) (x : Number) → ((asked_again why x).place ≡ x.place) × ((asked_again why x).taker ≡ x.taker)
again_place Wanted x = (refl, refl)
again_place (Ahead k) x = (refl, refl)

pub the_taken : (c : ℕ) (t : Option ℕ) (b : Bool) → is_the c t && b ≡ true → is_some t ≡ true
the_taken c None b e = cc
the_taken c (Some k) b e = refl

asked_events : (b : Bool) (s : Replay) (m : ℕ) (u : Url) (why : Why) → (asked_by b s m u why).events ≡ s.events + 1
asked_events true s m u why = refl
asked_events false s m u why = refl

module _ {P G : Type 0} where
  -- the event at the place of a number posts it
  abbrev pub Stands : List (MapEvent P G) → ℕ → ℕ → Type 0
  Stands h k n = (c : ℕ) × (p : Arc P Global) × (slice_get h k ≡ Some (Post c n p))

  -- each number that has a place is taken, and the event there posts it
  abbrev pub ArePlaced : Replay → List (MapEvent P G) → Type 0
  ArePlaced s h = (n : ℕ) (x : Number) (k : ℕ) → slice_get s.numbers n ≡ Some x → x.place ≡ Some k → (is_some x.taker ≡ true) × Stands h k n

  stands_more : (h : List (MapEvent P G)) (e : MapEvent P G) (k n : ℕ) → Stands h k n → Stands (h ++ e ∷ []) k n
  stands_more h e k n (c, p, at) = (c, p, get_append h (e ∷ []) k (Post c n p) at)

  placed_more : (s : Replay) (h : List (MapEvent P G)) (e : MapEvent P G) → ArePlaced s h → ArePlaced s (h ++ e ∷ [])
  placed_more s h e all n x k at is = let r = all n x k at is in (r.0, stands_more h e k n r.1)

  -- a change that leaves places and takers
  placed_changed : (s : Replay) (t : Replay) (m : ℕ) (f : Number → Number) (h : List (MapEvent P G)) → t.numbers ≡ change_at s.numbers m f → ((y : Number) → ((f y).place ≡ y.place) × ((f y).taker ≡ y.taker)) → ArePlaced s h → ArePlaced t h
  placed_changed s t m f h changed same all n x k at is = by_place (changed_from s.numbers m n f x (subst (λ l. slice_get l n ≡ Some x) changed at))
    where
      by_place : ((m ≡ n) × ((y : Number) × (slice_get s.numbers n ≡ Some y) × (x ≡ f y))) ⊎ (slice_get s.numbers n ≡ Some x) → (is_some x.taker ≡ true) × Stands h k n
      by_place (inl (e, (y, there, by))) = let r = all n y k there (sym (same y).0 ∙ sym (ap (λ (z : Number). z.place) by) ∙ is) in (ap (λ (z : Number). is_some z.taker) by ∙ ap is_some (same y).1 ∙ r.0, r.1)
      by_place (inr there) = all n x k there is

  placed_asked : (b : Bool) (s : Replay) (m : ℕ) (u : Url) (why : Why) (h : List (MapEvent P G)) → ArePlaced s h → ArePlaced (asked_by b s m u why) h
  placed_asked true s m u why h all = placed_changed s (asked_by true s m u why) m (asked_again why) h refl (again_place why) all
  placed_asked false s m u why h all = λ n x k at is. by_place n x k is (appended_from s.numbers (fresh_number why) n x at)
    where
      by_place : (n : ℕ) (x : Number) (k : ℕ) → x.place ≡ Some k → (slice_get s.numbers n ≡ Some x) ⊎ (fresh_number why ≡ x) → (is_some x.taker ≡ true) × Stands h k n
      by_place n x k is (inl there) = all n x k there is
      by_place n x k is (inr same) = let no : None ≡ Some k = sym (fresh_place why) ∙ ap (λ (z : Number). z.place) same ∙ is in cc

  module _ (weight : P → ℕ) where
    placed_step : (s : Replay) (h : List (MapEvent P G)) (e : MapEvent P G) → may_come s e ≡ true → s.events ≡ length h → ArePlaced s h → ArePlaced (step weight s e) (h ++ e ∷ [])
    placed_step s h (Begin g) ok len all = placed_more s h (Begin g) all
    placed_step s h (Enrol c) ok len all = placed_more s h (Enrol c) all
    placed_step s h (Ask c m u why) ok len all = placed_more (asked_by (is_numbered s u) s m u why) h (Ask c m u why) (placed_asked (is_numbered s u) s m u why h all)
    placed_step s h (Take c m) ok len all = λ n x k at is. by_place n x k is (changed_from s.numbers m n (taken_by c) x at)
      where
        by_place : (n : ℕ) (x : Number) (k : ℕ) → x.place ≡ Some k → ((m ≡ n) × ((y : Number) × (slice_get s.numbers n ≡ Some y) × (x ≡ taken_by c y))) ⊎ (slice_get s.numbers n ≡ Some x) → (is_some x.taker ≡ true) × Stands (h ++ Take c m ∷ []) k n
        by_place n x k is (inl (e, (y, there, by))) = let no : None ≡ Some k = sym (ap (λ (z : Number). z.place) by) ∙ is in cc
        by_place n x k is (inr there) = let r = all n x k there is in (r.0, stands_more h (Take c m) k n r.1)
    placed_step s h (Post c m p) ok len all = λ n x k at is. by_place n x k is (changed_from s.numbers m n (posted_at s.events) x at)
      where
        by_place : (n : ℕ) (x : Number) (k : ℕ) → x.place ≡ Some k → ((m ≡ n) × ((y : Number) × (slice_get s.numbers n ≡ Some y) × (x ≡ posted_at s.events y))) ⊎ (slice_get s.numbers n ≡ Some x) → (is_some x.taker ≡ true) × Stands (h ++ Post c m p ∷ []) k n
        by_place n x k is (inl (e, (y, there, by))) =
            let o = at_order s c m (both_true (_) (is_order s c m) ok).1 in
            let one : Some o.0 ≡ Some y = sym o.1 ∙ ap (slice_get s.numbers) e ∙ there in let same : o.0 ≡ y = cc in
            let here : Some s.events ≡ Some k = sym (ap (λ (z : Number). z.place) by) ∙ is in let place : s.events ≡ k = cc in (
              ap (λ (z : Number). is_some z.taker) by ∙ ap (λ (z : Number). is_some z.taker) (sym same) ∙ the_taken c o.0.taker _ o.2,
              (c, p, ap (slice_get (h ++ Post c m p ∷ [])) (sym place ∙ len) ∙ get_last h (Post c m p) ∙ ap (λ (j : ℕ). Some (Post c j p)) e),
            )
        by_place n x k is (inr there) = let r = all n x k there is in (r.0, stands_more h (Post c m p) k n r.1)
    placed_step s h (Shut c) ok len all = placed_more s h (Shut c) all

    events_step : (s : Replay) (e : MapEvent P G) → (step weight s e).events ≡ s.events + 1
    events_step s (Begin g) = refl
    events_step s (Enrol c) = refl
    events_step s (Ask c m u why) = asked_events (is_numbered s u) s m u why
    events_step s (Take c m) = refl
    events_step s (Post c m p) = refl
    events_step s (Shut c) = refl

    length_more : (h : List (MapEvent P G)) (e : MapEvent P G) → length (h ++ e ∷ []) ≡ length h + 1
    length_more [] e = omega arith
    length_more (x ∷ h) e = omega (arith, length_more h e)

    placed_from : (s : Replay) (h es : List (MapEvent P G)) → is_legal_from weight s es ≡ true → s.events ≡ length h → ArePlaced s h → ArePlaced (replay_from weight s es) (h ++ es)
    placed_from s h [] ok len all = subst (ArePlaced s) (sym (append-nil h)) all
    placed_from s h (e ∷ es) ok len all = let l = both_true (may_come s e) (is_legal_from weight (step weight s e) es) ok in
        subst (ArePlaced (replay_from weight (step weight s e) es)) (append_assoc h (e ∷ []) es)
        (placed_from (step weight s e) (h ++ e ∷ []) es l.1 (let a = events_step s e in let b = length_more h e in omega (arith, a, b, len)) (placed_step s h e l.0 len all))

    pub placed : (h : List (MapEvent P G)) → is_legal weight h ≡ true → ArePlaced (replay weight h) h
    placed h ok = placed_from opening [] h ok refl (λ n x k at is. absurd (none_at n x at))
      where
        none_at : (n : ℕ) (x : Number) → slice_get opening.numbers n ≡ Some x → ⊥
        none_at n x at = cc

-- ---- what an entry is

is_none : (b : Bool) → b && false ≡ false
is_none true = refl
is_none false = refl

placed_has : (x : Number) → is_some x.taker ≡ true → is_some x.place ≡ true → has_place (Some x) ≡ true
placed_has x t p = ap (λ b. b && is_some x.place) t ∙ p

module _ {P G : Type 0} (weight : P → ℕ) where
  -- no such number
  pub no_number : (s : Replay) (h : List (MapEvent P G)) (n : ℕ) → s ≡ replay weight h → slice_get s.numbers n ≡ None → false ≡ is_posted (replay weight h) n
  no_number s h n is at = sym (ap (λ (r : Replay). is_posted r n) (sym is) ∙ ap has_place at)

  -- one that isn't posted
  pub no_place : (s : Replay) (h : List (MapEvent P G)) (n : ℕ) (x : Number) → s ≡ replay weight h → slice_get s.numbers n ≡ Some x → x.place ≡ None → false ≡ is_posted (replay weight h) n
  no_place s h n x is at none = sym (ap (λ (r : Replay). is_posted r n) (sym is) ∙ ap has_place at ∙ ap (λ (o : Option ℕ). is_some x.taker && is_some o) none ∙ is_none (is_some x.taker))

  -- one that is
  pub has_post : (s : Replay) (h : List (MapEvent P G)) (n k : ℕ) (x : Number) → is_legal weight h ≡ true → s ≡ replay weight h → slice_get s.numbers n ≡ Some x → x.place ≡ Some k → (is_posted (replay weight h) n ≡ true) × Stands h k n
  has_post s h n k x ok is at place = let r = placed weight h ok n x k (ap (λ (t : Replay). slice_get t.numbers n) (sym is) ∙ at) place in
      (ap (λ (t : Replay). is_posted t n) (sym is) ∙ ap has_place at ∙ placed_has x r.0 (ap is_some place), r.1)

  -- the event there
  pub posted_by_it : (s : Replay) (h : List (MapEvent P G)) (n k : ℕ) (x : Number) (e : MapEvent P G) (r : Result (Option (Arc P Global)) Memory) → is_legal weight h ≡ true → s ≡ replay weight h → slice_get s.numbers n ≡ Some x → x.place ≡ Some k → slice_get h k ≡ Some e
      → IfOk r (λ found. is_some found ≡ is_post_of n e) → IfOk r (λ found. is_some found ≡ is_posted (replay weight h) n)
  posted_by_it s h n k x e r ok is at place here by = by_result r by
    where
      post : is_post_of n e ≡ is_posted (replay weight h) n
      post = let p = has_post s h n k x ok is at place in let w = p.1 in let both : Some e ≡ Some (Post w.0 n w.1) = sym here ∙ w.2 in let same : e ≡ Post w.0 n w.1 = cc in
          ap (is_post_of n) same ∙ eq_true n n refl ∙ sym p.0

      by_result : (r : Result (Option (Arc P Global)) Memory) → IfOk r (λ found. is_some found ≡ is_post_of n e) → IfOk r (λ found. is_some found ≡ is_posted (replay weight h) n)
      by_result (Ok found) b = b ∙ post
      by_result (Err m) b = tt

  pub exact_as : (h l : List (MapEvent P G)) (n : ℕ) (r : Result (Option (Arc P Global)) Memory) → l ≡ h → IfOk r (λ found. is_some found ≡ is_posted (replay weight h) n) → IfOk r (λ found. is_some found ≡ is_posted (replay weight l) n)
  exact_as h l n r same is = subst (λ x. IfOk r (λ found. is_some found ≡ is_posted (replay weight x) n)) (sym same) is

pub get_at : {X : Type 0} (xs l : List X) (k : ℕ) (x : X) → xs ≡ l → true ≡ nat_lt k (length xs) → x ≡ slice_index_or xs k x → slice_get l k ≡ Some x
get_at xs l k x same within is = subst (λ m. slice_get m k ≡ Some x) same (get_within xs k x (lt_from k (length xs) (sym within)) ∙ ap Some (sym is))

get_beyond : {X : Type 0} (xs : List X) (k : ℕ) → length xs ≤ k → slice_get xs k ≡ None
get_beyond [] k far = refl
get_beyond (x ∷ xs) zero far = absurd (omega arith)
get_beyond (x ∷ xs) (suc k) far = get_beyond xs k (omega arith)

pub get_none : {X : Type 0} (xs l : List X) (k : ℕ) → xs ≡ l → false ≡ nat_lt k (length xs) → slice_get l k ≡ None
get_none xs l k same beyond = subst (λ m. slice_get m k ≡ None) same (get_beyond xs k (lt_false k (length xs) (sym beyond)))

module _ {P G : Type 0} (weight : P → ℕ) where
  -- an event stands at the place
  pub no_event : (s : Replay) (h l : List (MapEvent P G)) (n k : ℕ) (x : Number) → is_legal weight h ≡ true → s ≡ replay weight h → slice_get s.numbers n ≡ Some x → x.place ≡ Some k → l ≡ h → false ≡ nat_lt k (length l) → false ≡ is_posted (replay weight h) n
  no_event s h l n k x ok is at place same beyond = let w = (has_post weight s h n k x ok is at place).1 in let none = get_none l h k same beyond in let both : None ≡ Some (Post w.0 n w.1) = sym none ∙ w.2 in cc
