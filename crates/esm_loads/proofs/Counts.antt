-- How many pending requests each load has, as they come and are answered.
use Rattle.std.proofs.Common.{◌≡◌, ℕ, suc, zero, ◌+◌, ◌*◌, ◌<◌, ◌≤◌, Bool, true, false, List, [], ◌∷◌, ◌++◌, length, map, Some, refl, ap, subst, sym, ◌∙◌, arith, inl, inr}
use Rattle.std.specs.Prelude.{◌⊎◌, ◌||◌, ◌==◌, nat_lt, slice_get, slice_set, All}
use Rattle.std.specs.List.{list_any}
use Rattle.std.specs.declared.collections.VecDeque.{VecDeque}
use Rattle.std.specs.declared.alloc.Global.{Global}
use Rattle.std.proofs.lemmas.List.{length-set, length-append}
use Rattle.std.proofs.lemmas.List.Elements.{All-head, All-tail, All-nil, All-push, All-weaker}
use Rattle.esm_loads.specs.declared.data.Waiting.{Waiting}
use Rattle.esm_loads.specs.Inner.Requests.{is_of, queue_items, queue_at}
use Rattle.esm_loads.specs.Inner.Counts.{add_by, count_in, count_all, AreOfLoads, AreCounted}
use Rattle.esm_loads.proofs.Places.{set_places, get_push, all_set, all_get, get_map, at_place}

pub count_set : (qs : List (VecDeque Waiting Global)) (k : ℕ) (q r : VecDeque Waiting Global) (s : ℕ) → slice_get qs k ≡ Some q → count_all s (slice_set qs k r) + count_in s q.items ≡ count_all s qs + count_in s r.items
count_set [] k q r s e = cc
count_set (p ∷ qs) zero q r s e = let same : p ≡ q = cc in let h = ap (λ (q : VecDeque Waiting Global). count_in s q.items) same in omega (arith, h)
count_set (p ∷ qs) (suc k) q r s e = let h = count_set qs k q r s e in omega (arith, h)

pub count_push : (s : ℕ) (ws : List Waiting) (w : Waiting) → count_in s (ws ++ w ∷ []) ≡ add_by (is_of s w) (count_in s ws)
count_push s [] w = refl
count_push s (x ∷ ws) w = ap (add_by (is_of s x)) (count_push s ws w) ∙ by (is_of s x) (is_of s w) (count_in s ws)
  where
    by : (a b : Bool) (n : ℕ) → add_by a (add_by b n) ≡ add_by b (add_by a n)
    by true true n = refl
    by true false n = refl
    by false b n = refl

same_load : (a b : ℕ) → a ≡ b → (a == b) ≡ true
same_load a b e = grind arith

other_load : (a b : ℕ) → (b ≡ a → ⊥) → (a == b) ≡ false
other_load a b n = grind arith

pub counted_push : (qs : List (VecDeque Waiting Global)) (counts : List ℕ) (k : ℕ) (q r : VecDeque Waiting Global) (w : Waiting) (n : ℕ) → AreCounted qs counts → slice_get qs k ≡ Some q → r.items ≡ q.items ++ w ∷ [] → slice_get counts w.load ≡ Some n → w.load < length counts
    → AreCounted (slice_set qs k r) (slice_set counts w.load (n + 1))
counted_push qs counts k q r w n h at items here inside = record {
  counted = λ s m e. by s m (set_places counts w.load s (n + 1) m e);
  within = subst (λ many. All (AreOfLoads many) (slice_set qs k r)) (sym (length-set counts w.load (n + 1))) (all_set (AreOfLoads (length counts)) qs k r h.within (subst (All (λ (w : Waiting). w.load < length counts)) (sym items) (All-push (λ (w : Waiting). w.load < length counts) q.items w (all_get (AreOfLoads (length counts)) qs k q h.within at) inside)));
}
  where
    grows : (s : ℕ) (b : Bool) → is_of s w ≡ b → count_all s (slice_set qs k r) ≡ add_by b (count_all s qs)
    grows s true e =
        let one = ap (count_in s) items ∙ (count_push s q.items w ∙ ap (λ b. add_by b (count_in s q.items)) e) in
        let all = count_set qs k q r s at in
        omega (arith, one, all)
    grows s false e =
        let one = ap (count_in s) items ∙ (count_push s q.items w ∙ ap (λ b. add_by b (count_in s q.items)) e) in
        let all = count_set qs k q r s at in
        omega (arith, one, all)

    by : (s m : ℕ) → ((s ≡ w.load) × (m ≡ n + 1)) ⊎ ((s ≡ w.load → ⊥) × (slice_get counts s ≡ Some m)) → m ≡ count_all s (slice_set qs k r)
    by s m (inl f) =
        let more = grows s true (same_load w.load s (sym f.0)) in
        let was = h.counted s n (ap (slice_get counts) f.0 ∙ here) in
        omega (arith, f.1, more, was)
    by s m (inr f) = h.counted s m f.1 ∙ sym (grows s false (other_load w.load s f.0))

pub counted_pop : (qs : List (VecDeque Waiting Global)) (counts : List ℕ) (k : ℕ) (q r : VecDeque Waiting Global) (w : Waiting) (n : ℕ) → AreCounted qs counts → slice_get qs k ≡ Some q → q.items ≡ w ∷ r.items → slice_get counts w.load ≡ Some (n + 1)
    → AreCounted (slice_set qs k r) (slice_set counts w.load n)
counted_pop qs counts k q r w n h at items here = record {
  counted = λ s m e. by s m (set_places counts w.load s n m e);
  within = subst (λ many. All (AreOfLoads many) (slice_set qs k r)) (sym (length-set counts w.load n)) (all_set (AreOfLoads (length counts)) qs k r h.within (All-tail (λ (w : Waiting). w.load < length counts) w r.items (subst (All (λ (w : Waiting). w.load < length counts)) items (all_get (AreOfLoads (length counts)) qs k q h.within at))));
}
  where
    falls : (s : ℕ) (b : Bool) → is_of s w ≡ b → add_by b (count_all s (slice_set qs k r)) ≡ count_all s qs
    falls s true e =
        let one = ap (count_in s) items ∙ ap (λ b. add_by b (count_in s r.items)) e in
        let all = count_set qs k q r s at in
        omega (arith, one, all)
    falls s false e =
        let one = ap (count_in s) items ∙ ap (λ b. add_by b (count_in s r.items)) e in
        let all = count_set qs k q r s at in
        omega (arith, one, all)

    by : (s m : ℕ) → ((s ≡ w.load) × (m ≡ n)) ⊎ ((s ≡ w.load → ⊥) × (slice_get counts s ≡ Some m)) → m ≡ count_all s (slice_set qs k r)
    by s m (inl f) =
        let less = falls s true (same_load w.load s (sym f.0)) in
        let was = h.counted s (n + 1) (ap (slice_get counts) f.0 ∙ here) in
        omega (arith, f.1, less, was)
    by s m (inr f) = h.counted s m f.1 ∙ sym (falls s false (other_load w.load s f.0))

-- the first request of a queue is counted
pub count_first : (qs : List (VecDeque Waiting Global)) (k : ℕ) (q : VecDeque Waiting Global) (w : Waiting) (ws : List Waiting) → slice_get qs k ≡ Some q → q.items ≡ w ∷ ws → 0 < count_all w.load qs
count_first [] k q w ws e items = cc
count_first (p ∷ qs) zero q w ws e items =
    let same : p ≡ q = cc in
    let one = ap (λ (q : VecDeque Waiting Global). count_in w.load q.items) same ∙ (ap (count_in w.load) items ∙ ap (λ b. add_by b (count_in w.load ws)) (same_load w.load w.load refl)) in
    omega (arith, one)
count_first (p ∷ qs) (suc k) q w ws e items = let h = count_first qs k q w ws e items in omega (arith, h)

pos : (n : ℕ) → nat_lt 0 (suc n) ≡ true
pos n = grind arith

any_in : (s : ℕ) (ws : List Waiting) → nat_lt 0 (count_in s ws) ≡ list_any (is_of s) ws
any_in s [] = refl
any_in s (w ∷ ws) = by (is_of s w) (any_in s ws)
  where
    by : (b : Bool) → nat_lt 0 (count_in s ws) ≡ list_any (is_of s) ws → nat_lt 0 (add_by b (count_in s ws)) ≡ (b || list_any (is_of s) ws)
    by true h = pos (count_in s ws)
    by false h = h

either : (a b : ℕ) → nat_lt 0 (a + b) ≡ (nat_lt 0 a || nat_lt 0 b)
either zero b = let e : 0 + b ≡ b = omega arith in ap (nat_lt 0) e
either (suc a) b = let e : suc a + b ≡ suc (a + b) = omega arith in ap (nat_lt 0) e ∙ (pos (a + b) ∙ ap (λ c. c || nat_lt 0 b) (sym (pos a)))

-- a load has a pending request exactly where its count isn't 0
pub any_pending : (s : ℕ) (qs : List (VecDeque Waiting Global)) → nat_lt 0 (count_all s qs) ≡ list_any (list_any (is_of s)) (map queue_items qs)
any_pending s [] = refl
any_pending s (q ∷ qs) = either (count_in s q.items) (count_all s qs) ∙ (ap (λ b. b || nat_lt 0 (count_all s qs)) (any_in s q.items) ∙ ap (λ b. list_any (is_of s) q.items || b) (any_pending s qs))

count_short : (s : ℕ) (ws : List Waiting) → count_in s ws ≤ length ws
count_short s [] = omega arith
count_short s (w ∷ ws) = by (is_of s w) (count_short s ws)
  where
    by : (b : Bool) → count_in s ws ≤ length ws → add_by b (count_in s ws) ≤ length (w ∷ ws)
    by true h = omega (arith, h)
    by false h = omega (arith, h)

-- the queue of a place, as contracts see it
pub queue_is : (qs : List (VecDeque Waiting Global)) (k : ℕ) (q : VecDeque Waiting Global) → slice_get qs k ≡ Some q → queue_at (map queue_items qs) k ≡ q.items
queue_is qs k q e = at_place (map queue_items qs) k q.items [] (get_map queue_items qs k q e)

-- a queue with the same requests counts the same
pub counted_same : (qs : List (VecDeque Waiting Global)) (counts : List ℕ) (k : ℕ) (q r : VecDeque Waiting Global) → AreCounted qs counts → slice_get qs k ≡ Some q → r.items ≡ q.items → AreCounted (slice_set qs k r) counts
counted_same qs counts k q r h at same = record {
  counted = λ s n e. let was = h.counted s n e in let all = count_set qs k q r s at in let one = ap (count_in s) same in omega (arith, was, all, one);
  within = all_set (AreOfLoads (length counts)) qs k r h.within (subst (All (λ (w : Waiting). w.load < length counts)) (sym same) (all_get (AreOfLoads (length counts)) qs k q h.within at));
}

pub counted_url : (qs : List (VecDeque Waiting Global)) (counts : List ℕ) (q : VecDeque Waiting Global) → AreCounted qs counts → q.items ≡ [] → AreCounted (qs ++ q ∷ []) counts
counted_url qs counts q h none = record {
  counted = λ s n e. h.counted s n e ∙ sym (more qs s);
  within = All-push (AreOfLoads (length counts)) qs q h.within (subst (All (λ (w : Waiting). w.load < length counts)) (sym none) (All-nil (λ (w : Waiting). w.load < length counts)));
}
  where
    more : (qs : List (VecDeque Waiting Global)) (s : ℕ) → count_all s (qs ++ q ∷ []) ≡ count_all s qs
    more [] s = let e = ap (count_in s) none in omega (arith, e)
    more (p ∷ qs) s = ap (λ n. count_in s p.items + n) (more qs s)

past_none : (many s : ℕ) (ws : List Waiting) → many ≤ s → All (λ (w : Waiting). w.load < many) ws → count_in s ws ≡ 0
past_none many s [] l h = refl
past_none many s (w ∷ ws) l h =
    let here : w.load < many = All-head (λ (w : Waiting). w.load < many) w ws h in
    ap (λ b. add_by b (count_in s ws)) (other_load w.load s (λ e. omega (arith, e))) ∙ past_none many s ws l (All-tail (λ (w : Waiting). w.load < many) w ws h)

past_all : (many s : ℕ) (qs : List (VecDeque Waiting Global)) → many ≤ s → All (AreOfLoads many) qs → count_all s qs ≡ 0
past_all many s [] l h = refl
past_all many s (q ∷ qs) l h =
    let one = past_none many s q.items l (All-head (AreOfLoads many) q qs h) in
    let all = past_all many s qs l (All-tail (AreOfLoads many) q qs h) in
    omega (arith, one, all)

pub counted_load : (qs : List (VecDeque Waiting Global)) (counts : List ℕ) → AreCounted qs counts → AreCounted qs (counts ++ 0 ∷ [])
counted_load qs counts h = record {
  counted = λ s n e. by s n (get_push counts 0 s n e);
  within = All-weaker (AreOfLoads (length counts)) (AreOfLoads (length (counts ++ 0 ∷ []))) (λ q h. All-weaker (λ (w : Waiting). w.load < length counts) (λ (w : Waiting). w.load < length (counts ++ 0 ∷ [])) wider q.items h) qs h.within;
}
  where
    wider : (w : Waiting) → w.load < length counts → w.load < length (counts ++ 0 ∷ [])
    wider w l = omega (arith, l, length-append counts (0 ∷ []))

    by : (s n : ℕ) → (slice_get counts s ≡ Some n) ⊎ ((s ≡ length counts) × (n ≡ 0)) → n ≡ count_all s qs
    by s n (inl f) = h.counted s n f
    by s n (inr f) = f.1 ∙ sym (past_all (length counts) s qs (omega (arith, f.0)) h.within)

-- a sum of lengths of queues
pub count_fits : (s : ℕ) (qs : List (VecDeque Waiting Global)) → count_all s qs ≤ length qs * 9223372036854775808
count_fits s [] = omega arith
count_fits s (q ∷ qs) =
    let rest = count_fits s qs in
    let one = count_short s q.items in
    let long = q.ok.0 in
    let small = q.small in
    omega (arith, rest, one, long, small.0, small.1)

pub set_queue : (qs : List (List Waiting)) (k : ℕ) → slice_set qs k (queue_at qs k) ≡ qs
set_queue [] k = refl
set_queue (q ∷ qs) zero = refl
set_queue (q ∷ qs) (suc k) = ap (λ qs. q ∷ qs) (set_queue qs k)
