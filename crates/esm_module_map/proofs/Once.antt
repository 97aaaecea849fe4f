-- What callers that differ take, all together, is among all takes.
use Rattle.std.proofs.Common.{◌≡◌, ℕ, zero, suc, ◌+◌, ◌≤◌, Bool, true, false, cond, List, [], ◌∷◌, ◌++◌, sym, refl, ap, ◌∙◌, arith, ◌==◌, bytes_eq, ne_eqb}
use Rattle.esm_hlock.specs.Makers.{times, names, is_maker}
use Rattle.esm_base.specs.Urls.{Url}
use Rattle.esm_module_map.specs.declared.event.MapEvent.{MapEvent}
use Rattle.esm_module_map.specs.declared.event.MapEvent.TheVariants.{Begin, Enrol, Ask, Take, Post, Shut}
use Rattle.esm_module_map.specs.Replay.{Replay, step, maker_of}
use Rattle.esm_module_map.specs.Histories.{url_at, takes_in, along}
use Rattle.esm_module_map.specs.Counts.{count, total}
use Rattle.esm_module_map.proofs.Replays.{eq_true, eq_from}

pub count_append : (u : Url) (xs ys : List Url) → count u (xs ++ ys) ≡ count u xs + count u ys
count_append u [] ys = omega arith
count_append u (x ∷ xs) ys = omega (arith, count_append u xs ys)

-- the URLs of all takes
abbrev pub takes_all : {P G : Type 0} → Replay → MapEvent P G → List Url
takes_all s (Begin g) = []
takes_all s (Enrol d) = []
takes_all s (Ask d n url why) = []
takes_all s (Take d n) = url_at s n ∷ []
takes_all s (Post d n p) = []
takes_all s (Shut d) = []

total_plus : (f g : ℕ → ℕ) (cs : List ℕ) → total (λ c. f c + g c) cs ≡ total f cs + total g cs
total_plus f g [] = omega arith
total_plus f g (c ∷ cs) = omega (arith, total_plus f g cs)

total_zero : (f : ℕ → ℕ) (cs : List ℕ) → ((c : ℕ) → f c ≡ 0) → total f cs ≡ 0
total_zero f [] none = refl
total_zero f (c ∷ cs) none = omega (arith, none c, total_zero f cs none)

total_same : (f g : ℕ → ℕ) (cs : List ℕ) → ((c : ℕ) → f c ≡ g c) → total f cs ≡ total g cs
total_same f g [] same = refl
total_same f g (c ∷ cs) same = omega (arith, same c, total_same f g cs same)

turn : (c d : ℕ) → (d == c) ≡ (c == d)
turn c d = by_test (d == c) refl
  where
    by_test : (b : Bool) → (d == c) ≡ b → (d == c) ≡ (c == d)
    by_test true e = e ∙ sym (eq_true c d (sym (eq_from d c e)))
    by_test false e = e ∙ sym (ne_eqb c d (λ same. let f : (d == c) ≡ true = eq_true d c (sym same) in cc))

-- of callers, as many as d is listed take what d takes
each_of : (u v : Url) (d : ℕ) (cs : List ℕ) (b : ℕ) → count u (v ∷ []) ≡ b → b ≤ 1 → total (λ c. count u (cond (d == c) (v ∷ []) [])) cs ≤ times d cs
each_of u v d [] b is few = omega arith
each_of u v d (c ∷ cs) b is few = let r = each_of u v d cs b is few in let h = by_test (d == c) (c == d) (turn c d) in omega (arith, r, h)
  where
    by_test : (x y : Bool) → x ≡ y → count u (cond x (v ∷ []) []) ≤ cond y 1 0
    by_test true true e = omega arith
    by_test false false e = omega arith
    by_test true false e = cc
    by_test false true e = cc

-- what a caller takes of one URL, by a test
count_by_test : (x : Bool) (u v : Url) → count u (cond x (v ∷ []) []) ≡ cond x (count u (v ∷ [])) 0
count_by_test true u v = refl
count_by_test false u v = refl

count_one : (u v : Url) → count u (v ∷ []) ≤ 1
count_one u v = by_test (bytes_eq u v)
  where
    by_test : (b : Bool) → cond b 1 0 + 0 ≤ 1
    by_test true = omega arith
    by_test false = omega arith

none_of : (u v : Url) (d : ℕ) (cs : List ℕ) → count u (v ∷ []) ≡ 0 → total (λ c. count u (cond (d == c) (v ∷ []) [])) cs ≡ 0
none_of u v d cs none = total_zero (λ c. count u (cond (d == c) (v ∷ []) [])) cs (λ c. by_test (d == c))
  where
    by_test : (b : Bool) → count u (cond b (v ∷ []) []) ≡ 0
    by_test true = none
    by_test false = refl

-- of callers that differ at most one is d
one_of : (u v : Url) (d : ℕ) (cs : List ℕ) → times d cs ≤ 1 → total (λ c. count u (cond (d == c) (v ∷ []) [])) cs ≤ count u (v ∷ [])
one_of u v d cs few = by_count (count u (v ∷ [])) refl (count_one u v)
  where
    by_count : (k : ℕ) → count u (v ∷ []) ≡ k → k ≤ 1 → total (λ c. count u (cond (d == c) (v ∷ []) [])) cs ≤ k
    by_count zero is le = let n = none_of u v d cs is in omega arith
    by_count (suc zero) is le = let r = each_of u v d cs (suc zero) is le in omega arith
    by_count (suc (suc k)) is le = absurd (omega arith)

-- the first maker is named, and so is whoever is named behind it
named_first : (d n : ℕ) → cond (d == d) 1 n ≡ 1
named_first d n = ap (λ b. cond b 1 n) (eq_true d d refl)

named_later : (b : Bool) (n : ℕ) → n ≡ 1 → cond b 1 n ≡ 1
named_later true n e = refl
named_later false n e = e

module _ {P G : Type 0} (weight : P → ℕ) where
  head_of : (u : Url) (cs : List ℕ) (s : Replay) (e : MapEvent P G) (es : List (MapEvent P G)) → ((k : ℕ) → names maker_of k (e ∷ es) ≡ 1 → times k cs ≤ 1) → total (λ c. count u (takes_in c s e)) cs ≤ count u (takes_all s e)
  head_of u cs s (Begin g) es few = let z = total_zero (λ c. 0) cs (λ c. refl) in omega arith
  head_of u cs s (Enrol d) es few = let z = total_zero (λ c. 0) cs (λ c. refl) in omega arith
  head_of u cs s (Ask d n v why) es few = let z = total_zero (λ c. 0) cs (λ c. refl) in omega arith
  head_of u cs s (Take d n) es few = one_of u (url_at s n) d cs (few d (named_first d (names maker_of d es)))
  head_of u cs s (Post d n p) es few = let z = total_zero (λ c. 0) cs (λ c. refl) in omega arith
  head_of u cs s (Shut d) es few = let z = total_zero (λ c. 0) cs (λ c. refl) in omega arith

  -- what callers that differ take is among all takes
  pub among_all : (u : Url) (cs : List ℕ) (s : Replay) (h : List (MapEvent P G)) → ((k : ℕ) → names maker_of k h ≡ 1 → times k cs ≤ 1) → total (λ c. count u (along weight (takes_in c) s h)) cs ≤ count u (along weight takes_all s h)
  among_all u cs s [] few = let z = total_zero (λ c. 0) cs (λ c. refl) in omega arith
  among_all u cs s (e ∷ es) few =
      let parts = total_same (λ c. count u (takes_in c s e ++ along weight (takes_in c) (step weight s e) es)) (λ c. count u (takes_in c s e) + count u (along weight (takes_in c) (step weight s e) es)) cs (λ c. count_append u (takes_in c s e) (along weight (takes_in c) (step weight s e) es)) in
      let plus = total_plus (λ c. count u (takes_in c s e)) (λ c. count u (along weight (takes_in c) (step weight s e) es)) cs in
      let first = head_of u cs s e es few in
      let rest = among_all u cs (step weight s e) es (λ k named. few k (named_later (is_maker k (maker_of e)) (names maker_of k es) named)) in
      let all = count_append u (takes_all s e) (along weight takes_all (step weight s e) es) in omega (arith, parts, plus, first, rest, all)
