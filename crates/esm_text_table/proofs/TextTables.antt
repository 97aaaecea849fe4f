-- Where the texts of a list stand, and that a table finds each of them.
use mathlib.Core.Bool.{true≢false}
use Rattle.std.proofs.Common.{◌≡◌, ℕ, zero, suc, ◌+◌, ◌-◌, ◌<◌, ◌≤◌, ◌⊎◌, inl, inr, Bool, true, false, ◌||◌, cond, List, [], ◌∷◌, ◌++◌, map, length, length-append, slice_get, slice_set, Option, Some, None, is_some, bytes_eq, nat_eq, eqb-true, eq-eqb, refl, ap, subst, sym, ◌∙◌, arith}
use Rattle.std.specs.Prelude.{position}
use Rattle.std.specs.BTreeMap.{BTreeMap, get, is_at}
use Rattle.std.specs.Map.{lookup}
use Rattle.std.specs.Cmp.Lexicographic.{slice_cmp}
use Rattle.std.specs.List.{position_from, list_any}
use Rattle.std.specs.Option.{option_or, option_map}
use Rattle.std.specs.Ordering.{nat_cmp, is_eq}
use Rattle.std.proofs.lemmas.Iterator.Adapters.{position_from-zero}
use Rattle.std.proofs.lemmas.Map.Text.{is_eq-slice_cmp}
use Rattle.std.proofs.lemmas.Option.{slice_get-map}
use Rattle.std.proofs.lemmas.Slice.Eq.{bytes_eq-Decides}
use Rattle.esm_base.specs.Lists.{is_in}
use Rattle.esm_text_table.specs.TextTable.{with_text, mark_of, start_of, reach, is_text, is_mark, tells, look, room, place_by, AreSound, AreReached, AreListed, Puts, Keeps}
use Rattle.esm_text_table.proofs.Slots.{none_some, same_some, Stays, stays_same, stays_set, look_sound, look_kept, room_free, others_found, put_found, look_reach}

-- ---- the first place at which a test passes

module _ {X : Type 0} (p : X → Bool) where
  -- something passes where there is a first that does
  some_from : (i : ℕ) (xs : List X) → is_some (position_from p i xs) ≡ list_any p xs
  some_from i [] = refl
  some_from i (x ∷ xs) = by (p x) (some_from (i + 1) xs)
    where
      by : (b : Bool) → is_some (position_from p (i + 1) xs) ≡ list_any p xs → is_some (cond b (Some i) (position_from p (i + 1) xs)) ≡ (b || list_any p xs)
      by true h = refl
      by false h = h

  pub some_is : (xs : List X) → is_some (position p xs) ≡ list_any p xs
  some_is xs = ap is_some (position_from-zero p xs) ∙ some_from 0 xs

  -- one more counts where none before it passes
  more_from : (i : ℕ) (xs : List X) (y : X) → position_from p i (xs ++ y ∷ []) ≡ option_or (position_from p i xs) (cond (p y) (Some (i + length xs)) None)
  more_from i [] y = let same : i ≡ i + 0 = omega arith in ap (λ k. cond (p y) (Some k) None) same
  more_from i (x ∷ xs) y = by (p x) (more_from (i + 1) xs y)
    where
      next : i + 1 + length xs ≡ i + suc (length xs)
      next = omega arith

      by : (b : Bool) → position_from p (i + 1) (xs ++ y ∷ []) ≡ option_or (position_from p (i + 1) xs) (cond (p y) (Some (i + 1 + length xs)) None)
          → cond b (Some i) (position_from p (i + 1) (xs ++ y ∷ [])) ≡ option_or (cond b (Some i) (position_from p (i + 1) xs)) (cond (p y) (Some (i + suc (length xs))) None)
      by true h = refl
      by false h = h ∙ ap (λ k. option_or (position_from p (i + 1) xs) (cond (p y) (Some k) None)) next

  pub more_is : (xs : List X) (y : X) → position p (xs ++ y ∷ []) ≡ option_or (position p xs) (cond (p y) (Some (length xs)) None)
  more_is xs y =
      let start : 0 + length xs ≡ length xs = omega arith in
      position_from-zero p (xs ++ y ∷ [])
      ∙ (more_from 0 xs y
      ∙ (ap (λ k. option_or (position_from p 0 xs) (cond (p y) (Some k) None)) start
      ∙ ap (λ o. option_or o (cond (p y) (Some (length xs)) None)) (sym (position_from-zero p xs))))

pub none_by : (o : Option ℕ) → is_some o ≡ false → o ≡ None
none_by None e = refl
none_by (Some k) e = cc

-- what stands at a text's place is the text
stands_from : (q : List ℕ) (i : ℕ) (xs : List (List ℕ)) (k : ℕ) → position_from (bytes_eq q) i xs ≡ Some k → (i ≤ k) × (slice_get xs (k - i) ≡ Some q)
stands_from q i [] k e = absurd (none_some e)
stands_from q i (x ∷ xs) k e = by (bytes_eq q x) refl (stands_from q (i + 1) xs k) e
  where
    by : (b : Bool) → bytes_eq q x ≡ b → (position_from (bytes_eq q) (i + 1) xs ≡ Some k → (i + 1 ≤ k) × (slice_get xs (k - (i + 1)) ≡ Some q))
        → cond b (Some i) (position_from (bytes_eq q) (i + 1) xs) ≡ Some k → (i ≤ k) × (slice_get (x ∷ xs) (k - i) ≡ Some q)
    by true same next f =
        let at : i ≡ k = same_some f in
        let first : k - i ≡ 0 = omega (arith, at) in
        (omega (arith, at), ap (λ n. slice_get (x ∷ xs) n) first ∙ ap Some (sym ((bytes_eq-Decides q x).0 same)))
    by false same next f =
        let h = next f in
        let after : i + 1 ≤ k = h.0 in
        let further : k - i ≡ suc (k - (i + 1)) = omega (arith, after) in
        (omega (arith, after), ap (λ n. slice_get (x ∷ xs) n) further ∙ h.1)

pub stands : (q : List ℕ) (xs : List (List ℕ)) (k : ℕ) → position (bytes_eq q) xs ≡ Some k → slice_get xs k ≡ Some q
stands q xs k e =
    let whole : k ≡ k - 0 = omega arith in
    ap (slice_get xs) whole ∙ (stands_from q 0 xs k (sym (position_from-zero (bytes_eq q) xs) ∙ e)).1

pub inside : (xs : List (List ℕ)) (k : ℕ) (q : List ℕ) → slice_get xs k ≡ Some q → k < length xs
inside [] k q e = absurd (none_some e)
inside (x ∷ xs) zero q e = omega arith
inside (x ∷ xs) (suc k) q e = let h = inside xs k q e in omega (arith, h)

-- what stands in a longer list stood there, or is the text behind it
behind : (xs : List (List ℕ)) (t : List ℕ) (k : ℕ) (q : List ℕ) → slice_get (xs ++ t ∷ []) k ≡ Some q → (slice_get xs k ≡ Some q) ⊎ ((k ≡ length xs) × (t ≡ q))
behind [] t zero q e = inr (refl, same_some e)
behind [] t (suc k) q e = absurd (none_some e)
behind (x ∷ xs) t zero q e = inl e
behind (x ∷ xs) t (suc k) q e = up (behind xs t k q e)
  where
    up : (slice_get xs k ≡ Some q) ⊎ ((k ≡ length xs) × (t ≡ q)) → (slice_get xs k ≡ Some q) ⊎ ((suc k ≡ suc (length xs)) × (t ≡ q))
    up (inl h) = inl h
    up (inr (at, same)) = inr (ap suc at, same)

pub last_at : (xs : List (List ℕ)) (t : List ℕ) → slice_get (xs ++ t ∷ []) (length xs) ≡ Some t
last_at [] t = refl
last_at (x ∷ xs) t = last_at xs t

map_more : (xs : List (List ℕ)) (t : List ℕ) → map mark_of (xs ++ t ∷ []) ≡ map mark_of xs ++ mark_of t ∷ []
map_more [] t = refl
map_more (x ∷ xs) t = ap (λ l. mark_of x ∷ l) (map_more xs t)

-- ---- the place that a mark and a text tell

text_is : (q : List ℕ) (o : Option (List ℕ)) → is_text q o ≡ true → o ≡ Some q
text_is q None e = absurd (true≢false (sym e))
text_is q (Some found) e = ap Some ((bytes_eq-Decides found q).0 e)

tells_text : (marks : List ℕ) (texts : List (List ℕ)) (mark : ℕ) (q : List ℕ) (r : ℕ) → tells marks texts mark q r ≡ true → slice_get texts r ≡ Some q
tells_text marks texts mark q r e = by (is_mark mark (slice_get marks r)) e
  where
    by : (b : Bool) → cond b (is_text q (slice_get texts r)) false ≡ true → slice_get texts r ≡ Some q
    by true f = text_is q (slice_get texts r) f
    by false f = absurd (true≢false (sym f))

tells_at : (marks : List ℕ) (texts : List (List ℕ)) (q : List ℕ) (p : ℕ) → marks ≡ map mark_of texts → slice_get texts p ≡ Some q → tells marks texts (mark_of q) q p ≡ true
tells_at marks texts q p marked at =
    let mark : slice_get marks p ≡ Some (mark_of q) = ap (λ l. slice_get l p) marked ∙ (slice_get-map mark_of texts p ∙ ap (option_map mark_of) at) in
    ap (λ o. cond (is_mark (mark_of q) o) (is_text q (slice_get texts p)) false) mark
    ∙ (ap (λ o. cond (nat_eq (mark_of q) (mark_of q)) (is_text q o) false) at
    ∙ (ap (λ b. cond b (bytes_eq q q) false) (eq-eqb (mark_of q) (mark_of q) refl) ∙ (bytes_eq-Decides q q).1 refl))

-- only the text's place tells
tells_only : (marks : List ℕ) (O : List ℕ → Option ℕ) (texts : List (List ℕ)) (q : List ℕ) (p : ℕ) → AreSound O texts → position (bytes_eq q) texts ≡ Some p → (r : ℕ) → tells marks texts (mark_of q) q r ≡ true → r ≡ p
tells_only marks O texts q p sound e r told = same_some (sym (sound.once q r (tells_text marks texts (mark_of q) q r told)) ∙ e)

less : (p n : ℕ) → p < suc n → (p ≡ n → ⊥) → p < n
less zero zero within apart = absurd (apart refl)
less zero (suc n) within apart = omega arith
less (suc p) zero within apart = absurd (omega (arith, within))
less (suc p) (suc n) within apart = let h = less p n (omega (arith, within)) (λ e. apart (ap suc e)) in omega (arith, h)

-- ---- a text gets its place

module _ (slots : List ℕ) (mask : ℕ) (marks : List ℕ) (O : List ℕ → Option ℕ) (texts : List (List ℕ)) (n : ℕ) (t : List ℕ) (marked : marks ≡ map mark_of texts) (sound : AreSound O texts) (at : slice_get texts n ≡ Some t) where
  -- the text at the place is no other
  text_at : (q : List ℕ) → position (bytes_eq q) texts ≡ Some n → t ≡ q
  text_at q e = same_some (sym at ∙ stands q texts n e)

  module _ (now : List ℕ) (P : List ℕ → Option ℕ) (keep : Keeps O P) (stay : (k : ℕ) → Stays (slice_get slots k) (slice_get now k)) (put : place_by now mask marks P texts t ≡ Some n) where
    reached_more : AreReached n slots mask marks O texts → AreReached (suc n) now mask marks P texts
    reached_more reached q p e within = by (nat_eq p n) refl
      where
        by : (b : Bool) → nat_eq p n ≡ b → place_by now mask marks P texts q ≡ Some p
        by true is =
            let last : p ≡ n = eqb-true p n is in
            let same : t ≡ q = text_at q (e ∙ ap Some last) in
            subst (λ s. place_by now mask marks P texts s ≡ Some p) same (put ∙ ap Some (sym last))
        by false is =
            let apart : p ≡ n → ⊥ = λ same. true≢false (sym (eq-eqb p n same) ∙ is) in
            let before : p < n = less p n within apart in
            look_kept (tells marks texts (mark_of q) q) (tells marks texts (mark_of q) q) (O q) (P q) p (tells_only marks O texts q p sound e) (tells_at marks texts q p marked (stands q texts p e)) (keep q p)
            slots now stay reach (start_of mask (mark_of q)) (reached q p e before)

  abbrev pub Put : List ℕ → (List ℕ → Option ℕ) → Type 0
  Put now P = AreSound P texts × (Keeps O P × (AreReached n slots mask marks O texts → AreReached (suc n) now mask marks P texts))

  put_slot : (k : ℕ) (now : List ℕ) (P : List ℕ → Option ℕ) → room slots reach (start_of mask (mark_of t)) ≡ Some k → now ≡ slice_set slots k (suc n) → ((q : List ℕ) → P q ≡ O q) → Put now P
  put_slot k now P e set same =
      let free = room_free slots k reach (start_of mask (mark_of t)) e in
      let keep : Keeps O P = λ q p h. same q ∙ h in
      let place = sound.once t n at in
      let found : place_by (slice_set slots k (suc n)) mask marks P texts t ≡ Some n =
      put_found slots (tells marks texts (mark_of t) t) n (tells_only marks O texts t n sound place) (tells_at marks texts t n marked at) (P t) k free reach (start_of mask (mark_of t)) e in (
        record { once = sound.once; right = λ q p h. sound.right q p (sym (same q) ∙ h) },
        (
          keep,
          subst (λ l. AreReached n slots mask marks O texts → AreReached (suc n) l mask marks P texts) (sym set)
              (reached_more (slice_set slots k (suc n)) P keep (λ j. stays_set slots (suc n) k j free) found),
        ),
      )

  put_others : (now : List ℕ) (P : List ℕ → Option ℕ) → room slots reach (start_of mask (mark_of t)) ≡ None → now ≡ slots
      → ((q : List ℕ) → P q ≡ cond (is_eq (slice_cmp nat_cmp t q)) (Some n) (O q)) → Put now P
  put_others now P e set puts = (
    record { once = sound.once; right = right },
    (
      keep,
      subst (λ l. AreReached n slots mask marks O texts → AreReached (suc n) l mask marks P texts) (sym set)
          (reached_more slots P keep (λ j. stays_same (slice_get slots j)) found),
    ),
  )
    where
      place : position (bytes_eq t) texts ≡ Some n
      place = sound.once t n at

      puts_to : (q : List ℕ) → P q ≡ cond (bytes_eq t q) (Some n) (O q)
      puts_to q = puts q ∙ ap (λ b. cond b (Some n) (O q)) (is_eq-slice_cmp t q)

      right : (q : List ℕ) (p : ℕ) → P q ≡ Some p → position (bytes_eq q) texts ≡ Some p
      right q p h = by (bytes_eq t q) refl (sym (puts_to q) ∙ h)
        where
          by : (b : Bool) → bytes_eq t q ≡ b → cond b (Some n) (O q) ≡ Some p → position (bytes_eq q) texts ≡ Some p
          by true same f = ap (λ s. position (bytes_eq s) texts) (sym ((bytes_eq-Decides t q).0 same)) ∙ (place ∙ f)
          by false same f = sound.right q p f

      keep : Keeps O P
      keep q p h = puts_to q ∙ by (bytes_eq t q) refl
        where
          by : (b : Bool) → bytes_eq t q ≡ b → cond b (Some n) (O q) ≡ Some p
          by true same = sym place ∙ (ap (λ s. position (bytes_eq s) texts) ((bytes_eq-Decides t q).0 same) ∙ sound.right q p h)
          by false same = h

      own : P t ≡ Some n
      own = puts_to t ∙ ap (λ b. cond b (Some n) (O t)) ((bytes_eq-Decides t t).1 refl)

      found : place_by slots mask marks P texts t ≡ Some n
      found =
          ap (λ o. look slots (tells marks texts (mark_of t) t) o reach (start_of mask (mark_of t))) own
          ∙ others_found slots (tells marks texts (mark_of t) t) n (tells_only marks O texts t n sound place) (tells_at marks texts t n marked at) reach (start_of mask (mark_of t)) e

  -- whichever way it was
  pub put_by : (o : Option ℕ) (now : List ℕ) (P : List ℕ → Option ℕ) → room slots reach (start_of mask (mark_of t)) ≡ o → Puts o slots O t n now P → Put now P
  put_by None now P e puts = put_others now P e puts.0 puts.1
  put_by (Some k) now P e puts = put_slot k now P e puts.0 puts.1

-- ---- one text more, before it has its place

module _ (O : List ℕ → Option ℕ) (texts : List (List ℕ)) (t : List ℕ) (sound : AreSound O texts) (fresh : position (bytes_eq t) texts ≡ None) where
  -- a text that had a place keeps it
  longer_at : (q : List ℕ) (p : ℕ) → position (bytes_eq q) texts ≡ Some p → position (bytes_eq q) (texts ++ t ∷ []) ≡ Some p
  longer_at q p e = more_is (bytes_eq q) texts t ∙ ap (λ o. option_or o (cond (bytes_eq q t) (Some (length texts)) None)) e

  own_at : position (bytes_eq t) (texts ++ t ∷ []) ≡ Some (length texts)
  own_at =
      more_is (bytes_eq t) texts t
      ∙ (ap (λ o. option_or o (cond (bytes_eq t t) (Some (length texts)) None)) fresh ∙ ap (λ b. cond b (Some (length texts)) None) ((bytes_eq-Decides t t).1 refl))

  pub longer_sound : AreSound O (texts ++ t ∷ [])
  longer_sound = record {
    once = λ q k e. once q k (behind texts t k q e);
    right = λ q p e. longer_at q p (sound.right q p e);
  }
    where
      once : (q : List ℕ) (k : ℕ) → (slice_get texts k ≡ Some q) ⊎ ((k ≡ length texts) × (t ≡ q)) → position (bytes_eq q) (texts ++ t ∷ []) ≡ Some k
      once q k (inl h) = longer_at q k (sound.once q k h)
      once q k (inr (at, same)) = ap (λ s. position (bytes_eq s) (texts ++ t ∷ [])) (sym same) ∙ (own_at ∙ ap Some (sym at))

  -- a place before the last is one that there was
  before_at : (q : List ℕ) (p : ℕ) → position (bytes_eq q) (texts ++ t ∷ []) ≡ Some p → p < length texts → position (bytes_eq q) texts ≡ Some p
  before_at q p e within = by (position (bytes_eq q) texts) (sym (more_is (bytes_eq q) texts t) ∙ e)
    where
      last : (b : Bool) → cond b (Some (length texts)) None ≡ Some p → ⊥
      last true f = let same : length texts ≡ p = same_some f in omega (arith, same, within)
      last false f = none_some f

      by : (o : Option ℕ) → option_or o (cond (bytes_eq q t) (Some (length texts)) None) ≡ Some p → o ≡ Some p
      by None f = absurd (last (bytes_eq q t) f)
      by (Some k) f = f

  pub longer_reached : (slots : List ℕ) (mask : ℕ) (marks marks_now : List ℕ) → marks_now ≡ map mark_of (texts ++ t ∷ []) → AreReached (length texts) slots mask marks O texts → AreReached (length texts) slots mask marks_now O (texts ++ t ∷ [])
  longer_reached slots mask marks marks_now marked reached q p e within =
      look_kept (tells marks texts (mark_of q) q) (tells marks_now (texts ++ t ∷ []) (mark_of q) q) (O q) (O q) p (tells_only marks_now O (texts ++ t ∷ []) q p longer_sound e)
      (tells_at marks_now (texts ++ t ∷ []) q p marked (stands q (texts ++ t ∷ []) p e)) (λ o. o)
      slots slots (λ k. stays_same (slice_get slots k)) reach (start_of mask (mark_of q)) (reached q p (before_at q p e within) within)

pub listed_more : (slots now : List ℕ) (mask : ℕ) (marks marks_now : List ℕ) (O P : List ℕ → Option ℕ) (texts longer : List (List ℕ)) (t : List ℕ) → AreListed slots mask marks O texts → position (bytes_eq t) texts ≡ None
    → marks_now ≡ marks ++ mark_of t ∷ [] → longer ≡ texts ++ t ∷ [] → Puts (room slots reach (start_of mask (mark_of t))) slots O t (length texts) now P → AreListed now mask marks_now P longer
listed_more slots now mask marks marks_now O P texts longer t h fresh marks_more more puts =
    let marked : marks_now ≡ map mark_of (texts ++ t ∷ []) = marks_more ∙ (ap (λ l. l ++ mark_of t ∷ []) h.marked ∙ sym (map_more texts t)) in
    let put = put_by slots mask marks_now O (texts ++ t ∷ []) (length texts) t marked (longer_sound O texts t h.sound fresh) (last_at texts t) (room slots reach (start_of mask (mark_of t))) now P refl puts in
    let count : length (texts ++ t ∷ []) ≡ suc (length texts) = let more = length-append texts (t ∷ []) in omega (arith, more) in
    subst (AreListed now mask marks_now P) (sym more) (record {
      marked = marked;
      sound = put.0;
      reached = subst (λ n. AreReached n now mask marks_now P (texts ++ t ∷ [])) (sym count) (put.1.1 (longer_reached O texts t h.sound fresh slots mask marks marks_now marked h.reached));
    })

-- ---- tables without texts, and with other slots

no_place : (q : List ℕ) (texts : List (List ℕ)) (p : ℕ) → texts ≡ [] → position (bytes_eq q) texts ≡ Some p → ⊥
no_place q texts p empty e = none_some (sym (ap (λ l. slice_get l p) empty) ∙ stands q texts p e)

pub listed_none : (slots : List ℕ) (mask : ℕ) (marks : List ℕ) (others : BTreeMap (List ℕ) ℕ) (texts : List (List ℕ)) → marks ≡ [] → others.entries ≡ [] → texts ≡ [] → AreListed slots mask marks (get (slice_cmp nat_cmp) others) texts
listed_none slots mask marks others texts no_marks no_others empty =
    let O : (q : List ℕ) → get (slice_cmp nat_cmp) others q ≡ None = λ q. ap (λ es. lookup (is_at (slice_cmp nat_cmp q)) es) no_others in
    record {
      marked = no_marks ∙ sym (ap (map mark_of) empty);
      sound = record {
        once = λ q k e. absurd (none_some (sym (ap (λ l. slice_get l k) empty) ∙ e));
        right = λ q p e. absurd (none_some (sym (O q) ∙ e));
      };
      reached = λ q p e within. absurd (no_place q texts p empty e);
    }

-- where the others have more
pub listed_kept : (slots : List ℕ) (mask : ℕ) (marks : List ℕ) (O P : List ℕ → Option ℕ) (texts : List (List ℕ)) → AreListed slots mask marks O texts → AreSound P texts → Keeps O P → AreListed slots mask marks P texts
listed_kept slots mask marks O P texts h sound keep = record {
  marked = h.marked;
  sound = sound;
  reached = λ q p e within.
      look_kept (tells marks texts (mark_of q) q) (tells marks texts (mark_of q) q) (O q) (P q) p (tells_only marks O texts q p h.sound e) (tells_at marks texts q p h.marked (stands q texts p e)) (keep q p)
      slots slots (λ k. stays_same (slice_get slots k)) reach (start_of mask (mark_of q)) (h.reached q p e within);
}

-- where nothing has changed
pub keeps_unchanged : (others now : BTreeMap (List ℕ) ℕ) → now.entries ≡ others.entries → (q : List ℕ) → get (slice_cmp nat_cmp) now q ≡ get (slice_cmp nat_cmp) others q
keeps_unchanged others now same q = ap (λ es. lookup (is_at (slice_cmp nat_cmp q)) es) same

-- ---- where a text is found

pub told : (slots : List ℕ) (mask : ℕ) (marks : List ℕ) (O : List ℕ → Option ℕ) (texts : List (List ℕ)) (q : List ℕ) → AreListed slots mask marks O texts → place_by slots mask marks O texts q ≡ position (bytes_eq q) texts
told slots mask marks O texts q h = by (position (bytes_eq q) texts) refl
  where
    never : (p : ℕ) → position (bytes_eq q) texts ≡ None → (tells marks texts (mark_of q) q p ≡ true) ⊎ (O q ≡ Some p) → ⊥
    never p none (inl tell) = none_some (sym none ∙ h.sound.once q p (tells_text marks texts (mark_of q) q p tell))
    never p none (inr other) = none_some (sym none ∙ h.sound.right q p other)

    nothing : (o : Option ℕ) → place_by slots mask marks O texts q ≡ o → position (bytes_eq q) texts ≡ None → o ≡ None
    nothing None is none = refl
    nothing (Some p) is none = absurd (never p none (look_sound slots (tells marks texts (mark_of q) q) (O q) reach (start_of mask (mark_of q)) p is))

    by : (o : Option ℕ) → position (bytes_eq q) texts ≡ o → place_by slots mask marks O texts q ≡ o
    by None e = nothing (place_by slots mask marks O texts q) refl e
    by (Some p) e = h.reached q p e (inside texts p q (stands q texts p e))

-- as the code looks
pub found_by : (slots : List ℕ) (mask : ℕ) (marks : List ℕ) (O : List ℕ → Option ℕ) (texts seen list : List (List ℕ)) (q : List ℕ) (mark start : ℕ) → AreListed slots mask marks O texts → texts ≡ seen → list ≡ texts → mark ≡ mark_of q → start ≡ start_of mask mark
    → look slots (tells marks list mark q) (O q) 8 start ≡ position (bytes_eq q) seen
found_by slots mask marks O texts seen list q mark start h view same by from =
    look_reach slots (tells marks list mark q) (O q) start
    ∙ (ap (look slots (tells marks list mark q) (O q) reach) from
    ∙ (ap (λ m. look slots (tells marks list m q) (O q) reach (start_of mask m)) by
    ∙ (ap (λ l. look slots (tells marks l (mark_of q) q) (O q) reach (start_of mask (mark_of q))) same
    ∙ (told slots mask marks O texts q h ∙ ap (position (bytes_eq q)) view))))

-- a text that has a place, and one that has none
pub there : (seen : List (List ℕ)) (q : List ℕ) (found : Option ℕ) (b : Bool) → found ≡ position (bytes_eq q) seen → is_some found ≡ b → is_in bytes_eq seen q ≡ b
there seen q found b is e = sym (some_is (bytes_eq q) seen) ∙ (ap is_some (sym is) ∙ e)

-- the mark at a text's place is the text's
pub mark_is : (marks : List ℕ) (texts : List (List ℕ)) (n m : ℕ) (t : List ℕ) → marks ≡ map mark_of texts → slice_get texts n ≡ Some t → slice_get marks n ≡ Some m → m ≡ mark_of t
mark_is marks texts n m t marked at mark = same_some (sym mark ∙ (ap (λ l. slice_get l n) marked ∙ (slice_get-map mark_of texts n ∙ ap (option_map mark_of) at)))

count_map : (texts : List (List ℕ)) → length (map mark_of texts) ≡ length texts
count_map [] = refl
count_map (t ∷ texts) = ap suc (count_map texts)

pub as_many : (marks : List ℕ) (texts : List (List ℕ)) → marks ≡ map mark_of texts → length marks ≡ length texts
as_many marks texts marked = ap length marked ∙ count_map texts

-- ---- the list that is seen

pub stays : (seen : List (List ℕ)) (t : List ℕ) → is_in bytes_eq seen t ≡ true → seen ≡ with_text seen t
stays seen t there = sym (ap (λ b. cond b seen (seen ++ t ∷ [])) there)

pub grows : (texts longer seen : List (List ℕ)) (t : List ℕ) → texts ≡ seen → longer ≡ texts ++ t ∷ [] → is_in bytes_eq seen t ≡ false → longer ≡ with_text seen t
grows texts longer seen t view more fresh = more ∙ (ap (λ l. l ++ t ∷ []) view ∙ sym (ap (λ b. cond b seen (seen ++ t ∷ [])) fresh))
