-- What slots say of where a text stands, and what they say once one more is taken.
use mathlib.Core.Bool.{true≢false}
use Rattle.std.proofs.Common.{◌≡◌, ℕ, zero, suc, ◌+◌, ◌-◌, ◌<◌, ◌≤◌, ◌⊎◌, inl, inr, Bool, true, false, cond, List, [], ◌∷◌, slice_get, slice_set, get_or, length, Option, Some, None, nat_eq, eqb-true, eq-eqb, refl, ap, subst, sym, ◌∙◌, arith}
use Rattle.std.specs.Prelude.{Result, Ok, Err, OnOk, is_err}
use Rattle.std.specs.Cmp.Lexicographic.{slice_cmp}
use Rattle.std.specs.Ordering.{nat_cmp, is_eq}
use Rattle.std.proofs.lemmas.Option.{slice_get-get_or}
use Rattle.esm_text_table.specs.TextTable.{reach, Puts, look_at, look, room_at, room}

pub none_some : {A : Type 0} {x : A} → None ≡ Some x → ⊥
none_some e = cc

pub same_some : {A : Type 0} {x y : A} → Some x ≡ Some y → x ≡ y
same_some e = cc

-- ---- an element in place of another

pub set_here : (xs : List ℕ) (v k x : ℕ) → slice_get xs k ≡ Some x → slice_get (slice_set xs k v) k ≡ Some v
set_here [] v k x e = absurd (none_some e)
set_here (y ∷ ys) v zero x e = refl
set_here (y ∷ ys) v (suc k) x e = set_here ys v k x e

pub set_other : (xs : List ℕ) (v k j : ℕ) → (j ≡ k → ⊥) → slice_get (slice_set xs k v) j ≡ slice_get xs j
set_other [] v k j apart = refl
set_other (y ∷ ys) v zero zero apart = absurd (apart refl)
set_other (y ∷ ys) v zero (suc j) apart = refl
set_other (y ∷ ys) v (suc k) zero apart = refl
set_other (y ∷ ys) v (suc k) (suc j) apart = set_other ys v k j (λ e. apart (ap suc e))

-- ---- taken slots stay as they are

abbrev pub Stays : Option ℕ → Option ℕ → Type 0
Stays None now = now ≡ None
Stays (Some zero) now = Unit {0}
Stays (Some (suc place)) now = now ≡ Some (suc place)

pub stays_same : (o : Option ℕ) → Stays o o
stays_same None = refl
stays_same (Some zero) = tt
stays_same (Some (suc place)) = refl

pub stays_set : (slots : List ℕ) (v k j : ℕ) → slice_get slots k ≡ Some zero → Stays (slice_get slots j) (slice_get (slice_set slots k v) j)
stays_set slots v k j free = by (nat_eq j k) refl
  where
    by : (b : Bool) → nat_eq j k ≡ b → Stays (slice_get slots j) (slice_get (slice_set slots k v) j)
    by true e =
        let at : slice_get slots j ≡ Some zero = ap (slice_get slots) (eqb-true j k e) ∙ free in
        subst (λ o. Stays o (slice_get (slice_set slots k v) j)) (sym at) tt
    by false e =
        let other = set_other slots v k j (λ same. true≢false (sym (eq-eqb j k same) ∙ e)) in
        subst (Stays (slice_get slots j)) (sym other) (stays_same (slice_get slots j))

-- ---- what a look-up finds is right

pub sound_step : (told : ℕ → Bool) (other : Option ℕ) (p : ℕ) (o rest : Option ℕ) → (rest ≡ Some p → (told p ≡ true) ⊎ (other ≡ Some p)) → look_at o told other rest ≡ Some p → (told p ≡ true) ⊎ (other ≡ Some p)
sound_step told other p None rest next e = inr e
sound_step told other p (Some zero) rest next e = absurd (none_some e)
sound_step told other p (Some (suc r)) rest next e = by (told r) refl e
  where
    by : (b : Bool) → told r ≡ b → cond b (Some r) rest ≡ Some p → (told p ≡ true) ⊎ (other ≡ Some p)
    by true t f = inl (ap told (sym (same_some f)) ∙ t)
    by false t f = next f

pub look_sound : (slots : List ℕ) (told : ℕ → Bool) (other : Option ℕ) (left at p : ℕ) → look slots told other left at ≡ Some p → (told p ≡ true) ⊎ (other ≡ Some p)
unfolding look
look_sound slots told other zero at p e = inr e
look_sound slots told other (suc left) at p e = sound_step told other p (slice_get slots at) (look slots told other left (suc at)) (look_sound slots told other left (suc at) p) e

-- ---- what was found still is

module _ (told told_now : ℕ → Bool) (other other_now : Option ℕ) (p : ℕ) (only : (r : ℕ) → told_now r ≡ true → r ≡ p) (here : told_now p ≡ true) (others : other ≡ Some p → other_now ≡ Some p) where
  kept_step : (o now rest rest_now : Option ℕ) → Stays o now → (rest ≡ Some p → rest_now ≡ Some p) → look_at o told other rest ≡ Some p → look_at now told_now other_now rest_now ≡ Some p
  kept_step None now rest rest_now stay next e = ap (λ n. look_at n told_now other_now rest_now) stay ∙ others e
  kept_step (Some zero) now rest rest_now stay next e = absurd (none_some e)
  kept_step (Some (suc r)) now rest rest_now stay next e = ap (λ n. look_at n told_now other_now rest_now) stay ∙ by (told_now r) refl
    where
      unless : (b : Bool) → told r ≡ b → told_now r ≡ false → cond b (Some r) rest ≡ Some p → rest ≡ Some p
      unless true t not_now f = absurd (true≢false (sym here ∙ (ap told_now (sym (same_some f)) ∙ not_now)))
      unless false t not_now f = f

      by : (b : Bool) → told_now r ≡ b → cond b (Some r) rest_now ≡ Some p
      by true t = ap Some (only r t)
      by false t = next (unless (told r) refl t e)

  pub look_kept : (slots now : List ℕ) → ((k : ℕ) → Stays (slice_get slots k) (slice_get now k)) → (left at : ℕ) → look slots told other left at ≡ Some p → look now told_now other_now left at ≡ Some p
  unfolding look
  look_kept slots now stay zero at e = others e
  look_kept slots now stay (suc left) at e = kept_step (slice_get slots at) (slice_get now at) (look slots told other left (suc at)) (look now told_now other_now left (suc at)) (stay at) (look_kept slots now stay left (suc at)) e

-- ---- a free slot within reach, and none

free_step : (slots : List ℕ) (k at : ℕ) (o rest : Option ℕ) → slice_get slots at ≡ o → (rest ≡ Some k → slice_get slots k ≡ Some zero) → room_at o at rest ≡ Some k → slice_get slots k ≡ Some zero
free_step slots k at None rest is next e = absurd (none_some e)
free_step slots k at (Some zero) rest is next e = ap (slice_get slots) (sym (same_some e)) ∙ is
free_step slots k at (Some (suc r)) rest is next e = next e

pub room_free : (slots : List ℕ) (k left at : ℕ) → room slots left at ≡ Some k → slice_get slots k ≡ Some zero
unfolding room
room_free slots k zero at e = absurd (none_some e)
room_free slots k (suc left) at e = free_step slots k at (slice_get slots at) (room slots left (suc at)) refl (room_free slots k left (suc at)) e

module _ (slots : List ℕ) (told : ℕ → Bool) (n : ℕ) (only : (r : ℕ) → told r ≡ true → r ≡ n) (here : told n ≡ true) where
  or_rest : (r : ℕ) (rest : Option ℕ) → rest ≡ Some n → cond (told r) (Some r) rest ≡ Some n
  or_rest r rest next = by (told r) refl
    where
      by : (b : Bool) → told r ≡ b → cond b (Some r) rest ≡ Some n
      by true t = ap Some (only r t)
      by false t = next

  others_step : (o rest : Option ℕ) (at : ℕ) (room_rest : Option ℕ) → (room_rest ≡ None → rest ≡ Some n) → room_at o at room_rest ≡ None → look_at o told (Some n) rest ≡ Some n
  others_step None rest at room_rest next e = refl
  others_step (Some zero) rest at room_rest next e = absurd (none_some (sym e))
  others_step (Some (suc r)) rest at room_rest next e = or_rest r rest (next e)

  -- where no slot is free the others are asked
  pub others_found : (left at : ℕ) → room slots left at ≡ None → look slots told (Some n) left at ≡ Some n
  unfolding look room
  others_found zero at e = refl
  others_found (suc left) at e = others_step (slice_get slots at) (look slots told (Some n) left (suc at)) at (room slots left (suc at)) (others_found left (suc at)) e

  module _ (other : Option ℕ) (k : ℕ) (free : slice_get slots k ≡ Some zero) where
    put_step : (o rest : Option ℕ) (at : ℕ) (room_rest : Option ℕ) → slice_get slots at ≡ o → (room_rest ≡ Some k → rest ≡ Some n) → room_at o at room_rest ≡ Some k → look_at (slice_get (slice_set slots k (suc n)) at) told other rest ≡ Some n
    put_step None rest at room_rest is next e = absurd (none_some e)
    put_step (Some zero) rest at room_rest is next e =
        let set : slice_get (slice_set slots k (suc n)) at ≡ Some (suc n) = ap (slice_get (slice_set slots k (suc n))) (same_some e) ∙ set_here slots (suc n) k zero free in
        ap (λ o. look_at o told other rest) set ∙ ap (λ b. cond b (Some n) rest) here
    put_step (Some (suc r)) rest at room_rest is next e =
        let set : slice_get (slice_set slots k (suc n)) at ≡ Some (suc r) = set_other slots (suc n) k at (λ same. taken (sym is ∙ (ap (slice_get slots) same ∙ free))) ∙ is in
        ap (λ o. look_at o told other rest) set ∙ or_rest r rest (next e)
      where
        taken : Some (suc r) ≡ Some zero → ⊥
        taken same = cc

    -- a text is found by the slot that it was put into
    pub put_found : (left at : ℕ) → room slots left at ≡ Some k → look (slice_set slots k (suc n)) told other left at ≡ Some n
    unfolding look room
    put_found zero at e = absurd (none_some e)
    put_found (suc left) at e = put_step (slice_get slots at) (look (slice_set slots k (suc n)) told other left (suc at)) at (room slots left (suc at)) refl (put_found left (suc at)) e

-- ---- results

pub ok_by : {T E : Type 0} {A : Type 0} (r : Result T E) → is_err r ≡ false → OnOk r A → A
ok_by (Ok done) e a = a
ok_by (Err end) e a = absurd (true≢false e)

pub ok_weaker : {T E : Type 0} {A B : Type 0} (r : Result T E) → (A → B) → OnOk r A → OnOk r B
ok_weaker (Ok done) f a = f a
ok_weaker (Err end) f a = tt

-- ---- steps of the code

pub at_is : {X : Type 0} (xs : List X) (i : ℕ) (x d : X) → i < length xs → x ≡ get_or xs i d → slice_get xs i ≡ Some x
at_is xs i x d within is = slice_get-get_or xs i d within ∙ ap Some (sym is)

end_none : {X : Type 0} (xs : List X) (i : ℕ) → length xs ≤ i → slice_get xs i ≡ None
end_none [] i h = refl
end_none (x ∷ xs) zero h = absurd (omega (arith, h))
end_none (x ∷ xs) (suc i) h = end_none xs i (omega (arith, h))

pub before_end : {X : Type 0} (xs : List X) (i : ℕ) (x : X) → slice_get xs i ≡ Some x → i < length xs
before_end [] i x e = absurd (none_some e)
before_end (y ∷ ys) zero x e = omega arith
before_end (y ∷ ys) (suc i) x e = let h = before_end ys i x e in omega (arith, h)

module _ (slots : List ℕ) where
  pub room_zero : (left at : ℕ) → left ≡ 0 → None ≡ room slots left at
  unfolding room
  room_zero zero at e = refl
  room_zero (suc left) at e = absurd (omega (arith, e))

  pub room_none : (left at : ℕ) → slice_get slots at ≡ None → None ≡ room slots left at
  unfolding room
  room_none zero at is = refl
  room_none (suc left) at is = sym (ap (λ o. room_at o at (room slots left (suc at))) is)

  pub room_end : (left at : ℕ) → length slots ≤ at → None ≡ room slots left at
  room_end left at h = room_none left at (end_none slots at h)

  pub room_here : (left at n : ℕ) → 0 < left → slice_get slots at ≡ Some n → n ≡ 0 → Some at ≡ room slots left at
  unfolding room
  room_here zero at n some is free = absurd (omega (arith, some))
  room_here (suc left) at n some is free = sym (ap (λ o. room_at o at (room slots left (suc at))) (is ∙ ap Some free))

  pub room_next : (left at n : ℕ) → 0 < left → slice_get slots at ≡ Some n → 0 < n → room slots (left - 1) (at + 1) ≡ room slots left at
  unfolding room
  room_next zero at n some is taken = absurd (omega (arith, some))
  room_next (suc left) at zero some is taken = absurd (omega (arith, taken))
  room_next (suc left) at (suc r) some is taken =
      let fewer : suc left - 1 ≡ left = omega arith in
      let next : at + 1 ≡ suc at = omega arith in
      ap (λ k. room slots k (at + 1)) fewer ∙ (ap (room slots left) next ∙ sym (ap (λ o. room_at o at (room slots left (suc at))) is))

  module _ (told : ℕ → Bool) (other : Option ℕ) where
    pub look_zero : (left at : ℕ) → left ≡ 0 → other ≡ look slots told other left at
    unfolding look
    look_zero zero at e = refl
    look_zero (suc left) at e = absurd (omega (arith, e))

    pub look_end : (left at : ℕ) → length slots ≤ at → other ≡ look slots told other left at
    unfolding look
    look_end zero at h = refl
    look_end (suc left) at h = sym (ap (λ o. look_at o told other (look slots told other left (suc at))) (end_none slots at h))

    pub look_free : (left at n : ℕ) → 0 < left → slice_get slots at ≡ Some n → n ≡ 0 → None ≡ look slots told other left at
    unfolding look
    look_free zero at n some is free = absurd (omega (arith, some))
    look_free (suc left) at n some is free = sym (ap (λ o. look_at o told other (look slots told other left (suc at))) (is ∙ ap Some free))

    pub look_told : (left at n : ℕ) → 0 < left → slice_get slots at ≡ Some n → 0 < n → told (n - 1) ≡ true → Some (n - 1) ≡ look slots told other left at
    unfolding look
    look_told zero at n some is taken tell = absurd (omega (arith, some))
    look_told (suc left) at zero some is taken tell = absurd (omega (arith, taken))
    look_told (suc left) at (suc r) some is taken tell =
        let place : suc r - 1 ≡ r = omega arith in
        ap Some place ∙ sym (ap (λ o. look_at o told other (look slots told other left (suc at))) is
        ∙ ap (λ b. cond b (Some r) (look slots told other left (suc at))) (ap told (sym place) ∙ tell))

    pub look_next : (left at n : ℕ) → 0 < left → slice_get slots at ≡ Some n → 0 < n → told (n - 1) ≡ false → look slots told other (left - 1) (at + 1) ≡ look slots told other left at
    unfolding look
    look_next zero at n some is taken tell = absurd (omega (arith, some))
    look_next (suc left) at zero some is taken tell = absurd (omega (arith, taken))
    look_next (suc left) at (suc r) some is taken tell =
        let place : suc r - 1 ≡ r = omega arith in
        let fewer : suc left - 1 ≡ left = omega arith in
        let next : at + 1 ≡ suc at = omega arith in
        ap (λ k. look slots told other k (at + 1)) fewer ∙ (ap (look slots told other left) next
        ∙ sym (ap (λ o. look_at o told other (look slots told other left (suc at))) is
        ∙ ap (λ b. cond b (Some r) (look slots told other left (suc at))) (ap told (sym place) ∙ tell)))

-- the reach is a number that no other proof looks at
pub room_reach : (slots : List ℕ) (start : ℕ) → room slots reach start ≡ room slots 8 start
unfolding reach
room_reach slots start = refl

pub look_reach : (slots : List ℕ) (told : ℕ → Bool) (other : Option ℕ) (start : ℕ) → look slots told other 8 start ≡ look slots told other reach start
unfolding reach
look_reach slots told other start = refl

pub puts_slot : (o : Option ℕ) (slots : List ℕ) (O : List ℕ → Option ℕ) (t : List ℕ) (place at number : ℕ) → o ≡ Some at → number ≡ suc place → Puts o slots O t place (slice_set slots at number) O
puts_slot None slots O t place at number e is = absurd (none_some e)
puts_slot (Some k) slots O t place at number e is =
    (ap (λ n. slice_set slots at n) is ∙ ap (λ j. slice_set slots j (suc place)) (sym (same_some e)), λ q. refl)

pub puts_other : (o : Option ℕ) (slots : List ℕ) (O P : List ℕ → Option ℕ) (t : List ℕ) (place : ℕ) → o ≡ None → ((q : List ℕ) → P q ≡ cond (is_eq (slice_cmp nat_cmp t q)) (Some place) (O q)) → Puts o slots O t place slots P
puts_other None slots O P t place e puts = (refl, puts)
puts_other (Some k) slots O P t place e puts = absurd (none_some (sym e))
