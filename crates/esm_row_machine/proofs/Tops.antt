-- Several values at the top of the operands.
use Rattle.std.proofs.Common.{◌≡◌, ℕ, zero, suc, ◌+◌, Bool, List, [], ◌∷◌, ◌++◌, length, refl, ap, sym, subst, ◌∙◌, arith}
use Rattle.std.proofs.lemmas.List.{append_assoc, append-nil}
use Rattle.std.specs.Prelude.{reverse}
use Rattle.esm_env.specs.Modules.{Modules}
use Rattle.esm_values.specs.Code.{CodeValue, value_of, values_of}
use Rattle.esm_values.specs.declared.value.Value.{Value}
use Rattle.esm_rewriting.specs.State.{State, Importing}
use Rattle.esm_row_laws.specs.Spots.{Kont, Spot, Has}
use Rattle.esm_row_laws.specs.Rooms.{HasRoom, OneMore, SoMany}
use Rattle.esm_row_laws.specs.Callings.{above}
use Rattle.esm_row_machine.specs.Functions.{Here, Waiter}
use Rattle.esm_row_machine.specs.Stacks.{operands_under}
use Rattle.esm_row_machine.specs.Outside.{AllKnown}
use Rattle.esm_row_machine.specs.declared.machine.Frame.{Frame}
use Rattle.esm_row_machine.specs.declared.machine.Machine.{Machine}
use Rattle.esm_row_machine.proofs.Told.{joined, longer}
use Rattle.esm_row_machine.proofs.Going as going
use Rattle.esm_row_machine.proofs.Going.{values_more, known_front, known_back}
use Rattle.esm_row_machine.proofs.Coming as coming
use Rattle.esm_row_machine.proofs.Coming.{At, one_below, reverse_one, top_of}

-- ---- operands above others

pub above_last : (us : List CodeValue) (v : CodeValue) (vs : List CodeValue) → above (us ++ v ∷ []) vs ≡ v ∷ above us vs
above_last [] v vs = refl
above_last (u ∷ us) v vs = above_last us v (u ∷ vs)

pub reverse_above : (us vs : List CodeValue) → reverse (above us vs) ≡ reverse vs ++ us
reverse_above [] vs = sym (append-nil (reverse vs))
reverse_above (u ∷ us) vs = reverse_above us (u ∷ vs) ∙ ap (λ qs. qs ++ us) (reverse_one u vs) ∙ append_assoc (reverse vs) (u ∷ []) us

-- so many operands, and those below
pub record Many (Room : List CodeValue → Type 0) (n : ℕ) (vs : List CodeValue) : Type 0 where
  pub tops : List CodeValue
  pub below : List CodeValue
  pub is : vs ≡ above tops below
  pub long : length tops ≡ n
  pub room : Room below

pub many_of : {Room : List CodeValue → Type 0} (n : ℕ) (vs : List CodeValue) → SoMany n Room vs → Many Room n vs
many_of zero vs h = record { tops = []; below = vs; is = refl; long = refl; room = h }
many_of (suc n) [] h = absurd h
many_of {Room = Room} (suc n) (v ∷ vs) h =
    let m : Many Room n vs = many_of n vs h in
    record {
      tops = m.tops ++ v ∷ [];
      below = m.below;
      is = ap (λ us. v ∷ us) m.is ∙ sym (above_last m.tops v m.below);
      long = longer m.tops v ∙ ap suc m.long;
      room = m.room;
    }

-- ---- lists

pub same_parts : {A : Type 0} (xs ys us vs : List A) → xs ++ us ≡ ys ++ vs → length us ≡ length vs → (xs ≡ ys) × (us ≡ vs)
same_parts [] [] us vs e h = (refl, e)
same_parts [] (y ∷ ys) us vs e h =
    let a : length us ≡ suc (length (ys ++ vs)) = ap length e in
    let b : length (ys ++ vs) ≡ length ys + length vs = joined ys vs in
    absurd (omega (arith, a, b, h))
same_parts (x ∷ xs) [] us vs e h =
    let a : suc (length (xs ++ us)) ≡ length vs = ap length e in
    let b : length (xs ++ us) ≡ length xs + length us = joined xs us in
    absurd (omega (arith, a, b, h))
same_parts (x ∷ xs) (y ∷ ys) us vs e h =
    let f : xs ++ us ≡ ys ++ vs = cc in
    let g : x ≡ y = cc in
    let r = same_parts xs ys us vs f h in
    (λ i. g i ∷ r.0 i, r.1)

pub as_many : (us : List Value) → length (values_of us) ≡ length us
as_many [] = refl
as_many (u ∷ us) = ap suc (as_many us)

-- what was taken from the stack are the values on top, and the others are below
pub many_below : (under tops below : List CodeValue) (items us all : List Value) → values_of all ≡ under ++ reverse (above tops below) → all ≡ items ++ us → length us ≡ length tops
    → (values_of items ≡ under ++ reverse below) × (values_of us ≡ tops)
many_below under tops below items us all e t long =
    same_parts (values_of items) (under ++ reverse below) (values_of us) tops
    (sym (values_more items us) ∙ ap values_of (sym t) ∙ e ∙ ap (λ qs. under ++ qs) (reverse_above tops below) ∙ sym (append_assoc under (reverse below) tops)) (as_many us ∙ long)

-- ---- of the function that runs

module _ {W S : Type 0} (state : W → State ℕ S) (modules : S → Modules ℕ) (linked : S → ℕ → Bool) (begins : Importing ℕ S)
    (Ready : W → Type 0) (Keeps : W → W → Type 0) (owns : S → ℕ → List (List ℕ)) (w : W) (s : Machine) (f : Frame) (n : ℕ) (h : Here) (ws : List Waiter) where
  abbrev Known : CodeValue → Type 0
  Known u = going.Known state modules linked begins Ready Keeps owns w u

  abbrev Stands : Spot → List CodeValue → Type 0
  Stands t vs = At state modules linked begins Ready Keeps owns w s f n h ws t vs

  -- the two values on top of these operands were taken
  pub record TookTwo (k : Kont) (items : List Value) (u v : Value) : Type 0 where
    pub below : List CodeValue
    pub at : Stands (Has k) (value_of v ∷ value_of u ∷ below)
    pub stacked : values_of items ≡ operands_under ws ++ reverse below
    pub known : AllKnown Known (values_of items)
    pub known_first : Known (value_of u)
    pub known_last : Known (value_of v)

  pub took_two : (k : Kont) (Room : List CodeValue → Type 0) → ((us : List CodeValue) → HasRoom k us → OneMore Room us) → (vs : List CodeValue) → Stands (Has k) vs
      → (items : List Value) (u v : Value) → s.operands.items ≡ items ++ u ∷ v ∷ [] → TookTwo k items u v
  took_two k Room inner vs a items u v e =
      let t = coming.top state modules linked begins Ready Keeps owns w s f n h ws k vs a in
      let b = one_below (operands_under ws) t.value t.below (items ++ u ∷ []) s.operands.items v t.at.stand.stands.operands (e ∙ sym (append_assoc items (u ∷ []) (v ∷ []))) in
      let q = top_of {Room = Room} t.below (inner t.below t.at.stand.stands.room) in
      let lower : values_of (items ++ u ∷ []) ≡ operands_under ws ++ reverse (q.0 ∷ q.1) = b.0 ∙ ap (λ (xs : List CodeValue). operands_under ws ++ reverse xs) q.2 in
      let d = one_below (operands_under ws) q.0 q.1 items (items ++ u ∷ []) u lower refl in
      let all : AllKnown Known (values_of items ++ value_of u ∷ value_of v ∷ []) = subst (λ (us : List CodeValue). AllKnown Known us) (ap values_of e ∙ values_more items (u ∷ v ∷ [])) t.at.stand.fits.operands in
      let tops : AllKnown Known (value_of u ∷ value_of v ∷ []) = known_back Known (values_of items) (value_of u ∷ value_of v ∷ []) all in
      record {
        below = q.1;
        at = subst (λ (xs : List CodeValue). Stands (Has k) (value_of v ∷ xs)) (q.2 ∙ ap (λ (x : CodeValue). x ∷ q.1) (sym d.1)) (subst (λ (x : CodeValue). Stands (Has k) (x ∷ t.below)) (sym b.1) t.at);
        stacked = d.0;
        known = known_front Known (values_of items) (value_of u ∷ value_of v ∷ []) all;
        known_first = tops.0;
        known_last = tops.1.0;
      }

  -- so were these, which are the values of the place on top
  pub record TookMany (tops below : List CodeValue) (items us : List Value) : Type 0 where
    pub stacked : values_of items ≡ operands_under ws ++ reverse below
    pub values : values_of us ≡ tops
    pub known : AllKnown Known (values_of items)
    pub known_tops : AllKnown Known (values_of us)

  pub took_many : (t : Spot) (tops below : List CodeValue) → Stands t (above tops below) → (items us : List Value) → s.operands.items ≡ items ++ us → length us ≡ length tops → TookMany tops below items us
  took_many t tops below a items us e long =
      let b = many_below (operands_under ws) tops below items us s.operands.items a.stand.stands.operands e long in
      let all : AllKnown Known (values_of items ++ values_of us) = subst (λ (qs : List CodeValue). AllKnown Known qs) (ap values_of e ∙ values_more items us) a.stand.fits.operands in
      record {
        stacked = b.0;
        values = b.1;
        known = known_front Known (values_of items) (values_of us) all;
        known_tops = known_back Known (values_of items) (values_of us) all;
      }
