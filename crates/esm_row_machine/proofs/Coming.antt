-- The operation that is next: which place it is, and what is left behind it.
use Rattle.std.proofs.Common.{◌≡◌, ℕ, suc, ◌+◌, nat_eq, Bool, List, [], ◌∷◌, ◌++◌, length, Some, refl, ap, sym, subst, ◌∙◌, arith}
use Rattle.std.proofs.lemmas.List.{reverse-append, append_assoc}
use Rattle.std.specs.Prelude.{reverse, slice_get}
use Rattle.esm_tree.specs.Syntax.{Item}
use Rattle.esm_env.specs.Modules.{Modules}
use Rattle.esm_values.specs.Code.{CodeValue, value_of, values_of}
use Rattle.esm_values.specs.declared.value.Value.{Value}
use Rattle.esm_rewriting.specs.State.{State, Importing}
use Rattle.esm_rows.specs.Rows.{Row, Operation, function_row}
use Rattle.esm_rows.specs.Making.{IsTold}
use Rattle.esm_rows.specs.declared.row.Row as code
use Rattle.esm_rows.specs.declared.op.Op.{Op}
use Rattle.esm_row_laws.specs.Spots.{Spot, Has, Kont, spot_row}
use Rattle.esm_row_laws.specs.Rooms.{HasRoom, OneMore, SpotHasRoom}
use Rattle.esm_row_laws.specs.Settled.{settle}
use Rattle.esm_row_laws.specs.Told.{Told}
use Rattle.esm_row_laws.specs.Endings.{EndsWith}
use Rattle.esm_row_laws.proofs.Settling as settling
use Rattle.esm_row_laws.proofs.Telling as telling
use Rattle.esm_row_laws.proofs.Ending as ending
use Rattle.esm_row_machine.specs.Functions.{Here, Waiter, rounds_at, moved}
use Rattle.esm_row_machine.specs.Stacks.{HasNames, IsLeft, operands_under}
use Rattle.esm_row_machine.specs.Outside.{AllKnown, modules_in, owns_in}
use Rattle.esm_row_machine.specs.Changes.{OperandsAre}
use Rattle.esm_row_machine.specs.Turns.{Stands, LeadsTo, GoesOn, IsRowOf}
use Rattle.esm_row_machine.specs.declared.machine.Frame.{Frame}
use Rattle.esm_row_machine.specs.declared.machine.Machine.{Machine}
use Rattle.esm_row_machine.proofs.Told.{told_at, some_same}
use Rattle.esm_row_machine.proofs.Stays.{same_operands, same_rounds}
use Rattle.esm_row_machine.proofs.Going as going
use Rattle.esm_row_machine.proofs.Going.{IsLawful, values_more}

-- ---- what is left

pub left_part : {tree : ℕ → List Item} {m k : ℕ} {c d : Row} {n : ℕ} → EndsWith c d → IsLeft tree m k d n → (many : ℕ) → many ≡ length c → IsLeft tree m k c many
left_part e l many same = record { code = l.code; there = l.there; ends = ending.both e l.ends; many = same }

pub left_behind : {tree : ℕ → List Item} {m k : ℕ} {p : Operation} {c : Row} {n : ℕ} → IsLeft tree m k (p ∷ c) n → (many : ℕ) → many ≡ length c → IsLeft tree m k c many
left_behind {p = p} {c = c} l many same = left_part (ending.one_more p (ending.itself c)) l many same

pub same_left : {tree : ℕ → List Item} {m k : ℕ} {n : ℕ} (c d : Row) → c ≡ d → IsLeft tree m k c n → IsLeft tree m k d n
same_left {tree = tree} {m = m} {k = k} {n = n} c d e l = subst (λ (r : Row). IsLeft tree m k r n) e l

pub reverse_one : (v : CodeValue) (vs : List CodeValue) → reverse (v ∷ vs) ≡ reverse vs ++ v ∷ []
reverse_one v vs = reverse-append (v ∷ []) vs

-- a value more on the stack
pub one_above : (under : List CodeValue) (v : Value) (vs : List CodeValue) (items : List Value) → values_of items ≡ under ++ reverse vs → values_of (items ++ v ∷ []) ≡ under ++ reverse (value_of v ∷ vs)
one_above under v vs items e =
    values_more items (v ∷ []) ∙ ap (λ us. us ++ value_of v ∷ []) e ∙ append_assoc under (reverse vs) (value_of v ∷ []) ∙ ap (λ us. under ++ us) (sym (reverse_one (value_of v) vs))

-- ---- the value on top

no_snoc : {A : Type 0} (xs : List A) (x : A) → [] ≡ xs ++ x ∷ [] → ⊥
no_snoc [] x e = cc
no_snoc (y ∷ ys) x e = cc

pub snoc_same : {A : Type 0} (xs ys : List A) (x y : A) → xs ++ x ∷ [] ≡ ys ++ y ∷ [] → (xs ≡ ys) × (x ≡ y)
snoc_same [] [] x y e = (refl, cc)
snoc_same [] (b ∷ ys) x y e = let f : [] ≡ ys ++ y ∷ [] = cc in absurd (no_snoc ys y f)
snoc_same (a ∷ xs) [] x y e = let f : xs ++ x ∷ [] ≡ [] = cc in absurd (no_snoc xs x (sym f))
snoc_same (a ∷ xs) (b ∷ ys) x y e =
    let f : xs ++ x ∷ [] ≡ ys ++ y ∷ [] = cc in
    let g : a ≡ b = cc in
    let r = snoc_same xs ys x y f in
    (λ i. g i ∷ r.0 i, r.1)

-- what was taken from the stack is the value on top, and the others are below
pub one_below : (under : List CodeValue) (v : CodeValue) (vs : List CodeValue) (items all : List Value) (u : Value) → values_of all ≡ under ++ reverse (v ∷ vs) → all ≡ items ++ u ∷ []
    → (values_of items ≡ under ++ reverse vs) × (value_of u ≡ v)
one_below under v vs items all u e t =
    snoc_same (values_of items) (under ++ reverse vs) (value_of u) v
    (sym (values_more items (u ∷ [])) ∙ ap values_of (sym t) ∙ e ∙ ap (λ us. under ++ us) (reverse_one v vs) ∙ sym (append_assoc under (reverse vs) (v ∷ [])))

pub top_of : {Room : List CodeValue → Type 0} (vs : List CodeValue) → OneMore Room vs → (v : CodeValue) × (us : List CodeValue) × (vs ≡ v ∷ us) × Room us
top_of [] h = absurd h
top_of (v ∷ us) h = (v, us, refl, h)

-- ---- the operation

module _ {W S : Type 0} (state : W → State ℕ S) (modules : S → Modules ℕ) (linked : S → ℕ → Bool) (begins : Importing ℕ S)
    (Ready : W → Type 0) (Keeps : W → W → Type 0) (owns : S → ℕ → List (List ℕ)) where
  abbrev Tree : W → ℕ → List Item
  Tree w = (modules_in state modules linked begins Ready Keeps w).tree

  abbrev Stand : W → Machine → Frame → ℕ → Here → List Waiter → Type 0
  Stand w s f left h ws = Stands state modules linked begins Ready Keeps owns w s f left h ws

  abbrev Lead : W → Here → W → Here → Type 0
  Lead w h after n = LeadsTo state modules linked begins Ready Keeps owns w h after n

  -- the function is at this place, with these operands, as it was before
  pub record At (w : W) (s : Machine) (f : Frame) (n : ℕ) (h : Here) (ws : List Waiter) (t : Spot) (vs : List CodeValue) : Type 0 where
    pub stand : Stand w s f n (moved h t h.names vs) ws
    pub leads : Lead w h w (moved h t h.names vs)

  -- what is next is this operation of the row, of which this is what is left behind it
  pub record Comes (w : W) (s : Machine) (f : Frame) (left : ℕ) (h : Here) (ws : List Waiter) (texts : List (List ℕ)) (op : Op) : Type 0 where
    pub spot : Spot
    pub operands : List CodeValue
    pub at : At w s f (left + 1) h ws spot operands
    pub operation : Operation
    pub rest : Row
    pub row : spot_row spot ≡ operation ∷ rest
    pub tells : Told operation rest spot
    pub told : IsTold (owns_in state modules linked begins Ready Keeps owns w h.at) texts op operation
    pub many : left ≡ length rest

  settled_at : (w : W) (s : Machine) (f : Frame) (n : ℕ) (h : Here) (ws : List Waiter) → Stand w s f n h ws → At w s f n h ws (settle h.spot h.operands).spot (settle h.spot h.operands).operands
  settled_at w s f n h ws st = record {
    stand = record {
      stands = record {
        below = subst (λ rs. HasNames (Tree w) s f h.at h.function rs h.names ws) (sym (same_rounds h.spot h.operands)) st.stands.below;
        operands = st.stands.operands ∙ ap (λ (vs : List CodeValue). operands_under ws ++ reverse vs) (sym (same_operands h.spot h.operands));
        room = settling.same_room h.spot h.operands st.stands.room;
        place = same_left (spot_row h.spot) (spot_row (settle h.spot h.operands).spot) (sym (settling.same_row h.spot h.operands)) st.stands.place;
      };
      fits = st.fits;
    };
    leads = settling.leads nat_eq modules begins h.at h.names (state w) h.spot h.operands st.stands.room;
  }

  pub comes : (w : W) (s : Machine) (f : Frame) (left : ℕ) (h : Here) (ws : List Waiter) (row : code.Row) (op : Op) → Stand w s f (left + 1) h ws
      → IsRowOf state modules linked begins Ready Keeps owns w h row → slice_get row.ops.items left ≡ Some op → Comes w s f left h ws row.texts.items op
  comes w s f left h ws row op st is at =
      let own = telling.own (settle h.spot h.operands).spot (settling.own h.spot h.operands st.stands.room) in
      let same : spot_row h.spot ≡ own.0 ∷ own.1 = sym (settling.same_row h.spot h.operands) ∙ own.2 in
      let long : left + 1 ≡ suc (length own.1) = st.stands.place.many ∙ ap length same in
      let many : left ≡ length own.1 = omega (arith, long) in
      let code : is.0 ≡ st.stands.place.code = some_same is.0 st.stands.place.code (sym is.1 ∙ st.stands.place.there) in
      let whole : st.stands.place.ends.0 ++ own.0 ∷ own.1 ≡ function_row is.0 = ap (λ r. st.stands.place.ends.0 ++ r) (sym same) ∙ st.stands.place.ends.1 ∙ ap function_row (sym code) in
      record {
        spot = (settle h.spot h.operands).spot;
        operands = (settle h.spot h.operands).operands;
        at = settled_at w s f (left + 1) h ws st;
        operation = own.0;
        rest = own.1;
        row = own.2;
        tells = own.3;
        told = told_at (owns_in state modules linked begins Ready Keeps owns w h.at) row.texts.items row.ops.items (function_row is.0) is.2.told st.stands.place.ends.0 own.1 own.0 op whole
            (ap (λ n. slice_get row.ops.items n) (sym many) ∙ at);
        many = many;
      }

  -- the place is this one
  pub at_spot : (w : W) (s : Machine) (f : Frame) (n : ℕ) (h : Here) (ws : List Waiter) (t u : Spot) (vs : List CodeValue) → t ≡ u → At w s f n h ws t vs → At w s f n h ws u vs
  at_spot w s f n h ws t u vs e a = subst (λ t. At w s f n h ws t vs) e a

  -- a value is on top
  pub record Top (w : W) (s : Machine) (f : Frame) (n : ℕ) (h : Here) (ws : List Waiter) (k : Kont) : Type 0 where
    pub value : CodeValue
    pub below : List CodeValue
    pub at : At w s f n h ws (Has k) (value ∷ below)

  pub top : (w : W) (s : Machine) (f : Frame) (n : ℕ) (h : Here) (ws : List Waiter) (k : Kont) (vs : List CodeValue) → At w s f n h ws (Has k) vs → Top w s f n h ws k
  top w s f n h ws k vs a =
      let t = top_of {Room = HasRoom k} vs a.stand.stands.room in
      record { value = t.0; below = t.1; at = subst (λ (us : List CodeValue). At w s f n h ws (Has k) us) t.2 a }

  -- from there the function goes on, where only operands have changed
  module _ (lawful : IsLawful state modules linked begins Ready Keeps owns) (w : W) (s : Machine) (f : Frame) (h : Here) (ws : List Waiter) where
    pub goes_from : (n : ℕ) (t0 : Spot) (vs0 : List CodeValue) → At w s f n h ws t0 vs0 → (left : ℕ) (t : Spot) (vs : List CodeValue) (late : Machine) (items : List Value)
        → OperandsAre s items late → rounds_at t ≡ rounds_at t0 → values_of items ≡ operands_under ws ++ reverse vs → SpotHasRoom t vs
        → IsLeft (Tree w) h.at h.function (spot_row t) left → AllKnown (going.Known state modules linked begins Ready Keeps owns w) (values_of items)
        → Lead w (moved h t0 h.names vs0) w (moved h t h.names vs) → GoesOn state modules linked begins Ready Keeps owns w f h ws left w late
    goes_from n t0 vs0 a left t vs late items are same e room place known leads =
        let g = going.goes state modules linked begins Ready Keeps owns w s f (moved h t0 h.names vs0) ws late items are lawful n left t vs a.stand same e room place known leads in
        record {
          spot = g.spot;
          vss = g.vss;
          values = g.values;
          stands = g.stands;
          leads = λ cs how end seg. a.leads cs how end (g.leads cs how end seg);
          keeps = g.keeps;
        }
