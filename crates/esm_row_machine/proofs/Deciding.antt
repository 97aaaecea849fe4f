-- Operations that take the values on top and ask nothing.
use Rattle.std.proofs.Common.{◌≡◌, ℕ, ◌+◌, Bool, true, false, List, [], ◌∷◌, ◌++◌, length, refl, ap, sym, subst, ◌∙◌}
use Rattle.std.specs.Prelude.{not, reverse, Result, Ok, Err}
use Rattle.esm_tree.specs.Syntax.{Expr, Exprs, more, Item}
use Rattle.esm_env.specs.Modules.{Modules}
use Rattle.esm_values.specs.Operators.{look_of, is_true}
use Rattle.esm_values.specs.Code.{CodeValue, value_of, values_of}
use Rattle.esm_values.specs.declared.value.Value.{Value}
use Rattle.esm_values.specs.declared.value.Value.TheVariants as v
use Rattle.esm_rewriting.specs.Rest.{Use as purposes}
use Rattle.esm_rewriting.specs.State.{State, Importing}
use Rattle.esm_rewriting.specs.declared.stop.Stop.{Stop}
use Rattle.esm_rewriting.specs.declared.stop.Stop.TheVariants as stops
use Rattle.esm_rows.specs.Rows.{expr_row}
use Rattle.esm_rows.specs.declared.op.Op.{Op}
use Rattle.esm_rows.specs.declared.op.Op.TheVariants as op
use Rattle.esm_row_laws.specs.Spots.{Left, Round, Kont, Uses, Ors, Ands, Turns, Spot, Begins, Has, Between, kont_names, left_row, kont_row, spot_row}
use Rattle.esm_row_laws.specs.Rooms.{HasRoom, SpotHasRoom}
use Rattle.esm_row_laws.specs.Told.{Told}
use Rattle.esm_row_laws.proofs.Operating as operating
use Rattle.esm_row_laws.proofs.Ending as ending
use Rattle.esm_row_machine.specs.Functions.{Here, Waiter, rounds_at, moved}
use Rattle.esm_row_machine.specs.Stacks.{IsLeft, operands_under}
use Rattle.esm_row_machine.specs.Outside.{AllKnown, modules_in}
use Rattle.esm_row_machine.specs.Changes.{OperandsAre, GoesWith, Put, Popped, Decides}
use Rattle.esm_row_machine.specs.Turns.{LeadsTo, GoesOn, Turned}
use Rattle.esm_row_machine.specs.declared.machine.Frame.{Frame}
use Rattle.esm_row_machine.specs.declared.machine.Machine.{Machine}
use Rattle.esm_row_machine.specs.declared.turn.Turn.{Turn}
use Rattle.esm_row_machine.proofs.Going as going
use Rattle.esm_row_machine.proofs.Going.{IsLawful, values_more, known_more, known_front}
use Rattle.esm_row_machine.proofs.Coming as coming
use Rattle.esm_row_machine.proofs.Coming.{Comes, At, left_part, same_left, one_above, one_below}
use Rattle.esm_row_machine.proofs.Literals as literals
use Rattle.esm_row_machine.proofs.Literals.{with_operands}

module _ {W S : Type 0} (state : W → State ℕ S) (modules : S → Modules ℕ) (linked : S → ℕ → Bool) (begins : Importing ℕ S)
    (Ready : W → Type 0) (Keeps : W → W → Type 0) (owns : S → ℕ → List (List ℕ)) (lawful : IsLawful state modules linked begins Ready Keeps owns)
    (w : W) (s : Machine) (f : Frame) (left : ℕ) (h : Here) (ws : List Waiter) (texts : List (List ℕ)) where
  abbrev Next : Op → Type 0
  Next q = Comes state modules linked begins Ready Keeps owns w s f left h ws texts q

  abbrev Lead : Here → Here → Type 0
  Lead a b = LeadsTo state modules linked begins Ready Keeps owns w a w b

  abbrev Does : Result Turn Stop → Machine → Type 0
  Does result late = Turned state modules linked begins Ready Keeps owns w f h ws result w late

  abbrev Known : CodeValue → Type 0
  Known u = going.Known state modules linked begins Ready Keeps owns w u

  abbrev Tree : ℕ → List Item
  Tree = (modules_in state modules linked begins Ready Keeps w).tree

  abbrev Stands : Spot → List CodeValue → Type 0
  Stands t vs = At state modules linked begins Ready Keeps owns w s f (left + 1) h ws t vs

  pub rest_left : {q : Op} (c : Next q) → IsLeft Tree h.at h.function c.rest left
  rest_left c = literals.rest_left state modules linked begins Ready Keeps owns lawful w s f left h ws texts c

  -- the value on top of these operands was taken
  pub record Took (k : Kont) (items : List Value) (u : Value) : Type 0 where
    pub below : List CodeValue
    pub at : Stands (Has k) (value_of u ∷ below)
    pub values : values_of items ≡ operands_under ws ++ reverse below
    pub known : AllKnown Known (values_of items)
    pub known_top : Known (value_of u)

  pub took : (k : Kont) (vs : List CodeValue) → Stands (Has k) vs → (items : List Value) (u : Value) → s.operands.items ≡ items ++ u ∷ [] → Took k items u
  took k vs a items u e =
      let t = coming.top state modules linked begins Ready Keeps owns w s f (left + 1) h ws k vs a in
      let b = one_below (operands_under ws) t.value t.below items s.operands.items u t.at.stand.stands.operands e in
      let all : AllKnown Known (values_of items ++ value_of u ∷ []) = subst (λ (us : List CodeValue). AllKnown Known us) (ap values_of e ∙ values_more items (u ∷ [])) t.at.stand.fits.operands in
      record {
        below = t.below;
        at = subst (λ (q : CodeValue). Stands (Has k) (q ∷ t.below)) (sym b.1) t.at;
        values = b.0;
        known = known_front Known (values_of items) (value_of u ∷ []) all;
        known_top = (going.known_back Known (values_of items) (value_of u ∷ []) all).0;
      }

  -- the function goes on with the operands below
  pub goes_below : (k : Kont) (items : List Value) (u : Value) (t : Took k items u) (n : ℕ) (to : Spot) (late : Machine) → OperandsAre s items late → rounds_at to ≡ rounds_at (Has k) → SpotHasRoom to t.below
      → IsLeft Tree h.at h.function (spot_row to) n → Lead (moved h (Has k) h.names (value_of u ∷ t.below)) (moved h to h.names t.below) → GoesOn state modules linked begins Ready Keeps owns w f h ws n w late
  goes_below k items u t n to late are same room place leads =
      coming.goes_from state modules linked begins Ready Keeps owns lawful w s f h ws (left + 1) (Has k) (value_of u ∷ t.below) t.at n to t.below late items are same t.values room place t.known leads

  -- the function goes on with this value above them
  pub goes_above : (k : Kont) (items : List Value) (u : Value) (t : Took k items u) (n : ℕ) (to : Kont) (q : Value) (late : Machine) → OperandsAre s (items ++ q ∷ []) late → rounds_at (Has to) ≡ rounds_at (Has k) → HasRoom to t.below
      → Known (value_of q) → IsLeft Tree h.at h.function (kont_row to) n → Lead (moved h (Has k) h.names (value_of u ∷ t.below)) (moved h (Has to) h.names (value_of q ∷ t.below))
      → GoesOn state modules linked begins Ready Keeps owns w f h ws n w late
  goes_above k items u t n to q late are same room known place leads =
      coming.goes_from state modules linked begins Ready Keeps owns lawful w s f h ws (left + 1) (Has k) (value_of u ∷ t.below) t.at n (Has to) (value_of q ∷ t.below) late (items ++ q ∷ []) are same
      (one_above (operands_under ws) q t.below items t.values) room place
      (subst (λ (us : List CodeValue). AllKnown Known us) (sym (values_more items (q ∷ []))) (known_more Known (values_of items) (value_of q ∷ []) t.known (known, tt))) leads

  -- where the value on top was taken first
  pub popped : (k : Kont) (vs : List CodeValue) → Stands (Has k) vs → (late : Machine) (P : List Value → Value → Result Turn Stop → Type 0)
      → ((items : List Value) (u : Value) → Took k items u → (result : Result Turn Stop) → P items u result → Does result late) → (result : Result Turn Stop) → Popped s.operands.items P result → Does result late
  popped k vs a late P on (Ok t) p = on p.0 p.1 (took k vs a p.0 p.1 p.2) (Ok t) p.3
  popped k vs a late P on (Err (stops.Limit why)) p = on p.0 p.1 (took k vs a p.0 p.1 p.2) (Err (stops.Limit why)) p.3
  popped k vs a late P on (Err stops.Memory) p = tt

  pub at_spot : {q : Op} (c : Next q) (t : Spot) → c.spot ≡ t → Stands t c.operands
  at_spot c t e = coming.at_spot state modules linked begins Ready Keeps owns w s f (left + 1) h ws c.spot t c.operands e c.at

  -- ---- a value is dropped

  pub drop : (c : Next op.Drop) (late : Machine) → with_operands s late → (result : Result Turn Stop)
      → Popped s.operands.items (λ items u r. GoesWith items left r late.operands.items) result → Does result late
  drop c late same result p =
      let t = subst (λ o. Told o c.rest c.spot) c.told c.tells in
      popped (Uses purposes.Drops t.0 t.1) c.operands (at_spot c (Has (Uses purposes.Drops t.0 t.1)) t.2) late (λ items u r. GoesWith items left r late.operands.items)
      (λ items u k r q. going.with_turns state modules linked begins Ready Keeps owns w s f h ws items left late
      (λ are. goes_below (Uses purposes.Drops t.0 t.1) items u k left (Between t.0 t.1) late are refl k.at.stand.stands.room (same_left c.rest (left_row t.0 t.1) (sym t.3) (rest_left c))
      (dropped t.0 t.1 u k.below k.at.stand.stands.room)) same r q) result p
    where
      dropped : (l : Left) (rs : List Round) (u : Value) (vs : List CodeValue) → vs ≡ [] → Lead (moved h (Has (Uses purposes.Drops l rs)) h.names (value_of u ∷ vs)) (moved h (Between l rs) h.names vs)
      dropped l rs u vs e = subst (λ (us : List CodeValue). Lead (moved h (Has (Uses purposes.Drops l rs)) h.names (value_of u ∷ us)) (moved h (Between l rs) h.names us)) (sym e)
          (operating.drops modules begins h.at (state w) l rs h.names (value_of u))

  -- ---- `!`

  pub turn_over : (c : Next op.Not) (late : Machine) → with_operands s late → (result : Result Turn Stop)
      → Popped s.operands.items (λ items u r. Put items (v.Bool (not (is_true (look_of (value_of u))))) left r late.operands.items) result → Does result late
  turn_over c late same result p =
      let t = subst (λ o. Told o c.rest c.spot) c.told c.tells in
      popped (Turns t.0) c.operands (at_spot c (Has (Turns t.0)) t.1) late (λ items u r. Put items (v.Bool (not (is_true (look_of (value_of u))))) left r late.operands.items)
      (λ items u k r q. going.with_turns state modules linked begins Ready Keeps owns w s f h ws (items ++ v.Bool (not (is_true (look_of (value_of u)))) ∷ []) left late
      (λ are. goes_above (Turns t.0) items u k left t.0 (v.Bool (not (is_true (look_of (value_of u))))) late are refl k.at.stand.stands.room tt (same_left c.rest (kont_row t.0) (sym t.2) (rest_left c))
      (operating.turns modules begins h.at (state w) t.0 h.names (value_of u) k.below k.at.stand.stands.room)) same r q) result p

  -- ---- `||` and `&&`

  pub or_else : (skip : ℕ) (c : Next (op.OrElse skip)) (late : Machine) → with_operands s late → (result : Result Turn Stop)
      → Popped s.operands.items (λ items u r. Decides (is_true (look_of (value_of u))) items u skip left r late.operands.items) result → Does result late
  or_else skip c late same result p =
      let t = subst (λ o. Told o c.rest c.spot) c.told c.tells in
      popped (Ors (more t.0 t.1) t.2) c.operands (at_spot c (Has (Ors (more t.0 t.1) t.2)) t.3) late (λ items u r. Decides (is_true (look_of (value_of u))) items u skip left r late.operands.items)
      (λ items u k r q. by t.0 t.1 t.2 t.4 t.5 items u k (is_true (look_of (value_of u))) refl r q) result p
    where
      by : (e : Expr) (es : Exprs) (k : Kont) → length (kont_row k) ≡ skip → expr_row (kont_names k) e (kont_row (Ors es k)) ≡ c.rest → (items : List Value) (u : Value) → Took (Ors (more e es) k) items u
          → (b : Bool) → is_true (look_of (value_of u)) ≡ b → (r : Result Turn Stop) → Decides b items u skip left r late.operands.items → Does r late
      by e es k len row items u t true is r q =
          going.with_turns state modules linked begins Ready Keeps owns w s f h ws (items ++ u ∷ []) skip late
          (λ are. goes_above (Ors (more e es) k) items u t skip k u late are refl t.at.stand.stands.room t.known_top
          (left_part (ending.or_else e es k) (same_left c.rest (expr_row (kont_names k) e (kont_row (Ors es k))) (sym row) (rest_left c)) skip (sym len))
          (operating.or_stays modules begins h.at (state w) e es k h.names (value_of u) t.below t.at.stand.stands.room is)) same r q
      by e es k len row items u t false is r q =
          going.with_turns state modules linked begins Ready Keeps owns w s f h ws items left late
          (λ are. goes_below (Ors (more e es) k) items u t left (Begins e (Ors es k)) late are refl t.at.stand.stands.room
          (same_left c.rest (expr_row (kont_names k) e (kont_row (Ors es k))) (sym row) (rest_left c))
          (operating.or_goes modules begins h.at (state w) e es k h.names (value_of u) t.below t.at.stand.stands.room is)) same r q

  pub and_also : (skip : ℕ) (c : Next (op.AndAlso skip)) (late : Machine) → with_operands s late → (result : Result Turn Stop)
      → Popped s.operands.items (λ items u r. Decides (not (is_true (look_of (value_of u)))) items u skip left r late.operands.items) result → Does result late
  and_also skip c late same result p =
      let t = subst (λ o. Told o c.rest c.spot) c.told c.tells in
      popped (Ands (more t.0 t.1) t.2) c.operands (at_spot c (Has (Ands (more t.0 t.1) t.2)) t.3) late (λ items u r. Decides (not (is_true (look_of (value_of u)))) items u skip left r late.operands.items)
      (λ items u k r q. by t.0 t.1 t.2 t.4 t.5 items u k (is_true (look_of (value_of u))) refl r q) result p
    where
      by : (e : Expr) (es : Exprs) (k : Kont) → length (kont_row k) ≡ skip → expr_row (kont_names k) e (kont_row (Ands es k)) ≡ c.rest → (items : List Value) (u : Value) → Took (Ands (more e es) k) items u
          → (b : Bool) → is_true (look_of (value_of u)) ≡ b → (r : Result Turn Stop) → Decides (not b) items u skip left r late.operands.items → Does r late
      by e es k len row items u t false is r q =
          going.with_turns state modules linked begins Ready Keeps owns w s f h ws (items ++ u ∷ []) skip late
          (λ are. goes_above (Ands (more e es) k) items u t skip k u late are refl t.at.stand.stands.room t.known_top
          (left_part (ending.and_also e es k) (same_left c.rest (expr_row (kont_names k) e (kont_row (Ands es k))) (sym row) (rest_left c)) skip (sym len))
          (operating.and_stays modules begins h.at (state w) e es k h.names (value_of u) t.below t.at.stand.stands.room is)) same r q
      by e es k len row items u t true is r q =
          going.with_turns state modules linked begins Ready Keeps owns w s f h ws items left late
          (λ are. goes_below (Ands (more e es) k) items u t left (Begins e (Ands es k)) late are refl t.at.stand.stands.room
          (same_left c.rest (expr_row (kont_names k) e (kont_row (Ands es k))) (sym row) (rest_left c))
          (operating.and_goes modules begins h.at (state w) e es k h.names (value_of u) t.below t.at.stand.stands.room is)) same r q
