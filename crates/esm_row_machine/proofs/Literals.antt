-- Operations that put a value on top.
use Rattle.std.proofs.Common.{◌≡◌, ℕ, ◌+◌, Bool, List, [], ◌∷◌, ◌++◌, Option, Some, None, refl, sym, subst, ◌∙◌}
use Rattle.std.specs.Borrow.{Bor}
use Rattle.std.specs.Prelude.{slice_get, Result}
use Rattle.esm_tree.specs.Syntax as x
use Rattle.esm_tree.specs.Syntax.{Expr, Item}
use Rattle.esm_env.specs.Modules.{Modules}
use Rattle.esm_values.specs.Code.{CodeValue, value_of, values_of}
use Rattle.esm_values.specs.declared.value.Value.{Value}
use Rattle.esm_values.specs.declared.value.Value.TheVariants as v
use Rattle.esm_rewriting.specs.State.{State, Importing}
use Rattle.esm_rewriting.specs.declared.stop.Stop.{Stop}
use Rattle.esm_rows.specs.declared.op.Op.{Op}
use Rattle.esm_rows.specs.declared.op.Op.TheVariants as op
use Rattle.esm_row_laws.specs.Spots.{Kont, Begins, Has, kont_row, spot_row}
use Rattle.esm_row_laws.specs.Told.{Told}
use Rattle.esm_row_machine.specs.Functions.{Here, Waiter, moved}
use Rattle.esm_row_machine.specs.Stacks.{IsLeft, operands_under}
use Rattle.esm_row_machine.specs.Outside.{AllKnown, modules_in}
use Rattle.esm_row_machine.specs.Changes.{IsTextAt, Put, PutText}
use Rattle.esm_row_machine.specs.Turns.{LeadsTo, Turned}
use Rattle.esm_row_machine.specs.declared.machine.Frame.{Frame}
use Rattle.esm_row_machine.specs.declared.machine.Machine.{Machine}
use Rattle.esm_row_machine.specs.declared.turn.Turn.{Turn}
use Rattle.esm_row_machine.proofs.Told.{some_same}
use Rattle.esm_row_machine.proofs.Going as going
use Rattle.esm_row_machine.proofs.Going.{IsLawful, values_more, known_more}
use Rattle.esm_row_machine.proofs.Coming as coming
use Rattle.esm_row_machine.proofs.Coming.{Comes, left_behind, same_left, one_above}

-- nothing but operands has changed
abbrev pub with_operands : Machine → Machine → Type 0
with_operands s late = (late.names.items ≡ s.names.items) × (late.handlers.items ≡ s.handlers.items) × (late.frames.items ≡ s.frames.items)

module _ {W S : Type 0} (state : W → State ℕ S) (modules : S → Modules ℕ) (linked : S → ℕ → Bool) (begins : Importing ℕ S)
    (Ready : W → Type 0) (Keeps : W → W → Type 0) (owns : S → ℕ → List (List ℕ)) (lawful : IsLawful state modules linked begins Ready Keeps owns)
    (w : W) (s : Machine) (f : Frame) (left : ℕ) (h : Here) (ws : List Waiter) (texts : List (List ℕ)) where
  abbrev Next : Op → Type 0
  Next q = Comes state modules linked begins Ready Keeps owns w s f left h ws texts q

  abbrev Lead : Here → Here → Type 0
  Lead a b = LeadsTo state modules linked begins Ready Keeps owns w a w b

  abbrev Does : Result Turn Stop → Machine → Type 0
  Does result late = Turned state modules linked begins Ready Keeps owns w f h ws result w late

  abbrev Known : CodeValue → Type 0
  Known u = going.Known state modules linked begins Ready Keeps owns w u

  abbrev Tree : ℕ → List Item
  Tree = (modules_in state modules linked begins Ready Keeps w).tree

  -- what is left behind the operation
  pub rest_left : {q : Op} (c : Next q) → IsLeft Tree h.at h.function c.rest left
  rest_left c = left_behind (same_left (spot_row c.spot) (c.operation ∷ c.rest) c.row c.at.stand.stands.place) left c.many

  pub puts : {q : Op} (c : Next q) (e : Expr) (k : Kont) (u : Value) → c.spot ≡ Begins e k → kont_row k ≡ c.rest → Known (value_of u)
      → Lead (moved h (Begins e k) h.names c.operands) (moved h (Has k) h.names (value_of u ∷ c.operands)) → (late : Machine) → with_operands s late → (result : Result Turn Stop)
      → Put s.operands.items u left result late.operands.items → Does result late
  puts c e k u is row known leads late same result p =
      let a = coming.at_spot state modules linked begins Ready Keeps owns w s f (left + 1) h ws c.spot (Begins e k) c.operands is c.at in
      going.put_turns state modules linked begins Ready Keeps owns w s f h ws u left late
      (λ are. coming.goes_from state modules linked begins Ready Keeps owns lawful w s f h ws (left + 1) (Begins e k) c.operands a left (Has k) (value_of u ∷ c.operands) late (s.operands.items ++ u ∷ [])
      are refl (one_above (operands_under ws) u c.operands s.operands.items a.stand.stands.operands) a.stand.stands.room (same_left c.rest (kont_row k) (sym row) (rest_left c))
      (subst (λ (us : List CodeValue). AllKnown Known us) (sym (values_more s.operands.items (u ∷ []))) (known_more Known (values_of s.operands.items) (value_of u ∷ []) a.stand.fits.operands (known, tt))) leads)
      same result p

  pub truth : (b : Bool) (c : Next (op.Truth b)) (late : Machine) → with_operands s late → (result : Result Turn Stop) → Put s.operands.items (v.Bool b) left result late.operands.items → Does result late
  truth b c late same result p =
      let t = subst (λ o. Told o c.rest c.spot) c.told c.tells in
      puts c (x.Truth b) t.0 (v.Bool b) t.1 t.2 tt (λ cs how end seg. seg) late same result p

  pub undefined : (c : Next op.Undefined) (late : Machine) → with_operands s late → (result : Result Turn Stop) → Put s.operands.items v.Undefined left result late.operands.items → Does result late
  undefined c late same result p =
      let t = subst (λ o. Told o c.rest c.spot) c.told c.tells in
      puts c x.Undefined t.0 v.Undefined t.1 t.2 tt (λ cs how end seg. seg) late same result p

  pub text : (k : ℕ) (t : List ℕ) (c : Next (op.Text k)) → slice_get texts k ≡ Some t → (late : Machine) → with_operands s late → (result : Result Turn Stop) → Put s.operands.items (v.Text t) left result late.operands.items → Does result late
  text k t c e late same result p =
      let is = some_same c.told.0 t (sym c.told.1 ∙ e) in
      let told = subst (λ o. Told o c.rest c.spot) c.told.2 c.tells in
      let at = subst (λ (u : List ℕ). (q : Kont) × (c.spot ≡ Begins (x.Text u) q) × (kont_row q ≡ c.rest)) is told in
      puts c (x.Text t) at.0 (v.Text t) at.1 at.2 tt (λ cs how end seg. seg) late same result p

  pub text_told : (k : ℕ) (c : Next (op.Text k)) (told : Option (Bor (List ℕ))) → IsTextAt texts k told → (late : Machine) → with_operands s late → (result : Result Turn Stop) → PutText s.operands.items told left result late.operands.items → Does result late
  text_told k c None at late same result p = subst (λ (r : Result Turn Stop). Does r late) (sym p) tt
  text_told k c (Some t) at late same result p = text k t.now c at late same result p
