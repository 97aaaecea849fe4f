-- An assignment of a name that the function doesn't declare: it is its module's.
use Rattle.std.proofs.Common.{◌≡◌, ℕ, ◌+◌, Bool, List, [], ◌∷◌, ◌++◌, Option, Some, None, refl, ap, sym, subst, ◌∙◌}
use Rattle.std.proofs.lemmas.List.{append-nil}
use Rattle.std.specs.Prelude.{reverse, Result, Ok, Err}
use Rattle.std.specs.Borrow.{Bor}
use Rattle.esm_tree.specs.Syntax.{Item}
use Rattle.esm_env.specs.Modules.{Modules}
use Rattle.esm_values.specs.Code.{CodeValue, value_of, values_of, numbered}
use Rattle.esm_values.specs.declared.value.Value.{Value}
use Rattle.esm_expr_eval.specs.Terms.Term.{Val}
use Rattle.esm_rewriting.specs.Rest.{Use as purposes}
use Rattle.esm_rewriting.specs.Rest.{more}
use Rattle.esm_rewriting.specs.Rest.Part.{Does as does}
use Rattle.esm_rewriting.specs.State.{State, Importing}
use Rattle.esm_rewriting.specs.declared.stop.Stop.{Stop}
use Rattle.esm_rewriting.specs.declared.stop.Stop.TheVariants as stops
use Rattle.esm_rows.specs.Rows.{found_in}
use Rattle.esm_rows.specs.Rows.{Operation as o}
use Rattle.esm_rows.specs.declared.op.Op.{Op}
use Rattle.esm_rows.specs.declared.op.Op.TheVariants as op
use Rattle.esm_row_laws.specs.Spots.{Left, Round, names_of, Uses, Has, Between, left_row}
use Rattle.esm_row_laws.specs.Remaining.{left_rest}
use Rattle.esm_row_laws.specs.Told.{Told}
use Rattle.esm_row_laws.proofs.Assigning as assigning
use Rattle.esm_row_machine.specs.Functions.{Here, Waiter}
use Rattle.esm_row_machine.specs.Stacks.{IsLeft, operands_under}
use Rattle.esm_row_machine.specs.Outside.{AllKnown, Writes, modules_in}
use Rattle.esm_row_machine.specs.Changes.{IsTextAt, Popped, GoesWith, Threw}
use Rattle.esm_row_machine.specs.Asking.{WithName, HeardWrite, Wrote}
use Rattle.esm_row_machine.specs.Turns.{GoesOn, ThrowsHere, Turned}
use Rattle.esm_row_machine.specs.declared.machine.Frame.{Frame}
use Rattle.esm_row_machine.specs.declared.machine.Machine.{Machine}
use Rattle.esm_row_machine.specs.declared.turn.Turn.{Turn}
use Rattle.esm_row_machine.specs.declared.turn.Turn.TheVariants as turn
use Rattle.esm_row_machine.proofs.Going as going
use Rattle.esm_row_machine.proofs.Going.{IsLawful}
use Rattle.esm_row_machine.proofs.Coming.{Comes, At, same_left}
use Rattle.esm_row_machine.proofs.Literals.{with_operands}
use Rattle.esm_row_machine.proofs.Deciding as deciding
use Rattle.esm_row_machine.proofs.Asked as asked
use Rattle.esm_row_machine.proofs.Changed as changed

module _ {W S : Type 0} (state : W → State ℕ S) (modules : S → Modules ℕ) (linked : S → ℕ → Bool) (begins : Importing ℕ S)
    (Ready : W → Type 0) (Keeps : W → W → Type 0) (owns : S → ℕ → List (List ℕ)) (lawful : IsLawful state modules linked begins Ready Keeps owns)
    (w : W) (s : Machine) (f : Frame) (left : ℕ) (h : Here) (ws : List Waiter) (texts : List (List ℕ)) where
  abbrev Next : Op → Type 0
  Next q = Comes state modules linked begins Ready Keeps owns w s f left h ws texts q

  abbrev Comes_to : Result Turn Stop → W → Machine → Type 0
  Comes_to result after late = Turned state modules linked begins Ready Keeps owns w f h ws result after late

  abbrev Tree : ℕ → List Item
  Tree = (modules_in state modules linked begins Ready Keeps w).tree

  abbrev Known : W → CodeValue → Type 0
  Known v u = going.Known state modules linked begins Ready Keeps owns v u

  abbrev SaysWrite : W → ℕ → List ℕ → Value → Result (Option Value) Stop → Type 0
  SaysWrite after m name u told = Writes state modules linked begins Ready Keeps w m name (value_of u) told after

  -- the place, with the value that is written on top, and no operand below
  abbrev Stands : List ℕ → Left → List Round → Value → Type 0
  Stands name l rs u = At state modules linked begins Ready Keeps owns w s f (left + 1) h ws (Has (Uses (purposes.Writes name) l rs)) (value_of u ∷ [])

  module _ (name : List ℕ) (l : Left) (rs : List Round) (u : Value) (a : Stands name l rs u) (items : List Value) (stacked : values_of items ≡ operands_under ws) (known : AllKnown (Known w) (values_of items)) (knows : Known w (value_of u))
      (none : found_in (names_of rs) name ≡ None) (there : IsLeft Tree h.at h.function (left_row l rs) left) (after : W) (late : Machine) (same : with_operands s late) where
    no_more : values_of items ≡ operands_under ws ++ reverse []
    no_more = stacked ∙ sym (append-nil (operands_under ws))

    went : Keeps w after → late.operands.items ≡ items → SaysWrite after h.at name u (Ok None) → GoesOn state modules linked begins Ready Keeps owns w f h ws left after late
    went keeps e says =
        let p = says a.stand.fits.is_ready a.stand.fits.home knows in
        changed.goes_on state modules linked begins Ready Keeps owns lawful w s f (left + 1) h ws (Has (Uses (purposes.Writes name) l rs)) (value_of u ∷ []) a after keeps late same left (Between l rs) [] items e refl no_more refl there p.2.is_ready
        (changed.known_after state modules linked begins Ready Keeps owns lawful w s f (left + 1) h ws (Has (Uses (purposes.Writes name) l rs)) (value_of u ∷ []) a after keeps late same (values_of items) known)
        (assigning.others modules begins h.at l (state w) name (value_of u) rs h.names (state after) None a.stand.stands.below.fit none p.0)

    threw : (v : Value) → Keeps w after → late.operands.items ≡ items → SaysWrite after h.at name u (Ok (Some v)) → ThrowsHere state modules linked begins Ready Keeps owns w f h ws (value_of v) after late
    threw v keeps e says =
        let p = says a.stand.fits.is_ready a.stand.fits.home knows in
        changed.throws state modules linked begins Ready Keeps owns lawful w s f (left + 1) h ws (Has (Uses (purposes.Writes name) l rs)) (value_of u ∷ []) a after keeps late same rs
        (more (does (purposes.Writes name) (Val (value_of u))) (left_rest numbered l)) (value_of v) [] items e refl (stacked ∙ sym (append-nil (operands_under ws)))
        (asked.round_left state modules linked begins Ready Keeps owns lawful w s f left h ws texts (Uses (purposes.Writes name) l rs) (left + 1) a.stand.stands.place) p.2.is_ready
        (changed.known_after state modules linked begins Ready Keeps owns lawful w s f (left + 1) h ws (Has (Uses (purposes.Writes name) l rs)) (value_of u ∷ []) a after keeps late same (values_of items) known) p.1 refl
        (assigning.others modules begins h.at l (state w) name (value_of u) rs h.names (state after) (Some (value_of v)) a.stand.stands.below.fit none p.0)

    kept : (told : Option Value) → SaysWrite after h.at name u (Ok told) → Keeps w after
    kept told says = (says a.stand.fits.is_ready a.stand.fits.home knows).2.keeps

    goes_on : SaysWrite after h.at name u (Ok None) → (result : Result Turn Stop) → GoesWith items left result late.operands.items → Comes_to result after late
    goes_on says (Ok (turn.On n)) p = subst (λ q. GoesOn state modules linked begins Ready Keeps owns w f h ws q after late) (sym p.0) (went (kept None says) p.1 says)
    goes_on says (Ok (turn.Calls count n)) p = absurd p
    goes_on says (Ok (turn.Returns v)) p = absurd p
    goes_on says (Ok (turn.Throws v)) p = absurd p
    goes_on says (Err (stops.Limit why)) p = absurd p
    goes_on says (Err stops.Memory) p = tt

    throws : (v : Value) → SaysWrite after h.at name u (Ok (Some v)) → (result : Result Turn Stop) → Threw items v result late.operands.items → Comes_to result after late
    throws v says (Ok (turn.On n)) p = absurd p
    throws v says (Ok (turn.Calls count n)) p = absurd p
    throws v says (Ok (turn.Returns q)) p = absurd p
    throws v says (Ok (turn.Throws q)) p = subst (λ (r : Value). ThrowsHere state modules linked begins Ready Keeps owns w f h ws (value_of r) after late) (sym p.0) (threw v (kept (Some v) says) p.1 says)
    throws v says (Err (stops.Limit why)) p = absurd p
    throws v says (Err stops.Memory) p = tt

    wrote : (told : Result (Option Value) Stop) → SaysWrite after h.at name u told → (result : Result Turn Stop) → Wrote items told left result late.operands.items → Comes_to result after late
    wrote (Ok None) says result p = goes_on says result p
    wrote (Ok (Some v)) says result p = throws v says result p
    wrote (Err (stops.Limit why)) says result p = absurd says
    wrote (Err stops.Memory) says result p = subst (λ (r : Result Turn Stop). Comes_to r after late) (sym p) tt

  abbrev SaysAssign : W → Machine → ℕ → List ℕ → List Value → Value → Result Turn Stop → Type 0
  SaysAssign after late m name items u r = HeardWrite items (λ told. SaysWrite after m name u told) left r late.operands.items

  assigns : {q : Op} (c : Next q) (name : List ℕ) → Told (o.WriteName name) c.rest c.spot → (after : W) (late : Machine) → with_operands s late → (result : Result Turn Stop)
      → Popped s.operands.items (SaysAssign after late h.at name) result → Comes_to result after late
  assigns c name t after late same result p =
      asked.from_one state modules linked begins Ready Keeps owns lawful w s f left h ws texts (Uses (purposes.Writes name) t.0 t.1) c.operands
      (asked.at_spot state modules linked begins Ready Keeps owns lawful w s f left h ws texts c (Has (Uses (purposes.Writes name) t.0 t.1)) t.2) after late (SaysAssign after late h.at name)
      (λ items u k r q. by t.0 t.1 t.3 t.4 items u k r q) result p
    where
      by : (l : Left) (rs : List Round) → found_in (names_of rs) name ≡ None → left_row l rs ≡ c.rest → (items : List Value) (u : Value)
          → deciding.Took state modules linked begins Ready Keeps owns lawful w s f left h ws texts (Uses (purposes.Writes name) l rs) items u → (r : Result Turn Stop) → SaysAssign after late h.at name items u r → Comes_to r after late
      by l rs none row items u k r q =
          let empty : k.below ≡ [] = k.at.stand.stands.room in
          wrote name l rs u (subst (λ (vs : List CodeValue). At state modules linked begins Ready Keeps owns w s f (left + 1) h ws (Has (Uses (purposes.Writes name) l rs)) (value_of u ∷ vs)) empty k.at) items
          (k.values ∙ ap (λ (vs : List CodeValue). operands_under ws ++ reverse vs) empty ∙ append-nil (operands_under ws)) k.known k.known_top none
          (same_left c.rest (left_row l rs) (sym row) (asked.rest_left state modules linked begins Ready Keeps owns lawful w s f left h ws texts c)) after late same q.told q.says r q.wrote

  pub write_name : (k : ℕ) (c : Next (op.WriteName k)) (name : Option (Bor (List ℕ))) → IsTextAt texts k name → (after : W) (late : Machine) → with_operands s late → (result : Result Turn Stop)
      → WithName name (λ t. Popped s.operands.items (SaysAssign after late f.at.0 t) result) result → Comes_to result after late
  write_name k c None at after late same result p = subst (λ (r : Result Turn Stop). Comes_to r after late) (sym p) tt
  write_name k c (Some name) at after late same result p =
      assigns c name.now (asked.named state modules linked begins Ready Keeps owns lawful w s f left h ws texts c (λ t. o.WriteName t) k c.told name.now at) after late same result
      (subst (λ (m : ℕ). Popped s.operands.items (SaysAssign after late m name.now) result) c.at.stand.stands.below.frame.home p)
