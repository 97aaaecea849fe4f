-- Two values are compared; one of two branches begins.
use Rattle.std.proofs.Common.{◌≡◌, ℕ, ◌+◌, nat_eq, Bool, true, false, List, [], ◌∷◌, ◌++◌, length, refl, ap, sym, subst, ◌∙◌}
use Rattle.std.specs.Prelude.{reverse, Result, Ok, Err}
use Rattle.std.proofs.lemmas.List.{append_assoc}
use Rattle.esm_tree.specs.Syntax.{Compared, Stmts}
use Rattle.esm_env.specs.Declarations.{declared_in}
use Rattle.esm_env.specs.Modules.{Modules}
use Rattle.esm_values.specs.Value.{same_value}
use Rattle.esm_values.specs.Operators.{look_of, is_true}
use Rattle.esm_values.specs.Operators.{compare as compare_by}
use Rattle.esm_values.specs.Code.{CodeValue, value_of, values_of}
use Rattle.esm_values.specs.declared.value.Value.{Value}
use Rattle.esm_values.specs.declared.value.Value.TheVariants as v
use Rattle.esm_rewriting.specs.Rest.{Use as purposes}
use Rattle.esm_rewriting.specs.State.{State, Importing}
use Rattle.esm_rewriting.specs.declared.stop.Stop.{Stop}
use Rattle.esm_rewriting.specs.declared.stop.Stop.TheVariants as stops
use Rattle.esm_rows.specs.Rows.{Row, block_row, stmts_row}
use Rattle.esm_rows.specs.declared.op.Op.{Op}
use Rattle.esm_rows.specs.declared.op.Op.TheVariants as op
use Rattle.esm_row_laws.specs.Spots.{Left, Round, Kont, Uses, Equals, Compares, Plainly, Firstly, Spot, Has, Opens, names_of, whole_row, left_row, kont_row}
use Rattle.esm_row_laws.specs.Rooms.{HasRoom}
use Rattle.esm_row_laws.specs.Told.{Told}
use Rattle.esm_row_laws.proofs.Operating as operating
use Rattle.esm_row_laws.proofs.Ending as ending
use Rattle.esm_row_machine.specs.Functions.{Here, Waiter, moved}
use Rattle.esm_row_machine.specs.Stacks.{operands_under}
use Rattle.esm_row_machine.specs.Outside.{AllKnown}
use Rattle.esm_row_machine.specs.Changes.{Put, PoppedTwo, Popped, Chooses}
use Rattle.esm_row_machine.specs.Turns.{LeadsTo, Turned}
use Rattle.esm_row_machine.specs.declared.machine.Frame.{Frame}
use Rattle.esm_row_machine.specs.declared.machine.Machine.{Machine}
use Rattle.esm_row_machine.specs.declared.turn.Turn.{Turn}
use Rattle.esm_row_machine.proofs.Going as going
use Rattle.esm_row_machine.proofs.Going.{IsLawful, values_more, known_more, known_front}
use Rattle.esm_row_machine.proofs.Coming as coming
use Rattle.esm_row_machine.proofs.Coming.{Comes, At, left_part, same_left, one_above, one_below, top_of}
use Rattle.esm_row_machine.proofs.Literals.{with_operands}
use Rattle.esm_row_machine.proofs.Deciding as deciding

module _ {W S : Type 0} (state : W → State ℕ S) (modules : S → Modules ℕ) (linked : S → ℕ → Bool) (begins : Importing ℕ S)
    (Ready : W → Type 0) (Keeps : W → W → Type 0) (owns : S → ℕ → List (List ℕ)) (lawful : IsLawful state modules linked begins Ready Keeps owns)
    (w : W) (s : Machine) (f : Frame) (left : ℕ) (h : Here) (ws : List Waiter) (texts : List (List ℕ)) where
  abbrev Next : Op → Type 0
  Next q = Comes state modules linked begins Ready Keeps owns w s f left h ws texts q

  abbrev Lead : Here → Here → Type 0
  Lead a b = LeadsTo state modules linked begins Ready Keeps owns w a w b

  abbrev Does : Result Turn Stop → Machine → Type 0
  Does result late = Turned state modules linked begins Ready Keeps owns w f h ws result w late

  abbrev Known : CodeValue → Type 0
  Known u = going.Known state modules linked begins Ready Keeps owns w u

  abbrev Stands : Spot → List CodeValue → Type 0
  Stands t vs = At state modules linked begins Ready Keeps owns w s f (left + 1) h ws t vs

  abbrev Took : Kont → List Value → Value → Type 0
  Took k items u = deciding.Took state modules linked begins Ready Keeps owns lawful w s f left h ws texts k items u

  -- ---- `===` and `!==`

  abbrev truth : Bool → Value → Value → Value
  truth alike a b = v.Bool (compare_by alike (same_value nat_eq (value_of a) (value_of b)))

  two : (alike : Bool) (cs : Compared) (k : Kont) (c : Next (op.Compare alike)) → kont_row (Equals cs k) ≡ c.rest → (items : List Value) (a b : Value) (t : Took (Compares alike cs k) (items ++ a ∷ []) b) (q : CodeValue) (us : List CodeValue)
      → t.below ≡ q ∷ us → HasRoom k us → (late : Machine) → with_operands s late → (result : Result Turn Stop) → Put items (truth alike a b) left result late.operands.items → Does result late
  two alike cs k c row items a b t q us below room late same result p =
      let parts = one_below (operands_under ws) q us items (items ++ a ∷ []) a (t.values ∙ ap (λ (vs : List CodeValue). operands_under ws ++ reverse vs) below) refl in
      let at : Stands (Has (Compares alike cs k)) (value_of b ∷ value_of a ∷ us) = subst (λ (vs : List CodeValue). Stands (Has (Compares alike cs k)) (value_of b ∷ vs)) (below ∙ ap (λ (z : CodeValue). z ∷ us) (sym parts.1)) t.at in
      let known : AllKnown Known (values_of items) = known_front Known (values_of items) (value_of a ∷ []) (subst (λ (vs : List CodeValue). AllKnown Known vs) (values_more items (a ∷ [])) t.known) in
      going.with_turns state modules linked begins Ready Keeps owns w s f h ws (items ++ truth alike a b ∷ []) left late
      (λ are. coming.goes_from state modules linked begins Ready Keeps owns lawful w s f h ws (left + 1) (Has (Compares alike cs k)) (value_of b ∷ value_of a ∷ us) at left (Has (Equals cs k)) (value_of (truth alike a b) ∷ us) late (items ++ truth alike a b ∷ [])
      are refl (one_above (operands_under ws) (truth alike a b) us items parts.0) room
      (same_left c.rest (kont_row (Equals cs k)) (sym row) (deciding.rest_left state modules linked begins Ready Keeps owns lawful w s f left h ws texts c))
      (subst (λ (vs : List CodeValue). AllKnown Known vs) (sym (values_more items (truth alike a b ∷ []))) (known_more Known (values_of items) (value_of (truth alike a b) ∷ []) known (tt, tt)))
      (operating.compares modules begins h.at (state w) alike cs k h.names (value_of a) (value_of b) us room))
      same result p

  compared : (alike : Bool) (c : Next (op.Compare alike)) (late : Machine) → with_operands s late → (items : List Value) (a b : Value) → s.operands.items ≡ items ++ a ∷ b ∷ [] → (result : Result Turn Stop)
      → Put items (truth alike a b) left result late.operands.items → Does result late
  compared alike c late same items a b e result p =
      let told = subst (λ o. Told o c.rest c.spot) c.told c.tells in
      let at = deciding.at_spot state modules linked begins Ready Keeps owns lawful w s f left h ws texts c (Has (Compares alike told.0 told.1)) told.2 in
      let t = deciding.took state modules linked begins Ready Keeps owns lawful w s f left h ws texts (Compares alike told.0 told.1) c.operands at (items ++ a ∷ []) b (e ∙ sym (append_assoc items (a ∷ []) (b ∷ []))) in
      let top = top_of {Room = HasRoom told.1} t.below t.at.stand.stands.room in
      two alike told.0 told.1 c told.3 items a b t top.0 top.1 top.2 top.3 late same result p

  pub compare : (alike : Bool) (c : Next (op.Compare alike)) (late : Machine) → with_operands s late → (result : Result Turn Stop)
      → PoppedTwo s.operands.items (λ items a b r. Put items (truth alike a b) left r late.operands.items) result → Does result late
  compare alike c late same (Ok t) p = compared alike c late same p.0 p.1 p.2 p.3 (Ok t) p.4
  compare alike c late same (Err (stops.Limit why)) p = compared alike c late same p.0 p.1 p.2 p.3 (Err (stops.Limit why)) p.4
  compare alike c late same (Err stops.Memory) p = tt

  -- ---- branches

  -- the one value that there was is gone
  gone : (k : Kont) (u : CodeValue) (to : Spot) (vs : List CodeValue) → vs ≡ [] → Lead (moved h (Has k) h.names (u ∷ [])) (moved h to h.names []) → Lead (moved h (Has k) h.names (u ∷ vs)) (moved h to h.names vs)
  gone k u to vs e leads = subst (λ (us : List CodeValue). Lead (moved h (Has k) h.names (u ∷ us)) (moved h to h.names us)) (sym e) leads

  abbrev first_of : Stmts → Stmts → Left → List Round → Row
  first_of ss others l rs = block_row (declared_in ss) (stmts_row (declared_in ss ∷ names_of rs) ss) (length (left_row l rs)) (whole_row others (names_of rs) (left_row l rs))

  chosen : (skip : ℕ) (c : Next (op.Choose skip)) (late : Machine) → with_operands s late → (ss others : Stmts) (l : Left) (rs : List Round) → length (whole_row others (names_of rs) (left_row l rs)) ≡ skip → first_of ss others l rs ≡ c.rest
      → (items : List Value) (u : Value) → Took (Uses (purposes.Chooses ss others) l rs) items u → (b : Bool) → is_true (look_of (value_of u)) ≡ b → (result : Result Turn Stop) → Chooses b items skip left result late.operands.items → Does result late
  chosen skip c late same ss others l rs len row items u t true is result p =
      going.with_turns state modules linked begins Ready Keeps owns w s f h ws items left late
      (λ are. deciding.goes_below state modules linked begins Ready Keeps owns lawful w s f left h ws texts (Uses (purposes.Chooses ss others) l rs) items u t left (Opens (Firstly others) ss l rs) late are refl t.at.stand.stands.room
      (same_left c.rest (first_of ss others l rs) (sym row) (deciding.rest_left state modules linked begins Ready Keeps owns lawful w s f left h ws texts c))
      (gone (Uses (purposes.Chooses ss others) l rs) (value_of u) (Opens (Firstly others) ss l rs) t.below t.at.stand.stands.room (operating.chooses modules begins h.at (state w) ss others l rs h.names (value_of u) is)))
      same result p
  chosen skip c late same ss others l rs len row items u t false is result p =
      going.with_turns state modules linked begins Ready Keeps owns w s f h ws items skip late
      (λ are. deciding.goes_below state modules linked begins Ready Keeps owns lawful w s f left h ws texts (Uses (purposes.Chooses ss others) l rs) items u t skip (Opens Plainly others l rs) late are refl t.at.stand.stands.room
      (left_part (ending.choose ss others l rs) (same_left c.rest (first_of ss others l rs) (sym row) (deciding.rest_left state modules linked begins Ready Keeps owns lawful w s f left h ws texts c)) skip (sym len))
      (gone (Uses (purposes.Chooses ss others) l rs) (value_of u) (Opens Plainly others l rs) t.below t.at.stand.stands.room (operating.skips modules begins h.at (state w) ss others l rs h.names (value_of u) is)))
      same result p

  pub choose : (skip : ℕ) (c : Next (op.Choose skip)) (late : Machine) → with_operands s late → (result : Result Turn Stop)
      → Popped s.operands.items (λ items u r. Chooses (is_true (look_of (value_of u))) items skip left r late.operands.items) result → Does result late
  choose skip c late same result p =
      let told = subst (λ o. Told o c.rest c.spot) c.told c.tells in
      let at = deciding.at_spot state modules linked begins Ready Keeps owns lawful w s f left h ws texts c (Has (Uses (purposes.Chooses told.0 told.1) told.2 told.3)) told.4 in
      deciding.popped state modules linked begins Ready Keeps owns lawful w s f left h ws texts (Uses (purposes.Chooses told.0 told.1) told.2 told.3) c.operands at late (λ items u r. Chooses (is_true (look_of (value_of u))) items skip left r late.operands.items)
      (λ items u t r q. chosen skip c late same told.0 told.1 told.2 told.3 told.5 told.6 items u t (is_true (look_of (value_of u))) refl r q) result p
