-- Names of the function that runs are written.
use Rattle.std.proofs.Common.{◌≡◌, ℕ, ◌+◌, Bool, true, false, List, [], ◌∷◌, ◌++◌, length, Option, Some, None, refl, ap, sym, subst, ◌∙◌}
use Rattle.std.specs.Borrow.{Bor}
use Rattle.std.specs.Prelude.{slice_get, slice_set, is_some, Result, Ok, Err, codes}
use Rattle.esm_env.specs.Modules.{Modules}
use Rattle.esm_values.specs.Code.{CodeValue, value_of, numbered}
use Rattle.esm_values.specs.declared.errors.FaultKind.{FaultKind}
use Rattle.esm_values.specs.declared.errors.FaultKind.TheVariants as kinds
use Rattle.esm_values.specs.declared.value.Value.{Value}
use Rattle.esm_expr_eval.specs.Terms.Term.{Val}
use Rattle.esm_rewriting.specs.Rest.{Use as Purpose}
use Rattle.esm_rewriting.specs.Rest.{Use as purposes}
use Rattle.esm_rewriting.specs.Rest.{more}
use Rattle.esm_rewriting.specs.Rest.{Part as parts}
use Rattle.esm_rewriting.specs.State.{State, Importing}
use Rattle.esm_rewriting.specs.declared.stop.Stop.{Stop}
use Rattle.esm_rewriting.specs.declared.stop.Stop.TheVariants as stops
use Rattle.esm_rows.specs.Rows.{Operation, Found, found_at, found_in}
use Rattle.esm_rows.specs.Rows.{Operation as operation}
use Rattle.esm_rows.specs.declared.op.Op.{Op}
use Rattle.esm_rows.specs.declared.op.Op.TheVariants as op
use Rattle.esm_row_laws.specs.Spots.{Left, Round, Uses, rounds_row, names_of, Spot, Has, left_row}
use Rattle.esm_row_laws.specs.Remaining.{left_rest}
use Rattle.esm_row_laws.specs.Places.{flat}
use Rattle.esm_row_laws.specs.Setting.{set_found, WriteThrows}
use Rattle.esm_row_laws.specs.Told.{Told}
use Rattle.esm_row_laws.proofs.SettingNames as setting
use Rattle.esm_row_machine.specs.Functions.{Here, Waiter}
use Rattle.esm_row_machine.specs.Changes.{IsTextAt}
use Rattle.esm_row_machine.specs.Naming.{FoundAt, SetsAt, ThrowsNamed, WritesWhere}
use Rattle.esm_row_machine.specs.Turns.{Turned}
use Rattle.esm_row_machine.specs.declared.machine.Frame.{Frame}
use Rattle.esm_row_machine.specs.declared.machine.Machine.{Machine}
use Rattle.esm_row_machine.specs.declared.turn.Turn.{Turn}
use Rattle.esm_row_machine.proofs.Going.{IsLawful}
use Rattle.esm_row_machine.proofs.Coming as coming
use Rattle.esm_row_machine.proofs.Coming.{Comes, At, left_part, same_left}
use Rattle.esm_row_machine.proofs.RoundRows.{kont_ends}
use Rattle.esm_row_machine.proofs.Faults as faults
use Rattle.esm_row_machine.proofs.Locals as locals
use Rattle.esm_row_machine.proofs.NamesOn.{found_many}

module _ {W S : Type 0} (state : W → State ℕ S) (modules : S → Modules ℕ) (linked : S → ℕ → Bool) (begins : Importing ℕ S)
    (Ready : W → Type 0) (Keeps : W → W → Type 0) (owns : S → ℕ → List (List ℕ)) (lawful : IsLawful state modules linked begins Ready Keeps owns)
    (w : W) (s : Machine) (f : Frame) (n : ℕ) (h : Here) (ws : List Waiter) (texts : List (List ℕ)) where
  abbrev Next : Op → Type 0
  Next q = Comes state modules linked begins Ready Keeps owns w s f n h ws texts q

  abbrev Does : Result Turn Stop → W → Machine → Type 0
  Does result after late = Turned state modules linked begins Ready Keeps owns w f h ws result after late

  abbrev Stands : Spot → List CodeValue → Type 0
  Stands t vs = At state modules linked begins Ready Keeps owns w s f (n + 1) h ws t vs

  abbrev Writes : List ℕ → Left → List Round → Spot
  Writes name l rs = Has (Uses (purposes.Writes name) l rs)

  -- handlers and functions that wait are as they were
  abbrev SameOthers : Machine → Type 0
  SameOthers late = (late.handlers.items ≡ s.handlers.items) × (late.frames.items ≡ s.frames.items)

  one_there : (purpose : Purpose) (l : Left) (rs : List Round) (vs : List CodeValue) → Stands (Has (Uses purpose l rs)) vs → (v : CodeValue) × Stands (Has (Uses purpose l rs)) (v ∷ [])
  one_there purpose l rs vs a =
      let t = coming.top state modules linked begins Ready Keeps owns w s f (n + 1) h ws (Uses purpose l rs) vs a in
      (t.value, subst (λ (us : List CodeValue). Stands (Has (Uses purpose l rs)) (t.value ∷ us)) t.at.stand.stands.room t.at)

  -- the write throws
  throws : (name : List ℕ) (l : Left) (rs : List Round) (v : CodeValue) → Stands (Writes name l rs) (v ∷ []) → (kind : FaultKind) (words : List ℕ) → WriteThrows modules begins h.at l rs h.names (state w) name v kind (name ++ words) → (k : ℕ) → slice_get texts k ≡ Some name
      → (told : Option (Bor (List ℕ))) → IsTextAt texts k told → (late : Machine) → SameOthers late → late.operands.items ≡ s.operands.items → late.names.items ≡ s.names.items → (after : W) (result : Result Turn Stop)
      → ThrowsNamed state modules linked begins Ready Keeps w kind told words result after → Does result after late
  throws name l rs v a kind words h' k is_name told text late same operands names after result p =
      faults.named_faults state modules linked begins Ready Keeps owns lawful w s f (n + 1) h ws (Writes name l rs) (v ∷ []) a (more (parts.Does (purposes.Writes name) (Val v)) (left_rest numbered l)) refl
      (left_part (kont_ends (Uses (purposes.Writes name) l rs)) a.stand.stands.place (length (rounds_row rs)) refl) kind name words h' texts k is_name told text late (names, same.0, same.1) operands after result p

  -- the name is set, and no constant
  sets : (place : ℕ) {q : Op} (c : Next q) (name : List ℕ) (l : Left) (rs : List Round) (found : Found) → c.spot ≡ Writes name l rs → found_in (names_of rs) name ≡ Some found → found.place ≡ place → found.constant ≡ false
      → left_row l rs ≡ c.rest → (old : Value) → slice_get s.names.items (f.names + place) ≡ Some (Some old) → (late : Machine) → SameOthers late → (result : Result Turn Stop)
      → SetsAt s.operands.items s.names.items (f.names + place) n result late.operands.items late.names.items → Does result w late
  sets place c name l rs found is there same_place variable row old e late same result p =
      let a = locals.at_spot state modules linked begins Ready Keeps owns lawful w s f n h ws texts c (Writes name l rs) is in
      let old_there : slice_get (flat h.names) found.place ≡ Some (Some (value_of old)) = subst (λ (m : ℕ). slice_get (flat h.names) m ≡ Some (Some (value_of old))) (sym same_place)
      (locals.value_there state modules linked begins Ready Keeps owns lawful w s f n h ws texts (Writes name l rs) c.operands a place (Some old) e) in
      let there_variable : found_in (names_of rs) name ≡ Some (found_at found.place false) = there ∙ ap (λ (b : Bool). Some (found_at found.place b)) variable in
      locals.sets_there state modules linked begins Ready Keeps owns lawful w s f n h ws texts (purposes.Writes name) l rs c.operands a
      (same_left c.rest (left_row l rs) (sym row) (locals.rest_left state modules linked begins Ready Keeps owns lawful w s f n h ws texts c)) place (λ v. set_found (names_of rs) name v h.names)
      (λ v. setting.found_place name v rs h.names found a.stand.stands.below.fit there ∙ ap (λ (m : ℕ). slice_set (flat h.names) m (Some v)) same_place)
      (λ v. found_many (names_of rs) name v h.names)
      (λ v. setting.writes modules begins h.at l (state w) name v rs h.names (value_of old) found.place a.stand.stands.below.fit there_variable old_there)
      late same result p

  by_found : (place k : ℕ) (constant : Bool) {q : Op} (c : Next q) (name : List ℕ) → slice_get texts k ≡ Some name → (l : Left) (rs : List Round) (found : Found) → c.spot ≡ Writes name l rs → found_in (names_of rs) name ≡ Some found → found.place ≡ place
      → found.constant ≡ constant → left_row l rs ≡ c.rest → (told : Option (Bor (List ℕ))) → IsTextAt texts k told → (v : Option Value) → slice_get s.names.items (f.names + place) ≡ Some v → (after : W) (late : Machine) → SameOthers late → (result : Result Turn Stop)
      → WritesWhere state modules linked begins Ready Keeps (is_some v) constant w s.operands.items s.names.items (f.names + place) told n result after late.operands.items late.names.items → Does result after late
  by_found place k constant c name is_name l rs found is there same_place same_kind row told text None e after late same result p =
      let a = locals.at_spot state modules linked begins Ready Keeps owns lawful w s f n h ws texts c (Writes name l rs) is in
      let one = one_there (purposes.Writes name) l rs c.operands a in
      let unset_there : slice_get (flat h.names) found.place ≡ Some None = subst (λ (m : ℕ). slice_get (flat h.names) m ≡ Some None) (sym same_place)
      (locals.value_there state modules linked begins Ready Keeps owns lawful w s f n h ws texts (Writes name l rs) c.operands a place None e) in
      throws name l rs one.0 one.1 kinds.ReferenceError (codes " is not initialized") (setting.unset modules begins h.at l (state w) name one.0 rs h.names found.place found.constant a.stand.stands.below.fit there unset_there)
      k is_name told text late same p.0 p.1 after result p.2
  by_found place k true c name is_name l rs found is there same_place same_kind row told text (Some old) e after late same result p =
      let a = locals.at_spot state modules linked begins Ready Keeps owns lawful w s f n h ws texts c (Writes name l rs) is in
      let one = one_there (purposes.Writes name) l rs c.operands a in
      let old_there : slice_get (flat h.names) found.place ≡ Some (Some (value_of old)) = subst (λ (m : ℕ). slice_get (flat h.names) m ≡ Some (Some (value_of old))) (sym same_place)
      (locals.value_there state modules linked begins Ready Keeps owns lawful w s f n h ws texts (Writes name l rs) c.operands a place (Some old) e) in
      throws name l rs one.0 one.1 kinds.TypeError (codes " is constant")
      (setting.constant modules begins h.at l (state w) name one.0 rs h.names (value_of old) found.place a.stand.stands.below.fit (there ∙ ap (λ (b : Bool). Some (found_at found.place b)) same_kind) old_there)
      k is_name told text late same p.0 p.1 after result p.2
  by_found place k false c name is_name l rs found is there same_place same_kind row told text (Some old) e after late same result p =
      subst (λ (b : W). Does result b late) (sym p.0) (sets place c name l rs found is there same_place same_kind row old e late same result p.1)

  abbrev Wrote : ℕ → Bool → Option (Bor (List ℕ)) → W → Machine → Result Turn Stop → Type 0
  Wrote place constant told after late result = FoundAt s.names.items (f.names + place) (λ v r. WritesWhere state modules linked begins Ready Keeps (is_some v) constant w s.operands.items s.names.items (f.names + place) told n r after late.operands.items late.names.items) result

  writes : (place k : ℕ) (constant : Bool) {q : Op} (c : Next q) (name : List ℕ) → slice_get texts k ≡ Some name → c.operation ≡ operation.WriteLocal place name constant → (told : Option (Bor (List ℕ))) → IsTextAt texts k told → (v : Option Value)
      → slice_get s.names.items (f.names + place) ≡ Some v → (after : W) (late : Machine) → SameOthers late → (result : Result Turn Stop)
      → WritesWhere state modules linked begins Ready Keeps (is_some v) constant w s.operands.items s.names.items (f.names + place) told n result after late.operands.items late.names.items → Does result after late
  writes place k constant c name is_name is told text v e after late same result p =
      let t = subst (λ (o : Operation). Told o c.rest c.spot) is c.tells in
      by_found place k constant c name is_name t.0 t.1 t.2 t.3 t.4 t.5 t.6 t.7 told text v e after late same result p

  by_result : (place k : ℕ) (constant : Bool) {q : Op} (c : Next q) (name : List ℕ) → slice_get texts k ≡ Some name → c.operation ≡ operation.WriteLocal place name constant → (told : Option (Bor (List ℕ))) → IsTextAt texts k told
      → (after : W) (late : Machine) → SameOthers late → (result : Result Turn Stop) → Wrote place constant told after late result → Does result after late
  by_result place k constant c name is_name is told text after late same (Ok t) p = writes place k constant c name is_name is told text p.0 p.1 after late same (Ok t) p.2
  by_result place k constant c name is_name is told text after late same (Err (stops.Limit why)) p = writes place k constant c name is_name is told text p.0 p.1 after late same (Err (stops.Limit why)) p.2
  by_result place k constant c name is_name is told text after late same (Err stops.Memory) p = tt

  pub write_local : (place k : ℕ) (c : Next (op.WriteLocal place k)) (told : Option (Bor (List ℕ))) → IsTextAt texts k told → (after : W) (late : Machine) → SameOthers late → (result : Result Turn Stop) → Wrote place false told after late result → Does result after late
  write_local place k c told text after late same result p = by_result place k false c c.told.0 c.told.1 c.told.2 told text after late same result p

  pub write_constant : (place k : ℕ) (c : Next (op.WriteConstant place k)) (told : Option (Bor (List ℕ))) → IsTextAt texts k told → (after : W) (late : Machine) → SameOthers late → (result : Result Turn Stop) → Wrote place true told after late result → Does result after late
  write_constant place k c told text after late same result p = by_result place k true c c.told.0 c.told.1 c.told.2 told text after late same result p
