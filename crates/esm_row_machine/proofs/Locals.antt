-- Names of the function that runs are read, and set by their declarations.
use Rattle.std.proofs.Common.{◌≡◌, ℕ, ◌+◌, Bool, List, [], ◌∷◌, ◌++◌, length, Option, Some, None, refl, ap, sym, subst, ◌∙◌}
use Rattle.std.specs.Borrow.{Bor}
use Rattle.std.specs.Prelude.{reverse, slice_get, slice_set, Result, Ok, Err, codes}
use Rattle.esm_tree.specs.Syntax as x
use Rattle.esm_tree.specs.Syntax.{Item}
use Rattle.esm_env.specs.Modules.{Modules}
use Rattle.esm_values.specs.Code.{CodeValue, value_of, values_of, numbered}
use Rattle.esm_values.specs.declared.errors.FaultKind.TheVariants as kinds
use Rattle.esm_values.specs.declared.value.Value.{Value}
use Rattle.esm_expr_eval.specs.Terms.Term.{Name as name_term}
use Rattle.esm_rewriting.specs.Rest.{Use as Purpose}
use Rattle.esm_rewriting.specs.Rest.{Use as purposes}
use Rattle.esm_rewriting.specs.State.{State, Importing}
use Rattle.esm_rewriting.specs.declared.stop.Stop.{Stop}
use Rattle.esm_rewriting.specs.declared.stop.Stop.TheVariants as stops
use Rattle.esm_rows.specs.Rows.{Operation, Found, found_in, found_here}
use Rattle.esm_rows.specs.Rows.{Operation as operation}
use Rattle.esm_rows.specs.declared.op.Op.{Op}
use Rattle.esm_rows.specs.declared.op.Op.TheVariants as op
use Rattle.esm_row_laws.specs.Spots.{Left, Round, Kont, Uses, rounds_of, rounds_row, kont_names, names_of, Spot, Begins, Has, Between, left_row, kont_row}
use Rattle.esm_row_laws.specs.Remaining.{plug}
use Rattle.esm_row_laws.specs.Places.{flat}
use Rattle.esm_row_laws.specs.Operations.{Values}
use Rattle.esm_row_laws.specs.Setting.{set_here}
use Rattle.esm_row_laws.specs.Told.{Told}
use Rattle.esm_row_laws.proofs.Moves as moves
use Rattle.esm_row_laws.proofs.SettingNames as setting
use Rattle.esm_row_machine.specs.Functions.{Here, Waiter, moved}
use Rattle.esm_row_machine.specs.Stacks.{IsLeft, name_value, names_on, names_under, operands_under, handlers_under}
use Rattle.esm_row_machine.specs.Outside.{AllKnown, modules_in}
use Rattle.esm_row_machine.specs.Changes.{IsTextAt}
use Rattle.esm_row_machine.specs.Naming.{GoesTo, FoundAt, SetsAt, PutsFound}
use Rattle.esm_row_machine.specs.Turns.{AreNamesKnown, LeadsTo, GoesOn, Turned}
use Rattle.esm_row_machine.specs.declared.machine.Frame.{Frame}
use Rattle.esm_row_machine.specs.declared.machine.Machine.{Machine}
use Rattle.esm_row_machine.specs.declared.turn.Turn.{Turn}
use Rattle.esm_row_machine.proofs.Going as going
use Rattle.esm_row_machine.proofs.Going.{IsLawful}
use Rattle.esm_row_machine.proofs.Coming.{Comes, At, left_part, same_left}
use Rattle.esm_row_machine.proofs.RoundRows.{kont_ends}
use Rattle.esm_row_machine.proofs.Literals as literals
use Rattle.esm_row_machine.proofs.Literals.{with_operands}
use Rattle.esm_row_machine.proofs.Deciding as deciding
use Rattle.esm_row_machine.proofs.Changing as changing
use Rattle.esm_row_machine.proofs.Faults as faults
use Rattle.esm_row_machine.proofs.NamesOn.{past, set_past, name_at, name_set, set_known, name_known, AsMany, still_fit, same_handlers, here_many}

module _ {W S : Type 0} (state : W → State ℕ S) (modules : S → Modules ℕ) (linked : S → ℕ → Bool) (begins : Importing ℕ S)
    (Ready : W → Type 0) (Keeps : W → W → Type 0) (owns : S → ℕ → List (List ℕ)) (lawful : IsLawful state modules linked begins Ready Keeps owns)
    (w : W) (s : Machine) (f : Frame) (n : ℕ) (h : Here) (ws : List Waiter) (texts : List (List ℕ)) where
  abbrev Next : Op → Type 0
  Next q = Comes state modules linked begins Ready Keeps owns w s f n h ws texts q

  abbrev Lead : Here → Here → Type 0
  Lead a b = LeadsTo state modules linked begins Ready Keeps owns w a w b

  abbrev Does : Result Turn Stop → W → Machine → Type 0
  Does result after late = Turned state modules linked begins Ready Keeps owns w f h ws result after late

  abbrev Goes : ℕ → Machine → Type 0
  Goes left late = GoesOn state modules linked begins Ready Keeps owns w f h ws left w late

  abbrev Known : CodeValue → Type 0
  Known u = going.Known state modules linked begins Ready Keeps owns w u

  abbrev Tree : ℕ → List Item
  Tree = (modules_in state modules linked begins Ready Keeps w).tree

  abbrev Stands : Spot → List CodeValue → Type 0
  Stands t vs = At state modules linked begins Ready Keeps owns w s f (n + 1) h ws t vs

  abbrev Took : Kont → List Value → Value → Type 0
  Took k items u = deciding.Took state modules linked begins Ready Keeps owns lawful w s f n h ws texts k items u

  abbrev Base : ℕ
  Base = length (names_under ws)

  pub rest_left : {q : Op} (c : Next q) → IsLeft Tree h.at h.function c.rest n
  rest_left c = literals.rest_left state modules linked begins Ready Keeps owns lawful w s f n h ws texts c

  pub at_spot : {q : Op} (c : Next q) (t : Spot) → c.spot ≡ t → Stands t c.operands
  at_spot c t e = deciding.at_spot state modules linked begins Ready Keeps owns lawful w s f n h ws texts c t e

  -- ---- places

  -- the name at this place of the function has this value
  pub value_there : (t : Spot) (vs : List CodeValue) → Stands t vs → (place : ℕ) (v : Option Value) → slice_get s.names.items (f.names + place) ≡ Some v → slice_get (flat h.names) place ≡ Some (name_value v)
  value_there t vs a place v e =
      sym (past (names_under ws) (flat h.names) place) ∙ ap (λ (us : List (Option CodeValue)). slice_get us (Base + place)) (sym a.stand.stands.below.names)
      ∙ ap (λ (m : ℕ). slice_get (names_on s.names.items) (m + place)) (sym a.stand.stands.below.frame.names_below) ∙ name_at s.names.items (f.names + place) v e

  -- ---- a name is read

  -- the operation, by the name in the table
  read_told : (place k : ℕ) (c : Next (op.Local place k)) → Told (operation.Local place c.told.0) c.rest c.spot
  read_told place k c = subst (λ (p : Operation). Told p c.rest c.spot) c.told.2 c.tells

  read_by : (place k : ℕ) (c : Next (op.Local place k)) (kont : Kont) (found : Found) → c.spot ≡ Begins (x.Name c.told.0) kont → found_in (kont_names kont) c.told.0 ≡ Some found → found.place ≡ place → kont_row kont ≡ c.rest
      → (told : Option (Bor (List ℕ))) → IsTextAt texts k told → (v : Option Value) → slice_get s.names.items (f.names + place) ≡ Some v → (after : W) (late : Machine) → with_operands s late → (result : Result Turn Stop)
      → PutsFound state modules linked begins Ready Keeps w s.operands.items v told n result after late.operands.items → Does result after late
  read_by place k c kont found is there same_place row told text (Some v) e after late same result p =
      let a = at_spot c (Begins (x.Name c.told.0) kont) is in
      let at : slice_get (flat h.names) found.place ≡ Some (Some (value_of v)) = subst (λ (m : ℕ). slice_get (flat h.names) m ≡ Some (Some (value_of v))) (sym same_place) (value_there (Begins (x.Name c.told.0) kont) c.operands a place (Some v) e) in
      subst (λ (b : W). Does result b late) (sym p.0)
      (literals.puts state modules linked begins Ready Keeps owns lawful w s f n h ws texts c (x.Name c.told.0) kont v is row (name_known Known s.names.items (f.names + place) v e a.stand.fits.names)
      (moves.own modules begins h.at kont h.names c.operands a.stand.stands.room (state w) c.told.0 found.place found.constant (Some (value_of v)) a.stand.stands.below.fit there at)
      late same result p.1)
  read_by place k c kont found is there same_place row told text None e after late same result p =
      let a = at_spot c (Begins (x.Name c.told.0) kont) is in
      let at : slice_get (flat h.names) found.place ≡ Some None = subst (λ (m : ℕ). slice_get (flat h.names) m ≡ Some None) (sym same_place) (value_there (Begins (x.Name c.told.0) kont) c.operands a place None e) in
      faults.named_faults state modules linked begins Ready Keeps owns lawful w s f (n + 1) h ws (Begins (x.Name c.told.0) kont) c.operands a (plug numbered kont c.operands (name_term c.told.0)) refl
      (left_part (kont_ends kont) (same_left c.rest (kont_row kont) (sym row) (rest_left c)) (length (rounds_row (rounds_of kont))) refl)
      kinds.ReferenceError c.told.0 (codes " is not initialized")
      (moves.own modules begins h.at kont h.names c.operands a.stand.stands.room (state w) c.told.0 found.place found.constant None a.stand.stands.below.fit there at)
      texts k c.told.1 told text late same p.0 after result p.1

  read_found : (place k : ℕ) (c : Next (op.Local place k)) (told : Option (Bor (List ℕ))) → IsTextAt texts k told → (v : Option Value) → slice_get s.names.items (f.names + place) ≡ Some v → (after : W) (late : Machine) → with_operands s late
      → (result : Result Turn Stop) → PutsFound state modules linked begins Ready Keeps w s.operands.items v told n result after late.operands.items → Does result after late
  read_found place k c told text v e after late same result p =
      let t = read_told place k c in
      read_by place k c t.0 t.1 t.2 t.3 t.4 t.5 told text v e after late same result p

  pub read_local : (place k : ℕ) (c : Next (op.Local place k)) (told : Option (Bor (List ℕ))) → IsTextAt texts k told → (after : W) (late : Machine) → with_operands s late → (result : Result Turn Stop)
      → FoundAt s.names.items (f.names + place) (λ v r. PutsFound state modules linked begins Ready Keeps w s.operands.items v told n r after late.operands.items) result → Does result after late
  read_local place k c told text after late same (Ok t) p = read_found place k c told text p.0 p.1 after late same (Ok t) p.2
  read_local place k c told text after late same (Err (stops.Limit why)) p = read_found place k c told text p.0 p.1 after late same (Err (stops.Limit why)) p.2
  read_local place k c told text after late same (Err stops.Memory) p = tt

  -- ---- a name is set

  -- the value on top is used, and the values of names change at one place
  set_there : (purpose : Purpose) (l : Left) (rs : List Round) (vs : List CodeValue) → Stands (Has (Uses purpose l rs)) vs → IsLeft Tree h.at h.function (left_row l rs) n → (place : ℕ) (wss : CodeValue → Values)
      → ((v : CodeValue) → flat (wss v) ≡ slice_set (flat h.names) place (Some v)) → ((v : CodeValue) → AsMany h.names (wss v)) → ((v : CodeValue) → Lead (moved h (Has (Uses purpose l rs)) h.names (v ∷ [])) (moved h (Between l rs) (wss v) []))
      → (late : Machine) → (late.handlers.items ≡ s.handlers.items) × (late.frames.items ≡ s.frames.items) → (items : List Value) (u : Value) → Took (Uses purpose l rs) items u → (result : Result Turn Stop)
      → GoesTo n ((late.operands.items ≡ items) × (late.names.items ≡ slice_set s.names.items (f.names + place) (Some u))) result → Does result w late
  set_there purpose l rs vs a row place wss is many leads late same items u t result p =
      let none : t.below ≡ [] = t.at.stand.stands.room in
      let at : Stands (Has (Uses purpose l rs)) (value_of u ∷ []) = subst (λ (us : List CodeValue). Stands (Has (Uses purpose l rs)) (value_of u ∷ us)) none t.at in
      changing.to_turns state modules linked begins Ready Keeps owns lawful w s f (n + 1) h ws n ((late.operands.items ≡ items) × (late.names.items ≡ slice_set s.names.items (f.names + place) (Some u))) late
      (λ both. changing.goes_to state modules linked begins Ready Keeps owns lawful w s f (n + 1) h ws (Has (Uses purpose l rs)) (value_of u ∷ []) at n (Between l rs) (wss (value_of u)) [] late
      (ap (λ (xs : List (Option Value)). names_on xs) both.1 ∙ name_set s.names.items (f.names + place) u ∙ ap (λ (m : ℕ). slice_set (names_on s.names.items) (m + place) (Some (value_of u))) a.stand.stands.below.frame.names_below
      ∙ ap (λ (us : List (Option CodeValue)). slice_set us (Base + place) (Some (value_of u))) a.stand.stands.below.names ∙ set_past (names_under ws) (flat h.names) place (Some (value_of u))
      ∙ ap (λ (us : List (Option CodeValue)). names_under ws ++ us) (sym (is (value_of u))))
      (same.0 ∙ a.stand.stands.below.handlers ∙ ap (λ hs. handlers_under ws ++ hs) (sym (same_handlers Base rs h.names (wss (value_of u)) (many (value_of u)))))
      same.1 (still_fit (names_of rs) h.names (wss (value_of u)) (many (value_of u)) a.stand.stands.below.fit) a.stand.stands.below.rounds
      (ap values_of both.0 ∙ t.values ∙ ap (λ (us : List CodeValue). operands_under ws ++ reverse us) none) refl row
      (subst (λ (us : List Value). AllKnown Known (values_of us)) (sym both.0) t.known)
      (subst (λ (xs : List (Option Value)). AreNamesKnown Known xs) (sym both.1) (set_known Known s.names.items (f.names + place) u t.known_top a.stand.fits.names))
      (leads (value_of u)))
      result p

  pub sets_there : (purpose : Purpose) (l : Left) (rs : List Round) (vs : List CodeValue) → Stands (Has (Uses purpose l rs)) vs → IsLeft Tree h.at h.function (left_row l rs) n → (place : ℕ) (wss : CodeValue → Values)
      → ((v : CodeValue) → flat (wss v) ≡ slice_set (flat h.names) place (Some v)) → ((v : CodeValue) → AsMany h.names (wss v)) → ((v : CodeValue) → Lead (moved h (Has (Uses purpose l rs)) h.names (v ∷ [])) (moved h (Between l rs) (wss v) []))
      → (late : Machine) → (late.handlers.items ≡ s.handlers.items) × (late.frames.items ≡ s.frames.items) → (result : Result Turn Stop)
      → SetsAt s.operands.items s.names.items (f.names + place) n result late.operands.items late.names.items → Does result w late
  sets_there purpose l rs vs a row place wss is many leads late same result p =
      deciding.popped state modules linked begins Ready Keeps owns lawful w s f n h ws texts (Uses purpose l rs) vs a late
      (λ items u r. GoesTo n ((late.operands.items ≡ items) × (late.names.items ≡ slice_set s.names.items (f.names + place) (Some u))) r)
      (λ items u t r q. set_there purpose l rs vs a row place wss is many leads late same items u t r q) result p

  pub set_local : (place : ℕ) (c : Next (op.SetLocal place)) (late : Machine) → (late.handlers.items ≡ s.handlers.items) × (late.frames.items ≡ s.frames.items) → (result : Result Turn Stop)
      → SetsAt s.operands.items s.names.items (f.names + place) n result late.operands.items late.names.items → Does result w late
  set_local place c late same result p =
      let t = subst (λ (p : Operation). Told p c.rest c.spot) c.told c.tells in
      by t.0 t.1 t.2 t.3 t.4 t.5 t.6 t.7
    where
      by : (name : List ℕ) (l : Left) (rs : List Round) (found : Found) → c.spot ≡ Has (Uses (purposes.Sets name) l rs) → found_here (names_of rs) name ≡ Some found → found.place ≡ place → left_row l rs ≡ c.rest → Does result w late
      by name l rs found is there same_place row =
          let a = at_spot c (Has (Uses (purposes.Sets name) l rs)) is in
          sets_there (purposes.Sets name) l rs c.operands a (same_left c.rest (left_row l rs) (sym row) (rest_left c)) place (λ v. set_here (names_of rs) name v h.names)
          (λ v. setting.here_place name v rs h.names found a.stand.stands.below.fit there ∙ ap (λ (m : ℕ). slice_set (flat h.names) m (Some v)) same_place)
          (λ v. here_many (names_of rs) name v h.names)
          (λ v. setting.sets modules begins h.at l (state w) name v rs h.names found a.stand.stands.below.fit there)
          late same result p
