-- A handler begins.
use Rattle.std.proofs.Common.{◌≡◌, ℕ, ◌+◌, Bool, true, false, List, [], ◌∷◌, ◌++◌, length, Option, None, refl, ap, sym, subst, ◌∙◌}
use Rattle.std.specs.Prelude.{reverse, replicate, Result, Ok, Err}
use Rattle.std.proofs.lemmas.List.{append_assoc, append-nil}
use Rattle.esm_tree.specs.Syntax.{Item, Stmts, no_more}
use Rattle.esm_env.specs.Declarations.{declared_in}
use Rattle.esm_env.specs.Modules.{Modules}
use Rattle.esm_values.specs.Code.{CodeValue, value_of, values_of}
use Rattle.esm_values.specs.declared.value.Value.{Value}
use Rattle.esm_rewriting.specs.State.{State, Importing}
use Rattle.esm_rewriting.specs.declared.stop.Stop.{Stop}
use Rattle.esm_rewriting.specs.declared.stop.Stop.TheVariants as stops
use Rattle.esm_rows.specs.Rows.{Row, Operation, stmts_row, caught_names, named}
use Rattle.esm_rows.specs.Rows.{Operation as o}
use Rattle.esm_rows.specs.declared.op.Op.{Op}
use Rattle.esm_rows.specs.declared.op.Op.TheVariants as op
use Rattle.esm_row_laws.specs.Spots.{Left, left, Round, Inner, names_of, Spot, Between, Handles, left_row, handled_row, spot_row}
use Rattle.esm_row_laws.specs.Places.{flat}
use Rattle.esm_row_laws.specs.Operations.{unset_of}
use Rattle.esm_row_laws.specs.Landings.{caught_values}
use Rattle.esm_row_laws.specs.Told.{Told}
use Rattle.esm_row_laws.proofs.Landed as landed
use Rattle.esm_row_machine.specs.Functions.{Here, Waiter}
use Rattle.esm_row_machine.specs.Stacks.{IsLeft, names_on, names_under, operands_under, handlers_under, handlers_of}
use Rattle.esm_row_machine.specs.Outside.{AllKnown, modules_in}
use Rattle.esm_row_machine.specs.Changes.{Popped}
use Rattle.esm_row_machine.specs.Naming.{GoesTo, caught_by}
use Rattle.esm_row_machine.specs.Turns.{AreNamesKnown, GoesOn, Turned}
use Rattle.esm_row_machine.specs.declared.machine.Frame.{Frame}
use Rattle.esm_row_machine.specs.declared.machine.Handler.{Handler}
use Rattle.esm_row_machine.specs.declared.machine.Machine.{Machine}
use Rattle.esm_row_machine.specs.declared.turn.Turn.{Turn}
use Rattle.esm_row_machine.proofs.Going as going
use Rattle.esm_row_machine.proofs.Going.{IsLawful, values_more, known_front, known_back}
use Rattle.esm_row_machine.proofs.Coming as coming
use Rattle.esm_row_machine.proofs.Coming.{Comes, At, same_left, one_below, top_of}
use Rattle.esm_row_machine.proofs.Literals as literals
use Rattle.esm_row_machine.proofs.Changing as changing
use Rattle.esm_row_machine.proofs.NamesOn.{names_more, caught_on, caught_many, names_known_more, unset_known, caught_known}

-- ---- its first operation

same_named : (b c : Bool) (m n : ℕ) (r q : Row) → o.Caught b m ∷ r ≡ o.Caught c n ∷ q → b ≡ c
same_named b c m n r q e = cc

same_count : (b c : Bool) (m n : ℕ) (r q : Row) → o.Caught b m ∷ r ≡ o.Caught c n ∷ q → m ≡ n
same_count b c m n r q e = cc

same_rest : (b c : Bool) (m n : ℕ) (r q : Row) → o.Caught b m ∷ r ≡ o.Caught c n ∷ q → r ≡ q
same_rest b c m n r q e = cc

module _ {W S : Type 0} (state : W → State ℕ S) (modules : S → Modules ℕ) (linked : S → ℕ → Bool) (begins : Importing ℕ S)
    (Ready : W → Type 0) (Keeps : W → W → Type 0) (owns : S → ℕ → List (List ℕ)) (lawful : IsLawful state modules linked begins Ready Keeps owns)
    (w : W) (s : Machine) (f : Frame) (n : ℕ) (h : Here) (ws : List Waiter) (texts : List (List ℕ)) where
  abbrev Next : Op → Type 0
  Next q = Comes state modules linked begins Ready Keeps owns w s f n h ws texts q

  abbrev Does : Result Turn Stop → Machine → Type 0
  Does result late = Turned state modules linked begins Ready Keeps owns w f h ws result w late

  abbrev Goes : ℕ → Machine → Type 0
  Goes left late = GoesOn state modules linked begins Ready Keeps owns w f h ws left w late

  abbrev Known : CodeValue → Type 0
  Known u = going.Known state modules linked begins Ready Keeps owns w u

  abbrev Tree : ℕ → List Item
  Tree = (modules_in state modules linked begins Ready Keeps w).tree

  abbrev Stands : Spot → List CodeValue → Type 0
  Stands t vs = At state modules linked begins Ready Keeps owns w s f (n + 1) h ws t vs

  abbrev Base : ℕ
  Base = length (names_under ws)

  -- what was thrown was taken from the operands
  pub record Took (t : Spot) (items : List Value) (u : Value) : Type 0 where
    pub at : Stands t (value_of u ∷ [])
    pub values : values_of items ≡ operands_under ws ++ reverse []
    pub known : AllKnown Known (values_of items)
    pub known_top : Known (value_of u)

  taken_by : (t : Spot) (v : CodeValue) (us : List CodeValue) → us ≡ [] → Stands t (v ∷ us) → (items : List Value) (u : Value) → s.operands.items ≡ items ++ u ∷ [] → Took t items u
  taken_by t v us none a items u e =
      let b = one_below (operands_under ws) v us items s.operands.items u a.stand.stands.operands e in
      let all : AllKnown Known (values_of items ++ value_of u ∷ []) = subst (λ (us : List CodeValue). AllKnown Known us) (ap values_of e ∙ values_more items (u ∷ [])) a.stand.fits.operands in
      record {
        at = subst (λ (q : CodeValue). Stands t (q ∷ [])) (sym b.1) (subst (λ (qs : List CodeValue). Stands t (v ∷ qs)) none a);
        values = b.0 ∙ ap (λ (qs : List CodeValue). operands_under ws ++ reverse qs) none;
        known = known_front Known (values_of items) (value_of u ∷ []) all;
        known_top = (known_back Known (values_of items) (value_of u ∷ []) all).0;
      }

  took : (caught : Option (List ℕ)) (handler : Stmts) (l : Left) (rs : List Round) (vs : List CodeValue) → Stands (Handles caught handler l rs) vs → (items : List Value) (u : Value) → s.operands.items ≡ items ++ u ∷ [] → Took (Handles caught handler l rs) items u
  took caught handler l rs vs a items u e =
      let top = top_of {Room = λ (us : List CodeValue). us ≡ []} vs a.stand.stands.room in
      taken_by (Handles caught handler l rs) top.0 top.1 top.3 (subst (λ (us : List CodeValue). Stands (Handles caught handler l rs) us) top.2 a) items u e

  -- the names of the handler
  abbrev Behind : Option (List ℕ) → Stmts → Left → List Round → Spot
  Behind caught handler l rs = Between (left no_more handler) (Inner (caught_names caught ++ declared_in handler) l ∷ rs)

  begun : (caught : Option (List ℕ)) (handler : Stmts) (l : Left) (rs : List Round) (items : List Value) (u : Value) → Took (Handles caught handler l rs) items u → IsLeft Tree h.at h.function (spot_row (Behind caught handler l rs)) n
      → (late : Machine) → late.operands.items ≡ items → late.handlers.items ≡ s.handlers.items → late.frames.items ≡ s.frames.items
      → late.names.items ≡ s.names.items ++ (caught_by (named caught) u ++ replicate (length (declared_in handler)) None) → Goes n late
  begun caught handler l rs items u t place late operands handlers frames names =
      let ds = declared_in handler in
      let added : List (Option Value) = caught_by (named caught) u ++ replicate (length ds) None in
      let values : List (Option CodeValue) = caught_values caught (value_of u) ++ unset_of ds in
      changing.goes_to state modules linked begins Ready Keeps owns lawful w s f (n + 1) h ws (Handles caught handler l rs) (value_of u ∷ []) t.at n (Behind caught handler l rs) (values ∷ h.names) [] late
      (ap (λ (xs : List (Option Value)). names_on xs) names ∙ names_more s.names.items added ∙ ap (λ (xs : List (Option CodeValue)). xs ++ names_on added) t.at.stand.stands.below.names
      ∙ ap (λ (ys : List (Option CodeValue)). (names_under ws ++ flat h.names) ++ ys) (caught_on caught u ds) ∙ append_assoc (names_under ws) (flat h.names) values)
      (handlers ∙ t.at.stand.stands.below.handlers ∙ ap (λ (hs : List Handler). handlers_under ws ++ hs) (sym (append-nil (handlers_of Base rs h.names))))
      frames (caught_many caught (value_of u) ds, t.at.stand.stands.below.fit) t.at.stand.stands.below.rounds
      (ap values_of operands ∙ t.values) refl place
      (subst (λ (us : List Value). AllKnown Known (values_of us)) (sym operands) t.known)
      (subst (λ (xs : List (Option Value)). AreNamesKnown Known xs) (sym names)
      (names_known_more Known s.names.items added t.at.stand.fits.names (names_known_more Known (caught_by (named caught) u) (replicate (length ds) None) (caught_known Known (named caught) u t.known_top) (unset_known Known (length ds)))))
      (landed.handles modules begins h.at (value_of u) caught handler l rs h.names (state w))

  -- what the code does
  abbrev Catches : Bool → ℕ → Machine → List Value → Value → Result Turn Stop → Type 0
  Catches b count late items u r = GoesTo n ((late.operands.items ≡ items) × (late.names.items ≡ s.names.items ++ (caught_by b u ++ replicate count None))) r

  by_place : (b : Bool) (count : ℕ) (caught : Option (List ℕ)) (handler : Stmts) (l : Left) (rs : List Round) (c : Row) → o.Caught b count ∷ c ≡ handled_row caught handler (names_of rs) (left_row l rs) → IsLeft Tree h.at h.function c n
      → (late : Machine) → (late.handlers.items ≡ s.handlers.items) × (late.frames.items ≡ s.frames.items) → (items : List Value) (u : Value) → Took (Handles caught handler l rs) items u → (result : Result Turn Stop) → Catches b count late items u result → Does result late
  by_place b count caught handler l rs c row place late same items u t result p =
      let whole = stmts_row ((caught_names caught ++ declared_in handler) ∷ names_of rs) handler (o.Leave (length (caught_names caught ++ declared_in handler)) (length (left_row l rs)) ∷ left_row l rs) in
      let is_named : b ≡ named caught = same_named b (named caught) count (length (declared_in handler)) c whole row in
      let many : count ≡ length (declared_in handler) = same_count b (named caught) count (length (declared_in handler)) c whole row in
      let rest : c ≡ whole = same_rest b (named caught) count (length (declared_in handler)) c whole row in
      changing.to_turns state modules linked begins Ready Keeps owns lawful w s f (n + 1) h ws n ((late.operands.items ≡ items) × (late.names.items ≡ s.names.items ++ (caught_by b u ++ replicate count None))) late
      (λ both. begun caught handler l rs items u t (same_left c whole rest place) late both.0 same.0 same.1
      (both.1 ∙ ap (λ (q : Bool). s.names.items ++ (caught_by q u ++ replicate count None)) is_named ∙ ap (λ (m : ℕ). s.names.items ++ (caught_by (named caught) u ++ replicate m None)) many))
      result p

  popped_by : (b : Bool) (count : ℕ) (caught : Option (List ℕ)) (handler : Stmts) (l : Left) (rs : List Round) (c : Row) → o.Caught b count ∷ c ≡ handled_row caught handler (names_of rs) (left_row l rs) → IsLeft Tree h.at h.function c n
      → (vs : List CodeValue) → Stands (Handles caught handler l rs) vs → (late : Machine) → (late.handlers.items ≡ s.handlers.items) × (late.frames.items ≡ s.frames.items) → (result : Result Turn Stop)
      → Popped s.operands.items (λ items u r. Catches b count late items u r) result → Does result late
  popped_by b count caught handler l rs c row place vs a late same (Ok t) p = by_place b count caught handler l rs c row place late same p.0 p.1 (took caught handler l rs vs a p.0 p.1 p.2) (Ok t) p.3
  popped_by b count caught handler l rs c row place vs a late same (Err (stops.Limit why)) p = by_place b count caught handler l rs c row place late same p.0 p.1 (took caught handler l rs vs a p.0 p.1 p.2) (Err (stops.Limit why)) p.3
  popped_by b count caught handler l rs c row place vs a late same (Err stops.Memory) p = tt

  handles : {q : Op} (b : Bool) (count : ℕ) (c : Next q) → c.operation ≡ o.Caught b count → (late : Machine) → (late.handlers.items ≡ s.handlers.items) × (late.frames.items ≡ s.frames.items) → (result : Result Turn Stop)
      → Popped s.operands.items (λ items u r. Catches b count late items u r) result → Does result late
  handles b count c is late same result p =
      let t = subst (λ (p : Operation). Told p c.rest c.spot) is c.tells in
      popped_by b count t.0 t.1 t.2 t.3 c.rest t.5 (literals.rest_left state modules linked begins Ready Keeps owns lawful w s f n h ws texts c) c.operands
      (coming.at_spot state modules linked begins Ready Keeps owns w s f (n + 1) h ws c.spot (Handles t.0 t.1 t.2 t.3) c.operands t.4 c.at) late same result p

  pub catch : (count : ℕ) (c : Next (op.Caught count)) (late : Machine) → (late.handlers.items ≡ s.handlers.items) × (late.frames.items ≡ s.frames.items) → (result : Result Turn Stop)
      → Popped s.operands.items (λ items u r. GoesTo n ((late.operands.items ≡ items) × (late.names.items ≡ s.names.items ++ (caught_by true u ++ replicate count None))) r) result → Does result late
  catch count c late same result p = handles true count c c.told late same result p

  pub catch_unnamed : (count : ℕ) (c : Next (op.CaughtUnnamed count)) (late : Machine) → (late.handlers.items ≡ s.handlers.items) × (late.frames.items ≡ s.frames.items) → (result : Result Turn Stop)
      → Popped s.operands.items (λ items u r. GoesTo n ((late.operands.items ≡ items) × (late.names.items ≡ s.names.items ++ (caught_by false u ++ replicate count None))) r) result → Does result late
  catch_unnamed count c late same result p = handles false count c c.told late same result p
