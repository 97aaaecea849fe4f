-- A statement takes its step.
use Rattle.std.proofs.Common.{◌≡◌, ℕ, ◌+◌, Bool, List, [], refl, sym, subst, ◌∙◌}
use Rattle.std.specs.Prelude.{Result, Ok, Err}
use Rattle.esm_base.specs.declared.limits.Limit.{Limit}
use Rattle.esm_tree.specs.Syntax as x
use Rattle.esm_tree.specs.Syntax.{Item, Init, absent, plain, awaited, Stmt, Stmts, no_more, first}
use Rattle.esm_env.specs.Modules.{Modules}
use Rattle.esm_values.specs.Code.{CodeValue}
use Rattle.esm_rewriting.specs.Rest.{Use as Purpose}
use Rattle.esm_rewriting.specs.State.{State, Importing, take_steps}
use Rattle.esm_rewriting.specs.Segment.{Ended as ended}
use Rattle.esm_rewriting.specs.declared.stop.Stop.{Stop}
use Rattle.esm_rewriting.specs.declared.stop.Stop.TheVariants as stops
use Rattle.esm_rows.specs.declared.op.Op.{Op}
use Rattle.esm_rows.specs.declared.op.Op.TheVariants as op
use Rattle.esm_row_laws.specs.Spots.{Left, left, Round, Spot, Between, spot_row}
use Rattle.esm_row_laws.specs.Rooms.{SpotHasRoom}
use Rattle.esm_row_laws.specs.Told.{Told}
use Rattle.esm_row_laws.specs.Beginnings.{begun_init, begun}
use Rattle.esm_row_laws.proofs.Beginning as beginning
use Rattle.esm_row_machine.specs.Functions.{Here, Waiter, rounds_at}
use Rattle.esm_row_machine.specs.Stacks.{HasNames, IsLeft}
use Rattle.esm_row_machine.specs.Outside.{Stays, Steps, modules_in}
use Rattle.esm_row_machine.specs.Turns.{GoesOn, Halts, Turned}
use Rattle.esm_row_machine.specs.declared.machine.Frame.{Frame}
use Rattle.esm_row_machine.specs.declared.machine.Machine.{Machine}
use Rattle.esm_row_machine.specs.declared.turn.Turn.{Turn}
use Rattle.esm_row_machine.specs.declared.turn.Turn.TheVariants as turn
use Rattle.esm_row_machine.proofs.Going.{IsLawful}
use Rattle.esm_row_machine.proofs.Coming as coming
use Rattle.esm_row_machine.proofs.Coming.{Comes, At, same_left}
use Rattle.esm_row_machine.proofs.Literals as literals
use Rattle.esm_row_machine.proofs.Staying as staying
use Rattle.esm_row_machine.proofs.Changing as changing

-- ---- the place behind the step

init_rounds : (value : Init) (purpose : Purpose) (l : Left) (rs : List Round) → rounds_at (begun_init value purpose l rs) ≡ rs
init_rounds absent purpose l rs = refl
init_rounds (plain e) purpose l rs = refl
init_rounds (awaited e) purpose l rs = refl

begun_rounds : (st : Stmt) (ss : Stmts) (rs : List Round) → rounds_at (begun st ss rs) ≡ rs
begun_rounds x.Empty ss rs = refl
begun_rounds (x.Expression e) ss rs = refl
begun_rounds (x.Assign name value) ss rs = init_rounds value _ (left no_more ss) rs
begun_rounds (x.Block inner) ss rs = refl
begun_rounds (x.If e inner) ss rs = refl
begun_rounds (x.IfElse e inner others) ss rs = refl
begun_rounds (x.Try inner handler) ss rs = refl
begun_rounds (x.TryCatch inner name handler) ss rs = refl
begun_rounds (x.Throw e) ss rs = refl
begun_rounds x.Return ss rs = refl
begun_rounds (x.ReturnValue e) ss rs = refl
begun_rounds (x.Await e) ss rs = refl
begun_rounds (x.PrintAwait e) ss rs = refl
begun_rounds (x.Const bs) ss rs = refl
begun_rounds (x.Let bs) ss rs = refl
begun_rounds (x.Default value) ss rs = init_rounds value _ (left no_more ss) rs

init_room : (value : Init) (purpose : Purpose) (l : Left) (rs : List Round) → SpotHasRoom {V = CodeValue} (begun_init value purpose l rs) []
init_room absent purpose l rs = refl
init_room (plain e) purpose l rs = refl
init_room (awaited e) purpose l rs = refl

begun_room : (st : Stmt) (ss : Stmts) (rs : List Round) → SpotHasRoom {V = CodeValue} (begun st ss rs) []
begun_room x.Empty ss rs = refl
begun_room (x.Expression e) ss rs = refl
begun_room (x.Assign name value) ss rs = init_room value _ (left no_more ss) rs
begun_room (x.Block inner) ss rs = refl
begun_room (x.If e inner) ss rs = refl
begun_room (x.IfElse e inner others) ss rs = refl
begun_room (x.Try inner handler) ss rs = refl
begun_room (x.TryCatch inner name handler) ss rs = refl
begun_room (x.Throw e) ss rs = refl
begun_room x.Return ss rs = refl
begun_room (x.ReturnValue e) ss rs = refl
begun_room (x.Await e) ss rs = refl
begun_room (x.PrintAwait e) ss rs = refl
begun_room (x.Const bs) ss rs = refl
begun_room (x.Let bs) ss rs = refl
begun_room (x.Default value) ss rs = init_room value _ (left no_more ss) rs

module _ {W S : Type 0} (state : W → State ℕ S) (modules : S → Modules ℕ) (linked : S → ℕ → Bool) (begins : Importing ℕ S)
    (Ready : W → Type 0) (Keeps : W → W → Type 0) where
  -- a step is taken
  abbrev pub StepsOn : W → ℕ → Result Turn Stop → W → Type 0
  StepsOn w left (Ok (turn.On n)) after = (n ≡ left) × Steps state modules linked begins Ready Keeps w (Ok tt) after
  StepsOn w left (Ok (turn.Calls count n)) after = ⊥
  StepsOn w left (Ok (turn.Returns v)) after = ⊥
  StepsOn w left (Ok (turn.Throws v)) after = ⊥
  StepsOn w left (Err stop) after = Steps state modules linked begins Ready Keeps w (Err stop) after

module _ {W S : Type 0} (state : W → State ℕ S) (modules : S → Modules ℕ) (linked : S → ℕ → Bool) (begins : Importing ℕ S)
    (Ready : W → Type 0) (Keeps : W → W → Type 0) (owns : S → ℕ → List (List ℕ)) (lawful : IsLawful state modules linked begins Ready Keeps owns)
    (w : W) (s : Machine) (f : Frame) (n : ℕ) (h : Here) (ws : List Waiter) (texts : List (List ℕ)) where
  abbrev Next : Op → Type 0
  Next q = Comes state modules linked begins Ready Keeps owns w s f n h ws texts q

  abbrev Stands : Spot → List CodeValue → Type 0
  Stands t vs = At state modules linked begins Ready Keeps owns w s f (n + 1) h ws t vs

  abbrev Tree : W → ℕ → List Item
  Tree a = (modules_in state modules linked begins Ready Keeps a).tree

  abbrev Row : Stmt → Stmts → List Round → Type 0
  Row st ss rs = IsLeft (Tree w) h.at h.function (spot_row (begun st ss rs)) n

  stepped : (st : Stmt) (ss : Stmts) (rs : List Round) → Stands (Between (left no_more (first st ss)) rs) [] → Row st ss rs → (after : W) → take_steps (state w) 1 ≡ (Ok tt, state after) → Ready after → Keeps w after
      → GoesOn state modules linked begins Ready Keeps owns w f h ws n after s
  stepped st ss rs a place after taken ready keeps =
      let st' : Stays state modules linked begins Ready Keeps owns w after = lawful.stays w after keeps in
      record {
        spot = begun st ss rs;
        vss = h.names;
        values = [];
        stands = record {
          stands = record {
            below = subst (λ (rs : List Round). HasNames (Tree after) s f h.at h.function rs h.names ws) (sym (begun_rounds st ss rs))
                (staying.names_stay state modules linked begins Ready Keeps owns w after st' s f h.at h.function rs h.names ws a.stand.fits.homes a.stand.stands.below);
            operands = a.stand.stands.operands;
            room = begun_room st ss rs;
            place = staying.left_stays state modules linked begins Ready Keeps owns w after st' h.at h.function (spot_row (begun st ss rs)) n a.stand.fits.home place;
          };
          fits = staying.fits_stay state modules linked begins Ready Keeps owns w after st' s h.at ws ready a.stand.fits;
        };
        leads = λ cs how end seg. a.leads cs how end (beginning.steps modules begins h.at rs h.names st ss (state w) (state after) taken cs how end seg);
        keeps = keeps;
      }

  stopped : (st : Stmt) (ss : Stmts) (rs : List Round) → Stands (Between (left no_more (first st ss)) rs) [] → (why : Limit) (after : W) → take_steps (state w) 1 ≡ (Err why, state after) → Keeps w after
      → Halts state modules linked begins Ready Keeps owns w h why after
  stopped st ss rs a why after taken keeps = record {
    stops = λ cs. a.leads cs (ended.Stopped why) (state after) (beginning.stops modules begins h.at rs h.names st ss (state w) (state after) why taken cs);
    keeps = keeps;
  }

  by_result : (st : Stmt) (ss : Stmts) (rs : List Round) → Stands (Between (left no_more (first st ss)) rs) [] → Row st ss rs → (after : W) (result : Result Turn Stop) → StepsOn state modules linked begins Ready Keeps w n result after
      → Turned state modules linked begins Ready Keeps owns w f h ws result after s
  by_result st ss rs a place after (Ok (turn.On m)) p =
      let t = p.1 a.stand.fits.is_ready in
      subst (λ (q : ℕ). GoesOn state modules linked begins Ready Keeps owns w f h ws q after s) (sym p.0) (stepped st ss rs a place after t.0 t.1.is_ready t.1.keeps)
  by_result st ss rs a place after (Ok (turn.Calls count m)) p = absurd p
  by_result st ss rs a place after (Ok (turn.Returns u)) p = absurd p
  by_result st ss rs a place after (Ok (turn.Throws u)) p = absurd p
  by_result st ss rs a place after (Err (stops.Limit why)) p = let t = p a.stand.fits.is_ready in stopped st ss rs a why after t.0 t.1
  by_result st ss rs a place after (Err stops.Memory) p = tt

  pub step : (c : Next op.Step) (after : W) (result : Result Turn Stop) → StepsOn state modules linked begins Ready Keeps w n result after
      → Turned state modules linked begins Ready Keeps owns w f h ws result after s
  step c after result p =
      let t = subst (λ o. Told o c.rest c.spot) c.told c.tells in
      let at = coming.at_spot state modules linked begins Ready Keeps owns w s f (n + 1) h ws c.spot (Between (left no_more (first t.0 t.1)) t.2) c.operands t.3 c.at in
      by_result t.0 t.1 t.2
      (changing.bare state modules linked begins Ready Keeps owns lawful w s f (n + 1) h ws (Between (left no_more (first t.0 t.1)) t.2) c.operands at.stand.stands.room at)
      (same_left c.rest (spot_row (begun t.0 t.1 t.2)) (sym t.4 ∙ sym (beginning.row t.0 t.1 t.2)) (literals.rest_left state modules linked begins Ready Keeps owns lawful w s f n h ws texts c))
      after result p
