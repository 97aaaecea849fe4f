-- Operations that are done in the loop over rows, and calls and ends of functions where the frame is changed in its place.
use Rattle.std.proofs.Common.{◌≡◌, ◌<◌, ◌≤◌, ℕ, ◌+◌, Bool, List, [], ◌∷◌, ◌++◌, length, take, Some, refl, sym, subst, ◌∙◌, arith}
use Rattle.std.specs.Prelude.{Result, Ok, Err, Option, None, slice_get}
use Rattle.std.specs.Borrow.{Bor}
use Rattle.esm_base.specs.declared.limits.Limit.{Limit}
use Rattle.esm_base.specs.declared.limits.TheConstants.{MAX_CALL_DEPTH}
use Rattle.esm_env.specs.Modules.{Modules}
use Rattle.esm_values.specs.Code.{value_of}
use Rattle.esm_values.specs.declared.value.FuncId.{FuncId}
use Rattle.esm_values.specs.declared.value.Value.{Value}
use Rattle.esm_values.specs.declared.value.Value.TheVariants as values
use Rattle.esm_rewriting.specs.State.{State, Importing}
use Rattle.esm_rewriting.specs.Segment.{Active, Ended}
use Rattle.esm_rewriting.specs.Segment.{Ended as ended}
use Rattle.esm_rewriting.specs.declared.stop.Stop.{Stop}
use Rattle.esm_rewriting.specs.declared.stop.Stop.TheVariants as stops
use Rattle.esm_rows.specs.declared.op.Op.{Op}
use Rattle.esm_rows.specs.declared.op.Op.TheVariants as op
use Rattle.esm_rows.specs.declared.row.Row.{Row}
use Rattle.esm_row_machine.specs.Functions.{Here, Waiter, moved, callers}
use Rattle.esm_row_machine.specs.Tables.{row_in}
use Rattle.esm_row_machine.specs.Outside.{Steps, ReadsPlace}
use Rattle.esm_row_machine.specs.Asking.{Heard}
use Rattle.esm_row_machine.specs.Changes.{Popped, Gives}
use Rattle.esm_row_machine.specs.Entering.{Begun, Entered, IsCallee}
use Rattle.esm_row_machine.specs.Turns.{Stands, CallsHere, GivesBack, Turned, TurnsOn}
use Rattle.esm_row_machine.specs.Follows.{Followed, FollowsTurn, HaltsAll, RowsFit, SegmentOf}
use Rattle.esm_row_machine.specs.Shortcuts.{at_left, some_row, HasRow, IsOnward, LeadsOn, IsTold, EntersHere, GivenHere, Gone, FollowsAs, FollowsOp, LeavesFrom, GoesFrom}
use Rattle.esm_row_machine.specs.declared.machine.Frame.{Frame}
use Rattle.esm_row_machine.specs.declared.machine.Machine.{Machine}
use Rattle.esm_row_machine.specs.declared.rows.Rows.{Rows}
use Rattle.esm_row_machine.specs.declared.turn.Turn.{Turn}
use Rattle.esm_row_machine.specs.declared.turn.Turn.TheVariants as turn
use Rattle.esm_row_machine.specs.declared.runs.Next.{Next}
use Rattle.esm_row_machine.specs.declared.runs.Next.TheVariants as next
use Rattle.esm_row_machine.proofs.Going.{IsLawful}
use Rattle.esm_row_machine.proofs.Coming.{Comes, comes}
use Rattle.esm_row_machine.proofs.Literals.{with_operands}
use Rattle.esm_row_machine.proofs.Followed.{FollowsOn}
use Rattle.esm_row_machine.proofs.Followed as followed
use Rattle.esm_row_machine.proofs.Returned as returned
use Rattle.esm_row_machine.proofs.Called as called
use Rattle.esm_row_machine.proofs.Stepping as stepping
use Rattle.esm_row_machine.proofs.ReadNames as read_names
use Rattle.esm_row_machine.proofs.Deciding as deciding
use Rattle.esm_row_machine.proofs.Leaving as leaving
use Rattle.esm_row_machine.proofs.AtCall as at_call

-- ---- the row of a function that begins in the place of the one that called it

pub has_row : (s : Machine) (row : Row) (f : Frame) (function : FuncId) (count : ℕ) (g : Frame) (late : Machine) → Entered s row f function count g late
    → (rows : Rows) → row_in rows function.module.0 function.index ≡ Some row → HasRow rows g row
has_row s row f function count g late e rows there = record {
  there = (λ i. row_in rows (e.enters.home i).0 (e.enters.number i)) ∙ there;
  within = omega (arith, e.enters.left);
}

-- the row of the function that waited
pub given_told : {W : Type 0} (w : W) (s : Machine) (f : Frame) (late : Machine) (rows : Rows) (us : List Value) (q : Frame) (v : Value) (result : Result (Bor Row) Stop) (g : Frame) (vs : List Value) → GivenHere rows us q v result g vs
    → IsTold rows w s f (some_row result) w late g
given_told w s f late rows us q v (Ok r) g vs p = p.1
given_told w s f late rows us q v (Err stop) g vs p = tt

-- ---- turns that lead no further than so many operations

pub onward_leads : (left : ℕ) (t : Turn) (result : Result Turn Stop) → IsOnward left t result → LeadsOn left result
onward_leads left t (Ok u) p = p.1
onward_leads left t (Err stop) p = tt

-- ---- the loop over rows

module _ {W S : Type 0} (state : W → State ℕ S) (modules : S → Modules ℕ) (linked : S → ℕ → Bool) (begins : Importing ℕ S)
    (Ready : W → Type 0) (Keeps : W → W → Type 0) (owns : S → ℕ → List (List ℕ)) where
  -- this function stands here, and what is left leads where the whole leads
  pub record Reaches (w : W) (h : Here) (ws : List Waiter) (body : Active ℕ) (g : Frame) (left : ℕ) (after : W) (late : Machine)
      : Type 0 where
    pub there : Here
    pub waiters : List Waiter
    pub stands : Stands state modules linked begins Ready Keeps owns after late g left there waiters
    pub leads : (how : Ended ℕ) (end : State ℕ S)
        → SegmentOf state modules linked begins Ready Keeps owns after there waiters body how end
        → SegmentOf state modules linked begins Ready Keeps owns w h ws body how end
    pub keeps : Keeps w after

  -- the function that runs, and what is left of its row, lead where the whole leads
  pub record Amid (w : W) (s : Machine) (rows : Rows) (f g : Frame) (row : Row) (left : ℕ) (now : W) (late : Machine) : Type 0 where
    pub way : (h : Here) (ws : List Waiter) (body : Active ℕ) → Stands state modules linked begins Ready Keeps owns w s f f.left h ws
        → RowsFit state modules linked begins Ready Keeps owns w rows → Reaches w h ws body g left now late
    pub there : row_in rows g.at.0 g.function ≡ Some row
    pub within : left ≤ length row.ops.items

module _ {W S : Type 0} (state : W → State ℕ S) (modules : S → Modules ℕ) (linked : S → ℕ → Bool) (begins : Importing ℕ S)
    (Ready : W → Type 0) (Keeps : W → W → Type 0) (owns : S → ℕ → List (List ℕ)) (lawful : IsLawful state modules linked begins Ready Keeps owns) where
  abbrev Stand : W → Machine → Frame → ℕ → Here → List Waiter → Type 0
  Stand w s f n h ws = Stands state modules linked begins Ready Keeps owns w s f n h ws

  abbrev Turns : W → Machine → Frame → ℕ → Row → Result Turn Stop → W → Machine → Type 0
  Turns w s f left row result after late = TurnsOn state modules linked begins Ready Keeps owns w s f left row result after late

  abbrev Fit : W → Rows → Type 0
  Fit w rows = RowsFit state modules linked begins Ready Keeps owns w rows

  abbrev Gone_so : W → Here → List Waiter → Active ℕ → Result (Option (Bor Row)) Stop → W → Machine → Frame → Type 0
  Gone_so w h ws body result after late g = Gone state modules linked begins Ready Keeps owns w h ws body result after late g

  abbrev Leads_in : W → Here → List Waiter → W → Here → List Waiter → Active ℕ → Type 0
  Leads_in w h ws from there waiters body = (how : Ended ℕ) (end : State ℕ S) → SegmentOf state modules linked begins Ready Keeps owns from there waiters body how end → SegmentOf state modules linked begins Ready Keeps owns w h ws body how end

  abbrev Takes : W → Result (Unit {0}) Stop → W → Type 0
  Takes w result after = Steps state modules linked begins Ready Keeps w result after

  -- ---- operations in the loop

  -- where an operation is the next one, what it comes to is what a turn comes to
  by_op : (w : W) (s : Machine) (f : Frame) (left behind : ℕ) (row : Row) (q : Op) → behind + 1 ≡ left → slice_get row.ops.items behind ≡ Some q → (result : Result Turn Stop) (after : W) (late : Machine)
      → ((h : Here) (ws : List Waiter) → Comes state modules linked begins Ready Keeps owns w s f behind h ws row.texts.items q → Turned state modules linked begins Ready Keeps owns w f h ws result after late)
      → Turns w s f left row result after late
  by_op w s f left behind row q e at result after late k h ws st is =
      k h ws (comes state modules linked begins Ready Keeps owns w s f behind h ws row q (subst (λ (n : ℕ). Stand w s f n h ws) (sym e) st) is at)

  module _ (w : W) (s : Machine) (f : Frame) (left behind : ℕ) (row : Row) (e : behind + 1 ≡ left) where
    pub turn_steps : slice_get row.ops.items behind ≡ Some op.Step → (after : W) → Takes w (Ok tt) after → Turns w s f left row (Ok (turn.On behind)) after s
    turn_steps at after t =
        by_op w s f left behind row op.Step e at (Ok (turn.On behind)) after s
        (λ h ws c. stepping.step state modules linked begins Ready Keeps owns lawful w s f behind h ws row.texts.items c after (Ok (turn.On behind)) (refl, t))

    pub turn_stops : slice_get row.ops.items behind ≡ Some op.Step → (stop : Stop) (after : W) → Takes w (Err stop) after → Turns w s f left row (Err stop) after s
    turn_stops at stop after t =
        by_op w s f left behind row op.Step e at (Err stop) after s
        (λ h ws c. stepping.step state modules linked begins Ready Keeps owns lawful w s f behind h ws row.texts.items c after (Err stop) t)

    -- the value of a name of the module, as the operation would have it
    pub turn_reads : (k : ℕ) → slice_get row.ops.items behind ≡ Some (op.Own k) → (after : W) (late : Machine) → with_operands s late → (result : Result Turn Stop)
        → Heard s.operands.items (λ told. ReadsPlace state modules linked begins Ready Keeps owns w f.at.0 k told after) behind result late.operands.items → Turns w s f left row result after late
    turn_reads k at after late same result p =
        by_op w s f left behind row (op.Own k) e at result after late
        (λ h ws c. read_names.read_own state modules linked begins Ready Keeps owns lawful w s f behind h ws row.texts.items k c after late same result p)

    -- the same, of the module that is named
    pub turn_names : (home : ℕ) → f.at.0 ≡ home → (k : ℕ) → slice_get row.ops.items behind ≡ Some (op.Own k) → (after : W) (late : Machine) → with_operands s late → (result : Result Turn Stop)
        → Heard s.operands.items (λ told. ReadsPlace state modules linked begins Ready Keeps owns w home k told after) behind result late.operands.items → Turns w s f left row result after late
    turn_names home same_home k at after late same result p =
        turn_reads k at after late same result (subst (λ (m : ℕ). Heard s.operands.items (λ told. ReadsPlace state modules linked begins Ready Keeps owns w m k told after) behind result late.operands.items) (sym same_home) p)

    pub turn_drops : slice_get row.ops.items behind ≡ Some op.Drop → (v : Value) (late : Machine) → with_operands s late → s.operands.items ≡ late.operands.items ++ v ∷ [] → Turns w s f left row (Ok (turn.On behind)) w late
    turn_drops at v late same popped =
        by_op w s f left behind row op.Drop e at (Ok (turn.On behind)) w late
        (λ h ws c. deciding.drop state modules linked begins Ready Keeps owns lawful w s f behind h ws row.texts.items c late same (Ok (turn.On behind)) (late.operands.items, v, popped, (refl, refl)))

    pub turn_calls : (count : ℕ) → slice_get row.ops.items behind ≡ Some (op.Call count) → Turns w s f left row (Ok (turn.Calls count behind)) w s
    turn_calls count at =
        by_op w s f left behind row (op.Call count) e at (Ok (turn.Calls count behind)) w s
        (λ h ws c. at_call.call state modules linked begins Ready Keeps owns lawful w s f behind h ws row.texts.items count c)

    pub turn_ends : slice_get row.ops.items behind ≡ Some op.End → Turns w s f left row (Ok (turn.Returns values.Undefined)) w s
    turn_ends at =
        by_op w s f left behind row op.End e at (Ok (turn.Returns values.Undefined)) w s
        (λ h ws c. leaving.end state modules linked begins Ready Keeps owns lawful w s f behind h ws row.texts.items c)

    pub turn_returns : slice_get row.ops.items behind ≡ Some op.Return → (late : Machine) → with_operands s late → (result : Result Turn Stop) → Popped s.operands.items (λ items u r. Gives items u r late.operands.items) result → Turns w s f left row result w late
    turn_returns at late same result p =
        by_op w s f left behind row op.Return e at result w late
        (λ h ws c. leaving.give state modules linked begins Ready Keeps owns lawful w s f behind h ws row.texts.items c late same result p)

    -- what any operation comes to, where so many are left with it
    pub turn_any : (result : Result Turn Stop) (after : W) (late : Machine) → Turns w s f (behind + 1) row result after late → Turns w s f left row result after late
    turn_any result after late t = subst (λ (n : ℕ). Turns w s f n row result after late) e t

  pub onward_turns : (w : W) (s : Machine) (f : Frame) (left : ℕ) (row : Row) (t : Turn) (after : W) (late : Machine) → Turns w s f (left + 1) row (Ok t) after late → (result : Result Turn Stop) → IsOnward left t result
      → Turns w s f (left + 1) row result after late
  onward_turns w s f left row t after late turns (Ok u) p = subst (λ (q : Turn). Turns w s f (left + 1) row (Ok q) after late) (sym p.0) turns
  onward_turns w s f left row t after late turns (Err (stops.Limit why)) p = absurd p
  onward_turns w s f left row t after late turns (Err stops.Memory) p = λ h ws st is. tt

  -- ---- calls

  module _ (w0 : W) (h : Here) (ws : List Waiter) (body : Active ℕ) (w : W) (s : Machine) (f : Frame) (count left : ℕ) (c : CallsHere state modules linked begins Ready Keeps owns w0 f h ws count left w s) where
    abbrev waits_at : CallsHere state modules linked begins Ready Keeps owns w0 (at_left f left) h ws count left w s
    waits_at = followed.calls_left state modules linked begins Ready Keeps owns w0 f h ws count left w s c

    -- its step is one too many
    pub call_stops : (stop : Stop) (after : W) (late : Machine) (g : Frame) → Takes w (Err stop) after → Gone_so w0 h ws body (Err stop) after late g
    call_stops (stops.Limit why) after late g t =
        called.step_stops state modules linked begins Ready Keeps owns lawful w0 h ws body w s (at_left f left) count waits_at (stops.Limit why) after late t
    call_stops stops.Memory after late g t = tt

    -- the function begins
    pub call_begins : (mid : W) → Takes w (Ok tt) mid → (id : FuncId) → IsCallee s.operands.items count (Some id) → length s.frames.items + 1 < MAX_CALL_DEPTH → (rows : Rows) → Fit w rows → (row : Row)
        → row_in rows id.module.0 id.index ≡ Some row → (r : Bor Row) (g : Frame) (late : Machine) → Entered s row (at_left f left) id count g late
        → Gone_so w0 h ws body (Ok (Some r)) mid late g
    call_begins mid t id k few rows fit row there r g late enters =
        let u = t c.fits.is_ready in
        let b : Begun s rows (at_left f left) id count g late = record { row = row; there = there; entered = enters } in
        (called.called_follows state modules linked begins Ready Keeps owns lawful w0 h ws body w s (at_left f left) count waits_at mid u.0 u.1 id k.0 k.1 k.2 k.3 few rows rows fit (Ok (next.Goes g)) late
        (b, λ ready home fits. fits)).0

  -- nothing but want of memory keeps it from beginning
  pub call_lacks : (w0 : W) (h : Here) (ws : List Waiter) (body : Active ℕ) (s : Machine) (row : Row) (f1 : Frame) (id : FuncId) (count : ℕ) (stop : Stop) (after : W) (g : Frame) (late : Machine)
      → EntersHere s row f1 id count (Err stop) g late → Gone_so w0 h ws body (Err stop) after late g
  call_lacks w0 h ws body s row f1 id count (stops.Limit why) after g late enters = absurd enters
  call_lacks w0 h ws body s row f1 id count stops.Memory after g late enters = tt

  -- ---- ends

  module _ (w0 w : W) (h : Here) (ws : List Waiter) (body : Active ℕ) (s late : Machine) (f : Frame) (v : Value) (names : late.names.items ≡ take f.names s.names.items)
      (handlers : late.handlers.items ≡ take f.handlers s.handlers.items) (gives : GivesBack state modules linked begins Ready Keeps owns w0 f h ws (value_of v) w s) where
    -- a function waited for the value, and goes on
    pub end_goes_on : (q : Frame) → s.frames.items ≡ late.frames.items ++ q ∷ [] → (rows : Rows) (result : Result (Bor Row) Stop) (g : Frame) → GivenHere rows s.operands.items q v result g late.operands.items
        → Gone_so w0 h ws body (some_row result) w late g
    end_goes_on q frames rows (Ok r) g p = returned.to_caller state modules linked begins Ready Keeps owns w0 w h ws body s late f v names handlers gives q frames (Ok (next.Goes g)) p.0
    end_goes_on q frames rows (Err (stops.Limit why)) g p = absurd p.0
    end_goes_on q frames rows (Err stops.Memory) g p = tt

  abbrev Op_so : W → Machine → Rows → Frame → Op → ℕ → Result (Option (Bor Row)) Stop → W → Machine → Frame → Type 0
  Op_so w s rows f o left result after late g = FollowsOp state modules linked begins Ready Keeps owns w s rows f o left result after late g

  -- the value on top is given
  pub returns_op : (w : W) (s mid : Machine) (rows : Rows) (f : Frame) (v : Value) → with_operands s mid → s.operands.items ≡ mid.operands.items ++ v ∷ [] → (result : Result (Option (Bor Row)) Stop) (late : Machine) (g : Frame)
      → FollowsAs state modules linked begins Ready Keeps owns (turn.Returns v) w mid rows f result w late g → (left : ℕ) → Op_so w s rows f op.Return left result w late g
  returns_op w s mid rows f v same popped result late g k left row h ws body at st is fit =
      k w h ws body (turn_returns w s f (left + 1) left row refl at mid same (Ok (turn.Returns v)) (mid.operands.items, v, popped, (refl, refl)) h ws st is) fit

  pub calls_op : (w : W) (s : Machine) (rows : Rows) (f : Frame) (count left : ℕ) (result : Result (Option (Bor Row)) Stop) (after : W) (late : Machine) (g : Frame)
      → FollowsAs state modules linked begins Ready Keeps owns (turn.Calls count left) w s rows f result after late g → Op_so w s rows f (op.Call count) left result after late g
  calls_op w s rows f count left result after late g k row h ws body at st is fit = k w h ws body (turn_calls w s f (left + 1) left row refl count at h ws st is) fit

  pub ends_op : (w : W) (s : Machine) (rows : Rows) (f : Frame) (result : Result (Option (Bor Row)) Stop) (late : Machine) (g : Frame)
      → FollowsAs state modules linked begins Ready Keeps owns (turn.Returns values.Undefined) w s rows f result w late g → (left : ℕ) → Op_so w s rows f op.End left result w late g
  ends_op w s rows f result late g k left row h ws body at st is fit = k w h ws body (turn_ends w s f (left + 1) left row refl at h ws st is) fit

  -- ---- the loop over rows

  pub amid_starts : (w : W) (s : Machine) (rows : Rows) (f : Frame) (row : Row) → HasRow rows f row → Amid state modules linked begins Ready Keeps owns w s rows f f row f.left w s
  amid_starts w s rows f row k = record {
    way = λ h ws body st fit. record { there = h; waiters = ws; stands = st; leads = λ how end seg. seg; keeps = lawful.itself w };
    there = k.there;
    within = k.within;
  }

  -- a limit behind what was before
  halts_behind : (w : W) (h : Here) (ws : List Waiter) (body : Active ℕ) (from : W) (there : Here) (waiters : List Waiter) → Leads_in w h ws from there waiters body → Keeps w from → (why : Limit) (after : W)
      → HaltsAll state modules linked begins Ready Keeps owns from there waiters body why after → HaltsAll state modules linked begins Ready Keeps owns w h ws body why after
  halts_behind w h ws body from there waiters leads keeps why after k = record { stops = leads (ended.Stopped why) (state after) k.stops; keeps = lawful.both w from after keeps k.keeps }

  module _ (w : W) (s : Machine) (rows : Rows) (f g : Frame) (row : Row) (left : ℕ) (now : W) (late : Machine) (m : Amid state modules linked begins Ready Keeps owns w s rows f g row left now late) where
    abbrev Goes_from : Result Turn Stop → W → Machine → Frame → Type 0
    Goes_from result after end q = GoesFrom state modules linked begins Ready Keeps owns w s rows f result after end q

    abbrev Way : Here → List Waiter → Active ℕ → Type 0
    Way h ws body = Reaches state modules linked begins Ready Keeps owns w h ws body g left now late

    fit_now : (h : Here) (ws : List Waiter) (body : Active ℕ) → Way h ws body → Fit w rows → Fit now rows
    fit_now h ws body p fit = followed.rows_stay state modules linked begins Ready Keeps owns lawful w now rows p.keeps fit

    -- what an operation comes to, where the function stands now
    turned_at : (h : Here) (ws : List Waiter) (body : Active ℕ) (p : Way h ws body) → Fit w rows → (result : Result Turn Stop) (after : W) (end : Machine) → Turns now late g left row result after end
        → Turned state modules linked begins Ready Keeps owns now g p.there p.waiters result after end
    turned_at h ws body p fit result after end t =
        t p.there p.waiters p.stands
        (followed.row_of state modules linked begins Ready Keeps owns now late g left p.there p.waiters rows row p.stands (fit_now h ws body p fit) m.there)

    -- the function goes on
    pub amid_goes : (n : ℕ) (after : W) (end : Machine) → n ≤ left → Turns now late g left row (Ok (turn.On n)) after end → Amid state modules linked begins Ready Keeps owns w s rows f g row n after end
    amid_goes n after end few t = record {
      way = λ h ws body st fit.
          let p = m.way h ws body st fit in
          let u = turned_at h ws body p fit (Ok (turn.On n)) after end t in
          record {
            there = moved p.there u.spot u.vss u.values;
            waiters = p.waiters;
            stands = u.stands;
            leads = λ how end seg. p.leads how end (u.leads (callers modules begins p.waiters ++ body ∷ []) how end seg);
            keeps = lawful.both w now after p.keeps u.keeps;
          };
      there = m.there;
      within = omega (arith, few, m.within);
    }

    -- it leaves its row
    pub amid_leaves : (t : Turn) (after : W) (end : Machine) → Turns now late g left row (Ok t) after end → Goes_from (Ok t) after end g
    amid_leaves t after end u h ws body st fit =
        let p = m.way h ws body st fit in
        record { from = now; there = p.there; waiters = p.waiters; turned = turned_at h ws body p fit (Ok t) after end u; leads = p.leads; keeps = p.keeps }

    pub amid_stops : (stop : Stop) (after : W) (end : Machine) → Turns now late g left row (Err stop) after end → Goes_from (Err stop) after end g
    amid_stops (stops.Limit why) after end u h ws body st fit =
        let p = m.way h ws body st fit in
        halts_behind w h ws body now p.there p.waiters p.leads p.keeps why after
        (followed.halts_all state modules linked begins Ready Keeps owns now g p.there p.waiters body (stops.Limit why) after end end (turned_at h ws body p fit (Err (stops.Limit why)) after end u))
    amid_stops stops.Memory after end u h ws body st fit = tt

    pub amid_over : (result : Result Turn Stop) (after : W) (end : Machine) → Turns now late g left row result after end → Goes_from result after end g
    amid_over (Ok t) after end u = amid_leaves t after end u
    amid_over (Err stop) after end u = amid_stops stop after end u

    module _ (behind : ℕ) (e : behind + 1 ≡ left) (o : Op) (at : slice_get row.ops.items behind ≡ Some o) where
      abbrev Leaving : Result (Option (Bor Row)) Stop → W → Machine → Frame → Type 0
      Leaving result after end q = LeavesFrom state modules linked begins Ready Keeps owns now late rows g o behind result after end q

      gone_at : (h : Here) (ws : List Waiter) (body : Active ℕ) (p : Way h ws body) → Fit w rows → (result : Result (Option (Bor Row)) Stop) (after : W) (end : Machine) (q : Frame) → Leaving result after end q
          → Gone_so now p.there p.waiters body result after end q
      gone_at h ws body p fit result after end q k =
          k.1 row p.there p.waiters body at (subst (λ (n : ℕ). Stand now late g n p.there p.waiters) (sym e) p.stands)
          (followed.row_of state modules linked begins Ready Keeps owns now late g left p.there p.waiters rows row p.stands (fit_now h ws body p fit) m.there) (fit_now h ws body p fit)

      -- another function runs from here on
      pub amid_moves : (r : Bor Row) (after : W) (end : Machine) (q : Frame) → Leaving (Ok (Some r)) after end q → Amid state modules linked begins Ready Keeps owns w s rows f q r.now q.left after end
      amid_moves r after end q k = record {
        way = λ h ws body st fit.
            let p = m.way h ws body st fit in
            let x = gone_at h ws body p fit (Ok (Some r)) after end q k in
            record {
              there = x.there;
              waiters = x.waiters;
              stands = x.stands;
              leads = λ how end seg. p.leads how end (x.leads how end seg);
              keeps = lawful.both w now after p.keeps x.keeps;
            };
        there = k.0.there;
        within = k.0.within;
      }

      -- nothing was done, and this is what the operation comes to
      pub amid_declines : (after : W) (end : Machine) (q : Frame) → Leaving (Ok None) after end q → (result : Result Turn Stop) (last : W) (most : Machine) → Turns after end q (behind + 1) row result last most → Goes_from result last most q
      amid_declines after end q k result last most t =
          let t1 : Turns now end q (behind + 1) row result last most = subst (λ (a : W). Turns a end q (behind + 1) row result last most) k.0.world t in
          let t2 : Turns now late q (behind + 1) row result last most = subst (λ (a : Machine). Turns now a q (behind + 1) row result last most) k.0.stacks t1 in
          let t3 : Turns now late g (behind + 1) row result last most = subst (λ (a : Frame). Turns now late a (behind + 1) row result last most) k.0.frame t2 in
          subst (λ (a : Frame). Goes_from result last most a) (sym k.0.frame)
          (amid_over result last most (subst (λ (n : ℕ). Turns now late g n row result last most) e t3))

      pub amid_halts : (stop : Stop) (after : W) (end : Machine) (q : Frame) → Leaving (Err stop) after end q → Goes_from (Err stop) after end q
      amid_halts (stops.Limit why) after end q k h ws body st fit =
          let p = m.way h ws body st fit in
          halts_behind w h ws body now p.there p.waiters p.leads p.keeps why after (gone_at h ws body p fit (Err (stops.Limit why)) after end q k)
      amid_halts stops.Memory after end q k h ws body st fit = tt

  -- ---- what follows, behind what was before

  follows_behind : (w : W) (h : Here) (ws : List Waiter) (body : Active ℕ) (from : W) (there : Here) (waiters : List Waiter) → Leads_in w h ws from there waiters body → Keeps w from
      → (result : Result Next Stop) (after : W) (late : Machine) → Followed state modules linked begins Ready Keeps owns from there waiters body result after late
      → Followed state modules linked begins Ready Keeps owns w h ws body result after late
  follows_behind w h ws body from there waiters leads keeps (Ok (next.Goes g)) after late q = record {
    there = q.there;
    waiters = q.waiters;
    stands = q.stands;
    leads = λ how end seg. leads how end (q.leads how end seg);
    keeps = lawful.both w from after keeps q.keeps;
  }
  follows_behind w h ws body from there waiters leads keeps (Ok (next.Gave v)) after late q =
      record { leads = λ how end seg. leads how end (q.leads how end seg); known = q.known; is_ready = q.is_ready; keeps = lawful.both w from after keeps q.keeps }
  follows_behind w h ws body from there waiters leads keeps (Ok (next.Thrown v)) after late q =
      record { leads = λ how end seg. leads how end (q.leads how end seg); known = q.known; is_ready = q.is_ready; keeps = lawful.both w from after keeps q.keeps }
  follows_behind w h ws body from there waiters leads keeps (Err (stops.Limit why)) after late q = halts_behind w h ws body from there waiters leads keeps why after q
  follows_behind w h ws body from there waiters leads keeps (Err stops.Memory) after late q = tt

  module _ (w : W) (s : Machine) (rows : Rows) (f g : Frame) (mid : W) (m : Machine) where
    abbrev Goes : Result Turn Stop → Type 0
    Goes result = GoesFrom state modules linked begins Ready Keeps owns w s rows f result mid m g

    abbrev On : Result Next Stop → W → Machine → Rows → Type 0
    On result after late tables = FollowsOn state modules linked begins Ready Keeps owns w s rows f result after late tables

    -- a limit was passed
    pub stops_on : (stop : Stop) → Goes (Err stop) → On (Err stop) mid m rows
    stops_on (stops.Limit why) k h ws body st fit = (k h ws body st fit, tt)
    stops_on stops.Memory k h ws body st fit = (tt, tt)

    -- a function has left its row, and this follows
    pub leaves_on : (t : Turn) → Goes (Ok t) → (result : Result Next Stop) (after : W) (late : Machine) (tables : Rows)
        → FollowsTurn state modules linked begins Ready Keeps owns mid m rows g t result after late tables → On result after late tables
    leaves_on t k result after late tables follows h ws body st fit =
        let p = k h ws body st fit in
        let kept : Keeps w mid = lawful.both w p.from mid p.keeps (followed.turned_keeps state modules linked begins Ready Keeps owns p.from g p.there p.waiters t mid m p.turned) in
        let q = follows p.from p.there p.waiters body p.turned (followed.rows_stay state modules linked begins Ready Keeps owns lawful w mid rows kept fit) in
        (follows_behind w h ws body p.from p.there p.waiters p.leads p.keeps result after late q.0, q.1)
