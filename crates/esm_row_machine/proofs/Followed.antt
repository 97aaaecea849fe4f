-- What follows operations of a row, and what follows that.
use Rattle.std.proofs.Common.{◌≡◌, ℕ, Bool, List, [], ◌∷◌, ◌++◌, Some, ap, sym, subst, ◌∙◌}
use Rattle.std.specs.Prelude.{Result, Ok, Err, OnOk}
use Rattle.esm_tree.specs.Syntax.{Item}
use Rattle.esm_env.specs.Modules.{Modules}
use Rattle.esm_env.specs.Declarations.{function_at}
use Rattle.esm_values.specs.Code.{CodeValue, value_of}
use Rattle.esm_values.specs.declared.value.Value.{Value}
use Rattle.esm_expr_eval.specs.Terms.{Term}
use Rattle.esm_expr_eval.specs.Terms.Term.{Val, Fails}
use Rattle.esm_rewriting.specs.State.{State, Importing}
use Rattle.esm_rewriting.specs.Segment.{Active}
use Rattle.esm_rewriting.specs.Segment.{Ended as ended}
use Rattle.esm_rewriting.specs.declared.stop.Stop.{Stop}
use Rattle.esm_rewriting.specs.declared.stop.Stop.TheVariants as stops
use Rattle.esm_rows.specs.Functions.{IsRow}
use Rattle.esm_rows.specs.declared.row.Row.{Row}
use Rattle.esm_row_laws.specs.Spots.{Round}
use Rattle.esm_row_laws.specs.Operations.{Values}
use Rattle.esm_row_machine.specs.Functions.{Here, Waiter, moved, callers}
use Rattle.esm_row_machine.specs.Stacks.{HasNames, IsFrame}
use Rattle.esm_row_machine.specs.Outside.{modules_in}
use Rattle.esm_row_machine.specs.Tables.{row_in}
use Rattle.esm_row_machine.specs.Turns.{Stands, GoesOn, CallsHere, Turned, IsRowOf}
use Rattle.esm_row_machine.specs.Follows.{Proceeds, IsDone, Followed, RowsFit, Runs}
use Rattle.esm_row_machine.specs.Shortcuts.{at_left}
use Rattle.esm_row_machine.specs.declared.machine.Frame.{Frame}
use Rattle.esm_row_machine.specs.declared.machine.Machine.{Machine}
use Rattle.esm_row_machine.specs.declared.turn.Turn.{Turn}
use Rattle.esm_row_machine.specs.declared.turn.Turn.TheVariants as turn
use Rattle.esm_row_machine.specs.declared.runs.Next.{Next}
use Rattle.esm_row_machine.specs.declared.runs.Next.TheVariants as next
use Rattle.esm_row_machine.specs.declared.runs.Ending.TheVariants as ending
use Rattle.esm_row_machine.specs.declared.rows.Rows.{Rows}
use Rattle.esm_row_machine.proofs.Going.{IsLawful}

pub on_ok : {A E P : Type 0} (r : Result A E) → P → OnOk r P
on_ok (Ok x) p = p
on_ok (Err e) p = tt

module _ {W S : Type 0} (state : W → State ℕ S) (modules : S → Modules ℕ) (linked : S → ℕ → Bool) (begins : Importing ℕ S)
    (Ready : W → Type 0) (Keeps : W → W → Type 0) (owns : S → ℕ → List (List ℕ)) where
  abbrev Tree : W → ℕ → List Item
  Tree w = (modules_in state modules linked begins Ready Keeps w).tree

  abbrev Fit : W → Rows → Type 0
  Fit w rows = RowsFit state modules linked begins Ready Keeps owns w rows

  abbrev Follow : W → Here → List Waiter → Active ℕ → Result Next Stop → W → Machine → Type 0
  Follow w h ws body result after late = Followed state modules linked begins Ready Keeps owns w h ws body result after late

  abbrev Proceed : W → Here → List Waiter → Active ℕ → Frame → W → Machine → Type 0
  Proceed w h ws body f after late = Proceeds state modules linked begins Ready Keeps owns w h ws body f after late

  -- what follows operations of the function that runs
  abbrev pub FollowsOn : W → Machine → Rows → Frame → Result Next Stop → W → Machine → Rows → Type 0
  FollowsOn w s rows f result after late tables = (h : Here) (ws : List Waiter) (body : Active ℕ)
      → Stands state modules linked begins Ready Keeps owns w s f f.left h ws → Fit w rows
      → Follow w h ws body result after late × OnOk result (Fit after tables)

  same_frame : (f : Frame) (n m k : ℕ) (ws : List Waiter) → IsFrame f m k ws → IsFrame (at_left f n) m k ws
  same_frame f n m k ws i = record { home = i.home; number = i.number; names_below = i.names_below; operands_below = i.operands_below; handlers_below = i.handlers_below }

  same_below : (tree : ℕ → List Item) (s : Machine) (f : Frame) (n m k : ℕ) (rs : List Round) (vss : Values) (ws : List Waiter) → HasNames tree s f m k rs vss ws → HasNames tree s (at_left f n) m k rs vss ws
  same_below tree s f n m k rs vss ws b = record { names = b.names; handlers = b.handlers; frames = b.frames; frame = same_frame f n m k ws b.frame; fit = b.fit; rounds = b.rounds }

  pub goes_on : (w : W) (f : Frame) (h : Here) (ws : List Waiter) (body : Active ℕ) (n : ℕ) (after : W) (late : Machine) → GoesOn state modules linked begins Ready Keeps owns w f h ws n after late
      → Proceed w h ws body (at_left f n) after late
  goes_on w f h ws body n after late g = record {
    there = moved h g.spot g.vss g.values;
    waiters = ws;
    stands = record {
      stands = record {
        below = same_below (Tree after) late f n _ _ _ _ ws g.stands.stands.below;
        operands = g.stands.stands.operands;
        room = g.stands.stands.room;
        place = g.stands.stands.place;
      };
      fits = g.stands.fits;
    };
    leads = λ how end seg. g.leads (callers modules begins ws ++ body ∷ []) how end seg;
    keeps = g.keeps;
  }

  pub calls_left : (w : W) (f : Frame) (h : Here) (ws : List Waiter) (count n : ℕ) (after : W) (late : Machine) → CallsHere state modules linked begins Ready Keeps owns w f h ws count n after late
      → CallsHere state modules linked begins Ready Keeps owns w (at_left f n) h ws count n after late
  calls_left w f h ws count n after late t = record {
    links = t.links;
    kont = t.kont;
    callee = t.callee;
    arguments = t.arguments;
    under = t.under;
    spot = t.spot;
    values = t.values;
    vss = t.vss;
    leads = t.leads;
    calling = t.calling;
    room = t.room;
    many = t.many;
    below = same_below (Tree after) late f n _ _ _ _ ws t.below;
    stacked = t.stacked;
    place = t.place;
    fits = t.fits;
    keeps = t.keeps;
  }

  pub turned_keeps : (w : W) (f : Frame) (h : Here) (ws : List Waiter) (t : Turn) (after : W) (late : Machine) → Turned state modules linked begins Ready Keeps owns w f h ws (Ok t) after late → Keeps w after
  turned_keeps w f h ws (turn.On n) after late t = t.keeps
  turned_keeps w f h ws (turn.Calls count n) after late t = t.keeps
  turned_keeps w f h ws (turn.Returns v) after late t = t.keeps
  turned_keeps w f h ws (turn.Throws v) after late t = t.keeps

  -- a limit in a row is one of all
  pub halts_all : (w : W) (f : Frame) (h : Here) (ws : List Waiter) (body : Active ℕ) (stop : Stop) (after : W) (late end : Machine) → Turned state modules linked begins Ready Keeps owns w f h ws (Err stop) after late
      → Follow w h ws body (Err stop) after end
  halts_all w f h ws body (stops.Limit why) after late end t = record { stops = t.stops (callers modules begins ws ++ body ∷ []); keeps = t.keeps }
  halts_all w f h ws body stops.Memory after late end t = tt

  -- the row of the function that runs
  pub row_of : (w : W) (s : Machine) (f : Frame) (left : ℕ) (h : Here) (ws : List Waiter) (rows : Rows) (row : Row) → Stands state modules linked begins Ready Keeps owns w s f left h ws → Fit w rows
      → row_in rows f.at.0 f.function ≡ Some row → IsRowOf state modules linked begins Ready Keeps owns w h row
  row_of w s f left h ws rows row st fit e =
      let i = st.stands.below.frame in
      let there : row_in rows h.at h.function ≡ Some row = sym (λ j. row_in rows (i.home j) (i.number j)) ∙ e in
      (fit h.at h.function row there).1

  -- functions go on, and what is left leads where the whole leads
  abbrev pub Running : W → Machine → Rows → Frame → Frame → W → Machine → Rows → Type 0
  Running w s rows f g now late tables = (h : Here) (ws : List Waiter) (body : Active ℕ) → Stands state modules linked begins Ready Keeps owns w s f f.left h ws → Fit w rows
      → Proceed w h ws body g now late × Fit now tables

module _ {W S : Type 0} (state : W → State ℕ S) (modules : S → Modules ℕ) (linked : S → ℕ → Bool) (begins : Importing ℕ S)
    (Ready : W → Type 0) (Keeps : W → W → Type 0) (owns : S → ℕ → List (List ℕ)) (lawful : IsLawful state modules linked begins Ready Keeps owns) where
  abbrev Fit' : W → Rows → Type 0
  Fit' w rows = RowsFit state modules linked begins Ready Keeps owns w rows

  abbrev Follow' : W → Here → List Waiter → Active ℕ → Result Next Stop → W → Machine → Type 0
  Follow' w h ws body result after late = Followed state modules linked begins Ready Keeps owns w h ws body result after late

  abbrev Proceed' : W → Here → List Waiter → Active ℕ → Frame → W → Machine → Type 0
  Proceed' w h ws body f after late = Proceeds state modules linked begins Ready Keeps owns w h ws body f after late

  abbrev Run : W → Machine → Rows → Frame → Frame → W → Machine → Rows → Type 0
  Run w s rows f g now late tables = Running state modules linked begins Ready Keeps owns w s rows f g now late tables

  pub rows_stay : (w after : W) (rows : Rows) → Keeps w after → Fit' w rows → Fit' after rows
  rows_stay w after rows keeps fit m k row e =
      let r = fit m k row e in
      let st = lawful.stays w after keeps in
      (st.links m r.0, (r.1.0, ap (λ (items : List Item). function_at items k) (st.trees m r.0) ∙ r.1.1, subst (λ (names : List (List ℕ)). IsRow names r.1.0 row) (sym (st.names m r.0)) r.1.2))

  pub proceeds_starts : (w : W) (s : Machine) (f : Frame) (h : Here) (ws : List Waiter) (body : Active ℕ) → Stands state modules linked begins Ready Keeps owns w s f f.left h ws → Proceed' w h ws body f w s
  proceeds_starts w s f h ws body st = record { there = h; waiters = ws; stands = st; leads = λ how end seg. seg; keeps = lawful.itself w }

  -- what follows, behind what was before
  module _ (w : W) (h : Here) (ws : List Waiter) (body : Active ℕ) (f : Frame) (mid : W) (s : Machine) (p : Proceed' w h ws body f mid s) where
    done_behind : (given : Term CodeValue) (v : CodeValue) (after : W) → IsDone state modules linked begins Ready Keeps owns mid p.there p.waiters body given v after
        → IsDone state modules linked begins Ready Keeps owns w h ws body given v after
    done_behind given v after d = record {
      leads = λ how end seg. p.leads how end (d.leads how end seg);
      known = d.known;
      is_ready = d.is_ready;
      keeps = lawful.both w mid after p.keeps d.keeps;
    }

    pub follows_behind : (result : Result Next Stop) (after : W) (late : Machine) → Follow' mid p.there p.waiters body result after late → Follow' w h ws body result after late
    follows_behind (Ok (next.Goes g)) after late q = record {
      there = q.there;
      waiters = q.waiters;
      stands = q.stands;
      leads = λ how end seg. p.leads how end (q.leads how end seg);
      keeps = lawful.both w mid after p.keeps q.keeps;
    }
    follows_behind (Ok (next.Gave v)) after late q = done_behind (Val (value_of v)) (value_of v) after q
    follows_behind (Ok (next.Thrown v)) after late q = done_behind (Fails (value_of v)) (value_of v) after q
    follows_behind (Err (stops.Limit why)) after late q = record { stops = p.leads (ended.Stopped why) (state after) q.stops; keeps = lawful.both w mid after p.keeps q.keeps }
    follows_behind (Err stops.Memory) after late q = tt

  -- ---- a run

  pub running_starts : (w : W) (s : Machine) (rows : Rows) (f : Frame) → Run w s rows f f w s rows
  running_starts w s rows f h ws body st fit = (proceeds_starts w s f h ws body st, fit)

  module _ (w : W) (s : Machine) (rows : Rows) (f g : Frame) (now : W) (late : Machine) (tables : Rows) (run : Run w s rows f g now late tables) where
    followed : (result : Result Next Stop) (after : W) (end : Machine) (more : Rows) → FollowsOn state modules linked begins Ready Keeps owns now late tables g result after end more
        → (h : Here) (ws : List Waiter) (body : Active ℕ) → Stands state modules linked begins Ready Keeps owns w s f f.left h ws → Fit' w rows
        → Follow' w h ws body result after end × OnOk result (Fit' after more)
    followed result after end more k h ws body st fit =
        let r = run h ws body st fit in
        let q = k r.0.there r.0.waiters body r.0.stands r.1 in
        (follows_behind w h ws body g now late r.0 result after end q.0, q.1)

    pub running_goes : (n : Frame) (after : W) (end : Machine) (more : Rows) → FollowsOn state modules linked begins Ready Keeps owns now late tables g (Ok (next.Goes n)) after end more → Run w s rows f n after end more
    running_goes n after end more k h ws body st fit = followed (Ok (next.Goes n)) after end more k h ws body st fit

    pub run_gave : (v : Value) (after : W) (end : Machine) (more : Rows) → FollowsOn state modules linked begins Ready Keeps owns now late tables g (Ok (next.Gave v)) after end more
        → Runs state modules linked begins Ready Keeps owns w s rows f (Ok (ending.Value v)) after more
    run_gave v after end more k h ws body st fit = followed (Ok (next.Gave v)) after end more k h ws body st fit

    pub run_threw : (v : Value) (after : W) (end : Machine) (more : Rows) → FollowsOn state modules linked begins Ready Keeps owns now late tables g (Ok (next.Thrown v)) after end more
        → Runs state modules linked begins Ready Keeps owns w s rows f (Ok (ending.Thrown v)) after more
    run_threw v after end more k h ws body st fit = followed (Ok (next.Thrown v)) after end more k h ws body st fit

    pub run_stops : (stop : Stop) (after : W) (end : Machine) (more : Rows) → FollowsOn state modules linked begins Ready Keeps owns now late tables g (Err stop) after end more
        → Runs state modules linked begins Ready Keeps owns w s rows f (Err stop) after more
    run_stops (stops.Limit why) after end more k h ws body st fit = followed (Err (stops.Limit why)) after end more k h ws body st fit
    run_stops stops.Memory after end more k h ws body st fit = followed (Err stops.Memory) after end more k h ws body st fit
