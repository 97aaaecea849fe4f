-- One operation after another: what is left leads where the whole leads.
use Rattle.std.proofs.Common.{◌≡◌, ℕ, Bool, true, List, ◌∷◌, ap, sym, subst, ◌∙◌}
use Rattle.std.specs.Prelude.{Result, Ok, Err}
use Rattle.esm_env.specs.Modules.{Modules}
use Rattle.esm_env.specs.Declarations.{function_at}
use Rattle.esm_tree.specs.Syntax.{Item}
use Rattle.esm_values.specs.Code.{CodeValue}
use Rattle.esm_rewriting.specs.State.{State, Importing}
use Rattle.esm_rewriting.specs.Segment.{Ended as ended}
use Rattle.esm_rewriting.specs.declared.stop.Stop.{Stop}
use Rattle.esm_rewriting.specs.declared.stop.Stop.TheVariants as stops
use Rattle.esm_rows.specs.Functions.{IsRow}
use Rattle.esm_rows.specs.declared.row.Row.{Row}
use Rattle.esm_row_laws.specs.Spots.{Spot}
use Rattle.esm_row_laws.specs.Operations.{Values}
use Rattle.esm_row_machine.specs.Functions.{Here, Waiter, moved}
use Rattle.esm_row_machine.specs.Turns.{Stands, GoesOn, Turned, TurnsOn, IsRowOf}
use Rattle.esm_row_machine.specs.declared.machine.Frame.{Frame}
use Rattle.esm_row_machine.specs.declared.machine.Machine.{Machine}
use Rattle.esm_row_machine.specs.declared.turn.Turn.{Turn}
use Rattle.esm_row_machine.specs.declared.turn.Turn.TheVariants as turn
use Rattle.esm_row_machine.proofs.Going.{IsLawful}

module _ {W S : Type 0} (state : W → State ℕ S) (modules : S → Modules ℕ) (linked : S → ℕ → Bool) (begins : Importing ℕ S)
    (Ready : W → Type 0) (Keeps : W → W → Type 0) (owns : S → ℕ → List (List ℕ)) where
  abbrev Stand : W → Machine → Frame → ℕ → Here → List Waiter → Type 0
  Stand w s f left h ws = Stands state modules linked begins Ready Keeps owns w s f left h ws

  abbrev Goes : W → Frame → Here → List Waiter → ℕ → W → Machine → Type 0
  Goes w f h ws left after late = GoesOn state modules linked begins Ready Keeps owns w f h ws left after late

  abbrev Of : W → Here → Row → Type 0
  Of w h row = IsRowOf state modules linked begins Ready Keeps owns w h row

  -- where so many operations are left now, what is left leads where the whole leads
  abbrev pub Onway : W → Machine → Frame → Row → ℕ → W → Machine → Type 0
  Onway w s f row left now late = (h : Here) (ws : List Waiter) → Stand w s f f.left h ws → Of w h row → Goes w f h ws left now late

module _ {W S : Type 0} (state : W → State ℕ S) (modules : S → Modules ℕ) (linked : S → ℕ → Bool) (begins : Importing ℕ S)
    (Ready : W → Type 0) (Keeps : W → W → Type 0) (owns : S → ℕ → List (List ℕ)) (lawful : IsLawful state modules linked begins Ready Keeps owns) where
  abbrev Stand' : W → Machine → Frame → ℕ → Here → List Waiter → Type 0
  Stand' w s f left h ws = Stands state modules linked begins Ready Keeps owns w s f left h ws

  abbrev Goes' : W → Frame → Here → List Waiter → ℕ → W → Machine → Type 0
  Goes' w f h ws left after late = GoesOn state modules linked begins Ready Keeps owns w f h ws left after late

  abbrev Comes' : W → Frame → Here → List Waiter → Result Turn Stop → W → Machine → Type 0
  Comes' w f h ws result after late = Turned state modules linked begins Ready Keeps owns w f h ws result after late

  abbrev Of' : W → Here → Row → Type 0
  Of' w h row = IsRowOf state modules linked begins Ready Keeps owns w h row

  abbrev Way : W → Machine → Frame → Row → ℕ → W → Machine → Type 0
  Way w s f row left now late = Onway state modules linked begins Ready Keeps owns w s f row left now late

  -- nothing is done yet
  pub starts : (w : W) (s : Machine) (f : Frame) (left : ℕ) (h : Here) (ws : List Waiter) → Stand' w s f left h ws → Goes' w f h ws left w s
  starts w s f left h ws st = record { spot = h.spot; vss = h.names; values = h.operands; stands = st; leads = λ cs how end seg. seg; keeps = lawful.itself w }

  -- the row of a function is its row still
  pub same_row : (w after : W) (h : Here) (t : Spot) (vss : Values) (vs : List CodeValue) (row : Row) → Keeps w after → linked (state w).outer.imports h.at ≡ true → Of' w h row → Of' after (moved h t vss vs) row
  same_row w after h t vss vs row keeps home r =
      let st = lawful.stays w after keeps in
      (r.0, ap (λ (items : List Item). function_at items h.function) (st.trees h.at home) ∙ r.1, subst (λ (names : List (List ℕ)). IsRow names r.0 row) (sym (st.names h.at home)) r.2)

  -- ---- what an operation comes to, behind others

  module _ (w : W) (f : Frame) (h : Here) (ws : List Waiter) (left : ℕ) (mid : W) (s : Machine) (so_far : Goes' w f h ws left mid s) where
    abbrev kept : (after : W) → Keeps mid after → Keeps w after
    kept after k = lawful.both w mid after so_far.keeps k

    pub behind : (result : Result Turn Stop) (after : W) (late : Machine) → Comes' mid f (moved h so_far.spot so_far.vss so_far.values) ws result after late → Comes' w f h ws result after late
    behind (Ok (turn.On n)) after late t = record {
      spot = t.spot;
      vss = t.vss;
      values = t.values;
      stands = t.stands;
      leads = λ cs how end seg. so_far.leads cs how end (t.leads cs how end seg);
      keeps = kept after t.keeps;
    }
    behind (Ok (turn.Calls count n)) after late t = record {
      links = t.links;
      kont = t.kont;
      callee = t.callee;
      arguments = t.arguments;
      under = t.under;
      spot = t.spot;
      values = t.values;
      vss = t.vss;
      leads = λ cs how end seg. so_far.leads cs how end (t.leads cs how end seg);
      calling = t.calling;
      room = t.room;
      many = t.many;
      below = t.below;
      stacked = t.stacked;
      place = t.place;
      fits = t.fits;
      keeps = kept after t.keeps;
    }
    behind (Ok (turn.Returns v)) after late t = record {
      rounds = t.rounds;
      vss = t.vss;
      gives = λ c cs how end seg. so_far.leads (c ∷ cs) how end (t.gives c cs how end seg);
      below = t.below;
      stacked = t.stacked;
      known = t.known;
      fits = t.fits;
      keeps = kept after t.keeps;
    }
    behind (Ok (turn.Throws v)) after late t = record {
      rounds = t.rounds;
      vss = t.vss;
      rest = t.rest;
      mid = t.mid;
      leads = λ cs how end seg. so_far.leads cs how end (t.leads cs how end seg);
      throws = t.throws;
      row = t.row;
      below = t.below;
      above = t.above;
      stacked = t.stacked;
      known = t.known;
      fits = t.fits;
      keeps = kept after t.keeps;
    }
    behind (Err (stops.Limit why)) after late t = record {
      stops = λ cs. so_far.leads cs (ended.Stopped why) (state after) (t.stops cs);
      keeps = kept after t.keeps;
    }
    behind (Err stops.Memory) after late t = tt

  -- ---- a row

  pub onway_starts : (w : W) (s : Machine) (f : Frame) (row : Row) → Way w s f row f.left w s
  onway_starts w s f row h ws st r = starts w s f f.left h ws st

  module _ (w : W) (s : Machine) (f : Frame) (row : Row) (left : ℕ) (now : W) (late : Machine) (way : Way w s f row left now late) where
    pub turned_on : (result : Result Turn Stop) (after : W) (end : Machine) → TurnsOn state modules linked begins Ready Keeps owns now late f left row result after end
        → TurnsOn state modules linked begins Ready Keeps owns w s f f.left row result after end
    turned_on result after end t h ws st r =
        let g = way h ws st r in
        behind w f h ws left now late g result after end (t (moved h g.spot g.vss g.values) ws g.stands (same_row w now h g.spot g.vss g.values row g.keeps st.fits.home r))

    pub onway_goes : (n : ℕ) (after : W) (end : Machine) → TurnsOn state modules linked begins Ready Keeps owns now late f left row (Ok (turn.On n)) after end → Way w s f row n after end
    onway_goes n after end t = turned_on (Ok (turn.On n)) after end t
