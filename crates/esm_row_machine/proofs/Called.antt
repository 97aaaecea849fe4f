-- A value is called: the function begins and its caller waits, or the call throws a new error.
use Rattle.std.proofs.Common.{◌≡◌, ◌<◌, ◌≤◌, ℕ, suc, ◌+◌, nat_eq, Bool, false, List, [], ◌∷◌, ◌++◌, length, Some, None, refl, ap, sym, subst, ◌∙◌, arith}
use Rattle.std.proofs.lemmas.List.{append_assoc, length-map}
use Rattle.std.proofs.lemmas.Result.{on_ok_weaker}
use Rattle.std.specs.Prelude.{reverse, Result, Ok, Err, OnOk, codes}
use Rattle.esm_base.specs.declared.limits.TheConstants.{MAX_CALL_DEPTH}
use Rattle.esm_tree.specs.Syntax.{Item}
use Rattle.esm_env.specs.Modules.{Modules}
use Rattle.esm_values.specs.Errors.{fault}
use Rattle.esm_values.specs.Operators.{look_of, is_func}
use Rattle.esm_values.specs.Code.{CodeValue, value_of, values_of, func_value, numbered}
use Rattle.esm_values.specs.declared.errors.FaultKind.TheVariants as kinds
use Rattle.esm_values.specs.declared.value.FuncId.{FuncId}
use Rattle.esm_values.specs.declared.value.Value.{Value}
use Rattle.esm_values.specs.declared.value.Value.TheVariants as values
use Rattle.esm_expr_eval.specs.Terms.Term.{Fails}
use Rattle.esm_expr_eval.specs.Rewriting.{Rewrites as rewriting}
use Rattle.esm_rewriting.specs.Rest.{Rest}
use Rattle.esm_rewriting.specs.State.{State, Importing, take_steps, new_error, with_error}
use Rattle.esm_rewriting.specs.Acts.{modules_of}
use Rattle.esm_rewriting.specs.Segment.{Active, active, Ended, Segment, called, called_by}
use Rattle.esm_rewriting.specs.Segment.{Ended as ended}
use Rattle.esm_rewriting.specs.declared.stop.Stop.{Stop}
use Rattle.esm_rewriting.specs.declared.stop.Stop.TheVariants as stops
use Rattle.esm_row_laws.specs.Spots.{Posts, rounds_of, rounds_row}
use Rattle.esm_row_laws.specs.Remaining.{plug}
use Rattle.esm_row_laws.specs.Landings.{ThrowsIn, remains}
use Rattle.esm_row_laws.proofs.Calling as calling
use Rattle.esm_row_laws.proofs.Moves as moves
use Rattle.esm_row_machine.specs.Functions.{Here, Waiter, what_remains, caller, callers}
use Rattle.esm_row_machine.specs.Stacks.{AreFrames, none_waits, one_waits, Waits, operands_under}
use Rattle.esm_row_machine.specs.Outside.{AllKnown, Well, Steps, modules_in}
use Rattle.esm_row_machine.specs.Entering.{IsCallee, Begun}
use Rattle.esm_row_machine.specs.Turns.{AreLinkedAll, Linked, Known, CallsHere}
use Rattle.esm_row_machine.specs.Follows.{SegmentOf, Flies, Proceeds, Followed, RowsFit}
use Rattle.esm_row_machine.specs.Calling.{IsMade, BeginsIn}
use Rattle.esm_row_machine.specs.declared.machine.Frame.{Frame}
use Rattle.esm_row_machine.specs.declared.machine.Machine.{Machine}
use Rattle.esm_row_machine.specs.declared.rows.Rows.{Rows}
use Rattle.esm_row_machine.specs.declared.runs.Next.{Next}
use Rattle.esm_row_machine.specs.declared.runs.Next.TheVariants as next
use Rattle.esm_row_machine.proofs.Told.{longer}
use Rattle.esm_row_machine.proofs.Going.{IsLawful, known_back, values_more}
use Rattle.esm_row_machine.proofs.Coming.{left_part}
use Rattle.esm_row_machine.proofs.RoundRows.{kont_ends}
use Rattle.esm_row_machine.proofs.Going as going
use Rattle.esm_row_machine.proofs.Staying as staying
use Rattle.esm_row_machine.proofs.Followed as followed
use Rattle.esm_row_machine.proofs.Splitting.{SameSplit, same_split, unmapped, values_long}
use Rattle.esm_row_machine.proofs.Begun as begun

frames_many : (tree : ℕ → List Item) (fs : List Frame) (ws : List Waiter) → AreFrames tree fs ws → length fs ≡ length ws
frames_many tree _ _ none_waits = refl
frames_many tree _ _ (one_waits fs f {ws = ws} h k) = longer fs f ∙ ap suc (frames_many tree fs ws h)

module _ {W S : Type 0} (state : W → State ℕ S) (modules : S → Modules ℕ) (linked : S → ℕ → Bool) (begins : Importing ℕ S)
    (Ready : W → Type 0) (Keeps : W → W → Type 0) (owns : S → ℕ → List (List ℕ)) (lawful : IsLawful state modules linked begins Ready Keeps owns)
    (w0 : W) (h : Here) (ws : List Waiter) (body : Active ℕ) (w : W) (s : Machine) (f : Frame) (count : ℕ) (c : CallsHere state modules linked begins Ready Keeps owns w0 f h ws count f.left w s) where
  abbrev Tree : W → ℕ → List Item
  Tree v = (modules_in state modules linked begins Ready Keeps v).tree

  abbrev Fit : W → Rows → Type 0
  Fit v rows = RowsFit state modules linked begins Ready Keeps owns v rows

  abbrev K : W → CodeValue → Type 0
  K v u = Known state modules linked begins Ready Keeps owns v u

  abbrev Behind : W → Type 0
  Behind mid = Well state modules linked begins Ready Keeps w mid

  abbrev Follow : Result Next Stop → W → Machine → Type 0
  Follow result after late = Followed state modules linked begins Ready Keeps owns w0 h ws body result after late

  -- the callers of the function that runs
  abbrev around : List (Active ℕ)
  around = callers modules begins ws ++ body ∷ []

  around_many : length around ≡ length s.frames.items + 1
  around_many =
      let a : length around ≡ suc (length (callers modules begins ws)) = longer (callers modules begins ws) body in
      let b : length (callers modules begins ws) ≡ length ws = length-map ws (caller modules begins) in
      let d : length s.frames.items ≡ length ws = frames_many (Tree w) s.frames.items ws c.below.frames in
      omega (arith, a, b, d)

  -- what is called and what with
  on_stack : AllKnown (K w) (c.callee ∷ c.arguments)
  on_stack = known_back (K w) (operands_under ws ++ reverse c.under) (c.callee ∷ c.arguments) (subst (λ (vs : List CodeValue). AllKnown (K w) vs) c.stacked c.fits.operands)

  split_values : (below : List Value) (v : Value) (us : List Value) → s.operands.items ≡ below ++ v ∷ us → length us ≡ count
      → SameSplit (values_of below) (operands_under ws ++ reverse c.under) (value_of v) c.callee (values_of us) c.arguments
  split_values below v us e l =
      same_split (values_of below) (operands_under ws ++ reverse c.under) (value_of v) c.callee (values_of us) c.arguments (sym (values_more below (v ∷ us)) ∙ ap values_of (sym e) ∙ c.stacked)
      (values_long us ∙ l ∙ sym c.many)

  -- ---- the function that calls waits

  abbrev waiter : Waiter
  waiter = record { at = h.at; function = h.function; links = c.links; kont = c.kont; names = c.vss; operands = c.under }

  module _ (mid : W) (steps : take_steps (state w) 1 ≡ (Ok tt, state mid)) (well : Behind mid) where
    abbrev kept : Keeps w0 mid
    kept = lawful.both w0 w mid c.keeps well.keeps

    waits : Waits (Tree mid) f waiter ws
    waits = record {
      frame = c.below.frame;
      place = staying.left_stays state modules linked begins Ready Keeps owns w mid (lawful.stays w mid well.keeps) h.at h.function _ f.left c.fits.home c.place;
      fit = c.below.fit;
      room = c.room;
      rounds = c.below.rounds;
    }

    below_stay : AreFrames (Tree mid) s.frames.items ws
    below_stay = (staying.names_stay state modules linked begins Ready Keeps owns w mid (lawful.stays w mid well.keeps) s f h.at h.function (rounds_of c.kont) c.vss ws c.fits.homes c.below).frames

    homes_stay : AreLinkedAll state modules linked begins Ready Keeps owns mid (waiter ∷ ws)
    homes_stay = ((lawful.stays w mid well.keeps).links h.at c.fits.home, staying.homes_stay state modules linked begins Ready Keeps owns w mid (lawful.stays w mid well.keeps) ws c.fits.homes)

    rows_there : (rows : Rows) → Fit w rows → Fit mid rows
    rows_there rows fit = followed.rows_stay state modules linked begins Ready Keeps owns lawful w mid rows well.keeps fit

    -- ---- the function begins

    module _ (id : FuncId) (below us : List Value) (split : s.operands.items ≡ below ++ values.Func id ∷ us) (long : length us ≡ count) (few : length s.frames.items + 1 < MAX_CALL_DEPTH) where
      abbrev at_callee : SameSplit (values_of below) (operands_under ws ++ reverse c.under) (func_value id) c.callee (values_of us) c.arguments
      at_callee = split_values below (values.Func id) us split long

      known_callee : K w (func_value id)
      known_callee = subst (λ (v : CodeValue). K w v) (sym at_callee.element) on_stack.0

      home : Linked state modules linked begins Ready Keeps owns mid id.module.0
      home = (lawful.stays w mid well.keeps).links id.module.0 known_callee.0

      few_around : length around < MAX_CALL_DEPTH
      few_around = omega (arith, around_many, few)

      goes_in : (rows tables : Rows) → Fit w rows → IsMade state modules linked begins Ready Keeps owns mid rows id.module.0 tables → (g : Frame) (late : Machine) → Begun s tables f id count g late
          → Proceeds state modules linked begins Ready Keeps owns w0 h ws body g mid late × Fit mid tables
      goes_in rows tables fit made g late b =
          let fits : Fit mid tables = made well.is_ready home (rows_there rows fit) in
          let row = (fits id.module.0 id.index b.row b.there).1 in
          let e = b.entered.enters in
          let same : SameSplit (values_of e.under) (operands_under ws ++ reverse c.under) (value_of e.callee) c.callee (values_of e.arguments) c.arguments = split_values e.under e.callee e.arguments e.stacked e.many in
          let there : Here = begun.begun state modules linked begins Ready Keeps owns mid s id b.row count g b.entered.mid e row.0 row.2 in
          let into : called (modules_of modules (state mid)) c.callee c.arguments ≡ Some (active id.module.0 (what_remains there)) =
          (λ i. called (modules_of modules (state mid)) (sym at_callee.element i) (sym same.back i)) ∙ ap (called_by id.module.0 (values_of e.arguments)) row.1
          ∙ ap (λ (r : Rest CodeValue). Some (active id.module.0 r)) (sym (begun.begun_remains state modules linked begins Ready Keeps owns mid s id b.row count g b.entered.mid e row.0 row.2)) in (
            record {
              there = there;
              waiters = waiter ∷ ws;
              stands = begun.begun_can_go state modules linked begins Ready Keeps owns mid s id b.row count g b.entered.mid e row.0 row.2 (waiter ∷ ws) late b.entered.operands b.entered.names b.entered.handlers
                  (subst (λ (fs : List Frame). AreFrames (Tree mid) fs (waiter ∷ ws)) (sym (b.entered.frames ∙ ap (λ (fs : List Frame). fs ++ f ∷ []) e.frames)) (one_waits s.frames.items f below_stay waits)) c.below.names c.below.handlers same.front row.1
                  well.is_ready home homes_stay
                  (going.all_stay state modules linked begins Ready Keeps owns w mid (lawful.stays w mid well.keeps) (values_of s.operands.items) c.fits.operands)
                  (staying.names_known state modules linked begins Ready Keeps owns w mid (lawful.stays w mid well.keeps) s.names.items c.fits.names);
              leads = λ how end seg. c.leads around how end
                  (calling.calls modules begins h.at c.links c.kont c.callee c.under c.vss c.arguments c.spot c.values (state w) (state mid) around (active id.module.0 (what_remains there)) how end c.room c.calling
                  (ap look_of (sym at_callee.element)) steps few_around into seg);
              keeps = kept;
            },
            fits,
          )

      pub called_follows : (rows tables : Rows) → Fit w rows → (result : Result Next Stop) (late : Machine) → BeginsIn state modules linked begins Ready Keeps owns mid s rows f id count result late tables
          → Follow result mid late × OnOk result (Fit mid tables)
      called_follows rows tables fit (Ok (next.Goes g)) late p = goes_in rows tables fit p.1 g late p.0
      called_follows rows tables fit (Ok (next.Gave v)) late p = absurd p.0
      called_follows rows tables fit (Ok (next.Thrown v)) late p = absurd p.0
      called_follows rows tables fit (Err (stops.Limit why)) late p = absurd p.0
      called_follows rows tables fit (Err stops.Memory) late p = (tt, tt)

    -- ---- the call throws

    module _ (thrown : W) (made : Well state modules linked begins Ready Keeps mid thrown) where
      abbrev since : Keeps w thrown
      since = lawful.both w mid thrown well.keeps made.keeps

      -- a throw of this is under way in the function that calls
      flies_from : (v : CodeValue) → K thrown v → (rest : Rest CodeValue) (from : State ℕ S)
          → ((how : Ended ℕ) (end : State ℕ S) → Segment nat_eq modules begins from h.at (remains modules begins (rounds_of c.kont) c.vss rest) around how end → SegmentOf state modules linked begins Ready Keeps owns w0 h ws body how end)
          → ThrowsIn modules begins h.at (rounds_of c.kont) c.vss from rest v (state thrown) → Flies state modules linked begins Ready Keeps owns w0 h ws body f v thrown s
      flies_from v known rest from leads thrown_here = record {
        home = h.at;
        number = h.function;
        rounds = rounds_of c.kont;
        vss = c.vss;
        rest = rest;
        mid = from;
        waiters = ws;
        leads = leads;
        throws = thrown_here;
        row = staying.left_stays state modules linked begins Ready Keeps owns w thrown (lawful.stays w thrown since) h.at h.function (rounds_row (rounds_of c.kont)) (length (rounds_row (rounds_of c.kont))) c.fits.home
            (left_part (kont_ends (Posts c.links c.kont)) c.place (length (rounds_row (rounds_of c.kont))) refl);
        below = staying.names_stay state modules linked begins Ready Keeps owns w thrown (lawful.stays w thrown since) s f h.at h.function (rounds_of c.kont) c.vss ws c.fits.homes c.below;
        above = reverse c.under ++ c.callee ∷ c.arguments;
        stacked = c.stacked ∙ append_assoc (operands_under ws) (reverse c.under) (c.callee ∷ c.arguments);
        known = known;
        fits = staying.fits_stay state modules linked begins Ready Keeps owns w thrown (lawful.stays w thrown since) s h.at ws made.is_ready c.fits;
        keeps = lawful.both w0 w thrown c.keeps since;
      }

      -- as many functions are active as may be
      pub deep_flies : (id : FuncId) → IsCallee s.operands.items count (Some id) → MAX_CALL_DEPTH ≤ length s.frames.items + 1 → state thrown ≡ with_error (state mid) (fault kinds.RangeError (codes "call depth"))
          → Flies state modules linked begins Ready Keeps owns w0 h ws body f (new_error (state mid)) thrown s
      deep_flies id callee deep told =
          let at_callee = split_values callee.0 (values.Func id) callee.1 callee.2 callee.3 in
          let many : MAX_CALL_DEPTH ≤ length around = omega (arith, around_many, deep) in
          flies_from (new_error (state mid)) tt (plug numbered (Posts c.links c.kont) c.under (Fails (new_error (state mid)))) (state thrown)
          (λ how end seg. c.leads around how end (calling.deep modules begins h.at c.links c.kont c.callee c.under c.vss c.arguments c.spot c.values (state w) (state mid) around how end c.room c.calling
          (ap look_of (sym at_callee.element)) steps many
          (subst (λ (t : State ℕ S). Segment nat_eq modules begins t h.at (remains modules begins (rounds_of c.kont) c.vss (plug numbered (Posts c.links c.kont) c.under (Fails (new_error (state mid))))) around how end) told seg)))
          (moves.throws modules begins h.at (Posts c.links c.kont) c.vss c.under c.room (state thrown) (state thrown) (Fails (new_error (state mid))) (new_error (state mid)) rewriting.fails)

      not_a_function : IsCallee s.operands.items count None → is_func (look_of c.callee) ≡ false
      not_a_function callee =
          let u = unmapped s.operands.items (operands_under ws ++ reverse c.under) c.callee c.arguments c.stacked in
          ap (λ v. is_func (look_of v)) (sym u.is) ∙ callee u.under u.element u.over u.whole (u.many ∙ c.many)

      -- what is called is no function
      pub refused_flies : IsCallee s.operands.items count None → state thrown ≡ with_error (state mid) (fault kinds.TypeError (codes "not a function"))
          → Flies state modules linked begins Ready Keeps owns w0 h ws body f (new_error (state mid)) thrown s
      refused_flies callee told =
          let r = calling.refuses modules begins h.at c.links c.kont c.callee c.under c.vss c.arguments c.spot c.values (state w) (state mid) c.room c.calling (not_a_function callee) steps in
          flies_from (new_error (state mid)) tt r.0 (state w)
          (λ how end seg. c.leads around how end (subst (λ (rest : Rest CodeValue). Segment nat_eq modules begins (state w) h.at rest around how end) (sym r.1) seg))
          (subst (λ (t : State ℕ S). ThrowsIn modules begins h.at (rounds_of c.kont) c.vss (state w) r.0 (new_error (state mid)) t) (sym told) r.2)

    pub refused_rows : (rows : Rows) → Fit w rows → (result : Result Next Stop) (after : W) (late : Machine) → Follow result after late × OnOk result (Keeps mid after) → Follow result after late × OnOk result (Fit after rows)
    refused_rows rows fit result after late p =
        (p.0, on_ok_weaker result (λ keeps. followed.rows_stay state modules linked begins Ready Keeps owns lawful mid after rows keeps (rows_there rows fit)) p.1)

  -- ---- the step is one too many

  pub step_stops : (stop : Stop) (after : W) (late : Machine) → Steps state modules linked begins Ready Keeps w (Err stop) after → Follow (Err stop) after late
  step_stops (stops.Limit why) after late t =
      let r = t c.fits.is_ready in
      record {
        stops = c.leads around (ended.Stopped why) (state after)
            (calling.stops modules begins h.at c.links c.kont c.callee c.under c.vss c.arguments c.spot c.values (state w) (state after) why around c.room c.calling r.0);
        keeps = lawful.both w0 w after c.keeps r.1;
      }
  step_stops stops.Memory after late t = tt
