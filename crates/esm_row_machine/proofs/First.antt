-- The outermost function begins and runs to its end.
use Rattle.std.proofs.Common.{◌≡◌, ℕ, Bool, List, [], length, Option, Some, refl, ap, sym, subst, ◌∙◌}
use Rattle.std.specs.Prelude.{Result, Ok, Err, IfOk}
use Rattle.esm_base.specs.declared.memory.Memory.{Memory}
use Rattle.esm_tree.specs.Syntax.{Item}
use Rattle.esm_env.specs.Modules.{Modules}
use Rattle.esm_values.specs.Code.{CodeValue, values_of, func_value}
use Rattle.esm_values.specs.declared.value.FuncId.{FuncId}
use Rattle.esm_values.specs.declared.value.Value.{Value}
use Rattle.esm_values.specs.declared.value.Value.TheVariants as values
use Rattle.esm_rewriting.specs.Rest.{Rest}
use Rattle.esm_rewriting.specs.State.{State, Importing}
use Rattle.esm_rewriting.specs.Segment.{Active, active, Ended, called, called_by}
use Rattle.esm_rewriting.specs.Segment.{Ended as ended}
use Rattle.esm_rewriting.specs.declared.stop.Stop.{Stop}
use Rattle.esm_rewriting.specs.declared.stop.Stop.TheVariants as stops
use Rattle.esm_row_machine.specs.Functions.{Here, what_remains}
use Rattle.esm_row_machine.specs.Stacks.{AreFrames, none_waits, names_on}
use Rattle.esm_row_machine.specs.Outside.{AllKnown, modules_in}
use Rattle.esm_row_machine.specs.Entering.{EntersAs, IsStacked, BeginsFirst}
use Rattle.esm_row_machine.specs.Turns.{AreNamesKnown, Known}
use Rattle.esm_row_machine.specs.Follows.{SegmentOf, Ends, Runs, RowsFit, CalledSegment, CallEnds, CalledBy}
use Rattle.esm_row_machine.specs.Calling.{IsMade, BeginsFirstBy}
use Rattle.esm_row_machine.specs.declared.machine.Frame.{Frame}
use Rattle.esm_row_machine.specs.declared.machine.Machine.{Machine}
use Rattle.esm_row_machine.specs.declared.rows.Rows.{Rows}
use Rattle.esm_row_machine.specs.declared.runs.Ending.{Ending}
use Rattle.esm_row_machine.specs.declared.runs.Ending.TheVariants as ending
use Rattle.esm_row_machine.proofs.Told.{some_same}
use Rattle.esm_row_machine.proofs.Splitting.{SameSplit, same_split}
use Rattle.esm_row_machine.proofs.Begun as begun

module _ {W S : Type 0} (state : W → State ℕ S) (modules : S → Modules ℕ) (linked : S → ℕ → Bool) (begins : Importing ℕ S)
    (Ready : W → Type 0) (Keeps : W → W → Type 0) (owns : S → ℕ → List (List ℕ)) (w : W) (rows : Rows) (function : FuncId) (vs : List Value) where
  abbrev Tree : ℕ → List Item
  Tree = (modules_in state modules linked begins Ready Keeps w).tree

  abbrev K : CodeValue → Type 0
  K v = Known state modules linked begins Ready Keeps owns w v

  pub begins_first : (stack late : Machine) (tables : Rows) (many : ℕ) → many ≡ length vs → IsStacked function vs stack → IsMade state modules linked begins Ready Keeps owns w rows function.module.0 tables
      → (r : Result Frame Memory) → IfOk r (λ g. BeginsFirst stack tables function many g late) → IfOk r (λ g. BeginsFirstBy state modules linked begins Ready Keeps owns w rows function vs g late tables)
  begins_first stack late tables many same stacked made (Ok g) h = record { stack = stack; stacked = stacked; first = subst (λ n. BeginsFirst stack tables function n g late) same h; made = made }
  begins_first stack late tables many same stacked made (Err e) h = tt

  module _ (g : Frame) (late : Machine) (tables : Rows) (b : BeginsFirstBy state modules linked begins Ready Keeps owns w rows function vs g late tables) where
    abbrev e : EntersAs b.stack function b.first.row (length vs) g late
    e = b.first.enters

    -- the stacks had the function and its arguments, and nothing else
    stack_split : SameSplit [] e.under (values.Func function) e.callee vs e.arguments
    stack_split = same_split [] e.under (values.Func function) e.callee vs e.arguments (sym b.stacked.operands ∙ e.stacked) (sym e.many)

    ends_called : (there : Here) (callee body : Active ℕ) → active there.at (what_remains there) ≡ callee → (result : Result Ending Stop) (after : W) → Ends state modules linked begins Ready Keeps owns w there [] body result after
        → CallEnds state modules linked begins Ready Keeps owns w callee body result after
    ends_called there callee body same result after d = by result d where
      turn : (how : Ended ℕ) (end : State ℕ S) → SegmentOf state modules linked begins Ready Keeps owns w there [] body how end → CalledSegment state modules linked begins Ready Keeps owns w callee body how end
      turn how end seg = subst (λ (a : Active ℕ). CalledSegment state modules linked begins Ready Keeps owns w a body how end) same seg

      by : (result : Result Ending Stop) → Ends state modules linked begins Ready Keeps owns w there [] body result after → CallEnds state modules linked begins Ready Keeps owns w callee body result after
      by (Ok (ending.Value v)) d = record { leads = λ how end seg. turn how end (d.leads how end seg); known = d.known; is_ready = d.is_ready; keeps = d.keeps }
      by (Ok (ending.Thrown v)) d = record { leads = λ how end seg. turn how end (d.leads how end seg); known = d.known; is_ready = d.is_ready; keeps = d.keeps }
      by (Err (stops.Limit why)) d = (turn (ended.Stopped why) (state after) d.stops, d.keeps)
      by (Err stops.Memory) d = tt

    pub call_ends : (result : Result Ending Stop) (after : W) (more : Rows) → Runs state modules linked begins Ready Keeps owns w late tables g result after more → CalledBy state modules linked begins Ready Keeps owns w rows function (values_of vs) result after more
    call_ends result after more run ready fit known all callee body told =
        let fits : RowsFit state modules linked begins Ready Keeps owns w tables = b.made ready known.0 fit in
        let row = (fits function.module.0 function.index b.first.row b.first.there).1 in
        let there : Here = begun.begun state modules linked begins Ready Keeps owns w b.stack function b.first.row (length vs) g late e row.0 row.2 in
        let into : called (modules_in state modules linked begins Ready Keeps w) (func_value function) (values_of vs) ≡ Some (active function.module.0 (what_remains there)) =
        ap (called_by function.module.0 (values_of vs)) row.1
        ∙ ap (λ (us : List Value). called_by function.module.0 (values_of us) (Some row.0)) stack_split.back
        ∙ ap (λ (r : Rest CodeValue). Some (active function.module.0 r)) (sym (begun.begun_remains state modules linked begins Ready Keeps owns w b.stack function b.first.row (length vs) g late e row.0 row.2)) in
        let same : active function.module.0 (what_remains there) ≡ callee = some_same (active function.module.0 (what_remains there)) callee (sym into ∙ told) in
        let r = run there [] body
        (begun.begun_can_go state modules linked begins Ready Keeps owns w b.stack function b.first.row (length vs) g late e row.0 row.2 [] late refl refl refl
        (subst (λ (fs : List Frame). AreFrames Tree fs []) (sym (e.frames ∙ b.stacked.frames)) none_waits) (ap names_on b.stacked.names) b.stacked.handlers (ap values_of (sym stack_split.front)) row.1
        ready known.0 tt
        (subst (λ (us : List Value). AllKnown K (values_of us)) (sym b.stacked.operands) (known, all)) (subst (λ (ns : List (Option Value)). AreNamesKnown K ns) (sym b.stacked.names) tt)) fits in
        (ends_called there callee body same result after r.0, r.1)
