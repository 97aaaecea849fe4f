-- Operations that ask the world: their value is put on top, or they throw, or a limit was passed.
use Rattle.std.proofs.Common.{◌≡◌, ℕ, ◌+◌, nat_eq, Bool, List, [], ◌∷◌, ◌++◌, length, sym, subst}
use Rattle.std.specs.Prelude.{reverse, Result, Ok, Err}
use Rattle.esm_base.specs.declared.limits.Limit.{Limit}
use Rattle.esm_tree.specs.Syntax.{Item}
use Rattle.esm_env.specs.Modules.{Modules}
use Rattle.esm_values.specs.Plans.{Rewritten, Follows}
use Rattle.esm_values.specs.Plans.Rewritten.{Stops}
use Rattle.esm_values.specs.Code.{CodeValue, value_of, values_of, numbered}
use Rattle.esm_values.specs.declared.value.Value.{Value}
use Rattle.esm_expr_eval.specs.Terms.{Term}
use Rattle.esm_expr_eval.specs.declared.world.Out.{Out}
use Rattle.esm_expr_eval.specs.declared.world.Out.TheVariants as out
use Rattle.esm_rewriting.specs.State.{State, Importing}
use Rattle.esm_rewriting.specs.Segment.{Segment}
use Rattle.esm_rewriting.specs.Segment.{Ended as ended}
use Rattle.esm_rewriting.specs.Acts.{Performs}
use Rattle.esm_rewriting.specs.Contexts.{scopes_in}
use Rattle.esm_rewriting.specs.declared.stop.Stop.{Stop}
use Rattle.esm_rewriting.specs.declared.stop.Stop.TheVariants as stops
use Rattle.esm_row_laws.specs.Spots.{Kont, Spot, rounds_of, rounds_row, spot_row}
use Rattle.esm_row_laws.specs.Rooms.{HasRoom, SpotHasRoom}
use Rattle.esm_row_laws.specs.Remaining.{contexts, plug, rest_of, rest_at}
use Rattle.esm_row_laws.specs.Landings.{over_names}
use Rattle.esm_row_laws.specs.Moving.{Part}
use Rattle.esm_row_laws.proofs.Moves as moves
use Rattle.esm_row_machine.specs.Functions.{Here, Waiter, rounds_at}
use Rattle.esm_row_machine.specs.Stacks.{IsLeft, operands_under}
use Rattle.esm_row_machine.specs.Outside.{Planning, Ending, AllKnown, Answered, Well, out_value, ends_as, gives, leaves, halts, modules_in}
use Rattle.esm_row_machine.specs.Changes.{Put, Threw, Took}
use Rattle.esm_row_machine.specs.Turns.{GoesOn, ThrowsHere, Halts, Turned}
use Rattle.esm_row_machine.specs.declared.machine.Frame.{Frame}
use Rattle.esm_row_machine.specs.declared.machine.Machine.{Machine}
use Rattle.esm_row_machine.specs.declared.turn.Turn.{Turn}
use Rattle.esm_row_machine.specs.declared.turn.Turn.TheVariants as turn
use Rattle.esm_row_machine.proofs.Going as going
use Rattle.esm_row_machine.proofs.Going.{IsLawful, values_more, known_more}
use Rattle.esm_row_machine.proofs.Coming.{At, one_above}
use Rattle.esm_row_machine.proofs.Changed as changed
use Rattle.esm_row_machine.proofs.Literals.{with_operands}

module _ {W S : Type 0} (state : W → State ℕ S) (modules : S → Modules ℕ) (linked : S → ℕ → Bool) (begins : Importing ℕ S)
    (Ready : W → Type 0) (Keeps : W → W → Type 0) (owns : S → ℕ → List (List ℕ)) (lawful : IsLawful state modules linked begins Ready Keeps owns)
    (w : W) (s : Machine) (f : Frame) (left : ℕ) (h : Here) (ws : List Waiter) where
  abbrev Tree : W → ℕ → List Item
  Tree v = (modules_in state modules linked begins Ready Keeps v).tree

  abbrev Known : W → CodeValue → Type 0
  Known v u = going.Known state modules linked begins Ready Keeps owns v u

  -- an operation rewrites a part under way at this place, and its value is on top at the next one
  pub record Asks : Type 0 where
    pub place : Spot
    pub before : List CodeValue
    pub next : Spot
    pub at : At state modules linked begins Ready Keeps owns w s f (left + 1) h ws place before
    -- the part, what becomes of its value, and the operands below
    pub kont : Kont
    pub below : List CodeValue
    pub part : Term CodeValue
    pub behind : CodeValue → Term CodeValue
    pub is : rest_at numbered place h.names before ≡ rest_of numbered kont h.names below part
    pub leads_to : (v : CodeValue) → rest_of numbered kont h.names below (behind v) ≡ rest_at numbered next h.names (v ∷ below)
    pub same_rounds : rounds_of kont ≡ rounds_at place
    pub next_rounds : rounds_at next ≡ rounds_at place
    pub room : HasRoom kont below
    pub next_room : (v : CodeValue) → SpotHasRoom next (v ∷ below)
    -- those below on the stack
    pub items : List Value
    pub stacked : values_of items ≡ operands_under ws ++ reverse below
    pub known : AllKnown (Known w) (values_of items)
    pub left_there : IsLeft (Tree w) h.at h.function (spot_row next) left
    pub left_round : IsLeft (Tree w) h.at h.function (rounds_row (rounds_of kont)) (length (rounds_row (rounds_of kont)))

  module _ (a : Asks) where
    -- what the part is rewritten to
    abbrev pub Parts : Rewritten CodeValue Limit (Term CodeValue) → State ℕ S → Type 0
    Parts c late = Part modules begins h.at a.kont h.names (state w) a.part c late

    -- it is rewritten to this end
    abbrev pub Rewrites : Ending → W → Type 0
    Rewrites end after = Parts (end a.behind) (state after)

    -- what the world told is what the part is rewritten to
    abbrev pub Tells : Result Out Stop → W → Type 0
    Tells (Ok told) after = Rewrites (ends_as told) after × Known after (out_value told) × Well state modules linked begins Ready Keeps w after
    Tells (Err (stops.Limit why)) after = Rewrites (halts why) after × Keeps w after
    Tells (Err stops.Memory) after = Unit {0}

    module _ (after : W) (keeps : Keeps w after) (late : Machine) (same : with_operands s late) where
      known_after : (vs : List CodeValue) → AllKnown (Known w) vs → AllKnown (Known after) vs
      known_after vs known = changed.known_after state modules linked begins Ready Keeps owns lawful w s f (left + 1) h ws a.place a.before a.at after keeps late same vs known

      -- a value
      gave : (u : Value) → late.operands.items ≡ a.items ++ u ∷ [] → Rewrites (gives (value_of u)) after → Known after (value_of u) → Ready after
          → GoesOn state modules linked begins Ready Keeps owns w f h ws left after late
      gave u put rewrites knows ready =
          changed.goes_on state modules linked begins Ready Keeps owns lawful w s f (left + 1) h ws a.place a.before a.at after keeps late same left a.next (value_of u ∷ a.below) (a.items ++ u ∷ []) put a.next_rounds
          (one_above (operands_under ws) u a.below a.items a.stacked) (a.next_room (value_of u)) a.left_there ready
          (subst (λ (vs : List CodeValue). AllKnown (Known after) vs) (sym (values_more a.items (u ∷ []))) (known_more (Known after) (values_of a.items) (value_of u ∷ []) (known_after (values_of a.items) a.known) (knows, tt)))
          (λ cs how end seg. subst (λ r. Segment nat_eq modules begins (state w) h.at r cs how end) (sym a.is)
          (moves.goes modules begins h.at a.kont h.names a.below a.room (state w) (state after) a.part (a.behind (value_of u)) rewrites cs how end
          (subst (λ r. Segment nat_eq modules begins (state after) h.at r cs how end) (sym (a.leads_to (value_of u))) seg)))

      -- a throw
      threw : (u : Value) → late.operands.items ≡ a.items → Rewrites (leaves (value_of u)) after → Known after (value_of u) → Ready after
          → ThrowsHere state modules linked begins Ready Keeps owns w f h ws (value_of u) after late
      threw u kept rewrites knows ready =
          changed.throws state modules linked begins Ready Keeps owns lawful w s f (left + 1) h ws a.place a.before a.at after keeps late same (rounds_of a.kont) (plug numbered a.kont a.below a.part) (value_of u) (reverse a.below) a.items
          kept a.same_rounds a.stacked a.left_round ready (known_after (values_of a.items) a.known) knows a.is
          (moves.throws modules begins h.at a.kont h.names a.below a.room (state w) (state after) a.part (value_of u) rewrites)

    -- a limit
    halted : (why : Limit) (after : W) → Keeps w after → Rewrites (halts why) after → Halts state modules linked begins Ready Keeps owns w h why after
    halted why after keeps rewrites = record {
      stops = λ cs. a.at.leads cs (ended.Stopped why) (state after) (subst (λ r. Segment nat_eq modules begins (state w) h.at r cs (ended.Stopped why) (state after)) (sym a.is)
          (moves.stops modules begins h.at a.kont h.names a.below a.room (state w) (state after) a.part why cs rewrites));
      keeps = keeps;
    }

    abbrev Comes : Result Turn Stop → W → Machine → Type 0
    Comes result after late = Turned state modules linked begins Ready Keeps owns w f h ws result after late

    put_on : (u : Value) (after : W) (late : Machine) → with_operands s late → Tells (Ok (out.Value u)) after → (result : Result Turn Stop) → Put a.items u left result late.operands.items → Comes result after late
    put_on u after late same t (Ok (turn.On m)) p = subst (λ n. GoesOn state modules linked begins Ready Keeps owns w f h ws n after late) (sym p.0) (gave after t.2.keeps late same u p.1 t.0 t.1 t.2.is_ready)
    put_on u after late same t (Ok (turn.Calls count m)) p = absurd p
    put_on u after late same t (Ok (turn.Returns q)) p = absurd p
    put_on u after late same t (Ok (turn.Throws q)) p = absurd p
    put_on u after late same t (Err (stops.Limit why)) p = absurd p
    put_on u after late same t (Err stops.Memory) p = tt

    throw_on : (u : Value) (after : W) (late : Machine) → with_operands s late → Tells (Ok (out.Thrown u)) after → (result : Result Turn Stop) → Threw a.items u result late.operands.items → Comes result after late
    throw_on u after late same t (Ok (turn.On m)) p = absurd p
    throw_on u after late same t (Ok (turn.Calls count m)) p = absurd p
    throw_on u after late same t (Ok (turn.Returns q)) p = absurd p
    throw_on u after late same t (Ok (turn.Throws q)) p =
        subst (λ (q : Value). ThrowsHere state modules linked begins Ready Keeps owns w f h ws (value_of q) after late) (sym p.0) (threw after t.2.keeps late same u p.1 t.0 t.1 t.2.is_ready)
    throw_on u after late same t (Err (stops.Limit why)) p = absurd p
    throw_on u after late same t (Err stops.Memory) p = tt

    -- what the world told, in all cases
    pub told_turns : (told : Result Out Stop) (after : W) (late : Machine) → with_operands s late → Tells told after → (result : Result Turn Stop) → Took a.items told left result late.operands.items → Comes result after late
    told_turns (Ok (out.Value u)) after late same t result p = put_on u after late same t result p
    told_turns (Ok (out.Thrown u)) after late same t result p = throw_on u after late same t result p
    told_turns (Err (stops.Limit why)) after late same t result p = subst (λ (r : Result Turn Stop). Comes r after late) (sym p) (halted why after t.1 t.0)
    told_turns (Err stops.Memory) after late same t result p = subst (λ (r : Result Turn Stop). Comes r after late) (sym p) tt

    -- where a plan is followed for the part
    module _ (plan : Planning) (rule : (c : Rewritten CodeValue Limit (Term CodeValue)) (late : State ℕ S)
        → Follows (Performs nat_eq modules begins h.at) (over_names modules begins (rounds_of a.kont) h.names (state w)) (plan a.behind) c (over_names modules begins (rounds_of a.kont) h.names late)
        → Parts c late) where
      tells : (told : Result Out Stop) (after : W) → Answered state modules linked begins Ready Keeps h.at w plan told after → Tells told after
      tells (Ok told) after t = (rule (ends_as told a.behind) (state after) (t.0 (scopes_in (contexts numbered (rounds_of a.kont) h.names)) a.behind), t.1, t.2)
      tells (Err (stops.Limit why)) after t = (rule (Stops why) (state after) (t.0 (scopes_in (contexts numbered (rounds_of a.kont) h.names)) a.behind), t.1)
      tells (Err stops.Memory) after t = tt

      pub plan_turns : (told : Result Out Stop) (after : W) (late : Machine) → with_operands s late → Answered state modules linked begins Ready Keeps h.at w plan told after → (result : Result Turn Stop) → Took a.items told left result late.operands.items
          → Comes result after late
      plan_turns told after late same t result p = told_turns told after late same (tells told after t) result p
