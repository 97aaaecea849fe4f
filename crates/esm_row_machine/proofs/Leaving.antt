-- Operations that leave the function: it returns, throws, or is at its end.
use Rattle.std.proofs.Common.{◌≡◌, ℕ, ◌+◌, nat_eq, Bool, List, [], ◌∷◌, ◌++◌, refl, ap, sym, subst, ◌∙◌}
use Rattle.std.proofs.lemmas.List.{append-nil}
use Rattle.std.specs.Prelude.{reverse, Result, Ok, Err}
use Rattle.esm_tree.specs.Syntax.{no_more, nothing}
use Rattle.esm_env.specs.Modules.{Modules}
use Rattle.esm_env.specs.Declarations.{Declaration}
use Rattle.esm_values.specs.Value as value
use Rattle.esm_values.specs.Code.{CodeValue, value_of, values_of, numbered}
use Rattle.esm_values.specs.declared.value.Value.{Value}
use Rattle.esm_values.specs.declared.value.Value.TheVariants as v
use Rattle.esm_expr_eval.specs.Terms.Term.{Val}
use Rattle.esm_rewriting.specs.Rest.{Use as Purpose}
use Rattle.esm_rewriting.specs.Rest.{Use as purposes}
use Rattle.esm_rewriting.specs.Rest.{more, fill_rest}
use Rattle.esm_rewriting.specs.Rest.Part.{Does as does}
use Rattle.esm_rewriting.specs.State.{State, Importing}
use Rattle.esm_rewriting.specs.BodyRewriting.{RewritesBody as rule}
use Rattle.esm_rewriting.specs.Segment.{Active, Ended, Segment}
use Rattle.esm_rewriting.specs.declared.stop.Stop.{Stop}
use Rattle.esm_rewriting.specs.declared.stop.Stop.TheVariants as stops
use Rattle.esm_rows.specs.declared.op.Op.{Op}
use Rattle.esm_rows.specs.declared.op.Op.TheVariants as op
use Rattle.esm_row_laws.specs.Spots.{Left, left, Round, Own, names_of, Uses, Spot, Has, Between}
use Rattle.esm_row_laws.specs.Remaining.{left_rest, rest_at}
use Rattle.esm_row_laws.specs.Operations.{Values}
use Rattle.esm_row_laws.specs.Places.{FitNames}
use Rattle.esm_row_laws.specs.Told.{Told, EndsAt, of_body, of_function}
use Rattle.esm_row_laws.proofs.Landed as landed
use Rattle.esm_row_machine.specs.Functions.{Here, Waiter}
use Rattle.esm_row_machine.specs.Stacks.{AreOfFunction, operands_under}
use Rattle.esm_row_machine.specs.Changes.{OperandsAre, Popped, Gives, Threw}
use Rattle.esm_row_machine.specs.Turns.{GivesBack, ThrowsHere, Turned}
use Rattle.esm_row_machine.specs.declared.machine.Frame.{Frame}
use Rattle.esm_row_machine.specs.declared.machine.Machine.{Machine}
use Rattle.esm_row_machine.specs.declared.turn.Turn.{Turn}
use Rattle.esm_row_machine.specs.declared.turn.Turn.TheVariants as turn
use Rattle.esm_row_machine.proofs.Going as going
use Rattle.esm_row_machine.proofs.Going.{IsLawful}
use Rattle.esm_row_machine.proofs.Coming.{Comes, At}
use Rattle.esm_row_machine.proofs.Literals.{with_operands}
use Rattle.esm_row_machine.proofs.Deciding as deciding
use Rattle.esm_row_machine.proofs.Asked as asked
use Rattle.esm_row_machine.proofs.Changed as changed

module _ {W S : Type 0} (state : W → State ℕ S) (modules : S → Modules ℕ) (linked : S → ℕ → Bool) (begins : Importing ℕ S)
    (Ready : W → Type 0) (Keeps : W → W → Type 0) (owns : S → ℕ → List (List ℕ)) (lawful : IsLawful state modules linked begins Ready Keeps owns)
    (w : W) (s : Machine) (f : Frame) (left_behind : ℕ) (h : Here) (ws : List Waiter) (texts : List (List ℕ)) where
  abbrev Next : Op → Type 0
  Next q = Comes state modules linked begins Ready Keeps owns w s f left_behind h ws texts q

  abbrev Comes_to : Result Turn Stop → Machine → Type 0
  Comes_to result late = Turned state modules linked begins Ready Keeps owns w f h ws result w late

  abbrev Known : CodeValue → Type 0
  Known u = going.Known state modules linked begins Ready Keeps owns w u

  abbrev Stands : Spot → List CodeValue → Type 0
  Stands t vs = At state modules linked begins Ready Keeps owns w s f (left_behind + 1) h ws t vs

  abbrev TookOne : Purpose → Left → List Round → List Value → Value → Type 0
  TookOne p l rs items u = deciding.Took state modules linked begins Ready Keeps owns lawful w s f left_behind h ws texts (Uses p l rs) items u

  -- no operand is below the value of a statement
  alone : (p : Purpose) (l : Left) (rs : List Round) (items : List Value) (u : Value) (k : TookOne p l rs items u) → Stands (Has (Uses p l rs)) (value_of u ∷ [])
  alone p l rs items u k = subst (λ (vs : List CodeValue). Stands (Has (Uses p l rs)) (value_of u ∷ vs)) k.at.stand.stands.room k.at

  none_below : (p : Purpose) (l : Left) (rs : List Round) (items : List Value) (u : Value) (k : TookOne p l rs items u) → values_of items ≡ operands_under ws
  none_below p l rs items u k = k.values ∙ ap (λ (vs : List CodeValue). operands_under ws ++ reverse vs) k.at.stand.stands.room ∙ append-nil (operands_under ws)

  -- ---- `return`

  returned : (l : Left) (rs : List Round) (items : List Value) (u : Value) → TookOne purposes.Returns l rs items u → (late : Machine) → with_operands s late → late.operands.items ≡ items
      → GivesBack state modules linked begins Ready Keeps owns w f h ws (value_of u) w late
  returned l rs items u k late same e =
      let a = alone purposes.Returns l rs items u k in
      let are : OperandsAre s items late = record { operands = e; names = same.0; handlers = same.1; frames = same.2 } in
      record {
        rounds = rs;
        vss = h.names;
        gives = λ c cs how end seg. a.leads (c ∷ cs) how end (landed.returns modules begins h.at (value_of u) l rs h.names (state w) c cs how end seg);
        below = going.same_names state modules linked begins Ready Keeps owns w s f h ws late items are h.at h.function rs h.names a.stand.stands.below;
        stacked = ap values_of e ∙ none_below purposes.Returns l rs items u k;
        known = k.known_top;
        fits = going.same_fits state modules linked begins Ready Keeps owns w s f h ws late items are a.stand.fits k.known;
        keeps = lawful.itself w;
      }

  pub give : (c : Next op.Return) (late : Machine) → with_operands s late → (result : Result Turn Stop) → Popped s.operands.items (λ items u r. Gives items u r late.operands.items) result → Comes_to result late
  give c late same result p =
      let t = subst (λ q. Told q c.rest c.spot) c.told c.tells in
      asked.from_one state modules linked begins Ready Keeps owns lawful w s f left_behind h ws texts (Uses purposes.Returns t.0 t.1) c.operands
      (asked.at_spot state modules linked begins Ready Keeps owns lawful w s f left_behind h ws texts c (Has (Uses purposes.Returns t.0 t.1)) t.2) w late (λ items u r. Gives items u r late.operands.items)
      (λ items u k r q. subst (λ (r : Result Turn Stop). Comes_to r late) (sym q.0) (returned t.0 t.1 items u k late same q.1)) result p

  -- ---- `throw`

  thrown : (l : Left) (rs : List Round) (items : List Value) (u : Value) → TookOne purposes.Throws l rs items u → (late : Machine) → with_operands s late → late.operands.items ≡ items
      → ThrowsHere state modules linked begins Ready Keeps owns w f h ws (value_of u) w late
  thrown l rs items u k late same e =
      let a = alone purposes.Throws l rs items u k in
      changed.throws state modules linked begins Ready Keeps owns lawful w s f (left_behind + 1) h ws (Has (Uses purposes.Throws l rs)) (value_of u ∷ []) a w (lawful.itself w) late same rs
      (more (does purposes.Throws (Val (value_of u))) (left_rest numbered l)) (value_of u) [] items e refl (none_below purposes.Throws l rs items u k ∙ sym (append-nil (operands_under ws)))
      (asked.round_left state modules linked begins Ready Keeps owns lawful w s f left_behind h ws texts (Uses purposes.Throws l rs) (left_behind + 1) a.stand.stands.place) a.stand.fits.is_ready k.known k.known_top refl rule.throws

  throws_by : (l : Left) (rs : List Round) (items : List Value) (u : Value) → TookOne purposes.Throws l rs items u → (late : Machine) → with_operands s late → (result : Result Turn Stop) → Threw items u result late.operands.items → Comes_to result late
  throws_by l rs items u k late same (Ok (turn.On n)) p = absurd p
  throws_by l rs items u k late same (Ok (turn.Calls count n)) p = absurd p
  throws_by l rs items u k late same (Ok (turn.Returns q)) p = absurd p
  throws_by l rs items u k late same (Ok (turn.Throws q)) p = subst (λ (r : Value). ThrowsHere state modules linked begins Ready Keeps owns w f h ws (value_of r) w late) (sym p.0) (thrown l rs items u k late same p.1)
  throws_by l rs items u k late same (Err (stops.Limit why)) p = absurd p
  throws_by l rs items u k late same (Err stops.Memory) p = tt

  pub throw_value : (c : Next op.Throw) (late : Machine) → with_operands s late → (result : Result Turn Stop) → Popped s.operands.items (λ items u r. Threw items u r late.operands.items) result → Comes_to result late
  throw_value c late same result p =
      let t = subst (λ q. Told q c.rest c.spot) c.told c.tells in
      asked.from_one state modules linked begins Ready Keeps owns lawful w s f left_behind h ws texts (Uses purposes.Throws t.0 t.1) c.operands
      (asked.at_spot state modules linked begins Ready Keeps owns lawful w s f left_behind h ws texts c (Has (Uses purposes.Throws t.0 t.1)) t.2) w late (λ items u r. Threw items u r late.operands.items)
      (λ items u k r q. throws_by t.0 t.1 items u k late same r q) result p

  -- ---- the end

  ends_by : (ds : List Declaration) (rs : List Round) (vss : Values) → AreOfFunction (Own ds ∷ rs) → FitNames (names_of (Own ds ∷ rs)) vss → (c : Active ℕ) (cs : List (Active ℕ)) (how : Ended ℕ) (end : State ℕ S)
      → Segment nat_eq modules begins (state w) c.at (fill_rest (Val value.Undefined) c.rest) cs how end → Segment nat_eq modules begins (state w) h.at (rest_at numbered (Between (left no_more nothing) (Own ds ∷ rs)) vss []) (c ∷ cs) how end
  ends_by ds [] [] of fit c cs how end seg = absurd fit
  ends_by ds [] (vs ∷ []) of fit c cs how end seg = landed.ends modules begins h.at ds vs (state w) c cs how end seg
  ends_by ds [] (vs ∷ us ∷ vss) of fit c cs how end seg = absurd fit.1
  ends_by ds (r ∷ rs) vss of fit c cs how end seg = absurd of

  ended : (t : Spot) (vs : List CodeValue) → EndsAt t → Stands t vs → GivesBack state modules linked begins Ready Keeps owns w f h ws value.Undefined w s
  ended _ vs of_body a = absurd a.stand.stands.below.rounds
  ended _ vs (of_function ds rs) a =
      let empty : vs ≡ [] = a.stand.stands.room in
      let b : Stands (Between (left no_more nothing) (Own ds ∷ rs)) [] = subst (λ (us : List CodeValue). Stands (Between (left no_more nothing) (Own ds ∷ rs)) us) empty a in
      record {
        rounds = Own ds ∷ rs;
        vss = h.names;
        gives = λ c cs how end seg. b.leads (c ∷ cs) how end (ends_by ds rs h.names b.stand.stands.below.rounds b.stand.stands.below.fit c cs how end seg);
        below = b.stand.stands.below;
        stacked = b.stand.stands.operands ∙ append-nil (operands_under ws);
        known = tt;
        fits = b.stand.fits;
        keeps = lawful.itself w;
      }

  pub end : (c : Next op.End) → Comes_to (Ok (turn.Returns v.Undefined)) s
  end c = ended c.spot c.operands (subst (λ q. Told q c.rest c.spot) c.told c.tells) c.at
