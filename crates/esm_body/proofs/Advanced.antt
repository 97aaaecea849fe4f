-- What the evaluation of a statement's expression comes to: its value is used or awaited, or it throws, calls or stops.
use Rattle.std.proofs.Common.{◌≡◌, ℕ, nat_eq, Bool, true, false, List, length, Option, None, Vec, Box, Global, refl, ap, subst, sym, ◌∙◌}
use Rattle.std.specs.Prelude.{Result, Ok, Err}
use Rattle.std.specs.Arc.{arc_value}
use Rattle.esm_resolve.specs.Graph.{Graph}
use Rattle.esm_resolve.specs.SharedSet.{SharedSetAgrees, SharedSetEnds}
use Rattle.esm_values.specs.Code.{CodeValue, value_of, values_of, func_value, numbered}
use Rattle.esm_values.specs.declared.value.FuncId.{FuncId}
use Rattle.esm_values.specs.declared.value.Value.{Value}
use Rattle.esm_values.specs.Plans.{Rewritten as comes}
use Rattle.esm_expr_eval.specs.Ends.{TermEnd, Leads}
use Rattle.esm_expr_eval.specs.Ends.{TermEnd as ends}
use Rattle.esm_expr_eval.specs.Machine.{rest_of, IsSound, with_given}
use Rattle.esm_expr_eval.specs.Terms.{Term}
use Rattle.esm_expr_eval.specs.Terms.Term.{Val}
use Rattle.esm_promise.specs.Outer.{Outer}
use Rattle.esm_env.specs.Modules.{Modules}
use Rattle.esm_rewriting.specs.Rest.{Rest, more}
use Rattle.esm_rewriting.specs.Rest.{Use as Purpose}
use Rattle.esm_rewriting.specs.Rest.{Part as parts}
use Rattle.esm_rewriting.specs.Rest.{Use as uses}
use Rattle.esm_rewriting.specs.State.{Importing}
use Rattle.esm_rewriting.specs.BodyRewriting.{On}
use Rattle.esm_rewriting.specs.BodyRewriting.{RewritesBody as rule}
use Rattle.esm_rewriting.specs.Fits.{Kind, AreLinked}
use Rattle.esm_body.specs.Importers.{HasLinked, ImportsAreLawful}
use Rattle.esm_rewriting.specs.Chains.{Turns, only}
use Rattle.esm_rewriting.specs.Contexts.{caught_in}
use Rattle.esm_body.specs.Inner.Stack.{doing_part}
use Rattle.esm_body.specs.Code.{innermost, in_front_of, awaited_by, use_of, IsUse, IsCode}
use Rattle.esm_body.specs.Inner.World.{state_in, inner_of, ActsInside, url_inside}
use Rattle.esm_body.specs.Inner.Turn.{code_contexts, used, doing_given, IsReadyFor, MayTurn, Came, Turned, Threw}
use Rattle.esm_rewriting.specs.declared.stop.Stop.{Stop}
use Rattle.esm_rewriting.specs.declared.stop.Stop.TheVariants as stops
use Rattle.esm_body.specs.declared.inside.Inside.{Inside}
use Rattle.esm_body.specs.declared.turn.Outcome.{Outcome}
use Rattle.esm_body.specs.declared.turn.Outcome.TheVariants as o
use Rattle.esm_body.specs.declared.work.Activation.{Activation}
use Rattle.esm_body.specs.declared.work.Doing.{Doing}
use Rattle.esm_body.specs.declared.work.Use.{Use}
use Rattle.esm_body.proofs.Evaluated.{no_end, has_value, has_thrown, has_called, has_stopped, ready_behind, turned_behind}
use Rattle.esm_body.proofs.Lawful.{begins_some, begins_one, shows_urls}
use Rattle.esm_rewriting.proofs.OneAct.{BeginsOne}
use Rattle.esm_rewriting.proofs.SomeAct.{BeginsSome}
use Rattle.esm_body.proofs.TurnParts.{keeps_itself, keeps_same, front_waits, threw_turned}

module _ {I S : Type 0} (seen : I → S) (modules : S → Modules ℕ) (linked : S → ℕ → Bool) (fits : Outer ℕ S → Type 0) (begins : Importing ℕ S) where
  abbrev Ready : Inside I → Kind → Rest CodeValue → Type 0
  Ready w k r = IsReadyFor seen modules linked fits begins w k r

  abbrev inner_rest : Inside I → Rest CodeValue
  inner_rest w = innermost (arc_value w.code.now.tree).stmts w.code.now.levels.items

  -- this value is awaited, for this
  abbrev awaiting : Inside I → Use → Value → Rest CodeValue
  awaiting y p v = in_front_of y.code.now (parts.Does (uses.Awaits (use_of (arc_value y.code.now.tree).stmts p)) (Val (value_of v)))

  waits_came : (y : Inside I) (k : Kind) (v : Value) (p : Use) → IsCode y.code.now → IsUse (length (arc_value y.code.now.tree).stmts) p → Ready y k (awaiting y p v) → Came seen modules linked fits begins y (awaiting y p v) (o.Waits v p) y
  waits_came y k v p c q r = record {
    moved = only (front_waits seen modules linked fits begins y (more (parts.Does (uses.Awaits (use_of (arc_value y.code.now.tree).stmts p)) (Val (value_of v))) (inner_rest y)) (more (parts.Stands (use_of (arc_value y.code.now.tree).stmts p)) (inner_rest y)) (value_of v) (inner_of seen y) refl rule.awaits);
    same = record { at = refl; tree = refl; code = c; outcome = q };
    keeps = keeps_itself seen modules linked fits begins y r.made;
  }

  module _ (law : ImportsAreLawful modules linked fits begins) (agrees : SharedSetAgrees) (finds : SharedSetEnds) (graphs : I → Graph) (urls : I → ℕ → List ℕ) (has : (i : I) → AreLinked (modules (seen i)) (linked (seen i)) → HasLinked (modules (seen i)) (linked (seen i)) (graphs i) (urls i)) (w : Inside I) (d : Doing) (given : Option Value) where
    abbrev some : BeginsSome modules linked fits begins
    some = begins_some modules linked fits begins law agrees finds

    abbrev one : BeginsOne begins
    one = begins_one modules linked fits begins law

    abbrev shows : (o : Outer ℕ S) (i : I) (m : ℕ) → fits (record o { imports = seen i }) → linked (seen i) m ≡ true → urls i m ≡ (modules (seen i)).url m
    shows = shows_urls modules linked fits begins law seen graphs urls has

    abbrev purpose : Purpose
    purpose = awaited_by (arc_value w.code.now.tree).stmts d.awaits (use_of (arc_value w.code.now.tree).stmts d.purpose)

    abbrev begun : Term CodeValue
    begun = with_given given (rest_of d.frame)

    abbrev left : Rest CodeValue
    left = doing_given w.code.now d given

    -- where its evaluation leads
    abbrev pub Evaluates : TermEnd CodeValue Stop → Inside I → Type 0
    Evaluates e y = Leads numbered (url_inside urls) (ActsInside seen modules linked fits begins) w begun e y

    abbrev Finds : Value → Inside I → Type 0
    Finds v y = Evaluates (ends.Value (value_of v)) y

    abbrev Fails : Value → Inside I → Type 0
    Fails v y = Evaluates (ends.Thrown (value_of v)) y

    -- its value in its place
    abbrev found : Value → Rest CodeValue
    found v = in_front_of w.code.now (parts.Does purpose (Val (value_of v)))

    found_awaits : (y : Inside I) (v : Value) → d.awaits ≡ true → y.code.now ≡ w.code.now → found v ≡ awaiting y d.purpose v
    found_awaits y v a e = λ j. in_front_of (sym e j) (parts.Does (awaited_by (arc_value (sym e j).tree).stmts (a j) (use_of (arc_value (sym e j).tree).stmts d.purpose)) (Val (value_of v)))

    found_used : (y : Inside I) (v : Value) → d.awaits ≡ false → y.code.now ≡ w.code.now → found v ≡ used y.code.now d.purpose v
    found_used y v a e = λ j. in_front_of (sym e j) (parts.Does (awaited_by (arc_value (sym e j).tree).stmts (a j) (use_of (arc_value (sym e j).tree).stmts d.purpose)) (Val (value_of v)))

    -- ---- a value

    found_now : (y : Inside I) (k : Kind) (v : Value) → Ready w k left → Finds v y → y.code.now ≡ w.code.now
    found_now y k v r h = (has_value seen modules linked fits begins some one w urls shows k purpose begun r y (value_of v) h).same.now

    found_ready : (y : Inside I) (k : Kind) (v : Value) → Ready w k left → Finds v y → Ready y k (found v)
    found_ready y k v r h =
        let q = has_value seen modules linked fits begins some one w urls shows k purpose begun r y (value_of v) h in
        ready_behind seen modules linked fits begins some one w y k left (found v) r q.same q.made q.leads

    found_turned : (y after : Inside I) (k : Kind) (v : Value) (result : Result Outcome Stop) → Ready w k left → Finds v y → Turned seen modules linked fits begins y (found v) result after → Turned seen modules linked fits begins w left result after
    found_turned y after k v result r h t =
        let q = has_value seen modules linked fits begins some one w urls shows k purpose begun r y (value_of v) h in
        turned_behind seen modules linked fits begins some one w y k left (found v) r q.same q.made q.leads result after (no_end (code_contexts w.code.now) (parts.Does purpose (Val (value_of v))) (inner_rest w)) t

    pub found_code : (y : Inside I) (k : Kind) (v : Value) → IsCode w.code.now → Ready w k left → Finds v y → IsCode y.code.now
    found_code y k v c r h = subst IsCode (sym (found_now y k v r h)) c

    pub found_use : (y : Inside I) (k : Kind) (v : Value) → IsUse (length (arc_value w.code.now.tree).stmts) d.purpose → Ready w k left → Finds v y → IsUse (length (arc_value y.code.now.tree).stmts) d.purpose
    found_use y k v q r h = subst (λ (n : Activation). IsUse (length (arc_value n.tree).stmts) d.purpose) (sym (found_now y k v r h)) q

    -- it is awaited
    pub awaited_came : (y : Inside I) (k : Kind) (v : Value) → d.awaits ≡ true → IsCode w.code.now → IsUse (length (arc_value w.code.now.tree).stmts) d.purpose → Ready w k left → Finds v y → Came seen modules linked fits begins w left (o.Waits v d.purpose) y
    awaited_came y k v a c q r h =
        let e = found_awaits y v a (found_now y k v r h) in
        found_turned y y k v (Ok (o.Waits v d.purpose)) r h
        (subst (λ z. Came seen modules linked fits begins y z (o.Waits v d.purpose) y) (sym e)
        (waits_came y k v d.purpose (found_code y k v c r h) (found_use y k v q r h) (subst (λ z. Ready y k z) e (found_ready y k v r h))))

    -- it is used
    pub used_may : (y : Inside I) (k : Kind) (v : Value) → d.awaits ≡ false → Ready w k left → Finds v y → MayTurn seen modules linked fits begins y (used y.code.now d.purpose v)
    used_may y k v a r h = (k, subst (λ z. Ready y k z) (found_used y v a (found_now y k v r h)) (found_ready y k v r h))

    pub used_turned : (y after : Inside I) (k : Kind) (v : Value) (result : Result Outcome Stop) → d.awaits ≡ false → Ready w k left → Finds v y → Turned seen modules linked fits begins y (used y.code.now d.purpose v) result after
        → Turned seen modules linked fits begins w left result after
    used_turned y after k v result a r h t =
        found_turned y after k v result r h (subst (λ z. Turned seen modules linked fits begins y z result after) (sym (found_used y v a (found_now y k v r h))) t)

    -- ---- a throw

    pub failed_code : (y : Inside I) (k : Kind) (v : Value) → IsCode w.code.now → Ready w k left → Fails v y → IsCode y.code.now
    failed_code y k v c r h = subst IsCode (sym (has_thrown seen modules linked fits begins some one w urls shows k purpose begun r y (value_of v) h).same.now) c

    pub failed_turned : (y after : Inside I) (k : Kind) (v : Value) (result : Result Outcome Stop) → Ready w k left → Fails v y → Threw y v result after → Turned seen modules linked fits begins w left result after
    failed_turned y after k v result r h t =
        let q = has_thrown seen modules linked fits begins some one w urls shows k purpose begun r y (value_of v) h in
        threw_turned seen modules linked fits begins w y after left v result (ap (λ (n : Activation). n.at) q.same.now) (ap (λ (n : Activation). n.tree) q.same.now) (keeps_same seen modules linked fits begins w y r.made q.same q.made) t
        (subst (λ (n : Activation). Turns nat_eq modules begins w.code.now.at.0 (state_in seen w) left (caught_in (code_contexts n) (value_of v)) (state_in seen y)) (sym q.same.now) q.leads)

    -- ---- a call

    called_came : (y : Inside I) (k : Kind) (f : FuncId) (vs : Vec Value Global) (late : Box Doing Global) → late.value.purpose ≡ d.purpose → late.value.awaits ≡ d.awaits → IsCode w.code.now → IsUse (length (arc_value w.code.now.tree).stmts) d.purpose → IsSound late.value.frame → late.value.frame.focus ≡ None → Ready w k left
        → Evaluates (ends.Call (func_value f) (values_of vs.items) (rest_of late.value.frame)) y → Came seen modules linked fits begins w left (o.Calls f vs late) y
    called_came y k f vs late pu aw c u s n r h =
        let q = has_called seen modules linked fits begins some one w urls shows k purpose begun r y (func_value f) (values_of vs.items) (rest_of late.value.frame) h in
        let e : in_front_of w.code.now (parts.Does purpose (rest_of late.value.frame)) ≡ in_front_of y.code.now (doing_part (arc_value y.code.now.tree).stmts late.value) =
        (λ j. in_front_of (sym q.same.now j) (parts.Does (awaited_by (arc_value (sym q.same.now j).tree).stmts (sym aw j) (use_of (arc_value (sym q.same.now j).tree).stmts (sym pu j))) (rest_of late.value.frame))) in
        record {
          moved = subst (λ z. Turns nat_eq modules begins w.code.now.at.0 (state_in seen w) left (On (comes.Calls (func_value f) (values_of vs.items) z)) (state_in seen y)) e q.leads;
          same = record {
            at = ap (λ (n : Activation). n.at) q.same.now;
            tree = ap (λ (n : Activation). n.tree) q.same.now;
            code = subst IsCode (sym q.same.now) c;
            outcome = record {
              purpose = subst (λ p. IsUse (length (arc_value y.code.now.tree).stmts) p) (sym pu) (subst (λ (n : Activation). IsUse (length (arc_value n.tree).stmts) d.purpose) (sym q.same.now) u);
              sound = s;
              waits = n;
            };
          };
          keeps = keeps_same seen modules linked fits begins w y r.made q.same q.made;
        }

    -- the expression stands in a box
    pub called_boxed : (y : Inside I) (k : Kind) (f : FuncId) (vs : Vec Value Global) (late : Doing) (b : Box Doing Global) → b.value ≡ late → late.purpose ≡ d.purpose → late.awaits ≡ d.awaits → IsCode w.code.now → IsUse (length (arc_value w.code.now.tree).stmts) d.purpose → IsSound late.frame → late.frame.focus ≡ None → Ready w k left
        → Evaluates (ends.Call (func_value f) (values_of vs.items) (rest_of late.frame)) y → Came seen modules linked fits begins w left (o.Calls f vs b) y
    called_boxed y k f vs late b is pu aw c u s n r h =
        called_came y k f vs b (ap (λ (e : Doing). e.purpose) is ∙ pu) (ap (λ (e : Doing). e.awaits) is ∙ aw) c u (subst (λ (e : Doing). IsSound e.frame) (sym is) s) (ap (λ (e : Doing). e.frame.focus) is ∙ n) r
        (subst (λ (e : Doing). Evaluates (ends.Call (func_value f) (values_of vs.items) (rest_of e.frame)) y) (sym is) h)

    -- ---- a stop

    pub stopped_turned : (y : Inside I) (k : Kind) (why : Stop) → Ready w k left → Evaluates (ends.Stopped why) y → Turned seen modules linked fits begins w left (Err why) y
    stopped_turned y k (stops.Limit limit) r h =
        let q = has_stopped seen modules linked fits begins some one w urls shows k purpose begun r y limit h in
        record { turns = q.leads; keeps = keeps_same seen modules linked fits begins w y r.made q.same q.made }
    stopped_turned y k stops.Memory r h = tt
