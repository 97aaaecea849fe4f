-- Where no module awaits, evaluation runs the bodies in the order in which the walk leaves them.
use Rattle.std.proofs.Common.{◌≡◌, Bool, true, false, List, [], ◌∷◌, ◌++◌, Some, None, refl, ap, ap₂, subst, sym, ◌∙◌}
use Rattle.std.specs.Prelude.{cond, Option}
use Rattle.std.specs.Option.{option_or}
use Rattle.esm_base.specs.declared.limits.Limit.{Limit}
use Rattle.esm_base.specs.Urls.{Url, same_url}
use Rattle.esm_realm.specs.Walk.{Mark, leaves}
use Rattle.esm_base.specs.Lists.{is_in}
use Rattle.esm_realm.specs.Walk.Mark.{Enter, Pass, Leave}
use Rattle.esm_realm.specs.Components.{closes, opened_before, opened_from, opened_after, open_behind}
use Rattle.esm_values.specs.Value.{Value}
use Rattle.esm_loads.specs.UrlTable.{put_at}
use Rattle.esm_loads.specs.Loading.{Loading}
use Rattle.esm_eval.specs.Nodes.{Phase, NotEntered, Evaluating, EvaluatingAsync, Evaluated, Node}
use Rattle.esm_eval.specs.Evaluation.{error_of, wait_on, wait_by, add_wait, root_of, is_stamped}
use Rattle.esm_eval.specs.Evaluate.{WalkEnd, Ends, Marks, Leaves, enter, close, fail, closed_phase}
use Rattle.esm_eval.specs.Evaluate.{Executes as executes}
use Rattle.esm_rewriting.specs.State.{State}
use Rattle.esm_world.specs.World.{World, body_state, with_state}
use Rattle.esm_world.specs.Layers.{CallsForBody, evaluation}
use Rattle.esm_world.specs.Plain.{RunInOrder, IsPlain, HaveTargets, LeadsTo}

-- a node without error and waits
record IsQuiet (n : Node Url (Value Url)) : Type 0 where
  error : n.error ≡ None
  waits : n.waits ≡ []

by_put : (b : Bool) (m n : Node Url (Value Url)) → IsQuiet m → IsQuiet n → IsQuiet (cond b m n)
by_put true m n p q = p
by_put false m n p q = q

quiet : {w : World} → IsPlain w → (u : Url) → IsQuiet (w.nodes u)
quiet p u = record { error = p.no_error u; waits = p.no_waits u }

put_plain : (w : World) (x : Url) (n : Node Url (Value Url)) → IsPlain w → IsQuiet n → IsPlain (record w { nodes = put_at w.nodes x n })
put_plain w x n p q = record {
  no_error = λ u. (by_put (same_url x u) n (w.nodes u) q (quiet p u)).error;
  no_waits = λ u. (by_put (same_url x u) n (w.nodes u) q (quiet p u)).waits;
  no_stamps = p.no_stamps;
}

enter_plain : (w : World) (x : Url) → IsPlain w → IsPlain (enter evaluation w x)
enter_plain w x p = put_plain w x (record (w.nodes x) { phase = Evaluating }) p (record { error = p.no_error x; waits = p.no_waits x })

state_plain : (w : World) (s : State Url Loading) → IsPlain w → IsPlain (with_state w s)
state_plain w s p = record { no_error = p.no_error; no_waits = p.no_waits; no_stamps = p.no_stamps }

abbrev closed_node : World → Url → Url → Node Url (Value Url)
closed_node w x y = record (w.nodes y) { phase = closed_phase evaluation (is_stamped evaluation w y); cycle_root = Some x }

close_plain : (w : World) (x : Url) (ys : List Url) → IsPlain w → IsPlain (close evaluation w x ys)
close_plain w x [] p = p
close_plain w x (y ∷ ys) p = close_plain (evaluation.put w y (closed_node w x y)) x ys (put_plain w y (closed_node w x y) p (record { error = p.no_error y; waits = p.no_waits y }))

close_state : (w : World) (x : Url) (ys : List Url) → body_state (close evaluation w x ys) ≡ body_state w
close_state w x [] = refl
close_state w x (y ∷ ys) = close_state (evaluation.put w y (closed_node w x y)) x ys

fail_state : (w : World) (v : Value Url) (ys : List Url) → body_state (fail evaluation w v ys) ≡ body_state w
fail_state w v [] = refl
fail_state w v (y ∷ ys) = fail_state (evaluation.put w y (record (w.nodes y) { phase = Evaluated; error = Some v })) v ys

or_none : {A : Type 0} {a b : Option A} → a ≡ None → b ≡ None → option_or a b ≡ None
or_none {A} p q = ap₂ (λ a b. option_or a b) p q

no_throw : (w : World) (t : Url) → IsPlain w → error_of evaluation w t ≡ None
no_throw w t p = or_none (p.no_error t) (p.no_error (root_of evaluation w t))

by_phase : (t r : Url) (h : Phase) (done : Bool) → wait_by evaluation t r h false false done ≡ None
by_phase t r NotEntered done = refl
by_phase t r Evaluating done = refl
by_phase t r EvaluatingAsync done = refl
by_phase t r Evaluated done = refl

unstamped : (w : World) (t : Url) → IsPlain w → is_stamped evaluation w t ≡ false
unstamped w t p = ap (λ us. is_in same_url us t) p.no_stamps

no_wait : (w : World) (t : Url) → IsPlain w → wait_on evaluation w t ≡ None
no_wait w t p =
    let r = root_of evaluation w t in
    ap₂ (λ a b. wait_by evaluation t r (w.nodes t).phase a b (w.nodes r).done) (unstamped w t p) (unstamped w r p) ∙ by_phase t r (w.nodes t).phase (w.nodes r).done

module _ (to : Url → List Url) where
  order_from : {s t after : State Url Loading} {xs : List Url} {end : WalkEnd (Value Url) Limit} → t ≡ s → RunInOrder s xs end after → RunInOrder t xs end after
  order_from {after = after} {xs = xs} {end = end} e q = subst (λ s. RunInOrder s xs end after) (sym e) q

  leaves_on : (w : World) (x : Url) (opened : List Url) (ms : List (Mark Url)) (end : WalkEnd (Value Url) Limit) (mid : World) (s : State Url Loading)
      → Leaves evaluation CallsForBody w x Ends mid → (b : Bool) → closes same_url to opened x ≡ b → opened_after same_url to (open_behind same_url b opened x) ms ≡ []
      → (opened_after same_url to opened ms ≡ [] → LeadsTo to mid opened ms end s)
      → (opened_after same_url to (opened_before same_url opened x) ms ≡ [] → LeadsTo to (close evaluation mid x (opened_from same_url opened x)) (opened_before same_url opened x) ms end s)
      → LeadsTo to w opened (Leave x ∷ ms) end s
  leaves_on w x opened ms end mid s l true e o stay shut = let k = shut o in record { after = k.after; marks = Marks.component l e k.marks; state = k.state }
  leaves_on w x opened ms end mid s l false e o stay shut = let k = stay o in record { after = k.after; marks = Marks.stays l e k.marks; state = k.state }

  pub plain : (ms : List (Mark Url)) (w : World) (opened : List Url) (end : WalkEnd (Value Url) Limit) (s : State Url Loading) → IsPlain w → HaveTargets to ms → opened_after same_url to opened ms ≡ [] → RunInOrder (body_state w) (leaves ms) end s → LeadsTo to w opened ms end s
  plain [] w opened end s p h o RunInOrder.done = subst (λ (v : List Url). LeadsTo to w v [] end s) (sym o) (record { after = w; marks = Marks.done; state = refl })
  plain (Enter x ∷ ms) w opened end s p h o q = let k = plain ms (enter evaluation w x) (opened ++ x ∷ []) end s (enter_plain w x p) h o q in record { after = k.after; marks = Marks.enters k.marks; state = k.state }
  plain (Pass x i ∷ ms) w opened end s p h o q =
      let k = plain ms w opened end s p h.2 o q in
      let same : add_wait evaluation w x (wait_on evaluation w h.0) ≡ w = ap (add_wait evaluation w x) (no_wait w h.0 p) in
      record { after = k.after; marks = Marks.passes h.1 (no_throw w h.0 p) (subst (λ v. Marks evaluation CallsForBody to v opened ms end k.after) (sym same) k.marks); state = k.state }
  plain (Leave x ∷ ms) w opened end s p h o (RunInOrder.next {mid = mid} a r q) =
      let v = with_state w mid in
      let l : Leaves evaluation CallsForBody w x Ends v = Leaves.runs (p.no_waits x) a (executes.ends (CallsForBody.run r)) in
      let shut = close evaluation v x (opened_from same_url opened x) in
      leaves_on w x opened ms end v s l (closes same_url to opened x) refl o
      (λ o. plain ms v opened end s (state_plain w mid p) h o q)
      (λ o. plain ms shut (opened_before same_url opened x) end s (close_plain v x (opened_from same_url opened x) (state_plain w mid p)) h o (order_from (close_state v x (opened_from same_url opened x)) q))
  plain (Leave x ∷ ms) w opened end s p h o (RunInOrder.throws v a r) =
      record { after = fail evaluation (with_state w s) v opened; marks = Marks.leave_throws v (Leaves.runs (p.no_waits x) a (executes.throws v (CallsForBody.run r))); state = fail_state (with_state w s) v opened }
  plain (Leave x ∷ ms) w opened end s p h o (RunInOrder.stops why a r) =
      record { after = with_state w s; marks = Marks.leave_stops why (Leaves.runs (p.no_waits x) a (executes.stops why (CallsForBody.run r))); state = refl }
