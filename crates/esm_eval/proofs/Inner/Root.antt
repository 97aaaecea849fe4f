-- Evaluation from a root, by the visit of it.
use Rattle.std.proofs.Common.{◌≡◌, ℕ, Bool, List, [], ◌++◌, Some, None, Result, Ok, Err, ap, refl, subst, sym, ◌∙◌, nat_eq, eqb-true}
use Rattle.std.proofs.lemmas.List.{append-nil}
use Rattle.esm_base.specs.Lists.{is_in}
use Rattle.esm_realm.specs.Walk.{Mark, Visits}
use Rattle.esm_realm.proofs.HasWalks.{walks_inside}
use Rattle.esm_realm.proofs.Numbers.{In, own}
use Rattle.esm_values.specs.Code.{CodeValue, value_of}
use Rattle.esm_values.specs.declared.value.Value.{Value}
use Rattle.esm_eval.specs.Evaluation.{phase}
use Rattle.esm_eval.specs.Evaluate.{WalkEnd, Marks, Walks, EvaluatesRoot, keep, fulfill_by}
use Rattle.esm_eval.specs.Evaluate.WalkEnd.{Ends, Throws, Stops}
use Rattle.esm_eval.specs.declared.walk.Cut.{Cut}
use Rattle.esm_eval.specs.declared.walk.Cut.TheVariants as cuts
use Rattle.esm_eval.specs.Calls.{CodeEvaluation, CodeCalls, numbered}
use Rattle.esm_eval.specs.Inner.Visit.{Walking, Amid, VisitingBy, Visiting}
use Rattle.esm_eval.specs.WalkSteps.{is_entered, Keeps, Within}

module _ {W S : Type 0} (E : CodeEvaluation W) (linked : W → ℕ → Bool) (left : W → ℕ) (acts : CodeCalls W S) (w : W) (r : ℕ) where
  module _ (p : ℕ) (number : p ≡ E.next_promise w) (none : (E.node w r).promise ≡ None) (v : W) (ve : v ≡ keep (numbered E) w r) where
    by_number : (f : ℕ → W) (after : W) → after ≡ f p → EvaluatesRoot (numbered E) acts w r (Ok (E.next_promise w)) (f (E.next_promise w)) → EvaluatesRoot (numbered E) acts w r (Ok p) after
    by_number f after e q = subst (λ s. EvaluatesRoot (numbered E) acts w r (Ok p) s) (sym e) (subst (λ n. EvaluatesRoot (numbered E) acts w r (Ok n) (f n)) (sym number) q)

    pub had_error : (e : CodeValue) (after : W) → (E.node w r).error ≡ Some e → after ≡ E.reject v p e → EvaluatesRoot (numbered E) acts w r (Ok p) after
    had_error e after error is = by_number (λ n. E.reject (keep (numbered E) w r) n e) after (is ∙ ap (λ s. E.reject s p e) ve) (EvaluatesRoot.thrown e none error)

    pub within_keep : (modules : List ℕ) → Within E linked left modules w r → Keeps E linked left w v → Within E linked left modules v r
    within_keep modules i k = record {
      short = λ y h. k.steady.grows y (i.short y h);
      whole = λ y t h q. i.whole y t h (subst (λ ts. In ts t) (k.steady.same y (i.short y h)) q);
      inside = i.inside;
    }

    module _ (fine : (E.node w r).error ≡ None) (modules : List ℕ) (i : Within E linked left modules w r) (closed : List ℕ)
        (closed_is : (y : ℕ) → is_in nat_eq closed y ≡ is_entered E w y) (k : Keeps E linked left w v) where
      the_walk : (marks : List (Mark ℕ)) × (after : List ℕ) × Visits nat_eq (E.targets w) closed r marks after
      the_walk = walks_inside nat_eq own eqb-true (E.targets w) modules (λ y. In modules y) (λ y t h q. i.whole y t h q) (λ y h. h) closed r i.inside

      amid : Amid E linked left acts (E.targets w) modules closed [] v
      amid = record {
        short = λ y h. k.steady.grows y (i.short y h);
        whole = i.whole;
        graph = λ y h. k.steady.same y (i.short y h);
        phases = λ y. closed_is y ∙ sym (k.phases y);
        entered = λ y h. cc;
      }

      visit_of : (res : Result ℕ (Cut S)) (v2 : W) (now : List ℕ) → Visiting E linked left acts v [] r res v2 now → VisitingBy E linked left acts (E.targets w) modules v [] r the_walk.0 the_walk.1 res v2 now
      visit_of res v2 now visits = visits (E.targets w) modules closed amid i.inside the_walk.0 the_walk.1 the_walk.2

      whole_marks : (end : WalkEnd CodeValue S) (after : W) → Walking E linked left acts (E.targets w) v [] (the_walk.0 ++ []) end after → Walking E linked left acts (E.targets w) (keep (numbered E) w r) [] the_walk.0 end after
      whole_marks end after q = subst (λ u. Walking E linked left acts (E.targets w) u [] the_walk.0 end after) ve (subst (λ ms. Walking E linked left acts (E.targets w) v [] ms end after) (append-nil the_walk.0) q)

      walks : (end : WalkEnd CodeValue S) (after : W) → Walking E linked left acts (E.targets w) v [] (the_walk.0 ++ []) end after → Walks (numbered E) acts w r (keep (numbered E) w r) end after
      walks end after q = record { closed = closed; closed_is = closed_is; marks = the_walk.0; walk = (the_walk.1, the_walk.2); leads = whole_marks end after q }

      pub walked : (low : ℕ) (v2 after : W) (now : List ℕ) → Visiting E linked left acts v [] r (Ok low) v2 now → after ≡ fulfill_by E v2 p (phase E v2 r) → EvaluatesRoot (numbered E) acts w r (Ok p) after
      walked low v2 after now visits e =
          let l = visit_of (Ok low) v2 now visits in
          let none_open : now ≡ [] = l.now_is ∙ l.stands refl in
          by_number (λ n. fulfill_by E v2 n (phase E v2 r)) after e
          (EvaluatesRoot.walks none fine (walks Ends v2 (l.leads [] Ends v2 (subst (λ o. Walking E linked left acts (E.targets w) v2 o [] Ends v2) (sym none_open) Marks.done))))

      pub was_cut : (e : Value) (v2 after : W) (now : List ℕ) → Visiting E linked left acts v [] r (Err (cuts.Thrown e)) v2 now → after ≡ E.reject v2 p (value_of e) → EvaluatesRoot (numbered E) acts w r (Ok p) after
      was_cut e v2 after now visits is = by_number (λ n. E.reject v2 n (value_of e)) after is (EvaluatesRoot.throws (value_of e) none fine (walks (Throws (value_of e)) v2 (visit_of (Err (cuts.Thrown e)) v2 now visits [])))

      pub was_stopped : (why : S) (v2 : W) (now : List ℕ) → Visiting E linked left acts v [] r (Err (cuts.Stopped why)) v2 now → EvaluatesRoot (numbered E) acts w r (Err why) v2
      was_stopped why v2 now visits = EvaluatesRoot.stops why none fine (walks (Stops why) v2 (visit_of (Err (cuts.Stopped why)) v2 now visits []))
