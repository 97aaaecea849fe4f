-- Modules that are to go on: linked, each once, none of which has begun.
use Rattle.std.proofs.Common.{◌≡◌, ℕ, ◌+◌, Bool, true, false, List, ◌∷◌, drop, Some, Result, Ok, Err, refl, subst, sym, ◌∙◌, nat_eq}
use Rattle.std.specs.Prelude.{OnOk, slice_get}
use Rattle.esm_base.specs.Lists.{is_in, EachOnce}
use Rattle.esm_realm.proofs.Numbers.{In, in_later}
use Rattle.esm_realm.proofs.Urls.{not_true, not_both}
use Rattle.esm_realm.proofs.Lists.{either}
use Rattle.esm_values.specs.Code.{CodeValue}
use Rattle.esm_values.specs.declared.value.Ran.{Ran}
use Rattle.esm_values.specs.declared.value.Ran.TheVariants as r
use Rattle.esm_eval.specs.Evaluation.{IsLawful, IsSteady}
use Rattle.esm_eval.specs.BodyEnd.{ReadyAmong, finish}
use Rattle.esm_eval.specs.Begins.{BeginsOne, HaveBegunOnce}
use Rattle.esm_eval.specs.Calls.{CodeEvaluation, CodeCalls, numbered}
use Rattle.esm_eval.specs.declared.walk.EvalEnd.{EvalEnd}
use Rattle.esm_eval.specs.Inner.Ends.{BeginsOnly, IsEndOf}
use Rattle.esm_eval.specs.EndSteps.{EachIsLinked, Begins, Runs, Stays}
use Rattle.esm_eval.proofs.Once.{run_of, start_of}
use Rattle.esm_eval.proofs.OnceEnds.{quiet_finish, quiet_rejects, ready_each}
use Rattle.esm_eval.proofs.Inner.Steps.{drop_at}

module _ {W : Type 0} (linked : W → ℕ → Bool) (knows : W → CodeValue → Type 0) where
  pub stays_same : (w : W) → Stays linked knows w w
  stays_same w = record { link = λ y. refl; know = λ u k. k }

  pub stays_on : (u v w : W) → Stays linked knows u v → Stays linked knows v w → Stays linked knows u w
  stays_on u v w k l = record { link = λ y. l.link y ∙ k.link y; know = λ u h. l.know u (k.know u h) }

module _ {W : Type 0} (E : CodeEvaluation W) (linked : W → ℕ → Bool) where
  pub record AreDue (w : W) (xs : List ℕ) : Type 0 where
    pub links : EachIsLinked linked w xs
    pub unbegun : (y : ℕ) → is_in nat_eq xs y ≡ true → E.begun w y ≡ false
    pub distinct : EachOnce nat_eq xs

  pub due_next : (w : W) (x : ℕ) (xs : List ℕ) → AreDue w (x ∷ xs) → AreDue w xs
  due_next w x xs d = record {
    links = λ y h. d.links y (in_later x xs y h);
    unbegun = λ y h. d.unbegun y (in_later x xs y h);
    distinct = d.distinct.1;
  }

  pub due_on : (knows : W → CodeValue → Type 0) (w v : W) (x : ℕ) (xs : List ℕ) → AreDue w (x ∷ xs) → Stays linked knows w v → BeginsOnly E w x v → AreDue v xs
  due_on knows w v x xs d s b = record {
    links = λ y h. s.link y ∙ d.links y (in_later x xs y h);
    unbegun = λ y h. not_true (E.begun v y) (λ t. either (b y t) (λ i. not_both (E.begun w y) i (d.unbegun y (in_later x xs y h))) (λ e. not_both (is_in nat_eq xs x) (subst (λ z. In xs z) e h) d.distinct.0));
    distinct = d.distinct.1;
  }

  -- from place i on, at which x stands
  pub due_at : (w : W) (xs : List ℕ) (i x : ℕ) → slice_get xs i ≡ Some x → AreDue w (drop i xs) → AreDue w (x ∷ drop (i + 1) xs)
  due_at w xs i x at d = subst (λ ys. AreDue w ys) (drop_at xs i x at) d

module _ {W : Type 0} (E : CodeEvaluation W) (L : IsLawful (numbered E)) where
  pub quiet_finish_of : (w : W) (x y : ℕ) → E.begun (finish (numbered E) w x) y ≡ E.begun w y
  quiet_finish_of w x y = (quiet_finish (numbered E) L w x).begun y

module _ {W S : Type 0} (E : CodeEvaluation W) (acts : CodeCalls W S) (L : IsLawful (numbered E)) (steady : IsSteady (numbered E) acts) (one : BeginsOne (numbered E) acts) where
  pub began_only : (w : W) (x : ℕ) (r : Result (Unit {0}) (EvalEnd S)) (v : W) → Begins E acts w x r v → OnOk r (BeginsOnly E w x v)
  began_only w x (Ok u) v p = λ y h. (start_of (numbered E) acts L steady one p).begun y h
  began_only w x (Err end) v p = tt

  ran_by : (w : W) (x : ℕ) (ran : Ran) (mid : W) → Runs E acts w x (Ok ran) mid → BeginsOnly E w x mid
  ran_by w x r.Normal mid p = λ y h. (run_of (numbered E) acts L steady one p).begun y h
  ran_by w x (r.Thrown e) mid p = λ y h. (run_of (numbered E) acts L steady one p).begun y h

  end_quiet : (mid : W) (x : ℕ) (ran : Ran) (v : W) → IsEndOf {S = S} E mid x ran (Ok tt) v → (y : ℕ) → E.begun v y ≡ true → E.begun mid y ≡ true
  end_quiet mid x r.Normal v e y h = sym (quiet_finish_of E L mid x y) ∙ subst (λ s. E.begun s y ≡ true) e h
  end_quiet mid x (r.Thrown u) v e y h = sym ((quiet_rejects (numbered E) L e).begun y) ∙ h

  pub ran_only : (w : W) (x : ℕ) (ran : Ran) (mid : W) → Runs E acts w x (Ok ran) mid → (r : Result (Unit {0}) (EvalEnd S)) (v : W) → IsEndOf E mid x ran r v → OnOk r (BeginsOnly E w x v)
  ran_only w x ran mid p (Ok u) v e = λ y h. ran_by w x ran mid p y (end_quiet mid x ran v e y h)
  ran_only w x ran mid p (Err end) v e = tt

  -- the modules that are ready once m is done
  pub ready_due : (linked : W → ℕ → Bool) (w u : W) (m : ℕ) (xs : List ℕ) → HaveBegunOnce (numbered E) w → u ≡ finish (numbered E) w m → ReadyAmong (numbered E) u (E.stamps u) xs → EachIsLinked linked u xs → AreDue E linked u xs
  ready_due linked w u m xs h e r n =
      let k = ready_each (numbered E) acts L steady one w m xs h (subst (λ s. ReadyAmong (numbered E) s (E.stamps s) xs) e r) in
      record { links = n; unbegun = λ y i. subst (λ s. E.begun s y ≡ false) (sym e) (k.1 y i); distinct = k.0 }
