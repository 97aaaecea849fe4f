-- An evaluation may begin at each linked module: those below the number of nodes that are linked are closed under targets.
use Rattle.std.proofs.Common.{◌≡◌, ℕ, zero, suc, ◌<◌, ◌≤◌, Bool, true, false, cond, nat_eq, List, [], ◌∷◌, Option, Some, None, ap, subst, sym, ◌∙◌, arith, eqb-true, eq-eqb, refl}
use Rattle.std.proofs.lemmas.Bool.Decides.{nat_tests}
use Rattle.std.specs.Prelude.{◌||◌, nat_lt, IfSome}
use Rattle.std.specs.Option.{unwrap_or}
use Rattle.esm_base.specs.Lists.{is_in}
use Rattle.esm_realm.proofs.Urls.{not_true, or_left}
use Rattle.esm_values.specs.Code.{CodeValue}
use Rattle.esm_eval.specs.Nodes.{was_entered}
use Rattle.esm_eval.specs.Evaluation.{root_of}
use Rattle.esm_eval.specs.Calls.{CodeEvaluation}
use Rattle.esm_eval.specs.Host.{Outside, evaluation}
use Rattle.esm_eval.specs.Table.{node_at, size}
use Rattle.esm_eval.specs.Whole.{HostsMayEvaluate}
use Rattle.esm_eval.specs.declared.host.EvalHost.{EvalHost}

-- ---- the numbers below one of which a test holds

abbrev below_list : (ℕ → Bool) → ℕ → List ℕ
below_list f zero = []
below_list f (suc n) = cond (f n) (n ∷ below_list f n) (below_list f n)

not_same : (y n : ℕ) → n < y → nat_eq y n ≡ false
not_same y n lt = not_true (nat_eq y n) (λ e. let s : y ≡ n = eqb-true y n e in absurd (omega (arith, s, lt)))

skip_by : (f : ℕ → Bool) (n y : ℕ) → n < y → is_in nat_eq (below_list f n) y ≡ false → (b : Bool) → is_in nat_eq (cond b (n ∷ below_list f n) (below_list f n)) y ≡ false
skip_by f n y lt rest true = ap (λ c. c || is_in nat_eq (below_list f n) y) (not_same y n lt) ∙ rest
skip_by f n y lt rest false = rest

past_below : (f : ℕ → Bool) (n y : ℕ) → n ≤ y → is_in nat_eq (below_list f n) y ≡ false
past_below f zero y le = refl
past_below f (suc n) y le = skip_by f n y (omega (arith, le)) (past_below f n y (omega (arith, le))) (f n)

lesser : (y n : ℕ) → y < suc n → nat_eq y n ≡ false → y < n
lesser y n lt e = grind (arith, nat_tests, lt, e)

last_by : (f : ℕ → Bool) (n : ℕ) (b : Bool) → f n ≡ b → is_in nat_eq (cond b (n ∷ below_list f n) (below_list f n)) n ≡ b
last_by f n true e = or_left (nat_eq n n) (is_in nat_eq (below_list f n) n) (eq-eqb n n refl)
last_by f n false e = past_below f n n (omega arith)

before_by : (f : ℕ → Bool) (n y : ℕ) (b : Bool) → nat_eq y n ≡ false → is_in nat_eq (below_list f n) y ≡ f y → is_in nat_eq (cond b (n ∷ below_list f n) (below_list f n)) y ≡ f y
before_by f n y true e rest = ap (λ c. c || is_in nat_eq (below_list f n) y) e ∙ rest
before_by f n y false e rest = rest

in_below : (f : ℕ → Bool) (n y : ℕ) → y < n → is_in nat_eq (below_list f n) y ≡ f y
in_below f zero y lt = absurd (omega (arith, lt))
in_below f (suc n) y lt = by (nat_eq y n) refl (λ k. in_below f n y k)
  where
    by : (b : Bool) → nat_eq y n ≡ b → (y < n → is_in nat_eq (below_list f n) y ≡ f y) → is_in nat_eq (below_list f (suc n)) y ≡ f y
    by true e later =
        let s : n ≡ y = sym (eqb-true y n e) in
        subst (λ z. is_in nat_eq (below_list f (suc n)) z ≡ f z) s (last_by f n (f n) refl)
    by false e later = before_by f n y (f n) e (later (lesser y n lt e))

-- where it holds of no other number, it is told by the list
only_below : (f : ℕ → Bool) (n : ℕ) → ((y : ℕ) → f y ≡ true → y < n) → (y : ℕ) → is_in nat_eq (below_list f n) y ≡ f y
only_below f n few y = by (nat_lt y n) refl
  where
    by : (b : Bool) → nat_lt y n ≡ b → is_in nat_eq (below_list f n) y ≡ f y
    by true e = in_below f n y (grind (arith, nat_tests, e))
    by false e =
        let far : f y ≡ false = not_true (f y) (λ t. let lt = few y t in absurd (grind (arith, nat_tests, e, lt))) in
        past_below f n y (grind (arith, nat_tests, e)) ∙ sym far

or_own : {A : Type 0} (P : A → Type 0) (o : Option A) (d : A) → IfSome o P → P d → P (unwrap_or o d)
or_own P None d h k = k
or_own P (Some a) d h k = h

module _ {B : Type 0} (targets : B → ℕ → List ℕ) (awaits begun linked : B → ℕ → Bool) (knows : B → CodeValue → Type 0) (fits : Outside B → Type 0) where
  abbrev E : CodeEvaluation (EvalHost B)
  E = evaluation targets awaits begun

  pub hosts_may_evaluate : HostsMayEvaluate targets awaits begun linked knows fits
  hosts_may_evaluate w m f closed l =
      let n = size w.nodes in
      let these = only_below (linked w.bodies) n f.have in
      let root : linked w.bodies (root_of E w m) ≡ true = or_own (λ x. linked w.bodies x ≡ true) (node_at w.nodes m).cycle_root m (f.nodes_fit m).root l in (
        below_list (linked w.bodies) n,
        record {
          within = record {
            short = λ y i. sym (these y) ∙ i;
            whole = λ y t i j. these t ∙ closed y t (sym (these y) ∙ i) j;
            inside = these (root_of E w m) ∙ root;
          };
          closed = below_list (λ y. was_entered (node_at w.nodes y).phase) n;
          closed_is = only_below (λ y. was_entered (node_at w.nodes y).phase) n (λ y t. f.have y (f.entered y t));
        },
      )
