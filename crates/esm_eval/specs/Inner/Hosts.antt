-- What is read off nodes, promises and bodies is what was written last.
use Rattle.std.proofs.Common.{◌≡◌, ℕ, zero, suc, nat_eq, true, false, List, [], ◌∷◌, refl, ap, sym, subst, ◌∙◌, Some, slice_get, eqb-true, eq-eqb, inl, inr}
use Rattle.std.specs.Prelude.{◌⊎◌, if◌then◌else◌, Bool}
use mathlib.Core.Bool.{true≢false}
use Rattle.esm_values.specs.Code.{CodeValue}
use Rattle.esm_eval.specs.Nodes as nodes
use Rattle.esm_eval.specs.Evaluation.{IsLawful, IsSteady, IsAlike}
use Rattle.esm_eval.specs.Begins.{BeginsOne}
use Rattle.esm_eval.specs.Calls.{CodeCalls}
use Rattle.esm_eval.specs.Table.{node_at, node_by, put_at}
use Rattle.esm_eval.specs.Host.{Outside, evaluation, calls, BeginsItsOwn, LeavesModules}
use Rattle.esm_eval.specs.declared.host.EvalHost.{EvalHost}

cases : (b : Bool) → (b ≡ true) ⊎ (b ≡ false)
cases true = inl refl
cases false = inr refl

pub own : (ns : List (nodes.Node ℕ CodeValue)) (x : ℕ) (n : nodes.Node ℕ CodeValue) → slice_get (put_at ns x n) x ≡ Some n
own [] zero n = refl
own [] (suc x) n = own [] x n
own (m ∷ ms) zero n = refl
own (m ∷ ms) (suc x) n = own ms x n

other : (ns : List (nodes.Node ℕ CodeValue)) (x : ℕ) (n : nodes.Node ℕ CodeValue) (y : ℕ) → (x ≡ y → ⊥)
    → node_by (slice_get (put_at ns x n) y) ≡ node_by (slice_get ns y)
other [] zero n zero ne = absurd (ne refl)
other [] zero n (suc y) ne = refl
other [] (suc x) n zero ne = refl
other [] (suc x) n (suc y) ne = other [] x n y (λ e. ne (ap suc e))
other (m ∷ ms) zero n zero ne = absurd (ne refl)
other (m ∷ ms) zero n (suc y) ne = refl
other (m ∷ ms) (suc x) n zero ne = refl
other (m ∷ ms) (suc x) n (suc y) ne = other ms x n y (λ e. ne (ap suc e))

pub reads : (ns : List (nodes.Node ℕ CodeValue)) (x : ℕ) (n : nodes.Node ℕ CodeValue) (y : ℕ)
    → node_by (slice_get (put_at ns x n) y) ≡ if nat_eq x y then n else node_by (slice_get ns y)
reads ns x n y = by (cases (nat_eq x y))
  where
    by : (nat_eq x y ≡ true) ⊎ (nat_eq x y ≡ false)
        → node_by (slice_get (put_at ns x n) y) ≡ if nat_eq x y then n else node_by (slice_get ns y)
    by (inl s) =
        let e : x ≡ y = eqb-true x y s in
        let at : node_by (slice_get (put_at ns x n) y) ≡ n =
        subst (λ z. node_by (slice_get (put_at ns x n) z) ≡ n) e (ap node_by (own ns x n)) in
        subst (λ b. node_by (slice_get (put_at ns x n) y) ≡ if b then n else node_by (slice_get ns y)) (sym s) at
    by (inr s) = subst (λ b. node_by (slice_get (put_at ns x n) y) ≡ if b then n else node_by (slice_get ns y)) (sym s)
        (other ns x n y (λ e. true≢false (sym (eq-eqb x y e) ∙ s)))

module _ {B : Type 0} (targets : B → ℕ → List ℕ) (awaits begun : B → ℕ → Bool) where
  alike : (w v : EvalHost B) → v.nodes ≡ w.nodes → v.bodies ≡ w.bodies → IsAlike (evaluation targets awaits begun) w v
  alike w v n b = record {
    far = record { nodes = λ x. ap (λ t. node_at t x) n; stamps = ap (λ t. t.stamps) n; begun = λ x. ap (λ o. begun o x) b };
    awaits = λ x. ap (λ o. awaits o x) b;
  }

  pub lawful : IsLawful (evaluation targets awaits begun)
  lawful = record {
    names = record { own = λ x. eq-eqb x x refl; equal = λ x y e. eqb-true x y e };
    put = λ w x n. record { node = λ y. reads w.nodes.nodes x n y; stamps = refl; begun = λ y. refl; awaits = λ y. refl };
    add_stamp = λ w x. record { nodes = λ y. refl; stamps = refl; begun = λ y. refl; awaits = λ y. refl };
    make_promise = λ w. alike w ((evaluation targets awaits begun).make_promise w) refl refl;
    make_body_promise = λ w x. alike w ((evaluation targets awaits begun).make_body_promise w x) refl refl;
    fulfill = λ w p. alike w ((evaluation targets awaits begun).fulfill w p) refl refl;
    reject = λ w p v. alike w ((evaluation targets awaits begun).reject w p v) refl refl;
  }

  module _ {S : Type 0} (acts : CodeCalls (Outside B) S) (h : BeginsItsOwn acts begun) where
    pub begins_one : BeginsOne (evaluation targets awaits begun) (calls acts)
    begins_one = record { call = λ w v c r a. h.one _ _ c r a.1 }

    pub steady : {linked : B → ℕ → Bool} {knows : B → CodeValue → Type 0} → LeavesModules acts linked targets awaits knows
        → IsSteady (evaluation targets awaits begun) (calls acts)
    steady m = record {
      call = λ w v c r a. record {
        nodes = λ x. ap (λ t. node_at t x) a.0;
        stamps = ap (λ t. t.stamps) a.0;
        begun = h.stays _ _ c r a.1;
        awaits = λ x e. m.waits _ _ c r a.1 x;
      };
      starts = λ w v c r a. h.starts _ _ c r a.1;
    }
