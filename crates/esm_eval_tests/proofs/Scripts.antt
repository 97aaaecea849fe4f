-- Evaluation over bodies that do what a table says.
use Rattle.std.proofs.Common.{◌≡◌, ℕ, zero, suc, ◌+◌, Bool, true, false, List, [], ◌∷◌, ◌++◌, Option, Some, None, length, map, length-append, refl, ap, subst, sym, ◌∙◌, slice_get, arith, nat_eq}
use Rattle.std.specs.Prelude.{nat_lt, if◌then◌else◌, All}
use Rattle.std.proofs.lemmas.Bool.Decides.{nat_tests}
use Rattle.std.proofs.lemmas.List.Elements.{All-nil}
use Rattle.std.specs.Option.{option_map_or}
use Rattle.esm_base.specs.Lists.{is_in}
use Rattle.esm_realm.proofs.Lists.{either}
use Rattle.esm_realm.proofs.Numbers.{in_cons}
use Rattle.esm_values.specs.Code.{CodeValue}
use Rattle.esm_eval.specs.Nodes.{Node, untouched, was_entered}
use Rattle.esm_eval.specs.Begins.{HaveBegunOnce}
use Rattle.esm_eval.specs.Between.{HostsStayBetween}
use Rattle.esm_eval.specs.Host.{evaluation}
use Rattle.esm_eval.specs.Keeping.{IsNodeOf}
use Rattle.esm_eval.specs.Table.{Table, no_nodes, node_at, node_by, size, with_one}
use Rattle.esm_eval.specs.Whole.{HostsMayEvaluate, MayEvaluate}
use Rattle.esm_eval.specs.declared.host.EvalHost.{EvalHost}
use Rattle.esm_eval_tests.specs.Scripted.{IsBlank, MayGoOn, among, awaits_in, blanks, is_row, noted, targets_in}

-- ---- nodes in which nothing is written

pub blank_none : (t : Table) → t ≡ no_nodes → IsBlank 0 t
blank_none t e = record { is = e }

pub blank_more : (i : ℕ) (t u : Table) → IsBlank i t → u ≡ with_one t → IsBlank (i + 1) u
blank_more i t u b e =
    let one : u ≡ blanks (suc i) = e ∙ ap with_one b.is in
    let same : suc i ≡ i + 1 = omega arith in
    record { is = subst (λ (n : ℕ). u ≡ blanks n) same one }

-- such nodes are read as if there were none
one_more_at : (ns : List (Node ℕ CodeValue)) (x : ℕ) → node_by (slice_get (ns ++ untouched ∷ []) x) ≡ node_by (slice_get ns x)
one_more_at [] zero = refl
one_more_at [] (suc x) = refl
one_more_at (n ∷ ns) zero = refl
one_more_at (n ∷ ns) (suc x) = one_more_at ns x

blank_at : (n x : ℕ) → node_at (blanks n) x ≡ untouched
blank_at zero zero = refl
blank_at zero (suc x) = refl
blank_at (suc n) x = one_more_at (blanks n).nodes x ∙ blank_at n x

blank_stamps : (n : ℕ) → (blanks n).stamps ≡ []
blank_stamps zero = refl
blank_stamps (suc n) = blank_stamps n

blank_size : (n : ℕ) → size (blanks n) ≡ n
blank_size zero = refl
blank_size (suc n) =
    let one : size (blanks (suc n)) ≡ size (blanks n) + 1 = length-append (blanks n).nodes (untouched ∷ []) in
    let so_many = blank_size n in omega (arith, one, so_many)

-- by the law: where there is no node, and where there is one more
blank_between : {B : Type 0} (targets : B → ℕ → List ℕ) (awaits begun : B → ℕ → Bool) → HostsStayBetween targets awaits begun
    → (n : ℕ) (w : EvalHost B) → w.nodes ≡ blanks n → ((x : ℕ) → begun w.bodies x ≡ false) → HaveBegunOnce (evaluation targets awaits begun) w
blank_between targets awaits begun law zero w e none = law.opens w e none
blank_between targets awaits begun law (suc n) w e none =
    law.one_more (record w { nodes = blanks n }) w e (λ x. refl) (blank_between targets awaits begun law n (record w { nodes = blanks n }) refl none)

-- ---- targets

among_row : (count x t : ℕ) → nat_lt x count ≡ true → nat_lt (among count x t) count ≡ true
among_row count x t h = by (nat_lt t count) refl
  where
    by : (b : Bool) → nat_lt t count ≡ b → nat_lt (if b then t else x) count ≡ true
    by true e = e
    by false e = h

in_row : (count x : ℕ) (ts : List ℕ) (t : ℕ) → nat_lt x count ≡ true → is_in nat_eq (map (among count x) ts) t ≡ true → nat_lt t count ≡ true
in_row count x [] t h i = let e : false ≡ true = i in absurd cc
in_row count x (s ∷ ts) t h i = either (in_cons (among count x s) (map (among count x) ts) t i)
    (λ e. subst (λ n. nat_lt n count ≡ true) (sym e) (among_row count x s h))
    (λ k. in_row count x ts t h k)

module _ {B R : Type 0} (rows : B → List R) (order : B → List ℕ) (targets_of : R → List ℕ) (awaits_of : R → Bool) where
  closed : (b : B) (x t : ℕ) → is_row (rows b) x ≡ true → is_in nat_eq (targets_in targets_of (rows b) x) t ≡ true → is_row (rows b) t ≡ true
  closed b x t h = by (slice_get (rows b) x)
    where
      by : (o : Option R) → is_in nat_eq (option_map_or (λ r. map (among (length (rows b)) x) (targets_of r)) o []) t ≡ true → is_row (rows b) t ≡ true
      by None i = let e : false ≡ true = i in absurd cc
      by (Some r) i = in_row (length (rows b)) x (targets_of r) t h i

  pub may_open : HostsStayBetween (λ b. targets_in targets_of (rows b)) (λ b. awaits_in awaits_of (rows b)) (λ b. noted (order b))
      → (w : EvalHost B) (these : List R) → these ≡ rows w.bodies → IsBlank (length these) w.nodes → order w.bodies ≡ [] → MayGoOn rows order targets_of awaits_of w
  may_open law w these same b e =
      let size_is : size w.nodes ≡ length (rows w.bodies) = ap size b.is ∙ blank_size (length these) ∙ ap length same in
      let stamps : w.nodes.stamps ≡ [] = ap (λ (t : Table). t.stamps) b.is ∙ blank_stamps (length these) in
      let nodes : (x : ℕ) → node_at w.nodes x ≡ untouched = λ x. ap (λ (t : Table). node_at t x) b.is ∙ blank_at (length these) x in record {
        fits = record {
          outside_fits = tt;
          have = λ x h. grind (arith, nat_tests, h, size_is);
          entered = λ x h. let f : false ≡ true = sym (ap (λ n. was_entered n.phase) (nodes x)) ∙ h in absurd cc;
          nodes_fit = λ x. subst (λ n. IsNodeOf (λ y. is_row (rows w.bodies) y ≡ true) (λ v. Unit {0}) n) (sym (nodes x)) (record { error = tt; root = tt; waits = All-nil (λ y. is_row (rows w.bodies) y ≡ true); waiters = All-nil (λ y. is_row (rows w.bodies) y ≡ true) });
          stamps_fit = subst (λ l. All (λ y. is_row (rows w.bodies) y ≡ true) l) (sym stamps) (All-nil (λ y. is_row (rows w.bodies) y ≡ true));
        };
        between = blank_between (λ c. targets_in targets_of (rows c)) (λ c. awaits_in awaits_of (rows c)) (λ c. noted (order c)) law (length these) w b.is (λ x. ap (λ l. noted l x) e);
      }

  pub may_evaluate : HostsMayEvaluate (λ b. targets_in targets_of (rows b)) (λ b. awaits_in awaits_of (rows b)) (λ b. noted (order b)) (λ b. is_row (rows b)) (λ b v. Unit {0}) (λ o. Unit {0})
      → (w : EvalHost B) (m : ℕ) → MayGoOn rows order targets_of awaits_of w → is_row (rows w.bodies) m ≡ true
      → MayEvaluate (λ b. targets_in targets_of (rows b)) (λ b. awaits_in awaits_of (rows b)) (λ b. noted (order b)) (λ b. is_row (rows b)) (λ b v. Unit {0}) (λ o. Unit {0}) w m
  may_evaluate law w m g h = law w m g.fits (closed w.bodies) h
