-- What steps of evaluation leave of nodes, promises and bodies.
use Rattle.std.proofs.Common.{◌≡◌, ℕ, zero, suc, ◌+◌, ◌<◌, ◌≤◌, Bool, true, false, List, [], ◌∷◌, ◌++◌, length, drop, Option, Some, None, refl, ap, subst, sym, ◌∙◌, arith, nat_eq, eqb-true, eq-eqb, slice_get}
use Rattle.std.specs.Prelude.{◌||◌, if◌then◌else◌, All, IfSome}
use Rattle.std.proofs.Math.ListN.{drop_of_length-le}
use Rattle.std.proofs.lemmas.List.Elements.{All-push}
use Rattle.esm_realm.proofs.Urls.{not_both}
use Rattle.esm_realm.proofs.Numbers.{has_at, drop_none}
use Rattle.esm_values.specs.Code.{CodeValue}
use Rattle.esm_eval.specs.Nodes.{Phase, Evaluated, was_entered, Node}
use Rattle.esm_eval.specs.Evaluation.{is_stamped}
use Rattle.esm_eval.specs.Evaluate.{fail, close, closed_phase}
use Rattle.esm_eval.specs.Calls.{CodeEvaluation}
use Rattle.esm_eval.specs.Keeping.{IsNodeOf}
use Rattle.esm_eval.specs.Host.{Outside, HostFits, LeavesBodies, evaluation, outside}
use Rattle.esm_eval.specs.Table.{Table, node_at, node_by, put_at, size, with_node}
use Rattle.esm_eval.specs.Counts.{unless, failing, unentered}
use Rattle.esm_eval.specs.Inner.Hosts.{own, reads}
use Rattle.esm_eval.specs.WalkSteps.{is_entered, AllEntered, Keeps, Opens}
use Rattle.esm_eval.specs.declared.host.EvalHost.{EvalHost}
use Rattle.esm_eval.proofs.Inner.Steps.{drop_at}

abbrev Nodes : Type 0
Nodes = List (Node ℕ CodeValue)

-- ---- tables

pub length_put : (ns : Nodes) (x : ℕ) (n : Node ℕ CodeValue) → x < length ns → length (put_at ns x n) ≡ length ns
length_put [] x n h = absurd (omega (arith, h))
length_put (m ∷ ms) zero n h = refl
length_put (m ∷ ms) (suc x) n h = ap suc (length_put ms x n (omega (arith, h)))

pub size_put : (t : Table) (x : ℕ) (n : Node ℕ CodeValue) → x < size t → size (with_node t x n) ≡ size t
size_put t x n h = length_put t.nodes x n h

pub same_left : (test : Phase → Bool) (ns : Nodes) (x : ℕ) (n : Node ℕ CodeValue) → x < length ns → test n.phase ≡ test (node_by (slice_get ns x)).phase
    → failing test (put_at ns x n) ≡ failing test ns
same_left test [] x n h e = absurd (omega (arith, h))
same_left test (m ∷ ms) zero n h e = ap (λ b. unless b (failing test ms)) e
same_left test (m ∷ ms) (suc x) n h e = ap (unless (test m.phase)) (same_left test ms x n (omega (arith, h)) e)

unless_less : (b : Bool) (m n : ℕ) → m < n → unless b m < unless b n
unless_less true m n h = h
unless_less false m n h = omega (arith, h)

pub fewer_left : (test : Phase → Bool) (ns : Nodes) (x : ℕ) (n : Node ℕ CodeValue) → x < length ns → test (node_by (slice_get ns x)).phase ≡ false → test n.phase ≡ true
    → failing test (put_at ns x n) < failing test ns
fewer_left test [] x n h f t = absurd (omega (arith, h))
fewer_left test (m ∷ ms) zero n h f t = first (test n.phase) t (test m.phase) f
  where
    first : (b : Bool) → b ≡ true → (c : Bool) → c ≡ false → unless b (failing test ms) < unless c (failing test ms)
    first true i false j = omega arith
    first true i true j = cc
    first false i c j = cc
fewer_left test (m ∷ ms) (suc x) n h f t = unless_less (test m.phase) _ _ (fewer_left test ms x n (omega (arith, h)) f t)

-- what is read where x was written
pub read_by : (P : Node ℕ CodeValue → Type 0) (ns : Nodes) (x : ℕ) (n : Node ℕ CodeValue) (y : ℕ) → (x ≡ y → P n) → P (node_by (slice_get ns y)) → P (node_by (slice_get (put_at ns x n) y))
read_by P ns x n y here there = subst P (sym (reads ns x n y)) (by (nat_eq x y) refl)
  where
    by : (b : Bool) → nat_eq x y ≡ b → P (if b then n else node_by (slice_get ns y))
    by true e = here (eqb-true x y e)
    by false e = there

module _ {B : Type 0} (targets : B → ℕ → List ℕ) (awaits begun : B → ℕ → Bool) (linked : B → ℕ → Bool) (knows : B → CodeValue → Type 0) where
  abbrev E : CodeEvaluation (EvalHost B)
  E = evaluation targets awaits begun

  abbrev pub links : EvalHost B → ℕ → Bool
  links w = linked w.bodies

  abbrev pub left : EvalHost B → ℕ
  left w = unentered w.nodes

  abbrev KeepsHost : EvalHost B → EvalHost B → Type 0
  KeepsHost w v = Keeps E links left w v

  pub keeps_on : (u v w : EvalHost B) → KeepsHost u v → KeepsHost v w → KeepsHost u w
  keeps_on u v w k l = record {
    steady = record {
      same = λ y h. l.steady.same y (k.steady.grows y h) ∙ k.steady.same y h;
      grows = λ y h. l.steady.grows y (k.steady.grows y h);
      stays = λ y h. l.steady.stays y (k.steady.stays y h);
      less = let a = k.steady.less in let b = l.steady.less in omega (arith, a, b);
    };
    phases = λ y. l.phases y ∙ k.phases y;
  }

  -- nodes are as they were, and the modules
  pub keeps_like : (w v : EvalHost B) → v.nodes.nodes ≡ w.nodes.nodes → LeavesBodies linked targets knows w.bodies v.bodies → KeepsHost w v
  keeps_like w v e b = record {
    steady = record {
      same = b.leads;
      grows = λ y h. b.links y ∙ h;
      stays = λ y h. phases y ∙ h;
      less = let n : left v ≡ left w = ap (failing was_entered) e in omega (arith, n);
    };
    phases = phases;
  }
    where
      phases : (y : ℕ) → is_entered E v y ≡ is_entered E w y
      phases y = ap (λ ns. was_entered (node_by (slice_get ns y)).phase) e

  pub same_bodies : (b : B) → LeavesBodies linked targets knows b b
  same_bodies b = record { links = λ x. refl; leads = λ x h. refl; still = λ u k. k }

  -- a node is written, of a module that was entered still or isn't still
  pub keeps_put : (w : EvalHost B) (x : ℕ) (n : Node ℕ CodeValue) → x < size w.nodes → was_entered n.phase ≡ is_entered E w x → KeepsHost w (E.put w x n)
  keeps_put w x n h e = record {
    steady = record {
      same = λ y k. refl;
      grows = λ y k. k;
      stays = λ y k. phases y ∙ k;
      less = let s = same_left was_entered w.nodes.nodes x n h e in omega (arith, s);
    };
    phases = phases;
  }
    where
      phases : (y : ℕ) → is_entered E (E.put w x n) y ≡ is_entered E w y
      phases y = read_by (λ m. was_entered m.phase ≡ is_entered E w y) w.nodes.nodes x n y (λ s. e ∙ ap (is_entered E w) s) refl

  pub opens_put : (w : EvalHost B) (x : ℕ) (n : Node ℕ CodeValue) → x < size w.nodes → is_entered E w x ≡ false → was_entered n.phase ≡ true → Opens E links left w x (E.put w x n)
  opens_put w x n h f t = record {
    steady = record {
      same = λ y k. refl;
      grows = λ y k. k;
      stays = λ y k. read_by (λ m. was_entered m.phase ≡ true) w.nodes.nodes x n y (λ s. t) k;
      less = let s = fewer_left was_entered w.nodes.nodes x n h f t in omega (arith, s);
    };
    fewer = fewer_left was_entered w.nodes.nodes x n h f t;
    phases = λ y. subst (λ b. is_entered E (E.put w x n) y ≡ b || is_entered E w y) refl (by y (nat_eq y x) refl);
  }
    where
      by : (y : ℕ) (b : Bool) → nat_eq y x ≡ b → is_entered E (E.put w x n) y ≡ (b || is_entered E w y)
      by y true e = subst (λ z. is_entered E (E.put w x n) z ≡ true) (sym (eqb-true y x e)) (ap (λ m. was_entered (node_by m).phase) (own w.nodes.nodes x n) ∙ t)
      by y false e = read_by (λ m. was_entered m.phase ≡ is_entered E w y) w.nodes.nodes x n y (λ s. absurd (not_both (nat_eq y x) (eq-eqb y x (sym s)) e)) refl

  -- a node names linked modules and keeps a known error
  abbrev pub IsFitNode : B → Node ℕ CodeValue → Type 0
  IsFitNode b n = IsNodeOf (λ y. linked b y ≡ true) (knows b) n

  module _ (fits : Outside B → Type 0) where
    abbrev Fits : EvalHost B → Type 0
    Fits w = HostFits fits linked knows w

    pub fits_put : (w : EvalHost B) (x : ℕ) (n : Node ℕ CodeValue) → Fits w → linked w.bodies x ≡ true → IsFitNode w.bodies n → Fits (E.put w x n)
    fits_put w x n f l k = record {
      outside_fits = f.outside_fits;
      have = λ y h. subst (λ len. y < len) (sym (length_put w.nodes.nodes x n (f.have x l))) (f.have y h);
      entered = λ y. read_by (λ m. was_entered m.phase ≡ true → linked w.bodies y ≡ true) w.nodes.nodes x n y (λ e t. subst (λ z. linked w.bodies z ≡ true) e l) (f.entered y);
      nodes_fit = λ y. read_by (λ m. IsFitNode w.bodies m) w.nodes.nodes x n y (λ e. k) (f.nodes_fit y);
      stamps_fit = f.stamps_fit;
    }

    known_on : (b c : B) → LeavesBodies linked targets knows b c → (o : Option CodeValue) → IfSome o (knows b) → IfSome o (knows c)
    known_on b c l None k = tt
    known_on b c l (Some u) k = l.still u k

    root_on : (b c : B) → LeavesBodies linked targets knows b c → (o : Option ℕ) → IfSome o (λ y. linked b y ≡ true) → IfSome o (λ y. linked c y ≡ true)
    root_on b c l None k = tt
    root_on b c l (Some y) k = l.links y ∙ k

    linked_on : (b c : B) → LeavesBodies linked targets knows b c → (xs : List ℕ) → All (λ y. linked b y ≡ true) xs → All (λ y. linked c y ≡ true) xs
    linked_on b c l xs h k d lt = l.links _ ∙ h k d lt

    node_on : (b c : B) → LeavesBodies linked targets knows b c → (n : Node ℕ CodeValue) → IsFitNode b n → IsFitNode c n
    node_on b c l n k = record { error = known_on b c l n.error k.error; root = root_on b c l n.cycle_root k.root; waits = linked_on b c l n.waits k.waits; waiters = linked_on b c l n.waiters k.waiters }

    -- nodes are as they were, and what lies outside fits
    pub fits_like : (w v : EvalHost B) → Fits w → v.nodes ≡ w.nodes → LeavesBodies linked targets knows w.bodies v.bodies → fits (outside v) → Fits v
    fits_like w v f e b o = record {
      outside_fits = o;
      have = λ y h. subst (λ t. y < size t) (sym e) (f.have y (sym (b.links y) ∙ h));
      entered = λ y h. b.links y ∙ f.entered y (ap (λ t. was_entered (node_at t y).phase) (sym e) ∙ h);
      nodes_fit = λ y. subst (λ t. IsFitNode v.bodies (node_at t y)) (sym e) (node_on w.bodies v.bodies b (node_at w.nodes y) (f.nodes_fit y));
      stamps_fit = subst (λ t. All (λ y. linked v.bodies y ≡ true) t.stamps) (sym e) (linked_on w.bodies v.bodies b w.nodes.stamps f.stamps_fit);
    }

    pub fits_stamp : (w : EvalHost B) (x : ℕ) → Fits w → linked w.bodies x ≡ true → Fits (E.add_stamp w x)
    fits_stamp w x f l = record {
      outside_fits = f.outside_fits;
      have = f.have;
      entered = f.entered;
      nodes_fit = f.nodes_fit;
      stamps_fit = All-push (λ y. linked w.bodies y ≡ true) w.nodes.stamps x f.stamps_fit l;
    }

    -- a module that was entered has a node
    pub has_entered : (w : EvalHost B) (x : ℕ) → Fits w → is_entered E w x ≡ true → x < size w.nodes
    has_entered w x f h = f.have x (f.entered x h)

    pub has_open : (w : EvalHost B) (opened : List ℕ) (i x : ℕ) → Fits w → AllEntered E w opened → slice_get opened i ≡ Some x → x < size w.nodes
    has_open w opened i x f a at = has_entered w x f (a x (has_at opened i x at))

    -- a write of phase, order or promise
    pub fits_plain : (w : EvalHost B) (x : ℕ) (n : Node ℕ CodeValue) → Fits w → linked w.bodies x ≡ true → n.error ≡ (E.node w x).error → n.cycle_root ≡ (E.node w x).cycle_root
        → n.waits ≡ (E.node w x).waits → n.waiters ≡ (E.node w x).waiters → Fits (E.put w x n)
    fits_plain w x n f l e r a b =
        let k = f.nodes_fit x in
        fits_put w x n f l (record {
          error = subst (λ o. IfSome o (knows w.bodies)) (sym e) k.error;
          root = subst (λ o. IfSome o (λ y. linked w.bodies y ≡ true)) (sym r) k.root;
          waits = subst (λ xs. All (λ y. linked w.bodies y ≡ true) xs) (sym a) k.waits;
          waiters = subst (λ xs. All (λ y. linked w.bodies y ≡ true) xs) (sym b) k.waiters;
        })

    -- ---- what is open fails

    abbrev failed_node : EvalHost B → ℕ → CodeValue → Node ℕ CodeValue
    failed_node w x v = record (E.node w x) { phase = Evaluated; error = Some v }

    pub record Failing (w0 : EvalHost B) (opened : List ℕ) (v : CodeValue) (i : ℕ) (w : EvalHost B) : Type 0 where
      pub leads : fail E w0 v opened ≡ fail E w v (drop i opened)
      pub long : size w.nodes ≡ size w0.nodes
      pub stack : AllEntered E w opened
      pub fit : Fits w
      pub known : knows w.bodies v

    pub failing_first : (w : EvalHost B) (opened : List ℕ) (v : CodeValue) → AllEntered E w opened → Fits w → knows w.bodies v → Failing w opened v 0 w
    failing_first w opened v a f k = record { leads = ap (fail E w v) (sym (drop_none opened)); long = refl; stack = a; fit = f; known = k }

    pub failing_on : (w0 w : EvalHost B) (opened : List ℕ) (v : CodeValue) (i x : ℕ) → Failing w0 opened v i w → slice_get opened i ≡ Some x → Failing w0 opened v (i + 1) (E.put w x (failed_node w x v))
    failing_on w0 w opened v i x f at =
        let in_x = f.stack x (has_at opened i x at) in
        let k = keeps_put w x (failed_node w x v) (has_entered w x f.fit in_x) (sym in_x) in
        let g = f.fit.nodes_fit x in
        record {
          leads = f.leads ∙ ap (fail E w v) (drop_at opened i x at);
          long = size_put w.nodes x (failed_node w x v) (has_entered w x f.fit in_x) ∙ f.long;
          stack = λ y h. k.phases y ∙ f.stack y h;
          fit = fits_put w x (failed_node w x v) f.fit (f.fit.entered x in_x) (record { error = f.known; root = g.root; waits = g.waits; waiters = g.waiters });
          known = f.known;
        }

    pub failing_step : (w0 w : EvalHost B) (opened : List ℕ) (v : CodeValue) (i x : ℕ) (t : Table) (e : CodeValue) → Failing w0 opened v i w → slice_get opened i ≡ Some x → e ≡ v
        → t ≡ with_node w.nodes x (record (node_at w.nodes x) { phase = Evaluated; error = Some e }) → Failing w0 opened v (i + 1) (record w { nodes = t })
    failing_step w0 w opened v i x t e f at same n =
        subst (λ u. Failing w0 opened v (i + 1) (record w { nodes = u })) (sym n)
        (subst (λ u. Failing w0 opened v (i + 1) (record w { nodes = with_node w.nodes x (record (node_at w.nodes x) { phase = Evaluated; error = Some u }) })) (sym same) (failing_on w0 w opened v i x f at))

    pub failing_all : (w0 w : EvalHost B) (opened : List ℕ) (v : CodeValue) (i : ℕ) → Failing w0 opened v i w → length opened ≤ i → w ≡ fail E w0 v opened
    failing_all w0 w opened v i f le = sym (f.leads ∙ ap (fail E w v) (drop_of_length-le opened le))

    -- ---- a component closes

    abbrev closed_node : EvalHost B → ℕ → ℕ → Node ℕ CodeValue
    closed_node w root y = record (E.node w y) { phase = closed_phase E (is_stamped E w y); cycle_root = Some root }

    pub record Closing (w0 : EvalHost B) (root : ℕ) (opened : List ℕ) (place i : ℕ) (w : EvalHost B) : Type 0 where
      pub leads : close E w0 root (drop place opened) ≡ close E w root (drop i opened)
      pub long : size w.nodes ≡ size w0.nodes
      pub keeps : KeepsHost w0 w
      pub stack : AllEntered E w opened
      pub fit : Fits w
      pub root_in : is_entered E w root ≡ true

    pub closing_first : (w : EvalHost B) (root : ℕ) (opened : List ℕ) (place : ℕ) → AllEntered E w opened → Fits w → is_entered E w root ≡ true → Closing w root opened place place w
    closing_first w root opened place a f r = record { leads = refl; long = refl; keeps = keeps_like w w refl (same_bodies w.bodies); stack = a; fit = f; root_in = r }

    closed_entered : (b : Bool) → was_entered (closed_phase E b) ≡ true
    closed_entered true = refl
    closed_entered false = refl

    pub closing_on : (w0 w : EvalHost B) (root : ℕ) (opened : List ℕ) (place i x : ℕ) → Closing w0 root opened place i w → slice_get opened i ≡ Some x → Closing w0 root opened place (i + 1) (E.put w x (closed_node w root x))
    closing_on w0 w root opened place i x c at =
        let in_x = c.stack x (has_at opened i x at) in
        let k = keeps_put w x (closed_node w root x) (has_entered w x c.fit in_x) (closed_entered (is_stamped E w x) ∙ sym in_x) in
        let g = c.fit.nodes_fit x in
        record {
          leads = c.leads ∙ ap (close E w root) (drop_at opened i x at);
          long = size_put w.nodes x (closed_node w root x) (has_entered w x c.fit in_x) ∙ c.long;
          keeps = keeps_on w0 w _ c.keeps k;
          stack = λ y h. k.phases y ∙ c.stack y h;
          fit = fits_put w x (closed_node w root x) c.fit (c.fit.entered x in_x) (record { error = g.error; root = c.fit.entered root c.root_in; waits = g.waits; waiters = g.waiters });
          root_in = k.phases root ∙ c.root_in;
        }

    pub closing_step : (w0 w : EvalHost B) (root : ℕ) (opened : List ℕ) (place i x : ℕ) (t : Table) (p : Phase) → Closing w0 root opened place i w → slice_get opened i ≡ Some x
        → p ≡ closed_phase E (is_stamped E w x) → t ≡ with_node w.nodes x (record (node_at w.nodes x) { phase = p; cycle_root = Some root }) → Closing w0 root opened place (i + 1) (record w { nodes = t })
    closing_step w0 w root opened place i x t p c at same n =
        subst (λ u. Closing w0 root opened place (i + 1) (record w { nodes = u })) (sym n)
        (subst (λ q. Closing w0 root opened place (i + 1) (record w { nodes = with_node w.nodes x (record (node_at w.nodes x) { phase = q; cycle_root = Some root }) })) (sym same) (closing_on w0 w root opened place i x c at))

    pub closing_all : (w0 w : EvalHost B) (root : ℕ) (opened : List ℕ) (place i : ℕ) → Closing w0 root opened place i w → length opened ≤ i → w ≡ close E w0 root (drop place opened)
    closing_all w0 w root opened place i c le = sym (c.leads ∙ ap (close E w root) (drop_of_length-le opened le))

    -- ---- a module waits

    abbrev waiting_node : EvalHost B → ℕ → ℕ → Node ℕ CodeValue
    waiting_node w x y = record (E.node w x) { waits = (E.node w x).waits ++ y ∷ [] }

    abbrev awaited_node : EvalHost B → ℕ → ℕ → Node ℕ CodeValue
    awaited_node w y x = record (E.node w y) { waiters = (E.node w y).waiters ++ x ∷ [] }

    pub fits_wait : (w : EvalHost B) (x y : ℕ) → Fits w → linked w.bodies x ≡ true → linked w.bodies y ≡ true → Fits (E.put w x (waiting_node w x y))
    fits_wait w x y f l m =
        let g = f.nodes_fit x in
        fits_put w x (waiting_node w x y) f l (record { error = g.error; root = g.root; waits = All-push (λ z. linked w.bodies z ≡ true) _ y g.waits m; waiters = g.waiters })

    pub fits_waiter : (w : EvalHost B) (y x : ℕ) → Fits w → linked w.bodies y ≡ true → linked w.bodies x ≡ true → Fits (E.put w y (awaited_node w y x))
    fits_waiter w y x f l m =
        let g = f.nodes_fit y in
        fits_put w y (awaited_node w y x) f l (record { error = g.error; root = g.root; waits = g.waits; waiters = All-push (λ z. linked w.bodies z ≡ true) _ x g.waiters m })

    pub keeps_waits : (w : EvalHost B) (x y : ℕ) → Fits w → linked w.bodies x ≡ true → linked w.bodies y ≡ true
        → KeepsHost w (E.put (E.put w x (waiting_node w x y)) y (awaited_node (E.put w x (waiting_node w x y)) y x))
    keeps_waits w x y f l m =
        let mid : EvalHost B = E.put w x (waiting_node w x y) in
        keeps_on w mid _ (keeps_put w x (waiting_node w x y) (f.have x l) refl) (keeps_put mid y (awaited_node mid y x) ((fits_wait w x y f l m).have y m) refl)
