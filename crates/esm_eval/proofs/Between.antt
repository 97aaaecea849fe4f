-- What holds between two calls of evaluation holds on.
use Rattle.std.proofs.Common.{◌≡◌, ℕ, zero, suc, Bool, false, List, [], ◌∷◌, ◌++◌, refl, ap, subst, sym, ◌∙◌, slice_get}
use Rattle.std.specs.Option.{unwrap_or}
use Rattle.esm_base.specs.Lists.{EachOnce, is_in}
use Rattle.esm_values.specs.Code.{CodeValue}
use Rattle.esm_eval.specs.Nodes.{BodyCalls, Node, untouched}
use Rattle.esm_eval.specs.Evaluation.{Evaluation, IsAsFar, phase, root_of}
use Rattle.esm_eval.specs.Waiting.{HasOpenWait}
use Rattle.esm_eval.specs.Begins.{HaveBegunOnce}
use Rattle.esm_eval.specs.Table.{node_at, node_by, no_nodes}
use Rattle.esm_eval.specs.Host.{evaluation}
use Rattle.esm_eval.specs.Between.{HostsStayBetween, StaysBetween}
use Rattle.esm_eval.specs.declared.host.EvalHost.{EvalHost}
use Rattle.esm_eval.proofs.WaitsStayOpen.{opens}

module _ {N V W : Type 0} (E : Evaluation N V W) (w v : W) (a : IsAsFar E w v) where
  -- what a node of w says, the node of v says
  phase_same : (x : N) → phase E v x ≡ phase E w x
  phase_same x = ap (λ n. n.phase) (a.nodes x)

  stamped_same : (x : N) → is_in E.same (E.stamps v) x ≡ is_in E.same (E.stamps w) x
  stamped_same x = ap (λ xs. is_in E.same xs x) a.stamps

  open_same : (x : N) → HasOpenWait E w x → HasOpenWait E v x
  open_same x o = (o.0, ap (λ n. is_in E.same n.waits o.0) (a.nodes x) ∙ o.1, ap (λ n. n.done) (a.nodes o.0) ∙ o.2)

  root_same : (x : N) → (E.node v (root_of E v x)).error ≡ (E.node w (root_of E w x)).error
  root_same x =
      let r : root_of E v x ≡ root_of E w x = ap (λ n. unwrap_or n.cycle_root x) (a.nodes x) in
      ap (λ z. (E.node v z).error) r ∙ ap (λ n. n.error) (a.nodes (root_of E w x))

  pub still_between : HaveBegunOnce E w → HaveBegunOnce E v
  still_between h = record {
    between = record {
      idle = λ x e. h.between.idle x (sym (phase_same x) ∙ e);
      unstamped = λ x e. stamped_same x ∙ h.between.unstamped x (sym (phase_same x) ∙ e);
      undone = λ x e. ap (λ n. n.done) (a.nodes x) ∙ h.between.undone x (sym (phase_same x) ∙ e);
      free = λ x e. ap (λ n. n.waits) (a.nodes x) ∙ h.between.free x (sym (phase_same x) ∙ e);
      stamped = λ x e. stamped_same x ∙ h.between.stamped x (sym (phase_same x) ∙ e);
      joined = λ x y e. ap (λ n. is_in E.same n.waiters x) (a.nodes y) ∙ h.between.joined x y (sym (ap (λ n. is_in E.same n.waits y) (a.nodes x)) ∙ e);
      waiting = λ x e b r. open_same x (h.between.waiting x (sym (phase_same x) ∙ e) (sym (a.begun x) ∙ b) (sym (root_same x) ∙ r));
    };
    unbegun = λ x e. a.begun x ∙ h.unbegun x (sym (phase_same x) ∙ e);
    distinct = subst (λ xs. EachOnce E.same xs) (sym a.stamps) h.distinct;
  }

pub stays_between : {N V W : Type 0} (E : Evaluation N V W) → StaysBetween E
stays_between E w v a h = still_between E w v a h

-- ---- nodes, promises and bodies

-- what isn't there reads as a node in which nothing is written
pub one_more_at : (ns : List (Node ℕ CodeValue)) (x : ℕ) → node_by (slice_get (ns ++ untouched ∷ []) x) ≡ node_by (slice_get ns x)
one_more_at [] zero = refl
one_more_at [] (suc x) = refl
one_more_at (n ∷ ns) zero = refl
one_more_at (n ∷ ns) (suc x) = one_more_at ns x

pub none_at : (x : ℕ) → node_at no_nodes x ≡ untouched
none_at zero = refl
none_at (suc x) = refl

module _ {B : Type 0} (targets : B → ℕ → List ℕ) (awaits begun : B → ℕ → Bool) where
  abbrev E : Evaluation ℕ CodeValue (EvalHost B)
  E = evaluation targets awaits begun

  abbrev no_calls : BodyCalls ℕ CodeValue (EvalHost B) (Unit {0})
  no_calls w c r v = ⊥

  -- where nothing is written, and no body has begun
  pub blank_between : (w : EvalHost B) → ((x : ℕ) → node_at w.nodes x ≡ untouched) → w.nodes.stamps ≡ [] → ((x : ℕ) → begun w.bodies x ≡ false) → HaveBegunOnce E w
  blank_between w blank none n = record {
    between = opens E no_calls w (record {
      phases = λ x. ap (λ m. m.phase) (blank x);
      free = λ x. ap (λ m. m.waits) (blank x);
      undone = λ x. ap (λ m. m.done) (blank x);
      stamps = none;
    });
    unbegun = λ x p. n x;
    distinct = subst (λ xs. EachOnce E.same xs) (sym none) tt;
  }

  pub hosts_stay_between : HostsStayBetween targets awaits begun
  hosts_stay_between = record {
    opens = λ w e n. blank_between w (λ x. ap (λ t. node_at t x) e ∙ none_at x) (ap (λ t. t.stamps) e) n;
    same = λ w v e b h. still_between E w v (record { nodes = λ x. ap (λ t. node_at t x) e; stamps = ap (λ t. t.stamps) e; begun = b }) h;
    one_more = λ w v e b h. still_between E w v (record { nodes = λ x. ap (λ t. node_at t x) e ∙ one_more_at w.nodes.nodes x; stamps = ap (λ t. t.stamps) e; begun = b }) h;
  }
