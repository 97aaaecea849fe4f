-- What holds between two calls of evaluation holds of whatever has the same nodes and stamps, and where the same bodies have begun.
use Rattle.std.proofs.Common.{◌≡◌, true, ap, subst, sym, ◌∙◌}
use Rattle.std.specs.Option.{unwrap_or}
use Rattle.esm_base.specs.Lists.{EachOnce, is_in}
use Rattle.esm_eval.specs.Begins.{HaveBegunOnce}
use Rattle.esm_eval.specs.Evaluation.{Evaluation, phase, root_of, waits}
use Rattle.esm_eval.specs.Nodes.{Node}
use Rattle.esm_eval.specs.Waiting.{HasOpenWait}

module _ {N V W : Type 0} (E : Evaluation N V W) (w v : W) (nodes : (x : N) → E.node v x ≡ E.node w x) (stamps : E.stamps v ≡ E.stamps w)
    (begun : (x : N) → E.begun v x ≡ E.begun w x) (b : HaveBegunOnce E w) where
  phase_same : (x : N) → phase E w x ≡ phase E v x
  phase_same x = sym (ap (λ (n : Node N V). n.phase) (nodes x))

  waits_same : (x : N) → waits E w x ≡ waits E v x
  waits_same x = sym (ap (λ (n : Node N V). n.waits) (nodes x))

  root_same : (x : N) → root_of E w x ≡ root_of E v x
  root_same x = sym (ap (λ (n : Node N V). unwrap_or n.cycle_root x) (nodes x))

  error_same : (x : N) → (E.node w (root_of E w x)).error ≡ (E.node v (root_of E v x)).error
  error_same x = sym (ap (λ (n : Node N V). n.error) (nodes (root_of E w x))) ∙ ap (λ y. (E.node v y).error) (root_same x)

  open_same : (x : N) → HasOpenWait E w x → HasOpenWait E v x
  open_same x h = (
    h.0,
    subst (λ ys. is_in E.same ys h.0 ≡ true) (waits_same x) h.1,
    ap (λ (n : Node N V). n.done) (nodes h.0) ∙ h.2,
  )

  pub begun_alike : HaveBegunOnce E v
  begun_alike = record {
    between = record {
      idle = λ x e. b.between.idle x (phase_same x ∙ e);
      unstamped = λ x e. ap (λ ys. is_in E.same ys x) stamps ∙ b.between.unstamped x (phase_same x ∙ e);
      undone = λ x e. ap (λ (n : Node N V). n.done) (nodes x) ∙ b.between.undone x (phase_same x ∙ e);
      free = λ x e. sym (waits_same x) ∙ b.between.free x (phase_same x ∙ e);
      stamped = λ x e. ap (λ ys. is_in E.same ys x) stamps ∙ b.between.stamped x (phase_same x ∙ e);
      joined = λ x y i.
          ap (λ (n : Node N V). is_in E.same n.waiters x) (nodes y)
          ∙ b.between.joined x y (ap (λ ys. is_in E.same ys y) (waits_same x) ∙ i);
      waiting = λ x e n r.
          open_same x (b.between.waiting x (phase_same x ∙ e) (sym (begun x) ∙ n) (error_same x ∙ r));
    };
    unbegun = λ x e. begun x ∙ b.unbegun x (phase_same x ∙ e);
    distinct = subst (EachOnce E.same) (sym stamps) b.distinct;
  }
