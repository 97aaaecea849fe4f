-- What evaluation by ids leaves, the world is then; and a limit that stops it has stopped the world.
use Rattle.std.proofs.Common.{◌≡◌, ℕ, true, List, None, refl, ap, subst, sym, ◌∙◌, nat_eq}
use Rattle.std.specs.Prelude.{Result}
use Rattle.esm_base.specs.declared.limits.Limit.{Limit}
use Rattle.esm_base.specs.Lists.{is_in}
use Rattle.esm_base.specs.Urls.{Url, has}
use Rattle.esm_values.specs.Value.{Value}
use Rattle.esm_values.specs.Errors.{Errors}
use Rattle.esm_values.specs.Numbering.{numbering}
use Rattle.esm_env.specs.Cells.{Cells}
use Rattle.esm_eval.specs.Nodes.{Call, CallAnswer, Start, Run}
use Rattle.esm_eval.specs.Evaluation.{IsLawful, IsSteady, is_stamped, root_of}
use Rattle.esm_eval.specs.Evaluate.{Evaluates}
use Rattle.esm_eval.specs.BodyEnd.{Fulfills, Rejects}
use Rattle.esm_eval.specs.Begins.{BeginsOne, HaveBegunOnce}
use Rattle.esm_eval.specs.Calls.{CodeCalls}
use Rattle.esm_eval.specs.Naming.{EvaluationFollows}
use Rattle.esm_eval.specs.Host as host
use Rattle.esm_eval.specs.Host.{Outside}
use Rattle.esm_eval.specs.declared.host.EvalHost.{EvalHost}
use Rattle.esm_rewriting.specs.State.{Engine}
use Rattle.esm_world.specs.World.{World, stopped}
use Rattle.esm_world.specs.Layers as layers
use Rattle.esm_world.specs.Limits.{told_limit}
use Rattle.esm_world.proofs.EvalKeeps.{Lasts, evaluates_keeps, fulfills_keeps, rejects_keeps}
use Rattle.esm_rewriting.proofs.BodyKeeps.{starts_body_keeps, runs_body_keeps}
use Rattle.esm_world.proofs.LimitsExact.{limits_are_exact}
use Rattle.esm_machine.specs.Seen.{Seen, modules, BeginsById}
use Rattle.esm_machine.specs.Held.{EntryHeld, StandsFor}
use Rattle.esm_machine.specs.Represents.{IsLive}
use Rattle.esm_machine.specs.Evaluating.{value_by, IsLinkedNumber, held_in, world_in, by_ids, ActsById, HasUrls}
use Rattle.esm_machine.proofs.Evaluating.{evaluation_is_of_the_world}
use Rattle.esm_machine.proofs.Steps.{SameLinked, links_nothing}

module _ {B : Type 0} (seen : B → Seen) (errors : B → Errors) (cells : B → Cells ℕ) (engine : B → Engine ℕ) (acts : CodeCalls (Outside B) Limit)
    (are : (o v : Outside B) (c : Call ℕ) (r : Result (CallAnswer (Value ℕ) c) Limit) → acts o c r v → ActsById seen errors cells engine o c r v) where
  -- no call links a module
  abbrev LinksNone : EvalHost B → EvalHost B → Type 0
  LinksNone v w = SameLinked (seen v.bodies) (seen w.bodies)

  call_links_none : (o v : Outside B) (c : Call ℕ) (r : Result (CallAnswer (Value ℕ) c) Limit) → ActsById seen errors cells engine o c r v → SameLinked (seen o.bodies) (seen v.bodies)
  call_links_none o v (Start m done) r p = (starts_body_keeps nat_eq modules BeginsById SameLinked links_nothing p).imports
  call_links_none o v (Run m) r p = (runs_body_keeps nat_eq modules BeginsById SameLinked links_nothing p).imports

  lasts : Lasts (by_ids seen errors cells engine) (host.calls acts) LinksNone
  lasts = record {
    same = λ w. refl;
    on = λ p q. q ∙ p;
    put = λ w x n. refl;
    stamp = λ w x. refl;
    make = λ w. refl;
    make_body = λ w x. refl;
    fulfill = λ w p. refl;
    reject = λ w p v. refl;
    call = λ {v} {w} {c} {r} a. call_links_none (host.outside v) (host.outside w) c r (are (host.outside v) (host.outside w) c r a.1);
  }

  module _ (lawful : IsLawful (by_ids seen errors cells engine)) (steady : IsSteady (by_ids seen errors cells engine) (host.calls acts)) (one : BeginsOne (by_ids seen errors cells engine) (host.calls acts))
      (entry : EntryHeld) (o : EvalHost B) (w : World) (s : IsLive (held_in seen errors cells engine entry o) w) where
    abbrev urls : List Url
    urls = (seen o.bodies).urls

    abbrev name : ℕ → Url
    name m = (numbering urls).name m

    abbrev After : EvalHost B → World
    After v = world_in seen errors cells engine entry w.linked v

    is : w ≡ After o
    is = s.stands.world

    follows : EvaluationFollows (numbering urls) (value_by urls) (HasUrls seen errors cells engine urls) (by_ids seen errors cells engine) layers.evaluation (world_in seen errors cells engine entry w.linked)
        (IsLinkedNumber urls w.linked) (host.calls acts) layers.CallsForBody
    follows = evaluation_is_of_the_world seen errors cells engine acts entry w.linked urls are lawful steady one

    stands : (v : EvalHost B) → LinksNone o v → StandsFor (held_in seen errors cells engine entry v) (After v)
    stands v k = record { linked = λ u. s.stands.linked u ∙ sym (ap (λ us. has us u) k); world = refl }

    -- ---- evaluating a module

    pub evaluates : (v : EvalHost B) (m : ℕ) (answer : Result ℕ Limit) → HaveBegunOnce (by_ids seen errors cells engine) o → IsLinkedNumber urls w.linked (root_of (by_ids seen errors cells engine) o m)
        → ((x t : ℕ) → IsLinkedNumber urls w.linked x → is_in nat_eq ((by_ids seen errors cells engine).targets o x) t ≡ true → IsLinkedNumber urls w.linked t)
        → Evaluates (by_ids seen errors cells engine) (host.calls acts) o m answer v
        → Evaluates layers.evaluation layers.CallsForBody w (name m) answer (After v) × StandsFor (held_in seen errors cells engine entry v) (After v) × (stopped (After v) ≡ told_limit answer)
    evaluates v m answer once root closed p =
        let there = follows.evaluates o v m answer refl once root closed p in
        let now : Evaluates layers.evaluation layers.CallsForBody w (name m) answer (After v) = subst (λ u. Evaluates layers.evaluation layers.CallsForBody u (name m) answer (After v)) (sym is) there.0 in
        (now, stands v (evaluates_keeps (by_ids seen errors cells engine) (host.calls acts) LinksNone lasts o m p), limits_are_exact.evaluates w (After v) (name m) answer s.live now)

    -- ---- the end of a body

    pub fulfills : (v : EvalHost B) (m : ℕ) (end : Result (Unit {0}) Limit) → HaveBegunOnce (by_ids seen errors cells engine) o
        → ((x : ℕ) → is_stamped (by_ids seen errors cells engine) o x ≡ true → IsLinkedNumber urls w.linked x)
        → Fulfills (by_ids seen errors cells engine) (host.calls acts) o m end v
        → Fulfills layers.evaluation layers.CallsForBody w (name m) end (After v) × StandsFor (held_in seen errors cells engine entry v) (After v) × (stopped (After v) ≡ told_limit end)
    fulfills v m end once stamped p =
        let there = follows.fulfills o v m end refl once stamped p in
        let now : Fulfills layers.evaluation layers.CallsForBody w (name m) end (After v) = subst (λ u. Fulfills layers.evaluation layers.CallsForBody u (name m) end (After v)) (sym is) there.0 in
        (now, stands v (fulfills_keeps (by_ids seen errors cells engine) (host.calls acts) LinksNone lasts p), limits_are_exact.fulfills w (After v) (name m) end s.live now)

    pub rejects : (v : EvalHost B) (m : ℕ) (e : Value ℕ) → Rejects (by_ids seen errors cells engine) o m e v
        → Rejects layers.evaluation w (name m) (value_by urls e) (After v) × StandsFor (held_in seen errors cells engine entry v) (After v) × (stopped (After v) ≡ None)
    rejects v m e p =
        let there = follows.rejects o v m e refl p in
        let now : Rejects layers.evaluation w (name m) (value_by urls e) (After v) = subst (λ u. Rejects layers.evaluation u (name m) (value_by urls e) (After v)) (sym is) there.0 in
        (now, stands v (rejects_keeps (by_ids seen errors cells engine) (host.calls acts) LinksNone lasts p), limits_are_exact.rejects w (After v) (name m) (value_by urls e) s.live now)
