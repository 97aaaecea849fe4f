-- A linked root is evaluated: the evaluation may begin, and it is one in the world.
use Rattle.std.proofs.Common.{◌≡◌, ◌⊎◌, inl, inr, ◌<◌, ◌≤◌, ◌+◌, ℕ, suc, true, false, List, [], ◌∷◌, Option, Some, None, length, nat_eq, eqb-true, arith, refl, subst, sym, ◌∙◌}
use Rattle.std.specs.Prelude.{Ok, Err, IfSome}
use Rattle.std.specs.Option.{unwrap_or}
use Rattle.esm_base.specs.declared.limits.Limit.{Limit}
use Rattle.esm_base.specs.Lists.{is_in}
use Rattle.esm_realm.proofs.Urls.{or_cases}
use Rattle.esm_values.specs.declared.value.PromiseId.{PromiseId}
use Rattle.esm_env.specs.Modules.{Modules, entries}
use Rattle.esm_link.specs.Link.{targets, targets_from}
use Rattle.esm_eval.specs.Calls.{EvaluatesAs}
use Rattle.esm_eval.specs.Evaluate.{Evaluates}
use Rattle.esm_eval.specs.Evaluation.{root_of}
use Rattle.esm_eval.specs.Host.{calls}
use Rattle.esm_eval.specs.Table.{node_at}
use Rattle.esm_eval.specs.declared.host.EvalHost.{EvalHost}
use Rattle.esm_eval.specs.declared.walk.EvalEnd.{EvalEnd}
use Rattle.esm_eval.specs.declared.walk.EvalEnd.TheVariants as eval_ends
use Rattle.esm_world.specs.World.{World}
use Rattle.esm_machine.specs.Evaluating.{IsLinkedNumber, world_in}
use Rattle.esm_machine.specs.Seen.{linked, modules}
use Rattle.esm_machine.specs.Inner.Stops.{turn_end_by}
use Rattle.esm_machine.specs.Inner.Leads.{EvaluatesModule}
use Rattle.esm_machine.specs.Inner.Parts.{AreLive, TakeCalls, ByIds, CallsBodies, seen_in, url_in}
use Rattle.esm_machine.specs.Machine.{cells_by, engine_by, entry_held, errors_by, seen_by}
use Rattle.esm_machine.specs.declared.host.BodyHost.{BodyHost}
use Rattle.esm_machine.specs.Machine.{held_of}
use Rattle.esm_machine.specs.declared.parts.Parts.{Parts}
use Rattle.esm_machine.proofs.Starts.{starts_held}
use Rattle.esm_machine.proofs.Evaluated as evaluated
use Rattle.esm_machine.proofs.BodyEnds.{lawful, one, steady, with_host}
use Rattle.esm_machine.proofs.ReadyHost.{all_linked, host_fits}

-- a module among the targets is that of a request
among_targets : (g : Modules ℕ) (P : ℕ → Type 0) (m i : ℕ) (rs : List (List ℕ)) → ((j : ℕ) → i ≤ j → j < i + length rs → P (g.target m j)) → (t : ℕ)
    → is_in nat_eq (targets_from g m i rs) t ≡ true → P t
among_targets g P m i [] h t e = let f : false ≡ true = e in absurd cc
among_targets g P m i (r ∷ rs) h t e = by (or_cases (nat_eq t (g.target m i)) (is_in nat_eq (targets_from g m (suc i) rs) t) e)
    (among_targets g P m (suc i) rs (λ j le lt. h j (omega (arith, le)) (omega (arith, lt))) t)
  where
    by : (nat_eq t (g.target m i) ≡ true) ⊎ (is_in nat_eq (targets_from g m (suc i) rs) t ≡ true)
        → (is_in nat_eq (targets_from g m (suc i) rs) t ≡ true → P t) → P t
    by (inl s) later = subst P (sym (eqb-true t (g.target m i) s)) (h i (omega arith) (omega arith))
    by (inr k) later = later k

or_own : {A : Type 0} (P : A → Type 0) (o : Option A) (d : A) → IfSome o P → P d → P (unwrap_or o d)
or_own P None d h k = k
or_own P (Some a) d h k = h

module _ (p : Parts) (a : TakeCalls p) where
  pub target_linked : (m t : ℕ) → linked (seen_in p) m ≡ true → is_in nat_eq (targets (modules (seen_in p)) m) t ≡ true → linked (seen_in p) t ≡ true
  target_linked m t l i = among_targets (modules (seen_in p)) (λ x. linked (seen_in p) x ≡ true) m 0 (entries (modules (seen_in p)) m).requests
      (λ j le lt. (all_linked p a).targets m j l (omega (arith, lt))) t i

  root_linked : (m : ℕ) → linked (seen_in p) m ≡ true → linked (seen_in p) (root_of ByIds p.host m) ≡ true
  root_linked m l = or_own (λ x. linked (seen_in p) x ≡ true) (node_at p.host.nodes m).cycle_root m ((host_fits p a).nodes_fit m).root l

  -- ---- in the world

  module _ (h : EvalHost BodyHost) (m : ℕ) (l : linked (seen_in p) m ≡ true) where
    in_world : (w : World) → AreLive p w → (x : ℕ) → linked (seen_in p) x ≡ true → IsLinkedNumber (seen_in p).urls w.linked x
    in_world w live x k = live.stands.linked _ ∙ k

    of_world : (w : World) → AreLive p w → (x : ℕ) → IsLinkedNumber (seen_in p).urls w.linked x → linked (seen_in p) x ≡ true
    of_world w live x k = sym (live.stands.linked _) ∙ k

    abbrev After : World → World
    After w = world_in seen_by errors_by cells_by engine_by (entry_held p.entry) w.linked h

    pub evaluates_ok : (promise : PromiseId) → Evaluates ByIds (calls CallsBodies) p.host m (Ok promise.0) h
        → (w : World) → AreLive p w → EvaluatesModule w (url_in p m) (Ok promise) (with_host p h)
    evaluates_ok promise e w live =
        let k = evaluated.evaluates seen_by errors_by cells_by engine_by CallsBodies (λ o v c r a. a) lawful steady one (entry_held p.entry) p.host w live
        h m (Ok promise.0) a.order.between (in_world w live _ (root_linked m l))
        (λ x t lx i. in_world w live t (target_linked x t (of_world w live x lx) i)) e in
        (After w, k.0, record { live = k.2; stands = k.1 })

    pub evaluates_stop : (end : EvalEnd Limit) → EvaluatesAs ByIds (calls CallsBodies) p.host m (Err end) h
        → (w : World) → AreLive p w → EvaluatesModule w (url_in p m) (Err (turn_end_by end)) (with_host p h)
    evaluates_stop (eval_ends.Stopped limit) e w live =
        let k = evaluated.evaluates seen_by errors_by cells_by engine_by CallsBodies (λ o v c r a. a) lawful steady one (entry_held p.entry) p.host w live
        h m (Err limit) a.order.between (in_world w live _ (root_linked m l))
        (λ x t lx i. in_world w live t (target_linked x t (of_world w live x lx) i)) e in
        (After w, k.0, record { stopped = k.2; written = refl; begun = starts_held (held_of (with_host p h)) w.linked })
    evaluates_stop eval_ends.Memory e w live = tt
