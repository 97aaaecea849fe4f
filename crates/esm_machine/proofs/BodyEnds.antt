-- A body that awaits has ended: what follows by ids, follows in the world.
use Rattle.std.proofs.Common.{◌≡◌, ℕ, true, refl, ◌∙◌}
use Rattle.std.specs.Prelude.{Ok, Err}
use Rattle.esm_base.specs.declared.end.End.TheVariants as ends
use Rattle.esm_base.specs.declared.limits.Limit.{Limit}
use Rattle.esm_values.specs.Value.{Value}
use Rattle.esm_promise.specs.Promises.{Fulfilled, Rejected}
use Rattle.esm_promise.specs.Reactions.{BodyEnd}
use Rattle.esm_eval.specs.Begins.{BeginsOne}
use Rattle.esm_eval.specs.BodyEnd.{Fulfills, Rejects}
use Rattle.esm_eval.specs.Calls.{FulfillsAs}
use Rattle.esm_eval.specs.Evaluation.{IsLawful, IsSteady, is_stamped}
use Rattle.esm_eval.specs.Host.{calls}
use Rattle.esm_eval.specs.Inner.Hosts as hosts
use Rattle.esm_eval.specs.declared.host.EvalHost.{EvalHost}
use Rattle.esm_eval.specs.declared.walk.EvalEnd.{EvalEnd}
use Rattle.esm_eval.specs.declared.walk.EvalEnd.TheVariants as eval_ends
use Rattle.esm_eval.proofs.Inner.DeskSteps.{stamped_linked}
use Rattle.esm_world.specs.World.{World}
use Rattle.esm_world.specs.Jobs.{Reacts}
use Rattle.esm_machine.specs.Evaluating.{IsLinkedNumber, world_in}
use Rattle.esm_machine.specs.Inner.Stops.{turn_end_by}
use Rattle.esm_machine.specs.Inner.HostLaws.{begins_its_own, leaves_modules}
use Rattle.esm_machine.specs.Inner.Leads.{DoesJob}
use Rattle.esm_machine.specs.Inner.Parts.{AreLive, TakeCalls, ByIds, CallsBodies, FitsBodies, KnowsBy, awaits_by, begun_by, linked_by, seen_in, targets_by}
use Rattle.esm_machine.specs.Machine.{cells_by, engine_by, entry_held, errors_by, seen_by}
use Rattle.esm_machine.specs.declared.host.BodyHost.{BodyHost}
use Rattle.esm_machine.specs.Machine.{held_of}
use Rattle.esm_machine.specs.declared.parts.Parts.{Parts}
use Rattle.esm_machine.proofs.Starts.{starts_held}
use Rattle.esm_machine.proofs.Evaluated as evaluated
use Rattle.esm_machine.proofs.ReadyHost.{host_fits}

-- ---- what the laws of evaluation ask for

pub lawful : IsLawful ByIds
lawful = hosts.lawful targets_by awaits_by begun_by

pub steady : IsSteady ByIds (calls CallsBodies)
steady = hosts.steady targets_by awaits_by begun_by CallsBodies begins_its_own leaves_modules

pub one : BeginsOne ByIds (calls CallsBodies)
one = hosts.begins_one targets_by awaits_by begun_by CallsBodies begins_its_own

-- the parts with another host
abbrev pub with_host : Parts → EvalHost BodyHost → Parts
with_host p h = record p { host = h }

module _ (p : Parts) (r : TakeCalls p) (h : EvalHost BodyHost) (m : ℕ) where
  -- a module with an order is linked in each world
  stamped : (w : World) → AreLive p w → (x : ℕ) → is_stamped ByIds p.host x ≡ true → IsLinkedNumber (seen_in p).urls w.linked x
  stamped w live x s = live.stands.linked _ ∙ stamped_linked targets_by awaits_by begun_by linked_by KnowsBy FitsBodies p.host x (host_fits p r) s

  abbrev After : World → World
  After w = world_in seen_by errors_by cells_by engine_by (entry_held p.entry) w.linked h

  pub body_fulfilled : (v : Value ℕ) → Fulfills ByIds (calls CallsBodies) p.host m (Ok tt) h → DoesJob p (BodyEnd m) (Fulfilled v) (Ok tt) (with_host p h)
  body_fulfilled v f = λ w live.
      let k = evaluated.fulfills seen_by errors_by cells_by engine_by CallsBodies (λ o v c r a. a) lawful steady one (entry_held p.entry) p.host w live
      h m (Ok tt) r.order.between (stamped w live) f in
      (After w, Reacts.body_ended k.0, record { live = k.2; stands = k.1 })

  pub body_stopped : (v : Value ℕ) (limit : Limit) → Fulfills ByIds (calls CallsBodies) p.host m (Err limit) h
      → DoesJob p (BodyEnd m) (Fulfilled v) (Err (ends.Fault limit)) (with_host p h)
  body_stopped v limit f = λ w live.
      let k = evaluated.fulfills seen_by errors_by cells_by engine_by CallsBodies (λ o v c r a. a) lawful steady one (entry_held p.entry) p.host w live
      h m (Err limit) r.order.between (stamped w live) f in
      (After w, Reacts.body_ended k.0, record { stopped = k.2; written = refl; begun = starts_held (held_of (with_host p h)) w.linked })

  -- over any end
  pub body_ends : (v : Value ℕ) (end : EvalEnd Limit) → FulfillsAs ByIds (calls CallsBodies) p.host m (Err end) h
      → DoesJob p (BodyEnd m) (Fulfilled v) (Err (turn_end_by end)) (with_host p h)
  body_ends v (eval_ends.Stopped limit) f = body_stopped v limit f
  body_ends v eval_ends.Memory f = λ w live. tt

  pub body_rejected : (v : Value ℕ) → Rejects ByIds p.host m v h → DoesJob p (BodyEnd m) (Rejected v) (Ok tt) (with_host p h)
  body_rejected v f = λ w live.
      let k = evaluated.rejects seen_by errors_by cells_by engine_by CallsBodies (λ o v c r a. a) lawful steady one (entry_held p.entry) p.host w live h m v f in
      (After w, Reacts.body_threw k.0, record { live = k.2; stands = k.1 })
