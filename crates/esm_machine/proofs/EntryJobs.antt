-- The jobs of the entry: it is linked and evaluated, or fails.
use Rattle.std.proofs.Common.{◌≡◌, ℕ, true, ap, subst, sym, ◌∙◌}
use Rattle.std.specs.Prelude.{Result, Ok, Err, OnOk, is_some}
use Rattle.esm_base.specs.declared.end.End.TheVariants as ends
use Rattle.esm_values.specs.Value.{Value}
use Rattle.esm_values.specs.Code.{value_of}
use Rattle.esm_values.specs.declared.value.Value.{Value as Held}
use Rattle.esm_values.specs.declared.value.PromiseId.{PromiseId}
use Rattle.esm_promise.specs.Promises.{Settled, Fulfilled, Rejected, register}
use Rattle.esm_promise.specs.Reactions.{Reaction, EntryLoaded, EntryDone}
use Rattle.esm_loads.specs.Loading.{Loading, root_of_load}
use Rattle.esm_world.specs.World.{World}
use Rattle.esm_world.specs.World.{EntryState as entry_state}
use Rattle.esm_world.specs.Jobs as jobs
use Rattle.esm_world.specs.Jobs.{Reacts, link_failed, with_reaction}
use Rattle.esm_machine.specs.Held.{EntryHeld, Ended, Failed, renamed_entry}
use Rattle.esm_machine.specs.Represents.{IsLive, TurnEnd}
use Rattle.esm_machine.specs.Seen.{names}
use Rattle.esm_machine.specs.Steps.{with_entry_state}
use Rattle.esm_machine.specs.Inner.Parts.{AreInOrder, AreLive, TakeCalls, MayDo, seen_in, value_in, parts_with_promises}
use Rattle.esm_machine.specs.Machine.{entry_held, held_of}
use Rattle.esm_machine.specs.Inner.Leads.{DoesJob, LinksAndEvaluates, TakesEntry, entry_after}
use Rattle.esm_machine.specs.declared.linking.Linked.{Linked}
use Rattle.esm_machine.specs.declared.linking.Linked.TheVariants as outcomes
use Rattle.esm_machine.specs.declared.parts.Parts.{Parts}
use Rattle.esm_machine.specs.declared.parts.EntryState.{EntryState}
use Rattle.esm_machine.specs.declared.parts.EntryState.TheVariants as states
use Rattle.esm_machine.proofs.InOrder.{with_entry_in_order, with_promises_in_order}
use Rattle.esm_machine.proofs.Steps.{steps_are_of_the_world}

-- ---- what is known of the world

pub loading_is : (p : Parts) (w : World) → AreLive p w → w.loading ≡ (seen_in p).loading
loading_is p w live = ap (λ (v : World). v.loading) live.stands.world

pub job_ready : (p : Parts) (r : Reaction ℕ) (how : Settled (Value ℕ)) → MayDo p r how → TakeCalls p
job_ready p r how m = record { world = m.world; live = m.live; ready = m.may.ready; order = m.order }

pub entry_complete : (p : Parts) (v : Value ℕ) → MayDo p EntryLoaded (Fulfilled v) → is_some (root_of_load (seen_in p).loading 0) ≡ true
entry_complete p v m =
    ap (λ (l : Loading). is_some (root_of_load l 0)) (sym (loading_is p m.world m.live)) ∙ ap (λ o. is_some o) m.may.told.1

-- ---- the entry's load has failed, or its evaluation has ended

module _ (p : Parts) where
  pub entry_refused : (v : Held) → DoesJob p EntryLoaded (Rejected (value_of v)) (Ok tt) (record p { entry = states.Failed v })
  entry_refused v = λ w live.
      (jobs.with_entry_state w (entry_state.Failed (value_in p (value_of v))), Reacts.entry_refused, steps_are_of_the_world.entry (held_of p) w (Failed (value_of v)) live)

  entry_stands : (e : EntryState) (h : EntryHeld) → entry_held e ≡ h → (w : World) → AreLive p w
      → AreLive (record p { entry = e }) (jobs.with_entry_state w (renamed_entry (names (seen_in p)).name h))
  entry_stands e h same w live =
      subst (λ x. IsLive (with_entry_state (held_of p) x) (jobs.with_entry_state w (renamed_entry (names (seen_in p)).name h))) (sym same) (steps_are_of_the_world.entry (held_of p) w h live)

  pub entry_ends : (e : EntryState) (how : Settled (Value ℕ)) → entry_held e ≡ entry_after how → DoesJob p EntryDone how (Ok tt) (record p { entry = e })
  entry_ends e (Fulfilled v) same = λ w live. (jobs.with_entry_state w entry_state.Ended, Reacts.entry_ended, entry_stands e Ended same w live)
  entry_ends e (Rejected v) same = λ w live.
      (jobs.with_entry_state w (entry_state.Failed (value_in p v)), Reacts.entry_threw, entry_stands e (Failed v) same w live)

-- ---- the entry is linked and evaluated

-- a reaction that has no module is registered
pub registered : (p new : Parts) (promise : PromiseId) (w : World) → AreLive p w → new ≡ parts_with_promises p (register p.host.promises promise.0 EntryDone)
    → AreLive new (with_reaction w promise.0 EntryDone)
registered p new promise w live e =
    subst (λ q. AreLive q (with_reaction w promise.0 EntryDone)) (sym e) (steps_are_of_the_world.registers (held_of p) w promise.0 EntryDone live)

module _ (p mid : Parts) (v : Value ℕ) where
  pub entry_goes_on : (new : Parts) (linked : Linked) (result : Result (Unit {0}) TurnEnd)
      → ((w : World) → AreLive p w → LinksAndEvaluates w 0 (Ok linked) mid) → TakesEntry mid linked result new → DoesJob p EntryLoaded (Fulfilled v) result new
  entry_goes_on new (outcomes.Evaluates promise) (Ok done) comes e = λ w live.
      let c = comes w live in
      (with_reaction c.0 promise.0 EntryDone, Reacts.entry_linked c.1, registered mid new promise c.0 c.2 e)
  entry_goes_on new (outcomes.Evaluates promise) (Err (ends.Fault limit)) comes e = absurd e
  entry_goes_on new (outcomes.Evaluates promise) (Err ends.Memory) comes e = λ w live. tt
  entry_goes_on new (outcomes.Fault u) (Ok done) comes e = λ w live.
      let c = comes w live in
      let failed : World = link_failed w c.1 c.2 in
      let there : Reacts w EntryLoaded (Fulfilled (value_in p v)) (jobs.with_entry_state failed (entry_state.Failed (value_in mid (value_of u)))) =
      subst (λ x. Reacts w EntryLoaded (Fulfilled (value_in p v)) (jobs.with_entry_state failed (entry_state.Failed x))) (sym c.4) (Reacts.entry_fault c.0 c.1 c.2 c.3) in (
        jobs.with_entry_state failed (entry_state.Failed (value_in mid (value_of u))),
        there,
        subst (λ q. AreLive q (jobs.with_entry_state failed (entry_state.Failed (value_in mid (value_of u))))) (sym e) (steps_are_of_the_world.entry (held_of mid) failed (Failed (value_of u)) c.5),
      )
  entry_goes_on new (outcomes.Fault u) (Err end) comes e = absurd e

  -- linking or evaluating it was stopped
  pub entry_stops : (end : TurnEnd) → ((w : World) → AreLive p w → LinksAndEvaluates w 0 (Err end) mid) → DoesJob p EntryLoaded (Fulfilled v) (Err end) mid
  entry_stops (ends.Fault limit) comes = λ w live.
      let c = comes w live in
      (c.0, Reacts.entry_linked c.1, c.2)
  entry_stops ends.Memory comes = λ w live. tt

pub entry_in_order : (mid new : Parts) (linked : Linked) (result : Result (Unit {0}) TurnEnd) → AreInOrder mid → TakesEntry mid linked result new
    → OnOk result (AreInOrder new)
entry_in_order mid new (outcomes.Evaluates promise) (Ok done) o e =
    subst AreInOrder (sym e) (with_promises_in_order mid o (register mid.host.promises promise.0 EntryDone))
entry_in_order mid new (outcomes.Evaluates promise) (Err end) o e = tt
entry_in_order mid new (outcomes.Fault u) (Ok done) o e = subst AreInOrder (sym e) (with_entry_in_order mid o (states.Failed u))
entry_in_order mid new (outcomes.Fault u) (Err end) o e = tt
