-- The jobs of the loads of import(): the root is linked and evaluated, and the promise of the import() is settled.
use Rattle.std.proofs.Common.{◌≡◌, ℕ, true, Some, ap, subst, sym, ◌∙◌}
use Rattle.std.specs.Prelude.{Result, Ok, Err, OnOk, Option, is_some}
use Rattle.esm_promise.specs.Code.{Numbered}
use Rattle.esm_base.specs.declared.end.End.TheVariants as ends
use Rattle.esm_base.specs.declared.module_id.ModuleId.{ModuleId}
use Rattle.esm_values.specs.Value.{Value, Namespace}
use Rattle.esm_values.specs.Code.{value_of}
use Rattle.esm_values.specs.declared.value.PromiseId.{PromiseId}
use Rattle.esm_promise.specs.Promises.{Settled, Fulfilled, Rejected, register, settle}
use Rattle.esm_promise.specs.Reactions.{Loaded, Evaluated}
use Rattle.esm_loads.specs.Loading.{Loading, import_promise, root_of_load}
use Rattle.esm_world.specs.World.{World}
use Rattle.esm_world.specs.Jobs.{Reacts, link_failed, settle_promise, with_reaction}
use Rattle.esm_machine.specs.Represents.{TurnEnd}
use Rattle.esm_machine.specs.Inner.Parts.{AreInOrder, AreLive, MayDo, seen_in, settled_in, url_in, value_in, parts_with_promises}
use Rattle.esm_machine.specs.Machine.{held_of}
use Rattle.esm_machine.specs.Inner.Leads.{DoesJob, LinksAndEvaluates, MayTakeLoad, SettlesImport, TakesLoad}
use Rattle.esm_machine.specs.declared.linking.Linked.{Linked}
use Rattle.esm_machine.specs.declared.linking.Linked.TheVariants as outcomes
use Rattle.esm_machine.specs.declared.parts.Parts.{Parts}
use Rattle.esm_machine.proofs.EntryJobs.{loading_is}
use Rattle.esm_machine.proofs.InOrder.{with_promises_in_order}
use Rattle.esm_machine.proofs.Steps.{steps_are_of_the_world}

-- ---- what loading has of the load, in each world that the parts are in

-- the same in two of them
same_loading : (p : Parts) (w v : World) → AreLive p w → AreLive p v → w.loading ≡ v.loading
same_loading p w v live other = loading_is p w live ∙ sym (loading_is p v other)

promise_in : (p : Parts) (s promise : ℕ) (w : World) → AreLive p w → import_promise w.loading s ≡ Some promise → import_promise (seen_in p).loading s ≡ Some promise
promise_in p s promise w live e = ap (λ (l : Loading). import_promise l s) (sym (loading_is p w live)) ∙ e

has_promise : (p : Parts) (s promise : ℕ) (w : World) → AreLive p w → import_promise w.loading s ≡ Some promise → is_some (import_promise (seen_in p).loading s) ≡ true
has_promise p s promise w live e = ap (λ o. is_some o) (promise_in p s promise w live e)

pub refused_has_promise : (p : Parts) (s : ℕ) (v : Value ℕ) → MayDo p (Loaded s) (Rejected v) → is_some (import_promise (seen_in p).loading s) ≡ true
refused_has_promise p s v m = has_promise p s m.may.told.0 m.world m.live m.may.told.1

pub evaluated_has_promise : (p : Parts) (s : ℕ) (how : Settled (Value ℕ)) → MayDo p (Evaluated s) how → is_some (import_promise (seen_in p).loading s) ≡ true
evaluated_has_promise p s how m = has_promise p s m.may.told.0 m.world m.live m.may.told.2

pub load_complete : (p : Parts) (s : ℕ) (v : Value ℕ) → MayDo p (Loaded s) (Fulfilled v) → is_some (root_of_load (seen_in p).loading s) ≡ true
load_complete p s v m =
    ap (λ (l : Loading). is_some (root_of_load l s)) (sym (loading_is p m.world m.live)) ∙ ap (λ o. is_some o) m.may.told.3

pub evaluated_complete : (p : Parts) (s : ℕ) (how : Settled (Value ℕ)) → MayDo p (Evaluated s) how → is_some (root_of_load (seen_in p).loading s) ≡ true
evaluated_complete p s how m =
    ap (λ (l : Loading). is_some (root_of_load l s)) (sym (loading_is p m.world m.live)) ∙ ap (λ o. is_some o) m.may.told.3

-- ---- the promise of the import() is settled

import_settled : (p new : Parts) (s promise : ℕ) (how : Settled (Value ℕ)) (w : World) → AreLive p w → SettlesImport p s how new
    → import_promise w.loading s ≡ Some promise → AreLive new (settle_promise w promise (settled_in p how))
import_settled p new s promise how w live says e =
    subst (λ q. AreLive q (settle_promise w promise (settled_in p how))) (sym (says promise (promise_in p s promise w live e))) (steps_are_of_the_world.settles (held_of p) w promise how live)

pub settled_in_order : (p new : Parts) (s promise : ℕ) (how : Settled (Value ℕ)) → AreInOrder p → SettlesImport p s how new
    → import_promise (seen_in p).loading s ≡ Some promise → AreInOrder new
settled_in_order p new s promise how o says e = subst AreInOrder (sym (says promise e)) (with_promises_in_order p o (settle p.host.promises promise how))

module _ (p new : Parts) (s : ℕ) where
  pub load_refused : (v : Value ℕ) → MayDo p (Loaded s) (Rejected v) → SettlesImport p s (Rejected v) new → DoesJob p (Loaded s) (Rejected v) (Ok tt) new
  load_refused v m says = λ w live.
      let promise : ℕ = m.may.told.0 in
      let e : import_promise w.loading s ≡ Some promise = ap (λ (l : Loading). import_promise l s) (same_loading p w m.world live m.live) ∙ m.may.told.1 in
      (settle_promise w promise (Rejected (value_in p v)), Reacts.refused promise e, import_settled p new s promise (Rejected v) w live says e)

  pub load_threw : (v : Value ℕ) → MayDo p (Evaluated s) (Rejected v) → SettlesImport p s (Rejected v) new → DoesJob p (Evaluated s) (Rejected v) (Ok tt) new
  load_threw v m says = λ w live.
      let promise : ℕ = m.may.told.0 in
      let e : import_promise w.loading s ≡ Some promise = ap (λ (l : Loading). import_promise l s) (same_loading p w m.world live m.live) ∙ m.may.told.2 in
      (settle_promise w promise (Rejected (value_in p v)), Reacts.threw promise e, import_settled p new s promise (Rejected v) w live says e)

  -- the root that the code has found
  pub load_evaluated : (v : Value ℕ) (root : ModuleId) → MayDo p (Evaluated s) (Fulfilled v) → root_of_load (seen_in p).loading s ≡ Some (url_in p root.0)
      → SettlesImport p s (Fulfilled (Namespace root.0)) new → DoesJob p (Evaluated s) (Fulfilled v) (Ok tt) new
  load_evaluated v root m found says = λ w live.
      let promise : ℕ = m.may.told.0 in
      let e : import_promise w.loading s ≡ Some promise = ap (λ (l : Loading). import_promise l s) (same_loading p w m.world live m.live) ∙ m.may.told.2 in
      let r : root_of_load w.loading s ≡ Some (url_in p root.0) = ap (λ (l : Loading). root_of_load l s) (loading_is p w live) ∙ found in
      (settle_promise w promise (Fulfilled (Namespace (url_in p root.0))), Reacts.evaluated promise (url_in p root.0) e r, import_settled p new s promise (Fulfilled (Namespace root.0)) w live says e)

  pub load_settled_in_order : (how told : Settled (Value ℕ)) → MayDo p (Evaluated s) told → SettlesImport p s how new → AreInOrder new
  load_settled_in_order how told m says = settled_in_order p new s m.may.told.0 how m.order says (promise_in p s m.may.told.0 m.world m.live m.may.told.2)

  pub load_refused_in_order : (v : Value ℕ) → MayDo p (Loaded s) (Rejected v) → SettlesImport p s (Rejected v) new → AreInOrder new
  load_refused_in_order v m says = settled_in_order p new s m.may.told.0 (Rejected v) m.order says (promise_in p s m.may.told.0 m.world m.live m.may.told.1)

-- ---- the root is linked and evaluated

registered : (p new : Parts) (promise : PromiseId) (s : ℕ) (w : World) → AreLive p w → new ≡ parts_with_promises p (register p.host.promises promise.0 (Evaluated s))
    → AreLive new (with_reaction w promise.0 (Evaluated s))
registered p new promise s w live e =
    subst (λ q. AreLive q (with_reaction w promise.0 (Evaluated s))) (sym e) (steps_are_of_the_world.registers (held_of p) w promise.0 (Evaluated s) live)

module _ (p mid : Parts) (s : ℕ) (v : Value ℕ) (m : MayDo p (Loaded s) (Fulfilled v)) where
  -- the promise of the import(), in each world
  promise_of : (w : World) → AreLive p w → import_promise w.loading s ≡ Some m.may.told.0
  promise_of w live = ap (λ (l : Loading). import_promise l s) (same_loading p w m.world live m.live) ∙ m.may.told.2

  pub load_may : (linked : Linked) → ((w : World) → AreLive p w → LinksAndEvaluates w s (Ok linked) mid) → MayTakeLoad mid s linked
  load_may (outcomes.Evaluates promise) comes = tt
  load_may (outcomes.Fault u) comes =
      let c = comes m.world m.live in
      has_promise mid s m.may.told.0 (link_failed m.world c.1 c.2) c.5 m.may.told.2

  -- whatever value its promise was fulfilled with
  pub load_goes_on : (u : Value ℕ) (new : Parts) (linked : Linked) (result : Result (Unit {0}) TurnEnd)
      → ((w : World) → AreLive p w → LinksAndEvaluates w s (Ok linked) mid) → TakesLoad mid s linked result new → DoesJob p (Loaded s) (Fulfilled u) result new
  load_goes_on x new (outcomes.Evaluates promise) (Ok done) comes e = λ w live.
      let c = comes w live in
      (with_reaction c.0 promise.0 (Evaluated s), Reacts.linked c.1, registered mid new promise s c.0 c.2 e)
  load_goes_on x new (outcomes.Evaluates promise) (Err (ends.Fault limit)) comes e = absurd e
  load_goes_on x new (outcomes.Evaluates promise) (Err ends.Memory) comes e = λ w live. tt
  load_goes_on x new (outcomes.Fault u) (Ok done) comes e = λ w live.
      let c = comes w live in
      let failed : World = link_failed w c.1 c.2 in
      let promise : ℕ = m.may.told.0 in
      let there : Reacts w (Loaded s) (Fulfilled (value_in p x)) (settle_promise failed promise (Rejected (value_in mid (value_of u)))) =
      subst (λ y. Reacts w (Loaded s) (Fulfilled (value_in p x)) (settle_promise failed promise (Rejected y))) (sym c.4) (Reacts.fault promise c.0 c.1 c.2 (promise_of w live) c.3) in
      (settle_promise failed promise (Rejected (value_in mid (value_of u))), there, import_settled mid new s promise (Rejected (value_of u)) failed c.5 e (promise_of w live))
  load_goes_on x new (outcomes.Fault u) (Err end) comes e = absurd e

  pub load_stops : (u : Value ℕ) (end : TurnEnd) → ((w : World) → AreLive p w → LinksAndEvaluates w s (Err end) mid) → DoesJob p (Loaded s) (Fulfilled u) (Err end) mid
  load_stops x (ends.Fault limit) comes = λ w live.
      let c = comes w live in
      (c.0, Reacts.linked c.1, c.2)
  load_stops x ends.Memory comes = λ w live. tt

  pub load_in_order : (new : Parts) (linked : Linked) (result : Result (Unit {0}) TurnEnd)
      → ((w : World) → AreLive p w → LinksAndEvaluates w s (Ok linked) mid) → AreInOrder mid → TakesLoad mid s linked result new → OnOk result (AreInOrder new)
  load_in_order new (outcomes.Evaluates promise) (Ok done) comes o e =
      subst AreInOrder (sym e) (with_promises_in_order mid o (register mid.host.promises promise.0 (Evaluated s)))
  load_in_order new (outcomes.Evaluates promise) (Err end) comes o e = tt
  load_in_order new (outcomes.Fault u) (Ok done) comes o e =
      let c = comes m.world m.live in
      settled_in_order mid new s m.may.told.0 (Rejected (value_of u)) o e (promise_in mid s m.may.told.0 (link_failed m.world c.1 c.2) c.5 m.may.told.2)
  load_in_order new (outcomes.Fault u) (Err end) comes o e = tt

-- ---- the promise that the code has found

one_promise : (id promise : ℕ) → ◌≡◌ {A = Option ℕ} (Some id) (Some promise) → id ≡ promise
one_promise id promise e = cc

pub settles_import : (p : Parts) (s id : ℕ) (how : Settled (Value ℕ)) (ps : Numbered) → import_promise (seen_in p).loading s ≡ Some id
    → ps ≡ settle p.host.promises id how → SettlesImport p s how (parts_with_promises p ps)
settles_import p s id how ps at same promise e =
    ap (λ qs. parts_with_promises p qs) (same ∙ ap (λ i. settle p.host.promises i how) (one_promise id promise (sym at ∙ e)))
