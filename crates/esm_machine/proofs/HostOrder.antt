-- Behind evaluation the parts of a machine are in order still.
use Rattle.std.proofs.Common.{◌≡◌, ℕ, length, refl, ap, subst, sym, ◌∙◌}
use Rattle.std.specs.Prelude.{Result}
use Rattle.esm_base.specs.declared.limits.Limit.{Limit}
use Rattle.esm_base.specs.Lists.{EachOnce}
use Rattle.esm_base.specs.Urls.{same_url}
use Rattle.esm_values.specs.Value.{Value}
use Rattle.esm_eval.specs.Begins.{HaveBegunOnce}
use Rattle.esm_eval.specs.BodyEnd.{Fulfills, Rejects}
use Rattle.esm_eval.specs.Evaluate.{Evaluates}
use Rattle.esm_eval.specs.Host.{HostFits, calls, outside}
use Rattle.esm_eval.specs.Table.{size}
use Rattle.esm_eval.specs.declared.host.EvalHost.{EvalHost}
use Rattle.esm_world.proofs.EvalKeeps.{Lasts, evaluates_keeps, fulfills_keeps, rejects_keeps}
use Rattle.esm_machine.specs.Inner.HostLaws.{SameModules, calls_leave}
use Rattle.esm_machine.specs.Inner.Parts.{AreInOrder, ByIds, CallsBodies, FitsBodies, KnowsBy, linked_by}
use Rattle.esm_machine.specs.Machine.{seen_by}
use Rattle.esm_machine.specs.declared.host.BodyHost.{BodyHost}
use Rattle.esm_machine.specs.declared.parts.Parts.{Parts}
use Rattle.esm_machine.proofs.BodyEnds.{with_host}
use Rattle.esm_machine.proofs.Whole.{linked_have_ids}

-- ---- the same modules have records

abbrev ModulesStay : EvalHost BodyHost → EvalHost BodyHost → Type 0
ModulesStay v w = SameModules (seen_by v.bodies) (seen_by w.bodies)

stays : (v w : EvalHost BodyHost) → seen_by w.bodies ≡ seen_by v.bodies → ModulesStay v w
stays v w e = record { urls = ap (λ s. s.urls) e; linked_are = ap (λ s. s.linked) e; table = ap (λ s. s.loading.entries) e }

modules_last : Lasts ByIds (calls CallsBodies) ModulesStay
modules_last = record {
  same = λ w. stays w w refl;
  on = λ p q. record { urls = q.urls ∙ p.urls; linked_are = q.linked_are ∙ p.linked_are; table = q.table ∙ p.table };
  put = λ w x n. stays w (ByIds.put w x n) refl;
  stamp = λ w x. stays w (ByIds.add_stamp w x) refl;
  make = λ w. stays w (ByIds.make_promise w) refl;
  make_body = λ w x. stays w (ByIds.make_body_promise w x) refl;
  fulfill = λ w p. stays w (ByIds.fulfill w p) refl;
  reject = λ w p v. stays w (ByIds.reject w p v) refl;
  call = λ {v} {w} {c} {r} a. calls_leave (outside v) (outside w) c r a.1;
}

-- ---- order

module _ (p : Parts) (h : EvalHost BodyHost) (o : AreInOrder p) (nodes : size h.nodes ≡ size p.host.nodes) (between : HaveBegunOnce ByIds h)
    (fits : HostFits FitsBodies linked_by KnowsBy h) where
  order_behind : ModulesStay p.host h → AreInOrder (with_host p h)
  order_behind same = record {
    whole = fits.outside_fits.whole;
    nodes = nodes ∙ o.nodes ∙ ap length (sym same.urls);
    ids = record { apart = subst (λ us. EachOnce same_url us) (sym same.urls) o.ids.apart; have_ids = linked_have_ids h.bodies.imports };
    scopes = fits.outside_fits.scopes;
    standing = fits.outside_fits.ready.standing;
    between = between;
  }

  pub evaluated_in_order : (m : ℕ) (answer : Result ℕ Limit) → Evaluates ByIds (calls CallsBodies) p.host m answer h → AreInOrder (with_host p h)
  evaluated_in_order m answer e = order_behind (evaluates_keeps ByIds (calls CallsBodies) ModulesStay modules_last p.host m e)

  pub fulfilled_in_order : (m : ℕ) (end : Result (Unit {0}) Limit) → Fulfills ByIds (calls CallsBodies) p.host m end h → AreInOrder (with_host p h)
  fulfilled_in_order m end f = order_behind (fulfills_keeps ByIds (calls CallsBodies) ModulesStay modules_last f)

  pub rejected_in_order : (m : ℕ) (v : Value ℕ) → Rejects ByIds p.host m v h → AreInOrder (with_host p h)
  rejected_in_order m v r = order_behind (rejects_keeps ByIds (calls CallsBodies) ModulesStay modules_last r)
