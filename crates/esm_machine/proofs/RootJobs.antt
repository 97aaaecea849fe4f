-- The root of a load is linked, and evaluated where it has no fault.
use Rattle.std.proofs.Common.{◌≡◌, ℕ, List, Option, Some, None, refl, ap, subst, sym, ◌∙◌}
use Rattle.std.specs.Prelude.{Result, Ok, Err}
use Rattle.esm_base.specs.declared.end.End.TheVariants as ends
use Rattle.esm_base.specs.declared.limits.Limit.{Limit}
use Rattle.esm_base.specs.Urls.{Url}
use Rattle.esm_values.specs.Numbering.{numbering}
use Rattle.esm_values.specs.declared.value.PromiseId.{PromiseId}
use Rattle.esm_values.specs.declared.value.Value.{Value}
use Rattle.esm_loads.specs.Loading.{Loading, root_of_load}
use Rattle.esm_eval.specs.Evaluate.{Evaluates}
use Rattle.esm_world.specs.Jobs.{EvaluatesLoad, LinksLoad}
use Rattle.esm_world.specs.Layers.{CallsForBody, evaluation, with_linked}
use Rattle.esm_world.specs.World.{World}
use Rattle.esm_machine.specs.Represents.{TurnEnd}
use Rattle.esm_machine.specs.Inner.Leads.{EvaluatesModule, EvaluatesUnless, LinksAndEvaluates, LinksRoot}
use Rattle.esm_machine.specs.Inner.Parts.{AreLive, seen_in, url_in}
use Rattle.esm_machine.specs.declared.linking.Linked.{Linked}
use Rattle.esm_machine.specs.declared.linking.Linked.TheVariants as outcomes
use Rattle.esm_machine.specs.declared.parts.Parts.{Parts}
use Rattle.esm_machine.proofs.EntryJobs.{loading_is}

-- linking had a fault: nothing is evaluated
pub given_fault : (p : Parts) (root : ℕ) (error : Option Value) (v : Value) → error ≡ Some v → EvaluatesUnless p root error (Ok (outcomes.Fault v)) p
given_fault p root error v e = subst (λ o. EvaluatesUnless p root o (Ok (outcomes.Fault v)) p) (sym e) (refl, refl)

pub no_fault : (p new : Parts) (root : ℕ) (error : Option Value) (promise : PromiseId) → error ≡ None
    → ((w : World) → AreLive p w → EvaluatesModule w (url_in p root) (Ok promise) new) → EvaluatesUnless p root error (Ok (outcomes.Evaluates promise)) new
no_fault p new root error promise e h = subst (λ o. EvaluatesUnless p root o (Ok (outcomes.Evaluates promise)) new) (sym e) h

pub no_fault_stops : (p new : Parts) (root : ℕ) (error : Option Value) (end : TurnEnd) → error ≡ None
    → ((w : World) → AreLive p w → EvaluatesModule w (url_in p root) (Err end) new) → EvaluatesUnless p root error (Err end) new
no_fault_stops p new root error end e h = subst (λ o. EvaluatesUnless p root o (Err end) new) (sym e) h

module _ (p mid new : Parts) (load root : ℕ) (found : root_of_load (seen_in p).loading load ≡ Some (url_in p root))
    (urls : (seen_in mid).urls ≡ (seen_in p).urls) where
  found_in : (w : World) → AreLive p w → root_of_load w.loading load ≡ Some (url_in p root)
  found_in w live = ap (λ (l : Loading). root_of_load l load) (loading_is p w live) ∙ found

  -- linking leaves the root's URL
  name_still : url_in mid root ≡ url_in p root
  name_still = ap (λ (us : List Url). (numbering us).name root) urls

  -- it was evaluated in the world in which it was linked
  evaluated : (w late : World) (after : List Url) (answer : Result ℕ Limit) → LinksLoad w load (url_in p root) None after
      → Evaluates evaluation CallsForBody (with_linked w after) (url_in mid root) answer late → EvaluatesLoad w load answer late
  evaluated w late after answer l e = record {
    root = url_in p root;
    linked = after;
    links = l;
    evaluates = subst (λ u. Evaluates evaluation CallsForBody (with_linked w after) u answer late) name_still e;
  }

  pub comes : (error : Option Value) (result : Result Linked TurnEnd) → ((w : World) → AreLive p w → LinksRoot w (url_in p root) error mid)
      → EvaluatesUnless mid root error result new → (w : World) → AreLive p w → LinksAndEvaluates w load result new
  comes (Some v) result links e w live =
      let l = links w live in
      subst (λ r. LinksAndEvaluates w load r new) (sym e.0)
      (subst (λ q. LinksAndEvaluates w load (Ok (outcomes.Fault v)) q) (sym e.1)
      (url_in p root, l.0, l.1, record { is_root = found_in w live; links = l.2 }, l.3, l.4))
  comes None (Ok (outcomes.Evaluates promise)) links e w live =
      let l = links w live in
      let k = e (with_linked w l.0) l.2 in
      (k.0, evaluated w k.0 l.0 (Ok promise.0) (record { is_root = found_in w live; links = l.1 }) k.1, k.2)
  comes None (Ok (outcomes.Fault v)) links e w live = absurd e
  comes None (Err (ends.Fault limit)) links e w live =
      let l = links w live in
      let k = e (with_linked w l.0) l.2 in
      (k.0, evaluated w k.0 l.0 (Err limit) (record { is_root = found_in w live; links = l.1 }) k.1, k.2)
  comes None (Err ends.Memory) links e w live = tt
