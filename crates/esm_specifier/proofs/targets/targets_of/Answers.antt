use Rattle.std.proofs.Common.{ap, subst, sym, ◌∙◌, drop, ◌+◌}
use Rattle.esm_specifier.specs.Resolution.{resolution_of_specifier}
use Rattle.esm_specifier.proofs.Requests.{LeadsOn, refused_at, leads_begin, leads_more, leads_refused, leads_whole}
use Rattle.esm_specifier.proofs.targets.targets_of.Goals as goal

pub loop-specifier-init : goal.loop-specifier-init
loop-specifier-init c =
    let requests = c.args.requests.now in
    subst (LeadsOn c.args.map.now c.args.url.now requests requests) (sym c.new-found.ensures.items) (leads_begin c.args.map.now c.args.url.now requests)

pub loop-specifier-preserved : goal.loop-specifier-preserved
loop-specifier-preserved c =
    let maps = c.args.map.now in
    subst (LeadsOn maps c.args.url.now c.args.requests.now (drop (c.loop-specifier.specifier-index + 1) c.args.requests.now)) (sym c.in_ok-push-in-Ok.ensures.items)
    (leads_more _ _ _ _ _ c.specifier-item.result c.loop-specifier.invariant c.loop-specifier-test.true c.specifier-item.is c.in-Ok.target
    (ap (λ x. resolution_of_specifier maps x c.specifier-item.result) (sym c.as_str-referrer.ensures.value) ∙ ap (resolution_of_specifier maps c.as_str-referrer.result.now) (sym c.as_str.ensures.value) ∙ c.in-Ok.ensures.told))

pub returns-in-Err-Fault : goal.returns-in-Err-Fault
returns-in-Err-Fault c =
    let maps = c.args.map.now in
    ap (refused_at c.len.result) c.in-Err-Fault.fault-is
    ∙ ap (λ n. refused_at n c.in-Err-Fault.fault) (c.len.ensures ∙ c.loop-specifier.found.ok.0)
    ∙ leads_refused _ _ _ _ _ c.specifier-item.result c.loop-specifier.invariant c.loop-specifier-test.true c.specifier-item.is c.in-Err-Fault.fault
    (ap (λ x. resolution_of_specifier maps x c.specifier-item.result) (sym c.as_str-referrer.ensures.value) ∙ ap (resolution_of_specifier maps c.as_str-referrer.result.now) (sym c.as_str.ensures.value) ∙ (rw c.in-Err-Fault.field-0-is at c.in-Err-Fault.ensures.told))

pub returns : goal.returns
returns c = leads_whole _ _ _ _ _ c.loop-specifier.invariant c.loop-specifier-test.false
