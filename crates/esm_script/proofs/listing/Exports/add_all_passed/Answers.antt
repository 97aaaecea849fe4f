use Rattle.esm_ast.specs.Entries.{passed_on}
use Rattle.esm_script.proofs.Exported.{leads_next, leads_end, mapped_left, mapped_none}
use Rattle.esm_script.proofs.listing.Exports.add_all_passed.Goals as goal

pub loop-specifier-init : goal.loop-specifier-init
loop-specifier-init c = λ end h. h

pub loop-specifier-preserved : goal.loop-specifier-preserved
loop-specifier-preserved c =
    leads_next _ _ _ _ _ _ _ (mapped_left (passed_on c.args.request) _ c.loop-specifier.specifier-index c.specifier-item.result c.loop-specifier-test.true c.specifier-item.is) c.in_ok-add_passed.ensures c.loop-specifier.invariant

pub returns : goal.returns
returns c = leads_end _ _ _ _ (mapped_none (passed_on c.args.request) _ c.loop-specifier.specifier-index c.loop-specifier-test.false) c.loop-specifier.invariant
