use Rattle.std.proofs.Common.{ap, subst, ◌∙◌, ◌∷◌, []}
use Rattle.esm_ast.specs.Entries.{import_named, listed, listed_by}
use Rattle.esm_script.specs.Inner.{Adds}
use Rattle.esm_script.proofs.Exported.{leads_next, leads_end, mapped_left, mapped_none}
use Rattle.esm_script.proofs.listing.Exports.add_all_listed.Goals as goal

pub loop-specifier-init : goal.loop-specifier-init
loop-specifier-init c = λ imports is end h. h

pub loop-specifier-preserved : goal.loop-specifier-preserved
unfolding listed
loop-specifier-preserved c = λ imports is.
    let s = c.specifier-item.result in
    let found = c.find-found.ensures imports is ∙ ap (import_named imports) c.as_str.ensures.value in
    let one = subst (λ o. Adds c.loop-specifier.self c.add_found.new.self (listed_by s.exported s.first o ∷ [])) found c.in_ok-add_found.ensures in
    leads_next _ _ _ _ _ _ _ (mapped_left (listed imports) _ c.loop-specifier.specifier-index s c.loop-specifier-test.true c.specifier-item.is) one (c.loop-specifier.invariant imports is)

pub returns : goal.returns
returns c = λ imports is. leads_end _ _ _ _ (mapped_none (listed imports) _ c.loop-specifier.specifier-index c.loop-specifier-test.false) (c.loop-specifier.invariant imports is)
