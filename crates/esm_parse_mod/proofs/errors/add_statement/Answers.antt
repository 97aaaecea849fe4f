use Rattle.std.proofs.Common.{◌≡◌, ◌∙◌, ◌++◌, sym, ap, subst}
use Rattle.std.specs.Result.{OnOk}
use Rattle.esm_grammar.specs.EarlyErrors.{statement_exported}
use Rattle.esm_parse_mod.specs.Inner.Names.{texts}
use Rattle.esm_parse_mod.proofs.EarlyLemmas.{not_default}
use Rattle.esm_parse_mod.proofs.errors.add_statement.Goals as goal

pub returns-in-Default : goal.returns-in-Default
unfolding statement_exported
returns-in-Default c = rw (c.stmt.ensures.node, c.in-Default.is) c.add_one.ensures

pub returns-in_default : goal.returns-in_default
returns-in_default c =
    let names = ap statement_exported c.stmt.ensures.node ∙ not_default _ _ _ c.in_default.not-Default in
    let own = rw c.stmt.ensures.node at c.add_declared.ensures in
    subst (λ t. OnOk c.add_declared.result (texts c.add_declared.new.names.items ≡ texts c.args.names.now.items ++ t)) (sym names) own
