use Rattle.std.proofs.Common.{◌∙◌, ◌++◌, arith, sym, ap, append-nil}
use Rattle.esm_grammar.specs.EarlyErrors.{declared_of}
use Rattle.esm_parse_mod.specs.Inner.Names.{texts}
use Rattle.esm_parse_mod.proofs.EarlyLemmas.{none_declared}
use Rattle.esm_parse_mod.proofs.errors.add_item_names.Goals as goal

pub returns-in-Import : goal.returns-in-Import
unfolding declared_of
returns-in-Import c = let one = rw (c.deref-in-Import.ensures.value, c.deref.ensures) at c.add_locals.ensures in rw c.in-Import.is one

pub add_declared-requires : goal.add_declared-requires
add_declared-requires c = let need = rw c.in-ExportStatement.is at c.requires in omega (arith, need)

pub returns-in-ExportStatement : goal.returns-in-ExportStatement
unfolding declared_of
returns-in-ExportStatement c = rw c.in-ExportStatement.is c.add_declared.ensures

pub add_declared-requires-in-Statement : goal.add_declared-requires-in-Statement
add_declared-requires-in-Statement c = let need = rw c.in-Statement.is at c.requires in omega (arith, need)

pub returns-in-Statement : goal.returns-in-Statement
unfolding declared_of
returns-in-Statement c = rw c.in-Statement.is c.add_declared-in-Statement.ensures

pub returns-in-ExportFunction : goal.returns-in-ExportFunction
unfolding declared_of
returns-in-ExportFunction c = let one = rw (c.as_str.ensures.value, c.deref-in-ExportFunction.ensures) at c.add_one.ensures in rw c.in-ExportFunction.is one

pub returns-in-ExportDefaultFunction : goal.returns-in-ExportDefaultFunction
unfolding declared_of
returns-in-ExportDefaultFunction c = let one = rw c.deref-in-ExportDefaultFunction.ensures at c.add_given.ensures in rw c.in-ExportDefaultFunction.is one

pub returns-in-Function : goal.returns-in-Function
unfolding declared_of
returns-in-Function c = let one = rw (c.as_str-in-Function.ensures.value, c.deref-in-Function.ensures) at c.add_one-in-Function.ensures in rw c.in-Function.is one

pub returns-in_default : goal.returns-in_default
returns-in_default c =
    let d = c.in_default in
    sym (append-nil _) ∙ ap (λ t. texts c.args.names.now.items ++ t) (sym (none_declared _ _ d.not-Import d.not-ExportStatement d.not-Statement d.not-ExportFunction d.not-ExportDefaultFunction d.not-Function))
