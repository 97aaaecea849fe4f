use Rattle.std.proofs.Common.{◌∙◌, ◌++◌, arith, sym, ap, append-nil}
use Rattle.esm_grammar.specs.EarlyErrors.{exported_of}
use Rattle.esm_parse_mod.specs.Inner.Names.{texts}
use Rattle.esm_parse_mod.proofs.EarlyLemmas.{none_exported}
use Rattle.esm_parse_mod.proofs.errors.add_exported.Goals as goal

pub returns-in-ExportAllAs : goal.returns-in-ExportAllAs
unfolding exported_of
returns-in-ExportAllAs c = let one = rw (c.as_str.ensures.value, c.deref.ensures) at c.add_one.ensures in rw c.in-ExportAllAs.is one

pub returns-in-ExportFrom : goal.returns-in-ExportFrom
unfolding exported_of
returns-in-ExportFrom c = let one = rw (c.deref-in-ExportFrom-2.ensures.value, c.deref-in-ExportFrom.ensures) at c.add_listed.ensures in rw c.in-ExportFrom.is one

pub returns-in-ExportList : goal.returns-in-ExportList
unfolding exported_of
returns-in-ExportList c = let one = rw (c.deref-in-ExportList-2.ensures.value, c.deref-in-ExportList.ensures) at c.add_listed-in-ExportList.ensures in rw c.in-ExportList.is one

pub add_statement-requires : goal.add_statement-requires
add_statement-requires c = let need = rw c.in-ExportStatement.is at c.requires in omega (arith, need)

pub returns-in-ExportStatement : goal.returns-in-ExportStatement
unfolding exported_of
returns-in-ExportStatement c = rw c.in-ExportStatement.is c.add_statement.ensures

pub returns-in-ExportFunction : goal.returns-in-ExportFunction
unfolding exported_of
returns-in-ExportFunction c = let one = rw (c.as_str-in-ExportFunction.ensures.value, c.deref-in-ExportFunction.ensures) at c.add_one-in-ExportFunction.ensures in rw c.in-ExportFunction.is one

pub returns-in-ExportDefaultFunction : goal.returns-in-ExportDefaultFunction
unfolding exported_of
returns-in-ExportDefaultFunction c = rw c.in-ExportDefaultFunction.is c.add_one-in-ExportDefaultFunction.ensures

pub returns-in_default : goal.returns-in_default
returns-in_default c =
    let d = c.in_default in
    sym (append-nil _) ∙ ap (λ t. texts c.args.names.now.items ++ t) (sym (none_exported _ _ d.not-ExportAllAs d.not-ExportFrom d.not-ExportList d.not-ExportStatement d.not-ExportFunction d.not-ExportDefaultFunction))
