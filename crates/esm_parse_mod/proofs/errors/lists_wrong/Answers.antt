use Rattle.std.proofs.Common.{sym, ap}
use Rattle.std.specs.List.{list_any}
use Rattle.esm_grammar.specs.EarlyErrors.{listed_of}
use Rattle.esm_parse_mod.specs.Inner.Names.{is_unlisted, held}
use Rattle.esm_parse_mod.proofs.EarlyLemmas.{none_listed}
use Rattle.esm_parse_mod.proofs.errors.lists_wrong.Goals as goal

pub returns-in-ExportList : goal.returns-in-ExportList
unfolding listed_of
returns-in-ExportList c stmts = let one = rw (c.deref-in-ExportList.ensures.value, c.deref.ensures) at c.any_undeclared.ensures in rw c.in-ExportList.is one

pub returns-in_default : goal.returns-in_default
returns-in_default c stmts = sym (ap (list_any (is_unlisted (held c.args.declared.now))) (none_listed stmts c.args.item.now c.in_default.not-ExportList))
