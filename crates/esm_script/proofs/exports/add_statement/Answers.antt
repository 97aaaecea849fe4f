use Rattle.std.proofs.Common.{◌∙◌, ap}
use Rattle.esm_grammar.specs.Names.{declared_names}
use Rattle.esm_ast.specs.Entries.{statement_exports}
use Rattle.esm_script.proofs.Exported.{adds_none, other_statement}
use Rattle.esm_script.proofs.exports.add_statement.Goals as goal

pub returns-in-Default : goal.returns-in-Default
unfolding statement_exports
returns-in-Default c = rw (c.stmt.ensures.node, c.in-Default.is) c.add_value.ensures

pub returns-in-Const : goal.returns-in-Const
unfolding statement_exports declared_names
returns-in-Const c = rw (c.stmt.ensures.node, c.in-Const.is) (rw c.deref.ensures.value at (c.add_bindings.ensures c.args.tree.now.exprs))

pub returns-in-Let : goal.returns-in-Let
unfolding statement_exports declared_names
returns-in-Let c = rw (c.stmt.ensures.node, c.in-Let.is) (rw c.deref-in-Let.ensures.value at (c.add_bindings-in-Let.ensures c.args.tree.now.exprs))

pub returns-in_default : goal.returns-in_default
returns-in_default c = let d = c.in_default in adds_none _ _ (ap statement_exports c.stmt.ensures.node ∙ other_statement _ _ _ d.not-Default d.not-Const d.not-Let)
