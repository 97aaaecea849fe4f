use Rattle.esm_base.specs.DefaultExport.{or_star_default}
use Rattle.esm_rows.proofs.lowering.item_row.Goals as goal

pub returns-in-ExportFunction : goal.returns-in-ExportFunction
returns-in-ExportFunction c = rw c.in-ExportFunction.is (rw (c.as_slice.ensures.value, c.deref.ensures, c.as_slice-in-ExportFunction.ensures.value, c.deref-in-ExportFunction.ensures) at (c.function_row.ensures c.in-ExportFunction.node.value.name))

pub returns-in-ExportDefaultFunction : goal.returns-in-ExportDefaultFunction
returns-in-ExportDefaultFunction c = rw c.in-ExportDefaultFunction.is (rw (c.as_slice-in-ExportDefaultFunction.ensures.value, c.deref-in-ExportDefaultFunction.ensures, c.as_slice-in-ExportDefaultFunction-2.ensures.value, c.deref-in-ExportDefaultFunction-2.ensures) at (c.function_row-in-ExportDefaultFunction.ensures (or_star_default c.in-ExportDefaultFunction.node.value.name)))

pub returns-in-Function : goal.returns-in-Function
returns-in-Function c = rw c.in-Function.is (rw (c.as_slice-in-Function.ensures.value, c.deref-in-Function.ensures, c.as_slice-in-Function-2.ensures.value, c.deref-in-Function-2.ensures) at (c.function_row-in-Function.ensures c.in-Function.node.value.name))
