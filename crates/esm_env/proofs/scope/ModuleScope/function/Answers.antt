use Rattle.std.proofs.Common.{◌<◌, length, arith}
use Rattle.std.specs.Arc.{arc_value}
use Rattle.esm_env.proofs.MakesLemmas.{need_at}
use Rattle.esm_env.proofs.FunctionLemmas.{function_none, function_below, function_found}
use Rattle.esm_env.proofs.scope.ModuleScope.function.Goals as goal

pub bounds-items-index : goal.bounds-items-index
bounds-items-index c =
    let s = c.args.self.now in
    let lt : c.args.index < length s.functions.items = rw (c.len.ensures, s.functions.ok.0) at c.if-index-len.true in
    rw c.index.ensures (function_below (arc_value s.tree) c.items.result.now s.functions.items (rw c.deref.ensures at c.items.ensures.items) s.functions_at c.args.index c.index.result.now lt)

pub offset_bounds-items-index : goal.offset_bounds-items-index
offset_bounds-items-index c =
    let s = c.args.self.now in
    let lt : c.args.index < length s.functions.items = rw (c.len.ensures, s.functions.ok.0) at c.if-index-len.true in
    let b : c.index.result.now < length c.items.result.now = rw c.index.ensures (function_below (arc_value s.tree) c.items.result.now s.functions.items (rw c.deref.ensures at c.items.ensures.items) s.functions_at c.args.index c.index.result.now lt) in
    let t = c.items.type_inv.1 in
    omega (arith, b, t)

pub returns-then-index-len : goal.returns-then-index-len
returns-then-index-len c =
    let s = c.args.self.now in
    let lt : c.args.index < length s.functions.items = rw (c.len.ensures, s.functions.ok.0) at c.if-index-len.true in
    let are = rw c.deref.ensures at c.items.ensures.items in
    let found = function_found (arc_value s.tree) c.items.result.now s.functions.items are s.functions_at c.args.index c.index.result.now c.index-items-index.result _ lt c.index.ensures c.index-items-index.is in
    let b : c.index.result.now < length c.items.result.now = rw c.index.ensures (function_below (arc_value s.tree) c.items.result.now s.functions.items are s.functions_at c.args.index c.index.result.now lt) in
    let need = rw (← c.index-items-index.is) at (need_at _ c.items.result.now c.index.result.now c.index-items-index.result (rw c.deref.ensures at c.items.ensures.below) b) in
    (found.0, found.1, found.2, need)

pub returns-else-index-len : goal.returns-else-index-len
returns-else-index-len c =
    let s = c.args.self.now in
    function_none (arc_value s.tree).items s.functions.items c.args.index s.functions_at (omega (arith, c.if-index-len.false, c.len.ensures, s.functions.ok.0))
