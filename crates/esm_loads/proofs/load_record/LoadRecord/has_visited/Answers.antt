-- Past all flags nothing was visited.
use Rattle.std.proofs.Common.{◌≡◌, ◌<◌, ◌≤◌, sym, ◌∙◌, ap, arith, length, false, nat_lt, nat_eq}
use Rattle.std.specs.List.{list_any}
use Rattle.esm_loads.specs.LoadsView.{LoadView}
use Rattle.esm_loads.proofs.Flags.{none_past}
use Rattle.esm_loads.proofs.load_record.LoadRecord.has_visited.Goals as goal

pub returns-else-place-len : goal.returns-else-place-len
returns-else-place-len c =
    let some : 0 < length c.self.inside.flags.items = grind (arith, c.if-is_empty.false, c.if-is_empty.ensures) in
    let past : length c.self.inside.flags.items ≤ c.args.id = omega (arith, c.if-place-len.false, c.len.ensures) in
    let off : nat_lt c.args.id c.len.result ≡ false = grind (arith, c.if-place-len.false) in
    off ∙ (sym (none_past c.args.id (length c.self.inside.flags.items) c.self.inside.visited.items past (c.self.invariant.right some).within) ∙ ap (λ (v : LoadView). list_any (nat_eq c.args.id) v.visited) c.self.view_is)
