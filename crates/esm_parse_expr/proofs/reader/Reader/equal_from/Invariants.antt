use Rattle.std.proofs.Common.{◌≡◌, ◌<◌, length, ◌-◌}
use Rattle.esm_tree.specs.Flat.{AllComparedBelow, part, compared_parts}
use Rattle.esm_grammar.specs.Reading as read
use Rattle.esm_parse_expr.specs.Outcome.{Grows}
use Rattle.esm_parse_expr.specs.Inner.Operators.{compared_with}
use Rattle.esm_parse_expr.proofs.Compared.{gathered}
use Rattle.esm_parse_expr.proofs.reader.Reader.equal_from.Given as goal

abbrev pub invariant-turns : goal.invariant-turns
invariant-turns g l =
    let ts = l.tokens in
    let room = l.self.room in
    let whole = read.expr ts room in
    record {
      grows : Grows l.fn.tree l.tree;
      first : l.first.0 < length l.tree.exprs;
      below : AllComparedBelow (length l.tree.exprs) l.others.items;
      same : compared_with (part l.fn.tree.exprs l.fn.first) (read.comparisons ts (read.sum ts whole room) room l.fn.at) ≡ gathered (part l.tree.exprs l.first) (compared_parts l.tree.exprs l.others.items) (read.comparisons ts (read.sum ts whole room) (room - l._turn) l.next);
    }
