use Rattle.std.proofs.Common.{◌≡◌, ◌<◌, length, ◌-◌}
use Rattle.esm_tree.specs.Syntax.{Sum}
use Rattle.esm_tree.specs.Flat.{AllBelow, part, parts}
use Rattle.esm_tree.specs.declared.lexeme.Terminal.TheVariants as t
use Rattle.esm_grammar.specs.Reading as read
use Rattle.esm_parse_expr.specs.Outcome.{Grows}
use Rattle.esm_parse_expr.specs.Inner.Operators.{joined_with}
use Rattle.esm_parse_expr.proofs.Lists.{gathered}
use Rattle.esm_parse_expr.proofs.reader.Reader.sum_from.Given as goal

abbrev pub invariant-turns : goal.invariant-turns
invariant-turns g l =
    let ts = l.tokens in
    let room = l.self.room in
    let operand = read.unary ts (read.expr ts room) room room in
    record {
      grows : Grows l.fn.tree l.tree;
      first : l.first.0 < length l.tree.exprs;
      below : AllBelow (length l.tree.exprs) l.others.items;
      same : joined_with Sum (part l.fn.tree.exprs l.fn.first) (read.further ts t.Plus operand room l.fn.at) ≡ gathered Sum (part l.tree.exprs l.first) (parts l.tree.exprs l.others.items) (read.further ts t.Plus operand (room - l._turn) l.next);
    }
