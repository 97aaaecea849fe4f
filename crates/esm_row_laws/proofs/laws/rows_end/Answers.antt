use Rattle.esm_row_laws.specs.Spots.{names_of, left_row}
use Rattle.esm_row_laws.proofs.Ending as ending
use Rattle.esm_row_laws.proofs.laws.rows_end.Goals as goal

pub returns : goal.returns
returns c = record {
  expr = λ ns e c. ending.expr_ends ns e c;
  bindings = λ ns bs c. ending.bindings_end ns bs c;
  stmt = λ ns s c. ending.stmt_ends ns s c;
  stmts = λ ns ss c. ending.stmts_end ns ss c;
  or_else = λ e es k. ending.or_else e es k;
  and_also = λ e es k. ending.and_also e es k;
  choose = λ ss others l rs. ending.choose ss others l rs;
  leave = λ ds l rs s c at. ending.leave ds l rs s c at;
  end_try = λ caught handler l rs. ending.handled_ends caught handler (names_of rs) (left_row l rs);
  handler = λ ds caught handler ss l rs. ending.handler ds caught handler ss l rs;
}
