use Rattle.esm_rows.proofs.Made as made
use Rattle.esm_rows.proofs.laws.tasks_make.Goals as goal

pub returns : goal.returns
returns c = λ names exprs. record {
  more = λ ts t d. made.more names exprs ts t d;
  parts = λ ids d. made.parts names exprs ids d;
  ors = λ left ids d. made.ors names exprs left ids d;
  ands = λ left ids d. made.ands names exprs left ids d;
  sums = λ ids d. made.sums names exprs ids d;
  compared = λ cs d. made.compared names exprs cs d;
  both = λ ts us d. made.both names exprs ts us d;
}
