use Rattle.esm_env.specs.Placed.{names_of}
use Rattle.esm_rows.specs.Rows.{function_row}
use Rattle.esm_rows.proofs.Owned.{same}
use Rattle.esm_rows.proofs.owns.own_row.Goals as goal

pub returns : goal.returns
returns c = λ f row.
    let owns = names_of c.args.scope.now in
    let texts = c.args.row.texts.items in
    let ops = c.args.row.ops.items in
    let owned = rw c.as_slice.ensures.value at c.own_ops.ensures in
    record {
      told = owned (function_row f) (same owns texts ops (function_row f) row.told);
      given = row.given;
      declares = row.declares;
    }
