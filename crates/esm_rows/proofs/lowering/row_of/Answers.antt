use Rattle.std.proofs.Common.{[], ◌∷◌, ◌++◌, length, subst, ap, ◌∙◌, arith, length-append}
use Rattle.std.specs.Prelude.{map}
use Rattle.std.proofs.lemmas.List.{length-map}
use Rattle.esm_tree.specs.Flat.{stmt_parts}
use Rattle.esm_env.specs.Declarations.{declared_in}
use Rattle.esm_rows.specs.Rows.{Operation as o}
use Rattle.esm_rows.specs.Rows.{parameter, stmts_row}
use Rattle.esm_rows.specs.Locals.{declared}
use Rattle.esm_rows.specs.Making.{AreTold}
use Rattle.esm_rows.proofs.lowering.row_of.Goals as goal

pub returns : goal.returns
returns c = λ name.
    let body = stmt_parts c.args.tree.now.stmts c.args.body.now in
    let first = rw c.new-list.ensures.items at c.in_ok-add_parameters.ensures in
    let names = ap declared c.in_ok-names.ensures ∙ c.in_ok-add_names.ensures ∙ ap (λ ds. ds ++ declared_in body) first in
    let all = c.in_ok-all.ensures ∙ ap length names in
    let both = length-append (map parameter c.args.parameters.now) (declared_in body) in
    let many = length-map c.args.parameters.now parameter in
    let given = c.in_ok-given.ensures in
    let own = c.in_ok-own.ensures in
    record {
      told = subst (λ ds. AreTold [] c.in_ok-draft.draft.texts.items c.in_ok-draft.draft.ops.items (stmts_row (ds ∷ []) body (o.End ∷ []))) names c.in_ok-draft.ensures;
      given = given;
      declares = omega (arith, all, both, many, given, own);
    }
