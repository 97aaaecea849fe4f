use Rattle.std.proofs.Common.{[], ◌∷◌, ◌++◌, refl, ap, sym}
use Rattle.std.proofs.lemmas.List.{append-nil}
use Rattle.esm_tree.specs.Flat.{stmt_part, stmt_parts}
use Rattle.esm_env.specs.Declarations.{declares, declared_in}
use Rattle.esm_rows.proofs.Entered.{goes_at, ends}
use Rattle.esm_rows.proofs.blocks.add_names.Goals as goal

pub loop-id-preserved : goal.loop-id-preserved
loop-id-preserved c = goes_at (λ id. declared_in (stmt_parts c.args.tree.now.stmts (id ∷ []))) (λ ids. declared_in (stmt_parts c.args.tree.now.stmts ids)) c.args.ids.now (λ id ids. ap (λ ds. ds ++ declared_in (stmt_parts c.args.tree.now.stmts ids)) (sym (append-nil (declares (stmt_part c.args.tree.now.stmts id))))) c.loop-id.id-index _ _ _ _ c.loop-id-test.true c.in_ok-add_at.ensures c.loop-id.invariant

pub returns : goal.returns
returns c = ends (λ id. declared_in (stmt_parts c.args.tree.now.stmts (id ∷ []))) (λ ids. declared_in (stmt_parts c.args.tree.now.stmts ids)) c.args.ids.now refl c.loop-id.id-index _ _ c.loop-id-test.false c.loop-id.invariant
