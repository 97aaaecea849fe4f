use Rattle.std.proofs.Common.{refl}
use Rattle.esm_env.specs.Placed.{names_of}
use Rattle.esm_rows.proofs.Owned.{replaced}
use Rattle.esm_rows.proofs.owns.own_at.Goals as goal

pub returns-clause-many : goal.returns-clause-many
returns-clause-many c = (replaced (names_of c.args.scope.now) c.args.texts.now c.args.ops.now.items _ c.args.at _ _ c.own_op-owned.result c.index.ensures c.own_op-owned.ensures c.requires refl).many

pub returns-clause-told : goal.returns-clause-told
returns-clause-told c = (replaced (names_of c.args.scope.now) c.args.texts.now c.args.ops.now.items _ c.args.at _ _ c.own_op-owned.result c.index.ensures c.own_op-owned.ensures c.requires refl).told
