use Rattle.esm_parse_mod.proofs.module.derived.Goals as goal

pub returns-in-Ok : goal.returns-in-Ok
returns-in-Ok c = c.tree_of.ensures c.args.bytes.now c.if-bytes-gt-MAX_FILE_BYTES.false c.in-Ok.ensures
