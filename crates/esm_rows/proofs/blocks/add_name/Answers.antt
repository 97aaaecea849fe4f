use Rattle.std.proofs.lemmas.List.{map-append}
use Rattle.esm_rows.specs.Locals.{declaration}
use Rattle.esm_rows.proofs.blocks.add_name.Goals as goal

pub returns : goal.returns
returns c = rw (c.in_ok-push.ensures.items, ← c.in_ok-name.ensures) (map-append declaration c.args.names.now.items _)
