use Rattle.std.proofs.Common.{Some, ap, sym, take, ◌∙◌}
use Rattle.esm_specifier.proofs.Usable.{whole_key, follow_whole}
use Rattle.esm_specifier.proofs.resolving.follow.Goals as goal

pub returns-then-key_len-normal : goal.returns-then-key_len-normal
returns-then-key_len-normal c =
    let is = c.in-Some.is ∙ ap Some (sym c.url-address.ensures) in
    follow_whole c.usable.result c.args.normal.now (take c.args.key_len c.args.normal.now) c.args.address.now c.url-address.result.now is (whole_key c.args.key_len c.args.normal.now c.if-key_len-normal.true) c.usable.ensures
