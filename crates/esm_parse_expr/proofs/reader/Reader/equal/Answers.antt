use Rattle.std.proofs.lemmas.Result.{err_from_is_err_and}
use Rattle.esm_grammar.specs.Reading as read
use Rattle.esm_parse_expr.proofs.OutcomeLemmas.{grows_none, refused, continued}
use Rattle.esm_parse_expr.proofs.Levels as level
use Rattle.esm_parse_expr.proofs.reader.Reader.equal.Goals as goal

pub returns-in_err-first : goal.returns-in_err-first
returns-in_err-first g c =
    let ts = c.args.tokens.now in
    let room = c.args.self.now.room in
    refused _ _ _ _ _ _ _ (grows_none _) c.in_err-first.ensures (err_from_is_err_and c.from_residual.result c.from_residual.ensures.1) (level.equal_gone ts (read.expr ts room) room c.args.at)

pub equal_from-requires : goal.equal_from-requires
equal_from-requires g c = record { nests = c.requires; first_below = c.in_ok-first.ensures.gives.0 }

pub returns : goal.returns
returns g c =
    let ts = c.args.tokens.now in
    let room = c.args.self.now.room in
    let one = c.in_ok-first.ensures in
    continued _ _ _ _ _ _ one.grows c.equal_from.ensures (level.equal_is ts (read.expr ts room) room c.args.at _ _ one.gives.1)
