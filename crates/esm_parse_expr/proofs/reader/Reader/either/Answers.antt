use Rattle.std.proofs.Common.{sym, ◌∙◌}
use Rattle.std.proofs.lemmas.Result.{err_from_is_err_and}
use Rattle.esm_grammar.specs.Reading as read
use Rattle.esm_parse_expr.proofs.OutcomeLemmas.{grows_none, grows_then, refused, continued}
use Rattle.esm_parse_expr.proofs.Levels as level
use Rattle.esm_parse_expr.proofs.reader.Reader.either.Goals as goal

pub returns-in_err-first : goal.returns-in_err-first
returns-in_err-first g c =
    let ts = c.args.tokens.now in
    let room = c.args.self.now.room in
    let whole = read.expr ts room in
    let at = c.args.at in
    refused _ _ _ _ _ _ _ (grows_none _) c.in_err-first.ensures (err_from_is_err_and c.from_residual.result c.from_residual.ensures.1)
    (λ no. level.either_gone ts whole room at (level.both_gone ts whole room at (level.equal_gone ts whole room at (level.sum_gone ts whole room at no))))

pub returns-then-not-is_operator : goal.returns-then-not-is_operator
returns-then-not-is_operator g c =
    let ts = c.args.tokens.now in
    let room = c.args.self.now.room in
    let one = c.in_ok-first.ensures in
    record { grows = one.grows; gives = (one.gives.0, level.alone ts (read.expr ts room) room c.args.at _ _ (sym c.is_operator.ensures ∙ c.if-not-is_operator.true) one.gives.1) }

pub sum_from-requires : goal.sum_from-requires
sum_from-requires g c = record { nests = c.requires; first_below = c.in_ok-first.ensures.gives.0 }

pub returns-in_err-summed : goal.returns-in_err-summed
returns-in_err-summed g c =
    let ts = c.args.tokens.now in
    let room = c.args.self.now.room in
    let whole = read.expr ts room in
    let at = c.args.at in
    let one = c.in_ok-first.ensures in
    refused _ _ _ _ _ _ _ one.grows c.in_err-summed.ensures (err_from_is_err_and c.from_residual-in_err-summed.result c.from_residual-in_err-summed.ensures.1)
    (λ no. level.either_gone ts whole room at (level.both_gone ts whole room at (level.equal_gone ts whole room at (level.sum_is ts whole room at _ _ one.gives.1 ∙ no))))

pub equal_from-requires : goal.equal_from-requires
equal_from-requires g c = record { nests = c.requires; first_below = c.in_ok-summed.ensures.gives.0 }

pub returns-in_err-compared : goal.returns-in_err-compared
returns-in_err-compared g c =
    let ts = c.args.tokens.now in
    let room = c.args.self.now.room in
    let whole = read.expr ts room in
    let at = c.args.at in
    let one = c.in_ok-first.ensures in
    let two = c.in_ok-summed.ensures in
    let summed = level.sum_is ts whole room at _ _ one.gives.1 ∙ two.gives.1 in
    refused _ _ _ _ _ _ _ (grows_then _ _ _ one.grows two.grows) c.in_err-compared.ensures (err_from_is_err_and c.from_residual-in_err-compared.result c.from_residual-in_err-compared.ensures.1)
    (λ no. level.either_gone ts whole room at (level.both_gone ts whole room at (level.equal_is ts whole room at _ _ summed ∙ no)))

pub both_from-requires : goal.both_from-requires
both_from-requires g c = record { nests = c.requires; first_below = c.in_ok-compared.ensures.gives.0 }

pub returns-in_err-joined : goal.returns-in_err-joined
returns-in_err-joined g c =
    let ts = c.args.tokens.now in
    let room = c.args.self.now.room in
    let whole = read.expr ts room in
    let at = c.args.at in
    let one = c.in_ok-first.ensures in
    let two = c.in_ok-summed.ensures in
    let three = c.in_ok-compared.ensures in
    let summed = level.sum_is ts whole room at _ _ one.gives.1 ∙ two.gives.1 in
    let equal = level.equal_is ts whole room at _ _ summed ∙ three.gives.1 in
    refused _ _ _ _ _ _ _ (grows_then _ _ _ (grows_then _ _ _ one.grows two.grows) three.grows) c.in_err-joined.ensures (err_from_is_err_and c.from_residual-in_err-joined.result c.from_residual-in_err-joined.ensures.1)
    (λ no. level.either_gone ts whole room at (level.both_is ts whole room at _ _ equal ∙ no))

pub either_from-requires : goal.either_from-requires
either_from-requires g c = record { nests = c.requires; first_below = c.in_ok-joined.ensures.gives.0 }

pub returns : goal.returns
returns g c =
    let ts = c.args.tokens.now in
    let room = c.args.self.now.room in
    let whole = read.expr ts room in
    let at = c.args.at in
    let one = c.in_ok-first.ensures in
    let two = c.in_ok-summed.ensures in
    let three = c.in_ok-compared.ensures in
    let four = c.in_ok-joined.ensures in
    let summed = level.sum_is ts whole room at _ _ one.gives.1 ∙ two.gives.1 in
    let equal = level.equal_is ts whole room at _ _ summed ∙ three.gives.1 in
    let both = level.both_is ts whole room at _ _ equal ∙ four.gives.1 in
    continued _ _ _ _ _ _ (grows_then _ _ _ (grows_then _ _ _ (grows_then _ _ _ one.grows two.grows) three.grows) four.grows) c.either_from.ensures (level.either_is ts whole room at _ _ both)
