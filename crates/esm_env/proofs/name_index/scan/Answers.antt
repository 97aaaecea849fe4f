use Rattle.std.proofs.Common.{◌≡◌, true, false, sym, ◌∙◌, arith, get_or}
use Rattle.std.specs.Str.{bytes_eq}
use Rattle.esm_env.proofs.NameIndexes.{none_more, place_first, place_no}
use Rattle.esm_env.proofs.name_index.scan.Goals as goal

pub returns-then-eq : goal.returns-then-eq
returns-then-eq g c =
    let is = c.index-list-at.is in
    let spelled = c.name.ensures in
    let met = sym c.eq.ensures ∙ c.if-eq.true in
    let here : bytes_eq (g.T.HasName.own_name (get_or c.args.list.now c.loop-at.at c.index-list-at.result)) c.args.wanted.now ≡ true = cc in
    place_first g.T.HasName.own_name c.args.list.now c.loop-at.at c.args.wanted.now c.index-list-at.result c.loop-at-test.true c.loop-at.invariant here

pub loop-at-preserved : goal.loop-at-preserved
loop-at-preserved g c =
    let is = c.index-list-at.is in
    let spelled = c.name.ensures in
    let missed = sym c.eq.ensures ∙ c.if-eq.false in
    let here : bytes_eq (g.T.HasName.own_name (get_or c.args.list.now c.loop-at.at c.index-list-at.result)) c.args.wanted.now ≡ false = cc in
    none_more g.T.HasName.own_name c.args.list.now c.loop-at.at c.args.wanted.now c.index-list-at.result c.loop-at-test.true c.loop-at.invariant here

pub returns : goal.returns
returns g c = place_no g.T.HasName.own_name c.args.list.now c.args.wanted.now (λ i lt d. c.loop-at.invariant i (omega (arith, lt, c.loop-at-test.false)) d)
