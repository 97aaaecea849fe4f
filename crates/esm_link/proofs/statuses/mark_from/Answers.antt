use Rattle.std.proofs.Common.{◌<◌, refl, subst, sym, ◌∙◌, get_or}
use Rattle.esm_realm.specs.Sound.{records_of}
use Rattle.esm_link.proofs.Marking as marking
use Rattle.esm_link.proofs.statuses.mark_from.Goals as goal

pub loop-k-init : goal.loop-k-init
loop-k-init c = record { rest = refl; statuses = λ y. refl; places = λ y. refl }

pub set_status-requires : goal.set_status-requires
set_status-requires c =
    let o = get_or c.args.opened.now c.loop-k.k 0 in
    subst (λ n. o < n) (marking.length_plain (records_of c.args.realm.now) ∙ sym (marking.same_length (records_of c.loop-k.realm) (records_of c.args.realm.now) c.loop-k.invariant.rest)) (c.requires o (marking.in_at c.args.opened.now c.loop-k.k o (marking.at_index_default c.args.opened.now c.loop-k.k 0 c.loop-k-test.true)))

pub loop-k-preserved : goal.loop-k-preserved
loop-k-preserved c = record {
  rest = c.set_status.ensures.rest ∙ c.loop-k.invariant.rest;
  statuses = λ y. marking.one_more c.args.opened.now c.loop-k.k _ c.args.status _ _ y (marking.at_index_default c.args.opened.now c.loop-k.k 0 c.loop-k-test.true) (c.set_status.ensures.statuses y) ∙ c.loop-k.invariant.statuses y;
  places = λ y. c.set_status.ensures.places y ∙ c.loop-k.invariant.places y;
}

pub returns-clause-rest : goal.returns-clause-rest
returns-clause-rest c = c.loop-k.invariant.rest

pub returns-clause-statuses : goal.returns-clause-statuses
returns-clause-statuses c y = marking.none_left c.args.opened.now c.loop-k.k y c.args.status _ c.loop-k-test.false ∙ c.loop-k.invariant.statuses y

pub returns-clause-places : goal.returns-clause-places
returns-clause-places c = c.loop-k.invariant.places
