use Rattle.std.proofs.Common.{rules, ap, sym, subst}
use lib.ListN.{get_elem?}
use Rattle.esm_hlock.specs.Makers.{Continues}
use Rattle.esm_hlock.specs.Inner.Seats.{joined_from}
use Rattle.esm_hlock.proofs.Basics.Lists.{none_in}
use Rattle.esm_hlock.proofs.Keeps.Passes.{joins_seats, looks_back}
use Rattle.esm_hlock.proofs.lock.Hlock.join.Goals as goal

pub join_seat-requires : goal.join_seat-requires
join_seat-requires g c = let a = c.args.one.idle in let b = c.args.other.idle in
    (search rules, search rules, none_in _ b.0, search rules, joins_seats g.T.Story.story g.T.Story.maker _ _ _ _ a.1 a.2 b.1 b.2)

pub load-requires : goal.load-requires
load-requires g c = let m = c.join_seat.ensures.2 in (search rules, search rules, looks_back g.T.Story.story g.T.Story.maker _ _ _ (ap (λ m. m.0.has_ticket) m) (ap (λ m. m.0.has_state) m))

pub returns-clause-one : goal.returns-clause-one
returns-clause-one g c = let m = c.join_seat.ensures.2 in let l = c.load.ensures.2 in
    subst (λ x. Continues g.T.Story.maker x c.args.one.seat.me.0.seen c.args.one.seat.me.0.numbers) (sym (ap (λ m. m.0.seen) l.0)) (l.1 0 (joined_from c.args.one.seat.me.0) (ap (λ m. get_elem? m.0.joined 0) m))

pub returns-clause-other : goal.returns-clause-other
returns-clause-other g c = let m = c.join_seat.ensures.2 in let l = c.load.ensures.2 in
    subst (λ x. Continues g.T.Story.maker x c.args.other.seat.me.0.seen c.args.other.seat.me.0.numbers) (sym (ap (λ m. m.0.seen) l.0)) (l.1 1 (joined_from c.args.other.seat.me.0) (ap (λ m. get_elem? m.0.joined 1) m))
