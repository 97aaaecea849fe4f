use Rattle.std.proofs.Common.{◌<◌, ◌≤◌, arith, sym, subst, ◌∙◌}
use Rattle.esm_realm.proofs.Numbers.{has_at}
use Rattle.esm_eval.specs.Host.{evaluation}
use Rattle.esm_eval.specs.Inner.Hosts.{lawful}
use Rattle.esm_eval.specs.Inner.Orders.{Joins, has_one_of}
use Rattle.esm_eval.proofs.Inner.Gathering as gathering
use Rattle.esm_eval.proofs.Inner.Orders as orders
use Rattle.esm_eval.proofs.Inner.LateHost as late
use Rattle.esm_eval.proofs.host.EvalHost.+gather.Goals as goal

pub loop-i-init : goal.loop-i-init
loop-i-init g t c = record { gathering = gathering.gathering_first (evaluation g.B.Bodies.targets g.B.Bodies.awaits g.B.Bodies.begun) (lawful g.B.Bodies.targets g.B.Bodies.awaits g.B.Bodies.begun) c.args.self.now c.args.y (has_one_of c.args.self.now.nodes.stamps c.args.known.now.keys) c.requires.sound; orders = c.requires.orders }

pub waiter-x-requires-clause-has : goal.waiter-x-requires-clause-has
waiter-x-requires-clause-has g t c = c.requires.fits.have c.args.y c.requires.linked

pub waiter-x-requires-clause-within : goal.waiter-x-requires-clause-within
waiter-x-requires-clause-within g t c = subst (λ n. c.loop-i.i < n) c.waiter_count-i-end.ensures c.loop-i-test.true

pub joining-requires-clause-linked : goal.joining-requires-clause-linked
joining-requires-clause-linked g t c = (late.waiter_linked g.B.Bodies.targets g.B.Bodies.awaits g.B.Bodies.begun g.B.Bodies.linked g.B.Bodies.knows g.B.Bodies.fits c.args.self.now c.requires.fits c.args.y c.loop-i.i c.waiter-x.result c.waiter-x.ensures)

pub joining-requires-clause-distinct : goal.joining-requires-clause-distinct
joining-requires-clause-distinct g t c = c.requires.joined.distinct

pub awaits-requires : goal.awaits-requires
awaits-requires g t c = (late.waiter_linked g.B.Bodies.targets g.B.Bodies.awaits g.B.Bodies.begun g.B.Bodies.linked g.B.Bodies.knows g.B.Bodies.fits c.args.self.now c.requires.fits c.args.y c.loop-i.i c.waiter-x.result c.waiter-x.ensures)

pub loop-i-preserved-in-None : goal.loop-i-preserved-in-None
loop-i-preserved-in-None g t c = record { gathering = gathering.gathering_same (evaluation g.B.Bodies.targets g.B.Bodies.awaits g.B.Bodies.begun) (lawful g.B.Bodies.targets g.B.Bodies.awaits g.B.Bodies.begun) c.args.self.now c.requires.joined c.args.y (has_one_of c.args.self.now.nodes.stamps c.args.known.now.keys) (has_one_of c.args.self.now.nodes.stamps c.loop-i.known.keys) c.loop-i.i c.waiter-x.result c.loop-i.invariant.gathering c.waiter-x.ensures (subst (λ o. Joins (evaluation g.B.Bodies.targets g.B.Bodies.awaits g.B.Bodies.begun) c.args.self.now c.loop-i.known.keys c.waiter-x.result o) c.in-None.is c.joining.ensures); orders = c.loop-i.invariant.orders }

pub loop-i-preserved-then-awaits : goal.loop-i-preserved-then-awaits
loop-i-preserved-then-awaits g t c = record { gathering = gathering.gathering_awaits (evaluation g.B.Bodies.targets g.B.Bodies.awaits g.B.Bodies.begun) (lawful g.B.Bodies.targets g.B.Bodies.awaits g.B.Bodies.begun) c.args.self.now c.requires.joined c.args.y (has_one_of c.args.self.now.nodes.stamps c.args.known.now.keys) (has_one_of c.args.self.now.nodes.stamps c.loop-i.known.keys) (has_one_of c.args.self.now.nodes.stamps c.put.new.known.keys) c.loop-i.i c.waiter-x.result c.loop-i.invariant.gathering c.waiter-x.ensures (orders.with_order c.args.self.now.nodes.stamps c.loop-i.known.keys c.put.new.known.keys c.in-Some.order c.waiter-x.result c.in_ok-put.ensures (subst (λ o. Joins (evaluation g.B.Bodies.targets g.B.Bodies.awaits g.B.Bodies.begun) c.args.self.now c.loop-i.known.keys c.waiter-x.result o) c.in-Some.is c.joining.ensures).0) (subst (λ o. Joins (evaluation g.B.Bodies.targets g.B.Bodies.awaits g.B.Bodies.begun) c.args.self.now c.loop-i.known.keys c.waiter-x.result o) c.in-Some.is c.joining.ensures).2 (sym c.awaits.ensures ∙ c.if-awaits.true); orders = (orders.orders_with c.args.self.now.nodes.stamps c.loop-i.known.keys c.put.new.known.keys c.in-Some.order c.waiter-x.result c.in_ok-put.ensures (subst (λ o. Joins (evaluation g.B.Bodies.targets g.B.Bodies.awaits g.B.Bodies.begun) c.args.self.now c.loop-i.known.keys c.waiter-x.result o) c.in-Some.is c.joining.ensures).0 c.loop-i.invariant.orders) }

pub loop-i-preserved : goal.loop-i-preserved
loop-i-preserved g t c = record { gathering = gathering.gathering_joins (evaluation g.B.Bodies.targets g.B.Bodies.awaits g.B.Bodies.begun) (lawful g.B.Bodies.targets g.B.Bodies.awaits g.B.Bodies.begun) c.args.self.now c.requires.joined c.args.y (has_one_of c.args.self.now.nodes.stamps c.args.known.now.keys) (has_one_of c.args.self.now.nodes.stamps c.loop-i.known.keys) (has_one_of c.args.self.now.nodes.stamps c.put.new.known.keys) (has_one_of c.args.self.now.nodes.stamps c.gather.new.known.keys) c.loop-i.i c.waiter-x.result c.loop-i.invariant.gathering c.waiter-x.ensures (orders.with_order c.args.self.now.nodes.stamps c.loop-i.known.keys c.put.new.known.keys c.in-Some.order c.waiter-x.result c.in_ok-put.ensures (subst (λ o. Joins (evaluation g.B.Bodies.targets g.B.Bodies.awaits g.B.Bodies.begun) c.args.self.now c.loop-i.known.keys c.waiter-x.result o) c.in-Some.is c.joining.ensures).0) (subst (λ o. Joins (evaluation g.B.Bodies.targets g.B.Bodies.awaits g.B.Bodies.begun) c.args.self.now c.loop-i.known.keys c.waiter-x.result o) c.in-Some.is c.joining.ensures).2 c.in_ok-gather.ensures.gathered; orders = c.in_ok-gather.ensures.orders }

pub returns-clause-gathered : goal.returns-clause-gathered
returns-clause-gathered g t c = gathering.gathered (evaluation g.B.Bodies.targets g.B.Bodies.awaits g.B.Bodies.begun) (lawful g.B.Bodies.targets g.B.Bodies.awaits g.B.Bodies.begun) c.args.self.now c.args.y (has_one_of c.args.self.now.nodes.stamps c.args.known.now.keys) (has_one_of c.args.self.now.nodes.stamps c.loop-i.known.keys) c.loop-i.i c.loop-i.invariant.gathering (subst (λ n. n ≤ c.loop-i.i) c.waiter_count-i-end.ensures c.loop-i-test.false)

pub gather-requires : goal.gather-requires
gather-requires g t c κs within = (let less = (gathering.fewer_missing (evaluation g.B.Bodies.targets g.B.Bodies.awaits g.B.Bodies.begun) (lawful g.B.Bodies.targets g.B.Bodies.awaits g.B.Bodies.begun) c.args.self.now c.args.self.now.nodes.stamps (has_one_of c.args.self.now.nodes.stamps c.args.known.now.keys) (has_one_of c.args.self.now.nodes.stamps c.loop-i.known.keys) (has_one_of c.args.self.now.nodes.stamps c.put.new.known.keys) c.waiter-x.result c.loop-i.invariant.gathering.grows (orders.with_order c.args.self.now.nodes.stamps c.loop-i.known.keys c.put.new.known.keys c.in-Some.order c.waiter-x.result c.in_ok-put.ensures (subst (λ o. Joins (evaluation g.B.Bodies.targets g.B.Bodies.awaits g.B.Bodies.begun) c.args.self.now c.loop-i.known.keys c.waiter-x.result o) c.in-Some.is c.joining.ensures).0) (has_at c.args.self.now.nodes.stamps c.in-Some.order c.waiter-x.result (subst (λ o. Joins (evaluation g.B.Bodies.targets g.B.Bodies.awaits g.B.Bodies.begun) c.args.self.now c.loop-i.known.keys c.waiter-x.result o) c.in-Some.is c.joining.ensures).0) (subst (λ o. Joins (evaluation g.B.Bodies.targets g.B.Bodies.awaits g.B.Bodies.begun) c.args.self.now c.loop-i.known.keys c.waiter-x.result o) c.in-Some.is c.joining.ensures).1) in omega (arith, c.decreases, less), (within.0, (within.1, ((late.waiter_linked g.B.Bodies.targets g.B.Bodies.awaits g.B.Bodies.begun g.B.Bodies.linked g.B.Bodies.knows g.B.Bodies.fits c.args.self.now c.requires.fits c.args.y c.loop-i.i c.waiter-x.result c.waiter-x.ensures), (c.requires.joined, (gathering.sound_with (evaluation g.B.Bodies.targets g.B.Bodies.awaits g.B.Bodies.begun) (lawful g.B.Bodies.targets g.B.Bodies.awaits g.B.Bodies.begun) c.args.self.now (has_one_of c.args.self.now.nodes.stamps c.loop-i.known.keys) c.waiter-x.result (has_one_of c.args.self.now.nodes.stamps c.put.new.known.keys) (orders.with_order c.args.self.now.nodes.stamps c.loop-i.known.keys c.put.new.known.keys c.in-Some.order c.waiter-x.result c.in_ok-put.ensures (subst (λ o. Joins (evaluation g.B.Bodies.targets g.B.Bodies.awaits g.B.Bodies.begun) c.args.self.now c.loop-i.known.keys c.waiter-x.result o) c.in-Some.is c.joining.ensures).0) c.loop-i.invariant.gathering.sound (subst (λ o. Joins (evaluation g.B.Bodies.targets g.B.Bodies.awaits g.B.Bodies.begun) c.args.self.now c.loop-i.known.keys c.waiter-x.result o) c.in-Some.is c.joining.ensures).2, ((orders.orders_with c.args.self.now.nodes.stamps c.loop-i.known.keys c.put.new.known.keys c.in-Some.order c.waiter-x.result c.in_ok-put.ensures (subst (λ o. Joins (evaluation g.B.Bodies.targets g.B.Bodies.awaits g.B.Bodies.begun) c.args.self.now c.loop-i.known.keys c.waiter-x.result o) c.in-Some.is c.joining.ensures).0 c.loop-i.invariant.orders), c.requires.fits)))))))

pub repeats-requires-clause-has : goal.repeats-requires-clause-has
repeats-requires-clause-has g t c = c.requires.fits.have c.args.y c.requires.linked

pub repeats-requires-clause-within : goal.repeats-requires-clause-within
repeats-requires-clause-within g t c = subst (λ n. c.loop-i.i < n) c.waiter_count-i-end.ensures c.loop-i-test.true

pub loop-i-preserved-then-repeats : goal.loop-i-preserved-then-repeats
loop-i-preserved-then-repeats g t c = record { gathering = gathering.gathering_again (evaluation g.B.Bodies.targets g.B.Bodies.awaits g.B.Bodies.begun) (lawful g.B.Bodies.targets g.B.Bodies.awaits g.B.Bodies.begun) c.args.self.now c.args.y (has_one_of c.args.self.now.nodes.stamps c.args.known.now.keys) (has_one_of c.args.self.now.nodes.stamps c.loop-i.known.keys) c.loop-i.i c.loop-i.invariant.gathering (c.repeats.ensures c.if-repeats.true); orders = c.loop-i.invariant.orders }
