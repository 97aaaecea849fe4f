use Rattle.esm_realm.proofs.Urls.{not_both}
use Rattle.esm_eval.specs.Inner.Orders.{has_one_of}
use Rattle.esm_eval.proofs.Inner.Orders as orders
use Rattle.esm_eval.proofs.Inner.LateHost as late
use Rattle.esm_eval.proofs.late.EvalHostLate.ready.Goals as goal

pub gather-requires-clause-linked : goal.gather-requires-clause-linked
gather-requires-clause-linked g c = late.finished_linked g.B.Bodies.targets g.B.Bodies.awaits g.B.Bodies.begun g.B.Bodies.linked g.B.Bodies.knows g.B.Bodies.fits c.args.self.now c.requires.fits c.args.m c.requires.finished

pub gather-requires-clause-joined : goal.gather-requires-clause-joined
gather-requires-clause-joined g c = late.finished_joined g.B.Bodies.targets g.B.Bodies.awaits g.B.Bodies.begun g.B.Bodies.linked g.B.Bodies.knows g.B.Bodies.fits c.args.self.now c.requires.fits c.args.m c.requires.finished

pub gather-requires-clause-sound : goal.gather-requires-clause-sound
gather-requires-clause-sound g c = λ y h. absurd (not_both (has_one_of c.args.self.now.nodes.stamps c.new-known.result.keys y) h (orders.has_no_orders c.args.self.now.nodes.stamps c.new-known.result.keys c.new-known.ensures.empty y))

pub gather-requires-clause-orders : goal.gather-requires-clause-orders
gather-requires-clause-orders g c = orders.no_orders c.args.self.now.nodes.stamps c.new-known.result.keys c.new-known.ensures.empty

pub in_order-requires-clause-distinct : goal.in_order-requires-clause-distinct
in_order-requires-clause-distinct g c = (late.finished_joined g.B.Bodies.targets g.B.Bodies.awaits g.B.Bodies.begun g.B.Bodies.linked g.B.Bodies.knows g.B.Bodies.fits c.args.self.now c.requires.fits c.args.m c.requires.finished).distinct

pub in_order-requires-clause-ready : goal.in_order-requires-clause-ready
in_order-requires-clause-ready g c = late.gathered_all g.B.Bodies.targets g.B.Bodies.awaits g.B.Bodies.begun g.B.Bodies.linked g.B.Bodies.knows g.B.Bodies.fits c.args.self.now c.requires.fits c.args.m c.requires.finished c.new-known.result.keys c.gather.new.known.keys c.new-known.ensures.empty c.in_ok-gather.ensures.gathered

pub returns-clause-linked : goal.returns-clause-linked
returns-clause-linked g c = late.among_linked g.B.Bodies.targets g.B.Bodies.awaits g.B.Bodies.begun g.B.Bodies.linked g.B.Bodies.knows g.B.Bodies.fits c.args.self.now c.requires.fits (λ xs. xs.items) c.in_order.result c.in_order.ensures
