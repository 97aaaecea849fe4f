use Rattle.std.proofs.Common.{◌≡◌, drop}
use Rattle.esm_eval.specs.Evaluation.{waits}
use Rattle.esm_eval.specs.Host.{evaluation}
use Rattle.esm_eval.specs.Inner.Orders.{has_one_of}
use Rattle.esm_eval.specs.Inner.Ready.{over}
use Rattle.esm_eval.proofs.host.EvalHost.are_over.Given as goal

-- the waits from place k on tell of all
abbrev pub invariant-loop-k : goal.invariant-loop-k
invariant-loop-k g l =
    over (evaluation g.B.Bodies.targets g.B.Bodies.awaits g.B.Bodies.begun) l.self (has_one_of l.self.nodes.stamps l.known.keys) (drop l.k (waits (evaluation g.B.Bodies.targets g.B.Bodies.awaits g.B.Bodies.begun) l.self l.x))
    ≡ over (evaluation g.B.Bodies.targets g.B.Bodies.awaits g.B.Bodies.begun) l.self (has_one_of l.self.nodes.stamps l.known.keys) (waits (evaluation g.B.Bodies.targets g.B.Bodies.awaits g.B.Bodies.begun) l.self l.x)
