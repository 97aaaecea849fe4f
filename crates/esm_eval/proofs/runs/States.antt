-- States of the worked examples.
use Rattle.std.proofs.Common.{◌≡◌, ◌≢◌, ℕ, Bool, false, List, Option, refl, sym, ◌∙◌}
use Rattle.esm_eval.specs.Nodes.{Phase, EvaluatingAsync, Evaluated, Node, was_entered}
use Rattle.esm_eval.specs.BodyEnd.{IsReady}
use Rattle.esm_eval.specs.SmallWorld.{Name, A, B, C, D, Promise, Small, opening, small, node_at}

-- a node, its fields in order
abbrev pub nd : Phase → Option Name → Option Name → Option ℕ → Bool → List Name → List Name → Node Name Name
nd p e r k d ws us = record { phase = p; error = e; cycle_root = r; promise = k; done = d; waits = ws; waiters = us }

-- a world: the nodes of A to D, the stamps, the promises, those settled, the log
abbrev pub at : Node Name Name → Node Name Name → Node Name Name → Node Name Name → List Name → List Promise → List ℕ → List Name → Small
at a b c d stamps promises settled log = record { nodes = record { a = a; b = b; c = c; d = d }; stamps = stamps; promises = promises; settled = settled; log = log }

pub async : EvaluatingAsync ≢ Evaluated
async e = cc

pub nothing_begun : (x : Name) → false ≡ was_entered (node_at opening.nodes x).phase
nothing_begun A = refl
nothing_begun B = refl
nothing_begun C = refl
nothing_begun D = refl

pub not_ready : {targets : Name → List Name} {awaits : Name → Bool} {w : Small} {x : Name} → (node_at w.nodes x).phase ≡ Evaluated → IsReady (small targets awaits) w x → ⊥
not_ready e (IsReady.ready s p b f r) = async (sym p ∙ e)
