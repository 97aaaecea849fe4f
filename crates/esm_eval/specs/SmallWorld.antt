-- A world of four modules, for worked examples: a body that begins writes its module's name.
use Rattle.std.specs.Prelude.{◌≡◌, ℕ, Bool, true, false, List, [], ◌∷◌, ◌++◌, length, slice_set, ◌||◌, if◌then◌else◌, Result, Ok, Err}
use Rattle.std.specs.List.{list_any}
use Rattle.esm_values.specs.Ran.Ran.{Normal, Thrown}
use Rattle.esm_values.specs.Ran.{Ran}
use Rattle.esm_eval.specs.Nodes.{Node, untouched, Start, Run, BodyCalls}
use Rattle.esm_eval.specs.Evaluation.{Evaluation}

pub data Name : Type 0 where
  A : Name
  B : Name
  C : Name
  D : Name

abbrev pub same_name : Name → Name → Bool
same_name A A = true
same_name B B = true
same_name C C = true
same_name D D = true
same_name x y = false

pub data Promise : Type 0 where
  Pending : Promise
  Fulfilled : Promise
  Rejected : (thrown : Name) → Promise

-- a node for each of the modules
pub record Nodes : Type 0 where
  pub a : Node Name Name
  pub b : Node Name Name
  pub c : Node Name Name
  pub d : Node Name Name

abbrev pub node_at : Nodes → Name → Node Name Name
node_at ns A = ns.a
node_at ns B = ns.b
node_at ns C = ns.c
node_at ns D = ns.d

abbrev pub with_node : Nodes → Name → Node Name Name → Nodes
with_node ns A n = record ns { a = n }
with_node ns B n = record ns { b = n }
with_node ns C n = record ns { c = n }
with_node ns D n = record ns { d = n }

pub record Small : Type 0 where
  pub nodes : Nodes
  pub stamps : List Name
  -- in order of their ids
  pub promises : List Promise
  -- the ids of those that were settled, in that order
  pub settled : List ℕ
  -- the modules whose bodies began, in that order
  pub log : List Name

abbrev pub opening : Small
opening = record {
  nodes = record { a = untouched; b = untouched; c = untouched; d = untouched };
  stamps = [];
  promises = [];
  settled = [];
  log = [];
}

abbrev pub with_promise : Small → Small
with_promise w = record w { promises = w.promises ++ Pending ∷ [] }

abbrev pub with_line : Small → Name → Small
with_line w m = record w { log = w.log ++ m ∷ [] }

-- these are the targets of the modules, and these modules await
abbrev pub small : (Name → List Name) → (Name → Bool) → Evaluation Name Name Small
small targets awaits = record {
  same = same_name;
  targets = λ w. targets;
  awaits = λ w. awaits;
  node = λ w. node_at w.nodes;
  put = λ w m n. record w { nodes = with_node w.nodes m n };
  stamps = λ w. w.stamps;
  add_stamp = λ w m. record w { stamps = w.stamps ++ m ∷ [] };
  begun = λ w m. list_any (same_name m) w.log;
  next_promise = λ w. length w.promises;
  make_promise = with_promise;
  make_body_promise = λ w m. with_promise w;
  fulfill = λ w p. record w { promises = slice_set w.promises p Fulfilled; settled = w.settled ++ p ∷ [] };
  reject = λ w p v. record w { promises = slice_set w.promises p (Rejected v); settled = w.settled ++ p ∷ [] };
}

-- what a call for a body comes to
pub data Body : Type 0 where
  -- the body runs to its end, or to its first await
  Runs : Body
  -- it throws its module's name
  Fails : Body
  -- a limit stops the call before the body has begun
  Halts : Body

abbrev pub StartIs : Body → Small → Name → Result (Unit {0}) (Unit {0}) → Small → Type 0
StartIs Runs w m r after = (r ≡ Ok tt) × (after ≡ with_line w m)
StartIs Fails w m r after = (r ≡ Ok tt) × (after ≡ with_line w m)
StartIs Halts w m r after = (r ≡ Err tt) × (after ≡ w)

abbrev pub RunIs : Body → Small → Name → Result (Ran Name) (Unit {0}) → Small → Type 0
RunIs Runs w m r after = (r ≡ Ok Normal) × (after ≡ with_line w m)
RunIs Fails w m r after = (r ≡ Ok (Thrown m)) × (after ≡ with_line w m)
RunIs Halts w m r after = (r ≡ Err tt) × (after ≡ w)

-- the calls for bodies, where the bodies of the modules are these
abbrev pub Writes : (Name → Body) → BodyCalls Name Name Small (Unit {0})
Writes bodies w (Start m end) r after = StartIs (bodies m) w m r after
Writes bodies w (Run m) r after = RunIs (bodies m) w m r after

abbrev pub all_run : Name → Body
all_run m = Runs

abbrev pub fails : Name → Name → Body
fails x m = if same_name x m then Fails else Runs

abbrev pub halts : Name → Name → Body
halts x m = if same_name x m then Halts else Runs

abbrev pub none : Name → Bool
none m = false

abbrev pub only : Name → Name → Bool
only x m = same_name x m

abbrev pub both : Name → Name → Name → Bool
both x y m = same_name x m || same_name y m
