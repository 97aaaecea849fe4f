-- The world of the examples meets the conditions of the laws.
use Rattle.std.proofs.Common.{◌≡◌, Bool, true, List, [], ◌∷◌, refl, subst, sym, inl, inr}
use Rattle.std.specs.Prelude.{◌⊎◌, if◌then◌else◌, Result, Ok}
use Rattle.std.specs.List.{list_any}
use Rattle.esm_realm.proofs.Lists.{either, in_first, in_left, in_right, in_split, in_cons}
use Rattle.esm_values.specs.Ran.{Ran}
use Rattle.esm_eval.specs.Nodes.{Node, Call, Start, Run, CallAnswer, module_of}
use Rattle.esm_eval.specs.Evaluation.{IsLawful, IsSteady, IsSteadyCall}
use Rattle.esm_eval.specs.Begins.{BeginsOne}
use Rattle.esm_eval.specs.SmallWorld.{Name, A, B, C, D, same_name, Nodes, node_at, with_node, Small, small, Body, Runs, Fails, Halts, StartIs, RunIs, Writes, with_line}
use Rattle.esm_eval.specs.Examples.{SmallWorldsAreLawful}

own : (x : Name) → same_name x x ≡ true
own A = refl
own B = refl
own C = refl
own D = refl

equal : (x y : Name) → same_name x y ≡ true → x ≡ y
equal A A h = refl
equal A B h = cc
equal A C h = cc
equal A D h = cc
equal B A h = cc
equal B B h = refl
equal B C h = cc
equal B D h = cc
equal C A h = cc
equal C B h = cc
equal C C h = refl
equal C D h = cc
equal D A h = cc
equal D B h = cc
equal D C h = cc
equal D D h = refl

read_back : (ns : Nodes) (x : Name) (n : Node Name Name) (y : Name) → node_at (with_node ns x n) y ≡ if same_name x y then n else node_at ns y
read_back ns A n A = refl
read_back ns A n B = refl
read_back ns A n C = refl
read_back ns A n D = refl
read_back ns B n A = refl
read_back ns B n B = refl
read_back ns B n C = refl
read_back ns B n D = refl
read_back ns C n A = refl
read_back ns C n B = refl
read_back ns C n C = refl
read_back ns C n D = refl
read_back ns D n A = refl
read_back ns D n B = refl
read_back ns D n C = refl
read_back ns D n D = refl

module _ (targets : Name → List Name) (awaits : Name → Bool) where
  small_is_lawful : IsLawful (small targets awaits)
  small_is_lawful = record {
    names = record { own = own; equal = equal };
    put = λ w x n. record { node = read_back w.nodes x n; stamps = refl; begun = λ y. refl; awaits = λ y. refl };
    add_stamp = λ w x. record { nodes = λ y. refl; stamps = refl; begun = λ y. refl; awaits = λ y. refl };
    make_promise = λ w. record { far = record { nodes = λ y. refl; stamps = refl; begun = λ y. refl }; awaits = λ y. refl };
    make_body_promise = λ w x. record { far = record { nodes = λ y. refl; stamps = refl; begun = λ y. refl }; awaits = λ y. refl };
    fulfill = λ w p. record { far = record { nodes = λ y. refl; stamps = refl; begun = λ y. refl }; awaits = λ y. refl };
    reject = λ w p v. record { far = record { nodes = λ y. refl; stamps = refl; begun = λ y. refl }; awaits = λ y. refl };
  }

  line_is_steady : (w : Small) (m : Name) → IsSteadyCall (small targets awaits) w m (with_line w m)
  line_is_steady w m = record { nodes = λ x. refl; stamps = refl; begun = λ x h. in_left same_name own equal w.log (m ∷ []) x h; awaits = λ x h. refl }

  same_is_steady : (w : Small) (m : Name) → IsSteadyCall (small targets awaits) w m w
  same_is_steady w m = record { nodes = λ x. refl; stamps = refl; begun = λ x h. h; awaits = λ x h. refl }

  start_steady : (b : Body) (w v : Small) (m : Name) (r : Result (Unit {0}) (Unit {0})) → StartIs b w m r v → IsSteadyCall (small targets awaits) w m v
  start_steady Runs w v m r h = subst (λ v. IsSteadyCall (small targets awaits) w m v) (sym h.1) (line_is_steady w m)
  start_steady Fails w v m r h = subst (λ v. IsSteadyCall (small targets awaits) w m v) (sym h.1) (line_is_steady w m)
  start_steady Halts w v m r h = subst (λ v. IsSteadyCall (small targets awaits) w m v) (sym h.1) (same_is_steady w m)

  run_steady : (b : Body) (w v : Small) (m : Name) (r : Result (Ran Name) (Unit {0})) → RunIs b w m r v → IsSteadyCall (small targets awaits) w m v
  run_steady Runs w v m r h = subst (λ v. IsSteadyCall (small targets awaits) w m v) (sym h.1) (line_is_steady w m)
  run_steady Fails w v m r h = subst (λ v. IsSteadyCall (small targets awaits) w m v) (sym h.1) (line_is_steady w m)
  run_steady Halts w v m r h = subst (λ v. IsSteadyCall (small targets awaits) w m v) (sym h.1) (same_is_steady w m)

  line_starts : (w : Small) (m : Name) → list_any (same_name m) (with_line w m).log ≡ true
  line_starts w m = in_right same_name own equal w.log (m ∷ []) m (in_first same_name own equal m [])

  start_starts : (b : Body) (w v : Small) (m : Name) (r : Unit {0}) → StartIs b w m (Ok r) v → list_any (same_name m) v.log ≡ true
  start_starts Runs w v m r h = subst (λ u. list_any (same_name m) u.log ≡ true) (sym h.1) (line_starts w m)
  start_starts Fails w v m r h = subst (λ u. list_any (same_name m) u.log ≡ true) (sym h.1) (line_starts w m)
  start_starts Halts w v m r h = let k = h.0 in cc

  run_starts : (b : Body) (w v : Small) (m : Name) (r : Ran Name) → RunIs b w m (Ok r) v → list_any (same_name m) v.log ≡ true
  run_starts Runs w v m r h = subst (λ u. list_any (same_name m) u.log ≡ true) (sym h.1) (line_starts w m)
  run_starts Fails w v m r h = subst (λ u. list_any (same_name m) u.log ≡ true) (sym h.1) (line_starts w m)
  run_starts Halts w v m r h = let k = h.0 in cc

  small_is_steady : (bodies : Name → Body) → IsSteady (small targets awaits) (Writes bodies)
  small_is_steady bodies = record { call = steady; starts = starts }
    where
      steady : (w v : Small) (c : Call Name) (r : Result (CallAnswer Name c) (Unit {0})) → Writes bodies w c r v → IsSteadyCall (small targets awaits) w (module_of c) v
      steady w v (Start m end) r h = start_steady (bodies m) w v m r h
      steady w v (Run m) r h = run_steady (bodies m) w v m r h

      starts : (w v : Small) (c : Call Name) (r : CallAnswer Name c) → Writes bodies w c (Ok r) v → list_any (same_name (module_of c)) v.log ≡ true
      starts w v (Start m end) r h = start_starts (bodies m) w v m r h
      starts w v (Run m) r h = run_starts (bodies m) w v m r h

  line_begins : (w : Small) (m x : Name) → list_any (same_name x) (with_line w m).log ≡ true → (list_any (same_name x) w.log ≡ true) ⊎ (x ≡ m)
  line_begins w m x h = either (in_split same_name own equal w.log (m ∷ []) x h) inl (λ k. either (in_cons same_name own equal m [] x k) inr (λ z. cc))

  start_begins : (b : Body) (w v : Small) (m : Name) (r : Result (Unit {0}) (Unit {0})) → StartIs b w m r v → (x : Name) → list_any (same_name x) v.log ≡ true → (list_any (same_name x) w.log ≡ true) ⊎ (x ≡ m)
  start_begins Runs w v m r h x k = line_begins w m x (subst (λ u. list_any (same_name x) u.log ≡ true) h.1 k)
  start_begins Fails w v m r h x k = line_begins w m x (subst (λ u. list_any (same_name x) u.log ≡ true) h.1 k)
  start_begins Halts w v m r h x k = inl (subst (λ u. list_any (same_name x) u.log ≡ true) h.1 k)

  run_begins : (b : Body) (w v : Small) (m : Name) (r : Result (Ran Name) (Unit {0})) → RunIs b w m r v → (x : Name) → list_any (same_name x) v.log ≡ true → (list_any (same_name x) w.log ≡ true) ⊎ (x ≡ m)
  run_begins Runs w v m r h x k = line_begins w m x (subst (λ u. list_any (same_name x) u.log ≡ true) h.1 k)
  run_begins Fails w v m r h x k = line_begins w m x (subst (λ u. list_any (same_name x) u.log ≡ true) h.1 k)
  run_begins Halts w v m r h x k = inl (subst (λ u. list_any (same_name x) u.log ≡ true) h.1 k)

  small_begins : (bodies : Name → Body) → BeginsOne (small targets awaits) (Writes bodies)
  small_begins bodies = record { call = begins }
    where
      begins : (w v : Small) (c : Call Name) (r : Result (CallAnswer Name c) (Unit {0})) → Writes bodies w c r v → (x : Name) → list_any (same_name x) v.log ≡ true → (list_any (same_name x) w.log ≡ true) ⊎ (x ≡ module_of c)
      begins w v (Start m end) r h = start_begins (bodies m) w v m r h
      begins w v (Run m) r h = run_begins (bodies m) w v m r h

pub small_worlds_are_lawful : SmallWorldsAreLawful
small_worlds_are_lawful = record {
  lawful = small_is_lawful;
  steady = λ targets awaits bodies. small_is_steady targets awaits bodies;
  begins = λ targets awaits bodies. small_begins targets awaits bodies;
}
