-- A world whose modules are members of a list, without loading: what evaluation reads and writes there.
use Rattle.std.proofs.Common.{◌≡◌, ◌⊎◌, inl, inr, ℕ, Bool, true, false, cond, List, [], ◌∷◌, ◌++◌, refl, ap, subst, sym, ◌∙◌}
use Rattle.std.specs.Prelude.{Result, Ok, Err, ⊤, ◌||◌}
use Rattle.esm_base.specs.declared.limits.Limit.{Limit}
use Rattle.esm_base.specs.Lists.{IsSameness, is_in}
use Rattle.esm_base.specs.Urls.{Url}
use Rattle.esm_realm.proofs.Urls.{or_left, or_true, or_cases}
use Rattle.esm_values.specs.Value.{Value, Undefined}
use Rattle.esm_values.specs.Errors.{Errors}
use Rattle.esm_values.specs.Ran.{Ran}
use Rattle.esm_promise.specs.Promises.{Promises, make, settle, next_promise, Fulfilled, Rejected}
use Rattle.esm_promise.specs.Reactions.{Reaction, BodyEnd}
use Rattle.esm_env.specs.Cells.{Cells}
use Rattle.esm_env.specs.Modules.{Modules, entries}
use Rattle.esm_link.specs.Link.{targets}
use Rattle.esm_eval.specs.Nodes.{Node, Call, CallAnswer, Start, Run, module_of}
use Rattle.esm_eval.specs.Evaluation.{Evaluation, IsLawful, IsSteady}
use Rattle.esm_eval.specs.Begins.{BeginsOne}
use Rattle.esm_eval.specs.Laws.{MakesFirstCalls}
use Rattle.esm_eval.proofs.OnceEnds.{begins_once}
use Rattle.esm_rewriting.specs.State.{State, Engine, has_begun}
use Rattle.esm_rewriting.specs.Bodies.{StartsBody, RunsBody}
use Rattle.esm_rewriting.specs.Keeps.{started}
use Rattle.esm_rewriting.proofs.BodyKeeps.{bodies_keep, bodies_begin}
use Rattle.esm_direct_laws.proofs.Members.{Member, same_member, members_apart}
use Rattle.esm_order_laws.proofs.QuietMoves.{Nowhere}

-- ---- lists of members

module _ {N : Type 0} (same : N → N → Bool) where
  any_append : (xs ys : List N) (y : N) → is_in same (xs ++ ys) y ≡ (is_in same xs y || is_in same ys y)
  any_append [] ys y = refl
  any_append (x ∷ xs) ys y = by (same y x) (any_append xs ys y)
    where
      by : (s : Bool) → is_in same (xs ++ ys) y ≡ (is_in same xs y || is_in same ys y) → (s || is_in same (xs ++ ys) y) ≡ ((s || is_in same xs y) || is_in same ys y)
      by true e = refl
      by false e = e

  any_more : (xs : List N) (m x : N) → is_in same xs x ≡ true → is_in same (xs ++ m ∷ []) x ≡ true
  any_more xs m x h = any_append xs (m ∷ []) x ∙ or_left (is_in same xs x) (is_in same (m ∷ []) x) h

  module _ (d : IsSameness same) where
    any_last : (xs : List N) (m : N) → is_in same (xs ++ m ∷ []) m ≡ true
    any_last xs m = any_append xs (m ∷ []) m ∙ or_true (is_in same xs m) (is_in same (m ∷ []) m) (or_left (same m m) false (d.own m))

    any_split : (xs : List N) (m x : N) → is_in same (xs ++ m ∷ []) x ≡ true → (is_in same xs x ≡ true) ⊎ (x ≡ m)
    any_split xs m x h = by (or_cases (is_in same xs x) (is_in same (m ∷ []) x) (sym (any_append xs (m ∷ []) x) ∙ h))
      where
        own : (same x m ≡ true) ⊎ (false ≡ true) → x ≡ m
        own (inl k) = d.equal x m k
        own (inr k) = absurd cc

        by : (is_in same xs x ≡ true) ⊎ (is_in same (m ∷ []) x ≡ true) → (is_in same xs x ≡ true) ⊎ (x ≡ m)
        by (inl k) = inl k
        by (inr k) = inr (own (or_cases (same x m) false k))

-- ---- worlds

module _ (xs : List Url) where
  abbrev pub M : Type 0
  M = Member xs

  abbrev pub V : Type 0
  V = Value M

  -- how far the entry has come
  pub data EntryM : Type 0 where
    Underway : EntryM
    Ended : EntryM
    Failed : (v : V) → EntryM

  pub record WorldM : Type 0 where
    pub linked : List M
    pub nodes : M → Node M V
    pub stamps : List M
    pub promises : Promises (Reaction M) V
    pub errors : Errors
    pub cells : Cells M
    pub engine : Engine M
    pub entry : EntryM

  abbrev pub Nothing : Type 0
  Nothing = Unit {0}

  abbrev pub state : WorldM → State M Nothing
  state w = record { engine = w.engine; cells = w.cells; outer = record { promises = w.promises; errors = w.errors; imports = tt } }

  abbrev pub with_state : WorldM → State M Nothing → WorldM
  with_state w s = record w { engine = s.engine; cells = s.cells; promises = s.outer.promises; errors = s.outer.errors }

  abbrev pub with_promises : WorldM → Promises (Reaction M) V → WorldM
  with_promises w ps = record w { promises = ps }

  abbrev pub put_node : (M → Node M V) → M → Node M V → M → Node M V
  put_node nodes m n = λ k. cond (same_member xs m k) n (nodes k)

  module _ (g : Modules M) where
    abbrev pub only_these : Nothing → Modules M
    only_these i = g

    -- what a call for a body does, where no import() begins
    pub data CallsM : WorldM → (c : Call M) → Result (CallAnswer V c) Limit → WorldM → Type 0 where
      start : {w : WorldM} {m : M} {done : ℕ} {end : Result (Unit {0}) Limit} {s : State M Nothing}
          → StartsBody (same_member xs) only_these Nowhere (state w) m done end s → CallsM w (Start m done) end (with_state w s)
      run : {w : WorldM} {m : M} {end : Result (Ran V) Limit} {s : State M Nothing}
          → RunsBody (same_member xs) only_these Nowhere (state w) m end s → CallsM w (Run m) end (with_state w s)

    abbrev pub evaluation_m : Evaluation M V WorldM
    evaluation_m = record {
      same = same_member xs;
      targets = λ w. targets g;
      awaits = λ w m. (entries g m).awaits;
      node = λ w. w.nodes;
      put = λ w m n. record w { nodes = put_node w.nodes m n };
      stamps = λ w. w.stamps;
      add_stamp = λ w m. record w { stamps = w.stamps ++ m ∷ [] };
      begun = λ w. has_begun (same_member xs) w.engine;
      next_promise = λ w. next_promise w.promises;
      make_promise = λ w. with_promises w (make w.promises []);
      make_body_promise = λ w m. with_promises w (make w.promises (BodyEnd m ∷ []));
      fulfill = λ w p. with_promises w (settle w.promises p (Fulfilled Undefined));
      reject = λ w p v. with_promises w (settle w.promises p (Rejected v));
    }

    -- ---- the conditions of the laws of evaluation

    pub lawful_m : IsLawful evaluation_m
    lawful_m = record {
      names = members_apart xs;
      put = λ w x n. record { node = λ y. refl; stamps = refl; begun = λ y. refl; awaits = λ y. refl };
      add_stamp = λ w x. record { nodes = λ y. refl; stamps = refl; begun = λ y. refl; awaits = λ y. refl };
      make_promise = λ w. record { far = record { nodes = λ y. refl; stamps = refl; begun = λ y. refl }; awaits = λ y. refl };
      make_body_promise = λ w x. record { far = record { nodes = λ y. refl; stamps = refl; begun = λ y. refl }; awaits = λ y. refl };
      fulfill = λ w p. record { far = record { nodes = λ y. refl; stamps = refl; begun = λ y. refl }; awaits = λ y. refl };
      reject = λ w p v. record { far = record { nodes = λ y. refl; stamps = refl; begun = λ y. refl }; awaits = λ y. refl };
    }

    abbrev starts : WorldM → List M
    starts w = started w.engine.events

    begun_is : (w : WorldM) (m : M) → evaluation_m.begun w m ≡ is_in (same_member xs) (starts w) m
    begun_is w m = (bodies_begin (same_member xs) only_these Nowhere).begun w.engine m

    pub begun_alike : (v w : WorldM) → starts w ≡ starts v → (m : M) → evaluation_m.begun w m ≡ evaluation_m.begun v m
    begun_alike v w e m = begun_is w m ∙ ap (λ us. is_in (same_member xs) us m) e ∙ sym (begun_is v m)

    call_begins : {v w : WorldM} {c : Call M} {r : Result (CallAnswer V c) Limit} → CallsM v c r w → (starts w ≡ starts v) ⊎ (starts w ≡ starts v ++ module_of c ∷ [])
    call_begins {v} (CallsM.start {m = m} {done = done} {end = end} {s = s} p) = ((bodies_keep (same_member xs) only_these Nowhere).start (state v) s m done end p).starts
    call_begins {v} (CallsM.run {m = m} {end = end} {s = s} p) = ((bodies_keep (same_member xs) only_these Nowhere).run (state v) s m end p).starts

    abbrev IsOk : {A : Type 0} → Result A Limit → Type 0
    IsOk (Ok a) = ⊤
    IsOk (Err limit) = ⊥

    ok_unit : (r : Result (Unit {0}) Limit) → IsOk r → r ≡ Ok tt
    ok_unit (Ok tt) h = refl
    ok_unit (Err limit) h = absurd h

    ok_some : {A : Type 0} (r : Result A Limit) → IsOk r → (a : A) × (r ≡ Ok a)
    ok_some (Ok a) h = (a, refl)
    ok_some (Err limit) h = absurd h

    call_starts : {v w : WorldM} {c : Call M} {r : Result (CallAnswer V c) Limit} → CallsM v c r w → IsOk r → starts w ≡ starts v ++ module_of c ∷ []
    call_starts {v} (CallsM.start {m = m} {done = done} {end = end} {s = s} p) h =
        (bodies_begin (same_member xs) only_these Nowhere).start (state v) s m done (subst (λ e. StartsBody (same_member xs) only_these Nowhere (state v) m done e s) (ok_unit end h) p)
    call_starts {v} (CallsM.run {m = m} {end = end} {s = s} p) h =
        let k = ok_some end h in
        (bodies_begin (same_member xs) only_these Nowhere).run (state v) s m k.0 (subst (λ e. RunsBody (same_member xs) only_these Nowhere (state v) m e s) k.1 p)

    nodes_of : {v w : WorldM} {c : Call M} {r : Result (CallAnswer V c) Limit} → CallsM v c r w → (w.nodes ≡ v.nodes) × (w.stamps ≡ v.stamps)
    nodes_of (CallsM.start p) = (refl, refl)
    nodes_of (CallsM.run p) = (refl, refl)

    begun_keeps : {v w : WorldM} {c : Call M} {r : Result (CallAnswer V c) Limit} → CallsM v c r w → (x : M) → evaluation_m.begun v x ≡ true → evaluation_m.begun w x ≡ true
    begun_keeps {v} {w} {c} p x h = by (call_begins p)
      where
        by : (starts w ≡ starts v) ⊎ (starts w ≡ starts v ++ module_of c ∷ []) → evaluation_m.begun w x ≡ true
        by (inl e) = begun_alike v w e x ∙ h
        by (inr e) = begun_is w x ∙ ap (λ us. is_in (same_member xs) us x) e ∙ any_more (same_member xs) (starts v) (module_of c) x (sym (begun_is v x) ∙ h)

    begins_other : {v w : WorldM} {c : Call M} {r : Result (CallAnswer V c) Limit} → CallsM v c r w → (x : M) → evaluation_m.begun w x ≡ true → (evaluation_m.begun v x ≡ true) ⊎ (x ≡ module_of c)
    begins_other {v} {w} {c} p x h = by (call_begins p)
      where
        on : (is_in (same_member xs) (starts v) x ≡ true) ⊎ (x ≡ module_of c) → (evaluation_m.begun v x ≡ true) ⊎ (x ≡ module_of c)
        on (inl k) = inl (begun_is v x ∙ k)
        on (inr k) = inr k

        by : (starts w ≡ starts v) ⊎ (starts w ≡ starts v ++ module_of c ∷ []) → (evaluation_m.begun v x ≡ true) ⊎ (x ≡ module_of c)
        by (inl e) = inl (sym (begun_alike v w e x) ∙ h)
        by (inr e) = on (any_split (same_member xs) (members_apart xs) (starts v) (module_of c) x (sym (ap (λ us. is_in (same_member xs) us x) e) ∙ sym (begun_is w x) ∙ h))

    pub steady_m : IsSteady evaluation_m CallsM
    steady_m = record {
      call = λ w v c r p. record {
        nodes = λ x. ap (λ ns. ns x) (nodes_of p).0;
        stamps = (nodes_of p).1;
        begun = begun_keeps p;
        awaits = λ x h. refl;
      };
      starts = λ w v c r p. begun_is v (module_of c) ∙ ap (λ us. is_in (same_member xs) us (module_of c)) (call_starts p tt) ∙ any_last (same_member xs) (members_apart xs) (starts w) (module_of c);
    }

    pub begins_its_own_m : BeginsOne evaluation_m CallsM
    begins_its_own_m = record { call = λ w v c r p x h. begins_other p x h }

    pub first_calls_m : MakesFirstCalls evaluation_m CallsM
    first_calls_m = begins_once evaluation_m CallsM lawful_m steady_m begins_its_own_m
