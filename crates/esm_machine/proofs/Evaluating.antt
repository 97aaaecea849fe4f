-- What evaluation reads and writes by ids is what it reads and writes in the world.
use Rattle.std.proofs.Common.{◌≡◌, ℕ, zero, suc, Bool, true, false, cond, List, [], ◌∷◌, map, Some, None, refl, ap, subst, sym, ◌∙◌, nat_eq, arith}
use Rattle.std.specs.Prelude.{◌||◌, slice_get, Result, Ok, Err}
use Rattle.esm_base.specs.declared.limits.Limit.{Limit}
use Rattle.esm_values.specs.Ran as ran
use Rattle.esm_values.specs.Ran.{Ran}
use Rattle.std.specs.List.{list_any}
use Rattle.std.proofs.lemmas.List.{map-append}
use Rattle.std.proofs.lemmas.Bool.Decides.{nat_tests}
use Rattle.esm_base.specs.Urls.{Url, same_url}
use Rattle.esm_values.specs.Value.{Value, Undefined}
use Rattle.esm_values.specs.Errors.{Errors}
use Rattle.esm_values.specs.Naming.{renamed_value}
use Rattle.esm_values.specs.Numbering.{numbering, is_total}
use Rattle.esm_promise.specs.Promises.{Fulfilled, Rejected}
use Rattle.esm_promise.specs.Reactions.{BodyEnd}
use Rattle.esm_promise.proofs.Renamed.{follows_names}
use Rattle.esm_env.specs.Cells.{Cells}
use Rattle.esm_env.specs.Modules.{entries}
use Rattle.esm_link.specs.Link.{targets_from}
use Rattle.esm_eval.specs.Nodes.{Node, Call, CallAnswer, Start, Run, untouched}
use Rattle.esm_eval.specs.Evaluation.{Evaluation}
use Rattle.esm_eval.specs.Naming.{named_node, named_call, mapped_result, Matches, WritesStay, CallsFollow}
use Rattle.esm_eval.proofs.Named.{evaluation_follows_names}
use Rattle.esm_eval.specs.Table as table
use Rattle.esm_eval.specs.Table.{Table, node_by, node_at, with_node}
use Rattle.esm_eval.specs.Calls.{CodeCalls}
use Rattle.esm_eval.specs.Host as host
use Rattle.esm_eval.specs.Host.{Outside}
use Rattle.esm_eval.specs.declared.host.EvalHost.{EvalHost}
use Rattle.esm_rewriting.specs.State.{State, Engine, Event, Begins, Ends, Throws, begins_at}
use Rattle.esm_rewriting.specs.Naming.{renamed_event, renamed_state, mapped_end}
use Rattle.esm_world.specs.World.{World, modules_in, with_state}
use Rattle.esm_world.specs.Layers as layers
use Rattle.esm_machine.specs.Seen.{Seen, names, modules}
use Rattle.esm_machine.specs.Following.{seen_loading}
use Rattle.esm_machine.specs.Held.{Held, EntryHeld, world_by}
use Rattle.esm_machine.specs.Evaluating.{value_by, IsLinkedNumber, held_in, world_in, by_ids, state_in, ActsById, HasUrls, EvaluationIsOfTheWorld}
use Rattle.esm_machine.specs.Inner.Numbers.{url, number, url_number, number_url}
use Rattle.esm_machine.proofs.Following.{same_names, urls_tell_apart, bodies_are_of_the_world}

-- ---- nodes

zero_suc : (y : ℕ) → nat_eq 0 (suc y) ≡ false
zero_suc y = grind (arith, nat_tests)

suc_zero : (x : ℕ) → nat_eq (suc x) 0 ≡ false
suc_zero x = grind (arith, nat_tests)

suc_suc : (x y : ℕ) → nat_eq (suc x) (suc y) ≡ nat_eq x y
suc_suc x y = grind (arith, nat_tests)

abbrev N : Type 0
N = Node ℕ (Value ℕ)

node_put : (ns : List N) (x : ℕ) (n : N) (y : ℕ) → node_by (slice_get (table.put_at ns x n) y) ≡ cond (nat_eq x y) n (node_by (slice_get ns y))
node_put [] zero n zero = refl
node_put [] zero n (suc y) = sym (ap (λ b. cond b n untouched) (zero_suc y))
node_put [] (suc x) n zero = sym (ap (λ b. cond b n untouched) (suc_zero x))
node_put [] (suc x) n (suc y) = node_put [] x n y ∙ sym (ap (λ b. cond b n untouched) (suc_suc x y))
node_put (m ∷ ms) zero n zero = refl
node_put (m ∷ ms) zero n (suc y) = sym (ap (λ b. cond b n (node_by (slice_get ms y))) (zero_suc y))
node_put (m ∷ ms) (suc x) n zero = sym (ap (λ b. cond b n m) (suc_zero x))
node_put (m ∷ ms) (suc x) n (suc y) = node_put ms x n y ∙ sym (ap (λ b. cond b n (node_by (slice_get ms y))) (suc_suc x y))

cond_map : {A B : Type 0} (f : A → B) (b : Bool) (x y : A) → cond b (f x) (f y) ≡ f (cond b x y)
cond_map f true x y = refl
cond_map f false x y = refl

module _ (s : Seen) where
  abbrev name : ℕ → Url
  name m = (names s).name m

  -- ---- targets, and which bodies have begun

  targets_named : (x i : ℕ) (rs : List (List ℕ)) → targets_from (modules_in s.loading) (name x) i rs ≡ map name (targets_from (modules s) x i rs)
  targets_named x i [] = refl
  targets_named x i (r ∷ rs) = λ j. sym (url_number s.urls ((modules_in s.loading).target (name x) i)) j ∷ targets_named x (suc i) rs j

  begins_named : (x : ℕ) (e : Event ℕ) → begins_at same_url (name x) (renamed_event (names s) e) ≡ begins_at nat_eq x e
  begins_named x (Begins m) = same_names s.urls x m
  begins_named x (Ends m) = refl
  begins_named x (Throws m) = refl

  begun_named : (x : ℕ) (es : List (Event ℕ)) → list_any (begins_at same_url (name x)) (map (renamed_event (names s)) es) ≡ list_any (begins_at nat_eq x) es
  begun_named x [] = refl
  begun_named x (e ∷ es) = λ i. begins_named x e i || begun_named x es i

  -- ---- writes

  same_number : (x : ℕ) (v : Url) → same_url (name x) v ≡ nat_eq x (number s.urls v)
  same_number x v = ap (same_url (name x)) (sym (url_number s.urls v)) ∙ same_names s.urls x (number s.urls v)

  abbrev named : Node ℕ (Value ℕ) → Node Url (Value Url)
  named n = named_node (names s) (renamed_value name) n

  put_named : (t : Table) (x : ℕ) (n : Node ℕ (Value ℕ)) (v : Url)
      → cond (same_url (name x) v) (named n) (named (node_at t (number s.urls v))) ≡ named (node_at (with_node t x n) (number s.urls v))
  put_named t x n v =
      ap (λ b. cond b (named n) (named (node_at t (number s.urls v)))) (same_number x v)
      ∙ cond_map named (nat_eq x (number s.urls v)) n (node_at t (number s.urls v))
      ∙ ap named (sym (node_put t.nodes x n (number s.urls v)))

-- ---- as evaluation sees them

module _ {B : Type 0} (seen : B → Seen) (errors : B → Errors) (cells : B → Cells ℕ) (engine : B → Engine ℕ) (entry : EntryHeld) (linked : List Url) where
  abbrev held : EvalHost B → Held
  held w = held_in seen errors cells engine entry w

  abbrev world : EvalHost B → World
  world w = world_in seen errors cells engine entry linked w

  abbrev ids : Evaluation ℕ (Value ℕ) (EvalHost B)
  ids = by_ids seen errors cells engine

  abbrev state : Outside B → State ℕ Seen
  state o = state_in seen errors cells engine o

  abbrev Acts : Outside B → (c : Call ℕ) → Result (CallAnswer (Value ℕ) c) Limit → Outside B → Type 0
  Acts o c r v = ActsById seen errors cells engine o c r v

  module _ (urls : List Url) where
    abbrev Good : EvalHost B → Type 0
    Good w = (seen w.bodies).urls ≡ urls

    abbrev value : Value ℕ → Value Url
    value v = renamed_value (url urls) v

    pub matches : Matches (numbering urls) value Good ids layers.evaluation world
    matches = record {
      sameness = urls_tell_apart;
      alike = same_names urls;
      targets = λ w g x. subst (λ us. layers.evaluation.targets (world w) (url us x) ≡ map (url us) (ids.targets w x)) g
          (targets_named (seen w.bodies) x 0 (entries (modules (seen w.bodies)) x).requests);
      awaits = λ w g x. subst (λ us. layers.evaluation.awaits (world w) (url us x) ≡ ids.awaits w x) g refl;
      node = λ w g x. subst (λ us. layers.evaluation.node (world w) (url us x) ≡ named_node (numbering us) (renamed_value (url us)) (ids.node w x)) g
          (ap (λ k. named_node (numbering (seen w.bodies).urls) (renamed_value (url (seen w.bodies).urls)) (node_at w.nodes k)) (number_url (seen w.bodies).urls x));
      unnamed = λ w g y e. let no : Some (number urls y) ≡ None = sym ((is_total urls y).1) ∙ e in absurd cc;
      stamps = λ w g. subst (λ us. layers.evaluation.stamps (world w) ≡ map (url us) (ids.stamps w)) g refl;
      begun = λ w g x. subst (λ us. layers.evaluation.begun (world w) (url us x) ≡ ids.begun w x) g (begun_named (seen w.bodies) x (engine w.bodies).events);
      next_promise = λ w g. (follows_names (url (seen w.bodies).urls)).next w.promises;
      put = λ w g x n. subst (λ us. layers.evaluation.put (world w) (url us x) (named_node (numbering us) (renamed_value (url us)) n) ≡ world (ids.put w x n)) g
          (λ i. record (world w) { nodes = λ v. put_named (seen w.bodies) w.nodes x n v i });
      add_stamp = λ w g x. subst (λ us. layers.evaluation.add_stamp (world w) (url us x) ≡ world (ids.add_stamp w x)) g
          (λ i. record (world w) { stamps = sym (map-append (url (seen w.bodies).urls) w.nodes.stamps (x ∷ [])) i });
      make_promise = λ w g. λ i. record (world w) { promises = sym ((follows_names (url (seen w.bodies).urls)).makes w.promises []) i };
      make_body_promise = λ w g x. subst (λ us. layers.evaluation.make_body_promise (world w) (url us x) ≡ world (ids.make_body_promise w x)) g
          (λ i. record (world w) { promises = sym ((follows_names (url (seen w.bodies).urls)).makes w.promises (BodyEnd x ∷ [])) i });
      fulfill = λ w g p. λ i. record (world w) { promises = sym ((follows_names (url (seen w.bodies).urls)).settles w.promises p (Fulfilled Undefined)) i };
      reject = λ w g p v. subst (λ us. layers.evaluation.reject (world w) p (renamed_value (url us) v) ≡ world (ids.reject w p v)) g
          (λ i. record (world w) { promises = sym ((follows_names (url (seen w.bodies).urls)).settles w.promises p (Rejected v)) i });
    }

    pub writes_stay : WritesStay (numbering urls) value Good ids layers.evaluation world
    writes_stay = record {
      put = λ w g x n. g;
      add_stamp = λ w g x. g;
      make_promise = λ w g. g;
      make_body_promise = λ w g x. g;
      fulfill = λ w g p. g;
      reject = λ w g p v. g;
    }

  -- ---- calls for bodies

  module _ (urls : List Url) where
    abbrev ByUrls : EvalHost B → World
    ByUrls w = world_by urls (held w) linked

    state_after : (w v : EvalHost B) → v.nodes ≡ w.nodes → with_state (ByUrls w) (renamed_state (numbering urls) seen_loading (state (host.outside v))) ≡ ByUrls v
    state_after w v e = λ i. record (ByUrls v) {
      nodes = λ u. named_node (numbering urls) (renamed_value (url urls)) (node_at (sym e i) (number urls u));
      stamps = map (url urls) (sym e i).stamps;
    }

    ran_same : (m : ℕ) (r : Result (Ran (Value ℕ)) Limit) → mapped_end (value urls) r ≡ mapped_result (numbering urls) (value urls) (Run m) r
    ran_same m (Ok ran.Normal) = refl
    ran_same m (Ok (ran.Thrown v)) = refl
    ran_same m (Err why) = refl

    start_same : (m done : ℕ) (r : Result (Unit {0}) Limit) → r ≡ mapped_result (numbering urls) (value urls) (Start m done) r
    start_same m done (Ok u) = refl
    start_same m done (Err why) = refl

    -- a call by ids, between worlds by these URLs
    call_by_urls : (w v : EvalHost B) (c : Call ℕ) (r : Result (CallAnswer (Value ℕ) c) Limit) → Good urls w → v.nodes ≡ w.nodes → Acts (host.outside w) c r (host.outside v)
        → layers.CallsForBody (ByUrls w) (named_call (numbering urls) (value urls) c) (mapped_result (numbering urls) (value urls) c r) (ByUrls v) × Good urls v
    call_by_urls w v (Start m done) r g e a =
        let b = (bodies_are_of_the_world urls).start (state (host.outside w)) (state (host.outside v)) m done r g a in (
          subst (λ x. layers.CallsForBody (ByUrls w) (Start (url urls m) done) (mapped_result (numbering urls) (value urls) (Start m done) r) x) (state_after w v e)
              (subst (λ q. layers.CallsForBody (ByUrls w) (Start (url urls m) done) q (with_state (ByUrls w) (renamed_state (numbering urls) seen_loading (state (host.outside v))))) (start_same m done r)
              (layers.CallsForBody.start b.0)),
          b.1,
        )
    call_by_urls w v (Run m) r g e a =
        let b = (bodies_are_of_the_world urls).run (state (host.outside w)) (state (host.outside v)) m r g a in (
          subst (λ x. layers.CallsForBody (ByUrls w) (Run (url urls m)) (mapped_result (numbering urls) (value urls) (Run m) r) x) (state_after w v e)
              (subst (λ q. layers.CallsForBody (ByUrls w) (Run (url urls m)) q (with_state (ByUrls w) (renamed_state (numbering urls) seen_loading (state (host.outside v))))) (ran_same m r)
              (layers.CallsForBody.run b.0)),
          b.1,
        )

    calls_follow : (acts : CodeCalls (Outside B) Limit) → ((o v : Outside B) (c : Call ℕ) (r : Result (CallAnswer (Value ℕ) c) Limit) → acts o c r v → Acts o c r v)
        → CallsFollow (numbering urls) (value_by urls) (Good urls) ids layers.evaluation world (IsLinkedNumber urls linked) (host.calls acts) layers.CallsForBody
    calls_follow acts are w v c r g due a =
        let b = call_by_urls w v c r g a.0 (are (host.outside w) (host.outside v) c r a.1) in (
          subst (λ us. layers.CallsForBody (world_by us (held w) linked) (named_call (numbering urls) (value urls) c) (mapped_result (numbering urls) (value urls) c r) (world v)) (sym g)
              (subst (λ us. layers.CallsForBody (ByUrls w) (named_call (numbering urls) (value urls) c) (mapped_result (numbering urls) (value urls) c r) (world_by us (held v) linked)) (sym b.1) b.0),
          b.1,
        )

pub evaluation_is_of_the_world : {B : Type 0} (seen : B → Seen) (errors : B → Errors) (cells : B → Cells ℕ) (engine : B → Engine ℕ) (acts : CodeCalls (Outside B) Limit)
    → EvaluationIsOfTheWorld seen errors cells engine acts
evaluation_is_of_the_world seen errors cells engine acts entry linked urls are lawful steady one =
    evaluation_follows_names (numbering urls) (value_by urls) (HasUrls seen errors cells engine urls) (by_ids seen errors cells engine) layers.evaluation (world_in seen errors cells engine entry linked)
    (IsLinkedNumber urls linked) (host.calls acts) layers.CallsForBody lawful steady one
    (matches seen errors cells engine entry linked urls) (writes_stay seen errors cells engine entry linked urls) (calls_follow seen errors cells engine entry linked urls acts are)
