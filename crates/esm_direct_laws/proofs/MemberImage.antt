-- A world of members as a world with a loading that has these modules: evaluation in the one is that in the other.
use Rattle.std.proofs.Common.{◌≡◌, ℕ, suc, ◌+◌, ◌<◌, Bool, true, false, cond, List, [], ◌∷◌, length, map, Option, Some, None, refl, ap, subst, sym, ◌∙◌, arith}
use Rattle.std.proofs.lemmas.List.{map-append}
use Rattle.std.specs.Prelude.{Result, Ok, Err, ⊤, ◌||◌}
use Rattle.std.specs.List.{list_any}
use Rattle.esm_base.specs.declared.limits.Limit.{Limit}
use Rattle.esm_base.specs.Lists.{IsSameness}
use Rattle.esm_base.specs.Urls.{Text, Url, same_url}
use Rattle.esm_realm.proofs.Urls.{own_text, same_text}
use Rattle.esm_values.specs.Value.{Value, Undefined}
use Rattle.esm_values.specs.Ran.{Ran}
use Rattle.esm_values.specs.Ran.{Ran as ran}
use Rattle.esm_values.specs.Naming.{renamed_value}
use Rattle.esm_promise.specs.Promises.{Promises, Fulfilled, Rejected}
use Rattle.esm_promise.specs.Reactions.{Reaction, BodyEnd}
use Rattle.esm_promise.specs.Renaming.{renamed}
use Rattle.esm_promise.proofs.Renamed as promises
use Rattle.esm_env.specs.Naming.{AreNamed, renamed_cells}
use Rattle.esm_env.specs.Modules.{Modules, entries}
use Rattle.esm_ast.specs.Entries.{entries_of}
use Rattle.esm_tree.specs.Syntax.{Item}
use Rattle.esm_loads.specs.Loading.{Loading}
use Rattle.esm_loads.specs.ImportCall.{BeginsImport}
use Rattle.esm_link.specs.Link.{targets, targets_from}
use Rattle.esm_eval.specs.Nodes.{Node, Call, CallAnswer, Start, Run, untouched, was_entered}
use Rattle.esm_eval.specs.Naming.{named_node, named_call, mapped_result, Matches, WritesStay, EvaluationFollows}
use Rattle.esm_eval.proofs.Named.{evaluation_follows_names}
use Rattle.esm_rewriting.specs.State.{Event, Begins, Ends, Throws, begins_at}
use Rattle.esm_rewriting.specs.Naming.{ImportsFollow, BodiesFollow, mapped_end, renamed_engine, renamed_event}
use Rattle.esm_rewriting.proofs.NamedBodies.{follows_names}
use Rattle.esm_world.specs.World.{World, EntryState, modules_in}
use Rattle.esm_world.specs.World.{EntryState as entry_state}
use Rattle.esm_world.specs.Layers.{CallsForBody, evaluation}
use Rattle.esm_direct_laws.proofs.Members.{Member, member_of, names, same_member, members_apart, back, only}
use Rattle.esm_direct_laws.proofs.MemberWorld.{M, V, EntryM, Underway, Ended, Failed, WorldM, Nothing, state, with_state, put_node, only_these, CallsM, evaluation_m, lawful_m, steady_m, begins_its_own_m}
use Rattle.esm_order_laws.proofs.QuietMoves.{Nowhere}

urls_apart : IsSameness same_url
urls_apart = record { own = own_text; equal = same_text }

module _ (xs : List Url) (g : Modules (Member xs)) where
  abbrev pub name : M xs → Url
  name m = m.url

  abbrev pub value : V xs → Value Url
  value v = renamed_value (names xs).name v

  abbrev pub node_by : (M xs → Node (M xs) (V xs)) → Option (M xs) → Node Url (Value Url)
  node_by nodes None = untouched
  node_by nodes (Some m) = named_node (names xs) value (nodes m)

  abbrev pub entry_seen : EntryM xs → EntryState
  entry_seen Underway = entry_state.Underway
  entry_seen Ended = entry_state.Ended
  entry_seen (Failed v) = entry_state.Failed (value v)

  -- with this loading
  abbrev pub image : Loading → WorldM xs → World
  image l w = record {
    loading = l;
    linked = map name w.linked;
    nodes = λ u. node_by w.nodes (member_of xs u);
    stamps = map name w.stamps;
    promises = renamed (names xs).name w.promises;
    errors = w.errors;
    cells = renamed_cells (names xs) w.cells;
    engine = renamed_engine (names xs) w.engine;
    entry = entry_seen w.entry;
  }

  module _ (l : Loading) (named : AreNamed (names xs) g (modules_in l)) where
    abbrev all_good : Nothing xs → Type 0
    all_good i = ⊤

    abbrev to_l : Nothing xs → Loading
    to_l i = l

    no_imports : ImportsFollow {M = M xs} {N = Url} (names xs) to_l all_good Nowhere BeginsImport
    no_imports o x m text p how good b = absurd b

    pub bodies : BodiesFollow (names xs) to_l all_good (same_member xs) same_url (only_these xs g) modules_in Nowhere BeginsImport
    bodies = follows_names (names xs) to_l all_good (same_member xs) same_url (only_these xs g) modules_in Nowhere BeginsImport (members_apart xs) urls_apart (λ i good. named) no_imports

    -- ---- what is read

    targets_named : (m : M xs) (i : ℕ) (rs : List Text) → ((j : ℕ) → j < length rs → (modules_in l).target m.url (i + j) ≡ (g.target m (i + j)).url) → targets_from (modules_in l) m.url i rs ≡ map name (targets_from g m i rs)
    targets_named m i [] t = refl
    targets_named m i (r ∷ rs) t =
        let here : (modules_in l).target m.url i ≡ (g.target m i).url = subst (λ n. (modules_in l).target m.url n ≡ (g.target m n).url) (omega arith) (t 0 (omega arith)) in
        let rest = targets_named m (suc i) rs (λ j lt. subst (λ n. (modules_in l).target m.url n ≡ (g.target m n).url) (omega arith) (t (suc j) (omega (arith, lt)))) in
        λ n. here n ∷ rest n

    targets_are : (m : M xs) → targets (modules_in l) m.url ≡ map name (targets g m)
    targets_are m =
        ap (λ (items : List Item). targets_from (modules_in l) m.url 0 (entries_of items).requests) (named.tree m)
        ∙ targets_named m 0 (entries g m).requests (λ j lt. subst (λ n. (modules_in l).target m.url n ≡ (g.target m n).url) (omega arith) (named.target m j lt))

    begins_same : (e : Event (M xs)) (m : M xs) → begins_at same_url m.url (renamed_event (names xs) e) ≡ begins_at (same_member xs) m e
    begins_same (Begins x) m = refl
    begins_same (Ends x) m = refl
    begins_same (Throws x) m = refl

    begun_same : (es : List (Event (M xs))) (m : M xs) → list_any (begins_at same_url m.url) (map (renamed_event (names xs)) es) ≡ list_any (begins_at (same_member xs) m) es
    begun_same [] m = refl
    begun_same (e ∷ es) m = λ i. begins_same e m i || begun_same es m i

    node_is : (nodes : M xs → Node (M xs) (V xs)) (m : M xs) → node_by nodes (member_of xs m.url) ≡ named_node (names xs) value (nodes m)
    node_is nodes m = ap (node_by nodes) (back xs m)

    node_none : (nodes : M xs → Node (M xs) (V xs)) (u : Url) → member_of xs u ≡ None → was_entered (node_by nodes (member_of xs u)).phase ≡ false
    node_none nodes u e = ap (λ o. was_entered (node_by nodes o).phase) e

    -- ---- what is written

    put_same : (nodes : M xs → Node (M xs) (V xs)) (m : M xs) (n : Node (M xs) (V xs)) (u : Url) (o : Option (M xs)) → member_of xs u ≡ o
        → cond (same_url m.url u) (named_node (names xs) value n) (node_by nodes o) ≡ node_by (put_node xs nodes m n) o
    put_same nodes m n u None e = by (same_url m.url u) refl
      where
        by : (b : Bool) → same_url m.url u ≡ b → cond b (named_node (names xs) value n) untouched ≡ untouched
        by true k = let some : Some m ≡ None = sym (back xs m) ∙ ap (member_of xs) (same_text m.url u k) ∙ e in cc
        by false k = refl
    put_same nodes m n u (Some x) e =
        ap (λ v. cond (same_url m.url v) (named_node (names xs) value n) (named_node (names xs) value (nodes x))) (sym (only xs u x e)) ∙ by (same_url m.url x.url)
      where
        by : (b : Bool) → cond b (named_node (names xs) value n) (named_node (names xs) value (nodes x)) ≡ named_node (names xs) value (cond b n (nodes x))
        by true = refl
        by false = refl

    abbrev seen : WorldM xs → World
    seen w = image l w

    abbrev Ps : Type 0
    Ps = Promises (Reaction (M xs)) (V xs)

    with_ps : (w : WorldM xs) {p q : Promises (Reaction Url) (Value Url)} → p ≡ q → record (seen w) { promises = p } ≡ record (seen w) { promises = q }
    with_ps w e = ap (λ ps. record (seen w) { promises = ps }) e

    abbrev Fine : WorldM xs → Type 0
    Fine w = ⊤

    matches : Matches (names xs) value Fine (evaluation_m xs g) evaluation seen
    matches = record {
      sameness = urls_apart;
      alike = λ x y. refl;
      targets = λ w good x. targets_are x;
      awaits = λ w good x. ap (λ (items : List Item). (entries_of items).awaits) (named.tree x);
      node = λ w good x. node_is w.nodes x;
      unnamed = λ w good u e. node_none w.nodes u e;
      stamps = λ w good. refl;
      begun = λ w good x. begun_same w.engine.events x;
      next_promise = λ w good. (promises.follows_names (names xs).name).next w.promises;
      put = λ w good x n. λ i. record (seen w) { nodes = λ u. put_same w.nodes x n u (member_of xs u) refl i };
      add_stamp = λ w good x. ap (λ us. record (seen w) { stamps = us }) (sym (map-append name w.stamps (x ∷ [])));
      make_promise = λ w good. with_ps w (sym ((promises.follows_names (names xs).name).makes w.promises []));
      make_body_promise = λ w good x. with_ps w (sym ((promises.follows_names (names xs).name).makes w.promises (BodyEnd x ∷ [])));
      fulfill = λ w good p. with_ps w (sym ((promises.follows_names (names xs).name).settles w.promises p (Fulfilled Undefined)));
      reject = λ w good p v. with_ps w (sym ((promises.follows_names (names xs).name).settles w.promises p (Rejected v)));
    }

    stays : WritesStay (names xs) value Fine (evaluation_m xs g) evaluation seen
    stays = record {
      put = λ w good x n. tt;
      add_stamp = λ w good x. tt;
      make_promise = λ w good. tt;
      make_body_promise = λ w good x. tt;
      fulfill = λ w good p. tt;
      reject = λ w good p v. tt;
    }

    -- ---- calls

    start_same : (m : M xs) (done : ℕ) (end : Result (Unit {0}) Limit) → end ≡ mapped_result (names xs) value (Start m done) end
    start_same m done (Ok tt) = refl
    start_same m done (Err why) = refl

    run_same : (m : M xs) (end : Result (Ran (V xs)) Limit) → mapped_end value end ≡ mapped_result (names xs) value (Run m) end
    run_same m (Ok ran.Normal) = refl
    run_same m (Ok (ran.Thrown v)) = refl
    run_same m (Err why) = refl

    call_moves : {w after : WorldM xs} {c : Call (M xs)} {r : Result (CallAnswer (V xs) c) Limit} → CallsM xs g w c r after
        → CallsForBody (seen w) (named_call (names xs) value c) (mapped_result (names xs) value c r) (seen after)
    call_moves {w} (CallsM.start {m = m} {done = done} {end = end} {s = s} p) =
        subst (λ e. CallsForBody (seen w) (Start m.url done) e (seen (with_state xs w s))) (start_same m done end) (CallsForBody.start (bodies.start (state xs w) s m done end tt p).0)
    call_moves {w} (CallsM.run {m = m} {end = end} {s = s} p) =
        subst (λ e. CallsForBody (seen w) (Run m.url) e (seen (with_state xs w s))) (run_same m end) (CallsForBody.run (bodies.run (state xs w) s m end tt p).0)

    pub evaluation_moves : EvaluationFollows (names xs) value Fine (evaluation_m xs g) evaluation seen (λ (m : M xs). ⊤) (CallsM xs g) CallsForBody
    evaluation_moves = evaluation_follows_names (names xs) value Fine (evaluation_m xs g) evaluation seen (λ (m : M xs). ⊤) (CallsM xs g) CallsForBody
        (lawful_m xs g) (steady_m xs g) (begins_its_own_m xs g) matches stays (λ w after c r good due p. (call_moves p, tt))
