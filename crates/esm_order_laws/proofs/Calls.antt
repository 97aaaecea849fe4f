-- Bodies and evaluation, where the asked URLs stand in another order.
use Rattle.std.proofs.Common.{◌≡◌, ◌⊎◌, inl, inr, ℕ, true, false, List, [], ◌∷◌, ◌++◌, length, refl, ap, subst, sym, ◌∙◌, map-id}
use Rattle.std.specs.Prelude.{Result, Ok, Err, ⊤}
use Rattle.esm_base.specs.declared.limits.Limit.{Limit}
use Rattle.esm_base.specs.Lists.{IsSameness}
use Rattle.esm_base.specs.Urls.{Url, has, same_url}
use Rattle.esm_realm.proofs.Urls.{has_append, or_cases, own_text, same_text}
use Rattle.esm_values.specs.Value.{Value}
use Rattle.esm_values.specs.Ran.{Ran}
use Rattle.esm_values.specs.Ran.{Ran as ran}
use Rattle.esm_promise.specs.Promises.{Settled}
use Rattle.esm_promise.specs.Renaming.{renamed_settled}
use Rattle.esm_loads.specs.Loading.{Loading}
use Rattle.esm_loads.specs.Host.{Host}
use Rattle.esm_loads.specs.ImportCall.{BeginsImport}
use Rattle.esm_eval.specs.Nodes.{Node, Call, CallAnswer, Start, Run, module_of}
use Rattle.esm_eval.specs.Begins.{BeginsOne}
use Rattle.esm_eval.specs.Naming.{named_node, named_call, mapped_result, Matches, WritesStay, EvaluationFollows}
use Rattle.esm_eval.proofs.Named.{evaluation_follows_names}
use Rattle.esm_rewriting.specs.State.{State}
use Rattle.esm_rewriting.specs.Bodies.{StartsBody, RunsBody, ResumesBody}
use Rattle.esm_rewriting.specs.Naming.{ImportsFollow, BodiesFollow, mapped_end, renamed_outer, renamed_state}
use Rattle.esm_rewriting.proofs.NamedBodies.{follows_names}
use Rattle.esm_world.specs.World.{World, modules_in, with_state}
use Rattle.esm_world.specs.Layers.{CallsForBody, evaluation}
use Rattle.esm_world.proofs.StartsOnce.{starts, begun_is, begun_alike, call_begins, lawful, steady}
use Rattle.esm_order_laws.proofs.Itself.{itself}
use Rattle.esm_order_laws.proofs.Lists.{Alike}
use Rattle.esm_order_laws.proofs.Numbers.{are_named}
use Rattle.esm_order_laws.proofs.Same.{re, value_same, option_same, settled_same, outer_same, state_same}
use Rattle.esm_order_laws.proofs.Moved.{asked_so, image, Good, asked_alike, asked_long, begins_moves}

pub urls_tell_apart : IsSameness same_url
urls_tell_apart = record { own = own_text; equal = same_text }

-- ---- a call begins its own body alone

pub in_last : (us : List Url) (m x : Url) → has (us ++ m ∷ []) x ≡ true → (has us x ≡ true) ⊎ (x ≡ m)
in_last us m x h = by (or_cases (has us x) (has (m ∷ []) x) (sym (has_append us (m ∷ []) x) ∙ h))
  where
    own : (same_url x m ≡ true) ⊎ (false ≡ true) → x ≡ m
    own (inl k) = same_text x m k
    own (inr k) = absurd cc

    by : (has us x ≡ true) ⊎ (has (m ∷ []) x ≡ true) → (has us x ≡ true) ⊎ (x ≡ m)
    by (inl k) = inl k
    by (inr k) = inr (own (or_cases (same_url x m) false k))

begins_other : {v w : World} {c : Call Url} {r : Result (CallAnswer (Value Url) c) Limit} → CallsForBody v c r w → (x : Url) → evaluation.begun w x ≡ true
    → (evaluation.begun v x ≡ true) ⊎ (x ≡ module_of c)
begins_other {v} {w} {c} p x h = by (call_begins p).starts_are
  where
    on : (has (starts v) x ≡ true) ⊎ (x ≡ module_of c) → (evaluation.begun v x ≡ true) ⊎ (x ≡ module_of c)
    on (inl k) = inl (begun_is v x ∙ k)
    on (inr k) = inr k

    by : (starts w ≡ starts v) ⊎ (starts w ≡ starts v ++ module_of c ∷ []) → (evaluation.begun v x ≡ true) ⊎ (x ≡ module_of c)
    by (inl e) = inl (sym (begun_alike v w e x) ∙ h)
    by (inr e) = on (in_last (starts v) (module_of c) x (sym (ap (λ xs. has xs x) e) ∙ sym (begun_is w x) ∙ h))

pub begins_its_own : BeginsOne evaluation CallsForBody
begins_its_own = record { call = λ w v c r p x h. begins_other p x h }

-- ---- renaming by the same names

pub node_same : (n : Node Url (Value Url)) → named_node itself (λ (v : Value Url). v) n ≡ n
node_same n = λ i. record n {
  error = option_same (λ (v : Value Url). v) (λ v. refl) n.error i;
  cycle_root = option_same (λ (u : Url). u) (λ u. refl) n.cycle_root i;
  waits = map-id n.waits i;
  waiters = map-id n.waiters i;
}

abbrev pub named_result : (c : Call Url) → Result (CallAnswer (Value Url) c) Limit → Result (CallAnswer (Value Url) (named_call itself (λ (v : Value Url). v) c)) Limit
named_result c r = mapped_result itself (λ (v : Value Url). v) c r

pub start_same : (m : Url) (done : ℕ) (end : Result (Unit {0}) Limit) → end ≡ named_result (Start m done) end
start_same m done (Ok tt) = refl
start_same m done (Err why) = refl

pub run_same : (m : Url) (end : Result (Ran (Value Url)) Limit) → mapped_end re end ≡ named_result (Run m) end
run_same m (Ok ran.Normal) = refl
run_same m (Ok (ran.Thrown v)) = ap (λ u. Ok (ran.Thrown u)) (value_same v)
run_same m (Err why) = refl

module _ (xs ys : List Url) (alike : Alike xs ys) (long : length ys ≡ length xs) where
  abbrev pub Fine : Loading → Type 0
  Fine l = Good xs ys alike long l

  abbrev pub seen : Loading → Loading
  seen l = image xs ys alike long l

  abbrev pub host_seen : Host → Host
  host_seen h = record h { imports = seen h.imports }

  imports_follow : ImportsFollow itself seen Fine BeginsImport BeginsImport
  imports_follow o x m text p end g b =
      let r = begins_moves xs ys alike long g b in (
        subst (λ k. BeginsImport k m text p end (renamed_outer itself seen x)) (sym (outer_same seen o))
            (subst (λ k. BeginsImport (host_seen o) m text p end k) (sym (outer_same seen x)) r.0),
        r.1,
      )

  bodies : BodiesFollow itself seen Fine same_url same_url modules_in modules_in BeginsImport BeginsImport
  bodies = follows_names itself seen Fine same_url same_url modules_in modules_in BeginsImport BeginsImport urls_tell_apart urls_tell_apart
      (λ l g. are_named l (asked_so xs ys alike long l.asked) (asked_alike xs ys alike long l g) (asked_long xs ys alike long l g)) imports_follow

  -- ---- worlds

  abbrev pub world_seen : World → World
  world_seen w = record w { loading = seen w.loading }

  abbrev pub Fine_world : World → Type 0
  Fine_world w = Fine w.loading

  abbrev S : Type 0
  S = State Url Loading

  abbrev state_seen : S → S
  state_seen s = record s { outer = host_seen s.outer }

  abbrev renamed_seen : S → S
  renamed_seen s = renamed_state itself seen s

  starts_moves : {s after : S} {m : Url} {done : ℕ} {end : Result (Unit {0}) Limit} → Fine s.outer.imports → StartsBody same_url modules_in BeginsImport s m done end after
      → StartsBody same_url modules_in BeginsImport (state_seen s) m done end (state_seen after) × Fine after.outer.imports
  starts_moves {s} {after} {m} {done} {end} g p =
      let r = bodies.start s after m done end g p in (
        subst (λ t. StartsBody same_url modules_in BeginsImport t m done end (state_seen after)) (state_same seen s)
            (subst (λ t. StartsBody same_url modules_in BeginsImport (renamed_seen s) m done end t) (state_same seen after) r.0),
        r.1,
      )

  runs_moves : {s after : S} {m : Url} {end : Result (Ran (Value Url)) Limit} → Fine s.outer.imports → RunsBody same_url modules_in BeginsImport s m end after
      → RunsBody same_url modules_in BeginsImport (state_seen s) m (mapped_end re end) (state_seen after) × Fine after.outer.imports
  runs_moves {s} {after} {m} {end} g p =
      let r = bodies.run s after m end g p in (
        subst (λ t. RunsBody same_url modules_in BeginsImport t m (mapped_end re end) (state_seen after)) (state_same seen s)
            (subst (λ t. RunsBody same_url modules_in BeginsImport (renamed_seen s) m (mapped_end re end) t) (state_same seen after) r.0),
        r.1,
      )

  pub resumes_moves : {s after : S} {m : Url} {how : Settled (Value Url)} {end : Result (Unit {0}) Limit} → Fine s.outer.imports
      → ResumesBody same_url modules_in BeginsImport s m how end after → ResumesBody same_url modules_in BeginsImport (state_seen s) m how end (state_seen after) × Fine after.outer.imports
  resumes_moves {s} {after} {m} {how} {end} g p =
      let r = bodies.resume s after m how end g p in (
        subst (λ t. ResumesBody same_url modules_in BeginsImport t m how end (state_seen after)) (state_same seen s)
            (subst (λ h. ResumesBody same_url modules_in BeginsImport (renamed_seen s) m h end (state_seen after)) (settled_same how)
            (subst (λ t. ResumesBody same_url modules_in BeginsImport (renamed_seen s) m (renamed_settled (λ (u : Url). u) how) end t) (state_same seen after) r.0)),
        r.1,
      )

  call_moves : {w after : World} {c : Call Url} {r : Result (CallAnswer (Value Url) c) Limit} → Fine_world w → CallsForBody w c r after
      → CallsForBody (world_seen w) (named_call itself (λ (v : Value Url). v) c) (named_result c r) (world_seen after) × Fine_world after
  call_moves {w} g (CallsForBody.start {m = m} {done = done} {end = end} {s = s} p) =
      let r = starts_moves g p in
      (subst (λ e. CallsForBody (world_seen w) (Start m done) e (world_seen (with_state w s))) (start_same m done end) (CallsForBody.start r.0), r.1)
  call_moves {w} g (CallsForBody.run {m = m} {end = end} {s = s} p) =
      let r = runs_moves g p in
      (subst (λ e. CallsForBody (world_seen w) (Run m) e (world_seen (with_state w s))) (run_same m end) (CallsForBody.run r.0), r.1)

  matches : Matches itself (λ (v : Value Url). v) Fine_world evaluation evaluation world_seen
  matches = record {
    sameness = urls_tell_apart;
    alike = λ x y. refl;
    targets = λ w g x. sym (map-id (evaluation.targets w x));
    awaits = λ w g x. refl;
    node = λ w g x. sym (node_same (w.nodes x));
    unnamed = λ w g y e. cc;
    stamps = λ w g. sym (map-id w.stamps);
    begun = λ w g x. refl;
    next_promise = λ w g. refl;
    put = λ w g x n. ap (evaluation.put (world_seen w) x) (node_same n);
    add_stamp = λ w g x. refl;
    make_promise = λ w g. refl;
    make_body_promise = λ w g x. refl;
    fulfill = λ w g p. refl;
    reject = λ w g p v. refl;
  }

  stays : WritesStay itself (λ (v : Value Url). v) Fine_world evaluation evaluation world_seen
  stays = record {
    put = λ w g x n. g;
    add_stamp = λ w g x. g;
    make_promise = λ w g. g;
    make_body_promise = λ w g x. g;
    fulfill = λ w g p. g;
    reject = λ w g p v. g;
  }

  pub evaluation_moves : EvaluationFollows itself (λ (v : Value Url). v) Fine_world evaluation evaluation world_seen (λ (u : Url). ⊤) CallsForBody CallsForBody
  evaluation_moves = evaluation_follows_names itself (λ (v : Value Url). v) Fine_world evaluation evaluation world_seen (λ (u : Url). ⊤) CallsForBody CallsForBody
      lawful steady begins_its_own matches stays (λ w after c r g due p. call_moves g p)
