-- A record more: what is known keeps its URL, so the world that is stood for is the same.
use Rattle.std.proofs.Common.{◌≡◌, ◌⊎◌, inl, inr, ℕ, zero, suc, ◌<◌, ◌≤◌, Bool, true, false, List, [], ◌∷◌, ◌++◌, map, All, Option, Some, None, refl, ap, subst, sym, ◌∙◌, arith, length}
use Rattle.std.specs.Prelude.{◌||◌, nat_lt, slice_get, IfSome, ⊤}
use Rattle.std.specs.List.{AllByRecursion}
use Rattle.std.specs.Option.{option_map}
use Rattle.std.proofs.lemmas.Bool.Decides.{nat_tests}
use Rattle.std.proofs.lemmas.List.Elements.{recursion_from_All}
use Rattle.std.proofs.lemmas.Slice.Eq.{bytes_eq-Decides}
use Rattle.esm_base.specs.Lists.{EachOnce}
use Rattle.esm_base.specs.Urls.{Url, has, same_url}
use Rattle.esm_values.specs.Value.{Value, Undefined, Truth, Text, Func, Error, Namespace, Promise}
use Rattle.esm_values.specs.Naming.{renamed_value}
use Rattle.esm_promise.specs.Promises as promise
use Rattle.esm_promise.specs.Promises.{Settled, Fulfilled, Rejected, Pending, Done, Promises, Job, job}
use Rattle.esm_promise.specs.Reactions.{Reaction, Await, BodyEnd, Loaded, Evaluated, EntryLoaded, EntryDone}
use Rattle.esm_promise.specs.Renaming.{renamed_reaction, renamed_settled, renamed_promise, renamed_job, renamed}
use Rattle.esm_env.specs.Cells.{Cells}
use Rattle.esm_env.specs.Naming.{renamed_in, renamed_cells}
use Rattle.esm_loads.specs.UrlTable.{Entries}
use Rattle.esm_loads.specs.Loading.{Loading}
use Rattle.esm_eval.specs.Nodes.{Node}
use Rattle.esm_eval.specs.Naming.{named_node}
use Rattle.esm_eval.specs.Table.{Table, node_by, node_at}
use Rattle.esm_eval.specs.Keeping.{IsNodeOf}
use Rattle.esm_rewriting.specs.Fits.{FitStanding, Knows, of_body}
use Rattle.esm_rewriting.specs.State.{Event, Begins, Ends, Throws, Standing}
use Rattle.esm_rewriting.specs.Naming.{renamed_event, renamed_standing, renamed_engine}
use Rattle.esm_world.specs.World.{EntryState, modules_in}
use Rattle.esm_world.specs.Fits.{IsLinkedModule, IsKnownValue, FitReaction, FitSettled, FitPromise, FitPromises, FitEvent, FitEntry, AreModules}
use Rattle.esm_world.proofs.FitBodies.{known_out}
use Rattle.esm_values.specs.Numbering.{numbering, is_total}
use Rattle.esm_machine.specs.Held.{Held, EntryHeld, Underway, Ended, Failed, renamed_entry, world_of, IsHeld, with_record, RecordsAreAdded}
use Rattle.esm_values.proofs.Numbered.{numbers_urls}
use Rattle.esm_machine.specs.Inner.Numbers.{url, number, url_number, number_url}
use Rattle.esm_machine.proofs.Alike.{rest_alike}

-- ---- lists

got : {A : Type 0} (xs : List A) (k : ℕ) → k < length xs → (x : A) × (slice_get xs k ≡ Some x)
got [] k h = absurd (omega (arith, h))
got (x ∷ xs) zero h = (x, refl)
got (x ∷ xs) (suc k) h = got xs k (omega (arith, h))

got_still : {A : Type 0} (xs ys : List A) (k : ℕ) (x : A) → slice_get xs k ≡ Some x → slice_get (xs ++ ys) k ≡ Some x
got_still [] ys k x h = cc
got_still (y ∷ xs) ys zero x h = h
got_still (y ∷ xs) ys (suc k) x h = got_still xs ys k x h

none_behind : {A : Type 0} (xs : List A) (k : ℕ) → length xs ≤ k → slice_get xs k ≡ None
none_behind [] k h = refl
none_behind (x ∷ xs) zero h = absurd (omega (arith, h))
none_behind (x ∷ xs) (suc k) h = none_behind xs k (omega (arith, h))

or_true : (a b : Bool) → (a || b) ≡ true → (a ≡ true) ⊎ (b ≡ true)
or_true true b h = inl refl
or_true false b h = inr h

or_false : (a b : Bool) → a ≡ false → b ≡ false → (a || b) ≡ false
or_false true b h k = cc
or_false false b h k = k

first_false : (a b : Bool) → (a || b) ≡ false → a ≡ false
first_false true b h = cc
first_false false b h = refl

rest_false : (a b : Bool) → (a || b) ≡ false → b ≡ false
rest_false true b h = cc
rest_false false b h = h

-- a URL of the list has a place
placed : (us : List Url) (u : Url) → has us u ≡ true → (k : ℕ) × (slice_get us k ≡ Some u)
placed [] u h = absurd (let e : false ≡ true = h in cc)
placed (v ∷ us) u h = by (or_true (same_url u v) (has us u) h) (placed us u)
  where
    by : (same_url u v ≡ true) ⊎ (has us u ≡ true) → (has us u ≡ true → (k : ℕ) × (slice_get us k ≡ Some u)) → (k : ℕ) × (slice_get (v ∷ us) k ≡ Some u)
    by (inl s) rest = (0, ap (λ (w : Url). Some w) (sym ((bytes_eq-Decides u v).0 s)))
    by (inr j) rest = let r = rest j in (suc r.0, r.1)

not_same : (b : Bool) → (b ≡ true → ⊥) → b ≡ false
not_same true h = absurd (h refl)
not_same false h = refl

-- with a URL behind them that isn't among them, they differ still
pub one_more : (us : List Url) (u : Url) → EachOnce same_url us → has us u ≡ false → EachOnce same_url (us ++ u ∷ [])
one_more [] u d n = (refl, tt)
one_more (v ∷ us) u d n = (behind us d.0, one_more us u d.1 (rest_false (same_url u v) (has us u) n))
  where
    apart : same_url v u ≡ false
    apart = not_same (same_url v u) (λ e. absurd (let f : same_url u v ≡ false = first_false (same_url u v) (has us u) n in
        let s : u ≡ v = sym ((bytes_eq-Decides v u).0 e) in
        let t : same_url u v ≡ true = (bytes_eq-Decides u v).1 s in cc))

    behind : (ws : List Url) → has ws v ≡ false → has (ws ++ u ∷ []) v ≡ false
    behind [] h = or_false (same_url v u) false apart refl
    behind (w ∷ ws) h = or_false (same_url v w) (has (ws ++ u ∷ []) v) (first_false (same_url v w) (has ws v) h) (behind ws (rest_false (same_url v w) (has ws v) h))

lt_or : (m n : ℕ) → (m < n) ⊎ (n ≤ m)
lt_or m n = by (nat_lt m n) refl
  where
    by : (b : Bool) → nat_lt m n ≡ b → (m < n) ⊎ (n ≤ m)
    by true e = inl (grind (arith, nat_tests))
    by false e = inr (grind (arith, nat_tests))

-- ---- names

module _ (us : List Url) (u : Url) (once : EachOnce same_url us) (new : has us u ≡ false) where
  abbrev More : List Url
  More = us ++ u ∷ []

  pub same_url_of : (m : ℕ) → m < length us → url us m ≡ url More m
  same_url_of m h =
      let g = got us m h in
      numbers_urls.begins us m g.0 once g.1 ∙ sym (numbers_urls.begins More m g.0 (one_more us u once new) (got_still us (u ∷ []) m g.0 g.1))

  -- the number of a URL of the list is below its length
  below : (m : ℕ) → has us (url us m) ≡ true → m < length us
  below m h =
      let p = placed us (url us m) h in
      let e : url us p.0 ≡ url us m = numbers_urls.begins us p.0 (url us m) once p.1 in
      let same : p.0 ≡ m = sym (number_url us p.0) ∙ ap (number us) e ∙ number_url us m in
      let l : p.0 < length us = by (lt_or p.0 (length us)) p.1 in
      subst (λ k. k < length us) same l
    where
      by : {k : ℕ} {w : Url} → (k < length us) ⊎ (length us ≤ k) → slice_get us k ≡ Some w → k < length us
      by (inl l) e = l
      by {k} (inr l) e = let n : slice_get us k ≡ None = none_behind us k l in absurd cc

  same_number : (v : Url) → number us v < length us → number us v ≡ number More v
  same_number v h =
      let e : url More (number us v) ≡ v = sym (same_url_of (number us v) h) ∙ url_number us v in
      sym (number_url More (number us v)) ∙ ap (number More) e

  behind_still : (v : Url) → length us ≤ number us v → length us ≤ number More v
  behind_still v h = by (lt_or (number More v) (length us))
    where
      by : (number More v < length us) ⊎ (length us ≤ number More v) → length us ≤ number More v
      by (inl l) =
          let e : url us (number More v) ≡ v = same_url_of (number More v) l ∙ url_number More v in
          let n : number More v ≡ number us v = sym (number_url us (number More v)) ∙ ap (number us) e in
          absurd (omega (arith, h, l, n))
      by (inr l) = l

  -- ---- what is known

  module _ (linked : List Url) (entries : Entries) (have : (v : Url) → has linked v ≡ true → has us v ≡ true) where
    abbrev F : ℕ → Url
    F m = url us m

    abbrev G : ℕ → Url
    G m = url More m

    name_alike : (m : ℕ) → IsLinkedModule linked entries (F m) → F m ≡ G m
    name_alike m h = same_url_of m (below m (have (F m) h))

    value_alike : (v : Value ℕ) → IsKnownValue linked entries (renamed_value F v) → renamed_value F v ≡ renamed_value G v
    value_alike Undefined h = refl
    value_alike (Truth b) h = refl
    value_alike (Text t) h = refl
    value_alike (Func m i) h = ap (λ w. Func w i) (name_alike m h.0)
    value_alike (Error e) h = refl
    value_alike (Namespace m) h = ap (λ w. Namespace w) (name_alike m h)
    value_alike (Promise p) h = refl

    reaction_alike : (r : Reaction ℕ) → FitReaction linked entries (renamed_reaction F r) → renamed_reaction F r ≡ renamed_reaction G r
    reaction_alike (Await m) h = ap (λ w. Await w) (name_alike m h)
    reaction_alike (BodyEnd m) h = ap (λ w. BodyEnd w) (name_alike m h)
    reaction_alike (Loaded load) h = refl
    reaction_alike (Evaluated load) h = refl
    reaction_alike EntryLoaded h = refl
    reaction_alike EntryDone h = refl

    reactions_alike : (rs : List (Reaction ℕ)) → AllByRecursion (FitReaction linked entries) (map (renamed_reaction F) rs) → map (renamed_reaction F) rs ≡ map (renamed_reaction G) rs
    reactions_alike [] h = refl
    reactions_alike (r ∷ rs) h = λ i. reaction_alike r h.0 i ∷ reactions_alike rs h.1 i

    settled_alike : (how : Settled (Value ℕ)) → FitSettled linked entries (renamed_settled F how) → renamed_settled F how ≡ renamed_settled G how
    settled_alike (Fulfilled v) h = ap (λ w. Fulfilled w) (value_alike v h)
    settled_alike (Rejected v) h = ap (λ w. Rejected w) (value_alike v h)

    promise_alike : (p : promise.Promise (Reaction ℕ) (Value ℕ)) → FitPromise linked entries (renamed_promise F p) → renamed_promise F p ≡ renamed_promise G p
    promise_alike (Pending rs) h = ap (λ qs. Pending qs) (reactions_alike rs h)
    promise_alike (Done how) h = ap (λ k. Done k) (settled_alike how h)

    all_alike : (ps : List (promise.Promise (Reaction ℕ) (Value ℕ))) → AllByRecursion (FitPromise linked entries) (map (renamed_promise F) ps) → map (renamed_promise F) ps ≡ map (renamed_promise G) ps
    all_alike [] h = refl
    all_alike (p ∷ ps) h = λ i. promise_alike p h.0 i ∷ all_alike ps h.1 i

    jobs_alike : (js : List (Job (Reaction ℕ))) → AllByRecursion (λ (j : Job (Reaction Url)). FitReaction linked entries j.reaction) (map (renamed_job F) js) → map (renamed_job F) js ≡ map (renamed_job G) js
    jobs_alike [] h = refl
    jobs_alike (j ∷ js) h = λ i. job j.promise (reaction_alike j.reaction h.0 i) ∷ jobs_alike js h.1 i

    promises_alike : (ps : Promises (Reaction ℕ) (Value ℕ)) → FitPromises linked entries (renamed F ps) → renamed F ps ≡ renamed G ps
    promises_alike ps h = λ i. record { all = all_alike ps.all h.all i; jobs = jobs_alike ps.jobs h.jobs i }

    names_alike : (ms : List ℕ) → AllByRecursion (IsLinkedModule linked entries) (map F ms) → map F ms ≡ map G ms
    names_alike [] h = refl
    names_alike (m ∷ ms) h = λ i. name_alike m h.0 i ∷ names_alike ms h.1 i

    all_names_alike : (ms : List ℕ) → All (IsLinkedModule linked entries) (map F ms) → map F ms ≡ map G ms
    all_names_alike ms h = names_alike ms (recursion_from_All (IsLinkedModule linked entries) (map F ms) h)

    -- ---- nodes and cells

    error_alike : (o : Option (Value ℕ)) → IfSome (option_map (renamed_value F) o) (IsKnownValue linked entries) → option_map (renamed_value F) o ≡ option_map (renamed_value G) o
    error_alike None h = refl
    error_alike (Some v) h = ap (λ w. Some w) (value_alike v h)

    root_alike : (o : Option ℕ) → IfSome (option_map F o) (IsLinkedModule linked entries) → option_map F o ≡ option_map G o
    root_alike None h = refl
    root_alike (Some m) h = ap (λ w. Some w) (name_alike m h)

    abbrev NodeF : Node ℕ (Value ℕ) → Node Url (Value Url)
    NodeF n = named_node (numbering us) (renamed_value F) n

    abbrev NodeG : Node ℕ (Value ℕ) → Node Url (Value Url)
    NodeG n = named_node (numbering More) (renamed_value G) n

    node_alike : (n : Node ℕ (Value ℕ)) → IsNodeOf (IsLinkedModule linked entries) (IsKnownValue linked entries) (NodeF n) → NodeF n ≡ NodeG n
    node_alike n h = λ i. record (NodeF n) {
      error = error_alike n.error h.error i;
      cycle_root = root_alike n.cycle_root h.root i;
      waits = all_names_alike n.waits h.waits i;
      waiters = all_names_alike n.waiters h.waiters i;
    }

    nodes_alike : (t : Table) → length t.nodes ≤ length us → (v : Url) → IsNodeOf (IsLinkedModule linked entries) (IsKnownValue linked entries) (NodeF (node_at t (number us v)))
        → NodeF (node_at t (number us v)) ≡ NodeG (node_at t (number More v))
    nodes_alike t few v h = by (lt_or (number us v) (length us))
      where
        by : (number us v < length us) ⊎ (length us ≤ number us v) → NodeF (node_at t (number us v)) ≡ NodeG (node_at t (number More v))
        by (inl l) = node_alike (node_at t (number us v)) h ∙ ap (λ k. NodeG (node_at t k)) (same_number v l)
        by (inr l) =
            let k : length us ≤ number More v = behind_still v l in
            ap (λ o. NodeF (node_by o)) (none_behind t.nodes (number us v) (omega (arith, few, l)))
            ∙ sym (ap (λ o. NodeG (node_by o)) (none_behind t.nodes (number More v) (omega (arith, few, k))))

    cell_alike : (o : Option (Value ℕ)) → ((v : Value Url) → option_map (renamed_value F) o ≡ Some v → IsKnownValue linked entries v) → option_map (renamed_value F) o ≡ option_map (renamed_value G) o
    cell_alike None h = refl
    cell_alike (Some v) h = ap (λ w. Some w) (value_alike v (h (renamed_value F v) refl))

    cells_alike : (cells : Cells ℕ) → ((m : ℕ) (x : List ℕ) → length us ≤ m → cells m x ≡ None) → (v : Url) (x : List ℕ)
        → ((w : Value Url) → renamed_cells (numbering us) cells v x ≡ Some w → IsKnownValue linked entries w)
        → renamed_cells (numbering us) cells v x ≡ renamed_cells (numbering More) cells v x
    cells_alike cells far v x h = at_us ∙ by (lt_or (number us v) (length us)) ∙ sym (ap (renamed_in (numbering More) cells x) ((is_total More v).1))
      where
        at_us : renamed_cells (numbering us) cells v x ≡ option_map (renamed_value F) (cells (number us v) x)
        at_us = ap (renamed_in (numbering us) cells x) ((is_total us v).1)

        by : (number us v < length us) ⊎ (length us ≤ number us v) → option_map (renamed_value F) (cells (number us v) x) ≡ option_map (renamed_value G) (cells (number More v) x)
        by (inl l) = cell_alike (cells (number us v) x) (λ w e. h w (at_us ∙ e)) ∙ ap (λ k. option_map (renamed_value G) (cells k x)) (same_number v l)
        by (inr l) = ap (λ o. option_map (renamed_value F) o) (far (number us v) x l) ∙ sym (ap (λ o. option_map (renamed_value G) o) (far (number More v) x (behind_still v l)))

    -- ---- bodies

    event_alike : (e : Event ℕ) → FitEvent linked entries (renamed_event (numbering us) e) → renamed_event (numbering us) e ≡ renamed_event (numbering More) e
    event_alike (Begins m) h = ap (λ w. Begins w) (name_alike m h)
    event_alike (Ends m) h = ap (λ w. Ends w) (name_alike m h)
    event_alike (Throws m) h = ap (λ w. Throws w) (name_alike m h)

    events_alike : (es : List (Event ℕ)) → AllByRecursion (FitEvent linked entries) (map (renamed_event (numbering us)) es) → map (renamed_event (numbering us)) es ≡ map (renamed_event (numbering More)) es
    events_alike [] h = refl
    events_alike (e ∷ es) h = λ i. event_alike e h.0 i ∷ events_alike es h.1 i

    entry_alike : (e : EntryHeld) → FitEntry linked entries (renamed_entry F e) → renamed_entry F e ≡ renamed_entry G e
    entry_alike Underway h = refl
    entry_alike Ended h = refl
    entry_alike (Failed v) h = ap (λ w. EntryState.Failed w) (value_alike v h)

    module _ (h : AreModules linked entries) (l : Loading) (e : l.entries ≡ entries) where
      abbrev KnowsIn : Value Url → Type 0
      KnowsIn v = Knows modules_in (λ l. has linked) l v

      rest_same : (v : Value ℕ) → KnowsIn (renamed_value F v) → renamed_value F v ≡ renamed_value G v
      rest_same v k = value_alike v (known_out linked entries h l e (renamed_value F v) k)

      standing_alike : (ss : List (Standing ℕ)) → FitStanding modules_in (λ l. has linked) l (map (renamed_standing (numbering us)) ss)
          → map (renamed_standing (numbering us)) ss ≡ map (renamed_standing (numbering More)) ss
      standing_alike [] k = refl
      standing_alike (s ∷ ss) k = λ i.
          record { at = name_alike s.at k.0 i; done = s.done; rest = rest_alike (renamed_value F) (renamed_value G) KnowsIn ⊤ rest_same (of_body true) s.rest k.1 i }
          ∷ standing_alike ss k.2 i

-- ---- all together

module _ (h : Held) (linked : List Url) (u : Url) (k : IsHeld h linked) (new : has h.seen.urls u ≡ false) where
  abbrev Us : List Url
  Us = h.seen.urls

  abbrev Table' : Entries
  Table' = h.seen.loading.entries

  engine_alike : renamed_engine (numbering Us) h.engine ≡ renamed_engine (numbering (Us ++ u ∷ [])) h.engine
  engine_alike = λ i. record {
    events = events_alike Us u k.covered.ids.apart new linked Table' k.covered.ids.have_ids h.engine.events k.fits.events i;
    log = h.engine.log;
    steps = h.engine.steps;
    standing = standing_alike Us u k.covered.ids.apart new linked Table' k.covered.ids.have_ids k.fits.modules h.seen.loading refl h.engine.standing k.fits.state.standing i;
    trace = h.engine.trace;
    stopped = h.engine.stopped;
  }

  known_cell : (v : Url) (x : List ℕ) (w : Value Url) → renamed_cells (numbering Us) h.cells v x ≡ Some w → IsKnownValue linked Table' w
  known_cell v x w e = known_out linked Table' k.fits.modules h.seen.loading refl w (k.fits.state.cells v x w e)

  world_alike : world_of h linked ≡ world_of (with_record h u) linked
  world_alike = λ i. record {
    loading = h.seen.loading;
    linked = linked;
    nodes = λ v. nodes_alike Us u k.covered.ids.apart new linked Table' k.covered.ids.have_ids h.nodes k.covered.nodes v (k.fits.nodes v) i;
    stamps = all_names_alike Us u k.covered.ids.apart new linked Table' k.covered.ids.have_ids h.nodes.stamps k.fits.stamps i;
    promises = promises_alike Us u k.covered.ids.apart new linked Table' k.covered.ids.have_ids h.promises k.fits.state.whole.promises i;
    errors = h.errors;
    cells = λ v x. cells_alike Us u k.covered.ids.apart new linked Table' k.covered.ids.have_ids h.cells k.covered.cells v x (known_cell v x) i;
    engine = engine_alike i;
    entry = entry_alike Us u k.covered.ids.apart new linked Table' k.covered.ids.have_ids h.entry k.fits.entry i;
  }

pub records_are_added : RecordsAreAdded
records_are_added h linked u k new = sym (world_alike h linked u k new)
