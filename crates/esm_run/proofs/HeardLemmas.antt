-- What was heard of the posts, as the history grows.
use Rattle.std.proofs.Common.{◌≡◌, ◌⊎◌, ℕ, zero, suc, ◌+◌, Bool, true, false, List, [], ◌∷◌, ◌++◌, length, length-append, sym, refl, ap, ◌∙◌, subst, append_assoc, append-nil, Some, None, slice_get, arith, inl, inr}
use Rattle.std.specs.Prelude.{All, Contains, IfSome, Option}
use Rattle.std.specs.Arc.{arc_value}
use Rattle.std.specs.declared.sync.Arc.{Arc}
use Rattle.std.specs.declared.alloc.Global.{Global}
use Rattle.std.proofs.lemmas.Option.{get_or_from_slice_get, slice_get_within}
use Rattle.std.proofs.lemmas.List.Elements.{All-nil, All-cons, All-append, All-contains, All-get_or, All-weaker}
use Rattle.esm_ast.specs.Entries.{requests_of}
use Rattle.esm_ast.specs.Outcome.{OutcomeView, outcome_view}
use Rattle.esm_import_map.specs.ImportMap.{Maps}
use Rattle.esm_loads.specs.Arrival.{AreResolved}
use Rattle.esm_specifier.specs.Targets.{AreTargets}
use Rattle.esm_specifier.specs.declared.targets.Targets.{Targets}
use Rattle.esm_machine.specs.Represents.{MachineState, maps_of}
use Rattle.esm_module_map.specs.declared.event.MapEvent.{MapEvent}
use Rattle.esm_module_map.specs.declared.event.MapEvent.TheVariants.{Begin, Enrol, Ask, Take, Post, Shut}
use Rattle.esm_module_map.specs.declared.event.Why.{Why}
use Rattle.esm_base.specs.Urls.{Url}
use Rattle.esm_module_map.specs.Replay.{Replay, opening, replay, replay_from, step, asked_by, is_numbered}
use Rattle.esm_module_map.specs.declared.reply.Heard.{Heard}
use Rattle.esm_module_map.specs.Fitting.{are_fit}
use Rattle.esm_module_map.specs.Hearing.{IsPostAt}
use Rattle.esm_module_map.specs.Histories.{IsPostIn}
use Rattle.esm_module_map.specs.Laws.{PostsStay}
use Rattle.esm_module_map.specs.Leading.{guide_in}
use Rattle.esm_module_map.specs.Saying.{Begins}
use Rattle.esm_fetch.specs.declared.posted.Posted.{Posted}
use Rattle.esm_fetch.specs.Laws.{PostsResolve}
use Rattle.esm_fetch.specs.Answered.{requests_in}
use Rattle.esm_fetch.specs.Serving.{weight, fits}
use Rattle.esm_run.specs.declared.tickets.Chosen.{Chosen}
use Rattle.esm_run.specs.declared.tickets.Ticket.{Ticket}
use Rattle.esm_run.specs.Inner.Leading.{IsResolved, HasTicket, HearsMore, History, IsFirstPosted, IsHeard}

-- ---- lists

get_first : (xs ys : List ℕ) (k x : ℕ) → slice_get xs k ≡ Some x → slice_get (xs ++ ys) k ≡ Some x
get_first [] ys k x at = cc
get_first (y ∷ xs) ys zero x at = at
get_first (y ∷ xs) ys (suc k) x at = get_first xs ys k x at

module _ {A : Type 0} where
  -- what stands in two lists, one behind the other, stands in the first or in the second
  get_either : (xs ys : List A) (k : ℕ) (x : A) → slice_get (xs ++ ys) k ≡ Some x → (slice_get xs k ≡ Some x) ⊎ ((j : ℕ) × (k ≡ length xs + j) × (slice_get ys j ≡ Some x))
  get_either [] ys k x at = inr (k, omega arith, at)
  get_either (y ∷ xs) ys zero x at = inl at
  get_either (y ∷ xs) ys (suc k) x at = behind (get_either xs ys k x at)
    where
      behind : (slice_get xs k ≡ Some x) ⊎ ((j : ℕ) × (k ≡ length xs + j) × (slice_get ys j ≡ Some x)) → (slice_get (y ∷ xs) (suc k) ≡ Some x) ⊎ ((j : ℕ) × (suc k ≡ length (y ∷ xs) + j) × (slice_get ys j ≡ Some x))
      behind (inl there) = inl there
      behind (inr (j, place, here)) = inr (j, omega (arith, place), here)

  -- what holds at each place
  all_by : (P : A → Type 0) (xs : List A) → ((k : ℕ) (x : A) → slice_get xs k ≡ Some x → P x) → All P xs
  all_by P [] each = All-nil P
  all_by P (x ∷ xs) each = All-cons P x xs (each zero x refl) (all_by P xs (λ k y at. each (suc k) y at))

  pub all_at : (P : A → Type 0) (xs : List A) (k : ℕ) (x : A) → All P xs → slice_get xs k ≡ Some x → P x
  all_at P xs k x all at = subst P (get_or_from_slice_get xs k x x at) (All-get_or P xs k x (slice_get_within xs k x at) all)

-- ---- posts stay where they are

asked_stays : (again : Bool) (s : Replay) (m : ℕ) (url : Url) (why : Why) (k n : ℕ) → slice_get s.posts k ≡ Some n → slice_get (asked_by again s m url why).posts k ≡ Some n
asked_stays true s m url why k n at = at
asked_stays false s m url why k n at = at

module _ {G : Type 0} where
  step_stays : (s : Replay) (e : MapEvent Posted G) (k n : ℕ) → slice_get s.posts k ≡ Some n → slice_get (step weight s e).posts k ≡ Some n
  step_stays s (Begin g) k n at = at
  step_stays s (Enrol c) k n at = at
  step_stays s (Ask c m url why) k n at = asked_stays (is_numbered s url) s m url why k n at
  step_stays s (Take c m) k n at = at
  step_stays s (Post c m p) k n at = get_first s.posts (m ∷ []) k n at
  step_stays s (Shut c) k n at = at

  along : (s : Replay) (es : List (MapEvent Posted G)) (k n : ℕ) → slice_get s.posts k ≡ Some n → slice_get (replay_from weight s es).posts k ≡ Some n
  along s [] k n at = at
  along s (e ∷ es) k n at = along (step weight s e) es k n (step_stays s e k n at)

  split : (s : Replay) (es fs : List (MapEvent Posted G)) → replay_from weight s (es ++ fs) ≡ replay_from weight (replay_from weight s es) fs
  split s [] fs = refl
  split s (e ∷ es) fs = split (step weight s e) es fs

  at_stays : (old new : List (MapEvent Posted G)) (k n : ℕ) → Begins old new → slice_get (replay weight old).posts k ≡ Some n → slice_get (replay weight new).posts k ≡ Some n
  at_stays old new k n (rest, is) at = subst (λ l. slice_get (replay weight l).posts k ≡ Some n) (sym is)
      (subst (λ (r : Replay). slice_get r.posts k ≡ Some n) (sym (split opening old rest)) (along (replay weight old) rest k n at))

  -- ---- what was heard

  post_stays : PostsStay Posted G → (old new : List (MapEvent Posted G)) (k : ℕ) (post : Heard Posted) → Begins old new → IsPostAt weight old k post → IsPostAt weight new k post
  post_stays law old new k post grown at = (at_stays old new k post.number grown at.0, law post.number (arc_value post.payload) old new grown at.1)

  pub hears_nothing : (h : List (MapEvent Posted G)) (known : ℕ) (heard : List (Heard Posted)) → HearsMore h known heard known heard
  hears_nothing h known heard = record { more = []; behind = sym (append-nil heard); counted = omega arith; in_order = λ i post at. cc }

  -- more is heard of
  pub hears_on : PostsStay Posted G → (old new : List (MapEvent Posted G)) (known : ℕ) (heard : List (Heard Posted)) (k : ℕ) (xs : List (Heard Posted)) (k2 : ℕ) (ys : List (Heard Posted))
      → Begins old new → HearsMore old known heard k xs → HearsMore new k xs k2 ys → HearsMore new known heard k2 ys
  hears_on law old new known heard k xs k2 ys grown h r = record {
    more = h.more ++ r.more;
    behind = r.behind ∙ ap (λ l. l ++ r.more) h.behind ∙ append_assoc heard h.more r.more;
    counted = let c = h.counted in let d = r.counted in let e = length-append h.more r.more in omega (arith, c, d, e);
    in_order = λ i post at. either i post (get_either h.more r.more i post at);
  }
    where
      either : (i : ℕ) (post : Heard Posted) → (slice_get h.more i ≡ Some post) ⊎ ((j : ℕ) × (i ≡ length h.more + j) × (slice_get r.more j ≡ Some post)) → IsPostAt weight new (known + i) post
      either i post (inl there) = post_stays law old new (known + i) post grown (h.in_order i post there)
      either i post (inr (j, place, here)) =
          let c = h.counted in
          let same : k + j ≡ known + i = omega (arith, place, c) in
          subst (λ (m : ℕ). IsPostAt weight new m post) same (r.in_order j post here)

  -- what is in the queue is in the history
  pub heard_stay : PostsStay Posted G → (old new : List (MapEvent Posted G)) (posts : List (Heard Posted)) → Begins old new → All (IsHeard old) posts → All (IsHeard new) posts
  heard_stay law old new posts grown all = All-weaker (IsHeard old) (IsHeard new) (λ post there. law post.number (arc_value post.payload) old new grown there) posts all

  pub heard_more : PostsStay Posted G → (old new : List (MapEvent Posted G)) (known : ℕ) (heard : List (Heard Posted)) (k : ℕ) (posts : List (Heard Posted)) → Begins old new → HearsMore new known heard k posts → All (IsHeard old) heard → All (IsHeard new) posts
  heard_more law old new known heard k posts grown h all = subst (All (IsHeard new)) (sym h.behind)
      (All-append (IsHeard new) heard h.more (heard_stay law old new heard grown all) (all_by (IsHeard new) h.more (λ i post at. (h.in_order i post at).1)))

  pub heard_left : PostsStay Posted G → (old new : List (MapEvent Posted G)) (posts left : List (Heard Posted)) → Begins old new → All (IsHeard old) posts → All (Contains posts) left → All (IsHeard new) left
  heard_left law old new posts left grown all among = heard_stay law old new left grown (All-weaker (Contains posts) (IsHeard old) (λ post there. All-contains (IsHeard old) posts post all there) left among)

  -- what was chosen was posted
  pub chosen_post : (h : List (MapEvent Posted G)) (tickets : List Ticket) (posted : List (Heard Posted)) (chosen : Chosen) (left : List (Heard Posted)) → All (IsHeard h) posted → IsFirstPosted tickets posted (Some chosen) left
      → IsPostIn h chosen.ticket.number (arc_value chosen.payload)
  chosen_post h tickets posted chosen left all first =
      let post = first.1 in
      let here : IsHeard h post = all_at (IsHeard h) posted first.0 post all first.3 in
      subst (λ (a : Arc Posted Global). IsPostIn h chosen.ticket.number (arc_value a)) first.5 (subst (λ n. IsPostIn h n (arc_value post.payload)) first.4 here)

-- targets that were posted with what was chosen are those of its URL by the machine's import map
pub resolved : PostsResolve → (m : MachineState) (maps : Maps) (h : History) (ticket : Ticket) (p : Posted) → are_fit weight fits h ≡ true → guide_in h ≡ Some maps → (m.stopped ≡ None → maps_of m ≡ maps) → HasTicket h ticket
    → IsPostIn h ticket.number p → IsResolved m ticket.url p
resolved law m maps h ticket p fit guide same has post = λ live. by (same live) p.targets (law maps ticket.number ticket.url p h fit guide has post)
  where
    by : maps_of m ≡ maps → (o : Option Targets) → IfSome o (AreTargets maps ticket.url (requests_in (outcome_view p.outcome))) → IfSome o (AreResolved (maps_of m) ticket.url (outcome_view p.outcome))
    by own None told = tt
    by own (Some targets) told = λ text script.
        subst (λ (by : Maps). AreTargets by ticket.url (requests_of text.items) targets) (sym own)
        (subst (λ (o : OutcomeView). AreTargets maps ticket.url (requests_in o) targets) script told)

-- ---- the guide

pub begun : (h : History) (g : Arc Maps Global) (maps : Maps) → h ≡ Begin g ∷ [] → arc_value g ≡ maps → guide_in h ≡ Some maps
begun h g maps is by = ap guide_in is ∙ ap Some by
