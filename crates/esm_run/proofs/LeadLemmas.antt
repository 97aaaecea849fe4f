-- What was posted stays so, and what one delivery more leads to.
use Rattle.std.proofs.lemmas.Bool.Decides.{nat_tests}
use Rattle.std.specs.List.{list_any, position_or_len}
use Rattle.std.proofs.Common.{Bool, false, cond, not, nat_lt, position, map, ◌||◌, ◌≡◌, ℕ, zero, suc, ◌+◌, ◌<◌, ◌≤◌, List, [], ◌∷◌, ◌++◌, sym, refl, ap, ◌∙◌, subst, append_assoc, append-nil, Option, Some, None, slice_get, arith, get_or, length, true, Ok, Err, inl, eqb-true}
use Rattle.std.specs.Prelude.{All, Contains, OnOk, Result, remove, take, drop}
use mathlib.Core.Bool.{true≢false}
use Rattle.std.proofs.lemmas.List.Quantifiers.{position-Some}
use Rattle.std.proofs.lemmas.List.Elements.{All-nil, All-cons, All-append, All-take, All-drop, All-contains, All-contains_itself, All-from_get_or, All-weaker}
use Rattle.esm_base.specs.declared.memory.Memory.{Memory}
use Rattle.esm_base.specs.Urls.{Url, has, same_url}
use Rattle.esm_realm.proofs.Urls.{or_left, or_true, own_text}
use Rattle.esm_ast.specs.Outcome.{OutcomeView, outcome_view}
use Rattle.esm_import_map.specs.ImportMap.{Maps}
use Rattle.esm_ast.specs.Deliveries.{Delivery, completed}
use Rattle.esm_world.specs.World.{opening}
use Rattle.esm_loads.specs.LoadsView.{every_form}
use Rattle.esm_world.specs.Laws.{AsksStay, HasStandardRun, OpenAsks}
use Rattle.esm_machine.specs.Machine.{MachineParts, state_of}
use Rattle.esm_machine.specs.Represents.{Represents, RepresentsOn, ShownBy}
use Rattle.esm_module_map.specs.declared.event.MapEvent.{MapEvent}
use Rattle.esm_module_map.specs.declared.reply.Heard.{Heard}
use Rattle.esm_module_map.specs.Replay.{replay}
use Rattle.esm_module_map.specs.Laws.{UrlsStay, PostsStay}
use Rattle.esm_module_map.specs.Histories.{IsPostIn, asks_by}
use Rattle.esm_module_map.specs.Saying.{Begins, Stays}
use Rattle.esm_fetch.specs.declared.posted.Posted.{Posted}
use Rattle.esm_fetch.specs.Serving.{weight, Served, Serves, ServedBy}
use Rattle.esm_ports.specs.declared.asked.Asked.{Asked}
use Rattle.esm_fetch.specs.Answered.{Contents}
use Rattle.esm_run.specs.declared.tickets.Ticket.{Ticket}
use Rattle.esm_run.specs.Inner.Leading.{is_awaited, is_for, IsFirstPosted, HasTicket, WasPosted, IsLed, IsLedShort, IsOpenAsk, IsStandardAsk, AsksOn, LeadsOn}
use Rattle.esm_run.proofs.SharedLemmas.{all_posted, cut_of}

module _ {G : Type 0} where
  pub begins_on : (a b c : List (MapEvent Posted G)) → Begins a b → Begins b c → Begins a c
  begins_on a b c p q = (p.0 ++ q.0, q.1 ∙ ap (λ l. l ++ q.0) p.1 ∙ append_assoc a p.0 q.0)

  pub begins_same : (a : List (MapEvent Posted G)) → Begins a a
  begins_same a = ([], sym (append-nil a))

  pub stays_on : (n m : ℕ) (a b c : List (MapEvent Posted G)) → m ≡ n → Stays weight n a b → Stays weight m b c → Stays weight n a c
  stays_on n m a b c same p q = let r : Stays weight n b c = subst (λ k. Stays weight k b c) same q in
      (begins_on a b c p.0 r.0, (r.1.0 ∙ p.1.0, r.1.1 ∙ p.1.1, r.1.2 ∙ p.1.2, r.1.3 ∙ p.1.3))

  pub tickets_stay : UrlsStay Posted G weight → (old new : List (MapEvent Posted G)) (ts : List Ticket) → Begins old new → All (HasTicket old) ts → All (HasTicket new) ts
  tickets_stay law old new ts b all = All-weaker (HasTicket old) (HasTicket new) (λ x h. law x.number x.url old new b h) ts all

  -- one ticket more, by the answer to its ask
  pub ticket_of : (h : List (MapEvent Posted G)) (ts longer : List Ticket) (t : Ticket) → longer ≡ ts ++ t ∷ [] → HasTicket h t → All (HasTicket h) ts → All (HasTicket h) longer
  ticket_of h ts longer t more own all = subst (All (HasTicket h)) (sym more) (All-append (HasTicket h) ts (t ∷ []) all (All-cons (HasTicket h) t [] own (All-nil (HasTicket h))))

  -- the caller has asked for these too
  pub asks_these : (maps : Maps) (entry : Url) (trace : Bool) (taken : List Delivery) (c : ℕ) (old new : List (MapEvent Posted G)) (urls : List Url) → asks_by weight c new ≡ asks_by weight c old ++ urls → All (IsStandardAsk maps entry trace taken) urls → AsksOn maps entry trace taken c old new
  asks_these maps entry trace taken c old new urls more these all = subst (All (IsStandardAsk maps entry trace taken)) (sym more) (All-append (IsStandardAsk maps entry trace taken) (asks_by weight c old) urls all these)

  -- what the caller asked for, where it has asked for nothing since
  pub asks_same : (maps : Maps) (entry : Url) (trace : Bool) (taken : List Delivery) (c : ℕ) (old new : List (MapEvent Posted G)) → asks_by weight c new ≡ asks_by weight c old → AsksOn maps entry trace taken c old new
  asks_same maps entry trace taken c old new same all = subst (All (IsStandardAsk maps entry trace taken)) (sym same) all

-- ---- what is taken

module _ {G : Type 0} where
  -- the history has grown
  pub led_stays : UrlsStay Posted G weight → PostsStay Posted G → (maps : Maps) (entry : Url) (trace : Bool) (c : ℕ) (old new : List (MapEvent Posted G)) (m : MachineParts) (taken : List Delivery) → Begins old new → AsksOn maps entry trace taken c old new
      → IsLed maps entry trace c old m taken → IsLed maps entry trace c new m taken
  led_stays urls posts maps entry trace c old new m taken b on led = record {
    driven = record { represents = led.driven.represents; delivered = all_posted urls posts old new taken b led.driven.delivered };
    asks = on led.asks;
  }

  pub short_of : (maps : Maps) (entry : Url) (trace : Bool) (c : ℕ) (h : List (MapEvent Posted G)) (m : MachineParts) (taken : List Delivery) → IsLed maps entry trace c h m taken → IsLedShort maps entry trace c h taken
  short_of maps entry trace c h m taken led = record { cut = cut_of (WasPosted h) maps entry trace m taken led.driven; asks = led.asks }

  -- one delivery more
  pub led_more : AsksStay → HasStandardRun → (maps : Maps) (entry : Url) (trace : Bool) (c : ℕ) (h : List (MapEvent Posted G)) (m after : MachineParts) (taken longer : List Delivery) (u : Url) (n : ℕ) (p : Posted) (o : OutcomeView)
      → RepresentsOn (state_of m) u o (state_of after) → slice_get (replay weight h).urls n ≡ Some u → IsPostIn h n p → outcome_view p.outcome ≡ o → longer ≡ taken ++ completed u o ∷ []
      → IsLed maps entry trace c h m taken → IsLed maps entry trace c h after longer
  led_more stay has_run maps entry trace c h m after taken longer u n p o stands has post outcome more led =
      let d : Delivery = completed u o in
      let before = has_run maps every_form entry trace taken led.driven.represents.0 led.driven.represents.1 in
      record {
        driven = record {
          represents = subst (Represents maps entry trace (state_of after)) (sym more) (stands maps entry trace taken led.driven.represents);
          delivered = subst (All (WasPosted h)) (sym more) (All-append (WasPosted h) taken (d ∷ []) led.driven.delivered
              (All-cons (WasPosted h) d [] (record { number = n; payload = p; has_url = has; posted = post; outcome = outcome }) (All-nil (WasPosted h))));
        };
        asks = subst (λ l. All (IsStandardAsk maps entry trace l) (asks_by weight c h)) (sym more)
            (All-weaker (IsStandardAsk maps entry trace taken) (IsStandardAsk maps entry trace (taken ++ d ∷ [])) (λ url q what longer_run. stay maps every_form entry trace taken (d ∷ []) before.0 what url before.1 longer_run (q before.0 before.1)) (asks_by weight c h) led.asks);
      }

  -- at the start
  pub led_new : (maps : Maps) (entry : Url) (trace : Bool) (c : ℕ) (h : List (MapEvent Posted G)) (m : MachineParts) (taken : List Delivery) → Represents maps entry trace (state_of m) [] → taken ≡ [] → asks_by weight c h ≡ [] → IsLed maps entry trace c h m taken
  led_new maps entry trace c h m taken represents none unasked = rw none (record {
    driven = record { represents = represents; delivered = All-nil (WasPosted h) };
    asks = subst (All (IsStandardAsk maps entry trace [])) (sym unasked) (All-nil (IsStandardAsk maps entry trace []));
  })

  pub short_new : (maps : Maps) (entry : Url) (trace : Bool) (c : ℕ) (h : List (MapEvent Posted G)) (taken : List Delivery) → taken ≡ [] → asks_by weight c h ≡ [] → IsLedShort maps entry trace c h taken
  short_new maps entry trace c h taken none unasked = rw none (record {
    cut = record { world = opening maps every_form entry trace; runs = refl; delivered = All-nil (WasPosted h) };
    asks = subst (All (IsStandardAsk maps entry trace [])) (sym unasked) (All-nil (IsStandardAsk maps entry trace []));
  })

-- ---- open asks

-- each of some URLs is among them
pub has_at : (asks : List Url) (k : ℕ) (d : Url) → k < length asks → has asks (get_or asks k d) ≡ true
has_at [] k d within = absurd (omega arith)
has_at (u ∷ us) zero d within = or_left (same_url u u) (has us u) (own_text u)
has_at (u ∷ us) (suc k) d within = or_true (same_url (get_or us k d) u) (has us (get_or us k d)) (has_at us k d (omega arith))

-- what the machine asks for is asked for by the standard run
pub open_standard : OpenAsks → (maps : Maps) (entry : Url) (trace : Bool) (m : MachineParts) (taken : List Delivery) (url : Url) → Represents maps entry trace (state_of m) taken → IsOpenAsk m url → IsStandardAsk maps entry trace taken url
open_standard law maps entry trace m taken url represents is_open = λ what run. (law maps every_form entry trace taken what url run (is_open maps entry trace taken what represents run)).0

-- one of the asks is open
pub open_at : (m : MachineParts) (asks : List Url) (k : ℕ) (d url : Url) → ShownBy (state_of m) (λ what. asks ≡ what.asks) → k < length asks → url ≡ get_or asks k d → IsOpenAsk m url
open_at m asks k d url shows within is = λ maps entry trace taken what represents run.
    subst (λ l. has l url ≡ true) (shows maps entry trace taken what represents run) (subst (λ u. has asks u ≡ true) (sym is) (has_at asks k d within))

-- each of the machine's asks is asked for by the standard run
pub open_urls : OpenAsks → (maps : Maps) (entry : Url) (trace : Bool) (m : MachineParts) (taken : List Delivery) (asks : List Url) → Represents maps entry trace (state_of m) taken → ShownBy (state_of m) (λ what. asks ≡ what.asks)
    → All (IsStandardAsk maps entry trace taken) asks
open_urls law maps entry trace m taken asks represents shows =
    All-from_get_or (IsStandardAsk maps entry trace taken) asks [] (λ i within. open_standard law maps entry trace m taken (get_or asks i []) represents (open_at m asks i [] (get_or asks i []) shows within refl))

-- some of a list, one behind the other
pub cut_all : {X : Type 0} (P : X → Type 0) (xs some : List X) (from many : ℕ) → some ≡ take many (drop from xs) → All P xs → All P some
cut_all P xs some from many is all = subst (All P) (sym is) (All-take P many (drop from xs) (All-drop P from xs all))

few_taken : {X : Type 0} (many : ℕ) (xs : List X) → length (take many xs) ≤ many
few_taken zero xs = omega arith
few_taken (suc many) [] = omega arith
few_taken (suc many) (x ∷ xs) = let few = few_taken many xs in omega (arith, few)

pub few_cut : {X : Type 0} (xs some : List X) (from many : ℕ) → some ≡ take many (drop from xs) → length some ≤ many
few_cut xs some from many is = let same = ap length is in let few = few_taken many (drop from xs) in omega (arith, same, few)

no_cons : {A : Type 0} {x : A} {xs : List A} → [] ≡ x ∷ xs → ⊥
no_cons e = cc

-- the answer to one of the asks has its URL
pub numbered_at : {A : Type 0} (f : A → Option Url) (answers : List A) (urls : List Url) (k : ℕ) (u : Url) → k < length urls → map f answers ≡ map Some urls → u ≡ get_or urls k u → (a : A) × (slice_get answers k ≡ Some a) × (f a ≡ Some u)
numbered_at f answers [] k u within e u_is = absurd (omega arith)
numbered_at f [] (v ∷ urls) k u within e u_is = absurd (no_cons e)
numbered_at f (b ∷ answers) (v ∷ urls) zero u within e u_is = let first : f b ≡ Some v = cc in (b, refl, first ∙ ap Some (sym u_is))
numbered_at f (b ∷ answers) (v ∷ urls) (suc k) u within e u_is = let rest : map f answers ≡ map Some urls = cc in numbered_at f answers urls k u (omega arith) rest u_is

-- ---- one call behind another

pub on_ok : {T E : Type 0} (r : Result T E) (P : Type 0) → P → OnOk r P
on_ok (Ok done) P p = p
on_ok (Err end) P p = tt

module _ {G : Type 0} where
  -- tickets that are among others, as the history grows
  pub tickets_left : UrlsStay Posted G weight → (old new : List (MapEvent Posted G)) (ts left : List Ticket) → Begins old new → All (HasTicket old) ts → All (Contains ts) left → All (HasTicket new) left
  tickets_left law old new ts left b all among = tickets_stay law old new left b (All-weaker (Contains ts) (HasTicket old) (λ x there. All-contains (HasTicket old) ts x all there) left among)

  pub served_by_any : {T : Type 0} (r : Result T Memory) (holds : Option Contents) (asked : List Asked) (c : ℕ) (h : List (MapEvent Posted G)) → Serves holds asked c h → ServedBy r holds asked c h
  served_by_any (Ok done) holds asked c h s = s
  served_by_any (Err want) holds asked c h s = inl s

  pub served_by_end : {T : Type 0} (r : Result T Memory) (holds : Option Contents) (asked : List Asked) (c : ℕ) (h : List (MapEvent Posted G)) → ServedBy r holds asked c h → Served 1 holds asked c h
  served_by_end (Ok done) holds asked c h s = inl s
  served_by_end (Err want) holds asked c h s = s

  pub leads_on_same : {T : Type 0} (r : Result T Memory) (maps : Maps) (entry : Url) (trace : Bool) (c : ℕ) (h : List (MapEvent Posted G)) (m : MachineParts) (taken : List Delivery) → IsLed maps entry trace c h m taken → LeadsOn maps entry trace r c h m taken
  leads_on_same (Ok done) maps entry trace c h m taken led = led
  leads_on_same (Err want) maps entry trace c h m taken led = short_of maps entry trace c h m taken led

  pub serves_next : (holds kept : Option Contents) (asked : List Asked) (c d : ℕ) (h : List (MapEvent Posted G)) → kept ≡ holds → d ≡ c → Serves holds asked c h → Serves kept asked d h
  serves_next holds kept asked c d h same number s = subst (λ k. Serves k asked d h) (sym same) (subst (λ n. Serves holds asked n h) (sym number) s)

  pub served_next : (holds kept : Option Contents) (asked : List Asked) (c d : ℕ) (h : List (MapEvent Posted G)) → kept ≡ holds → d ≡ c → Served 1 kept asked d h → Served 1 holds asked c h
  served_next holds kept asked c d h same number s = subst (λ k. Served 1 k asked c h) same (subst (λ n. Served 1 kept asked n h) number s)

-- ---- the ticket of the post that came first

module _ {X : Type 0} (p : X → Bool) where
  absent : (xs : List X) → length xs ≤ position_or_len p xs → list_any p xs ≡ false
  absent [] far = refl
  absent (x ∷ xs) far = by_test (p x) far (absent xs)
    where
      by_test : (b : Bool) → suc (length xs) ≤ cond (not b) (1 + position_or_len p xs) 0 → (length xs ≤ position_or_len p xs → list_any p xs ≡ false) → (b || list_any p xs) ≡ false
      by_test true far rest = absurd (omega arith)
      by_test false far rest = rest (omega arith)

  pub no_place : (xs : List X) → position p xs ≡ None → list_any p xs ≡ false
  no_place xs none = absent xs (by_test (nat_lt (position_or_len p xs) (length xs)) refl none)
    where
      by_test : (b : Bool) → nat_lt (position_or_len p xs) (length xs) ≡ b → cond b (Some (position_or_len p xs)) None ≡ None → length xs ≤ position_or_len p xs
      by_test true e is = cc
      by_test false e is = grind (arith, nat_tests)

  pub place_within : (xs : List X) (k : ℕ) → position p xs ≡ Some k → k < length xs
  place_within xs k is = by_test (nat_lt (position_or_len p xs) (length xs)) refl is
    where
      by_test : (b : Bool) → nat_lt (position_or_len p xs) (length xs) ≡ b → cond b (Some (position_or_len p xs)) None ≡ Some k → k < length xs
      by_test true e is = let same : position_or_len p xs ≡ k = cc in grind (arith, nat_tests)
      by_test false e is = cc

get_there : {X : Type 0} (xs : List X) (k : ℕ) (d : X) → k < length xs → slice_get xs k ≡ Some (get_or xs k d)
get_there [] k d within = absurd (omega arith)
get_there (x ∷ xs) zero d within = refl
get_there (x ∷ xs) (suc k) d within = get_there xs k d (omega arith)

-- what is left of a list is among it
pub left_among : {X : Type 0} (xs left : List X) (k : ℕ) → left ≡ remove xs k → All (Contains xs) left
left_among xs left k is = subst (All (Contains xs)) (sym is) (All-append (Contains xs) (take k xs) (drop (suc k) xs) (All-take (Contains xs) k xs (All-contains_itself xs)) (All-drop (Contains xs) (suc k) xs (All-contains_itself xs)))

pub among_itself : {X : Type 0} (xs : List X) → All (Contains xs) xs
among_itself xs = All-contains_itself xs

module _ (tickets t2 t3 : List Ticket) (posted p1 : List (Heard Posted)) (at : ℕ) (p_is : p1 ≡ posted) (t2_is : t2 ≡ tickets) (t3_is : t3 ≡ tickets) (found : position (is_awaited t2) p1 ≡ Some at) where
  first_found : position (is_awaited tickets) posted ≡ Some at
  first_found = subst (λ t. position (is_awaited t) posted ≡ Some at) t2_is (subst (λ p. position (is_awaited t2) p ≡ Some at) p_is found)

  pub at_within : at < length posted
  at_within = place_within (is_awaited tickets) posted at first_found

  pub no_way : (post : Heard Posted) → post ≡ get_or posted at post → position (is_for post.number) t3 ≡ None → ⊥
  no_way post is none =
      let has : is_awaited tickets post ≡ true = subst (λ q. is_awaited tickets q ≡ true) (sym is) (position-Some (is_awaited tickets) posted at post first_found).1 in
      true≢false (sym has ∙ no_place (is_for post.number) tickets (subst (λ t. position (is_for post.number) t ≡ None) t3_is none))

  pub chosen : (post : Heard Posted) (place : ℕ) (ticket : Ticket) (left : List (Heard Posted)) → post ≡ get_or posted at post → left ≡ remove posted at → position (is_for post.number) t3 ≡ Some place → ticket ≡ get_or tickets place ticket
      → IsFirstPosted tickets posted (Some (record { ticket = ticket; payload = post.payload })) left
  chosen post place ticket left is rest there ticket_is =
      let p = (position-Some (is_for post.number) tickets place ticket (subst (λ t. position (is_for post.number) t ≡ Some place) t3_is there)).1 in
      let same : ticket.number ≡ post.number = eqb-true ticket.number post.number (subst (λ (t : Ticket). is_for post.number t ≡ true) (sym ticket_is) p) in
      (at, post, first_found, get_there posted at post at_within ∙ ap Some (sym is), sym same, refl, rest)
