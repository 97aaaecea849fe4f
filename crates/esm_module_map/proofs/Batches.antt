-- Several posts and takes in one turn: what they make of a history, and what that says of their caller.
use Rattle.std.proofs.Common.{◌≡◌, ℕ, zero, suc, ◌||◌, Bool, true, false, cond, nat_eq, ne_eqb, List, [], ◌∷◌, ◌++◌, length, map, sym, refl, ap, ◌∙◌, subst, arith, append_assoc, append-nil, Some, slice_index_or, Result, Ok, Err}
use Rattle.std.specs.Prelude.{All}
use Rattle.std.proofs.lemmas.List.Elements.{All-nil, All-cons, All-head, All-tail}
use Rattle.std.specs.Arc.{arc_value}
use Rattle.std.specs.declared.sync.Arc.{Arc}
use Rattle.std.specs.declared.alloc.Global.{Global}
use Rattle.esm_base.specs.declared.memory.Memory.{Memory}
use Rattle.esm_base.specs.Lists.{is_in}
use Rattle.esm_base.specs.Urls.{Url}
use Rattle.esm_module_map.specs.declared.event.MapEvent.{MapEvent}
use Rattle.esm_module_map.specs.declared.event.MapEvent.TheVariants.{Take, Post}
use Rattle.esm_module_map.specs.declared.reply.Filled.{Filled}
use Rattle.esm_module_map.specs.declared.reply.Order.{Order}
use Rattle.esm_module_map.specs.declared.reply.Taken.{Taken}
use Rattle.esm_module_map.specs.declared.reply.Taken.TheVariants as taken
use Rattle.esm_module_map.specs.Replay.{Replay, opening, is_out_with, is_order, step, replay, is_legal, maker_of}
use Rattle.esm_module_map.specs.Replies.{ContinuesFor, TakeReply}
use Rattle.esm_module_map.specs.Histories.{Answer, asks_in, takes_in, answers_in, shuts_in, along, takes_by, answers_by}
use Rattle.esm_module_map.specs.Saying.{Begins, Stays, IsShut, IsOrderIn, TookOne}
use Rattle.esm_module_map.specs.Batches.{AreFilled, TakesAll, TakesUpTo, TookThese, answer_of, nothing_by, number_ordered, posts_of, url_ordered}
use Rattle.esm_module_map.proofs.Replays.{eq_true, replay_more}
use Rattle.esm_module_map.proofs.Calls.{legal_split, at_order, not_next, taken_beside}
use Rattle.esm_module_map.proofs.Told.{IsOf, along_split, along_found, url_is, asks_of_one, takes_of_one, answers_of_one, shuts_of_one, taken_next}
use Rattle.esm_module_map.proofs.Says.{stays, take_says}
use Rattle.esm_module_map.proofs.Staying.{url_stays}
use Rattle.esm_module_map.proofs.Turns.{Grown, begins_on, continues_itself, grown_none, grown_more}
use Rattle.esm_module_map.proofs.Posting.{IsOrderAt, order_url}

-- what was filled, answered by a URL
abbrev answer_with : {P : Type 0} → Filled P → Url → Answer P
answer_with f u = record { number = f.number; url = u; payload = arc_value f.payload }

posts_answer : {P : Type 0} (G : Type 0) (weight : P → ℕ) (c : ℕ) (s t : Replay) (fs : List (Filled P)) → t.urls ≡ s.urls → along {P = P} {G = G} weight (answers_in c) t (posts_of c fs) ≡ map (answer_of s) fs
posts_answer G weight c s t [] same = refl
posts_answer {P} G weight c s t (f ∷ fs) same =
    let post : MapEvent P G = Post c f.number f.payload in
    let rest : List (Answer P) = along {P = P} {G = G} weight (answers_in c) (step weight t post) (posts_of c fs) in
    ap (λ b. cond b (answer_with f (slice_index_or t.urls f.number []) ∷ []) [] ++ rest) (eq_true c c refl)
    ∙ ap (λ (us : List Url). answer_with f (slice_index_or us f.number []) ∷ rest) same
    ∙ ap (λ l. answer_of s f ∷ l) (posts_answer G weight c s (step weight t post) fs same)

module _ {P G : Type 0} (weight : P → ℕ) where
  -- ---- what is taken one by one

  -- where what is left leads to an end, the whole leads to it
  abbrev pub LeadsOn : ℕ → List (MapEvent P G) → ℕ → List Order → List (MapEvent P G) → ℕ → Type 0
  LeadsOn c found many orders now left = (more : List Order) (result : Result Bool Memory) (last : List (MapEvent P G)) → TakesAll weight c now left more result last → TakesAll weight c found many (orders ++ more) result last

  pub taking_begins : (c : ℕ) (found : List (MapEvent P G)) (many left : ℕ) (orders : List Order) → orders ≡ [] → left ≡ many → LeadsOn c found many orders found left
  taking_begins c found many left orders none same more result last h =
      subst (λ l. TakesAll weight c found many (l ++ more) result last) (sym none) (subst (λ k. TakesAll weight c found k more result last) same h)

  pub taking_on : (c : ℕ) (found : List (MapEvent P G)) (many : ℕ) (orders grew : List Order) (now mid : List (MapEvent P G)) (left fewer : ℕ) (took : Taken) (order : Order)
      → LeadsOn c found many orders now left → suc fewer ≡ left → took ≡ taken.Order order → TakeReply weight now c (Ok took) mid → grew ≡ orders ++ order ∷ [] → LeadsOn c found many grew mid fewer
  taking_on c found many orders grew now mid left fewer took order leads less is reply longer more result last h =
      subst (λ l. TakesAll weight c found many l result last) (sym (ap (λ l. l ++ more) longer ∙ append_assoc orders (order ∷ []) more))
      (leads (order ∷ more) result last (subst (λ k. TakesAll weight c now k (order ∷ more) result last) less (mid, subst (λ t. TakeReply weight now c (Ok t) mid) is reply, h)))

  -- a take took nothing
  pub taking_ends : (c : ℕ) (found : List (MapEvent P G)) (many : ℕ) (orders : List Order) (now last : List (MapEvent P G)) (left fewer : ℕ) (took : Result Taken Memory) (result : Result Bool Memory)
      → LeadsOn c found many orders now left → suc fewer ≡ left → took ≡ nothing_by result → TakeReply weight now c took last → TakesAll weight c found many orders result last
  taking_ends c found many orders now last left fewer took result leads less is reply =
      subst (λ l. TakesAll weight c found many l result last) (append-nil orders)
      (leads [] result last (subst (λ k. TakesAll weight c now k [] result last) less (subst (λ t. TakeReply weight now c t last) is reply)))

  -- it has taken so many times
  pub taking_done : (c : ℕ) (found : List (MapEvent P G)) (many : ℕ) (orders : List Order) (now : List (MapEvent P G)) (left : ℕ) → LeadsOn c found many orders now left → left ≡ 0 → TakesAll weight c found many orders (Ok false) now
  taking_done c found many orders now left leads none =
      subst (λ l. TakesAll weight c found many l (Ok false) now) (append-nil orders) (leads [] (Ok false) now (subst (λ k. TakesAll weight c now k [] (Ok false) now) (sym none) (refl, refl, refl)))

  -- ---- what is left behind in the lock

  nothing_taken : (c : ℕ) (found now : List (MapEvent P G)) (result : Result Bool Memory) → TakeReply weight found c (nothing_by result) now → now ≡ found
  nothing_taken c found now (Ok false) reply = reply.0
  nothing_taken c found now (Ok true) reply = reply.0
  nothing_taken c found now (Err want) reply = reply

  takes_grown : (c : ℕ) (found : List (MapEvent P G)) (many : ℕ) (os : List Order) (result : Result Bool Memory) (now : List (MapEvent P G)) → TakesAll weight c found many os result now → Grown c found now
  takes_grown c found zero os result now (none, is, same) = grown_none c found now same
  takes_grown c found (suc many) [] result now reply = grown_none c found now (nothing_taken c found now result reply)
  takes_grown c found (suc many) (o ∷ os) result now (mid, reply, rest) = grown_more c (Take c o.number) found mid now refl reply.0 (takes_grown c mid many os result now rest)

  posts_grown : (c : ℕ) (found : List (MapEvent P G)) (fs : List (Filled P)) (now : List (MapEvent P G)) → Grown c (found ++ posts_of c fs) now → Grown c found now
  posts_grown c found [] now g = subst (λ h. Grown c h now) (append-nil found) g
  posts_grown c found (f ∷ fs) now g = let post : MapEvent P G = Post c f.number f.payload in
      grown_more c post found (found ++ post ∷ []) now refl refl (posts_grown c (found ++ post ∷ []) fs now (subst (λ h. Grown c h now) (sym (append_assoc found (post ∷ []) (posts_of c fs))) g))

  pub batch_grown : (c : ℕ) (found : List (MapEvent P G)) (fs : List (Filled P)) (rooms : ℕ) (os : List Order) (result : Result Bool Memory) (now : List (MapEvent P G))
      → TakesUpTo weight c (found ++ posts_of c fs) rooms os result now → Grown c found now
  batch_grown c found fs rooms os result now (many, most, least, reply) = posts_grown c found fs now (takes_grown c (found ++ posts_of c fs) many os result now reply)

  takes_begin : (c : ℕ) (found : List (MapEvent P G)) (many : ℕ) (os : List Order) (result : Result Bool Memory) (now : List (MapEvent P G)) → TakesAll weight c found many os result now → Begins found now
  takes_begin c found many os result now reply = let g = takes_grown c found many os result now reply in (g.0, g.1)

  legal_before : (old now : List (MapEvent P G)) → is_legal weight now ≡ true → Begins old now → is_legal weight old ≡ true
  legal_before old now legal begins = (legal_split weight opening old begins.0 (subst (λ h. is_legal weight h ≡ true) begins.1 legal)).0

  -- ---- what a caller's takes say

  -- an order is none of those that are taken next, and stays an order
  order_beside : (c n : ℕ) (found : List (MapEvent P G)) (many : ℕ) (os : List Order) (result : Result Bool Memory) (now : List (MapEvent P G)) → is_legal weight now ≡ true → TakesAll weight c found many os result now
      → is_order (replay weight found) c n ≡ true → (is_in nat_eq (map number_ordered os) n ≡ false) × (is_order (replay weight now) c n ≡ true)
  order_beside c n found zero os result now legal (none, is, same) order = (ap (λ l. is_in nat_eq (map number_ordered l) n) none, ap (λ h. is_order (replay weight h) c n) same ∙ order)
  order_beside c n found (suc many) [] result now legal reply order = (refl, ap (λ h. is_order (replay weight h) c n) (nothing_taken c found now result reply) ∙ order)
  order_beside c n found (suc many) (o ∷ os) result now legal (mid, reply, rest) order =
      let next = taken_next weight c o.number found mid (legal_before mid now legal (takes_begin c mid many os result now rest)) reply.0 in
      let at = at_order (replay weight found) c n order in
      let kept = taken_beside n c c o.number (replay weight found) next at in
      let later = order_beside c n mid many os result now legal rest
      (ap (λ (r : Replay). is_order r c n) (ap (replay weight) reply.0 ∙ replay_more weight opening found (Take c o.number)) ∙ ap (is_out_with c) kept.1 ∙ kept.2) in
      (ap (λ b. b || is_in nat_eq (map number_ordered os) n) (ne_eqb n o.number (λ same. not_next n c o.number (replay weight found) next at (sym same))) ∙ later.0, later.1)

  -- the order is the caller's
  abbrev IsOwn : List (MapEvent P G) → ℕ → Order → Type 0
  IsOwn h c o = IsOrderIn weight h c o.number o.url

  took_none : (c : ℕ) (seen now : List (MapEvent P G)) → Stays weight c seen now → TookThese weight c [] [] seen now
  took_none c seen now s = record {
    begins = s.0;
    takes = s.1.0 ∙ sym (append-nil (takes_by weight c seen));
    answers = s.1.1 ∙ sym (append-nil (answers_by weight c seen));
    asks = s.1.2;
    shuts = s.1.3;
    own = All-nil (IsOwn now c);
    once = tt;
  }

  took_more : (c : ℕ) (o : Order) (os : List Order) (seen mid now : List (MapEvent P G)) → TookOne weight c o.number o.url seen mid → is_in nat_eq (map number_ordered os) o.number ≡ false → is_order (replay weight now) c o.number ≡ true
      → TookThese weight c [] os mid now → TookThese weight c [] (o ∷ os) seen now
  took_more c o os seen mid now one fresh order these = record {
    begins = begins_on seen mid now one.begins these.begins;
    takes = these.takes ∙ ap (λ l. l ++ map url_ordered os) one.takes ∙ append_assoc (takes_by weight c seen) (o.url ∷ []) (map url_ordered os);
    answers = these.answers ∙ ap (λ l. l ++ []) one.answers;
    asks = these.asks ∙ one.asks;
    shuts = these.shuts ∙ one.shuts;
    own = All-cons (IsOwn now c) o os (record { order = order; has_url = url_stays weight o.number o.url mid now these.begins one.order.has_url }) these.own;
    once = (fresh, these.once);
  }

  takes_say : (c : ℕ) (seen found : List (MapEvent P G)) (many : ℕ) (os : List Order) (result : Result Bool Memory) (now : List (MapEvent P G)) → is_legal weight now ≡ true → ContinuesFor maker_of found seen (Some c)
      → TakesAll weight c found many os result now → TookThese weight c [] os seen now
  takes_say c seen found zero [] result now legal q (none, is, same) = took_none c seen now (stays weight c seen found now q same)
  takes_say c seen found zero (o ∷ os) result now legal q (none, is, same) = absurd (omega (arith, ap length none))
  takes_say c seen found (suc many) [] result now legal q reply = took_none c seen now (stays weight c seen found now q (nothing_taken c found now result reply))
  takes_say c seen found (suc many) (o ∷ os) result now legal q (mid, reply, rest) =
      let then_legal = legal_before mid now legal (takes_begin c mid many os result now rest) in
      let first_legal = legal_before found mid then_legal (Take c o.number ∷ [], reply.0) in
      let one : TookOne weight c o.number o.url seen mid = take_says weight c seen mid (Ok (taken.Order o)) then_legal (found, (first_legal, q), reply) in
      let beside = order_beside c o.number mid many os result now legal rest one.order.order in
      took_more c o os seen mid now one beside.0 beside.1 (takes_say c mid mid many os result now legal (continues_itself mid (Some c)) rest)

  -- ---- what its posts say

  -- more behind what a caller finds
  along_behind : {A : Type 0} (c : ℕ) (says : Replay → MapEvent P G → List A) → IsOf weight c says → (seen found more : List (MapEvent P G)) → ContinuesFor maker_of found seen (Some c)
      → along weight says opening (found ++ more) ≡ along weight says opening seen ++ along weight says (replay weight found) more
  along_behind c says of seen found more q = along_split weight says opening found more ∙ ap (λ l. l ++ along weight says (replay weight found) more) (along_found weight c says of seen found q)

  -- of posts only answers speak
  posts_silent : {A : Type 0} (c : ℕ) (says : Replay → MapEvent P G → List A) → ((s : Replay) (n : ℕ) (p : Arc P Global) → says s (Post c n p) ≡ []) → (s : Replay) (fs : List (Filled P)) → along weight says s (posts_of c fs) ≡ []
  posts_silent c says none s [] = refl
  posts_silent c says none s (f ∷ fs) = let post : MapEvent P G = Post c f.number f.payload in
      ap (λ l. l ++ along weight says (step weight s post) (posts_of c fs)) (none s f.number f.payload) ∙ posts_silent c says none (step weight s post) fs

  posts_behind : {A : Type 0} (c : ℕ) (says : Replay → MapEvent P G → List A) → IsOf weight c says → ((s : Replay) (n : ℕ) (p : Arc P Global) → says s (Post c n p) ≡ []) → (seen found : List (MapEvent P G)) (fs : List (Filled P)) → ContinuesFor maker_of found seen (Some c)
      → along weight says opening (found ++ posts_of c fs) ≡ along weight says opening seen
  posts_behind c says of none seen found fs q = along_behind c says of seen found (posts_of c fs) q
      ∙ ap (λ l. along weight says opening seen ++ l) (posts_silent c says none (replay weight found) fs) ∙ append-nil (along weight says opening seen)

  -- orders keep their URLs
  same_answers : (c : ℕ) (seen found : List (MapEvent P G)) (fs : List (Filled P)) → Begins seen found → All (IsOrderAt weight seen c) fs → map (answer_of (replay weight found)) fs ≡ map (answer_of (replay weight seen)) fs
  same_answers c seen found [] begins orders = refl
  same_answers c seen found (f ∷ fs) begins orders =
      let u = order_url weight seen c f.number (All-head (IsOrderAt weight seen c) f fs orders) in
      ap (λ v. answer_with f v ∷ map (answer_of (replay weight found)) fs) (url_is (replay weight found) f.number u.0 (url_stays weight f.number u.0 seen found begins u.1) ∙ sym (url_is (replay weight seen) f.number u.0 u.1))
      ∙ ap (λ l. answer_of (replay weight seen) f ∷ l) (same_answers c seen found fs begins (All-tail (IsOrderAt weight seen c) f fs orders))

  -- ---- a whole turn

  pub batch_says : (fits : G → P → Url → Bool) (c : ℕ) (seen found : List (MapEvent P G)) (fs : List (Filled P)) (rooms : ℕ) (os : List Order) (result : Result Bool Memory) (now : List (MapEvent P G))
      → is_legal weight now ≡ true → ContinuesFor maker_of found seen (Some c) → AreFilled weight fits seen c fs → TakesUpTo weight c (found ++ posts_of c fs) rooms os result now → TookThese weight c fs os seen now
  batch_says fits c seen found fs rooms os result now legal q all (many, most, least, reply) =
      let mid : List (MapEvent P G) = found ++ posts_of c fs in
      let these : TookThese weight c [] os mid now = takes_say c mid mid many os result now legal (continues_itself mid (Some c)) reply in record {
        begins = begins_on seen mid now (q.0 ++ posts_of c fs, ap (λ l. l ++ posts_of c fs) q.1 ∙ append_assoc seen q.0 (posts_of c fs)) these.begins;
        takes = these.takes ∙ ap (λ l. l ++ map url_ordered os) (posts_behind c (takes_in c) (takes_of_one weight c) (λ s n p. refl) seen found fs q);
        answers = these.answers ∙ append-nil (answers_by weight c mid) ∙ along_behind c (answers_in c) (answers_of_one weight c) seen found (posts_of c fs) q
            ∙ ap (λ l. answers_by weight c seen ++ l) (posts_answer G weight c (replay weight found) (replay weight found) fs refl ∙ same_answers c seen found fs (q.0, q.1) all.orders);
        asks = these.asks ∙ posts_behind c (asks_in c) (asks_of_one weight c) (λ s n p. refl) seen found fs q;
        shuts = these.shuts ∙ posts_behind c (shuts_in c) (shuts_of_one weight c) (λ s n p. refl) seen found fs q;
        own = these.own;
        once = these.once;
      }

  -- a take found the map shut
  takes_shut : (c : ℕ) (found : List (MapEvent P G)) (many : ℕ) (os : List Order) (result : Result Bool Memory) (now : List (MapEvent P G)) → result ≡ Ok true → TakesAll weight c found many os result now → IsShut weight now
  takes_shut c found zero os result now closed (none, later, same) = let both : Ok true ≡ Ok false = sym closed ∙ later in cc
  takes_shut c found (suc many) [] (Ok true) now closed reply = ap (λ h. (replay weight h).shut) reply.0 ∙ reply.1
  takes_shut c found (suc many) [] (Ok false) now closed reply = cc
  takes_shut c found (suc many) [] (Err want) now closed reply = cc
  takes_shut c found (suc many) (o ∷ os) result now closed (mid, reply, rest) = takes_shut c mid many os result now closed rest

  pub batch_shut : (c : ℕ) (found : List (MapEvent P G)) (rooms : ℕ) (os : List Order) (result : Result Bool Memory) (now : List (MapEvent P G)) → TakesUpTo weight c found rooms os result now → result ≡ Ok true → IsShut weight now
  batch_shut c found rooms os result now (many, most, least, reply) closed = takes_shut c found many os result now closed reply
