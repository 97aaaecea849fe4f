-- Where what a history has comes from: takes were asked for, posts are answers, and what is there stays.
use Rattle.std.proofs.Common.{◌≡◌, ℕ, zero, suc, Bool, true, false, cond, nat_lt, List, [], ◌∷◌, sym, refl, ap, ◌∙◌, subst, arith, Some, slice_get, slice_index_or, not, ◌⊎◌, inl, inr, ◌==◌}
use Rattle.std.specs.Prelude.{Contains}
use Rattle.std.specs.Arc.{arc_value}
use Rattle.std.specs.declared.sync.Arc.{Arc}
use Rattle.std.specs.declared.alloc.Global.{Global}
use Rattle.std.proofs.lemmas.Option.{slice_get_within}
use Rattle.std.proofs.lemmas.List.Elements.{Contains-append_left, Contains-append_right, Contains-append_cases, Contains-push_cases}
use Rattle.esm_hlock.specs.Makers.{names, is_maker}
use Rattle.esm_base.specs.Urls.{Url}
use Rattle.esm_module_map.specs.declared.event.Why.{Why}
use Rattle.esm_module_map.specs.declared.event.MapEvent.{MapEvent}
use Rattle.esm_module_map.specs.declared.event.MapEvent.TheVariants.{Begin, Enrol, Ask, Take, Post, Shut}
use Rattle.esm_module_map.specs.Replay.{Replay, opening, asked_by, is_numbered, is_order, next_order, step, replay_from, is_legal_from, may_come, maker_of}
use Rattle.esm_module_map.specs.Histories.{Answer, Posts, url_at, asks_in, takes_in, answers_in, along}
use Rattle.esm_module_map.specs.Laws.{PostsAreAnswers, TakesWereAsked, TakenOnceByMakers}
use Rattle.esm_module_map.proofs.Replays.{both_true, eq_true}
use Rattle.esm_module_map.proofs.Asks.{next_free, get_within}
use Rattle.esm_module_map.proofs.Calls.{get_append, the_is, at_order}
use Rattle.esm_module_map.proofs.Told.{HasUrl, url_is}
use Rattle.esm_module_map.proofs.Tally.{IsNumbered, numbered_step, taken_once_by}

-- ---- numbers keep their URLs, and makers are named

url_by : (b : Bool) (n : ℕ) (u : Url) (s : Replay) (m : ℕ) (v : Url) (why : Why) → HasUrl n u s → HasUrl n u (asked_by b s m v why)
url_by true n u s m v why h = h
url_by false n u s m v why h = get_append s.urls (v ∷ []) n u h

named_here : (d n : ℕ) → cond (d == d) 1 n ≡ 1
named_here d n = ap (λ b. cond b 1 n) (eq_true d d refl)

named_behind : (b : Bool) (n : ℕ) → n ≡ 1 → cond b 1 n ≡ 1
named_behind true n e = refl
named_behind false n e = e

module _ {P G : Type 0} (weight : P → ℕ) where
  url_after : (n : ℕ) (u : Url) (s : Replay) (e : MapEvent P G) → HasUrl n u s → HasUrl n u (step weight s e)
  url_after n u s (Begin g) h = h
  url_after n u s (Enrol d) h = h
  url_after n u s (Ask d m v why) h = url_by (is_numbered s v) n u s m v why h
  url_after n u s (Take d m) h = h
  url_after n u s (Post d m p) h = h
  url_after n u s (Shut d) h = h

  urls_from : (n : ℕ) (u : Url) (s : Replay) (es : List (MapEvent P G)) → HasUrl n u s → HasUrl n u (replay_from weight s es)
  urls_from n u s [] h = h
  urls_from n u s (e ∷ es) h = urls_from n u (step weight s e) es (url_after n u s e h)

  posts_here : (e : MapEvent P G) (c n : ℕ) (s : Replay) (u : Url) (q : Arc P Global) → e ≡ Post c n q → HasUrl n u s → answers_in c s e ≡ record { number = n; url = u; payload = arc_value q } ∷ []
  posts_here e c n s u q is h = ap (answers_in c s) is ∙ ap (λ t. cond t (record { number = n; url = url_at s n; payload = arc_value q } ∷ []) []) (eq_true c c refl) ∙ ap (λ (v : Url). record { number = n; url = v; payload = arc_value q } ∷ []) (url_is s n u h)

-- ---- posts are answers

one_url : (s : Replay) (n : ℕ) (u w : Url) → HasUrl n u s → HasUrl n w s → w ≡ u
one_url s n u w a b = let both : Some w ≡ Some u = sym b ∙ a in cc

pub order_has_url : (s : Replay) (c n : ℕ) → IsNumbered s → is_order s c n ≡ true → (w : Url) × HasUrl n w s
order_has_url s c n is ok = let o = at_order s c n ok in let less = slice_get_within s.numbers n o.0 o.1 in let same = is.1 in (slice_index_or s.urls n [], get_within s.urls n [] (omega (arith, less, same)))

module _ {P G : Type 0} (weight : P → ℕ) where
  abbrev Answered : Replay → List (MapEvent P G) → ℕ → Url → P → Type 0
  Answered s es n u p = (c : ℕ) × (names maker_of c es ≡ 1) × Contains (along weight (answers_in c) s es) (record { number = n; url = u; payload = p })

  answered_later : (s : Replay) (e : MapEvent P G) (es : List (MapEvent P G)) (n : ℕ) (u : Url) (p : P) → Answered (step weight s e) es n u p → Answered s (e ∷ es) n u p
  answered_later s e es n u p (c, named, there) = (
    c,
    named_behind (is_maker c (maker_of e)) (names maker_of c es) named,
    Contains-append_right (answers_in c s e) (along weight (answers_in c) (step weight s e) es) (record { number = n; url = u; payload = p }) there,
  )

  answered_here : (s : Replay) (e : MapEvent P G) (es : List (MapEvent P G)) (n : ℕ) (u : Url) (p : P) (c : ℕ) (q : Arc P Global) → e ≡ Post c n q → arc_value q ≡ p → may_come s e ≡ true → IsNumbered s
      → HasUrl n u (replay_from weight s (e ∷ es)) → Answered s (e ∷ es) n u p
  answered_here s e es n u p c q is value ok num has =
      let post : MapEvent P G = Post c n q in
      let order : is_order s c n ≡ true = (both_true (nat_lt c s.callers) (is_order s c n) (subst (λ (x : MapEvent P G). may_come s x ≡ true) is ok)).1 in
      let w = order_has_url s c n num order in
      let own : HasUrl n u s = subst (λ (x : Url). HasUrl n x s) (one_url (replay_from weight s (e ∷ es)) n u w.0 has (urls_from weight n w.0 s (e ∷ es) w.1)) w.1 in
      let named : names maker_of c (e ∷ es) ≡ 1 = ap (λ (x : MapEvent P G). names maker_of c (x ∷ es)) is ∙ named_here c (names maker_of c es) in
      let says = posts_here weight e c n s u q is own in
      let a : Answer P = record { number = n; url = u; payload = arc_value q } in
      let there = Contains-append_left (answers_in c s e) (along weight (answers_in c) (step weight s e) es) a (subst (λ l. Contains l a) (sym says) (0, omega arith, refl)) in
      (c, named, subst (λ (x : P). Contains (along weight (answers_in c) s (e ∷ es)) (record { number = n; url = u; payload = x })) value there)

  answered_at : (s : Replay) (es : List (MapEvent P G)) (n : ℕ) (u : Url) (p : P) (k : ℕ) (e : MapEvent P G) → slice_get es k ≡ Some e → Posts e n p → is_legal_from weight s es ≡ true → IsNumbered s
      → HasUrl n u (replay_from weight s es) → Answered s es n u p
  answered_at s [] n u p k e at posts ok num has = cc
  answered_at s (x ∷ es) n u p zero e at (c, q, is, value) ok num has =
      let same : x ≡ e = cc in answered_here s x es n u p c q (same ∙ is) value (both_true (may_come s x) (is_legal_from weight (step weight s x) es) ok).0 num has
  answered_at s (x ∷ es) n u p (suc k) e at posts ok num has = let l = both_true (may_come s x) (is_legal_from weight (step weight s x) es) ok in
      answered_later s x es n u p (answered_at (step weight s x) es n u p k e at posts l.1 (numbered_step weight s x num) has)

  pub posts_are_answers : PostsAreAnswers P G weight
  posts_are_answers n u p h ok has (k, e, at, posts) = answered_at opening h n u p k e at posts ok ((λ v. omega arith), refl) has

-- ---- takes were asked for

has_contained : (us : List Url) (n : ℕ) (u : Url) → slice_get us n ≡ Some u → Contains us u
has_contained [] n u at = cc
has_contained (v ∷ us) zero u at = let same : v ≡ u = cc in (0, omega arith, same)
has_contained (v ∷ us) (suc n) u at = let r = has_contained us n u at in let less = r.1 in (suc r.0, omega arith, r.2)

only_one : (v u : Url) → Contains (v ∷ []) u → v ≡ u
only_one v u (zero, within, is) = is
only_one v u (suc k, within, is) = absurd (omega arith)

module _ {P G : Type 0} (weight : P → ℕ) where
  abbrev AskedFor : Replay → List (MapEvent P G) → Url → Type 0
  AskedFor s es u = (d : ℕ) × (names maker_of d es ≡ 1) × Contains (along weight (asks_in d) s es) u

  asked_later : (s : Replay) (e : MapEvent P G) (es : List (MapEvent P G)) (u : Url) → AskedFor (step weight s e) es u → AskedFor s (e ∷ es) u
  asked_later s e es u (d, named, there) = (d, named_behind (is_maker d (maker_of e)) (names maker_of d es) named, Contains-append_right (asks_in d s e) (along weight (asks_in d) (step weight s e) es) u there)

  asked_here : (s : Replay) (es : List (MapEvent P G)) (d n : ℕ) (v u : Url) (why : Why) → v ≡ u → AskedFor s (Ask d n v why ∷ es) u
  asked_here s es d n v u why same =
      let e : MapEvent P G = Ask d n v why in
      let says : asks_in d s e ≡ v ∷ [] = ap (λ b. cond b (v ∷ []) []) (eq_true d d refl) in
      (d, named_here d (names maker_of d es), Contains-append_left (asks_in d s e) (along weight (asks_in d) (step weight s e) es) u (subst (λ l. Contains l u) (sym says) (0, omega arith, same)))

  -- a URL that got its number by an event was asked for
  urls_step : (s : Replay) (e : MapEvent P G) (es : List (MapEvent P G)) (u : Url) → Contains (step weight s e).urls u → Contains s.urls u ⊎ AskedFor s (e ∷ es) u
  urls_step s (Begin g) es u h = inl h
  urls_step s (Enrol d) es u h = inl h
  urls_step s (Ask d n v why) es u h = by_test (is_numbered s v) h
    where
      by_case : Contains s.urls u ⊎ (v ≡ u) → Contains s.urls u ⊎ AskedFor s (Ask d n v why ∷ es) u
      by_case (inl there) = inl there
      by_case (inr same) = inr (asked_here s es d n v u why same)

      by_test : (b : Bool) → Contains (asked_by b s n v why).urls u → Contains s.urls u ⊎ AskedFor s (Ask d n v why ∷ es) u
      by_test true there = inl there
      by_test false there = by_case (Contains-push_cases s.urls v u there)
  urls_step s (Take d n) es u h = inl h
  urls_step s (Post d n p) es u h = inl h
  urls_step s (Shut d) es u h = inl h

  urls_asked : (s : Replay) (es : List (MapEvent P G)) (u : Url) → Contains (replay_from weight s es).urls u → Contains s.urls u ⊎ AskedFor s es u
  urls_asked s [] u there = inl there
  urls_asked s (e ∷ es) u there = by_case (urls_asked (step weight s e) es u there)
    where
      by_case : Contains (step weight s e).urls u ⊎ AskedFor (step weight s e) es u → Contains s.urls u ⊎ AskedFor s (e ∷ es) u
      by_case (inl h) = urls_step s e es u h
      by_case (inr a) = inr (asked_later s e es u a)

  -- what is taken has a number
  taken_here : (c : ℕ) (u : Url) (s : Replay) (e : MapEvent P G) → may_come s e ≡ true → IsNumbered s → Contains (takes_in c s e) u → (n : ℕ) × HasUrl n u s
  taken_here c u s (Begin g) ok num (k, within, is) = absurd (omega arith)
  taken_here c u s (Enrol d) ok num (k, within, is) = absurd (omega arith)
  taken_here c u s (Ask d n v why) ok num (k, within, is) = absurd (omega arith)
  taken_here c u s (Take d n) ok num there = by_test (d == c) there
    where
      by_test : (b : Bool) → Contains (cond b (url_at s n ∷ []) []) u → (n : ℕ) × HasUrl n u s
      by_test true h =
          let f = next_free s n (the_is n (next_order s) (both_true (not s.shut) _ (both_true (nat_lt d s.callers) _ ok).1).1) in
          let less = slice_get_within s.numbers n f.0 f.1 in let same = num.1 in
          (n, get_within s.urls n [] (omega (arith, less, same)) ∙ ap Some (only_one (url_at s n) u h))
      by_test false (k, within, is) = absurd (omega arith)
  taken_here c u s (Post d n p) ok num (k, within, is) = absurd (omega arith)
  taken_here c u s (Shut d) ok num (k, within, is) = absurd (omega arith)

  taken_numbered : (c : ℕ) (u : Url) (s : Replay) (es : List (MapEvent P G)) → is_legal_from weight s es ≡ true → IsNumbered s → Contains (along weight (takes_in c) s es) u → Contains (replay_from weight s es).urls u
  taken_numbered c u s [] ok num (k, within, is) = absurd (omega arith)
  taken_numbered c u s (e ∷ es) ok num there = by_case (Contains-append_cases (takes_in c s e) (along weight (takes_in c) (step weight s e) es) u there) (taken_numbered c u (step weight s e) es)
    where
      l : (may_come s e ≡ true) × (is_legal_from weight (step weight s e) es ≡ true)
      l = both_true (may_come s e) (is_legal_from weight (step weight s e) es) ok

      by_case : Contains (takes_in c s e) u ⊎ Contains (along weight (takes_in c) (step weight s e) es) u
          → (is_legal_from weight (step weight s e) es ≡ true → IsNumbered (step weight s e) → Contains (along weight (takes_in c) (step weight s e) es) u → Contains (replay_from weight (step weight s e) es).urls u)
          → Contains (replay_from weight s (e ∷ es)).urls u
      by_case (inl here) rest = let t = taken_here c u s e l.0 num here in has_contained (replay_from weight s (e ∷ es)).urls t.0 u (urls_from weight t.0 u s (e ∷ es) t.1)
      by_case (inr later) rest = rest l.1 (numbered_step weight s e num) later

  pub takes_were_asked : TakesWereAsked P G weight
  takes_were_asked c u h ok there = by_case (urls_asked opening h u (taken_numbered c u opening h ok ((λ v. omega arith), refl) there))
    where
      by_case : Contains [] u ⊎ AskedFor opening h u → AskedFor opening h u
      by_case (inl (k, within, is)) = absurd (omega arith)
      by_case (inr a) = a

-- ---- makers

pub taken_once_by_makers : {P G : Type 0} (weight : P → ℕ) → TakenOnceByMakers P G weight
taken_once_by_makers weight cs h ok each = taken_once_by weight cs h each ok
