-- What a history has of a caller, as it grows.
use Rattle.std.proofs.Common.{◌≡◌, ℕ, zero, suc, Bool, true, false, cond, nat_lt, List, [], ◌∷◌, ◌++◌, sym, refl, ap, ◌∙◌, subst, arith, Some, slice_get, slice_index_or, not, ◌==◌, append-nil, append_assoc}
use Rattle.std.specs.Arc.{arc_value}
use Rattle.std.specs.declared.sync.Arc.{Arc}
use Rattle.std.specs.declared.alloc.Global.{Global}
use Rattle.esm_hlock.specs.Makers.{is_maker, names}
use Rattle.esm_base.specs.Urls.{Url}
use Rattle.esm_module_map.specs.declared.event.MapEvent.{MapEvent}
use Rattle.esm_module_map.specs.declared.event.MapEvent.TheVariants.{Begin, Enrol, Ask, Take, Post, Shut}
use Rattle.esm_module_map.specs.Replay.{Replay, opening, taken_by, is_numbered, is_order, is_out_with, next_order, step, replay, replay_from, is_legal, may_come, maker_of, asked_by}
use Rattle.esm_module_map.specs.Histories.{url_at, asks_in, takes_in, answers_in, shuts_in, along, asks_by, takes_by, answers_by, shuts_by}
use Rattle.esm_module_map.specs.Replies.{ContinuesFor}
use Rattle.esm_module_map.specs.Saying.{SaysSame}
use Rattle.esm_module_map.proofs.Replays.{both_true, true_both, eq_true, replay_more}
use Rattle.esm_module_map.proofs.Asks.{next_free}
use Rattle.esm_module_map.proofs.Calls.{legal_split, stays_found, get_changed, get_append, the_is}

-- the number has the URL
abbrev pub HasUrl : ℕ → Url → Replay → Type 0
HasUrl n u s = slice_get s.urls n ≡ Some u

get_or_is : (xs : List Url) (m : ℕ) (x : Url) → slice_get xs m ≡ Some x → slice_index_or xs m [] ≡ x
get_or_is [] m x at = cc
get_or_is (y ∷ ys) zero x at = cc
get_or_is (y ∷ ys) (suc m) x at = get_or_is ys m x at

pub url_is : (s : Replay) (n : ℕ) (u : Url) → HasUrl n u s → url_at s n ≡ u
url_is s n u h = get_or_is s.urls n u h

module _ {P G : Type 0} (weight : P → ℕ) where
  pub along_split : {A : Type 0} (says : Replay → MapEvent P G → List A) (s : Replay) (es fs : List (MapEvent P G)) → along weight says s (es ++ fs) ≡ along weight says s es ++ along weight says (replay_from weight s es) fs
  along_split says s [] fs = refl
  along_split says s (e ∷ es) fs = ap (λ l. says s e ++ l) (along_split says (step weight s e) es fs) ∙ sym (append_assoc (says s e) (along weight says (step weight s e) es) (along weight says (replay_from weight (step weight s e) es) fs))

  -- others say nothing of the caller k
  abbrev pub IsOf : {A : Type 0} → ℕ → (Replay → MapEvent P G → List A) → Type 0
  IsOf k says = (s : Replay) (e : MapEvent P G) → is_maker k (maker_of e) ≡ false → says s e ≡ []

  pub along_others : {A : Type 0} (k : ℕ) (says : Replay → MapEvent P G → List A) → IsOf k says → (s : Replay) (es : List (MapEvent P G)) → names maker_of k es ≡ 0 → along weight says s es ≡ []
  along_others k says of s [] none = refl
  along_others k says of s (e ∷ es) none = by_test (is_maker k (maker_of e)) (names maker_of k es) none (of s e) (along_others k says of (step weight s e) es)
    where
      by_test : (b : Bool) (n : ℕ) → cond b 1 n ≡ 0 → (b ≡ false → says s e ≡ []) → (n ≡ 0 → along weight says (step weight s e) es ≡ []) → says s e ++ along weight says (step weight s e) es ≡ []
      by_test true n h first rest = absurd (omega arith)
      by_test false n h first rest = ap (λ l. l ++ along weight says (step weight s e) es) (first refl) ∙ rest h

  pub along_found : {A : Type 0} (k : ℕ) (says : Replay → MapEvent P G → List A) → IsOf k says → (seen found : List (MapEvent P G)) → ContinuesFor maker_of found seen (Some k) → along weight says opening found ≡ along weight says opening seen
  along_found k says of seen found q = ap (along weight says opening) q.1 ∙ along_split says opening seen q.0 ∙ ap (λ l. along weight says opening seen ++ l) (along_others k says of (replay weight seen) q.0 (q.2 k refl)) ∙ append-nil (along weight says opening seen)

  -- one event more of the caller, behind what it found
  pub along_more : {A : Type 0} (k : ℕ) (says : Replay → MapEvent P G → List A) → IsOf k says → (seen found now : List (MapEvent P G)) (e : MapEvent P G) → ContinuesFor maker_of found seen (Some k) → now ≡ found ++ e ∷ []
      → along weight says opening now ≡ along weight says opening seen ++ says (replay weight found) e
  along_more k says of seen found now e q more = ap (along weight says opening) more ∙ along_split says opening found (e ∷ []) ∙ ap (λ l. l ++ (says (replay weight found) e ++ [])) (along_found k says of seen found q) ∙ ap (λ l. along weight says opening seen ++ l) (append-nil (says (replay weight found) e))

  pub asks_of_one : (k : ℕ) → IsOf k (asks_in k)
  asks_of_one k s (Begin g) other = refl
  asks_of_one k s (Enrol d) other = refl
  asks_of_one k s (Ask d n u why) other = ap (λ t. cond t (u ∷ []) []) other
  asks_of_one k s (Take d n) other = refl
  asks_of_one k s (Post d n p) other = refl
  asks_of_one k s (Shut d) other = refl

  pub takes_of_one : (k : ℕ) → IsOf k (takes_in k)
  takes_of_one k s (Begin g) other = refl
  takes_of_one k s (Enrol d) other = refl
  takes_of_one k s (Ask d n u why) other = refl
  takes_of_one k s (Take d n) other = ap (λ t. cond t (url_at s n ∷ []) []) other
  takes_of_one k s (Post d n p) other = refl
  takes_of_one k s (Shut d) other = refl

  pub answers_of_one : (k : ℕ) → IsOf k (answers_in k)
  answers_of_one k s (Begin g) other = refl
  answers_of_one k s (Enrol d) other = refl
  answers_of_one k s (Ask d n u why) other = refl
  answers_of_one k s (Take d n) other = refl
  answers_of_one k s (Post d n p) other = ap (λ t. cond t (record { number = n; url = url_at s n; payload = arc_value p } ∷ []) []) other
  answers_of_one k s (Shut d) other = refl

  pub shuts_of_one : (k : ℕ) → IsOf k (shuts_in k)
  shuts_of_one k s (Begin g) other = refl
  shuts_of_one k s (Enrol d) other = refl
  shuts_of_one k s (Ask d n u why) other = refl
  shuts_of_one k s (Take d n) other = refl
  shuts_of_one k s (Post d n p) other = refl
  shuts_of_one k s (Shut d) other = ap (λ t. cond t (d ∷ []) []) other

  -- ---- URLs keep their numbers

  url_step : (n : ℕ) (u : Url) (k : ℕ) (s : Replay) (e : MapEvent P G) → may_come s e ≡ true → is_maker k (maker_of e) ≡ false → HasUrl n u s → HasUrl n u (step weight s e)
  url_step n u k s (Begin g) ok other h = h
  url_step n u k s (Enrol d) ok other h = h
  url_step n u k s (Ask d m v why) ok other h = by_test (is_numbered s v)
    where
      by_test : (b : Bool) → HasUrl n u (asked_by b s m v why)
      by_test true = h
      by_test false = get_append s.urls (v ∷ []) n u h
  url_step n u k s (Take d m) ok other h = h
  url_step n u k s (Post d m p) ok other h = h
  url_step n u k s (Shut d) ok other h = h

  pub url_found : (n : ℕ) (u : Url) (k : ℕ) (seen found : List (MapEvent P G)) → is_legal weight found ≡ true → ContinuesFor maker_of found seen (Some k) → HasUrl n u (replay weight seen) → HasUrl n u (replay weight found)
  url_found n u k seen found ok q h = stays_found weight (HasUrl n u) k (url_step n u k) seen found ok q h

  -- one event more
  url_next : (n : ℕ) (u : Url) (s : Replay) (e : MapEvent P G) → HasUrl n u s → HasUrl n u (step weight s e)
  url_next n u s (Begin g) h = h
  url_next n u s (Enrol d) h = h
  url_next n u s (Ask d m v why) h = by_test (is_numbered s v)
    where
      by_test : (b : Bool) → HasUrl n u (asked_by b s m v why)
      by_test true = h
      by_test false = get_append s.urls (v ∷ []) n u h
  url_next n u s (Take d m) h = h
  url_next n u s (Post d m p) h = h
  url_next n u s (Shut d) h = h

  pub url_more : (n : ℕ) (u : Url) (found now : List (MapEvent P G)) (e : MapEvent P G) → now ≡ found ++ e ∷ [] → HasUrl n u (replay weight found) → HasUrl n u (replay weight now)
  url_more n u found now e more h = subst (HasUrl n u) (sym (ap (replay weight) more ∙ replay_more weight opening found e)) (url_next n u (replay weight found) e h)

  -- ---- the events of a caller

  -- what was taken was the next, and is an order
  pub taken_next : (c n : ℕ) (found now : List (MapEvent P G)) → is_legal weight now ≡ true → now ≡ found ++ Take c n ∷ [] → next_order (replay weight found) ≡ Some n
  taken_next c n found now ok more = let l = legal_split weight opening found (Take c n ∷ []) (subst (λ h. is_legal weight h ≡ true) more ok) in let s = replay weight found in
      let may = (both_true (may_come {P = P} {G = G} s (Take c n)) true l.1).0 in the_is n (next_order s) (both_true (not s.shut) _ (both_true (nat_lt c s.callers) _ may).1).1

  pub order_taken : (c n : ℕ) (found now : List (MapEvent P G)) → is_legal weight now ≡ true → now ≡ found ++ Take c n ∷ [] → is_order (replay weight now) c n ≡ true
  order_taken c n found now ok more = let s = replay weight found in let f = next_free s n (taken_next c n found now ok more) in
      ap (λ (r : Replay). is_order r c n) (ap (replay weight) more ∙ replay_more weight opening found (Take c n)) ∙ ap (is_out_with c) (get_changed s.numbers n (taken_by c) f.0 f.1) ∙ true_both (c == c) true (eq_true c c refl) refl

  takes_one : (e : MapEvent P G) (c n : ℕ) (s : Replay) (u : Url) → e ≡ Take c n → HasUrl n u s → takes_in c s e ≡ u ∷ []
  takes_one e c n s u is h = ap (takes_in c s) is ∙ ap (λ t. cond t (url_at s n ∷ []) []) (eq_true c c refl) ∙ ap (λ v. v ∷ []) (url_is s n u h)

  answers_one : (e : MapEvent P G) (c n : ℕ) (s : Replay) (u : Url) (p : Arc P Global) → e ≡ Post c n p → HasUrl n u s → answers_in c s e ≡ record { number = n; url = u; payload = arc_value p } ∷ []
  answers_one e c n s u p is h = ap (answers_in c s) is ∙ ap (λ t. cond t (record { number = n; url = url_at s n; payload = arc_value p } ∷ []) []) (eq_true c c refl) ∙ ap (λ (v : Url). record { number = n; url = v; payload = arc_value p } ∷ []) (url_is s n u h)

  -- what a Take changes of what the history has of its caller
  pub after_take : (c n : ℕ) (u : Url) (seen found now : List (MapEvent P G)) → ContinuesFor maker_of found seen (Some c) → now ≡ found ++ Take c n ∷ [] → HasUrl n u (replay weight found)
      → (takes_by weight c now ≡ takes_by weight c seen ++ u ∷ []) × (answers_by weight c now ≡ answers_by weight c seen) × (asks_by weight c now ≡ asks_by weight c seen) × (shuts_by weight c now ≡ shuts_by weight c seen)
  after_take c n u seen found now q more h = (
    along_more c (takes_in c) (takes_of_one c) seen found now (Take c n) q more ∙ ap (λ l. takes_by weight c seen ++ l) (takes_one (Take c n) c n (replay weight found) u refl h),
    along_more c (answers_in c) (answers_of_one c) seen found now (Take c n) q more ∙ append-nil (answers_by weight c seen),
    along_more c (asks_in c) (asks_of_one c) seen found now (Take c n) q more ∙ append-nil (asks_by weight c seen),
    along_more c (shuts_in c) (shuts_of_one c) seen found now (Take c n) q more ∙ append-nil (shuts_by weight c seen),
  )

  pub after_post : (c n : ℕ) (u : Url) (p : Arc P Global) (seen found now : List (MapEvent P G)) → is_legal weight found ≡ true → ContinuesFor maker_of found seen (Some c) → now ≡ found ++ Post c n p ∷ [] → HasUrl n u (replay weight seen)
      → (takes_by weight c now ≡ takes_by weight c seen) × (answers_by weight c now ≡ answers_by weight c seen ++ record { number = n; url = u; payload = arc_value p } ∷ []) × (asks_by weight c now ≡ asks_by weight c seen) × (shuts_by weight c now ≡ shuts_by weight c seen)
  after_post c n u p seen found now ok q more h = (
    along_more c (takes_in c) (takes_of_one c) seen found now (Post c n p) q more ∙ append-nil (takes_by weight c seen),
    along_more c (answers_in c) (answers_of_one c) seen found now (Post c n p) q more ∙ ap (λ l. answers_by weight c seen ++ l) (answers_one (Post c n p) c n (replay weight found) u p refl (url_found n u c seen found ok q h)),
    along_more c (asks_in c) (asks_of_one c) seen found now (Post c n p) q more ∙ append-nil (asks_by weight c seen),
    along_more c (shuts_in c) (shuts_of_one c) seen found now (Post c n p) q more ∙ append-nil (shuts_by weight c seen),
  )

  pub after_nothing : (c : ℕ) (seen found now : List (MapEvent P G)) → ContinuesFor maker_of found seen (Some c) → now ≡ found → SaysSame weight c seen now
  after_nothing c seen found now q same = (
    ap (takes_by weight c) same ∙ along_found c (takes_in c) (takes_of_one c) seen found q,
    ap (answers_by weight c) same ∙ along_found c (answers_in c) (answers_of_one c) seen found q,
    ap (asks_by weight c) same ∙ along_found c (asks_in c) (asks_of_one c) seen found q,
    ap (shuts_by weight c) same ∙ along_found c (shuts_in c) (shuts_of_one c) seen found q,
  )

  pub after_shut : (c : ℕ) (seen found now : List (MapEvent P G)) → ContinuesFor maker_of found seen (Some c) → now ≡ cond (replay weight found).shut found (found ++ Shut c ∷ [])
      → (takes_by weight c now ≡ takes_by weight c seen) × (answers_by weight c now ≡ answers_by weight c seen) × (asks_by weight c now ≡ asks_by weight c seen)
  after_shut c seen found now q is = by_test (replay weight found).shut is
    where
      by_test : (b : Bool) → now ≡ cond b found (found ++ Shut c ∷ []) → (takes_by weight c now ≡ takes_by weight c seen) × (answers_by weight c now ≡ answers_by weight c seen) × (asks_by weight c now ≡ asks_by weight c seen)
      by_test true e = let s = after_nothing c seen found now q e in (s.0, s.1, s.2)
      by_test false e = (
        along_more c (takes_in c) (takes_of_one c) seen found now (Shut c) q e ∙ append-nil (takes_by weight c seen),
        along_more c (answers_in c) (answers_of_one c) seen found now (Shut c) q e ∙ append-nil (answers_by weight c seen),
        along_more c (asks_in c) (asks_of_one c) seen found now (Shut c) q e ∙ append-nil (asks_by weight c seen),
      )
