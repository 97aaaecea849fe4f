-- Several events in one turn.
use Rattle.std.proofs.Common.{◌≡◌, inl, inr, ℕ, zero, suc, true, List, [], ◌∷◌, ◌++◌, length, map, take, sym, refl, ap, ◌∙◌, subst, arith, append_assoc, append-nil, Option, Some, slice_get, Result, Ok, Err, MatchResult, Vec, Global}
use Rattle.std.specs.Prelude.{All}
use Rattle.std.proofs.lemmas.List.Elements.{All-head, All-tail}
use Rattle.esm_base.specs.Urls.{Url}
use Rattle.esm_hlock.specs.Makers.{AreOf, AreSteps}
use Rattle.esm_module_map.specs.declared.event.Why.TheVariants.{Wanted}
use Rattle.esm_module_map.specs.declared.event.MapEvent.{MapEvent}
use Rattle.esm_module_map.specs.declared.event.MapEvent.TheVariants.{Ask}
use Rattle.esm_module_map.specs.declared.reply.Asked.{Asked}
use Rattle.esm_module_map.specs.declared.reply.MapEnd.{MapEnd}
use Rattle.esm_module_map.specs.declared.reply.MapEnd.TheVariants as end
use Rattle.esm_module_map.specs.declared.state.Wish.{Wish}
use Rattle.esm_module_map.specs.Replay.{replay, is_legal, maker_of, number_for}
use Rattle.esm_module_map.specs.Replies.{ContinuesFor, number_in, Called, AskReply}
use Rattle.esm_module_map.specs.Histories.{asks_by}
use Rattle.esm_module_map.specs.Saying.{Begins, Stays, AskedOne}
use Rattle.esm_module_map.specs.Asking.{AskedAll, AskedUntil, AskedThese, AskedFirst}
use Rattle.esm_module_map.specs.Inner.Wishes.{wished, IsWish}
use Rattle.esm_module_map.proofs.Says.{stays, asked_one}
use Rattle.esm_module_map.proofs.AskedNumbers.{ask_numbers}
use Rattle.esm_module_map.proofs.Staying.{url_stays}

module _ {P G : Type 0} where
  pub begins_on : (a b c : List (MapEvent P G)) → Begins a b → Begins b c → Begins a c
  begins_on a b c p q = (p.0 ++ q.0, q.1 ∙ ap (λ l. l ++ q.0) p.1 ∙ append_assoc a p.0 q.0)

  -- who has seen a history finds it, where nothing came behind
  pub continues_itself : (h : List (MapEvent P G)) (number : Option ℕ) → ContinuesFor maker_of h h number
  continues_itself h number = ([], sym (append-nil h), λ k e. refl)

  -- ---- what is left behind in the lock

  pub steps_of : (c : ℕ) (number : Option ℕ) (before found now more : List (MapEvent P G)) → number ≡ Some c → found ≡ before → now ≡ found ++ more → AreOf maker_of c more → AreSteps maker_of number before now
  steps_of c number before found now more has same behind made = record { own = c; has = has; more = more; behind = behind ∙ ap (λ l. l ++ more) same; made = made }

  -- a history that a caller has made longer
  abbrev pub Grown : ℕ → List (MapEvent P G) → List (MapEvent P G) → Type 0
  Grown c found now = (more : List (MapEvent P G)) × (now ≡ found ++ more) × AreOf maker_of c more

  pub grown_steps : (c : ℕ) (number : Option ℕ) (before found now : List (MapEvent P G)) → number ≡ Some c → found ≡ before → Grown c found now → AreSteps maker_of number before now
  grown_steps c number before found now has same g = steps_of c number before found now g.0 has same g.1 g.2

  pub grown_none : (c : ℕ) (found now : List (MapEvent P G)) → now ≡ found → Grown c found now
  grown_none c found now is = ([], is ∙ sym (append-nil found), tt)

  -- one event more of the caller
  pub grown_more : (c : ℕ) (e : MapEvent P G) (found mid now : List (MapEvent P G)) → maker_of e ≡ Some c → mid ≡ found ++ e ∷ [] → Grown c mid now → Grown c found now
  grown_more c e found mid now own one g = (e ∷ g.0, g.1 ∙ ap (λ l. l ++ g.0) one ∙ append_assoc found (e ∷ []) g.0, (inr own, g.2))

  module _ (weight : P → ℕ) where
    pub all_grown : (c : ℕ) (found : List (MapEvent P G)) (us : List Url) (bs : List Asked) (now : List (MapEvent P G)) → AskedAll weight found c us bs now → Grown c found now
    all_grown c found [] [] now is = grown_none c found now is
    all_grown c found [] (a ∷ bs) now is = absurd is
    all_grown c found (u ∷ us) [] now is = absurd is
    all_grown c found (u ∷ us) (a ∷ bs) now (mid, reply, rest) = grown_more c (Ask c (number_for (replay weight found) u) u Wanted) found mid now refl reply.0 (all_grown c mid us bs now rest)

    refused : (c : ℕ) (found : List (MapEvent P G)) (u : Url) (e : MapEnd) (now : List (MapEvent P G)) → AskReply weight found c u Wanted (Err e) now → now ≡ found
    refused c found u end.Full now r = r.0
    refused c found u end.Closed now r = r.0
    refused c found u end.Memory now r = r

    pub until_grown : (c : ℕ) (found : List (MapEvent P G)) (us : List Url) (e : MapEnd) (now : List (MapEvent P G)) → AskedUntil weight found c us e now → Grown c found now
    until_grown c found [] e now r = grown_none c found now r.1
    until_grown c found (u ∷ us) e now (inl r) = grown_none c found now (refused c found u e now r)
    until_grown c found (u ∷ us) e now (inr (a, mid, reply, rest)) = grown_more c (Ask c (number_for (replay weight found) u) u Wanted) found mid now refl reply.0 (until_grown c mid us e now rest)

    -- whatever came of it
    abbrev pub AskedSome : List (MapEvent P G) → ℕ → List Url → Result (Vec Asked Global) MapEnd → List (MapEvent P G) → Type 0
    AskedSome found c us r now = MatchResult r (λ asked. AskedAll weight found c us asked.items now) (λ e. AskedUntil weight found c us e now)

    pub asked_grown : (c : ℕ) (found : List (MapEvent P G)) (us : List Url) (r : Result (Vec Asked Global) MapEnd) (now : List (MapEvent P G)) → AskedSome found c us r now → Grown c found now
    asked_grown c found us (Ok asked) now all = all_grown c found us asked.items now all
    asked_grown c found us (Err e) now all = until_grown c found us e now all

    -- ---- what a caller's asks say

    joined : (c : ℕ) (u : Url) (us : List Url) (a : Asked) (bs : List Asked) (seen mid now : List (MapEvent P G)) → AskedOne weight c u a seen mid → AskedThese weight c us bs mid now → AskedThese weight c (u ∷ us) (a ∷ bs) seen now
    joined c u us a bs seen mid now one these = record {
      begins = begins_on seen mid now one.begins these.begins;
      takes = these.takes ∙ one.takes;
      answers = these.answers ∙ one.answers;
      asks = these.asks ∙ ap (λ l. l ++ us) one.asks ∙ append_assoc (asks_by weight c seen) (u ∷ []) us;
      shuts = these.shuts ∙ one.shuts;
      have_urls = ap (λ o. o ∷ map (λ b. slice_get (replay weight now).urls (number_in b)) bs) (url_stays weight (number_in a) u mid now these.begins one.has_url) ∙ ap (λ l. Some u ∷ l) these.have_urls;
    }

    pub all_says : (c : ℕ) (seen found : List (MapEvent P G)) (us : List Url) (bs : List Asked) (now : List (MapEvent P G)) → ContinuesFor maker_of found seen (Some c) → AskedAll weight found c us bs now → AskedThese weight c us bs seen now
    all_says c seen found [] [] now q is = let s = stays weight c seen found now q is in record {
      begins = s.0;
      takes = s.1.0;
      answers = s.1.1;
      asks = s.1.2 ∙ sym (append-nil (asks_by weight c seen));
      shuts = s.1.3;
      have_urls = refl;
    }
    all_says c seen found [] (a ∷ bs) now q is = absurd is
    all_says c seen found (u ∷ us) [] now q is = absurd is
    all_says c seen found (u ∷ us) (a ∷ bs) now q (mid, reply, rest) =
        joined c u us a bs seen mid now (asked_one weight c (number_for (replay weight found) u) u Wanted a seen found mid q reply.0 (ask_numbers weight c u Wanted found mid a reply))
        (all_says c mid mid us bs now (continues_itself mid (Some c)) rest)

    nothing_asked : (c : ℕ) (us : List Url) (seen now : List (MapEvent P G)) → Stays weight c seen now → AskedFirst weight c us seen now
    nothing_asked c us seen now s = record {
      begins = s.0;
      takes = s.1.0;
      answers = s.1.1;
      many = zero;
      asks = s.1.2 ∙ sym (append-nil (asks_by weight c seen));
      shuts = s.1.3;
    }

    one_more : (c : ℕ) (u : Url) (us : List Url) (a : Asked) (seen mid now : List (MapEvent P G)) → AskedOne weight c u a seen mid → AskedFirst weight c us mid now → AskedFirst weight c (u ∷ us) seen now
    one_more c u us a seen mid now one first = record {
      begins = begins_on seen mid now one.begins first.begins;
      takes = first.takes ∙ one.takes;
      answers = first.answers ∙ one.answers;
      many = suc first.many;
      asks = first.asks ∙ ap (λ l. l ++ take first.many us) one.asks ∙ append_assoc (asks_by weight c seen) (u ∷ []) (take first.many us);
      shuts = first.shuts ∙ one.shuts;
    }

    pub until_says : (c : ℕ) (seen found : List (MapEvent P G)) (us : List Url) (e : MapEnd) (now : List (MapEvent P G)) → ContinuesFor maker_of found seen (Some c) → AskedUntil weight found c us e now → AskedFirst weight c us seen now
    until_says c seen found [] e now q r = nothing_asked c [] seen now (stays weight c seen found now q r.1)
    until_says c seen found (u ∷ us) e now q (inl r) = nothing_asked c (u ∷ us) seen now (stays weight c seen found now q (refused c found u e now r))
    until_says c seen found (u ∷ us) e now q (inr (a, mid, reply, rest)) =
        one_more c u us a seen mid now (asked_one weight c (number_for (replay weight found) u) u Wanted a seen found mid q reply.0 (ask_numbers weight c u Wanted found mid a reply))
        (until_says c mid mid us e now (continues_itself mid (Some c)) rest)

    pub asked_says : (c : ℕ) (seen found : List (MapEvent P G)) (us : List Url) (r : Result (Vec Asked Global) MapEnd) (now : List (MapEvent P G)) → ContinuesFor maker_of found seen (Some c) → AskedSome found c us r now
        → MatchResult r (λ asked. AskedThese weight c us asked.items seen now) (λ e. AskedFirst weight c us seen now)
    asked_says c seen found us (Ok asked) now q all = all_says c seen found us asked.items now q all
    asked_says c seen found us (Err e) now q all = until_says c seen found us e now q all

    -- the same, said of the URLs that were copied
    abbrev pub SaidSome : ℕ → List (MapEvent P G) → List Url → Result (Vec Asked Global) MapEnd → List (MapEvent P G) → Type 0
    SaidSome c seen us r now = MatchResult r (λ asked. AskedThese weight c us asked.items seen now) (λ e. AskedFirst weight c us seen now)

    pub turn_for : (c : ℕ) (seen : List (MapEvent P G)) (us vs : List Url) (r : Result (Vec Asked Global) MapEnd) (now : List (MapEvent P G)) → us ≡ vs → Called weight seen (Some c) (λ found. AskedSome found c us r now) → Called weight seen (Some c) (λ found. AskedSome found c vs r now)
    turn_for c seen us vs r now same called = subst (λ l. Called weight seen (Some c) (λ found. AskedSome found c l r now)) same called

    pub says_for : (c : ℕ) (seen : List (MapEvent P G)) (us vs : List Url) (r : Result (Vec Asked Global) MapEnd) (now : List (MapEvent P G)) → us ≡ vs → SaidSome c seen us r now → SaidSome c seen vs r now
    says_for c seen us vs r now same said = subst (λ l. SaidSome c seen l r now) same said

    -- memory ran out before the first ask
    unasked : (c : ℕ) (seen : List (MapEvent P G)) (us : List Url) → AskedUntil weight seen c us end.Memory seen
    unasked c seen [] = (refl, refl)
    unasked c seen (u ∷ us) = inl refl

    pub nothing_called : (c : ℕ) (seen : List (MapEvent P G)) (us : List Url) → is_legal weight seen ≡ true → Called weight seen (Some c) (λ found. AskedUntil weight found c us end.Memory seen)
    nothing_called c seen us legal = (seen, (legal, continues_itself seen (Some c)), unasked c seen us)

    pub nothing_said : (c : ℕ) (seen : List (MapEvent P G)) (us : List Url) → AskedFirst weight c us seen seen
    nothing_said c seen us = nothing_asked c us seen seen (stays weight c seen seen seen (continues_itself seen (Some c)) refl)

-- ---- wishes are asked for one by one

module _ {P G : Type 0} (weight : P → ℕ) where
  -- where what is left leads to an end, the whole leads to it
  pub record IsMidway (c : ℕ) (found : List (MapEvent P G)) (whole : List Wish) (asked : List Asked) (now : List (MapEvent P G)) (left : List Wish) : Type 0 where
    pub wishes : All IsWish left
    pub to_all : (more : List Asked) (last : List (MapEvent P G)) → AskedAll weight now c (map wished left) more last → AskedAll weight found c (map wished whole) (asked ++ more) last
    pub to_end : (e : MapEnd) (last : List (MapEvent P G)) → AskedUntil weight now c (map wished left) e last → AskedUntil weight found c (map wished whole) e last

  pub midway_begins : (c : ℕ) (found : List (MapEvent P G)) (whole left : List Wish) (none : List Asked) → none ≡ [] → left ≡ whole → All IsWish whole → IsMidway c found whole none found left
  midway_begins c found whole left none is same all = record {
    wishes = subst (All IsWish) (sym same) all;
    to_all = λ more last h. subst (λ l. AskedAll weight found c (map wished whole) l last) (ap (λ l. l ++ more) (sym is)) (subst (λ ws. AskedAll weight found c (map wished ws) more last) same h);
    to_end = λ e last h. subst (λ ws. AskedUntil weight found c (map wished ws) e last) same h;
  }

  pub midway_on : (c : ℕ) (found : List (MapEvent P G)) (whole : List Wish) (asked asked2 : List Asked) (now mid : List (MapEvent P G)) (left rest : List Wish) (w : Wish) (a : Asked)
      → IsMidway c found whole asked now left → left ≡ w ∷ rest → AskReply weight now c w.url Wanted (Ok a) mid → asked2 ≡ asked ++ a ∷ [] → IsMidway c found whole asked2 mid rest
  midway_on c found whole asked asked2 now mid left rest w a m is reply grew = record {
    wishes = All-tail IsWish w rest (subst (All IsWish) is m.wishes);
    to_all = λ more last h. subst (λ l. AskedAll weight found c (map wished whole) l last) (sym (ap (λ l. l ++ more) grew ∙ append_assoc asked (a ∷ []) more))
        (m.to_all (a ∷ more) last (subst (λ ws. AskedAll weight now c (map wished ws) (a ∷ more) last) (sym is) (mid, reply, h)));
    to_end = λ e last h. m.to_end e last (subst (λ ws. AskedUntil weight now c (map wished ws) e last) (sym is) (inr (a, mid, reply, h)));
  }

  pub midway_all : (c : ℕ) (found : List (MapEvent P G)) (whole : List Wish) (asked : List Asked) (now : List (MapEvent P G)) (left : List Wish) → length left ≡ 0 → IsMidway c found whole asked now left → AskedAll weight found c (map wished whole) asked now
  midway_all c found whole asked now [] none m = subst (λ l. AskedAll weight found c (map wished whole) l now) (append-nil asked) (m.to_all [] now refl)
  midway_all c found whole asked now (w ∷ left) none m = absurd (omega (arith, none))

  pub midway_ends : (c : ℕ) (found : List (MapEvent P G)) (whole : List Wish) (asked : List Asked) (now last : List (MapEvent P G)) (left rest : List Wish) (w : Wish) (e : MapEnd)
      → IsMidway c found whole asked now left → left ≡ w ∷ rest → AskReply weight now c w.url Wanted (Err e) last → AskedUntil weight found c (map wished whole) e last
  midway_ends c found whole asked now last left rest w e m is reply = m.to_end e last (subst (λ ws. AskedUntil weight now c (map wished ws) e last) (sym is) (inl reply))

  -- the next is a wish
  pub midway_next : (c : ℕ) (found : List (MapEvent P G)) (whole : List Wish) (asked : List Asked) (now : List (MapEvent P G)) (left rest : List Wish) (w : Wish) → IsMidway c found whole asked now left → left ≡ w ∷ rest → IsWish w
  midway_next c found whole asked now left rest w m is = All-head IsWish w rest (subst (All IsWish) is m.wishes)
