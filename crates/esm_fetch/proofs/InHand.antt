-- What a worker has in hand: it begins with nothing, fetches one after the other, posts, and takes the next.
use Rattle.std.proofs.Common.{◌≡◌, ◌≤◌, ◌⊎◌, inl, inr, ◌||◌, ℕ, zero, suc, nat_eq, arith, slice_get, slice_index_or, length, Bool, true, false, List, [], ◌∷◌, ◌++◌, map, refl, sym, ap, ◌∙◌, subst, append_assoc, append-nil, Option, Some}
use Rattle.std.specs.Prelude.{All}
use Rattle.std.specs.Arc.{arc_value}
use Rattle.std.proofs.lemmas.List.Elements.{All-nil, All-cons, All-head, All-tail, All-append, All-weaker}
use Rattle.std.proofs.lemmas.List.Folds.{list_any-append}
use Rattle.std.proofs.lemmas.List.{map-append, length-map}
use Rattle.esm_ports.specs.declared.asked.Asked.{Asked}
use Rattle.esm_ports.specs.declared.asked.AskKind.{AskKind}
use Rattle.esm_ports.specs.Asks.{asks_with}
use Rattle.esm_base.specs.Lists.{is_in, EachOnce}
use Rattle.esm_base.specs.Urls.{Url, IsUsable}
use Rattle.esm_module_map.specs.declared.event.MapEvent.{MapEvent}
use Rattle.esm_module_map.specs.declared.reply.Filled.{Filled}
use Rattle.esm_module_map.specs.declared.reply.Order.{Order}
use Rattle.esm_module_map.specs.Batches.{TookThese, AreFilled, answer_of, number_filled, number_ordered, url_ordered}
use Rattle.esm_module_map.specs.Replay.{replay, is_order, is_legal}
use Rattle.esm_module_map.specs.Laws.{UrlsAreUsable}
use Rattle.esm_module_map.specs.Histories.{takes_by, answers_by}
use Rattle.esm_import_map.specs.ImportMap.{Maps}
use Rattle.esm_module_map.specs.Leading.{guide_in}
use Rattle.esm_module_map.specs.Fitting.{FitsIn}
use Rattle.esm_module_map.specs.Saying.{IsOrderIn}
use Rattle.esm_fetch.specs.declared.posted.Posted.{Posted}
use Rattle.esm_ast.specs.Outcome.{outcome_view}
use Rattle.esm_fetch.specs.Answered.{Contents, kind_of}
use Rattle.esm_fetch.specs.Serving.{weight, fits, url_in, ask_for, IsTrueAnswer, IsServed, IsCut, Serves, Served}
use Rattle.esm_fetch.specs.Inner.Asking.{AreInHand, AreCutInHand, answers_with}
use Rattle.esm_fetch.proofs.ServingLemmas.{fits_by_guide}

abbrev IsOrdered : ℕ → List (MapEvent Posted Maps) → Filled Posted → Type 0
IsOrdered c h f = is_order (replay weight h) c f.number ≡ true

abbrev IsFitting : List (MapEvent Posted Maps) → Filled Posted → Type 0
IsFitting h f = (url : Url) → slice_get (replay weight h).urls f.number ≡ Some url → FitsIn fits h (arc_value f.payload) url

none_filled : (c : ℕ) (h : List (MapEvent Posted Maps)) → AreFilled weight fits h c []
none_filled c h = record { once = tt; orders = All-nil (IsOrdered c h); fit = All-nil (IsFitting h) }

module _ (holds : Option Contents) (asked : List Asked) (c : ℕ) where
  -- it begins with nothing
  pub hand_first : (h : List (MapEvent Posted Maps)) → Serves holds asked c h → AreInHand holds asked c h [] []
  hand_first h s = record {
    answered = subst (All (IsTrueAnswer holds)) (sym (append-nil (answers_by weight c h))) s.answered;
    asked_is = s.asked_is ∙ ap (map ask_for) (sym (append-nil (answers_by weight c h)));
    takes_is = s.takes_is ∙ ap (map url_in) (sym (append-nil (answers_by weight c h))) ∙ sym (append-nil (map url_in (answers_with c h [])));
    own = All-nil (λ (o : Order). IsOrderIn weight h c o.number o.url);
    few = omega arith;
    are_filled = none_filled c h;
    once = tt;
  }

  -- nothing in hand
  pub hand_serves : (h : List (MapEvent Posted Maps)) → AreInHand holds asked c h [] [] → Serves holds asked c h
  hand_serves h k = let same = append-nil (answers_by weight c h) in record {
    answered = subst (All (IsTrueAnswer holds)) same k.answered;
    asked_is = k.asked_is ∙ ap (map ask_for) same;
    takes_is = k.takes_is ∙ append-nil (map url_in (answers_with c h [])) ∙ ap (map url_in) same;
  }

  -- memory runs out before any of it is fetched
  pub hand_cut : (h : List (MapEvent Posted Maps)) (orders : List Order) → AreInHand holds asked c h [] orders → Served 4 holds asked c h
  hand_cut h [] k = inl (hand_serves h k)
  hand_cut h (o ∷ os) k = let same = append-nil (answers_by weight c h) in inr (record {
    answered = subst (All (IsTrueAnswer holds)) same k.answered;
    url = o.url;
    asked_is = inl (k.asked_is ∙ ap (map ask_for) same);
    rest = map url_ordered os;
    few = let l = length-map os url_ordered in let f = k.few in omega (arith, l, f);
    takes_is = k.takes_is ∙ ap (λ l. map url_in l ++ o.url ∷ map url_ordered os) same;
  })

  -- or before the next of it came
  pub fetched_none : (after : List Asked) (h : List (MapEvent Posted Maps)) (filled : List (Filled Posted)) (o : Order) (os : List Order)
      → AreInHand holds asked c h filled (o ∷ os) → (after ≡ asked) ⊎ ((kind : AskKind) × (after ≡ asks_with asked o.url kind)) → AreCutInHand holds after c h filled
  fetched_none after h filled o os k grew = record {
    are_filled = k.are_filled;
    cut = record {
      answered = k.answered;
      url = o.url;
      asked_is = by_end grew;
      rest = map url_ordered os;
      few = let l = length-map os url_ordered in let f = k.few in omega (arith, l, f);
      takes_is = k.takes_is;
    };
  }
    where
      by_end : (after ≡ asked) ⊎ ((kind : AskKind) × (after ≡ asks_with asked o.url kind)) → (after ≡ map ask_for (answers_with c h filled)) ⊎ ((kind : AskKind) × (after ≡ asks_with (map ask_for (answers_with c h filled)) o.url kind))
      by_end (inl e) = inl (e ∙ k.asked_is)
      by_end (inr (kind, e)) = inr (kind, e ∙ ap (λ l. asks_with l o.url kind) k.asked_is)

  -- it is posted, and the next were taken
  pub hand_on : (seen now : List (MapEvent Posted Maps)) (filled : List (Filled Posted)) (orders : List Order)
      → AreInHand holds asked c seen filled [] → length orders ≤ 4 → TookThese weight c filled orders seen now → AreInHand holds asked c now [] orders
  hand_on seen now filled orders k few t = let same : answers_with c now [] ≡ answers_with c seen filled = append-nil (answers_by weight c now) ∙ t.answers in record {
    answered = subst (All (IsTrueAnswer holds)) (sym same) k.answered;
    asked_is = k.asked_is ∙ ap (map ask_for) (sym same);
    takes_is = t.takes ∙ ap (λ l. l ++ map url_ordered orders) (k.takes_is ∙ append-nil (map url_in (answers_with c seen filled)) ∙ ap (map url_in) (sym same));
    own = t.own;
    few = few;
    are_filled = none_filled c now;
    once = t.once;
  }

-- an element that is there is what stands at its index
index_of : (xs : List Url) (n : ℕ) (u d : Url) → slice_get xs n ≡ Some u → slice_index_or xs n d ≡ u
index_of [] n u d e = cc
index_of (x ∷ xs) zero u d e = cc
index_of (x ∷ xs) (suc n) u d e = index_of xs n u d e

-- the front of a list has none twice
once_front : (xs ys : List ℕ) → EachOnce nat_eq (xs ++ ys) → EachOnce nat_eq xs
once_front [] ys o = tt
once_front (x ∷ xs) ys o = (or_false (is_in nat_eq xs x) (is_in nat_eq ys x) (sym (list_any-append (nat_eq x) xs ys) ∙ o.0), once_front xs ys o.1)
  where
    or_false : (p q : Bool) → (p || q) ≡ false → p ≡ false
    or_false true q e = e
    or_false false q e = refl

-- the next of it came
pub fetched_one : (holds : Option Contents) (asked after : List Asked) (c : ℕ) (h : List (MapEvent Posted Maps)) (filled : List (Filled Posted)) (o : Order) (os : List Order) (f : Filled Posted)
    → AreInHand holds asked c h filled (o ∷ os) → f.number ≡ o.number
    → after ≡ asks_with asked o.url (kind_of (outcome_view (arc_value f.payload).outcome))
    → ((n : ℕ) → IsTrueAnswer holds (record { number = n; url = o.url; payload = arc_value f.payload }))
    → FitsIn fits h (arc_value f.payload) o.url
    → AreInHand holds after c h (filled ++ f ∷ []) os
fetched_one holds asked after c h filled o os f k number grew is_true fit =
    let kind = kind_of (outcome_view (arc_value f.payload).outcome) in
    let all = answers_with c h filled in
    let a = answer_of (replay weight h) f in
    let own = All-head (λ (order : Order). IsOrderIn weight h c order.number order.url) o os k.own in
    let has : slice_get (replay weight h).urls f.number ≡ Some o.url = subst (λ n. slice_get (replay weight h).urls n ≡ Some o.url) (sym number) own.has_url in
    let url_is : a.url ≡ o.url = index_of (replay weight h).urls f.number o.url [] has in
    let more : answers_with c h (filled ++ f ∷ []) ≡ all ++ a ∷ [] = ap (λ l. answers_by weight c h ++ l) (map-append (answer_of (replay weight h)) filled (f ∷ []))
    ∙ sym (append_assoc (answers_by weight c h) (map (answer_of (replay weight h)) filled) (a ∷ [])) in
    let once : EachOnce nat_eq (map number_filled (filled ++ f ∷ []) ++ map number_ordered os) =
    subst (EachOnce nat_eq) (sym (append_assoc (map number_filled filled) (o.number ∷ []) (map number_ordered os)) ∙ ap (λ n. (map number_filled filled ++ n ∷ []) ++ map number_ordered os) (sym number)
    ∙ ap (λ l. l ++ map number_ordered os) (sym (map-append number_filled filled (f ∷ [])))) k.once in
    record {
      answered = subst (All (IsTrueAnswer holds)) (sym more) (All-append (IsTrueAnswer holds) all (a ∷ []) k.answered (All-cons (IsTrueAnswer holds) a [] (subst (λ u. IsTrueAnswer holds (record { number = f.number; url = u; payload = arc_value f.payload })) (sym url_is) (is_true f.number)) (All-nil (IsTrueAnswer holds))));
      asked_is = grew ∙ ap (λ l. asks_with l o.url kind) k.asked_is ∙ ap (λ u. asks_with (map ask_for all) u kind) (sym url_is) ∙ sym (map-append ask_for all (a ∷ [])) ∙ ap (map ask_for) (sym more);
      takes_is = k.takes_is ∙ sym (append_assoc (map url_in all) (o.url ∷ []) (map url_ordered os)) ∙ ap (λ u. (map url_in all ++ u ∷ []) ++ map url_ordered os) (sym url_is)
          ∙ ap (λ l. l ++ map url_ordered os) (sym (map-append url_in all (a ∷ [])) ∙ ap (map url_in) (sym more));
      own = All-tail (λ (order : Order). IsOrderIn weight h c order.number order.url) o os k.own;
      few = let less = k.few in omega (arith, less);
      are_filled = record {
        once = once_front (map number_filled (filled ++ f ∷ [])) (map number_ordered os) once;
        orders = All-append (IsOrdered c h) filled (f ∷ []) k.are_filled.orders (All-cons (IsOrdered c h) f [] (subst (λ n. is_order (replay weight h) c n ≡ true) (sym number) own.order) (All-nil (IsOrdered c h)));
        fit = All-append (IsFitting h) filled (f ∷ []) k.are_filled.fit (All-cons (IsFitting h) f [] (λ url at. let same : Some o.url ≡ Some url = sym has ∙ at in let one : o.url ≡ url = cc in subst (FitsIn fits h (arc_value f.payload)) one fit) (All-nil (IsFitting h)));
      };
      once = once;
    }

-- the next of it came, in the words of the code
pub hand_next : (start held : Option Contents) (asked after : List Asked) (guide : Maps) (c : ℕ) (h : List (MapEvent Posted Maps)) (filled longer : List (Filled Posted)) (left rest : List Order) (o : Order) (f : Filled Posted)
    → held ≡ start → left ≡ o ∷ rest → longer ≡ filled ++ f ∷ [] → guide_in h ≡ Some guide → f.number ≡ o.number
    → after ≡ asks_with asked o.url (kind_of (outcome_view (arc_value f.payload).outcome))
    → ((n : ℕ) → IsTrueAnswer held (record { number = n; url = o.url; payload = arc_value f.payload }))
    → fits guide (arc_value f.payload) o.url ≡ true
    → AreInHand start asked c h filled left → AreInHand start after c h longer rest
hand_next start held asked after guide c h filled longer left rest o f same is grew at number asks is_true ok k =
    subst (λ l. AreInHand start after c h l rest) (sym grew) (fetched_one start asked after c h filled o rest f (subst (λ l. AreInHand start asked c h filled l) is k) number asks
    (λ n. subst (λ x. IsTrueAnswer x (record { number = n; url = o.url; payload = arc_value f.payload })) same (is_true n)) (fits_by_guide h guide (arc_value f.payload) o.url at ok))

-- memory ran out before the next of it came, in the words of the code
pub hand_none : (holds : Option Contents) (asked after : List Asked) (c : ℕ) (h : List (MapEvent Posted Maps)) (filled : List (Filled Posted)) (left rest : List Order) (o : Order)
    → left ≡ o ∷ rest → (after ≡ asked) ⊎ ((kind : AskKind) × (after ≡ asks_with asked o.url kind)) → AreInHand holds asked c h filled left → AreCutInHand holds after c h filled
hand_none holds asked after c h filled left rest o is grew k = fetched_none holds asked c after h filled o rest (subst (λ l. AreInHand holds asked c h filled l) is k) grew

-- nothing is left to fetch
pub hand_done : (holds : Option Contents) (asked : List Asked) (c : ℕ) (h : List (MapEvent Posted Maps)) (filled : List (Filled Posted)) (left : List Order) → length left ≡ 0 → AreInHand holds asked c h filled left → AreInHand holds asked c h filled []
hand_done holds asked c h filled [] none k = k
hand_done holds asked c h filled (o ∷ left) none k = absurd (omega (arith, none))

-- what is to be fetched may name modules
pub all_usable : UrlsAreUsable Posted Maps weight → (c : ℕ) (h : List (MapEvent Posted Maps)) (orders : List Order) → is_legal weight h ≡ true → All (λ (o : Order). IsOrderIn weight h c o.number o.url) orders → All (λ (o : Order). IsUsable o.url) orders
all_usable usable c h orders legal own = All-weaker (λ (o : Order). IsOrderIn weight h c o.number o.url) (λ (o : Order). IsUsable o.url) (λ o is. usable o.number o.url h legal is.has_url) orders own

-- ---- memory runs out; the caller's number is written in two ways

-- what was fetched before is posted
pub cut_posted : (holds : Option Contents) (asked : List Asked) (c : ℕ) (seen now : List (MapEvent Posted Maps)) (filled : List (Filled Posted))
    → AreCutInHand holds asked c seen filled → takes_by weight c now ≡ takes_by weight c seen → answers_by weight c now ≡ answers_with c seen filled → Served 4 holds asked c now
cut_posted holds asked c seen now filled k takes answers =
    inr (subst (λ t. IsCut 4 holds asked t (answers_by weight c now)) (sym takes) (subst (λ l. IsCut 4 holds asked (takes_by weight c seen) l) (sym answers) k.cut))

-- the map is shut then
pub served_shut : (holds : Option Contents) (asked : List Asked) (c d : ℕ) (mid now : List (MapEvent Posted Maps)) → d ≡ c → takes_by weight d now ≡ takes_by weight d mid → answers_by weight d now ≡ answers_by weight d mid
    → Served 4 holds asked c mid → Served 4 holds asked c now
served_shut holds asked c d mid now same takes answers s =
    let takes' = subst (λ m. takes_by weight m now ≡ takes_by weight m mid) same takes in
    let answers' = subst (λ m. answers_by weight m now ≡ answers_by weight m mid) same answers in
    subst (λ t. IsServed holds asked t (answers_by weight c now) ⊎ IsCut 4 holds asked t (answers_by weight c now)) (sym takes')
    (subst (λ l. IsServed holds asked (takes_by weight c mid) l ⊎ IsCut 4 holds asked (takes_by weight c mid) l) (sym answers') s)

-- nothing was taken, and the map was shut
pub none_taken : (c d : ℕ) (filled : List (Filled Posted)) (orders : List Order) (seen mid now : List (MapEvent Posted Maps)) → d ≡ c → length orders ≡ 0 → TookThese weight c filled orders seen mid
    → takes_by weight d now ≡ takes_by weight d mid → takes_by weight c now ≡ takes_by weight c seen
none_taken c d filled [] seen mid now same none took takes = subst (λ m. takes_by weight m now ≡ takes_by weight m mid) same takes ∙ took.takes ∙ append-nil (takes_by weight c seen)
none_taken c d filled (o ∷ orders) seen mid now same none took takes = absurd (omega (arith, none))

pub posted_all : (c d : ℕ) (filled : List (Filled Posted)) (orders : List Order) (seen mid now : List (MapEvent Posted Maps)) → d ≡ c → TookThese weight c filled orders seen mid
    → answers_by weight d now ≡ answers_by weight d mid → answers_by weight c now ≡ answers_with c seen filled
posted_all c d filled orders seen mid now same took answers = subst (λ m. answers_by weight m now ≡ answers_by weight m mid) same answers ∙ took.answers

-- ---- a turn of the loop

-- what is in hand, where the source and the caller's number are written in another way
pub hand_as : (holds held : Option Contents) (asked : List Asked) (c d : ℕ) (now : List (MapEvent Posted Maps)) (orders : List Order) → held ≡ holds → d ≡ c → AreInHand holds asked c now [] orders → AreInHand held asked d now [] orders
hand_as holds held asked c d now orders same number k = subst (λ x. AreInHand x asked d now [] orders) (sym same) (subst (λ m. AreInHand holds asked m now [] orders) (sym number) k)

-- nothing was taken
pub hand_ends : (holds held : Option Contents) (asked : List Asked) (c d : ℕ) (now : List (MapEvent Posted Maps)) (orders : List Order) → held ≡ holds → d ≡ c → length orders ≡ 0 → AreInHand held asked d now [] orders → Serves holds asked c now
hand_ends holds held asked c d now [] same number none k = subst (λ x. Serves x asked c now) same (subst (λ m. Serves held asked m now) number (hand_serves held asked d now k))
hand_ends holds held asked c d now (o ∷ orders) same number none k = absurd (omega (arith, none))
