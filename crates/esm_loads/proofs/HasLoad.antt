-- Entering a module, answering a pending request, and a call of import() have an outcome.
use Rattle.std.proofs.Common.{◌≡◌, ℕ, zero, suc, ◌+◌, ◌≤◌, ◌<◌, Bool, true, false, cond, List, [], ◌∷◌, length, Some, None, Option, Result, Ok, Err, refl, ap, subst, sym, ◌∙◌, arith, inl, inr}
use Rattle.std.specs.Prelude.{◌⊎◌, ◌||◌, ◌==◌, not, nat_lt, slice_get}
use Rattle.esm_base.specs.declared.limits.Limit.{Limit}
use Rattle.esm_base.specs.Urls.{Text, Url, has, same_url}
use Rattle.esm_realm.proofs.Urls.{same_text, own_text, or_cases}
use Rattle.esm_ast.specs.Outcome.{OutcomeView}
use Rattle.esm_specifier.specs.Resolution.{resolution_of_specifier}
use Rattle.esm_specifier.specs.declared.fault.SpecFault.{SpecFault}
use Rattle.esm_loads.specs.UrlTable.{Entries, TableEntry, Throw, thrown_by, targets_in, with_url}
use Rattle.esm_loads.specs.Loading.{Loading, PendingRequest, Root, Request, OpenLoad, Open, Thrown, open_load, begin, visit, ask, ask_by, throw, finish, is_fresh, is_fetching, targets}
use Rattle.esm_loads.specs.Load.{Enters, Asks, Answers}
use Rattle.esm_loads.specs.Load.Enters.{ended, known, enters}
use Rattle.esm_loads.specs.Load.Asks.{no_more, over, waits, throws, loads}
use Rattle.esm_loads.specs.Load.Answers.{no_root, no_module, root, request}
use Rattle.esm_loads.specs.Host.{Host, Answered, begin_load, settle_load, with_loading}
use Rattle.esm_loads.specs.Host.Answered.{answered, late}
use Rattle.esm_loads.specs.Arrival.{Next, next, AnswersNext, AnswersAll, Arrives, after_fetch, pending_left, without_next}
use Rattle.esm_loads.proofs.Pending.{fewer_left}
use Rattle.esm_loads.specs.ImportCall.{Imports, add_load, counted, next_load, end_by}
use Rattle.esm_loads.specs.Laws.{IsOrderly, HasLoad}
use Rattle.esm_loads.proofs.Limits.{live, get_set}
use Rattle.esm_loads.proofs.Orderly.{without_orderly, stays_orderly}
use Rattle.esm_loads.proofs.Tables.{Table, begun}

-- ---- how many of these URLs a set hasn't

not_in : (Url → Bool) → List Url → ℕ
not_in set [] = 0
not_in set (u ∷ us) = cond (set u) 0 1 + not_in set us

one_less : (set : Url → Bool) (x u : Url) → cond (with_url set x u) 0 1 ≤ cond (set u) 0 1
one_less set x u = by (same_url x u) (set u)
  where
    by : (a b : Bool) → cond (cond a true b) 0 1 ≤ cond b 0 1
    by true true = omega arith
    by true false = omega arith
    by false true = omega arith
    by false false = omega arith

not_in_more : (set : Url → Bool) (us : List Url) (x : Url) → not_in (with_url set x) us ≤ not_in set us
unfolding not_in
not_in_more set [] x = omega arith
not_in_more set (u ∷ us) x = let one = one_less set x u in let rest = not_in_more set us x in omega (arith, one, rest)

own_less : (set : Url → Bool) (x : Url) → set x ≡ false → cond (with_url set x x) 0 1 < cond (set x) 0 1
own_less set x n = let own = own_text x in rw (n, own) (omega arith)

not_in_less : (set : Url → Bool) (us : List Url) (x : Url) → has us x ≡ true → set x ≡ false → not_in (with_url set x) us < not_in set us
unfolding not_in
not_in_less set [] x h n = cc
not_in_less set (u ∷ us) x h n = by (or_cases (same_url x u) (has us x) h) (λ k. not_in_less set us x k n)
  where
    by : (same_url x u ≡ true) ⊎ (has us x ≡ true) → (has us x ≡ true → not_in (with_url set x) us < not_in set us) → cond (with_url set x u) 0 1 + not_in (with_url set x) us < cond (set u) 0 1 + not_in set us
    by (inl s) rest =
        let one : cond (with_url set x u) 0 1 < cond (set u) 0 1 = subst (λ v. cond (with_url set x v) 0 1 < cond (set v) 0 1) (same_text x u s) (own_less set x n) in
        let others = not_in_more set us x in
        omega (arith, one, others)
    by (inr k) rest = let one = one_less set x u in let others = rest k in omega (arith, one, others)

-- ---- entering

pub opened_visit : (l : Loading) (s : ℕ) (o : OpenLoad) (x : Url) → open_load l s ≡ Some o → open_load (visit l s o x) s ≡ Some (o.0, with_url o.1 x)
opened_visit l s o x e =
    let h = live l.stopped (slice_get l.loads s) e in
    rw (h.0, get_set l.loads s _ (Open o.0 (with_url o.1 x)) h.1)

pub opened_throw : (l : Loading) (s : ℕ) (thrown : Throw) (o : OpenLoad) → open_load l s ≡ Some o → open_load (throw l s thrown) s ≡ None
opened_throw l s thrown o e =
    let h = live l.stopped (slice_get l.loads s) e in
    rw (h.0, get_set l.loads s _ (Thrown thrown) h.1)

-- these are the entries, and what is fetched is among these URLs
module _ (es : Entries) (us : List Url) (among : (u : Url) → is_fetching (es u) ≡ false → has us u ≡ true) where
  abbrev remaining_by : Option OpenLoad → ℕ
  remaining_by None = 0
  remaining_by (Some o) = not_in o.1 us

  -- how many of them a load hasn't visited
  abbrev remaining : Loading → ℕ → ℕ
  remaining l s = remaining_by (open_load l s)

  record HasEntered (l : Loading) (s : ℕ) (x : Url) : Type 0 where
    after : Loading
    is : Enters l s x after
    entries : after.entries ≡ es
    less : remaining after s ≤ remaining l s

  record HasAsked (l : Loading) (s : ℕ) (x : Url) (i : ℕ) (ts : List Url) : Type 0 where
    after : Loading
    is : Asks l s x i ts after
    entries : after.entries ≡ es
    less : remaining after s ≤ remaining l s

  EntersWithin : ℕ → Type 0
  EntersWithin k = (l : Loading) (s : ℕ) (x : Url) → l.entries ≡ es → remaining l s ≤ k → HasEntered l s x

  ask_less : (b c : Bool) (l : Loading) (s : ℕ) (t : Url) (a : PendingRequest) → remaining (ask_by b c l t a) s ≤ remaining l s
  ask_less true c l s t a = omega arith
  ask_less false true l s t a = omega arith
  ask_less false false l s t a = omega arith

  ask_entries : (b c : Bool) (l : Loading) (t : Url) (a : PendingRequest) → (ask_by b c l t a).entries ≡ l.entries
  ask_entries true c l t a = refl
  ask_entries false true l t a = refl
  ask_entries false false l t a = refl

  asks_within : (k : ℕ) → EntersWithin k → (ts : List Url) (l : Loading) (s : ℕ) (x : Url) (i : ℕ) → l.entries ≡ es → remaining l s ≤ k → HasAsked l s x i ts
  unfolding EntersWithin
  asks_within k enter [] l s x i e le = record { after = l; is = no_more; entries = e; less = omega arith }
  asks_within k enter (t ∷ ts) l s x i e le = by (open_load l s) refl (l.entries t) refl (λ m f lt. asks_within k enter ts m s x (suc i) f lt)
    where
      Later : Type 0
      Later = (m : Loading) → m.entries ≡ es → remaining m s ≤ k → HasAsked m s x (suc i) ts

      fetched : (o : OpenLoad) → open_load l s ≡ Some o → (c : TableEntry) → l.entries t ≡ Some c → (thrown : Option Throw) → thrown_by t c ≡ thrown → Later → HasAsked l s x i (t ∷ ts)
      fetched o g c h (Some thrown) f later =
          let none : remaining (throw l s thrown) s ≡ 0 = ap remaining_by (opened_throw l s thrown o g) in
          record { after = throw l s thrown; is = throws o c thrown g h f; entries = e; less = omega (arith, none) }
      fetched o g c h None f later =
          let v = enter l s t e le in
          let r = later v.after v.entries (omega (arith, v.less, le)) in
          record { after = r.after; is = loads o c g h f v.is r.is; entries = r.entries; less = omega (arith, v.less, r.less) }

      by : (o : Option OpenLoad) → open_load l s ≡ o → (c : Option TableEntry) → l.entries t ≡ c → Later → HasAsked l s x i (t ∷ ts)
      by None g c h later = record { after = l; is = over g; entries = e; less = omega arith }
      by (Some o) g None h later =
          let less = ask_less (has l.asked t) (nat_lt (length l.asked) 4096) l s t (Request s x i) in
          let r = later (ask l t (Request s x i)) (ask_entries (has l.asked t) (nat_lt (length l.asked) 4096) l t (Request s x i) ∙ e) (omega (arith, less, le)) in
          record { after = r.after; is = waits o g h r.is; entries = r.entries; less = omega (arith, less, r.less) }
      by (Some o) g (Some c) h later = fetched o g c h (thrown_by t c) refl later

  fresh_new : (a b : Bool) → not (a || b) ≡ true → a ≡ false
  fresh_new true b h = cc
  fresh_new false b h = refl

  -- x has an entry, and less remains, or it has none, and so no targets
  inner_at : (l : Loading) (s : ℕ) (x : Url) (o : OpenLoad) → l.entries ≡ es → open_load l s ≡ Some o → is_fresh l o.1 x ≡ true → (remaining (visit l s o x) s < remaining l s → HasAsked (visit l s o x) s x 0 (targets l x)) → HasAsked (visit l s o x) s x 0 (targets l x)
  inner_at l s x o e g f inner = by (l.entries x) refl
    where
      by : (c : Option TableEntry) → l.entries x ≡ c → HasAsked (visit l s o x) s x 0 (targets l x)
      by None h = subst (λ c. HasAsked (visit l s o x) s x 0 (targets_in c)) (sym h) (record { after = visit l s o x; is = no_more; entries = e; less = omega arith })
      by (Some c) h =
          let stands : es x ≡ Some c = sym (ap (λ (m : Entries). m x) e) ∙ h in
          let there : has us x ≡ true = among x (ap is_fetching stands) in
          let lt = not_in_less o.1 us x there (fresh_new (o.1 x) (l.unlinked x) f) in
          let now : remaining (visit l s o x) s ≡ not_in (with_url o.1 x) us = ap remaining_by (opened_visit l s o x g) in
          let was : remaining l s ≡ not_in o.1 us = ap remaining_by g in
          inner (omega (arith, lt, now, was))

  enter_by : (l : Loading) (s : ℕ) (x : Url) → l.entries ≡ es → ((o : OpenLoad) → open_load l s ≡ Some o → is_fresh l o.1 x ≡ true → HasAsked (visit l s o x) s x 0 (targets l x)) → HasEntered l s x
  enter_by l s x e inner = by (open_load l s) refl
    where
      fresh : (o : OpenLoad) → open_load l s ≡ Some o → (b : Bool) → is_fresh l o.1 x ≡ b → HasEntered l s x
      fresh o g false f = record { after = l; is = known o g f; entries = e; less = omega arith }
      fresh o g true f =
          let r = inner o g f in
          let now : remaining (visit l s o x) s ≡ not_in (with_url o.1 x) us = ap remaining_by (opened_visit l s o x g) in
          let was : remaining l s ≡ not_in o.1 us = ap remaining_by g in
          let more = not_in_more o.1 us x in
          record { after = r.after; is = enters o g f r.is; entries = r.entries; less = omega (arith, r.less, now, was, more) }

      by : (o : Option OpenLoad) → open_load l s ≡ o → HasEntered l s x
      by None g = record { after = l; is = ended g; entries = e; less = omega arith }
      by (Some o) g = fresh o g (is_fresh l o.1 x) refl

  enters_within : (k : ℕ) → EntersWithin k
  unfolding EntersWithin
  enters_within zero l s x e le = enter_by l s x e (λ o g f. inner_at l s x o e g f (λ lt. absurd (omega (arith, lt, le))))
  enters_within (suc k) l s x e le = enter_by l s x e (λ o g f. inner_at l s x o e g f (λ lt. asks_within k (enters_within k) (targets l x) (visit l s o x) s x 0 e (omega (arith, lt, le))))

-- what is fetched was asked
Among : Entries → List Url → Type 0
Among es us = (u : Url) → is_fetching (es u) ≡ false → has us u ≡ true

has_entered : (l : Loading) (s : ℕ) (x : Url) → Among l.entries l.asked → (m : Loading) × Enters l s x m
unfolding EntersWithin Among
has_entered l s x among = let r = enters_within l.entries l.asked among (remaining l.entries l.asked among l s) l s x refl (omega arith) in (r.after, r.is)

-- ---- an answer

has_answer_root : (l : Loading) (s : ℕ) (t : Url) (e : TableEntry) → Among l.entries l.asked → (m : Loading) × Answers l (Root s) t e m
has_answer_root l s t e among = by (thrown_by t e) refl
  where
    by : (o : Option Throw) → thrown_by t e ≡ o → (m : Loading) × Answers l (Root s) t e m
    by (Some thrown) f = (throw l s thrown, no_root thrown f)
    by None f = let v = has_entered (begin l s t) s t among in (finish v.0 s, root f v.1)

abbrev AmongTable : Table → Type 0
AmongTable t = Among t.entries t.asked

has_answered : (h : Host) (a : PendingRequest) (u : Url) (e : TableEntry) → Among h.imports.entries h.imports.asked → (after : Host) × Answered h a u e after
has_answered h (Root s) u e among =
    let b = begin_load h (Root s) u e in
    let r = has_answer_root b.imports s u e (begun AmongTable h (Root s) u e among) in
    (settle_load (with_loading b r.0) s, answered r.1)
has_answered h (Request s x i) u e among = by (open_load h.imports s) refl (thrown_by u e) refl
  where
    by : (o : Option OpenLoad) → open_load h.imports s ≡ o → (p : Option Throw) → thrown_by u e ≡ p → (after : Host) × Answered h (Request s x i) u e after
    by None g p f = (h, late g)
    by (Some o) g (Some thrown) f = (settle_load (with_loading h (throw h.imports s thrown)) s, answered (no_module o thrown g f))
    by (Some o) g None f = let v = has_entered h.imports s u among in (settle_load (with_loading h (finish v.0 s)) s, answered (request o g f v.1))

-- ---- an import()

has_import : (h : Host) (referrer : Url) (specifier : Text) (promise : ℕ) → Among h.imports.entries h.imports.asked → (after : Host) × Imports h referrer specifier promise after
has_import h referrer specifier promise among = by (h.imports.import_calls == 4096) refl (resolution_of_specifier h.imports.maps referrer specifier) refl
  where
    stands : (u : Url) → (h.imports.import_calls == 4096) ≡ false → resolution_of_specifier h.imports.maps referrer specifier ≡ Ok u → (o : Option TableEntry) → h.imports.entries u ≡ o → (after : Host) × Imports h referrer specifier promise after
    stands u room r None g = (_, Imports.asks u room r g)
    stands u room r (Some e) g = let q = has_answered (add_load (counted h) promise) (Root (next_load h)) u e among in (q.0, Imports.answers u e room r g q.1)

    by : (b : Bool) → (h.imports.import_calls == 4096) ≡ b → (o : Result Url SpecFault) → resolution_of_specifier h.imports.maps referrer specifier ≡ o → (after : Host) × Imports h referrer specifier promise after
    by true full o r = (_, Imports.limit full)
    by false room (Err f) r = (_, Imports.unresolved f room r)
    by false room (Ok u) r = stands u room r (h.imports.entries u) refl

among_of : (l : Loading) → IsOrderly l → Among l.entries l.asked
unfolding Among
among_of l o = o.fetched

has_next : (h : Host) (n : Next) → IsOrderly h.imports → next h.imports ≡ Some n → (after : Host) × AnswersNext h after
has_next h n o e =
    let k = without_next h n in
    let q = has_answered k n.pending_request n.url n.entry (among_of k.imports (without_orderly h n e o)) in
    (q.0, record { who = n; is_next = e; answered = q.1 })

AllWithin : ℕ → Type 0
AllWithin k = (h : Host) → IsOrderly h.imports → pending_left h.imports ≤ k → (after : Host) × AnswersAll h after

-- one request is answered, and then the others
all_by : (h : Host) → IsOrderly h.imports → ((mid : Host) → AnswersNext h mid → (after : Host) × AnswersAll mid after) → (after : Host) × AnswersAll h after
all_by h o rest = by h.imports.stopped refl (next h.imports) refl
  where
    by : (s : Option Limit) → h.imports.stopped ≡ s → (n : Option Next) → next h.imports ≡ n → (after : Host) × AnswersAll h after
    by (Some limit) s n e = (h, AnswersAll.stops limit s)
    by None s None e = (h, AnswersAll.none e)
    by None s (Some n) e = let q = has_next h n o e in let r = rest q.0 q.1 in (r.0, AnswersAll.answers s q.1 r.1)

all_within : (k : ℕ) → AllWithin k
unfolding AllWithin
all_within zero h o le = all_by h o (λ mid q. let less = fewer_left.answer h mid q in absurd (omega (arith, less, le)))
all_within (suc k) h o le = all_by h o (λ mid q. let less = fewer_left.answer h mid q in all_within k mid (stays_orderly.next h mid o q) (omega (arith, less, le)))

has_arrival : (h : Host) (u : Url) (c : OutcomeView) → IsOrderly h.imports → has h.imports.asked u ≡ true → (after : Host) × Arrives h u c after
unfolding AllWithin
has_arrival h u c o k = let f = after_fetch h u c in all_within (pending_left f.imports) f (stays_orderly.fetched h u c o k) (omega arith)

pub has_load : HasLoad
has_load = record {
  enters = λ l s x o. has_entered l s x (among_of l o);
  answered = λ h a u e o. has_answered h a u e (among_of h.imports o);
  next = has_next;
  arrives = has_arrival;
  imports = λ h referrer specifier promise o. has_import h referrer specifier promise (among_of h.imports o);
  begins = λ h referrer specifier promise o.
      let q = has_import h referrer specifier promise (among_of h.imports o) in
      (end_by q.0.imports.stopped, q.0, record { imports = q.1; ends = refl });
}
