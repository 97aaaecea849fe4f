-- Pending requests are answered in order of asking, and each answer leaves one less.
use Rattle.std.proofs.Common.{◌≡◌, ℕ, ◌+◌, ◌≤◌, ◌<◌, Bool, true, false, List, [], ◌∷◌, ◌++◌, length, Option, Some, None, refl, ap, subst, sym, ◌∙◌, arith, inl, inr}
use Rattle.std.specs.Prelude.{◌⊎◌, nat_lt}
use Rattle.esm_base.specs.declared.limits.Limit.{Limit}
use Rattle.esm_ast.specs.Outcome.{OutcomeView}
use Rattle.esm_base.specs.Urls.{Url, has, same_url}
use Rattle.esm_realm.proofs.Urls.{cases, same_text, or_cases}
use Rattle.esm_loads.specs.UrlTable as found
use Rattle.esm_loads.specs.UrlTable.{Entries, TableEntry, Failed, Module, Found, put_at}
use Rattle.esm_loads.specs.Loading.{Loading, PendingRequest, ask_by}
use Rattle.esm_loads.specs.Host.{Host, with_loading}
use Rattle.esm_loads.specs.Arrival.{Next, next, next_by, next_among, AnswersNext, without_next, bytes_of, count_by, store_by, put_found, with_entry, waiting_by, left_among, pending_left}
use Rattle.esm_loads.specs.Laws.{IsOrderly, HasNothing, HaveNothing, IsFirst, FirstPending, FewerLeft, IsAnswering, OneUrlAtATime}
use Rattle.esm_loads.proofs.Tables.{Table, table_of, OnAsk, answered_keeps, imports_keeps}
use Rattle.esm_loads.proofs.Orderly.{put_own, put_other, next_asked}

some_is : {A : Type 0} {x y : A} → Some x ≡ Some y → x ≡ y
some_is e = cc

-- ---- which request is next

-- the first of these URLs, as of the asked ones
record IsFirstOf (l : Loading) (us : List Url) (n : Next) : Type 0 where
  before : List Url
  behind : List Url
  all : us ≡ before ++ n.url ∷ behind
  nothing : HaveNothing l before
  fetched : l.entries n.url ≡ Some n.entry
  first : l.pending n.url ≡ n.pending_request ∷ n.others

first_of : (l : Loading) (us : List Url) (n : Next) → next_among l us ≡ Some n → IsFirstOf l us n
first_of l [] n e = cc
first_of l (u ∷ us) n e = by (l.entries u) refl (l.pending u) refl e (first_of l us n)
  where
    later : HasNothing l u → IsFirstOf l us n → IsFirstOf l (u ∷ us) n
    later h i = record { before = u ∷ i.before; behind = i.behind; all = ap (λ vs. u ∷ vs) i.all; nothing = (h, i.nothing); fetched = i.fetched; first = i.first }

    by : (o : Option TableEntry) → l.entries u ≡ o → (rs : List PendingRequest) → l.pending u ≡ rs → next_by u o rs (next_among l us) ≡ Some n → (next_among l us ≡ Some n → IsFirstOf l us n) → IsFirstOf l (u ∷ us) n
    by None g rs p e rest = later (inl g) (rest e)
    by (Some x) g [] p e rest = later (inr p) (rest e)
    by (Some x) g (a ∷ rs) p e rest = subst (λ n. IsFirstOf l (u ∷ us) n) (some_is e) (record { before = []; behind = us; all = refl; nothing = tt; fetched = g; first = p })

none_of : (l : Loading) (us : List Url) → next_among l us ≡ None → HaveNothing l us
none_of l [] e = tt
none_of l (u ∷ us) e = by (l.entries u) refl (l.pending u) refl e (none_of l us)
  where
    by : (o : Option TableEntry) → l.entries u ≡ o → (rs : List PendingRequest) → l.pending u ≡ rs → next_by u o rs (next_among l us) ≡ None → (next_among l us ≡ None → HaveNothing l us) → HaveNothing l (u ∷ us)
    by None g rs p e rest = (inl g, rest e)
    by (Some x) g [] p e rest = (inr p, rest e)
    by (Some x) g (a ∷ rs) p e rest = cc

first_is : (l : Loading) (n : Next) → next l ≡ Some n → IsFirst l n
first_is l n e = let i = first_of l l.asked n e in record { before = i.before; behind = i.behind; all = i.all; nothing = i.nothing; fetched = i.fetched; first = i.first }

pub first_pending : FirstPending
first_pending = record { is = first_is; none = λ l e. none_of l l.asked e }

-- ---- how many are left

-- a pending request of a URL that isn't fetched doesn't count
add_one : (E : Entries) (P : Url → List PendingRequest) (t u : Url) (rs : List PendingRequest) → E t ≡ None → waiting_by (E u) (put_at P t rs u) ≡ waiting_by (E u) (P u)
add_one E P t u rs n = by (cases (same_url t u))
  where
    by : (same_url t u ≡ true) ⊎ (same_url t u ≡ false) → waiting_by (E u) (put_at P t rs u) ≡ waiting_by (E u) (P u)
    by (inl s) = let none : E u ≡ None = subst (λ v. E v ≡ None) (same_text t u s) n in rw none refl
    by (inr s) = ap (waiting_by (E u)) (put_other P t u rs s)

add_left : (E : Entries) (P : Url → List PendingRequest) (us : List Url) (t : Url) (rs : List PendingRequest) → E t ≡ None → left_among E (put_at P t rs) us ≡ left_among E P us
add_left E P [] t rs n = refl
add_left E P (u ∷ us) t rs n = let one = add_one E P t u rs n in let rest = add_left E P us t rs n in omega (arith, one, rest)

left_last : (E : Entries) (P : Url → List PendingRequest) (us : List Url) (t : Url) → E t ≡ None → left_among E P (us ++ t ∷ []) ≡ left_among E P us
left_last E P [] t n = ap (λ o. waiting_by o (P t) + 0) n
left_last E P (u ∷ us) t n = ap (λ k. waiting_by (E u) (P u) + k) (left_last E P us t n)

ask_left : (b c : Bool) (l : Loading) (t : Url) (a : PendingRequest) → l.entries t ≡ None → pending_left (ask_by b c l t a) ≡ pending_left l
ask_left true c l t a n = add_left l.entries l.pending l.asked t _ n
ask_left false true l t a n = left_last l.entries _ l.asked t n ∙ add_left l.entries l.pending l.asked t _ n
ask_left false false l t a n = refl

record LeftIs (k : ℕ) (t : Table) : Type 0 where
  is : left_among t.entries t.pending t.asked ≡ k

on_ask : (k : ℕ) → OnAsk (LeftIs k)
on_ask k l t a n h = record { is = ask_left (has l.asked t) (nat_lt (length l.asked) 4096) l t a n ∙ h.is }

-- what is left where a request is answered
drop_one : (E : Entries) (P : Url → List PendingRequest) (t u : Url) (a : PendingRequest) (rs : List PendingRequest) → P t ≡ a ∷ rs → waiting_by (E u) (put_at P t rs u) ≤ waiting_by (E u) (P u)
drop_one E P t u a rs p = by (cases (same_url t u)) (E u)
  where
    fewer : (o : Option TableEntry) → waiting_by o rs ≤ waiting_by o (a ∷ rs)
    fewer None = omega arith
    fewer (Some e) = omega arith

    by : (same_url t u ≡ true) ⊎ (same_url t u ≡ false) → (o : Option TableEntry) → waiting_by o (put_at P t rs u) ≤ waiting_by o (P u)
    by (inl s) o =
        let same = same_text t u s in
        let own : put_at P t rs u ≡ rs = subst (λ v. put_at P t rs v ≡ rs) same (put_own P t rs) in
        let was : P u ≡ a ∷ rs = subst (λ v. P v ≡ a ∷ rs) same p in
        let now = fewer o in
        rw (own, was) now
    by (inr s) o = let same = put_other P t u rs s in rw same (omega arith)

drop_left : (E : Entries) (P : Url → List PendingRequest) (us : List Url) (t : Url) (a : PendingRequest) (rs : List PendingRequest) → P t ≡ a ∷ rs → left_among E (put_at P t rs) us ≤ left_among E P us
drop_left E P [] t a rs p = omega arith
drop_left E P (u ∷ us) t a rs p = let one = drop_one E P t u a rs p in let rest = drop_left E P us t a rs p in omega (arith, one, rest)

drop_own : (E : Entries) (P : Url → List PendingRequest) (t : Url) (a : PendingRequest) (rs : List PendingRequest) (e : TableEntry) → E t ≡ Some e → P t ≡ a ∷ rs → waiting_by (E t) (put_at P t rs t) < waiting_by (E t) (P t)
drop_own E P t a rs e g p = let own = put_own P t rs in rw (own, g, p) (omega arith)

less_left : (E : Entries) (P : Url → List PendingRequest) (us : List Url) (t : Url) (a : PendingRequest) (rs : List PendingRequest) (e : TableEntry) → E t ≡ Some e → P t ≡ a ∷ rs → has us t ≡ true → left_among E (put_at P t rs) us < left_among E P us
less_left E P [] t a rs e g p h = cc
less_left E P (u ∷ us) t a rs e g p h = by (or_cases (same_url t u) (has us t) h) (λ k. less_left E P us t a rs e g p k)
  where
    by : (same_url t u ≡ true) ⊎ (has us t ≡ true) → (has us t ≡ true → left_among E (put_at P t rs) us < left_among E P us) → left_among E (put_at P t rs) (u ∷ us) < left_among E P (u ∷ us)
    by (inl s) rest =
        let one : waiting_by (E u) (put_at P t rs u) < waiting_by (E u) (P u) = subst (λ v. waiting_by (E v) (put_at P t rs v) < waiting_by (E v) (P v)) (same_text t u s) (drop_own E P t a rs e g p) in
        let others = drop_left E P us t a rs p in
        omega (arith, one, others)
    by (inr k) rest = let one = drop_one E P t u a rs p in let others = rest k in omega (arith, one, others)

next_fewer : (before after : Host) → AnswersNext before after → pending_left after.imports < pending_left before.imports
next_fewer before after q =
    let l = before.imports in
    let f = first_is l q.who q.is_next in
    let same = answered_keeps (LeftIs (pending_left (without_next before q.who).imports)) (on_ask _) q.answered (record { is = refl }) in
    let less = less_left l.entries l.pending l.asked q.who.url q.who.pending_request q.who.others q.who.entry f.fetched f.first (next_asked l q.who q.is_next) in
    let is = same.is in
    omega (arith, is, less)

nothing_left : (l : Loading) (us : List Url) → HaveNothing l us → left_among l.entries l.pending us ≡ 0
nothing_left l [] h = refl
nothing_left l (u ∷ us) h = let one = by h.0 in let rest = nothing_left l us h.1 in omega (arith, one, rest)
  where
    none : (o : Option TableEntry) → waiting_by o [] ≡ 0
    none None = refl
    none (Some e) = refl

    by : HasNothing l u → waiting_by (l.entries u) (l.pending u) ≡ 0
    by (inl g) = rw g refl
    by (inr p) = rw p (none (l.entries u))

pub fewer_left : FewerLeft
fewer_left = record {
  answer = next_fewer;
  import_call = λ before after referrer specifier promise q. (imports_keeps (LeftIs (pending_left before.imports)) (on_ask _) (λ t n h. record { is = h.is }) q (record { is = refl })).is;
  none = λ l e. nothing_left l l.asked (none_of l l.asked e);
}

-- ---- one URL at a time

abbrev Nothing : Entries → (Url → List PendingRequest) → Url → Type 0
Nothing E P v = (E v ≡ None) ⊎ (P v ≡ [])

AnswersAt : Url → Table → Type 0
AnswersAt u t = (v : Url) → same_url u v ≡ false → Nothing t.entries t.pending v

add_nothing : (E : Entries) (P : Url → List PendingRequest) (t v : Url) (rs : List PendingRequest) → E t ≡ None → Nothing E P v → Nothing E (put_at P t rs) v
add_nothing E P t v rs n (inl e) = inl e
add_nothing E P t v rs n (inr p) = by (cases (same_url t v))
  where
    by : (same_url t v ≡ true) ⊎ (same_url t v ≡ false) → Nothing E (put_at P t rs) v
    by (inl s) = inl (subst (λ w. E w ≡ None) (same_text t v s) n)
    by (inr s) = inr (put_other P t v rs s ∙ p)

ask_answers : (b c : Bool) (u : Url) (l : Loading) (t : Url) (a : PendingRequest) → l.entries t ≡ None → AnswersAt u (table_of l) → AnswersAt u (table_of (ask_by b c l t a))
unfolding AnswersAt
ask_answers true c u l t a n h = λ v d. add_nothing l.entries l.pending t v _ n (h v d)
ask_answers false true u l t a n h = λ v d. add_nothing l.entries l.pending t v _ n (h v d)
ask_answers false false u l t a n h = h

answers_ask : (u : Url) → OnAsk (AnswersAt u)
answers_ask u l t a n h = ask_answers (has l.asked t) (nat_lt (length l.asked) 4096) u l t a n h

who_is : (l : Loading) (u : Url) (n : Next) → IsAnswering l u → next l ≡ Some n → n.url ≡ u
who_is l u n h e = by (cases (same_url u n.url))
  where
    f : IsFirst l n
    f = first_is l n e

    not_both_of : HasNothing l n.url → n.url ≡ u
    not_both_of (inl g) = let s = f.fetched in cc
    not_both_of (inr p) = let r = f.first in cc

    by : (same_url u n.url ≡ true) ⊎ (same_url u n.url ≡ false) → n.url ≡ u
    by (inl s) = sym (same_text u n.url s)
    by (inr d) = not_both_of (h n.url d)

-- the URL of the next request is this one, and the others of it are left
dropped : (l : Loading) (u : Url) (n : Next) → IsAnswering l u → next l ≡ Some n → AnswersAt u (table_of (record l { pending = put_at l.pending n.url n.others }))
unfolding AnswersAt
dropped l u n h e = λ v d. by v d (cases (same_url n.url v)) (h v d)
  where
    by : (v : Url) → same_url u v ≡ false → (same_url n.url v ≡ true) ⊎ (same_url n.url v ≡ false) → HasNothing l v → Nothing l.entries (put_at l.pending n.url n.others) v
    by v d (inl s) g = let is : same_url u v ≡ true = subst (λ w. same_url w v ≡ true) (who_is l u n h e) s in cc
    by v d (inr s) (inl g) = inl g
    by v d (inr s) (inr p) = inr (put_other l.pending n.url v n.others s ∙ p)

pub nothing_in : (l : Loading) (us : List Url) (v : Url) → HaveNothing l us → has us v ≡ true → HasNothing l v
nothing_in l [] v h k = cc
nothing_in l (u ∷ us) v h k = by (or_cases (same_url v u) (has us v) k) (nothing_in l us v h.1)
  where
    by : (same_url v u ≡ true) ⊎ (has us v ≡ true) → (has us v ≡ true → HasNothing l v) → HasNothing l v
    by (inl s) rest = subst (λ w. HasNothing l w) (sym (same_text v u s)) h.0
    by (inr k) rest = rest k

-- where no request is next, no URL has one that is fetched
quiet : (l : Loading) → IsOrderly l → next l ≡ None → (v : Url) → HasNothing l v
quiet l o e v = by (cases (has l.asked v))
  where
    by : (has l.asked v ≡ true) ⊎ (has l.asked v ≡ false) → HasNothing l v
    by (inl k) = nothing_in l l.asked v (none_of l l.asked e) k
    by (inr n) = inr (o.waits v n)

entry_answers : (l : Loading) (u : Url) (e : TableEntry) → ((v : Url) → HasNothing l v) → IsAnswering (with_entry l u e) u
entry_answers l u e h = λ v d. by v d (h v)
  where
    by : (v : Url) → same_url u v ≡ false → HasNothing l v → HasNothing (with_entry l u e) v
    by v d (inl g) = inl (put_other l.entries u v (Some e) d ∙ g)
    by v d (inr p) = inr p

found_answers : (h : Host) (u : Url) (f : Found) → ((v : Url) → HasNothing h.imports v) → IsAnswering (put_found h u f).imports u
found_answers h u found.Nothing q = entry_answers h.imports u Failed q
found_answers h u (found.Script m) q = entry_answers h.imports u (Module m) q
found_answers h u (found.Faulty f) q = entry_answers h.imports u _ q

store_answers : (s : Option Limit) (h : Host) (u : Url) (c : OutcomeView) → ((v : Url) → HasNothing h.imports v) → IsAnswering (store_by s h u c).imports u
store_answers None h u c q = found_answers h u (found.found h.imports.maps h.imports.built u c) q
store_answers (Some limit) h u c q = λ v d. q v

fetch_answers : (b : Bool) (h : Host) (u : Url) (c : OutcomeView) → ((v : Url) → HasNothing h.imports v) → IsAnswering (store_by (count_by b h.imports (bytes_of c)).stopped (with_loading h (count_by b h.imports (bytes_of c))) u c).imports u
fetch_answers true h u c q = λ v d. q v
fetch_answers false h u c q = store_answers h.imports.stopped (with_loading h (count_by false h.imports (bytes_of c))) u c q

pub one_url_at_a_time : OneUrlAtATime
unfolding AnswersAt
one_url_at_a_time = record {
  fetched = λ before u c o e. fetch_answers (nat_lt 16777216 (before.imports.bytes + bytes_of c)) before u c (quiet before.imports o e);
  answer = λ before after u h q. answered_keeps (AnswersAt u) (answers_ask u) q.answered (dropped before.imports u q.who h q.is_next);
  import_call = λ before after u referrer specifier promise h q. imports_keeps (AnswersAt u) (answers_ask u) (λ t n h. h) q h;
  who = who_is;
}
