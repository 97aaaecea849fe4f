-- No URL is asked twice, and what was asked and fetched stays so.
use mathlib.Core.Bool.{true≢false}
use Rattle.std.proofs.Common.{◌≡◌, ℕ, ◌+◌, ◌≤◌, ◌<◌, Bool, true, false, cond, List, [], ◌∷◌, ◌++◌, length, Option, Some, None, refl, ap, subst, sym, ◌∙◌, arith, inl, inr}
use Rattle.std.specs.Prelude.{◌⊎◌, nat_lt}
use Rattle.esm_base.specs.declared.limits.Limit.{Limit}
use Rattle.esm_base.specs.Urls.{Url, has, same_url}
use Rattle.esm_tree.specs.Syntax.{Item}
use Rattle.esm_ast.specs.Outcome.{OutcomeView}
use Rattle.esm_realm.proofs.Urls.{cases, same_text, own_text, or_left, or_true, or_false, both_false, has_append, not_true, not_both, distinct_append}
use Rattle.esm_import_map.specs.ImportMap.{Maps}
use Rattle.esm_loads.specs.UrlTable.{TableEntry, Failed, Module, Found, Nothing, Faulty, Script, found, put_at}
use Rattle.esm_loads.specs.Loading.{Loading, PendingRequest, Root, is_fetching, ask_by, no_pending}
use Rattle.esm_loads.specs.Host.{Host, opening_host, with_loading}
use Rattle.esm_loads.specs.Arrival.{bytes_of, count_by, store_by, put_found, with_entry, Next, next, next_by, next_among, without_next}
use Rattle.esm_loads.specs.Laws.{AreOrderly, IsOrderly, StaysOrderly, Grows, OnlyGrows, AskLimit}
use Rattle.esm_loads.proofs.Tables.{Table, table_of, OnAsk, answered_keeps, imports_keeps}

lt_true : (a b : ℕ) → a < b → nat_lt a b ≡ true
lt_true a b h = grind arith

lt_false : (a b : ℕ) → b ≤ a → nat_lt a b ≡ false
lt_false a b h = grind arith

length_push : (us : List Url) (u : Url) → length (us ++ u ∷ []) ≡ 1 + length us
length_push [] u = refl
length_push (x ∷ us) u = let e = length_push us u in grind (arith, e)

-- ---- tables by URL

pub put_other : {A : Type 0} (table : Url → A) (u v : Url) (a : A) → same_url u v ≡ false → put_at table u a v ≡ table v
put_other table u v a h = ap (λ b. cond b a (table v)) h

pub put_own : {A : Type 0} (table : Url → A) (u : Url) (a : A) → put_at table u a u ≡ a
put_own table u a = ap (λ b. cond b a (table u)) (own_text u)

-- ---- what is orderly stays so

has_more : (us : List Url) (t u : Url) → has us u ≡ true → has (us ++ t ∷ []) u ≡ true
has_more us t u h = has_append us (t ∷ []) u ∙ or_left (has us u) _ h

has_last : (us : List Url) (t : Url) → has (us ++ t ∷ []) t ≡ true
has_last us t = has_append us (t ∷ []) t ∙ or_true (has us t) _ (or_left (same_url t t) false (own_text t))

-- what another URL has isn't changed by a pending request more
waits_other : (pending : Url → List PendingRequest) (asked : List Url) (t u : Url) (rs : List PendingRequest) → has asked t ≡ true → has asked u ≡ false → pending u ≡ [] → put_at pending t rs u ≡ []
waits_other pending asked t u rs h n e = by (cases (same_url t u))
  where
    by : (same_url t u ≡ true) ⊎ (same_url t u ≡ false) → put_at pending t rs u ≡ []
    by (inl s) = absurd (not_both (has asked u) (subst (λ v. has asked v ≡ true) (same_text t u s) h) n)
    by (inr s) = put_other pending t u rs s ∙ e

ask_orderly : (b c : Bool) (l : Loading) (t : Url) (a : PendingRequest) → has l.asked t ≡ b → nat_lt (length l.asked) 4096 ≡ c → IsOrderly l → IsOrderly (ask_by b c l t a)
ask_orderly true c l t a e f h = record { once = h.once; few = h.few; fetched = h.fetched; waits = λ u n. waits_other l.pending l.asked t u _ e n (h.waits u n) }
ask_orderly false true l t a e f h =
    record {
      once = distinct_append l.asked (t ∷ []) h.once (refl, tt) (λ y k. both_false (same_url y t) false (not_true (same_url y t) (λ m. not_both (has l.asked t) (subst (λ v. has l.asked v ≡ true) (same_text y t m) k) e)) refl);
      few = grind (arith, length_push l.asked t);
      fetched = λ u k. has_more l.asked t u (h.fetched u k);
      waits = λ u n. waits_other l.pending (l.asked ++ t ∷ []) t u _ (has_last l.asked t) n (h.waits u (before u n));
    }
  where
    before : (u : Url) → has (l.asked ++ t ∷ []) u ≡ false → has l.asked u ≡ false
    before u n = (or_false (has l.asked u) _ (sym (has_append l.asked (t ∷ []) u) ∙ n)).0
ask_orderly false false l t a e f h = h

abbrev pub OrderlyTable : Table → Type 0
OrderlyTable t = AreOrderly t.asked t.entries t.pending

pub on_ask : OnAsk OrderlyTable
on_ask l t a n h = ask_orderly (has l.asked t) (nat_lt (length l.asked) 4096) l t a refl refl h

opening_is : (maps : Maps) (built : List Item → Bool) (entry : Url) → IsOrderly (opening_host maps built entry).imports
opening_is maps built entry = record {
  once = (refl, tt);
  few = omega arith;
  fetched = λ u h. absurd (true≢false h);
  waits = λ u n. waits_other no_pending (entry ∷ []) entry u (Root 0 ∷ []) (or_left (same_url entry entry) false (own_text entry)) n refl;
}

some_is : {A : Type 0} {x y : A} → Some x ≡ Some y → x ≡ y
some_is e = cc

-- the URL of the request that is answered next was asked
asked_by : (l : Loading) (us : List Url) (n : Next) → next_among l us ≡ Some n → has us n.url ≡ true
asked_by l [] n e = cc
asked_by l (u ∷ us) n e = by (l.entries u) (l.pending u) e (asked_by l us n)
  where
    by : (o : Option TableEntry) (rs : List PendingRequest) → next_by u o rs (next_among l us) ≡ Some n → (next_among l us ≡ Some n → has us n.url ≡ true) → has (u ∷ us) n.url ≡ true
    by None rs e rest = or_true (same_url n.url u) _ (rest e)
    by (Some x) [] e rest = or_true (same_url n.url u) _ (rest e)
    by (Some x) (a ∷ rs) e rest = or_left (same_url n.url u) _ (subst (λ (n : Next). same_url n.url u ≡ true) (some_is e) (own_text u))

pub next_asked : (l : Loading) (n : Next) → next l ≡ Some n → has l.asked n.url ≡ true
next_asked l n e = asked_by l l.asked n e

pub without_orderly : (h : Host) (n : Next) → next h.imports ≡ Some n → IsOrderly h.imports → IsOrderly (without_next h n).imports
without_orderly h n e o = record { once = o.once; few = o.few; fetched = o.fetched; waits = λ u k. waits_other h.imports.pending h.imports.asked n.url u n.others (next_asked h.imports n e) k (o.waits u k) }

entry_orderly : (l : Loading) (u : Url) (e : TableEntry) → has l.asked u ≡ true → IsOrderly l → IsOrderly (with_entry l u e)
entry_orderly l u e h o = record { once = o.once; few = o.few; fetched = λ v k. by v k (cases (same_url u v)); waits = o.waits }
  where
    by : (v : Url) → is_fetching (put_at l.entries u (Some e) v) ≡ false → (same_url u v ≡ true) ⊎ (same_url u v ≡ false) → has l.asked v ≡ true
    by v k (inl s) = subst (λ w. has l.asked w ≡ true) (same_text u v s) h
    by v k (inr s) = o.fetched v (subst (λ o. is_fetching o ≡ false) (put_other l.entries u v (Some e) s) k)

found_orderly : (h : Host) (u : Url) (f : Found) → has h.imports.asked u ≡ true → IsOrderly h.imports → IsOrderly (put_found h u f).imports
found_orderly h u Nothing k o = entry_orderly h.imports u Failed k o
found_orderly h u (Script m) k o = entry_orderly h.imports u (Module m) k o
found_orderly h u (Faulty f) k o = entry_orderly h.imports u _ k o

store_orderly : (s : Option Limit) (h : Host) (u : Url) (c : OutcomeView) → has h.imports.asked u ≡ true → IsOrderly h.imports → IsOrderly (store_by s h u c).imports
store_orderly None h u c k o = found_orderly h u (found h.imports.maps h.imports.built u c) k o
store_orderly (Some limit) h u c k o = o

counts : (b : Bool) (h : Host) (u : Url) (c : OutcomeView) → has h.imports.asked u ≡ true → IsOrderly h.imports → IsOrderly (store_by (count_by b h.imports (bytes_of c)).stopped (with_loading h (count_by b h.imports (bytes_of c))) u c).imports
counts true h u c k o = o
counts false h u c k o = store_orderly h.imports.stopped (with_loading h (count_by false h.imports (bytes_of c))) u c k o

pub stays_orderly : StaysOrderly
stays_orderly = record {
  opening = opening_is;
  answered = λ before after a u e o q. answered_keeps OrderlyTable on_ask q o;
  next = λ before after o q. answered_keeps OrderlyTable on_ask q.answered (without_orderly before q.who q.is_next o);
  imports = λ before after referrer specifier promise o q. imports_keeps OrderlyTable on_ask (λ t n h. h) q o;
  fetched = λ before u c o k. counts (nat_lt 16777216 (before.imports.bytes + bytes_of c)) before u c k o;
}

-- ---- what there is stays

append_more : (us vs ws : List Url) → (us ++ vs) ++ ws ≡ us ++ (vs ++ ws)
append_more [] vs ws = refl
append_more (u ∷ us) vs ws = ap (λ xs. u ∷ xs) (append_more us vs ws)

no_more_of : (us : List Url) → us ≡ us ++ []
no_more_of [] = refl
no_more_of (u ∷ us) = ap (λ xs. u ∷ xs) (no_more_of us)

record GrowsTo (l : Loading) (t : Table) : Type 0 where
  maps : t.maps ≡ l.maps
  built : t.built ≡ l.built
  entries : t.entries ≡ l.entries
  bytes : t.bytes ≡ l.bytes
  more : List Url
  asked : t.asked ≡ l.asked ++ more

ask_grows : (k : Loading) (b c : Bool) (l : Loading) (t : Url) (a : PendingRequest) → GrowsTo k (table_of l) → GrowsTo k (table_of (ask_by b c l t a))
ask_grows k true c l t a g = record { maps = g.maps; built = g.built; entries = g.entries; bytes = g.bytes; more = g.more; asked = g.asked }
ask_grows k false true l t a g = record { maps = g.maps; built = g.built; entries = g.entries; bytes = g.bytes; more = g.more ++ t ∷ []; asked = ap (λ us. us ++ t ∷ []) g.asked ∙ append_more k.asked g.more (t ∷ []) }
ask_grows k false false l t a g = record { maps = g.maps; built = g.built; entries = g.entries; bytes = g.bytes; more = g.more; asked = g.asked }

ask_grow : (k : Loading) → OnAsk (GrowsTo k)
ask_grow k l t a n g = ask_grows k (has l.asked t) (nat_lt (length l.asked) 4096) l t a g

same_grows : (l : Loading) → GrowsTo l (table_of l)
same_grows l = record { maps = refl; built = refl; entries = refl; bytes = refl; more = []; asked = no_more_of l.asked }

grows_is : (l m : Loading) → GrowsTo l (table_of m) → Grows l m
grows_is l m g = record { maps = g.maps; built = g.built; entries = g.entries; bytes = g.bytes; more = g.more; asked = g.asked }

pub only_grows : OnlyGrows
only_grows = record {
  answered = λ before after a u e q. grows_is before.imports after.imports (answered_keeps (GrowsTo before.imports) (ask_grow before.imports) q (same_grows before.imports));
  next = λ before after q. grows_is before.imports after.imports (answered_keeps (GrowsTo before.imports) (ask_grow before.imports) q.answered (record { maps = refl; built = refl; entries = refl; bytes = refl; more = []; asked = no_more_of before.imports.asked }));
  imports = λ before after referrer specifier promise q. grows_is before.imports after.imports (imports_keeps (GrowsTo before.imports) (ask_grow before.imports) (λ t n g. record { maps = g.maps; built = g.built; entries = g.entries; bytes = g.bytes; more = g.more; asked = g.asked }) q (same_grows before.imports));
}

pub ask_limit : AskLimit
ask_limit = record {
  again = λ l u a h. ap (λ b. ask_by b (nat_lt (length l.asked) 4096) l u a) h;
  asks = λ l u a h n. λ i. ask_by (h i) (lt_true (length l.asked) 4096 n i) l u a;
  behind = λ l u a. put_own l.pending u (l.pending u ++ a ∷ []);
  elsewhere = λ l u v a n. put_other l.pending u v (l.pending u ++ a ∷ []) n;
  stops = λ l u a h n. λ i. ask_by (h i) (lt_false (length l.asked) 4096 n i) l u a;
}
