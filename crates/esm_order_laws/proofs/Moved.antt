-- Loading with the asked URLs in another order: what an import() does follows.
use Rattle.std.proofs.Common.{◌≡◌, ℕ, suc, Bool, true, false, List, [], ◌∷◌, ◌++◌, length, nat_lt, Option, Some, None, refl, ap, subst, sym, ◌∙◌, append_assoc, length-append}
use Rattle.std.specs.Prelude.{◌||◌, ◌+◌, slice_get, Result}
use Rattle.std.specs.List.{list_any}
use Rattle.esm_base.specs.declared.limits.Limit.{Limit}
use Rattle.esm_base.specs.declared.limits.TheConstants.{MAX_URLS}
use Rattle.esm_base.specs.Urls.{Text, Url, has}
use Rattle.esm_realm.proofs.Urls.{has_append}
use Rattle.esm_loads.specs.UrlTable.{TableEntry, Throw, New, Kept, thrown_by}
use Rattle.esm_loads.specs.Loading.{Loading, PendingRequest, Root, Request, OpenLoad, LoadState, Asked, Open, LoadComplete, Thrown, Purpose, ForEntry, ForImport, is_of, has_pending, open_load, finish, finish_by, add_pending, ask, ask_by, load_of}
use Rattle.esm_loads.specs.Load.{Enters, Asks, Answers}
use Rattle.esm_loads.specs.Load.Enters.{ended, known, enters}
use Rattle.esm_loads.specs.Load.Asks.{no_more, over, waits, throws, loads}
use Rattle.esm_loads.specs.Load.Answers.{no_root, no_module, root, request}
use Rattle.esm_loads.specs.Host.{Host, Answered, begin_load, begin_by, settle_load, settle_by, with_loading, reject, promise_of}
use Rattle.esm_loads.specs.Host.Answered.{answered, late}
use Rattle.esm_loads.specs.ImportCall.{Imports, BeginsImport, add_load, counted, next_load, ask_root}
use Rattle.esm_loads.proofs.Tables.{settled_imports}
use Rattle.esm_order_laws.proofs.Lists.{past, past_is, Alike, same_any}

module _ (xs ys : List Url) (alike : Alike xs ys) (long : length ys ≡ length xs) where
  -- ys stands in the place of xs, with what was asked behind these
  abbrev pub asked_so : List Url → List Url
  asked_so us = ys ++ past xs us

  abbrev pub image : Loading → Loading
  image l = record l { asked = asked_so l.asked }

  -- xs was asked first
  abbrev pub Good : Loading → Type 0
  Good l = (new : List Url) × (l.asked ≡ xs ++ new)

  asked_is : (l : Loading) (g : Good l) → asked_so l.asked ≡ ys ++ g.0
  asked_is l g = ap asked_so g.1 ∙ ap (λ us. ys ++ us) (past_is xs g.0)

  pub asked_alike : (l : Loading) → Good l → Alike l.asked (asked_so l.asked)
  asked_alike l g u =
      ap (λ us. has us u) (asked_is l g) ∙ has_append ys g.0 u ∙ ap (λ b. b || has g.0 u) (alike u)
      ∙ sym (ap (λ us. has us u) g.1 ∙ has_append xs g.0 u)

  pub asked_long : (l : Loading) → Good l → length (asked_so l.asked) ≡ length l.asked
  asked_long l g = ap length (asked_is l g) ∙ length-append ys g.0 ∙ ap (λ n. n + length g.0) long ∙ sym (ap length g.1 ∙ length-append xs g.0)

  -- ---- asking

  grown : (l : Loading) (g : Good l) (u : Url) → asked_so (l.asked ++ u ∷ []) ≡ asked_so l.asked ++ u ∷ []
  grown l g u =
      ap (λ us. asked_so (us ++ u ∷ [])) g.1 ∙ ap asked_so (append_assoc xs g.0 (u ∷ [])) ∙ ap (λ us. ys ++ us) (past_is xs (g.0 ++ u ∷ []))
      ∙ sym (ap (λ us. us ++ u ∷ []) (asked_is l g) ∙ append_assoc ys g.0 (u ∷ []))

  asks_by : (b room : Bool) (l : Loading) → Good l → (u : Url) (a : PendingRequest) → ask_by b room (image l) u a ≡ image (ask_by b room l u a)
  asks_by true room l g u a = refl
  asks_by false true l g u a = ap (λ us. add_pending (record l { asked = us }) u a) (sym (grown l g u))
  asks_by false false l g u a = refl

  ask_moves : (l : Loading) → Good l → (u : Url) (a : PendingRequest) → ask (image l) u a ≡ image (ask l u a)
  ask_moves l g u a =
      (λ i. ask_by (asked_alike l g u i) (nat_lt (asked_long l g i) MAX_URLS) (image l) u a)
      ∙ asks_by (has l.asked u) (nat_lt (length l.asked) MAX_URLS) l g u a

  asks_good : (b room : Bool) (l : Loading) → Good l → (u : Url) (a : PendingRequest) → Good (ask_by b room l u a)
  asks_good true room l g u a = g
  asks_good false true l g u a = (g.0 ++ u ∷ [], ap (λ us. us ++ u ∷ []) g.1 ∙ append_assoc xs g.0 (u ∷ []))
  asks_good false false l g u a = g

  ask_good : (l : Loading) → Good l → (u : Url) (a : PendingRequest) → Good (ask l u a)
  ask_good l g u a = asks_good (has l.asked u) (nat_lt (length l.asked) MAX_URLS) l g u a

  -- ---- entering

  mutual
    enters_moves : {l m : Loading} {s : ℕ} {x : Url} → Good l → Enters l s x m → Enters (image l) s x (image m) × Good m
    enters_moves g (ended h) = (ended h, g)
    enters_moves g (known o h f) = (known o h f, g)
    enters_moves g (enters o h f q) = let r = asks_moves g q in (enters o h f r.0, r.1)

    asks_moves : {l m : Loading} {s i : ℕ} {x : Url} {ts : List Url} → Good l → Asks l s x i ts m → Asks (image l) s x i ts (image m) × Good m
    asks_moves g no_more = (no_more, g)
    asks_moves g (over h) = (over h, g)
    asks_moves {l} {m} {s = s} g (waits {i = i} {x = x} {t = t} {ts = ts} o h n q) =
        let r = asks_moves (ask_good l g t (Request s x i)) q in
        (waits o h n (subst (λ k. Asks k s x (suc i) ts (image m)) (sym (ask_moves l g t (Request s x i))) r.0), r.1)
    asks_moves g (throws o e thrown h n k) = (throws o e thrown h n k, g)
    asks_moves g (loads o e h n k v q) =
        let a = enters_moves g v in
        let r = asks_moves a.1 q in
        (loads o e h n k a.0 r.0, r.1)

  -- ---- the end of a load

  pending_same : (l : Loading) → Good l → (s : ℕ) → has_pending (image l) s ≡ has_pending l s
  pending_same l g s = same_any (λ u. list_any (is_of s) (l.pending u)) l.asked (asked_so l.asked) (asked_alike l g)

  finishes_by : (b : Bool) (o : Option OpenLoad) (l : Loading) (s : ℕ) → finish_by b o (image l) s ≡ image (finish_by b o l s)
  finishes_by b None l s = refl
  finishes_by true (Some o) l s = refl
  finishes_by false (Some o) l s = refl

  finish_moves : (l : Loading) → Good l → (s : ℕ) → finish (image l) s ≡ image (finish l s)
  finish_moves l g s = ap (λ b. finish_by b (open_load l s) (image l) s) (pending_same l g s) ∙ finishes_by (has_pending l s) (open_load l s) l s

  finish_good : (b : Bool) (o : Option OpenLoad) (l : Loading) (s : ℕ) → Good l → Good (finish_by b o l s)
  finish_good b None l s g = g
  finish_good true (Some o) l s g = g
  finish_good false (Some o) l s g = g

  finished : (l : Loading) → Good l → (s : ℕ) → Good (finish l s)
  finished l g s = finish_good (has_pending l s) (open_load l s) l s g

  answers_moves : {l m : Loading} {a : PendingRequest} {t : Url} {e : TableEntry} → Good l → Answers l a t e m → Answers (image l) a t e (image m) × Good m
  answers_moves g (no_root thrown h) = (no_root thrown h, g)
  answers_moves g (no_module o thrown h k) = (no_module o thrown h k, g)
  answers_moves {l} g (root {mid = mid} {s = s} {t = t} {e = e} h q) =
      let r = enters_moves g q in
      (subst (λ k. Answers (image l) (Root s) t e k) (finish_moves mid r.1 s) (root h r.0), finished mid r.1 s)
  answers_moves {l} g (request {mid = mid} {s = s} {i = i} {x = x} {t = t} {e = e} o h k q) =
      let r = enters_moves g q in
      (subst (λ n. Answers (image l) (Request s x i) t e n) (finish_moves mid r.1 s) (request o h k r.0), finished mid r.1 s)

  -- ---- promises

  abbrev pub moved : Host → Host
  moved h = record h { imports = image h.imports }

  begins_by : (h : Host) (s : ℕ) (t : Option Throw) (p : Option Purpose) → begin_by (moved h) s t p ≡ moved (begin_by h s t p)
  begins_by h s (Some t) o = refl
  begins_by h s None None = refl
  begins_by h s None (Some (ForEntry q)) = refl
  begins_by h s None (Some (ForImport q None)) = refl
  begins_by h s None (Some (ForImport q (Some r))) = refl

  begins_good : (h : Host) (s : ℕ) (t : Option Throw) (p : Option Purpose) → Good h.imports → Good (begin_by h s t p).imports
  begins_good h s (Some t) o g = g
  begins_good h s None None g = g
  begins_good h s None (Some (ForEntry q)) g = g
  begins_good h s None (Some (ForImport q None)) g = g
  begins_good h s None (Some (ForImport q (Some r))) g = g

  begin_moves : (h : Host) (a : PendingRequest) (u : Url) (e : TableEntry) → begin_load (moved h) a u e ≡ moved (begin_load h a u e)
  begin_moves h (Root s) u e = begins_by h s (thrown_by u e) (slice_get h.imports.purposes s)
  begin_moves h (Request s x i) u e = refl

  begin_good : (h : Host) (a : PendingRequest) (u : Url) (e : TableEntry) → Good h.imports → Good (begin_load h a u e).imports
  begin_good h (Root s) u e g = begins_good h s (thrown_by u e) (slice_get h.imports.purposes s) g
  begin_good h (Request s x i) u e g = g

  rejects : (h : Host) (p : ℕ) (t : Throw) → reject (moved h) p t ≡ moved (reject h p t)
  rejects h p (New f) = refl
  rejects h p (Kept error) = refl

  settles_by : (h : Host) (p : Option Purpose) (o : Option LoadState) → settle_by (moved h) p o ≡ moved (settle_by h p o)
  settles_by h None o = refl
  settles_by h (Some p) None = refl
  settles_by h (Some p) (Some Asked) = refl
  settles_by h (Some p) (Some (Open r v)) = refl
  settles_by h (Some p) (Some (LoadComplete r)) = refl
  settles_by h (Some p) (Some (Thrown t)) = rejects h (promise_of p) t

  settles : (h : Host) (s : ℕ) → settle_load (moved h) s ≡ moved (settle_load h s)
  settles h s = settles_by h (slice_get h.imports.purposes s) (slice_get h.imports.loads s)

  -- ---- answers and calls

  answered_moves : {h k : Host} {a : PendingRequest} {u : Url} {e : TableEntry} → Good h.imports → Answered h a u e k → Answered (moved h) a u e (moved k) × Good k.imports
  answered_moves g (late n) = (late n, g)
  answered_moves {h} {a = a} {u = u} {e = e} g (answered {l = l} q) =
      let begun = begin_moves h a u e in
      let r = answers_moves (begin_good h a u e g) q in
      let after : Host = with_loading (begin_load h a u e) l in
      let is : settle_load (with_loading (begin_load (moved h) a u e) (image l)) (load_of a) ≡ moved (settle_load after (load_of a)) =
      ap (λ k. settle_load (with_loading k (image l)) (load_of a)) begun ∙ settles after (load_of a) in (
        subst (λ k. Answered (moved h) a u e k) is (answered (subst (λ (k : Host). Answers k.imports a u e (image l)) (sym begun) r.0)),
        subst Good (sym (settled_imports after (load_of a))) r.1,
      )

  imports_moves : {h k : Host} {referrer : Url} {specifier : Text} {promise : ℕ} → Good h.imports → Imports h referrer specifier promise k
      → Imports (moved h) referrer specifier promise (moved k) × Good k.imports
  imports_moves g (Imports.limit full) = (Imports.limit full, g)
  imports_moves g (Imports.unresolved f room r) = (Imports.unresolved f room r, g)
  imports_moves {h} {referrer = referrer} {specifier = specifier} {promise = promise} g (Imports.asks u room r n) =
      let l : Loading = (add_load (counted h) promise).imports in
      let is : ask_root (add_load (counted (moved h)) promise) (next_load h) u ≡ moved (ask_root (add_load (counted h) promise) (next_load h) u) =
      ap (λ k. with_loading (add_load (counted h) promise) k) (ask_moves l g u (Root (next_load h))) in (
        subst (λ k. Imports (moved h) referrer specifier promise k) is (Imports.asks u room r n),
        ask_good l g u (Root (next_load h)),
      )
  imports_moves g (Imports.answers u e room r n q) =
      let a = answered_moves g q in
      (Imports.answers u e room r n a.0, a.1)

  pub begins_moves : {h k : Host} {referrer : Url} {specifier : Text} {promise : ℕ} {end : Result (Unit {0}) Limit} → Good h.imports → BeginsImport h referrer specifier promise end k
      → BeginsImport (moved h) referrer specifier promise end (moved k) × Good k.imports
  begins_moves g b = let r = imports_moves g b.imports in (record { imports = r.0; ends = b.ends }, r.1)
