-- What asking keeps of the table of URLs, all of loading keeps.
use Rattle.std.proofs.Common.{◌≡◌, ℕ, ◌+◌, Bool, true, false, List, Option, Some, None, refl, subst, sym}
use Rattle.std.specs.Prelude.{slice_get}
use Rattle.esm_base.specs.Urls.{Text, Url}
use Rattle.esm_tree.specs.Syntax.{Item}
use Rattle.esm_import_map.specs.ImportMap.{Maps}
use Rattle.esm_loads.specs.UrlTable.{Entries, TableEntry, Throw, New, Kept, thrown_by}
use Rattle.esm_loads.specs.Loading.{Loading, PendingRequest, Root, Request, OpenLoad, LoadState, Asked, Open, LoadComplete, Thrown, Purpose, ForEntry, ForImport, open_load, finish, finish_by, has_pending, ask, load_of}
use Rattle.esm_loads.specs.Load.{Enters, Asks, Answers}
use Rattle.esm_loads.specs.Load.Enters.{ended, known, enters}
use Rattle.esm_loads.specs.Load.Asks.{no_more, over, waits, throws, loads}
use Rattle.esm_loads.specs.Load.Answers.{no_root, no_module, root, request}
use Rattle.esm_loads.specs.Host.{Host, Answered, begin_load, begin_by, settle_load, settle_by, with_loading, reject, promise_of}
use Rattle.esm_loads.specs.Host.Answered.{answered, late}
use Rattle.esm_loads.specs.ImportCall.{Imports, add_load, counted, next_load}

-- the URLs of a loading
pub record Table : Type 0 where
  pub maps : Maps
  pub built : List Item → Bool
  pub asked : List Url
  pub entries : Entries
  pub pending : Url → List PendingRequest
  pub bytes : ℕ
  pub calls : ℕ

abbrev pub table_of : Loading → Table
table_of l = record { maps = l.maps; built = l.built; asked = l.asked; entries = l.entries; pending = l.pending; bytes = l.bytes; calls = l.import_calls }

-- the end of a load settles promises and makes errors alone
reject_table : (h : Host) (p : ℕ) (t : Throw) → (reject h p t).imports ≡ h.imports
reject_table h p (New f) = refl
reject_table h p (Kept error) = refl

settle_table : (h : Host) (p : Option Purpose) (l : Option LoadState) → (settle_by h p l).imports ≡ h.imports
settle_table h None l = refl
settle_table h (Some p) None = refl
settle_table h (Some p) (Some Asked) = refl
settle_table h (Some p) (Some (Open r v)) = refl
settle_table h (Some p) (Some (LoadComplete r)) = refl
settle_table h (Some p) (Some (Thrown t)) = reject_table h (promise_of p) t

pub settled_imports : (h : Host) (s : ℕ) → (settle_load h s).imports ≡ h.imports
settled_imports h s = settle_table h (slice_get h.imports.purposes s) (slice_get h.imports.loads s)

module _ (P : Table → Type 0) where
  -- asking for a URL that isn't fetched keeps it
  abbrev pub OnAsk : Type 0
  OnAsk = (l : Loading) (t : Url) (a : PendingRequest) → l.entries t ≡ None → P (table_of l) → P (table_of (ask l t a))

  mutual
    pub enters_keeps : {l m : Loading} {s : ℕ} {x : Url} → OnAsk → Enters l s x m → P (table_of l) → P (table_of m)
    enters_keeps on_ask (ended h) p = p
    enters_keeps on_ask (known o h f) p = p
    enters_keeps on_ask (enters o h f q) p = asks_keeps on_ask q p

    pub asks_keeps : {l m : Loading} {s i : ℕ} {x : Url} {ts : List Url} → OnAsk → Asks l s x i ts m → P (table_of l) → P (table_of m)
    asks_keeps on_ask no_more p = p
    asks_keeps on_ask (over h) p = p
    asks_keeps {l} {s = s} on_ask (waits {i = i} {x = x} {t = t} o h g q) p = asks_keeps on_ask q (on_ask l t (Request s x i) g p)
    asks_keeps on_ask (throws o e thrown h g k) p = p
    asks_keeps on_ask (loads o e h g k v q) p = asks_keeps on_ask q (enters_keeps on_ask v p)

  finish_keeps : (b : Bool) (o : Option OpenLoad) (l : Loading) (s : ℕ) → P (table_of l) → P (table_of (finish_by b o l s))
  finish_keeps b None l s p = p
  finish_keeps true (Some o) l s p = p
  finish_keeps false (Some o) l s p = p

  finished : (l : Loading) (s : ℕ) → P (table_of l) → P (table_of (finish l s))
  finished l s p = finish_keeps (has_pending l s) (open_load l s) l s p

  answers_keeps : {l m : Loading} {a : PendingRequest} {t : Url} {e : TableEntry} → OnAsk → Answers l a t e m → P (table_of l) → P (table_of m)
  answers_keeps on_ask (no_root thrown h) p = p
  answers_keeps on_ask (no_module o thrown h k) p = p
  answers_keeps on_ask (root {mid = mid} {s = s} h q) p = finished mid s (enters_keeps on_ask q p)
  answers_keeps on_ask (request {mid = mid} {s = s} o h k q) p = finished mid s (enters_keeps on_ask q p)

  pub begin_keeps : (h : Host) (s : ℕ) (t : Option Throw) (p : Option Purpose) → P (table_of h.imports) → P (table_of (begin_by h s t p).imports)
  begin_keeps h s (Some t) o p = p
  begin_keeps h s None None p = p
  begin_keeps h s None (Some (ForEntry q)) p = p
  begin_keeps h s None (Some (ForImport q None)) p = p
  begin_keeps h s None (Some (ForImport q (Some r))) p = p

  pub begun : (h : Host) (a : PendingRequest) (u : Url) (e : TableEntry) → P (table_of h.imports) → P (table_of (begin_load h a u e).imports)
  begun h (Root s) u e p = begin_keeps h s (thrown_by u e) (slice_get h.imports.purposes s) p
  begun h (Request s x i) u e p = p

  pub answered_keeps : {h k : Host} {a : PendingRequest} {u : Url} {e : TableEntry} → OnAsk → Answered h a u e k → P (table_of h.imports) → P (table_of k.imports)
  answered_keeps on_ask (late n) p = p
  answered_keeps {h} {a = a} {u = u} {e = e} on_ask (answered {l = l} q) p =
      subst (λ l. P (table_of l)) (sym (settled_imports (with_loading (begin_load h a u e) l) (load_of a))) (answers_keeps on_ask q (begun h a u e p))

  -- and so does counting a call of import()
  abbrev pub OnCall : Type 0
  OnCall = (t : Table) (n : ℕ) → P t → P (record t { calls = n })

  pub imports_keeps : {h k : Host} {referrer : Url} {specifier : Text} {promise : ℕ} → OnAsk → OnCall → Imports h referrer specifier promise k → P (table_of h.imports) → P (table_of k.imports)
  imports_keeps on_ask on_call (Imports.limit full) p = p
  imports_keeps {h} on_ask on_call (Imports.unresolved f room r) p = on_call (table_of h.imports) (h.imports.import_calls + 1) p
  imports_keeps {h} {promise = promise} on_ask on_call (Imports.asks u room r n) p = on_ask (add_load (counted h) promise).imports u (Root (next_load h)) n (on_call (table_of h.imports) (h.imports.import_calls + 1) p)
  imports_keeps {h} on_ask on_call (Imports.answers u e room r g q) p = answered_keeps on_ask q (on_call (table_of h.imports) (h.imports.import_calls + 1) p)
