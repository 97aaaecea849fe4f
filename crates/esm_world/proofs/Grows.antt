-- What loading keeps, as its laws say it, and that this goes on from step to step.
use Rattle.std.proofs.Common.{◌≡◌, ℕ, ◌+◌, Bool, true, false, List, [], ◌++◌, Option, Some, None, refl, ap, sym, ◌∙◌}
use Rattle.std.specs.Prelude.{nat_lt, Result}
use Rattle.std.proofs.lemmas.List.{append-nil, append_assoc}
use Rattle.esm_base.specs.declared.limits.Limit.{Limit}
use Rattle.esm_base.specs.declared.limits.TheConstants.{MAX_DELIVERED_BYTES}
use Rattle.esm_base.specs.Urls.{Url}
use Rattle.esm_ast.specs.Outcome.{OutcomeView}
use Rattle.esm_loads.specs.UrlTable.{Found, Nothing, Faulty, Script, found}
use Rattle.esm_loads.specs.Loading.{Loading}
use Rattle.esm_loads.specs.Host.{Host, with_loading}
use Rattle.esm_loads.specs.Arrival.{after_fetch, store_by, put_found, count, count_by, bytes_of, AnswersNext, pending_left}
use Rattle.esm_loads.specs.ImportCall.{BeginsImport}
use Rattle.esm_loads.specs.Laws.{Grows, IsOrderly}
use Rattle.esm_loads.proofs.Orderly.{only_grows, stays_orderly}
use Rattle.esm_loads.proofs.Pending.{fewer_left}

-- it grows, and stays in order
pub record Progress (l m : Loading) : Type 0 where
  pub grows : Grows l m
  pub orderly : IsOrderly l → IsOrderly m
  -- of fetched URLs as many requests are pending, unless one is answered
  pub left : pending_left m ≡ pending_left l

grows_same : (l : Loading) → Grows l l
grows_same l = record { maps = refl; built = refl; entries = refl; bytes = refl; more = []; asked = sym (append-nil l.asked) }

grows_on : {k l m : Loading} → Grows k l → Grows l m → Grows k m
grows_on {k} p q = record {
  maps = q.maps ∙ p.maps;
  built = q.built ∙ p.built;
  entries = q.entries ∙ p.entries;
  bytes = q.bytes ∙ p.bytes;
  more = p.more ++ q.more;
  asked = q.asked ∙ ap (λ us. us ++ q.more) p.asked ∙ append_assoc k.asked p.more q.more;
}

pub same_progress : (l : Loading) → Progress l l
same_progress l = record { grows = grows_same l; orderly = λ o. o; left = refl }

pub progress_on : {k l m : Loading} → Progress k l → Progress l m → Progress k m
progress_on p q = record { grows = grows_on p.grows q.grows; orderly = λ o. q.orderly (p.orderly o); left = q.left ∙ p.left }

-- the same, where requests are answered
pub record GrowsOn (l m : Loading) : Type 0 where
  pub grows : Grows l m
  pub orderly : IsOrderly l → IsOrderly m

pub next_grows : {h k : Host} → AnswersNext h k → GrowsOn h.imports k.imports
next_grows {h} {k} p = record { grows = only_grows.next h k p; orderly = λ o. stays_orderly.next h k o p }

pub on_same : (l : Loading) → GrowsOn l l
on_same l = record { grows = grows_same l; orderly = λ o. o }

pub on_both : {k l m : Loading} → GrowsOn k l → GrowsOn l m → GrowsOn k m
on_both p q = record { grows = grows_on p.grows q.grows; orderly = λ o. q.orderly (p.orderly o) }

pub progress_grows : {l m : Loading} → Progress l m → GrowsOn l m
progress_grows p = record { grows = p.grows; orderly = p.orderly }

pub begins_progress : {h k : Host} {referrer : Url} {specifier : List ℕ} {promise : ℕ} {end : Result (Unit {0}) Limit} → BeginsImport h referrer specifier promise end k → Progress h.imports k.imports
begins_progress {h} {k} {referrer} {specifier} {promise} p = record {
  grows = only_grows.imports h k referrer specifier promise p.imports;
  orderly = λ o. stays_orderly.imports h k referrer specifier promise o p.imports;
  left = fewer_left.import_call h k referrer specifier promise p.imports;
}

-- ---- where a fetch ends

-- the import map, which texts can be run, and what was asked are the same
pub record StaysAsked (l m : Loading) : Type 0 where
  pub maps : m.maps ≡ l.maps
  pub built : m.built ≡ l.built
  pub asked : m.asked ≡ l.asked

by_found : (h : Host) (u : Url) (f : Found) → StaysAsked h.imports (put_found h u f).imports
by_found h u Nothing = record { maps = refl; built = refl; asked = refl }
by_found h u (Script m) = record { maps = refl; built = refl; asked = refl }
by_found h u (Faulty f) = record { maps = refl; built = refl; asked = refl }

by_store : (h : Host) (u : Url) (c : OutcomeView) (o : Option Limit) → StaysAsked h.imports (store_by o h u c).imports
by_store h u c None = by_found h u (found h.imports.maps h.imports.built u c)
by_store h u c (Some limit) = record { maps = refl; built = refl; asked = refl }

by_count : (l : Loading) (n : ℕ) (b : Bool) → StaysAsked l (count_by b l n)
by_count l n true = record { maps = refl; built = refl; asked = refl }
by_count l n false = record { maps = refl; built = refl; asked = refl }

stays_on : {k l m : Loading} → StaysAsked k l → StaysAsked l m → StaysAsked k m
stays_on p q = record { maps = q.maps ∙ p.maps; built = q.built ∙ p.built; asked = q.asked ∙ p.asked }

pub fetch_stays : (h : Host) (u : Url) (c : OutcomeView) → StaysAsked h.imports (after_fetch h u c).imports
fetch_stays h u c =
    stays_on (by_count h.imports (bytes_of c) (nat_lt MAX_DELIVERED_BYTES (h.imports.bytes + bytes_of c)))
    (by_store (with_loading h (count h.imports (bytes_of c))) u c (count h.imports (bytes_of c)).stopped)
