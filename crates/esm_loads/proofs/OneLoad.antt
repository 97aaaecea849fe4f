-- Loading has one outcome.
use Rattle.std.proofs.Common.{◌≡◌, ℕ, List, None, refl, ap, subst, sym, ◌∙◌}
use Rattle.esm_base.specs.Urls.{Url}
use Rattle.esm_loads.specs.UrlTable.{TableEntry, specifier_error}
use Rattle.esm_loads.specs.Host.{Host, Answered, begin_load, settle_load, reject_new, with_loading}
use Rattle.esm_loads.specs.Host.Answered.{answered, late}
use Rattle.esm_loads.specs.ImportCall.{Imports, end_by, counted, add_load, next_load, ask_root}
use Rattle.esm_loads.specs.Loading.{Loading, PendingRequest, Root, load_of, open_load, visit, finish, throw}
use Rattle.esm_loads.specs.Load.{Enters, Asks, Answers}
use Rattle.esm_loads.specs.Load.Enters.{ended, known, enters}
use Rattle.esm_loads.specs.Load.Asks.{no_more, over, waits, throws, loads}
use Rattle.esm_loads.specs.Load.Answers.{no_root, no_module, root, request}
use Rattle.esm_loads.specs.Arrival.{AnswersNext, AnswersAll, without_next}
use Rattle.esm_loads.specs.Laws.{OneLoad}

asks_from : {l m after : Loading} {s i : ℕ} {x : Url} {ts : List Url} → l ≡ m → Asks m s x i ts after → Asks l s x i ts after
asks_from {after = after} {s = s} {i = i} {x = x} {ts = ts} e q = subst (λ l. Asks l s x i ts after) (sym e) q

mutual
  pub enters_one : {l a b : Loading} {s : ℕ} {x : Url} → Enters l s x a → Enters l s x b → a ≡ b
  enters_one (ended n) (ended m) = refl
  enters_one (ended n) (known o e f) = cc
  enters_one (ended n) (enters o e f q) = cc
  enters_one (known o e f) (ended m) = cc
  enters_one (known o e f) (known p d g) = refl
  enters_one (known o e f) (enters p d g q) = cc
  enters_one (enters o e f p) (ended m) = cc
  enters_one (enters o e f p) (known o' d g) = cc
  enters_one {l} {s = s} {x = x} (enters o e f p) (enters o' d g q) = let same : o ≡ o' = cc in asks_one p (asks_from (ap (λ k. visit l s k x) same) q)

  pub asks_one : {l a b : Loading} {s i : ℕ} {x : Url} {ts : List Url} → Asks l s x i ts a → Asks l s x i ts b → a ≡ b
  asks_one no_more no_more = refl
  asks_one (over n) (over m) = refl
  asks_one (over n) (waits o e g q) = cc
  asks_one (over n) (throws o e text g h k) = cc
  asks_one (over n) (loads o e g h k v q) = cc
  asks_one (waits o e g p) (over m) = cc
  asks_one (waits o e g p) (waits o' d h q) = asks_one p q
  asks_one (waits o e g p) (throws o' d text h k j) = cc
  asks_one (waits o e g p) (loads o' d h k j v q) = cc
  asks_one (throws o e text g h k) (over m) = cc
  asks_one (throws o e text g h k) (waits o' d j q) = cc
  asks_one {l} {s = s} (throws o e text g h k) (throws o' d text' g' h' k') =
      let what : e ≡ d = cc in
      let same : text ≡ text' = cc in
      ap (λ t. throw l s t) same
  asks_one (throws o e text g h k) (loads o' d g' h' k' v q) = let what : e ≡ d = cc in cc
  asks_one (loads o e g h k v p) (over m) = cc
  asks_one (loads o e g h k v p) (waits o' d j q) = cc
  asks_one (loads o e g h k v p) (throws o' d text g' h' k') = let what : e ≡ d = cc in cc
  asks_one (loads o e g h k v p) (loads o' d g' h' k' w q) = asks_one p (asks_from (enters_one v w) q)

pub answers_one : {l x y : Loading} {a : PendingRequest} {t : Url} {e : TableEntry} → Answers l a t e x → Answers l a t e y → x ≡ y
answers_one {l} (no_module {s = s} o text f g) (no_module o' text' h k) = let same : text ≡ text' = cc in ap (λ t. throw l s t) same
answers_one (no_module o text f g) (request o' h k q) = cc
answers_one (request o f g p) (no_module o' text h k) = cc
answers_one (request {s = s} o f g p) (request o' h k q) = ap (λ l. finish l s) (enters_one p q)
answers_one {l} (no_root {s = s} text f) (no_root text' g) = let same : text ≡ text' = cc in ap (λ t. throw l s t) same
answers_one (no_root text f) (root g q) = cc
answers_one (root f p) (no_root text g) = cc
answers_one (root {s = s} f p) (root g q) = ap (λ l. finish l s) (enters_one p q)

-- ---- a load that doesn't go on does nothing

pub enters_late : {l m : Loading} {s : ℕ} {x : Url} → open_load l s ≡ None → Enters l s x m → m ≡ l
enters_late n (ended h) = refl
enters_late n (known o h f) = refl
enters_late n (enters o h f p) = cc

pub asks_late : {l m : Loading} {s i : ℕ} {x : Url} {ts : List Url} → open_load l s ≡ None → Asks l s x i ts m → m ≡ l
asks_late n no_more = refl
asks_late n (over h) = refl
asks_late n (waits o h g p) = cc
asks_late n (throws o e text h g k) = cc
asks_late n (loads o e g h k v p) = cc

-- ---- over a host

pub answered_one : {h x y : Host} {a : PendingRequest} {u : Url} {e : TableEntry} → Answered h a u e x → Answered h a u e y → x ≡ y
answered_one (late n) (late m) = refl
answered_one (late n) (answered (no_module o t f g)) = cc
answered_one (late n) (answered (request o f g q)) = cc
answered_one (answered (no_module o t f g)) (late n) = cc
answered_one (answered (request o f g q)) (late n) = cc
answered_one {h} {a = a} {u = u} {e = e} (answered p) (answered q) = ap (λ l. settle_load (with_loading (begin_load h a u e) l) (load_of a)) (answers_one p q)

pub imports_one : {h x y : Host} {referrer : Url} {specifier : List ℕ} {promise : ℕ} → Imports h referrer specifier promise x → Imports h referrer specifier promise y → x ≡ y
imports_one (Imports.limit h) (Imports.limit k) = refl
imports_one (Imports.limit h) (Imports.unresolved f k r) = cc
imports_one (Imports.limit h) (Imports.asks u k r e) = cc
imports_one (Imports.limit h) (Imports.answers u e k r g q) = cc
imports_one (Imports.unresolved f h r) (Imports.limit k) = cc
imports_one {h} {referrer = referrer} {specifier = specifier} {promise = promise} (Imports.unresolved f n r) (Imports.unresolved f' k s) = let same : f ≡ f' = cc in ap (λ f. reject_new (counted h) promise (specifier_error referrer specifier f)) same
imports_one (Imports.unresolved f h r) (Imports.asks u k s e) = cc
imports_one (Imports.unresolved f h r) (Imports.answers u e k s g q) = cc
imports_one (Imports.asks u h r e) (Imports.limit k) = cc
imports_one (Imports.asks u h r e) (Imports.unresolved f k s) = cc
imports_one {h} {promise = promise} (Imports.asks u n r e) (Imports.asks u' k s d) = let same : u ≡ u' = cc in ap (λ u. ask_root (add_load (counted h) promise) (next_load h) u) same
imports_one (Imports.asks u h r e) (Imports.answers u' e' k s g q) = let same : u ≡ u' = cc in cc
imports_one (Imports.answers u e h r g p) (Imports.limit k) = cc
imports_one (Imports.answers u e h r g p) (Imports.unresolved f k s) = cc
imports_one (Imports.answers u e h r g p) (Imports.asks u' k s d) = let same : u ≡ u' = cc in cc
imports_one {h} {y = y} {promise = promise} (Imports.answers u e n r g p) (Imports.answers u' e' k s g' q) =
    let same : u' ≡ u = cc in
    let entry : e' ≡ e = cc in
    answered_one p (subst (λ u. Answered (add_load (counted h) promise) (Root (next_load h)) u e y) same (subst (λ e. Answered (add_load (counted h) promise) (Root (next_load h)) u' e y) entry q))

pub next_one : {h x y : Host} → AnswersNext h x → AnswersNext h y → x ≡ y
next_one {h} {x} {y} p q =
    let same : q.who ≡ p.who = cc (p.is_next, q.is_next) in
    answered_one p.answered (subst (λ n. Answered (without_next h n) n.pending_request n.url n.entry y) same q.answered)

all_one : {h x y : Host} → AnswersAll h x → AnswersAll h y → x ≡ y
all_one (AnswersAll.none n) (AnswersAll.none m) = refl
all_one (AnswersAll.none n) (AnswersAll.stops limit s) = refl
all_one (AnswersAll.none n) (AnswersAll.answers s q r) = let is = q.is_next in cc
all_one (AnswersAll.stops limit s) (AnswersAll.none n) = refl
all_one (AnswersAll.stops limit s) (AnswersAll.stops other t) = refl
all_one (AnswersAll.stops limit s) (AnswersAll.answers t q r) = cc
all_one (AnswersAll.answers s q r) (AnswersAll.none n) = let is = q.is_next in cc
all_one (AnswersAll.answers s q r) (AnswersAll.stops limit t) = cc
all_one {y = y} (AnswersAll.answers s q r) (AnswersAll.answers t q' r') = all_one r (subst (λ h. AnswersAll h y) (next_one q' q) r')

pub one_load : OneLoad
one_load = record {
  enters = λ l one other s x p q. enters_one p q;
  asks = λ l one other s i x ts p q. asks_one p q;
  answers = λ l one other a t e p q. answers_one p q;
  answered = λ h one other a u e p q. answered_one p q;
  next = λ h one other p q. next_one p q;
  arrives = λ h one other u c p q. all_one p q;
  imports = λ h one other referrer specifier promise p q. imports_one p q;
  begins = λ h one other referrer specifier promise a b p q.
      let same = imports_one p.imports q.imports in (p.ends ∙ ap (λ (k : Host). end_by k.imports.stopped) same ∙ sym q.ends, same);
}
