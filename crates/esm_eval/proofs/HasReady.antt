-- Which modules are ready is decided: modules are added one at a time to those that are known to be, until no more can be.
use Rattle.std.proofs.Common.{◌≡◌, ℕ, zero, suc, ◌≤◌, Bool, true, false, List, [], ◌∷◌, Option, Some, None, refl, ap, subst, sym, inl, inr, arith}
use Rattle.std.specs.Prelude.{◌⊎◌, ◌||◌, ◌&&◌, not, All}
use Rattle.std.proofs.lemmas.List.Elements.{All-cons}
use Rattle.esm_base.specs.Lists.{is_in}
use Rattle.esm_realm.proofs.HasWalks.{left, left_less}
use Rattle.esm_realm.proofs.Urls.{cases, not_both}
use Rattle.esm_realm.proofs.Lists.{either, in_first, in_later, in_cons}
use Rattle.esm_eval.specs.Nodes.{Phase, NotEntered, Evaluating, EvaluatingAsync, Evaluated}
use Rattle.esm_eval.specs.Evaluation.{Evaluation, IsLawful, waits, is_done, is_stamped}
use Rattle.esm_eval.specs.BodyEnd.{IsReady, AreOver, ReadyAmong}
use Rattle.esm_eval.specs.Inner.Ready.{is_async, no_error}
use Rattle.esm_eval.specs.Inner.Ready as test
use Rattle.esm_eval.proofs.HasMarks.{first_has, others_have}

pub async_is : (p : Phase) → is_async p ≡ true → p ≡ EvaluatingAsync
async_is EvaluatingAsync h = refl
async_is NotEntered h = cc
async_is Evaluating h = cc
async_is Evaluated h = cc

pub error_is : {V : Type 0} (e : Option V) → no_error e ≡ true → e ≡ None
error_is None h = refl
error_is (Some v) h = cc

pub both : (a b : Bool) → (a && b) ≡ true → (a ≡ true) × (b ≡ true)
both true b h = (refl, h)
both false b h = cc

pub and_true : (a b : Bool) → a ≡ true → b ≡ true → (a && b) ≡ true
and_true true b h k = k
and_true false b h k = cc

pub not_is : (a : Bool) → not a ≡ true → a ≡ false
not_is true h = cc
not_is false h = refl

is_not : (a : Bool) → a ≡ false → not a ≡ true
is_not true h = cc
is_not false h = refl

pub or_either : (a b : Bool) → (a || b) ≡ true → (a ≡ true) ⊎ (b ≡ true)
or_either true b h = inl refl
or_either false b h = inr h

or_first : (a b : Bool) → a ≡ true → (a || b) ≡ true
or_first true b h = refl
or_first false b h = cc

or_second : (a b : Bool) → b ≡ true → (a || b) ≡ true
or_second true b h = refl
or_second false b h = h

module _ {N V W : Type 0} (E : Evaluation N V W) (L : IsLawful E) (w : W) where
  abbrev pub In : List N → N → Type 0
  In xs y = is_in E.same xs y ≡ true

  abbrev over : (N → Bool) → List N → Bool
  over known ys = test.over E w known ys

  abbrev ready_by : (N → Bool) → N → Bool
  ready_by known x = test.ready_by E w known x

  abbrev AreReady : (N → Bool) → Type 0
  AreReady known = test.AreReady E w known

  one_over : (known : N → Bool) (ys : List N) (y : N) → AreReady known → (is_done E w y || (not (E.awaits w y) && known y)) ≡ true → AreOver E w ys → AreOver E w (y ∷ ys)
  one_over known ys y r h rest = either (or_either _ _ h) (λ d. AreOver.done d rest)
      (λ j. let b = both _ _ j in AreOver.joins (not_is (E.awaits w y) b.0) (r y b.1) rest)

  are_over : (known : N → Bool) → AreReady known → (ys : List N) → over known ys ≡ true → AreOver E w ys
  are_over known r [] h = AreOver.none
  are_over known r (y ∷ ys) h = let b = both _ _ h in one_over known ys y r b.0 (are_over known r ys b.1)

  pub is_ready : (known : N → Bool) → AreReady known → (x : N) → ready_by known x ≡ true → IsReady E w x
  is_ready known r x h =
      let a = both _ _ h in
      let b = both _ _ a.1 in
      let c = both _ _ b.1 in
      let d = both _ _ c.1 in
      IsReady.ready a.0 (async_is _ b.0) (not_is _ c.0) (error_is _ d.0) (are_over known r (waits E w x) d.1)

  -- no module that is ready where these are is missing
  abbrev pub IsWhole : (N → Bool) → Type 0
  IsWhole known = (x : N) → is_stamped E w x ≡ true → ready_by known x ≡ true → known x ≡ true

  async_true : (p : Phase) → p ≡ EvaluatingAsync → is_async p ≡ true
  async_true p e = ap is_async e

  error_none : (e : Option V) → e ≡ None → no_error e ≡ true
  error_none e h = ap no_error h

  mutual
    pub ready_in : (known : N → Bool) (h : IsWhole known) {x : N} → IsReady E w x → known x ≡ true
    ready_in known h (IsReady.ready {x = x} s p b e o) =
        h x s (and_true _ _ s (and_true _ _ (async_true _ p) (and_true _ _ (is_not _ b) (and_true _ _ (error_none _ e) (over_in known h o)))))

    over_in : (known : N → Bool) (h : IsWhole known) {ys : List N} → AreOver E w ys → over known ys ≡ true
    over_in known h AreOver.none = refl
    over_in known h (AreOver.done {y = y} d o) = and_true _ _ (or_first (is_done E w y) _ d) (over_in known h o)
    over_in known h (AreOver.joins {y = y} a r o) =
        and_true _ _ (or_second (is_done E w y) _ (and_true _ _ (is_not (E.awaits w y) a) (ready_in known h r))) (over_in known h o)

  -- one of these
  abbrev among : List N → N → Bool
  among known y = is_in E.same known y

  -- among these one that is ready and isn't known to be, or none
  abbrev Finds : List N → List N → Type 0
  Finds known xs = ((x : N) × In xs x × (ready_by (among known) x ≡ true) × (is_in E.same known x ≡ false))
      ⊎ ((x : N) → In xs x → ready_by (among known) x ≡ true → In known x)

  finds_by : (known xs : List N) (x : N) (r : Bool) → ready_by (among known) x ≡ r → (k : Bool) → is_in E.same known x ≡ k → Finds known xs → Finds known (x ∷ xs)
  finds_by known xs x true r false k rest = inl (x, in_first E.same L.names.own L.names.equal x xs, r, k)
  finds_by known xs x r e k d (inl h) = inl (h.0, in_later E.same L.names.own L.names.equal x xs h.0 h.1, h.2, h.3)
  finds_by known xs x true r true k (inr h) = inr (λ y i q. either (in_cons E.same L.names.own L.names.equal x xs y i) (λ e. subst (λ z. In known z) (sym e) k) (λ j. h y j q))
  finds_by known xs x false r k d (inr h) = inr (λ y i q. either (in_cons E.same L.names.own L.names.equal x xs y i) (λ e. absurd (not_both (ready_by (among known) x) (subst (λ z. ready_by (among known) z ≡ true) e q) r)) (λ j. h y j q))

  finds : (known xs : List N) → Finds known xs
  finds known [] = inr (λ x i r. cc)
  finds known (x ∷ xs) = finds_by known xs x (ready_by (among known) x) refl (is_in E.same known x) refl (finds known xs)

  abbrev HasWhole : Type 0
  HasWhole = (known : List N) × AreReady (among known) × IsWhole (among known)

  grown : (known : List N) (x : N) → AreReady (among known) → ready_by (among known) x ≡ true → AreReady (among (x ∷ known))
  grown known x r h y i = either (in_cons E.same L.names.own L.names.equal x known y i)
      (λ e. subst (λ z. IsReady E w z) (sym e) (is_ready (among known) r x h)) (r y)

  whole : (k : ℕ) (known : List N) → left E.same (E.stamps w) known ≤ k → AreReady (among known) → HasWhole
  whole zero known le r = by (finds known (E.stamps w))
    where
      by : Finds known (E.stamps w) → HasWhole
      by (inr h) = (known, r, λ x s q. h x s q)
      by (inl h) = let lt = left_less E.same L.names.own L.names.equal (E.stamps w) known h.0 h.1 h.3 in absurd (omega arith)
  whole (suc k) known le r = by (finds known (E.stamps w)) (whole k)
    where
      by : Finds known (E.stamps w) → ((others : List N) → left E.same (E.stamps w) others ≤ k → AreReady (among others) → HasWhole) → HasWhole
      by (inr h) rest = (known, r, λ x s q. h x s q)
      by (inl h) rest =
          let lt = left_less E.same L.names.own L.names.equal (E.stamps w) known h.0 h.1 h.3 in
          rest (h.0 ∷ known) (omega arith) (grown known h.0 r h.2)

  among_by : (known : List N) → AreReady (among known) → IsWhole (among known) → (IsModule : N → Type 0) (xs : List N) → All IsModule xs
      → (ys : List N) × ReadyAmong E w xs ys × All IsModule ys
  among_by known r h IsModule [] ms = ([], ReadyAmong.none, ms)
  among_by known r h IsModule (x ∷ xs) ms = by (cases (is_in E.same known x)) (among_by known r h IsModule xs (others_have IsModule x xs ms))
    where
      by : In known x ⊎ (is_in E.same known x ≡ false) → (ys : List N) × ReadyAmong E w xs ys × All IsModule ys
          → (ys : List N) × ReadyAmong E w (x ∷ xs) ys × All IsModule ys
      by (inl i) rest = (x ∷ rest.0, ReadyAmong.kept (r x i) rest.1, All-cons IsModule x rest.0 (first_has IsModule x xs ms) rest.2)
      by (inr n) rest = (rest.0, ReadyAmong.dropped (λ q. absurd (not_both (is_in E.same known x) (ready_in (among known) h q) n)) rest.1, rest.2)

  pub ready_among : (IsModule : N → Type 0) (xs : List N) → All IsModule xs → (ys : List N) × ReadyAmong E w xs ys × All IsModule ys
  ready_among IsModule xs ms =
      let k = whole (left E.same (E.stamps w) []) [] (omega arith) (λ y i. cc) in
      among_by k.0 k.1 k.2 IsModule xs ms
