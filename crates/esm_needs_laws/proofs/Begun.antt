-- Each body that has begun, and the bodies that had ended before: calls that are made where all that a body needs has ended keep it.
use Rattle.std.proofs.Common.{◌≡◌, ◌⊎◌, inl, inr, List, [], ◌∷◌, ◌++◌, refl, ap, subst, sym, true}
use Rattle.std.specs.Prelude.{Result}
use Rattle.esm_base.specs.declared.limits.Limit.{Limit}
use Rattle.esm_base.specs.Urls.{Url, same_url}
use Rattle.esm_base.specs.Lists.{is_in}
use Rattle.esm_realm.proofs.Lists.{either}
use Rattle.esm_values.specs.Value.{Value}
use Rattle.esm_eval.specs.Nodes.{Call, CallAnswer, BodyCalls, module_of}
use Rattle.esm_rewriting.specs.State.{Event, Begins, Ends}
use Rattle.esm_world.specs.World.{World}
use Rattle.esm_world.specs.Layers.{CallsForBody, evaluation}
use Rattle.esm_world.proofs.EvalKeeps.{Lasts}
use Rattle.esm_needs_laws.proofs.Calls.{IsEnd, EndEvents, CallEvents, call_events}
use Rattle.esm_needs_laws.proofs.Promised.{Among}
use Rattle.esm_needs_laws.proofs.Shape.{Leads}
use Rattle.esm_needs_laws.proofs.Told.{Events, Ended}

-- ---- the last of these events

pub nil_not : (before rest : Events) (e : Event Url) → ◌≡◌ {A = Events} [] (before ++ e ∷ rest) → ⊥
nil_not [] rest e h = cc
nil_not (b ∷ bs) rest e h = cc

cons_of : (x y : Event Url) (xs ys : Events) → ◌≡◌ {A = Events} (x ∷ xs) (y ∷ ys) → (x ≡ y) × (xs ≡ ys)
cons_of x y xs ys h = let a : x ≡ y = cc in let b : xs ≡ ys = cc in (a, b)

-- a start in a list that ends with this event is in what stands before it, or is it
abbrev SplitLast : Events → Event Url → Events → Url → Type 0
SplitLast es e before x = ((more : Events) × (es ≡ before ++ Begins x ∷ more)) ⊎ ((es ≡ before) × (e ≡ Begins x))

pub split_last : (es : Events) (e : Event Url) (before rest : Events) (x : Url) → es ++ e ∷ [] ≡ before ++ Begins x ∷ rest → SplitLast es e before x
split_last [] e [] rest x h = inr (refl, (cons_of e (Begins x) [] rest h).0)
split_last [] e (b ∷ bs) rest x h = absurd (nil_not bs rest (Begins x) (cons_of e b [] (bs ++ Begins x ∷ rest) h).1)
split_last (y ∷ ys) e [] rest x h = inl (ys, ap (λ z. z ∷ ys) (cons_of y (Begins x) (ys ++ e ∷ []) rest h).0)
split_last (y ∷ ys) e (b ∷ bs) rest x h =
    let k = cons_of y b (ys ++ e ∷ []) (bs ++ Begins x ∷ rest) h in
    either (split_last ys e bs rest x k.1) (λ d. inl (d.0, both k.0 d.1)) (λ d. inr (both k.0 d.0, d.1))
  where
    both : {a c : Event Url} {xs zs : Events} → a ≡ c → xs ≡ zs → (a ∷ xs) ≡ (c ∷ zs)
    both p q = λ i. p i ∷ q i

-- ---- what a body needs

-- the bodies of what x requests, and of what these reach, are among those that have ended. Of a request that leads back to x nothing is said
abbrev pub NeedsOf : (Url → List Url) → Events → Url → Type 0
NeedsOf to past x = (t y : Url) → is_in same_url (to x) t ≡ true → (Leads same_url to t x → ⊥) → Leads same_url to t y → Among (Ends y) past

-- it is so of each body that has begun, before its start
abbrev pub NeedsBefore : (Url → List Url) → Events → Type 0
NeedsBefore to es = (x : Url) (before rest : Events) → es ≡ before ++ Begins x ∷ rest → NeedsOf to before x

module _ (to : Url → List Url) where
  needs_start : (es : Events) (m : Url) → NeedsBefore to es → NeedsOf to es m → NeedsBefore to (es ++ Begins m ∷ [])
  needs_start es m h n x before rest e = by (split_last es (Begins m) before rest x e)
    where
      own : ◌≡◌ {A = Event Url} (Begins m) (Begins x) → m ≡ x
      own d = cc

      by : SplitLast es (Begins m) before x → NeedsOf to before x
      by (inl d) = h x before d.0 d.1
      by (inr d) = subst (λ b. NeedsOf to b x) d.0 (subst (λ z. NeedsOf to es z) (own d.1) n)

  pub needs_end : (es fs : Events) → EndEvents es fs → NeedsBefore to es → NeedsBefore to fs
  needs_end es fs (EndEvents.no_end e) h = subst (λ x. NeedsBefore to x) (sym e) h
  needs_end es fs (EndEvents.one_end y q e) h = subst (λ x. NeedsBefore to x) (sym e) (λ x before rest d. by x before (split_last es y before rest x d))
    where
      by : (x : Url) (before : Events) → SplitLast es y before x → NeedsOf to before x
      by x before (inl d) = h x before d.0 d.1
      by x before (inr d) = absurd (subst (λ z. IsEnd z) d.1 q)

  needs_call : (m : Url) (es fs : Events) → CallEvents m es fs → NeedsOf to es m → NeedsBefore to es → NeedsBefore to fs
  needs_call m es fs (CallEvents.none e) n h = subst (λ x. NeedsBefore to x) (sym e) h
  needs_call m es fs (CallEvents.begun late e q) n h = needs_end late fs q (subst (λ x. NeedsBefore to x) (sym e) (needs_start es m h n))

  -- ---- evaluation whose calls are made so

  abbrev pub FineCall : BodyCalls Url (Value Url) World Limit
  FineCall w c r v = ((t y : Url) → is_in same_url (to (module_of c)) t ≡ true → (Leads same_url to t (module_of c) → ⊥) → Leads same_url to t y → Ended w y) × CallsForBody w c r v

  abbrev pub KeepNeeds : World → World → Type 0
  KeepNeeds v w = NeedsBefore to v.engine.events → NeedsBefore to w.engine.events

  fine_call : {v w : World} {c : Call Url} {r : Result (CallAnswer (Value Url) c) Limit} → FineCall v c r w → KeepNeeds v w
  fine_call {v} {w} {c} p h = needs_call (module_of c) v.engine.events w.engine.events (call_events p.1) (λ t y a n q. (p.0 t y a n q).0) h

  pub lasts_needs : Lasts evaluation FineCall KeepNeeds
  lasts_needs = record {
    same = λ w h. h;
    on = λ p q h. q (p h);
    put = λ w x n h. h;
    stamp = λ w x h. h;
    make = λ w h. h;
    make_body = λ w x h. h;
    fulfill = λ w p h. h;
    reject = λ w p v h. h;
    call = λ p h. fine_call p h;
  }
