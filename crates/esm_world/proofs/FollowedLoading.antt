-- What follows of each import() goes on where loading does.
use Rattle.std.proofs.Common.{◌≡◌, ◌⊎◌, inl, inr, ℕ, ◌<◌, true, false, List, [], ◌∷◌, length, Option, Some, None, refl, ap, subst, sym, ◌∙◌}
use Rattle.std.specs.Prelude.{slice_get, slice_set, nat_lt}
use Rattle.esm_base.specs.declared.limits.TheConstants.{MAX_URLS}
use Rattle.esm_base.specs.Urls.{Text, Url, has}
use Rattle.esm_promise.specs.Promises.{Pending, next_promise}
use Rattle.esm_promise.specs.Reactions.{Loaded, Evaluated}
use Rattle.esm_loads.specs.UrlTable.{TableEntry, Throw, New, Kept, thrown_by}
use Rattle.esm_loads.specs.Loading.{Loading, LoadState, Asked, Open, LoadComplete, Thrown, PendingRequest, Root, Request, Purpose, ForEntry, ForImport, OpenLoad, import_promise_in}
use Rattle.esm_loads.specs.Load.{Answers}
use Rattle.esm_loads.specs.Load.Answers.{no_root, no_module, root, request}
use Rattle.esm_loads.specs.Host.{Host, Answered, begin_load, begin_by, own_load, settle_load, settle_by, with_loading, promise_of}
use Rattle.esm_loads.specs.Host.Answered.{answered, late}
use Rattle.esm_loads.specs.Arrival.{AnswersNext, without_next}
use Rattle.esm_loads.specs.ImportCall.{Imports, add_load, counted, next_load}
use Rattle.esm_loads.specs.Owed.{owes, OwesPromises}
use Rattle.esm_loads.specs.Whole.{HasEnded}
use Rattle.esm_loads.specs.Laws.{IsOrderly}
use Rattle.esm_loads.proofs.Limits.{live, get_set}
use Rattle.esm_loads.proofs.Orderly.{without_orderly}
use Rattle.esm_loads.proofs.Tables.{settled_imports}
use Rattle.esm_loads.proofs.Requests.{contains_here, set_other, equal_cases}
use Rattle.esm_loads.proofs.Owed.{Ends, answers_ends, root_stage, begun_same, push_own, push_other}
use Rattle.esm_world.specs.Told.{OfImport, Own, own_promise_in, load_promise, AreToldOf}
use Rattle.esm_world.specs.Followed.{IsSettled}
use Rattle.esm_world.proofs.ToldPromises.{Ps, some_is}
use Rattle.esm_world.proofs.ToldLoading.{begin_kept, ends_kept, unchanged, ask_purposes}
use Rattle.esm_world.proofs.FollowedPromises.{IsWaiting, Goes, goes_same, push_goes, settle_goes, settled_own}

-- what follows of an import() whose load has a promise of its own
pub data IsFollowed (ps : Ps) (s q : ℕ) : Type 0 where
  settled : IsSettled ps q → IsFollowed ps s q
  loads : IsWaiting ps (Loaded s) → IsFollowed ps s q
  evaluates : IsWaiting ps (Evaluated s) → IsFollowed ps s q

-- each import() is followed but that of the load `out`, whose job is running; and what ended loads owed is settled, but of the load `mid`,
-- which is answered
pub record AreFollowed (out mid : Option ℕ) (l : Loading) (ps : Ps) : Type 0 where
  pub going : (s q p : ℕ) → slice_get l.purposes s ≡ Some (ForImport q (Some p)) → (out ≡ Some s → ⊥) → IsFollowed ps s q
  pub asked : (s q : ℕ) → slice_get l.purposes s ≡ Some (ForImport q None) → (mid ≡ Some s → ⊥) → (slice_get l.loads s ≡ Some Asked) ⊎ IsSettled ps q
  pub ended : (s p : ℕ) (state : LoadState) → load_promise l s Own ≡ Some p → slice_get l.loads s ≡ Some state → HasEnded state → (mid ≡ Some s → ⊥) → IsSettled ps p

followed_on : {ps qs : Ps} {s q : ℕ} → Goes ps qs → IsFollowed ps s q → IsFollowed qs s q
followed_on {q = q} g (IsFollowed.settled h) = IsFollowed.settled (g.settled q h)
followed_on {s = s} g (IsFollowed.loads h) = IsFollowed.loads (g.waits (Loaded s) h)
followed_on {s = s} g (IsFollowed.evaluates h) = IsFollowed.evaluates (g.waits (Evaluated s) h)

none_is : {s : ℕ} → ◌≡◌ {A = Option ℕ} None (Some s) → ⊥
none_is e = cc

or_settled : {ps qs : Ps} {A : Type 0} (q : ℕ) → Goes ps qs → A ⊎ IsSettled ps q → A ⊎ IsSettled qs q
or_settled q g (inl a) = inl a
or_settled q g (inr h) = inr (g.settled q h)

module _ (out : Option ℕ) where
  abbrev pub F : Loading → Ps → Type 0
  F l ps = AreFollowed out None l ps

  pub goes_followed : {mid : Option ℕ} (l : Loading) {ps qs : Ps} → Goes ps qs → AreFollowed out mid l ps → AreFollowed out mid l qs
  goes_followed l g f = record {
    going = λ s q p e n. followed_on g (f.going s q p e n);
    asked = λ s q e n. or_settled q g (f.asked s q e n);
    ended = λ s p state o e h n. g.settled p (f.ended s p state o e h n);
  }

  pub same_followed : (l m : Loading) (ps : Ps) → m.purposes ≡ l.purposes → m.loads ≡ l.loads → F l ps → F m ps
  same_followed l m ps e d f = record {
    going = λ s q p k n. f.going s q p (sym (at s) ∙ k) n;
    asked = λ s q k n. on s q (f.asked s q (sym (at s) ∙ k) n);
    ended = λ s p state o k h n. f.ended s p state (sym (ap own_promise_in (at s)) ∙ o) (sym (lat s) ∙ k) h n;
  }
    where
      at : (s : ℕ) → slice_get m.purposes s ≡ slice_get l.purposes s
      at s = ap (λ (xs : List Purpose). slice_get xs s) e

      lat : (s : ℕ) → slice_get m.loads s ≡ slice_get l.loads s
      lat s = ap (λ (xs : List LoadState). slice_get xs s) d

      on : (s q : ℕ) → (slice_get l.loads s ≡ Some Asked) ⊎ IsSettled ps q → (slice_get m.loads s ≡ Some Asked) ⊎ IsSettled ps q
      on s q (inl k) = inl (lat s ∙ k)
      on s q (inr k) = inr k

  not_ended : (o : Option LoadState) (state : LoadState) → owes o ≡ true → o ≡ Some state → HasEnded state → ⊥
  not_ended o Asked g e h = h
  not_ended o (Open r v) g e h = h
  not_ended o (LoadComplete r) g e h = let k : false ≡ true = sym (ap owes e) ∙ g in cc
  not_ended o (Thrown t) g e h = let k : false ≡ true = sym (ap owes e) ∙ g in cc

  -- a load gets its own promise, with a reaction
  own_followed : (h : Host) (s q : ℕ) → slice_get h.imports.purposes s ≡ Some (ForImport q None) → owes (slice_get h.imports.loads s) ≡ true → F h.imports h.promises → F (own_load h s q).imports (own_load h s q).promises
  own_followed h s q is g f = record {
    going = λ k r p e n. by_going k r p e n (equal_cases k s);
    asked = λ k r e n. by_asked k r e n (equal_cases k s);
    ended = λ k p state o e d n. by_ended k p state o e d n (equal_cases k s);
  }
    where
      mine : Purpose
      mine = ForImport q (Some (next_promise h.promises))

      own : slice_get (slice_set h.imports.purposes s (ForImport q (Some (next_promise h.promises)))) s ≡ Some (ForImport q (Some (next_promise h.promises)))
      own = get_set h.imports.purposes s (ForImport q None) (ForImport q (Some (next_promise h.promises))) is

      other : (k : ℕ) → (k ≡ s → ⊥) → slice_get (own_load h s q).imports.purposes k ≡ slice_get h.imports.purposes k
      other k n = set_other h.imports.purposes s k (ForImport q (Some (next_promise h.promises))) n

      goes : Goes h.promises (own_load h s q).promises
      goes = push_goes h.promises (Pending (Loaded s ∷ []))

      waits : IsWaiting (own_load h s q).promises (Loaded s)
      waits = IsWaiting.stands (next_promise h.promises) (Loaded s ∷ []) (push_own h.promises.all (Pending (Loaded s ∷ []))) (contains_here (Loaded s) [])

      by_going : (k r p : ℕ) → slice_get (own_load h s q).imports.purposes k ≡ Some (ForImport r (Some p)) → (out ≡ Some k → ⊥) → (k ≡ s) ⊎ (k ≡ s → ⊥) → IsFollowed (own_load h s q).promises k r
      by_going k r p e n (inl d) = IsFollowed.loads (subst (λ x. IsWaiting (own_load h s q).promises (Loaded x)) (sym d) waits)
      by_going k r p e n (inr d) = followed_on goes (f.going k r p (sym (other k d) ∙ e) n)

      not_none : (r : ℕ) → slice_get (own_load h s q).imports.purposes s ≡ Some (ForImport r None) → ⊥
      not_none r e = let k : Some (ForImport q (Some (next_promise h.promises))) ≡ Some (ForImport r None) = sym own ∙ e in cc

      by_asked : (k r : ℕ) → slice_get (own_load h s q).imports.purposes k ≡ Some (ForImport r None) → (None ≡ Some k → ⊥) → (k ≡ s) ⊎ (k ≡ s → ⊥) → (slice_get h.imports.loads k ≡ Some Asked) ⊎ IsSettled (own_load h s q).promises r
      by_asked k r e n (inl d) = absurd (not_none r (subst (λ x. slice_get (own_load h s q).imports.purposes x ≡ Some (ForImport r None)) d e))
      by_asked k r e n (inr d) = or_settled r goes (f.asked k r (sym (other k d) ∙ e) n)

      by_ended : (k p : ℕ) (state : LoadState) → load_promise (own_load h s q).imports k Own ≡ Some p → slice_get h.imports.loads k ≡ Some state → HasEnded state → (None ≡ Some k → ⊥) → (k ≡ s) ⊎ (k ≡ s → ⊥) → IsSettled (own_load h s q).promises p
      by_ended k p state o e t n (inl d) = absurd (not_ended (slice_get h.imports.loads s) state g (subst (λ x. slice_get h.imports.loads x ≡ Some state) d e) t)
      by_ended k p state o e t n (inr d) = goes.settled p (f.ended k p state (sym (ap own_promise_in (other k d)) ∙ o) e t n)

  begin_followed : (h : Host) (s : ℕ) (t : Option Throw) (p : Option Purpose) → slice_get h.imports.purposes s ≡ p → owes (slice_get h.imports.loads s) ≡ true → F h.imports h.promises → F (begin_by h s t p).imports (begin_by h s t p).promises
  begin_followed h s (Some t) p e g f = f
  begin_followed h s None None e g f = f
  begin_followed h s None (Some (ForEntry q)) e g f = f
  begin_followed h s None (Some (ForImport q None)) e g f = own_followed h s q e g f
  begin_followed h s None (Some (ForImport q (Some r))) e g f = f

  -- where a module answers, the load has a promise of its own then
  begin_owns : (h : Host) (s : ℕ) (t : Option Throw) (p : Option Purpose) (r : ℕ) → t ≡ None → slice_get h.imports.purposes s ≡ p → slice_get (begin_by h s t p).imports.purposes s ≡ Some (ForImport r None) → ⊥
  begin_owns h s (Some t) p r n e k = let z : Some t ≡ None = n in cc
  begin_owns h s None None r n e k = let z : None ≡ Some (ForImport r None) = sym e ∙ k in cc
  begin_owns h s None (Some (ForEntry q)) r n e k = let z : Some (ForEntry q) ≡ Some (ForImport r None) = sym e ∙ k in cc
  begin_owns h s None (Some (ForImport q None)) r n e k =
      let own = get_set h.imports.purposes s (ForImport q None) (ForImport q (Some (next_promise h.promises))) e in
      let z : Some (ForImport q (Some (next_promise h.promises))) ≡ Some (ForImport r None) = sym own ∙ k in cc
  begin_owns h s None (Some (ForImport q (Some p))) r n e k = let z : Some (ForImport q (Some p)) ≡ Some (ForImport r None) = sym e ∙ k in cc

  begin_loads : (h : Host) (s : ℕ) (t : Option Throw) (p : Option Purpose) → (begin_by h s t p).imports.loads ≡ h.imports.loads
  begin_loads h s (Some t) p = refl
  begin_loads h s None None = refl
  begin_loads h s None (Some (ForEntry q)) = refl
  begin_loads h s None (Some (ForImport q None)) = refl
  begin_loads h s None (Some (ForImport q (Some r))) = refl

  some_other : (s k : ℕ) → (◌≡◌ {A = Option ℕ} (Some s) (Some k) → ⊥) → k ≡ s → ⊥
  some_other s k n e = n (ap (λ x. Some x) (sym e))

  -- of loads only s changes
  mid_followed : (l m : Loading) (ps : Ps) (s : ℕ) → Ends s l m → F l ps → AreFollowed out (Some s) m ps
  mid_followed l m ps s e f = record {
    going = λ k q p d n. f.going k q p (sym (at k) ∙ d) n;
    asked = λ k q d n. on k q n (f.asked k q (sym (at k) ∙ d) none_is);
    ended = λ k p state o d t n. f.ended k p state (sym (ap own_promise_in (at k)) ∙ o) (sym (e.others k (some_other s k n)) ∙ d) t none_is;
  }
    where
      at : (k : ℕ) → slice_get m.purposes k ≡ slice_get l.purposes k
      at k = ap (λ (xs : List Purpose). slice_get xs k) e.purposes

      on : (k q : ℕ) → (◌≡◌ {A = Option ℕ} (Some s) (Some k) → ⊥) → (slice_get l.loads k ≡ Some Asked) ⊎ IsSettled ps q → (slice_get m.loads k ≡ Some Asked) ⊎ IsSettled ps q
      on k q n (inl d) = inl (e.others k (some_other s k n) ∙ d)
      on k q n (inr d) = inr d

  -- ---- a load settles its promise

  settle_load_goes : (h : Host) (o : Option Purpose) (d : Option LoadState) → Goes h.promises (settle_by h o d).promises
  settle_load_goes h None d = goes_same h.promises
  settle_load_goes h (Some p) None = goes_same h.promises
  settle_load_goes h (Some p) (Some Asked) = goes_same h.promises
  settle_load_goes h (Some p) (Some (Open r v)) = goes_same h.promises
  settle_load_goes h (Some p) (Some (LoadComplete r)) = settle_goes h.promises (promise_of p) _
  settle_load_goes h (Some p) (Some (Thrown (New f))) = settle_goes h.promises (promise_of p) _
  settle_load_goes h (Some p) (Some (Thrown (Kept error))) = settle_goes h.promises (promise_of p) _

  settles_it : (h : Host) (p : Purpose) (state : LoadState) → HasEnded state → promise_of p < next_promise h.promises → IsSettled (settle_by h (Some p) (Some state)).promises (promise_of p)
  settles_it h p Asked t lt = absurd t
  settles_it h p (Open r v) t lt = absurd t
  settles_it h p (LoadComplete r) t lt = settled_own h.promises.all (promise_of p) _ lt
  settles_it h p (Thrown (New f)) t lt = settled_own h.promises.all (promise_of p) _ lt
  settles_it h p (Thrown (Kept error)) t lt = settled_own h.promises.all (promise_of p) _ lt

  settled_at : (h : Host) (s : ℕ) (p : Purpose) (state : LoadState) → slice_get h.imports.purposes s ≡ Some p → slice_get h.imports.loads s ≡ Some state → HasEnded state → promise_of p < next_promise h.promises → IsSettled (settle_load h s).promises (promise_of p)
  settled_at h s p state e d t lt = subst (λ o. IsSettled (settle_by h o (slice_get h.imports.loads s)).promises (promise_of p)) (sym e) (subst (λ x. IsSettled (settle_by h (Some p) x).promises (promise_of p)) (sym d) (settles_it h p state t lt))

  own_is : (o : Option Purpose) (p : ℕ) → own_promise_in o ≡ Some p → (purpose : Purpose) × (o ≡ Some purpose) × (promise_of purpose ≡ p)
  own_is None p e = cc
  own_is (Some (ForEntry q)) p e = (ForEntry q, refl, some_is e)
  own_is (Some (ForImport q None)) p e = cc
  own_is (Some (ForImport q (Some r))) p e = (ForImport q (Some r), refl, some_is e)

  end_followed : (h : Host) (s : ℕ) → AreToldOf h.imports h.promises → AreFollowed out (Some s) h.imports h.promises → ((q : ℕ) → slice_get h.imports.purposes s ≡ Some (ForImport q None) → (slice_get h.imports.loads s ≡ Some Asked) ⊎ IsSettled (settle_load h s).promises q) → F (settle_load h s).imports (settle_load h s).promises
  end_followed h s t f a = subst (λ l. F l (settle_load h s).promises) (sym (settled_imports h s)) all
    where
      goes : Goes h.promises (settle_load h s).promises
      goes = settle_load_goes h (slice_get h.imports.purposes s) (slice_get h.imports.loads s)

      own_ended : (p : ℕ) (state : LoadState) → load_promise h.imports s Own ≡ Some p → slice_get h.imports.loads s ≡ Some state → HasEnded state → IsSettled (settle_load h s).promises p
      own_ended p state o e d =
          let k = own_is (slice_get h.imports.purposes s) p o in
          let below : promise_of k.0 < next_promise h.promises = subst (λ x. x < next_promise h.promises) (sym k.2) (t.made s p Own o) in
          subst (λ x. IsSettled (settle_load h s).promises x) k.2 (settled_at h s k.0 state k.1 e d below)

      apart : (k : ℕ) → (k ≡ s → ⊥) → ◌≡◌ {A = Option ℕ} (Some s) (Some k) → ⊥
      apart k n e = n (sym (some_is e))

      by_asked : (k q : ℕ) → slice_get h.imports.purposes k ≡ Some (ForImport q None) → (k ≡ s) ⊎ (k ≡ s → ⊥) → (slice_get h.imports.loads k ≡ Some Asked) ⊎ IsSettled (settle_load h s).promises q
      by_asked k q e (inl d) = subst (λ x. (slice_get h.imports.loads x ≡ Some Asked) ⊎ IsSettled (settle_load h s).promises q) (sym d) (a q (subst (λ x. slice_get h.imports.purposes x ≡ Some (ForImport q None)) d e))
      by_asked k q e (inr n) = or_settled q goes (f.asked k q e (apart k n))

      by_ended : (k p : ℕ) (state : LoadState) → load_promise h.imports k Own ≡ Some p → slice_get h.imports.loads k ≡ Some state → HasEnded state → (k ≡ s) ⊎ (k ≡ s → ⊥) → IsSettled (settle_load h s).promises p
      by_ended k p state o e d (inl c) = own_ended p state (subst (λ x. load_promise h.imports x Own ≡ Some p) c o) (subst (λ x. slice_get h.imports.loads x ≡ Some state) c e) d
      by_ended k p state o e d (inr n) = goes.settled p (f.ended k p state o e d (apart k n))

      all : F h.imports (settle_load h s).promises
      all = record {
        going = λ k q p e n. followed_on goes (f.going k q p e n);
        asked = λ k q e n. by_asked k q e (equal_cases k s);
        ended = λ k p state o e d n. by_ended k p state o e d (equal_cases k s);
      }

  -- ---- answers

  root_thrown : {l m : Loading} {s : ℕ} {u : Url} {e : TableEntry} → Answers l (Root s) u e m → (t : Throw) → thrown_by u e ≡ Some t → (x : LoadState) → slice_get l.loads s ≡ Some x → (thrown : Throw) × (slice_get m.loads s ≡ Some (Thrown thrown))
  root_thrown {l} (no_root {s = s} thrown k) t e x is = (thrown, get_set l.loads s x (Thrown thrown) is)
  root_thrown (root n q) t e x is = absurd (let z : None ≡ Some t = sym n ∙ e in cc)

  is_there : (o : Option LoadState) → owes o ≡ true → (x : LoadState) × (o ≡ Some x)
  is_there None e = cc
  is_there (Some x) e = (x, refl)

  pub root_followed : {h k : Host} {s : ℕ} {u : Url} {e : TableEntry} → IsOrderly h.imports → owes (slice_get h.imports.loads s) ≡ true → AreToldOf h.imports h.promises → F h.imports h.promises → Answered h (Root s) u e k → F k.imports k.promises
  root_followed {h} {s = s} {u = u} {e = e} o g t f (answered {l = l} q) = end_followed (with_loading b l) s told (mid_followed b.imports l b.promises s ends begun) (λ r d. by r d (thrown_by u e) refl)
    where
      b : Host
      b = begin_load h (Root s) u e

      going : owes (slice_get (begin_load h (Root s) u e).imports.loads s) ≡ true
      going = ap (λ (xs : List LoadState). owes (slice_get xs s)) (begin_loads h s (thrown_by u e) (slice_get h.imports.purposes s)) ∙ g

      ends : Ends s (begin_load h (Root s) u e).imports l
      ends = answers_ends q (begun_same h s (thrown_by u e) (slice_get h.imports.purposes s) o)

      begun : F (begin_load h (Root s) u e).imports (begin_load h (Root s) u e).promises
      begun = begin_followed h s (thrown_by u e) (slice_get h.imports.purposes s) refl g f

      told : AreToldOf l (begin_load h (Root s) u e).promises
      told = (ends_kept (begin_load h (Root s) u e).imports l (begin_load h (Root s) u e).promises s going ends (begin_kept h s (thrown_by u e) (slice_get h.imports.purposes s) refl t).told).told

      by : (r : ℕ) → slice_get l.purposes s ≡ Some (ForImport r None) → (t : Option Throw) → thrown_by u e ≡ t → (slice_get l.loads s ≡ Some Asked) ⊎ IsSettled (settle_load (with_loading (begin_load h (Root s) u e) l) s).promises r
      by r d (Some t) n =
          let x = is_there (slice_get (begin_load h (Root s) u e).imports.loads s) going in
          let thrown = root_thrown q t n x.0 x.1 in
          inr (settled_at (with_loading (begin_load h (Root s) u e) l) s (ForImport r None) (Thrown thrown.0) d thrown.1 tt (told.made s r OfImport (ap import_promise_in d)))
      by r d None n = absurd (begin_owns h s (thrown_by u e) (slice_get h.imports.purposes s) r n refl (ap (λ (xs : List Purpose). slice_get xs s) (sym ends.purposes) ∙ d))

  request_followed : {h k : Host} {s i : ℕ} {x u : Url} {e : TableEntry} → IsOrderly h.imports → AreToldOf h.imports h.promises → F h.imports h.promises → Answered h (Request s x i) u e k → F k.imports k.promises
  request_followed o t f (late n) = f
  request_followed {h} {s = s} o t f (answered {l = l} q) = end_followed (with_loading h l) s told (mid_followed h.imports l h.promises s ends f) (λ r d. on r (f.asked s r (ap (λ (xs : List Purpose). slice_get xs s) (sym ends.purposes) ∙ d) none_is))
    where
      opened : {i : ℕ} {x u : Url} {e : TableEntry} {m : Loading} → Answers h.imports (Request s x i) u e m → (p : OpenLoad) × (slice_get h.imports.loads s ≡ Some (Open p.0 p.1))
      opened (no_module p thrown n f) = (p, (live h.imports.stopped (slice_get h.imports.loads s) n).1)
      opened (request p n f q) = (p, (live h.imports.stopped (slice_get h.imports.loads s) n).1)

      is : (p : OpenLoad) × (slice_get h.imports.loads s ≡ Some (Open p.0 p.1))
      is = opened q

      ends : Ends s h.imports l
      ends = answers_ends q o

      told : AreToldOf l h.promises
      told = (ends_kept h.imports l h.promises s (ap owes is.1) ends t).told

      not_asked : (p : OpenLoad) → slice_get h.imports.loads s ≡ Some (Open p.0 p.1) → slice_get h.imports.loads s ≡ Some Asked → ⊥
      not_asked p a b = let z : Some (Open p.0 p.1) ≡ Some Asked = sym a ∙ b in cc

      on : (r : ℕ) → (slice_get h.imports.loads s ≡ Some Asked) ⊎ IsSettled h.promises r → (slice_get l.loads s ≡ Some Asked) ⊎ IsSettled (settle_load (with_loading h l) s).promises r
      on r (inl a) = absurd (not_asked is.0 is.1 a)
      on r (inr a) = inr ((settle_load_goes (with_loading h l) (slice_get l.purposes s) (slice_get l.loads s)).settled r a)

  pub next_followed : (before after : Host) → IsOrderly before.imports → before.imports.stopped ≡ None → OwesPromises before → AreToldOf before.imports before.promises → F before.imports before.promises → AnswersNext before after → F after.imports after.promises
  next_followed before after o stop w t f q = by q.who.pending_request refl
    where
      without : Host
      without = without_next before q.who

      k : AreToldOf (without_next before q.who).imports before.promises
      k = (unchanged before.imports (without_next before q.who).imports before.promises refl refl t).told

      g : F (without_next before q.who).imports before.promises
      g = same_followed before.imports (without_next before q.who).imports before.promises refl refl f

      orderly : IsOrderly (without_next before q.who).imports
      orderly = without_orderly before q.who q.is_next o

      same : (r : PendingRequest) → q.who.pending_request ≡ r → Answered (without_next before q.who) r q.who.url q.who.entry after
      same r e = subst (λ r. Answered (without_next before q.who) r q.who.url q.who.entry after) e q.answered

      by : (r : PendingRequest) → q.who.pending_request ≡ r → F after.imports after.promises
      by (Root s) e = root_followed {h = without_next before q.who} orderly (root_stage before q.who s stop o e q.is_next w).going k g (same (Root s) e)
      by (Request s x i) e = request_followed {h = without_next before q.who} orderly k g (same (Request s x i) e)

  -- ---- an import()

  added_followed : (h : Host) (promise : ℕ) → length h.imports.purposes ≡ length h.imports.loads → F h.imports h.promises → F (add_load (counted h) promise).imports h.promises
  added_followed h promise sizes f = record {
    going = λ k q p e n. f.going k q p (old k (ForImport q (Some p)) (λ z. cc) e) n;
    asked = λ k q e n. by_asked k q e n (equal_cases k (length h.imports.purposes));
    ended = λ k p state o e d n. by_ended k p state o e d n (equal_cases k (length h.imports.purposes));
  }
    where
      own : slice_get (add_load (counted h) promise).imports.purposes (length h.imports.purposes) ≡ Some (ForImport promise None)
      own = push_own h.imports.purposes (ForImport promise None)

      old : (k : ℕ) (purpose : Purpose) → (purpose ≡ ForImport promise None → ⊥) → slice_get (add_load (counted h) promise).imports.purposes k ≡ Some purpose → slice_get h.imports.purposes k ≡ Some purpose
      old k purpose apart e = by (equal_cases k (length h.imports.purposes))
        where
          by : (k ≡ length h.imports.purposes) ⊎ (k ≡ length h.imports.purposes → ⊥) → slice_get h.imports.purposes k ≡ Some purpose
          by (inl d) = absurd (apart (some_is (sym e ∙ ap (slice_get (add_load (counted h) promise).imports.purposes) d ∙ own)))
          by (inr n) = sym (push_other h.imports.purposes (ForImport promise None) k n) ∙ e

      away : (k : ℕ) → (k ≡ length h.imports.purposes → ⊥) → k ≡ length h.imports.loads → ⊥
      away k n e = n (e ∙ sym sizes)

      lat : (k : ℕ) → (k ≡ length h.imports.purposes → ⊥) → slice_get (add_load (counted h) promise).imports.loads k ≡ slice_get h.imports.loads k
      lat k n = push_other h.imports.loads Asked k (away k n)

      on : (k q : ℕ) → (k ≡ length h.imports.purposes → ⊥) → (slice_get h.imports.loads k ≡ Some Asked) ⊎ IsSettled h.promises q → (slice_get (add_load (counted h) promise).imports.loads k ≡ Some Asked) ⊎ IsSettled h.promises q
      on k q n (inl a) = inl (lat k n ∙ a)
      on k q n (inr a) = inr a

      by_asked : (k q : ℕ) → slice_get (add_load (counted h) promise).imports.purposes k ≡ Some (ForImport q None) → (None ≡ Some k → ⊥) → (k ≡ length h.imports.purposes) ⊎ (k ≡ length h.imports.purposes → ⊥) → (slice_get (add_load (counted h) promise).imports.loads k ≡ Some Asked) ⊎ IsSettled h.promises q
      by_asked k q e n (inl d) = inl (ap (slice_get (add_load (counted h) promise).imports.loads) (d ∙ sizes) ∙ push_own h.imports.loads Asked)
      by_asked k q e n (inr d) = on k q d (f.asked k q (sym (push_other h.imports.purposes (ForImport promise None) k d) ∙ e) n)

      none_own : (p : ℕ) → load_promise (add_load (counted h) promise).imports (length h.imports.purposes) Own ≡ Some p → ⊥
      none_own p o = let z : None ≡ Some p = sym (ap own_promise_in own) ∙ o in cc

      by_ended : (k p : ℕ) (state : LoadState) → load_promise (add_load (counted h) promise).imports k Own ≡ Some p → slice_get (add_load (counted h) promise).imports.loads k ≡ Some state → HasEnded state → (None ≡ Some k → ⊥) → (k ≡ length h.imports.purposes) ⊎ (k ≡ length h.imports.purposes → ⊥) → IsSettled h.promises p
      by_ended k p state o e d n (inl c) = absurd (none_own p (subst (λ x. load_promise (add_load (counted h) promise).imports x Own ≡ Some p) c o))
      by_ended k p state o e d n (inr c) = f.ended k p state (sym (ap own_promise_in (push_other h.imports.purposes (ForImport promise None) k c)) ∙ o) (sym (lat k c) ∙ e) d n

  pub imports_followed : {h k : Host} {referrer : Url} {specifier : Text} {promise : ℕ} → IsOrderly h.imports → length h.imports.purposes ≡ length h.imports.loads → AreToldOf (add_load (counted h) promise).imports h.promises → F h.imports h.promises → Imports h referrer specifier promise k → F k.imports k.promises
  imports_followed {h} {k} o sizes t f (Imports.limit full) = same_followed h.imports k.imports h.promises refl refl f
  imports_followed {h} {k} {promise = promise} o sizes t f (Imports.unresolved fault room r) = goes_followed k.imports (settle_goes h.promises promise _) (same_followed h.imports k.imports h.promises refl refl f)
  imports_followed {h} {k} {promise = promise} o sizes t f (Imports.asks u room r n) =
      let l = (add_load (counted h) promise).imports in
      let same = ask_purposes (has l.asked u) (nat_lt (length l.asked) MAX_URLS) l u (Root (next_load h)) in
      same_followed l k.imports h.promises same.0 same.1 (added_followed h promise sizes f)
  imports_followed {h} {k} {promise = promise} o sizes t f (Imports.answers u e room r g q) =
      root_followed {h = add_load (counted h) promise} (record { once = o.once; few = o.few; fetched = o.fetched; waits = o.waits }) (ap owes (push_own h.imports.loads Asked)) t (added_followed h promise sizes f) q
