-- Promises whose modules are renamed, and renamed back.
use Rattle.std.proofs.Common.{◌≡◌, List, [], ◌∷◌, map, refl, ap, sym, ◌∙◌}
use Rattle.esm_values.specs.Value.{Value, Undefined, Truth, Text, Func, Error, Namespace, Promise}
use Rattle.esm_values.specs.Naming.{renamed_value}
use Rattle.esm_promise.specs.Promises as promise
use Rattle.esm_promise.specs.Promises.{Settled, Fulfilled, Rejected, Pending, Done, Promises, Job, job, register, make_fulfilled, next_promise}
use Rattle.esm_promise.specs.Reactions.{Reaction, Await, BodyEnd, Loaded, Evaluated, EntryLoaded, EntryDone}
use Rattle.esm_promise.specs.Renaming.{renamed_reaction, renamed_settled, renamed_promise, renamed_job, renamed}
use Rattle.esm_promise.proofs.Renamed.{follows_names}
use Rattle.esm_rewriting.specs.Bodies.{await_on}

back : {A B : Type 0} (f : A → B) (g : B → A) → ((x : A) → g (f x) ≡ x) → (xs : List A) → map g (map f xs) ≡ xs
back f g h [] = refl
back f g h (x ∷ xs) = λ i. h x i ∷ back f g h xs i

module _ {M N : Type 0} (f : M → N) (g : N → M) (h : (m : M) → g (f m) ≡ m) where
  pub value_back : (v : Value M) → renamed_value g (renamed_value f v) ≡ v
  value_back Undefined = refl
  value_back (Truth b) = refl
  value_back (Text t) = refl
  value_back (Func m i) = ap (λ n. Func n i) (h m)
  value_back (Error e) = refl
  value_back (Namespace m) = ap (λ n. Namespace n) (h m)
  value_back (Promise p) = refl

  reaction_back : (r : Reaction M) → renamed_reaction g (renamed_reaction f r) ≡ r
  reaction_back (Await m) = ap (λ n. Await n) (h m)
  reaction_back (BodyEnd m) = ap (λ n. BodyEnd n) (h m)
  reaction_back (Loaded load) = refl
  reaction_back (Evaluated load) = refl
  reaction_back EntryLoaded = refl
  reaction_back EntryDone = refl

  settled_back : (how : Settled (Value M)) → renamed_settled g (renamed_settled f how) ≡ how
  settled_back (Fulfilled v) = ap (λ u. Fulfilled u) (value_back v)
  settled_back (Rejected v) = ap (λ u. Rejected u) (value_back v)

  promise_back : (p : promise.Promise (Reaction M) (Value M)) → renamed_promise g (renamed_promise f p) ≡ p
  promise_back (Pending rs) = ap (λ qs. Pending qs) (back (renamed_reaction f) (renamed_reaction g) reaction_back rs)
  promise_back (Done how) = ap (λ k. Done k) (settled_back how)

  job_back : (j : Job (Reaction M)) → renamed_job g (renamed_job f j) ≡ j
  job_back j = ap (job j.promise) (reaction_back j.reaction)

  pub promises_back : (ps : Promises (Reaction M) (Value M)) → renamed g (renamed f ps) ≡ ps
  promises_back ps = λ i. record {
    all = back (renamed_promise f) (renamed_promise g) promise_back ps.all i;
    jobs = back (renamed_job f) (renamed_job g) job_back ps.jobs i;
  }

  -- what is the same renamed is the same
  pub renamed_apart : (ps qs : Promises (Reaction M) (Value M)) → renamed f ps ≡ renamed f qs → ps ≡ qs
  renamed_apart ps qs e = sym (promises_back ps) ∙ ap (renamed g) e ∙ promises_back qs

-- ---- what is awaited

module _ {M N : Type 0} (f : M → N) where
  abbrev Ps : Type 0
  Ps = Promises (Reaction M) (Value M)

  awaits_new : (ps : Ps) (v : Value M) (m : M) → renamed f (register (make_fulfilled ps v) (next_promise ps) (Await m))
      ≡ register (make_fulfilled (renamed f ps) (renamed_value f v)) (next_promise (renamed f ps)) (Await (f m))
  awaits_new ps v m =
      (follows_names f).registers (make_fulfilled ps v) (next_promise ps) (Await m)
      ∙ (λ i. register ((follows_names f).makes_fulfilled ps v i) (sym ((follows_names f).next ps) i) (Await (f m)))

  pub awaits : (ps : Ps) (v : Value M) (m : M) → renamed f (await_on ps v m) ≡ await_on (renamed f ps) (renamed_value f v) (f m)
  awaits ps Undefined m = awaits_new ps Undefined m
  awaits ps (Truth b) m = awaits_new ps (Truth b) m
  awaits ps (Text u) m = awaits_new ps (Text u) m
  awaits ps (Func n i) m = awaits_new ps (Func n i) m
  awaits ps (Error e) m = awaits_new ps (Error e) m
  awaits ps (Namespace n) m = awaits_new ps (Namespace n) m
  awaits ps (Promise p) m = (follows_names f).registers ps p (Await m)
