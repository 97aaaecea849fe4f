-- What is done to promises follows the names of modules.
use Rattle.std.proofs.Common.{◌≡◌, ℕ, zero, suc, List, [], ◌∷◌, ◌++◌, map, refl, ap, sym, ◌∙◌, Option, Some, None, slice_get, slice_set, length}
use Rattle.std.specs.Option.{option_map}
use Rattle.std.proofs.lemmas.List.{map-append}
use Rattle.std.proofs.lemmas.Option.{slice_get-map}
use Rattle.esm_values.specs.Value.{Value}
use Rattle.esm_promise.specs.Reactions.{Reaction}
use Rattle.esm_promise.specs.Promises.{Promise, Pending, Done, Job, job, Settled, Promises, first_job, register, register_by, settle, settled_by, triggered, is_pending_by}
use Rattle.esm_promise.specs.Renaming.{renamed_reaction, renamed_settled, renamed_promise, renamed_job, renamed, renamed_taken, FollowsNames}

longer : {A B : Type 0} (f : A → B) (xs : List A) → length (map f xs) ≡ length xs
longer f [] = refl
longer f (x ∷ xs) = ap suc (longer f xs)

set_there : {A B : Type 0} (f : A → B) (xs : List A) (i : ℕ) (x : A) → map f (slice_set xs i x) ≡ slice_set (map f xs) i (f x)
set_there f [] i x = refl
set_there f (y ∷ ys) zero x = refl
set_there f (y ∷ ys) (suc i) x = ap (λ zs. f y ∷ zs) (set_there f ys i x)

twice : {A B C : Type 0} (f : A → B) (g : B → C) (xs : List A) → map g (map f xs) ≡ map (λ x. g (f x)) xs
twice f g [] = refl
twice f g (x ∷ xs) = ap (λ ys. g (f x) ∷ ys) (twice f g xs)

module _ {M N : Type 0} (name : M → N) where
  abbrev Before : Type 0
  Before = Promises (Reaction M) (Value M)

  jobs_follow : (p : ℕ) (rs : List (Reaction M)) → map (renamed_job name) (map (job p) rs) ≡ map (job p) (map (renamed_reaction name) rs)
  jobs_follow p [] = refl
  jobs_follow p (r ∷ rs) = ap (λ js. job p (renamed_reaction name r) ∷ js) (jobs_follow p rs)

  triggers : (p : ℕ) (o : Option (Promise (Reaction M) (Value M))) → map (renamed_job name) (triggered p o) ≡ triggered p (option_map (renamed_promise name) o)
  triggers p None = refl
  triggers p (Some (Pending rs)) = jobs_follow p rs
  triggers p (Some (Done how)) = refl

  registers_by : (ps : Before) (p : ℕ) (r : Reaction M) (o : Option (Promise (Reaction M) (Value M)))
      → renamed name (register_by o ps p r) ≡ register_by (option_map (renamed_promise name) o) (renamed name ps) p (renamed_reaction name r)
  registers_by ps p r None = refl
  registers_by ps p r (Some (Pending rs)) =
      ap (λ all. record { all = all; jobs = map (renamed_job name) ps.jobs })
      (set_there (renamed_promise name) ps.all p _ ∙ ap (λ rs. slice_set (map (renamed_promise name) ps.all) p (Pending rs)) (map-append (renamed_reaction name) rs (r ∷ [])))
  registers_by ps p r (Some (Done how)) =
      ap (λ jobs. record { all = map (renamed_promise name) ps.all; jobs = jobs }) (map-append (renamed_job name) ps.jobs _)

  registers : (ps : Before) (p : ℕ) (r : Reaction M) → renamed name (register ps p r) ≡ register (renamed name ps) p (renamed_reaction name r)
  registers ps p r = rw slice_get-map (registers_by ps p r (slice_get ps.all p))

  settle_follows : (ps : Before) (p : ℕ) (how : Settled (Value M)) → renamed name (settle ps p how) ≡ settle (renamed name ps) p (renamed_settled name how)
  settle_follows ps p how =
      let jobs : map (renamed_job name) (ps.jobs ++ triggered p (slice_get ps.all p)) ≡ map (renamed_job name) ps.jobs ++ triggered p (slice_get (map (renamed_promise name) ps.all) p) =
      map-append (renamed_job name) ps.jobs _ ∙ ap (λ js. map (renamed_job name) ps.jobs ++ js) (triggers p (slice_get ps.all p) ∙ ap (triggered p) (sym (slice_get-map (renamed_promise name) ps.all p))) in
      ap (λ all. record { all = all; jobs = map (renamed_job name) (ps.jobs ++ triggered p (slice_get ps.all p)) }) (set_there (renamed_promise name) ps.all p (Done how))
      ∙ ap (λ js. record { all = slice_set (map (renamed_promise name) ps.all) p (Done (renamed_settled name how)); jobs = js }) jobs

  takes : (ps : Before) (js : List (Job (Reaction M))) → first_job (map (renamed_job name) js) (renamed name ps) ≡ option_map (renamed_taken name) (first_job js ps)
  takes ps [] = refl
  takes ps (j ∷ js) = refl

  settled_follows : (o : Option (Promise (Reaction M) (Value M))) → settled_by (option_map (renamed_promise name) o) ≡ option_map (renamed_settled name) (settled_by o)
  settled_follows None = refl
  settled_follows (Some (Pending rs)) = refl
  settled_follows (Some (Done how)) = refl

  pending_follows : (o : Option (Promise (Reaction M) (Value M))) → is_pending_by (option_map (renamed_promise name) o) ≡ is_pending_by o
  pending_follows None = refl
  pending_follows (Some (Pending rs)) = refl
  pending_follows (Some (Done how)) = refl

  pub follows_names : FollowsNames name
  follows_names = record {
    none = refl;
    next = λ ps. longer (renamed_promise name) ps.all;
    makes = λ ps rs. ap (λ all. record { all = all; jobs = map (renamed_job name) ps.jobs }) (map-append (renamed_promise name) ps.all _);
    makes_fulfilled = λ ps v. ap (λ all. record { all = all; jobs = map (renamed_job name) ps.jobs }) (map-append (renamed_promise name) ps.all _);
    registers = registers;
    settles = settle_follows;
    takes = λ ps. takes ps ps.jobs;
    is_settled = λ ps p. rw slice_get-map (settled_follows (slice_get ps.all p));
    pending = λ ps p. rw slice_get-map (pending_follows (slice_get ps.all p));
  }
