-- Promises that are made are there; jobs are added at the end, and taken from the front.
use Rattle.std.proofs.Common.{◌≡◌, ℕ, zero, suc, List, [], ◌∷◌, ◌++◌, length, slice_get, slice_set, refl, ap, ◌∙◌}
use Rattle.std.specs.Prelude.{Some}
use Rattle.esm_values.specs.Value.{Value}
use Rattle.esm_promise.specs.Reactions.{Reaction}
use Rattle.esm_promise.specs.Promises.{Promise, Pending, Done, Fulfilled, register_by, triggered, first_job, settled_by}
use Rattle.esm_promise.specs.Laws.{MadePending, JobsAreInOrder}

abbrev Row : Type 0
Row = Promise (Reaction ℕ) (Value ℕ)

-- what is added is there
at_end : (xs : List Row) (x : Row) → slice_get (xs ++ x ∷ []) (length xs) ≡ Some x
at_end [] x = refl
at_end (y ∷ ys) x = at_end ys x

-- what changes is as it was set
set_at : (xs : List Row) (p : ℕ) (x y : Row) → slice_get xs p ≡ Some y → slice_get (slice_set xs p x) p ≡ Some x
set_at [] p x y e = cc
set_at (z ∷ zs) zero x y e = refl
set_at (z ∷ zs) (suc p) x y e = set_at zs p x y e

pub made_pending : MadePending
made_pending = record {
  made = λ ps rs. at_end ps.all (Pending rs);
  fulfilled = λ ps v. ap settled_by (at_end ps.all (Done (Fulfilled v)));
  no_job = λ ps rs. refl;
  fulfilled_no_job = λ ps v. refl;
}

pub jobs_are_in_order : JobsAreInOrder
jobs_are_in_order = record {
  waits = λ ps p rs r e. ap (λ o. slice_get (register_by o ps p r).all p) e ∙ set_at ps.all p (Pending (rs ++ r ∷ [])) (Pending rs) e;
  pending = λ ps p rs r e. ap (λ o. (register_by o ps p r).jobs) e;
  at_once = λ ps p how r e. ap (λ o. (register_by o ps p r).jobs) e;
  settles = λ ps p rs how e. ap (λ o. ps.jobs ++ triggered p o) e;
  next = λ ps j js e. ap (λ jobs. first_job jobs ps) e;
  no_next = λ ps e. ap (λ jobs. first_job jobs ps) e;
}
