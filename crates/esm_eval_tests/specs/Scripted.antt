-- Bodies for tests: a call for a body notes its module, and changes nothing else.
use Rattle.std.proofs.Common.{◌≡◌, ℕ, zero, suc, Bool, true, false, List, [], ◌∷◌, ◌++◌, ap, subst, sym, inl, inr, nat_eq, eqb-true, eq-eqb, refl}
use Rattle.std.specs.Prelude.{◌⊎◌, nat_lt, length, map, slice_get, if◌then◌else◌}
use Rattle.std.specs.List.{list_any}
use Rattle.std.specs.Option.{option_map_or}
use Rattle.esm_realm.proofs.Lists.{either}
use Rattle.esm_realm.proofs.Urls.{or_cases, or_left, or_true}
use Rattle.esm_eval.specs.Nodes.{module_of}
use Rattle.esm_eval.specs.Table.{Table, no_nodes, with_one}
use Rattle.esm_eval.specs.Begins.{HaveBegunOnce}
use Rattle.esm_eval.specs.Calls.{CodeCalls}
use Rattle.esm_eval.specs.Host.{BeginsItsOwn, HostFits, LeavesModules, Outside, StaysFit, evaluation}
use Rattle.esm_eval.specs.declared.host.EvalHost.{EvalHost}

-- m is noted
abbrev pub noted : List ℕ → ℕ → Bool
noted order m = list_any (λ y. nat_eq y m) order

noted_stays : (order : List ℕ) (m x : ℕ) → noted order x ≡ true → noted (order ++ m ∷ []) x ≡ true
noted_stays [] m x h = let e : false ≡ true = h in absurd cc
noted_stays (y ∷ ys) m x h = either (or_cases (nat_eq y x) (noted ys x) h)
    (λ e. or_left (nat_eq y x) (noted (ys ++ m ∷ []) x) e)
    (λ k. or_true (nat_eq y x) (noted (ys ++ m ∷ []) x) (noted_stays ys m x k))

noted_starts : (order : List ℕ) (m : ℕ) → noted (order ++ m ∷ []) m ≡ true
noted_starts [] m = or_left (nat_eq m m) false (eq-eqb m m refl)
noted_starts (y ∷ ys) m = or_true (nat_eq y m) (noted (ys ++ m ∷ []) m) (noted_starts ys m)

noted_one : (order : List ℕ) (m x : ℕ) → noted (order ++ m ∷ []) x ≡ true → (noted order x ≡ true) ⊎ (x ≡ m)
noted_one [] m x h = either (or_cases (nat_eq m x) false h) (λ e. inr (sym (eqb-true m x e))) (λ k. absurd (let e : false ≡ true = k in cc))
noted_one (y ∷ ys) m x h = either (or_cases (nat_eq y x) (noted (ys ++ m ∷ []) x) h)
    (λ e. inl (or_left (nat_eq y x) (noted ys x) e))
    (λ k. either (noted_one ys m x k) (λ o. inl (or_true (nat_eq y x) (noted ys x) o)) (λ e. inr e))

-- a target, or the module itself where there is no such module
abbrev pub among : ℕ → ℕ → ℕ → ℕ
among count x t = if nat_lt t count then t else x

-- so many nodes, in which nothing is written
abbrev pub blanks : ℕ → Table
blanks zero = no_nodes
blanks (suc n) = with_one (blanks n)

pub record IsBlank (count : ℕ) (t : Table) : Type 0 where
  pub is : t ≡ blanks count

-- there is a row for x
abbrev pub is_row : {R : Type 0} → List R → ℕ → Bool
is_row rows x = nat_lt x (length rows)

-- the targets of x, where a row has such targets
abbrev pub targets_in : {R : Type 0} → (R → List ℕ) → List R → ℕ → List ℕ
targets_in targets_of rows x = option_map_or (λ r. map (among (length rows) x) (targets_of r)) (slice_get rows x) []

-- whether x awaits, where a row says so
abbrev pub awaits_in : {R : Type 0} → (R → Bool) → List R → ℕ → Bool
awaits_in awaits_of rows x = option_map_or awaits_of (slice_get rows x) false

-- rows of all modules, and the modules that are noted, in order; all values are known, and everything fits
module _ {B R : Type 0} (rows : B → List R) (order : B → List ℕ) (targets_of : R → List ℕ) (awaits_of : R → Bool) where
  pub record Notes (w v : Outside B) (m : ℕ) : Type 0 where
    pub same : rows v.bodies ≡ rows w.bodies
    pub last : order v.bodies ≡ order w.bodies ++ m ∷ []

  -- evaluation may go on
  pub record MayGoOn (w : EvalHost B) : Type 0 where
    pub fits : HostFits (λ o. Unit {0}) (λ b. is_row (rows b)) (λ b v. Unit {0}) w
    pub between :
        HaveBegunOnce (evaluation (λ b. targets_in targets_of (rows b)) (λ b. awaits_in awaits_of (rows b)) (λ b. noted (order b))) w

  pub stays_fit : StaysFit (λ (o : Outside B). Unit {0}) (λ b. is_row (rows b)) (λ b v. Unit {0})
  stays_fit = record {
    makes = λ w f. tt;
    makes_end = λ w m f l. tt;
    fulfills = λ w p f. tt;
    rejects = λ w p v f k. tt;
  }

  module _ (S : Type 0) where
    abbrev pub Acts : CodeCalls (Outside B) S
    Acts w c r v = Notes w v (module_of c)

    pub begins_its_own : BeginsItsOwn Acts (λ b. noted (order b))
    begins_its_own = record {
      stays = λ w v c r a x h. subst (λ l. noted l x ≡ true) (sym a.last) (noted_stays (order w.bodies) (module_of c) x h);
      starts = λ w v c r a. subst (λ l. noted l (module_of c) ≡ true) (sym a.last) (noted_starts (order w.bodies) (module_of c));
      one = λ w v c r a x h. noted_one (order w.bodies) (module_of c) x (subst (λ l. noted l x ≡ true) a.last h);
    }

    pub leaves_modules : LeavesModules Acts (λ b. is_row (rows b)) (λ b. targets_in targets_of (rows b)) (λ b. awaits_in awaits_of (rows b))
        (λ b v. Unit {0})
    leaves_modules = record {
      links = λ w v c r a x. ap (λ l. is_row l x) a.same;
      leads = λ w v c r a x h. ap (λ l. targets_in targets_of l x) a.same;
      waits = λ w v c r a x. ap (λ l. awaits_in awaits_of l x) a.same;
      still = λ w v c r a u k. tt;
    }
