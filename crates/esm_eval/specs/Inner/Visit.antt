-- What a visit amid a walk of evaluation does.
use Rattle.std.specs.Prelude.{◌≡◌, ◌≤◌, ◌⊎◌, ℕ, Bool, true, false, nat_eq, List, [], ◌∷◌, ◌++◌, length, slice_get, drop, Some, Result, Ok, Err}
use Rattle.esm_base.specs.Lists.{is_in}
use Rattle.esm_realm.specs.Walk.{Mark, Enter, Visits, Passes}
use Rattle.esm_realm.specs.Places.{Low, Lowest}
use Rattle.esm_values.specs.Code.{CodeValue, value_of}
use Rattle.esm_eval.specs.Evaluate.{WalkEnd, Ends, Throws, Stops, Marks, Leaves, fail}
use Rattle.esm_eval.specs.Calls.{CodeEvaluation, CodeCalls, numbered}
use Rattle.esm_eval.specs.WalkSteps.{Keeps, is_entered}
use Rattle.esm_eval.specs.declared.walk.EvalEnd.{EvalEnd}
use Rattle.esm_eval.specs.declared.walk.EvalEnd.TheVariants as ends
use Rattle.esm_eval.specs.declared.walk.Cut.{Cut}
use Rattle.esm_eval.specs.declared.walk.Cut.TheVariants as cuts

-- the place of x among these, or one past all where it is none of them
abbrev pub IsPlace : List ℕ → ℕ → ℕ → Type 0
IsPlace opened x k =
    ((slice_get opened k ≡ Some x) × ((j : ℕ) → slice_get opened j ≡ Some x → k ≤ j))
    ⊎ ((length opened ≤ k) × (is_in nat_eq opened x ≡ false))

module _ {W : Type 0} (E : CodeEvaluation W) where
  -- what no evaluation has entered hasn't begun
  abbrev pub Unbegun : W → Type 0
  Unbegun w = (y : ℕ) → is_entered E w y ≡ false → E.begun w y ≡ false

  -- from w to v no bodies have begun but those of modules that were entered meanwhile
  pub record BeginsNew (w v : W) : Type 0 where
    pub unbegun : Unbegun v
    pub still : (y : ℕ) → is_entered E w y ≡ true → E.begun w y ≡ false → E.begun v y ≡ false

module _ {W : Type 0} (E : CodeEvaluation W) where
  -- these modules fail with an error, but where memory ran out
  abbrev pub ThrowsBy : {S : Type 0} → W → List ℕ → CodeValue → Result (Unit {0}) (Cut S) → W → Type 0
  ThrowsBy w opened u (Ok t) v = ⊥
  ThrowsBy w opened u (Err (cuts.Thrown e)) v = (value_of e ≡ u) × (v ≡ fail (numbered E) w u opened)
  ThrowsBy w opened u (Err (cuts.Stopped why)) v = ⊥
  ThrowsBy w opened u (Err cuts.Memory) v = Unit {0}

abbrev pub cut_of : {S : Type 0} → EvalEnd S → Cut S
cut_of (ends.Stopped why) = cuts.Stopped why
cut_of ends.Memory = cuts.Memory

module _ {W : Type 0} (E : CodeEvaluation W) (linked : W → ℕ → Bool) (left : W → ℕ) where
  module _ {S : Type 0} (acts : CodeCalls W S) where
    abbrev pub Walking : (ℕ → List ℕ) → W → List ℕ → List (Mark ℕ) → WalkEnd CodeValue S → W → Type 0
    Walking to w opened ms end after = Marks (numbered E) acts to w opened ms end after

    -- x is left, which waits for nothing and awaits
    abbrev pub LeavesAsync : W → ℕ → Result (Unit {0}) (EvalEnd S) → W → Type 0
    LeavesAsync w x (Ok u) v = Leaves (numbered E) acts w x Ends v × Keeps E linked left w v
    LeavesAsync w x (Err (ends.Stopped why)) v = Leaves (numbered E) acts w x (Stops why) v
    LeavesAsync w x (Err ends.Memory) v = Unit {0}

    -- a place amid a walk over these modules
    pub record Amid (to : ℕ → List ℕ) (modules : List ℕ) (seen opened : List ℕ) (w : W) : Type 0 where
      pub short : (y : ℕ) → is_in nat_eq modules y ≡ true → linked w y ≡ true
      pub whole : (y t : ℕ) → is_in nat_eq modules y ≡ true → is_in nat_eq (to y) t ≡ true → is_in nat_eq modules t ≡ true
      pub graph : (y : ℕ) → is_in nat_eq modules y ≡ true → E.targets w y ≡ to y
      pub phases : (y : ℕ) → is_in nat_eq seen y ≡ is_entered E w y
      pub entered : (y : ℕ) → is_in nat_eq opened y ≡ true → is_in nat_eq seen y ≡ true

    pub record Landed (to : ℕ → List ℕ) (modules : List ℕ) (w : W) (opened : List ℕ) (x : ℕ) (marks : List (Mark ℕ)) (seen' : List ℕ)
        (low : ℕ) (v : W) (opened' : List ℕ) : Type 0 where
      pub added : List ℕ
      pub now_is : opened' ≡ opened ++ added
      pub stands : opened ≡ [] → added ≡ []
      pub amid : Amid to modules seen' opened' v
      pub low_is : Low to opened added x low
      pub leads : (ms : List (Mark ℕ)) (end : WalkEnd CodeValue S) (after : W) → Walking to v opened' ms end after
          → Walking to w opened (marks ++ ms) end after

    abbrev pub VisitingBy : (ℕ → List ℕ) → List ℕ → W → List ℕ → ℕ → List (Mark ℕ) → List ℕ → Result ℕ (Cut S) → W → List ℕ → Type 0
    VisitingBy to modules w opened x marks seen' (Ok low) v opened' = Landed to modules w opened x marks seen' low v opened'
    VisitingBy to modules w opened x marks seen' (Err (cuts.Thrown e)) v opened' =
        (ms : List (Mark ℕ)) → Walking to w opened (marks ++ ms) (Throws (value_of e)) v
    VisitingBy to modules w opened x marks seen' (Err (cuts.Stopped why)) v opened' =
        (ms : List (Mark ℕ)) → Walking to w opened (marks ++ ms) (Stops why) v
    VisitingBy to modules w opened x marks seen' (Err cuts.Memory) v opened' = Unit {0}

    -- for every walk that a visit of x is amid
    abbrev pub Visiting : W → List ℕ → ℕ → Result ℕ (Cut S) → W → List ℕ → Type 0
    Visiting w opened x r v opened' = (to : ℕ → List ℕ) (modules : List ℕ) (seen : List ℕ)
        → Amid to modules seen opened w → is_in nat_eq modules x ≡ true
        → (marks : List (Mark ℕ)) (seen' : List ℕ) → Visits nat_eq to seen x marks seen'
        → VisitingBy to modules w opened x marks seen' r v opened'

    -- amid the loop over the targets of x
    pub record Passed (to : ℕ → List ℕ) (modules : List ℕ) (w : W) (opened : List ℕ) (x : ℕ) (inner : List (Mark ℕ)) (seen' : List ℕ)
        (now : W) (open_now : List ℕ) (i low : ℕ) : Type 0 where
      pub members : List ℕ
      pub seen_now : List ℕ
      pub rest : List (Mark ℕ)
      pub now_is : open_now ≡ opened ++ x ∷ members
      pub amid : Amid to modules seen_now open_now now
      pub remains : Passes nat_eq to seen_now x i (drop i (to x)) rest seen'
      pub lowest : Lowest to opened members x i low
      pub leads : (ms : List (Mark ℕ)) (end : WalkEnd CodeValue S) (after : W) → Walking to now open_now (rest ++ ms) end after
          → Walking to w opened (Enter x ∷ (inner ++ ms)) end after

    abbrev pub Passing : W → List ℕ → ℕ → W → List ℕ → ℕ → ℕ → Type 0
    Passing w opened x now open_now i low = (to : ℕ → List ℕ) (modules : List ℕ) (seen : List ℕ)
        → Amid to modules seen opened w → is_in nat_eq modules x ≡ true
        → (inner : List (Mark ℕ)) (seen' : List ℕ) → Passes nat_eq to (x ∷ seen) x 0 (to x) inner seen'
        → Passed to modules w opened x inner seen' now open_now i low
