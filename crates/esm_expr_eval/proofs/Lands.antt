-- What a rewriting comes to, in a world in which each call is answered: each value is known, and what remains gets
-- smaller.
use Rattle.std.proofs.Common.{◌≡◌, ℕ, suc, ◌+◌, ◌<◌, Bool, List, [], ◌∷◌}
use Rattle.std.specs.Prelude.{Ok, Err, ⊤}
use Rattle.esm_values.specs.Acts.{Act, AnswerTo}
use Rattle.esm_values.specs.Acts.{Act as act}
use Rattle.esm_values.specs.Completion.{Completion, Normal, Throw}
use Rattle.esm_values.specs.Plans.{Acting, Rewritten, inside, Plan, Follows}
use Rattle.esm_values.specs.Plans.Rewritten.{Goes, Leaves, Calls, Stops}
use Rattle.esm_values.specs.Plans.Plan.{Ends, Asks}
use Rattle.esm_values.specs.Plans.Follows.{ends, asks, stops}
use Rattle.esm_values.specs.Operators.{Values}
use Rattle.esm_values.specs.Operators.Look.{Func}

abbrev pub AllKnown : {V : Type 0} → (V → Type 0) → List V → Type 0
AllKnown P [] = ⊤
AllKnown P (v ∷ vs) = P v × AllKnown P vs

abbrev pub KnowsCompletion : {V : Type 0} → (V → Type 0) → Completion V → Type 0
KnowsCompletion P (Normal v) = P v
KnowsCompletion P (Throw v) = P v

-- the values that a call is given
abbrev pub KnowsAct : {V : Type 0} → (V → Type 0) → Act V → Type 0
KnowsAct P (act.Read x) = ⊤
KnowsAct P (act.Member v x) = P v
KnowsAct P (act.Display v) = P v
KnowsAct P (act.Print vs) = AllKnown P vs
KnowsAct P (act.Fault kind message) = ⊤
KnowsAct P (act.Step n) = ⊤
KnowsAct P (act.Import v) = P v

-- the values that it answers
abbrev pub KnowsAnswer : {V : Type 0} → (V → Type 0) → (a : Act V) → AnswerTo a → Type 0
KnowsAnswer P (act.Read x) r = KnowsCompletion P r
KnowsAnswer P (act.Member v x) r = KnowsCompletion P r
KnowsAnswer P (act.Display v) r = ⊤
KnowsAnswer P (act.Print vs) r = ⊤
KnowsAnswer P (act.Fault kind message) r = P r
KnowsAnswer P (act.Step n) r = ⊤
KnowsAnswer P (act.Import v) r = P r

-- the steps that it takes
abbrev pub cost : {V : Type 0} → Act V → ℕ
cost (act.Step n) = n
cost (act.Read x) = 0
cost (act.Member v x) = 0
cost (act.Display v) = 0
cost (act.Print vs) = 0
cost (act.Fault kind message) = 0
cost (act.Import v) = 0

-- which worlds are meant, which values are known in them, and how many steps are taken from one to another
pub record Views (W V : Type 0) : Type 1 where
  pub Fits : W → Type 0
  pub Knows : W → V → Type 0
  pub Took : W → ℕ → W → Type 0
  -- what a call that stops leaves
  pub Halts : W → W → Type 0

module _ {W V : Type 0} (view : Views W V) where
  pub record Later (w : W) (n : ℕ) (after : W) : Type 0 where
    pub fits : view.Fits after
    pub keeps : (v : V) → view.Knows w v → view.Knows after v
    pub took : view.Took w n after

  module _ {S : Type 0} (acts : Acting W V S) where
    pub data HasAnswer (w : W) (a : Act V) : Type 0 where
      answers : (r : AnswerTo a) (after : W) → acts w a (Ok r) after → Later w (cost a) after → KnowsAnswer (view.Knows after) a r → HasAnswer w a
      stopped : (why : S) (after : W) → acts w a (Err why) after → view.Halts w after → HasAnswer w a

    -- each call is answered
    pub record Lives (values : Values V) : Type 0 where
      pub answered : (w : W) (a : Act V) → view.Fits w → KnowsAct (view.Knows w) a → HasAnswer w a
      pub undefined : (w : W) → view.Knows w values.undefined
      pub truth : (w : W) (b : Bool) → view.Knows w (values.truth b)
      pub text : (w : W) (t : List ℕ) → view.Knows w (values.text t)
      pub none : (w : W) → view.Took w 0 w
      pub halts : {w mid after : W} {n : ℕ} → Later w n mid → view.Halts mid after → view.Halts w after
      pub both : {w mid after : W} {n k : ℕ} → view.Took w n mid → view.Took mid k after → view.Took w (n + k) after

  -- what remains, in a world: its values are known, and whether a call may be under way
  abbrev pub Inside : Type 0 → Type 1
  Inside A = W → Type 0 → A → Type 0

  -- from the world w, and from what remains of this size
  abbrev pub Lands : {S A : Type 0} (values : Values V) → Inside A → (A → ℕ) → W → ℕ → Rewritten V S A → W → Type 0
  Lands values In size w s (Goes e) after = (n : ℕ) × (Later w n after × (In after ⊥ e × (size e < s)))
  Lands values In size w s (Leaves v) after = (n : ℕ) × (Later w n after × view.Knows after v)
  Lands values In size w s (Calls f vs e) after = (n : ℕ) × (Later w (suc n) after
      × ((values.look f ≡ Func) × (view.Knows after f × (AllKnown (view.Knows after) vs × In after ⊤ e))))
  Lands values In size w s (Stops why) after = view.Halts w after

  module _ {S : Type 0} (values : Values V) (acts : Acting W V S) (lives : Lives acts values) where
    pub stays : {w : W} → view.Fits w → Later w 0 w
    stays {w} f = record { fits = f; keeps = λ v k. k; took = lives.none w }

    pub onward : {w mid after : W} {n k : ℕ} → Later w n mid → Later mid k after → Later w (n + k) after
    onward a b = record { fits = b.fits; keeps = λ v k. b.keeps v (a.keeps v k); took = lives.both a.took b.took }

    -- a plan is followed, behind n steps that were taken from w
    pub data Followed {A : Type 0} (Goal : Rewritten V S A → W → Type 0) (w : W) (p : Plan V S A) : Type 0 where
      followed : (c : Rewritten V S A) (after : W) → Follows acts w p c after → Goal c after → Followed Goal w p

    ends_so : {A : Type 0} (Goal : Rewritten V S A → W → Type 0) (w : W) (c : Rewritten V S A) → Goal c w → Followed Goal w (Ends c)
    ends_so Goal w c g = followed c w ends g

    behind : {A : Type 0} (Goal : Rewritten V S A → W → Type 0) {w mid : W} {a : Act V} {next : AnswerTo a → Plan V S A} (r : AnswerTo a) → acts w a (Ok r) mid → Followed Goal mid (next r) → Followed Goal w (Asks a next)
    behind Goal r h (followed c after f g) = followed c after (asks r h f) g

    asked : {A : Type 0} (Goal : Rewritten V S A → W → Type 0) (w : W) (a : Act V) (next : AnswerTo a → Plan V S A) → ((why : S) (after : W) → view.Halts w after → Goal (Stops why) after) → HasAnswer acts w a
        → ((r : AnswerTo a) (mid : W) → Later w (cost a) mid → KnowsAnswer (view.Knows mid) a r → Followed Goal mid (next r)) → Followed Goal w (Asks a next)
    asked Goal w a next s (answers r mid h l k) go = behind Goal r h (go r mid l k)
    asked Goal w a next s (stopped why after h q) go = followed (Stops why) after (stops h) (s why after q)

    pub ask : {A : Type 0} (Goal : Rewritten V S A → W → Type 0) (w : W) (a : Act V) (next : AnswerTo a → Plan V S A) → ((why : S) (after : W) → view.Halts w after → Goal (Stops why) after) → view.Fits w → KnowsAct (view.Knows w) a
        → ((r : AnswerTo a) (mid : W) → Later w (cost a) mid → KnowsAnswer (view.Knows mid) a r → Followed Goal mid (next r)) → Followed Goal w (Asks a next)
    ask Goal w a next s f k go = asked Goal w a next s (lives.answered w a f k) go

    -- what stands inside something else comes to the same there
    pub lift : {A B : Type 0} (In : Inside A) (In' : Inside B) (size : A → ℕ) (size' : B → ℕ) (make : A → B) (s s' : ℕ) (w : W)
        → ((after : W) (n : ℕ) (gap : Type 0) (a : A) → Later w n after → In after gap a → In' after gap (make a)) → ((a : A) → size a < s → size' (make a) < s')
        → (c : Rewritten V S A) (after : W) → Lands values In size w s c after → Lands values In' size' w s' (inside make c) after
    lift In In' size size' make s s' w builds smaller (Goes a) after (n, (l, (i, g))) = (n, (l, (builds after n ⊥ a l i, smaller a g)))
    lift In In' size size' make s s' w builds smaller (Leaves v) after h = h
    lift In In' size size' make s s' w builds smaller (Calls f vs a) after (n, (l, (e, (k, (ks, i))))) = (n, (l, (e, (k, (ks, builds after (suc n) ⊤ a l i)))))
    lift In In' size size' make s s' w builds smaller (Stops why) after h = h
