-- What remains of an expression is a value, or has a rewriting.
use Rattle.std.proofs.Common.{◌≡◌, ℕ, ◌+◌, ◌<◌, ◌⊎◌, inl, inr, Bool, true, false, List, [], ◌∷◌, refl, subst, sym, arith, length}
use Rattle.std.specs.Prelude.{⊤, Option, Some, None, codes, if◌then◌else◌, not, nat_lt, ◌/◌}
use Rattle.esm_values.specs.declared.limits.TheConstants.{BYTES_PER_STEP}
use Rattle.esm_base.specs.declared.limits.TheConstants.{MAX_TEXT_BYTES}
use Rattle.esm_values.specs.Acts.{Act as act}
use Rattle.esm_values.specs.Completion.{Completion, Normal, Throw}
use Rattle.esm_values.specs.Plans.{Acting, Rewritten, inside, Plan, Follows}
use Rattle.esm_values.specs.Plans.Rewritten.{Goes, Leaves, Calls, Stops}
use Rattle.esm_values.specs.Plans.Plan.{Ends, Asks}
use Rattle.esm_values.specs.Operators.{Values, Textual, Known, Displayed, Refused, is_true, compare, sum, operand, made, joined, faults, complete, to_text_by, textual, new_error, error_of}
use Rattle.esm_values.specs.Operators.{Look}
use Rattle.esm_values.specs.Operators.{Look as look}
use Rattle.esm_values.specs.declared.errors.FaultKind.{FaultKind}
use Rattle.esm_values.specs.declared.errors.FaultKind.TheVariants as kinds
use Rattle.esm_expr_eval.specs.Terms.{Term, Terms, Compared, LinkTerms}
use Rattle.esm_expr_eval.specs.Terms.Term.{Val, Waits, Fails, Name, Or, And, Equal, Sum, Not, Post, Print, NewError, Import, OwnUrl}
use Rattle.esm_expr_eval.specs.Terms.Terms.{none, more}
use Rattle.esm_expr_eval.specs.Terms.Compared.{last, compared}
use Rattle.esm_expr_eval.specs.Terms.LinkTerms.{ends, member, call}
use Rattle.esm_expr_eval.specs.Sizes.{size, size_all}
use Rattle.esm_expr_eval.specs.Ready.{Holds, HoldAll, HoldCompared, HoldLinks}
use Rattle.esm_expr_eval.specs.Rewriting.{AreValues, Rewrites, RewritesIn, enters, called, printed, error_made, import_begun}
use Rattle.esm_expr_eval.specs.Rewriting.AreValues.{nil, cons}
use Rattle.esm_expr_eval.specs.Rewriting.Rewrites.{fails, name, or_in, or, and_in, and, equal_in, equal_right, equal, equal_end, sum_in, sum_right, joins, sum_end, not_in, not_of, post_in, member_of, arguments, call_of, post_end, print_in, print, error_in, error, import_in, begins, own_url}
use Rattle.esm_expr_eval.specs.Rewriting.RewritesIn.{first, later}
use Rattle.esm_expr_eval.proofs.Lands.{AllKnown, KnowsCompletion, Views, Later, Lives, Inside, Lands, Followed, followed, stays, onward, ask, lift}

-- ---- what is known stays known

module _ {V : Type 0} (P Q : V → Type 0) (k : (v : V) → P v → Q v) (gap : Type 0) where
  mutual
    pub held : (e : Term V) → Holds P gap e → Holds Q gap e
    held (Val v) h = k v h
    held Waits h = h
    held (Fails v) h = k v h
    held (Name x) h = tt
    held (Or e es) h = (held e h.0, held_all es h.1)
    held (And e es) h = (held e h.0, held_all es h.1)
    held (Equal e cs) h = (held e h.0, held_compared cs h.1)
    held (Sum e es) h = (held e h.0, held_all es h.1)
    held (Not e) h = held e h
    held (Post e ls) h = (held e h.0, held_links ls h.1)
    held (Print es) h = held_all es h
    held (NewError e) h = held e h
    held (Import e) h = held e h
    held OwnUrl h = tt

    pub held_all : (es : Terms V) → HoldAll P gap es → HoldAll Q gap es
    held_all none h = tt
    held_all (more e es) h = (held e h.0, held_all es h.1)

    pub held_compared : (cs : Compared V) → HoldCompared P gap cs → HoldCompared Q gap cs
    held_compared last h = tt
    held_compared (compared b e cs) h = (held e h.0, held_compared cs h.1)

    pub held_links : (ls : LinkTerms V) → HoldLinks P gap ls → HoldLinks Q gap ls
    held_links ends h = tt
    held_links (member x ls) h = held_links ls h
    held_links (call es ls) h = (held_all es h.0, held_links ls h.1)

pub known_all : {V : Type 0} (P Q : V → Type 0) (k : (v : V) → P v → Q v) (vs : List V) → AllKnown P vs → AllKnown Q vs
known_all P Q k [] h = tt
known_all P Q k (v ∷ vs) h = (k v h.0, known_all P Q k vs h.1)

-- where no call is under way, none may be
module _ {V : Type 0} (P : V → Type 0) (gap : Type 0) where
  mutual
    pub opened : (e : Term V) → Holds P ⊥ e → Holds P gap e
    opened (Val v) h = h
    opened Waits h = absurd h
    opened (Fails v) h = h
    opened (Name x) h = tt
    opened (Or e es) h = (opened e h.0, opened_all es h.1)
    opened (And e es) h = (opened e h.0, opened_all es h.1)
    opened (Equal e cs) h = (opened e h.0, opened_compared cs h.1)
    opened (Sum e es) h = (opened e h.0, opened_all es h.1)
    opened (Not e) h = opened e h
    opened (Post e ls) h = (opened e h.0, opened_links ls h.1)
    opened (Print es) h = opened_all es h
    opened (NewError e) h = opened e h
    opened (Import e) h = opened e h
    opened OwnUrl h = tt

    pub opened_all : (es : Terms V) → HoldAll P ⊥ es → HoldAll P gap es
    opened_all none h = tt
    opened_all (more e es) h = (opened e h.0, opened_all es h.1)

    pub opened_compared : (cs : Compared V) → HoldCompared P ⊥ cs → HoldCompared P gap cs
    opened_compared last h = tt
    opened_compared (compared b e cs) h = (opened e h.0, opened_compared cs h.1)

    pub opened_links : (ls : LinkTerms V) → HoldLinks P ⊥ ls → HoldLinks P gap ls
    opened_links ends h = tt
    opened_links (member x ls) h = opened_links ls h
    opened_links (call es ls) h = (opened_all es h.0, opened_links ls h.1)

module _ {W V S : Type 0} (view : Views W V) (values : Values V) (url : W → List ℕ) (acts : Acting W V S) (lives : Lives view acts values) where
  -- the values in what remains are known in the world
  abbrev pub In : Inside view (Term V)
  In w gap e = Holds (view.Knows w) gap e

  abbrev pub InAll : Inside view (Terms V)
  InAll w gap es = HoldAll (view.Knows w) gap es

  abbrev pub Arrives : W → ℕ → Rewritten V S (Term V) → W → Type 0
  Arrives w s c after = Lands view values In size w s c after

  pub data Comes' (w : W) (e : Term V) : Type 0 where
    comes : (c : Rewritten V S (Term V)) (after : W) → Rewrites values url acts w e c after → Arrives w (size e) c after → Comes' w e

  pub data ComesAll (w : W) (es : Terms V) : Type 0 where
    comes_all : (c : Rewritten V S (Terms V)) (after : W) → RewritesIn values url acts w es c after → Lands view values InAll size_all w (size_all es) c after → ComesAll w es

  -- it is a value, or has a rewriting
  abbrev pub Here : W → Term V → Type 0
  Here w e = ((v : V) × (e ≡ Val v)) ⊎ Comes' w e

  abbrev pub HereAll : W → Terms V → Type 0
  HereAll w es = ((vs : List V) × (AreValues es vs × AllKnown (view.Knows w) vs)) ⊎ ComesAll w es

  -- ---- a part is rewritten

  -- what is put round a part
  module _ (w : W) (e : Term V) (make : Term V → Term V)
      (rule : (c : Rewritten V S (Term V)) (after : W) → Rewrites values url acts w e c after → Rewrites values url acts w (make e) (inside make c) after)
      (builds : (after : W) (n : ℕ) (gap : Type 0) (a : Term V) → Later view w n after → In after gap a → In after gap (make a))
      (smaller : (a : Term V) → size a < size e → size (make a) < size (make e)) where
    part_in : Comes' w e → Comes' w (make e)
    part_in (comes c after r l) = comes (inside make c) after (rule c after r) (lift view values acts lives In In size size make (size e) (size (make e)) w builds smaller c after l)

  -- what is put round a list
  module _ (w : W) (es : Terms V) (make : Terms V → Term V)
      (rule : (c : Rewritten V S (Terms V)) (after : W) → RewritesIn values url acts w es c after → Rewrites values url acts w (make es) (inside make c) after)
      (builds : (after : W) (n : ℕ) (gap : Type 0) (a : Terms V) → Later view w n after → InAll after gap a → In after gap (make a))
      (smaller : (a : Terms V) → size_all a < size_all es → size (make a) < size (make es)) where
    list_in : ComesAll w es → Comes' w (make es)
    list_in (comes_all c after r l) = comes (inside make c) after (rule c after r) (lift view values acts lives InAll In size_all size make (size_all es) (size (make es)) w builds smaller c after l)

  -- ---- at once

  here : {w : W} {e : Term V} (f : Term V) → view.Fits w → Rewrites values url acts w e (Goes f) w → Holds (view.Knows w) ⊥ f → size f < size e → Comes' w e
  here {w} f fits r h lt = comes (Goes f) w r (0, (stays view values acts lives fits, (h, lt)))

  -- a plan is followed
  planned : {w : W} {e : Term V} (p : Plan V S (Term V)) → ((c : Rewritten V S (Term V)) (after : W) → Follows acts w p c after → Rewrites values url acts w e c after) → Followed view values acts lives (Arrives w (size e)) w p → Comes' w e
  planned p rule (followed c after f g) = comes c after (rule c after f) g

  -- ---- plans: from w to mid so many steps were taken

  abbrev Plans : W → ℕ → W → Plan V S (Term V) → Type 0
  Plans w s mid p = Followed view values acts lives (Arrives w s) mid p

  stop : (w : W) (s n : ℕ) (mid : W) → Later view w n mid → (why : S) (after : W) → view.Halts mid after → Arrives w s (Stops why) after
  stop w s n mid l why after h = lives.halts l h

  leaves : (w : W) (s n : ℕ) (mid : W) (v : V) → Later view w n mid → view.Knows mid v → Plans w s mid (Ends (Leaves v))
  leaves w s n mid v l k = followed (Leaves v) mid Follows.ends (n, (l, k))

  goes : (w : W) (s n : ℕ) (mid : W) (f : Term V) → Later view w n mid → Holds (view.Knows mid) ⊥ f → size f < s → Plans w s mid (Ends (Goes f))
  goes w s n mid f l h lt = followed (Goes f) mid Follows.ends (n, (l, (h, lt)))

  throws : (w : W) (s n : ℕ) (mid : W) (kind : FaultKind) (message : List ℕ) → Later view w n mid → Plans w s mid (faults values kind message)
  throws w s n mid kind message l =
      ask view values acts lives (Arrives w s) mid (act.Fault kind message) _ (stop w s n mid l) l.fits tt
      (λ v late m k. leaves w s (n + 0) late v (onward view values acts lives l m) k)

  completes : (w : W) (s n : ℕ) (mid : W) (rest : V → Term V) (r : Completion V) → Later view w n mid → KnowsCompletion (view.Knows mid) r
      → ((v : V) → view.Knows mid v → Holds (view.Knows mid) ⊥ (rest v)) → ((v : V) → size (rest v) < s) → Plans w s mid (complete values rest r)
  completes w s n mid rest (Normal v) l k h lt = goes w s n mid (rest v) l (h v k) (lt v)
  completes w s n mid rest (Throw v) l k h lt = leaves w s n mid v l k

  -- what a plan goes on with is known in each later world
  abbrev Rests : W → ℕ → (V → Term V) → Type 0
  Rests w s rest = ((after : W) (n : ℕ) (v : V) → Later view w n after → view.Knows after v → Holds (view.Knows after) ⊥ (rest v)) × ((v : V) → size (rest v) < s)

  asks_error : (w : W) (s n : ℕ) (mid : W) (rest : V → Term V) (message : List ℕ) → Rests w s rest → Later view w n mid → Plans w s mid (new_error values rest message)
  asks_error w s n mid rest message r l =
      ask view values acts lives (Arrives w s) mid (act.Fault kinds.Error message) _ (stop w s n mid l) l.fits tt
      (λ v late m k. let both = onward view values acts lives l m in goes w s (n + 0) late (rest v) both (r.0 late (n + 0) v both k) (r.1 v))

  texts : (w : W) (s n : ℕ) (mid : W) (rest : V → Term V) (v : V) (t : Textual) → Rests w s rest → Later view w n mid → view.Knows mid v → Plans w s mid (to_text_by values v t (new_error values rest))
  texts w s n mid rest v (Known t) r l k = asks_error w s n mid rest t r l
  texts w s n mid rest v Displayed r l k =
      ask view values acts lives (Arrives w s) mid (act.Display v) _ (stop w s n mid l) l.fits k
      (λ t late m q. asks_error w s (n + 0) late rest t r (onward view values acts lives l m))
  texts w s n mid rest v Refused r l k = throws w s n mid kinds.TypeError (codes "cannot convert to text") l

  error_by : (w : W) (s n : ℕ) (mid : W) (rest : V → Term V) (v : V) (l : Look) → Rests w s rest → Later view w n mid → view.Knows mid v → Plans w s mid (error_of values rest v l)
  error_by w s n mid rest v look.Undefined r l k = asks_error w s n mid rest [] r l
  error_by w s n mid rest v (look.Truth b) r l k = texts w s n mid rest v (textual (look.Truth b)) r l k
  error_by w s n mid rest v (look.Text t) r l k = texts w s n mid rest v (textual (look.Text t)) r l k
  error_by w s n mid rest v look.Func r l k = texts w s n mid rest v (textual look.Func) r l k
  error_by w s n mid rest v look.Error r l k = texts w s n mid rest v (textual look.Error) r l k
  error_by w s n mid rest v look.Other r l k = texts w s n mid rest v (textual look.Other) r l k

  -- a step is taken first
  step : (w : W) (s : ℕ) (next : Plan V S (Term V)) → view.Fits w → ((mid : W) → Later view w 1 mid → Plans w s mid next) → Plans w s w (Asks (act.Step 1) (λ _. next))
  step w s next f go = ask view values acts lives (Arrives w s) w (act.Step 1) _ (stop w s 0 w (stays view values acts lives f)) f tt (λ r mid l k. go mid l)

  prints : (w : W) (s : ℕ) (vs : List V) → 1 < s → view.Fits w → AllKnown (view.Knows w) vs → Plans w s w (printed values vs)
  prints w s vs lt f k =
      step w s _ f (λ mid l. ask view values acts lives (Arrives w s) mid (act.Print vs) _ (stop w s 1 mid l) l.fits (known_all _ _ l.keeps vs k)
      (λ r late m q. goes w s (1 + 0) late (Val values.undefined) (onward view values acts lives l m) (lives.undefined late) lt))

  makes_error : (w : W) (s : ℕ) (v : V) → 1 < s → view.Fits w → view.Knows w v → Plans w s w (error_made values v)
  makes_error w s v lt f k = step w s _ f (λ mid l. error_by w s 1 mid (λ u. Val u) v (values.look v) ((λ after n u m q. q), (λ u. lt)) l (l.keeps v k))

  imports : (w : W) (s : ℕ) (v : V) → 1 < s → view.Fits w → view.Knows w v → Plans w s w (import_begun values v)
  imports w s v lt f k =
      step w s _ f (λ mid l. ask view values acts lives (Arrives w s) mid (act.Import v) _ (stop w s 1 mid l) l.fits (l.keeps v k)
      (λ p late m q. goes w s (1 + 0) late (Val p) (onward view values acts lives l m) q lt))

  -- ---- calls

  kept_links : (w after : W) (n : ℕ) (gap : Type 0) (ls : LinkTerms V) → Later view w n after → HoldLinks (view.Knows w) ⊥ ls → HoldLinks (view.Knows after) gap ls
  kept_links w after n gap ls l h = opened_links (view.Knows after) gap ls (held_links (view.Knows w) (view.Knows after) l.keeps ⊥ ls h)

  kept_all : (w after : W) (n : ℕ) (gap : Type 0) (es : Terms V) → Later view w n after → HoldAll (view.Knows w) ⊥ es → HoldAll (view.Knows after) gap es
  kept_all w after n gap es l h = opened_all (view.Knows after) gap es (held_all (view.Knows w) (view.Knows after) l.keeps ⊥ es h)

  kept_compared : (w after : W) (n : ℕ) (gap : Type 0) (cs : Compared V) → Later view w n after → HoldCompared (view.Knows w) ⊥ cs → HoldCompared (view.Knows after) gap cs
  kept_compared w after n gap cs l h = opened_compared (view.Knows after) gap cs (held_compared (view.Knows w) (view.Knows after) l.keeps ⊥ cs h)

  enters_by : (w : W) (s : ℕ) (mid : W) (f : V) (vs : List V) (ls : LinkTerms V) (l : Look) → values.look f ≡ l → Later view w 1 mid → view.Knows w f → AllKnown (view.Knows w) vs → HoldLinks (view.Knows w) ⊥ ls
      → Plans w s mid (enters values f vs ls l)
  enters_by w s mid f vs ls look.Func e l k ks h =
      followed (Calls f vs (Post Waits ls)) mid Follows.ends (0, (l, (e, (l.keeps f k, (known_all _ _ l.keeps vs ks, (tt, kept_links w mid 1 ⊤ ls l h))))))
  enters_by w s mid f vs ls look.Undefined e l k ks h = throws w s 1 mid kinds.TypeError (codes "not a function") l
  enters_by w s mid f vs ls (look.Truth b) e l k ks h = throws w s 1 mid kinds.TypeError (codes "not a function") l
  enters_by w s mid f vs ls (look.Text t) e l k ks h = throws w s 1 mid kinds.TypeError (codes "not a function") l
  enters_by w s mid f vs ls look.Error e l k ks h = throws w s 1 mid kinds.TypeError (codes "not a function") l
  enters_by w s mid f vs ls look.Other e l k ks h = throws w s 1 mid kinds.TypeError (codes "not a function") l

  calls : (w : W) (s : ℕ) (f : V) (vs : List V) (ls : LinkTerms V) → view.Fits w → view.Knows w f → AllKnown (view.Knows w) vs → HoldLinks (view.Knows w) ⊥ ls → Plans w s w (called values f vs ls)
  calls w s f vs ls fits k ks h = step w s _ fits (λ mid l. enters_by w s mid f vs ls (values.look f) refl l k ks h)

  -- ---- sums

  joins_by : (w : W) (s n : ℕ) (mid : W) (rest : V → Term V) (t : List ℕ) (b : Bool) → Rests w s rest → Later view w n mid
      → Plans w s mid (if b then faults values kinds.RangeError (codes "text length") else Asks (act.Step (length t / BYTES_PER_STEP)) (λ _. Ends (Goes (rest (values.text t)))))
  joins_by w s n mid rest t true r l = throws w s n mid kinds.RangeError (codes "text length") l
  joins_by w s n mid rest t false r l =
      ask view values acts lives (Arrives w s) mid (act.Step (length t / BYTES_PER_STEP)) _ (stop w s n mid l) l.fits tt
      (λ u late m k.
      let both = onward view values acts lives l m in
      goes w s _ late (rest (values.text t)) both (r.0 late _ (values.text t) both (lives.text late t)) (r.1 (values.text t)))

  sums_by : (w : W) (s n : ℕ) (mid : W) (rest : V → Term V) (o : Option (List ℕ)) → Rests w s rest → Later view w n mid → Plans w s mid (made values rest o)
  sums_by w s n mid rest None r l = throws w s n mid kinds.TypeError (codes "bad operands") l
  sums_by w s n mid rest (Some t) r l = joins_by w s n mid rest t (nat_lt MAX_TEXT_BYTES (length t)) r l

  operand_by : (w : W) (s n : ℕ) (mid : W) (v : V) (l : Look) (next : Look → Plan V S (Term V)) → view.Knows mid v → Later view w n mid → ((m : Look) (k : ℕ) (late : W) → Later view w k late → Later view mid 0 late → Plans w s late (next m))
      → Plans w s mid (operand values v l next)
  operand_by w s n mid v look.Error next k l go =
      ask view values acts lives (Arrives w s) mid (act.Display v) _ (stop w s n mid l) l.fits k
      (λ t late m q. go (look.Text t) (n + 0) late (onward view values acts lives l m) m)
  operand_by w s n mid v look.Undefined next k l go = go look.Undefined n mid l (stays view values acts lives l.fits)
  operand_by w s n mid v (look.Truth b) next k l go = go (look.Truth b) n mid l (stays view values acts lives l.fits)
  operand_by w s n mid v (look.Text t) next k l go = go (look.Text t) n mid l (stays view values acts lives l.fits)
  operand_by w s n mid v look.Func next k l go = go look.Func n mid l (stays view values acts lives l.fits)
  operand_by w s n mid v look.Other next k l go = go look.Other n mid l (stays view values acts lives l.fits)

  sums : (w : W) (s : ℕ) (rest : V → Term V) (a b : V) → Rests w s rest → view.Fits w → view.Knows w a → view.Knows w b → Plans w s w (sum values a b rest)
  sums w s rest a b r f ka kb =
      operand_by w s 0 w a (values.look a) _ ka (stays view values acts lives f)
      (λ l n mid m o. operand_by w s n mid b (values.look b) _ (o.keeps b kb) m (λ l' n' late m' o'. sums_by w s n' late rest (joined l l') r m'))

  -- ---- each form

  module _ (w : W) (fits : view.Fits w) where
    abbrev Ready : Term V → Type 0
    Ready e = Holds (view.Knows w) ⊥ e

    -- where the first part is a value
    by_value : (make : Term V → Term V) → ((v : V) → Ready (make (Val v)) → Comes' w (make (Val v))) → (e : Term V) → Ready (make e) → (v : V) × (e ≡ Val v) → Comes' w (make e)
    by_value make go e h x = subst (λ e. Ready (make e) → Comes' w (make e)) (sym x.1) (go x.0) h

    either : (P : Term V → Type 0) (b : Bool) (x y : Term V) → P x → P y → P (if b then x else y)
    either P true x y p q = p
    either P false x y p q = q

    or_value : (es : Terms V) (v : V) → Ready (Or (Val v) es) → Comes' w (Or (Val v) es)
    or_value none v h = here (Val v) fits or h.0 (omega arith)
    or_value (more e es) v h =
        let b = is_true (values.look v) in
        here (if b then Val v else Or e es) fits or (either Ready b (Val v) (Or e es) h.0 h.1)
        (either (λ t. size t < size (Or (Val v) (more e es))) b (Val v) (Or e es) (omega arith) (omega arith))

    or_by : (e : Term V) (es : Terms V) → Ready (Or e es) → Here w e → Comes' w (Or e es)
    or_by e es h (inl x) = by_value (λ e. Or e es) (or_value es) e h x
    or_by e es h (inr c) = part_in w e (λ e. Or e es) (λ c a r. or_in r) (λ after n gap a l i. (i, kept_all w after n gap es l h.1)) (λ a lt. omega (arith, lt)) c

    and_value : (es : Terms V) (v : V) → Ready (And (Val v) es) → Comes' w (And (Val v) es)
    and_value none v h = here (Val v) fits and h.0 (omega arith)
    and_value (more e es) v h =
        let b = is_true (values.look v) in
        here (if b then And e es else Val v) fits and (either Ready b (And e es) (Val v) h.1 h.0)
        (either (λ t. size t < size (And (Val v) (more e es))) b (And e es) (Val v) (omega arith) (omega arith))

    and_by : (e : Term V) (es : Terms V) → Ready (And e es) → Here w e → Comes' w (And e es)
    and_by e es h (inl x) = by_value (λ e. And e es) (and_value es) e h x
    and_by e es h (inr c) = part_in w e (λ e. And e es) (λ c a r. and_in r) (λ after n gap a l i. (i, kept_all w after n gap es l h.1)) (λ a lt. omega (arith, lt)) c

    equal_in_by : (e : Term V) (cs : Compared V) → Ready (Equal e cs) → Comes' w e → Comes' w (Equal e cs)
    equal_in_by e cs h c = part_in w e (λ e. Equal e cs) (λ c a r. equal_in r) (λ after n gap a l i. (i, kept_compared w after n gap cs l h.1)) (λ a lt. omega (arith, lt)) c

    equal_last : (v : V) → Ready (Equal (Val v) last) → Comes' w (Equal (Val v) last)
    equal_last v h = here (Val v) fits equal_end h.0 (omega arith)

    equal_last_by : (e : Term V) → Ready (Equal e last) → Here w e → Comes' w (Equal e last)
    equal_last_by e h (inl x) = by_value (λ e. Equal e last) equal_last e h x
    equal_last_by e h (inr c) = equal_in_by e last h c

    equal_values : (b : Bool) (cs : Compared V) (u v : V) → Ready (Equal (Val u) (compared b (Val v) cs)) → Comes' w (Equal (Val u) (compared b (Val v) cs))
    equal_values b cs u v h = here (Equal (Val (values.truth (compare b (values.same u v)))) cs) fits equal (lives.truth w _, h.1.1) (omega arith)

    equal_value : (b : Bool) (f : Term V) (cs : Compared V) → Here w f → (v : V) → Ready (Equal (Val v) (compared b f cs)) → Comes' w (Equal (Val v) (compared b f cs))
    equal_value b f cs (inl x) v h = by_value (λ f. Equal (Val v) (compared b f cs)) (λ u. equal_values b cs v u) f h x
    equal_value b f cs (inr c) v h =
        part_in w f (λ f. Equal (Val v) (compared b f cs)) (λ c a r. equal_right r)
        (λ after n gap a l i. (l.keeps v h.0, (i, kept_compared w after n gap cs l h.1.1))) (λ a lt. omega (arith, lt)) c

    equal_by : (e : Term V) (b : Bool) (f : Term V) (cs : Compared V) → Ready (Equal e (compared b f cs)) → Here w e → Here w f → Comes' w (Equal e (compared b f cs))
    equal_by e b f cs h (inl x) k = by_value (λ e. Equal e (compared b f cs)) (equal_value b f cs k) e h x
    equal_by e b f cs h (inr c) k = equal_in_by e (compared b f cs) h c

    sum_in_by : (e : Term V) (es : Terms V) → Ready (Sum e es) → Comes' w e → Comes' w (Sum e es)
    sum_in_by e es h c = part_in w e (λ e. Sum e es) (λ c a r. sum_in r) (λ after n gap a l i. (i, kept_all w after n gap es l h.1)) (λ a lt. omega (arith, lt)) c

    sum_last : (v : V) → Ready (Sum (Val v) none) → Comes' w (Sum (Val v) none)
    sum_last v h = here (Val v) fits sum_end h.0 (omega arith)

    sum_last_by : (e : Term V) → Ready (Sum e none) → Here w e → Comes' w (Sum e none)
    sum_last_by e h (inl x) = by_value (λ e. Sum e none) sum_last e h x
    sum_last_by e h (inr c) = sum_in_by e none h c

    sum_values : (es : Terms V) (a b : V) → Ready (Sum (Val a) (more (Val b) es)) → Comes' w (Sum (Val a) (more (Val b) es))
    sum_values es a b h =
        planned (sum values a b (λ v. Sum (Val v) es)) (λ c after f. joins f)
        (sums w (size (Sum (Val a) (more (Val b) es))) (λ v. Sum (Val v) es) a b ((λ after n v l k. (k, kept_all w after n ⊥ es l h.1.1)), (λ v. omega arith)) fits h.0 h.1.0)

    sum_value : (f : Term V) (es : Terms V) → Here w f → (v : V) → Ready (Sum (Val v) (more f es)) → Comes' w (Sum (Val v) (more f es))
    sum_value f es (inl x) v h = by_value (λ f. Sum (Val v) (more f es)) (λ u. sum_values es v u) f h x
    sum_value f es (inr c) v h =
        part_in w f (λ f. Sum (Val v) (more f es)) (λ c a r. sum_right r)
        (λ after n gap a l i. (l.keeps v h.0, (i, kept_all w after n gap es l h.1.1))) (λ a lt. omega (arith, lt)) c

    sum_by : (e f : Term V) (es : Terms V) → Ready (Sum e (more f es)) → Here w e → Here w f → Comes' w (Sum e (more f es))
    sum_by e f es h (inl x) k = by_value (λ e. Sum e (more f es)) (sum_value f es k) e h x
    sum_by e f es h (inr c) k = sum_in_by e (more f es) h c

    not_value : (v : V) → Ready (Not (Val v)) → Comes' w (Not (Val v))
    not_value v h = here (Val (values.truth (not (is_true (values.look v))))) fits not_of (lives.truth w _) (omega arith)

    not_by : (e : Term V) → Ready (Not e) → Here w e → Comes' w (Not e)
    not_by e h (inl x) = by_value (λ e. Not e) not_value e h x
    not_by e h (inr c) = part_in w e (λ e. Not e) (λ c a r. not_in r) (λ after n gap a l i. i) (λ a lt. omega (arith, lt)) c

    post_in_by : (e : Term V) (ls : LinkTerms V) → Ready (Post e ls) → Comes' w e → Comes' w (Post e ls)
    post_in_by e ls h c = part_in w e (λ e. Post e ls) (λ c a r. post_in r) (λ after n gap a l i. (i, kept_links w after n gap ls l h.1)) (λ a lt. omega (arith, lt)) c

    post_last : (v : V) → Ready (Post (Val v) ends) → Comes' w (Post (Val v) ends)
    post_last v h = here (Val v) fits post_end h.0 (omega arith)

    post_last_by : (e : Term V) → Ready (Post e ends) → Here w e → Comes' w (Post e ends)
    post_last_by e h (inl x) = by_value (λ e. Post e ends) post_last e h x
    post_last_by e h (inr c) = post_in_by e ends h c

    member_value : (x : List ℕ) (ls : LinkTerms V) (v : V) → Ready (Post (Val v) (member x ls)) → Comes' w (Post (Val v) (member x ls))
    member_value x ls v h =
        let s = size (Post (Val v) (member x ls)) in
        planned _ (λ c after f. member_of f)
        (ask view values acts lives (Arrives w s) w (act.Member v x) _ (stop w s 0 w (stays view values acts lives fits)) fits h.0
        (λ r mid l k. completes w s 0 mid (λ u. Post (Val u) ls) r l k (λ u q. (q, kept_links w mid 0 ⊥ ls l h.1)) (λ u. omega arith)))

    member_by : (e : Term V) (x : List ℕ) (ls : LinkTerms V) → Ready (Post e (member x ls)) → Here w e → Comes' w (Post e (member x ls))
    member_by e x ls h (inl y) = by_value (λ e. Post e (member x ls)) (member_value x ls) e h y
    member_by e x ls h (inr c) = post_in_by e (member x ls) h c

    call_value : (es : Terms V) (ls : LinkTerms V) → HereAll w es → (v : V) → Ready (Post (Val v) (call es ls)) → Comes' w (Post (Val v) (call es ls))
    call_value es ls (inl (vs, (a, k))) v h = planned (called values v vs ls) (λ c after f. call_of a f) (calls w _ v vs ls fits h.0 k h.1.1)
    call_value es ls (inr c) v h =
        list_in w es (λ es. Post (Val v) (call es ls)) (λ c a r. arguments r)
        (λ after n gap a l i. (l.keeps v h.0, (i, kept_links w after n gap ls l h.1.1))) (λ a lt. omega (arith, lt)) c

    call_by : (e : Term V) (es : Terms V) (ls : LinkTerms V) → Ready (Post e (call es ls)) → Here w e → HereAll w es → Comes' w (Post e (call es ls))
    call_by e es ls h (inl x) k = by_value (λ e. Post e (call es ls)) (call_value es ls k) e h x
    call_by e es ls h (inr c) k = post_in_by e (call es ls) h c

    print_by : (es : Terms V) → HereAll w es → Comes' w (Print es)
    print_by es (inl (vs, (a, k))) = planned (printed values vs) (λ c after f. print a f) (prints w (size (Print es)) vs (omega arith) fits k)
    print_by es (inr c) = list_in w es (λ es. Print es) (λ c a r. print_in r) (λ after n gap a l i. i) (λ a lt. omega (arith, lt)) c

    error_value : (v : V) → Ready (NewError (Val v)) → Comes' w (NewError (Val v))
    error_value v h = planned (error_made values v) (λ c after f. error f) (makes_error w 2 v (omega arith) fits h)

    error_by_part : (e : Term V) → Ready (NewError e) → Here w e → Comes' w (NewError e)
    error_by_part e h (inl x) = by_value (λ e. NewError e) error_value e h x
    error_by_part e h (inr c) = part_in w e (λ e. NewError e) (λ c a r. error_in r) (λ after n gap a l i. i) (λ a lt. omega (arith, lt)) c

    import_value : (v : V) → Ready (Import (Val v)) → Comes' w (Import (Val v))
    import_value v h = planned (import_begun values v) (λ c after f. begins f) (imports w 2 v (omega arith) fits h)

    import_by : (e : Term V) → Ready (Import e) → Here w e → Comes' w (Import e)
    import_by e h (inl x) = by_value (λ e. Import e) import_value e h x
    import_by e h (inr c) = part_in w e (λ e. Import e) (λ c a r. import_in r) (λ after n gap a l i. i) (λ a lt. omega (arith, lt)) c

    name_comes : (x : List ℕ) → Comes' w (Name x)
    name_comes x =
        planned _ (λ c after f. name f)
        (ask view values acts lives (Arrives w 2) w (act.Read x) _ (stop w 2 0 w (stays view values acts lives fits)) fits tt
        (λ r mid l k. completes w 2 0 mid (λ v. Val v) r l k (λ v q. q) (λ v. omega arith)))

    -- ---- lists

    cons_by : (e : Term V) (es : Terms V) → HoldAll (view.Knows w) ⊥ (more e es) → Here w e → HereAll w es → HereAll w (more e es)
    cons_by e es h (inr (comes c after r l)) k =
        inr (comes_all (inside (λ e. more e es) c) after (first r)
        (lift view values acts lives In InAll size size_all (λ e. more e es) (size e) (size_all (more e es)) w
        (λ after n gap a l i. (i, kept_all w after n gap es l h.1)) (λ a lt. omega (arith, lt)) c after l))
    cons_by e es h (inl x) k = subst (λ e. HoldAll (view.Knows w) ⊥ (more e es) → HereAll w (more e es)) (sym x.1) (λ h. later_by x.0 es h k) h
      where
        later_by : (v : V) (es : Terms V) → HoldAll (view.Knows w) ⊥ (more (Val v) es) → HereAll w es → HereAll w (more (Val v) es)
        later_by v es h (inl (vs, (a, k))) = inl (v ∷ vs, (cons a, (h.0, k)))
        later_by v es h (inr (comes_all c after r l)) =
            inr (comes_all (inside (λ es. more (Val v) es) c) after (later r)
            (lift view values acts lives InAll InAll size_all size_all (λ es. more (Val v) es) (size_all es) (size_all (more (Val v) es)) w
            (λ after n gap a l i. (l.keeps v h.0, i)) (λ a lt. omega (arith, lt)) c after l))

    mutual
      pub come : (e : Term V) → Ready e → Here w e
      come (Val v) h = inl (v, refl)
      come Waits h = absurd h
      come (Fails v) h = inr (comes (Leaves v) w fails (0, (stays view values acts lives fits, h)))
      come (Name x) h = inr (name_comes x)
      come (Or e es) h = inr (or_by e es h (come e h.0))
      come (And e es) h = inr (and_by e es h (come e h.0))
      come (Equal e last) h = inr (equal_last_by e h (come e h.0))
      come (Equal e (compared b f cs)) h = inr (equal_by e b f cs h (come e h.0) (come f h.1.0))
      come (Sum e none) h = inr (sum_last_by e h (come e h.0))
      come (Sum e (more f es)) h = inr (sum_by e f es h (come e h.0) (come f h.1.0))
      come (Not e) h = inr (not_by e h (come e h))
      come (Post e ends) h = inr (post_last_by e h (come e h.0))
      come (Post e (member x ls)) h = inr (member_by e x ls h (come e h.0))
      come (Post e (call es ls)) h = inr (call_by e es ls h (come e h.0) (come_all es h.1.0))
      come (Print es) h = inr (print_by es (come_all es h))
      come (NewError e) h = inr (error_by_part e h (come e h))
      come (Import e) h = inr (import_by e h (come e h))
      come OwnUrl h = inr (here (Val (values.text (url w))) fits own_url (lives.text w _) (omega arith))

      pub come_all : (es : Terms V) → HoldAll (view.Knows w) ⊥ es → HereAll w es
      come_all none h = inl ([], (nil, tt))
      come_all (more e es) h = cons_by e es h (come e h.0) (come_all es h.1)
