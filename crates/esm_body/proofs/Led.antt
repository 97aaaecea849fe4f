-- Where the code's evaluation of an expression leads, the definitions lead: in a state that fits, to a state that fits.
use Rattle.std.proofs.Common.{◌≡◌, ℕ, nat_eq, inl, inr, Bool, true, List, [], ◌∷◌, refl, ap, subst, sym, ◌∙◌}
use Rattle.std.specs.Prelude.{Result, Ok, Err}
use Rattle.esm_base.specs.declared.limits.Limit.{Limit}
use Rattle.esm_values.specs.Code.{CodeValue, numbered}
use Rattle.esm_values.specs.Acts.{Act, AnswerTo}
use Rattle.esm_values.specs.Acts.{Act as act}
use Rattle.esm_values.specs.Plans.{Acting, Rewritten, Plan, Follows}
use Rattle.esm_values.specs.Plans.{Follows as follows}
use Rattle.esm_values.specs.Plans.Rewritten.{Goes, Leaves, Calls, Stops}
use Rattle.esm_values.specs.Operators.{Values}
use Rattle.esm_expr_eval.specs.Terms.{Term, Terms}
use Rattle.esm_expr_eval.specs.Terms.Term.{Val}
use Rattle.esm_expr_eval.specs.Ready.{Holds}
use Rattle.esm_expr_eval.specs.Ends.{TermEnd, Leads}
use Rattle.esm_expr_eval.specs.Ends.{TermEnd as end}
use Rattle.esm_expr_eval.specs.Ends.{Leads as leads}
use Rattle.esm_expr_eval.specs.Rewriting.{Rewrites, RewritesIn}
use Rattle.esm_expr_eval.specs.Rewriting.Rewrites.{fails, name, or_in, or, and_in, and, equal_in, equal_right, equal, equal_end, sum_in, sum_right, joins, sum_end, not_in, not_of, post_in, member_of, arguments, call_of, post_end, print_in, print, error_in, error, import_in, begins as rule_begins, own_url as rule_url}
use Rattle.esm_expr_eval.specs.Rewriting.RewritesIn.{first as rule_first, later as rule_later}
use Rattle.esm_expr_eval.proofs.Lands.{Views, Lives, HasAnswer, answers, stopped as told_stop}
use Rattle.esm_expr_eval.proofs.HasRewriting.{comes, come, Here, Arrives}
use Rattle.esm_expr_eval.specs.Sizes.{size}
use Rattle.esm_expr_eval.proofs.Unique.{no_step}
use Rattle.esm_expr_eval.proofs.Lands as lands
use Rattle.esm_promise.specs.Outer.{Outer}
use Rattle.esm_env.specs.Modules.{Modules}
use Rattle.esm_rewriting.specs.State.{Importing}
use Rattle.esm_rewriting.specs.Acts.{Inner, Performs}
use Rattle.esm_rewriting.specs.BodyRewriting.{own_url}
use Rattle.esm_body.specs.Inner.World.{inner_of, IsSame, AllKnown, KnowsAct, HasScopes, CodeIsWhole, Answers, ActsInside, url_inside}
use Rattle.esm_rewriting.specs.declared.stop.Stop.{Stop}
use Rattle.esm_rewriting.specs.declared.stop.Stop.TheVariants as stops
use Rattle.esm_body.specs.declared.inside.Inside.{Inside}
use Rattle.esm_body.specs.declared.work.Activation.{Activation}
use Rattle.esm_body.proofs.Alike.{AlikeActs, Agrees, step_alike}
use Rattle.esm_rewriting.proofs.OneAct.{BeginsOne, acts_one}
use Rattle.esm_rewriting.proofs.SomeAct.{BeginsSome, FitsInner, Known, view, lives}

-- ---- a world that is told of more calls

module _ {W V S : Type 0} (values : Values V) (url : W → List ℕ) (acts other : Acting W V S) (weak : (w : W) (a : Act V) (r : Result (AnswerTo a) S) (after : W) → acts w a r after → other w a r after) where
  follows_weak : {A : Type 0} {w after : W} {p : Plan V S A} {c : Rewritten V S A} → Follows acts w p c after → Follows other w p c after
  follows_weak follows.ends = follows.ends
  follows_weak (follows.asks r h f) = follows.asks r (weak _ _ _ _ h) (follows_weak f)
  follows_weak (follows.stops h) = follows.stops (weak _ _ _ _ h)

  mutual
    pub weaker : {w after : W} {t : Term V} {c : Rewritten V S (Term V)} → Rewrites values url acts w t c after → Rewrites values url other w t c after
    weaker fails = fails
    weaker (name f) = name (follows_weak f)
    weaker (or_in s) = or_in (weaker s)
    weaker or = or
    weaker (and_in s) = and_in (weaker s)
    weaker and = and
    weaker (equal_in s) = equal_in (weaker s)
    weaker (equal_right s) = equal_right (weaker s)
    weaker equal = equal
    weaker equal_end = equal_end
    weaker (sum_in s) = sum_in (weaker s)
    weaker (sum_right s) = sum_right (weaker s)
    weaker (joins f) = joins (follows_weak f)
    weaker sum_end = sum_end
    weaker (not_in s) = not_in (weaker s)
    weaker not_of = not_of
    weaker (post_in s) = post_in (weaker s)
    weaker (member_of f) = member_of (follows_weak f)
    weaker (arguments s) = arguments (weaker_in s)
    weaker (call_of a f) = call_of a (follows_weak f)
    weaker post_end = post_end
    weaker (print_in s) = print_in (weaker_in s)
    weaker (print a f) = print a (follows_weak f)
    weaker (error_in s) = error_in (weaker s)
    weaker (error f) = error (follows_weak f)
    weaker (import_in s) = import_in (weaker s)
    weaker (rule_begins f) = rule_begins (follows_weak f)
    weaker rule_url = rule_url

    weaker_in : {w after : W} {es : Terms V} {c : Rewritten V S (Terms V)} → RewritesIn values url acts w es c after → RewritesIn values url other w es c after
    weaker_in (rule_first s) = rule_first (weaker s)
    weaker_in (rule_later s) = rule_later (weaker_in s)

-- ---- the code's world

abbrev V : Type 0
V = CodeValue

known_all : (K : V → Type 0) (vs : List V) → lands.AllKnown K vs → AllKnown K vs
known_all K [] h = tt
known_all K (v ∷ vs) h = (h.0, known_all K vs h.1)

knows_act : (K : V → Type 0) (a : Act V) → lands.KnowsAct K a → KnowsAct K a
knows_act K (act.Read x) h = h
knows_act K (act.Member v x) h = h
knows_act K (act.Display v) h = h
knows_act K (act.Print vs) h = known_all K vs h
knows_act K (act.Fault kind message) h = h
knows_act K (act.Step n) h = h
knows_act K (act.Import v) h = h

pub same_both : {I : Type 0} {w x y : Inside I} → IsSame w x → IsSame x y → IsSame w y
same_both a b = record {
  now = b.now ∙ a.now;
  code = b.code ∙ a.code;
  alloc = b.alloc ∙ a.alloc;
  engine = b.engine ∙ a.engine;
  standing = b.standing ∙ a.standing;
  errors = b.errors ∙ a.errors;
  envs = b.envs ∙ a.envs;
  promises = b.promises ∙ a.promises;
  imports = b.imports ∙ a.imports;
}

pub same_itself : {I : Type 0} (w : Inside I) → IsSame w w
same_itself w = record { now = refl; code = refl; alloc = refl; engine = refl; standing = refl; errors = refl; envs = refl; promises = refl; imports = refl }

module _ {I S : Type 0} (seen : I → S) (modules : S → Modules ℕ) (linked : S → ℕ → Bool) (fits : Outer ℕ S → Type 0) (begins : Importing ℕ S) (some : BeginsSome modules linked fits begins) (one : BeginsOne begins) (first : Inside I) where
  abbrev Fit : Inner ℕ S → Type 0
  Fit w = FitsInner nat_eq modules linked fits begins some first.code.now.at.0 w

  abbrev K : Inner ℕ S → V → Type 0
  K w v = Known nat_eq modules linked fits begins some w.state v

  abbrev Does : Acting (Inner ℕ S) V Limit
  Does = Performs nat_eq modules begins first.code.now.at.0

  abbrev Guarded : Acting (Inner ℕ S) V Limit
  Guarded w a r after = (Fit w × lands.KnowsAct (K w) a) × Does w a r after

  abbrev sight : Views (Inner ℕ S) V
  sight = view nat_eq modules linked fits begins some first.code.now.at.0

  guard : (w : Inner ℕ S) (a : Act V) → Fit w → lands.KnowsAct (K w) a → HasAnswer sight Does w a → HasAnswer sight Guarded w a
  guard w a f k (answers r mid h l q) = answers r mid ((f, k), h) l q
  guard w a f k (told_stop why after h q) = told_stop why after ((f, k), h) q

  guarded : Lives sight Guarded numbered
  guarded = let l = lives nat_eq modules linked fits begins some first.code.now.at.0 in record {
    answered = λ w a f k. guard w a f k (l.answered w a f k);
    undefined = l.undefined;
    truth = l.truth;
    text = l.text;
    none = l.none;
    halts = l.halts;
    both = l.both;
  }

  -- the state of the definitions is that of the code, which holds the same code as at first
  pub record Stands (x : Inside I) (u : Inner ℕ S) : Type 0 where
    pub same : IsSame first x
    pub made : HasScopes seen modules linked fits begins x
    pub state : inner_of seen x ≡ u

  ready : (x : Inside I) → IsSame first x → HasScopes seen modules linked fits begins x → Fit (inner_of seen x) → CodeIsWhole seen modules linked fits begins x
  ready x s h f = record { state = f.state; scopes = f.scopes; home = subst (λ (n : Activation). linked (seen x.imports.now) n.at.0 ≡ true) (sym s.now) f.home; made = h }

  performed : (x y : Inside I) (u v : Inner ℕ S) (a : Act V) (r s : Result (AnswerTo a) Limit) → Stands x u → Answers seen modules linked fits begins x a r y → Guarded u a s v → (s ≡ r) × Stands y v
  performed x y u v a r s t h g =
      let g' : Guarded (inner_of seen x) a s v = subst (λ u. Guarded u a s v) (sym t.state) g in
      let k = h.1 (ready x t.same t.made g'.0.0) (knows_act _ a g'.0.1) in
      let p : Does (inner_of seen x) a r (inner_of seen y) = subst (λ (n : Activation). Performs nat_eq modules begins n.at.0 (inner_of seen x) a r (inner_of seen y)) t.same.now k.0 in
      let o = (acts_one nat_eq modules begins one first.code.now.at.0).one {w = inner_of seen x} {x = inner_of seen y} {y = v} {a = a} {r = r} {s = s} p g'.1 in
      (o.0, record { same = same_both t.same h.0; made = k.1; state = sym o.1 })

  acts_alike : AlikeActs Stands (ActsInside seen modules linked fits begins) Guarded
  acts_alike = record {
    answered = λ {w} {x} {u} {y} {a} {r} {s} t h g. performed w x u y a (Ok r) s t h g;
    stopped = λ {w} {x} {u} {y} {a} {l} {s} t h g. performed w x u y a (Err l) s t h g;
  }

  -- ---- where an evaluation leads

  abbrev pub Rewrites' : Inner ℕ S → Term V → Rewritten V Limit (Term V) → Inner ℕ S → Type 0
  Rewrites' = Rewrites numbered (own_url nat_eq modules begins first.code.now.at.0) Does

  -- rewritings up to an end, none of which changes the scopes
  pub data Two : Inner ℕ S → Term V → TermEnd V Limit → Inner ℕ S → Type 0 where
    value : {w : Inner ℕ S} {v : V} → Two w (Val v) (end.Value v) w
    goes : {w mid after : Inner ℕ S} {t rest : Term V} {e : TermEnd V Limit} → Rewrites' w t (Goes rest) mid → mid.scopes ≡ w.scopes → Two mid rest e after → Two w t e after
    throws : {w after : Inner ℕ S} {t : Term V} {v : V} → Rewrites' w t (Leaves v) after → after.scopes ≡ w.scopes → Two w t (end.Thrown v) after
    calls : {w after : Inner ℕ S} {t rest : Term V} {f : V} {vs : List V} → Rewrites' w t (Calls f vs rest) after → after.scopes ≡ w.scopes → Two w t (end.Call f vs rest) after
    stopped : {w after : Inner ℕ S} {t : Term V} {why : Limit} → Rewrites' w t (Stops why) after → after.scopes ≡ w.scopes → Two w t (end.Stopped why) after

  abbrev Rewrites'' : Inner ℕ S → Term V → Rewritten V Limit (Term V) → Inner ℕ S → Type 0
  Rewrites'' = Rewrites numbered (own_url nat_eq modules begins first.code.now.at.0) Guarded

  weak : (w : Inner ℕ S) (t : Term V) (c : Rewritten V Limit (Term V)) (after : Inner ℕ S) → Rewrites'' w t c after → Rewrites numbered (own_url nat_eq modules begins first.code.now.at.0) Does w t c after
  weak w t c after r = weaker numbered (own_url nat_eq modules begins first.code.now.at.0) Guarded Does (λ w a r after h. h.1) r

  -- the same end, where memory didn't run out
  abbrev pub Ends : TermEnd V Stop → (TermEnd V Limit → Type 0) → Type 0
  Ends (end.Value v) P = P (end.Value v)
  Ends (end.Thrown v) P = P (end.Thrown v)
  Ends (end.Call f vs t) P = P (end.Call f vs t)
  Ends (end.Stopped (stops.Limit l)) P = P (end.Stopped l)
  Ends (end.Stopped stops.Memory) P = Unit {0}

  abbrev pub Led : Inner ℕ S → Term V → TermEnd V Stop → Inside I → Type 0
  Led u t e x = Ends e (λ d. Two u t d (inner_of seen x) × (IsSame first x × HasScopes seen modules linked fits begins x))

  before : (u mid : Inner ℕ S) (t rest : Term V) (x : Inside I) → Rewrites'' u t (Goes rest) mid → mid.scopes ≡ u.scopes → (e : TermEnd V Stop) → Led mid rest e x → Led u t e x
  before u mid t rest x r k (end.Value v) h = (goes (weak _ _ _ _ r) k h.0, h.1)
  before u mid t rest x r k (end.Thrown v) h = (goes (weak _ _ _ _ r) k h.0, h.1)
  before u mid t rest x r k (end.Call f vs s) h = (goes (weak _ _ _ _ r) k h.0, h.1)
  before u mid t rest x r k (end.Stopped (stops.Limit l)) h = (goes (weak _ _ _ _ r) k h.0, h.1)
  before u mid t rest x r k (end.Stopped stops.Memory) h = tt

  abbrev Found : Inner ℕ S → Term V → Type 0
  Found u t = Here sight numbered (own_url nat_eq modules begins first.code.now.at.0) Guarded guarded u t

  abbrev Agree : Rewritten V Stop (Term V) → Inside I → Rewritten V Limit (Term V) → Inner ℕ S → Type 0
  Agree = Agrees Stands

  values_alike : {x : Inside I} {u : Inner ℕ S} (v : V) → Stands x u → Led u (Val v) (end.Value v) x
  values_alike {x} {u} v s = (subst (λ z. Two u (Val v) (end.Value v) z) (sym s.state) value, (s.same, s.made))

  goes_by : (mid y : Inside I) (u : Inner ℕ S) (t rest : Term V) (e : TermEnd V Stop) → ((u : Inner ℕ S) → Stands mid u → Fit u → Holds (K u) ⊥ rest → Led u rest e y) → (d : Rewritten V Limit (Term V)) (v : Inner ℕ S) → Rewrites'' u t d v
      → Arrives sight numbered (own_url nat_eq modules begins first.code.now.at.0) Guarded guarded u (size t) d v → Agree (Goes rest) mid d v → Led u t e y
  goes_by mid y u t rest e again (Goes b) v r l a =
      before u v t rest y (subst (λ b. Rewrites'' u t (Goes b) v) a.0 r) l.1.0.took.scopes e (again v a.1 l.1.0.fits (subst (λ b. Holds (K v) ⊥ b) a.0 l.1.1.0))
  goes_by mid y u t rest e again (Leaves w) v r l a = absurd a
  goes_by mid y u t rest e again (Calls g us b) v r l a = absurd a
  goes_by mid y u t rest e again (Stops why) v r l a = absurd a

  throws_by : (y : Inside I) (u : Inner ℕ S) (t : Term V) (w : V) (d : Rewritten V Limit (Term V)) (v : Inner ℕ S) → Rewrites'' u t d v → Arrives sight numbered (own_url nat_eq modules begins first.code.now.at.0) Guarded guarded u (size t) d v → Agree (Leaves w) y d v → Led u t (end.Thrown w) y
  throws_by y u t w (Goes b) v r h a = absurd a
  throws_by y u t w (Leaves x) v r h a =
      (subst (λ z. Two u t (end.Thrown w) z) (sym a.1.state) (throws (weak _ _ _ _ (subst (λ x. Rewrites'' u t (Leaves x) v) a.0 r)) h.1.0.took.scopes), (a.1.same, a.1.made))
  throws_by y u t w (Calls g us b) v r h a = absurd a
  throws_by y u t w (Stops why) v r h a = absurd a

  calls_by : (y : Inside I) (u : Inner ℕ S) (t : Term V) (f : V) (vs : List V) (rest : Term V) (d : Rewritten V Limit (Term V)) (v : Inner ℕ S) → Rewrites'' u t d v → Arrives sight numbered (own_url nat_eq modules begins first.code.now.at.0) Guarded guarded u (size t) d v → Agree (Calls f vs rest) y d v → Led u t (end.Call f vs rest) y
  calls_by y u t f vs rest (Goes b) v r h a = absurd a
  calls_by y u t f vs rest (Leaves x) v r h a = absurd a
  calls_by y u t f vs rest (Calls g us b) v r h a =
      let r' : Rewrites'' u t (Calls f vs rest) v = subst (λ (c : Rewritten V Limit (Term V)). Rewrites'' u t c v) (λ i. Calls (a.0 i) (a.1 i) (a.2 i)) r in
      (subst (λ z. Two u t (end.Call f vs rest) z) (sym a.3.state) (calls (weak _ _ _ _ r') h.1.0.took.scopes), (a.3.same, a.3.made))
  calls_by y u t f vs rest (Stops why) v r h a = absurd a

  stops_by : (y : Inside I) (u : Inner ℕ S) (t : Term V) (l : Limit) (d : Rewritten V Limit (Term V)) (v : Inner ℕ S) → Rewrites'' u t d v → Arrives sight numbered (own_url nat_eq modules begins first.code.now.at.0) Guarded guarded u (size t) d v → Agree (Stops (stops.Limit l)) y d v → Led u t (end.Stopped (stops.Limit l)) y
  stops_by y u t l (Goes b) v r h a = absurd a
  stops_by y u t l (Leaves x) v r h a = absurd a
  stops_by y u t l (Calls g us b) v r h a = absurd a
  stops_by y u t l (Stops k) v r h a =
      (subst (λ z. Two u t (end.Stopped l) z) (sym a.1.state) (stopped (weak _ _ _ _ (subst (λ k. Rewrites'' u t (Stops k) v) a.0 r)) h.scopes), (a.1.same, a.1.made))

  -- shows says that the URL that the code gives of a linked module is the module's
  module _ (urls : I → ℕ → List ℕ) (shows : (o : Outer ℕ S) (i : I) (m : ℕ) → fits (record o { imports = seen i }) → linked (seen i) m ≡ true → urls i m ≡ (modules (seen i)).url m) where
    abbrev One : Inside I → Term V → TermEnd V Stop → Inside I → Type 0
    One = Leads numbered (url_inside urls) (ActsInside seen modules linked fits begins)

    own_is : (x : Inside I) (u : Inner ℕ S) → Stands x u → Fit u → own_url nat_eq modules begins first.code.now.at.0 u ≡ url_inside urls x
    own_is x u t f =
        let k : Fit (inner_of seen x) = subst Fit (sym t.state) f in
        let e : urls x.imports.now first.code.now.at.0 ≡ (modules (seen x.imports.now)).url first.code.now.at.0 = shows (inner_of seen x).state.outer x.imports.now first.code.now.at.0 k.state.whole k.home in
        subst (λ (u : Inner ℕ S). own_url nat_eq modules begins first.code.now.at.0 u ≡ url_inside urls x) t.state
        (sym (ap (λ (n : Activation). urls x.imports.now n.at.0) t.same.now ∙ e))

    -- what the definitions rewrite to, which the code's rewriting agrees with
    found : {x y : Inside I} {t : Term V} {c : Rewritten V Stop (Term V)} (u : Inner ℕ S) → Stands x u → Fit u → Rewrites numbered (url_inside urls) (ActsInside seen modules linked fits begins) x t c y → Found u t
        → (d : Rewritten V Limit (Term V)) × ((v : Inner ℕ S) × (Rewrites'' u t d v × (Arrives sight numbered (own_url nat_eq modules begins first.code.now.at.0) Guarded guarded u (size t) d v × Agree c y d v)))
    found {x = x} {y = y} {c = c} u s f r (inl w) = absurd (no_step numbered (url_inside urls) (ActsInside seen modules linked fits begins) (subst (λ t. Rewrites numbered (url_inside urls) (ActsInside seen modules linked fits begins) x t c y) w.1 r))
    found {x = x} u s f r (inr (comes d v q l)) = (d, (v, (q, (l, step_alike Stands (ActsInside seen modules linked fits begins) Guarded acts_alike numbered (url_inside urls) (own_url nat_eq modules begins first.code.now.at.0) s (own_is x u s f) r q))))

    -- where the code's evaluation ends, that of the definitions ends
    pub led : {x y : Inside I} {t : Term V} {e : TermEnd V Stop} → One x t e y → (u : Inner ℕ S) → Stands x u → Fit u → Holds (K u) ⊥ t → Led u t e y
    led (leads.value {v = v}) u s f h = values_alike v s
    led {y = y} {t = t} {e = e} (leads.goes {mid = mid} {rest = rest} r more) u s f h =
        let o = found u s f r (come sight numbered (own_url nat_eq modules begins first.code.now.at.0) Guarded guarded u f t h) in
        goes_by mid y u t rest e (λ u' s' f' h'. led more u' s' f' h') o.0 o.1.0 o.1.1.0 o.1.1.1.0 o.1.1.1.1
    led {y = y} {t = t} (leads.throws {v = v} r) u s f h =
        let o = found u s f r (come sight numbered (own_url nat_eq modules begins first.code.now.at.0) Guarded guarded u f t h) in
        throws_by y u t v o.0 o.1.0 o.1.1.0 o.1.1.1.0 o.1.1.1.1
    led {y = y} {t = t} (leads.calls {rest = rest} {f = g} {vs = vs} r) u s f h =
        let o = found u s f r (come sight numbered (own_url nat_eq modules begins first.code.now.at.0) Guarded guarded u f t h) in
        calls_by y u t g vs rest o.0 o.1.0 o.1.1.0 o.1.1.1.0 o.1.1.1.1
    led {y = y} {t = t} (leads.stopped {why = stops.Limit l} r) u s f h =
        let o = found u s f r (come sight numbered (own_url nat_eq modules begins first.code.now.at.0) Guarded guarded u f t h) in
        stops_by y u t l o.0 o.1.0 o.1.1.0 o.1.1.1.0 o.1.1.1.1
    led (leads.stopped {why = stops.Memory} r) u s f h = tt
