-- A rewriting over the code's world and one over the world of the definitions come to the same, where their calls do.
use Rattle.std.proofs.Common.{◌≡◌, ℕ, Bool, true, false, List, [], ◌∷◌, Option, Some, None, refl, ap, subst, sym}
use Rattle.std.specs.Prelude.{Result, Ok, Err, codes, if◌then◌else◌}
use Rattle.esm_base.specs.declared.limits.Limit.{Limit}
use Rattle.esm_values.specs.Acts.{Act, AnswerTo}
use Rattle.esm_values.specs.Acts.{Act as act}
use Rattle.esm_values.specs.Completion.{Completion, Normal, Throw}
use Rattle.esm_values.specs.Plans.{Acting, Rewritten, inside, Plan, Follows}
use Rattle.esm_values.specs.Plans.{Follows as follows}
use Rattle.esm_values.specs.Plans.Rewritten.{Goes, Leaves, Calls, Stops}
use Rattle.esm_values.specs.Plans.Plan.{Ends, Asks}
use Rattle.esm_values.specs.Operators.{Values, Textual, Known, Displayed, Refused, sum, operand, made, joined, faults, complete, to_text_by, textual, new_error, error_of}
use Rattle.esm_values.specs.Operators.{Look}
use Rattle.esm_values.specs.Operators.{Look as look}
use Rattle.esm_values.specs.declared.errors.FaultKind.{FaultKind}
use Rattle.esm_values.specs.declared.errors.FaultKind.TheVariants as kinds
use Rattle.esm_expr_eval.specs.Terms.{Term, Terms, LinkTerms}
use Rattle.esm_expr_eval.specs.Terms.Term.{Val, Or, And, Equal, Sum, Not, Post, Print, NewError, Import}
use Rattle.esm_expr_eval.specs.Terms.Terms.{none, more}
use Rattle.esm_expr_eval.specs.Terms.Compared.{compared}
use Rattle.esm_expr_eval.specs.Terms.LinkTerms.{call}
use Rattle.esm_expr_eval.specs.Rewriting.{AreValues, Rewrites, RewritesIn, or_on, and_on, enters, called, printed, error_made, import_begun}
use Rattle.esm_expr_eval.specs.Rewriting.AreValues.{nil, cons}
use Rattle.esm_expr_eval.specs.Rewriting.Rewrites.{fails, name, or_in, or, and_in, and, equal_in, equal_right, equal, equal_end, sum_in, sum_right, joins, sum_end, not_in, not_of, post_in, member_of, arguments, call_of, post_end, print_in, print, error_in, error, import_in, begins, own_url}
use Rattle.esm_expr_eval.specs.Rewriting.RewritesIn.{first, later}
use Rattle.esm_expr_eval.proofs.Unique.{no_step}
use Rattle.esm_rewriting.specs.declared.stop.Stop.{Stop}
use Rattle.esm_rewriting.specs.declared.stop.Stop.TheVariants as stops

values_one : {V : Type 0} {es : Terms V} {vs us : List V} → AreValues es vs → AreValues es us → us ≡ vs
values_one nil nil = refl
values_one (cons {v = v} a) (cons b) = ap (λ vs. v ∷ vs) (values_one a b)

-- ---- plans that ask the same

pub data AlikePlans {V A : Type 0} : Plan V Stop A → Plan V Limit A → Type 0 where
  goes : {a : A} → AlikePlans (Ends (Goes a)) (Ends (Goes a))
  leaves : {v : V} → AlikePlans (Ends (Leaves v)) (Ends (Leaves v))
  calls : {f : V} {vs : List V} {a : A} → AlikePlans (Ends (Calls f vs a)) (Ends (Calls f vs a))
  asks : {a : Act V} {next : AnswerTo a → Plan V Stop A} {other : AnswerTo a → Plan V Limit A}
      → ((r : AnswerTo a) → AlikePlans (next r) (other r)) → AlikePlans (Asks a next) (Asks a other)

module _ {V A : Type 0} (values : Values V) where
  faults_alike : (kind : FaultKind) (message : List ℕ) → AlikePlans {V = V} {A = A} (faults values kind message) (faults values kind message)
  faults_alike kind message = asks (λ v. leaves)

  complete_alike : (rest : V → A) (c : Completion V) → AlikePlans (complete values rest c) (complete values rest c)
  complete_alike rest (Normal v) = goes
  complete_alike rest (Throw v) = leaves

  made_by : (b : Bool) (rest : V → A) (t : List ℕ) (n : ℕ)
      → AlikePlans (if b then faults values kinds.RangeError (codes "text length") else Asks (act.Step n) (λ _. Ends (Goes (rest (values.text t)))))
      (if b then faults values kinds.RangeError (codes "text length") else Asks (act.Step n) (λ _. Ends (Goes (rest (values.text t)))))
  made_by true rest t n = faults_alike _ _
  made_by false rest t n = asks (λ r. goes)

  made_alike : (rest : V → A) (t : Option (List ℕ)) → AlikePlans (made values rest t) (made values rest t)
  made_alike rest None = faults_alike _ _
  made_alike rest (Some t) = made_by _ rest t _

  operand_alike : (v : V) (l : Look) (next : Look → Plan V Stop A) (other : Look → Plan V Limit A) → ((l : Look) → AlikePlans (next l) (other l))
      → AlikePlans (operand values v l next) (operand values v l other)
  operand_alike v look.Undefined next other h = h look.Undefined
  operand_alike v (look.Truth b) next other h = h (look.Truth b)
  operand_alike v (look.Text t) next other h = h (look.Text t)
  operand_alike v look.Func next other h = h look.Func
  operand_alike v look.Error next other h = asks (λ t. h (look.Text t))
  operand_alike v look.Other next other h = h look.Other

  sum_alike : (a b : V) (rest : V → A) → AlikePlans (sum values a b rest) (sum values a b rest)
  sum_alike a b rest = operand_alike a (values.look a) _ _ (λ l. operand_alike b (values.look b) _ _ (λ m. made_alike rest (joined l m)))

  error_alike : (rest : V → A) (message : List ℕ) → AlikePlans (new_error values rest message) (new_error values rest message)
  error_alike rest message = asks (λ v. goes)

  text_alike : (rest : V → A) (v : V) (t : Textual) → AlikePlans (to_text_by values v t (new_error values rest)) (to_text_by values v t (new_error values rest))
  text_alike rest v (Known t) = error_alike rest t
  text_alike rest v Displayed = asks (λ t. error_alike rest t)
  text_alike rest v Refused = faults_alike _ _

  error_of_alike : (rest : V → A) (v : V) (l : Look) → AlikePlans (error_of values rest v l) (error_of values rest v l)
  error_of_alike rest v look.Undefined = error_alike rest []
  error_of_alike rest v (look.Truth b) = text_alike rest v (textual (look.Truth b))
  error_of_alike rest v (look.Text t) = text_alike rest v (textual (look.Text t))
  error_of_alike rest v look.Func = text_alike rest v (textual look.Func)
  error_of_alike rest v look.Error = text_alike rest v (textual look.Error)
  error_of_alike rest v look.Other = text_alike rest v (textual look.Other)

module _ {V : Type 0} (values : Values V) where
  enters_alike : (f : V) (vs : List V) (ls : LinkTerms V) (l : Look) → AlikePlans (enters values f vs ls l) (enters values f vs ls l)
  enters_alike f vs ls look.Undefined = faults_alike values _ _
  enters_alike f vs ls (look.Truth b) = faults_alike values _ _
  enters_alike f vs ls (look.Text t) = faults_alike values _ _
  enters_alike f vs ls look.Func = calls
  enters_alike f vs ls look.Error = faults_alike values _ _
  enters_alike f vs ls look.Other = faults_alike values _ _

  called_alike : (f : V) (vs : List V) (ls : LinkTerms V) → AlikePlans (called values f vs ls) (called values f vs ls)
  called_alike f vs ls = asks (λ r. enters_alike f vs ls (values.look f))

  printed_alike : (vs : List V) → AlikePlans (printed values vs) (printed values vs)
  printed_alike vs = asks (λ r. asks (λ r. goes))

  error_made_alike : (v : V) → AlikePlans (error_made values v) (error_made values v)
  error_made_alike v = asks (λ r. error_of_alike values (λ u. Val u) v (values.look v))

  import_alike : (v : V) → AlikePlans (import_begun values v) (import_begun values v)
  import_alike v = asks (λ r. asks (λ p. goes))

-- ---- worlds whose calls come to the same

module _ {W U V : Type 0} (R : W → U → Type 0) where
  -- behind a stop for want of memory nothing is said
  abbrev pub Agrees : {A : Type 0} → Rewritten V Stop A → W → Rewritten V Limit A → U → Type 0
  Agrees (Goes a) x (Goes b) y = (b ≡ a) × R x y
  Agrees (Goes a) x (Leaves u) y = ⊥
  Agrees (Goes a) x (Calls g us b) y = ⊥
  Agrees (Goes a) x (Stops why) y = ⊥
  Agrees (Leaves v) x (Goes b) y = ⊥
  Agrees (Leaves v) x (Leaves u) y = (u ≡ v) × R x y
  Agrees (Leaves v) x (Calls g us b) y = ⊥
  Agrees (Leaves v) x (Stops why) y = ⊥
  Agrees (Calls f vs a) x (Goes b) y = ⊥
  Agrees (Calls f vs a) x (Leaves u) y = ⊥
  Agrees (Calls f vs a) x (Calls g us b) y = (g ≡ f) × (us ≡ vs) × (b ≡ a) × R x y
  Agrees (Calls f vs a) x (Stops why) y = ⊥
  Agrees (Stops (stops.Limit l)) x (Goes b) y = ⊥
  Agrees (Stops (stops.Limit l)) x (Leaves u) y = ⊥
  Agrees (Stops (stops.Limit l)) x (Calls g us b) y = ⊥
  Agrees (Stops (stops.Limit l)) x (Stops k) y = (k ≡ l) × R x y
  Agrees (Stops stops.Memory) x d y = Unit {0}

  agrees_inside : {A B : Type 0} (f : A → B) (x : W) (y : U) (c : Rewritten V Stop A) (d : Rewritten V Limit A) → Agrees c x d y → Agrees (inside f c) x (inside f d) y
  agrees_inside f x y (Goes a) (Goes b) h = (ap f h.0, h.1)
  agrees_inside f x y (Goes a) (Leaves u) h = absurd h
  agrees_inside f x y (Goes a) (Calls g us b) h = absurd h
  agrees_inside f x y (Goes a) (Stops why) h = absurd h
  agrees_inside f x y (Leaves v) (Goes b) h = absurd h
  agrees_inside f x y (Leaves v) (Leaves u) h = h
  agrees_inside f x y (Leaves v) (Calls g us b) h = absurd h
  agrees_inside f x y (Leaves v) (Stops why) h = absurd h
  agrees_inside f x y (Calls e vs a) (Goes b) h = absurd h
  agrees_inside f x y (Calls e vs a) (Leaves u) h = absurd h
  agrees_inside f x y (Calls e vs a) (Calls g us b) h = (h.0, h.1, ap f h.2, h.3)
  agrees_inside f x y (Calls e vs a) (Stops why) h = absurd h
  agrees_inside f x y (Stops (stops.Limit l)) (Goes b) h = absurd h
  agrees_inside f x y (Stops (stops.Limit l)) (Leaves u) h = absurd h
  agrees_inside f x y (Stops (stops.Limit l)) (Calls g us b) h = absurd h
  agrees_inside f x y (Stops (stops.Limit l)) (Stops k) h = h
  agrees_inside f x y (Stops stops.Memory) d h = tt

  pub record AlikeActs (acts : Acting W V Stop) (other : Acting U V Limit) : Type 0 where
    pub answered : {w x : W} {u y : U} {a : Act V} {r : AnswerTo a} {s : Result (AnswerTo a) Limit} → R w u → acts w a (Ok r) x → other u a s y → (s ≡ Ok r) × R x y
    pub stopped : {w x : W} {u y : U} {a : Act V} {l : Limit} {s : Result (AnswerTo a) Limit} → R w u → acts w a (Err (stops.Limit l)) x → other u a s y → (s ≡ Err l) × R x y

  module _ (acts : Acting W V Stop) (other : Acting U V Limit) (alike : AlikeActs acts other) where
    same_answer : (A : Type 0) (r s : A) → ◌≡◌ {A = Result A Limit} (Ok s) (Ok r) → r ≡ s
    same_answer A r s e = cc

    follows_alike : {A : Type 0} {p : Plan V Stop A} {q : Plan V Limit A} → AlikePlans p q
        → {w x : W} {u y : U} {c : Rewritten V Stop A} {d : Rewritten V Limit A} → R w u → Follows acts w p c x → Follows other u q d y → Agrees c x d y
    follows_alike goes r follows.ends follows.ends = (refl, r)
    follows_alike leaves r follows.ends follows.ends = (refl, r)
    follows_alike calls r follows.ends follows.ends = (refl, refl, refl, r)
    follows_alike (asks {a = a} {other = next} k) {w = w} {x = x} {u = u} {y = y} {c = c} {d = d} r (follows.asks {mid = m} one h f) (follows.asks {mid = mid} two g e) =
        let o = alike.answered r h g in
        follows_alike (k one) {w = m} {u = mid} o.1 f (subst (λ t. Follows other mid (next t) d y) (sym (same_answer (AnswerTo a) one two o.0)) e)
    follows_alike (asks k) r (follows.asks one h f) (follows.stops g) = let o = alike.answered r h g in absurd (let e = o.0 in cc)
    follows_alike (asks k) r (follows.stops {why = stops.Limit l} h) (follows.asks two g e) = let o = alike.stopped r h g in absurd (let e = o.0 in cc)
    follows_alike (asks k) r (follows.stops {why = stops.Limit l} h) (follows.stops g) = let o = alike.stopped r h g in (let e = o.0 in cc, o.1)
    follows_alike (asks k) r (follows.stops {why = stops.Memory} h) g = tt

    module _ (values : Values V) (url : W → List ℕ) (other_url : U → List ℕ) where
      abbrev One : W → Term V → Rewritten V Stop (Term V) → W → Type 0
      One = Rewrites values url acts

      abbrev Two : U → Term V → Rewritten V Limit (Term V) → U → Type 0
      Two = Rewrites values other_url other

      no_one : {w x : W} {v : V} {c : Rewritten V Stop (Term V)} → One w (Val v) c x → ⊥
      no_one s = no_step values url acts s

      no_two : {u y : U} {v : V} {d : Rewritten V Limit (Term V)} → Two u (Val v) d y → ⊥
      no_two s = no_step values other_url other s

      no_ones : {w x : W} {es : Terms V} {vs : List V} {c : Rewritten V Stop (Terms V)} → AreValues es vs → RewritesIn values url acts w es c x → ⊥
      no_ones nil s = elim s [ ]
      no_ones (cons a) (first s) = no_one s
      no_ones (cons a) (later s) = no_ones a s

      no_twos : {u y : U} {es : Terms V} {vs : List V} {d : Rewritten V Limit (Terms V)} → AreValues es vs → RewritesIn values other_url other u es d y → ⊥
      no_twos nil s = elim s [ ]
      no_twos (cons a) (first s) = no_two s
      no_twos (cons a) (later s) = no_twos a s

      or_alike : {w : W} {u : U} → R w u → (v : V) (es : Terms V) → Agrees (or_on values v es) w (or_on values v es) u
      or_alike r v none = (refl, r)
      or_alike r v (more e es) = (refl, r)

      and_alike : {w : W} {u : U} → R w u → (v : V) (es : Terms V) → Agrees (and_on values v es) w (and_on values v es) u
      and_alike r v none = (refl, r)
      and_alike r v (more e es) = (refl, r)

      mutual
        pub step_alike : {w x : W} {u y : U} {t : Term V} {c : Rewritten V Stop (Term V)} {d : Rewritten V Limit (Term V)} → R w u → other_url u ≡ url w → One w t c x → Two u t d y → Agrees c x d y
        step_alike r h fails fails = (refl, r)
        step_alike r h (name a) (name b) = follows_alike (asks (λ v. complete_alike values (λ v. Val v) v)) r a b
        step_alike r h (or_in {es = es} s) (or_in t) = agrees_inside (λ e. Or e es) _ _ _ _ (step_alike r h s t)
        step_alike r h (or_in s) or = absurd (no_one s)
        step_alike r h or (or_in t) = absurd (no_two t)
        step_alike r h (or {v = v} {es = es}) or = or_alike r v es
        step_alike r h (and_in {es = es} s) (and_in t) = agrees_inside (λ e. And e es) _ _ _ _ (step_alike r h s t)
        step_alike r h (and_in s) and = absurd (no_one s)
        step_alike r h and (and_in t) = absurd (no_two t)
        step_alike r h (and {v = v} {es = es}) and = and_alike r v es
        step_alike r h (equal_in {cs = cs} s) (equal_in t) = agrees_inside (λ e. Equal e cs) _ _ _ _ (step_alike r h s t)
        step_alike r h (equal_in s) (equal_right t) = absurd (no_one s)
        step_alike r h (equal_in s) equal = absurd (no_one s)
        step_alike r h (equal_in s) equal_end = absurd (no_one s)
        step_alike r h (equal_right s) (equal_in t) = absurd (no_two t)
        step_alike r h (equal_right {v = v} {b = b} {cs = cs} s) (equal_right t) = agrees_inside (λ e. Equal (Val v) (compared b e cs)) _ _ _ _ (step_alike r h s t)
        step_alike r h (equal_right s) equal = absurd (no_one s)
        step_alike r h equal (equal_in t) = absurd (no_two t)
        step_alike r h equal (equal_right t) = absurd (no_two t)
        step_alike r h equal equal = (refl, r)
        step_alike r h equal_end (equal_in t) = absurd (no_two t)
        step_alike r h equal_end equal_end = (refl, r)
        step_alike r h (sum_in {es = es} s) (sum_in t) = agrees_inside (λ e. Sum e es) _ _ _ _ (step_alike r h s t)
        step_alike r h (sum_in s) (sum_right t) = absurd (no_one s)
        step_alike r h (sum_in s) (joins b) = absurd (no_one s)
        step_alike r h (sum_in s) sum_end = absurd (no_one s)
        step_alike r h (sum_right s) (sum_in t) = absurd (no_two t)
        step_alike r h (sum_right {v = v} {es = es} s) (sum_right t) = agrees_inside (λ e. Sum (Val v) (more e es)) _ _ _ _ (step_alike r h s t)
        step_alike r h (sum_right s) (joins b) = absurd (no_one s)
        step_alike r h (joins a) (sum_in t) = absurd (no_two t)
        step_alike r h (joins a) (sum_right t) = absurd (no_two t)
        step_alike r h (joins {a = p} {b = q} {es = es} a) (joins b) = follows_alike (sum_alike values p q (λ v. Sum (Val v) es)) r a b
        step_alike r h sum_end (sum_in t) = absurd (no_two t)
        step_alike r h sum_end sum_end = (refl, r)
        step_alike r h (not_in s) (not_in t) = agrees_inside (λ e. Not e) _ _ _ _ (step_alike r h s t)
        step_alike r h (not_in s) not_of = absurd (no_one s)
        step_alike r h not_of (not_in t) = absurd (no_two t)
        step_alike r h not_of not_of = (refl, r)
        step_alike r h (post_in {ls = ls} s) (post_in t) = agrees_inside (λ e. Post e ls) _ _ _ _ (step_alike r h s t)
        step_alike r h (post_in s) (member_of b) = absurd (no_one s)
        step_alike r h (post_in s) (arguments t) = absurd (no_one s)
        step_alike r h (post_in s) (call_of q b) = absurd (no_one s)
        step_alike r h (post_in s) post_end = absurd (no_one s)
        step_alike r h (member_of a) (post_in t) = absurd (no_two t)
        step_alike r h (member_of {ls = ls} a) (member_of b) = follows_alike (asks (λ c. complete_alike values (λ v. Post (Val v) ls) c)) r a b
        step_alike r h (arguments s) (post_in t) = absurd (no_two t)
        step_alike r h (arguments {f = f} {ls = ls} s) (arguments t) = agrees_inside (λ es. Post (Val f) (call es ls)) _ _ _ _ (steps_alike r h s t)
        step_alike r h (arguments s) (call_of q b) = absurd (no_ones q s)
        step_alike r h (call_of p a) (post_in t) = absurd (no_two t)
        step_alike r h (call_of p a) (arguments t) = absurd (no_twos p t)
        step_alike {u = u} {y = y} {d = d} r h (call_of {f = f} {vs = vs} {ls = ls} p a) (call_of q b) =
            follows_alike (called_alike values f vs ls) r a (subst (λ vs. Follows other u (called values f vs ls) d y) (values_one p q) b)
        step_alike r h post_end (post_in t) = absurd (no_two t)
        step_alike r h post_end post_end = (refl, r)
        step_alike r h (print_in s) (print_in t) = agrees_inside (λ es. Print es) _ _ _ _ (steps_alike r h s t)
        step_alike r h (print_in s) (print q b) = absurd (no_ones q s)
        step_alike r h (print p a) (print_in t) = absurd (no_twos p t)
        step_alike {u = u} {y = y} {d = d} r h (print {vs = vs} p a) (print q b) =
            follows_alike (printed_alike values vs) r a (subst (λ vs. Follows other u (printed values vs) d y) (values_one p q) b)
        step_alike r h (error_in s) (error_in t) = agrees_inside (λ e. NewError e) _ _ _ _ (step_alike r h s t)
        step_alike r h (error_in s) (error b) = absurd (no_one s)
        step_alike r h (error a) (error_in t) = absurd (no_two t)
        step_alike r h (error {v = v} a) (error b) = follows_alike (error_made_alike values v) r a b
        step_alike r h (import_in s) (import_in t) = agrees_inside (λ e. Import e) _ _ _ _ (step_alike r h s t)
        step_alike r h (import_in s) (begins b) = absurd (no_one s)
        step_alike r h (begins a) (import_in t) = absurd (no_two t)
        step_alike r h (begins {v = v} a) (begins b) = follows_alike (import_alike values v) r a b
        step_alike r h own_url own_url = (ap (λ t. Val (values.text t)) h, r)

        pub steps_alike : {w x : W} {u y : U} {es : Terms V} {c : Rewritten V Stop (Terms V)} {d : Rewritten V Limit (Terms V)} → R w u → other_url u ≡ url w
            → RewritesIn values url acts w es c x → RewritesIn values other_url other u es d y → Agrees c x d y
        steps_alike r h (first {es = es} s) (first t) = agrees_inside (λ e. more e es) _ _ _ _ (step_alike r h s t)
        steps_alike r h (first s) (later t) = absurd (no_one s)
        steps_alike r h (later s) (first t) = absurd (no_two t)
        steps_alike r h (later {v = v} s) (later t) = agrees_inside (λ es. more (Val v) es) _ _ _ _ (steps_alike r h s t)
