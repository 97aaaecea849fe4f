-- The marks of the bodies that have begun.
use Rattle.std.proofs.Common.{◌≡◌, ℕ, zero, suc, nat_eq, ◌<◌, ◌≤◌, Bool, true, false, ◌||◌, List, [], ◌∷◌, ◌++◌, length, map, take, get_or, replicate, refl, ap, subst, sym, ◌∙◌, arith}
use Rattle.std.specs.Prelude.{Result, Ok, Err, is_ok, if◌then◌else◌, slice_set}
use Rattle.std.specs.List.{list_any}
use Rattle.std.proofs.lemmas.Bool.{eqb-true, eq-eqb}
use Rattle.std.proofs.lemmas.List.{map-append}
use Rattle.std.proofs.lemmas.List.Folds.{list_any-append}
use Rattle.esm_base.specs.declared.module_id.ModuleId.{ModuleId}
use Rattle.esm_rewriting.specs.State.{begins_at}
use Rattle.esm_body.specs.Noted.{event_of, begun_in, is_marked, AreMarked}
use Rattle.esm_body.specs.declared.engine.Event.{Event}
use Rattle.esm_body.specs.declared.engine.Event.TheVariants as events

or_true : (b : Bool) → (b || true) ≡ true
or_true true = refl
or_true false = refl

or_false : (b : Bool) → (b || false) ≡ b
or_false true = refl
or_false false = refl

-- ---- marks

abbrev no_marks : List Bool
no_marks = []

none_marked : (k : ℕ) → is_marked no_marks k ≡ false
none_marked k = refl

-- new marks say that nothing has begun there
pub marks_more : (marks : List Bool) (n k : ℕ) → is_marked (marks ++ replicate n false) k ≡ is_marked marks k
marks_more [] zero k = refl
marks_more [] (suc n) zero = refl
marks_more [] (suc n) (suc k) = marks_more [] n k
marks_more (b ∷ marks) n zero = refl
marks_more (b ∷ marks) n (suc k) = marks_more marks n k

pub take_long : (marks : List Bool) (n : ℕ) → length marks ≤ n → take n marks ≡ marks
take_long [] zero l = refl
take_long [] (suc n) l = refl
take_long (b ∷ marks) zero l = absurd (omega (arith, l))
take_long (b ∷ marks) (suc n) l = ap (λ bs. b ∷ bs) (take_long marks n (omega (arith, l)))

-- past all marks nothing is marked
pub none_past : (marks : List Bool) (k : ℕ) → length marks ≤ k → is_marked marks k ≡ false
none_past [] k l = refl
none_past (b ∷ marks) zero l = absurd (omega (arith, l))
none_past (b ∷ marks) (suc k) l = none_past marks k (omega (arith, l))

-- the mark at a place
pub mark_at : (marks : List Bool) (k : ℕ) (d : Bool) → k < length marks → get_or marks k d ≡ is_marked marks k
mark_at [] k d l = absurd (omega (arith, l))
mark_at (a ∷ marks) zero d l = refl
mark_at (a ∷ marks) (suc k) d l = mark_at marks k d (omega (arith, l))

set_here : (marks : List Bool) (i : ℕ) → i < length marks → is_marked (slice_set marks i true) i ≡ true
set_here [] i l = absurd (omega (arith, l))
set_here (b ∷ marks) zero l = refl
set_here (b ∷ marks) (suc i) l = set_here marks i (omega (arith, l))

set_other : (marks : List Bool) (i k : ℕ) → (k ≡ i → ⊥) → is_marked (slice_set marks i true) k ≡ is_marked marks k
set_other [] i k n = refl
set_other (b ∷ marks) zero zero n = absurd (n refl)
set_other (b ∷ marks) zero (suc k) n = refl
set_other (b ∷ marks) (suc i) zero n = refl
set_other (b ∷ marks) (suc i) (suc k) n = set_other marks i k (λ e. n (ap suc e))

-- ---- events

begun_push : (es : List Event) (e : Event) (k : ℕ) → begun_in (es ++ e ∷ []) k ≡ (begun_in es k || begun_in (e ∷ []) k)
begun_push es e k =
    ap (list_any (begins_at nat_eq k)) (map-append event_of es (e ∷ [])) ∙ list_any-append (begins_at nat_eq k) (map event_of es) (event_of e ∷ [])

pub marks_same : (marks late : List Bool) (es : List Event) → ((k : ℕ) → is_marked late k ≡ is_marked marks k) → AreMarked marks es → AreMarked late es
marks_same marks late es s h = record { each = λ k. s k ∙ h.each k }

-- an event that is no start
marks_end : (marks : List Bool) (es : List Event) (e : Event) → ((k : ℕ) → begun_in (e ∷ []) k ≡ false) → AreMarked marks es → AreMarked marks (es ++ e ∷ [])
marks_end marks es e q h = record { each = λ k. h.each k ∙ sym (begun_push es e k ∙ ap (λ b. begun_in es k || b) (q k) ∙ or_false (begun_in es k)) }

-- such an event, where there was memory for it
pub marks_pushed : {E : Type 0} (marks : List Bool) (es late : List Event) (e : Event) (r : Result (Unit {0}) E) → late ≡ (if is_ok r then es ++ e ∷ [] else es) → ((k : ℕ) → begun_in (e ∷ []) k ≡ false) → AreMarked marks es → AreMarked marks late
marks_pushed marks es late e (Ok u) l q h = subst (AreMarked marks) (sym l) (marks_end marks es e q h)
marks_pushed marks es late e (Err end) l q h = subst (AreMarked marks) (sym l) h

-- a start
pub marks_start : (marks : List Bool) (es : List Event) (m : ModuleId) → m.0 < length marks → AreMarked marks es → AreMarked (slice_set marks m.0 true) (es ++ events.Begins m ∷ [])
marks_start marks es m l h = record { each = λ k. by k (nat_eq k m.0) refl }
  where
    by : (k : ℕ) (b : Bool) → nat_eq k m.0 ≡ b → is_marked (slice_set marks m.0 true) k ≡ begun_in (es ++ events.Begins m ∷ []) k
    by k true e =
        subst (λ j. is_marked (slice_set marks m.0 true) j ≡ true) (sym (eqb-true k m.0 e)) (set_here marks m.0 l)
        ∙ sym (begun_push es (events.Begins m) k ∙ ap (λ b. begun_in es k || (b || false)) e ∙ or_true (begun_in es k))
    by k false e =
        set_other marks m.0 k (λ s. let t : nat_eq k m.0 ≡ true = eq-eqb k m.0 s in let d : true ≡ false = sym t ∙ e in cc)
        ∙ h.each k ∙ sym (begun_push es (events.Begins m) k ∙ ap (λ b. begun_in es k || (b || false)) e ∙ or_false (begun_in es k))
