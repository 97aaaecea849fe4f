-- What setting and writing a name come to.
use Rattle.std.proofs.Common.{◌≡◌, ℕ, nat_eq, zero, suc, ◌+◌, ◌<◌, ◌≤◌, Bool, true, false, List, [], ◌∷◌, ◌++◌, length, refl, ap, subst, sym, ◌∙◌, arith, get_or, slice_set, eqb, ◌⊎◌, inl, inr, MutBor}
use Rattle.std.proofs.lemmas.Bool.Decides.{eqb_tells}
use mathlib.Core.Bool.{true≢false}
use Rattle.std.specs.Prelude.{Option, Some, None, is_some, Result, Ok, Err, IfOk, option_map, if◌then◌else◌, ⊤}
use Rattle.esm_base.specs.declared.memory.Memory.{Memory}
use Rattle.std.specs.Arc.{arc_value}
use Rattle.std.specs.Option.{option_or}
use Rattle.std.specs.Str.{bytes_eq}
use Rattle.esm_values.specs.Code.{CodeValue, value_of}
use Rattle.esm_values.specs.Errors.{Errors}
use Rattle.esm_values.specs.declared.errors.FaultKind.{FaultKind}
use Rattle.esm_values.specs.declared.value.Value.{Value}
use Rattle.esm_promise.specs.Code.{Numbered}
use Rattle.esm_promise.specs.Outer.{Outer}
use Rattle.esm_env.specs.Modules.{Modules}
use Rattle.esm_env.specs.Calls.{scopes_of, IsWrittenBy, IsWrittenIn, IsInitialised, told_write}
use Rattle.esm_env.specs.Cells.{Cell, Cells}
use Rattle.esm_env.specs.Scopes.{Scopes, own_cell, scope_in, import_in, written_by, cells_of, wrote_set}
use Rattle.esm_env.specs.Makes.{OthersStay}
use Rattle.esm_env.specs.Faithful.{IsFaithful, HasScope, HasImports, IsLikeScope, AreScopesOf}
use Rattle.esm_env.specs.Laws.{WritesRight}
use Rattle.esm_env.specs.declared.scope.ModuleScope.{ModuleScope}
use Rattle.esm_env.specs.declared.scope.Target.{Target}
use Rattle.esm_env.specs.declared.scope.Target.TheVariants as targets
use Rattle.esm_env.specs.declared.scope.Wrote.{Wrote}
use Rattle.esm_env.specs.declared.scope.Wrote.TheVariants as wrote
use Rattle.esm_body.specs.SameScopes.{HaveSameScopes}
use Rattle.esm_rewriting.specs.Scopes.{Scope, in_scope, in_scopes, set_by, set_in, set_where, set_in_scopes}
use Rattle.esm_rewriting.specs.State.{Importing}
use Rattle.esm_rewriting.specs.Acts.{Inner, module_write, scope_write, write_in, set_at}
use Rattle.esm_body.specs.View.{state_of}
use Rattle.esm_body.specs.Slots.{slot_of, scope_of_slots}
use Rattle.esm_body.specs.Inner.Stack.{scopes_round}
use Rattle.esm_body.specs.Code.{scope_of_level}
use Rattle.esm_env.specs.NamePlaces.{first_place}
use Rattle.esm_body.specs.Inner.SlotPlaces.{names_of, set_slot}
use Rattle.esm_body.specs.Inner.Names.{place_at, IsFound}
use Rattle.esm_body.specs.Inner.Written.{SlotSet, LevelSet, OnlySlots, LevelWrote, slot_wrote, SlotWritten, SetWhere, TopSet, ScopesWrote, WritesAt, WritesTo, SetsAt, SetsTo, thrown, ThrowsNew, ThrowsWrote, Throws, IsLike, WritesName, SetsName}
use Rattle.esm_body.specs.Inner.World.{HasScopes}
use Rattle.esm_body.specs.declared.inside.Inside.{Inside}
use Rattle.esm_body.specs.declared.engine.Engine.{Engine}
use Rattle.esm_body.specs.declared.work.Slot.{Slot}
use Rattle.esm_body.specs.declared.work.Level.{Level}
use Rattle.esm_body.proofs.LevelNames.{rounds, round_all, cell_of, CellAt, cell_at_place, scopes_last, lacks, Innermost, place_bound, place_there, found_none, found_some}

-- ---- levels

pub level_set : (ls : List Level) (i at : ℕ) (d l : Level) (v : Value) → i < length ls → SlotSet (get_or ls i d) at v l → LevelSet ls i at v (slice_set ls i l)
level_set [] i at d l v h s = absurd (omega (arith, h))
level_set (m ∷ ls) zero at d l v h s = (s, refl)
level_set (m ∷ ls) (suc i) at d l v h s = (refl, level_set ls i at d l v (omega (arith, h)) s)

pub only_same : (ls : List Level) → OnlySlots ls ls
only_same [] = tt
only_same (l ∷ ls) = (refl, refl, only_same ls)

only_as : (ls ms : List Level) → ms ≡ ls → OnlySlots ls ms
only_as ls ms e = subst (OnlySlots ls) (sym e) (only_same ls)

set_none : (l : Level) (ls : List Level) (i at : ℕ) (v : Value) → LevelSet (l ∷ ls) i at v [] → ⊥
set_none l ls zero at v h = h
set_none l ls (suc i) at v h = h

pub only_set : (ls : List Level) (i at : ℕ) (v : Value) (new : List Level) → LevelSet ls i at v new → OnlySlots ls new
only_set [] i at v new h = absurd h
only_set (l ∷ ls) i at v [] h = absurd (set_none l ls i at v h)
only_set (l ∷ ls) zero at v (m ∷ ms) h = (h.0.0, h.0.1, only_as ls ms h.1)
only_set (l ∷ ls) (suc i) at v (m ∷ ms) h = (ap (λ (l : Level). l.kind) h.0, ap (λ (l : Level). l.work) h.0, only_set ls i at v ms h.1)

only_wrote : (ls : List Level) (i at : ℕ) (v : Value) (result : Wrote) (new : List Level) → LevelWrote ls i at v result new → OnlySlots ls new
only_wrote ls i at v wrote.Done new h = only_set ls i at v new h
only_wrote ls i at v wrote.Unset new h = only_as ls new h
only_wrote ls i at v wrote.Constant new h = only_as ls new h
only_wrote ls i at v wrote.Undeclared new h = only_as ls new h

only_where : (o : Option ℕ) (ls : List Level) (i : ℕ) (v : Value) (new : List Level) → SetWhere o ls i v new → OnlySlots ls new
only_where None ls i v new h = only_as ls new h
only_where (Some at) ls i v new h = only_set ls i at v new h

-- ---- one scope

abbrev PlacedBy : Slot → List Slot → List ℕ → ℕ → Value → Bool → Type 0
PlacedBy s ss x at v b = (if b then Some 0 else option_map suc (first_place (names_of ss) x)) ≡ Some at
    → scope_of_slots (set_slot (s ∷ ss) at v) ≡ set_by b (slot_of s) (value_of v) (scope_of_slots ss) (set_in (scope_of_slots ss) x (value_of v))

behind : (s : Slot) (ss : List Slot) (x : List ℕ) (at : ℕ) (v : Value) (o : Option ℕ) → first_place (names_of ss) x ≡ o
    → ((at : ℕ) → first_place (names_of ss) x ≡ Some at → scope_of_slots (set_slot ss at v) ≡ set_in (scope_of_slots ss) x (value_of v))
    → option_map suc o ≡ Some at → scope_of_slots (set_slot (s ∷ ss) at v) ≡ slot_of s ∷ set_in (scope_of_slots ss) x (value_of v)
behind s ss x at v None e again h = absurd cc
behind s ss x zero v (Some j) e again h = absurd (let k : suc j ≡ zero = cc in omega (arith, k))
behind s ss x (suc at) v (Some j) e again h = ap (λ c. slot_of s ∷ c) (again at (let k : suc j ≡ suc at = cc in let same : j ≡ at = omega (arith, k) in e ∙ ap Some same))

placed_by : (s : Slot) (ss : List Slot) (x : List ℕ) (at : ℕ) (v : Value) (b : Bool)
    → ((at : ℕ) → first_place (names_of ss) x ≡ Some at → scope_of_slots (set_slot ss at v) ≡ set_in (scope_of_slots ss) x (value_of v)) → PlacedBy s ss x at v b
placed_by s ss x zero v true again = λ h. refl
placed_by s ss x (suc at) v true again = λ h. absurd (let k : zero ≡ suc at = cc in omega (arith, k))
placed_by s ss x at v false again = λ h. behind s ss x at v (first_place (names_of ss) x) refl again h

-- the slot with the name is set
scope_set : (ss : List Slot) (x : List ℕ) (at : ℕ) (v : Value) → first_place (names_of ss) x ≡ Some at → scope_of_slots (set_slot ss at v) ≡ set_in (scope_of_slots ss) x (value_of v)
scope_set [] x at v h = absurd cc
scope_set (s ∷ ss) x at v h = placed_by s ss x at v (bytes_eq s.name x) (λ at k. scope_set ss x at v k) h

unset_by : (s : Slot) (ss : List Slot) (x : List ℕ) (v : Value) (b : Bool) (o : Option ℕ)
    → (o ≡ None → set_in (scope_of_slots ss) x (value_of v) ≡ scope_of_slots ss) → (if b then Some 0 else option_map suc o) ≡ None
    → set_by b (slot_of s) (value_of v) (scope_of_slots ss) (set_in (scope_of_slots ss) x (value_of v)) ≡ scope_of_slots (s ∷ ss)
unset_by s ss x v true o again h = absurd cc
unset_by s ss x v false None again h = ap (λ c. slot_of s ∷ c) (again refl)
unset_by s ss x v false (Some j) again h = absurd cc

-- a scope without the name stays
scope_unset : (ss : List Slot) (x : List ℕ) (v : Value) → first_place (names_of ss) x ≡ None → set_in (scope_of_slots ss) x (value_of v) ≡ scope_of_slots ss
scope_unset [] x v h = refl
scope_unset (s ∷ ss) x v h = unset_by s ss x v (bytes_eq s.name x) (first_place (names_of ss) x) (scope_unset ss x v) h

in_some : (ss : List Slot) (x : List ℕ) (j : ℕ) → CellAt ss x (Some j) → (c : Cell CodeValue) × (in_scope (scope_of_slots ss) x ≡ Some c)
in_some [] x j h = absurd (let a = h.0 in omega (arith, a))
in_some (s ∷ ss) x j h = (cell_of (get_or (s ∷ ss) j s), h.1 s)

place_some : (ss : List Slot) (x : List ℕ) (j : ℕ) → first_place (names_of ss) x ≡ Some j → (c : Cell CodeValue) × (in_scope (scope_of_slots ss) x ≡ Some c)
place_some ss x j h = in_some ss x j (subst (CellAt ss x) h (cell_at_place ss x))

-- ---- all scopes

module _ (x : List ℕ) (v : CodeValue) where
  last_by : (o : Option (Cell CodeValue)) (t : Scope CodeValue) (ss : List (Scope CodeValue)) (s : Scope CodeValue)
      → (in_scopes ss x ≡ None → set_in_scopes (ss ++ s ∷ []) x v ≡ ss ++ set_in_scopes (s ∷ []) x v)
      → option_or o (in_scopes ss x) ≡ None → set_where o t (ss ++ s ∷ []) x v (set_in_scopes (ss ++ s ∷ []) x v) ≡ t ∷ ss ++ set_in_scopes (s ∷ []) x v
  last_by None t ss s again h = ap (λ ss. t ∷ ss) (again h)
  last_by (Some c) t ss s again h = absurd cc

  -- where none of these declares it, the scope behind them is set
  last_set : (ss : List (Scope CodeValue)) (s : Scope CodeValue) → in_scopes ss x ≡ None → set_in_scopes (ss ++ s ∷ []) x v ≡ ss ++ set_in_scopes (s ∷ []) x v
  last_set [] s h = refl
  last_set (t ∷ ss) s h = last_by (in_scope t x) t ss s (last_set ss s) h

  front_by : (o : Option (Cell CodeValue)) (t : Scope CodeValue) (ss : List (Scope CodeValue)) (s : Scope CodeValue) (c : Cell CodeValue)
      → (in_scopes ss x ≡ Some c → set_in_scopes (ss ++ s ∷ []) x v ≡ set_in_scopes ss x v ++ s ∷ [])
      → option_or o (in_scopes ss x) ≡ Some c
      → set_where o t (ss ++ s ∷ []) x v (set_in_scopes (ss ++ s ∷ []) x v) ≡ set_where o t ss x v (set_in_scopes ss x v) ++ s ∷ []
  front_by None t ss s c again h = ap (λ ss. t ∷ ss) (again h)
  front_by (Some d) t ss s c again h = refl

  -- where one of these declares it, the scope behind them stays
  front_set : (ss : List (Scope CodeValue)) (s : Scope CodeValue) (c : Cell CodeValue) → in_scopes ss x ≡ Some c → set_in_scopes (ss ++ s ∷ []) x v ≡ set_in_scopes ss x v ++ s ∷ []
  front_set [] s c h = absurd cc
  front_set (t ∷ ss) s c h = front_by (in_scope t x) t ss s c (front_set ss s c) h

  one_by : (s : Scope CodeValue) (o : Option (Cell CodeValue)) (c : Cell CodeValue) → o ≡ Some c → set_where o s [] x v [] ≡ set_in s x v ∷ []
  one_by s None c h = absurd cc
  one_by s (Some d) c h = refl

has_some : (ls : List Level) (k j : ℕ) (x : List ℕ) → Innermost ls k j x → (c : Cell CodeValue) × (in_scopes (rounds ls) x ≡ Some c)
has_some [] k j x h = absurd (let a = h.0 in cc)
has_some (l ∷ ls) zero j x h =
    let c = place_some l.slots x j h.0 in (
      c.0,
      scopes_last (rounds ls) (scope_of_level l) x
          ∙ ap (λ o. option_or o (in_scope (scope_of_level l) x)) (lacks ls x (λ i. h.1 (suc i) (omega arith))) ∙ c.1,
    )
has_some (l ∷ ls) (suc k) j x h =
    let c = has_some ls k j x (h.0, λ i lt. h.1 (suc i) (omega (arith, lt))) in
    (c.0, scopes_last (rounds ls) (scope_of_level l) x ∙ ap (λ o. option_or o (in_scope (scope_of_level l) x)) c.1)

level_is : (l m : Level) (x : List ℕ) (j : ℕ) (v : Value) → first_place (names_of l.slots) x ≡ Some j → SlotSet l j v m → scope_of_level m ≡ set_in (scope_of_level l) x (value_of v)
level_is l m x j v p h = ap scope_of_slots h.2 ∙ scope_set l.slots x j v p

-- the innermost level that declares the name is set
rounds_set : (ls : List Level) (k j : ℕ) (x : List ℕ) (v : Value) (new : List Level) → Innermost ls k j x → LevelSet ls k j v new → rounds new ≡ set_in_scopes (rounds ls) x (value_of v)
rounds_set [] k j x v new i h = absurd h
rounds_set (l ∷ ls) k j x v [] i h = absurd (set_none l ls k j v h)
rounds_set (l ∷ ls) zero j x v (m ∷ ms) i h =
    let c = place_some l.slots x j i.0 in
    let one = level_is l m x j v i.0 h.0 in
    (λ t. rounds (h.1 t) ++ one t ∷ [])
    ∙ ap (λ one. rounds ls ++ one) (sym (one_by x (value_of v) (scope_of_level l) (in_scope (scope_of_level l) x) c.0 c.1))
    ∙ sym (last_set x (value_of v) (rounds ls) (scope_of_level l) (lacks ls x (λ n. i.1 (suc n) (omega arith))))
rounds_set (l ∷ ls) (suc k) j x v (m ∷ ms) i h =
    let in_front : Innermost ls k j x = (i.0, λ n lt. i.1 (suc n) (omega (arith, lt))) in
    let c = has_some ls k j x in_front in
    let inner = rounds_set ls k j x v ms in_front h.1 in
    (λ t. inner t ++ scope_of_level (h.0 t) ∷ []) ∙ sym (front_set x (value_of v) (rounds ls) (scope_of_level l) c.0 c.1)

round_set : (ls : List Level) (k j : ℕ) (x : List ℕ) (v : Value) (new : List Level) → IsFound ls x (Some (k, j)) → LevelSet ls k j v new
    → scopes_round new ≡ set_in_scopes (scopes_round ls) x (value_of v)
round_set [] k j x v new f h = absurd h
round_set (b ∷ ls) k j x v [] f h = absurd (set_none b ls k j v h)
round_set (b ∷ ls) zero j x v (c ∷ ms) f h = absurd (let a = f.0 in omega (arith, a))
round_set (b ∷ ls) (suc k) j x v (c ∷ ms) f h =
    round_all c ms ∙ rounds_set ls k j x v ms (f.1, λ i lt. f.2 (suc i) (omega (arith, lt))) h.1
    ∙ ap (λ ss. set_in_scopes ss x (value_of v)) (sym (round_all b ls))

-- ---- the innermost level

abbrev set_first : List (Scope CodeValue) → List ℕ → CodeValue → List (Scope CodeValue)
set_first [] x v = []
set_first (s ∷ ss) x v = set_in s x v ∷ ss

first_back : (ss : List (Scope CodeValue)) (u t : Scope CodeValue) (x : List ℕ) (v : CodeValue) → set_first ((ss ++ u ∷ []) ++ t ∷ []) x v ≡ set_first (ss ++ u ∷ []) x v ++ t ∷ []
first_back [] u t x v = refl
first_back (s ∷ ss) u t x v = refl

not_nil : (ss : List (Scope CodeValue)) (s : Scope CodeValue) → ss ++ s ∷ [] ≡ [] → ⊥
not_nil [] s h = absurd cc
not_nil (t ∷ ss) s h = absurd cc

top_some : (ls : List Level) (k j : ℕ) (x : List ℕ) (v : Value) (new : List Level) → suc k ≡ length ls → place_at ls k x ≡ Some j → LevelSet ls k j v new
    → rounds new ≡ set_first (rounds ls) x (value_of v)
top_some [] k j x v new e p h = absurd h
top_some (l ∷ ls) k j x v [] e p h = absurd (set_none l ls k j v h)
top_some (l ∷ []) zero j x v (m ∷ ms) e p h = let one = level_is l m x j v p h.0 in λ t. rounds (h.1 t) ++ one t ∷ []
top_some (l ∷ n ∷ ls) zero j x v (m ∷ ms) e p h = absurd (omega (arith, e))
top_some (l ∷ []) (suc k) j x v (m ∷ ms) e p h = absurd (omega (arith, e))
top_some (l ∷ n ∷ ls) (suc k) j x v (m ∷ ms) e p h =
    let inner = top_some (n ∷ ls) k j x v ms (omega (arith, e)) p h.1 in
    (λ t. inner t ++ scope_of_level (h.0 t) ∷ []) ∙ sym (first_back (rounds ls) (scope_of_level n) (scope_of_level l) x (value_of v))

top_none : (ls : List Level) (k : ℕ) (x : List ℕ) (v : Value) → suc k ≡ length ls → place_at ls k x ≡ None → rounds ls ≡ set_first (rounds ls) x (value_of v)
top_none [] k x v e p = refl
top_none (l ∷ []) zero x v e p = sym (ap (λ s. s ∷ []) (scope_unset l.slots x v p))
top_none (l ∷ n ∷ ls) zero x v e p = absurd (omega (arith, e))
top_none (l ∷ []) (suc k) x v e p = absurd (omega (arith, e))
top_none (l ∷ n ∷ ls) (suc k) x v e p =
    ap (λ ss. ss ++ scope_of_level l ∷ []) (top_none (n ∷ ls) k x v (omega (arith, e)) p)
    ∙ sym (first_back (rounds ls) (scope_of_level n) (scope_of_level l) x (value_of v))

top_round : (b : Level) (ls : List Level) (k : ℕ) (x : List ℕ) (v : Value) (new : List Level) (o : Option ℕ) → suc k ≡ length ls → place_at ls k x ≡ o
    → SetWhere o (b ∷ ls) (suc k) v new → scopes_round new ≡ set_first (scopes_round (b ∷ ls)) x (value_of v)
top_round b ls k x v new None e p h =
    ap scopes_round h ∙ round_all b ls ∙ top_none ls k x v e p ∙ ap (λ ss. set_first ss x (value_of v)) (sym (round_all b ls))
top_round b ls k x v [] (Some j) e p h = absurd (set_none b ls (suc k) j v h)
top_round b ls k x v (c ∷ ms) (Some j) e p h =
    round_all c ms ∙ top_some ls k j x v ms e p h.1 ∙ ap (λ ss. set_first ss x (value_of v)) (sym (round_all b ls))

sets_some : (ss new : List (Scope CodeValue)) (e : Scopes) (m : ℕ) (x : List ℕ) (v : Value) → (ss ≡ [] → ⊥) → new ≡ set_first ss x (value_of v) → SetsAt ss e m x v new e
sets_some [] new e m x v n h = absurd (n refl)
sets_some (s ∷ ss) new e m x v n h = (h, refl)

pub sets_block : (old : List Level) (top : ℕ) (x : List ℕ) (v : Value) (new : List Level) (e : Scopes) (m : ℕ) → 1 < length old → top + 1 ≡ length old → TopSet old top x v new
    → SetsTo old e m x v new e
sets_block [] top x v new e m lt is h = absurd (omega (arith, lt))
sets_block (b ∷ []) top x v new e m lt is h = absurd (omega (arith, lt))
sets_block (b ∷ l ∷ ls) zero x v new e m lt is h = absurd (omega (arith, is))
sets_block (b ∷ l ∷ ls) (suc k) x v new e m lt is h = (
  only_where (place_at (b ∷ l ∷ ls) (suc k) x) (b ∷ l ∷ ls) (suc k) v new h,
  sets_some (scopes_round (b ∷ l ∷ ls)) (scopes_round new) e m x v (not_nil (scopes_round (l ∷ ls)) (scope_of_level l))
      (top_round b (l ∷ ls) k x v new (place_at (l ∷ ls) k x) (omega (arith, is)) refl h),
)

pub sets_module : (old : List Level) (e late : Scopes) (m : ℕ) (x : List ℕ) (v : Value) → length old ≤ 1 → IsInitialised e m x v late → SetsTo old e m x v old late
sets_module [] e late m x v le h = (tt, (h, refl))
sets_module (b ∷ []) e late m x v le h = ((refl, refl, tt), (h, refl))
sets_module (b ∷ c ∷ ls) e late m x v le h = absurd (omega (arith, le))

-- ---- the place of a name in a level

module _ (old : List Level) (level : ℕ) (x : List ℕ) (d : Level) (below : level < length old) where
  pub top_place : (at : ℕ) → first_place (names_of (get_or old level d).slots) x ≡ Some at → (d : Level) → at < length (get_or old level d).slots
  top_place at p = (place_bound old level at x (place_there old level x d below ∙ p)).1

  pub top_set : (at : ℕ) (v : Value) (new : List Level) → first_place (names_of (get_or old level d).slots) x ≡ Some at → LevelSet old level at v new → TopSet old level x v new
  top_set at v new p h = subst (λ o. SetWhere o old level v new) (sym (place_there old level x d below ∙ p)) h

  pub top_stays : (v : Value) → first_place (names_of (get_or old level d).slots) x ≡ None → TopSet old level x v old
  top_stays v p = subst (λ o. SetWhere o old level v old) (sym (place_there old level x d below ∙ p)) refl

-- the names of a level that was looked up
pub place_as : (old : List Level) (level : ℕ) (x : List ℕ) (d l : Level) (o : Option ℕ) → l ≡ get_or old level d → first_place (names_of l.slots) x ≡ o
    → first_place (names_of (get_or old level d).slots) x ≡ o
place_as old level x d l o e p = ap (λ (l : Level). first_place (names_of l.slots) x) (sym e) ∙ p

pub slot_written : (old : List Level) (level at : ℕ) (v : Value) (r result : Wrote) (new : List Level) (d l : Level) (s : Slot) → l ≡ get_or old level d
    → r ≡ slot_wrote (get_or l.slots at s) → r ≡ result → LevelWrote old level at v result new → SlotWritten old level at v result new
slot_written old level at v r result new d l s e w q h = ((d, s, sym q ∙ w ∙ ap (λ (l : Level). slot_wrote (get_or l.slots at s)) e), h)

pub throws_as : (x message : List ℕ) (kind : FaultKind) (r : Wrote) (old : Errors) (told : Result (Option Value) Memory) (new : Errors)
    → ((o : Option Value) → ThrowsNew kind message old o new → ThrowsWrote x r old o new) → IfOk told (λ o. ThrowsNew kind message old o new) → Throws x r old told new
throws_as x message kind r old (Ok o) new k h = k o h
throws_as x message kind r old (Err end) new k h = tt

-- ---- what is written

block_scopes : (ls : List Level) (k j : ℕ) (x : List ℕ) (v : Value) (result : Wrote) (new : List Level) → IsFound ls x (Some (k, j)) → LevelWrote ls k j v result new
    → ScopesWrote (scopes_round ls) x v result (scopes_round new)
block_scopes ls k j x v wrote.Done new f h = round_set ls k j x v new f h
block_scopes ls k j x v wrote.Unset new f h = ap scopes_round h
block_scopes ls k j x v wrote.Constant new f h = ap scopes_round h
block_scopes ls k j x v wrote.Undeclared new f h = ap scopes_round h

pub writes_block : (old : List Level) (k j : ℕ) (x : List ℕ) (v : Value) (result : Wrote) (new : List Level) (e : Scopes) (m : ℕ) → IsFound old x (Some (k, j))
    → SlotWritten old k j v result new → WritesTo old e m x v result new e
writes_block old k j x v result new e m f h = (
  only_wrote old k j v result new h.1,
  subst (λ o. WritesAt o (scopes_round old) e m x v result (scopes_round new) e) (sym (found_some old x (k, j) f h.0.0 h.0.1))
      (h.0.2, refl, block_scopes old k j x v result new f h.1),
)

pub writes_module : (old : List Level) (x : List ℕ) (v : Value) (result : Wrote) (e late : Scopes) (m : ℕ) → IsFound old x None
    → IsWrittenIn e m x v result late → WritesTo old e m x v result old late
writes_module old x v result e late m f h =
    (only_same old, subst (λ o. WritesAt o (scopes_round old) e m x v result (scopes_round old) late) (sym (found_none old x f)) (h, refl))

-- ---- scopes of modules that were written

scope_late : (e late : Scopes) → ((n : ℕ) → IsLikeScope (scope_in e n) (scope_in late n)) → (m : ℕ) (s : ModuleScope) → scope_in e m ≡ Some s
    → (t : ModuleScope) × (scope_in late m ≡ Some t)
scope_late e late like m s k = by (scope_in late m) refl (subst (λ o. IsLikeScope o (scope_in late m)) k (like m))
  where
    by : (p : Option ModuleScope) → scope_in late m ≡ p → IsLikeScope (Some s) (scope_in late m) → (t : ModuleScope) × (scope_in late m ≡ Some t)
    by None e h = absurd (subst (IsLikeScope (Some s)) e h)
    by (Some t) e h = (t, e)

has_late : (e late : Scopes) → ((n : ℕ) → IsLikeScope (scope_in e n) (scope_in late n)) → (o : Option Target) → HasScope e o → HasScope late o
has_late e late like None h = tt
has_late e late like (Some (targets.Cell m x)) h = scope_late e late like m.0 h.0 h.1
has_late e late like (Some (targets.Whole m)) h = scope_late e late like m.0 h.0 h.1

scope_early : (e late : Scopes) → ((n : ℕ) → IsLikeScope (scope_in e n) (scope_in late n)) → (m : ℕ) (t : ModuleScope) → scope_in late m ≡ Some t
    → (s : ModuleScope) × (scope_in e m ≡ Some s) × (t.imports ≡ s.imports) × (t.tree ≡ s.tree)
scope_early e late like m t k = by (scope_in e m) refl (subst (IsLikeScope (scope_in e m)) k (like m))
  where
    by : (p : Option ModuleScope) → scope_in e m ≡ p → IsLikeScope (scope_in e m) (Some t)
        → (s : ModuleScope) × (scope_in e m ≡ Some s) × (t.imports ≡ s.imports) × (t.tree ≡ s.tree)
    by None e h = absurd (subst (λ o. IsLikeScope o (Some t)) e h)
    by (Some s) e h = let l = subst (λ o. IsLikeScope o (Some t)) e h in (s, e, l.0, l.1)

-- where the scope of a linked module alone has changed, what isn't linked has nothing written still
unwritten_late : (g : Modules ℕ) (linked : ℕ → Bool) (e late : Scopes) (m : ℕ) → AreScopesOf g linked e → linked m ≡ true → OthersStay e m late
    → (n : ℕ) (x : List ℕ) → linked n ≡ false → cells_of late n x ≡ None
unwritten_late g linked e late m a here others n x away =
    let other : n ≡ m → ⊥ = λ same. true≢false (sym here ∙ ap linked (sym same) ∙ away) in
    ap (λ o. written_by o x) (others n other) ∙ a.unwritten n x away

like_scopes : (g : Modules ℕ) (linked : ℕ → Bool) (e late : Scopes) (m : ℕ) → AreScopesOf g linked e → IsFaithful g late
    → ((n : ℕ) → IsLikeScope (scope_in e n) (scope_in late n)) → linked m ≡ true → OthersStay e m late → AreScopesOf g linked late
like_scopes g linked e late m a faithful like here others = record {
  faithful = faithful;
  trees = λ m t k. let s = scope_early e late like m t k in (λ j. (arc_value (s.3 j)).items) ∙ a.trees m s.0 s.1;
  made = λ m l. let s = a.made m l in scope_late e late like m s.0 s.1;
  bound = λ m t l k x. let s = scope_early e late like m t k in
      rw s.2 (has_late e late like (import_in s.0.imports.items x) (a.bound m s.0 l s.1 x));
  imports = λ m t l k x. let s = scope_early e late like m t k in (λ j. is_some (import_in (s.2 j).items x)) ∙ a.imports m s.0 l s.1 x;
  inside = λ m t x i k im. let s = scope_early e late like m t k in a.inside m s.0 x i s.1 im;
  unwritten = unwritten_late g linked e late m a here others;
}

-- what is like a scope is there where that is
like_there : (o p : Option ModuleScope) → IsLikeScope o p → is_some p ≡ is_some o
like_there None None h = refl
like_there None (Some t) h = absurd h
like_there (Some s) None h = absurd h
like_there (Some s) (Some t) h = refl

-- a write makes no scope
pub writes_same : (o : Option (Cell CodeValue)) (ss new : List (Scope CodeValue)) (e late : Scopes) (m : ℕ) (x : List ℕ) (v : Value) (result : Wrote) → WritesRight
    → WritesAt o ss e m x v result new late → HaveSameScopes e late
writes_same (Some c) ss new e late m x v result right h n = ap (λ l. is_some (scope_in l n)) h.1
writes_same None ss new e late m x v result right h n = like_there (scope_in e n) (scope_in late n) (right.stays_written e late m x v result h.0 n)

pub sets_same : (ss new : List (Scope CodeValue)) (e late : Scopes) (m : ℕ) (x : List ℕ) (v : Value) → WritesRight → SetsAt ss e m x v new late → HaveSameScopes e late
sets_same [] new e late m x v right h n = like_there (scope_in e n) (scope_in late n) (right.stays_set e late m x v h.0 n)
sets_same (s ∷ ss) new e late m x v right h n = ap (λ l. is_some (scope_in l n)) h.1

abbrev Stays : Wrote → Type 0
Stays wrote.Done = ⊥
Stays wrote.Unset = ⊤
Stays wrote.Constant = ⊤
Stays wrote.Undeclared = ⊤

same_by : (o p : Option ModuleScope) (x : List ℕ) (v : Value) (result : Wrote) → Stays result → IsWrittenBy o x v result p → p ≡ o
same_by None p x v result k h = h.1
same_by (Some s) None x v result k h = absurd h
same_by (Some s) (Some t) x v wrote.Done k h = absurd k
same_by (Some s) (Some t) x v wrote.Unset k h = ap Some h.1
same_by (Some s) (Some t) x v wrote.Constant k h = ap Some h.1
same_by (Some s) (Some t) x v wrote.Undeclared k h = ap Some h.1

same_scope : (e late : Scopes) (m : ℕ) (x : List ℕ) (v : Value) (result : Wrote) → Stays result → IsWrittenIn e m x v result late → (n : ℕ) → scope_in late n ≡ scope_in e n
same_scope e late m x v result k h n = by (eqb_tells n m)
  where
    by : ((eqb n m ≡ true) × (n ≡ m)) ⊎ ((eqb n m ≡ false) × (n ≡ m → ⊥)) → scope_in late n ≡ scope_in e n
    by (inl q) = rw q.1 (same_by (scope_in e m) (scope_in late m) x v result k h.0)
    by (inr other) = h.1 n other.1

pub same_cells : (e late : Scopes) (m : ℕ) (x : List ℕ) (v : Value) (result : Wrote) → Stays result → IsWrittenIn e m x v result late → cells_of late ≡ cells_of e
same_cells e late m x v result k h = λ j. λ n y. written_by (same_scope e late m x v result k h n j) y

-- ---- over the definitions

module _ {I : Type 0} (modules : I → Modules ℕ) (linked : I → ℕ → Bool) (begins : Importing ℕ I) (engine : Engine) (ps : Numbered) (i : I) where
  abbrev At : List (Scope CodeValue) → Scopes → Errors → Inner ℕ I
  At ss e es = record { scopes = ss; state = state_of engine e ps es i }

  -- with these cells in place of its own
  abbrev With : List (Scope CodeValue) → Scopes → Errors → Cells ℕ → Inner ℕ I
  With ss e es cells = record { scopes = ss; state = record (state_of engine e ps es i) { cells = cells } }

  block_is : (old new : List (Scope CodeValue)) (e : Scopes) (m : ℕ) (x : List ℕ) (v : Value) (es late : Errors) (told : Option Value) (b : Bool) (u : Option CodeValue)
      → ScopesWrote old x v (wrote_set b u) new → ThrowsWrote x (wrote_set b u) es told late
      → (thrown told, At new e late) ≡ scope_write nat_eq modules begins m (At old e es) x (value_of v) b u
  block_is old new e m x v es late told b None s t = λ j. (t.0 j, At (s j) e (t.1 j))
  block_is old new e m x v es late told true (Some u) s t = λ j. (t.0 j, At (s j) e (t.1 j))
  block_is old new e m x v es late told false (Some u) s t = λ j. (t.0 j, At (s j) e (t.1 j))

  module_is : (old : List (Scope CodeValue)) (e late : Scopes) (m : ℕ) (x : List ℕ) (v : Value) (result : Wrote) (es new : Errors) (told : Option Value)
      → IsWrittenIn e m x v result late → ThrowsWrote x result es told new
      → (thrown told, At old late new) ≡ module_write nat_eq modules begins m (At old e es) x (told_write result late)
  module_is old e late m x v wrote.Done es new told h t = λ j. (t.0 j, At old late (t.1 j))
  module_is old e late m x v wrote.Unset es new told h t = let c = same_cells e late m x v wrote.Unset tt h in λ j. (t.0 j, With old e (t.1 j) (c j))
  module_is old e late m x v wrote.Constant es new told h t = let c = same_cells e late m x v wrote.Constant tt h in λ j. (t.0 j, With old e (t.1 j) (c j))
  module_is old e late m x v wrote.Undeclared es new told h t = let c = same_cells e late m x v wrote.Undeclared tt h in λ j. (t.0 j, With old e (t.1 j) (c j))

  abbrev Home : Scopes → ℕ → Type 0
  Home e m = (s : ModuleScope) × (scope_in e m ≡ Some s) × HasImports (modules i) m s

  -- what is thrown, and what is then, is the definitions'
  pub writes_is : (old new : List (Scope CodeValue)) (e late : Scopes) (m : ℕ) (x : List ℕ) (v : Value) (result : Wrote) (es es' : Errors) (told : Option Value)
      → WritesRight → AreScopesOf (modules i) (linked i) e → linked i m ≡ true → Home e m → (o : Option (Cell CodeValue)) → WritesAt o old e m x v result new late → ThrowsWrote x result es told es'
      → ((thrown told, At new late es') ≡ write_in nat_eq modules begins m (At old e es) x (value_of v) o) × AreScopesOf (modules i) (linked i) late
  writes_is old new e late m x v result es es' told right a here home (Some c) h t = (
    ap (λ late. (thrown told, At new late es')) h.1
        ∙ block_is old new e m x v es es' told c.constant c.value (subst (λ r. ScopesWrote old x v r new) h.0 h.2) (subst (λ r. ThrowsWrote x r es told es') h.0 t),
    subst (AreScopesOf (modules i) (linked i)) (sym h.1) a,
  )
  writes_is old new e late m x v result es es' told right a here home None h t = (
    ap (λ new. (thrown told, At new late es')) h.1
        ∙ module_is old e late m x v result es es' told h.0 t
        ∙ ap (module_write nat_eq modules begins m (At old e es) x) (right.writes (modules i) e late m home.0 x v result a.faithful home.1 home.2 h.0),
    like_scopes (modules i) (linked i) e late m a (right.faithful_written (modules i) e late m x v result a.faithful h.0) (right.stays_written e late m x v result h.0) here h.0.1,
  )

  pub sets_is : (ss new : List (Scope CodeValue)) (e late : Scopes) (m : ℕ) (x : List ℕ) (v : Value) (es : Errors)
      → WritesRight → AreScopesOf (modules i) (linked i) e → linked i m ≡ true → (ss ≡ [] → (c : Cell CodeValue) × (own_cell e m x ≡ Some c)) → SetsAt ss e m x v new late
      → (At new late es ≡ set_at nat_eq modules begins m ss (state_of engine e ps es i) x (value_of v)) × AreScopesOf (modules i) (linked i) late
  sets_is [] new e late m x v es right a here own h =
      let c = own refl in
      let cells = right.sets e late m x v c.0 c.1 h.0 in (
        λ j. With (h.1 j) e es (cells j),
        like_scopes (modules i) (linked i) e late m a (right.faithful_set (modules i) e late m x v a.faithful h.0) (right.stays_set e late m x v h.0) here h.0.1,
      )
  sets_is (s ∷ ss) new e late m x v es right a here own h = (λ j. At (h.0 j) (h.1 j) es, subst (AreScopesOf (modules i) (linked i)) (sym h.1) a)

-- ---- code under way

module _ {I S : Type 0} (seen : I → S) (modules : S → Modules ℕ) (linked : S → ℕ → Bool) (fits : Outer ℕ S → Type 0) (begins : Importing ℕ S) where
  -- what the code is afterwards, over what it held before
  abbrev Late : Inside I → MutBor Engine → MutBor Numbered → Errors → MutBor I → Inner ℕ S
  Late after engine ps es i = record { scopes = scopes_round after.code.now.levels.items; state = state_of engine.now (scopes_of after.envs.now) ps.now es (seen i.now) }

  scopes_after : (w after : Inside I) → IsLike w after → AreScopesOf (modules (seen w.imports.now)) (linked (seen w.imports.now)) (scopes_of after.envs.now) → HasScopes seen modules linked fits begins after
  scopes_after w after like a = subst (λ (i : MutBor I). AreScopesOf (modules (seen i.now)) (linked (seen i.now)) (scopes_of after.envs.now)) (sym like.imports) a

  pub writes_name : (w after : Inside I) (x : List ℕ) (v : Value) (result : Wrote) (told : Result (Option Value) Memory) → WritesRight → IsLike w after
      → WritesTo w.code.now.levels.items (scopes_of w.envs.now) w.code.now.at.0 x v result after.code.now.levels.items (scopes_of after.envs.now)
      → Throws x result w.errors.now told after.errors.now → WritesName seen modules linked fits begins w x v told after
  writes_name w after x v result (Err end) right like to t = tt
  writes_name w after x v result (Ok told) right like to t = (
    like,
    λ scopes here.
        let s = scopes.made w.code.now.at.0 here in
        let home : (t : ModuleScope) × (scope_in (scopes_of w.envs.now) w.code.now.at.0 ≡ Some t) × HasImports (modules (seen w.imports.now)) w.code.now.at.0 t =
        (s.0, s.1, scopes.imports w.code.now.at.0 s.0 here s.1) in
        let r = writes_is modules linked begins w.engine.now w.promises.now (seen w.imports.now) (scopes_round w.code.now.levels.items) (scopes_round after.code.now.levels.items)
        (scopes_of w.envs.now) (scopes_of after.envs.now) w.code.now.at.0 x v result w.errors.now after.errors.now told right scopes here home
        (in_scopes (scopes_round w.code.now.levels.items) x) to.1 t in
        ((λ j. (thrown told, Late after (like.engine j) (like.promises j) after.errors.now (like.imports j))) ∙ r.0, scopes_after w after like r.1),
  )

  pub sets_name : (w after : Inside I) (x : List ℕ) (v : Value) → WritesRight → IsLike w after → after.errors.now ≡ w.errors.now
      → SetsTo w.code.now.levels.items (scopes_of w.envs.now) w.code.now.at.0 x v after.code.now.levels.items (scopes_of after.envs.now)
      → SetsName seen modules linked fits begins w x v after
  sets_name w after x v right like errors to = (
    like,
    λ scopes here own.
        let r = sets_is modules linked begins w.engine.now w.promises.now (seen w.imports.now) (scopes_round w.code.now.levels.items) (scopes_round after.code.now.levels.items)
        (scopes_of w.envs.now) (scopes_of after.envs.now) w.code.now.at.0 x v w.errors.now right scopes here own to.1 in
        ((λ j. Late after (like.engine j) (like.promises j) (errors j) (like.imports j)) ∙ r.0, scopes_after w after like r.1),
  )
