-- The first table keeps the rule, and what is known of the last one.
use Rattle.std.proofs.Common.{◌≡◌, ℕ, zero, suc, ◌<◌, ◌≢◌, false, List, [], ◌∷◌, length, get_or, sym, refl, ap, ◌∙◌, subst, inl, ⊎_elim, arith, Option, Some}
use mathlib.Core.Logic.{dite}
use mathlib.Core.Option.{some, some-injective, some-ne-none}
use native.Mathlib.Decide.{ℕ_discrete}
use lib.ListN.{get_elem?}
use Rattle.atomic_table.specs.Table.{Final, Seen, opening}
use Rattle.esm_hlock.specs.declared.view.View.{View}
use Rattle.esm_hlock.specs.Makers.{Continues, makers_of}
use Rattle.esm_hlock.specs.Rule.{Fits, AtHome, Away, Kept}
use Rattle.esm_hlock.specs.Views.{HasAllMakers}
use Rattle.esm_hlock.specs.Inner.Seats.{newcomer}
use Rattle.esm_hlock.specs.Closing.{ClosedWith}
use Rattle.esm_hlock.proofs.Basics.Lists.{false-true, same_at, at_get, total_two}
use Rattle.esm_hlock.proofs.Basics.Counts.{times_makers}
use Rattle.esm_hlock.proofs.Keeps.Growing.{continues_self}
use Rattle.esm_hlock.proofs.Keeps.Seats.{none_there}

module _ {T E : Type 0} (story : T → List E) (maker : E → Option ℕ) where
  -- the last table, with its two words
  pub closed : (words : List ℕ) (slots : List (Option T)) (id : ℕ) (v : View E) (a b : ℕ) → Final (Seen (Kept story maker) id v) words slots
      → get_elem? words 0 ≡ some a → get_elem? words 1 ≡ some b → ClosedWith story maker id v a b
  closed words slots id v a b (s, (r, at), same, size, kept) at0 at1 = let ws : words ≡ r.ticket ∷ r.serving ∷ length r.history ∷ [] = sym same ∙ r.words in record {
    table = s;
    kept = r;
    sits = at;
    ticket_is = sym (ap (λ l. get_or l 0 0) ws) ∙ at_get words 0 a 0 at0;
    serving_is = sym (ap (λ l. get_or l 1 0) ws) ∙ at_get words 1 b 0 at1;
  }

  -- words that differ differ one way
  pub behind : (id : ℕ) (v : View E) (a b : ℕ) → ClosedWith story maker id v a b → a ≢ b → b < a
  behind id v a b c differ = let o = c.kept.order in let t = c.ticket_is in let s = c.serving_is in omega arith

  -- where the last words are equal, the slot has the state
  closes_at : (words : List ℕ) (slots : List (Option T)) (id : ℕ) (v : View E) → Final (Seen (Kept story maker) id v) words slots → get_or words 0 0 ≡ get_or words 1 0
      → (state : T) × (get_elem? slots 0 ≡ some (Some state)) × Continues maker (story state) v.seen v.numbers
  closes_at words slots id v (s, (r, at), same, size, kept) equal =
      let ws : words ≡ r.ticket ∷ r.serving ∷ length r.history ∷ [] = sym same ∙ r.words in
      let e : r.ticket ≡ r.serving = sym (ap (λ l. get_or l 0 0) ws) ∙ (equal ∙ ap (λ l. get_or l 1 0) ws) in
      let h : AtHome story s.homes s.views r.history = ⊎_elim (λ h. h) (λ (a : Away {T = T} s.homes s.views). let f = r.each a.seat a.view a.sits in let b = f.waiting (f.turn a.has_state).0 in absurd (omega (arith, b.0, b.1))) r.place in
      (h.state, kept 0 (Some h.state) (ap (λ l. get_elem? l 0) h.there), subst (λ l. Continues maker l v.seen v.numbers) (sym h.is) (r.each id v at).begins)

  -- the same, of what was read
  pub closes : (words : List ℕ) (slots : List (Option T)) (id : ℕ) (v : View E) (slot : Option T) (a b : ℕ) → Final (Seen (Kept story maker) id v) words slots → get_elem? slots 0 ≡ some slot
      → get_elem? words 0 ≡ some a → get_elem? words 1 ≡ some b → a ≡ b → (state : T) × (slot ≡ Some state) × Continues maker (story state) v.seen v.numbers
  closes words slots id v slot a b final there at0 at1 same =
      let c = closes_at words slots id v final (at_get words 0 a 0 at0 ∙ (same ∙ sym (at_get words 1 b 0 at1))) in (c.0, some-injective slot (Some c.0) (sym there ∙ c.1), c.2)

  -- where one seat without a ticket has all shares, no ticket is out
  pub none_out : (words : List ℕ) (slots : List (Option T)) (id : ℕ) (v : View E) (a b : ℕ) → Final (Seen (Kept story maker) id v) words slots → v.has_ticket ≡ false → v.shares ≡ 1024
      → get_elem? words 0 ≡ some a → get_elem? words 1 ≡ some b → a ≡ b
  none_out words slots id v a b (s, (r, at), same, size, kept) idle all at0 at1 =
      let ws : words ≡ r.ticket ∷ r.serving ∷ length r.history ∷ [] = sym same ∙ r.words in
      let ta : r.ticket ≡ a = sym (ap (λ l. get_or l 0 0) ws) ∙ at_get words 0 a 0 at0 in let sb : r.serving ≡ b = sym (ap (λ l. get_or l 1 0) ws) ∙ at_get words 1 b 0 at1 in
      let order = r.order in
      dite (ℕ_discrete r.serving r.ticket) (λ e. sym ta ∙ (sym e ∙ sb))
      (λ ne. let o = r.out r.serving (omega arith) (omega arith) in let live = (r.each o.0 o.1 o.2).live o.3 in let sum = r.shares in absurd (dite (ℕ_discrete id o.0)
      (λ e. false-true idle (ap (λ (x : View E). x.has_ticket) (same_at s.views id v o.1 at (subst (λ (k : ℕ). get_elem? s.views k ≡ some o.1) (sym e) o.2)) ∙ o.3))
      (λ other. let two = total_two (λ v. v.shares) s.views id o.0 v o.1 other at o.2 in omega arith)))

  -- the first seat lists the makers of the first state's entries
  pub has_first_makers : (entries : List E) → HasAllMakers maker (newcomer maker entries)
  has_first_makers entries all k one = omega (arith, times_makers maker k entries)

  -- the first table
  pub opens : (state : T) (n : ℕ) → n ≡ length (story state) → Kept story maker (opening (0 ∷ 0 ∷ n ∷ []) (Some state ∷ []) (newcomer maker (story state)))
  opens state n count = let v : View E = newcomer maker (story state) in record {
    history = story state;
    ticket = 0;
    serving = 0;
    words = ap (λ (k : ℕ). 0 ∷ 0 ∷ k ∷ []) count;
    order = omega arith;
    bound = omega arith;
    each = λ j u at. subst (Fits maker (story state) 0 0) (first v j u at) record {
      begins = continues_self maker (story state) (makers_of maker (story state));
      waiting = λ h. absurd (false-true refl h);
      turn = λ h. absurd (false-true refl h);
      own = λ k e. cc;
      idle = λ z. absurd (omega arith);
      live = λ h. absurd (false-true refl h);
      joined = λ j o e. none_there (Continues maker (story state) o.seen o.numbers) j o e;
    };
    apart = λ i j a b ai bj wa wb same. absurd (false-true refl (ap (λ (x : View E). x.has_ticket) (first v i a ai) ∙ wa));
    out = λ k lo hi. absurd (omega arith);
    place = inl record { state = state; there = refl; is = refl; free = λ j u at h. false-true refl (ap (λ (x : View E). x.has_state) (first v j u at) ∙ h) };
    shares = refl;
    makers = λ k. omega (arith, times_makers maker k (story state));
  }
    where
      first : (v : View E) (j : ℕ) (u : View E) → get_elem? (v ∷ []) j ≡ some u → v ≡ u
      first v zero u e = some-injective v u e
      first v (suc j) u e = absurd (some-ne-none u (sym e))
