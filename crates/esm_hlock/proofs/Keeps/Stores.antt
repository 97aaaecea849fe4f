-- Storing the length and ending the turn keep the rule.
use Rattle.std.proofs.Common.{◌≡◌, ℕ, ◌+◌, ◌%◌, ◌≢◌, true, List, [], ◌∷◌, length, get_or, set, sym, refl, ap, ◌∙◌, subst, inl, inr, arith, Option, Some}
use mathlib.Core.Option.{some, none}
use lib.ListN.{get_elem?}
use Rattle.atomic_table.specs.Table.{step, keeps, gives, stepped, put_back, Allows}
use Rattle.atomic_table.proofs.Lists.{set_here, set_else}
use Rattle.esm_hlock.specs.declared.view.View.{View}
use Rattle.esm_hlock.specs.Makers.{times, Continues}
use Rattle.esm_hlock.specs.Inner.Growth.{MayGrow}
use Rattle.esm_hlock.specs.Rule.{Fits, Kept}
use Rattle.esm_hlock.specs.Inner.Seats.{without_ticket, with_history}
use Rattle.esm_hlock.specs.Inner.Steps.{EndedTurn, story_in, StoredLength}
use Rattle.esm_hlock.proofs.Basics.Lists.{false-true, at_length, same_at, total_set}
use Rattle.esm_hlock.proofs.Keeps.Growing.{continues_self, grows_by}
use Rattle.esm_hlock.proofs.Keeps.Seats.{SeatOf, none_there, each_set, apart_idle, apart_same, out_same, same_shares, same_makers, has_all_makers, away, alone}

module _ {T E : Type 0} (story : T → List E) (maker : E → Option ℕ) where
  -- a store of the length word, with the state of the new history in the slot
  pub stores_length : (slots id : ℕ) (me : SeatOf T E) (state : T) (n : ℕ) → me.0.has_state ≡ true → me.1 ≡ (0, Some state) ∷ [] → MayGrow maker me.0.number me.0.seen (story state) → n ≡ length (story state)
      → Allows (Kept story maker) slots id me 2 (λ _. n) (λ _. StoredLength story maker (step slots 2 n 0 none) me n)
  stores_length slots id me state n holds in_hand grow count s r size at fits =
      let v = me.0 in let now : List E = story_in story maker me.1 in let is : now ≡ story state = ap (story_in story maker) in_hand in let w : View E = with_history maker v now in
      let f = r.each id v at in let mine = f.turn holds in let g = grows_by story maker s r id v at now mine.2 (subst (λ l. MayGrow maker v.number v.seen l) (sym is) grow) in
      let here : get_elem? (set s.views id w) id ≡ some w = set_here s.views id w (at_length s.views id v at) in
      let after : Kept story maker (stepped s 2 n id me.1 w keeps) = record {
        history = now;
        ticket = r.ticket;
        serving = r.serving;
        words = ap (λ l. set l 2 n) r.words ∙ ap (λ (k : ℕ). r.ticket ∷ r.serving ∷ k ∷ []) (count ∙ ap length (sym is));
        order = r.order;
        bound = r.bound;
        each = each_set (Fits maker now r.ticket r.serving) s.views id w
            (record {
              begins = continues_self maker now w.numbers;
              waiting = λ _. f.waiting mine.0;
              turn = λ _. (refl, mine.1, refl);
              own = g.own;
              idle = λ z. let l = f.live mine.0 in absurd (omega arith);
              live = λ _. f.live mine.0;
              joined = λ j o e. none_there (Continues maker now o.seen o.numbers) j o e;
            })
            (λ j u ne there. let q = r.each j u there in record {
              begins = g.others j u ne there;
              waiting = q.waiting;
              turn = λ h. let o = q.turn h in absurd (ne (alone story maker s r id v at holds j u there o.0 o.1));
              own = q.own;
              idle = q.idle;
              live = q.live;
              joined = q.joined;
            });
        apart = apart_same s.views id v w at mine.0 refl r.apart;
        out = out_same r.serving r.ticket s.views id v w at refl refl r.out;
        place = inr record { seat = id; view = w; there = away story maker s r id v at holds; sits = here; has_state = refl };
        shares = same_shares story maker s r id v w at refl;
        makers = λ k. let t = total_set (λ v. times k v.numbers) s.views id v w at in let m = g.makers k in omega arith;
      } in
      (w, keeps, tt, after, (refl, has_all_makers story maker (stepped s 2 n id me.1 w keeps) after id w here))

  -- one more on the serving word, which gives the slot back
  pub ends_turn : (slots id : ℕ) (me : SeatOf T E) (state : T) → me.0.has_state ≡ true → me.1 ≡ (0, Some state) ∷ [] → me.0.seen ≡ story state
      → Allows (Kept story maker) slots id me 1 (λ n. (n + 1) % 18446744073709551616) (EndedTurn (step slots 1 1 0 none) me)
  ends_turn slots id me state holds in_hand seen s r size at fits =
      let v = me.0 in let w : View E = without_ticket v in let f = r.each id v at in let mine = f.turn holds in let q = f.waiting mine.0 in
      let found : get_or s.words 1 0 ≡ r.serving = ap (λ l. get_or l 1 0) r.words in let bound = r.bound in
      let next : (get_or s.words 1 0 + 1) % 18446744073709551616 ≡ r.serving + 1 = let m = mine.1 in omega (arith, q.1) in (
        w,
        gives,
        tt,
        record {
          history = r.history;
          ticket = r.ticket;
          serving = r.serving + 1;
          words = ap (λ l. set l 1 ((get_or s.words 1 0 + 1) % 18446744073709551616)) r.words ∙ ap (λ (k : ℕ). r.ticket ∷ k ∷ length r.history ∷ []) next;
          order = let m = mine.1 in omega (arith, q.1);
          bound = r.bound;
          each = each_set (Fits maker r.history r.ticket (r.serving + 1)) s.views id w
              (record {
                begins = f.begins;
                waiting = λ h. absurd (false-true refl h);
                turn = λ h. absurd (false-true refl h);
                own = f.own;
                idle = f.idle;
                live = λ h. absurd (false-true refl h);
                joined = λ j o e. none_there (Continues maker v.seen o.seen o.numbers) j o e;
              })
              (λ j u ne there. let g = r.each j u there in record {
                begins = g.begins;
                waiting = λ h. let b = g.waiting h in let other : u.ticket ≢ r.serving = λ e. ne (alone story maker s r id v at holds j u there h e) in (omega (arith, b.0), b.1);
                turn = λ h. let o = g.turn h in absurd (ne (alone story maker s r id v at holds j u there o.0 o.1));
                own = g.own;
                idle = g.idle;
                live = g.live;
                joined = g.joined;
              });
          apart = apart_idle s.views id w refl r.apart;
          out = λ k lo hi. let o = r.out k (omega arith) hi in (
            o.0,
            o.1,
            set_else s.views id o.0 w (λ e. let is : v ≡ o.1 = same_at s.views id v o.1 at (subst (λ (k : ℕ). get_elem? s.views k ≡ some o.1) e o.2) in let t : v.ticket ≡ k = ap (λ (x : View E). x.ticket) is ∙ o.4 in let m = mine.1 in omega arith) ∙ o.2,
            o.3,
            o.4,
          );
          place = inl record {
            state = state;
            there = ap (put_back s.homes) in_hand ∙ ap (λ l. set l 0 (some (Some state))) (away story maker s r id v at holds);
            is = sym seen ∙ mine.2;
            free = each_set (λ u. ¬ (u.has_state ≡ true)) s.views id w (λ h. false-true refl h)
                (λ j u ne there h. let o = (r.each j u there).turn h in ne (alone story maker s r id v at holds j u there o.0 o.1));
          };
          shares = same_shares story maker s r id v w at refl;
          makers = same_makers story maker s r id v w at refl;
        },
        refl,
      )
