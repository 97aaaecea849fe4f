-- Drawing a ticket and waiting for it keep the rule.
use Rattle.std.proofs.Common.{◌≡◌, ℕ, eqb, ◌+◌, ◌<◌, true, false, List, [], ◌∷◌, length, get_or, set, sym, refl, ap, ◌∙◌, subst, inr, arith, Option, Some}
use mathlib.Core.Logic.{dite}
use mathlib.Core.Option.{some, none}
use native.Mathlib.Decide.{ℕ_discrete}
use prog.Atomic.{either}
use lib.ListN.{get_elem?}
use lib.Seq.{set-get_or}
use Rattle.atomic_table.specs.Table.{Act, Valid, step, keeps, takes, stepped, carried_after, Allows}
use Rattle.atomic_table.proofs.Lists.{set_here, exchanged}
use Rattle.esm_hlock.specs.declared.view.View.{View}
use Rattle.esm_hlock.specs.Makers.{Continues}
use Rattle.esm_hlock.specs.Rule.{Fits, Kept}
use Rattle.esm_hlock.specs.Inner.Seats.{with_ticket, with_state}
use Rattle.esm_hlock.specs.Inner.Steps.{DrewTicket, LoadedServing}
use Rattle.esm_hlock.proofs.Basics.Lists.{false-true, at_length}
use Rattle.esm_hlock.proofs.Keeps.Growing.{continues_self}
use Rattle.esm_hlock.proofs.Keeps.Seats.{SeatOf, none_there, each_set, apart_set, apart_same, out_same, out_idle, place_set, same_shares, same_makers, stays, has_all_makers, home}

module _ {T E : Type 0} (story : T → List E) (maker : E → Option ℕ) where
  -- a compare and exchange on the ticket word
  pub draws_ticket : (slots id : ℕ) (me : SeatOf T E) (old : ℕ) → me.0.has_ticket ≡ false → me.0.has_state ≡ false → 0 < me.0.shares → old < 18446744073709551615
      → Allows (Kept story maker) slots id me 0 (λ n. either (eqb n old) (old + 1) n) (DrewTicket (step slots 0 old (old + 1) none) me)
  draws_ticket slots id me old idle free live room s r size at fits =
      let v = me.0 in let w : View E = with_ticket v old in let n : ℕ = get_or s.words 0 0 in let found : n ≡ r.ticket = ap (λ l. get_or l 0 0) r.words in
      exchanged n old (old + 1) (λ k. (w' : View E) × (a : Act (Option T)) × Valid s.homes me.1 a × Kept story maker (stepped s 0 k id me.1 w' a) × DrewTicket (step slots 0 old (old + 1) none) me n (w', carried_after me.1 a))
      (λ hit. let is : r.ticket ≡ old = sym found ∙ hit in let f = r.each id v at in (
        w,
        keeps,
        tt,
        record {
          history = r.history;
          ticket = old + 1;
          serving = r.serving;
          words = ap (λ l. set l 0 (old + 1)) r.words;
          order = let o = r.order in omega arith;
          bound = omega arith;
          each = each_set (Fits maker r.history (old + 1) r.serving) s.views id w
              (record {
                begins = f.begins;
                waiting = λ _. let o = r.order in (omega arith, omega arith);
                turn = λ h. absurd (false-true refl h);
                own = f.own;
                idle = f.idle;
                live = λ _. live;
                joined = λ j o e. none_there (Continues maker v.seen o.seen o.numbers) j o e;
              })
              (λ j u ne there. let f = r.each j u there in record { begins = f.begins; waiting = λ q. let b = f.waiting q in (b.0, omega (arith, b.1)); turn = f.turn; own = f.own; idle = f.idle; live = f.live; joined = f.joined });
          apart = apart_set s.views id w r.apart (λ j u ne there wu ww same. let b = (r.each j u there).waiting wu in absurd (omega (arith, b.1)));
          out = λ k lo hi. dite (ℕ_discrete k old)
              (λ e. (id, w, set_here s.views id w (at_length s.views id v at), refl, sym e))
              (λ ne. out_idle r.serving r.ticket s.views id v w at idle r.out k lo (omega arith));
          place = place_set story maker s r.history s.views id v w at free refl r.place;
          shares = same_shares story maker s r id v w at refl;
          makers = same_makers story maker s r id v w at refl;
        },
        ((λ _. refl), (λ miss. absurd (miss hit))),
      ))
      (λ miss. (v, keeps, tt, stays story maker s r 0 id me.1 v at, ((λ hit. absurd (miss hit)), (λ _. refl))))

  -- a load of the serving word, which gives the state where the ticket is served
  pub loads_serving : (slots id : ℕ) (me : SeatOf T E) → me.0.has_ticket ≡ true → me.0.has_state ≡ false → Allows (Kept story maker) slots id me 1 (λ n. n) (LoadedServing story maker (step slots 1 0 0 none) me)
  loads_serving slots id me waits free s r size at fits =
      let v = me.0 in let found : get_or s.words 1 0 ≡ r.serving = ap (λ l. get_or l 1 0) r.words in
      dite (ℕ_discrete v.ticket (get_or s.words 1 0))
      (λ hit. let is : v.ticket ≡ r.serving = hit ∙ found in let h = home story maker s r id v at waits is free in let x = h.state in let w : View E = with_state v (story x) in let f = r.each id v at in
      let here : get_elem? (set s.views id w) id ≡ some w = set_here s.views id w (at_length s.views id v at) in
      let after : Kept story maker (stepped s 1 (get_or s.words 1 0) id me.1 w (takes 0 (Some x))) = record {
        history = r.history;
        ticket = r.ticket;
        serving = r.serving;
        words = subst (λ l. l ≡ r.ticket ∷ r.serving ∷ length r.history ∷ []) (sym (set-get_or s.words 1 0)) r.words;
        order = r.order;
        bound = r.bound;
        each = each_set (Fits maker r.history r.ticket r.serving) s.views id w
            (record {
              begins = subst (λ l. Continues maker l (story x) v.numbers) h.is (continues_self maker (story x) v.numbers);
              waiting = λ _. f.waiting waits;
              turn = λ _. (refl, is, h.is);
              own = f.own;
              idle = f.idle;
              live = λ _. f.live waits;
              joined = λ j o e. none_there (Continues maker (story x) o.seen o.numbers) j o e;
            })
            (λ j u ne there. r.each j u there);
        apart = apart_same s.views id v w at waits refl r.apart;
        out = out_same r.serving r.ticket s.views id v w at refl refl r.out;
        place = inr record { seat = id; view = w; there = ap (λ l. set l 0 none) h.there; sits = here; has_state = refl };
        shares = same_shares story maker s r id v w at refl;
        makers = same_makers story maker s r id v w at refl;
      } in (
        w,
        takes 0 (Some x),
        ap (λ l. get_elem? l 0) h.there,
        after,
        ((λ _. (x, refl, subst (λ l. Continues maker l v.seen v.numbers) (sym h.is) f.begins, has_all_makers story maker (stepped s 1 (get_or s.words 1 0) id me.1 w (takes 0 (Some x))) after id w here)), (λ miss. absurd (miss hit))),
      ))
      (λ miss. (v, keeps, tt, stays story maker s r 1 id me.1 v at, ((λ hit. absurd (miss hit)), (λ _. refl))))
