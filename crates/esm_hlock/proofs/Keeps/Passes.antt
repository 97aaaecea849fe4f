-- Cutting a seat in two, making one of two, and looking back keep the rule.
use Rattle.std.proofs.Common.{◌≡◌, ℕ, zero, suc, ◌<◌, Bool, true, false, cond, nat_lt, List, [], ◌∷◌, ◌++◌, length, set, sym, refl, ◌∙◌, subst, arith, Option}
use Rattle.std.proofs.lemmas.Bool.Decides.{nat_tests}
use mathlib.Core.Option.{some, none, some-injective, some-ne-none}
use lib.ListN.{get_elem?}
use lib.Seq.{set-get_or}
use Rattle.atomic_table.specs.Table.{step, keeps, Allows, Splits, Joins}
use Rattle.atomic_table.proofs.Lists.{set_else}
use Rattle.esm_hlock.specs.declared.view.View.{View}
use Rattle.esm_hlock.specs.declared.view.Joined.{Joined}
use mathlib.Core.Logic.{dite}
use native.Mathlib.Decide.{ℕ_discrete}
use Rattle.esm_hlock.specs.Makers.{times, names, Continues}
use Rattle.esm_hlock.specs.Rule.{Fits, Kept}
use Rattle.esm_hlock.specs.Views.{longer}
use Rattle.esm_hlock.specs.Inner.Seats.{spent, without_ticket, after_split, split_off, joined_from, after_join}
use Rattle.esm_hlock.specs.Inner.Steps.{LookedBack}
use Rattle.esm_hlock.proofs.Basics.Lists.{false-true, cut, total_set, total_snoc}
use Rattle.esm_hlock.proofs.Basics.Counts.{times-append, names_left, names_right}
use Rattle.esm_hlock.proofs.Keeps.Growing.{continues_self}
use Rattle.esm_hlock.proofs.Keeps.Seats.{SeatOf, none_there, each_set, each_snoc, apart_idle, apart_snoc, out_idle, out_snoc, place_set, place_snoc, same_shares, same_makers, has_all_makers}

-- a number in two lists is in one of them
either : (m n : List ℕ) (k : ℕ) (A : Type 0) → (0 < times k m → A) → (0 < times k n → A) → 0 < times k (m ++ n) → A
either m n k A f g h = dite (ℕ_discrete (times k m) 0) (λ z. g (let a = times-append k m n in omega arith)) (λ nz. f (omega arith))

module _ {T E : Type 0} (story : T → List E) (maker : E → Option ℕ) where
  -- a seat with two shares or more is cut in two
  pub splits_seat : (id : ℕ) (v : View E) → v.has_ticket ≡ false → v.has_state ≡ false → 1 < v.shares → Splits (Kept story maker) id v (after_split v) (split_off v)
  splits_seat id v idle free two s r at = let w : View E = after_split v in let u' : View E = split_off v in let vs : List (View E) = set s.views id w in let f = r.each id v at in record {
    history = r.history;
    ticket = r.ticket;
    serving = r.serving;
    words = r.words;
    order = r.order;
    bound = r.bound;
    each = each_snoc (Fits maker r.history r.ticket r.serving) vs u'
        (record {
          begins = (f.begins.0, f.begins.1, λ k e. absurd (omega arith));
          waiting = λ h. absurd (false-true refl h);
          turn = λ h. absurd (false-true refl h);
          own = λ k e. cc;
          idle = λ z. refl;
          live = λ h. absurd (false-true refl h);
          joined = λ j o e. none_there (Continues maker v.seen o.seen o.numbers) j o e;
        })
        (each_set (Fits maker r.history r.ticket r.serving) s.views id w
        (record {
          begins = f.begins;
          waiting = λ h. absurd (false-true refl h);
          turn = λ h. absurd (false-true refl h);
          own = f.own;
          idle = λ z. absurd (omega arith);
          live = λ h. absurd (false-true refl h);
          joined = λ j o e. none_there (Continues maker v.seen o.seen o.numbers) j o e;
        })
        (λ j u ne there. r.each j u there));
    apart = apart_snoc vs u' refl (apart_idle s.views id w refl r.apart);
    out = out_snoc r.serving r.ticket vs u' (out_idle r.serving r.ticket s.views id v w at idle r.out);
    place = place_snoc story maker s r.history vs u' refl (place_set story maker s r.history s.views id v w at free refl r.place);
    shares = let t = total_set (λ v. v.shares) s.views id v w at in let m = r.shares in omega (arith, total_snoc (λ v. v.shares) vs u');
    makers = λ k. let t = same_makers story maker s r id v w at refl k in omega (arith, total_snoc (λ v. times k v.numbers) vs u');
  }

  -- the longer of two beginnings of a history continues both, and the history continues it
  pub continues_longer : (history a b : List E) (m n : List ℕ) → Continues maker history a m → Continues maker history b n
      → Continues maker history (longer a b) (m ++ n) × Continues maker (longer a b) a m × Continues maker (longer a b) b n
  continues_longer history a b m n qa qb = go (nat_lt (length a) (length b)) refl
    where
      go : (t : Bool) → nat_lt (length a) (length b) ≡ t → Continues maker history (cond t b a) (m ++ n) × Continues maker (cond t b a) a m × Continues maker (cond t b a) b n
      go true e = let d = cut a b qa.0 qb.0 (sym qa.1 ∙ qb.1) (grind (arith, nat_tests)) in (
        (qb.0, qb.1, λ k h. either m n k (names maker k qb.0 ≡ 0) (λ i. names_right maker k d.0 qb.0 (subst (λ l. names maker k l ≡ 0) d.2 (qa.2 k i))) (qb.2 k) h),
        (d.0, d.1, λ k h. names_left maker k d.0 qb.0 (subst (λ l. names maker k l ≡ 0) d.2 (qa.2 k h))),
        continues_self maker b n,
      )
      go false e = let d = cut b a qb.0 qa.0 (sym qb.1 ∙ qa.1) (grind (arith, nat_tests)) in
          ((qa.0, qa.1, λ k h. either m n k (names maker k qa.0 ≡ 0) (qa.2 k) (λ i. names_right maker k d.0 qa.0 (subst (λ l. names maker k l ≡ 0) d.2 (qb.2 k i))) h), continues_self maker a m, (d.0, d.1, λ k h. names_left maker k d.0 qa.0 (subst (λ l. names maker k l ≡ 0) d.2 (qb.2 k h))))

  -- two seats without tickets are made one
  pub joins_seats : (id : ℕ) (v : View E) (other : ℕ) (u : View E) → v.has_ticket ≡ false → v.has_state ≡ false → u.has_ticket ≡ false → u.has_state ≡ false → Joins (Kept story maker) id v other u (after_join v u) spent
  joins_seats id v other u idle free idle' free' s r at apart there =
      let w : View E = after_join v u in let vs : List (View E) = set s.views id w in let f = r.each id v at in
      let there' : get_elem? s.views other ≡ some u = sym (set_else s.views id other w apart) ∙ there in let g = r.each other u there' in
      let q = continues_longer r.history v.seen u.seen v.numbers u.numbers f.begins g.begins in record {
        history = r.history;
        ticket = r.ticket;
        serving = r.serving;
        words = r.words;
        order = r.order;
        bound = r.bound;
        each = each_set (Fits maker r.history r.ticket r.serving) vs other spent
            (record {
              begins = (r.history, refl, λ k e. absurd (omega arith));
              waiting = λ h. absurd (false-true refl h);
              turn = λ h. absurd (false-true refl h);
              own = λ k e. cc;
              idle = λ z. refl;
              live = λ h. absurd (false-true refl h);
              joined = λ j o e. none_there (Continues maker [] o.seen o.numbers) j o e;
            })
            (λ j x _ jx. each_set (Fits maker r.history r.ticket r.serving) s.views id w
            (record {
              begins = q.0;
              waiting = λ h. absurd (false-true refl h);
              turn = λ h. absurd (false-true refl h);
              own = λ k e. let o = f.own k e in omega (arith, times-append k v.numbers u.numbers);
              idle = λ z. let a = f.idle (omega arith) in let b = g.idle (omega arith) in (λ k. a k ++ b k);
              live = λ h. absurd (false-true refl h);
              joined = λ j o e. joined_both w.seen (joined_from v) (joined_from u) q.1 q.2 j o e;
            })
            (λ j y ne jy. r.each j y jy) j x jx);
        apart = apart_idle vs other spent refl (apart_idle s.views id w refl r.apart);
        out = out_idle r.serving r.ticket vs other u spent there idle' (out_idle r.serving r.ticket s.views id v w at idle r.out);
        place = place_set story maker s r.history vs other u spent there free' refl (place_set story maker s r.history s.views id v w at free refl r.place);
        shares = let a = total_set (λ v. v.shares) s.views id v w at in let b = total_set (λ v. v.shares) vs other u spent there in let m = r.shares in omega arith;
        makers = λ k. let a = total_set (λ v. times k v.numbers) s.views id v w at in let b = total_set (λ v. times k v.numbers) vs other u spent there in let m = r.makers k in
            omega (arith, times-append k v.numbers u.numbers);
      }
    where
      joined_both : (seen : List E) (a b : Joined E) → Continues maker seen a.seen a.numbers → Continues maker seen b.seen b.numbers → (j : ℕ) (o : Joined E) → get_elem? (a ∷ b ∷ []) j ≡ some o → Continues maker seen o.seen o.numbers
      joined_both seen a b qa qb zero o e = subst (λ (o : Joined E). Continues maker seen o.seen o.numbers) (some-injective a o e) qa
      joined_both seen a b qa qb (suc zero) o e = subst (λ (o : Joined E). Continues maker seen o.seen o.numbers) (some-injective b o e) qb
      joined_both seen a b qa qb (suc (suc j)) o e = absurd (some-ne-none o (sym e))

  -- a load that changes nothing tells what the rule says of the seat
  pub looks_back : (slots id : ℕ) (me : SeatOf T E) → me.0.has_ticket ≡ false → me.0.has_state ≡ false → Allows (Kept story maker) slots id me 1 (λ n. n) (LookedBack maker (step slots 1 0 0 none) me)
  looks_back slots id me idle free s r size at fits = let v = me.0 in let w : View E = without_ticket v in let f = r.each id v at in (
    w,
    keeps,
    tt,
    record {
      history = r.history;
      ticket = r.ticket;
      serving = r.serving;
      words = subst (λ l. l ≡ r.ticket ∷ r.serving ∷ length r.history ∷ []) (sym (set-get_or s.words 1 0)) r.words;
      order = r.order;
      bound = r.bound;
      each = each_set (Fits maker r.history r.ticket r.serving) s.views id w
          (record {
            begins = f.begins;
            waiting = λ h. absurd (false-true refl h);
            turn = λ h. absurd (false-true refl h);
            own = f.own;
            idle = f.idle;
            live = λ h. absurd (false-true refl h);
            joined = λ j o e. none_there (Continues maker v.seen o.seen o.numbers) j o e;
          })
          (λ j u ne there. r.each j u there);
      apart = apart_idle s.views id w refl r.apart;
      out = out_idle r.serving r.ticket s.views id v w at idle r.out;
      place = place_set story maker s r.history s.views id v w at free refl r.place;
      shares = same_shares story maker s r id v w at refl;
      makers = same_makers story maker s r id v w at refl;
    },
    (refl, f.joined, has_all_makers story maker s r id v at),
  )
