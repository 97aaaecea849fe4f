-- What one more entry does to what the seats have seen, and to the makers.
use Rattle.std.proofs.Common.{◌≡◌, ℕ, ◌+◌, ◌<◌, ◌≢◌, ◌⊎◌, false, List, [], ◌∷◌, ◌++◌, length, drop, sym, refl, ap, ◌∙◌, subst, inl, inr, arith, Option, Some, None, append_assoc, append-nil, eq-eqb, ne_eqb}
use mathlib.Core.Logic.{dite}
use mathlib.Core.Option.{some}
use native.Mathlib.Decide.{ℕ_discrete}
use lib.ListN.{get_elem?}
use Rattle.atomic_table.specs.Table.{State}
use Rattle.esm_hlock.specs.declared.view.View.{View}
use Rattle.esm_hlock.specs.Makers.{times, is_maker, enlisted, names, Continues, number_after, numbers_after, MayMake, IsStep, AreOf}
use Rattle.esm_hlock.specs.Inner.Growth.{MayGrow}
use Rattle.esm_hlock.specs.Rule.{Kept, total}
use Rattle.esm_hlock.proofs.Basics.Lists.{drop_all, total_at, total_two}
use Rattle.esm_hlock.proofs.Basics.Counts.{times_self, times_other, names_at_most_one, names_other, names_own, names_longer}

module _ {E : Type 0} (maker : E → Option ℕ) where
  -- a history continues itself
  pub continues_self : (history : List E) (number : List ℕ) → Continues maker history history number
  continues_self history number = ([], sym (append-nil history), λ k e. refl)

  -- an entry of another maker changes nothing of that
  pub continues_more : (history now seen : List E) (number : List ℕ) (e : E) → now ≡ history ++ e ∷ [] → ((k : ℕ) → 0 < times k number → is_maker k (maker e) ≡ false) → Continues maker history seen number → Continues maker now seen number
  continues_more history now seen number e is other (rest, at, none) = (
    rest ++ e ∷ [],
    is ∙ (ap (λ l. l ++ e ∷ []) at ∙ append_assoc seen rest (e ∷ [])),
    λ k mine. names_other maker k rest e (other k mine) ∙ none k mine,
  )

  -- where no entry was added, number and numbers are what they were
  number_nil : (n : Option ℕ) → number_after maker n [] ≡ n
  number_nil (Some k) = refl
  number_nil None = refl

  numbers_nil : (n : Option ℕ) (ns : List ℕ) → numbers_after maker n ns [] ≡ ns
  numbers_nil (Some k) ns = refl
  numbers_nil None ns = refl

  -- a pass with a number keeps it, and its numbers, whatever was added
  pub number_kept : (n : Option ℕ) (i : ℕ) → n ≡ Some i → (more : List E) → number_after maker n more ≡ n
  number_kept (Some k) i e more = refl
  number_kept None i e more = cc

  pub numbers_kept : (n : Option ℕ) (ns : List ℕ) (i : ℕ) → n ≡ Some i → (more : List E) → numbers_after maker n ns more ≡ ns
  numbers_kept (Some k) ns i e more = refl
  numbers_kept None ns i e more = cc

  -- an entry of a pass has no other maker
  other_maker : (i k : ℕ) (e : E) → i ≢ k → (maker e ≡ None) ⊎ (maker e ≡ Some i) → is_maker k (maker e) ≡ false
  other_maker i k e ne (inl made) = ap (is_maker k) made
  other_maker i k e ne (inr made) = ap (is_maker k) made ∙ ne_eqb i k ne

  -- entries of a pass name no other
  pub names_all : (i k : ℕ) (es more : List E) → i ≢ k → AreOf maker i more → names maker k (es ++ more) ≡ names maker k es
  names_all i k es [] ne made = ap (names maker k) (append-nil es)
  names_all i k es (e ∷ more) ne made =
      ap (names maker k) (sym (append_assoc es (e ∷ []) more)) ∙ (names_all i k (es ++ e ∷ []) more ne made.1 ∙ names_other maker k es e (other_maker i k e ne made.0))

  -- entries of a pass that isn't listed change nothing of what was seen
  pub continues_all : (i : ℕ) (history more seen : List E) (number : List ℕ) → ((k : ℕ) → 0 < times k number → i ≢ k) → AreOf maker i more → Continues maker history seen number
      → Continues maker (history ++ more) seen number
  continues_all i history [] seen number other made c = subst (λ l. Continues maker l seen number) (sym (append-nil history)) c
  continues_all i history (e ∷ more) seen number other made c =
      subst (λ l. Continues maker l seen number) (append_assoc history (e ∷ []) more)
      (continues_all i (history ++ e ∷ []) more seen number other made.1 (continues_more history (history ++ e ∷ []) seen number e refl (λ k mine. other_maker i k e (other k mine) made.0) c))

module _ {T E : Type 0} (story : T → List E) (maker : E → Option ℕ) (s : State (Option T) (View E)) (r : Kept story maker s) (id : ℕ) (v : View E) (at : get_elem? s.views id ≡ some v) where
  -- what the rule asks of a longer history, where the seat has this number and these numbers
  pub record Grows (now : List E) (number : Option ℕ) (numbers : List ℕ) : Type 0 where
    pub others : (j : ℕ) (u : View E) → j ≢ id → get_elem? s.views j ≡ some u → Continues maker now u.seen u.numbers
    pub own : (k : ℕ) → number ≡ Some k → 0 < times k numbers
    pub makers : (k : ℕ) → total (λ v. times k v.numbers) s.views + times k numbers ≡ names maker k now + times k v.numbers

  -- no entry was added
  stays : (now : List E) → now ≡ r.history → Grows now v.number v.numbers
  stays now is = record {
    others = λ j u ne there. subst (λ l. Continues maker l u.seen u.numbers) (sym is) (r.each j u there).begins;
    own = (r.each id v at).own;
    makers = λ k. let m = r.makers k in let n : names maker k now ≡ names maker k r.history = ap (names maker k) is in omega arith;
  }

  -- an entry with no maker
  unmade : (now : List E) (e : E) → now ≡ r.history ++ e ∷ [] → maker e ≡ None → Grows now v.number v.numbers
  unmade now e is no_maker = record {
    others = λ j u ne there. continues_more maker r.history now u.seen u.numbers e is (λ k _. ap (is_maker k) no_maker) (r.each j u there).begins;
    own = (r.each id v at).own;
    makers = λ k. let m = r.makers k in let n : names maker k now ≡ names maker k r.history = ap (names maker k) is ∙ names_other maker k r.history e (ap (is_maker k) no_maker) in omega arith;
  }

  -- an entry with the seat's own number
  mine : (now : List E) (e : E) (i : ℕ) → now ≡ r.history ++ e ∷ [] → maker e ≡ Some i → v.number ≡ Some i → Grows now v.number v.numbers
  mine now e i is made own = let has = (r.each id v at).own i own in record {
    others = λ j u ne there. let f = r.each j u there in continues_more maker r.history now u.seen u.numbers e is
        (λ k other. ap (is_maker k) made ∙ ne_eqb i k
        (λ same. let twice = total_two (λ v. times i v.numbers) s.views j id u v ne there at in let m = r.makers i in let b = names_at_most_one maker i r.history in
        let o : 0 < times i u.numbers = subst (λ (x : ℕ). 0 < times x u.numbers) (sym same) other in omega arith))
        f.begins;
    own = (r.each id v at).own;
    makers = λ k. let m = r.makers k in dite (ℕ_discrete i k)
        (λ same. let n : names maker k now ≡ 1 = ap (names maker k) is ∙ names_own maker k r.history e (ap (is_maker k) made ∙ eq-eqb i k same) in
        let h : 0 < times k v.numbers = subst (λ (x : ℕ). 0 < times x v.numbers) same has in let b = names_at_most_one maker k r.history in
        let a = total_at (λ v. times k v.numbers) s.views id v at in omega arith)
        (λ ne. let n : names maker k now ≡ names maker k r.history = ap (names maker k) is ∙ names_other maker k r.history e (ap (is_maker k) made ∙ ne_eqb i k ne) in omega arith);
  }

  -- several entries with the seat's own number, or none
  several : (now : List E) (i : ℕ) (more : List E) → now ≡ r.history ++ more → v.number ≡ Some i → AreOf maker i more → Grows now v.number v.numbers
  several now i more is own made = let has = (r.each id v at).own i own in record {
    others = λ j u ne there. subst (λ l. Continues maker l u.seen u.numbers) (sym is)
        (continues_all maker i r.history more u.seen u.numbers
        (λ k other same. let twice = total_two (λ v. times i v.numbers) s.views j id u v ne there at in let m = r.makers i in let b = names_at_most_one maker i r.history in
        let o : 0 < times i u.numbers = subst (λ (x : ℕ). 0 < times x u.numbers) (sym same) other in omega arith)
        made (r.each j u there).begins);
    own = (r.each id v at).own;
    makers = λ k. let m = r.makers k in dite (ℕ_discrete i k)
        (λ same. let h : 0 < times k v.numbers = subst (λ (x : ℕ). 0 < times x v.numbers) same has in let b = names_at_most_one maker k r.history in
        let a = total_at (λ v. times k v.numbers) s.views id v at in
        let one : names maker k r.history ≡ 1 = omega arith in
        let n : names maker k now ≡ 1 = ap (names maker k) is ∙ names_longer maker k r.history more one in omega arith)
        (λ ne. let n : names maker k now ≡ names maker k r.history = ap (names maker k) is ∙ names_all maker i k r.history more ne made in omega arith);
  }

  -- an entry with a number that is new
  new_one : (now : List E) (e : E) (i : ℕ) → now ≡ r.history ++ e ∷ [] → maker e ≡ Some i → names maker i r.history ≡ 0 → Grows now (Some i) (i ∷ v.numbers)
  new_one now e i is made new = record {
    others = λ j u ne there. let f = r.each j u there in continues_more maker r.history now u.seen u.numbers e is
        (λ k other. ap (is_maker k) made ∙ ne_eqb i k
        (λ same. let once = total_at (λ v. times i v.numbers) s.views j u there in let m = r.makers i in
        let o : 0 < times i u.numbers = subst (λ (x : ℕ). 0 < times x u.numbers) (sym same) other in omega arith))
        f.begins;
    own = λ k same. let is : i ≡ k = cc in subst (λ (x : ℕ). 0 < times x (i ∷ v.numbers)) is (let t = times_self i v.numbers in omega arith);
    makers = λ k. let m = r.makers k in dite (ℕ_discrete i k)
        (λ same. let n : names maker k now ≡ 1 = ap (names maker k) is ∙ names_own maker k r.history e (ap (is_maker k) made ∙ eq-eqb i k same) in
        let z : names maker k r.history ≡ 0 = subst (λ (x : ℕ). names maker x r.history ≡ 0) same new in
        let t : times k (i ∷ v.numbers) ≡ 1 + times k v.numbers = subst (λ (x : ℕ). times x (i ∷ v.numbers) ≡ 1 + times x v.numbers) same (times_self i v.numbers) in omega arith)
        (λ ne. let n : names maker k now ≡ names maker k r.history = ap (names maker k) is ∙ names_other maker k r.history e (ap (is_maker k) made ∙ ne_eqb i k ne) in
        let t = times_other k i v.numbers ne in omega arith);
  }

  -- one entry was added, by who may make it
  by_one : (now : List E) (e : E) → now ≡ r.history ++ e ∷ [] → (m : Option ℕ) → maker e ≡ m → (n : Option ℕ) → v.number ≡ n → MayMake maker r.history n m
      → Grows now (number_after maker n (e ∷ [])) (numbers_after maker n v.numbers (e ∷ []))
  by_one now e is None made (Some i) number may = subst (λ n. Grows now n v.numbers) number (unmade now e is made)
  by_one now e is None made None number may = subst (λ (p : Option ℕ × List ℕ). Grows now p.0 p.1) (λ k. (sym made k, enlisted (sym made k) v.numbers))
      (subst (λ n. Grows now n v.numbers) number (unmade now e is made))
  by_one now e is (Some j) made (Some i) number may = subst (λ n. Grows now n v.numbers) number (mine now e i is (made ∙ ap Some (sym may)) number)
  by_one now e is (Some j) made None number may = subst (λ (p : Option ℕ × List ℕ). Grows now p.0 p.1) (λ k. (sym made k, enlisted (sym made k) v.numbers)) (new_one now e j is made may)

  -- the seat leaves the history as it was, or one entry longer
  pub grows : (now : List E) → v.seen ≡ r.history → IsStep maker v.number v.seen now
      → Grows now (number_after maker v.number (drop (length v.seen) now)) (numbers_after maker v.number v.numbers (drop (length v.seen) now))
  grows now seen (inl same) = let none_added : drop (length v.seen) now ≡ [] = ap (drop (length v.seen)) (same ∙ sym (append-nil v.seen)) ∙ drop_all v.seen [] in
      subst (λ (p : Option ℕ × List ℕ). Grows now p.0 p.1)
      (λ k. ((sym (number_nil maker v.number) ∙ ap (number_after maker v.number) (sym none_added)) k, (sym (numbers_nil maker v.number v.numbers) ∙ ap (numbers_after maker v.number v.numbers) (sym none_added)) k))
      (stays now (same ∙ seen))
  grows now seen (inr (e, is, may)) = let added : drop (length v.seen) now ≡ e ∷ [] = ap (drop (length v.seen)) is ∙ drop_all v.seen (e ∷ []) in
      subst (λ (l : List E). Grows now (number_after maker v.number l) (numbers_after maker v.number v.numbers l)) (sym added)
      (by_one now e (is ∙ ap (λ l. l ++ e ∷ []) seen) (maker e) refl v.number refl (subst (λ l. MayMake maker l v.number (maker e)) seen may))

  -- the same, or several entries longer
  pub grows_by : (now : List E) → v.seen ≡ r.history → MayGrow maker v.number v.seen now
      → Grows now (number_after maker v.number (drop (length v.seen) now)) (numbers_after maker v.number v.numbers (drop (length v.seen) now))
  grows_by now seen (inl step) = grows now seen step
  grows_by now seen (inr steps) = let l = drop (length v.seen) now in subst (λ (p : Option ℕ × List ℕ). Grows now p.0 p.1)
      (λ k. (sym (number_kept maker v.number steps.own steps.has l) k, sym (numbers_kept maker v.number v.numbers steps.own steps.has l) k))
      (several now steps.own steps.more (steps.behind ∙ ap (λ l. l ++ steps.more) seen) steps.has steps.made)
