-- Reading names.
use Rattle.std.proofs.Common.{◌≡◌, ℕ, ◌+◌, Bool, true, false, List, [], Option, Some, None, Result, Err, Vec, refl, sym, subst, ap, ◌∙◌}
use Rattle.std.specs.declared.alloc.Global.{Global}
use Rattle.esm_tree.specs.declared.lexeme.Terminal.{Terminal}
use Rattle.esm_tree.specs.declared.lexeme.Terminal.TheVariants as t
use Rattle.esm_tree.specs.Lexeme.{Lexeme}
use Rattle.esm_grammar.specs.Lexeme.{terminal_at, is_word, is_name}
use Rattle.esm_grammar.specs.Items.{is_export_name}
use Rattle.esm_grammar.specs.Reading.{Read, ◌>>=◌, pick, same, sees}
use Rattle.esm_grammar.specs.ReadingItems as r
use Rattle.esm_grammar.proofs.Basics.{same_is, is_same}
use Rattle.esm_parse_expr.specs.declared.reader.Stop.{Stop}
use Rattle.esm_parse_expr.specs.declared.reader.Stop.TheVariants as end
use Rattle.esm_parse_expr.specs.Outcome.{Refuses}
use Rattle.esm_parse_mod.specs.Inner.Lists.{ReadsSame, ReadsList, after, ahead}

value : {X : Type 0} {x y : X} → Some x ≡ Some y → x ≡ y
value e = cc

-- a literal and a word are the names of exports
by_literal : (s : Terminal) → s ≡ t.Literal → is_export_name s ≡ true
unfolding is_export_name
by_literal s e = rw e refl

pub literal_name : (s : Terminal) → same s t.Literal ≡ true → is_export_name s ≡ true
literal_name s h = by_literal s (same_is s t.Literal h)

pub word_name : (s : Terminal) → same s t.Literal ≡ false → is_export_name s ≡ is_word s
unfolding is_export_name
word_name t.Literal h = absurd (let e = is_same t.Literal t.Literal refl in cc)
word_name _ h = refl

not_name : (s : Terminal) → is_export_name s ≡ false → is_name s ≡ false
unfolding is_export_name
not_name t.Name h = absurd (cc)
not_name t.As h = absurd (cc)
not_name t.From h = absurd (cc)
not_name t.Meta h = absurd (cc)
not_name t.Url h = absurd (cc)
not_name _ h = refl

by_both : {A : Type 0} (b e n m : Bool) (x y : Option A) → e ≡ false → n ≡ false → pick b (pick e (pick m x None) None) (pick n y None) ≡ None
unfolding pick
by_both true e n m x y p q = rw p refl
by_both false e n m x y p q = rw q refl

pub not_imported : (ts : List Lexeme) (i : ℕ) → is_export_name (terminal_at ts i) ≡ false → r.imported_name ts i ≡ None
unfolding r.imported_name
not_imported ts i h = by_both _ _ _ _ _ _ h (not_name (terminal_at ts i) h)

-- the place behind any element is that behind nothing
module _ {A : Type 0} (a : A) (i : ℕ) where
  by : (s m : Bool) (j : ℕ) → ◌≡◌ {A = Read (Option (Unit {0}))} (pick s (Some (Some (tt {0}), i)) (pick m (Some (Some (tt {0}), i + 1)) None)) (Some (Some (tt {0}), j))
      → ◌≡◌ {A = Read (Option A)} (pick s (Some (Some a, i)) (pick m (Some (Some a, i + 1)) None)) (Some (Some a, j))
  unfolding pick
  by true m j h = let e : i ≡ j = ap (λ (p : Option (Unit {0}) × ℕ). p.1) (value h) in ap (λ k. Some (Some a, k)) e
  by false true j h = let e : i + 1 ≡ j = ap (λ (p : Option (Unit {0}) × ℕ). p.1) (value h) in ap (λ k. Some (Some a, k)) e
  by false false j h = absurd (cc)

  by_none : (s m : Bool) → ◌≡◌ {A = Read (Option (Unit {0}))} (pick s (Some (Some (tt {0}), i)) (pick m (Some (Some (tt {0}), i + 1)) None)) None
      → ◌≡◌ {A = Read (Option A)} (pick s (Some (Some a, i)) (pick m (Some (Some a, i + 1)) None)) None
  unfolding pick
  by_none true m h = absurd (cc)
  by_none false true h = absurd (cc)
  by_none false false h = refl

  pub after_any : (ts : List Lexeme) (sign : Terminal) (j : ℕ) → after ts sign (tt {0}) i ≡ Some (Some (tt {0}), j) → pick {A = Read (Option A)} (sees ts i sign) (Some (Some a, i)) (pick (sees ts i t.Comma) (Some (Some a, i + 1)) None) ≡ Some (Some a, j)
  unfolding after
  after_any ts sign j h = by _ _ j h

  pub after_none : (ts : List Lexeme) (sign : Terminal) → after ts sign (tt {0}) i ≡ None → pick {A = Read (Option A)} (sees ts i sign) (Some (Some a, i)) (pick (sees ts i t.Comma) (Some (Some a, i + 1)) None) ≡ None
  unfolding after
  after_none ts sign h = by_none _ _ h

pub refuses : {A B : Type 0} (e : Stop) (read : Read A) (other : Read B) → (read ≡ None → other ≡ None) → Refuses e read → Refuses e other
refuses end.Fault read other f h = f h
refuses end.Memory read other f h = tt

-- a refusal, and so of what it is a part of
pub same_refused : {A B : Type 0} (e : Stop) (r : Result (B × ℕ) Stop) (read : Read A) (other : Read B)
    → Refuses e read → ((y : Stop) × (r ≡ Err y) × (y ≡ e)) → (read ≡ None → other ≡ None) → ReadsSame r other
same_refused e r read other h s f =
    let is : Err e ≡ r = sym (s.1 ∙ ap Err s.2) in
    let P : Result _ Stop → Type 0 = λ x. ReadsSame x other in
    subst P is (refuses e read other f h)

pub list_refused_by : {A B : Type 0} (e : Stop) (r : Result (Vec B Global × ℕ) Stop) (read : Read A) (other : Read (List B))
    → Refuses e read → ((y : Stop) × (r ≡ Err y) × (y ≡ e)) → (read ≡ None → other ≡ None) → ReadsList r other
list_refused_by e r read other h s f =
    let is : Err e ≡ r = sym (s.1 ∙ ap Err s.2) in
    let P : Result _ Stop → Type 0 = λ x. ReadsList x other in
    subst P is (refuses e read other f h)

-- the same result of the same reading
pub list_as : {A : Type 0} (r : Result (Vec A Global × ℕ) Stop) (read other : Read (List A)) → ReadsList r read → other ≡ read → ReadsList r other
list_as r read other h e = let P : Read _ → Type 0 = λ x. ReadsList r x in subst P (sym e) h

-- none behind nothing
pub ahead_none : {A : Type 0} (read : Read (List A)) → read ≡ ahead [] read
unfolding ahead ◌>>=◌
ahead_none None = refl
ahead_none (Some r) = refl

pub not_some : {A : Type 0} {x : Option A} {y : A} → x ≡ None → x ≡ Some y → ⊥
not_some h e = absurd (cc)
