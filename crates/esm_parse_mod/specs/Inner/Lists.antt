-- What a function that reads names or lists of names gives. What is read names no part of the tree.
use Rattle.std.specs.Prelude.{◌≡◌, ℕ, ◌+◌, List, ◌++◌, Option, Some, None, Result, Ok, Err, Vec}
use Rattle.std.specs.declared.alloc.Global.{Global}
use Rattle.esm_tree.specs.declared.lexeme.Terminal.{Terminal}
use Rattle.esm_tree.specs.declared.lexeme.Terminal.TheVariants as t
use Rattle.esm_tree.specs.Lexeme.{Lexeme}
use Rattle.esm_grammar.specs.Reading.{Read, ◌>>=◌, pick, sees}
use Rattle.esm_parse_expr.specs.declared.reader.Stop.{Stop}
use Rattle.esm_parse_expr.specs.Outcome.{Refuses}

abbrev pub ReadsSame : {A : Type 0} → Result (A × ℕ) Stop → Read A → Type 0
ReadsSame (Ok p) read = read ≡ Some (p.0, p.1)
ReadsSame (Err e) read = Refuses e read

abbrev pub ReadsList : {A : Type 0} → Result (Vec A Global × ℕ) Stop → Read (List A) → Type 0
ReadsList (Ok p) read = read ≡ Some (p.0.items, p.1)
ReadsList (Err e) read = Refuses e read

-- elements after those that are there
unfoldable pub ahead : {A : Type 0} → List A → Read (List A) → Read (List A)
ahead before read = read >>= λ l. Some (before ++ l.0, l.1)

-- an element of a list, and where the list goes on behind it: at the closing sign, or behind a comma
unfoldable pub after : {A : Type 0} → List Lexeme → Terminal → A → ℕ → Read (Option A)
after ts sign a i = pick (sees ts i sign) (Some (Some a, i)) (pick (sees ts i t.Comma) (Some (Some a, i + 1)) None)

abbrev pub GoesOn : List Lexeme → Terminal → ℕ → Result ℕ Stop → Type 0
GoesOn ts sign at (Ok j) = after ts sign (tt {0}) at ≡ Some (Some (tt {0}), j)
GoesOn ts sign at (Err e) = Refuses e (after ts sign (tt {0}) at)
