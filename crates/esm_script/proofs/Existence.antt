-- A text has a tree or a fault.
use Rattle.std.proofs.Common.{◌≡◌, ℕ, ◌≤◌, ◌⊎◌, inl, inr, Bool, true, false, List, length, drop, Option, Some, None, refl, sym, ◌∙◌, arith}
use Rattle.std.specs.Prelude.{IsUtf8, chars}
use Rattle.std.specs.Str.{is_utf8}
use Rattle.std.proofs.lemmas.Str.{IsUtf8-from_is_utf8, is_utf8-from_IsUtf8}
use Rattle.std.proofs.lemmas.Bool.{cases_lt}
use Rattle.esm_base.specs.declared.fault.TextFault.{TextFault}
use Rattle.esm_base.specs.declared.fault.TextFault.TheVariants.{P1, P2, P3, P4, P6}
use Rattle.esm_tree.specs.Syntax.{Item}
use Rattle.esm_tree.specs.Lexeme.{Lexeme}
use Rattle.esm_base.specs.Mark.{without_mark}
use Rattle.esm_grammar.specs.Lexes.{AreTokens, hashbang_len, too_deep}
use Rattle.esm_grammar.specs.Items.{ItemsAt}
use Rattle.esm_grammar.specs.ReadingItems.{module_items}
use Rattle.esm_grammar.specs.EarlyErrors.{has_early_error}
use Rattle.esm_grammar.specs.ModuleText.{HasTokens, Spells, FaultOf}
use Rattle.esm_grammar.proofs.SoundItems as sound
use Rattle.esm_grammar.proofs.CompleteItems.{module_complete}
use Rattle.esm_script.proofs.Lexed.{has_lexemes}

true_false : {b : Bool} → b ≡ true → b ≡ false → ⊥
true_false p q = let e : true ≡ false = sym p ∙ q in cc

none_some : {A : Type 0} {o : Option A} {x : A} → o ≡ None → o ≡ Some x → ⊥
none_some {x = x} p q = let e : None ≡ Some x = sym p ∙ q in cc

module _ (bytes : List ℕ) where
  abbrev Decided : Type 0
  Decided = ((items : List Item) × Spells bytes items) ⊎ ((fault : TextFault) × FaultOf bytes fault)

  -- the tokens are a module
  derived : (ts : List Lexeme) (items : List Item) → HasTokens bytes ts true → ItemsAt ts 0 items → Decided
  derived ts items h d = by (has_early_error items) refl
    where
      by : (b : Bool) → has_early_error items ≡ b → Decided
      by true e = inr (P3, record { ts = ts; tokens = h; items = items; derived = d; error = e })
      by false e = inl (items, record { ts = ts; tokens = h; derived = d; no_error = e })

  -- all tokens are read
  all_tokens : (ts : List Lexeme) → HasTokens bytes ts true → Decided
  all_tokens ts h = by (module_items ts) refl
    where
      by : (r : Option (List Item × ℕ)) → module_items ts ≡ r → Decided
      by None e = inr (P2, inr (ts, (h, λ items d. none_some e (module_complete ts d).1)))
      by (Some x) e = derived ts x.0 h (sound.module_items ts x e)

  shallow : (ts : List Lexeme) (whole : Bool) → HasTokens bytes ts whole → Decided
  shallow ts true h = all_tokens ts h
  shallow ts false h = inr (P2, inl (ts, h))

  lexed : (ts : List Lexeme) (whole : Bool) → length bytes ≤ 1048576 → AreTokens bytes ts whole → Decided
  lexed ts whole le h = by (too_deep 0 0 ts) refl
    where
      by : (b : Bool) → too_deep 0 0 ts ≡ b → Decided
      by true e = inr (P4, record { short = le; ts = ts; whole = whole; tokens = h; deep = e })
      by false e = shallow ts whole (record { short = le; tokens = h; shallow = e })

  decoded : length bytes ≤ 1048576 → IsUtf8 (without_mark bytes) → Decided
  decoded le u =
      let cs = drop (hashbang_len (chars (without_mark bytes))) (chars (without_mark bytes)) in
      let l = has_lexemes (length bytes) (length cs) false cs (omega arith) in
      lexed l.ts l.whole le (record { utf8 = u; lexes = l.lexes })

  short : length bytes ≤ 1048576 → Decided
  short le = by (is_utf8 (without_mark bytes)) refl
    where
      by : (b : Bool) → is_utf8 (without_mark bytes) ≡ b → Decided
      by true e = decoded le (IsUtf8-from_is_utf8 _ e)
      by false e = inr (P1, (le, λ u. true_false (is_utf8-from_IsUtf8 _ u) e))

  pub tree_or_fault : Decided
  tree_or_fault = elim (cases_lt 1048576 (length bytes)) [
    | inl long ↦ inr (P6, long)
    | inr le ↦ short le
  ]
