-- A module text has at most as many items as bytes, and a module at most as many requests as items.
use Rattle.std.proofs.Common.{ℕ, zero, suc, ◌+◌, ◌*◌, ◌-◌, ◌≤◌, Bool, true, false, cond, List, [], ◌∷◌, ◌++◌, length, drop, Option, Some, None, arith, length-append}
use Rattle.std.proofs.lemmas.List.{length-drop}
use Rattle.std.specs.Str.{chars, chars_after, continuation_len, lead_bits}
use Rattle.std.specs.Prelude.{bytes_eq, if◌then◌else◌}
use Rattle.std.specs.List.{list_any}
use Rattle.esm_base.specs.declared.limits.TheConstants.{MAX_FILE_BYTES}
use Rattle.esm_tree.specs.Syntax.{Item}
use Rattle.esm_tree.specs.declared.lexeme.Lexeme.{Lexeme}
use Rattle.esm_base.specs.Mark.{has_mark, without_mark}
use Rattle.esm_grammar.specs.Lexes.{Lexes, hashbang_len}
use Rattle.esm_grammar.specs.Lexes.Lexes.{all_read, stuck, blank, token}
use Rattle.esm_grammar.specs.Items.{ItemsAt}
use Rattle.esm_grammar.specs.Items.ItemsAt.{no_item, an_item}
use Rattle.esm_grammar.specs.ModuleText.{Spells}
use Rattle.esm_base.specs.Urls.{Text}
use Rattle.esm_grammar.proofs.CompleteItems.{item_within}
use Rattle.esm_ast.proofs.Shorter.{token_shorter}
use Rattle.esm_ast.specs.Entries.{with_text, add_request, request_of, requests_after, entries_with, entries_of}

-- ---- items and tokens

items_few : (ts : List Lexeme) {i : ℕ} {xs : List Item} → ItemsAt ts i xs → i ≤ length ts → length xs + i ≤ length ts
items_few ts (no_item h) le = omega (arith, le)
items_few ts (an_item d ds) le =
    let w = item_within ts d in
    let rest = items_few ts ds w.1 in
    omega (arith, w.0, rest)

lexes_few : {total : ℕ} {line whole : Bool} {cs : List ℕ} {ts : List Lexeme} → Lexes total line cs ts whole → length ts ≤ length cs
lexes_few all_read = omega arith
lexes_few (stuck g n) = omega arith
lexes_few (blank {n} {cs = cs} g d) = let rest = lexes_few d in omega (arith, rest, length-drop n cs)
lexes_few (token g l d) = let rest = lexes_few d in let less = token_shorter l.token in omega (arith, rest, less)

-- ---- characters and bytes

chars_after_few : (n c : ℕ) (bs : List ℕ) → length (chars_after n c bs) ≤ 1 + length bs
chars_after_few zero c [] = omega arith
chars_after_few zero c (b ∷ bs) = let rest = chars_after_few (continuation_len b) (lead_bits b) bs in omega (arith, rest)
chars_after_few (suc n) c [] = omega arith
chars_after_few (suc n) c (b ∷ bs) = let rest = chars_after_few n (c * 64 + (b - 128)) bs in omega (arith, rest)

chars_few : (bs : List ℕ) → length (chars bs) ≤ length bs
unfolding chars
chars_few [] = omega arith
chars_few (b ∷ bs) = let rest = chars_after_few (continuation_len b) (lead_bits b) bs in omega (arith, rest)

mark_few : (b : Bool) (bytes : List ℕ) → length (if b then drop 3 bytes else bytes) ≤ length bytes
mark_few true bytes = omega (arith, length-drop 3 bytes)
mark_few false bytes = omega arith

without_mark_few : (bytes : List ℕ) → length (without_mark bytes) ≤ length bytes
unfolding without_mark
without_mark_few bytes = mark_few (has_mark bytes) bytes

pub spelled_few : (bytes : List ℕ) (items : List Item) → Spells bytes items → length items ≤ length bytes
spelled_few bytes items s =
    let text = chars (without_mark bytes) in
    let n = hashbang_len text in
    let a = items_few s.ts s.derived (omega arith) in
    let b = lexes_few s.tokens.tokens.lexes in
    let d = chars_few (without_mark bytes) in
    let e = without_mark_few bytes in
    omega (arith, a, b, length-drop n text, d, e)

-- ---- requests

added_few : (b : Bool) (found : List Text) (s : Text) → length (cond b found (found ++ s ∷ [])) ≤ length found + 1
added_few true found s = omega arith
added_few false found s = omega (arith, length-append found (s ∷ []))

added_by : (o : Option Text) (found : List Text) → length (add_request found o) ≤ length found + 1
unfolding add_request with_text
added_by None found = omega arith
added_by (Some s) found = added_few (list_any (bytes_eq s) found) found s

requests_after_few : (found : List Text) (xs : List Item) → length (requests_after found xs) ≤ length found + length xs
unfolding requests_after
requests_after_few found [] = omega arith
requests_after_few found (x ∷ xs) =
    let one = added_by (request_of x) found in
    let rest = requests_after_few (add_request found (request_of x)) xs in
    omega (arith, one, rest)

pub requests_few : (items : List Item) → length (entries_of items).requests ≤ length items
unfolding entries_of entries_with
requests_few items = let r = requests_after_few [] items in omega (arith, r)

pub requests_at_most : (bytes : List ℕ) (items : List Item) → Spells bytes items → length (entries_of items).requests ≤ MAX_FILE_BYTES
requests_at_most bytes items s = let r = requests_few items in let n = spelled_few bytes items s in let l = s.tokens.short in omega (arith, r, n, l)
