-- Tokens in little memory.
use Rattle.std.proofs.Common.{◌≡◌, ℕ, zero, suc, ◌+◌, ◌<◌, ◌≤◌, Bool, true, false, nat_lt, List, [], ◌∷◌, ◌++◌, length, get_or, Result, Ok, Err, OnErr, refl, sym, subst, ap, ◌∙◌, arith}
use Rattle.std.proofs.lemmas.Bool.Decides.{nat_tests}
use Rattle.std.proofs.lemmas.List.{get_or-map, get_or_past, get_or_append_left, length-map, map-append, length-append}
use Rattle.esm_tree.specs.Lexeme.{Lexeme}
use Rattle.esm_tree.specs.declared.token.Token.{Token}
use Rattle.esm_tree.specs.declared.lexeme.Terminal.{Terminal}
use Rattle.esm_tree.specs.declared.lexeme.Terminal.TheVariants as t
use Rattle.esm_grammar.specs.Lexeme.{no_lexeme, terminal_at, text_at, newline_at}
use Rattle.esm_lexer.specs.declared.list.Form.{Form}
use Rattle.esm_lexer.specs.declared.list.Form.TheVariants as form
use Rattle.esm_lexer.specs.declared.list.Mark.{Mark}
use Rattle.esm_lexer.specs.List.{lexeme_of, lexemes_of, text_by, token_by, IsRight, IsRightBy, AllRight}

-- ---- a place

pub below : (i n : ℕ) → true ≡ nat_lt i n → i < n
below i n h = grind (arith, nat_tests)

pub beyond : (i n : ℕ) → false ≡ nat_lt i n → n ≤ i
beyond i n h = grind (arith, nat_tests)

module _ (bytes : List ℕ) (kept : List Lexeme) (ms : List Mark) (i : ℕ) where
  pub marked : (m : Mark) → i < length ms → m ≡ get_or ms i m → get_or (lexemes_of bytes kept ms) i no_lexeme ≡ lexeme_of bytes kept m
  marked m lt is = get_or-map (lexeme_of bytes kept) ms i m no_lexeme lt ∙ sym (ap (lexeme_of bytes kept) is)

  past : length ms ≤ i → get_or (lexemes_of bytes kept ms) i no_lexeme ≡ no_lexeme
  past le = get_or_past (lexemes_of bytes kept ms) i no_lexeme (omega (arith, length-map ms (lexeme_of bytes kept)))

  pub terminal_found : (m : Mark) → i < length ms → m ≡ get_or ms i m → m.terminal ≡ terminal_at (lexemes_of bytes kept ms) i
  unfolding terminal_at
  terminal_found m lt is = sym (ap (λ (l : Lexeme). l.terminal) (marked m lt is))

  pub terminal_missing : length ms ≤ i → t.End ≡ terminal_at (lexemes_of bytes kept ms) i
  unfolding terminal_at
  terminal_missing le = sym (ap (λ (l : Lexeme). l.terminal) (past le))

  pub text_found : (m : Mark) → i < length ms → m ≡ get_or ms i m → text_by m.form bytes kept m.from m.len ≡ text_at (lexemes_of bytes kept ms) i
  unfolding text_at
  text_found m lt is = sym (ap (λ (l : Lexeme). l.text) (marked m lt is))

  pub text_missing : length ms ≤ i → [] ≡ text_at (lexemes_of bytes kept ms) i
  unfolding text_at
  text_missing le = sym (ap (λ (l : Lexeme). l.text) (past le))

  newline_by : (f : Form) (from len : ℕ) (newline : Bool) → (token_by f kept from len newline).newline_before ≡ newline
  newline_by form.Word from len newline = refl
  newline_by form.Literal from len newline = refl
  newline_by form.Sign from len newline = refl
  newline_by form.Kept from len newline = refl

  pub newline_found : (m : Mark) → i < length ms → m ≡ get_or ms i m → m.newline_before ≡ newline_at (lexemes_of bytes kept ms) i
  unfolding newline_at
  newline_found m lt is = sym (ap (λ (l : Lexeme). l.token.newline_before) (marked m lt is) ∙ newline_by m.form m.from m.len m.newline_before)

  pub newline_missing : length ms ≤ i → false ≡ newline_at (lexemes_of bytes kept ms) i
  unfolding newline_at
  newline_missing le = sym (ap (λ (l : Lexeme). l.token.newline_before) (past le))

pub right_at : (bytes : List ℕ) (n : ℕ) (ms : List Mark) (i : ℕ) (m : Mark) → AllRight bytes n ms → i < length ms → m ≡ get_or ms i m → IsRight bytes n m
right_at bytes n [] i m all lt is = absurd (omega arith)
right_at bytes n (x ∷ ms) zero m all lt is = subst (IsRight bytes n) (sym is) all.0
right_at bytes n (x ∷ ms) (suc i) m all lt is = right_at bytes n ms i m all.1 (omega arith) is

-- ---- one more

more_kept : (bytes : List ℕ) (n k : ℕ) (f : Form) (from len : ℕ) → n ≤ k → IsRightBy f bytes n from len → IsRightBy f bytes k from len
more_kept bytes n k form.Word from len le r = r
more_kept bytes n k form.Literal from len le r = r
more_kept bytes n k form.Sign from len le r = r
more_kept bytes n k form.Kept from len le r = omega arith

all_more_kept : (bytes : List ℕ) (n k : ℕ) (ms : List Mark) → n ≤ k → AllRight bytes n ms → AllRight bytes k ms
all_more_kept bytes n k [] le all = tt
all_more_kept bytes n k (m ∷ ms) le all = (more_kept bytes n k m.form m.from m.len le all.0, all_more_kept bytes n k ms le all.1)

all_push : (bytes : List ℕ) (n : ℕ) (ms : List Mark) (m : Mark) → AllRight bytes n ms → IsRight bytes n m → AllRight bytes n (ms ++ m ∷ [])
all_push bytes n [] m all r = (r, tt)
all_push bytes n (x ∷ ms) m all r = (all.0, all_push bytes n ms m all.1 r)

same_text : (bytes : List ℕ) (kept : List Lexeme) (l : Lexeme) (f : Form) (from len : ℕ) → IsRightBy f bytes (length kept) from len → text_by f bytes (kept ++ l ∷ []) from len ≡ text_by f bytes kept from len
same_text bytes kept l form.Word from len r = refl
same_text bytes kept l form.Literal from len r = refl
same_text bytes kept l form.Sign from len r = refl
same_text bytes kept l form.Kept from len r = ap (λ (x : Lexeme). x.text) (get_or_append_left kept (l ∷ []) no_lexeme from r)

same_token : (bytes : List ℕ) (kept : List Lexeme) (l : Lexeme) (f : Form) (from len : ℕ) (newline : Bool) → IsRightBy f bytes (length kept) from len → token_by f (kept ++ l ∷ []) from len newline ≡ token_by f kept from len newline
same_token bytes kept l form.Word from len newline r = refl
same_token bytes kept l form.Literal from len newline r = refl
same_token bytes kept l form.Sign from len newline r = refl
same_token bytes kept l form.Kept from len newline r = ap (λ (x : Lexeme). record { kind = x.token.kind; from = x.token.from; to = x.token.to; newline_before = newline }) (get_or_append_left kept (l ∷ []) no_lexeme from r)

lexeme_with : Terminal → List ℕ → Token → Lexeme
lexeme_with terminal text token = record { terminal = terminal; text = text; token = token }

same_lexeme : (bytes : List ℕ) (kept : List Lexeme) (l : Lexeme) (m : Mark) → IsRight bytes (length kept) m → lexeme_of bytes (kept ++ l ∷ []) m ≡ lexeme_of bytes kept m
same_lexeme bytes kept l m r =
    let text = same_text bytes kept l m.form m.from m.len r in
    let token = same_token bytes kept l m.form m.from m.len m.newline_before r in
    λ i. record { terminal = m.terminal; text = text i; token = token i }

-- the lexemes are the same where one more is kept
pub same_lexemes : (bytes : List ℕ) (kept : List Lexeme) (l : Lexeme) (ms : List Mark) → AllRight bytes (length kept) ms → lexemes_of bytes (kept ++ l ∷ []) ms ≡ lexemes_of bytes kept ms
same_lexemes bytes kept l [] all = refl
same_lexemes bytes kept l (m ∷ ms) all =
    let one = same_lexeme bytes kept l m all.0 in
    let others = same_lexemes bytes kept l ms all.1 in
    λ i. one i ∷ others i

longer : (kept : List Lexeme) (l : Lexeme) → length (kept ++ l ∷ []) ≡ length kept + 1
longer kept l = length-append kept (l ∷ [])

-- one more is kept, and no mark is made
pub kept_right : (bytes : List ℕ) (kept : List Lexeme) (l : Lexeme) (ms : List Mark) → AllRight bytes (length kept) ms → AllRight bytes (length (kept ++ l ∷ [])) ms
kept_right bytes kept l ms all = all_more_kept bytes (length kept) (length (kept ++ l ∷ [])) ms (omega (arith, longer kept l)) all

-- a mark that tells its lexeme by itself
pub mark_right : (bytes : List ℕ) (n : ℕ) (ms : List Mark) (m : Mark) → AllRight bytes n ms → IsRight bytes 0 m → AllRight bytes n (ms ++ m ∷ [])
mark_right bytes n ms m all r = all_push bytes n ms m all (more_kept bytes 0 n m.form m.from m.len (omega arith) r)

no_kept_text : (bytes : List ℕ) (kept : List Lexeme) (f : Form) (from len : ℕ) → IsRightBy f bytes 0 from len → text_by f bytes kept from len ≡ text_by f bytes [] from len
no_kept_text bytes kept form.Word from len r = refl
no_kept_text bytes kept form.Literal from len r = refl
no_kept_text bytes kept form.Sign from len r = refl
no_kept_text bytes kept form.Kept from len r = absurd (omega arith)

no_kept_token : (bytes : List ℕ) (kept : List Lexeme) (f : Form) (from len : ℕ) (newline : Bool) → IsRightBy f bytes 0 from len → token_by f kept from len newline ≡ token_by f [] from len newline
no_kept_token bytes kept form.Word from len newline r = refl
no_kept_token bytes kept form.Literal from len newline r = refl
no_kept_token bytes kept form.Sign from len newline r = refl
no_kept_token bytes kept form.Kept from len newline r = absurd (omega arith)

by_itself : (bytes : List ℕ) (kept : List Lexeme) (m : Mark) → IsRight bytes 0 m → lexeme_of bytes kept m ≡ lexeme_of bytes [] m
by_itself bytes kept m r =
    let text = no_kept_text bytes kept m.form m.from m.len r in
    let token = no_kept_token bytes kept m.form m.from m.len m.newline_before r in
    λ i. record { terminal = m.terminal; text = text i; token = token i }

push_is : (bytes : List ℕ) (kept : List Lexeme) (ms : List Mark) (m : Mark) (l : Lexeme) → lexeme_of bytes kept m ≡ l → lexemes_of bytes kept (ms ++ m ∷ []) ≡ lexemes_of bytes kept ms ++ l ∷ []
push_is bytes kept ms m l e = map-append (lexeme_of bytes kept) ms (m ∷ []) ∙ ap (λ x. lexemes_of bytes kept ms ++ x ∷ []) e

pub mark_pushed : (bytes : List ℕ) (kept : List Lexeme) (ms : List Mark) (m : Mark) (l : Lexeme) → IsRight bytes 0 m → lexeme_of bytes [] m ≡ l → lexemes_of bytes kept (ms ++ m ∷ []) ≡ lexemes_of bytes kept ms ++ l ∷ []
mark_pushed bytes kept ms m l r e = push_is bytes kept ms m l (by_itself bytes kept m r ∙ e)

-- the mark of a lexeme that is kept last
abbrev pub last_mark : List Lexeme → Lexeme → Mark
last_mark kept l = record { from = length kept; len = 0; form = form.Kept; terminal = l.terminal; newline_before = l.token.newline_before }

last_is : (kept : List Lexeme) (l : Lexeme) → get_or (kept ++ l ∷ []) (length kept) no_lexeme ≡ l
last_is [] l = refl
last_is (x ∷ kept) l = last_is kept l

pub last_right : (bytes : List ℕ) (kept : List Lexeme) (l : Lexeme) (ms : List Mark) → AllRight bytes (length kept) ms → AllRight bytes (length (kept ++ l ∷ [])) (ms ++ last_mark kept l ∷ [])
last_right bytes kept l ms all =
    all_push bytes (length (kept ++ l ∷ [])) ms (last_mark kept l) (kept_right bytes kept l ms all) (omega (arith, longer kept l))

pub last_pushed : (bytes : List ℕ) (kept : List Lexeme) (ms : List Mark) (l : Lexeme) → AllRight bytes (length kept) ms → lexemes_of bytes (kept ++ l ∷ []) (ms ++ last_mark kept l ∷ []) ≡ lexemes_of bytes kept ms ++ l ∷ []
last_pushed bytes kept ms l all =
    let is = last_is kept l in
    let one : lexeme_of bytes (kept ++ l ∷ []) (last_mark kept l) ≡ l =
    ap (λ (x : Lexeme). record { terminal = l.terminal; text = x.text; token = record { kind = x.token.kind; from = x.token.from; to = x.token.to; newline_before = l.token.newline_before } }) is in
    push_is bytes (kept ++ l ∷ []) ms (last_mark kept l) l one ∙ ap (λ (xs : List Lexeme). xs ++ l ∷ []) (same_lexemes bytes kept l ms all)

pub on_err : {A E : Type 0} (r : Result A E) (P : Type 0) → P → OnErr r P
on_err (Ok x) P p = tt
on_err (Err e) P p = p
