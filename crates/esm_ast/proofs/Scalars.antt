-- What stands in a literal is a list of characters: no surrogate, and at most 10FFFF.
use Rattle.std.proofs.Common.{◌≡◌, ℕ, ◌+◌, ◌*◌, ◌-◌, ◌<◌, Bool, true, false, not, ◌&&◌, ◌||◌, ◌==◌, List, [], ◌∷◌, ◌++◌, Option, Some, None, refl, subst, arith}
use Rattle.std.proofs.lemmas.Bool.Decides.{nat_tests}
use Rattle.std.proofs.lemmas.Bool.{and_parts, and_from}
use Rattle.std.proofs.Math.Utf8.{scalar, scalars}
use Rattle.std.specs.Char.{digit_value}
use Rattle.std.specs.Prelude.{nat_le, ⊤}
use Rattle.esm_grammar.specs.Characters.{is_digit, is_hex, is_high, is_low, is_line_terminator}
use Rattle.esm_grammar.specs.Reading.{◌>>=◌, pick}
use Rattle.esm_grammar.specs.Strings.{Code, hex_two, hex_four, braced, second_half, four_digits, unicode, begins_digit, skip_line_feed, single, one, escape, is_plain, piece, Body, closed, more}

abbrev pub AreScalars : List ℕ → Type 0
AreScalars cs = scalars cs ≡ true

-- what is found has P, and what is behind it are characters
abbrev pub Found : {A : Type 0} → (A → Type 0) → Option (A × List ℕ) → Type 0
Found P None = ⊤
Found P (Some x) = P x.0 × AreScalars x.1

pub scalars_tail : (c : ℕ) (cs : List ℕ) → AreScalars (c ∷ cs) → AreScalars cs
scalars_tail c cs h = (and_parts (scalar c) (scalars cs) h).1

pub scalars_head : (c : ℕ) (cs : List ℕ) → AreScalars (c ∷ cs) → scalar c ≡ true
scalars_head c cs h = (and_parts (scalar c) (scalars cs) h).0

picked : {A : Type 0} (P : A → Type 0) (b : Bool) (x y : Option (A × List ℕ)) → (b ≡ true → Found P x) → (b ≡ false → Found P y) → Found P (pick b x y)
unfolding pick
picked P true x y f g = f refl
picked P false x y f g = g refl

bound : {A B : Type 0} (P : A → Type 0) (Q : B → Type 0) (r : Option (A × List ℕ)) (f : A × List ℕ → Option (B × List ℕ)) → Found P r → ((a : A) (cs : List ℕ) → P a → AreScalars cs → Found Q (f (a, cs))) → Found Q (r >>= f)
unfolding ◌>>=◌
bound P Q None f h g = tt
bound P Q (Some x) f h g = g x.0 x.1 h.0 h.1

-- ---- numbers

Below : ℕ → ℕ → Type 0
Below n x = x < n

hex_is : (a : ℕ) → is_hex a ≡ true → digit_value a < 16
unfolding is_hex
hex_is a h = grind (arith, nat_tests)

two_found : (cs : List ℕ) → AreScalars cs → Found (λ x. x < 256) (hex_two cs)
unfolding hex_two
two_found [] s = tt
two_found (a ∷ []) s = tt
two_found (a ∷ b ∷ cs) s =
    picked _ (is_hex a) _ None (λ ha. picked _ (is_hex b) _ None (λ hb.
    let x = hex_is a ha in
    let y = hex_is b hb in
    (omega (arith, x, y), scalars_tail b cs (scalars_tail a (b ∷ cs) s))) (λ n. tt)) (λ n. tt)

four_found : (cs : List ℕ) → AreScalars cs → Found (λ x. x < 65536) (hex_four cs)
unfolding hex_four
four_found cs s = bound (λ x. x < 256) _ (hex_two cs) _ (two_found cs s) (λ a as' la sa.
    bound (λ x. x < 256) _ (hex_two as') _ (two_found as' sa) (λ b bs lb sb. (omega (arith, la, lb), sb)))

-- ---- codes

plain_code : (x : ℕ) → x < 1114112 → is_high x ≡ false → is_low x ≡ false → scalar x ≡ true
unfolding is_high is_low
plain_code x lt h l = grind (arith, nat_tests)

abbrev IsCode : ℕ → Type 0
IsCode x = scalar x ≡ true

not_either : (a b c : Bool) → (a && not (b || c)) ≡ true → (b ≡ false) × (c ≡ false)
not_either true false false h = (refl, refl)
not_either true true c h = absurd (cc)
not_either true false true h = absurd (cc)
not_either false b c h = absurd (cc)

braced_found : (x : ℕ) (some : Bool) (cs : List ℕ) → x < 1114112 → AreScalars cs → Found IsCode (braced x some cs)
unfolding braced
braced_found x some [] lt s = tt
braced_found x some (c ∷ cs) lt s =
    picked _ (is_hex c) _ _
    (λ hc. picked _ (nat_le (16 * x + digit_value c) 1114111) _ None
    (λ le. braced_found (16 * x + digit_value c) true cs (grind (arith, nat_tests)) (scalars_tail c cs s)) (λ n. tt))
    (λ n. picked _ ((c == 125) && (some && not (is_high x || is_low x))) _ None
    (λ h.
    let p = and_parts (c == 125) (some && not (is_high x || is_low x)) h in
    let q = not_either some (is_high x) (is_low x) p.1 in
    (plain_code x lt q.0 q.1, scalars_tail c cs s)) (λ m. tt))

paired : (x y : ℕ) → is_high x ≡ true → is_low y ≡ true → scalar (65536 + (1024 * (x - 55296) + (y - 56320))) ≡ true
unfolding is_high is_low
paired x y h l = grind (arith, nat_tests)

second_found : (x : ℕ) (cs : List ℕ) → is_high x ≡ true → AreScalars cs → Found IsCode (second_half x cs)
unfolding second_half
second_found x [] h s = tt
second_found x (b ∷ []) h s = tt
second_found x (b ∷ u ∷ cs) h s =
    picked _ ((b == 92) && (u == 117)) _ None
    (λ e. bound (λ y. y < 65536) _ (hex_four cs) _ (four_found cs (scalars_tail u cs (scalars_tail b (u ∷ cs) s)))
    (λ y ys ly sy. picked _ (is_low y) _ None (λ l. (paired x y h l, sy)) (λ n. tt)))
    (λ n. tt)

digits_found : (cs : List ℕ) → AreScalars cs → Found IsCode (four_digits cs)
unfolding four_digits
digits_found cs s = bound (λ x. x < 65536) _ (hex_four cs) _ (four_found cs s)
    (λ x xs lx sx. picked _ (is_high x) _ _ (λ h. second_found x xs h sx)
    (λ h. picked _ (is_low x) None _ (λ l. tt) (λ l. (plain_code x (omega (arith, lx)) h l, sx))))

unicode_found : (cs : List ℕ) → AreScalars cs → Found IsCode (unicode cs)
unfolding unicode
unicode_found [] s = tt
unicode_found (c ∷ cs) s =
    picked _ (c == 123) _ _ (λ e. braced_found 0 false cs (omega arith) (scalars_tail c cs s)) (λ n. digits_found (c ∷ cs) s)

-- ---- pieces

alone : (c : ℕ) → scalar c ≡ true → AreScalars (c ∷ [])
alone c h = and_from (scalar c) true h refl

one_found : (code : Code) → Found IsCode code → Found AreScalars (one code)
unfolding one
one_found code h = bound IsCode _ code _ h (λ x cs c s. (alone x c, s))

small_code : (x : ℕ) → x < 256 → scalar x ≡ true
small_code x lt = grind (arith, nat_tests)

two_code : (code : Code) → Found (λ x. x < 256) code → Found IsCode code
two_code None h = tt
two_code (Some x) h = (small_code x.0 h.0, h.1)

pick_scalar : (b : Bool) (x y : ℕ) → scalar x ≡ true → scalar y ≡ true → scalar (pick b x y) ≡ true
unfolding pick
pick_scalar true x y h k = h
pick_scalar false x y h k = k

single_scalar : (c : ℕ) → scalar c ≡ true → scalar (single c) ≡ true
unfolding single
single_scalar c s =
    pick_scalar (c == 110) 10 _ refl (pick_scalar (c == 116) 9 _ refl (pick_scalar (c == 114) 13 _ refl
    (pick_scalar (c == 98) 8 _ refl (pick_scalar (c == 118) 11 _ refl (pick_scalar (c == 102) 12 c refl s)))))

pick_rest : (b : Bool) (x y : List ℕ) → AreScalars x → AreScalars y → AreScalars (pick b x y)
unfolding pick
pick_rest true x y h k = h
pick_rest false x y h k = k

skipped : (cs : List ℕ) → AreScalars cs → AreScalars (skip_line_feed cs)
unfolding skip_line_feed
skipped [] s = refl
skipped (c ∷ cs) s = pick_rest (c == 10) cs (c ∷ cs) (scalars_tail c cs s) s

escape_found : (cs : List ℕ) → AreScalars cs → Found AreScalars (escape cs)
unfolding escape
escape_found [] s = tt
escape_found (c ∷ cs) s =
    let t = scalars_tail c cs s in
    picked _ (is_digit c) _ _
    (λ d. picked _ ((c == 48) && not (begins_digit cs)) _ None (λ z. (refl, t)) (λ n. tt))
    (λ d. picked _ (c == 120) _ _ (λ e. one_found (hex_two cs) (two_code _ (two_found cs t)))
    (λ n. picked _ (c == 117) _ _ (λ e. one_found (unicode cs) (unicode_found cs t))
    (λ m. picked _ (is_line_terminator c) _ _
    (λ e. (refl, pick_rest (c == 13) (skip_line_feed cs) cs (skipped cs t) t))
    (λ e. (alone (single c) (single_scalar c (scalars_head c cs s)), t)))))

piece_found : (q : ℕ) (cs : List ℕ) → AreScalars cs → Found AreScalars (piece q cs)
unfolding piece
piece_found q [] s = tt
piece_found q (c ∷ cs) s =
    let t = scalars_tail c cs s in
    picked _ (c == 92) _ _ (λ e. escape_found cs t)
    (λ e. picked _ (is_plain q c) _ None (λ p. (alone c (scalars_head c cs s), t)) (λ n. tt))

pub scalars_append : (cs ds : List ℕ) → AreScalars cs → AreScalars ds → AreScalars (cs ++ ds)
scalars_append [] ds h k = k
scalars_append (c ∷ cs) ds h k = let p = and_parts (scalar c) (scalars cs) h in and_from (scalar c) _ p.0 (scalars_append cs ds p.1 k)

pub scalars_behind : (cs ds : List ℕ) → AreScalars (cs ++ ds) → AreScalars ds
scalars_behind [] ds h = h
scalars_behind (c ∷ cs) ds h = scalars_behind cs ds (scalars_tail c (cs ++ ds) h)

pub scalars_before : (cs ds : List ℕ) → AreScalars (cs ++ ds) → AreScalars cs
scalars_before [] ds h = refl
scalars_before (c ∷ cs) ds h = and_from (scalar c) (scalars cs) (scalars_head c (cs ++ ds) h) (scalars_before cs ds (scalars_tail c (cs ++ ds) h))

pub body_scalars : {q : ℕ} {cs v rest : List ℕ} → Body q cs v rest → AreScalars cs → AreScalars v × AreScalars rest
body_scalars (closed {c} {cs} e) s = (refl, scalars_tail c cs s)
body_scalars {q} (more {cs} {after} {rest} {v} {w} p d) s =
    let f : Found AreScalars (Some (v, after)) = subst (Found AreScalars) p (piece_found q cs s) in
    let r = body_scalars d f.1 in
    (scalars_append v w f.0 r.0, r.1)
