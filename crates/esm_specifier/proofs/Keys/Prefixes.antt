-- Keys that reach a text begin it, and among them code unit order is that of their lengths.
use Rattle.std.proofs.Common.{◌≡◌, ◌≤◌, ◌<◌, ◌+◌, ◌-◌, ◌⊎◌, inl, inr, ℕ, List, [], ◌∷◌, ◌++◌, codes, length, take, drop, get_or, slice_index, bytes_eq, nat_cmp, Bool, true, false, ◌&&◌, ◌||◌, true≢false, Ordering, Less, Equal, Greater, refl, sym, ap, subst, ◌∙◌, append-nil, append_assoc, length-append, arith}
use Rattle.std.proofs.Math.Seq.{take-append_seam, get_or-append_seam}
use Rattle.std.proofs.lemmas.Bool.Decides.{Decides-eqb}
use Rattle.std.proofs.lemmas.Cmp.{tied_itself, nat_cmp_total}
use Rattle.std.proofs.lemmas.Grind.{flat_map-append}
use Rattle.std.proofs.lemmas.List.{take-append-le, take-append-drop, take_more}
use Rattle.std.proofs.lemmas.Slice.Eq.{bytes_eq-Decides, starts_is, ends_is}
use Rattle.std.proofs.lemmas.Str.{chars-append, IsCharBoundary-after_ascii, IsUtf8-take}
use Rattle.std.specs.Char.Escape.{encode_utf16}
use Rattle.std.specs.Cmp.Lexicographic.{slice_cmp}
use Rattle.std.specs.List.{flat_map}
use Rattle.std.specs.Ordering.{is_gt}
use Rattle.std.specs.Str.{IsUtf8, IsCharBoundary, chars}
use Rattle.esm_base.specs.CodeUnits.{code_units, code_unit_order}
use Rattle.esm_base.proofs.CodeUnits.{code_unit_order_same}
use Rattle.esm_import_map.specs.Specifier.{begins_with, ends_in_slash}
use Rattle.esm_specifier.specs.Resolution.{reaches}

-- a key that ends in `/` and begins a text
pub record IsSlashed (text key : List ℕ) : Type 0 where
  pub before : List ℕ
  pub slash : key ≡ before ++ (47 ∷ [])
  pub rest : List ℕ
  pub whole : text ≡ key ++ rest

both : (a b : Bool) → (a && b) ≡ true → (a ≡ true) × (b ≡ true)
both true b e = (refl, e)
both false b e = absurd (true≢false (sym e))

slashed : (text key : List ℕ) → ends_in_slash key ≡ true → begins_with text key ≡ true → IsSlashed text key
slashed text key ends begins = record {
  before = take (length key - length (codes "/")) key;
  slash = (ends_is Decides-eqb key (codes "/") _ refl).0 ends;
  rest = drop (length key) text;
  whole = (starts_is Decides-eqb text key _ refl).0 begins;
}

reaches_by : (text key : List ℕ) (same prefixes ends begins : Bool) → bytes_eq key text ≡ same → ends_in_slash key ≡ ends → begins_with text key ≡ begins → (same || (prefixes && ends && begins)) ≡ true → (key ≡ text) ⊎ IsSlashed text key
reaches_by text key true prefixes ends begins s e b r = inl ((bytes_eq-Decides key text).0 s)
reaches_by text key false true true true s e b r = inr (slashed text key e b)
reaches_by text key false true true false s e b r = absurd (true≢false (sym r))
reaches_by text key false true false begins s e b r = absurd (true≢false (sym r))
reaches_by text key false false ends begins s e b r = absurd (true≢false (sym r))

pub reaches_cases : (prefixes : Bool) (text key : List ℕ) → reaches prefixes text key ≡ true → (key ≡ text) ⊎ IsSlashed text key
reaches_cases prefixes text key r = reaches_by text key (bytes_eq key text) prefixes (ends_in_slash key) (begins_with text key) refl refl refl r

reached_by : (same ends begins : Bool) → ends ≡ true → begins ≡ true → (same || (true && ends && begins)) ≡ true
reached_by true ends begins e f = refl
reached_by false ends begins e f = rw (e, f) refl

-- a prefix that ends in `/` reaches the text
pub reached_prefix : (text : List ℕ) (j : ℕ) → j < length text → slice_index text j ≡ 47 → reaches true text (take (j + 1) text) ≡ true
reached_prefix text j h slash =
    let key = take (j + 1) text in
    let cut : key ≡ take j text ++ (47 ∷ []) = take_more text j 0 h ∙ ap (λ b. take j text ++ (b ∷ [])) slash in
    reached_by (bytes_eq key text) (ends_in_slash key) (begins_with text key) ((ends_is Decides-eqb key (codes "/") _ refl).1 (take j text) cut)
    ((starts_is Decides-eqb text key _ refl).1 (drop (j + 1) text) (sym (take-append-drop (j + 1) text)))

-- ---- fronts of a text

-- a text that begins another
pub record IsFront (text key : List ℕ) : Type 0 where
  pub rest : List ℕ
  pub whole : text ≡ key ++ rest
  pub utf8 : IsUtf8 key

pub slash_at : (text key : List ℕ) (s : IsSlashed text key) → slice_index text (length s.before) ≡ 47
slash_at text key s = ap (λ t. get_or t (length s.before) 0) (s.whole ∙ ap (λ k. k ++ s.rest) s.slash ∙ append_assoc s.before (47 ∷ []) s.rest) ∙ get_or-append_seam s.before 47 s.rest 0

pub slashed_length : (text key : List ℕ) (s : IsSlashed text key) → length key ≡ length s.before + 1
slashed_length text key s = ap length s.slash ∙ length-append s.before (47 ∷ [])

pub whole_length : (text key rest : List ℕ) → text ≡ key ++ rest → length key ≤ length text
whole_length text key rest e = omega (arith, ap length e, length-append key rest)

front_slashed : (text key : List ℕ) → IsUtf8 text → IsSlashed text key → IsFront text key
front_slashed text key utf8 s =
    let n = length s.before in
    let len = slashed_length text key s in
    let within = whole_length text key s.rest s.whole in
    let at = slash_at text key s in
    let below : n < length text = omega (arith, len, within) in
    let ascii : get_or text n 0 < 128 = omega (arith, at) in
    let cut : IsCharBoundary text (n + 1) = IsCharBoundary-after_ascii text n utf8 below ascii in
    let key_is : take (n + 1) text ≡ key = ap (λ m. take m text) (sym len) ∙ ap (take (length key)) s.whole ∙ take-append_seam key s.rest in
    record { rest = s.rest; whole = s.whole; utf8 = subst IsUtf8 key_is (IsUtf8-take text (n + 1) utf8 cut) }

front_by : (text key : List ℕ) → IsUtf8 text → (key ≡ text) ⊎ IsSlashed text key → IsFront text key
front_by text key utf8 (inl same) = record { rest = []; whole = sym same ∙ sym (append-nil key); utf8 = subst IsUtf8 (sym same) utf8 }
front_by text key utf8 (inr s) = front_slashed text key utf8 s

pub front_reached : (prefixes : Bool) (text key : List ℕ) → IsUtf8 text → reaches prefixes text key ≡ true → IsFront text key
front_reached prefixes text key utf8 r = front_by text key utf8 (reaches_cases prefixes text key r)

pub front_length : (text key : List ℕ) → IsFront text key → length key ≤ length text
front_length text key f = whole_length text key f.rest f.whole

-- of two fronts the shorter begins the longer
pub shorter_front : (text a c : List ℕ) → IsFront text a → IsFront text c → length a ≤ length c → c ≡ a ++ drop (length a) c
shorter_front text a c f g h =
    let e : a ++ f.rest ≡ c ++ g.rest = sym f.whole ∙ g.whole in
    let same : a ≡ take (length a) c = sym (take-append_seam a f.rest) ∙ ap (take (length a)) e ∙ take-append-le (length a) c g.rest h in
    sym (take-append-drop (length a) c) ∙ ap (λ t. t ++ drop (length a) c) (sym same)

-- ---- their order

code_units-append : (a b : List ℕ) → IsUtf8 a → code_units (a ++ b) ≡ code_units a ++ code_units b
code_units-append a b utf8 = ap (flat_map encode_utf16) (chars-append a b utf8) ∙ flat_map-append encode_utf16 (chars a) (chars b)

not_greater : (xs ys : List ℕ) → is_gt (slice_cmp nat_cmp xs (xs ++ ys)) ≡ false
not_greater [] [] = refl
not_greater [] (y ∷ ys) = refl
not_greater (x ∷ xs) ys = rw (tied_itself nat_cmp_total x) (not_greater xs ys)

less_or_same : (a c : List ℕ) → IsUtf8 a → IsUtf8 c → (o : Ordering) → code_unit_order a c ≡ o → is_gt o ≡ false → (code_unit_order a c ≡ Less) ⊎ (a ≡ c)
less_or_same a c u v Less is h = inl is
less_or_same a c u v Equal is h = inr (code_unit_order_same a c u v is)
less_or_same a c u v Greater is h = absurd (true≢false h)

-- of two fronts the shorter is less
pub front_order : (text a c : List ℕ) → IsFront text a → IsFront text c → length a ≤ length c → (code_unit_order a c ≡ Less) ⊎ (a ≡ c)
front_order text a c f g h =
    let rest = drop (length a) c in
    let units : code_units c ≡ code_units a ++ code_units rest = ap code_units (shorter_front text a c f g h) ∙ code_units-append a rest f.utf8 in
    let below : is_gt (code_unit_order a c) ≡ false = ap (λ u. is_gt (slice_cmp nat_cmp (code_units a) u)) units ∙ not_greater (code_units a) (code_units rest) in
    less_or_same a c f.utf8 g.utf8 (code_unit_order a c) refl below
