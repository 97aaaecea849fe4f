-- Walking the prefixes of a text from the longest down.
use Rattle.std.proofs.Common.{◌≡◌, ◌≤◌, ◌<◌, ◌+◌, ◌⊎◌, inl, inr, ℕ, List, length, take, slice_index, filter, Bool, true, false, ◌&&◌, ◌||◌, bytes_eq, true≢false, Option, None, Some, is_some, unwrap_or, [], refl, sym, ap, subst, ◌∙◌, arith}
use Rattle.std.proofs.Math.Nat.{eq-or-lt_of_le}
use Rattle.std.proofs.Math.Seq.{take-append_seam, take-length}
use Rattle.std.proofs.lemmas.Slice.Eq.{bytes_eq-Decides}
use Rattle.std.proofs.lemmas.Str.{IsCharBoundary-end}
use Rattle.std.specs.Map.{keys_of}
use Rattle.std.specs.Str.{IsUtf8}
use Rattle.url.specs.Parts.{Parts}
use Rattle.esm_import_map.specs.ImportMap.{SpecifierMap}
use Rattle.esm_import_map.specs.Specifier.{begins_with, ends_in_slash}
use Rattle.esm_base.specs.TextMap.{TextMapView, at}
use Rattle.esm_specifier.specs.Inner.Lookups.{Decides, IsInScope}
use Rattle.esm_specifier.specs.Resolution.{greatest, reaches, deciding_key, decides, scope_at}
use Rattle.esm_specifier.proofs.Keys.Greatest.{all_keys, in_keys, greatest_longest, greatest_none}
use Rattle.esm_specifier.proofs.Keys.Prefixes.{IsSlashed, reaches_cases, front_reached, front_length, slash_at, slashed_length}

-- no text that passes is longer than n
pub record NoneLonger (c : List ℕ → Bool) (n : ℕ) : Type 0 where
  pub longest : (k : List ℕ) → c k ≡ true → length k ≤ n

-- each text that passes reaches the whole text
pub record OnlyReaching (prefixes : Bool) (text : List ℕ) (c : List ℕ → Bool) : Type 0 where
  pub only : (k : List ℕ) → c k ≡ true → reaches prefixes text k ≡ true

pub longest_start : (prefixes : Bool) (text bytes : List ℕ) (c : List ℕ → Bool) → IsUtf8 text → OnlyReaching prefixes text c → bytes ≡ text → NoneLonger c (length bytes)
longest_start prefixes text bytes c utf8 o same = record { longest = λ k e. subst (λ b. length k ≤ length b) (sym same) (front_length text k (front_reached prefixes text k utf8 (o.only k e))) }

-- a prefix of one byte more, which would pass
at_end : (text : List ℕ) (c : List ℕ → Bool) (j : ℕ) (k : List ℕ) → c text ≡ false → (slice_index text j ≡ 47 → c (take (j + 1) text) ≡ false) → c k ≡ true → length k ≡ j + 1 → (k ≡ text) ⊎ IsSlashed text k → ⊥
at_end text c j k whole probe e len (inl same) = true≢false (sym e ∙ ap c same ∙ whole)
at_end text c j k whole probe e len (inr s) =
    let n = slashed_length text k s in
    let place : length s.before ≡ j = omega (arith, n, len) in
    let slash : slice_index text j ≡ 47 = ap (slice_index text) (sym place) ∙ slash_at text k s in
    let key : take (j + 1) text ≡ k = ap (λ m. take m text) (sym len) ∙ ap (take (length k)) s.whole ∙ take-append_seam k s.rest in
    true≢false (sym e ∙ ap c (sym key) ∙ probe slash)

step_by : (text : List ℕ) (c : List ℕ → Bool) (j : ℕ) (k : List ℕ) → c text ≡ false → (slice_index text j ≡ 47 → c (take (j + 1) text) ≡ false) → c k ≡ true → (k ≡ text) ⊎ IsSlashed text k → (length k ≡ j + 1) ⊎ (length k < j + 1) → length k ≤ j
step_by text c j k whole probe e r (inl len) = absurd (at_end text c j k whole probe e len r)
step_by text c j k whole probe e r (inr less) = omega (arith, less)

-- one byte less
pub longest_step : (prefixes : Bool) (text : List ℕ) (c : List ℕ → Bool) (j n : ℕ) → OnlyReaching prefixes text c → c text ≡ false → NoneLonger c n → n ≡ j + 1 → (slice_index text j ≡ 47 → c (take (j + 1) text) ≡ false) → NoneLonger c j
longest_step prefixes text c j n o whole l is probe = record {
  longest = λ k e. step_by text c j k whole probe e (reaches_cases prefixes text k (o.only k e)) (eq-or-lt_of_le (subst (λ m. length k ≤ m) is (l.longest k e)));
}

nothing_by : (text : List ℕ) (c : List ℕ → Bool) (k : List ℕ) → c text ≡ false → c k ≡ true → length k ≤ 0 → (k ≡ text) ⊎ IsSlashed text k → ⊥
nothing_by text c k whole e len (inl same) = true≢false (sym e ∙ ap c same ∙ whole)
nothing_by text c k whole e len (inr s) = let n = slashed_length text k s in let no : 1 ≤ 0 = omega (arith, n, len) in absurd (omega (arith, no))

-- a key of the map that passes
abbrev pub passes : {A : Type 0} → TextMapView A → (List ℕ → Bool) → List ℕ → Bool
passes map q k = is_some (at k map) && q k

both_true : (a b : Bool) → a ≡ true → b ≡ true → (a && b) ≡ true
both_true a b e f = rw (e, f) refl

pub passes_then : {A : Type 0} (map : TextMapView A) (q : List ℕ → Bool) (k : List ℕ) → passes map q k ≡ true → q k ≡ true
passes_then map q k e = second (is_some (at k map)) (q k) e where
  second : (a b : Bool) → (a && b) ≡ true → b ≡ true
  second true b e = e
  second false b e = absurd (true≢false (sym e))

-- a text that isn't there doesn't pass
pub missing : {A : Type 0} (map : TextMapView A) (q : List ℕ → Bool) (k : List ℕ) → is_some (at k map) ≡ false → passes map q k ≡ false
missing map q k none = ap (λ b. b && q k) none

pub absent : {A : Type 0} (map : TextMapView A) (q : List ℕ → Bool) (k other : List ℕ) → other ≡ k → None ≡ at other map → passes map q k ≡ false
absent map q k other same none = ap (λ t. is_some (at t map) && q t) (sym same) ∙ ap (λ o. is_some o && q other) (sym none)

-- the key that passes than which none is longer is the greatest
pub decided : {A : Type 0} (prefixes : Bool) (text : List ℕ) (map : TextMapView A) (q : List ℕ → Bool) (p : List ℕ) → IsUtf8 text → OnlyReaching prefixes text q → is_some (at p map) ≡ true → q p ≡ true → (n : ℕ) → n ≡ length p → NoneLonger (passes map q) n
    → greatest (filter q (keys_of map)) ≡ Some p
decided prefixes text map q p utf8 o found e n len l =
    greatest_longest text q (λ k f. front_reached prefixes text k utf8 (o.only k f)) p (keys_of map) e
    (all_keys (λ k. q k ≡ true → length k ≤ length p) map (λ k here f. subst (λ m. length k ≤ m) len (l.longest k (both_true (is_some (at k map)) (q k) here f)))) (in_keys p map found)

-- where no prefix is left and the whole text doesn't pass, none does
pub undecided : {A : Type 0} (prefixes : Bool) (text : List ℕ) (map : TextMapView A) (q : List ℕ → Bool) → OnlyReaching prefixes text (passes map q) → passes map q text ≡ false → (n : ℕ) → n ≤ 0 → NoneLonger (passes map q) n → greatest (filter q (keys_of map)) ≡ None
undecided prefixes text map q o whole n none l =
    greatest_none q (keys_of map) (all_keys (λ k. q k ≡ true → ⊥) map (λ k here f.
    let e = both_true (is_some (at k map)) (q k) here f in
    nothing_by text (passes map q) k whole e (omega (arith, l.longest k e)) (reaches_cases prefixes text k (o.only k e))))

reaches_itself : (prefixes : Bool) (text : List ℕ) → reaches prefixes text text ≡ true
reaches_itself prefixes text = ap (λ b. b || (prefixes && ends_in_slash text && begins_with text text)) ((bytes_eq-Decides text text).1 refl)

-- a key that is the whole text decides
pub decided_whole : (prefixes : Bool) (text : List ℕ) (map : SpecifierMap) (address : Option Parts) → IsUtf8 text → Some address ≡ at text map → Decides prefixes text map (length text) address
decided_whole prefixes text map address utf8 is =
    let q = reaches prefixes text in
    let found : is_some (at text map) ≡ true = ap is_some (sym is) in
    let whole = take-length text in
    let start : NoneLonger (passes map q) (length text) = longest_start prefixes text text (passes map q) utf8 (record { only = λ k e. passes_then map q k e }) refl in
    record {
      key = decided prefixes text map q text utf8 (record { only = λ k e. e }) found (reaches_itself prefixes text) (length text) refl start ∙ ap Some (sym whole);
      entry = ap (λ k. at k map) whole ∙ sym is;
      cut = IsCharBoundary-end text;
    }

exact : (b : Bool) → (b || false) ≡ true → b ≡ true
exact true e = refl
exact false e = e

-- where prefixes don't count, only the whole text could decide
pub undecided_whole : (prefixes : Bool) (text : List ℕ) (map : SpecifierMap) → prefixes ≡ false → None ≡ at text map → deciding_key prefixes text map ≡ None
undecided_whole prefixes text map off none =
    let plain : greatest (filter (reaches false text) (keys_of map)) ≡ None = greatest_none (reaches false text) (keys_of map) (all_keys (λ k. reaches false text k ≡ true → ⊥) map (λ k here e.
    let same : k ≡ text = (bytes_eq-Decides k text).0 (exact (bytes_eq k text) e) in
    true≢false (sym here ∙ ap (λ t. is_some (at t map)) same ∙ ap is_some (sym none)))) in
    ap (λ p. greatest (filter (reaches p text) (keys_of map))) off ∙ plain

-- ---- scopes

first_of_both : (a b : Bool) → (a && b) ≡ true → a ≡ true
first_of_both true b e = refl
first_of_both false b e = e

-- a scope that decides applies
pub decides_reaches : (referrer : List ℕ) (prefixes : Bool) (normal : List ℕ) (scopes : TextMapView SpecifierMap) (k : List ℕ) → decides referrer prefixes normal scopes k ≡ true → reaches true referrer k ≡ true
decides_reaches referrer prefixes normal scopes k e = first_of_both (reaches true referrer k) (is_some (deciding_key prefixes normal (scope_at k scopes))) e

neither : (a b : Bool) → (a && (b && false)) ≡ false
neither true true = refl
neither true false = refl
neither false b = refl

-- a scope without a match doesn't decide
pub scope_without : (referrer : List ℕ) (prefixes : Bool) (normal : List ℕ) (scopes : TextMapView SpecifierMap) (k other : List ℕ) → other ≡ k → deciding_key prefixes normal (scope_at other scopes) ≡ None → passes scopes (decides referrer prefixes normal scopes) k ≡ false
scope_without referrer prefixes normal scopes k other same none =
    ap (λ t. passes scopes (decides referrer prefixes normal scopes) t) (sym same)
    ∙ ap (λ o. is_some (at other scopes) && (reaches true referrer other && is_some o)) none ∙ neither (is_some (at other scopes)) (reaches true referrer other)

there_by : (prefixes : Bool) (normal key : List ℕ) (o : Option SpecifierMap) → deciding_key prefixes normal (unwrap_or o []) ≡ Some key → is_some o ≡ true
there_by prefixes normal key None e = ap is_some e
there_by prefixes normal key (Some map) e = refl

-- the scope of the longest prefix decides
pub decided_scope : (referrer : List ℕ) (prefixes : Bool) (normal : List ℕ) (scopes : TextMapView SpecifierMap) (p : List ℕ) (key_len : ℕ) (address : Option Parts) → IsUtf8 referrer → reaches true referrer p ≡ true → Decides prefixes normal (scope_at p scopes) key_len address
    → (n : ℕ) → n ≡ length p → NoneLonger (passes scopes (decides referrer prefixes normal scopes)) n → IsInScope referrer prefixes normal scopes key_len address
decided_scope referrer prefixes normal scopes p key_len address utf8 reached d n len l =
    let q = decides referrer prefixes normal scopes in
    let found : is_some (at p scopes) ≡ true = there_by prefixes normal (take key_len normal) (at p scopes) d.key in
    let passed : q p ≡ true = both_true (reaches true referrer p) (is_some (deciding_key prefixes normal (scope_at p scopes))) reached (ap is_some d.key) in
    record {
      prefix = p;
      scope = decided true referrer scopes q p utf8 (record { only = λ k e. decides_reaches referrer prefixes normal scopes k e }) found passed n len l;
      decides = d;
    }

-- that of the referrer itself
pub decided_scope_whole : (referrer : List ℕ) (prefixes : Bool) (normal : List ℕ) (scopes : TextMapView SpecifierMap) (key_len : ℕ) (address : Option Parts) → IsUtf8 referrer → Decides prefixes normal (scope_at referrer scopes) key_len address → IsInScope referrer prefixes normal scopes key_len address
decided_scope_whole referrer prefixes normal scopes key_len address utf8 d =
    let q = decides referrer prefixes normal scopes in
    let only : OnlyReaching true referrer (passes scopes q) = record { only = λ k e. decides_reaches referrer prefixes normal scopes k (passes_then scopes q k e) } in
    decided_scope referrer prefixes normal scopes referrer key_len address utf8 (reaches_itself true referrer) d (length referrer) refl (longest_start true referrer referrer (passes scopes q) utf8 only refl)
