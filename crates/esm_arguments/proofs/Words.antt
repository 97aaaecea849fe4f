-- What words say, numbers, and what holds of a command.
use Rattle.std.proofs.lemmas.Bool.Decides.{nat_tests}
use Rattle.std.proofs.lemmas.List.{take_all, drop_more, drop_all}
use Rattle.std.proofs.lemmas.Str.Pattern.{starts_text}
use Rattle.std.proofs.Common.{◌≡◌, ◌∙◌, ◌<◌, ◌≤◌, ◌+◌, ◌-◌, ◌*◌, ℕ, min, nat_le, nat_lt, ap, sym, subst, refl, List, [], ◌∷◌, length, drop, take, get_or, map, length-drop, not, arith, Bool, true, false, ◌||◌, String, Global}
use Rattle.std.specs.Prelude.{Option, Some, None, IfSome, codes, bytes_eq, string_bytes, is_some, option_map, if◌then◌else◌}
use Rattle.std.specs.Option.{MatchOption, option_copied}
use Rattle.std.specs.Str.{IsCharBoundary}
use Rattle.std.specs.Str.Pattern.{FindsTextPrefix, StripsPrefix}
use denote.Ref.{Bor}
use Rattle.url.specs.Parts.{Parts, serialize}
use Rattle.esm_base.specs.Urls.{Text, is_usable, url_of}
use Rattle.esm_arguments.specs.declared.command.Command.{Command}
use Rattle.esm_arguments.specs.declared.command.Generation.{Generation}
use Rattle.esm_arguments.specs.Numbers.{is_outside, number_on, number_of, within}
use Rattle.esm_arguments.specs.Said.{Said, behind, said_by, said_on, with_word}
use Rattle.esm_arguments.specs.Inner.Code.{said_of, valued_of}
use Rattle.esm_arguments.specs.declared.said.Said as code
use Rattle.esm_arguments.specs.declared.said.Valued as options
use Rattle.esm_arguments.specs.Commands.{command_by, command_of, command_on, command_said, command_with, generation_by, generation_of, generation_said, generation_with, map_url, threads_by, usable_text, workers_by}

-- what `strip_prefix` gives at a text
pub behind_is : (front word : List ℕ) (r : Option (Bor (List ℕ))) → MatchOption r (FindsTextPrefix front word None) (λ x. StripsPrefix (FindsTextPrefix front) word x.now) → option_copied r ≡ behind front word
behind_is front word None h = subst (λ b. None ≡ (if b then Some (drop (length front) word) else None)) (starts_text false front word h) refl
behind_is front word (Some x) (k, found, cut, len) =
    let starts = starts_text true front word (k, found, subst (λ j. IsCharBoundary word j) (sym found.0) found.2) in
    let is : x.now ≡ drop (length front) word = cut ∙ ap (λ j. drop j word) found.0 in
    subst (λ b. Some x.now ≡ (if b then Some (drop (length front) word) else None)) starts (ap Some is)

-- ---- numbers

pub too_large_one : (most n : ℕ) → most < n → None ≡ within most (Some n)
too_large_one most n h = by (nat_le n most) refl
  where
    by : (b : Bool) → nat_le n most ≡ b → None ≡ (if b then Some n else None)
    by true e = absurd (let le : n ≤ most = grind (arith, nat_tests) in omega (arith, le, h))
    by false e = refl

pub too_large : (most n : ℕ) (bytes : List ℕ) → most < n → None ≡ within most (number_on n bytes)
too_large most n [] h = too_large_one most n h
too_large most n (byte ∷ bytes) h = by (is_outside 48 byte) (too_large most (10 * n + (byte - 48)) bytes (omega (arith, h)))
  where
    by : (b : Bool) → None ≡ within most (number_on (10 * n + (byte - 48)) bytes) → None ≡ within most (if b then None else number_on (10 * n + (byte - 48)) bytes)
    by true rest = refl
    by false rest = rest

if_is : (b : Bool) (n m : ℕ) → (if b then Some n else None) ≡ Some m → (b ≡ true) × (n ≡ m)
if_is true n m is = (refl, cc is)
if_is false n m is = absurd (cc is)

unless_is : (b : Bool) (found : Option ℕ) (m : ℕ) → (if b then None else found) ≡ Some m → (b ≡ false) × (found ≡ Some m)
unless_is true found m is = absurd (cc is)
unless_is false found m is = (refl, is)

-- more digits make no smaller number
grown : (n : ℕ) (bytes : List ℕ) (m : ℕ) → number_on n bytes ≡ Some m → n ≤ m
grown n [] m is = let e : n ≡ m = cc is in omega (arith, e)
grown n (byte ∷ bytes) m is =
    let rest = grown (10 * n + (byte - 48)) bytes m (unless_is (is_outside 48 byte) _ m is).1 in omega (arith, rest)

above : (least byte : ℕ) → is_outside least byte ≡ false → least ≤ byte
above least byte h = by (nat_lt byte least) refl h
  where
    by : (b : Bool) → nat_lt byte least ≡ b → b || nat_lt 57 byte ≡ false → least ≤ byte
    by true e h = absurd (cc h)
    by false e h = grind (arith, nat_tests)

number_some : (word : Text) (n : ℕ) → number_of word ≡ Some n → 0 < n
number_some [] n is = absurd (cc is)
number_some (byte ∷ bytes) n is =
    let parts = unless_is (is_outside 49 byte) (number_on (byte - 48) bytes) n is in
    let least = above 49 byte parts.0 in
    let rest = grown (byte - 48) bytes n parts.1 in
    omega (arith, least, rest)

within_is : (most : ℕ) (found : Option ℕ) (n : ℕ) → within most found ≡ Some n → (found ≡ Some n) × (n ≤ most)
within_is most None n is = absurd (cc is)
within_is most (Some m) n is =
    let parts = if_is (nat_le m most) m n is in
    let le : m ≤ most = (let e = parts.0 in grind (arith, nat_tests)) in
    (ap Some parts.1, subst (λ k. k ≤ most) parts.1 le)

abbrev pub IsFrom1To : ℕ → ℕ → Type 0
IsFrom1To most n = (0 < n) × (n ≤ most)

pub number_within : (most : ℕ) (word : Text) (n : ℕ) → within most (number_of word) ≡ Some n → IsFrom1To most n
number_within most word n is = let parts = within_is most (number_of word) n is in (number_some word n parts.0, parts.1)

workers_some : (many : ℕ) (word : Option Text) (n : ℕ) → workers_by many word ≡ Some n → (0 < many → 0 < n) × (n ≤ 16) × (n ≤ many)
workers_some many None n is = let e : min many 4 ≡ n = cc is in (λ some. omega (arith, e, some), omega (arith, e), omega (arith, e))
workers_some many (Some word) n is =
    let parts = number_within (min many 16) word n is in
    let low = parts.0 in let high = parts.1 in (λ some. low, omega (arith, high), omega (arith, high))

threads_some : (word : Option Text) (n : ℕ) → threads_by word ≡ Some n → IsFrom1To 16 n
threads_some None n is = let e : 1 ≡ n = cc is in (omega (arith, e), omega (arith, e))
threads_some (Some word) n is = number_within 16 word n is

weaker : {A : Type 0} (P Q : A → Type 0) (found : Option A) → ((a : A) → P a → Q a) → IfSome found P → IfSome found Q
weaker P Q None each h = tt
weaker P Q (Some a) each h = each a h

-- ---- what holds of a command

abbrev pub IsGood : ℕ → Command → Type 0
IsGood many c = (is_usable c.entry ≡ true) × ((0 < many → 0 < c.workers) × (c.workers ≤ 16) × (c.workers ≤ many))

usable_some : (t : Text) (b : Bool) (entry : Text) → is_usable t ≡ b → (if b then Some t else None) ≡ Some entry → is_usable entry ≡ true
usable_some t true entry is same = let e : t ≡ entry = cc same in subst (λ x. is_usable x ≡ true) e is
usable_some t false entry is same = absurd (cc same)

usable_is : (url : Option Parts) (entry : Text) → usable_text url ≡ Some entry → is_usable entry ≡ true
usable_is None entry is = absurd (cc is)
usable_is (Some url) entry is = usable_some (serialize url) (is_usable (serialize url)) entry refl is

good_with : (many : ℕ) (base : Parts) (entry : Option Text) (map : Option (Option Text)) (workers : Option ℕ) (said : Said)
    → ((t : Text) → entry ≡ Some t → is_usable t ≡ true) → ((n : ℕ) → workers ≡ Some n → (0 < many → 0 < n) × (n ≤ 16) × (n ≤ many))
    → IfSome (command_with base entry map workers said) (IsGood many)
good_with many base None map workers said usable range = tt
good_with many base (Some entry) None workers said usable range = tt
good_with many base (Some entry) (Some map) None said usable range = tt
good_with many base (Some entry) (Some map) (Some workers) said usable range = (usable entry refl, range workers refl)

good_if : (many : ℕ) (b : Bool) (found : Option Command) → IfSome found (IsGood many) → IfSome (if b then found else None) (IsGood many)
good_if many true found h = h
good_if many false found h = tt

good_on : (many : ℕ) (base : Option Parts) (entry : Text) (said : Said) → IfSome (command_on many base entry said) (IsGood many)
good_on many None entry said = tt
good_on many (Some base) entry said =
    good_if many (is_usable (serialize base)) _
    (good_with many base (usable_text (url_of (Some base) entry)) (map_url base said.map) (workers_by many said.workers) said
    (usable_is (url_of (Some base) entry)) (workers_some many said.workers))

good_by : (many : ℕ) (base entry : Option Text) (said : Said) → IfSome (command_by many base entry said) (IsGood many)
good_by many None entry said = tt
good_by many (Some base) None said = tt
good_by many (Some base) (Some entry) said = good_on many (url_of None base) entry said

good_said : (many : ℕ) (said : Option Said) → IfSome (command_said many said) (IsGood many)
good_said many None = tt
good_said many (Some said) = good_by many said.first said.second said

good_of : (many : ℕ) (words : List Text) → IfSome (command_of many words) (IsGood many)
good_of many [] = tt
good_of many (word ∷ words) = good_if many (bytes_eq word (codes "run")) (command_said many (said_by words)) (good_said many (said_by words))

good_command : (many : ℕ) (words : List Text) (found : Option Command) → found ≡ command_of many words → IfSome found (IsGood many)
good_command many words found is = subst (λ f. IfSome f (IsGood many)) (sym is) (good_of many words)

-- ---- what holds of generated input

abbrev pub IsGoodGeneration : Generation → Type 0
IsGoodGeneration g = IsFrom1To 2147483647 g.start × IsFrom1To 4096 g.count × IsFrom1To 16 g.workers

generation_some : (start count workers : Option ℕ) → ((n : ℕ) → start ≡ Some n → IsFrom1To 2147483647 n) → ((n : ℕ) → count ≡ Some n → IsFrom1To 4096 n)
    → ((n : ℕ) → workers ≡ Some n → IsFrom1To 16 n) → IfSome (generation_with start count workers) IsGoodGeneration
generation_some None count workers a b c = tt
generation_some (Some start) None workers a b c = tt
generation_some (Some start) (Some count) None a b c = tt
generation_some (Some start) (Some count) (Some workers) a b c = (a start refl, b count refl, c workers refl)

generation_on : (start count workers : Option Text) → IfSome (generation_by start count workers) IsGoodGeneration
generation_on None count workers = tt
generation_on (Some start) None workers = tt
generation_on (Some start) (Some count) workers =
    generation_some (within 2147483647 (number_of start)) (within 4096 (number_of count)) (threads_by workers)
    (number_within 2147483647 start) (number_within 4096 count) (threads_some workers)

generation_if : (b : Bool) (found : Option Generation) → IfSome found IsGoodGeneration → IfSome (if b then None else found) IsGoodGeneration
generation_if true found h = tt
generation_if false found h = h

generation_when : (b : Bool) (found : Option Generation) → IfSome found IsGoodGeneration → IfSome (if b then found else None) IsGoodGeneration
generation_when true found h = h
generation_when false found h = tt

good_generation_said : (said : Option Said) → IfSome (generation_said said) IsGoodGeneration
good_generation_said None = tt
good_generation_said (Some said) = generation_if _ _ (generation_on said.first said.second said.workers)

good_generation_of : (words : List Text) → IfSome (generation_of words) IsGoodGeneration
good_generation_of [] = tt
good_generation_of (word ∷ words) = generation_when (bytes_eq word (codes "gen")) (generation_said (said_by words)) (good_generation_said (said_by words))

good_generation : (words : List Text) (found : Option Generation) → found ≡ generation_of words → IfSome found IsGoodGeneration
good_generation words found is = subst (λ f. IfSome f IsGoodGeneration) (sym is) (good_generation_of words)

pub command_usable : (many : ℕ) (words : List Text) (found : Option Command) → found ≡ command_of many words → IfSome found (λ c. is_usable c.entry ≡ true)
command_usable many words found is = weaker (IsGood many) (λ c. is_usable c.entry ≡ true) found (λ c h. h.0) (good_command many words found is)

pub command_some : (many : ℕ) (words : List Text) (found : Option Command) → found ≡ command_of many words → IfSome found (λ c. 0 < many → 0 < c.workers)
command_some many words found is = weaker (IsGood many) (λ c. 0 < many → 0 < c.workers) found (λ c h. h.1.0) (good_command many words found is)

pub command_few : (many : ℕ) (words : List Text) (found : Option Command) → found ≡ command_of many words → IfSome found (λ c. (c.workers ≤ 16) × (c.workers ≤ many))
command_few many words found is = weaker (IsGood many) (λ c. (c.workers ≤ 16) × (c.workers ≤ many)) found (λ c h. (h.1.1, h.1.2)) (good_command many words found is)

pub start_in_range : (words : List Text) (found : Option Generation) → found ≡ generation_of words → IfSome found (λ g. (0 < g.start) × (g.start ≤ 2147483647))
start_in_range words found is = weaker IsGoodGeneration (λ g. (0 < g.start) × (g.start ≤ 2147483647)) found (λ g h. h.0) (good_generation words found is)

pub count_in_range : (words : List Text) (found : Option Generation) → found ≡ generation_of words → IfSome found (λ g. (0 < g.count) × (g.count ≤ 4096))
count_in_range words found is = weaker IsGoodGeneration (λ g. (0 < g.count) × (g.count ≤ 4096)) found (λ g h. h.1) (good_generation words found is)

pub workers_in_range : (words : List Text) (found : Option Generation) → found ≡ generation_of words → IfSome found (λ g. (0 < g.workers) × (g.workers ≤ 16))
workers_in_range words found is = weaker IsGoodGeneration (λ g. (0 < g.workers) × (g.workers ≤ 16)) found (λ g h. h.2) (good_generation words found is)

-- ---- the first word and the others

range_is : {X : Type 0} (n : ℕ) (xs : List X) → take (length xs - n) (drop n xs) ≡ drop n xs
range_is n xs = take_all (length xs - n) (drop n xs) (omega (arith, length-drop n xs))

head_is : {X : Type 0} (xs : List X) (x : X) → 1 ≤ length xs → x ≡ get_or xs 0 x → xs ≡ x ∷ drop 1 xs
head_is [] x h e = absurd (omega arith)
head_is (y ∷ ys) x h e = ap (λ z. z ∷ ys) (sym e)

front_is : {X : Type 0} (xs : List X) (x : X) → 1 ≤ length xs → x ≡ get_or xs 0 x → xs ≡ x ∷ take (length xs - 1) (drop 1 xs)
front_is xs x h e = head_is xs x h e ∙ ap (λ rest. x ∷ rest) (sym (range_is 1 xs))

turned : {A : Type 0} (b c : Bool) (x : Option A) → b ≡ not c → (if b then None else x) ≡ (if c then x else None)
turned b true x e = ap (λ d. if d then None else x) e
turned b false x e = ap (λ d. if d then None else x) e

module _ (words : List (String Global)) (first : String Global) (text : Text) (b : Bool)
    (there : 1 ≤ length words) (is : first ≡ get_or words 0 first) (same : text ≡ string_bytes first) where
  pub command_words : (many : ℕ) → b ≡ not (bytes_eq text (codes "run"))
      → (if b then None else command_said many (said_by (map string_bytes (take (length words - 1) (drop 1 words))))) ≡ command_of many (map string_bytes words)
  command_words many e =
      turned b (bytes_eq (string_bytes first) (codes "run")) (command_said many (said_by (map string_bytes (take (length words - 1) (drop 1 words))))) (e ∙ ap (λ t. not (bytes_eq t (codes "run"))) same)
      ∙ sym (ap (λ ws. command_of many (map string_bytes ws)) (front_is words first there is))

  pub generation_words : b ≡ not (bytes_eq text (codes "gen"))
      → (if b then None else generation_said (said_by (map string_bytes (take (length words - 1) (drop 1 words))))) ≡ generation_of (map string_bytes words)
  generation_words e =
      turned b (bytes_eq (string_bytes first) (codes "gen")) (generation_said (said_by (map string_bytes (take (length words - 1) (drop 1 words))))) (e ∙ ap (λ t. not (bytes_eq t (codes "gen"))) same)
      ∙ sym (ap (λ ws. generation_of (map string_bytes ws)) (front_is words first there is))

-- ---- what all words say

module _ (words : List (String Global)) (i : ℕ) where
  pub more_said : (word : String Global) (text : Text) (said : Said) (found : Option Said) → i < length words → word ≡ get_or words i word → text ≡ string_bytes word
      → found ≡ with_word text said → said_on found (map string_bytes (drop (i + 1) words)) ≡ said_on (Some said) (map string_bytes (drop i words))
  more_said word text said found within is same told =
      ap (λ f. said_on f (map string_bytes (drop (i + 1) words))) (told ∙ ap (λ t. with_word t said) same)
      ∙ sym (ap (λ ws. said_on (Some said) (map string_bytes ws)) (drop_more words i word within ∙ ap (λ w. w ∷ drop (i + 1) words) (sym is)))

  pub last_said : (said : code.Said) (waits : Bool) → length words ≤ i → waits ≡ is_some said.waits
      → (if waits then None else Some (said_of said)) ≡ said_on (Some (said_of said)) (map string_bytes (drop i words))
  last_said said waits past e =
      ap (λ b. if b then None else Some (said_of said)) (e ∙ by said.waits)
      ∙ sym (ap (λ ws. said_on (Some (said_of said)) (map string_bytes ws)) (drop_all i words past))
    where
      by : (option : Option options.Valued) → is_some option ≡ is_some (option_map valued_of option)
      by None = refl
      by (Some x) = refl
