-- Which text stands at which URL, for the modules of a range of numbers.
use Rattle.std.proofs.Common.{◌≡◌, ◌≢◌, ◌∙◌, ap, sym, refl, ℕ, zero, suc, ◌+◌, ◌<◌, ◌≤◌, ◌^◌, ◌||◌, List, [], ◌∷◌, ◌++◌, Bool, true, false, Some, None, bytes_eq, map, arith, if◌then◌else◌}
use Rattle.std.specs.Prelude.{codes, decimal}
use Rattle.std.specs.List.{range_with_len}
use Rattle.std.proofs.lemmas.List.{append_cancel_left, append_cancel_right}
use Rattle.std.proofs.lemmas.Fmt.{decimal_injective}
use Rattle.std.proofs.lemmas.Slice.Eq.{bytes_eq-Decides}
use Rattle.esm_base.specs.Lists.{is_in, EachOnce}
use Rattle.esm_base.specs.Urls.{Url, same_url}
use Rattle.esm_ports.specs.Files as held
use Rattle.esm_gen.specs.Generated.{File, module_url, module_text, module_file, text_at}
use Rattle.esm_gen.specs.Held.{file_of}

not_true : (b : Bool) → (b ≡ true → ⊥) → b ≡ false
not_true true never = absurd (never refl)
not_true false never = refl

-- ---- URLs

-- modules of different numbers have different URLs
pub one_number : (i j : ℕ) → i < 2 ^ 64 → j < 2 ^ 64 → module_url i ≡ module_url j → i ≡ j
one_number i j low high same =
    decimal_injective i j low high
    (append_cancel_left (codes "https://gen.test/m") (decimal i) (decimal j)
    (append_cancel_right (codes "https://gen.test/m" ++ decimal i) (codes "https://gen.test/m" ++ decimal j) (codes ".js") same))

differ : (i j : ℕ) → i < j → j < 2 ^ 64 → bytes_eq (module_url i) (module_url j) ≡ false
differ i j less small =
    not_true (bytes_eq (module_url i) (module_url j))
    (λ same. let e : i ≡ j = one_number i j (omega arith) small ((bytes_eq-Decides (module_url i) (module_url j)).0 same) in omega (arith, e))

abbrev files_from : ℕ → ℕ → ℕ → ℕ → List File
files_from start count a n = map (module_file start count) (range_with_len a n)

abbrev urls_from : ℕ → ℕ → ℕ → ℕ → List Url
urls_from start count a n = map (λ (file : File). file.url) (files_from start count a n)

not_among : (start count a b n : ℕ) → a < b → b + n < 2 ^ 64 → is_in same_url (urls_from start count b n) (module_url a) ≡ false
not_among start count a b zero less small = refl
not_among start count a b (suc n) less small =
    ap (λ t. t || is_in same_url (urls_from start count (b + 1) n) (module_url a)) (differ a b less (omega arith))
    ∙ not_among start count a (b + 1) n (omega arith) (omega arith)

-- no two have one URL
pub each_once : (start count a n : ℕ) → a + n < 2 ^ 64 → EachOnce same_url (urls_from start count a n)
each_once start count a zero small = tt
each_once start count a (suc n) small = (not_among start count a (a + 1) n (omega arith) (omega arith), each_once start count (a + 1) n (omega arith))

-- ---- texts

found_by : (start count a n i : ℕ) (b : Bool) → bytes_eq (module_url a) (module_url i) ≡ b → a ≤ i → i < 2 ^ 64
    → (a + 1 ≤ i → text_at (files_from start count (a + 1) n) (module_url i) ≡ Some (module_text start count i))
    → (if b then Some (module_text start count a) else text_at (files_from start count (a + 1) n) (module_url i)) ≡ Some (module_text start count i)
found_by start count a n i true same low small later =
    let e : a ≡ i = one_number a i (omega arith) small ((bytes_eq-Decides (module_url a) (module_url i)).0 same) in
    ap (λ k. Some (module_text start count k)) e
found_by start count a n i false other low small later =
    let apart : a ≢ i = λ e. cc (sym ((bytes_eq-Decides (module_url a) (module_url i)).1 (ap module_url e)) ∙ other) in
    later (omega (arith, apart))

-- at the URL of each stands its text
pub found : (start count a n i : ℕ) → a ≤ i → i < a + n → a + n < 2 ^ 64 → text_at (files_from start count a n) (module_url i) ≡ Some (module_text start count i)
found start count a zero i low high small = absurd (omega arith)
found start count a (suc n) i low high small =
    found_by start count a n i (bytes_eq (module_url a) (module_url i)) refl low (omega arith)
    (λ above. found start count (a + 1) n i above (omega arith) (omega arith))

-- and nothing anywhere else
pub not_found : (start count a n : ℕ) (url : Url) → ((i : ℕ) → i < a + n → url ≢ module_url i) → text_at (files_from start count a n) url ≡ None
not_found start count a zero url other = refl
not_found start count a (suc n) url other =
    let off : bytes_eq (module_url a) url ≡ false = not_true (bytes_eq (module_url a) url) (λ same. other a (omega arith) (sym ((bytes_eq-Decides (module_url a) url).0 same))) in
    ap (λ t. if t then Some (module_text start count a) else text_at (files_from start count (a + 1) n) url) off
    ∙ not_found start count (a + 1) n url (λ i below. other i (omega arith))

-- what files that are held have at a URL
pub held_is : (files : List held.File) (url : Url) → held.contents_of files url ≡ text_at (map file_of files) url
held_is [] url = refl
held_is (file ∷ files) url = ap (λ rest. if bytes_eq file.0 url then Some file.1.items else rest) (held_is files url)
