-- What holds of generated input, whatever the numbers.
use Rattle.std.specs.Prelude.{◌≡◌, ◌≢◌, ℕ, ◌<◌, ◌^◌, ◌++◌, map, codes, decimal, None, Some, true, option_map}
use Rattle.url.specs.Parts.{serialize}
use Rattle.esm_base.specs.Lists.{EachOnce}
use Rattle.esm_base.specs.Urls.{Text, Url, same_url, is_usable, url_of}
use Rattle.esm_gen.specs.declared.modules.TheConstants.{BASE, ENTRY}
use Rattle.esm_gen.specs.Generated.{files_of, generated_at, import_line, module_url, module_text}

-- the entry's name, read against the base, is the URL of the module with the number 0
abbrev pub NamesEntry : Type 0
NamesEntry = option_map serialize (url_of (url_of None BASE.now) ENTRY.now) ≡ Some (module_url 0)

-- no two files have one URL
abbrev pub HaveOneUrlEach : Type 0
HaveOneUrlEach = (start count : ℕ) → count < 2 ^ 32 → EachOnce same_url (map (λ file. file.url) (files_of start count))

-- the URL of a module may name one
abbrev pub NamesModules : Type 0
NamesModules = (i : ℕ) → i < 2 ^ 32 → is_usable (module_url i) ≡ true

-- what stands between the quotes of an import's line
abbrev pub specifier_of : ℕ → Text
specifier_of i = codes "./m" ++ decimal i ++ codes ".js"

-- the line of an import has that specifier between its quotes
abbrev pub QuotesSpecifiers : Type 0
QuotesSpecifiers = (j : ℕ) → import_line j ≡ codes "import \"" ++ specifier_of j ++ codes "\";\n"

-- read against the URL of any module, it is the URL of the module with its number
abbrev pub ImportsModules : Type 0
ImportsModules = (i j : ℕ) → i < 2 ^ 32 → j < 2 ^ 32
    → option_map serialize (url_of (url_of None (module_url i)) (specifier_of j)) ≡ Some (module_url j)

-- at the URL of a module stands its text
abbrev pub HasModules : Type 0
HasModules = (start count i : ℕ) → count < 2 ^ 32 → i < count → generated_at start count (module_url i) ≡ Some (module_text start count i)

-- and nothing at any other
abbrev pub HasNothingElse : Type 0
HasNothingElse = (start count : ℕ) (url : Url) → ((i : ℕ) → i < count → url ≢ module_url i) → generated_at start count url ≡ None
