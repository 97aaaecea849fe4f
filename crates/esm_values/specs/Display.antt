-- The display text of a value: what `print` writes of it. own, but for texts, truth values, undefined and errors
use Rattle.std.specs.Prelude.{ℕ, Bool, true, false, List, [], ◌∷◌, ◌++◌, Option, Some, None, codes}
use Rattle.std.specs.Str.{bytes_eq}
use Rattle.esm_base.specs.DefaultExport.{star_default}
use Rattle.esm_values.specs.Value.{Value, Undefined, Truth, Text, Func, Error, Namespace, Promise}
use Rattle.esm_values.specs.Errors.{Errors, error_text}

abbrev pub truth_text : Bool → List ℕ
truth_text true = codes "true"
truth_text false = codes "false"

abbrev pub shown_name : Bool → List ℕ → List ℕ
shown_name true name = codes "default"
shown_name false name = name

-- own: [function NAME], where a function without a name, which `export default` may have, is `default`
abbrev pub function_text : List ℕ → List ℕ
function_text name = codes "[function " ++ shown_name (bytes_eq name star_default) name ++ codes "]"

-- the texts in order, with a sign between two of them
abbrev pub joined_by : List ℕ → List (List ℕ) → List ℕ
joined_by sign [] = []
joined_by sign (t ∷ []) = t
joined_by sign (t ∷ u ∷ ts) = t ++ sign ++ joined_by sign (u ∷ ts)

-- what stands before a text: the sign, but not before the first
abbrev pub sign_before : Bool → List ℕ → List ℕ
sign_before true sign = []
sign_before false sign = sign

-- own: [module KEY, KEY] with the keys of the namespace, or [module] without any
abbrev pub namespace_text : List (List ℕ) → List ℕ
namespace_text [] = codes "[module]"
namespace_text (k ∷ ks) = codes "[module " ++ joined_by (codes ", ") (k ∷ ks) ++ codes "]"

-- what `print` writes of these display texts, without its line feed
abbrev pub printed_line : List (List ℕ) → List ℕ
printed_line texts = joined_by (codes " ") texts

-- the display text of any value but a namespace, whose keys are needed; name_of gives the name of a function.
-- own: [promise]
abbrev pub simple_text : {N : Type 0} → (N → ℕ → List ℕ) → Errors → Value N → Option (List ℕ)
simple_text name_of errors Undefined = Some (codes "undefined")
simple_text name_of errors (Truth b) = Some (truth_text b)
simple_text name_of errors (Text t) = Some t
simple_text name_of errors (Func m i) = Some (function_text (name_of m i))
simple_text name_of errors (Error id) = Some (error_text errors id)
simple_text name_of errors (Namespace m) = None
simple_text name_of errors (Promise id) = Some (codes "[promise]")
