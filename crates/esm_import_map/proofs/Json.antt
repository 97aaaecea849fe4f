-- The JSON value that a text is.
use Rattle.std.proofs.Common.{◌≡◌, ℕ, List, length, nat_le, Bool, true, false, ◌&&◌, codes, Result, Ordering, Less, Equal, Greater, is_eq, cond, arith, Global, String, string_bytes, nat_cmp, [], ◌∷◌, subst, Option, Some, None, option_map, refl, ap, sym, ◌∙◌, if◌then◌else◌}
use Rattle.std.proofs.lemmas.Map.Text.{is_eq-slice_cmp}
use Rattle.std.proofs.lemmas.Slice.Eq.{bytes_eq-Decides}
use Rattle.std.specs.Ordering.{match_ordering}
use Rattle.std.proofs.lemmas.Str.{IsUtf8-from_is_utf8, is_utf8-from_IsUtf8}
use Rattle.std.specs.Str.{IsUtf8, is_utf8}
use Rattle.serde_json.specs.Data.{Data}
use Rattle.serde_json.specs.Read.{read}
use Rattle.serde_json.specs.Data.{Members}
use Rattle.serde_json.specs.Find.{as_object, get_member}
use Rattle.serde_json.specs.View.{view, members_view}
use Rattle.serde_json.specs.declared.value.Value.{Value}
use Rattle.serde_json.proofs.Views.{Entry, member_later, view-lookup}
use Rattle.std.specs.BTreeMap.{is_at}
use Rattle.std.specs.Cmp.Lexicographic.{slice_cmp}
use Rattle.std.specs.Map.{lookup, remove_entry}
use Rattle.url.specs.Parts.{Parts}
use Rattle.esm_base.specs.Mark.{without_mark}
use Rattle.esm_import_map.specs.ImportMap.{Maps}
use Rattle.esm_import_map.specs.Reading.{json_of, import_map_of, of_json, of_object, of_parts, part_of}
use Rattle.esm_base.specs.declared.end.End.{End}
use Rattle.esm_base.specs.Ends.{Gives}
use Rattle.esm_import_map.specs.declared.fault.MapFault.{MapFault}

refused_by : (b u : Bool) (text : List ℕ) → is_utf8 text ≡ u → (IsUtf8 text → read text ≡ None) → (if b && u then read text else None) ≡ None
refused_by true true text is none = none (IsUtf8-from_is_utf8 text is)
refused_by true false text is none = refl
refused_by false u text is none = refl

-- a text that isn't read
pub json_of-refused : (bytes text : List ℕ) → text ≡ without_mark bytes → (IsUtf8 text → read text ≡ None) → None ≡ json_of bytes
json_of-refused bytes text same none =
    let P : List ℕ → Type 0 = λ t. IsUtf8 t → read t ≡ None in
    sym (refused_by (nat_le (length bytes) 1048576) (is_utf8 (without_mark bytes)) (without_mark bytes) refl (subst P same none))

read_by : (b u : Bool) (text : List ℕ) → b ≡ true → u ≡ true → (if b && u then read text else None) ≡ read text
read_by b u text e f = rw (e, f)

-- a text that is read
pub json_of-read : (bytes text : List ℕ) (d : Data) → text ≡ without_mark bytes → nat_le (length bytes) 1048576 ≡ true → IsUtf8 text × (read text ≡ Some d) → Some d ≡ json_of bytes
json_of-read bytes text d same short p =
    let P : List ℕ → Type 0 = λ t. IsUtf8 t × (read t ≡ Some d) in
    let q : P (without_mark bytes) = subst P same p in
    sym (read_by (nat_le (length bytes) 1048576) (is_utf8 (without_mark bytes)) (without_mark bytes) short (is_utf8-from_IsUtf8 _ q.0) ∙ q.1)

abbrev is_named : List ℕ → String Global → Bool
is_named name = is_at (λ k. slice_cmp nat_cmp name (string_bytes k))

-- the value under a name
pub named : (name : List ℕ) (found : Option Value) (es : List Entry) → found ≡ lookup (is_named name) es → option_map view found ≡ get_member name (members_view es)
named name found es is = ap (option_map view) is ∙ view-lookup name es

kept_by : (o : Ordering) (name taken : List ℕ) (e : Entry) (es : List Entry) → slice_cmp nat_cmp taken (string_bytes e.0) ≡ o → (name ≡ taken → ⊥) → get_member name (members_view (remove_entry (is_named taken) es)) ≡ get_member name (members_view es)
    → get_member name (members_view (cond (is_eq o) es (e ∷ remove_entry (is_named taken) es))) ≡ get_member name (members_view (e ∷ es))
kept_by Less name taken e es is other later = ap (λ r. match_ordering (slice_cmp nat_cmp name (string_bytes e.0)) r (Some (view e.1)) r) later
kept_by Equal name taken e es is other later =
    let same : taken ≡ string_bytes e.0 = (bytes_eq-Decides taken (string_bytes e.0)).0 (sym (is_eq-slice_cmp taken (string_bytes e.0)) ∙ ap is_eq is) in
    sym (member_later name e es (λ h. other (h ∙ sym same)))
kept_by Greater name taken e es is other later = ap (λ r. match_ordering (slice_cmp nat_cmp name (string_bytes e.0)) r (Some (view e.1)) r) later

-- the value under a name is there after another was taken
pub kept : (name taken : List ℕ) (es : List Entry) → (name ≡ taken → ⊥) → get_member name (members_view (remove_entry (is_named taken) es)) ≡ get_member name (members_view es)
kept name taken [] other = refl
kept name taken (e ∷ es) other = kept_by _ name taken e es refl other (kept name taken es other)

apart : codes "scopes" ≡ codes "imports" → ⊥
apart same = let longer : 6 ≡ 7 = ap length same in omega (arith, longer)

-- the value under `scopes`, after that under `imports` was taken
pub named_next : (found : Option Value) (es left : List Entry) → left ≡ remove_entry (is_named (codes "imports")) es → found ≡ lookup (is_named (codes "scopes")) left → option_map view found ≡ get_member (codes "scopes") (members_view es)
named_next found es left is found_is =
    named (codes "scopes") found left found_is ∙ ap (λ l. get_member (codes "scopes") (members_view l)) is ∙ kept (codes "scopes") (codes "imports") es apart

-- what the two parts say is what the text says
pub tells_parts : (r : Result Maps (End MapFault)) (base : Parts) (bytes : List ℕ) (d : Data) (ms : Members) (imports scopes : Option Data) → Some d ≡ json_of bytes → Some ms ≡ as_object d
    → imports ≡ get_member (codes "imports") ms → scopes ≡ get_member (codes "scopes") ms → Gives r (of_parts base (part_of imports) (part_of scopes)) → Gives r (import_map_of bytes base)
tells_parts r base bytes d ms imports scopes e f g h t =
    let P : Option Data → Type 0 = λ o. Gives r (of_json base o) in
    let Q : Option Members → Type 0 = λ o. Gives r (of_object base o) in
    let u : Gives r (of_parts base (part_of (get_member (codes "imports") ms)) (part_of (get_member (codes "scopes") ms))) = rw (sym g, sym h) t in
    subst P e (subst Q f u)
