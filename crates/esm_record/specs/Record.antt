-- Own: the record of a run as text: what the run was given, and what it took.
use Rattle.std.specs.Prelude.{ℕ, List, ◌++◌, length, codes, decimal, Option, None, Some}
use Rattle.std.specs.List.{flat_map}
use Rattle.esm_base.specs.Urls.{Text, Url}
use Rattle.esm_ast.specs.Deliveries.{Delivery}
use Rattle.esm_ast.specs.Outcome.{OutcomeView, Script, Broken, Absent, Failed}

-- a name and a URL on a line
abbrev pub url_line : Text → Url → List ℕ
url_line name url = name ++ codes " " ++ url ++ codes "\n"

-- a name, how many bytes there are, and a URL on a line
abbrev pub length_line : Text → Url → ℕ → List ℕ
length_line name url count = name ++ codes " " ++ decimal count ++ codes " " ++ url ++ codes "\n"

-- such a line, and behind it the bytes and a line feed
abbrev pub bytes_lines : Text → Url → List ℕ → List ℕ
bytes_lines name url bytes = length_line name url (length bytes) ++ bytes ++ codes "\n"

-- ---- what was given

-- the import map, with its URL and its bytes
abbrev pub map_lines : Option (Url × List ℕ) → List ℕ
map_lines None = codes "map none\n"
map_lines (Some map) = bytes_lines (codes "map") map.0 map.1

-- ---- what was taken

abbrev pub outcome_lines : Url → OutcomeView → List ℕ
outcome_lines url (Script text) = bytes_lines (codes "body") url text.bytes
outcome_lines url (Broken text) = bytes_lines (codes "body") url text.bytes
outcome_lines url Absent = url_line (codes "absent") url
outcome_lines url Failed = url_line (codes "failed") url

abbrev pub delivery_lines : Delivery → List ℕ
delivery_lines delivery = outcome_lines delivery.url delivery.outcome

-- how many deliveries follow
abbrev pub count_line : ℕ → List ℕ
count_line count = codes "taken " ++ decimal count ++ codes "\n"

-- how many there are, and each in order
abbrev pub taken_lines : List Delivery → List ℕ
taken_lines taken = count_line (length taken) ++ flat_map delivery_lines taken

-- ---- the whole

-- The record of a run: base, entry and import map, and what was taken. Numbers are decimal, without a leading zero.
abbrev pub record_text : Url → Url → Option (Url × List ℕ) → List Delivery → List ℕ
record_text base entry map taken =
    codes "esm-record 1\n" ++ url_line (codes "base") base ++ url_line (codes "entry") entry ++ map_lines map
    ++ taken_lines taken ++ codes "end\n"
