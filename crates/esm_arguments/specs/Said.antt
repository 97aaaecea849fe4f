-- What words say behind the first: two positions, options with their values, and flags. own
use Rattle.std.specs.Prelude.{List, [], ◌∷◌, codes, length, drop, nat_eq, bytes_eq, Bool, true, false, not, ◌||◌, Option, None, Some, is_some, if◌then◌else◌}
use Rattle.std.specs.List.{starts_with}
use Rattle.esm_base.specs.Urls.{Text}

-- an option that has a value
pub data Valued : Type 0 where
  Map : Valued
  Workers : Valued

-- what the words so far say
pub record Said : Type 0 where
  -- the positions
  pub first : Option Text
  pub second : Option Text
  -- the values of options
  pub map : Option Text
  pub workers : Option Text
  -- the flags
  pub trace : Bool
  pub recorded : Bool
  -- the option whose value is the next word
  pub waits : Option Valued
  -- `--` was there
  pub ended : Bool

abbrev pub is_dashed : Text → Bool
is_dashed word = starts_with nat_eq word (codes "-")

-- a position doesn't begin with `-`, or is `-` alone
abbrev pub is_position : Text → Bool
is_position word = bytes_eq word (codes "-") || not (is_dashed word)

-- what stands behind this front in the word, where it begins so
abbrev pub behind : Text → Text → Option Text
behind front word = if starts_with nat_eq word front then Some (drop (length front) word) else None

-- before the first word
abbrev pub nothing : Said
nothing = record {
  first = None;
  second = None;
  map = None;
  workers = None;
  trace = false;
  recorded = false;
  waits = None;
  ended = false;
}

-- ---- one thing more: there are two positions, and each option and each flag stands at most once

abbrev pub with_position : Text → Said → Option Said
with_position word said =
    if is_some said.first
    then (if is_some said.second then None else Some (record said { second = Some word }))
    else Some (record said { first = Some word })

abbrev pub with_map : Text → Said → Option Said
with_map value said = if is_some said.map then None else Some (record said { map = Some value; waits = None })

abbrev pub with_workers : Text → Said → Option Said
with_workers value said = if is_some said.workers then None else Some (record said { workers = Some value; waits = None })

abbrev pub with_trace : Said → Option Said
with_trace said = if said.trace then None else Some (record said { trace = true })

abbrev pub with_record : Said → Option Said
with_record said = if said.recorded then None else Some (record said { recorded = true })

-- ---- one word more

-- the value of an option, as the next word: it doesn't begin with `-`
abbrev pub with_value : Valued → Text → Said → Option Said
with_value Map word said = if is_dashed word then None else with_map word said
with_value Workers word said = if is_dashed word then None else with_workers word said

-- the value of an option, behind `=` in the same word: it isn't empty
abbrev pub with_assigned : Option Text → Option Text → Said → Option Said
with_assigned (Some url) number said = if bytes_eq url [] then None else with_map url said
with_assigned None (Some number) said = if bytes_eq number [] then None else with_workers number said
with_assigned None None said = None

-- a word that begins with `-`: a flag, an option whose value is the next word or stands behind `=`, or `--`, which ends options
abbrev pub with_dashed : Text → Said → Option Said
with_dashed word said =
    if bytes_eq word (codes "--trace") then with_trace said
    else (if bytes_eq word (codes "--record") then with_record said
    else (if bytes_eq word (codes "--map") then Some (record said { waits = Some Map })
    else (if bytes_eq word (codes "--workers") then Some (record said { waits = Some Workers })
    else (if bytes_eq word (codes "--") then Some (record said { ended = true })
    else with_assigned (behind (codes "--map=") word) (behind (codes "--workers=") word) said))))

-- behind `--` each word is a position
abbrev pub with_word_by : Option Valued → Text → Said → Option Said
with_word_by (Some option) word said = with_value option word said
with_word_by None word said = if said.ended || is_position word then with_position word said else with_dashed word said

-- no word is empty
abbrev pub with_word : Text → Said → Option Said
with_word word said = if bytes_eq word [] then None else with_word_by said.waits word said

-- ---- all words

-- behind these words; an option whose value is missing says nothing
abbrev pub said_on : Option Said → List Text → Option Said
said_on None words = None
said_on (Some said) [] = if is_some said.waits then None else Some said
said_on (Some said) (word ∷ words) = said_on (with_word word said) words

abbrev pub said_by : List Text → Option Said
said_by words = said_on (Some nothing) words
