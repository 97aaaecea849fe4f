-- The commands that words are. own, but for URLs
use Rattle.std.specs.Prelude.{ℕ, min, List, [], ◌∷◌, codes, bytes_eq, ◌||◌, Option, None, Some, is_some, option_map, if◌then◌else◌}
use Rattle.url.specs.Parts.{Parts, serialize}
use Rattle.esm_base.specs.declared.limits.TheConstants.{MAX_SOURCES, MAX_URLS}
use Rattle.esm_base.specs.Urls.{Text, is_usable, url_of}
use Rattle.esm_arguments.specs.declared.command.TheConstants.{MAX_START}
use Rattle.esm_arguments.specs.declared.command.Command.{Command}
use Rattle.esm_arguments.specs.declared.command.Generation.{Generation}
use Rattle.esm_arguments.specs.Numbers.{number_of, within}
use Rattle.esm_arguments.specs.Said.{Said, said_by}

-- the text of a URL that may be used
abbrev pub usable_text : Option Parts → Option Text
usable_text None = None
usable_text (Some url) = if is_usable (serialize url) then Some (serialize url) else None

-- the URL of the import map, against the URL of BASE. Without `--map` there is none
abbrev pub map_url : Parts → Option Text → Option (Option Text)
map_url base None = Some None
map_url base (Some word) = option_map (λ url. Some url) (usable_text (url_of (Some base) word))

-- from 1 to the lesser of MAX_SOURCES and the number of sources. Without `--workers` there are four, or as many as sources
abbrev pub workers_by : ℕ → Option Text → Option ℕ
workers_by many None = Some (min many 4)
workers_by many (Some word) = within (min many MAX_SOURCES) (number_of word)

-- ---- `run BASE ENTRY [--map URL] [--workers N] [--trace] [--record]`

-- the command of these parts, where each is there
abbrev pub command_with : Parts → Option Text → Option (Option Text) → Option ℕ → Said → Option Command
command_with base None map workers said = None
command_with base (Some entry) None workers said = None
command_with base (Some entry) (Some map) None said = None
command_with base (Some entry) (Some map) (Some workers) said = Some (record {
  base = base;
  entry = entry;
  map = map;
  workers = workers;
  trace = said.trace;
  recorded = said.recorded;
})

-- by the URL of BASE and the text of ENTRY
abbrev pub command_on : ℕ → Option Parts → Text → Said → Option Command
command_on many None entry said = None
command_on many (Some base) entry said =
    if is_usable (serialize base)
    then command_with base (usable_text (url_of (Some base) entry)) (map_url base said.map) (workers_by many said.workers) said else None

abbrev pub command_by : ℕ → Option Text → Option Text → Said → Option Command
command_by many None entry said = None
command_by many (Some base) None said = None
command_by many (Some base) (Some entry) said = command_on many (url_of None base) entry said

abbrev pub command_said : ℕ → Option Said → Option Command
command_said many None = None
command_said many (Some said) = command_by many said.first said.second said

-- BASE is an absolute URL, ENTRY and the map's URL are URLs against it, and all are usable. `many` is the number of sources
abbrev pub command_of : ℕ → List Text → Option Command
command_of many [] = None
command_of many (word ∷ words) = if bytes_eq word (codes "run") then command_said many (said_by words) else None

-- how many sources may be asked: none where there is no command
abbrev pub workers_in : Option Command → ℕ
workers_in None = 0
workers_in (Some command) = command.workers

-- ---- `gen START N [--workers K]`

-- from 1 to MAX_SOURCES. Without `--workers` there is one
abbrev pub threads_by : Option Text → Option ℕ
threads_by None = Some 1
threads_by (Some word) = within MAX_SOURCES (number_of word)

abbrev pub generation_with : Option ℕ → Option ℕ → Option ℕ → Option Generation
generation_with None count workers = None
generation_with (Some start) None workers = None
generation_with (Some start) (Some count) None = None
generation_with (Some start) (Some count) (Some workers) = Some (record { start = start; count = count; workers = workers })

-- there are at most as many modules as a run may ask URLs
abbrev pub generation_by : Option Text → Option Text → Option Text → Option Generation
generation_by None count workers = None
generation_by (Some start) None workers = None
generation_by (Some start) (Some count) workers =
    generation_with (within MAX_START (number_of start)) (within MAX_URLS (number_of count)) (threads_by workers)

-- neither a map nor a flag is listed
abbrev pub generation_said : Option Said → Option Generation
generation_said None = None
generation_said (Some said) =
    if is_some said.map || said.trace || said.recorded then None else generation_by said.first said.second said.workers

abbrev pub generation_of : List Text → Option Generation
generation_of [] = None
generation_of (word ∷ words) = if bytes_eq word (codes "gen") then generation_said (said_by words) else None
