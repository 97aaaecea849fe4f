-- What the code keeps of the words so far.
use Rattle.std.specs.Prelude.{option_map}
use Rattle.esm_arguments.specs.declared.said.Said as code
use Rattle.esm_arguments.specs.declared.said.Valued as options
use Rattle.esm_arguments.specs.declared.said.Valued.TheVariants as named
use Rattle.esm_arguments.specs.Said.{Said, Valued, Map, Workers}

abbrev pub valued_of : options.Valued → Valued
valued_of named.Map = Map
valued_of named.Workers = Workers

abbrev pub said_of : code.Said → Said
said_of said = record {
  first = said.first;
  second = said.second;
  map = said.map;
  workers = said.workers;
  trace = said.trace;
  recorded = said.recorded;
  waits = option_map valued_of said.waits;
  ended = said.ended;
}
