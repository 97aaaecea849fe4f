-- What the engine's parts stand for.
use Rattle.std.specs.Prelude.{ℕ, map, string_bytes}
use Rattle.esm_values.specs.Errors.{Errors}
use Rattle.esm_promise.specs.Code.{Numbered}
use Rattle.esm_env.specs.Scopes.{Scopes, cells_of}
use Rattle.esm_rewriting.specs.State as state
use Rattle.esm_rewriting.specs.State.{State}
use Rattle.esm_body.specs.Importers.{outer_with}
use Rattle.esm_body.specs.Code.{standing_rest}
use Rattle.esm_body.specs.Noted.{event_of}
use Rattle.esm_body.specs.declared.engine.Engine.{Engine}
use Rattle.esm_body.specs.declared.work.Standing.{Standing}

abbrev pub standing_of : Standing → state.Standing ℕ
standing_of s = record { at = s.body.at.0; done = s.done.0; rest = standing_rest s.body s.purpose }

abbrev pub engine_of : Engine → state.Engine ℕ
engine_of e = record {
  events = map event_of e.events;
  log = string_bytes e.log.text;
  steps = e.log.steps;
  standing = map standing_of e.standing.items;
  trace = e.trace;
  stopped = e.log.stopped;
}

-- the part of the world that bodies read and write
abbrev pub state_of : {I : Type 0} → Engine → Scopes → Numbered → Errors → I → State ℕ I
state_of e scopes promises errors imports = record {
  engine = engine_of e;
  cells = cells_of scopes;
  outer = outer_with promises errors imports;
}
