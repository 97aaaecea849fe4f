-- Modules by other names: what bodies do follows.
use Rattle.std.specs.Prelude.{ℕ, Bool, List, map, Result}
use Rattle.std.specs.Option.{option_map}
use Rattle.esm_base.specs.declared.limits.Limit.{Limit}
use Rattle.esm_base.specs.Lists.{IsSameness}
use Rattle.esm_values.specs.Value.{Value}
use Rattle.esm_values.specs.Ran as ran
use Rattle.esm_values.specs.Ran.{Ran}
use Rattle.esm_values.specs.Naming.{Naming, renamed_value}
use Rattle.esm_promise.specs.Promises.{Settled}
use Rattle.esm_promise.specs.Renaming.{renamed, renamed_settled}
use Rattle.esm_promise.specs.Outer.{Outer}
use Rattle.esm_expr_eval.specs.Naming.{mapped_term}
use Rattle.esm_env.specs.Modules.{Modules}
use Rattle.esm_env.specs.Naming.{AreNamed, renamed_cells}
use Rattle.esm_rewriting.specs.Scopes.{Scope, NamedCell, named_cell}
use Rattle.esm_rewriting.specs.Rest.{Part, Rest, end, more}
use Rattle.esm_rewriting.specs.Rest.Part.{Whole, Does, Stands, In, Tries}
use Rattle.esm_rewriting.specs.State.{Event, Begins, Ends, Throws, Standing, Engine, State, Importing}
use Rattle.esm_rewriting.specs.Segment.{Active, active, Ended, Normal, Thrown, Awaiting, Stopped, Segment}
use Rattle.esm_rewriting.specs.Bodies.{StartsBody, RunsBody, ResumesBody}

-- ---- what remains, where values stand for others

module _ {V U : Type 0} (f : V → U) where
  abbrev pub mapped_named : NamedCell V → NamedCell U
  mapped_named c = named_cell c.name c.cell.constant (option_map f c.cell.value)

  abbrev pub mapped_scope : Scope V → Scope U
  mapped_scope scope = map mapped_named scope

  abbrev mutual
    pub mapped_part : Part V → Part U
    mapped_part (Whole s) = Whole s
    mapped_part (Does purpose e) = Does purpose (mapped_term f e)
    mapped_part (Stands purpose) = Stands purpose
    mapped_part (In scope rest) = In (mapped_scope scope) (mapped_rest rest)
    mapped_part (Tries rest caught handler) = Tries (mapped_rest rest) caught handler

    pub mapped_rest : Rest V → Rest U
    mapped_rest end = end
    mapped_rest (more p rest) = more (mapped_part p) (mapped_rest rest)

  abbrev pub mapped_ran : Ran V → Ran U
  mapped_ran ran.Normal = ran.Normal
  mapped_ran (ran.Thrown v) = ran.Thrown (f v)

  abbrev pub mapped_end : Result (Ran V) Limit → Result (Ran U) Limit
  mapped_end (Result.Ok r) = Result.Ok (mapped_ran r)
  mapped_end (Result.Err why) = Result.Err why

-- ---- states

module _ {M N : Type 0} (names : Naming M N) where
  abbrev pub renamed_rest : Rest (Value M) → Rest (Value N)
  renamed_rest r = mapped_rest (renamed_value names.name) r

  abbrev pub renamed_active : Active M → Active N
  renamed_active a = active (names.name a.at) (renamed_rest a.rest)

  abbrev pub renamed_event : Event M → Event N
  renamed_event (Begins m) = Begins (names.name m)
  renamed_event (Ends m) = Ends (names.name m)
  renamed_event (Throws m) = Throws (names.name m)

  abbrev pub renamed_standing : Standing M → Standing N
  renamed_standing s = record { at = names.name s.at; done = s.done; rest = renamed_rest s.rest }

  abbrev pub renamed_engine : Engine M → Engine N
  renamed_engine e = record {
    events = map renamed_event e.events;
    log = e.log;
    steps = e.steps;
    standing = map renamed_standing e.standing;
    trace = e.trace;
    stopped = e.stopped;
  }

  abbrev pub renamed_ended : Ended M → Ended N
  renamed_ended Normal = Normal
  renamed_ended (Thrown v) = Thrown (renamed_value names.name v)
  renamed_ended (Awaiting v rest) = Awaiting (renamed_value names.name v) (renamed_rest rest)
  renamed_ended (Stopped why) = Stopped why

  module _ {I J : Type 0} (image : I → J) where
    abbrev pub renamed_outer : Outer M I → Outer N J
    renamed_outer o = record { promises = renamed names.name o.promises; errors = o.errors; imports = image o.imports }

    abbrev pub renamed_state : State M I → State N J
    renamed_state w = record { engine = renamed_engine w.engine; cells = renamed_cells names w.cells; outer = renamed_outer w.outer }

    -- an import() that begins on the one side, where what it reads is good, begins on the other, and leaves what is good
    abbrev pub ImportsFollow : (I → Type 0) → Importing M I → Importing N J → Type 0
    ImportsFollow Good begins others = (o x : Outer M I) (m : M) (text : List ℕ) (p : ℕ) (end : Result (Unit {0}) Limit)
        → Good o.imports → begins o m text p end x
        → others (renamed_outer o) (names.name m) text p end (renamed_outer x) × Good x.imports

    module _ (Good : I → Type 0) (same : M → M → Bool) (other : N → N → Bool) (modules : I → Modules M) (images : J → Modules N)
        (begins : Importing M I) (others : Importing N J) where
      -- what import() reads and writes in this state is good
      abbrev pub IsGood : State M I → Type 0
      IsGood w = Good w.outer.imports

      pub record BodiesFollow : Type 0 where
        pub segment : (w after : State M I) (m : M) (rest : Rest (Value M)) (callers : List (Active M)) (how : Ended M) → IsGood w
            → Segment same modules begins w m rest callers how after
            → Segment other images others (renamed_state w) (names.name m) (renamed_rest rest) (map renamed_active callers)
            (renamed_ended how) (renamed_state after) × IsGood after
        pub start : (w after : State M I) (m : M) (done : ℕ) (end : Result (Unit {0}) Limit) → IsGood w
            → StartsBody same modules begins w m done end after
            → StartsBody other images others (renamed_state w) (names.name m) done end (renamed_state after) × IsGood after
        pub run : (w after : State M I) (m : M) (end : Result (Ran (Value M)) Limit) → IsGood w
            → RunsBody same modules begins w m end after
            → RunsBody other images others (renamed_state w) (names.name m) (mapped_end (renamed_value names.name) end)
            (renamed_state after) × IsGood after
        pub resume : (w after : State M I) (m : M) (how : Settled (Value M)) (end : Result (Unit {0}) Limit) → IsGood w
            → ResumesBody same modules begins w m how end after
            → ResumesBody other images others (renamed_state w) (names.name m) (renamed_settled names.name how) end
            (renamed_state after) × IsGood after

      -- where it is good, the modules are the same by their names, and so is each import(): then so is what bodies do
      abbrev pub FollowsNames : Type 0
      FollowsNames = IsSameness same → IsSameness other
          → ((i : I) → Good i → AreNamed names (modules i) (images (image i))) → ImportsFollow Good begins others → BodiesFollow
