use Rattle.std.proofs.Common.{[], ◌∷◌, refl, ap, ◌∙◌}
use Rattle.std.specs.Arc.{arc_value}
use Rattle.esm_promise.specs.Promises.{make}
use Rattle.esm_promise.specs.Reactions.{EntryLoaded}
use Rattle.esm_machine.specs.declared.parts.EntryState.TheVariants as states
use Rattle.esm_machine.specs.declared.parts.Parts.{Parts}
use Rattle.esm_machine.proofs.OpenedParts.{opens_held, opens_sound}
use Rattle.esm_machine.proofs.machine.opened.Goals as goal

pub returns-clause-opens : goal.returns-clause-opens
returns-clause-opens c =
    let p : Parts = record {
      alloc = c.args.alloc;
      host = record {
        nodes = c.new.result;
        promises = c.make_with.new.self;
        bodies = record { imports = c.in_ok-imports.imports; errors = c.new-2.result; envs = c.new-3.result; engine = c.new-4.result };
        alloc = c.args.alloc;
      };
      entry = states.Underway;
    } in
    opens_held p (arc_value c.args.map) c.args.entry.now c.args.trace c.in_ok-imports.ensures.opens c.new.ensures
    (c.in_ok-promise.ensures.ok ∙ ap (λ ps. make ps (EntryLoaded ∷ [])) c.new-promises.ensures) c.new-2.ensures c.new-3.ensures c.new-4.ensures refl

pub returns-clause-sound : goal.returns-clause-sound
returns-clause-sound c =
    let p : Parts = record {
      alloc = c.args.alloc;
      host = record {
        nodes = c.new.result;
        promises = c.make_with.new.self;
        bodies = record { imports = c.in_ok-imports.imports; errors = c.new-2.result; envs = c.new-3.result; engine = c.new-4.result };
        alloc = c.args.alloc;
      };
      entry = states.Underway;
    } in
    opens_sound p (arc_value c.args.map) c.args.entry.now c.args.trace
    (opens_held p (arc_value c.args.map) c.args.entry.now c.args.trace c.in_ok-imports.ensures.opens c.new.ensures
    (c.in_ok-promise.ensures.ok ∙ ap (λ ps. make ps (EntryLoaded ∷ [])) c.new-promises.ensures) c.new-2.ensures c.new-3.ensures c.new-4.ensures refl)
    c.in_ok-imports.ensures.whole c.new-3.ensures c.worlds_stay_sound.ensures.steps
