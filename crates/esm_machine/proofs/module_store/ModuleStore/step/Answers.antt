use Rattle.std.proofs.Common.{◌≡◌, [], true, sym, subst, ◌∙◌}
use Rattle.std.specs.Arc.{arc_value}
use Rattle.esm_realm.specs.Sound.{records_of}
use Rattle.esm_machine.specs.ModuleStore.{Imported, imported, is_whole}
use Rattle.esm_machine.proofs.Shows.{goes}
use Rattle.esm_machine.proofs.Awaiting.{awaits_stay, flags_behind}
use Rattle.esm_machine.proofs.Began.{kept_whole, kept_err}
use Rattle.esm_machine.proofs.Answered.{whole_is, leaves_ok, leaves_err, answers_ok, answers_err, answer_keeps, answer_still}
use Rattle.esm_machine.proofs.module_store.ModuleStore.step.Goals as goal

pub step-requires-clause-fits : goal.step-requires-clause-fits
step-requires-clause-fits c = (goes c.self.inside.condition (records_of c.self.inside.realm) c.self.inside.loads (arc_value c.self.inside.import_map) (subst (λ (i : Imported). is_whole i.condition ≡ true) (sym c.self.view_is) c.requires.whole) c.self.invariant.kept).fits

pub step-requires-clause-sound : goal.step-requires-clause-sound
step-requires-clause-sound c = c.self.invariant.kept.sound

pub invariant_of-self : goal.invariant_of-self
invariant_of-self c =
    record {
      kept =
          kept_whole (records_of c.self.inside.realm) (records_of c.step.new.realm) c.self.inside.loads c.step.new.self (arc_value c.self.inside.import_map) c.self.inside.condition (subst (λ (i : Imported). is_whole i.condition ≡ true) (sym c.self.view_is) c.requires.whole) c.self.invariant.kept c.step.ensures.sound
          (answer_keeps (records_of c.self.inside.realm) (records_of c.step.new.realm) c.self.inside.loads c.step.new.self (arc_value c.self.inside.import_map) (λ n. []) c.args.promises.now c.step.new.promises c.args.errors.now c.step.new.errors c.in-Ok.ensures.records c.stays_orderly.ensures c.stays_whole.ensures c.in-Ok.answered (c.in-Ok.ensures.answers (λ n. []) (arc_value c.self.inside.import_map))
          (λ e. (c.in-Ok.ensures.unchanged e).0) (λ e. (c.in-Ok.ensures.unchanged e).3) c.in-Ok.ensures.fits (c.in-Ok.ensures.loaded (arc_value c.self.inside.import_map)));
      flags =
          flags_behind c.self.inside.condition c.self.inside.condition (records_of c.self.inside.realm) (records_of c.step.new.realm) c.self.inside.awaiting.items (subst (λ (i : Imported). is_whole i.condition ≡ true) (sym c.self.view_is) c.requires.whole)
          (awaits_stay (records_of c.self.inside.realm) (records_of c.step.new.realm) c.in-Ok.ensures.records) c.self.invariant.flags;
    }

pub invariant_of-self-in-Err : goal.invariant_of-self-in-Err
invariant_of-self-in-Err c =
    record {
      kept =
          kept_err (records_of c.self.inside.realm) (records_of c.step.new.realm) c.self.inside.loads c.step.new.self (arc_value c.self.inside.import_map) c.in-Err.ensures.records c.self.inside.condition c.condition_after-self-inside.result c.in-Err.end (subst (λ (i : Imported). is_whole i.condition ≡ true) (sym c.self.view_is) c.requires.whole) c.condition_after-self-inside.ensures c.self.invariant.kept c.step.ensures.sound
          (answer_still (records_of c.self.inside.realm) (records_of c.step.new.realm) c.self.inside.loads c.step.new.self (arc_value c.self.inside.import_map) (λ n. []) c.args.promises.now c.step.new.promises c.args.errors.now c.step.new.errors c.only_grows.ensures c.in-Err.end (c.in-Err.ensures.limit (λ n. []) (arc_value c.self.inside.import_map)));
      flags =
          flags_behind c.self.inside.condition c.condition_after-self-inside.result (records_of c.self.inside.realm) (records_of c.step.new.realm) c.self.inside.awaiting.items (subst (λ (i : Imported). is_whole i.condition ≡ true) (sym c.self.view_is) c.requires.whole)
          (awaits_stay (records_of c.self.inside.realm) (records_of c.step.new.realm) c.in-Err.ensures.records) c.self.invariant.flags;
    }

pub returns-in-Ok-clause-answers : goal.returns-in-Ok-clause-answers
returns-in-Ok-clause-answers c named =
    rw (← c.self.view_is)
    (answers_ok (records_of c.self.inside.realm) (records_of c.step.new.realm) c.self.inside.loads c.step.new.self (arc_value c.self.inside.import_map) named c.args.promises.now c.step.new.promises c.args.errors.now c.step.new.errors c.in-Ok.answered c.self.inside.condition (subst (λ (i : Imported). is_whole i.condition ≡ true) (sym c.self.view_is) c.requires.whole) (c.in-Ok.ensures.answers named (arc_value c.self.inside.import_map)) (c.in-Ok.ensures.none (arc_value c.self.inside.import_map)))

pub returns-in-Ok-clause-unchanged : goal.returns-in-Ok-clause-unchanged
returns-in-Ok-clause-unchanged c e =
    let u = c.in-Ok.ensures.unchanged e in
    ((λ i. imported (u.3 i) (u.0 i) (arc_value c.self.inside.import_map) c.self.inside.condition) ∙ c.self.view_is, u.1, u.2)

pub returns-in-Ok-clause-modules : goal.returns-in-Ok-clause-modules
returns-in-Ok-clause-modules c =
    rw (← c.self.view_is) (leaves_ok (records_of c.self.inside.realm) (records_of c.step.new.realm) c.self.inside.loads c.step.new.self (arc_value c.self.inside.import_map) c.in-Ok.ensures.records c.self.inside.condition (subst (λ (i : Imported). is_whole i.condition ≡ true) (sym c.self.view_is) c.requires.whole))

pub returns-in-Ok-clause-condition : goal.returns-in-Ok-clause-condition
returns-in-Ok-clause-condition c = whole_is c.self.inside.condition (subst (λ (i : Imported). is_whole i.condition ≡ true) (sym c.self.view_is) c.requires.whole)

pub returns-in-Err-clause-answers : goal.returns-in-Err-clause-answers
returns-in-Err-clause-answers c named =
    rw (← c.self.view_is)
    (answers_err (records_of c.self.inside.realm) (records_of c.step.new.realm) c.self.inside.loads c.step.new.self (arc_value c.self.inside.import_map) named c.args.promises.now c.step.new.promises c.args.errors.now c.step.new.errors c.in-Err.end c.self.inside.condition c.condition_after-self-inside.result (subst (λ (i : Imported). is_whole i.condition ≡ true) (sym c.self.view_is) c.requires.whole) c.condition_after-self-inside.ensures (c.in-Err.ensures.limit named (arc_value c.self.inside.import_map)))

pub returns-in-Err-clause-modules : goal.returns-in-Err-clause-modules
returns-in-Err-clause-modules c =
    rw (← c.self.view_is) (leaves_err (records_of c.self.inside.realm) (records_of c.step.new.realm) c.self.inside.loads c.step.new.self (arc_value c.self.inside.import_map) c.in-Err.ensures.records c.self.inside.condition c.condition_after-self-inside.result c.in-Err.end (subst (λ (i : Imported). is_whole i.condition ≡ true) (sym c.self.view_is) c.requires.whole) c.condition_after-self-inside.ensures)
