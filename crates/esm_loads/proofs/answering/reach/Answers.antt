-- The load enters, and ends where it can.
use Rattle.std.proofs.Common.{arith, length}
use Rattle.std.proofs.lemmas.Option.{slice_get_within}
use Rattle.esm_realm.specs.Sound.{records_of}
use Rattle.esm_loads.specs.LoadsAsLoading.{loading_of}
use Rattle.esm_loads.proofs.AnswerFacts.{kept_grown, kept_kept}
use Rattle.esm_loads.proofs.EnterFacts.{records_grown}
use Rattle.esm_loads.proofs.answering.reach.Goals as goal

pub finish-requires-clause-load : goal.finish-requires-clause-load
finish-requires-clause-load c =
    let inside = slice_get_within c.args.loads.now.loads.items c.args.load c.requires.begun.load c.requires.begun.at in
    omega (arith, inside, c.in-Ok.ensures.grown.loads)

pub finish-requires-clause-records : goal.finish-requires-clause-records
finish-requires-clause-records c = records_grown (length (records_of c.args.realm.now)) c.args.load c.args.loads.now c.enter.new.loads (records_of c.args.realm.now) c.requires.kept c.in-Ok.ensures.grown

pub returns-clause-reaches : goal.returns-clause-reaches
returns-clause-reaches c maps = record { mid = loading_of maps c.enter.new.loads (records_of c.args.realm.now); enters = c.in-Ok.ensures.enters maps; finishes = c.finish.ensures.finishes maps }

pub returns-clause-kept : goal.returns-clause-kept
returns-clause-kept c = kept_kept c.args.loads.now c.enter.new.loads c.finish.new.loads (kept_grown (length (records_of c.args.realm.now)) c.args.load c.args.loads.now c.enter.new.loads c.in-Ok.ensures.grown) c.finish.ensures.kept
