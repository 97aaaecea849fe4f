-- One request more is loaded, and the realm stays sound.
use Rattle.std.proofs.Common.{refl, subst, sym, ◌<◌}
use Rattle.esm_realm.specs.Sound.{IsSound, records_of}
use Rattle.esm_realm.proofs.ByIds.{at_index, length_parts, set_loaded}
use Rattle.esm_realm.proofs.Sounds.{sound_load}
use Rattle.esm_realm.proofs.realm.Realm.load_request.Goals as goal

pub returns-clause-loaded : goal.returns-clause-loaded
returns-clause-loaded c =
    set_loaded c.args.self.now.records.items c.args.m.0 c.args.request c.args.target c.index_mut.result.now _
    (at_index c.args.self.now.records.items c.args.m.0 c.index_mut.result.now (subst (λ n. c.args.m.0 < n) (length_parts c.args.self.now.records.items) c.requires.module) c.index_mut.ensures.value) refl

pub returns-clause-sound : goal.returns-clause-sound
returns-clause-sound c =
    subst IsSound (sym (set_loaded c.args.self.now.records.items c.args.m.0 c.args.request c.args.target c.index_mut.result.now _
    (at_index c.args.self.now.records.items c.args.m.0 c.index_mut.result.now (subst (λ n. c.args.m.0 < n) (length_parts c.args.self.now.records.items) c.requires.module) c.index_mut.ensures.value) refl))
    (sound_load (records_of c.args.self.now) c.args.m.0 c.args.request c.args.target c.requires.sound c.requires.target)
