use Rattle.std.proofs.Common.{ap, sym, ◌∙◌}
use Rattle.std.specs.Arc.{arc_value}
use Rattle.esm_realm.specs.Sound.{records_of}
use Rattle.esm_loads.specs.Loading.{import_promise}
use Rattle.esm_loads.specs.LoadsAsLoading.{loading_of}
use Rattle.esm_machine.specs.ModuleStore.{Imported, seen_of}
use Rattle.esm_machine.proofs.Shows.{promise_is}
use Rattle.esm_machine.proofs.module_store.ModuleStore.import_promise.Goals as goal

pub returns : goal.returns
returns c =
    sym (ap (λ (i : Imported). import_promise (seen_of i).loading c.args.load) c.self.view_is)
    ∙ (promise_is c.self.inside.condition (loading_of (arc_value c.self.inside.import_map) c.self.inside.loads (records_of c.self.inside.realm)) c.args.load ∙ c.import_promise.ensures (arc_value c.self.inside.import_map) (records_of c.self.inside.realm))
