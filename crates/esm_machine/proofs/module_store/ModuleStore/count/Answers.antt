use Rattle.std.proofs.Common.{length, ap, sym, ◌∙◌}
use Rattle.std.proofs.lemmas.List.{length-map}
use Rattle.esm_realm.specs.Sound.{records_of, url_of}
use Rattle.esm_machine.specs.ModuleStore.{Imported, seen_of}
use Rattle.esm_machine.proofs.module_store.ModuleStore.count.Goals as goal

pub returns : goal.returns
returns c =
    c.record_count.ensures ∙ sym (length-map (records_of c.self.inside.realm) url_of) ∙ ap (λ (i : Imported). length (seen_of i).urls) c.self.view_is
