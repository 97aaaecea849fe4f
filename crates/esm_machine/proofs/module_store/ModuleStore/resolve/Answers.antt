-- The open asks are usable, and the import map is that of the store.
use Rattle.std.proofs.Common.{◌≡◌, true, List, ap, subst, sym, ◌∙◌}
use Rattle.std.specs.Prelude.{IfOk}
use Rattle.esm_ast.specs.Outcome.{outcome_view}
use Rattle.esm_base.specs.Urls.{Url, has}
use Rattle.esm_loads.specs.Arrival.{AreResolved}
use Rattle.esm_machine.specs.ModuleStore.{Imported}
use Rattle.esm_machine.proofs.Shows.{usable_among}
use Rattle.esm_machine.proofs.module_store.ModuleStore.resolve.Goals as goal

pub resolve-requires : goal.resolve-requires
resolve-requires c =
    usable_among c.asks-asks.result.now c.args.url.now (c.asks-asks.ensures.usable c.requires.whole)
    (subst (λ (us : List Url). has us c.args.url.now ≡ true) (sym (c.asks-asks.ensures.«open» c.requires.whole)) c.requires.«open»)

pub returns : goal.returns
returns c =
    subst (λ m. IfOk c.resolve.result (AreResolved m c.args.url.now (outcome_view c.args.outcome.now)))
    (c.deref.ensures ∙ ap (λ (i : Imported). i.maps) c.self.view_is) c.resolve.ensures
