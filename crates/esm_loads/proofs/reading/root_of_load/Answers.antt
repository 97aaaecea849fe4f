-- By the place of the root.
use Rattle.std.proofs.Common.{◌≡◌, ◌∙◌, true, ap, subst, sym}
use Rattle.std.specs.Prelude.{IfSome}
use Rattle.esm_loads.specs.Loaded.{root_url}
use Rattle.esm_loads.specs.LoadsView.{is_unlinked}
use Rattle.esm_loads.proofs.ReadFacts.{not_complete, root_is, root_loaded}
use Rattle.esm_loads.proofs.reading.root_of_load.Goals as goal

pub returns-in-Some-clause-root : goal.returns-in-Some-clause-root
returns-in-Some-clause-root c maps R fit whole =
    root_is maps c.args.loads.now R c.args.load c.in-Some.place fit whole (sym c.complete_root.ensures ∙ c.in-Some.is) ∙ ap (root_url R) (sym c.module_at.ensures)

pub returns-in-Some-clause-loaded : goal.returns-in-Some-clause-loaded
returns-in-Some-clause-loaded c maps R fit whole =
    subst (λ o. IfSome o (λ m. is_unlinked R m.0 ≡ true)) (sym c.module_at.ensures)
    (root_loaded maps c.args.loads.now R c.args.load c.in-Some.place fit whole (sym c.complete_root.ensures ∙ c.in-Some.is))

pub returns-in-None-clause-root : goal.returns-in-None-clause-root
returns-in-None-clause-root c maps R fit whole = not_complete maps c.args.loads.now R c.args.load (sym c.complete_root.ensures ∙ c.in-None.is)

pub returns-in-None-clause-loaded : goal.returns-in-None-clause-loaded
returns-in-None-clause-loaded c maps R fit whole = tt
