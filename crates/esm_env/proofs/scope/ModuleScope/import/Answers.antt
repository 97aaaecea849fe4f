use Rattle.std.proofs.Common.{◌∙◌, ap, sym}
use Rattle.std.specs.Prelude.{Some, None}
use Rattle.esm_env.proofs.FoundNames.{import_place}
use Rattle.esm_env.proofs.scope.ModuleScope.import.Goals as goal

pub index-requires : goal.index-requires
index-requires c = rw c.args.self.now.imports.ok.0 (import_place c.args.self.now.imports.items c.args.name.now (Some c.in-Some.at.now) (c.in-Some.ensures ∙ c.args.self.now.imports_at c.args.name.now)).0

pub returns-in-Some : goal.returns-in-Some
returns-in-Some c = (import_place c.args.self.now.imports.items c.args.name.now (Some c.in-Some.at.now) (c.in-Some.ensures ∙ c.args.self.now.imports_at c.args.name.now)).1 _ ∙ ap (λ i. Some i.1) (sym c.index.ensures)

pub returns-in-None : goal.returns-in-None
returns-in-None c = import_place c.args.self.now.imports.items c.args.name.now None (c.in-None.ensures ∙ c.args.self.now.imports_at c.args.name.now)
