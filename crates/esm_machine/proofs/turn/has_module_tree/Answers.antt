use Rattle.std.proofs.Common.{subst, sym}
use Rattle.std.specs.Arc.{arc_value}
use Rattle.esm_ast.specs.ModuleTree.{IsModuleTree}
use Rattle.esm_ast.specs.Outcome.{outcome_view}
use Rattle.esm_ast.specs.Script.{ScriptParts}
use Rattle.esm_ast.specs.declared.outcome.Outcome.{Outcome}
use Rattle.esm_world.specs.Run.{HasModuleTree}
use Rattle.esm_machine.proofs.turn.has_module_tree.Goals as goal

pub returns-in-Script : goal.returns-in-Script
returns-in-Script c =
    let there : IsModuleTree (arc_value c.in-Script.script).tree.items =
    subst (λ (s : ScriptParts). IsModuleTree s.tree.items) c.deref.ensures (c.spelled_is_module_tree.ensures _ _ c.tree-tree.ensures.spelled) in
    subst (λ (o : Outcome). HasModuleTree (outcome_view o)) (sym c.in-Script.is) there
