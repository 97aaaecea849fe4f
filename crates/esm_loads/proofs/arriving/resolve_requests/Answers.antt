-- What the requests of an outcome resolve to, by what it is.
use Rattle.std.proofs.Common.{ap, sym, ◌∙◌}
use Rattle.std.specs.Arc.{arc_value}
use Rattle.esm_ast.specs.Entries.{requests_of}
use Rattle.esm_ast.specs.Outcome.{outcome_view}
use Rattle.esm_ast.specs.Script.{ScriptParts, spelled_text}
use Rattle.esm_loads.proofs.ArrivedEntry.{absent_no_script, broken_no_script, failed_no_script, requests_are, resolved_script}
use Rattle.esm_loads.proofs.arriving.resolve_requests.Goals as goal

pub returns-in-Script : goal.returns-in-Script
returns-in-Script c =
    let are = c.requests.ensures ∙ requests_are _ _ (c.entries.ensures.entries ∙ c.entries.ensures.of_tree) ∙ ap (λ (s : ScriptParts). requests_of s.tree.items) c.deref.ensures in
    resolved_script c.args.map.now c.args.url.now _ (spelled_text (arc_value c.in-Script.script)) c.requests.result.now c.targets_of.result (ap outcome_view c.in-Script.is) are c.targets_of.ensures

pub returns-in-Broken : goal.returns-in-Broken
returns-in-Broken c = λ text e. absurd (broken_no_script _ text (sym (ap outcome_view c.in-Broken.is) ∙ e))

pub returns-in-Absent : goal.returns-in-Absent
returns-in-Absent c = λ text e. absurd (absent_no_script text (sym (ap outcome_view c.in-Absent.is) ∙ e))

pub returns-in-Failed : goal.returns-in-Failed
returns-in-Failed c = λ text e. absurd (failed_no_script text (sym (ap outcome_view c.in-Failed.is) ∙ e))
