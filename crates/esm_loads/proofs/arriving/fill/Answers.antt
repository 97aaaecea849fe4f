use Rattle.std.proofs.Common.{ap, sym, refl, ◌∙◌}
use Rattle.esm_ast.specs.Outcome.{outcome_view, Script}
use Rattle.esm_ast.specs.Script.{spelled_text}
use Rattle.esm_loads.specs.UrlTable.{Faulty, parse_error}
use Rattle.esm_loads.specs.Inner.Arriving.Filled.{AsFailed}
use Rattle.esm_loads.proofs.ArrivedEntry.{broken}
use Rattle.esm_loads.proofs.arriving.fill.Goals as goal

pub fill_script-requires-clause-targets : goal.fill_script-requires-clause-targets
fill_script-requires-clause-targets c =
    c.requires.targets (spelled_text c.deref.result.now) (ap outcome_view c.in-Script.is ∙ ap (λ s. Script (spelled_text s)) (sym c.deref.ensures))

pub returns-in_ok-error-in-Broken-clause-filled : goal.returns-in_ok-error-in-Broken-clause-filled
returns-in_ok-error-in-Broken-clause-filled c =
    rw c.in-Broken.is (broken _ _ _ _ _ c.in_ok-error-in-Broken.error (parse_error c.as_str.result.now c.fault.result) c.in_ok-error-in-Broken.ensures.id
    (ap (λ f. Faulty (parse_error c.args.url.now f)) (sym c.fault.ensures.fault) ∙ ap (λ u. Faulty (parse_error u c.fault.result)) (sym c.as_str.ensures.value)) refl refl c.in_ok-error-in-Broken.ensures.ok)

pub returns-in-Absent-clause-filled : goal.returns-in-Absent-clause-filled
returns-in-Absent-clause-filled c = rw c.in-Absent.is (AsFailed refl refl refl refl)

pub returns-in-Failed-clause-filled : goal.returns-in-Failed-clause-filled
returns-in-Failed-clause-filled c = rw c.in-Failed.is (AsFailed refl refl refl refl)
