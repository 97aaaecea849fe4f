use Rattle.std.proofs.Common.{ap, ◌∙◌, cond, Some, arith}
use Rattle.std.specs.Prelude.{option_map, bytes_eq}
use Rattle.std.specs.BTreeMap.{is_at}
use Rattle.std.specs.Cmp.Lexicographic.{slice_cmp}
use Rattle.std.specs.Map.{lookup}
use Rattle.std.specs.Ordering.{nat_cmp}
use Rattle.esm_script.proofs.Exported.{named_before, named_none, named_all}
use Rattle.esm_script.proofs.index.ImportIndex.new.Goals as goal

pub loop-i-init : goal.loop-i-init
loop-i-init c = λ name. ap (λ es. option_map (λ x. x.now) (lookup (is_at (λ k. slice_cmp nat_cmp name k.now)) es)) c.new-by_local.ensures.empty ∙ named_none c.args.imports.now _ name (omega arith)

pub loop-i-preserved : goal.loop-i-preserved
loop-i-preserved c = λ name.
    let e = c.index-imports-i.result in
    c.in_ok-put.ensures name ∙ ap (cond (bytes_eq e.local name) (Some e)) (c.loop-i.invariant name) ∙ named_before c.args.imports.now c.loop-i.i e name c.loop-i-test.true c.loop-i.auto.i c.index-imports-i.is

pub returns : goal.returns
returns c = λ name. c.loop-i.invariant name ∙ named_all c.args.imports.now c.loop-i.i name c.loop-i-test.false
