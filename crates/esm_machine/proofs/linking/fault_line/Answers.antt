use Rattle.std.proofs.Common.{◌∙◌}
use Rattle.esm_link.specs.declared.LinkKind.TheVariants.{K1, K2, K3, K4}
use Rattle.esm_machine.proofs.LinkJobs.{doubly_bound, doubtful, line_told, missing, unbound}
use Rattle.esm_machine.proofs.linking.fault_line.Goals as goal

pub returns-in_ok-line-in-K1 : goal.returns-in_ok-line-in-K1
returns-in_ok-line-in-K1 c = line_told c.args.url.now c.args.name.now c.args.target.now c.from_string.result c.args.kind K1 c.in-K1.is (c.from_string.ensures ∙ c.in_ok-line-in-K1.ensures.ok ∙ missing c.args.url.now c.args.name.now c.args.target.now)

pub returns-in_ok-line-in-K2 : goal.returns-in_ok-line-in-K2
returns-in_ok-line-in-K2 c = line_told c.args.url.now c.args.name.now c.args.target.now c.from_string-in-K2.result c.args.kind K2 c.in-K2.is (c.from_string-in-K2.ensures ∙ c.in_ok-line-in-K2.ensures.ok ∙ doubtful c.args.url.now c.args.name.now c.args.target.now)

pub returns-in_ok-line-in-K3 : goal.returns-in_ok-line-in-K3
returns-in_ok-line-in-K3 c = line_told c.args.url.now c.args.name.now c.args.target.now c.from_string-in-K3.result c.args.kind K3 c.in-K3.is (c.from_string-in-K3.ensures ∙ c.in_ok-line-in-K3.ensures.ok ∙ unbound c.args.url.now c.args.name.now)

pub returns-in_ok-line-in-K4 : goal.returns-in_ok-line-in-K4
returns-in_ok-line-in-K4 c = line_told c.args.url.now c.args.name.now c.args.target.now c.from_string-in-K4.result c.args.kind K4 c.in-K4.is (c.from_string-in-K4.ensures ∙ c.in_ok-line-in-K4.ensures.ok ∙ doubly_bound c.args.url.now c.args.name.now)
