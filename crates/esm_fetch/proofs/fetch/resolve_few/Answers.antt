use Rattle.esm_fetch.proofs.fetch.resolve_few.Goals as goal

pub returns-in-Ok : goal.returns-in-Ok
returns-in-Ok c = (c.targets_are_tested.ensures c.args.guide.now c.args.url.now c.args.requests.now c.in-Ok.targets).1 c.in-Ok.ensures
