use Rattle.esm_specifier.proofs.Usable.{resolution_usable}
use Rattle.esm_specifier.proofs.resolving.resolve_against.Goals as goal

pub returns-clause-usable : goal.returns-clause-usable
returns-clause-usable c = resolution_usable c.find_url.result c.args.map.now c.args.referrer.now c.args.specifier.now c.find_url.ensures
