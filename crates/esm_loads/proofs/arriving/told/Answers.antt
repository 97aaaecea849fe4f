use Rattle.std.proofs.Common.{ap}
use Rattle.esm_specifier.specs.Targets.{targets_view}
use Rattle.esm_loads.proofs.arriving.told.Goals as goal

-- what is refused is a request
pub specifier_at-specifier-requires : goal.specifier_at-specifier-requires
specifier_at-specifier-requires c = c.requires (record { place = c.in-Refused.place; fault = c.in-Refused.fault }) (ap targets_view c.in-Refused.is)
