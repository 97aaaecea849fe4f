use Rattle.esm_limit_laws.proofs.Loaded.{never_stopped_loading}
use Rattle.esm_limit_laws.proofs.laws.never_stopped_loading.Goals as goal

pub returns : goal.returns
returns c maps built files entry trace one others w r of p = never_stopped_loading maps built files entry trace one others w r of p
