use Rattle.std.proofs.Common.{sym, subst, ◌≡◌, Some}
use Rattle.esm_module_map.specs.Leading.{guide_in}
use Rattle.esm_module_map.proofs.Led.{guide_stays}
use Rattle.esm_module_map.proofs.laws.guide_stays.Goals as goal

pub returns : goal.returns
returns g c = λ guide old new grown is. subst (λ h. guide_in h ≡ Some guide) (sym grown.1) (guide_stays old grown.0 guide is)
