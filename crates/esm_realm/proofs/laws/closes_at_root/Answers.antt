use Rattle.std.proofs.Common.{nat_eq, eq-eqb, eqb-true, refl}
use Rattle.esm_base.specs.Urls.{same_url}
use Rattle.esm_realm.proofs.Urls.{same_text, own_text}
use Rattle.esm_realm.proofs.Components.{closing}
use Rattle.esm_realm.proofs.laws.closes_at_root.Goals as goal

pub returns-clause-urls : goal.returns-clause-urls
returns-clause-urls c to closed root = closing same_url own_text same_text to closed root

pub returns-clause-numbers : goal.returns-clause-numbers
returns-clause-numbers c to closed root = closing nat_eq (λ x. eq-eqb x x refl) eqb-true to closed root
