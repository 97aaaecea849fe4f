-- Each module by its own URL.
use Rattle.std.proofs.Common.{◌≡◌, Some, refl}
use Rattle.esm_base.specs.Urls.{Url}
use Rattle.esm_values.specs.Naming.{Naming}

pub one_of : (n m : Url) → Some n ≡ Some m → m ≡ n
one_of n m e = cc

-- each module by its own URL
abbrev pub itself : Naming Url Url
itself = record { name = λ u. u; of = λ u. Some u; back = λ u. refl; only = one_of }
