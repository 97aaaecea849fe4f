-- What can be read of linked modules, by the laws of resolution.
use Rattle.std.proofs.Common.{Bool}
use Rattle.esm_resolve.specs.SharedSet.{SharedSetAgrees, SharedSetEnds}
use Rattle.esm_env.specs.Modules.{Modules}
use Rattle.esm_rewriting.specs.Fits.{AreLinked}
use Rattle.esm_rewriting.proofs.Readable.{AreReadable}
use Rattle.esm_rewriting.proofs.TreesFit.{functions_still, body_plain}
use Rattle.esm_rewriting.proofs.NamesRead.{names_read, members_read}
use Rattle.esm_rewriting.proofs.KeysThere.{keys_there}

pub linked_read : {N : Type 0} (g : Modules N) (linked : N → Bool) → SharedSetAgrees → SharedSetEnds → AreLinked g linked → AreReadable g linked
linked_read g linked agrees ends h = record {
  names = λ cells m x k l. names_read g linked h agrees ends cells m x k l;
  members = λ cells m x k l. members_read g linked h agrees ends cells m x k l;
  keys = λ m l. keys_there g linked h agrees ends m l;
  functions = λ m index f l e. functions_still (g.tree m) index f (h.trees m l).awaits e;
  bodies = λ m l. body_plain (g.tree m) (h.trees m l).returns;
}
