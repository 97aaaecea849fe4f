-- The URL of a record is canonical.
use Rattle.std.proofs.Common.{sym, subst}
use Rattle.esm_base.specs.Ends.{Gives}
use Rattle.esm_base.specs.Urls.{IsCanonical}
use Rattle.esm_realm.specs.Sound.{records_of}
use Rattle.esm_specifier.specs.Resolution.{resolution_of_specifier}
use Rattle.esm_loads.proofs.ImportFacts.{referrer_canonical}
use Rattle.esm_loads.proofs.importing.target_of.Goals as goal

pub resolve-requires : goal.resolve-requires
resolve-requires c = subst IsCanonical (sym c.url_of.ensures) (referrer_canonical (records_of c.args.realm.now) c.args.referrer.0 c.requires.sound c.requires.referrer)

pub returns-clause-told : goal.returns-clause-told
returns-clause-told c = subst (λ u. Gives c.resolve.result (resolution_of_specifier c.args.map.now u c.args.specifier.now)) c.url_of.ensures c.resolve.ensures.told
