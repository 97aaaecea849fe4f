-- What is left to ask completes the entering, and each entering leaves fewer fresh modules.
use Rattle.std.proofs.Common.{◌<◌, drop, length}
use Rattle.esm_realm.specs.Sound.{records_of}
use Rattle.esm_import_map.specs.ImportMap.{Maps}
use Rattle.esm_loads.specs.Loading.{Loading}
use Rattle.esm_loads.specs.Load.{Enters, Asks}
use Rattle.esm_loads.specs.LoadsView.{urls_of, url_at}
use Rattle.esm_loads.specs.LoadsAsLoading.{loading_of}
use Rattle.esm_loads.specs.Fits.{AreJoined}
use Rattle.esm_loads.specs.Inner.Steps.{Grown, freshness}
use Rattle.esm_loads.specs.Inner.Targets.{KnowTargets}
use Rattle.esm_loads.proofs.entering.+enter.Given as goal

abbrev pub decreases-enter : goal.decreases-enter
decreases-enter l = freshness (length (records_of l.realm.now)) l.load l.loads.now

abbrev pub invariant-loop-request : goal.invariant-loop-request
invariant-loop-request l = record {
  joined : AreJoined l.loads (length (records_of l.realm));
  known : KnowTargets l.loads.urls (records_of l.realm);
  grown : Grown (length (records_of l.realm)) l.load l.fn.loads l.loads;
  fresh : freshness (length (records_of l.realm)) l.load l.loads < freshness (length (records_of l.realm)) l.load l.fn.loads;
  completes : (maps : Maps) (m : Loading) → Asks (loading_of maps l.loads (records_of l.realm)) l.load (url_at (urls_of l.fn.loads.urls.slots) l.place) l.request (drop l.request l.targets) m
      → Enters (loading_of maps l.fn.loads (records_of l.realm)) l.load (url_at (urls_of l.fn.loads.urls.slots) l.place) m;
}
