-- By the exact end of a call of import().
use Rattle.std.proofs.Common.{◌≡◌, true, subst, rules}
use Rattle.std.specs.Prelude.{Ok, Err}
use Rattle.std.specs.Arc.{arc_value}
use Rattle.esm_import_map.specs.ImportMap.{Maps}
use Rattle.esm_realm.specs.ById.{url_at}
use Rattle.esm_realm.specs.Sound.{records_of}
use Rattle.esm_loads.specs.Hosted.{host_of, IsImport}
use Rattle.esm_loads.specs.Loaded.{HaveLoaded}
use Rattle.esm_loads.specs.LoadsAsLoading.{loading_of}
use Rattle.esm_loads.specs.Whole.{IsWhole}
use Rattle.esm_body.specs.Importers.{Begun, outer_with}
use Rattle.esm_machine.specs.Seen.{BeginsById}
use Rattle.esm_machine.specs.ModuleStore.{Imported, imported, seen_of}
use Rattle.esm_machine.specs.Inner.Importing.{Named}
use Rattle.esm_machine.proofs.Shows.{goes}
use Rattle.esm_machine.proofs.Awaiting.{awaits_stay, flags_behind}
use Rattle.esm_machine.proofs.Began.{kept_whole, kept_err, begun_ok, begun_err, import_keeps, import_still}
use Rattle.esm_machine.proofs.module_store.ModuleStoreImporter.begin.Goals as goal

pub import_call-requires-clause-fits : goal.import_call-requires-clause-fits
import_call-requires-clause-fits c =
    let on : c.can_begin.result ≡ true = search rules in
    (goes c.self.inside.condition (records_of c.self.inside.realm) c.self.inside.loads (arc_value c.self.inside.import_map) (c.can_begin.ensures.whole on) c.self.invariant.kept).fits

pub import_call-requires-clause-sound : goal.import_call-requires-clause-sound
import_call-requires-clause-sound c = c.self.invariant.kept.sound

pub import_call-requires-clause-referrer : goal.import_call-requires-clause-referrer
import_call-requires-clause-referrer c =
    let on : c.can_begin.result ≡ true = search rules in
    c.can_begin.ensures.referrer on

pub invariant_of-self : goal.invariant_of-self
invariant_of-self c =
    let on : c.can_begin.result ≡ true = search rules in
    record {
      kept =
          kept_whole (records_of c.self.inside.realm) (records_of c.import_call.new.realm) c.self.inside.loads c.import_call.new.self (arc_value c.self.inside.import_map) c.self.inside.condition (c.can_begin.ensures.whole on) c.self.invariant.kept c.import_call.ensures.sound
          (import_keeps (records_of c.self.inside.realm) (records_of c.import_call.new.realm) c.self.inside.loads c.import_call.new.self (arc_value c.self.inside.import_map) c.in-Ok.ensures.records c.args.promises.now c.import_call.new.promises c.args.errors.now c.import_call.new.errors c.stays_orderly.ensures c.stays_whole.ensures c.args.referrer.0 c.args.specifier.now c.args.promise.0
          (subst (λ (m : Maps). IsImport (host_of (Named (records_of c.self.inside.realm)) c.args.promises.now c.args.errors.now (loading_of m c.self.inside.loads (records_of c.self.inside.realm))) (url_at (records_of c.self.inside.realm) c.args.referrer.0) c.args.specifier.now c.args.promise.0 (Ok tt)
          (host_of (Named (records_of c.self.inside.realm)) c.import_call.new.promises c.import_call.new.errors (loading_of m c.import_call.new.self (records_of c.import_call.new.realm)))) c.deref.ensures (c.in-Ok.ensures.imports (Named (records_of c.self.inside.realm)))) c.in-Ok.ensures.fits
          (subst (λ (m : Maps). IsWhole (loading_of m c.self.inside.loads (records_of c.self.inside.realm)) → HaveLoaded (records_of c.self.inside.realm) → HaveLoaded (records_of c.import_call.new.realm)) c.deref.ensures c.in-Ok.ensures.loaded));
      flags =
          flags_behind c.self.inside.condition c.self.inside.condition (records_of c.self.inside.realm) (records_of c.import_call.new.realm) c.self.inside.awaiting.items (c.can_begin.ensures.whole on)
          (awaits_stay (records_of c.self.inside.realm) (records_of c.import_call.new.realm) c.in-Ok.ensures.records) c.self.invariant.flags;
    }

pub invariant_of-self-in-Err : goal.invariant_of-self-in-Err
invariant_of-self-in-Err c =
    let on : c.can_begin.result ≡ true = search rules in
    record {
      kept =
          kept_err (records_of c.self.inside.realm) (records_of c.import_call.new.realm) c.self.inside.loads c.import_call.new.self (arc_value c.self.inside.import_map) c.in-Err.ensures.records c.self.inside.condition c.condition_after-self-inside.result c.in-Err.end (c.can_begin.ensures.whole on) c.condition_after-self-inside.ensures c.self.invariant.kept c.import_call.ensures.sound
          (import_still (records_of c.self.inside.realm) (records_of c.import_call.new.realm) c.self.inside.loads c.import_call.new.self (arc_value c.self.inside.import_map) c.in-Err.ensures.records c.args.promises.now c.import_call.new.promises c.args.errors.now c.import_call.new.errors c.only_grows.ensures c.args.referrer.0 c.args.specifier.now c.args.promise.0 c.in-Err.end (subst (λ (m : Maps). IsImport (host_of (Named (records_of c.self.inside.realm)) c.args.promises.now c.args.errors.now (loading_of m c.self.inside.loads (records_of c.self.inside.realm))) (url_at (records_of c.self.inside.realm) c.args.referrer.0) c.args.specifier.now c.args.promise.0 (Err c.in-Err.end)
          (host_of (Named (records_of c.self.inside.realm)) c.import_call.new.promises c.import_call.new.errors (loading_of m c.import_call.new.self (records_of c.import_call.new.realm)))) c.deref.ensures (c.in-Err.ensures.imports (Named (records_of c.self.inside.realm)))));
      flags =
          flags_behind c.self.inside.condition c.condition_after-self-inside.result (records_of c.self.inside.realm) (records_of c.import_call.new.realm) c.self.inside.awaiting.items (c.can_begin.ensures.whole on)
          (awaits_stay (records_of c.self.inside.realm) (records_of c.import_call.new.realm) c.in-Err.ensures.records) c.self.invariant.flags;
    }

pub returns-in-Ok : goal.returns-in-Ok
returns-in-Ok c may =
    let on : c.can_begin.result ≡ true = search rules in
    subst (λ (i : Imported). Begun BeginsById (outer_with c.args.promises.now c.args.errors.now (seen_of i)) c.args.referrer.0 c.args.specifier.now c.args.promise.0 (Ok tt)
    (outer_with c.import_call.new.promises c.import_call.new.errors (seen_of (imported (records_of c.import_call.new.realm) c.import_call.new.self (arc_value c.self.inside.import_map) c.self.inside.condition)))) c.self.view_is
    (begun_ok (records_of c.self.inside.realm) (records_of c.import_call.new.realm) c.self.inside.loads c.import_call.new.self (arc_value c.self.inside.import_map) c.in-Ok.ensures.records c.args.promises.now c.import_call.new.promises c.args.errors.now c.import_call.new.errors c.self.inside.condition c.args.referrer.0 c.args.specifier.now c.args.promise.0 (c.can_begin.ensures.whole on) c.self.invariant.kept (c.can_begin.ensures.referrer on)
    (subst (λ (m : Maps). IsImport (host_of (Named (records_of c.self.inside.realm)) c.args.promises.now c.args.errors.now (loading_of m c.self.inside.loads (records_of c.self.inside.realm))) (url_at (records_of c.self.inside.realm) c.args.referrer.0) c.args.specifier.now c.args.promise.0 (Ok tt)
    (host_of (Named (records_of c.self.inside.realm)) c.import_call.new.promises c.import_call.new.errors (loading_of m c.import_call.new.self (records_of c.import_call.new.realm)))) c.deref.ensures (c.in-Ok.ensures.imports (Named (records_of c.self.inside.realm)))))

pub returns-in-Err : goal.returns-in-Err
returns-in-Err c may =
    let on : c.can_begin.result ≡ true = search rules in
    subst (λ (i : Imported). Begun BeginsById (outer_with c.args.promises.now c.args.errors.now (seen_of i)) c.args.referrer.0 c.args.specifier.now c.args.promise.0 (Err c.stop_after.result)
    (outer_with c.import_call.new.promises c.import_call.new.errors (seen_of (imported (records_of c.import_call.new.realm) c.import_call.new.self (arc_value c.self.inside.import_map) c.condition_after-self-inside.result)))) c.self.view_is
    (begun_err (records_of c.self.inside.realm) (records_of c.import_call.new.realm) c.self.inside.loads c.import_call.new.self (arc_value c.self.inside.import_map) c.in-Err.ensures.records c.args.promises.now c.import_call.new.promises c.args.errors.now c.import_call.new.errors c.self.inside.condition c.condition_after-self-inside.result c.stop_after.result c.in-Err.end c.args.referrer.0 c.args.specifier.now c.args.promise.0 (c.can_begin.ensures.whole on) c.condition_after-self-inside.ensures c.stop_after.ensures
    c.self.invariant.kept (c.can_begin.ensures.referrer on) (subst (λ (m : Maps). IsImport (host_of (Named (records_of c.self.inside.realm)) c.args.promises.now c.args.errors.now (loading_of m c.self.inside.loads (records_of c.self.inside.realm))) (url_at (records_of c.self.inside.realm) c.args.referrer.0) c.args.specifier.now c.args.promise.0 (Err c.in-Err.end)
    (host_of (Named (records_of c.self.inside.realm)) c.import_call.new.promises c.import_call.new.errors (loading_of m c.import_call.new.self (records_of c.import_call.new.realm)))) c.deref.ensures (c.in-Err.ensures.imports (Named (records_of c.self.inside.realm)))))
