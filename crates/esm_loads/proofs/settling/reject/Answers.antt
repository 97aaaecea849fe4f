-- By the cause.
use Rattle.std.proofs.Common.{◌≡◌, ap, sym, subst, ◌∙◌, length}
use Rattle.esm_values.specs.Errors.{make_error}
use Rattle.esm_loads.specs.UrlTable.{fetch_error}
use Rattle.esm_loads.specs.Host as host
use Rattle.esm_loads.specs.LoadsView.{urls_of, url_at, throw_of}
use Rattle.esm_loads.specs.Hosted.{host_of}
use Rattle.esm_loads.specs.Inner.Settling.{IsCauseWithin}
use Rattle.esm_loads.proofs.Places.{get_within}
use Rattle.esm_loads.proofs.EnterFacts.{at_slot}
use Rattle.esm_loads.proofs.HostFacts.{rejected_new}
use Rattle.esm_loads.proofs.settling.reject.Goals as goal

pub returns-in_ok-error-in-Unfetched : goal.returns-in_ok-error-in-Unfetched
returns-in_ok-error-in-Unfetched c named l =
    let ss = c.args.loads.now.urls.slots in
    let k = c.in-Unfetched.place in
    let s = get_within ss k (subst (IsCauseWithin (length ss)) c.in-Unfetched.is c.requires) in
    let url = c.as_str.ensures.value ∙ (c.url.ensures s.0 s.1 ∙ sym (at_slot ss k s.0 s.1)) in
    let made = c.in_ok-error-in-Unfetched.ensures.ok ∙ ap (λ u. make_error c.args.errors.now (fetch_error u)) url in
    subst (λ cause. host_of named c.reject_with.new.promises c.fetch_error.new.errors l ≡ host.reject (host_of named c.args.promises.now c.args.errors.now l) c.args.promise.0 (throw_of (urls_of ss) cause)) (sym c.in-Unfetched.is)
    (rejected_new named c.args.promises.now c.reject_with.new.promises c.args.errors.now c.fetch_error.new.errors l c.args.promise.0 c.in_ok-error-in-Unfetched.error.0 (fetch_error (url_at (urls_of ss) k)) made c.in_ok-error-in-Unfetched.ensures.id c.reject_with.ensures)

pub returns-in-Kept : goal.returns-in-Kept
returns-in-Kept c named l =
    subst (λ cause. host_of named c.reject_with-in-Kept.new.promises c.args.errors.now l ≡ host.reject (host_of named c.args.promises.now c.args.errors.now l) c.args.promise.0 (throw_of (urls_of c.args.loads.now.urls.slots) cause)) (sym c.in-Kept.is)
    (c.reject_with-in-Kept.ensures named c.args.errors.now l)
