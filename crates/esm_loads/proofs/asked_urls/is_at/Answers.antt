-- The URL of the slot that is there.
use Rattle.std.proofs.Common.{Some, ap, sym, ◌∙◌, arith}
use Rattle.esm_realm.proofs.Urls.{same_text}
use Rattle.esm_loads.specs.LoadsView.{url_of_slot}
use Rattle.esm_loads.proofs.Places.{get_map, get_within}
use Rattle.esm_loads.proofs.asked_urls.is_at.Goals as goal

pub returns : goal.returns
returns c = λ here.
    let ss = c.args.slots.now in
    let s = get_within ss c.args.place (omega arith) in
    let same = same_text s.0.url c.args.url.now (sym (c.is_of.ensures s.0 s.1) ∙ here) in
    get_map url_of_slot ss c.args.place s.0 s.1 ∙ ap (λ u. Some u) same
