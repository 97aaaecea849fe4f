use Rattle.std.proofs.Common.{sym, subst, ◌∙◌}
use Rattle.esm_loads.specs.Inner.Arriving.{IsOpenSlot}
use Rattle.esm_loads.proofs.Places.{some_is}
use Rattle.esm_loads.proofs.ArrivedEntry.{place_of, open_listed}
use Rattle.esm_loads.proofs.arriving.open_place.Goals as goal

pub unreachable-requires : goal.unreachable-requires
unreachable-requires c =
    let found = open_listed c.args.loads.now.urls.slots c.args.url.now c.requires.open in
    let e = c.in-None.ensures ∙ place_of c.args.loads.now.urls.slots c.args.url.now found.0 c.requires.distinct found.1 in
    cc

pub returns : goal.returns
returns c =
    let found = open_listed c.args.loads.now.urls.slots c.args.url.now c.requires.open in
    let e = c.in-Some.ensures ∙ place_of c.args.loads.now.urls.slots c.args.url.now found.0 c.requires.distinct found.1 in
    subst (λ k. IsOpenSlot c.args.loads.now.urls.slots k c.args.url.now) (sym (some_is e)) found.1
