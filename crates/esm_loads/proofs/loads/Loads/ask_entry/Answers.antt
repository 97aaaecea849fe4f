-- A load is added, and asks for its root.
use Rattle.std.proofs.Common.{ap, sym, subst, ◌∙◌, length, arith, ◌∷◌, [], length-append}
use Rattle.esm_realm.specs.Sound.{records_of}
use Rattle.esm_loads.specs.Loading.{Loading, Root, ask}
use Rattle.esm_loads.specs.LoadsView.{load_state}
use Rattle.esm_loads.specs.LoadsAsLoading.{loading_of, add_entry}
use Rattle.esm_loads.specs.Fits.{IsFetching}
use Rattle.esm_loads.specs.Inner.Flags.{asked_load}
use Rattle.esm_loads.proofs.Places.{map_long}
use Rattle.esm_loads.proofs.PublicFacts as facts
use Rattle.esm_loads.proofs.loads.Loads.ask_entry.Goals as goal

pub ask_root-requires-clause-fits : goal.ask_root-requires-clause-fits
ask_root-requires-clause-fits c = facts.added_fits c.args.self.now c.add_load.new.loads (records_of c.args.realm.now) _ c.requires.fits c.in-Ok.ensures.adds

pub ask_root-requires-clause-load : goal.ask_root-requires-clause-load
ask_root-requires-clause-load c =
    let e = ap length c.in-Ok.ensures.adds.loads in
    omega (arith, e, c.in-Ok.ensures.number, length-append c.args.self.now.loads.items (asked_load ∷ []))

pub ask_root-requires-clause-fetching : goal.ask_root-requires-clause-fetching
ask_root-requires-clause-fetching c = subst (λ l. IsFetching l c.args.url.now) (sym c.in-Ok.ensures.adds.rest) c.requires.fetching

pub returns-in-Ok-ask_root-clause-asks : goal.returns-in-Ok-ask_root-clause-asks
returns-in-Ok-ask_root-clause-asks c maps =
    let t = c.args.self.now in
    let R = records_of c.args.realm.now in
    let number = c.in-Ok.ensures.number ∙ sym (map_long (load_state t.urls.slots) t.loads.items) in
    c.in-Ok-ask_root.ensures.asks maps ∙ (ap (λ l. ask l c.args.url.now (Root c.in-Ok.load)) (facts.added_is maps R t c.add_load.new.loads _ c.in-Ok.ensures.adds) ∙ ap (λ s. ask (add_entry (loading_of maps t R) c.args.promise.0) c.args.url.now (Root s)) number)

pub returns-in-Err-ask_root-clause-limit : goal.returns-in-Err-ask_root-clause-limit
returns-in-Err-ask_root-clause-limit c maps limit e =
    let t = c.args.self.now in
    let R = records_of c.args.realm.now in
    let number = c.in-Ok.ensures.number ∙ sym (map_long (load_state t.urls.slots) t.loads.items) in
    let is = ap (λ l. ask l c.args.url.now (Root c.in-Ok.load)) (facts.added_is maps R t c.add_load.new.loads _ c.in-Ok.ensures.adds) ∙ ap (λ s. ask (add_entry (loading_of maps t R) c.args.promise.0) c.args.url.now (Root s)) number in
    ap (λ (l : Loading). l.stopped) (sym is) ∙ ap (λ (l : Loading). l.stopped) (sym (c.in-Err-ask_root.ensures.limit maps limit e))
