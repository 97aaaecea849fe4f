use Rattle.std.proofs.Common.{◌≡◌, ◌-◌, ap, sym, subst, arith, length, map, take, Some, slice_get}
use Rattle.std.proofs.lemmas.List.{length-map}
use Rattle.std.proofs.lemmas.List.Elements.{All-take}
use Rattle.esm_base.specs.Urls.{Url, IsUsable}
use Rattle.esm_module_map.specs.declared.reply.Asked.{Asked}
use Rattle.esm_module_map.specs.Replay.{replay}
use Rattle.esm_module_map.specs.Replies.{number_in}
use Rattle.esm_module_map.specs.Views.{view_in}
use Rattle.esm_fetch.specs.Serving.{weight}
use Rattle.esm_run.specs.Inner.Leading.{IsStandardAsk}
use Rattle.esm_run.proofs.LeadLemmas.{asks_these, cut_all, few_cut, open_urls, tickets_stay}
use Rattle.esm_run.proofs.tickets.ask_more.Goals as goal

pub ask_all-requires-clause-usable : goal.ask_all-requires-clause-usable
ask_all-requires-clause-usable g c = cut_all IsUsable c.asks.result.now c.between-urls.result.now c.len.result (32 - c.len.result) c.between-urls.ensures c.asks.ensures.usable

pub returns-in_default-clause-begins : goal.returns-in_default-clause-begins
returns-in_default-clause-begins g c = c.in_default.ensures.says.begins

pub returns-in_default-clause-kept : goal.returns-in_default-clause-kept
returns-in_default-clause-kept g c = (c.in_default.ensures.says.takes, c.in_default.ensures.says.answers)

pub returns-in_default-clause-asks : goal.returns-in_default-clause-asks
returns-in_default-clause-asks g c = λ maps entry trace taken represents.
    let says = c.in_default.ensures.says in let urls = c.between-urls.result.now in
    let Q : Url → Type 0 = IsStandardAsk maps entry trace taken in
    let all = cut_all Q c.asks.result.now urls c.len.result (32 - c.len.result) c.between-urls.ensures (open_urls c.open_asks.ensures maps entry trace c.args.machine.now taken c.asks.result.now represents c.asks.ensures.standard) in
    asks_these maps entry trace taken c.args.caller.now.number (view_in c.args.caller.now.pass).seen (view_in c.ask_all.new.caller.pass).seen (take says.many urls) says.asks (All-take Q says.many urls all)

pub add_tickets-requires : goal.add_tickets-requires
add_tickets-requires g c =
    let same = ap length c.in-Ok.ensures.says.have_urls in
    let a = length-map c.in-Ok.asked.items (λ (a : Asked). slice_get (replay weight (view_in c.ask_all.new.caller.pass).seen).urls (number_in a)) in
    let b = length-map c.between-urls.result.now (λ (u : Url). Some u) in
    let e = ap length c.as_slice.ensures.value in
    omega (arith, same, a, b, e)

pub returns-clause-begins : goal.returns-clause-begins
returns-clause-begins g c = c.in-Ok.ensures.says.begins

pub returns-clause-kept : goal.returns-clause-kept
returns-clause-kept g c = (c.in-Ok.ensures.says.takes, c.in-Ok.ensures.says.answers)

pub returns-clause-asks : goal.returns-clause-asks
returns-clause-asks g c = λ maps entry trace taken represents.
    let urls = c.between-urls.result.now in
    let Q : Url → Type 0 = IsStandardAsk maps entry trace taken in
    let all = cut_all Q c.asks.result.now urls c.len.result (32 - c.len.result) c.between-urls.ensures (open_urls c.open_asks.ensures maps entry trace c.args.machine.now taken c.asks.result.now represents c.asks.ensures.standard) in
    asks_these maps entry trace taken c.args.caller.now.number (view_in c.args.caller.now.pass).seen (view_in c.ask_all.new.caller.pass).seen urls c.in-Ok.ensures.says.asks all

pub returns-clause-tickets : goal.returns-clause-tickets
returns-clause-tickets g c =
    let old = (view_in c.args.caller.now.pass).seen in let new = (view_in c.ask_all.new.caller.pass).seen in
    c.add_tickets.ensures.tickets new
    (subst (λ l. map (λ (a : Asked). slice_get (replay weight new).urls (number_in a)) l ≡ map Some c.between-urls.result.now) (sym c.as_slice.ensures.value) c.in-Ok.ensures.says.have_urls)
    (tickets_stay c.urls_stay.ensures old new c.args.tickets.now.items c.in-Ok.ensures.says.begins c.requires.tickets)

pub returns-clause-window : goal.returns-clause-window
returns-clause-window g c = λ few.
    let more = c.add_tickets.ensures.few in let len = c.len.ensures in
    let room = few_cut c.asks.result.now c.between-urls.result.now c.len.result (32 - c.len.result) c.between-urls.ensures in
    omega (arith, few, more, room, len)
