use Rattle.std.proofs.Common.{◌∙◌, [], ◌∷◌, ap, length, length-append, slice_get, arith}
use Rattle.esm_module_map.specs.Replay.{replay}
use Rattle.esm_module_map.specs.Replies.{number_in}
use Rattle.esm_module_map.specs.declared.reply.Asked.{Asked}
use Rattle.esm_fetch.specs.Serving.{weight}
use Rattle.esm_run.specs.declared.tickets.Ticket.{Ticket}
use Rattle.esm_run.proofs.LeadLemmas.{numbered_at, ticket_of}
use Rattle.esm_run.proofs.tickets.add_tickets.Goals as goal

pub loop-at-init : goal.loop-at-init
loop-at-init c = record { tickets = λ h same all. all; few = omega arith }

pub loop-at-preserved : goal.loop-at-preserved
loop-at-preserved c =
    let ts = c.loop-at.tickets.items in let url = c.index-urls-at.result in
    let t : Ticket = record { url = url; number = c.number_at.result; place = c.place_in-place.result } in
    record {
      tickets = λ h same all.
          let found = numbered_at (λ (a : Asked). slice_get (replay weight h).urls (number_in a)) c.args.asked.now c.args.urls.now c.loop-at.at url (omega arith) same c.index-urls-at.is in
          ticket_of h ts c.add_ticket.new.tickets.items t c.in-Ok.ensures.more
          (ap (slice_get (replay weight h).urls) (c.number_at.ensures found.0 found.1) ∙ found.2)
          (c.loop-at.invariant.tickets h same all);
      few = let more = ap length c.in-Ok.ensures.more in let one = length-append ts (t ∷ []) in let old = c.loop-at.invariant.few in omega (arith, more, one, old);
    }
