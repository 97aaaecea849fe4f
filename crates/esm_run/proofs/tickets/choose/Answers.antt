use Rattle.std.proofs.Common.{◌∙◌, sym, arith}
use Rattle.esm_run.proofs.LeadLemmas.{among_itself, at_within, chosen, left_among, no_way}
use Rattle.esm_run.proofs.tickets.choose.Goals as goal

pub remove-post-requires : goal.remove-post-requires
remove-post-requires c =
    let q = c.args.queue.now in
    let within = at_within q.tickets.items c.deref-2.result.now c.deref-2.result.now q.posted.items c.deref.result.now c.in-Some.at c.deref.ensures.value c.deref-2.ensures.value c.deref-2.ensures.value (sym c.first_posted.ensures ∙ c.in-Some.is) in
    let long = q.posted.ok.0 in
    omega (arith, within, long)

pub unreachable-requires : goal.unreachable-requires
unreachable-requires c =
    let q = c.args.queue.now in
    no_way q.tickets.items c.deref-2.result.now c.deref-3.result.now q.posted.items c.deref.result.now c.in-Some.at c.deref.ensures.value c.deref-2.ensures.value c.deref-3.ensures.value (sym c.first_posted.ensures ∙ c.in-Some.is)
    c.remove-post.result c.remove-post.ensures.value (sym c.place_of.ensures ∙ c.in_default-place_of.is)

pub returns-in_default-clause-left : goal.returns-in_default-clause-left
returns-in_default-clause-left c = among_itself c.args.queue.now.tickets.items

pub returns-in_default-clause-left_posted : goal.returns-in_default-clause-left_posted
returns-in_default-clause-left_posted c = among_itself c.args.queue.now.posted.items

pub returns-clause-first : goal.returns-clause-first
returns-clause-first c =
    let q = c.args.queue.now in
    chosen q.tickets.items c.deref-2.result.now c.deref-3.result.now q.posted.items c.deref.result.now c.in-Some.at c.deref.ensures.value c.deref-2.ensures.value c.deref-3.ensures.value (sym c.first_posted.ensures ∙ c.in-Some.is)
    c.remove-post.result c.in-Some-place_of.place c.remove-ticket.result _ c.remove-post.ensures.value c.remove-post.ensures.items (sym c.place_of.ensures ∙ c.in-Some-place_of.is) c.remove-ticket.ensures.value

pub returns-clause-left : goal.returns-clause-left
returns-clause-left c = left_among c.args.queue.now.tickets.items c.remove-ticket.new.self.items c.in-Some-place_of.place c.remove-ticket.ensures.items

pub returns-clause-left_posted : goal.returns-clause-left_posted
returns-clause-left_posted c = left_among c.args.queue.now.posted.items c.remove-post.new.self.items c.in-Some.at c.remove-post.ensures.items
