use Rattle.std.proofs.Common.{◌∙◌, refl, sym, ap, subst, arith, length, Ok}
use Rattle.esm_module_map.specs.Views.{view_in}
use Rattle.esm_fetch.specs.Inner.Asking.{AreInHand}
use Rattle.esm_fetch.proofs.ServingLemmas.{begins_on, asks_on}
use Rattle.esm_fetch.proofs.InHand.{hand_cut, hand_on, all_usable, cut_posted, served_shut}
use Rattle.esm_fetch.proofs.working.go_on.Goals as goal

pub make_room-requires-clause-few : goal.make_room-requires-clause-few
make_room-requires-clause-few g c = let few = c.requires.few in let len = c.len-taken.ensures in omega (arith, few, len)

pub returns-in_default-clause-begins : goal.returns-in_default-clause-begins
returns-in_default-clause-begins g c = c.give_up.ensures.begins

pub returns-in_default-clause-asks : goal.returns-in_default-clause-asks
returns-in_default-clause-asks g c = c.give_up.ensures.says.1.2

pub returns-in_default-clause-short : goal.returns-in_default-clause-short
returns-in_default-clause-short g c =
    let n = c.args.caller.now.number in let seen = (view_in c.args.caller.now.pass).seen in let H = g.S.Source.holds c.args.source.now in let asked = g.S.Source.asked c.args.source.now in
    (served_shut H asked n n seen (view_in c.give_up.new.caller.pass).seen refl c.give_up.ensures.says.1.0 c.give_up.ensures.says.1.1 (hand_cut H asked n seen c.args.orders.items c.requires.hand), c.give_up.ensures.shut)

pub fetch_all-requires-clause-usable : goal.fetch_all-requires-clause-usable
fetch_all-requires-clause-usable g c = all_usable c.urls_are_usable.ensures c.args.caller.now.number (view_in c.args.caller.now.pass).seen c.args.orders.items c.args.caller.now.legal c.requires.hand.own

pub fetch_all-requires-clause-room : goal.fetch_all-requires-clause-room
fetch_all-requires-clause-room g c =
    let room = c.in-Ok.ensures.room in let len = c.len-taken.ensures in let none = ap length room.0 in let ok = c.in-Ok.lists.filled.ok.0 in let many = room.2 in
    omega (arith, len, none, ok, many)

pub fetch_all-requires-clause-rooms : goal.fetch_all-requires-clause-rooms
fetch_all-requires-clause-rooms g c =
    let few = c.in-Ok.ensures.room.4 in let space = c.in-Ok.ensures.room.5 in let len = c.len-taken.ensures in omega (arith, few, space, len)

pub end_short-requires-clause-filled : goal.end_short-requires-clause-filled
end_short-requires-clause-filled g c =
    let n = c.args.caller.now.number in let seen = (view_in c.args.caller.now.pass).seen in let H = g.S.Source.holds c.args.source.now in let asked = g.S.Source.asked c.args.source.now in
    let first = subst (λ l. AreInHand H asked n seen l c.args.orders.items) (sym c.in-Ok.ensures.room.0) c.requires.hand in
    (c.in_default-fetch_all.ensures.fetched n seen c.requires.guide first).are_filled

pub returns-in_default-fetch_all-clause-short : goal.returns-in_default-fetch_all-clause-short
returns-in_default-fetch_all-clause-short g c =
    let n = c.args.caller.now.number in let seen = (view_in c.args.caller.now.pass).seen in let H = g.S.Source.holds c.args.source.now in let asked = g.S.Source.asked c.args.source.now in
    let first = subst (λ l. AreInHand H asked n seen l c.args.orders.items) (sym c.in-Ok.ensures.room.0) c.requires.hand in (
      cut_posted H (g.S.Source.asked c.fetch_all.new.source) n seen (view_in c.end_short.new.caller.pass).seen c.fetch_all.new.filled.items (c.in_default-fetch_all.ensures.fetched n seen c.requires.guide first) c.end_short.ensures.takes c.end_short.ensures.answers,
      c.end_short.ensures.shut,
    )

pub post_and_take_all-reply-requires-clause-filled : goal.post_and_take_all-reply-requires-clause-filled
post_and_take_all-reply-requires-clause-filled g c =
    let n = c.args.caller.now.number in let seen = (view_in c.args.caller.now.pass).seen in let H = g.S.Source.holds c.args.source.now in let asked = g.S.Source.asked c.args.source.now in
    let first = subst (λ l. AreInHand H asked n seen l c.args.orders.items) (sym c.in-Ok.ensures.room.0) c.requires.hand in
    (c.in-Ok-fetch_all.ensures.fetched n seen c.requires.guide first).are_filled

pub post_and_take_all-reply-requires-clause-none : goal.post_and_take_all-reply-requires-clause-none
post_and_take_all-reply-requires-clause-none g c = c.in-Ok.ensures.room.1

pub post_and_take_all-reply-requires-clause-room : goal.post_and_take_all-reply-requires-clause-room
post_and_take_all-reply-requires-clause-room g c =
    let room = c.in-Ok.ensures.room in let len = c.len-taken.ensures in let none = ap length room.1 in let ok = c.in-Ok.lists.orders.ok.0 in let space = room.3 in let few = room.4 in let more = c.fetch_all.ensures.rooms in
    omega (arith, len, none, ok, space, few, more)

pub returns-in-Ok-reply-clause-begins : goal.returns-in-Ok-reply-clause-begins
returns-in-Ok-reply-clause-begins g c = c.post_and_take_all-reply.ensures.says.begins

pub returns-in-Ok-reply-clause-asks : goal.returns-in-Ok-reply-clause-asks
returns-in-Ok-reply-clause-asks g c = c.post_and_take_all-reply.ensures.says.asks

pub returns-in-Ok-reply-clause-shuts : goal.returns-in-Ok-reply-clause-shuts
returns-in-Ok-reply-clause-shuts g c = c.post_and_take_all-reply.ensures.says.shuts

pub returns-in-Ok-reply-clause-few : goal.returns-in-Ok-reply-clause-few
returns-in-Ok-reply-clause-few g c =
    let len = c.len-taken.ensures in let few = c.in-Ok.ensures.room.4 in let more = c.fetch_all.ensures.rooms in let took = c.post_and_take_all-reply.ensures.rooms in
    omega (arith, len, few, more, took)

pub returns-in-Ok-reply-clause-hand : goal.returns-in-Ok-reply-clause-hand
returns-in-Ok-reply-clause-hand g c =
    let n = c.args.caller.now.number in let seen = (view_in c.args.caller.now.pass).seen in let H = g.S.Source.holds c.args.source.now in let asked = g.S.Source.asked c.args.source.now in
    let first = subst (λ l. AreInHand H asked n seen l c.args.orders.items) (sym c.in-Ok.ensures.room.0) c.requires.hand in
    let len = c.len-taken.ensures in let few = c.in-Ok.ensures.room.4 in let more = c.fetch_all.ensures.rooms in let took = c.post_and_take_all-reply.ensures.rooms in let ok = c.post_and_take_all-reply.new.orders.ok.0 in (
      hand_on H (g.S.Source.asked c.fetch_all.new.source) n seen (view_in c.post_and_take_all-reply.new.caller.pass).seen c.fetch_all.new.filled.items c.post_and_take_all-reply.new.orders.items
          (c.in-Ok-fetch_all.ensures.fetched n seen c.requires.guide first) (omega (arith, len, few, more, took, ok)) c.post_and_take_all-reply.ensures.says,
      λ e. c.post_and_take_all-reply.ensures.shut (c.in-Ok-reply.is ∙ ap Ok e),
    )

pub returns-in-Err-clause-begins : goal.returns-in-Err-clause-begins
returns-in-Err-clause-begins g c = begins_on _ _ _ c.post_and_take_all-reply.ensures.says.begins c.give_up-in-Err.ensures.begins

pub returns-in-Err-clause-asks : goal.returns-in-Err-clause-asks
returns-in-Err-clause-asks g c = asks_on c.args.caller.now.number c.post_and_take_all-reply.new.caller.number (view_in c.args.caller.now.pass).seen (view_in c.post_and_take_all-reply.new.caller.pass).seen (view_in c.give_up-in-Err.new.caller.pass).seen
    c.post_and_take_all-reply.ensures.same.1 c.post_and_take_all-reply.ensures.says.asks c.give_up-in-Err.ensures.says.1.2

pub returns-in-Err-clause-short : goal.returns-in-Err-clause-short
returns-in-Err-clause-short g c =
    let n = c.args.caller.now.number in let seen = (view_in c.args.caller.now.pass).seen in let H = g.S.Source.holds c.args.source.now in let asked = g.S.Source.asked c.args.source.now in
    let mid = (view_in c.post_and_take_all-reply.new.caller.pass).seen in let after = g.S.Source.asked c.fetch_all.new.source in
    let first = subst (λ l. AreInHand H asked n seen l c.args.orders.items) (sym c.in-Ok.ensures.room.0) c.requires.hand in
    let len = c.len-taken.ensures in let few = c.in-Ok.ensures.room.4 in let more = c.fetch_all.ensures.rooms in let took = c.post_and_take_all-reply.ensures.rooms in let ok = c.post_and_take_all-reply.new.orders.ok.0 in (
      served_shut H after n c.post_and_take_all-reply.new.caller.number mid (view_in c.give_up-in-Err.new.caller.pass).seen c.post_and_take_all-reply.ensures.same.1 c.give_up-in-Err.ensures.says.1.0 c.give_up-in-Err.ensures.says.1.1
          (hand_cut H after n mid c.post_and_take_all-reply.new.orders.items (hand_on H after n seen mid c.fetch_all.new.filled.items c.post_and_take_all-reply.new.orders.items
          (c.in-Ok-fetch_all.ensures.fetched n seen c.requires.guide first) (omega (arith, len, few, more, took, ok)) c.post_and_take_all-reply.ensures.says)),
      c.give_up-in-Err.ensures.shut,
    )
