use Rattle.std.proofs.Common.{◌≡◌, ◌∙◌, sym, subst, inl}
use Rattle.std.specs.Arc.{arc_value}
use Rattle.std.specs.Prelude.{All}
use Rattle.std.proofs.lemmas.List.Elements.{All-contains}
use Rattle.esm_module_map.specs.Views.{view_in}
use Rattle.esm_module_map.specs.Saying.{Stays}
use Rattle.esm_module_map.specs.Histories.{asks_by}
use Rattle.esm_fetch.specs.Serving.{weight, Serves, ServedBy}
use Rattle.esm_record.specs.Delivered.{deliveries_of}
use Rattle.esm_machine.specs.Machine.{state_of}
use Rattle.esm_run.specs.Inner.Leading.{HasTicket, IsHeard}
use Rattle.esm_run.proofs.SharedLemmas.{serves_same}
use Rattle.esm_run.proofs.HeardLemmas.{chosen_post, heard_left, heard_more, heard_stay, resolved}
use Rattle.esm_run.proofs.LeadLemmas.{begins_on, begins_same, tickets_stay, led_stays, short_of, asks_same, served_by_any, leads_on_same, on_ok, tickets_left}
use Rattle.esm_run.proofs.lead.advance.Goals as goal

pub deliver-requires : goal.deliver-requires
deliver-requires g c =
    let n0 = c.args.caller.now.number in let n1 = c.ask_open.new.caller.number in
    let h0 = (view_in c.args.caller.now.pass).seen in let h1 = (view_in c.ask_open.new.caller.pass).seen in
    let h2 = (view_in c.hear_next.new.caller.pass).seen in let e1 : n1 ≡ n0 = c.ask_open.ensures.same.1 in
    let says : Stays weight n0 h1 h2 = subst (λ m. Stays weight m h1 h2) e1 c.hear_next.ensures.says in
    let t2 = tickets_stay c.urls_stay.ensures h1 h2 c.ask_open.new.tickets.items says.0 c.in-Ok.ensures.tickets in
    let t3 = subst (λ q. All (HasTicket h2) q.items) (sym c.hear_next.ensures.tickets) t2 in
    let q0 = c.args.queue.now in let q2 = c.hear_next.new.queue in
    let heard1 = heard_stay c.posts_stay.ensures h0 h1 q0.posted.items c.ask_open.ensures.begins c.requires.posted in
    let heard2 = heard_more c.posts_stay.ensures h1 h2 q0.known q0.posted.items q2.known q2.posted.items says.0 c.hear_next.ensures.order heard1 in
    let guide2 = c.guide_stays.ensures (arc_value c.args.settings.now.import_map.now) h0 h2 (begins_on h0 h1 h2 c.ask_open.ensures.begins says.0) c.requires.guide in
    let ticket = All-contains (HasTicket h2) q2.tickets.items c.in-Some.chosen.ticket t3 c.in-Some.ensures.among in
    let post = chosen_post h2 q2.tickets.items q2.posted.items c.in-Some.chosen c.choose.new.queue.posted.items heard2 c.in-Some.ensures.first in
    resolved c.posts_resolve.ensures (state_of c.args.machine.now) (arc_value c.args.settings.now.import_map.now) h2 c.in-Some.chosen.ticket (arc_value c.in-Some.chosen.payload) c.hear_next.new.caller.fit guide2 c.requires.maps ticket post

pub fetch_or_wait-requires-clause-guide : goal.fetch_or_wait-requires-clause-guide
fetch_or_wait-requires-clause-guide g c =
    let n0 = c.args.caller.now.number in let n1 = c.ask_open.new.caller.number in
    let h0 = (view_in c.args.caller.now.pass).seen in let h1 = (view_in c.ask_open.new.caller.pass).seen in
    let h2 = (view_in c.hear_next.new.caller.pass).seen in let e1 : n1 ≡ n0 = c.ask_open.ensures.same.1 in
    let says : Stays weight n0 h1 h2 = subst (λ m. Stays weight m h1 h2) e1 c.hear_next.ensures.says in
    let guide2 = c.guide_stays.ensures (arc_value c.args.settings.now.import_map.now) h0 h2 (begins_on h0 h1 h2 c.ask_open.ensures.begins says.0) c.requires.guide in
    guide2

pub fetch_or_wait-requires-clause-served : goal.fetch_or_wait-requires-clause-served
fetch_or_wait-requires-clause-served g c =
    let n0 = c.args.caller.now.number in let n1 = c.ask_open.new.caller.number in
    let h0 = (view_in c.args.caller.now.pass).seen in let h1 = (view_in c.ask_open.new.caller.pass).seen in
    let h2 = (view_in c.hear_next.new.caller.pass).seen in let e1 : n1 ≡ n0 = c.ask_open.ensures.same.1 in
    let says : Stays weight n0 h1 h2 = subst (λ m. Stays weight m h1 h2) e1 c.hear_next.ensures.says in
    let H = g.S.Source.holds c.args.source.now in let A = g.S.Source.asked c.args.source.now in
    let s1 = serves_same H A n0 h0 h1 c.ask_open.ensures.kept.0 c.ask_open.ensures.kept.1 c.requires.served in
    let s2 = serves_same H A n0 h1 h2 says.1.0 says.1.1 s1 in
    subst (λ m. Serves H A m h2) (sym (c.hear_next.ensures.same.1 ∙ e1)) s2

pub returns-in_default-clause-served : goal.returns-in_default-clause-served
returns-in_default-clause-served g c =
    let n0 = c.args.caller.now.number in let n1 = c.ask_open.new.caller.number in
    let h0 = (view_in c.args.caller.now.pass).seen in let h1 = (view_in c.ask_open.new.caller.pass).seen in
    inl (serves_same _ _ n0 h0 h1 c.ask_open.ensures.kept.0 c.ask_open.ensures.kept.1 c.requires.served)

pub returns-in_default-clause-led : goal.returns-in_default-clause-led
returns-in_default-clause-led g c = λ maps entry trace led0.
    let n0 = c.args.caller.now.number in let n1 = c.ask_open.new.caller.number in
    let h0 = (view_in c.args.caller.now.pass).seen in let h1 = (view_in c.ask_open.new.caller.pass).seen in
    let led1 = led_stays c.urls_stay.ensures c.posts_stay.ensures maps entry trace n0 h0 h1 c.args.machine.now (deliveries_of c.args.taken.now.items) c.ask_open.ensures.begins (c.ask_open.ensures.asks maps entry trace (deliveries_of c.args.taken.now.items) led0.driven.represents) led0 in
    short_of maps entry trace n0 h1 c.args.machine.now (deliveries_of c.args.taken.now.items) led1

pub returns-in_default-hear_next-clause-same : goal.returns-in_default-hear_next-clause-same
returns-in_default-hear_next-clause-same g c = ((c.hear_next.ensures.same.0.0 ∙ c.ask_open.ensures.same.0.0, c.hear_next.ensures.same.0.1 ∙ c.ask_open.ensures.same.0.1, c.hear_next.ensures.same.0.2 ∙ c.ask_open.ensures.same.0.2), c.hear_next.ensures.same.1 ∙ c.ask_open.ensures.same.1)

pub returns-in_default-hear_next-clause-begins : goal.returns-in_default-hear_next-clause-begins
returns-in_default-hear_next-clause-begins g c = begins_on _ _ _ c.ask_open.ensures.begins c.hear_next.ensures.says.0

pub returns-in_default-hear_next-clause-served : goal.returns-in_default-hear_next-clause-served
returns-in_default-hear_next-clause-served g c =
    let n0 = c.args.caller.now.number in let n1 = c.ask_open.new.caller.number in
    let h0 = (view_in c.args.caller.now.pass).seen in let h1 = (view_in c.ask_open.new.caller.pass).seen in
    let h2 = (view_in c.hear_next.new.caller.pass).seen in let e1 : n1 ≡ n0 = c.ask_open.ensures.same.1 in
    let says : Stays weight n0 h1 h2 = subst (λ m. Stays weight m h1 h2) e1 c.hear_next.ensures.says in
    let H = g.S.Source.holds c.args.source.now in let A = g.S.Source.asked c.args.source.now in
    let s1 = serves_same H A n0 h0 h1 c.ask_open.ensures.kept.0 c.ask_open.ensures.kept.1 c.requires.served in
    let s2 = serves_same H A n0 h1 h2 says.1.0 says.1.1 s1 in
    inl s2

pub returns-in_default-hear_next-clause-led : goal.returns-in_default-hear_next-clause-led
returns-in_default-hear_next-clause-led g c = λ maps entry trace led0.
    let n0 = c.args.caller.now.number in let n1 = c.ask_open.new.caller.number in
    let h0 = (view_in c.args.caller.now.pass).seen in let h1 = (view_in c.ask_open.new.caller.pass).seen in
    let h2 = (view_in c.hear_next.new.caller.pass).seen in let e1 : n1 ≡ n0 = c.ask_open.ensures.same.1 in
    let says : Stays weight n0 h1 h2 = subst (λ m. Stays weight m h1 h2) e1 c.hear_next.ensures.says in
    let led1 = led_stays c.urls_stay.ensures c.posts_stay.ensures maps entry trace n0 h0 h1 c.args.machine.now (deliveries_of c.args.taken.now.items) c.ask_open.ensures.begins (c.ask_open.ensures.asks maps entry trace (deliveries_of c.args.taken.now.items) led0.driven.represents) led0 in
    let led2 = led_stays c.urls_stay.ensures c.posts_stay.ensures maps entry trace n0 h1 h2 c.args.machine.now (deliveries_of c.args.taken.now.items) says.0 (asks_same maps entry trace (deliveries_of c.args.taken.now.items) n0 h1 h2 says.1.2) led1 in
    short_of maps entry trace n0 h2 c.args.machine.now (deliveries_of c.args.taken.now.items) led2

pub returns-in-Some-clause-same : goal.returns-in-Some-clause-same
returns-in-Some-clause-same g c = ((c.hear_next.ensures.same.0.0 ∙ c.ask_open.ensures.same.0.0, c.hear_next.ensures.same.0.1 ∙ c.ask_open.ensures.same.0.1, c.hear_next.ensures.same.0.2 ∙ c.ask_open.ensures.same.0.2), c.hear_next.ensures.same.1 ∙ c.ask_open.ensures.same.1)

pub returns-in-Some-clause-begins : goal.returns-in-Some-clause-begins
returns-in-Some-clause-begins g c = begins_on _ _ _ c.ask_open.ensures.begins c.hear_next.ensures.says.0

pub returns-in-Some-clause-served : goal.returns-in-Some-clause-served
returns-in-Some-clause-served g c =
    let n0 = c.args.caller.now.number in let n1 = c.ask_open.new.caller.number in
    let h0 = (view_in c.args.caller.now.pass).seen in let h1 = (view_in c.ask_open.new.caller.pass).seen in
    let h2 = (view_in c.hear_next.new.caller.pass).seen in let e1 : n1 ≡ n0 = c.ask_open.ensures.same.1 in
    let says : Stays weight n0 h1 h2 = subst (λ m. Stays weight m h1 h2) e1 c.hear_next.ensures.says in
    let H = g.S.Source.holds c.args.source.now in let A = g.S.Source.asked c.args.source.now in
    let s1 = serves_same H A n0 h0 h1 c.ask_open.ensures.kept.0 c.ask_open.ensures.kept.1 c.requires.served in
    served_by_any c.deliver.result H A n0 h2 (serves_same H A n0 h1 h2 says.1.0 says.1.1 s1)

pub returns-in-Some-clause-tickets : goal.returns-in-Some-clause-tickets
returns-in-Some-clause-tickets g c =
    let n0 = c.args.caller.now.number in let n1 = c.ask_open.new.caller.number in
    let h0 = (view_in c.args.caller.now.pass).seen in let h1 = (view_in c.ask_open.new.caller.pass).seen in
    let h2 = (view_in c.hear_next.new.caller.pass).seen in let e1 : n1 ≡ n0 = c.ask_open.ensures.same.1 in
    let says : Stays weight n0 h1 h2 = subst (λ m. Stays weight m h1 h2) e1 c.hear_next.ensures.says in
    let t2 = tickets_stay c.urls_stay.ensures h1 h2 c.ask_open.new.tickets.items says.0 c.in-Ok.ensures.tickets in
    let t3 = subst (λ q. All (HasTicket h2) q.items) (sym c.hear_next.ensures.tickets) t2 in
    on_ok c.deliver.result _ (tickets_left c.urls_stay.ensures h2 h2 c.hear_next.new.queue.tickets.items c.choose.new.queue.tickets.items (begins_same h2) t3 c.choose.ensures.left)

pub returns-in-Some-clause-posted : goal.returns-in-Some-clause-posted
returns-in-Some-clause-posted g c =
    let n0 = c.args.caller.now.number in let n1 = c.ask_open.new.caller.number in
    let h0 = (view_in c.args.caller.now.pass).seen in let h1 = (view_in c.ask_open.new.caller.pass).seen in
    let h2 = (view_in c.hear_next.new.caller.pass).seen in let e1 : n1 ≡ n0 = c.ask_open.ensures.same.1 in
    let says : Stays weight n0 h1 h2 = subst (λ m. Stays weight m h1 h2) e1 c.hear_next.ensures.says in
    let q0 = c.args.queue.now in let q2 = c.hear_next.new.queue in
    let heard1 = heard_stay c.posts_stay.ensures h0 h1 q0.posted.items c.ask_open.ensures.begins c.requires.posted in
    let heard2 = heard_more c.posts_stay.ensures h1 h2 q0.known q0.posted.items q2.known q2.posted.items says.0 c.hear_next.ensures.order heard1 in
    on_ok c.deliver.result _ (heard_left c.posts_stay.ensures h2 h2 q2.posted.items c.choose.new.queue.posted.items (begins_same h2) heard2 c.choose.ensures.left_posted)

pub returns-in-Some-clause-led : goal.returns-in-Some-clause-led
returns-in-Some-clause-led g c = λ maps entry trace led0.
    let n0 = c.args.caller.now.number in let n1 = c.ask_open.new.caller.number in
    let h0 = (view_in c.args.caller.now.pass).seen in let h1 = (view_in c.ask_open.new.caller.pass).seen in
    let h2 = (view_in c.hear_next.new.caller.pass).seen in let e1 : n1 ≡ n0 = c.ask_open.ensures.same.1 in
    let says : Stays weight n0 h1 h2 = subst (λ m. Stays weight m h1 h2) e1 c.hear_next.ensures.says in
    let t2 = tickets_stay c.urls_stay.ensures h1 h2 c.ask_open.new.tickets.items says.0 c.in-Ok.ensures.tickets in
    let t3 = subst (λ q. All (HasTicket h2) q.items) (sym c.hear_next.ensures.tickets) t2 in
    let q0 = c.args.queue.now in let q2 = c.hear_next.new.queue in
    let heard1 = heard_stay c.posts_stay.ensures h0 h1 q0.posted.items c.ask_open.ensures.begins c.requires.posted in
    let heard2 = heard_more c.posts_stay.ensures h1 h2 q0.known q0.posted.items q2.known q2.posted.items says.0 c.hear_next.ensures.order heard1 in
    let ticket = All-contains (HasTicket h2) q2.tickets.items c.in-Some.chosen.ticket t3 c.in-Some.ensures.among in
    let post = chosen_post h2 q2.tickets.items q2.posted.items c.in-Some.chosen c.choose.new.queue.posted.items heard2 c.in-Some.ensures.first in
    let led1 = led_stays c.urls_stay.ensures c.posts_stay.ensures maps entry trace n0 h0 h1 c.args.machine.now (deliveries_of c.args.taken.now.items) c.ask_open.ensures.begins (c.ask_open.ensures.asks maps entry trace (deliveries_of c.args.taken.now.items) led0.driven.represents) led0 in
    let led2 = led_stays c.urls_stay.ensures c.posts_stay.ensures maps entry trace n0 h1 h2 c.args.machine.now (deliveries_of c.args.taken.now.items) says.0 (asks_same maps entry trace (deliveries_of c.args.taken.now.items) n0 h1 h2 says.1.2) led1 in
    c.deliver.ensures maps entry trace n0 h2 ticket post led2

pub returns-in-None-clause-same : goal.returns-in-None-clause-same
returns-in-None-clause-same g c = ((c.fetch_or_wait.ensures.same.0.0 ∙ c.hear_next.ensures.same.0.0 ∙ c.ask_open.ensures.same.0.0, c.fetch_or_wait.ensures.same.0.1 ∙ c.hear_next.ensures.same.0.1 ∙ c.ask_open.ensures.same.0.1, c.fetch_or_wait.ensures.same.0.2 ∙ c.hear_next.ensures.same.0.2 ∙ c.ask_open.ensures.same.0.2), c.fetch_or_wait.ensures.same.1 ∙ c.hear_next.ensures.same.1 ∙ c.ask_open.ensures.same.1)

pub returns-in-None-clause-begins : goal.returns-in-None-clause-begins
returns-in-None-clause-begins g c = begins_on _ _ _ (begins_on _ _ _ c.ask_open.ensures.begins c.hear_next.ensures.says.0) c.fetch_or_wait.ensures.begins

pub returns-in-None-clause-served : goal.returns-in-None-clause-served
returns-in-None-clause-served g c = subst (λ m. ServedBy c.fetch_or_wait.result (g.S.Source.holds c.args.source.now) (g.S.Source.asked c.fetch_or_wait.new.source) m (view_in c.fetch_or_wait.new.caller.pass).seen) (c.hear_next.ensures.same.1 ∙ c.ask_open.ensures.same.1) c.fetch_or_wait.ensures.served

pub returns-in-None-clause-tickets : goal.returns-in-None-clause-tickets
returns-in-None-clause-tickets g c =
    let n0 = c.args.caller.now.number in let n1 = c.ask_open.new.caller.number in
    let h0 = (view_in c.args.caller.now.pass).seen in let h1 = (view_in c.ask_open.new.caller.pass).seen in
    let h2 = (view_in c.hear_next.new.caller.pass).seen in let e1 : n1 ≡ n0 = c.ask_open.ensures.same.1 in
    let says : Stays weight n0 h1 h2 = subst (λ m. Stays weight m h1 h2) e1 c.hear_next.ensures.says in
    let t2 = tickets_stay c.urls_stay.ensures h1 h2 c.ask_open.new.tickets.items says.0 c.in-Ok.ensures.tickets in
    let t3 = subst (λ q. All (HasTicket h2) q.items) (sym c.hear_next.ensures.tickets) t2 in
    let h3 = (view_in c.fetch_or_wait.new.caller.pass).seen in
    let left = tickets_left c.urls_stay.ensures h2 h3 c.hear_next.new.queue.tickets.items c.choose.new.queue.tickets.items c.fetch_or_wait.ensures.begins t3 c.choose.ensures.left in
    on_ok c.fetch_or_wait.result _ (subst (λ q. All (HasTicket h3) q.items) (sym c.fetch_or_wait.ensures.tickets) left)

pub returns-in-None-clause-posted : goal.returns-in-None-clause-posted
returns-in-None-clause-posted g c =
    let n0 = c.args.caller.now.number in let n1 = c.ask_open.new.caller.number in
    let h0 = (view_in c.args.caller.now.pass).seen in let h1 = (view_in c.ask_open.new.caller.pass).seen in
    let h2 = (view_in c.hear_next.new.caller.pass).seen in let e1 : n1 ≡ n0 = c.ask_open.ensures.same.1 in
    let says : Stays weight n0 h1 h2 = subst (λ m. Stays weight m h1 h2) e1 c.hear_next.ensures.says in
    let q0 = c.args.queue.now in let q2 = c.hear_next.new.queue in
    let heard1 = heard_stay c.posts_stay.ensures h0 h1 q0.posted.items c.ask_open.ensures.begins c.requires.posted in
    let heard2 = heard_more c.posts_stay.ensures h1 h2 q0.known q0.posted.items q2.known q2.posted.items says.0 c.hear_next.ensures.order heard1 in
    let h3 = (view_in c.fetch_or_wait.new.caller.pass).seen in
    let left = heard_left c.posts_stay.ensures h2 h3 q2.posted.items c.choose.new.queue.posted.items c.fetch_or_wait.ensures.begins heard2 c.choose.ensures.left_posted in
    on_ok c.fetch_or_wait.result _ (subst (λ q. All (IsHeard h3) q.items) (sym c.fetch_or_wait.ensures.posted) left)

pub returns-in-None-clause-led : goal.returns-in-None-clause-led
returns-in-None-clause-led g c = λ maps entry trace led0.
    let n0 = c.args.caller.now.number in let n1 = c.ask_open.new.caller.number in
    let h0 = (view_in c.args.caller.now.pass).seen in let h1 = (view_in c.ask_open.new.caller.pass).seen in
    let h2 = (view_in c.hear_next.new.caller.pass).seen in let e1 : n1 ≡ n0 = c.ask_open.ensures.same.1 in
    let says : Stays weight n0 h1 h2 = subst (λ m. Stays weight m h1 h2) e1 c.hear_next.ensures.says in
    let led1 = led_stays c.urls_stay.ensures c.posts_stay.ensures maps entry trace n0 h0 h1 c.args.machine.now (deliveries_of c.args.taken.now.items) c.ask_open.ensures.begins (c.ask_open.ensures.asks maps entry trace (deliveries_of c.args.taken.now.items) led0.driven.represents) led0 in
    let led2 = led_stays c.urls_stay.ensures c.posts_stay.ensures maps entry trace n0 h1 h2 c.args.machine.now (deliveries_of c.args.taken.now.items) says.0 (asks_same maps entry trace (deliveries_of c.args.taken.now.items) n0 h1 h2 says.1.2) led1 in
    let h3 = (view_in c.fetch_or_wait.new.caller.pass).seen in let e2 = c.hear_next.ensures.same.1 ∙ e1 in
    let asks = subst (λ m. asks_by weight m h3 ≡ asks_by weight m h2) e2 c.fetch_or_wait.ensures.asks in
    leads_on_same c.fetch_or_wait.result maps entry trace n0 h3 c.args.machine.now (deliveries_of c.args.taken.now.items)
    (led_stays c.urls_stay.ensures c.posts_stay.ensures maps entry trace n0 h2 h3 c.args.machine.now (deliveries_of c.args.taken.now.items) c.fetch_or_wait.ensures.begins (asks_same maps entry trace (deliveries_of c.args.taken.now.items) n0 h2 h3 asks) led2)
