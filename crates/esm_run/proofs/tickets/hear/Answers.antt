use Rattle.std.proofs.Common.{◌∙◌, refl, sym, subst, rules}
use Rattle.esm_module_map.specs.Views.{view_in}
use Rattle.esm_run.specs.Inner.Leading.{HearsMore}
use Rattle.esm_run.proofs.HeardLemmas.{hears_nothing, hears_on}
use Rattle.esm_run.proofs.LeadLemmas.{begins_same, stays_on}
use Rattle.esm_run.proofs.tickets.hear.Goals as goal

pub loop-init : goal.loop-init
loop-init g c = record { own = c.requires.own; same = (refl, refl, refl); number = refl; says = (begins_same _, (refl, refl, refl, refl)); order = hears_nothing _ _ _; tickets = refl }

pub loop-preserved : goal.loop-preserved
loop-preserved g c =
    let old = (view_in c.loop.caller.pass).seen in let new = (view_in c.hear.new.caller.pass).seen in let q = c.args.queue.now in
    record {
      own = c.hear.ensures.own;
      same = (c.hear.ensures.same.0.0 ∙ c.loop.invariant.same.0, c.hear.ensures.same.0.1 ∙ c.loop.invariant.same.1, c.hear.ensures.same.0.2 ∙ c.loop.invariant.same.2);
      number = c.hear.ensures.same.1 ∙ c.loop.invariant.number;
      says = stays_on c.args.caller.now.number c.loop.caller.number (view_in c.args.caller.now.pass).seen old new c.loop.invariant.number c.loop.invariant.says c.hear.ensures.says;
      order = hears_on c.posts_stay.ensures old new q.known q.posted.items c.loop.queue.known c.loop.queue.posted.items c.hear.new.known c.hear.new.heard.items c.hear.ensures.says.0 c.loop.invariant.order
          (subst (λ l. HearsMore new c.loop.queue.known l c.hear.new.known c.hear.new.heard.items) c.reserve.ensures.items c.hear.ensures.heard);
      tickets = c.loop.invariant.tickets;
    }

pub returns-in_default-clause-order : goal.returns-in_default-clause-order
returns-in_default-clause-order g c = subst (λ l. HearsMore (view_in c.loop.caller.pass).seen c.args.queue.now.known c.args.queue.now.posted.items c.loop.queue.known l) (sym c.reserve.ensures.items) c.loop.invariant.order

pub returns-in_default-hear-clause-same : goal.returns-in_default-hear-clause-same
returns-in_default-hear-clause-same g c = ((c.hear.ensures.same.0.0 ∙ c.loop.invariant.same.0, c.hear.ensures.same.0.1 ∙ c.loop.invariant.same.1, c.hear.ensures.same.0.2 ∙ c.loop.invariant.same.2), c.hear.ensures.same.1 ∙ c.loop.invariant.number)

pub returns-in_default-hear-clause-says : goal.returns-in_default-hear-clause-says
returns-in_default-hear-clause-says g c = stays_on c.args.caller.now.number c.loop.caller.number (view_in c.args.caller.now.pass).seen (view_in c.loop.caller.pass).seen (view_in c.hear.new.caller.pass).seen c.loop.invariant.number c.loop.invariant.says c.hear.ensures.says

pub returns-in_default-hear-clause-order : goal.returns-in_default-hear-clause-order
returns-in_default-hear-clause-order g c =
    let old = (view_in c.loop.caller.pass).seen in let new = (view_in c.hear.new.caller.pass).seen in let q = c.args.queue.now in
    hears_on c.posts_stay.ensures old new q.known q.posted.items c.loop.queue.known c.loop.queue.posted.items c.hear.new.known c.hear.new.heard.items c.hear.ensures.says.0 c.loop.invariant.order
    (subst (λ l. HearsMore new c.loop.queue.known l c.hear.new.known c.hear.new.heard.items) c.reserve.ensures.items c.hear.ensures.heard)

pub returns-then-len-capacity-clause-same : goal.returns-then-len-capacity-clause-same
returns-then-len-capacity-clause-same g c = ((c.hear.ensures.same.0.0 ∙ c.loop.invariant.same.0, c.hear.ensures.same.0.1 ∙ c.loop.invariant.same.1, c.hear.ensures.same.0.2 ∙ c.loop.invariant.same.2), c.hear.ensures.same.1 ∙ c.loop.invariant.number)

pub returns-then-len-capacity-clause-says : goal.returns-then-len-capacity-clause-says
returns-then-len-capacity-clause-says g c = stays_on c.args.caller.now.number c.loop.caller.number (view_in c.args.caller.now.pass).seen (view_in c.loop.caller.pass).seen (view_in c.hear.new.caller.pass).seen c.loop.invariant.number c.loop.invariant.says c.hear.ensures.says

pub returns-then-len-capacity-clause-order : goal.returns-then-len-capacity-clause-order
returns-then-len-capacity-clause-order g c =
    let old = (view_in c.loop.caller.pass).seen in let new = (view_in c.hear.new.caller.pass).seen in let q = c.args.queue.now in
    hears_on c.posts_stay.ensures old new q.known q.posted.items c.loop.queue.known c.loop.queue.posted.items c.hear.new.known c.hear.new.heard.items c.hear.ensures.says.0 c.loop.invariant.order
    (subst (λ l. HearsMore new c.loop.queue.known l c.hear.new.known c.hear.new.heard.items) c.reserve.ensures.items c.hear.ensures.heard)

pub returns-then-len-capacity-clause-all : goal.returns-then-len-capacity-clause-all
returns-then-len-capacity-clause-all g c = c.in-Ok-hear.ensures.all (search rules)
