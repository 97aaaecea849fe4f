use Rattle.std.proofs.Common.{◌≡◌, ◌∙◌, Some, sym, subst, arith}
use Rattle.std.proofs.lemmas.List.Elements.{All-push}
use Rattle.esm_hlock.specs.Words.{knows}
use Rattle.esm_module_map.specs.Leading.{guide_in}
use Rattle.esm_module_map.specs.Views.{view_in, table_of}
use Rattle.esm_run.specs.Inner.Leading.{IsNew}
use Rattle.esm_run.proofs.SharedLemmas.{new_kept}
use Rattle.esm_run.proofs.workers.enrol_workers.Goals as goal

pub loop-caller-preserved : goal.loop-caller-preserved
loop-caller-preserved g c =
    let inv = c.loop-caller.invariant in
    let one = c.in-Ok-push.ensures.len in let new = c.push.new.self.ok.0 in let old = c.loop-caller.workers.ok.0 in
    let less = c.split-pass.ensures.shares.0 in let all = inv.shares in let test = c.loop-caller-test.true in let len = c.len.ensures in
    let M = c.args.modules.now.lock.table.shared.table_id in
    let made : (table_of M c.in-Ok.one.pass ≡ M) × ((view_in c.in-Ok.one.pass).shares ≡ 1) × IsNew c.in-Ok.one.number (view_in c.in-Ok.one.pass) = (c.in-Ok.ensures.own, c.in-Ok.ensures.shares ∙ c.split-pass.ensures.shares.1, c.in-Ok.ensures.new) in
    record {
      own = c.split-pass.ensures.own.0;
      shares = omega (arith, one, new, old, less, all);
      new = new_kept c.loop-caller.caller.number c.split-pass.new.caller.number (view_in c.loop-caller.caller.pass) (view_in c.split-pass.new.caller.pass) c.split-pass.ensures.kept.0 c.split-pass.ensures.kept.1 c.split-pass.ensures.seen.0 inv.new;
      seen = c.split-pass.ensures.seen.0 ∙ inv.seen;
      guides = λ maps guide.
          let before : guide_in (knows c.split-pass.result).seen ≡ Some maps = subst (λ h. guide_in h ≡ Some maps) (sym (c.split-pass.ensures.seen.1 ∙ inv.seen)) guide in
          rw c.in-Ok-push.ensures.items (All-push (λ w. guide_in (view_in w.pass).seen ≡ Some maps) c.loop-caller.workers.items c.in-Ok.one (inv.guides maps guide)
          (c.guide_stays.ensures maps (knows c.split-pass.result).seen (view_in c.in-Ok.one.pass).seen c.in-Ok.ensures.begins before));
      workers = rw c.in-Ok-push.ensures.items (All-push (λ w. (table_of M w.pass ≡ M) × ((view_in w.pass).shares ≡ 1) × IsNew w.number (view_in w.pass)) c.loop-caller.workers.items c.in-Ok.one inv.workers made);
      many = omega (arith, one, new, old, test, len);
    }

pub split-pass-requires-clause-shares : goal.split-pass-requires-clause-shares
split-pass-requires-clause-shares g c =
    let all = c.loop-caller.invariant.shares in let test = c.loop-caller-test.true in let len = c.len.ensures in let old = c.loop-caller.workers.ok.0 in let some = c.requires.shares in
    omega (arith, all, test, len, old, some)
