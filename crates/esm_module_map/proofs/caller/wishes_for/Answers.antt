use Rattle.esm_module_map.proofs.Wishing.{wished_more}
use Rattle.esm_module_map.proofs.caller.wishes_for.Goals as goal

pub loop-url-preserved : goal.loop-url-preserved
loop-url-preserved c = let so_far = c.loop-url in
    let r = wished_more c.args.urls.now so_far.wishes.items c.push.new.self.items so_far.url-index c.url-item.result (record { url = c.in_ok-clone.field-0; key = c.in_ok-clone-2.field-0 }) so_far.invariant.so so_far.invariant.each c.requires c.loop-url-test.true c.url-item.is c.in_ok-clone.ensures c.in_ok-clone-2.ensures c.in_ok-push.ensures.items in
    record { so = r.0; each = r.1 }
