use Rattle.esm_record.proofs.Appended.{goes_on, ends}
use Rattle.esm_record.proofs.record.add_deliveries.Goals as goal

pub loop-delivery-preserved : goal.loop-delivery-preserved
loop-delivery-preserved c =
    goes_on c.args.taken.now c.loop-delivery.delivery-index c.delivery-item.result c.loop-delivery.text.items c.add_delivery.new.text.items _
    c.loop-delivery-test.true c.delivery-item.is c.in_ok-add_delivery.ensures c.loop-delivery.invariant

pub returns : goal.returns
returns c = ends c.args.taken.now c.loop-delivery.delivery-index c.loop-delivery.text.items _ c.loop-delivery-test.false c.loop-delivery.invariant
