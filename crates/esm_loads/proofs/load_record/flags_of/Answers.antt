-- One more id has its flag.
use Rattle.std.proofs.Common.{subst, sym, take}
use Rattle.std.specs.Prelude.{slice_index_or}
use Rattle.esm_loads.specs.Inner.Flags.{AreFlags}
use Rattle.esm_loads.proofs.Flags.{take_next}
use Rattle.esm_loads.proofs.Places.{get_at}
use Rattle.esm_loads.proofs.load_record.flags_of.Goals as goal

pub loop-i-preserved : goal.loop-i-preserved
loop-i-preserved c =
    let ks = c.args.visited.now in
    let k = slice_index_or ks c.loop-i.i 0 in
    subst (λ ks. AreFlags c.mark.new.flags.items ks) (sym (take_next ks c.loop-i.i k (get_at ks c.loop-i.i 0 c.loop-i-test.true)))
    (c.in_ok-mark.ensures (take c.loop-i.i ks) c.loop-i.invariant)
