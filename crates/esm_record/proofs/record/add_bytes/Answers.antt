use Rattle.std.proofs.Common.{◌++◌, length}
use Rattle.std.specs.Prelude.{codes}
use Rattle.esm_record.specs.Record.{length_line}
use Rattle.esm_record.proofs.Appended.{both}
use Rattle.esm_record.proofs.record.add_bytes.Goals as goal

pub returns : goal.returns
returns c =
    let old = c.args.text.now.items in
    let line = length_line c.args.name.now c.args.url.now (length c.args.bytes.now) in
    let mid = c.extend_from_slice.new.self.items in
    both old (line ++ c.args.bytes.now) (codes "\n") mid c.push.new.self.items
    (both old line c.args.bytes.now c.add_length.new.text.items mid c.in_ok-add_length.ensures c.in_ok-extend_from_slice.ensures.items)
    c.in_ok-push.ensures.items
