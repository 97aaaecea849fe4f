use Rattle.std.proofs.Common.{◌≡◌, ◌∙◌, ap, sym, ◌++◌, length}
use Rattle.std.proofs.lemmas.List.{length-map}
use Rattle.std.specs.Prelude.{codes, option_map}
use Rattle.esm_record.specs.Delivered.{delivery_of, deliveries_of, given_map}
use Rattle.esm_record.specs.Record.{url_line, map_lines, count_line}
use Rattle.esm_record.proofs.Appended.{both, lines_of}
use Rattle.esm_record.proofs.record.append_record.Goals as goal

pub returns : goal.returns
returns c =
    let old = c.args.text.now.items in
    let first = codes "esm-record 1\n" in
    let base = first ++ url_line (codes "base") c.args.base.now in
    let entry = base ++ url_line (codes "entry") c.args.entry.now in
    let given = entry ++ map_lines (option_map given_map c.args.map) in
    let taken = count_line (length (deliveries_of c.args.taken.now)) ++ lines_of c.args.taken.now in
    let whole = given ++ taken in
    let t1 = c.extend_from_slice.new.self.items in
    let t2 = c.add_line.new.text.items in
    let t3 = c.add_line-2.new.text.items in
    let t4 = c.add_map.new.text.items in
    let t5 = c.add_count.new.text.items in
    let t6 = c.add_deliveries.new.text.items in
    let named : t3 ≡ t2 ++ url_line (codes "entry") c.args.entry.now =
    c.in_ok-add_line-2.ensures ∙ ap (λ url. t2 ++ url_line (codes "entry") url) c.as_str.ensures.value in
    let counted : t5 ≡ t4 ++ count_line (length (deliveries_of c.args.taken.now)) =
    c.in_ok-add_count.ensures ∙ ap (λ n. t4 ++ count_line n) (sym (length-map c.args.taken.now delivery_of)) in
    let to_base : t2 ≡ old ++ base = both old first (url_line (codes "base") c.args.base.now) t1 t2 c.in_ok-extend_from_slice.ensures.items c.in_ok-add_line.ensures in
    let to_entry : t3 ≡ old ++ entry = both old base (url_line (codes "entry") c.args.entry.now) t2 t3 to_base named in
    let to_given : t4 ≡ old ++ given = both old entry (map_lines (option_map given_map c.args.map)) t3 t4 to_entry c.in_ok-add_map.ensures in
    let to_taken : t6 ≡ t4 ++ taken = both t4 (count_line (length (deliveries_of c.args.taken.now))) (lines_of c.args.taken.now) t5 t6 counted c.in_ok-add_deliveries.ensures in
    let to_whole : t6 ≡ old ++ whole = both old given taken t4 t6 to_given to_taken in
    both old whole (codes "end\n") t6 c.extend_from_slice-2.new.self.items to_whole c.in_ok-extend_from_slice-2.ensures.items
