use Rattle.std.proofs.Common.{◌≡◌, length, ap, sym, ◌∙◌, arith}
use Rattle.std.proofs.lemmas.List.{length-map}
use Rattle.esm_realm.specs.ById.{entries_at}
use Rattle.esm_realm.specs.Sound.{parts_of, records_of}
use Rattle.esm_machine.proofs.Awaiting.{flag_more}
use Rattle.esm_machine.proofs.by_id.note_arrived.Goals as goal

pub returns : goal.returns
returns c before url found records flags =
    let at : c.len-at.result ≡ length c.args.flags.now.items = c.len-at.ensures ∙ c.args.flags.now.ok.0 in
    let many : c.len.result ≡ length (records_of c.args.realm.now) =
    c.len.ensures ∙ (c.args.realm.now.records.ok.0 ∙ sym (length-map c.args.realm.now.records.items parts_of)) in
    let lt = c.if-at-len.false in
    c.in_ok-push.ensures.items
    ∙ flag_more before (records_of c.args.realm.now) url c.args.flags.now.items flags c.awaits_at.result found records (omega (arith, at, many, lt))
    (c.awaits_at.ensures ∙ ap (λ k. (entries_at (records_of c.args.realm.now) k).awaits) at)
