-- A text that is there stays where it is, and another comes behind all.
use Rattle.std.proofs.Common.{◌≡◌, true, false, bytes_eq, ap, sym, ◌∙◌, not, refl}
use Rattle.esm_base.specs.Lists.{is_in}
use Rattle.esm_text_table.proofs.TextTables.{there, stays, grows}
use Rattle.esm_text_table.proofs.text_table.TextTable.insert.Goals as goal

pub returns-then-is_some-clause-texts : goal.returns-then-is_some-clause-texts
returns-then-is_some-clause-texts c = stays c.args.self.now c.args.text (there c.args.self.now c.args.text c.find_by.result true c.find_by.ensures (sym c.is_some.ensures ∙ c.if-is_some.true))

pub returns-then-is_some-clause-added : goal.returns-then-is_some-clause-added
returns-then-is_some-clause-added c = sym (ap not (there c.args.self.now c.args.text c.find_by.result true c.find_by.ensures (sym c.is_some.ensures ∙ c.if-is_some.true)))

pub add-requires-clause-new : goal.add-requires-clause-new
add-requires-clause-new c = there c.args.self.now c.args.text c.find_by.result false c.find_by.ensures (sym c.is_some.ensures ∙ c.if-is_some.false)

pub returns-in-Ok-clause-texts : goal.returns-in-Ok-clause-texts
returns-in-Ok-clause-texts c =
    let fresh : is_in bytes_eq c.args.self.now c.args.text ≡ false = there c.args.self.now c.args.text c.find_by.result false c.find_by.ensures (sym c.is_some.ensures ∙ c.if-is_some.false) in
    grows c.args.self.now c.add.new.self c.args.self.now c.args.text refl c.in-Ok.ensures.texts fresh

pub returns-in-Ok-clause-added : goal.returns-in-Ok-clause-added
returns-in-Ok-clause-added c = sym (ap not (there c.args.self.now c.args.text c.find_by.result false c.find_by.ensures (sym c.is_some.ensures ∙ c.if-is_some.false)))
