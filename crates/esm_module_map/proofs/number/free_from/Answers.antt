use Rattle.std.proofs.Common.{◌∙◌, ap, sym}
use Rattle.std.specs.Prelude.{position}
use Rattle.esm_module_map.specs.Replay.{is_free}
use Rattle.esm_module_map.proofs.Firsts.{found, missing, rest_is}
use Rattle.esm_module_map.proofs.number.free_from.Goals as goal

pub returns-in-Some : goal.returns-in-Some
returns-in-Some c = found is_free c.args.numbers.now c.args.from c.in-Some.place c.requires.none c.requires.within (ap (position is_free) (sym (rest_is c.args.from c.args.numbers.now)) ∙ sym c.in-Some.ensures)

pub returns-in-None : goal.returns-in-None
returns-in-None c = missing is_free c.args.numbers.now c.args.from c.requires.none c.requires.within (ap (position is_free) (sym (rest_is c.args.from c.args.numbers.now)) ∙ sym c.in-None.ensures)
