use Rattle.std.proofs.Common.{◌∙◌, ap, sym, take}
use Rattle.std.specs.Prelude.{position}
use Rattle.esm_module_map.specs.Replay.{is_wanted_and_free}
use Rattle.esm_module_map.proofs.Firsts.{found, missing, rest_is, none_wanted}
use Rattle.esm_module_map.proofs.number.wanted_and_free_from.Goals as goal

pub returns-in-Some : goal.returns-in-Some
returns-in-Some c = found is_wanted_and_free c.args.numbers.now c.args.from c.in-Some.place (none_wanted (take c.args.from c.args.numbers.now) c.requires.none) c.requires.within (ap (position is_wanted_and_free) (sym (rest_is c.args.from c.args.numbers.now)) ∙ sym c.in-Some.ensures)

pub returns-in-None : goal.returns-in-None
returns-in-None c = missing is_wanted_and_free c.args.numbers.now c.args.from (none_wanted (take c.args.from c.args.numbers.now) c.requires.none) c.requires.within (ap (position is_wanted_and_free) (sym (rest_is c.args.from c.args.numbers.now)) ∙ sym c.in-None.ensures)
