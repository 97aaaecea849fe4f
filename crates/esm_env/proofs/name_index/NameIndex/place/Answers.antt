use Rattle.std.proofs.Common.{map, ◌∙◌}
use Rattle.esm_env.proofs.NameIndexes.{indexed_place}
use Rattle.esm_env.proofs.name_index.NameIndex.place.Goals as goal

pub returns-in-Some : goal.returns-in-Some
returns-in-Some g c = indexed_place c.args.self.now.places c.in-Some.places (map g.T.HasName.own_name c.args.list.now) c.args.wanted.now c.copied.result c.requires c.in-Some.is (c.copied.ensures ∙ c.get.ensures)
