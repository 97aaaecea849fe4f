use Rattle.std.proofs.Common.{◌∙◌}
use Rattle.esm_lexer.proofs.FrontLemmas.{cut_at, front_is, behind_is, from_start}
use Rattle.esm_lexer.proofs.front.front.Goals as goal

pub returns-clause-first : goal.returns-clause-first
returns-clause-first c = c.range.ensures.value ∙ from_start _ _ ∙ front_is _ _ _ _ c.requires.source c.width-end.ensures

pub returns-clause-behind : goal.returns-clause-behind
returns-clause-behind c = c.range_from.ensures.value ∙ behind_is _ _ _ _ c.requires.source c.width-end.ensures

pub range-requires-clause-end_boundary : goal.range-requires-clause-end_boundary
range-requires-clause-end_boundary c = cut_at _ _ _ _ c.utf8.source c.requires.source c.width-end.ensures

pub range_from-requires : goal.range_from-requires
range_from-requires c _ = cut_at _ _ _ _ c.utf8.source c.requires.source c.width-end.ensures
