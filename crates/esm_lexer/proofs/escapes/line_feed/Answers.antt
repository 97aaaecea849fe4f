use Rattle.std.proofs.Common.{refl}
use Rattle.esm_grammar.specs.Reading.{pick}
use Rattle.esm_lexer.proofs.escapes.line_feed.Goals as goal
use Rattle.esm_lexer.proofs.escapes.line_feed.Goals.{else-is-via-then-is+else-begins_line_feed, else-is-via-else-is}

pub returns-then-begins_line_feed-clause-value : goal.returns-then-begins_line_feed-clause-value
unfolding pick
returns-then-begins_line_feed-clause-value c = rw (← c.if-is.ensures) c.if-begins_line_feed.ensures.value

pub returns-else-is-clause-value : goal.returns-else-is-clause-value
unfolding pick
returns-else-is-clause-value c = elim c.else-is.branch [
  | else-is-via-then-is+else-begins_line_feed w ↦ rw (← w.if-is.ensures) w.if-begins_line_feed.ensures.value
  | else-is-via-else-is w ↦ rw (← w.if-is.ensures) refl
]
