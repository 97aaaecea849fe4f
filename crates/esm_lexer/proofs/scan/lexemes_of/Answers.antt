use Rattle.std.proofs.Common.{sym}
use Rattle.std.proofs.lemmas.Str.{encodes-chars}
use Rattle.esm_lexer.proofs.scan.lexemes_of.Goals as goal

pub front-requires-clause-source : goal.front-requires-clause-source
front-requires-clause-source c = rw (c.deref-2.ensures.value, c.in_ok-characters.ensures) (sym (encodes-chars c.args.text.now c.utf8.text))
