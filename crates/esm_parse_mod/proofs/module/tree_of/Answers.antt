use Rattle.std.proofs.Common.{inl, inr, ◌∙◌, sym, subst}
use Rattle.esm_grammar.specs.Lexes.{AreTokens}
use Rattle.esm_grammar.proofs.SoundItems as sound
use Rattle.esm_grammar.proofs.CompleteItems as complete
use Rattle.esm_parse_mod.proofs.NameLemmas.{not_some}
use Rattle.esm_parse_mod.proofs.module.tree_of.Goals as goal

pub returns-then-nests_too_deep : goal.returns-then-nests_too_deep
returns-then-nests_too_deep c = λ bytes short tokens. record { short = short; ts = _; whole = _; tokens = tokens; deep = sym c.nests_too_deep.ensures ∙ c.if-nests_too_deep.true }

pub returns-then-not-whole : goal.returns-then-not-whole
returns-then-not-whole c = λ bytes short tokens. inl (_, record { short = short; tokens = subst (λ w. AreTokens bytes c.args.tokens.now w) c.if-not-whole.true tokens; shallow = sym c.if-nests_too_deep.ensures })

pub returns-in-Ok : goal.returns-in-Ok
returns-in-Ok c = λ bytes short tokens. record {
  ts = c.args.tokens.now;
  tokens = record { short = short; tokens = subst (λ w. AreTokens bytes c.args.tokens.now w) c.if-not-whole.false tokens; shallow = sym c.if-nests_too_deep.ensures };
  derived = sound.module_items c.args.tokens.now _ c.in-Ok.ensures.1;
}

pub returns-in-Err-Fault : goal.returns-in-Err-Fault
returns-in-Err-Fault c = λ bytes short tokens. inr (
  c.args.tokens.now,
  (
    record { short = short; tokens = subst (λ w. AreTokens bytes c.args.tokens.now w) c.if-not-whole.false tokens; shallow = sym c.if-nests_too_deep.ensures },
    λ items derived. not_some (rw c.in-Err-Fault.field-0-is at c.in-Err-Fault.ensures) (complete.module_complete c.args.tokens.now derived).1,
  ),
)
