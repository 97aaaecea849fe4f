use Rattle.std.proofs.Common.{◌∙◌, ◌+◌, ◌||◌, not, drop, sym, ap}
use Rattle.std.specs.List.{list_any}
use Rattle.esm_parse_mod.specs.Inner.Names.{is_unlisted, held}
use Rattle.esm_parse_mod.proofs.NamesLemmas.{at_is, past}
use Rattle.esm_parse_mod.proofs.errors.any_undeclared.Goals as goal

pub returns-then-not-specifier : goal.returns-then-not-specifier
returns-then-not-specifier c =
    let l = c.loop-specifier in
    let has = held c.args.declared.now in
    let x = c.specifier-item.result in
    let e = at_is c.args.specifiers.now l.specifier-index x c.loop-specifier-test.true c.specifier-item.is in
    sym (l.invariant ∙ ap (list_any (is_unlisted has)) e ∙ ap (λ b. (not b || not (has x.first)) || list_any (is_unlisted has) (drop (l.specifier-index + 1) c.args.specifiers.now)) c.if-not-specifier.true)

pub returns-then-not-holds : goal.returns-then-not-holds
returns-then-not-holds c =
    let l = c.loop-specifier in
    let has = held c.args.declared.now in
    let x = c.specifier-item.result in
    let e = at_is c.args.specifiers.now l.specifier-index x c.loop-specifier-test.true c.specifier-item.is in
    let gone = ap has (sym c.as_str.ensures.value) ∙ sym c.holds.ensures ∙ c.if-not-holds.true in
    sym (l.invariant ∙ ap (list_any (is_unlisted has)) e ∙ (λ k. (not (c.if-not-specifier.false k) || not (gone k)) || list_any (is_unlisted has) (drop (l.specifier-index + 1) c.args.specifiers.now)))

pub loop-specifier-preserved : goal.loop-specifier-preserved
loop-specifier-preserved c =
    let l = c.loop-specifier in
    let has = held c.args.declared.now in
    let x = c.specifier-item.result in
    let e = at_is c.args.specifiers.now l.specifier-index x c.loop-specifier-test.true c.specifier-item.is in
    let there = ap has (sym c.as_str.ensures.value) ∙ sym c.holds.ensures ∙ c.if-not-holds.false in
    l.invariant ∙ ap (list_any (is_unlisted has)) e ∙ (λ k. (not (c.if-not-specifier.false k) || not (there k)) || list_any (is_unlisted has) (drop (l.specifier-index + 1) c.args.specifiers.now))

pub returns : goal.returns
returns c =
    let l = c.loop-specifier in
    sym (l.invariant ∙ ap (list_any (is_unlisted (held c.args.declared.now))) (past c.args.specifiers.now l.specifier-index c.loop-specifier-test.false))
