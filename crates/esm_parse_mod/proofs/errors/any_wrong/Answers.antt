use Rattle.std.proofs.Common.{◌∙◌, ◌+◌, ◌||◌, drop, sym, ap}
use Rattle.esm_tree.specs.Flat.{items_of, item_of}
use Rattle.esm_grammar.specs.EarlyErrors.{item_scopes}
use Rattle.esm_parse_mod.specs.Inner.Names.{any_item_wrong, any_clashes, held}
use Rattle.esm_parse_mod.proofs.NamesLemmas.{at_is, past}
use Rattle.esm_parse_mod.proofs.EarlyLemmas.{need_at, wrong_at, wrong_past}
use Rattle.esm_parse_mod.proofs.errors.any_wrong.Goals as goal

pub item_errs-requires : goal.item_errs-requires
item_errs-requires c = let l = c.loop-item in need_at _ c.args.items.now l.item-index _ c.requires c.loop-item-test.true c.item-item.is

pub returns-then-lists_wrong : goal.returns-then-lists_wrong
returns-then-lists_wrong c =
    let l = c.loop-item in
    let stmts = c.args.tree.now.stmts in
    let has = held c.args.declared.now in
    let e = at_is c.args.items.now l.item-index _ c.loop-item-test.true c.item-item.is in
    let rest = any_item_wrong has (items_of stmts (drop (l.item-index + 1) c.args.items.now)) in
    sym (l.invariant ∙ wrong_at stmts c.args.items.now l.item-index _ e has
    ∙ ap (λ b. (b || any_clashes (item_scopes (item_of stmts c.item-item.result))) || rest) (sym (c.lists_wrong.ensures stmts) ∙ c.if-lists_wrong.true))

pub returns-then-clashing : goal.returns-then-clashing
returns-then-clashing c =
    let l = c.loop-item in
    let stmts = c.args.tree.now.stmts in
    let has = held c.args.declared.now in
    let e = at_is c.args.items.now l.item-index _ c.loop-item-test.true c.item-item.is in
    let rest = any_item_wrong has (items_of stmts (drop (l.item-index + 1) c.args.items.now)) in
    let listed = sym (c.lists_wrong.ensures stmts) ∙ c.if-lists_wrong.false in
    let scoped = sym c.in_ok-clashing.ensures ∙ c.if-clashing.true in
    sym (l.invariant ∙ wrong_at stmts c.args.items.now l.item-index _ e has ∙ (λ k. (listed k || scoped k) || rest))

pub loop-item-preserved : goal.loop-item-preserved
loop-item-preserved c =
    let l = c.loop-item in
    let stmts = c.args.tree.now.stmts in
    let has = held c.args.declared.now in
    let e = at_is c.args.items.now l.item-index _ c.loop-item-test.true c.item-item.is in
    let rest = any_item_wrong has (items_of stmts (drop (l.item-index + 1) c.args.items.now)) in
    let listed = sym (c.lists_wrong.ensures stmts) ∙ c.if-lists_wrong.false in
    let scoped = sym c.in_ok-clashing.ensures ∙ c.if-clashing.false in
    l.invariant ∙ wrong_at stmts c.args.items.now l.item-index _ e has ∙ (λ k. (listed k || scoped k) || rest)

pub returns : goal.returns
returns c =
    let l = c.loop-item in
    sym (l.invariant ∙ wrong_past _ c.args.items.now l.item-index (past c.args.items.now l.item-index c.loop-item-test.false) (held c.args.declared.now))
