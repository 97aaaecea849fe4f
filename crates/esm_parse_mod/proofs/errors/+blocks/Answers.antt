use Rattle.std.proofs.Common.{◌≡◌, ◌<◌, ◌∙◌, ◌+◌, arith, ◌||◌, ◌++◌, [], ◌∷◌, drop, get_or, sym, ap, subst}
use Rattle.esm_tree.specs.Flat.{stmt_parts}
use Rattle.esm_tree.specs.declared.node.StmtId.{StmtId}
use Rattle.esm_tree.specs.declared.node.Branches.{Branches}
use Rattle.esm_tree.specs.declared.node.Attempt.{Attempt}
use Rattle.esm_tree.specs.declared.node.NamedAttempt.{NamedAttempt}
use Rattle.esm_grammar.specs.EarlyErrors.{has_repeat, block_names, stmts_scopes, stmt_scopes, scopes_of}
use Rattle.std.specs.Result.{IfOk}
use Rattle.esm_parse_mod.specs.Inner.Names.{texts, given, any_clashes}
use Rattle.esm_parse_mod.proofs.OutcomeLemmas.{stmts_below}
use Rattle.esm_parse_mod.proofs.NamesLemmas.{at_is, past, get_or_any, below_at}
use Rattle.esm_parse_mod.proofs.SeenLemmas.{clash_here, clashes_next, clashes_none, clashes_both, other_scopes}
use Rattle.esm_parse_mod.proofs.errors.+blocks.Goals as goal

pub block_errs-add_all-requires : goal.block_errs-add_all-requires
block_errs-add_all-requires t c = stmts_below _ _ c.args.ids.now c.requires.bound c.requires.below

pub block_errs-returns-then-repeated : goal.block_errs-returns-then-repeated
block_errs-returns-then-repeated t c =
    let ss = stmt_parts c.args.tree.now.stmts c.args.ids.now in
    let k : texts c.deref.result.now ≡ given c.args.with ++ block_names ss = ap texts c.deref.ensures.value ∙ c.in_ok-add_all.ensures ∙ ap (λ t. t ++ block_names ss) c.in_ok-names.ensures in
    sym (clash_here (given c.args.with) ss ∙ ap (λ b. b || any_clashes (stmts_scopes ss)) (ap has_repeat (sym k) ∙ sym c.in_ok-repeated.ensures ∙ c.if-repeated.true))

pub block_errs-stmt_errs-requires : goal.block_errs-stmt_errs-requires
block_errs-stmt_errs-requires t c =
    let i = c.loop-id.id-index in
    let ids = c.args.ids.now in
    let d : StmtId = record { 0 = 0 } in
    let id = get_or ids i d in
    let lt : id.0 < c.args.below = below_at c.args.below ids i id c.requires.below c.loop-id-test.true (get_or_any ids i d id c.loop-id-test.true) in
    (omega (arith, lt), omega (arith, lt, c.requires.bound))

pub block_errs-returns-then-clashing : goal.block_errs-returns-then-clashing
block_errs-returns-then-clashing t c =
    let ss = stmt_parts c.args.tree.now.stmts c.args.ids.now in
    let k : texts c.deref.result.now ≡ given c.args.with ++ block_names ss = ap texts c.deref.ensures.value ∙ c.in_ok-add_all.ensures ∙ ap (λ t. t ++ block_names ss) c.in_ok-names.ensures in
    let base = clash_here (given c.args.with) ss ∙ ap (λ b. b || any_clashes (stmts_scopes ss)) (ap has_repeat (sym k) ∙ sym c.in_ok-repeated.ensures ∙ c.if-repeated.false) in
    let l = c.loop-id in
    let ids = c.args.ids.now in
    let d : StmtId = record { 0 = 0 } in
    let id = get_or ids l.id-index d in
    let e = at_is ids l.id-index id c.loop-id-test.true (get_or_any ids l.id-index d id c.loop-id-test.true) in
    sym (base ∙ l.invariant ∙ clashes_next _ ids l.id-index id e ∙ ap (λ b. b || any_clashes (stmts_scopes (stmt_parts c.args.tree.now.stmts (drop (l.id-index + 1) ids)))) (sym c.in_ok-clashing.ensures ∙ c.if-clashing.true))

pub block_errs-loop-id-preserved : goal.block_errs-loop-id-preserved
block_errs-loop-id-preserved t c =
    let l = c.loop-id in
    let ids = c.args.ids.now in
    let d : StmtId = record { 0 = 0 } in
    let id = get_or ids l.id-index d in
    let e = at_is ids l.id-index id c.loop-id-test.true (get_or_any ids l.id-index d id c.loop-id-test.true) in
    l.invariant ∙ clashes_next _ ids l.id-index id e ∙ ap (λ b. b || any_clashes (stmts_scopes (stmt_parts c.args.tree.now.stmts (drop (l.id-index + 1) ids)))) (sym c.in_ok-clashing.ensures ∙ c.if-clashing.false)

pub block_errs-returns : goal.block_errs-returns
block_errs-returns t c =
    let ss = stmt_parts c.args.tree.now.stmts c.args.ids.now in
    let k : texts c.deref.result.now ≡ given c.args.with ++ block_names ss = ap texts c.deref.ensures.value ∙ c.in_ok-add_all.ensures ∙ ap (λ t. t ++ block_names ss) c.in_ok-names.ensures in
    let base = clash_here (given c.args.with) ss ∙ ap (λ b. b || any_clashes (stmts_scopes ss)) (ap has_repeat (sym k) ∙ sym c.in_ok-repeated.ensures ∙ c.if-repeated.false) in
    let l = c.loop-id in
    let ids = c.args.ids.now in
    sym (base ∙ l.invariant ∙ clashes_none _ ids l.id-index (past ids l.id-index c.loop-id-test.false))

pub blocks_err-returns-then-clashing : goal.blocks_err-returns-then-clashing
blocks_err-returns-then-clashing t c =
    let a = scopes_of [] (stmt_parts c.args.tree.now.stmts c.args.ids.now) in
    let b = scopes_of (given c.args.with) (stmt_parts c.args.tree.now.stmts c.args.others.now) in
    sym (clashes_both a b ∙ ap (λ x. x || any_clashes b) (sym c.in_ok-clashing.ensures ∙ c.if-clashing.true))

pub blocks_err-returns : goal.blocks_err-returns
blocks_err-returns t c =
    let a = scopes_of [] (stmt_parts c.args.tree.now.stmts c.args.ids.now) in
    let b = scopes_of (given c.args.with) (stmt_parts c.args.tree.now.stmts c.args.others.now) in
    let e = clashes_both a b ∙ ap (λ x. x || any_clashes b) (sym c.in_ok-clashing.ensures ∙ c.if-clashing.false) in
    subst (λ t. IfOk c.block_errs-2.result (λ x. x ≡ t)) (sym e) c.block_errs-2.ensures

pub stmt_errs-returns-in-Block : goal.stmt_errs-returns-in-Block
unfolding stmt_scopes scopes_of
stmt_errs-returns-in-Block t c =
    let done = c.args.tree.now.stmts in
    let e = ap (λ s. any_clashes (stmt_scopes s)) c.stmt.ensures.node ∙ rw c.in-Block.is (ap (λ is. any_clashes (scopes_of [] (stmt_parts done is))) (sym c.deref.ensures.value)) in
    subst (λ t. IfOk c.block_errs.result (λ b. b ≡ t)) (sym e) c.block_errs.ensures

pub stmt_errs-returns-in-If : goal.stmt_errs-returns-in-If
unfolding stmt_scopes scopes_of
stmt_errs-returns-in-If t c =
    let done = c.args.tree.now.stmts in
    let e = ap (λ s. any_clashes (stmt_scopes s)) c.stmt.ensures.node ∙ rw c.in-If.is (ap (λ is. any_clashes (scopes_of [] (stmt_parts done is))) (sym c.deref-in-If.ensures.value)) in
    subst (λ t. IfOk c.block_errs-in-If.result (λ b. b ≡ t)) (sym e) c.block_errs-in-If.ensures

pub stmt_errs-returns-in-IfElse : goal.stmt_errs-returns-in-IfElse
unfolding stmt_scopes scopes_of
stmt_errs-returns-in-IfElse t c =
    let done = c.args.tree.now.stmts in
    let body = c.deref-in-IfElse-2.ensures.value ∙ ap (λ (p : Branches). p.body.items) c.deref-in-IfElse.ensures in
    let others = c.deref-in-IfElse-4.ensures.value ∙ ap (λ (p : Branches). p.others.items) c.deref-in-IfElse-3.ensures in
    let e = ap (λ s. any_clashes (stmt_scopes s)) c.stmt.ensures.node ∙ rw c.in-IfElse.is (λ i. any_clashes (scopes_of [] (stmt_parts done (sym body i)) ++ scopes_of [] (stmt_parts done (sym others i)))) in
    subst (λ t. IfOk c.blocks_err.result (λ b. b ≡ t)) (sym e) c.blocks_err.ensures

pub stmt_errs-returns-in-Try : goal.stmt_errs-returns-in-Try
unfolding stmt_scopes scopes_of
stmt_errs-returns-in-Try t c =
    let done = c.args.tree.now.stmts in
    let body = c.deref-in-Try-2.ensures.value ∙ ap (λ (p : Attempt). p.body.items) c.deref-in-Try.ensures in
    let others = c.deref-in-Try-4.ensures.value ∙ ap (λ (p : Attempt). p.handler.items) c.deref-in-Try-3.ensures in
    let e = ap (λ s. any_clashes (stmt_scopes s)) c.stmt.ensures.node ∙ rw c.in-Try.is (λ i. any_clashes (scopes_of [] (stmt_parts done (sym body i)) ++ scopes_of [] (stmt_parts done (sym others i)))) in
    subst (λ t. IfOk c.blocks_err-in-Try.result (λ b. b ≡ t)) (sym e) c.blocks_err-in-Try.ensures

pub stmt_errs-returns-in-TryCatch : goal.stmt_errs-returns-in-TryCatch
unfolding stmt_scopes scopes_of
stmt_errs-returns-in-TryCatch t c =
    let done = c.args.tree.now.stmts in
    let body = c.deref-in-TryCatch-2.ensures.value ∙ ap (λ (p : NamedAttempt). p.body.items) c.deref-in-TryCatch.ensures in
    let others = c.deref-in-TryCatch-5.ensures.value ∙ ap (λ (p : NamedAttempt). p.handler.items) c.deref-in-TryCatch-4.ensures in
    let name = c.as_str.ensures.value ∙ ap (λ (p : NamedAttempt). p.name) c.deref-in-TryCatch-3.ensures in
    let e = ap (λ s. any_clashes (stmt_scopes s)) c.stmt.ensures.node ∙ rw c.in-TryCatch.is (λ i. any_clashes (scopes_of [] (stmt_parts done (sym body i)) ++ scopes_of (sym name i ∷ []) (stmt_parts done (sym others i)))) in
    subst (λ t. IfOk c.blocks_err-in-TryCatch.result (λ b. b ≡ t)) (sym e) c.blocks_err-in-TryCatch.ensures

pub stmt_errs-returns-in_default : goal.stmt_errs-returns-in_default
unfolding any_clashes
stmt_errs-returns-in_default t c =
    let d = c.in_default in
    sym (ap (λ s. any_clashes (stmt_scopes s)) c.stmt.ensures.node ∙ ap any_clashes (other_scopes _ _ _ d.not-Block d.not-If d.not-IfElse d.not-Try d.not-TryCatch))
